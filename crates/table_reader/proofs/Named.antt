-- Which partition the searches of the partition index name, and which partitions lie below the string that is searched for.
use Rattle.std.proofs.Common.{◌≡◌, ◌∙◌, ℕ, ◌+◌, List, [], ◌∷◌, ◌++◌, length, take, Bool, true, false, cond, Option, None, Some, ◌⊎◌, inl, inr, arith, ap, append_assoc, length-append, refl, subst, sym}
use Rattle.std.specs.Prelude.{ℤ, find}
use Rattle.std.specs.List.{AllByRecursion}
use Rattle.std.proofs.lemmas.Cmp.{nat_list_cmp_total}
use Rattle.std.proofs.lemmas.List.{append-nil}
use Rattle.std.specs.Ordering.{ordering_reverse}
use Rattle.std.specs.declared.cmp.Ordering.{Ordering}
use Rattle.std.specs.declared.cmp.Ordering.TheVariants.{Less, Equal, Greater}
use Rattle.byte_comparable.proofs.Compare.{slice_front}
use Rattle.byte_order.specs.Strings.{IsPrefix, IsPrefixOfNone}
use Rattle.byte_order.proofs.Prefixes.{all, found}
use Rattle.byte_order.proofs.Sizes.{never_longer}
use Rattle.bti_nodes.specs.Payloads.{signed_number}
use Rattle.bti_nodes.specs.Trie.{Path}
use Rattle.bti_reader.specs.Meaning.{IsPathBefore, PathsAscend, is_above, path_above, path_begins}
use Rattle.key_types.specs.Table.{string_cmp}
use Rattle.key_types.specs.declared.schema.ValueType.{ValueType}
use Rattle.data_file.specs.Listing.{Partition, data_bytes, partition_bytes}
use Rattle.partition_index.specs.Entries.{Numbered, strings_of}
use Rattle.table_files.specs.Blocks.{blocks_of}
use Rattle.table_files.specs.IndexMeaning.{AllLead, AreIndexPaths, LeadsToEntry}
use Rattle.table_files.specs.Indexes.{placed_at, placed_from}
use Rattle.table_reader.proofs.Indexed.{alone_behind, front_begins}
use Rattle.table_reader.proofs.Lookup.{common, order_same, turned}
use Rattle.table_reader.proofs.Orders.{less_on}

-- ---- partitions and their paths

-- no partition's string begins with the path
abbrev pub BeginsNone : List ℕ → List Partition → Type 0
BeginsNone path [] = Unit {0}
BeginsNone path (p ∷ ps) = (IsPrefix path p.key → ⊥) × BeginsNone path ps

-- each partition's string begins with its path, and that of none behind it does; the path's number leads to the partition
abbrev pub HavePaths : Option ValueType → List ℕ → ℕ → List Partition → List Path → Type 0
HavePaths static rows at [] [] = Unit {0}
HavePaths static rows at [] (f ∷ fs) = ⊥
HavePaths static rows at (p ∷ ps) [] = ⊥
HavePaths static rows at (p ∷ ps) (f ∷ fs) =
    IsPrefix f.path p.key × BeginsNone f.path ps × LeadsToEntry rows (placed_at static at p) (blocks_of static p) (signed_number f.payload)
    × HavePaths static rows (at + length (partition_bytes static p)) ps fs

-- the partitions' strings lie below the key
abbrev pub AreLower : List ℕ → List Partition → Type 0
AreLower key [] = Unit {0}
AreLower key (p ∷ ps) = (string_cmp p.key key ≡ Less) × AreLower key ps

-- a partition whose path begins the key lies below it
abbrev pub BegunAreLower : List ℕ → List Partition → List Path → Type 0
BegunAreLower key [] fs = Unit {0}
BegunAreLower key (p ∷ ps) [] = Unit {0}
BegunAreLower key (p ∷ ps) (f ∷ fs) = (path_begins key f ≡ true → string_cmp p.key key ≡ Less) × BegunAreLower key ps fs

-- the partition to which a path leads; those before it lie below the key
pub record Named (static : Option ValueType) (rows key : List ℕ) (at : ℕ) (ps : List Partition) (path : Path) : Type 0 where
  pub front : List Partition
  pub p : Partition
  pub rest : List Partition
  pub parts : ps ≡ front ++ p ∷ rest
  pub leads : LeadsToEntry rows (placed_at static (at + length (data_bytes static front)) p) (blocks_of static p) (signed_number path.payload)
  pub lower : AreLower key front
  pub begins : IsPrefix path.path p.key

-- ---- strings

begins_on : (a b c : List ℕ) → IsPrefix a b → IsPrefix b c → IsPrefix a c
begins_on a b c (m, e) (n, f) = (m ++ n, f ∙ ap (λ (l : List ℕ). l ++ n) e ∙ append_assoc a m n)

-- what begins with a path below the key is below it, unless the path begins the key
lower_by : (key : List ℕ) (f : Path) (s : List ℕ) (t : Bool) → path_begins key f ≡ t → IsPrefix f.path s → string_cmp f.path key ≡ Less → (path_begins key f ≡ true → string_cmp s key ≡ Less)
    → string_cmp s key ≡ Less
lower_by key f s true e begins low fits = fits e
lower_by key f s false e (more, is) low fits =
    let less = less_on f.path key more [] low (λ begins. let yes = all f.path key begins in cc) in
    subst (λ (k : List ℕ). string_cmp s k ≡ Less) (append-nil key) (subst (λ (l : List ℕ). string_cmp l (key ++ []) ≡ Less) (sym is) less)

-- what begins with a path below another, which begins the key, is below the key, unless the first path begins it too
lower_before : (key : List ℕ) (f g : Path) (s : List ℕ) → IsPrefix f.path s → path_begins key f ≡ false → path_begins key g ≡ true → IsPathBefore f g → string_cmp s key ≡ Less
lower_before key f g s (more, is) apart begins_key before =
    let (behind, whole) = found g.path key begins_key in
    let less = less_on f.path g.path more behind before (λ begins. let begun = all f.path key (begins_on f.path g.path key begins (behind, whole)) in cc) in
    subst (λ (k : List ℕ). string_cmp s k ≡ Less) (sym whole) (subst (λ (l : List ℕ). string_cmp l (g.path ++ behind) ≡ Less) (sym is) less)

-- what begins with a path that isn't below the key is above it, unless the path begins the key
above_with : (key path more : List ℕ) → string_cmp key path ≡ Less → string_cmp key (path ++ more) ≡ Less
above_with key path [] low = subst (λ (s : List ℕ). string_cmp key s ≡ Less) (sym (append-nil path)) low
above_with key path (x ∷ more) low =
    let further : string_cmp path (path ++ x ∷ more) ≡ Less = subst (λ (s : List ℕ). string_cmp s (path ++ x ∷ more) ≡ Less) (append-nil path) (slice_front path [] (x ∷ more)) in
    nat_list_cmp_total.trans key path (path ++ x ∷ more) low further

pub above_by : (key : List ℕ) (f : Path) (s : List ℕ) → IsPrefix f.path s → path_above true key f ≡ true → (path_begins key f ≡ true → string_cmp s key ≡ Less) → string_cmp s key ≡ Greater
above_by key f s (more, is) test fits = by (string_cmp f.path key) refl test
  where
    by : (o : Ordering) → string_cmp f.path key ≡ o → is_above true o ≡ true → string_cmp s key ≡ Greater
    by Less e t = cc
    by Equal e t =
        let same : f.path ≡ key = order_same f.path key e in
        let low = fits (all f.path key ([], sym same ∙ sym (append-nil f.path))) in
        absurd (never_longer s key low (more, is ∙ ap (λ (l : List ℕ). l ++ more) same))
    by Greater e t =
        let low : string_cmp key s ≡ Less = subst (λ (l : List ℕ). string_cmp key l ≡ Less) (sym is) (above_with key f.path more (turned f.path key e)) in
        nat_list_cmp_total.antisymm s key ∙ ap ordering_reverse low

-- ---- what is found in a list

same_path : (f path : Path) → ◌≡◌ {A = Option Path} (Some f) (Some path) → f ≡ path
same_path f path e = cc

-- it is one of the list
found_by : (P : Path → Type 0) (t : Bool) (f path : Path) (rest : Option Path) → P f → cond t (Some f) rest ≡ Some path → (rest ≡ Some path → P path) → P path
found_by P true f path rest is e behind = subst P (same_path f path e) is
found_by P false f path rest is e behind = behind e

found_among : (P : Path → Type 0) (test : Path → Bool) (fs : List Path) (path : Path) → AllByRecursion P fs → find test fs ≡ Some path → P path
found_among P test [] path are e = cc
found_among P test (f ∷ fs) path are e = found_by P (test f) f path (find test fs) are.0 e (λ there. found_among P test fs path are.1 there)

-- and passes the test
passes_by : (test : Path → Bool) (t : Bool) (f path : Path) (rest : Option Path) → test f ≡ t → cond t (Some f) rest ≡ Some path → (rest ≡ Some path → test path ≡ true) → test path ≡ true
passes_by test true f path rest is e behind = subst (λ (p : Path). test p ≡ true) (same_path f path e) is
passes_by test false f path rest is e behind = behind e

pub found_passes : (test : Path → Bool) (fs : List Path) (path : Path) → find test fs ≡ Some path → test path ≡ true
found_passes test [] path e = cc
found_passes test (f ∷ fs) path e = passes_by test (test f) f path (find test fs) refl e (λ there. found_passes test fs path there)

module _ (static : Option ValueType) (rows : List ℕ) where
  -- ---- the paths of an index

  none_begins : (path : List ℕ) (at : ℕ) (ps : List Partition) (ns : List Numbered) → AllLead rows (placed_from static at ps) ns → IsPrefixOfNone path (strings_of ns) → BeginsNone path ps
  none_begins path at [] ns lead alone = tt
  none_begins path at (p ∷ ps) [] lead alone = absurd lead
  none_begins path at (p ∷ ps) (n ∷ ns) lead alone = (
    λ begins. alone.0 (subst (IsPrefix path) (sym lead.0) begins),
    none_begins path (at + length (partition_bytes static p)) ps ns lead.2 alone.1,
  )

  pub have_paths : (before : List (List ℕ)) (at : ℕ) (ps : List Partition) (ns : List Numbered) (fs : List Path) → AreIndexPaths before ns fs → AllLead rows (placed_from static at ps) ns
      → HavePaths static rows at ps fs
  have_paths before at [] [] [] are lead = tt
  have_paths before at [] [] (f ∷ fs) are lead = absurd are
  have_paths before at [] (n ∷ ns) fs are lead = absurd lead
  have_paths before at (p ∷ ps) [] fs are lead = absurd lead
  have_paths before at (p ∷ ps) (n ∷ ns) [] are lead = absurd are
  have_paths before at (p ∷ ps) (n ∷ ns) (f ∷ fs) are lead =
      let is = are.0 in
      let alone = alone_behind static rows [] (take is.size n.string) before (strings_of ns) is.unique.alone in (
        subst (IsPrefix f.path) lead.0 (subst (λ (a : List ℕ). IsPrefix a n.string) (sym is.path) (front_begins static rows [] is.size n.string)),
        none_begins f.path (at + length (partition_bytes static p)) ps ns lead.2 (subst (λ (a : List ℕ). IsPrefixOfNone a (strings_of ns)) (sym is.path) alone),
        subst (λ (z : ℤ). LeadsToEntry rows (placed_at static at p) (blocks_of static p) z) (sym is.number) lead.1,
        have_paths (before ++ n.string ∷ []) (at + length (partition_bytes static p)) ps ns fs are.1 lead.2,
      )

  module _ (key : List ℕ) where
    -- ---- the partition of a path

    named_here : (at : ℕ) (p : Partition) (ps : List Partition) (f path : Path) → f ≡ path → IsPrefix f.path p.key → LeadsToEntry rows (placed_at static at p) (blocks_of static p) (signed_number f.payload)
        → Named static rows key at (p ∷ ps) path
    named_here at p ps f path same begins leads =
        let here : at ≡ at + 0 = omega arith in
        record {
          front = [];
          p = p;
          rest = ps;
          parts = refl;
          leads = subst (λ (q : Path). LeadsToEntry rows (placed_at static (at + 0) p) (blocks_of static p) (signed_number q.payload)) same
              (subst (λ (k : ℕ). LeadsToEntry rows (placed_at static k p) (blocks_of static p) (signed_number f.payload)) here leads);
          lower = tt;
          begins = subst (λ (q : Path). IsPrefix q.path p.key) same begins;
        }

    named_on : (at : ℕ) (p : Partition) (ps : List Partition) (path : Path) → string_cmp p.key key ≡ Less → Named static rows key (at + length (partition_bytes static p)) ps path
        → Named static rows key at (p ∷ ps) path
    named_on at p ps path low n =
        let there : at + length (partition_bytes static p) + length (data_bytes static n.front) ≡ at + length (data_bytes static (p ∷ n.front)) =
        omega (arith, length-append (partition_bytes static p) (data_bytes static n.front)) in
        record {
          front = p ∷ n.front;
          p = n.p;
          rest = n.rest;
          parts = ap (λ (l : List Partition). p ∷ l) n.parts;
          leads = subst (λ (k : ℕ). LeadsToEntry rows (placed_at static k n.p) (blocks_of static n.p) (signed_number path.payload)) there n.leads;
          lower = (low, n.lower);
          begins = n.begins;
        }

    -- ---- the first path that begins the key

    -- no path behind it begins the key
    none_behind : (at : ℕ) (f : Path) (ps : List Partition) (fs : List Path) → IsPrefix f.path key → BeginsNone f.path ps → AllByRecursion (IsPathBefore f) fs → HavePaths static rows at ps fs
        → BegunAreLower key ps fs
    none_behind at f [] fs begins none before have = tt
    none_behind at f (p ∷ ps) [] begins none before have = tt
    none_behind at f (p ∷ ps) (g ∷ gs) begins none before have =
        (λ e. absurd (apart (found g.path key e)), none_behind (at + length (partition_bytes static p)) f ps gs begins none.1 before.1 have.3)
      where
        by : IsPrefix f.path g.path ⊎ IsPrefix g.path f.path → ⊥
        by (inl begun) = none.0 (begins_on f.path g.path p.key begun have.0)
        by (inr begun) = never_longer f.path g.path before.0 begun

        apart : IsPrefix g.path key → ⊥
        apart (more, e) = by (common f.path g.path begins.0 more (sym begins.1 ∙ e))

    -- a path is found, whose partition is named, and where that lies below the key each one does whose path begins it; or
    -- no path begins the key
    abbrev pub NamesExact : ℕ → List Partition → List Path → Option Path → Type 0
    NamesExact at ps fs None = BegunAreLower key ps fs
    NamesExact at ps fs (Some path) = (n : Named static rows key at ps path) × (string_cmp n.p.key key ≡ Less → BegunAreLower key ps fs)

    exact_by : (t : Bool) (at : ℕ) (p : Partition) (ps : List Partition) (f : Path) (fs : List Path) (o : Option Path) → path_begins key f ≡ t → HavePaths static rows at (p ∷ ps) (f ∷ fs)
        → PathsAscend (f ∷ fs) → cond t (Some f) (find (path_begins key) fs) ≡ o
        → ((o' : Option Path) → find (path_begins key) fs ≡ o' → NamesExact (at + length (partition_bytes static p)) ps fs o') → NamesExact at (p ∷ ps) (f ∷ fs) o
    unfolding named_on named_here
    exact_by true at p ps f fs None is have ascend e rec = cc
    exact_by true at p ps f fs (Some path) is have ascend e rec =
        let same : f ≡ path = cc in (
          named_here at p ps f path same have.0 have.2,
          λ low. (λ _. low, none_behind (at + length (partition_bytes static p)) f ps fs (found f.path key is) have.1 ascend.0 have.3),
        )
    exact_by false at p ps f fs None is have ascend e rec = (λ yes. cc, rec None e)
    exact_by false at p ps f fs (Some path) is have ascend e rec =
        let there = rec (Some path) e in
        let low = lower_before key f path p.key have.0 is (found_passes (path_begins key) fs path e) (found_among (IsPathBefore f) (path_begins key) fs path ascend.0 e) in
        (named_on at p ps path low there.0, λ less. (λ yes. cc, there.1 less))

    pub exact_names : (at : ℕ) (ps : List Partition) (fs : List Path) (o : Option Path) → HavePaths static rows at ps fs → PathsAscend fs → find (path_begins key) fs ≡ o → NamesExact at ps fs o
    exact_names at [] [] None have ascend e = tt
    exact_names at [] [] (Some path) have ascend e = cc
    exact_names at [] (f ∷ fs) o have ascend e = absurd have
    exact_names at (p ∷ ps) [] o have ascend e = absurd have
    exact_names at (p ∷ ps) (f ∷ fs) o have ascend e =
        exact_by (path_begins key f) at p ps f fs o refl have ascend e (λ o' e'. exact_names (at + length (partition_bytes static p)) ps fs o' have.3 ascend.1 e')

    -- ---- the first path that isn't below the key

    abbrev pub NamesNext : ℕ → List Partition → Option Path → Type 0
    NamesNext at ps None = AreLower key ps
    NamesNext at ps (Some path) = (n : Named static rows key at ps path) × (path_begins key path ≡ true → string_cmp n.p.key key ≡ Less)

    next_by : (c : Ordering) (at : ℕ) (p : Partition) (ps : List Partition) (f : Path) (fs : List Path) (o : Option Path) → string_cmp f.path key ≡ c → HavePaths static rows at (p ∷ ps) (f ∷ fs)
        → BegunAreLower key (p ∷ ps) (f ∷ fs) → cond (is_above true c) (Some f) (find (path_above true key) fs) ≡ o
        → ((o' : Option Path) → find (path_above true key) fs ≡ o' → NamesNext (at + length (partition_bytes static p)) ps o') → NamesNext at (p ∷ ps) o
    unfolding named_on named_here
    next_by Less at p ps f fs None is have fits e rec = (lower_by key f p.key (path_begins key f) refl have.0 is fits.0, rec None e)
    next_by Less at p ps f fs (Some path) is have fits e rec =
        let there = rec (Some path) e in (named_on at p ps path (lower_by key f p.key (path_begins key f) refl have.0 is fits.0) there.0, there.1)
    next_by Equal at p ps f fs None is have fits e rec = cc
    next_by Equal at p ps f fs (Some path) is have fits e rec =
        let same : f ≡ path = cc in (named_here at p ps f path same have.0 have.2, λ yes. fits.0 (subst (λ (q : Path). path_begins key q ≡ true) (sym same) yes))
    next_by Greater at p ps f fs None is have fits e rec = cc
    next_by Greater at p ps f fs (Some path) is have fits e rec =
        let same : f ≡ path = cc in (named_here at p ps f path same have.0 have.2, λ yes. fits.0 (subst (λ (q : Path). path_begins key q ≡ true) (sym same) yes))

    pub next_names : (at : ℕ) (ps : List Partition) (fs : List Path) (o : Option Path) → HavePaths static rows at ps fs → BegunAreLower key ps fs → find (path_above true key) fs ≡ o → NamesNext at ps o
    next_names at [] [] None have fits e = tt
    next_names at [] [] (Some path) have fits e = cc
    next_names at [] (f ∷ fs) o have fits e = absurd have
    next_names at (p ∷ ps) [] o have fits e = absurd have
    next_names at (p ∷ ps) (f ∷ fs) o have fits e =
        next_by (string_cmp f.path key) at p ps f fs o refl have fits e (λ o' e'. next_names (at + length (partition_bytes static p)) ps fs o' have.3 fits.1 e')
