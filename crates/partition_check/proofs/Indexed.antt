-- An index of which a check refuses nothing is that of the partitions, and nothing of that one is refused.
use Rattle.std.proofs.Common.{◌≡◌, ◌≢◌, ◌∙◌, ℕ, ◌+◌, Bool, true, List, [], ◌∷◌, ◌++◌, length, map, take, Option, None, Some, Result, Ok, Err, refl, sym, ap, subst, arith, append_assoc}
use Rattle.std.proofs.lemmas.Bool.Decides.{nat_tests}
use Rattle.std.specs.Prelude.{◌<◌, ℤ, negsuc, nat_lt, suc}
use Rattle.std.specs.declared.cmp.Ordering.TheVariants.{Less}
use Rattle.outside.specs.declared.store.Part.TheVariants.{Partitions}
use Rattle.key_types.specs.Columns.{Columns}
use Rattle.key_types.specs.Kinds.{Kinds}
use Rattle.key_types.specs.Table.{string_cmp}
use Rattle.key_decode.specs.Strings.{IsStringOf}
use Rattle.byte_order.specs.Laws.{DiffersFrom}
use Rattle.byte_order.specs.Strings.{AreAscending, Differ, IsUniqueLength, first_of, last_of, unique_size}
use Rattle.byte_order.proofs.Among.{unique_among_all}
use Rattle.byte_order.proofs.Sizes.{unique_once, unique_size_is}
use Rattle.bti_nodes.specs.Payloads.{signed_number}
use Rattle.bti_nodes.specs.Trie.{Path}
use Rattle.bti_reader.specs.Walks.{Given, next_in}
use Rattle.bti_reader.proofs.Whole.{walk_is_whole}
use Rattle.data_file.specs.Listing.{Partition, partition_bytes}
use Rattle.partition_index.proofs.Index.{differ as differ_apart, differs_before, some_string}
use Rattle.row_index.specs.Entries.{Block, BlockList}
use Rattle.table_files.specs.Blocks.{blocks_of}
use Rattle.table_files.specs.Indexes.{placed, placed_at, placed_from}
use Rattle.table_files.specs.Standing.{StringsAscend}
use Rattle.table_files.proofs.Strings.{apart_below, string_some}
use Rattle.data_walk.specs.declared.data_walk.PartitionSum.{PartitionSum}
use Rattle.data_walk.specs.declared.refusal.Refusal.{Refusal}
use Rattle.data_walk.specs.Ahead.{IsSumOf, PartitionsAhead, StepsOver}
use Rattle.data_walk.specs.DataWalk.{FindsPartition, Place, place_at}
use Rattle.data_walk.specs.Refusals.{IsFault}
use Rattle.data_walk.proofs.Finding.{all_are_found, listed_are_ahead}
use Rattle.partition_check.specs.declared.data.Found.{Found}
use Rattle.partition_check.specs.Found.{ListsTable}
use Rattle.partition_check.specs.Partitions.{ArePartitionPaths, CheckedIsIndex, ChecksPartitions, ChecksPath, ComparesPartitions, ComparesPath, FitsNumber, IndexIs, IndexIsChecked, IsNumberOf, IsPartitionPath, beside, FitsBy, key_behind, unique_path}
use Rattle.path_check.specs.Paths.{EndsPaths, LacksPath}
use Rattle.partition_check.proofs.Listed.{keys}

-- ---- strings of partitions

ascending : (strings : List (List ℕ)) → StringsAscend strings → AreAscending strings
ascending [] h = tt
ascending (a ∷ []) h = tt
ascending (a ∷ b ∷ strings) h = (h.0, ascending (b ∷ strings) h.1)

-- strings of which one is above the other are no prefixes of each other
pub differ : (ts : Kinds) (a b : List ℕ) → IsStringOf ts a → IsStringOf ts b → string_cmp a b ≡ Less → Differ a b
differ ts a b is_a is_b low = differ_apart a b (apart_below ts a b is_a is_b low)

last_added : (strings : List (List ℕ)) (key : List ℕ) → last_of (strings ++ key ∷ []) ≡ Some key
last_added [] key = refl
last_added (a ∷ []) key = refl
last_added (a ∷ b ∷ strings) key = last_added (b ∷ strings) key

beside_some : (key : List ℕ) → 0 < length key → beside key ≡ Some key
beside_some [] some = absurd (omega (arith, some))
beside_some (b ∷ key) some = refl

-- ---- numbers

number_of : (partition : BlockList) (blocks : List Block) (sum : PartitionSum) (z : ℤ) → sum.blocks ≡ length blocks + 1 → sum.position ≡ partition.data_at
    → FitsNumber sum z → IsNumberOf partition blocks z
number_of partition [] sum z count place f =
    subst (λ (n : ℕ). z ≡ negsuc n) place (subst (λ (n : ℕ). FitsBy (nat_lt 1 n) sum.position z) count f)
number_of partition (b ∷ bs) sum z count place f = subst (λ (t : Bool). FitsBy t sum.position z) (ap (λ (n : ℕ). nat_lt 1 n) count ∙ several (length bs)) f
  where
    several : (n : ℕ) → nat_lt 1 (suc n + 1) ≡ true
    several n = grind (arith, nat_tests)

fits_of : (partition : BlockList) (blocks : List Block) (sum : PartitionSum) (z : ℤ) → sum.blocks ≡ length blocks + 1 → sum.position ≡ partition.data_at
    → IsNumberOf partition blocks z → FitsNumber sum z
fits_of partition [] sum z count place is =
    subst (λ (n : ℕ). FitsBy (nat_lt 1 n) sum.position z) (sym count) (subst (λ (n : ℕ). z ≡ negsuc n) (sym place) is)
fits_of partition (b ∷ bs) sum z count place is = subst (λ (t : Bool). FitsBy t sum.position z) (sym (ap (λ (n : ℕ). nat_lt 1 n) count ∙ several (length bs))) is
  where
    several : (n : ℕ) → nat_lt 1 (suc n + 1) ≡ true
    several n = grind (arith, nat_tests)

module _ (columns : Columns) (entries index : List ℕ) (root : ℕ) where
  -- the length of a partition, and the strings of those placed
  abbrev long : Partition → ℕ
  long p = length (partition_bytes columns.static_value p)

  placed_strings : (at : ℕ) (ps : List Partition) → map (λ (b : BlockList). b.string) (placed_from columns.static_value at ps) ≡ keys ps
  placed_strings at [] = refl
  placed_strings at (p ∷ ps) = ap (λ (ks : List (List ℕ)). p.key ∷ ks) (placed_strings (at + long p) ps)

  -- ---- the partition in hand

  -- The walk stands behind a partition that stands at a position, some strings before it and some partitions behind it.
  record InHand (here : PartitionSum) (place : Place) (before : List ℕ) (at : ℕ) (strings : List (List ℕ)) (p : Partition) (ps : List Partition) : Type 0 where
    pub key : place.key ≡ p.key
    pub position : here.position ≡ at
    pub blocks : here.blocks ≡ length (blocks_of columns.static_value p) + 1
    pub string : IsStringOf columns.partition p.key
    pub last : beside before ≡ last_of strings
    pub differs : DiffersFrom p.key (last_of strings)
    pub ascend : AreAscending (strings ++ p.key ∷ keys ps)
    pub behind : place.at ≡ at + long p
    pub ahead : PartitionsAhead columns entries place ps

  abbrev Holds : Option PartitionSum → Place → List ℕ → ℕ → List (List ℕ) → List Partition → Type 0
  Holds None place before at strings [] = Unit {0}
  Holds None place before at strings (p ∷ ps) = ⊥
  Holds (Some here) place before at strings [] = ⊥
  Holds (Some here) place before at strings (p ∷ ps) = InHand here place before at strings p ps

  next_in_hand : (here sum : PartitionSum) (place next : Place) (before : List ℕ) (at : ℕ) (strings : List (List ℕ)) (p q : Partition) (qs : List Partition)
      → InHand here place before at strings p (q ∷ qs) → IsSumOf columns place next q sum → PartitionsAhead columns entries next qs
      → InHand sum next place.key (at + long p) (strings ++ p.key ∷ []) q qs
  next_in_hand here sum place next before at strings p q qs h is ahead =
      let some : 0 < length p.key = string_some columns.partition p.key h.string in
      let low : string_cmp p.key q.key ≡ Less = subst (λ (k : List ℕ). string_cmp k q.key ≡ Less) h.key h.ahead.above.0 in
      record {
        key = is.key;
        position = is.position ∙ h.behind;
        blocks = is.blocks;
        string = h.ahead.are.0;
        last = ap beside h.key ∙ beside_some p.key some ∙ sym (last_added strings p.key);
        differs = subst (DiffersFrom q.key) (sym (last_added strings p.key)) (differs_before p.key q.key (apart_below columns.partition p.key q.key h.string h.ahead.are.0 low));
        ascend = subst AreAscending (sym (append_assoc strings (p.key ∷ []) (q.key ∷ keys qs))) h.ascend;
        behind = is.at ∙ ap (λ (n : ℕ). n + long q) h.behind;
        ahead = ahead;
      }

  go_on : (here : PartitionSum) (behind : Option PartitionSum) (place next : Place) (before : List ℕ) (at : ℕ) (strings : List (List ℕ)) (p : Partition) (ps : List Partition)
      → InHand here place before at strings p ps → StepsOver columns entries place next (Ok behind) ps → Holds behind next place.key (at + long p) (strings ++ p.key ∷ []) ps
  go_on here None place next before at strings p [] h step = tt
  go_on here None place next before at strings p (q ∷ qs) h step = absurd step
  go_on here (Some sum) place next before at strings p [] h step = absurd step
  go_on here (Some sum) place next before at strings p (q ∷ qs) h step = next_in_hand here sum place next before at strings p q qs h step.0 step.1

  -- the string of the next partition
  next_string : (here : PartitionSum) (behind : Option PartitionSum) (place next : Place) (before : List ℕ) (at : ℕ) (strings : List (List ℕ)) (p : Partition) (ps : List Partition)
      → InHand here place before at strings p ps → StepsOver columns entries place next (Ok behind) ps → beside (key_behind behind next.key) ≡ first_of (keys ps)
  next_string here None place next before at strings p [] h step = refl
  next_string here None place next before at strings p (q ∷ qs) h step = absurd step
  next_string here (Some sum) place next before at strings p [] h step = absurd step
  next_string here (Some sum) place next before at strings p (q ∷ qs) h step = ap beside step.0.key ∙ beside_some q.key (string_some columns.partition q.key h.ahead.are.0)

  differs_behind : (here : PartitionSum) (place : Place) (before : List ℕ) (at : ℕ) (strings : List (List ℕ)) (p : Partition) (ps : List Partition)
      → InHand here place before at strings p ps → DiffersFrom p.key (first_of (keys ps))
  differs_behind here place before at strings p [] h = tt
  differs_behind here place before at strings p (q ∷ qs) h =
      differ columns.partition p.key q.key h.string h.ahead.are.0 (subst (λ (k : List ℕ). string_cmp k q.key ≡ Less) h.key h.ahead.above.0)

  -- the length of the path
  path_size : (here : PartitionSum) (behind : Option PartitionSum) (place next : Place) (before : List ℕ) (at : ℕ) (strings : List (List ℕ)) (p : Partition) (ps : List Partition)
      → InHand here place before at strings p ps → StepsOver columns entries place next (Ok behind) ps
      → IsUniqueLength p.key (strings ++ map (λ (b : BlockList). b.string) (placed_from columns.static_value (at + long p) ps))
      (unique_size (beside before) place.key (beside (key_behind behind next.key)))
  path_size here behind place next before at strings p ps h step =
      let some : p.key ≢ [] = some_string p.key (string_some columns.partition p.key h.string) in
      let front : Option (List ℕ) = last_of strings in
      let back : Option (List ℕ) = first_of (keys ps) in
      let size : unique_size (beside before) place.key (beside (key_behind behind next.key)) ≡ unique_size front p.key back =
      λ i. unique_size (h.last i) (h.key i) (next_string here behind place next before at strings p ps h step i) in
      let among = unique_among_all strings p.key (keys ps) (unique_size front p.key back) h.ascend
      (unique_size_is front p.key back some h.differs (differs_behind here place before at strings p ps h)) in
      subst (λ (n : ℕ). IsUniqueLength p.key (strings ++ map (λ (b : BlockList). b.string) (placed_from columns.static_value (at + long p) ps)) n) (sym size)
      (subst (λ (others : List (List ℕ)). IsUniqueLength p.key (strings ++ others) (unique_size front p.key back)) (sym (placed_strings (at + long p) ps)) among)

  -- ---- what is not refused

  -- a path that was compared
  record Agrees (last : Option (List ℕ)) (wanted : List ℕ) (sum : PartitionSum) (given : Option (List ℕ)) : Type 0 where
    pub found : Path
    pub next : next_in index root last ≡ Ok (Some found)
    pub given_is : given ≡ Some found.path
    pub path : found.path ≡ wanted
    pub number : FitsNumber sum (signed_number found.payload)

  compared : (path : List ℕ) (node : ℕ) (number : ℤ) (wanted : List ℕ) (sum : PartitionSum) → ComparesPath path node number wanted sum (Ok tt) → (path ≡ wanted) × FitsNumber sum number
  compared path node number wanted sum (ComparesPath.same is fits_it) = (is, fits_it)

  agrees : (last : Option (List ℕ)) (wanted : List ℕ) (sum : PartitionSum) (given : Option (List ℕ)) → ChecksPath index root last wanted sum given (Ok tt) → Agrees last wanted sum given
  agrees last wanted sum _ (ChecksPath.given found result next compares) =
      let c = compared found.path found.node (signed_number found.payload) wanted sum compares in
      record { found = found; next = next; given_is = refl; path = c.0; number = c.1 }

  no_more : (last : Option (List ℕ)) → EndsPaths Partitions index root last (Ok tt) → next_in index root last ≡ Ok None
  no_more last (EndsPaths.ends none) = none

  record PathsFor (last : Option (List ℕ)) (strings : List (List ℕ)) (at : ℕ) (ps : List Partition) : Type 0 where
    pub found : List Path
    pub given : Given index root last found
    pub are : ArePartitionPaths strings (placed_from columns.static_value at ps) found

  one_path : (here : PartitionSum) (behind : Option PartitionSum) (place next : Place) (before : List ℕ) (at : ℕ) (strings : List (List ℕ)) (p : Partition) (ps : List Partition)
      (last given : Option (List ℕ)) → InHand here place before at strings p ps → StepsOver columns entries place next (Ok behind) ps
      → Agrees last (unique_path before place.key (key_behind behind next.key)) here given
      → PathsFor given (strings ++ p.key ∷ []) (at + long p) ps → PathsFor last strings at (p ∷ ps)
  one_path here behind place next before at strings p ps last given h step a rest =
      let size : ℕ = unique_size (beside before) place.key (beside (key_behind behind next.key)) in (
      record {
        found = a.found ∷ rest.found;
        given = (a.next, subst (λ (l : Option (List ℕ)). Given index root l rest.found) a.given_is rest.given);
        are = (
          record {
            size = size;
            unique = path_size here behind place next before at strings p ps h step;
            path = a.path ∙ ap (take size) h.key;
            number = number_of (placed_at columns.static_value at p) (blocks_of columns.static_value p) here (signed_number a.found.payload) h.blocks h.position a.number;
          },
          rest.are,
        );
      })

  index_of : (before : List ℕ) (here : Option PartitionSum) (place : Place) (last : Option (List ℕ)) (at : ℕ) (strings : List (List ℕ)) (ps : List Partition)
      → Holds here place before at strings ps → ComparesPartitions columns entries index root before here place last (Ok tt) → PathsFor last strings at ps
  index_of _ _ _ _ at strings [] h (ComparesPartitions.partition before here behind place next last given result step checks on) = absurd h
  index_of _ _ _ _ at strings (p ∷ ps) h (ComparesPartitions.partition before here behind place next last given result step checks on) =
      let steps = all_are_found columns entries place next ps (Ok behind) h.ahead step in
      let rest = index_of place.key behind next given (at + long p) (strings ++ p.key ∷ []) ps (go_on here behind place next before at strings p ps h steps) on in
      one_path here behind place next before at strings p ps last given h steps (agrees last (unique_path before place.key (key_behind behind next.key)) here given checks) rest
  index_of _ _ _ _ at strings [] h (ComparesPartitions.ends before place last result none_left) = record { found = []; given = no_more last none_left; are = tt }
  index_of _ _ _ _ at strings (p ∷ ps) h (ComparesPartitions.ends before place last result none_left) = absurd h

  -- ---- what is refused

  one_answer : (last : Option (List ℕ)) (p q : Path) → next_in index root last ≡ Ok (Some p) → next_in index root last ≡ Ok (Some q) → p ≡ q
  one_answer last p q e f = let same : ◌≡◌ {A = Result (Option Path) _} (Ok (Some p)) (Ok (Some q)) = sym e ∙ f in cc

  none_lacks : (last : Option (List ℕ)) (p : Path) (e : Refusal) → next_in index root last ≡ Ok (Some p) → LacksPath Partitions index root last e → IsFault e
  none_lacks last p _ is (LacksPath.missing none) = let apart = sym is ∙ none in cc
  none_lacks last p _ is (LacksPath.damaged wrong bad) = let apart = sym is ∙ bad in cc
  none_lacks last p _ is (LacksPath.fault e fault) = fault

  ends_so : (last : Option (List ℕ)) (e : Refusal) → next_in index root last ≡ Ok None → EndsPaths Partitions index root last (Err e) → IsFault e
  ends_so last _ is (EndsPaths.more found some) = let apart = sym is ∙ some in cc
  ends_so last _ is (EndsPaths.damaged wrong bad) = let apart = sym is ∙ bad in cc
  ends_so last _ is (EndsPaths.fault e fault) = fault

  compares_so : (path : List ℕ) (node : ℕ) (number : ℤ) (wanted : List ℕ) (sum : PartitionSum) (e : Refusal) → path ≡ wanted → FitsNumber sum number
      → ComparesPath path node number wanted sum (Err e) → IsFault e
  compares_so path node number wanted sum _ is fits_it (ComparesPath.other_path other) = absurd (other is)
  compares_so path node number wanted sum _ is fits_it (ComparesPath.other_number same other) = absurd (other fits_it)

  checks_so : (last : Option (List ℕ)) (wanted : List ℕ) (sum : PartitionSum) (given : Option (List ℕ)) (p : Path) (e : Refusal) → next_in index root last ≡ Ok (Some p)
      → p.path ≡ wanted → FitsNumber sum (signed_number p.payload) → ChecksPath index root last wanted sum given (Err e) → IsFault e
  checks_so last wanted sum _ p e is path number (ChecksPath.given found result next compares) =
      let same : p ≡ found = one_answer last p found is next in
      compares_so found.path found.node (signed_number found.payload) wanted sum e (subst (λ (q : Path). q.path ≡ wanted) same path)
      (subst (λ (q : Path). FitsNumber sum (signed_number q.payload)) same number) compares
  checks_so last wanted sum given p _ is path number (ChecksPath.lacks after e lacks) = none_lacks last p e is lacks

  -- the path that is wanted is that of the partition
  path_is : (here : PartitionSum) (behind : Option PartitionSum) (place next : Place) (before : List ℕ) (at : ℕ) (strings : List (List ℕ)) (p : Partition) (ps : List Partition) (q : Path)
      → InHand here place before at strings p ps → StepsOver columns entries place next (Ok behind) ps
      → IsPartitionPath (placed_at columns.static_value at p) (strings ++ map (λ (b : BlockList). b.string) (placed_from columns.static_value (at + long p) ps)) q
      → (q.path ≡ unique_path before place.key (key_behind behind next.key)) × FitsNumber here (signed_number q.payload)
  path_is here behind place next before at strings p ps q h step is =
      let size : ℕ = unique_size (beside before) place.key (beside (key_behind behind next.key)) in
      let once : is.size ≡ size = unique_once p.key (strings ++ map (λ (b : BlockList). b.string) (placed_from columns.static_value (at + long p) ps)) is.size size is.unique
      (path_size here behind place next before at strings p ps h step) in (
        is.path ∙ ap (λ (n : ℕ). take n p.key) once ∙ ap (take size) (sym h.key),
        fits_of (placed_at columns.static_value at p) (blocks_of columns.static_value p) here (signed_number q.payload) h.blocks h.position is.number,
      )

  stays : (here : Option PartitionSum) (place : Place) (before : List ℕ) (last : Option (List ℕ)) (at : ℕ) (strings : List (List ℕ)) (ps : List Partition) (found : List Path) (e : Refusal)
      → Holds here place before at strings ps → Given index root last found → ArePartitionPaths strings (placed_from columns.static_value at ps) found
      → ComparesPartitions columns entries index root before here place last (Err e) → IsFault e
  stays _ _ _ _ at strings [] found e h given are (ComparesPartitions.partition before here behind place next last given_one result step checks on) = absurd h
  stays _ _ _ _ at strings (p ∷ ps) [] e h given are (ComparesPartitions.partition before here behind place next last given_one result step checks on) = absurd are
  stays _ _ _ _ at strings (p ∷ ps) (q ∷ found) e h given are (ComparesPartitions.partition before here behind place next last given_one result step checks on) =
      let steps = all_are_found columns entries place next ps (Ok behind) h.ahead step in
      let a = agrees last (unique_path before place.key (key_behind behind next.key)) here given_one checks in
      let same : Some q.path ≡ given_one = ap (λ (r : Path). Some r.path) (one_answer last q a.found given.0 a.next) ∙ sym a.given_is in
      stays behind next place.key given_one (at + long p) (strings ++ p.key ∷ []) ps found e (go_on here behind place next before at strings p ps h steps)
      (subst (λ (l : Option (List ℕ)). Given index root l found) same given.1) are.1 on
  stays _ _ _ _ at strings [] found _ h given are (ComparesPartitions.clashes before here behind place next last given_one e step checks) = absurd h
  stays _ _ _ _ at strings (p ∷ ps) [] _ h given are (ComparesPartitions.clashes before here behind place next last given_one e step checks) = absurd are
  stays _ _ _ _ at strings (p ∷ ps) (q ∷ found) _ h given are (ComparesPartitions.clashes before here behind place next last given_one e step checks) =
      let steps = all_are_found columns entries place next ps (Ok behind) h.ahead step in
      let is = path_is here behind place next before at strings p ps q h steps are.0 in
      checks_so last (unique_path before place.key (key_behind behind next.key)) here given_one q e given.0 is.0 is.1 checks
  stays _ _ _ _ at strings [] found _ h given are (ComparesPartitions.stops before here place next last e step) = absurd h
  stays _ _ _ _ at strings (p ∷ ps) found _ h given are (ComparesPartitions.stops before here place next last e step) = all_are_found columns entries place next ps (Err e) h.ahead step
  stays _ _ _ _ at strings [] [] e h given are (ComparesPartitions.ends before place last result none_left) = ends_so last e given none_left
  stays _ _ _ _ at strings [] (q ∷ found) e h given are (ComparesPartitions.ends before place last result none_left) = absurd are
  stays _ _ _ _ at strings (p ∷ ps) found e h given are (ComparesPartitions.ends before place last result none_left) = absurd h
  stays _ _ _ _ at strings ps found _ h given are (ComparesPartitions.fault before here place last e fault) = fault

  -- ---- the whole

  first_in_hand : (place : Place) (first : Option PartitionSum) (ps : List Partition) → PartitionsAhead columns entries (place_at 0) ps → StringsAscend (keys ps)
      → StepsOver columns entries (place_at 0) place (Ok first) ps → Holds first place [] 0 [] ps
  first_in_hand place None [] ahead ascend step = tt
  first_in_hand place None (p ∷ ps) ahead ascend step = absurd step
  first_in_hand place (Some sum) [] ahead ascend step = absurd step
  first_in_hand place (Some sum) (p ∷ ps) ahead ascend step =
      record {
        key = step.0.key;
        position = step.0.position;
        blocks = step.0.blocks;
        string = ahead.are.0;
        last = refl;
        differs = tt;
        ascend = ascending (p.key ∷ keys ps) ascend;
        behind = step.0.at;
        ahead = step.1;
      }

  first_held : (ps : List Partition) (found : Found) (place : Place) (first : Option PartitionSum) → ListsTable columns entries ps found
      → FindsPartition columns entries (place_at 0) place (Ok first) → Holds first place [] 0 [] ps
  first_held ps found place first lists step =
      let ahead = listed_are_ahead columns entries ps lists.listed lists.ascend lists.rows in
      first_in_hand place first ps ahead lists.ascend (all_are_found columns entries (place_at 0) place ps (Ok first) ahead step)

  pub checked : (ps : List Partition) (found : Found) → ListsTable columns entries ps found → ChecksPartitions columns entries index root (Ok tt) → IndexIs index root (placed columns.static_value ps)
  checked ps found lists (ChecksPartitions.whole place first result step on) =
      let all = index_of [] first place None 0 [] ps (first_held ps found place first lists step) on in
      record { found = all.found; means = (walk_is_whole index root all.found).ended all.given; are = all.are }

  pub stands : (ps : List Partition) (found : Found) (e : Refusal) → ListsTable columns entries ps found → IndexIs index root (placed columns.static_value ps)
      → ChecksPartitions columns entries index root (Err e) → IsFault e
  stands ps found e lists is (ChecksPartitions.whole place first result step on) =
      stays first place [] None 0 [] ps is.found e (first_held ps found place first lists step) ((walk_is_whole index root is.found).given is.means) is.are on
  stands ps found _ lists is (ChecksPartitions.stops place e step) =
      all_are_found columns entries (place_at 0) place ps (Err e) (listed_are_ahead columns entries ps lists.listed lists.ascend lists.rows) step
  stands ps found _ lists is (ChecksPartitions.fault e fault) = fault

pub checked_is_index : CheckedIsIndex
checked_is_index columns entries index root ps found lists checks = checked columns entries index root ps found lists checks

pub index_is_checked : IndexIsChecked
index_is_checked columns entries index root ps found e lists is checks = stands columns entries index root ps found e lists is checks
