-- Scans over ranges of files that stand for a map: where the search for a bound comes to, and what is left there.
use Rattle.std.proofs.Common.{◌≡◌, ◌∙◌, ◌⊎◌, ℕ, ◌+◌, ◌^◌, ◌<◌, ◌≤◌, ◌&&◌, true, cond, List, [], ◌∷◌, ◌++◌, length, drop, Option, None, Some, Result, Ok, Err, inl, inr, arith, ap, length-append, refl, subst, sym, false}
use Rattle.std.proofs.lemmas.List.{drop_all}
use Rattle.std.specs.Prelude.{ℤ, find, map, IfSome}
use Rattle.std.specs.FinMap as finite
use Rattle.std.specs.declared.cmp.Ordering.{Ordering}
use Rattle.std.specs.declared.cmp.Ordering.TheVariants.{Less, Equal, Greater}
use Rattle.bti_nodes.specs.declared.damage.Damage.{Damage}
use Rattle.bti_nodes.specs.Payloads.{signed_number, unsigned_number}
use Rattle.bti_nodes.specs.Trie.{Path, Paths, paths}
use Rattle.bti_reader.specs.Meaning.{path_above, path_begins}
use Rattle.bti_reader.proofs.Ascending.{in_order}
use Rattle.bti_reader.proofs.Finds.{searches_find}
use Rattle.key_types.specs.Columns.{Columns}
use Rattle.key_types.specs.Table.{Entry, string_cmp}
use Rattle.key_types.specs.declared.schema.ValueType.{ValueType}
use Rattle.key_decode.specs.Strings.{IsStringOf}
use Rattle.outside.specs.Files.{bytes_of}
use Rattle.length_prefix.proofs.Counts.{counted-same}
use Rattle.data_file.specs.Listing.{ArePartitions, AreRows, Partition, Row, data_bytes, head_bytes, rows_bytes, static_bytes, static_part_bytes}
use Rattle.index_files.specs.declared.footer.FooterNumbers.{FooterNumbers}
use Rattle.index_files.specs.Footers.{IsFooter}
use Rattle.index_files.specs.Reading.{partition_place}
use Rattle.partition_index.specs.Entries.{Numbered, first_string, last_string}
use Rattle.partition_index.specs.File.{behind_trie}
use Rattle.table_files.specs.Blocks.{blocks_of, rows_at}
use Rattle.table_files.specs.IndexMeaning.{AllLead, IsIndexFile, LeadsToEntry, MeansIndex}
use Rattle.table_files.specs.Indexes.{placed, placed_at, placed_from}
use Rattle.table_files.specs.Names.{data_id, partitions_id, rows_id}
use Rattle.table_files.specs.Standing.{RowsAscend, StringsAscend, entries_in}
use Rattle.table_files.specs.Walk as walks
use Rattle.table_reader.specs.declared.fault.TableFault.TheVariants as table_fault
use Rattle.table_reader.specs.declared.place.PartitionAt.{PartitionAt}
use Rattle.table_reader.specs.declared.seek.BoundString.{BoundString}
use Rattle.table_reader.specs.declared.seek.Start.{Start}
use Rattle.table_reader.specs.Gets.{LeadsTo, TableBytes, Then, bytes_in, number_of, offset_of}
use Rattle.table_reader.specs.Going.{bytes_of_partitions, is_lower}
use Rattle.table_reader.specs.Laws.{bound_bytes}
use Rattle.table_reader.specs.Left.{EntriesAscend, HasLeft, IsBound, IsPlaceIn, NamesSome, RangeScanHasRange, ScansBeginWithRange, is_not_less, is_up_to, range_of}
use Rattle.table_reader.specs.Ranges.{Scanning}
use Rattle.table_reader.specs.Scans.{begun}
use Rattle.table_reader.specs.Seeking.{BeginsAt, BeginsBlock, BeginsBy, BeginsFrom, BeginsNext, BeginsScan, BeginsWithin, HasBlock, HasHead, HasRows, Seeks, at_head}
use Rattle.table_reader.proofs.Beginning.{ascends, whole_scan}
use Rattle.table_reader.proofs.Going.{partitions_soon}
use Rattle.table_reader.proofs.InBlock.{AreBelow, AreEnough}
use Rattle.table_reader.proofs.Indexed.{HasRoot, footer_is, leads_ok, leads_sound}
use Rattle.table_reader.proofs.Leaving.{ascend_tail}
use Rattle.table_reader.proofs.Named.{AreLower, BegunAreLower, HavePaths, Named, above_by, exact_names, found_passes, have_paths, next_names}
use Rattle.table_reader.proofs.Soon.{block_soon, equal_high, greater_high, rest_high, rows_are, some_rest}
use Rattle.table_reader.proofs.Starts.{AreEntriesBelow, Begins, GoesFrom, at_none, at_partition, at_row}
use Rattle.table_reader.proofs.Whole.{IsFrom, StandsAt, are_parted, begins_part, first_long, from_root, no_blocks, part_some, same_part, stands_at}

-- ---- in a partition

module _ (t : TableBytes) (p : Partition) (base : ℕ) (s : StandsAt t.columns t.entries p base) where
  abbrev static : Option ValueType
  static = t.columns.static_value

  head_same : (at : ℕ) (key : List ℕ) → at ≡ base → HasHead t at (Ok key) → key ≡ p.key
  head_same at key here (is, (more, e)) =
      sym (counted-same p.key key (static_part_bytes static p.static_part ++ (rows_bytes p.rows ++ 0 ∷ s.tail)) more (sym s.bytes ∙ ap (λ k. drop k t.entries) (sym here) ∙ e)).0

  head_sound : (at : ℕ) (damage : Damage) → at ≡ base → HasHead t at (Err damage) → ⊥
  head_sound at damage here (is, none) =
      none p.key (s.key, (static_part_bytes static p.static_part ++ (rows_bytes p.rows ++ 0 ∷ s.tail), ap (λ k. drop k t.entries) here ∙ s.bytes))

  -- the number of the partition leads to its head
  record HeadFound (Rest : PartitionAt → List ℕ → Result (Option Start) Damage → Type 0) (found : Result (Option Start) Damage) : Type 0 where
    place : PartitionAt
    here : place.head ≡ base
    root : HasRoot t.rows (blocks_of static p) place.root
    rest : Rest place p.key found

  by_head : (Rest : PartitionAt → List ℕ → Result (Option Start) Damage → Type 0) (place : PartitionAt) (found : Result (Option Start) Damage) → place.head ≡ base
      → HasRoot t.rows (blocks_of static p) place.root → Then (HasHead t place.head) (Rest place) found → HeadFound Rest found
  by_head Rest place found here root (inl (damage, bad, e)) = absurd (head_sound place.head damage here bad)
  by_head Rest place found here root (inr (key, head, rest)) =
      record { place = place; here = here; root = root; rest = subst (λ (k : List ℕ). Rest place k found) (head_same place.head key here head) rest }

  by_number : (Rest : PartitionAt → List ℕ → Result (Option Start) Damage → Type 0) (number : ℤ) (found : Result (Option Start) Damage)
      → LeadsToEntry t.rows (placed_at static base p) (blocks_of static p) number
      → Then (LeadsTo t (partition_place number)) (λ place. Then (HasHead t place.head) (Rest place)) found → HeadFound Rest found
  by_number Rest number found leads (inl (damage, step, e)) = absurd (leads_sound t (placed_at static base p) s.key (blocks_of static p) number damage refl leads step)
  by_number Rest number found leads (inr (place, step, rest)) =
      let is = leads_ok t (placed_at static base p) s.key (blocks_of static p) number place refl leads step in
      by_head Rest place found is.0 is.1 rest

  -- a scan begins at the head
  at_head_is : (place : PartitionAt) (found : Result (Option Start) Damage) → place.head ≡ base → found ≡ Ok (at_head place) → found ≡ Ok (Some (record { at = base; partition = None }))
  at_head_is place found here e = e ∙ ap (λ (k : ℕ). Ok (Some (record { at = k; partition = None }))) here

  -- ---- the rows of the partition

  rows_there : (type : Option ValueType) (behind : ℕ) (result : Result ℕ Damage) → static ≡ type → behind ≡ base + length (head_bytes p.key) → HasRows t type behind result → result ≡ Ok (base + rows_at static p)
  rows_there None behind result e n is =
      let none : length (static_part_bytes static p.static_part) ≡ 0 = ap (λ v. length (static_part_bytes v p.static_part)) e in
      is ∙ ap Ok (n ∙ omega (arith, none, first_long t p base s))
  rows_there (Some type) behind (Ok at) e n (value, begins, is) =
      let one : value ≡ p.static_part = same_part t p base s type behind value e n begins in
      let long : length (static_bytes value) ≡ length (static_part_bytes static p.static_part) =
      ap (λ v. length (static_bytes v)) one ∙ ap (λ l. length l) (sym (part_some t p base s type e)) in
      ap Ok (omega (arith, is, n, long, first_long t p base s))
  rows_there (Some type) behind (Err damage) e n (is, none) = absurd (none p.static_part (begins_part t p base s type behind e n))

  -- the place of the block that is found
  record BlockFound (clustering : List ℕ) (result : Result ℕ Damage) : Type 0 where
    passed : List Row
    more : List Row
    parts : p.rows ≡ passed ++ more
    below : AreBelow clustering passed
    there : result ≡ Ok (base + (rows_at static p + length (rows_bytes passed)))
    start : ℕ
    inside : start ≤ rows_at static p + length (rows_bytes passed)
    enough : AreEnough clustering start (rows_at static p + length (rows_bytes passed)) more

  first_found : (clustering : List ℕ) (behind : ℕ) (result : Result ℕ Damage) → behind ≡ base + length (head_bytes p.key) → HasRows t static behind result
      → AreEnough clustering 0 (rows_at static p) p.rows → BlockFound clustering result
  first_found clustering behind result n is enough =
      let here : rows_at static p ≡ rows_at static p + length (rows_bytes []) = omega arith in
      record {
        passed = [];
        more = p.rows;
        parts = refl;
        below = tt;
        there = rows_there static behind result refl n is ∙ ap Ok (omega arith);
        start = 0;
        inside = omega arith;
        enough = subst (λ (n : ℕ). AreEnough clustering 0 n p.rows) here enough;
      }

  block_by : (clustering : List ℕ) (head behind : ℕ) (o : Option Path) (offset : Option ℕ) (result : Result ℕ Damage) → head ≡ base → behind ≡ base + length (head_bytes p.key)
      → IsFrom clustering (rows_at static p) p.rows o → Ok offset ≡ offset_of (Ok o) → HasBlock t head behind offset result → BlockFound clustering result
  block_by clustering head behind None None result here n from e is = first_found clustering behind result n is from
  block_by clustering head behind None (Some offset) result here n from e is = cc
  block_by clustering head behind (Some path) None result here n from e is = cc
  block_by clustering head behind (Some path) (Some offset) result here n (passed, more, parts, below, place, enough) e is =
      let same : offset ≡ unsigned_number path.payload = cc in
      record {
        passed = passed;
        more = more;
        parts = parts;
        below = below;
        there = is ∙ ap Ok (omega (arith, here, same, place));
        start = unsigned_number path.payload;
        inside = omega (arith, place);
        enough = subst (λ (n : ℕ). AreEnough clustering (unsigned_number path.payload) n more) place enough;
      }

  block_found : (clustering : List ℕ) (place : PartitionAt) (behind : ℕ) (root : Option ℕ) (result : Result ℕ Damage) → place.head ≡ base → behind ≡ base + length (head_bytes p.key)
      → HasRoot t.rows (blocks_of static p) root → BeginsBlock t place clustering behind root result → BlockFound clustering result
  block_found clustering place behind None result here n has is = first_found clustering behind result n is (no_blocks clustering (rows_at static p) p.rows has)
  block_found clustering place behind (Some index) result here n has (inl (damage, step, e)) =
      let from = from_root clustering t.rows (Some index) (rows_at static p) p.rows s.ascend has in
      absurd (unsound from.0 (step ∙ from.1))
    where
      unsound : (o : Option Path) → Err damage ≡ offset_of (Ok o) → ⊥
      unsound None f = cc
      unsound (Some path) f = cc
  block_found clustering place behind (Some index) result here n has (inr (offset, step, is)) =
      let from = from_root clustering t.rows (Some index) (rows_at static p) p.rows s.ascend has in
      block_by clustering place.head behind from.0 offset result here n from.2 (step ∙ from.1) is

-- ---- the search for a bound

module _ (t : TableBytes) (root : ℕ) (bound : BoundString) (is : IsStringOf t.columns.partition bound.partition) (some : NamesSome (Some bound))
    (ps : List Partition) (bytes : t.entries ≡ data_bytes t.columns.static_value ps) (are : ArePartitions t.columns ps) (ascend : RowsAscend ps)
    (fs : List Path) (means : paths t.partitions root ≡ Ok fs) (have : HavePaths t.columns.static_value t.rows 0 ps fs) (order : StringsAscend (map (λ p. p.key) ps)) where
  abbrev columns : Columns
  columns = t.columns

  abbrev key : List ℕ
  key = bound.partition

  abbrev BeginsSo : Result (Option Start) Damage → Type 0
  BeginsSo found = Begins columns t.entries (entries_in ps) bound found

  -- the partition of a path stands in Data.db, and its number leads to it
  stands : (path : Path) (n : Named columns.static_value t.rows key 0 ps path) → StandsAt columns t.entries n.p (length (data_bytes columns.static_value n.front))
  stands path n = stands_at columns t.entries n.front n.p n.rest (bytes ∙ ap (data_bytes columns.static_value) n.parts) (subst (ArePartitions columns) n.parts are) (subst RowsAscend n.parts ascend)

  leads_to : (path : Path) (n : Named columns.static_value t.rows key 0 ps path)
      → LeadsToEntry t.rows (placed_at columns.static_value (length (data_bytes columns.static_value n.front)) n.p) (blocks_of columns.static_value n.p) (signed_number path.payload)
  leads_to path n =
      let here : 0 + length (data_bytes columns.static_value n.front) ≡ length (data_bytes columns.static_value n.front) = omega arith in
      subst (λ (k : ℕ). LeadsToEntry t.rows (placed_at columns.static_value k n.p) (blocks_of columns.static_value n.p) (signed_number path.payload)) here n.leads

  begins_head : (path : Path) (n : Named columns.static_value t.rows key 0 ps path) (place : PartitionAt) (found : Result (Option Start) Damage)
      → ((within : List ℕ) → is_lower (Some bound) n.p.key within ≡ false) → place.head ≡ length (data_bytes columns.static_value n.front) → found ≡ Ok (at_head place) → BeginsSo found
  begins_head path n place found high here e =
      at_partition columns bound is t.entries ps bytes are ascend n.front n.p n.rest n.parts n.lower found high
      (at_head_is t n.p (length (data_bytes columns.static_value n.front)) (stands path n) place found here e)

  -- ---- at the next partition

  next_by : (o : Option Path) (number : Option ℤ) (found : Result (Option Start) Damage) → find (path_above true key) fs ≡ o → BegunAreLower key ps fs
      → Ok number ≡ number_of (Ok o) → BeginsAt t number found → BeginsSo found
  next_by None None found e fits same at = at_none columns bound is t.entries ps bytes are ascend found (next_names columns.static_value t.rows key 0 ps fs None have fits e) at
  next_by None (Some number) found e fits same at = cc
  next_by (Some path) None found e fits same at = cc
  next_by (Some path) (Some number) found e fits same at =
      let names = next_names columns.static_value t.rows key 0 ps fs (Some path) have fits e in
      let n = names.0 in
      let high = above_by key path n.p.key n.begins (found_passes (path_above true key) fs path e) names.1 in
      let one : number ≡ signed_number path.payload = cc in
      let base = length (data_bytes columns.static_value n.front) in
      let h = by_number t n.p base (stands path n) (λ place key found. found ≡ Ok (at_head place)) (signed_number path.payload) found (leads_to path n)
      (subst (λ (z : ℤ). BeginsAt t (Some z) found) one at) in
      begins_head path n h.place found (greater_high bound n.p.key high) h.here h.rest

  no_damage : (damage : Damage) (o : Option Path) → Err damage ≡ number_of (Ok o) → ⊥
  no_damage damage None e = cc
  no_damage damage (Some path) e = cc

  next : (found : Result (Option Start) Damage) → BegunAreLower key ps fs → BeginsNext t root key found → BeginsSo found
  next found fits (inl (damage, step, e)) =
      absurd (no_damage damage (find (path_above true key) fs) (step ∙ ap number_of (searches_find t.partitions key root fs means).ceiling))
  next found fits (inr (number, step, at)) =
      next_by (find (path_above true key) fs) number found refl fits (step ∙ ap number_of (searches_find t.partitions key root fs means).ceiling) at

  -- ---- in the bound's partition

  within_by : (path : Path) (n : Named columns.static_value t.rows key 0 ps path) (place : PartitionAt) (clustering : Option (List ℕ)) (found : Result (Option Start) Damage)
      → place.head ≡ length (data_bytes columns.static_value n.front) → HasRoot t.rows (blocks_of columns.static_value n.p) place.root → n.p.key ≡ key → bound.clustering ≡ clustering
      → BeginsWithin t place key clustering found → BeginsSo found
  within_by path n place None found here has same e begins = begins_head path n place found (equal_high bound n.p.key same e) here begins
  within_by path n place (Some clustering) found here has same e (inl (damage, step, is_bad)) =
      let base = length (data_bytes columns.static_value n.front) in
      let b = block_found t n.p base (stands path n) clustering place (place.head + length (head_bytes key)) place.root (Err damage) here
      (omega (arith, here, ap (λ (k : List ℕ). length (head_bytes k)) same)) has step in
      let apart = b.there in
      cc
  within_by path n place (Some clustering) found here has same e (inr (at, step, is_there)) =
      let base = length (data_bytes columns.static_value n.front) in
      let b = block_found t n.p base (stands path n) clustering place (place.head + length (head_bytes key)) place.root (Ok at) here
      (omega (arith, here, ap (λ (k : List ℕ). length (head_bytes k)) same)) has step in
      let there : at ≡ base + (rows_at columns.static_value n.p + length (rows_bytes b.passed)) = ok_same at (base + (rows_at columns.static_value n.p + length (rows_bytes b.passed))) b.there in
      let listed = (are_parted columns n.front (n.p ∷ n.rest) (subst (ArePartitions columns) n.parts are)).1 in
      let later = partitions_soon columns (Some bound) n.rest (rest_high bound n.front n.p n.rest (subst (λ (qs : List Partition). StringsAscend (map (λ p. p.key) qs)) n.parts order) same) listed.3
      (some_rest n.front n.p n.rest (subst RowsAscend n.parts ascend)) in
      let soon = block_soon columns bound n.p.key clustering same e b.start (bytes_of_partitions (Some bound) columns.static_value n.rest)
      (rows_at columns.static_value n.p + length (rows_bytes b.passed)) b.more
      (rows_are columns b.passed b.more (subst (AreRows columns) b.parts listed.2)) b.enough in
      at_row columns bound is t.entries ps bytes are ascend n.front n.p n.rest n.parts n.lower found clustering b.passed b.more same e
      (subst (λ (o : Option (List ℕ)). IfSome o (λ string. 0 < length string)) e some) b.parts b.below (omega (arith, soon, b.inside, later))
      (is_there ∙ (λ i. Ok (Some (record { at = there i; partition = Some (sym same i) }))))
    where
      ok_same : (a b : ℕ) → ◌≡◌ {A = Result ℕ Damage} (Ok a) (Ok b) → a ≡ b
      ok_same a b e = cc

  -- ---- by the partition whose path begins the bound's

  by_order : (path : Path) (n : Named columns.static_value t.rows key 0 ps path) (place : PartitionAt) (o : Ordering) (found : Result (Option Start) Damage)
      → (string_cmp n.p.key key ≡ Less → BegunAreLower key ps fs)
      → place.head ≡ length (data_bytes columns.static_value n.front) → HasRoot t.rows (blocks_of columns.static_value n.p) place.root → string_cmp n.p.key key ≡ o
      → BeginsBy t root bound place o found → BeginsSo found
  by_order path n place Less found fits here has e begins = next found (fits e) begins
  by_order path n place Equal found fits here has e begins =
      within_by path n place bound.clustering found here has (finite.slice_cmp-IsAntisymmetric finite.nat_cmp-IsAntisymmetric n.p.key key e) refl begins
  by_order path n place Greater found fits here has e begins = begins_head path n place found (greater_high bound n.p.key e) here begins

  from_by : (o : Option Path) (number : Option ℤ) (found : Result (Option Start) Damage) → find (path_begins key) fs ≡ o
      → Ok number ≡ number_of (Ok o) → BeginsFrom t root bound number found → BeginsSo found
  from_by None None found e same begins = next found (exact_names columns.static_value t.rows key 0 ps fs None have (in_order t.partitions root fs means).ascend e) begins
  from_by None (Some number) found e same begins = cc
  from_by (Some path) None found e same begins = cc
  from_by (Some path) (Some number) found e same begins =
      let names = exact_names columns.static_value t.rows key 0 ps fs (Some path) have (in_order t.partitions root fs means).ascend e in
      let n = names.0 in
      let one : number ≡ signed_number path.payload = cc in
      let base = length (data_bytes columns.static_value n.front) in
      let h = by_number t n.p base (stands path n) (λ place k. BeginsBy t root bound place (string_cmp k key)) (signed_number path.payload) found (leads_to path n)
      (subst (λ (z : ℤ). BeginsFrom t root bound (Some z) found) one begins) in
      by_order path n h.place (string_cmp n.p.key key) found names.1 h.here h.root refl h.rest

  pub seeks_begin : (found : Result (Option Start) Damage) → Seeks t root bound found → BeginsSo found
  seeks_begin found (inl (damage, step, e)) =
      absurd (no_damage damage (find (path_begins key) fs) (step ∙ ap number_of (searches_find t.partitions key root fs means).exact))
  seeks_begin found (inr (number, step, begins)) =
      from_by (find (path_begins key) fs) number found refl (step ∙ ap number_of (searches_find t.partitions key root fs means).exact) begins

-- ---- the footer

-- the footer counts no partition and there is none, or the trie at its root has a path for each
abbrev pub IndexIs : Option ValueType → List ℕ → List ℕ → FooterNumbers → List Partition → Type 0
IndexIs static file rows footer ps = ((footer.partitions ≡ 0) × (ps ≡ []))
    ⊎ ((0 < footer.partitions) × ((fs : List Path) × (paths file footer.root ≡ Ok fs) × HavePaths static rows 0 ps fs))

means_paths : (type : Option ValueType) (rows : List ℕ) (ps : List Partition) (ns : List Numbered) (found : Paths) → MeansIndex ns found → AllLead rows (placed_from type 0 ps) ns
    → (fs : List Path) × (found ≡ Ok fs) × HavePaths type rows 0 ps fs
means_paths type rows ps ns (Err wrong) means lead = absurd means
means_paths type rows ps ns (Ok fs) means lead = (fs, refl, have_paths type rows [] 0 ps ns fs means lead)

pub index_is : (columns : Columns) (file rows first last : List ℕ) (footer : FooterNumbers) (ps : List Partition) (ns : List Numbered) → IsIndexFile file ns
    → AllLead rows (placed columns.static_value ps) ns → IsFooter columns file first last footer → IndexIs columns.static_value file rows footer ps
index_is columns file rows first last footer [] [] index lead f =
    inl ((footer_is columns file [] [] [] first last 0 0 0 footer index f (omega arith) (omega arith)).0, refl)
index_is columns file rows first last footer (p ∷ ps) [] index lead f = absurd lead
index_is columns file rows first last footer ps (n ∷ ns) index lead f =
    let below : index.root < 2 ^ 64 =
    omega (arith, index.below, index.short, ap length index.bytes, length-append index.trie (behind_trie (first_string (n ∷ ns)) (last_string (n ∷ ns)) (length index.trie) (length (n ∷ ns)) index.root)) in
    let is = footer_is columns file index.trie (first_string (n ∷ ns)) (last_string (n ∷ ns)) first last (length index.trie) (length (n ∷ ns)) index.root footer index.bytes f index.few below in
    let there = means_paths columns.static_value rows ps (n ∷ ns) (paths file index.root) index.means lead in
    inr (omega (arith, is.0), (there.0, ap (paths file) is.1 ∙ there.1, there.2))

-- ---- all of it

-- entries below a bound aren't in its range
none_below : (bound : BoundString) (to : Option BoundString) (before left : List Entry) → AreEntriesBelow (bound_bytes bound) before → range_of (Some bound) to (before ++ left) ≡ range_of (Some bound) to left
none_below bound to [] left below = refl
none_below bound to (e ∷ before) left below =
    ap (λ (o : Ordering). cond (is_not_less o && is_up_to to e.0) (e ∷ range_of (Some bound) to (before ++ left)) (range_of (Some bound) to (before ++ left))) below.0
    ∙ none_below bound to before left below.1

-- what a scan has left that begins there
abbrev HasRange : Columns → List ℕ → List Entry → Option BoundString → Option BoundString → Result (Option Start) Damage → Type 0
HasRange columns file entries from to found = (start : Option Start) × (found ≡ Ok start) × IsPlaceIn (length file) start
    × HasLeft columns file (begun (length file) from to start) (range_of from to entries)

left_from : (columns : Columns) (file : List ℕ) (table : finite.FinMap string_cmp (List ℕ)) (bound : BoundString) (to : Option BoundString) (start : Option Start) (before left : List Entry)
    → IsBound columns (Some bound) → IsBound columns to → finite.entries table ≡ before ++ left → AreEntriesBelow (bound_bytes bound) before → GoesFrom columns file start left
    → IsPlaceIn (length file) start × HasLeft columns file (begun (length file) (Some bound) to start) (range_of (Some bound) to (finite.entries table))
left_from columns file table bound to None before left is is_to parts below none = (
  tt,
  record {
    is_open = tt;
    from = is;
    to = is_to;
    entries = [];
    walk = subst (λ (b : List ℕ). walks.Walks columns None (length file) b [] None) (sym (drop_all (length file) file (omega arith))) (walks.ends (length file));
    ascend = tt;
    range = ap (range_of (Some bound) to) parts ∙ none_below bound to before left below ∙ ap (range_of (Some bound) to) none;
  },
)
left_from columns file table bound to (Some start) before left is is_to parts below (is_open, place, walk) = (
  place,
  record {
    is_open = is_open;
    from = is;
    to = is_to;
    entries = left;
    walk = walk;
    ascend = ascend_tail before left (subst (λ (es : List Entry). EntriesAscend es) parts (ascends (finite.entries table) (finite.entries_sorted table)));
    range = ap (range_of (Some bound) to) parts ∙ none_below bound to before left below;
  },
)

from_begins : (columns : Columns) (file : List ℕ) (table : finite.FinMap string_cmp (List ℕ)) (all : List Entry) (bound : BoundString) (to : Option BoundString) (found : Result (Option Start) Damage)
    → all ≡ finite.entries table → IsBound columns (Some bound) → IsBound columns to → Begins columns file all bound found → HasRange columns file (finite.entries table) (Some bound) to found
from_begins columns file table all bound to found same is is_to b =
    let has = left_from columns file table bound to b.start b.before b.left is is_to (sym same ∙ b.parts) b.below b.goes in
    (b.start, b.is, has.0, has.1)

pub begins_by : (t : TableBytes) (footer : FooterNumbers) (bound : BoundString) (ps : List Partition) (found : Result (Option Start) Damage) → IsStringOf t.columns.partition bound.partition → NamesSome (Some bound)
    → t.entries ≡ data_bytes t.columns.static_value ps → ArePartitions t.columns ps → RowsAscend ps → StringsAscend (map (λ p. p.key) ps)
    → IndexIs t.columns.static_value t.partitions t.rows footer ps → BeginsScan t footer (Some bound) found → Begins t.columns t.entries (entries_in ps) bound found
begins_by t footer bound ps found is some bytes are ascend order (inl (none, empty)) (inl (zero, e)) =
    at_none t.columns bound is t.entries ps bytes are ascend found (subst (AreLower bound.partition) (sym empty) tt) e
begins_by t footer bound ps found is some bytes are ascend order (inl (none, empty)) (inr (positive, seeks)) = absurd (omega (arith, none, positive))
begins_by t footer bound ps found is some bytes are ascend order (inr (positive, there)) (inl (zero, e)) = absurd (omega (arith, zero, positive))
begins_by t footer bound ps found is some bytes are ascend order (inr (positive, (fs, means, have))) (inr (again, seeks)) =
    seeks_begin t footer.root bound is some ps bytes are ascend fs means have order found seeks

pub ranges_have : RangeScanHasRange
ranges_have files generation columns table footer None to found stands footer_there is some is_to begins =
    (Some (record { at = 0; partition = None }), begins, omega arith, whole_scan files generation columns table to stands is_to)
ranges_have files generation columns table footer (Some bound) to found stands (first, last, has) is some is_to begins =
    let held = stands.held in
    let index = index_is columns (bytes_of files (partitions_id generation)) (bytes_of files (rows_id generation)) first last footer held.partitions stands.indexes.numbered stands.indexes.index
    stands.indexes.entries has in
    from_begins columns (bytes_of files (data_id generation)) table (entries_in held.partitions) bound to found held.same is is_to
    (begins_by (bytes_in columns files generation) footer bound held.partitions found is some held.listed.0 held.listed.1 held.rows held.ascend index begins)

pub ok_start : (a b : Option Start) → ◌≡◌ {A = Result (Option Start) Damage} (Ok a) (Ok b) → a ≡ b
ok_start a b e = cc

pub ranges_begin : ScansBeginWithRange
ranges_begin files generation columns table footer from to (Ok scan) stands has is some is_to (start, begins, same) =
    let there = ranges_have files generation columns table footer from to (Ok start) stands has is some is_to begins in
    let one : there.0 ≡ start = ok_start there.0 start (sym there.1) in
    let file = bytes_of files (data_id generation) in
    subst (λ (s : Scanning). HasLeft columns file s (range_of from to (finite.entries table))) (ap (begun (length file) from to) one ∙ sym same) there.3
ranges_begin files generation columns table footer from to (Err (table_fault.Damaged damage)) stands has is some is_to (inl begins) =
    let there = ranges_have files generation columns table footer from to (Err damage) stands has is some is_to begins in
    let apart = there.1 in
    cc
ranges_begin files generation columns table footer from to (Err (table_fault.Damaged damage)) stands has is some is_to (inr (start, begins, behind, e)) =
    let there = ranges_have files generation columns table footer from to (Ok (Some start)) stands has is some is_to begins in
    let one : there.0 ≡ Some start = ok_start there.0 (Some start) (sym there.1) in
    let place : start.at ≤ length (bytes_of files (data_id generation)) = subst (IsPlaceIn (length (bytes_of files (data_id generation)))) one there.2 in
    absurd (omega (arith, place, behind))
ranges_begin files generation columns table footer from to (Err table_fault.Unfinished) stands has is some is_to begins = begins
ranges_begin files generation columns table footer from to (Err table_fault.StoreFault) stands has is some is_to begins = tt
ranges_begin files generation columns table footer from to (Err table_fault.NoMemory) stands has is some is_to begins = tt
