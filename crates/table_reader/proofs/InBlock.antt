-- What the search in a block finds of a partition's rows, and which block the row index names.
use Rattle.std.proofs.Common.{◌≡◌, ◌⊎◌, ◌∙◌, ℕ, zero, suc, ◌+◌, ◌<◌, ◌≤◌, List, [], ◌∷◌, ◌++◌, length, take, Bool, true, false, Option, None, Some, Result, Ok, Err, inl, inr, arith, ap, append_assoc, length-append, refl, subst, sym}
use Rattle.std.specs.Prelude.{if◌then◌else◌}
use Rattle.std.proofs.lemmas.Bool.{lt-leb, le-leb}
use Rattle.std.proofs.lemmas.Cmp.{nat_list_cmp_total}
use Rattle.std.specs.Ordering.{nat_cmp}
use Rattle.std.specs.declared.cmp.Ordering.{Ordering}
use Rattle.std.specs.declared.cmp.Ordering.TheVariants.{Less, Equal, Greater}
use Rattle.byte_order.proofs.Shared.{itself, rest_decides}
use Rattle.bti_nodes.specs.declared.damage.Damage.{Damage}
use Rattle.bti_nodes.specs.Payloads.{unsigned_number}
use Rattle.bti_nodes.specs.Trie.{Path}
use Rattle.bti_reader.specs.Meaning.{find_last, is_below, or_path, path_below}
use Rattle.key_types.specs.Columns.{Columns}
use Rattle.key_types.specs.Table.{string_cmp}
use Rattle.data_file.specs.Listing.{AreRows, Row, row_bytes, rows_bytes}
use Rattle.data_file.proofs.Unique.{row_front}
use Rattle.row_index.specs.Entries.{Block}
use Rattle.row_index.specs.Writing.{block_of}
use Rattle.table_files.specs.Blocks.{blocks_behind, ends_block}
use Rattle.table_files.specs.IndexMeaning.{AreBlockPaths, IsBlockPath}
use Rattle.table_files.specs.Standing.{StringsAscend}
use Rattle.table_files.proofs.Blocked.{clusterings}
use Rattle.table_reader.specs.Rows.{ArePassed, FindsRow, Meets}
use Rattle.table_reader.proofs.Lookup.{less_apart, order_same, row_here, row_of, row_passed, turned}

-- ---- rows above a key, and below it

abbrev pub AreBelow : List ℕ → List Row → Type 0
AreBelow key [] = Unit {0}
AreBelow key (row ∷ rows) = (string_cmp row.clustering key ≡ Less) × AreBelow key rows

-- each block's first row lies above the key
abbrev pub FirstsAbove : List ℕ → List Block → Type 0
FirstsAbove key [] = Unit {0}
FirstsAbove key (block ∷ blocks) = (string_cmp key block.first ≡ Less) × FirstsAbove key blocks

pub below_passed : (key : List ℕ) (front rest : List Row) → AreBelow key front → row_of key (front ++ rest) ≡ row_of key rest
below_passed key [] rest below = refl
below_passed key (row ∷ front) rest below =
    row_passed key row (front ++ rest) (λ e. less_apart row.clustering key below.0 (sym e)) ∙ below_passed key front rest below.1

above_none : (key : List ℕ) (row : Row) (rows : List Row) → StringsAscend (clusterings (row ∷ rows)) → string_cmp key row.clustering ≡ Less → row_of key (row ∷ rows) ≡ None
above_none key row [] ascend low = row_passed key row [] (less_apart key row.clustering low)
above_none key row (next ∷ rows) ascend low =
    row_passed key row (next ∷ rows) (less_apart key row.clustering low)
    ∙ above_none key next rows ascend.1 (nat_list_cmp_total.trans key row.clustering next.clustering low ascend.0)

tail_ascends : (row : Row) (rows : List Row) → StringsAscend (clusterings (row ∷ rows)) → StringsAscend (clusterings rows)
tail_ascends row [] ascend = tt
tail_ascends row (next ∷ rows) ascend = ascend.1

-- ---- the rows of a block

-- the blocks behind the one that begins at `start`, of rows that stand from `at` on, begin above the key
abbrev pub AreEnough : List ℕ → ℕ → ℕ → List Row → Type 0
AreEnough key start at [] = Unit {0}
AreEnough key start at (row ∷ rows) = FirstsAbove key (blocks_behind start row.clustering (at + length (row_bytes row.clustering row.value)) rows)

module _ (columns : Columns) (key : List ℕ) (base start limit : ℕ) (tail : List ℕ) (where_ : limit ≡ base + start + 16384) where
  abbrev Finds : ℕ → List Row → List Row → List ℕ → Result (Option (List ℕ)) Damage → Type 0
  Finds at rows passed rest found =
      AreRows columns rows → StringsAscend (clusterings rows) → AreEnough key start at rows → ArePassed columns key limit (base + at) passed
      → rows_bytes rows ++ 0 ∷ tail ≡ rows_bytes passed ++ rest → Meets columns key limit ((base + at) + length (rows_bytes passed)) rest found → found ≡ Ok (row_of key rows)

  -- a row and more behind it
  grouped : (row : Row) (rows : List Row) (more : List ℕ) → rows_bytes (row ∷ rows) ++ more ≡ row_bytes row.clustering row.value ++ (rows_bytes rows ++ more)
  grouped row rows more = append_assoc (row_bytes row.clustering row.value) (rows_bytes rows) more

  -- nothing is left of the partition
  at_end : (rest : List ℕ) (place : ℕ) (found : Result (Option (List ℕ)) Damage) → 0 ∷ tail ≡ rest → Meets columns key limit place rest found → found ≡ Ok None
  at_end rest place (Ok (Some value)) e ((is, (more, f))) = let apart = e ∙ f in cc
  at_end rest place (Ok None) e met = refl
  at_end rest place (Err damage) e (is, (none, no_end)) = absurd (no_end (tail, sym e))

  -- a row behind the last of the block lies above the key
  last_of_block : (at : ℕ) (row : Row) (rows : List Row) → StringsAscend (clusterings (row ∷ rows)) → AreEnough key start at (row ∷ rows)
      → string_cmp row.clustering key ≡ Less → limit ≤ base + at + length (row_bytes row.clustering row.value) → row_of key (row ∷ rows) ≡ None
  last_of_block at row [] ascend enough low last = row_passed key row [] (λ e. less_apart row.clustering key low (sym e))
  last_of_block at row (next ∷ rows) ascend enough low last =
      let end_ = at + length (row_bytes row.clustering row.value) in
      let full : ends_block start end_ ≡ true = le-leb (start + 16384) end_ (omega (arith, last, where_)) in
      let first : FirstsAbove key ((if true then block_of row.clustering next.clustering end_ ∷ [] else [])
      ++ blocks_behind (if true then end_ else start) next.clustering (end_ + length (row_bytes next.clustering next.value)) rows) =
      subst (λ (t : Bool). FirstsAbove key ((if t then block_of row.clustering next.clustering end_ ∷ [] else []) ++ blocks_behind (if t then end_ else start) next.clustering
      (end_ + length (row_bytes next.clustering next.value)) rows)) full enough in
      row_passed key row (next ∷ rows) (λ e. less_apart row.clustering key low (sym e)) ∙ above_none key next rows (tail_ascends row (next ∷ rows) ascend) first.0

  -- a row stands there
  at_row : (at : ℕ) (row : Row) (rows : List Row) (rest : List ℕ) (found : Result (Option (List ℕ)) Damage) → AreRows columns (row ∷ rows) → StringsAscend (clusterings (row ∷ rows))
      → AreEnough key start at (row ∷ rows) → rows_bytes (row ∷ rows) ++ 0 ∷ tail ≡ rest → Meets columns key limit (base + at) rest found → found ≡ Ok (row_of key (row ∷ rows))
  at_row at row rows rest (Ok (Some value)) are ascend enough e ((is, (more, f))) =
      let same = row_front row.clustering row.value (rows_bytes rows ++ 0 ∷ tail) key value more (sym (grouped row rows (0 ∷ tail)) ∙ e ∙ f) in
      ap (λ v. Ok (Some v)) (sym same.1) ∙ ap Ok (sym (row_here key row rows (sym same.0)))
  at_row at row rows rest (Ok None) are ascend enough e (inl above) =
      let same = row_front row.clustering row.value (rows_bytes rows ++ 0 ∷ tail) above.clustering above.value above.row.1.0 (sym (grouped row rows (0 ∷ tail)) ∙ e ∙ above.row.1.1) in
      let high : string_cmp row.clustering key ≡ Greater = subst (λ (c : List ℕ). string_cmp c key ≡ Greater) (sym same.0) above.above in
      ap Ok (sym (above_none key row rows ascend (turned row.clustering key high)))
  at_row at row rows rest (Ok None) are ascend enough e (inr (inl (more, f))) = let apart : row_bytes row.clustering row.value ++ (rows_bytes rows ++ 0 ∷ tail) ≡ 0 ∷ more = sym (grouped row rows (0 ∷ tail)) ∙ e ∙ f in cc
  at_row at row rows rest (Ok None) are ascend enough e (inr (inr last)) =
      let same = row_front row.clustering row.value (rows_bytes rows ++ 0 ∷ tail) last.clustering last.value last.row.1.0 (sym (grouped row rows (0 ∷ tail)) ∙ e ∙ last.row.1.1) in
      let low : string_cmp row.clustering key ≡ Less = subst (λ (c : List ℕ). string_cmp c key ≡ Less) (sym same.0) last.below in
      let long : length (row_bytes last.clustering last.value) ≡ length (row_bytes row.clustering row.value) = λ i. length (row_bytes (sym same.0 i) (sym same.1 i)) in
      ap Ok (sym (last_of_block at row rows ascend enough low (omega (arith, last.last, long))))
  at_row at row rows rest (Err damage) are ascend enough e (is, (none, no_end)) =
      absurd (none row.clustering row.value (are.0, (rows_bytes rows ++ 0 ∷ tail, sym e ∙ grouped row rows (0 ∷ tail))))

  -- the blocks behind a row that doesn't end its block
  pub enough_behind : (at : ℕ) (row : Row) (rows : List Row) → AreEnough key start at (row ∷ rows) → base + at + length (row_bytes row.clustering row.value) < limit
      → AreEnough key start (at + length (row_bytes row.clustering row.value)) rows
  enough_behind at row [] enough inside = tt
  enough_behind at row (next ∷ rows) enough inside =
      let end_ = at + length (row_bytes row.clustering row.value) in
      let open_block : ends_block start end_ ≡ false = lt-leb (start + 16384) end_ (omega (arith, inside, where_)) in
      subst (λ (t : Bool). FirstsAbove key ((if t then block_of row.clustering next.clustering end_ ∷ [] else []) ++ blocks_behind (if t then end_ else start) next.clustering
      (end_ + length (row_bytes next.clustering next.value)) rows)) open_block enough

  pub finds_row : (at : ℕ) (rows passed : List Row) (rest : List ℕ) (found : Result (Option (List ℕ)) Damage) → Finds at rows passed rest found
  finds_row at [] [] rest found are ascend enough passed e met = at_end rest _ found e met
  finds_row at (row ∷ rows) [] rest found are ascend enough passed e met =
      let here : base + at + 0 ≡ base + at = omega arith in
      at_row at row rows rest found are ascend enough e (subst (λ (n : ℕ). Meets columns key limit n rest found) here met)
  finds_row at [] (q ∷ qs) rest found are ascend enough passed e met = let apart : 0 ∷ tail ≡ row_bytes q.clustering q.value ++ (rows_bytes qs ++ rest) = e ∙ grouped q qs rest in cc
  finds_row at (row ∷ rows) (q ∷ qs) rest found are ascend enough (is, low, inside, passed) e met =
      let same = row_front row.clustering row.value (rows_bytes rows ++ 0 ∷ tail) q.clustering q.value (rows_bytes qs ++ rest) (sym (grouped row rows (0 ∷ tail)) ∙ e ∙ grouped q qs rest) in
      let size = length (row_bytes row.clustering row.value) in
      let long : length (row_bytes q.clustering q.value) ≡ size = λ i. length (row_bytes (sym same.0 i) (sym same.1 i)) in
      let there : base + at + length (row_bytes q.clustering q.value) ≡ base + (at + size) = omega (arith, long) in
      let far : base + at + length (row_bytes q.clustering q.value ++ rows_bytes qs) ≡ base + (at + size) + length (rows_bytes qs) =
      omega (arith, there, length-append (row_bytes q.clustering q.value) (rows_bytes qs)) in
      let below : string_cmp row.clustering key ≡ Less = subst (λ (c : List ℕ). string_cmp c key ≡ Less) (sym same.0) low in
      finds_row (at + size) rows qs rest found are.1 (tail_ascends row rows ascend) (enough_behind at row rows enough (omega (arith, inside, long)))
      (subst (λ (n : ℕ). ArePassed columns key limit n qs) there passed) same.2 (subst (λ (n : ℕ). Meets columns key limit n rest found) far met)
      ∙ ap Ok (sym (row_passed key row rows (λ s. less_apart row.clustering key below (sym s))))

  -- what the search finds from the first row of a block on
  pub block_finds : (at : ℕ) (rows : List Row) (bytes : List ℕ) (found : Result (Option (List ℕ)) Damage) → AreRows columns rows → StringsAscend (clusterings rows) → AreEnough key start at rows
      → bytes ≡ rows_bytes rows ++ 0 ∷ tail → FindsRow columns key limit (base + at) bytes found → found ≡ Ok (row_of key rows)
  block_finds at rows bytes found are ascend enough e f = finds_row at rows f.rows f.rest found are ascend enough f.passed (sym e ∙ f.stands) f.met

-- ---- the block that the row index names

-- a beginning isn't above the whole
front_low : (n : ℕ) (s : List ℕ) → (take n s ≡ s) ⊎ (string_cmp (take n s) s ≡ Less)
front_low zero [] = inl refl
front_low zero (x ∷ s) = inr refl
front_low (suc n) [] = inl refl
front_low (suc n) (x ∷ s) = by (front_low n s)
  where
    by : (take n s ≡ s) ⊎ (string_cmp (take n s) s ≡ Less) → (x ∷ take n s ≡ x ∷ s) ⊎ (string_cmp (x ∷ take n s) (x ∷ s) ≡ Less)
    by (inl e) = inl (ap (λ l. x ∷ l) e)
    by (inr low) = inr (rest_decides (nat_cmp x x) (string_cmp (take n s) s) (itself x x refl) ∙ low)

-- a key below a separator is below the block's first string
below_first : (key first path : List ℕ) (n : ℕ) → path ≡ take n first → string_cmp key path ≡ Less → string_cmp key first ≡ Less
below_first key first path n is low = by (front_low n first)
  where
    by : (take n first ≡ first) ⊎ (string_cmp (take n first) first ≡ Less) → string_cmp key first ≡ Less
    by (inl e) = subst (λ (s : List ℕ). string_cmp key s ≡ Less) (is ∙ e) low
    by (inr high) = nat_list_cmp_total.trans key path first low (subst (λ (s : List ℕ). string_cmp s first ≡ Less) (sym is) high)

-- a key that isn't below a separator is above the row before it
above_before : (key before path : List ℕ) (o : Ordering) → string_cmp path key ≡ o → is_below true o ≡ true → string_cmp before path ≡ Less → string_cmp before key ≡ Less
above_before key before path Less e t low = nat_list_cmp_total.trans before path key low e
above_before key before path Equal e t low = subst (λ (s : List ℕ). string_cmp before s ≡ Less) (order_same path key e) low
above_before key before path Greater e t low = cc

not_below : (key path : List ℕ) (o : Ordering) → string_cmp path key ≡ o → is_below true o ≡ false → string_cmp key path ≡ Less
not_below key path Less e t = cc
not_below key path Equal e t = cc
not_below key path Greater e t = turned path key e

-- the rows from the block on, by what is found among the separators
abbrev pub IsLocated : List ℕ → ℕ → List ℕ → ℕ → List Row → Option Path → Type 0
IsLocated key start before end_ rows None = FirstsAbove key (blocks_behind start before end_ rows)
IsLocated key start before end_ rows (Some path) =
    (front : List Row) × (rest : List Row) × (rows ≡ front ++ rest) × (string_cmp before key ≡ Less) × AreBelow key front
    × (unsigned_number path.payload ≡ end_ + length (rows_bytes front)) × AreEnough key (unsigned_number path.payload) (unsigned_number path.payload) rest

module _ (key : List ℕ) (start : ℕ) (before : List ℕ) (end_ : ℕ) (row : Row) (rows : List Row) where
  abbrev next : ℕ
  next = end_ + length (row_bytes row.clustering row.value)

  -- the blocks that begin with one of the rows, by whether the first row begins one
  abbrev BlocksBy : Bool → List Block
  BlocksBy t = (if t then block_of before row.clustering end_ ∷ [] else []) ++ blocks_behind (if t then end_ else start) row.clustering next rows

  abbrev LocatedBy : Bool → Option Path → Type 0
  LocatedBy t None = FirstsAbove key (BlocksBy t)
  LocatedBy t (Some path) = IsLocated key start before end_ (row ∷ rows) (Some path)

  located_by : (o : Option Path) → LocatedBy (ends_block start end_) o → IsLocated key start before end_ (row ∷ rows) o
  located_by None there = there
  located_by (Some path) there = there

  -- one row more in front
  one_on : (start' : ℕ) (path : Path) → string_cmp before row.clustering ≡ Less → IsLocated key start' row.clustering next rows (Some path)
      → IsLocated key start before end_ (row ∷ rows) (Some path)
  one_on start' path above (front, rest, parts, low, below, place, enough) = (
    row ∷ front,
    rest,
    ap (λ l. row ∷ l) parts,
    nat_list_cmp_total.trans before row.clustering key above low,
    (low, below),
    place ∙ omega (arith, length-append (row_bytes row.clustering row.value) (rows_bytes front)),
    enough,
  )

  -- the first row begins no block
  in_same : (o : Option Path) → string_cmp before row.clustering ≡ Less → IsLocated key start row.clustering next rows o → LocatedBy false o
  in_same None above there = there
  in_same (Some path) above there = one_on start path above there

  -- it begins one
  here : (path : Path) (t : Bool) → path_below true key path ≡ t → IsBlockPath (block_of before row.clustering end_) path → FirstsAbove key (blocks_behind end_ row.clustering next rows)
      → LocatedBy true (if t then Some path else None)
  here path true e is rest =
      let place : unsigned_number path.payload ≡ end_ = is.offset in
      let low : string_cmp before path.path ≡ Less = subst (λ (s : List ℕ). string_cmp before s ≡ Less) (sym is.path) is.shortest.above in (
        [],
        row ∷ rows,
        refl,
        above_before key before path.path (string_cmp path.path key) refl e low,
        tt,
        place ∙ omega arith,
        subst (λ (n : ℕ). FirstsAbove key (blocks_behind n row.clustering (n + length (row_bytes row.clustering row.value)) rows)) (sym place) rest,
      )
  here path false e is rest = (below_first key row.clustering path.path is.size is.path (not_below key path.path (string_cmp path.path key) refl e), rest)

  in_next : (path : Path) (o : Option Path) → string_cmp before row.clustering ≡ Less → IsBlockPath (block_of before row.clustering end_) path
      → IsLocated key end_ row.clustering next rows o → LocatedBy true (or_path o (if path_below true key path then Some path else None))
  in_next path None above is there = here path (path_below true key path) refl is there
  in_next path (Some found) above is there = one_on end_ found above there

  by_test : (t : Bool) (paths : List Path) → string_cmp before row.clustering ≡ Less
      → ((start' : ℕ) (ps : List Path) → AreBlockPaths (blocks_behind start' row.clustering next rows) ps → IsLocated key start' row.clustering next rows (find_last (path_below true key) ps))
      → AreBlockPaths (BlocksBy t) paths → LocatedBy t (find_last (path_below true key) paths)
  by_test false paths above rec are = in_same (find_last (path_below true key) paths) above (rec start paths are)
  by_test true [] above rec are = absurd are
  by_test true (path ∷ paths) above rec are = in_next path (find_last (path_below true key) paths) above are.0 (rec end_ paths are.1)

pub located : (key : List ℕ) (start : ℕ) (before : List ℕ) (end_ : ℕ) (rows : List Row) (paths : List Path) → StringsAscend (before ∷ clusterings rows)
    → AreBlockPaths (blocks_behind start before end_ rows) paths → IsLocated key start before end_ rows (find_last (path_below true key) paths)
located key start before end_ [] [] ascend are = tt
located key start before end_ [] (p ∷ paths) ascend are = absurd are
located key start before end_ (row ∷ rows) paths ascend are =
    located_by key start before end_ row rows (find_last (path_below true key) paths)
    (by_test key start before end_ row rows (ends_block start end_) paths ascend.0 (λ start' ps are'. located key start' row.clustering (end_ + length (row_bytes row.clustering row.value)) rows ps ascend.1 are') are)
