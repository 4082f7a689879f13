-- How soon the next entry of a range comes, from a block or a partition on.
use Rattle.std.proofs.Common.{◌≡◌, ◌⊎◌, ◌∙◌, ℕ, ◌+◌, ◌≤◌, ◌<◌, Bool, true, false, List, [], ◌∷◌, ◌++◌, length, None, Some, inl, inr, arith, ap, refl, subst}
use Rattle.std.specs.Prelude.{if◌then◌else◌, map, max}
use Rattle.std.proofs.lemmas.Bool.{le-leb}
use Rattle.std.proofs.lemmas.Cmp.{nat_list_cmp_total}
use Rattle.std.specs.declared.cmp.Ordering.{Ordering}
use Rattle.std.specs.declared.cmp.Ordering.TheVariants.{Less, Greater}
use Rattle.std.specs.Ordering.{is_lt, ordering_reverse, ordering_then}
use Rattle.key_types.specs.Columns.{Columns}
use Rattle.key_types.specs.Table.{string_cmp}
use Rattle.data_file.specs.Listing.{AreRows, Partition, Row, row_bytes}
use Rattle.row_index.specs.Writing.{block_of}
use Rattle.table_files.specs.Blocks.{blocks_behind, ends_block}
use Rattle.table_files.specs.Standing.{RowsAscend, StringsAscend}
use Rattle.table_reader.specs.declared.seek.BoundString.{BoundString}
use Rattle.table_reader.specs.Going.{bytes_of_rows, is_lower}
use Rattle.table_reader.specs.Ranges.{within_bytes}
use Rattle.table_reader.specs.Window.{enough}
use Rattle.table_reader.proofs.Going.{FirstIsHigh, row_comes, row_lies_below, row_short}
use Rattle.table_reader.proofs.InBlock.{AreEnough, FirstsAbove, enough_behind}
use Rattle.table_reader.proofs.Lookup.{order_self}

-- ---- what isn't below a bound

-- a partition above the bound's
pub greater_high : (bound : BoundString) (key : List ℕ) → string_cmp key bound.partition ≡ Greater → (within : List ℕ) → is_lower (Some bound) key within ≡ false
greater_high bound key is within = ap (λ (o : Ordering). is_lt (ordering_then o (string_cmp within (within_bytes bound.clustering)))) is

nothing_under : (within : List ℕ) → is_lt (string_cmp within []) ≡ false
nothing_under [] = refl
nothing_under (b ∷ within) = refl

-- the bound's partition, where the bound names no clustering components
pub equal_high : (bound : BoundString) (key : List ℕ) → key ≡ bound.partition → bound.clustering ≡ None → (within : List ℕ) → is_lower (Some bound) key within ≡ false
equal_high bound key same none within =
    (λ i. is_lt (ordering_then (order_self key bound.partition same i) (string_cmp within (within_bytes (none i))))) ∙ nothing_under within

-- a row above the bound's clustering components
row_high : (bound : BoundString) (key clustering within : List ℕ) → key ≡ bound.partition → bound.clustering ≡ Some clustering → string_cmp clustering within ≡ Less → is_lower (Some bound) key within ≡ false
row_high bound key clustering within same e low =
    let high : string_cmp within clustering ≡ Greater = nat_list_cmp_total.antisymm within clustering ∙ ap ordering_reverse low in
    (λ i. is_lt (ordering_then (order_self key bound.partition same i) (string_cmp within (within_bytes (e i))))) ∙ ap is_lt high

-- ---- partitions behind others

pub rows_are : (columns : Columns) (xs ys : List Row) → AreRows columns (xs ++ ys) → AreRows columns ys
rows_are columns [] ys are = are
rows_are columns (x ∷ xs) ys are = rows_are columns xs ys are.1

pub some_behind : (front more : List Partition) → RowsAscend (front ++ more) → RowsAscend more
some_behind [] more some = some
some_behind (q ∷ front) more some = some_behind front more some.2

pub some_rest : (front : List Partition) (p : Partition) (rest : List Partition) → RowsAscend (front ++ p ∷ rest) → RowsAscend rest
some_rest front p rest some = (some_behind front (p ∷ rest) some).2

abbrev keys_of : List Partition → List (List ℕ)
keys_of ps = map (λ p. p.key) ps

tail_ascends : (string : List ℕ) (strings : List (List ℕ)) → StringsAscend (string ∷ strings) → StringsAscend strings
tail_ascends string [] ascend = tt
tail_ascends string (next ∷ strings) ascend = ascend.1

keys_behind : (front more : List Partition) → StringsAscend (keys_of (front ++ more)) → StringsAscend (keys_of more)
keys_behind [] more ascend = ascend
keys_behind (q ∷ front) more ascend = keys_behind front more (tail_ascends q.key (keys_of (front ++ more)) ascend)

next_high : (bound : BoundString) (p : Partition) (rest : List Partition) → StringsAscend (keys_of (p ∷ rest)) → p.key ≡ bound.partition → FirstIsHigh (Some bound) rest
next_high bound p [] ascend same = tt
next_high bound p (q ∷ rest) ascend same =
    let low : string_cmp bound.partition q.key ≡ Less = subst (λ (k : List ℕ). string_cmp k q.key ≡ Less) same ascend.0 in
    greater_high bound q.key (nat_list_cmp_total.antisymm q.key bound.partition ∙ ap ordering_reverse low)

-- the partition behind that of the bound
pub rest_high : (bound : BoundString) (front : List Partition) (p : Partition) (rest : List Partition) → StringsAscend (map (λ p. p.key) (front ++ p ∷ rest)) → p.key ≡ bound.partition
    → FirstIsHigh (Some bound) rest
rest_high bound front p rest ascend same = next_high bound p rest (keys_behind front (p ∷ rest) ascend) same

-- ---- in a block

either : (n m : ℕ) → (n ≤ m) ⊎ (m < n)
either n m = grind arith

module _ (columns : Columns) (bound : BoundString) (key clustering : List ℕ) (same : key ≡ bound.partition) (e : bound.clustering ≡ Some clustering) (start behind : ℕ) where
  abbrev IsSoon : ℕ → List Row → Type 0
  IsSoon at rows = at + bytes_of_rows (Some bound) key rows behind ≤ max at (start + 16384) + enough + (1 + behind)

  -- a row that ends the block: what follows it isn't below
  last_soon : (at : ℕ) (row : Row) (rows : List Row) → length (row_bytes row.clustering row.value) ≤ enough → AreEnough clustering start at (row ∷ rows)
      → start + 16384 ≤ at + length (row_bytes row.clustering row.value) → is_lower (Some bound) key row.clustering ≡ true → IsSoon at (row ∷ rows)
  last_soon at row [] short enough_rows full low = omega (arith, row_lies_below (Some bound) key row [] behind low, short)
  last_soon at row (next ∷ rows) short enough_rows full low =
      let end_ = at + length (row_bytes row.clustering row.value) in
      let ends : ends_block start end_ ≡ true = le-leb (start + 16384) end_ full in
      let first : FirstsAbove clustering ((if true then block_of row.clustering next.clustering end_ ∷ [] else [])
      ++ blocks_behind (if true then end_ else start) next.clustering (end_ + length (row_bytes next.clustering next.value)) rows) =
      subst (λ (t : Bool). FirstsAbove clustering ((if t then block_of row.clustering next.clustering end_ ∷ [] else []) ++ blocks_behind (if t then end_ else start) next.clustering
      (end_ + length (row_bytes next.clustering next.value)) rows)) ends enough_rows in
      let comes = row_comes (Some bound) key next rows behind (row_high bound key clustering next.clustering same e first.0) in
      omega (arith, row_lies_below (Some bound) key row (next ∷ rows) behind low, short, comes)

  below_soon : (at : ℕ) (row : Row) (rows : List Row) → length (row_bytes row.clustering row.value) ≤ enough → AreEnough clustering start at (row ∷ rows) → is_lower (Some bound) key row.clustering ≡ true
      → (AreEnough clustering start (at + length (row_bytes row.clustering row.value)) rows → IsSoon (at + length (row_bytes row.clustering row.value)) rows)
      → (start + 16384 ≤ at + length (row_bytes row.clustering row.value)) ⊎ (at + length (row_bytes row.clustering row.value) < start + 16384) → IsSoon at (row ∷ rows)
  below_soon at row rows short enough_rows low rec (inl full) = last_soon at row rows short enough_rows full low
  below_soon at row rows short enough_rows low rec (inr inside) =
      let on = rec (enough_behind columns clustering 0 start (0 + start + 16384) [] refl at row rows enough_rows (omega (arith, inside))) in
      omega (arith, on, inside, row_lies_below (Some bound) key row rows behind low)

  row_soon : (t : Bool) (at : ℕ) (row : Row) (rows : List Row) → is_lower (Some bound) key row.clustering ≡ t → length (row_bytes row.clustering row.value) ≤ enough → AreEnough clustering start at (row ∷ rows)
      → (AreEnough clustering start (at + length (row_bytes row.clustering row.value)) rows → IsSoon (at + length (row_bytes row.clustering row.value)) rows) → IsSoon at (row ∷ rows)
  row_soon true at row rows low short enough_rows rec = below_soon at row rows short enough_rows low rec (either (start + 16384) (at + length (row_bytes row.clustering row.value)))
  row_soon false at row rows high short enough_rows rec = omega (arith, row_comes (Some bound) key row rows behind high)

  pub block_soon : (at : ℕ) (rows : List Row) → AreRows columns rows → AreEnough clustering start at rows → at + bytes_of_rows (Some bound) key rows behind ≤ max at (start + 16384) + enough + (1 + behind)
  block_soon at [] are enough_rows = omega arith
  block_soon at (row ∷ rows) are enough_rows =
      row_soon (is_lower (Some bound) key row.clustering) at row rows refl (row_short columns row.clustering row.value are.0) enough_rows
      (λ on. block_soon (at + length (row_bytes row.clustering row.value)) rows are.1 on)
