-- The entries of partitions that ascend are those of a map.
use Rattle.std.proofs.Common.{◌≡◌, ◌≢◌, ◌∙◌, ℕ, ◌<◌, Bool, true, false, List, [], ◌∷◌, ◌++◌, length, map, Option, None, Some, arith, refl, subst, sym}
use Rattle.std.specs.Prelude.{◌&&◌, T}
use Rattle.std.proofs.lemmas.Cmp.{nat_list_cmp_total}
use Rattle.std.proofs.lemmas.List.{append-nil}
use Rattle.std.specs.declared.cmp.Ordering.{Ordering}
use Rattle.std.specs.declared.cmp.Ordering.TheVariants.{Less}
use Rattle.std.specs.Ordering.{is_lt}
use Rattle.std.specs.FinMap as finite
use Rattle.std.specs.FinMap.Entries.{below_all, is_sorted}
use Rattle.key_types.specs.Columns.{Columns}
use Rattle.key_types.specs.Table.{Entry, Table, string_cmp}
use Rattle.byte_comparable.proofs.Compare.{slice_front}
use Rattle.data_file.specs.Listing.{ArePartitions, AreRows, Partition, Row}
use Rattle.table_files.specs.Standing.{RowsAscend, StringsAscend, entries_in, row_entries, static_entries}
use Rattle.table_files.proofs.Blocked.{clusterings}
use Rattle.table_files.proofs.Numbering.{keys}
use Rattle.table_files.proofs.Strings.{apart_below, string_some}
use Rattle.table_reader.proofs.Orders.{less_on}

-- ---- strings that ascend are sorted

abbrev strings : List Entry → List (List ℕ)
strings es = map (λ (e : Entry). e.0) es

both : (a b : Bool) → T a → T b → T (a && b)
both true b p q = q
both false b p q = p

is_less : (o : Ordering) → o ≡ Less → T (is_lt o)
is_less o e = subst (λ (r : Ordering). T (is_lt r)) (sym e) tt

-- all strings behind are above
below_behind : (x : List ℕ) (es : List Entry) → StringsAscend (x ∷ strings es) → T (below_all string_cmp x es)
below_behind x [] h = tt
below_behind x (e ∷ es) h =
    both (is_lt (string_cmp x e.0)) (below_all string_cmp x es) (is_less (string_cmp x e.0) h.0)
    (below_behind x es (over es h))
  where
    over : (fs : List Entry) → StringsAscend (x ∷ e.0 ∷ strings fs) → StringsAscend (x ∷ strings fs)
    over [] h = tt
    over (f ∷ fs) h = (nat_list_cmp_total.trans x e.0 f.0 h.0 h.1.0, h.1.1)

behind_one : (x : List ℕ) (xs : List (List ℕ)) → StringsAscend (x ∷ xs) → StringsAscend xs
behind_one x [] h = tt
behind_one x (y ∷ ys) h = h.1

sorted : (es : List Entry) → StringsAscend (strings es) → T (is_sorted string_cmp es)
sorted [] h = tt
sorted (e ∷ es) h =
    both (below_all string_cmp e.0 es) (is_sorted string_cmp es) (below_behind e.0 es h)
    (sorted es (behind_one e.0 (strings es) h))

-- ---- the strings of entries ascend

-- a string with a byte is above the empty one
above_empty : (x : List ℕ) → 0 < length x → string_cmp [] x ≡ Less
above_empty [] some = absurd (omega (arith, some))
above_empty (b ∷ x) some = refl

-- behind a string of a row of the partition, its further rows, and what stands behind them
rows_on : (key x : List ℕ) (rows : List Row) (more : List Entry) → StringsAscend (x ∷ clusterings rows)
    → ((y : List ℕ) → StringsAscend ((key ++ y) ∷ strings more))
    → StringsAscend ((key ++ x) ∷ strings (row_entries key rows ++ more))
rows_on key x [] more h on = on x
rows_on key x (row ∷ rows) more h on =
    (slice_front key x row.clustering ∙ h.0, rows_on key row.clustering rows more h.1 on)

-- the string is below all strings of the first partition's entries
abbrev IsBelowFirst : List ℕ → List Partition → Type 0
IsBelowFirst string [] = Unit {0}
IsBelowFirst string (p ∷ ps) = (x : List ℕ) → string_cmp string (p.key ++ x) ≡ Less

module _ (columns : Columns) where
  below_next : (p : Partition) (ps : List Partition) → ArePartitions columns (p ∷ ps) → StringsAscend (keys (p ∷ ps))
      → (y : List ℕ)
      → IsBelowFirst (p.key ++ y) ps
  below_next p [] are ascend y = tt
  below_next p (q ∷ ps) are ascend y =
      λ x. less_on p.key q.key y x ascend.0 (apart_below columns.partition p.key q.key are.0 are.3.0 ascend.0).1

  rows_ascend : (rows : List Row) → AreRows columns rows → StringsAscend (clusterings rows)
      → StringsAscend ([] ∷ clusterings rows)
  rows_ascend [] are ascend = tt
  rows_ascend (row ∷ rows) are ascend = (
    above_empty row.clustering
        (string_some columns.clustering row.clustering are.0.0),
    ascend,
  )

  -- those of a partition, and of those behind it
  partition_on : (string key : List ℕ) (static_part : Option (List ℕ)) (rows : List Row) (more : List Entry)
      → ((x : List ℕ) → string_cmp string (key ++ x) ≡ Less) → (static_part ≡ None → rows ≢ [])
      → StringsAscend ([] ∷ clusterings rows)
      → ((y : List ℕ) → StringsAscend ((key ++ y) ∷ strings more))
      → StringsAscend (string ∷ strings (static_entries key static_part ++ (row_entries key rows ++ more)))
  partition_on string key None [] more below some ascend on = absurd (some refl refl)
  partition_on string key None (row ∷ rows) more below some ascend on
      = (below row.clustering, rows_on key row.clustering rows more ascend.1 on)
  partition_on string key (Some value) rows more below some ascend on =
      let all = rows_on key [] rows more ascend on in
      subst (λ (k : List ℕ). (string_cmp string k ≡ Less) × StringsAscend
      (k ∷ strings (row_entries key rows ++ more))) (append-nil key) (below [], all)

  entries_on : (ps : List Partition) → ArePartitions columns ps → StringsAscend (keys ps) → RowsAscend ps
      → (string : List ℕ) → IsBelowFirst string ps
      → StringsAscend (string ∷ strings (entries_in ps))
  entries_on [] are ascend rows string below = tt
  entries_on (p ∷ ps) are ascend rows string below =
      partition_on string p.key p.static_part p.rows (entries_in ps) below rows.0 (rows_ascend p.rows are.2 rows.1)
      (λ y. entries_on ps are.3 (behind_one p.key (keys ps) ascend) rows.2 (p.key ++ y) (below_next p ps are ascend y))

  below_all_of : (ps : List Partition) → ArePartitions columns ps → IsBelowFirst [] ps
  below_all_of [] are = tt
  below_all_of (p ∷ ps) are = λ x. above_empty (p.key ++ x)
      (longer p.key x (string_some columns.partition p.key are.0))
    where
      longer : (xs ys : List ℕ) → 0 < length xs → 0 < length (xs ++ ys)
      longer [] ys some = absurd (omega (arith, some))
      longer (x ∷ xs) ys some = omega arith

  -- the map of these entries
  pub map_of : (ps : List Partition) → ArePartitions columns ps → StringsAscend (keys ps) → RowsAscend ps
      → (table : Table) × (entries_in ps ≡ finite.entries table)
  map_of ps are ascend rows =
      let on = entries_on ps are ascend rows [] (below_all_of ps are) in
      let is = sorted (entries_in ps) (behind_one [] (strings (entries_in ps)) on) in
      (finite.from_sorted (entries_in ps), sym (finite.entries-from_sorted string_cmp (entries_in ps) is))
