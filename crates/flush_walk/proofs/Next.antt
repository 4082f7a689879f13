-- With one entry more the partitions are still those of a table.
use Rattle.std.proofs.Common.{◌≡◌, ◌≢◌, ℕ, ◌<◌, ◌≤◌, List, [], ◌∷◌, ◌++◌, length, Option, Some, None, arith, refl, sym, ◌∙◌, ap, subst}
use Rattle.std.proofs.lemmas.List.{append_assoc, append-nil, length-append}
use Rattle.std.specs.declared.cmp.Ordering.TheVariants.{Less}
use Rattle.key_types.specs.Columns.{Columns}
use Rattle.key_types.specs.Table.{Entry, string_cmp}
use Rattle.key_types.specs.declared.schema.ValueType.{ValueType}
use Rattle.data_file.specs.Listing.{AreRows, FitsStaticType, IsRow, Partition, Row}
use Rattle.table_files.specs.Standing.{AreOfTable, StringsAscend, entries_in, row_entries, static_entries}
use Rattle.table_files.proofs.Blocked.{clusterings}
use Rattle.table_files.proofs.Numbering.{keys}
use Rattle.flush_walk.specs.Given.{Flushing, Given, IsBehindKey, TakesEntry, begun_with, last_clustering, listed, map_entry, partitions_given, rows_given, static_given, with_row}
use Rattle.flush_walk.proofs.Lists.{are_joined, are_parted, ascend_with, entries_parted_by, keys_more, keys_same, row_entries_more, rows_joined, rows_parted, rows_with}

-- ---- a partition of one entry

no_static : (static : Option ValueType) → FitsStaticType static None
no_static None = tt
no_static (Some type) = tt

static_fits : (columns : Columns) (clustering value : List ℕ) → IsBehindKey columns clustering value → FitsStaticType columns.static_value (static_given clustering value)
static_fits columns [] value h = h
static_fits columns (b ∷ bs) value h = no_static columns.static_value

row_is : (columns : Columns) (clustering value : List ℕ) → IsBehindKey columns clustering value → AreRows columns (rows_given clustering value)
row_is columns [] value h = tt
row_is columns (b ∷ bs) value h = (h, tt)

some_of_both : (clustering value : List ℕ) → static_given clustering value ≡ None → rows_given clustering value ≢ []
some_of_both [] value e f = cc
some_of_both (b ∷ bs) value e f = cc

one_ascends : (clustering value : List ℕ) → StringsAscend (clusterings (rows_given clustering value))
one_ascends [] value = tt
one_ascends (b ∷ bs) value = tt

-- its entry
pub begun_entries : (e : Given) → entries_in (begun_with e ∷ []) ≡ map_entry e ∷ []
begun_entries e = by e.clustering
  where
    by : (c : List ℕ) → static_entries e.partition (static_given c e.value) ++ (row_entries e.partition (rows_given c e.value) ++ []) ≡ (e.partition ++ c, e.value) ∷ []
    by [] = ap (λ (k : List ℕ). (k, e.value) ∷ []) (sym (append-nil e.partition))
    by (b ∷ c) = refl

-- with one row more
pub row_entry_more : (p : Partition) (clustering value : List ℕ) → entries_in (with_row p clustering value ∷ []) ≡ entries_in (p ∷ []) ++ (p.key ++ clustering, value) ∷ []
row_entry_more p clustering value =
    let first = static_entries p.key p.static_part in
    let rows = row_entries p.key p.rows in
    let last : List Entry = (p.key ++ clustering, value) ∷ [] in
    ap (λ (es : List Entry). first ++ (es ++ [])) (row_entries_more p.key p.rows (record { clustering = clustering; value = value }))
    ∙ ap (λ (es : List Entry). first ++ es) (append-nil (rows ++ last))
    ∙ sym (append_assoc first rows last)
    ∙ ap (λ (es : List Entry). (first ++ es) ++ last) (sym (append-nil rows))

-- ---- the next entry

module _ (w : Flushing) (e : Given) (h : TakesEntry w e) where
  abbrev all : List Partition
  all = partitions_given w

  -- it begins a partition behind the others
  module _ (t : AreOfTable w.columns all) where
    count_more : (ps : List Partition) → entries_in ps ≡ entries_in all ++ map_entry e ∷ [] → length (entries_in ps) ≤ 1000000
    count_more ps is = omega (arith, ap (λ (xs : List Entry). length xs) is, length-append (entries_in all) (map_entry e ∷ []), h.few)

    pub entries_begun : entries_in (all ++ begun_with e ∷ []) ≡ entries_in all ++ map_entry e ∷ []
    entries_begun = entries_parted_by all (begun_with e ∷ []) ∙ ap (λ (es : List Entry). entries_in all ++ es) (begun_entries e)

    pub keys_begun : (closed : List Partition) (current : Option Partition) → StringsAscend (keys (closed ++ listed current)) → (p : Partition) → current ≡ Some p
        → string_cmp p.key e.partition ≡ Less → StringsAscend (keys ((closed ++ listed current) ++ begun_with e ∷ []))
    keys_begun closed None ascend p is above = cc
    keys_begun closed (Some q) ascend p is above =
        let same : p ≡ q = cc in
        keys_more closed q (begun_with e) ascend (subst (λ (x : Partition). string_cmp x.key e.partition ≡ Less) same above)

    pub begun_of_table : StringsAscend (keys (all ++ begun_with e ∷ [])) → AreOfTable w.columns (all ++ begun_with e ∷ [])
    begun_of_table ascend = record {
      are = are_joined w.columns all (begun_with e ∷ []) t.are
          (h.partition, static_fits w.columns e.clustering e.value h.behind, row_is w.columns e.clustering e.value h.behind, tt);
      ascend = ascend;
      rows = rows_joined all (begun_with e ∷ []) t.rows (some_of_both e.clustering e.value, one_ascends e.clustering e.value, tt);
      few = count_more (all ++ begun_with e ∷ []) entries_begun;
    }

some_clustering : (before clustering : List ℕ) → string_cmp before clustering ≡ Less → (columns : Columns) (value : List ℕ) → IsBehindKey columns clustering value → IsRow columns clustering value
some_clustering [] [] above columns value h = cc
some_clustering (x ∷ before) [] above columns value h = cc
some_clustering before (b ∷ bs) above columns value h = h

never_none : (rows : List Row) (row : Row) → rows ++ row ∷ [] ≢ []
never_none [] row e = cc
never_none (r ∷ rows) row e = cc

-- it goes into the open partition
module _ (columns : Columns) (closed : List Partition) (p : Partition) (e : Given) (t : AreOfTable columns (closed ++ p ∷ [])) (behind : IsBehindKey columns e.clustering e.value)
    (few : length (entries_in (closed ++ p ∷ [])) < 1000000) (key : p.key ≡ e.partition) (above : string_cmp (last_clustering p.rows) e.clustering ≡ Less) where
  abbrev q : Partition
  q = with_row p e.clustering e.value

  abbrev row : Row
  row = record { clustering = e.clustering; value = e.value }

  pub entries_gone_on : entries_in (closed ++ q ∷ []) ≡ entries_in (closed ++ p ∷ []) ++ map_entry e ∷ []
  entries_gone_on =
      entries_parted_by closed (q ∷ [])
      ∙ ap (λ (es : List Entry). entries_in closed ++ es) (row_entry_more p e.clustering e.value)
      ∙ sym (append_assoc (entries_in closed) (entries_in (p ∷ [])) ((p.key ++ e.clustering, e.value) ∷ []))
      ∙ ap (λ (es : List Entry). es ++ (p.key ++ e.clustering, e.value) ∷ []) (sym (entries_parted_by closed (p ∷ [])))
      ∙ ap (λ (k : List ℕ). entries_in (closed ++ p ∷ []) ++ (k ++ e.clustering, e.value) ∷ []) key

  pub gone_on_of_table : AreOfTable columns (closed ++ q ∷ [])
  gone_on_of_table =
      let are = are_parted columns closed (p ∷ []) t.are in
      let rows = rows_parted closed (p ∷ []) t.rows in
      let is = some_clustering (last_clustering p.rows) e.clustering above columns e.value behind in
      record {
        are = are_joined columns closed (q ∷ []) are.0 (are.1.0, are.1.1, rows_with columns p.rows row are.1.2 is, tt);
        ascend = subst StringsAscend (sym (keys_same closed p q refl)) t.ascend;
        rows = rows_joined closed (q ∷ []) rows.0 (λ none. never_none p.rows row, ascend_with p.rows row rows.1.1 above, tt);
        few = omega (
          arith,
          ap (λ (xs : List Entry). length xs) entries_gone_on,
          length-append (entries_in (closed ++ p ∷ [])) (map_entry e ∷ []),
          few,
        );
      }
