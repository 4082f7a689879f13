-- Places of Data.db at which a scan may begin, and the entries before them and behind.
use Rattle.std.proofs.Common.{◌≡◌, ◌∙◌, ℕ, ◌+◌, ◌<◌, ◌≤◌, List, [], ◌∷◌, ◌++◌, length, drop, Option, None, Some, Result, Ok, arith, ap, append_assoc, length-append, refl, subst, sym, false}
use Rattle.std.specs.List.{AllByRecursion}
use Rattle.std.proofs.lemmas.List.{append-nil, length-drop}
use Rattle.std.proofs.Math.Seq.{drop-append_seam}
use Rattle.std.specs.declared.cmp.Ordering.TheVariants.{Less}
use Rattle.bti_nodes.specs.declared.damage.Damage.{Damage}
use Rattle.byte_comparable.proofs.Compare.{slice_front}
use Rattle.key_types.specs.Columns.{Columns}
use Rattle.key_types.specs.Table.{Entry, string_cmp}
use Rattle.key_types.specs.declared.schema.ValueType.{ValueType}
use Rattle.key_decode.specs.Strings.{IsStringOf}
use Rattle.data_file.specs.Listing.{AreRows, ArePartitions, Partition, Row, data_bytes, end_bytes, rows_bytes}
use Rattle.table_files.specs.Blocks.{rows_at}
use Rattle.table_files.specs.Standing.{RowsAscend, entries_in, row_entries, static_entries}
use Rattle.table_files.specs.Walk.{Walks}
use Rattle.table_files.proofs.Strings.{apart_below}
use Rattle.table_files.proofs.WalkLemmas.{partitions_walk, rows_walk}
use Rattle.table_reader.specs.declared.seek.BoundString.{BoundString}
use Rattle.table_reader.specs.declared.seek.Start.{Start}
use Rattle.table_reader.specs.Laws.{bound_bytes}
use Rattle.table_reader.specs.Going.{ListsOn, bytes_ahead, bytes_of_partitions, bytes_of_rows, is_lower, most_below}
use Rattle.table_reader.specs.Ranges.{IsOpen, within_bytes}
use Rattle.table_reader.proofs.Going.{partitions_soon}
use Rattle.table_reader.proofs.InBlock.{AreBelow}
use Rattle.table_reader.proofs.Lookup.{entries_both}
use Rattle.table_reader.proofs.Named.{AreLower}
use Rattle.table_reader.proofs.Orders.{less_on}
use Rattle.table_reader.proofs.Soon.{rows_are, some_behind}
use Rattle.table_reader.proofs.Whole.{are_parted, data_both, rows_behind, stands_at, stands_tail}

-- a walk from the place gives these entries and comes to the file's end; without a place there are none
abbrev pub GoesFrom : Columns → List ℕ → Option Start → List Entry → Type 0
GoesFrom columns file None entries = entries ≡ []
GoesFrom columns file (Some start) entries =
    IsOpen columns start.partition × (start.at ≤ length file) × Walks columns start.partition start.at (drop start.at file) entries None

-- the entries' strings lie below a string
abbrev pub AreEntriesBelow : List ℕ → List Entry → Type 0
AreEntriesBelow string entries = AllByRecursion (λ (e : Entry). string_cmp e.0 string ≡ Less) entries

-- the next entry of a range that begins there, from a bound on, is near
abbrev pub IsNearAt : Columns → List ℕ → Option BoundString → Option Start → Type 0
IsNearAt columns file from None = Unit {0}
IsNearAt columns file from (Some start) = (rows : List Row) × (ps : List Partition) × ListsOn columns file start.partition start.at rows ps
    × (bytes_ahead from columns.static_value start.partition rows ps ≤ most_below)

-- the search for a bound comes to a place; the entries before it lie below the bound, and a walk gives those behind it
pub record Begins (columns : Columns) (file : List ℕ) (all : List Entry) (bound : BoundString) (found : Result (Option Start) Damage) : Type 0 where
  pub start : Option Start
  pub is : found ≡ Ok start
  pub before : List Entry
  pub left : List Entry
  pub parts : all ≡ before ++ left
  pub below : AreEntriesBelow (bound_bytes bound) before
  pub goes : GoesFrom columns file start left
  pub near : IsNearAt columns file (Some bound) start

both_below : (string : List ℕ) (xs ys : List Entry) → AreEntriesBelow string xs → AreEntriesBelow string ys → AreEntriesBelow string (xs ++ ys)
both_below string [] ys p q = q
both_below string (x ∷ xs) ys p q = (p.0, both_below string xs ys p.1 q)

module _ (columns : Columns) (bound : BoundString) (is : IsStringOf columns.partition bound.partition) where
  -- ---- partitions below a bound

  string_below : (key x : List ℕ) → IsStringOf columns.partition key → string_cmp key bound.partition ≡ Less → string_cmp (key ++ x) (bound_bytes bound) ≡ Less
  string_below key x is_key low = less_on key bound.partition x (within_bytes bound.clustering) low (apart_below columns.partition key bound.partition is_key is low).1

  rows_below : (key : List ℕ) (rows : List Row) → IsStringOf columns.partition key → string_cmp key bound.partition ≡ Less → AreEntriesBelow (bound_bytes bound) (row_entries key rows)
  rows_below key [] is_key low = tt
  rows_below key (row ∷ rows) is_key low = (string_below key row.clustering is_key low, rows_below key rows is_key low)

  static_below : (key : List ℕ) (static_part : Option (List ℕ)) → IsStringOf columns.partition key → string_cmp key bound.partition ≡ Less → AreEntriesBelow (bound_bytes bound) (static_entries key static_part)
  static_below key None is_key low = tt
  static_below key (Some value) is_key low =
      (subst (λ (k : List ℕ). string_cmp k (bound_bytes bound) ≡ Less) (append-nil key) (string_below key [] is_key low), tt)

  lower_entries : (ps : List Partition) → ArePartitions columns ps → AreLower bound.partition ps → AreEntriesBelow (bound_bytes bound) (entries_in ps)
  lower_entries [] are low = tt
  lower_entries (p ∷ ps) are low =
      both_below (bound_bytes bound) (static_entries p.key p.static_part) (row_entries p.key p.rows ++ entries_in ps) (static_below p.key p.static_part are.0 low.0)
      (both_below (bound_bytes bound) (row_entries p.key p.rows) (entries_in ps) (rows_below p.key p.rows are.0 low.0) (lower_entries ps are.3 low.1))

  -- ---- in the bound's partition

  within_below : (x clustering : List ℕ) → bound.clustering ≡ Some clustering → string_cmp x clustering ≡ Less → string_cmp (bound.partition ++ x) (bound_bytes bound) ≡ Less
  within_below x clustering e low =
      subst (λ (o : Option (List ℕ)). string_cmp (bound.partition ++ x) (bound.partition ++ within_bytes o) ≡ Less) (sym e) (slice_front bound.partition x clustering ∙ low)

  nothing_below : (clustering : List ℕ) → 0 < length clustering → string_cmp [] clustering ≡ Less
  nothing_below [] some = absurd (omega (arith, some))
  nothing_below (c ∷ clustering) some = refl

  own_static : (clustering : List ℕ) (static_part : Option (List ℕ)) → bound.clustering ≡ Some clustering → 0 < length clustering
      → AreEntriesBelow (bound_bytes bound) (static_entries bound.partition static_part)
  own_static clustering None e some = tt
  own_static clustering (Some value) e some =
      (subst (λ (k : List ℕ). string_cmp k (bound_bytes bound) ≡ Less) (append-nil bound.partition) (within_below [] clustering e (nothing_below clustering some)), tt)

  own_rows : (clustering : List ℕ) (rows : List Row) → bound.clustering ≡ Some clustering → AreBelow clustering rows → AreEntriesBelow (bound_bytes bound) (row_entries bound.partition rows)
  own_rows clustering [] e low = tt
  own_rows clustering (row ∷ rows) e low = (within_below row.clustering clustering e low.0, own_rows clustering rows e low.1)

  -- ---- the places

  module _ (file : List ℕ) (ps : List Partition) (bytes : file ≡ data_bytes columns.static_value ps) (are : ArePartitions columns ps) (ascend : RowsAscend ps) where
    abbrev pub BeginsSo : Result (Option Start) Damage → Type 0
    BeginsSo found = Begins columns file (entries_in ps) bound found

    -- nowhere
    pub at_none : (found : Result (Option Start) Damage) → AreLower bound.partition ps → found ≡ Ok None → BeginsSo found
    at_none found low e = record {
      start = None;
      is = e;
      before = entries_in ps;
      left = [];
      parts = sym (append-nil (entries_in ps));
      below = lower_entries ps are low;
      goes = refl;
      near = tt;
    }

    module _ (front : List Partition) (p : Partition) (rest : List Partition) (parts : ps ≡ front ++ p ∷ rest) (low : AreLower bound.partition front) where
      abbrev static : Option ValueType
      static = columns.static_value

      abbrev pub base : ℕ
      base = length (data_bytes static front)

      both : ArePartitions columns front × ArePartitions columns (p ∷ rest)
      both = are_parted columns front (p ∷ rest) (subst (ArePartitions columns) parts are)

      whole : file ≡ data_bytes static front ++ data_bytes static (p ∷ rest)
      whole = bytes ∙ ap (data_bytes static) parts ∙ data_both static front (p ∷ rest)

      base_in : base ≤ length file
      base_in = omega (arith, ap (λ (l : List ℕ). length l) whole, length-append (data_bytes static front) (data_bytes static (p ∷ rest)))

      some : RowsAscend (p ∷ rest)
      some = some_behind front (p ∷ rest) (subst RowsAscend parts ascend)

      -- at the head of a partition that isn't below the bound
      pub at_partition : (found : Result (Option Start) Damage) → ((within : List ℕ) → is_lower (Some bound) p.key within ≡ false) → found ≡ Ok (Some (record { at = base; partition = None })) → BeginsSo found
      at_partition found high e =
          let there : drop base file ≡ data_bytes static (p ∷ rest) = ap (drop base) whole ∙ drop-append_seam (data_bytes static front) (data_bytes static (p ∷ rest)) in
          record {
            start = Some (record { at = base; partition = None });
            is = e;
            before = entries_in front;
            left = entries_in (p ∷ rest);
            parts = ap entries_in parts ∙ entries_both front (p ∷ rest);
            below = lower_entries front both.0 low;
            goes = (tt, base_in, subst (λ (b : List ℕ). Walks columns None base b (entries_in (p ∷ rest)) None) (sym there) (partitions_walk columns (p ∷ rest) both.1 base));
            near = ([], p ∷ rest, (refl, there, both.1, some), omega (arith, partitions_soon columns (Some bound) (p ∷ rest) high both.1 some));
          }

      -- at a row of the bound's partition, or at its end
      some_there : (rows : List Row) (tail : List ℕ) (at : ℕ) → drop at file ≡ rows_bytes rows ++ 0 ∷ tail → at ≤ length file
      some_there rows tail at e = omega (arith, ap (λ (l : List ℕ). length l) e, length-drop at file, length-append (rows_bytes rows) (0 ∷ tail))

      row_entries_both : (key : List ℕ) (xs ys : List Row) → row_entries key (xs ++ ys) ≡ row_entries key xs ++ row_entries key ys
      row_entries_both key [] ys = refl
      row_entries_both key (x ∷ xs) ys = ap (λ (es : List Entry). (key ++ x.clustering, x.value) ∷ es) (row_entries_both key xs ys)

      grouped : (a b c d e : List Entry) → a ++ (b ++ ((c ++ d) ++ e)) ≡ (a ++ (b ++ c)) ++ (d ++ e)
      grouped a b c d e = simp append_assoc

      pub at_row : (found : Result (Option Start) Damage) (clustering : List ℕ) (passed more : List Row) → p.key ≡ bound.partition → bound.clustering ≡ Some clustering → 0 < length clustering
          → p.rows ≡ passed ++ more → AreBelow clustering passed
          → bytes_of_rows (Some bound) p.key more (bytes_of_partitions (Some bound) static rest) ≤ most_below
          → found ≡ Ok (Some (record { at = base + (rows_at static p + length (rows_bytes passed)); partition = Some p.key })) → BeginsSo found
      at_row found clustering passed more same e named rows below soon found_is =
          let at = base + (rows_at static p + length (rows_bytes passed)) in
          let tail = data_bytes static rest in
          let listed = bytes ∙ ap (data_bytes static) parts in
          let s = stands_at columns file front p rest listed (subst (ArePartitions columns) parts are) (subst RowsAscend parts ascend) in
          let there : drop at file ≡ rows_bytes more ++ 0 ∷ tail =
          rows_behind (record { columns = columns; entries = file; partitions = []; rows = [] }) p base s passed more at rows refl
          ∙ ap (λ (l : List ℕ). rows_bytes more ++ 0 ∷ l) (stands_tail columns file front p rest listed (subst (ArePartitions columns) parts are) (subst RowsAscend parts ascend)) in
          let own = static_entries p.key p.static_part in
          let walk = rows_walk columns more p.key tail (entries_in rest) (rows_are columns passed more (subst (AreRows columns) rows both.1.2)) (partitions_walk columns rest both.1.3) at in
          record {
            start = Some (record { at = at; partition = Some p.key });
            is = found_is;
            before = entries_in front ++ (own ++ row_entries p.key passed);
            left = row_entries p.key more ++ entries_in rest;
            parts = ap entries_in parts ∙ entries_both front (p ∷ rest)
                ∙ ap (λ (es : List Entry). entries_in front ++ (own ++ (es ++ entries_in rest))) (ap (row_entries p.key) rows ∙ row_entries_both p.key passed more)
                ∙ grouped (entries_in front) own (row_entries p.key passed) (row_entries p.key more) (entries_in rest);
            below = both_below (bound_bytes bound) (entries_in front) (own ++ row_entries p.key passed) (lower_entries front both.0 low)
                (subst (λ (k : List ℕ). AreEntriesBelow (bound_bytes bound) (static_entries k p.static_part ++ row_entries k passed)) (sym same)
                (both_below (bound_bytes bound) (static_entries bound.partition p.static_part) (row_entries bound.partition passed) (own_static clustering p.static_part e named)
                (own_rows clustering passed e below)));
            goes = (
              both.1.0,
              some_there more tail at there,
              subst (λ (b : List ℕ). Walks columns (Some p.key) at b (row_entries p.key more ++ entries_in rest) None)
                  (append_assoc (rows_bytes more) end_bytes tail ∙ sym there) walk,
            );
            near = (more, rest, (rows_are columns passed more (subst (AreRows columns) rows both.1.2), there, both.1.3, some.2), soon);
          }
