-- The walk over a Data.db that holds entries.
use Rattle.std.proofs.Common.{◌≡◌, ℕ, ◌+◌, List, [], ◌∷◌, ◌++◌, length, None, Some, refl, ap, ◌∙◌, sym, subst, append_assoc}
use Rattle.key_types.specs.Columns.{Columns}
use Rattle.key_types.specs.Table.{Entry}
use Rattle.data_file.specs.Listing.{AreRows, ArePartitions, Partition, Row, data_bytes, end_bytes, static_part_bytes, head_bytes, partition_bytes, row_bytes, rows_bytes}
use Rattle.table_files.specs.Standing.{Holds, entries_in, row_entries}
use Rattle.table_files.specs.Walk.{Walks}
use Rattle.table_files.specs.Walk as walks

module _ (columns : Columns) where
  -- the rows of a partition, its end, and what is behind it
  pub rows_walk : (rows : List Row) (key tail : List ℕ) (entries : List Entry) → AreRows columns rows → ((at : ℕ) → Walks columns None at tail entries None)
      → (at : ℕ) → Walks columns (Some key) at ((rows_bytes rows ++ end_bytes) ++ tail) (row_entries key rows ++ entries) None
  rows_walk [] key tail entries are next at = walks.closes at key (0 ∷ tail) tail entries None refl (next (at + 1))
  rows_walk (r ∷ rows) key tail entries (is, are) next at =
      let bytes : ((row_bytes r.clustering r.value ++ rows_bytes rows) ++ end_bytes) ++ tail ≡ row_bytes r.clustering r.value ++ ((rows_bytes rows ++ end_bytes) ++ tail) =
      ap (λ b. b ++ tail) (append_assoc (row_bytes r.clustering r.value) (rows_bytes rows) end_bytes) ∙ append_assoc (row_bytes r.clustering r.value) (rows_bytes rows ++ end_bytes) tail in
      walks.row at key r.clustering r.value (((row_bytes r.clustering r.value ++ rows_bytes rows) ++ end_bytes) ++ tail) ((rows_bytes rows ++ end_bytes) ++ tail) (row_entries key rows ++ entries) None is bytes
      (rows_walk rows key tail entries are next (at + length (row_bytes r.clustering r.value)))

  parts_in : (h f r tail : List ℕ) → (h ++ (f ++ r)) ++ tail ≡ (h ++ f) ++ (r ++ tail)
  parts_in h f r tail = simp append_assoc

  pub partitions_walk : (partitions : List Partition) → ArePartitions columns partitions → (at : ℕ) → Walks columns None at (data_bytes columns.static_value partitions) (entries_in partitions) None
  partitions_walk [] are at = walks.ends at
  partitions_walk (p ∷ partitions) (is, static_part, rows, are) at =
      let tail : List ℕ = data_bytes columns.static_value partitions in
      let front : List ℕ = head_bytes p.key ++ static_part_bytes columns.static_value p.static_part in
      let behind : List ℕ = (rows_bytes p.rows ++ end_bytes) ++ tail in
      walks.head at p.key p.static_part (partition_bytes columns.static_value p ++ tail) behind (row_entries p.key p.rows ++ entries_in partitions) None is static_part
      (parts_in (head_bytes p.key) (static_part_bytes columns.static_value p.static_part) (rows_bytes p.rows ++ end_bytes) tail)
      (rows_walk p.rows p.key tail (entries_in partitions) rows (partitions_walk partitions are) (at + length front))

  -- the walk over a file that holds entries
  pub stands_walk : (file : List ℕ) (rows : List Entry) → Holds columns file rows → Walks columns None 0 file rows None
  stands_walk file rows holds = subst (λ (b : List ℕ). Walks columns None 0 b rows None) (sym holds.listed.0)
      (subst (λ (es : List Entry). Walks columns None 0 (data_bytes columns.static_value holds.partitions) es None) holds.same (partitions_walk holds.partitions holds.listed.1 0))
