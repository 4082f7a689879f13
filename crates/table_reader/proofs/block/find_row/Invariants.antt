use Rattle.std.proofs.Common.{◌≡◌, ◌⊎◌, ◌+◌, ◌<◌, ◌≤◌, ◌++◌, ℕ, List, Option, Result, drop, length}
use Rattle.key_types.specs.Columns.{columns_of}
use Rattle.bti_nodes.specs.declared.damage.Damage.{Damage}
use Rattle.table_reader.specs.Rows.{FindsRow}
use Rattle.table_reader.proofs.block.find_row.Given as goal

abbrev pub invariant-rows : goal.invariant-rows
invariant-rows l = record {
  passed : (k : ℕ) × (l.place ≡ l.at + k) × (k ≤ length l.bytes) × (l.rest ≡ drop k l.bytes) × ((k ≡ 0) ⊎ (l.place < l.limit));
  behind : (more : List ℕ) (found : Result (Option (List ℕ)) Damage) → FindsRow (columns_of l.schema) l.key l.limit l.place (l.rest ++ more) found
      → FindsRow (columns_of l.schema) l.key l.limit l.at (l.bytes ++ more) found;
}

abbrev pub decreases-rows : goal.decreases-rows
decreases-rows l = length l.rest
