-- The laws of the steps, as the crates below prove them.
use Rattle.partition_check.proofs.Indexed.{checked_is_index, index_is_checked}
use Rattle.partition_check.proofs.Listed.{found_is_listed, held_is_found}
use Rattle.row_check.proofs.EntriesJudged.{entries_are_judged}
use Rattle.table_check.proofs.Judged.{Laws}

pub laws : Laws
laws = record {
  found = found_is_listed;
  held = held_is_found;
  index = checked_is_index;
  indexed = index_is_checked;
  entries = entries_are_judged;
}
