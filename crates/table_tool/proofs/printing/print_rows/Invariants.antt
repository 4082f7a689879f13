use Rattle.std.proofs.Common.{◌≡◌, ◌+◌, ◌++◌, length}
use Rattle.key_types.specs.Columns.{columns_of}
use Rattle.shard_table.specs.Together.{IsCursorOf, left_in, shard_entries}
use Rattle.flush_walk.specs.Entries.{row_count}
use Rattle.flush_walk.specs.TableEntries.{AreTableEntries}
use Rattle.row_text.specs.Lines.{HoldsText}
use Rattle.row_text.specs.Printed.{entry_lines}
use Rattle.table_tool.proofs.printing.print_rows.Given as goal

abbrev pub invariant-entries : goal.invariant-entries
invariant-entries l =
    let columns = columns_of l.schema in
    let left = left_in l.table l.cursor in
    record {
      own : IsCursorOf l.table l.cursor;
      entries : AreTableEntries columns left;
      text : HoldsText columns.partition l.last l.text;
      lines : l.out ++ entry_lines columns left ≡ entry_lines columns (shard_entries l.table);
      count : l.count + row_count columns left ≡ row_count columns (shard_entries l.table);
    }

abbrev pub decreases-entries : goal.decreases-entries
decreases-entries l = length (left_in l.table l.cursor)
