use Rattle.std.proofs.Common.{◌≡◌, ◌≤◌, ◌-◌, List}
use Rattle.key_types.specs.Columns.{columns_of}
use Rattle.row_text.specs.Lines.{HoldsText}
use Rattle.table_reader.specs.declared.walker.EntryStrings.{EntryStrings}
use Rattle.table_reader.specs.Scans.{IsInFile, ScanStands}
use Rattle.scan_tool.specs.Steps.{Holds}
use Rattle.scan_tool.proofs.Counting.{NearAfter}
use Rattle.scan_tool.proofs.Turns.{Along}
use Rattle.scan_tool.proofs.scanning.print_entries.Given as goal

abbrev pub invariant-entries : goal.invariant-entries
invariant-entries g l =
    let columns = columns_of l.table.schema in
    let files = g.K.Store.files in
    record {
      stands : ScanStands (files l.store) l.table.generation l.scan;
      place : IsInFile columns l.scan;
      held : HoldsText columns.partition l.lines.key l.lines.partition;
      rows : l.lines.rows ≤ l.scan.window.at;
      printed : (entries : List EntryStrings) × Along columns (files l.fn.store) l.table.generation l.fn.scan entries l.scan
          × Holds columns (files l.fn.store) l.table.generation l.lines entries (g.O.Sink.written l.fn.out) (g.O.Sink.written l.out)
          × NearAfter columns l.table.generation l.fn.scan (files l.fn.store) entries l.scan (g.K.Store.reads l.fn.store) (g.K.Store.reads l.store);
      same : files l.store ≡ files l.fn.store;
      store_later : g.K.Store.faults l.fn.store ≤ g.K.Store.faults l.store;
      later : g.O.Sink.faults l.fn.out ≤ g.O.Sink.faults l.out;
    }

abbrev pub decreases-entries : goal.decreases-entries
decreases-entries g l = l.scan.window.limit - l.scan.window.at
