use Rattle.std.proofs.Common.{IsSome}
use Rattle.table_reader.specs.Opened.{StandsIn}
use Rattle.table_reader.specs.Scans.{ScanStands}
use Rattle.table_reader.proofs.scan_tests.gives.Given as goal

abbrev pub invariant-loop-want : goal.invariant-loop-want
invariant-loop-want g l =
    let files = g.K.Store.files in
    record {
      scan : ScanStands (files l.store) l.table.generation l.scan;
      stands : StandsIn (files l.store) l.table;
      footer : IsSome l.table.footer;
    }
