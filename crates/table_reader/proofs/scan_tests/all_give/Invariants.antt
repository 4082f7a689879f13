use Rattle.std.proofs.Common.{IsSome}
use Rattle.table_reader.specs.Opened.{StandsIn}
use Rattle.table_reader.proofs.scan_tests.all_give.Given as goal

abbrev pub invariant-loop-row : goal.invariant-loop-row
invariant-loop-row g l =
    let files = g.K.Store.files in
    record {
      stands : StandsIn (files l.store) l.table;
      footer : IsSome l.table.footer;
    }
