use Rattle.shard_table.specs.Together.{IsCursorOf}
use Rattle.load_tests.proofs.rows.check_entries.Given as goal

abbrev pub invariant-entries : goal.invariant-entries
invariant-entries g l = IsCursorOf l.table l.cursor
