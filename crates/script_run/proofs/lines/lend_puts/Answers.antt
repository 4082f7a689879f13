use Rattle.std.proofs.Common.{◌∷◌, [], ◌++◌}
use Rattle.shard_table.proofs.Each.{each_equal, each_more}
use Rattle.script_text.specs.Pieces.{LendsPut}
use Rattle.script_run.proofs.Printed.{take_next}
use Rattle.script_run.proofs.lines.lend_puts.Goals as goal

pub puts-preserved : goal.puts-preserved
puts-preserved c =
    let lent = c.put.ensures in
    each_equal LendsPut (c.puts.puts.items ++ c.put.result ∷ []) _ _ _ c.in_ok-push.ensures.items (take_next c.args.batch.now.puts c.puts.i lent.0 lent.1)
    (each_more LendsPut c.puts.puts.items _ c.put.result lent.0 c.puts.invariant lent.2)
