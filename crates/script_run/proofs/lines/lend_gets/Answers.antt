use Rattle.std.proofs.Common.{◌∷◌, [], ◌++◌}
use Rattle.shard_table.proofs.Each.{each_equal, each_more}
use Rattle.script_text.specs.Pieces.{LendsGet}
use Rattle.script_run.proofs.Printed.{take_next}
use Rattle.script_run.proofs.lines.lend_gets.Goals as goal

pub gets-preserved : goal.gets-preserved
gets-preserved c =
    let lent = c.get.ensures in
    each_equal LendsGet (c.gets.gets.items ++ c.get.result ∷ []) _ _ _ c.in_ok-push.ensures.items (take_next c.args.batch.now.gets c.gets.i lent.0 lent.1)
    (each_more LendsGet c.gets.gets.items _ c.get.result lent.0 c.gets.invariant lent.2)
