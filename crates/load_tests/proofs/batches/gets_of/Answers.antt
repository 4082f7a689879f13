use Rattle.std.proofs.Common.{All, sym, subst}
use Rattle.shard_table.proofs.Each.{all_more}
use Rattle.load_work.specs.Work.{IsGetBelow}
use Rattle.load_tests.proofs.batches.gets_of.Goals as goal

pub rows-preserved : goal.rows-preserved
rows-preserved g c = subst (All (IsGetBelow c.args.readers)) (sym c.in_ok-push.ensures.items) (all_more (IsGetBelow c.args.readers) c.rows.gets.items c.get_of.result c.rows.invariant c.get_of.ensures)
