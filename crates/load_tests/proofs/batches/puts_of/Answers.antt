use Rattle.std.proofs.Common.{All, sym, subst}
use Rattle.shard_table.proofs.Each.{all_more}
use Rattle.load_work.specs.Puts.{IsPut}
use Rattle.load_tests.proofs.batches.puts_of.Goals as goal

pub rows-preserved : goal.rows-preserved
rows-preserved g c = subst (All IsPut) (sym c.in_ok-push.ensures.items) (all_more IsPut c.rows.puts.items c.put_of.result c.rows.invariant c.put_of.ensures)
