use Rattle.shard_freeze.proofs.Roots.{root_at}
use Rattle.shard_freeze.proofs.walk.Walk.at_root.Goals as goal

pub returns-clause-stands : goal.returns-clause-stands
returns-clause-stands c = root_at c.args.words.now.words c.new.result.items c.new-2.result.items c.pointer_in.result c.new.ensures.items c.new-2.ensures.items c.pointer_in.ensures
