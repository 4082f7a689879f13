use Rattle.std.proofs.Common.{◌∙◌}
use Rattle.shard_freeze.specs.Listing.{record_value}
use Rattle.shard_freeze.proofs.Gives.{root_entries}
use Rattle.shard_freeze.proofs.cursor.walk_from.Goals as goal

pub returns-clause-left : goal.returns-clause-left
returns-clause-left c = let w = c.args.words.now in let i = c.is_standing.ensures in
    c.in_ok-seek.ensures.left (record_value w.made) ∙ root_entries w.words w.made i.0 i.1 i.2 c.args.from.now c.at_root-walk.result.here c.at_root-walk.ensures.here
