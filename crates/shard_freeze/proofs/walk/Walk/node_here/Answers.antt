use Rattle.std.proofs.Common.{◌≡◌, ◌≢◌, Some, arith, rules}
use Rattle.cell_layout.specs.declared.Kind.TheVariants.{Prefix}
use Rattle.cell_layout.specs.Pointers.{kind_at}
use Rattle.shard_freeze.proofs.Nodes.{prefix_inside}
use Rattle.shard_freeze.proofs.Sought.{above_prefix, above_itself}
use Rattle.shard_freeze.proofs.walk.Walk.node_here.Goals as goal

pub pointer_in-requires-clause-inside : goal.pointer_in-requires-clause-inside
pointer_in-requires-clause-inside c = let i = c.requires.image in let s = c.args.self.now in
    let k : kind_at s.here ≡ Some Prefix = search rules in
    omega (arith, prefix_inside c.args.words.now.words i.0 i.1 i.2 s.here s.key.items ((c.requires.stands i.0 i.1 i.2).here_is c.requires.there) k)

pub returns-then-eq : goal.returns-then-eq
returns-then-eq c g cells ok = let s = c.args.self.now in
    let k : kind_at s.here ≡ Some Prefix = search rules in
    above_prefix c.args.words.now.words g cells ok s.here c.pointer_in.result s.key.items ((c.requires.stands g cells ok).here_is c.requires.there) k c.pointer_in.ensures

pub returns-else-eq : goal.returns-else-eq
returns-else-eq c g cells ok = let s = c.args.self.now in
    let third : kind_at s.here ≢ Some Prefix = search rules in
    above_itself c.args.words.now.words g cells ok s.here s.key.items ((c.requires.stands g cells ok).here_is c.requires.there) third
