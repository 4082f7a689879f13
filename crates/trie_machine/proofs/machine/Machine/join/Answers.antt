use Rattle.std.proofs.Common.{arith}
use Rattle.trie_machine.proofs.Machines.{seat_inside, joined_machine}
use Rattle.trie_machine.proofs.machine.Machine.join.Goals as goal

pub index_mut-requires : goal.index_mut-requires
index_mut-requires c = omega (arith, c.self.inside.readers.ok, seat_inside _ _ c.args.self.now c.self.view_is c.args.into c.in-Some-Some.own (c.resting-2.ensures.some c.in-Some-Some.own c.in-Some-Some.is-1))

pub index_mut-requires-2 : goal.index_mut-requires-2
index_mut-requires-2 c = omega (arith, c.self.inside.readers.ok, seat_inside _ _ c.args.self.now c.self.view_is c.args.from c.in-Some-Some.ending (c.resting.ensures.some c.in-Some-Some.ending c.in-Some-Some.is-0))

pub invariant_of-self : goal.invariant_of-self
invariant_of-self c = joined_machine _ _ c.args.self.now c.self.view_is c.args.from c.args.into c.in-Some-Some.ending c.in-Some-Some.own c.if-from-into.false (c.resting.ensures.some c.in-Some-Some.ending c.in-Some-Some.is-0) (c.resting-2.ensures.some c.in-Some-Some.own c.in-Some-Some.is-1) c.max.result c.max.ensures c.self.invariant
