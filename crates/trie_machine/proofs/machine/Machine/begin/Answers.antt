use Rattle.std.proofs.Common.{rules, arith}
use Rattle.trie_machine.proofs.Machines.{begun_machine}
use Rattle.trie_machine.proofs.machine.Machine.begin.Goals as goal

pub invariant_of-self : goal.invariant_of-self
invariant_of-self c = begun_machine _ c.self.invariant c.args.key.now c.args.value.now c.deref.result.now c.in-Ok.writing (search rules)
    (c.requires.least, c.requires.most, λ i. omega (arith, c.type_inv.key i)) (c.requires.short, λ i. omega (arith, c.type_inv.value i)) (omega (arith, c.cost-cost.ensures.cost)) c.deref.ensures.value c.in-Ok.ensures
