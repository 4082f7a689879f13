use Rattle.std.proofs.Common.{◌≡◌}
use Rattle.trie_machine.proofs.Machines.{moved_machine, moved_now, moved_legal}
use Rattle.trie_machine.proofs.machine.Machine.load.Goals as goal

pub invariant_of-self : goal.invariant_of-self
invariant_of-self c = moved_machine _ _ c.args.self.now c.self.view_is c.args.reader c.in_ok-advance.advance (c.advanced.ensures.some c.in_ok-advance.advance c.in_ok-advance.was) c.step.new.readers.items c.step.ensures.readers c.self.invariant

pub returns-clause-made : goal.returns-clause-made
returns-clause-made c = λ o e. moved_now _ _ c.args.self.now c.self.view_is c.args.reader c.in_ok-advance.advance (c.advanced.ensures.some c.in_ok-advance.advance c.in_ok-advance.was) c.step.new.readers.items c.step.ensures.readers c.step.result o c.step.ensures.answer (let z : c.step.result ≡ o = cc in z)

pub returns-clause-legal : goal.returns-clause-legal
returns-clause-legal c = λ o e. moved_legal _ _ c.args.self.now c.self.view_is c.args.reader c.in_ok-advance.advance (c.advanced.ensures.some c.in_ok-advance.advance c.in_ok-advance.was) c.self.invariant c.step.result o c.step.ensures.answer (let z : c.step.result ≡ o = cc in z)
