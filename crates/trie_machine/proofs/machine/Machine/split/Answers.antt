use Rattle.std.proofs.Common.{arith, ◌≡◌}
use Rattle.trie_machine.proofs.Machines.{split_of, split_machine, split_now}
use Rattle.trie_machine.proofs.machine.Machine.split.Goals as goal

pub invariant_of-self-2 : goal.invariant_of-self-2
invariant_of-self-2 c = split_machine _ c.args.from c.in-Some.reader.now (rw c.deref.ensures.value at c.in-Some.ensures) (omega (arith, c.self.inside.readers.ok, c.len-count.ensures)) c.push.new.self.items c.in_ok-push.ensures.items c.self.invariant

pub returns-clause-made : goal.returns-clause-made
returns-clause-made c = λ n e. split_now _ _ c.args.self.now c.self.view_is c.push.new.self.items c.args.from c.len-count.result n
    (split_of _ c.args.from c.in-Some.reader.now (rw c.deref.ensures.value at c.in-Some.ensures) (omega (arith, c.self.inside.readers.ok, c.len-count.ensures)) c.push.new.self.items c.in_ok-push.ensures.items)
    (omega (arith, c.self.inside.readers.ok, c.len-count.ensures)) (let z : c.len-count.result ≡ n = cc in z)
