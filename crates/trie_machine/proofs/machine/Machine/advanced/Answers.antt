use Rattle.std.proofs.Common.{arith, ◌≡◌, ◌<◌, ◌∙◌, sym, length}
use Rattle.trie_machine.proofs.Machines.{find_inside, outcome_is, advanced_now, read_is}
use Rattle.trie_machine.proofs.machine.Machine.advanced.Goals as goal

pub next_word-requires : goal.next_word-requires
next_word-requires c = let inside = find_inside _ c.self.invariant c.args.reader c.in_ok-r.r.now c.in-Some.find (rw c.deref.ensures.value at c.in_ok-r.ensures) c.in-Some.is in omega (arith, inside.0, inside.1)

pub index-word-requires : goal.index-word-requires
index-word-requires c = let inside = find_inside _ c.self.invariant c.args.reader c.in_ok-r.r.now c.in-Some.find (rw c.deref.ensures.value at c.in_ok-r.ensures) c.in-Some.is in omega (arith, inside.0, c.next_word.ensures, c.self.inside.words.ok)

pub returns-clause-some : goal.returns-clause-some
returns-clause-some c = λ a e. let at = rw c.deref.ensures.value at c.in_ok-r.ensures in let inside = find_inside _ c.self.invariant c.args.reader c.in_ok-r.r.now c.in-Some.find at c.in-Some.is in
    let is : c.advance.result ≡ a = cc in let here : c.next_word.result < length c.self.inside.words.items = omega (arith, inside.0, c.next_word.ensures) in
    advanced_now _ _ c.args.self.now c.self.view_is c.args.reader c.in_ok-r.r.now c.in-Some.find a at c.in-Some.is
    (sym is ∙ outcome_is c.self.inside.words.items c.in-Some.find c.advance.result c.index-word.result.now c.next_word.result c.as_slice.result.now c.advance.ensures c.as_slice.ensures (read_is c.self.inside.words.items c.next_word.result c.index-word.result.now c.index-word.ensures here) c.next_word.ensures)
