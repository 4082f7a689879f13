use Rattle.std.proofs.Common.{arith, ◌≡◌, ◌∙◌, sym}
use Rattle.trie_machine.specs.Events.{value_word_at}
use Rattle.trie_machine.proofs.Machines.{copy_inside, copied_now, read_is}
use Rattle.trie_machine.proofs.machine.Machine.copy.Goals as goal

pub index-requires : goal.index-requires
index-requires c = omega (arith, c.self.inside.words.ok, copy_inside _ c.self.invariant c.args.rec c.args.word (rw c.deref-2.ensures.value at c.if-not-has_word.ensures.yes))

pub returns-clause-made : goal.returns-clause-made
returns-clause-made c = λ w e. let has = rw c.deref-2.ensures.value at c.if-not-has_word.ensures.yes in let z : c.index.result.now ≡ w = cc in
    copied_now _ _ c.args.self.now c.self.view_is c.args.rec c.args.word c.args.reader w c.in_ok-reader_of.field-0.now has (rw c.deref.ensures.value at c.in_ok-reader_of.ensures)
    (sym z ∙ read_is c.self.inside.words.items (value_word_at c.args.rec c.args.word) c.index.result.now c.index.ensures (copy_inside _ c.self.invariant c.args.rec c.args.word has))
