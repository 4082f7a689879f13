use Rattle.std.proofs.Common.{arith, ◌∙◌, ap, Option, Some, set}
use Rattle.std.proofs.lemmas.Option.{get_or_from_slice_get}
use Rattle.trie_machine.specs.declared.Reader.{Reader}
use Rattle.trie_machine.proofs.Lists.{is_there, get_inside, set_again}
use Rattle.trie_machine.proofs.seats.step.Goals as goal

pub index_mut-requires : goal.index_mut-requires
index_mut-requires c = let h = c.requires in omega (arith, c.args.readers.now.ok, get_inside c.args.readers.now.items c.args.reader (Some h.0) (is_there c.args.readers.now.items c.args.reader (Some h.0) h.2))

pub index_mut-requires-2 : goal.index_mut-requires-2
index_mut-requires-2 c = let h = c.requires in omega (arith, c.args.readers.now.ok, get_inside c.args.readers.now.items c.args.reader (Some h.0) (is_there c.args.readers.now.items c.args.reader (Some h.0) h.2))

pub returns-clause-readers : goal.returns-clause-readers
returns-clause-readers c = λ r f at is. set_again c.args.readers.now.items c.args.reader c.replace-taken.new.dest c.after-after.result.0
    ∙ ap (λ (o : Option Reader). set c.args.readers.now.items c.args.reader o) (c.after-after.ensures.reader r f (c.replace-taken.ensures.value ∙ (c.index_mut.ensures.value ∙ get_or_from_slice_get c.args.readers.now.items c.args.reader (Some r) _ (is_there c.args.readers.now.items c.args.reader (Some r) at))) is)

pub returns-clause-answer : goal.returns-clause-answer
returns-clause-answer c = λ r f at is. c.after-after.ensures.answer r f (c.replace-taken.ensures.value ∙ (c.index_mut.ensures.value ∙ get_or_from_slice_get c.args.readers.now.items c.args.reader (Some r) _ (is_there c.args.readers.now.items c.args.reader (Some r) at))) is
