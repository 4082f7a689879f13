use Rattle.std.proofs.Common.{Option, Some, sym, ap, ◌∙◌}
use Rattle.trie_machine.specs.declared.Reader.{Reader}
use Rattle.trie_machine.proofs.Lists.{there_is, is_there}
use Rattle.trie_machine.proofs.seats.reader_of.Goals as goal

pub returns-in_default : goal.returns-in_default
returns-in_default c = λ r at. let f = rw c.in_default.is at c.place_of.ensures in let e = f ∙ is_there c.args.readers.now c.args.reader (Some r) at in cc

pub returns-in-None : goal.returns-in-None
returns-in-None c = λ r at. let f = rw c.in-Some.is at c.place_of.ensures in let e = f ∙ is_there c.args.readers.now c.args.reader (Some r) at in
    let z = ap (λ (x : Option Reader). Some x) c.in-None.is in let both = sym z ∙ e in cc

pub returns-in-Some-place : goal.returns-in-Some-place
returns-in-Some-place c = let f = rw c.in-Some.is at c.place_of.ensures in let z = ap (λ (x : Option Reader). Some x) c.in-Some-place.is in there_is c.args.readers.now c.args.reader (Some c.in-Some-place.r) (sym f ∙ z)
