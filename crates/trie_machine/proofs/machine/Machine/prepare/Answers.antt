use Rattle.std.proofs.Common.{refl}
use Rattle.trie_image.specs.declared.StoreKind.TheVariants.{Prepare}
use Rattle.trie_machine.proofs.Machines.{next_inside, prepared_machine}
use Rattle.trie_machine.proofs.machine.Machine.prepare.Goals as goal

pub returns-in_default-clause-refused : goal.returns-in_default-clause-refused
returns-in_default-clause-refused c = λ m' p. c.next_store.ensures.none c.in_default.is p.put p.store p.left p.is_next

pub store-requires-clause-inside : goal.store-requires-clause-inside
store-requires-clause-inside c = next_inside _ _ c.args.self.now c.self.view_is c.self.invariant c.in-Some.next Prepare (c.next_store.ensures.some c.in-Some.next c.in-Some.is)

pub invariant_of-self : goal.invariant_of-self
invariant_of-self c = prepared_machine _ _ c.args.self.now c.self.view_is c.self.invariant c.in-Some.next Prepare (c.next_store.ensures.some c.in-Some.next c.in-Some.is) c.store.new.words.items c.store.ensures.words c.store.new.begun c.store.ensures.begun refl
