use Rattle.std.proofs.Common.{refl, arith}
use Rattle.trie_image.specs.declared.StoreKind.TheVariants.{Publish}
use Rattle.trie_machine.proofs.Machines.{next_inside, is_some, filled_fit, published_machine}
use Rattle.trie_machine.proofs.machine.Machine.publish.Goals as goal

pub returns-in_default-clause-refused : goal.returns-in_default-clause-refused
returns-in_default-clause-refused c = λ m' p. c.next_store.ensures.none c.in_default.is p.put p.store p.left p.is_next

pub keep-requires-clause-fits : goal.keep-requires-clause-fits
keep-requires-clause-fits c = λ b at. let fits = filled_fit _ _ c.args.self.now c.self.view_is c.self.invariant c.in-Some.next Publish (c.next_store.ensures.some c.in-Some.next c.in-Some.is) refl b at in omega (arith, fits)

pub overflow_add-self : goal.overflow_add-self
overflow_add-self c = let some_ = is_some _ _ c.args.self.now c.self.view_is c.self.invariant c.in-Some.next Publish (c.next_store.ensures.some c.in-Some.next c.in-Some.is) in
    let fits = filled_fit _ _ c.args.self.now c.self.view_is c.self.invariant c.in-Some.next Publish (c.next_store.ensures.some c.in-Some.next c.in-Some.is) refl some_.0 some_.1 in omega (arith, fits, c.in_ok-filled.ensures.filled some_.0 some_.1)

pub store-requires-clause-inside : goal.store-requires-clause-inside
store-requires-clause-inside c = next_inside _ _ c.args.self.now c.self.view_is c.self.invariant c.in-Some.next Publish (c.next_store.ensures.some c.in-Some.next c.in-Some.is)

pub invariant_of-self-2 : goal.invariant_of-self-2
invariant_of-self-2 c = published_machine _ _ c.args.self.now c.self.view_is c.self.invariant c.in-Some.next Publish (c.next_store.ensures.some c.in-Some.next c.in-Some.is) c.store.new.words.items c.store.ensures.words c.store.new.begun c.store.ensures.begun c.keep.new.puts.items c.in_ok-filled.filled (λ b at. c.in_ok-filled.ensures.puts b at) (λ b at. c.in_ok-filled.ensures.filled b at) refl
