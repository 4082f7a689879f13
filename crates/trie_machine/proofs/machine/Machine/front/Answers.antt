use Rattle.std.proofs.Common.{rules, arith, ◌≡◌, ℕ, max, ap, ◌∙◌}
use Rattle.trie_image.specs.Puts.{IsKey}
use Rattle.trie_machine.proofs.Machines.{seat_inside, fronted_machine, fronted_now, read_is, has_words}
use Rattle.trie_machine.proofs.machine.Machine.front.Goals as goal

pub index_mut-requires : goal.index_mut-requires
index_mut-requires c = omega (arith, c.self.inside.readers.ok, seat_inside _ _ c.args.self.now c.self.view_is c.args.reader c.in_ok-own.own (c.resting.ensures.some c.in_ok-own.own c.in_ok-own.was))

pub invariant_of-self : goal.invariant_of-self
invariant_of-self c = fronted_machine _ _ c.args.self.now c.self.view_is c.args.reader c.in_ok-own.own (c.resting.ensures.some c.in_ok-own.own c.in_ok-own.was) c.args.key (let k : IsKey c.as_slice.result.now = search (rules, c.if-not-is_key.ensures) in rw c.as_slice.ensures at k) c.max-front.result (c.max-front.ensures ∙ ap (λ (x : ℕ). max c.in_ok-own.own x) (read_is c.self.inside.words.items 0 c.index.result.now c.index.ensures (has_words _ c.self.invariant))) c.start.result c.start.ensures c.self.invariant

pub returns-clause-made : goal.returns-clause-made
returns-clause-made c = λ n e. fronted_now _ _ c.args.self.now c.self.view_is c.args.reader c.in_ok-own.own (c.resting.ensures.some c.in_ok-own.own c.in_ok-own.was) c.args.key (let k : IsKey c.as_slice.result.now = search (rules, c.if-not-is_key.ensures) in rw c.as_slice.ensures at k) c.max-front.result (c.max-front.ensures ∙ ap (λ (x : ℕ). max c.in_ok-own.own x) (read_is c.self.inside.words.items 0 c.index.result.now c.index.ensures (has_words _ c.self.invariant))) c.start.result c.start.ensures n (let z : c.max-front.result ≡ n = cc in z)
