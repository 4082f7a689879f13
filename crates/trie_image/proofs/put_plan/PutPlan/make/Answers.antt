use Rattle.std.proofs.Common.{List, ℕ, ◌+◌, ◌*◌, refl, ap, ◌∙◌}
use Rattle.trie_image.specs.declared.WordStore.{WordStore}
use Rattle.trie_image.specs.After.{after}
use Rattle.trie_image.specs.Stores.{prepares}
use Rattle.trie_image.proofs.Made.{plan_made}
use Rattle.trie_image.proofs.put_plan.PutPlan.make.Goals as goal

pub returns : goal.returns
returns c = let p = c.self.inside in let at : ℕ = 4 * (p.used + p.value_cells + p.rest_cells) in
    plan_made p.used p.number p.value.now p.rest.now p.more.now p.slot p.publish c.args.words.now c.make_record.new.words c.make_chain.new.words c.make_words.new.words c.make_last.new.words p.value_cells p.rest_cells at
    c.self.invariant.4 c.self.invariant.5 refl c.make_record.ensures c.make_chain.ensures (c.make_words.ensures ∙ ap (λ (l : List ℕ). after c.make_chain.new.words (prepares at l)) c.as_slice.ensures) c.make_last.ensures
    ∙ ap (λ (l : List WordStore). after c.args.words.now l) c.self.view_is
