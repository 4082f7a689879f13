use Rattle.std.proofs.Common.{List, ◌-◌, length, slice_get, sym, ap, ◌∙◌, arith}
use Rattle.trie_image.specs.declared.WordStore.{WordStore}
use Rattle.trie_image.proofs.Planned.{length_stores, store_of_word, store_after}
use Rattle.trie_image.proofs.put_plan.PutPlan.store.Goals as goal

pub last_store-requires : goal.last_store-requires
last_store-requires c = let p = c.self.inside in omega (arith, c.requires, c.self.invariant, length_stores p.used p.number p.value.now p.rest.now p.more.now p.slot p.publish, ap (λ (l : List WordStore). length l) c.self.view_is)

pub returns-then-place-self : goal.returns-then-place-self
returns-then-place-self c = let p = c.self.inside in ap (λ (l : List WordStore). slice_get l c.args.place) (sym c.self.view_is) ∙ store_of_word p.used p.number p.value.now p.rest.now p.more.now p.slot p.publish c.args.place c.word_of_plan.result c.word_of_plan.ensures

pub returns-else-place-self : goal.returns-else-place-self
returns-else-place-self c = let p = c.self.inside in ap (λ (l : List WordStore). slice_get l c.args.place) (sym c.self.view_is)
    ∙ store_after p.used p.number p.value.now p.rest.now p.more.now p.slot p.publish c.args.place (c.args.place - p.count) c.last_store.result (omega (arith, c.self.invariant)) c.last_store.ensures
