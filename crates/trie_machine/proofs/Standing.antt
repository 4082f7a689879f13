-- How many stores a put takes, and a walk over words that stand still.
use Rattle.std.proofs.Common.{◌≡◌, ℕ, ◌+◌, ◌*◌, ◌≤◌, List, [], ◌∷◌, ◌++◌, length, slice_index, Some, None, sym, ap, ◌∙◌, subst, arith, length-append}
use Rattle.trie_image.specs.declared.Put.{Put}
use Rattle.trie_image.specs.declared.Place.{Place}
use Rattle.trie_image.specs.declared.Ledger.{Ledger}
use Rattle.trie_image.specs.declared.Advance.{Advance}
use Rattle.trie_image.specs.declared.Advance.TheVariants.{On, Found, Absent}
use Rattle.trie_image.specs.declared.StoreKind.{StoreKind}
use Rattle.trie_image.specs.declared.StoreKind.TheVariants.{Finish}
use Rattle.trie_image.specs.declared.WordStore.{WordStore}
use Rattle.trie_image.specs.Puts.{HasLastPut}
use Rattle.trie_image.specs.Place.{next_word_of, outcome_of}
use Rattle.trie_image.specs.Stores.{store_at}
use Rattle.trie_image.specs.After.{after}
use Rattle.trie_image.specs.Publish.{put_at}
use Rattle.trie_image.specs.NextStore.{Does}
use Rattle.trie_image.specs.WellFormed.{IsWellFormed}
use Rattle.trie_image.specs.Way.{LeadsTo}
use Rattle.trie_image.proofs.PublicLaws.{law_start, law_inside, law_leads, law_shape, law_next_store}
use Rattle.trie_machine.specs.declared.Begun.{Begun}
use Rattle.trie_machine.specs.State.{IsBegun, IsWriting}
use Rattle.trie_machine.specs.Laws.{LawFewStores, WalkTells, LawStandingWalk}

-- the stores before the publishing one fill the new cells, but for at most three
few : (words : List ℕ) (cells : ℕ) (g : Ledger) (b : Begun) → IsBegun words cells g b → length b.done + length b.left ≤ 4 * cells + 1
few words cells g b u =
    let can = u.can in let begun_on = can.image in let shape = law_shape u.from u.used b.key b.value in let law = law_next_store u.from u.used b.key b.value u.can in
    let at = law.1 shape.front (store_at 0 (slice_index u.from 0 + 1) Finish ∷ []) shape.publish shape.all in
    let d = subst (λ (k : StoreKind). Does (after u.from shape.front) (after u.from (shape.front ++ shape.publish ∷ [])) can.ledger can.cells law.0 (put_at b.key b.value u.used) shape.front shape.publish (store_at 0 (slice_index u.from 0 + 1) Finish ∷ []) k) shape.published at.does in
    let ok = (d.published).well_formed in let image = ok.image in
    let all : length (b.done ++ b.left) ≡ length (shape.front ++ shape.publish ∷ store_at 0 (slice_index u.from 0 + 1) Finish ∷ []) = ap (λ (l : List WordStore). length l) (sym u.stores ∙ shape.all) in
    omega (arith, all, length-append b.done b.left, length-append shape.front (shape.publish ∷ store_at 0 (slice_index u.from 0 + 1) Finish ∷ []), d.taken, image.capacity, begun_on.image.fewer, u.cells_are, length-append (can.ledger).owners law.0)

pub few_stores : LawFewStores
few_stores m put ok e = few m.words m.cells ok.image.ledger put (subst (IsWriting m.words m.cells ok.image.ledger) e ok.writing)

-- what the walk leads to, told of the puts
tells : (words : List ℕ) (g : Ledger) (cells : ℕ) (puts : List Put) (key : List ℕ) (place : Place) → IsWellFormed words g cells → g.puts ≡ puts → (a : Advance) → LeadsTo words key place a → WalkTells words puts key place a
tells words g cells puts key place ok same (On next) h = h
tells words g cells puts key place ok same (Found rec) h = subst (λ (l : List Put). HasLastPut l key (Some rec)) same (h g cells ok)
tells words g cells puts key place ok same Absent h = subst (λ (l : List Put). HasLastPut l key None) same (h g cells ok)

pub standing_walk : LawStandingWalk
standing_walk words cells used puts key image is_key = (
  λ g c ok. law_start.0 words g key is_key.2,
  λ place way. let on = way image.ledger cells image.image in let ok = image.image in (
    law_inside words image.ledger cells key place ok.image on.0,
    tells words image.ledger cells puts key place image.image image.puts_are (outcome_of place (slice_index words (next_word_of place)) key) (law_leads words key place way),
  ),
)
