use Rattle.std.proofs.Common.{◌≡◌, List, ℕ, sym, ap, ◌∙◌, subst}
use Rattle.trie_image.specs.declared.Put.{Put}
use Rattle.trie_image.specs.Puts.{HasLastPut}
use Rattle.trie_image.specs.WellFormed.{IsWellFormed, HasLedger}
use Rattle.owned_image.specs.Held.{Held}
use Rattle.owned_image.proofs.Image.lookup.Goals as goal

pub lookup-requires-clause-image : goal.lookup-requires-clause-image
lookup-requires-clause-image c = let h = c.self.invariant.1 in
    subst (λ (w : List ℕ). HasLedger w) (sym c.as_slice.ensures.value) (h.ledger, h.cells, h.image)

pub returns : goal.returns
returns c = λ puts h.
    let words : c.args.self.now.words ≡ c.as_slice.result.now = sym (c.as_slice.ensures.value ∙ ap (λ (i : Held). i.words) c.self.view_is) in
    subst (λ (l : List Put). HasLastPut l c.args.key.now c.lookup.result) h.puts_are
    (c.lookup.ensures h.ledger h.cells (subst (λ (w : List ℕ). IsWellFormed w h.ledger h.cells) words h.image))
