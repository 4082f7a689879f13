use Rattle.std.proofs.Common.{ap, sym, subst, ◌∙◌, ◌≡◌}
use Rattle.std.specs.Mem.Slots.{slots_items}
use Rattle.trie_machine.specs.State.{HasImage}
use Rattle.trie_rule.specs.declared.views.WriteView.{WriteView}
use Rattle.trie_rule.specs.Rule.{write_view_of}
use Rattle.trie_rule.proofs.Ends.{closes}
use Rattle.trie_rule.proofs.cells.ShardCells.close.Goals as goal
use Rattle.trie_rule.proofs.cells.ShardCells.close.Goals.{After-close_with}

same : (c : After-close_with) → write_view_of c.seat.inside.seat.me.0 ≡ c.of-last.result.value.knows
same c = ap (λ s. s.knows) (c.seat.view_is ∙ sym c.of-last.ensures)

pub invariant_of-result : goal.invariant_of-result
invariant_of-result c =
    let v = c.close_with.ensures.values in
    let r = closes _ c.self.inside.table.shared.key _ c.seat.inside.seat.me (slots_items c.close_with.result.words) _ c.seat.invariant.0 v.2 in
    let P : WriteView → Type 0 = λ w. HasImage (slots_items c.close_with.result.words) w.cells w.used w.made in
    (v.0, c.close_with.ensures.counts.1 ∙ c.self.invariant.1, subst P (same c) r.1)

pub returns : goal.returns
returns c =
    let v = c.close_with.ensures.values in
    let r = closes _ c.self.inside.table.shared.key _ c.seat.inside.seat.me (slots_items c.close_with.result.words) _ c.seat.invariant.0 v.2 in
    record { words = r.0 ∙ ap (λ s. s.knows.image) c.seat.view_is; made = ap (λ s. s.knows.made) c.of-last.ensures }
