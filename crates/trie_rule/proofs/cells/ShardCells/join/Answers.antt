use Rattle.std.proofs.Common.{rules, ap, refl, sym, subst, ◌∙◌}
use Rattle.trie_rule.specs.Fields.{HoldsReader}
use Rattle.trie_rule.proofs.Watches.{owns_load, owns_join}
use Rattle.trie_rule.proofs.SeatFields.{reads_again, is_idle, joined}
use Rattle.trie_rule.proofs.cells.ShardCells.join.Goals as goal

pub join_seat-requires : goal.join_seat-requires
join_seat-requires c = let a = c.into.invariant in let b = c.from.invariant in
    (search rules, search rules, ap (λ m. m.1) b.0, search rules, owns_join _ _ 0 _ _ _ _ (ap (λ m. m.0) a.0) (ap (λ m. m.0) b.0) (ap (λ x. x.knows.reader.find) c.into.view_is ∙ c.requires.idle.1) (ap (λ x. x.knows.reader.find) c.from.view_is ∙ c.requires.idle.0))

pub load-into-inside-requires : goal.load-into-inside-requires
load-into-inside-requires c =
    let j = c.join_seat.ensures.2 in
    let bare = ap (λ m. m.1) c.into.invariant.0 in
    (search rules, search rules, owns_load _ _ _ _ _ 0 (reads_again c.join_seat.new.seat.me _ _ j bare) (λ f h. absurd (is_idle c.join_seat.new.seat.me _ _ j refl f h)))

pub invariant_of-into : goal.invariant_of-into
invariant_of-into c =
    let a = c.into.invariant in let b = c.from.invariant in let own = c.requires.own in let j = c.join_seat.ensures in
    let cells = ap (λ x. x.knows.cells) c.from.view_is ∙ own.0.1 ∙ sym own.1.1 ∙ ap (λ x. x.knows.cells) (sym c.into.view_is) in
    subst (λ front. HoldsReader c.load-into-inside.new.seat front) (sym c.max-into-inside.ensures)
    (joined c.self.inside.table.shared.table_id.slots c.load-into-inside.result c.into.inside.seat c.from.inside.seat c.join_seat.new.seat c.load-into-inside.new.seat c.into.inside.front c.from.inside.front a b
    (ap (λ x. x.knows.reader.find) c.into.view_is ∙ c.requires.idle.1) cells j.0 j.2 c.load-into-inside.ensures.0 c.load-into-inside.ensures.2)
