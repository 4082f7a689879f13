use Rattle.std.proofs.Common.{rules, ◌≡◌, arith, sym, ap, ◌∙◌, subst}
use Rattle.trie_image.specs.declared.Advance.{Advance}
use Rattle.trie_image.specs.declared.Place.{Place}
use Rattle.trie_image.specs.Place.{next_word_of, outcome_of}
use Rattle.trie_machine.specs.declared.Find.{Find}
use Rattle.trie_rule.specs.Fields.{front_by}
use Rattle.trie_rule.specs.Seats.{IsFindAt, ReaderAt}
use Rattle.trie_rule.proofs.Watches.{owns_load}
use Rattle.trie_rule.proofs.SeatFields.{find_at, settled}
use Rattle.trie_rule.proofs.cells.ShardCells.load_next.Goals as goal

pub next_word-word-requires : goal.next_word-word-requires
next_word-word-requires g c =
    let at = subst (λ (x : ReaderAt). IsFindAt x.knows.reader.find c.args.key.now c.args.place) (sym c.seat.view_is) c.requires.find in
    omega (arith, find_at c.seat.inside.seat c.seat.inside.front c.args.key.now c.args.place c.seat.invariant at, c.requires.own.1, ap (λ x. x.knows.cells) c.seat.view_is, c.cells-word.ensures.is, c.cells-word.ensures.most)

pub load-found-requires : goal.load-found-requires
load-found-requires g c =
    let at = subst (λ (x : ReaderAt). IsFindAt x.knows.reader.find c.args.key.now c.args.place) (sym c.seat.view_is) c.requires.find in
    let inside = find_at c.seat.inside.seat c.seat.inside.front c.args.key.now c.args.place c.seat.invariant at in (
      search rules,
      omega (arith, inside, c.next_word-word.ensures, c.requires.own.1, ap (λ x. x.knows.cells) c.seat.view_is, ap (λ x. x.cells) c.self.view_is, c.self.invariant.0),
      owns_load _ _ _ _ _ _ c.seat.invariant.0 (λ f e. let same : at.0 ≡ f = cc in c.next_word-word.ensures ∙ ap (λ (p : Place). next_word_of p) (sym at.3) ∙ ap (λ (x : Find). next_word_of x.place) same),
    )

pub invariant_of-seat : goal.invariant_of-seat
invariant_of-seat g c =
    let at = subst (λ (x : ReaderAt). IsFindAt x.knows.reader.find c.args.key.now c.args.place) (sym c.seat.view_is) c.requires.find in
    let outcome : c.advance.result ≡ outcome_of at.0.place c.load-found.result at.0.key = c.advance.ensures ∙ (λ k. outcome_of (sym at.3 k) c.load-found.result (sym at.2 k)) in
    settled c.self.inside.table.shared.table_id.slots c.next_word-word.result c.load-found.result c.seat.inside.seat c.load-found.new.seat c.seat.inside.front c.seat.inside.front at.0 c.seat.invariant at.1 c.load-found.ensures.0 c.load-found.ensures.2
    (ap (λ (a : Advance). front_by c.seat.inside.front a) (sym c.in-On.is ∙ outcome))

pub invariant_of-seat-in-Found : goal.invariant_of-seat-in-Found
invariant_of-seat-in-Found g c =
    let at = subst (λ (x : ReaderAt). IsFindAt x.knows.reader.find c.args.key.now c.args.place) (sym c.seat.view_is) c.requires.find in
    let outcome : c.advance.result ≡ outcome_of at.0.place c.load-found.result at.0.key = c.advance.ensures ∙ (λ k. outcome_of (sym at.3 k) c.load-found.result (sym at.2 k)) in
    settled c.self.inside.table.shared.table_id.slots c.next_word-word.result c.load-found.result c.seat.inside.seat c.load-found.new.seat c.seat.inside.front c.max-seat-inside.result at.0 c.seat.invariant at.1 c.load-found.ensures.0 c.load-found.ensures.2
    (c.max-seat-inside.ensures ∙ ap (λ (a : Advance). front_by c.seat.inside.front a) (sym c.in-Found.is ∙ outcome))

pub invariant_of-seat-in-Absent : goal.invariant_of-seat-in-Absent
invariant_of-seat-in-Absent g c =
    let at = subst (λ (x : ReaderAt). IsFindAt x.knows.reader.find c.args.key.now c.args.place) (sym c.seat.view_is) c.requires.find in
    let outcome : c.advance.result ≡ outcome_of at.0.place c.load-found.result at.0.key = c.advance.ensures ∙ (λ k. outcome_of (sym at.3 k) c.load-found.result (sym at.2 k)) in
    settled c.self.inside.table.shared.table_id.slots c.next_word-word.result c.load-found.result c.seat.inside.seat c.load-found.new.seat c.seat.inside.front c.seat.inside.front at.0 c.seat.invariant at.1 c.load-found.ensures.0 c.load-found.ensures.2
    (ap (λ (a : Advance). front_by c.seat.inside.front a) (sym c.in-Absent.is ∙ outcome))
