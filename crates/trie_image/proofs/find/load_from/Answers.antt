use Rattle.std.proofs.Common.{ℕ, slice_index, ap, arith, ◌∙◌}
use Rattle.trie_image.proofs.Inside.{place_inside}
use Rattle.trie_image.proofs.Ways.{leads}
use Rattle.trie_image.proofs.find.load_from.Goals as goal

pub next_word-requires : goal.next_word-requires
next_word-requires g c = let r = c.requires.image in let i = c.requires.way r.0 r.1 r.2 in let ok = r.2.image in
    omega (arith, place_inside (g.W.WordSource.image c.args.from.now c.args.seat.now) r.0 r.1 c.args.key.now c.args.place r.2.image i.0, ok.size, ok.small)

pub returns-clause-leads : goal.returns-clause-leads
returns-clause-leads g c = leads (g.W.WordSource.image c.args.from.now c.args.seat.now) c.args.key.now c.args.place c.word-word.result c.requires.way (c.word-word.ensures.word ∙ ap (λ (n : ℕ). slice_index (g.W.WordSource.image c.args.from.now c.args.seat.now) n) c.next_word.ensures) c.advance.result c.advance.ensures
