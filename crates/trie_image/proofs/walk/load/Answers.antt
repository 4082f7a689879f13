use Rattle.std.proofs.Common.{ℕ, slice_index, ap, arith}
use Rattle.trie_image.proofs.Inside.{place_inside}
use Rattle.trie_image.proofs.Ways.{leads}
use Rattle.trie_image.proofs.walk.load.Goals as goal

pub next_word-requires : goal.next_word-requires
next_word-requires c = let r = c.requires.image in let i = c.requires.way r.0 r.1 r.2 in let ok = r.2.image in
    omega (arith, place_inside c.args.words.now r.0 r.1 c.args.key.now c.args.place r.2.image i.0, ok.size, ok.small)

pub bounds-words-next_word : goal.bounds-words-next_word
bounds-words-next_word c = let r = c.requires.image in let i = c.requires.way r.0 r.1 r.2 in
    omega (arith, place_inside c.args.words.now r.0 r.1 c.args.key.now c.args.place r.2.image i.0, c.next_word.ensures)

pub returns : goal.returns
returns c = leads c.args.words.now c.args.key.now c.args.place (slice_index c.args.words.now c.next_word.result) c.requires.way (ap (λ (n : ℕ). slice_index c.args.words.now n) c.next_word.ensures) c.advance.result c.advance.ensures
