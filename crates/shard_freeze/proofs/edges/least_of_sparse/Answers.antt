use Rattle.std.proofs.Common.{◌≡◌, ℕ, length, slice_get, Some, ap, ◌∙◌, subst, arith}
use Rattle.cell_layout.specs.Words.{byte_of}
use Rattle.cell_layout.specs.Slots.{slots_of}
use Rattle.trie_image.specs.Image.{word_of}
use Rattle.shard_freeze.specs.Edges.{IsFirstPlace}
use Rattle.shard_freeze.proofs.Nodes.{place_slot}
use Rattle.shard_freeze.proofs.Skipped.{none_left, least_at}
use Rattle.shard_freeze.proofs.edges.least_of_sparse.Goals as goal

pub returns-then-place-sparse_count : goal.returns-then-place-sparse_count
returns-then-place-sparse_count c =
    let w = c.args.words.now.words in let at = c.first_place-place.result in
    let first : IsFirstPlace (word_of w c.args.cell 3) c.args.low at = subst (λ (x : ℕ). IsFirstPlace x c.args.low at) c.word-word.ensures c.first_place-place.ensures in
    none_left w c.args.cell c.args.low at c.requires.sparse first (omega (arith, c.sparse_count.ensures, ap (λ (x : ℕ). length (slots_of x)) c.word-word.ensures))

pub pointer_in-requires-clause-inside : goal.pointer_in-requires-clause-inside
pointer_in-requires-clause-inside c =
    let w = c.args.words.now.words in let at = c.first_place-place.result in
    let slot : slice_get (slots_of (word_of w c.args.cell 3)) at ≡ Some c.sparse_ordered-byte.result.1 = subst (λ (x : ℕ). slice_get (slots_of x) at ≡ Some c.sparse_ordered-byte.result.1) c.word-word.ensures c.sparse_ordered-byte.ensures.slot in
    omega (arith, place_slot (word_of w c.args.cell 3) at c.sparse_ordered-byte.result.1 c.requires.sparse slot)

pub returns : goal.returns
returns c =
    let w = c.args.words.now.words in let at = c.first_place-place.result in
    let first : IsFirstPlace (word_of w c.args.cell 3) c.args.low at = subst (λ (x : ℕ). IsFirstPlace x c.args.low at) c.word-word.ensures c.first_place-place.ensures in
    let slot : slice_get (slots_of (word_of w c.args.cell 3)) at ≡ Some c.sparse_ordered-byte.result.1 = subst (λ (x : ℕ). slice_get (slots_of x) at ≡ Some c.sparse_ordered-byte.result.1) c.word-word.ensures c.sparse_ordered-byte.ensures.slot in
    least_at w c.args.cell c.args.low at c.requires.sparse first c.sparse_ordered-byte.result.1 c.sparse_ordered-byte.result.0 c.pointer_in.result slot
    (c.sparse_ordered-byte.ensures.byte ∙ ap (λ (x : ℕ). byte_of x c.sparse_ordered-byte.result.1) c.word-word.ensures) c.pointer_in.ensures (omega arith) c.requires.there
