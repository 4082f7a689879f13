use Rattle.std.proofs.Common.{◌≡◌, ℕ, List, ◌+◌, slice_index}
use Rattle.trie_image.specs.Body.{further, published}
use Rattle.trie_image.specs.Stores.{content_of, entry_of, first_further, publish_stores}
use Rattle.trie_image.specs.Planned.{publishing}
use Rattle.trie_image.proofs.Planned.{are_stores}
use Rattle.trie_image.proofs.plan.plan_from.Goals as goal

pub returns-clause-stores : goal.returns-clause-stores
returns-clause-stores g c = let w : List ℕ = g.W.WordSource.image c.args.from.now c.args.seat.now in let used : ℕ = c.args.used in let value : List ℕ = c.args.value.now in let rest : List ℕ = c.args.rest.now in let e = c.args.exit in
    let n : c.word_at.result + 1 ≡ slice_index w 0 + 1 = cc in
    let m : c.more_words.new.out ≡ further w e.meets e.stand c.args.byte (first_further used value rest) (content_of used) (entry_of used value rest) = cc in
    let p : publishing c.publish_of-slot.result.0 c.publish_of-slot.result.1 ≡ publish_stores w e.meets e.stand c.args.byte (entry_of used value rest) (published e.meets e.stand (first_further used value rest) (content_of used) (entry_of used value rest)) = cc in
    are_stores used (c.word_at.result + 1) value rest c.more_words.new.out c.publish_of-slot.result.0 c.publish_of-slot.result.1 w e c.args.byte n m p
