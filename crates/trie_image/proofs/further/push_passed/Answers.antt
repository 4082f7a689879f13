use Rattle.std.proofs.Common.{◌++◌, List, ℕ, ap, ◌∙◌}
use Rattle.trie_image.proofs.BodyLemmas.{passed_there}
use Rattle.trie_image.proofs.further.push_passed.Goals as goal

pub returns-clause-words : goal.returns-clause-words
returns-clause-words g c = c.push_cell.ensures ∙ ap (λ (x : List ℕ). c.args.out.now ++ x) (c.chain_cell.ensures ∙ passed_there (g.W.WordSource.image c.args.from.now c.args.seat.now) c.args.s c.args.end c.bytes_passed-bytes.result c.if-s.false c.bytes_passed-bytes.ensures.bytes)
