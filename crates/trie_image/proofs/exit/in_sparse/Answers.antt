use Rattle.std.proofs.Common.{sym, arith}
use Rattle.cell_layout.proofs.Added.{slot_small}
use Rattle.trie_image.proofs.exit.in_sparse.Goals as goal

pub standing_in-requires-clause-place : goal.standing_in-requires-clause-place
standing_in-requires-clause-place g c = let l = slot_small c.word_at-order.result c.args.byte c.in-Some.slot (sym c.in-Some.ensures) in omega (arith, l)
