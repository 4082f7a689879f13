use Rattle.std.proofs.Common.{sym, arith}
use Rattle.cell_layout.proofs.Added.{slot_small}
use Rattle.trie_image.proofs.split_node.child_under.Goals as goal

pub pointer_in-requires-clause-place : goal.pointer_in-requires-clause-place
pointer_in-requires-clause-place g c = let l = slot_small c.word_at-order.result c.args.other c.in-Some.slot (sym c.in-Some.ensures) in omega (arith, l)
