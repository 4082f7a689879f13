use Rattle.std.proofs.Common.{List, ℕ, length, ap, ◌∙◌}
use Rattle.trie_image.proofs.BodyLengths.{length_seven}
use Rattle.trie_image.proofs.SplitNodeLengths.{leaves_room}
use Rattle.trie_image.proofs.split_node.push_split_node.Goals as goal

pub push_leaves-requires-clause-capacity : goal.push_leaves-requires-clause-capacity
push_leaves-requires-clause-capacity g c = leaves_room c.bytes_of_seven-bytes.result c.args.out.now c.top_cell.result c.push_cell.new.self c.push_mids.new.out c.args.top 4 c.requires.capacity c.top_cell.ensures c.push_cell.ensures c.push_mids.ensures
    (ap (λ (l : List ℕ). length l) c.bytes_of_seven-bytes.ensures ∙ length_seven c.word_at.result c.args.byte)
