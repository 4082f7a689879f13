use Rattle.std.proofs.Common.{◌≡◌, ℕ, ◌/◌, ◌%◌, [], ◌∷◌, ap, arith}
use Rattle.cell_layout.specs.Slots.{slot_bytes}
use Rattle.trie_image.proofs.split_node.bytes_of_seven.Goals as goal

pub returns : goal.returns
unfolding slot_bytes
returns c = let w : ℕ = c.args.word in let e : w % 256 ≡ w / 1 % 256 = omega arith in
    ap (λ (x : ℕ). c.args.byte ∷ x ∷ w / 256 % 256 ∷ w / 65536 % 256 ∷ w / 16777216 % 256 ∷ w / 4294967296 % 256 ∷ w / 1099511627776 % 256 ∷ []) e
