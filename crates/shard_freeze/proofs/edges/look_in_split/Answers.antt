use Rattle.std.proofs.Common.{◌≡◌, ◌≢◌, ℕ, ◌/◌, ◌%◌, sym, ap, ◌∙◌, arith}
use Rattle.trie_image.specs.Image.{field}
use Rattle.shard_freeze.proofs.Skipped.{skips_leaf, skips_byte}
use Rattle.shard_freeze.proofs.edges.look_in_split.Goals as goal

pub returns-then-leaf-eq0-clause-next : goal.returns-then-leaf-eq0-clause-next
returns-then-leaf-eq0-clause-next c _ =
    let w = c.args.words.now.words in let byte = c.args.byte in
    let zero_ : c.pointer_in-leaf.result ≡ 0 = omega arith in
    skips_leaf w c.args.top byte c.requires.small (ap (λ (m : ℕ). field w (m / 32) (byte / 8 % 8)) (sym c.pointer_in-mid.ensures) ∙ sym c.pointer_in-leaf.ensures ∙ zero_)

pub returns-clause-next : goal.returns-clause-next
returns-clause-next c none =
    let w = c.args.words.now.words in let byte = c.args.byte in
    let mid : field w c.args.top (byte / 64) ≢ 0 = λ z. absurd (omega (arith, c.pointer_in-mid.ensures, z)) in
    let leaf_is : c.pointer_in-leaf.result ≡ field w (field w c.args.top (byte / 64) / 32) (byte / 8 % 8) = c.pointer_in-leaf.ensures ∙ ap (λ (m : ℕ). field w (m / 32) (byte / 8 % 8)) c.pointer_in-mid.ensures in
    skips_byte w c.args.top byte c.requires.small (ap (λ (l : ℕ). field w (l / 32) (byte % 8)) (sym leaf_is) ∙ sym c.pointer_in.ensures ∙ none) mid (λ z. absurd (omega (arith, leaf_is, z)))
