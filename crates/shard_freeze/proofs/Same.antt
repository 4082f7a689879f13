-- Walks whose parts are equal.
use Rattle.std.proofs.Common.{◌≡◌, ℕ, ◌+◌, List, sym, ap, ◌∙◌, subst}
use Rattle.trie_image.specs.declared.Ledger.{Ledger}
use Rattle.trie_image.specs.Image.{reading}
use Rattle.shard_freeze.specs.declared.walk.Level.{Level}
use Rattle.shard_freeze.specs.Walk.{left_by_parts, IsAt, level_size, levels_size, here_size}

module _ (k k' : List ℕ) (b b' : List Level) (t t' : Level) (h h' : ℕ) (ks : k' ≡ k) (bs : b' ≡ b) (ts : t' ≡ t) (hs : h' ≡ h) where
  pub at_as : (g : Ledger) → IsAt g k b t h → IsAt g k' b' t' h'
  at_as g at = subst (λ (x : List ℕ). IsAt g x b' t' h') (sym ks) (subst (λ (x : List Level). IsAt g k x t' h') (sym bs) (subst (λ (x : Level). IsAt g k b x h') (sym ts) (subst (λ (x : ℕ). IsAt g k b t x) (sym hs) at)))

  pub left_as : (w : List ℕ) (value : ℕ → List ℕ) → left_by_parts (reading w) value k' b' t' h' ≡ left_by_parts (reading w) value k b t h
  left_as w value = ap (λ (x : List ℕ). left_by_parts (reading w) value x b' t' h') ks ∙ ap (λ (x : List Level). left_by_parts (reading w) value k x t' h') bs ∙ ap (λ (x : Level). left_by_parts (reading w) value k b x h') ts ∙ ap (λ (x : ℕ). left_by_parts (reading w) value k b t x) hs

  pub size_as : here_size k' h' + (level_size t' + levels_size b') ≡ here_size k h + (level_size t + levels_size b)
  size_as = ap (λ (x : List ℕ). here_size x h' + (level_size t' + levels_size b')) ks ∙ ap (λ (x : List Level). here_size k h' + (level_size t' + levels_size x)) bs ∙ ap (λ (x : Level). here_size k h' + (level_size x + levels_size b)) ts ∙ ap (λ (x : ℕ). here_size k x + (level_size t + levels_size b)) hs
