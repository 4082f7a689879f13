-- The walk at the root.
use Rattle.std.proofs.Common.{◌≡◌, ℕ, ◌<◌, List, [], length, sym, ◌∙◌, subst, arith}
use Rattle.trie_image.specs.declared.Owner.TheVariants.{HeadCell}
use Rattle.trie_image.specs.declared.Ledger.{Ledger}
use Rattle.trie_image.specs.Image.{root_of}
use Rattle.trie_image.specs.Paths.{HasPath}
use Rattle.trie_image.specs.WellFormed.{IsWellFormed, HasLedger}
use Rattle.trie_image.proofs.Kept.{own_inside}
use Rattle.shard_freeze.specs.declared.walk.Level.{Level}
use Rattle.shard_freeze.specs.Walk.{IsAt}

module _ (w : List ℕ) (g : Ledger) (cells : ℕ) (ok : IsWellFormed w g cells) where
  at_start : (here : ℕ) → here ≡ root_of w → IsAt g [] [] record { node = 0; next = 256; depth = 0 } here
  at_start here is = record {
    top_is = record { depth = omega arith; next = omega arith; path = λ l. absurd (omega arith); kind = λ l. absurd (omega arith) };
    below_are = omega arith;
    here_is = λ ne. subst (λ (p : ℕ). HasPath g p []) (sym is) (ok.image.root (λ z. ne (is ∙ z)));
  }

pub root_at : (w : List ℕ) (key : List ℕ) (below : List Level) (here : ℕ) → key ≡ [] → below ≡ [] → here ≡ root_of w
    → (g : Ledger) (cells : ℕ) → IsWellFormed w g cells → IsAt g key below record { node = 0; next = 256; depth = 0 } here
root_at w key below here no_key none is g cells ok =
    subst (λ (k : List ℕ). IsAt g k below record { node = 0; next = 256; depth = 0 } here) (sym no_key)
    (subst (λ (ls : List Level). IsAt g [] ls record { node = 0; next = 256; depth = 0 } here) (sym none) (at_start w g cells ok here is))

pub root_inside : (w : List ℕ) → HasLedger w → 1 < length w
root_inside w (g, cells, ok) = omega (arith, own_inside g.owners 0 HeadCell ok.image.head, ok.image.size, ok.image.capacity)
