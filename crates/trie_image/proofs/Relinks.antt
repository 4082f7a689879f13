-- A Publish that puts one pointer in place of another, in a chain's tail, a sparse slot or a leaf's slot. This project's
-- own.
use Rattle.std.specs.Prelude.{◌≡◌, ◌⊎◌, ℕ, ◌<◌, ◌≤◌, List, Some}
use Rattle.trie_image.specs.declared.Owner.TheVariants.{ChainCell, SparseCell, TopCell, MidCell, PrefixCell}
use Rattle.trie_image.specs.declared.Ledger.{Ledger}
use Rattle.trie_image.specs.Image.{word_of, field, cell_byte}
use Rattle.trie_image.specs.Paths.{owner}
use Rattle.trie_image.specs.Same.{SameWords}

-- each pointer field stays or turns from p to p'; bytes of chains, order words, top, mid and prefix cells stay
pub record Relinks (w w' : List ℕ) (g : Ledger) (p p' : ℕ) : Type 0 where
  pub fields : (d i : ℕ) → i < 8 → (field w' d i ≡ field w d i) ⊎ ((field w d i ≡ p) × (field w' d i ≡ p'))
  pub bytes : (d from : ℕ) (t : List ℕ) (o : ℕ) → owner g d ≡ Some (ChainCell from t) → o ≤ 27 → cell_byte w' d o ≡ cell_byte w d o
  pub orders : (d : ℕ) (q : List ℕ) → owner g d ≡ Some (SparseCell q) → word_of w' d 3 ≡ word_of w d 3
  pub tops : (d : ℕ) (q : List ℕ) → owner g d ≡ Some (TopCell q) → SameWords w w' d
  pub mids : (d t i : ℕ) → owner g d ≡ Some (MidCell t i) → SameWords w w' d
  pub prefixes : (d : ℕ) (q : List ℕ) → owner g d ≡ Some (PrefixCell q) → SameWords w w' d
