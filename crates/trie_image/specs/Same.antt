-- Two images that no pointer with a path tells apart: before and after a store of a put that isn't its Publish. This
-- project's own.
use Rattle.std.specs.Prelude.{◌≡◌, ℕ, ◌<◌, List, length, Some}
use Rattle.cell_layout.specs.Slots.{slot_at}
use Rattle.trie_image.specs.declared.Owner.{Owner}
use Rattle.trie_image.specs.declared.Owner.TheVariants.{HeadCell, SparseCell}
use Rattle.trie_image.specs.declared.Ledger.{Ledger}
use Rattle.trie_image.specs.Image.{word_of, field, root_of}
use Rattle.trie_image.specs.Paths.{owner}

-- the four words of a cell are the same
abbrev pub SameWords : List ℕ → List ℕ → ℕ → Type 0
SameWords w w' c = (i : ℕ) → i < 4 → word_of w' c i ≡ word_of w c i

-- the words of a cell that its owner reads: of a sparse cell the slots that the order word names, of cell 0 the root
abbrev pub SameCell : List ℕ → List ℕ → ℕ → Owner → Type 0
SameCell w w' c HeadCell = root_of w' ≡ root_of w
SameCell w w' c (SparseCell q) = (word_of w' c 3 ≡ word_of w c 3) × ((b s : ℕ) → slot_at (word_of w c 3) b ≡ Some s → field w' c s ≡ field w c s)
SameCell w w' c _ = SameWords w w' c

-- as many words, and every cell taken is the same to its owner
pub record IsSame (w w' : List ℕ) (g : Ledger) : Type 0 where
  pub size : length w' ≡ length w
  pub cells : (c : ℕ) (o : Owner) → owner g c ≡ Some o → SameCell w w' c o
