-- When an image is well formed for its owners and puts. After the trie of Apache Cassandra's InMemoryTrie.md; the
-- definition is this project's own.
use Rattle.std.specs.Prelude.{[], ◌∷◌, ◌≡◌, ◌≢◌, ℕ, ◌+◌, ◌*◌, ◌<◌, List, ◌++◌, length, slice_get, Some}
use Rattle.cell_layout.specs.Cells.{record_cells}
use Rattle.trie_image.specs.declared.Put.{Put}
use Rattle.trie_image.specs.declared.Owner.TheVariants.{HeadCell, RecordCell, TopCell, MidCell, LeafCell}
use Rattle.trie_image.specs.declared.Ledger.{Ledger}
use Rattle.trie_image.specs.Reading.{sees_from}
use Rattle.trie_image.specs.Image.{field, split_child, reading, root_of}
use Rattle.trie_image.specs.Paths.{owner, HasPath}
use Rattle.trie_image.specs.Cell.{IsImage}
use Rattle.trie_image.specs.Puts.{IsKey, IsValue, MapsTo}

-- each put of the list has its record, within the limits of keys and values
pub record HasRecords (g : Ledger) : Type 0 where
  pub records : (n j : ℕ) (put : Put) → slice_get g.puts n ≡ Some put → j < record_cells (length put.value) → owner g (put.cell + j) ≡ Some (RecordCell n j)
  pub keys : (n : ℕ) (put : Put) → slice_get g.puts n ≡ Some put → IsKey put.key
  pub values : (n : ℕ) (put : Put) → slice_get g.puts n ≡ Some put → IsValue put.value

-- the split nodes: each mid and leaf cell stands at its index in its node, and each node has a child
pub record HasSplitNodes (w : List ℕ) (g : Ledger) : Type 0 where
  pub mids : (c t i : ℕ) → owner g c ≡ Some (MidCell t i) → (i < 4) × (field w t i ≡ 32 * c + 28)
  pub tops : (c t i : ℕ) → owner g c ≡ Some (MidCell t i) → (q : List ℕ) × (owner g t ≡ Some (TopCell q))
  pub leaves : (c t i j : ℕ) → owner g c ≡ Some (LeafCell t i j) → (m : ℕ) × (owner g m ≡ Some (MidCell t i)) × (j < 8) × (field w m j ≡ 32 * c + 28)
  pub children : (c : ℕ) (q : List ℕ) → owner g c ≡ Some (TopCell q) → (b : ℕ) × (b < 256) × (split_child w c b ≢ 0)

-- the image of so many cells is well formed: each cell taken is what its owner says, every path leads towards a put's
-- key, and the root sees for every key the record of its last put
pub record IsWellFormed (w : List ℕ) (g : Ledger) (cells : ℕ) : Type 0 where
  pub image : IsImage w g cells
  pub puts : HasRecords g
  pub split : HasSplitNodes w g
  pub paths : (p : ℕ) (q : List ℕ) → HasPath g p q → (n : ℕ) × (put : Put) × (rest : List ℕ) × (slice_get g.puts n ≡ Some put) × (put.key ≡ q ++ rest)
  pub map : (key : List ℕ) → MapsTo g.puts key (sees_from (reading w) (root_of w) key)

-- the words are those of a well-formed image
abbrev pub HasLedger : List ℕ → Type 0
HasLedger w = (g : Ledger) × (cells : ℕ) × IsWellFormed w g cells

-- the ledger before the first put: cell 0 alone is taken
abbrev pub opening_ledger : Ledger
opening_ledger = record { owners = HeadCell ∷ []; puts = [] }
