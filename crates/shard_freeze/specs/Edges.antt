-- The least child of a node under a byte that isn't below another. This project's own.
use Rattle.std.specs.Prelude.{◌≡◌, ◌≢◌, ℕ, ◌+◌, ◌*◌, ◌/◌, ◌<◌, ◌≤◌, ◌^◌, List, length, slice_get, Option, Some, None}
use Rattle.cell_layout.specs.Words.{byte_of}
use Rattle.cell_layout.specs.Slots.{slots_of, child_count}
use Rattle.trie_image.specs.declared.Ledger.{Ledger}
use Rattle.trie_image.specs.Image.{field}
use Rattle.trie_image.specs.Paths.{HasPath}
use Rattle.trie_image.specs.WellFormed.{IsWellFormed}
use Rattle.shard_freeze.specs.declared.edges.Edge.{Edge}

-- a child that is there, under a byte that isn't below `low`, and none under a byte between
pub record IsLeastChild (child : ℕ → ℕ) (low : ℕ) (e : Edge) : Type 0 where
  pub byte : e.byte < 256
  pub least : low ≤ e.byte
  pub is : e.to ≡ child e.byte
  pub there : e.to ≢ 0
  pub before : (c : ℕ) → low ≤ c → c < e.byte → child c ≡ 0

-- the least child, or none where there is none under any byte from `low` on
abbrev pub LeastChild : (ℕ → ℕ) → ℕ → Option Edge → Type 0
LeastChild child low None = (c : ℕ) → low ≤ c → c < 256 → child c ≡ 0
LeastChild child low (Some e) = IsLeastChild child low e

-- in the order of bytes, the children before this place have bytes below `low`, and the one at it, if there is one,
-- hasn't
pub record IsFirstPlace (word low place : ℕ) : Type 0 where
  pub most : place ≤ child_count word
  pub before : (i s : ℕ) → i < place → slice_get (slots_of word) i ≡ Some s → byte_of word s < low
  pub here : (s : ℕ) → slice_get (slots_of word) place ≡ Some s → low ≤ byte_of word s

-- a split node's cells lie in the image
pub record HasSplitCells (w : List ℕ) (top : ℕ) : Type 0 where
  pub small : top < 2 ^ 27
  pub head : 4 * top + 3 < length w
  pub mids : (i : ℕ) → i < 4 → field w top i ≢ 0 → 4 * (field w top i / 32) + 3 < length w
  pub leaves : (i j : ℕ) → i < 4 → j < 8 → field w top i ≢ 0 → field w (field w top i / 32) j ≢ 0
      → 4 * (field w (field w top i / 32) j / 32) + 3 < length w

-- no child stands under the bytes from one to before the next, which is at most 256
pub record SkipsBytes (child : ℕ → ℕ) (byte next : ℕ) : Type 0 where
  pub more : byte < next
  pub most : next ≤ 256
  pub none : (c : ℕ) → byte ≤ c → c < next → child c ≡ 0

-- the pointer has a path, whatever the ledger is
abbrev pub HasSomePath : List ℕ → ℕ → Type 0
HasSomePath w p = (g : Ledger) (cells : ℕ) → IsWellFormed w g cells → (q : List ℕ) × HasPath g p q
