-- The puts of an image and the map that they leave. This project's own.
use Rattle.std.specs.Prelude.{◌≡◌, ◌≢◌, ℕ, ◌+◌, ◌<◌, ◌≤◌, List, length, slice_get, slice_index, Option, Some, None}
use Rattle.cell_layout.specs.Words.{ItemsAreBytes}
use Rattle.trie_image.specs.declared.Put.{Put}
use Rattle.trie_image.specs.declared.Rec.{Rec}

-- the limits of a put's key and of its value
abbrev pub IsKey : List ℕ → Type 0
IsKey key = (1 ≤ length key) × (length key ≤ 2048) × ItemsAreBytes key

abbrev pub IsValue : List ℕ → Type 0
IsValue value = (length value ≤ 65535) × ItemsAreBytes value

-- put number n, from 0, is the key's last put: no later put has the key
pub record IsLastPut (puts : List Put) (key : List ℕ) (n : ℕ) (put : Put) : Type 0 where
  pub is_there : slice_get puts n ≡ Some put
  pub same_key : put.key ≡ key
  pub last : (m : ℕ) (later : Put) → n < m → slice_get puts m ≡ Some later → later.key ≢ key

-- no put has the key
abbrev pub HasNoPut : List Put → List ℕ → Type 0
HasNoPut puts key = (m : ℕ) (put : Put) → slice_get puts m ≡ Some put → put.key ≢ key

-- what the map of the puts has at the key, as the first cell of the last put's record
abbrev pub MapsTo : List Put → List ℕ → Option ℕ → Type 0
MapsTo puts key None = HasNoPut puts key
MapsTo puts key (Some cell) = (n : ℕ) × (put : Put) × IsLastPut puts key n put × (put.cell ≡ cell)

-- the record of put number n, from 0: its first cell, its number, from 1, and its value's length
pub record IsRecOf (puts : List Put) (n : ℕ) (put : Put) (rec : Rec) : Type 0 where
  pub is_there : slice_get puts n ≡ Some put
  pub cell : rec.cell ≡ put.cell
  pub number : rec.number ≡ n + 1
  pub len : rec.length ≡ length put.value

-- what the map of the puts has at the key: the record of its last put
abbrev pub HasLastPut : List Put → List ℕ → Option Rec → Type 0
HasLastPut puts key None = HasNoPut puts key
HasLastPut puts key (Some rec) = (n : ℕ) × (put : Put) × IsLastPut puts key n put × IsRecOf puts n put rec
