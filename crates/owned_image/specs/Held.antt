-- What an image that owns its words holds, and what a put adds to it. This project's own.
use Rattle.std.specs.Prelude.{◌≡◌, ℕ, ◌+◌, ◌*◌, ◌≤◌, List, [], ◌∷◌, ◌++◌, length, slice_index}
use Rattle.trie_image.specs.declared.Put.{Put}
use Rattle.trie_image.specs.declared.Ledger.{Ledger}
use Rattle.trie_image.specs.WellFormed.{IsWellFormed}
use Rattle.trie_image.specs.Stores.{stores_of, cost}
use Rattle.trie_image.specs.After.{after}
use Rattle.trie_image.specs.Publish.{put_at}

-- the words of an image, and the number of cells taken
pub record Held : Type 0 where
  pub words : List ℕ
  pub used : ℕ

-- the image is well formed for these puts, and counts its cells and its puts
pub record HoldsPuts (i : Held) (puts : List Put) : Type 0 where
  pub ledger : Ledger
  pub cells : ℕ
  pub image : IsWellFormed i.words ledger cells
  pub puts_are : ledger.puts ≡ puts
  pub taken : i.used ≡ length ledger.owners
  pub number : slice_index i.words 0 ≡ length ledger.puts

-- it does so for some puts
abbrev pub HasPuts : Held → Type 0
HasPuts i = (puts : List Put) × HoldsPuts i puts

-- the limits of key and value hold, and there is room for the put's cost
pub record TakesPut (i : Held) (key value : List ℕ) : Type 0 where
  pub least : 1 ≤ length key
  pub most : length key ≤ 2048
  pub short : length value ≤ 65535
  pub capacity : 4 * (i.used + cost (length key) (length value)) ≤ length i.words

-- after a put the words are those after its stores, and the puts have it at their end
pub record PutsOne (i i' : Held) (key value : List ℕ) : Type 0 where
  pub stores : i'.words ≡ after i.words (stores_of i.words i.used key value)
  pub added : (puts : List Put) → HoldsPuts i puts → HoldsPuts i' (puts ++ put_at key value i.used ∷ [])
