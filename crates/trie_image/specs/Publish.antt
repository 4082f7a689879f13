-- What the stores of a put do to a well-formed image. This project's own.
use Rattle.std.specs.Prelude.{◌≡◌, ◌⊎◌, ℕ, ◌+◌, ◌-◌, ◌*◌, ◌/◌, ◌<◌, ◌≤◌, List, [], ◌∷◌, ◌++◌, length, take, slice_index, Some}
use Rattle.trie_image.specs.declared.Put.{Put}
use Rattle.trie_image.specs.declared.Owner.{Owner}
use Rattle.trie_image.specs.declared.Ledger.{Ledger}
use Rattle.trie_image.specs.declared.Place.{Place}
use Rattle.trie_image.specs.declared.StoreKind.TheVariants.{Publish, Finish}
use Rattle.trie_image.specs.declared.WordStore.{WordStore}
use Rattle.trie_image.specs.Reading.{sees}
use Rattle.trie_image.specs.Image.{reading}
use Rattle.trie_image.specs.Paths.{HasPath}
use Rattle.trie_image.specs.WellFormed.{IsWellFormed}
use Rattle.trie_image.specs.Same.{IsSame}
use Rattle.trie_image.specs.Place.{IsPlace, place_sees}
use Rattle.trie_image.specs.Stores.{store_at, prepares, stores_of, CanPut}
use Rattle.trie_image.specs.After.{after}
use Rattle.trie_image.specs.Laws.{ArePrepares}

-- the put whose record begins at the cell
abbrev pub put_at : List ℕ → List ℕ → ℕ → Put
put_at key value cell = record { key = key; value = value; cell = cell }

-- the ledger with the owners of a put's new cells and the put
abbrev pub with_put : Ledger → List Owner → Put → Ledger
with_put g own put = record { owners = g.owners ++ own; puts = g.puts ++ put ∷ [] }

-- after the publishing store the image is well formed with the put added; each pointer with a path sees what it saw, or its
-- path and the rest are the put's key and it sees the new record; each place of a walk is one of the new image, and sees what
-- it saw, or its key is the put's and it sees the new record
pub record IsPublished (w w' : List ℕ) (g : Ledger) (cells : ℕ) (own : List Owner) (put : Put) : Type 0 where
  pub well_formed : IsWellFormed w' (with_put g own put) cells
  pub pointers : (k : List ℕ) (a : ℕ) (q : List ℕ) → HasPath g a q → (sees (reading w') a k ≡ sees (reading w) a k) ⊎ ((q ++ k ≡ put.key) × (sees (reading w') a k ≡ Some put.cell))
  pub places : (k : List ℕ) (pl : Place) → IsPlace w g k pl → IsPlace w' (with_put g own put) k pl × ((place_sees w' k pl ≡ place_sees w k pl) ⊎ ((k ≡ put.key) × (place_sees w' k pl ≡ Some put.cell)))
