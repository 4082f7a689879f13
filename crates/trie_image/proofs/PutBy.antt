-- What all stores of a put do together, from which the law of the next store is cut.
use Rattle.std.specs.Prelude.{◌≡◌, ℕ, ◌+◌, ◌-◌, ◌*◌, ◌/◌, ◌<◌, ◌≤◌, List, [], ◌∷◌, ◌++◌, length, take, slice_index}
use Rattle.trie_image.specs.declared.Put.{Put}
use Rattle.trie_image.specs.declared.Owner.{Owner}
use Rattle.trie_image.specs.declared.Ledger.{Ledger}
use Rattle.trie_image.specs.declared.StoreKind.TheVariants.{Publish, Finish}
use Rattle.trie_image.specs.declared.WordStore.{WordStore}
use Rattle.trie_image.specs.WellFormed.{IsWellFormed}
use Rattle.trie_image.specs.Same.{IsSame}
use Rattle.trie_image.specs.Stores.{store_at, prepares}
use Rattle.trie_image.specs.After.{after}
use Rattle.trie_image.specs.Laws.{ArePrepares}
use Rattle.trie_image.specs.Publish.{with_put, IsPublished}

-- each store is of a word of an image of so many words, and not of word 0
abbrev pub AreInside : ℕ → List WordStore → Type 0
AreInside n [] = Unit {0}
AreInside n (s ∷ ss) = (1 ≤ s.word) × (s.word < n) × AreInside n ss

-- the stores of a put: the words of its new cells, four for each cell, and at most one store into a free slot, change nothing
-- that a pointer with a path reads, one by one; the publishing store adds the put; the last one counts it and changes nothing
-- else
pub record IsPutBy (w : List ℕ) (g : Ledger) (cells : ℕ) (put : Put) (stores : List WordStore) : Type 0 where
  pub words : List ℕ
  pub slot : List WordStore
  pub front : List WordStore
  pub publish : WordStore
  pub own : List Owner
  pub new_cells : front ≡ prepares (4 * length g.owners) words ++ slot
  pub exact : length words ≡ 4 * length own
  pub at_most_one : length slot ≤ 1
  pub all : stores ≡ front ++ publish ∷ store_at 0 (slice_index w 0 + 1) Finish ∷ []
  pub prepared : ArePrepares front
  pub is_publish : publish.kind ≡ Publish
  pub inside : AreInside (length w) (front ++ publish ∷ [])
  pub before : (n : ℕ) → IsSame w (after w (take n front)) g
  pub published : IsPublished w (after w (front ++ publish ∷ [])) g cells own put
  pub counting : IsSame (after w (front ++ publish ∷ [])) (after w stores) (with_put g own put)
  pub counted : slice_index (after w stores) 0 ≡ slice_index w 0 + 1
