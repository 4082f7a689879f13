-- What each store of a put does when its turn comes, with the stores before it made. This project's own.
use Rattle.std.specs.Prelude.{◌≡◌, ◌≢◌, ℕ, ◌+◌, ◌/◌, ◌<◌, List, [], ◌∷◌, ◌++◌, length, slice_index, slice_set}
use Rattle.trie_image.specs.declared.Put.{Put}
use Rattle.trie_image.specs.declared.Owner.{Owner}
use Rattle.trie_image.specs.declared.Ledger.{Ledger}
use Rattle.trie_image.specs.declared.StoreKind.{StoreKind}
use Rattle.trie_image.specs.declared.StoreKind.TheVariants.{Prepare, Publish, Finish}
use Rattle.trie_image.specs.declared.WordStore.{WordStore}
use Rattle.trie_image.specs.Same.{IsSame}
use Rattle.trie_image.specs.Stores.{store_at, stores_of, CanPut}
use Rattle.trie_image.specs.After.{after}
use Rattle.trie_image.specs.Publish.{put_at, with_put, IsPublished}

-- the store that counts one put more than the ledger has
abbrev pub finish_of : Ledger → WordStore
finish_of g = store_at 0 (length g.puts + 1) Finish

-- the next of these stores isn't the Finish
abbrev pub GoesOn : List WordStore → Type 0
GoesOn [] = ⊥
GoesOn (s ∷ left) = s.kind ≢ Finish

-- a Prepare store, which leads from words w to words w', changes nothing that a pointer with a path reads, and the Finish
-- doesn't come right after it
pub record IsPrepareStore (w w' : List ℕ) (g : Ledger) (s : WordStore) (left : List WordStore) : Type 0 where
  pub same : IsSame w w' g
  pub beside : s.word ≢ 0
  pub goes_on : GoesOn left

-- the publishing store adds the put and its new cells, which the stores before it filled, four words each; the Finish is left
pub record IsPublishStore (w w' : List ℕ) (g : Ledger) (cells : ℕ) (own : List Owner) (put : Put) (done : List WordStore) (s : WordStore) (left : List WordStore) : Type 0 where
  pub published : IsPublished w w' g cells own put
  pub beside : s.word ≢ 0
  pub taken : length done / 4 ≡ length own
  pub finish : left ≡ finish_of g ∷ []

-- the Finish counts the put in word 0 and changes nothing else
pub record IsFinishStore (w w' : List ℕ) (g : Ledger) (own : List Owner) (put : Put) (s : WordStore) (left : List WordStore) : Type 0 where
  pub same : IsSame w w' (with_put g own put)
  pub is_finish : s ≡ finish_of g
  pub counted : slice_index w' 0 ≡ slice_index w 0 + 1
  pub last : left ≡ []

-- what a store does, by its kind
abbrev pub Does : List ℕ → List ℕ → Ledger → ℕ → List Owner → Put → List WordStore → WordStore → List WordStore → StoreKind → Type 0
Does w w' g cells own put done s left Prepare = IsPrepareStore w w' g s left
Does w w' g cells own put done s left Publish = IsPublishStore w w' g cells own put done s left
Does w w' g cells own put done s left Finish = IsFinishStore w w' g own put s left

-- the next store of a put on an image w, where some stores are done and others left: it is of a word of the image, and does
-- what its kind says
pub record IsNextStore (w : List ℕ) (g : Ledger) (cells : ℕ) (own : List Owner) (put : Put) (done : List WordStore) (s : WordStore) (left : List WordStore) : Type 0 where
  pub words : after w (done ++ s ∷ []) ≡ slice_set (after w done) s.word s.value
  pub size : length (after w done) ≡ length w
  pub inside : s.word < length w
  pub does : Does (after w done) (after w (done ++ s ∷ [])) g cells own put done s left s.kind

-- each store of a put, in its turn, is such, with the same new cells for all of them
abbrev pub LawNextStore : Type 0
LawNextStore = (w : List ℕ) (used : ℕ) (key value : List ℕ) (can : CanPut w used key value)
    → (own : List Owner) × ((done left : List WordStore) (s : WordStore) → stores_of w used key value ≡ done ++ s ∷ left → IsNextStore w can.ledger can.cells own (put_at key value used) done s left)
