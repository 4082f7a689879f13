-- The stores of a put, in their order, as a function of the image, the number of cells taken, the key and the value. This
-- project's own.
use Rattle.std.specs.Prelude.{◌≡◌, ℕ, ◌+◌, ◌-◌, ◌*◌, ◌/◌, ◌%◌, ◌^◌, ◌==◌, ◌≤◌, List, [], ◌∷◌, ◌++◌, length, drop, slice_index}
use Rattle.cell_layout.specs.Words.{with_half_of}
use Rattle.cell_layout.specs.Slots.{child_count, word_with}
use Rattle.cell_layout.specs.Cells.{record_cells, record_words, chain_cells, chain_from, chain_entry}
use Rattle.trie_image.specs.declared.StoreKind.{StoreKind}
use Rattle.trie_image.specs.declared.StoreKind.TheVariants.{Prepare, Publish, Finish}
use Rattle.trie_image.specs.declared.WordStore.{WordStore}
use Rattle.trie_image.specs.declared.Ledger.{Ledger}
use Rattle.trie_image.specs.declared.exit.Stand.{Stand}
use Rattle.trie_image.specs.declared.exit.Meets.{Meets}
use Rattle.trie_image.specs.declared.exit.Meets.TheVariants.{Content, Nothing, End, Sparse, PastContent}
use Rattle.trie_image.specs.declared.exit.Exit.{Exit}
use Rattle.trie_image.specs.Image.{word_of}
use Rattle.trie_image.specs.Puts.{IsKey, IsValue}
use Rattle.trie_image.specs.WellFormed.{IsWellFormed}
use Rattle.trie_image.specs.Exit.{exit_of}
use Rattle.trie_image.specs.Body.{further, published}

-- a store of a word
abbrev pub store_at : ℕ → ℕ → StoreKind → WordStore
store_at word value kind = record { word = word; value = value; kind = kind }

-- the words of new cells, from a word on, each prepared once
abbrev pub prepares : ℕ → List ℕ → List WordStore
prepares at [] = []
prepares at (x ∷ xs) = store_at at x Prepare ∷ prepares (at + 1) xs

-- a pointer stored in a field of a cell, the other half of the word as it was
abbrev pub field_store : List ℕ → ℕ → ℕ → ℕ → StoreKind → WordStore
field_store w cell place p kind = store_at (4 * cell + place / 2) (with_half_of (word_of w cell (place / 2)) (place % 2 == 1) p) kind

-- the bytes of the key that the new chain takes
abbrev pub rest_of : List ℕ → Meets → ℕ → List ℕ
rest_of key Content taken = []
rest_of key End taken = []
rest_of key Nothing taken = drop taken key
rest_of key PastContent taken = drop taken key
rest_of key _ taken = drop (taken + 1) key

-- the content pointer to the record whose first cell this is
abbrev pub content_of : ℕ → ℕ
content_of used = 2 ^ 32 - 1 - used

-- the pointer to the chain of the rest, and the first of the further cells
abbrev pub entry_of : ℕ → List ℕ → List ℕ → ℕ
entry_of used value rest = chain_entry (used + record_cells (length value)) rest (content_of used)

abbrev pub first_further : ℕ → List ℕ → List ℕ → ℕ
first_further used value rest = used + record_cells (length value) + chain_cells (length rest)

-- the words of all cells of a put: the record, the chain of the rest, the further cells
unfoldable pub body_words : List ℕ → ℕ → ℕ → List ℕ → List ℕ → Exit → ℕ → List ℕ
body_words w used number value rest e b = record_words number value ++ chain_from (used + record_cells (length value)) (chain_cells (length rest)) rest (content_of used)
    ++ further w e.meets e.stand b (first_further used value rest) (content_of used) (entry_of used value rest)

-- the stores that make the new cells reachable: in a sparse node with room the free slot and then the order word, else one
-- pointer
abbrev pub publish_stores : List ℕ → Meets → Stand → ℕ → ℕ → ℕ → List WordStore
publish_stores w Sparse s b entry p = field_store w s.cell (child_count (word_of w s.cell 3)) entry Prepare ∷ store_at (4 * s.cell + 3) (word_with (word_of w s.cell 3) b) Publish ∷ []
publish_stores w _ s b entry p = field_store w s.cell s.field p Publish ∷ []

-- all stores, where the walk leaves the trie at e, the new chain takes the rest, and b is the key's byte there
abbrev pub stores_from : List ℕ → ℕ → List ℕ → List ℕ → Exit → ℕ → List WordStore
stores_from w used value rest e b = prepares (4 * used) (body_words w used (slice_index w 0 + 1) value rest e b)
    ++ publish_stores w e.meets e.stand b (entry_of used value rest) (published e.meets e.stand (first_further used value rest) (content_of used) (entry_of used value rest))
    ++ store_at 0 (slice_index w 0 + 1) Finish ∷ []

-- the stores of a put
abbrev pub stores_of : List ℕ → ℕ → List ℕ → List ℕ → List WordStore
stores_of w used key value = stores_from w used value (rest_of key (exit_of w key).meets (exit_of w key).taken) (exit_of w key) (slice_index key (exit_of w key).taken)

-- at most so many cells are taken by a put of a key and a value of these lengths
abbrev pub cost : ℕ → ℕ → ℕ
cost k v = record_cells v + chain_cells k + 16

-- the put is one for a well-formed image: word 0 has the number of its puts, the limits of key and value hold, and there
-- is room for the put's cost
pub record CanPut (w : List ℕ) (used : ℕ) (key value : List ℕ) : Type 0 where
  pub ledger : Ledger
  pub cells : ℕ
  pub image : IsWellFormed w ledger cells
  pub taken : used ≡ length ledger.owners
  pub number : slice_index w 0 ≡ length ledger.puts
  pub is_key : IsKey key
  pub is_value : IsValue value
  pub capacity : used + cost (length key) (length value) ≤ cells
