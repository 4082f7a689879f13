-- The stores of a put as a plan of fixed size has them. This project's own.
use Rattle.std.specs.Prelude.{ℕ, ◌+◌, ◌*◌, List, [], ◌∷◌, ◌++◌, length, Option, Some, None}
use Rattle.cell_layout.specs.Cells.{record_cells, record_words, chain_cells, chain_from}
use Rattle.trie_image.specs.declared.StoreKind.TheVariants.{Finish}
use Rattle.trie_image.specs.declared.WordStore.{WordStore}
use Rattle.trie_image.specs.Stores.{store_at, prepares, content_of}

-- a slot's store, where there is one, and the publishing store
abbrev pub publishing : Option WordStore → WordStore → List WordStore
publishing None publish = publish ∷ []
publishing (Some slot) publish = slot ∷ publish ∷ []

-- the words of the record, of the chain of the rest and of the further cells
unfoldable pub words_planned : ℕ → ℕ → List ℕ → List ℕ → List ℕ → List ℕ
words_planned used number value rest more = record_words number value ++ chain_from (used + record_cells (length value)) (chain_cells (length rest)) rest (content_of used) ++ more

-- all stores
unfoldable pub stores_planned : ℕ → ℕ → List ℕ → List ℕ → List ℕ → Option WordStore → WordStore → List WordStore
stores_planned used number value rest more slot publish = prepares (4 * used) (words_planned used number value rest more) ++ publishing slot publish ++ store_at 0 number Finish ∷ []
