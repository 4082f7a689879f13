-- The writer after a put. This project's own.
use Rattle.std.specs.Prelude.{◌≡◌, ℕ, ◌+◌, ◌-◌, ◌/◌, ◌<◌, List, [], ◌∷◌, ◌++◌, length, drop, None}
use Rattle.trie_image.specs.declared.WordStore.{WordStore}
use Rattle.trie_image.specs.Stores.{stores_of, cost}
use Rattle.trie_image.specs.Publish.{put_at}
use Rattle.trie_image.specs.After.{after}
use Rattle.trie_machine.specs.declared.Begun.{Begun}
use Rattle.trie_machine.specs.Events.{with_done}
use Rattle.trie_rule.specs.declared.views.WriteView.{WriteView}
use Rattle.trie_rule.specs.Kinds.{begun_or, MayPut, after_store}
use Rattle.trie_rule.specs.Seats.{CellsAt, WriterAt, WritesTo}
use Rattle.trie_writer.specs.declared.Full.{Full}

-- the seat may put: it is of these cells, and no put is under way
abbrev pub MayWrite : CellsAt → WriterAt → Type 0
MayWrite cells seat = WritesTo cells seat × (seat.knows.begun ≡ None)

-- how many new cells the stores of a put fill: all but the Publish and the Finish are stores into new cells, four words
-- each, but for one into a free slot of a sparse cell
abbrev pub cells_filled : List WordStore → ℕ
cells_filled stores = (length stores - 2) / 4

-- what the write seat knows after these stores of a put: the words have them in their order, the cells that they fill are
-- taken, and the put is the last one made
abbrev pub put_view : WriteView → List ℕ → List ℕ → List WordStore → WriteView
put_view w key value stores = record {
  cells = w.cells;
  image = after w.image stores;
  used = w.used + cells_filled stores;
  made = w.made ++ put_at key value w.used ∷ [];
  begun = None;
}

-- the put was made as number n, counted from 1, by the stores that its image asks for
pub record MakesPut (w w' : WriteView) (key value : List ℕ) (n : ℕ) : Type 0 where
  pub next : w' ≡ put_view w key value (stores_of w.image w.used key value)
  pub number : n ≡ length w'.made

-- the cells that are taken and those that the put of this key and value may take are more than there are
abbrev pub LacksRoom : WriteView → List ℕ → List ℕ → Type 0
LacksRoom w key value = w.cells < w.used + cost (length key) (length value)

-- the refusal of a put for which there is no room
abbrev pub full_of : WriteView → List ℕ → List ℕ → Full
full_of w key value = record { used = w.used; cost = cost (length key) (length value); cells = w.cells }

-- the writer's view after all these stores of the put b
abbrev pub after_all : WriteView → Begun → List WordStore → WriteView
after_all w b [] = w
after_all w b (s ∷ left) = after_all (after_store w b s left s.kind) (with_done b s left) left

-- of a put's stores those from number `at` on are left
pub record IsPutting (w w' : WriteView) (key value : List ℕ) (stores : List WordStore) (at : ℕ) : Type 0 where
  pub put : Begun
  pub more : at < length stores
      → MayPut w' key value w'.begun × (begun_or w' key value ≡ put) × (put.left ≡ drop at stores)
  pub same : after_all w' put (drop at stores) ≡ after_all w (begun_or w key value) stores
