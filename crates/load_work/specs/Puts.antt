-- The puts of a batch, and what a shard's writer knows after them. This project's own.
use Rattle.std.specs.Prelude.{◌≡◌, ◌≤◌, ℕ, Bool, true, false, nat_eq, List, [], ◌∷◌, ◌++◌, length, filter, Option, None, Some}
use Rattle.trie_image.specs.Stores.{stores_of}
use Rattle.trie_rule.specs.declared.views.WriteView.{WriteView}
use Rattle.trie_writer.specs.Written.{put_view, LacksRoom}
use Rattle.shard_table.specs.Shards.{shard_index}
use Rattle.script_text.specs.declared.spans.PutLine.{PutLine}

-- the key and the value of a put are within their limits
pub record IsPut (p : PutLine) : Type 0 where
  pub least : 1 ≤ length p.key.now
  pub most : length p.key.now ≤ 2048
  pub short : length p.value.now ≤ 65535

-- the put goes to shard i
abbrev pub goes_to : List (List ℕ) → ℕ → PutLine → Bool
goes_to bounds i p = nat_eq (shard_index bounds p.partition.now) i

-- the puts that go to shard i, in the order of their lines
abbrev pub puts_of : List (List ℕ) → ℕ → List PutLine → List PutLine
puts_of bounds i puts = filter (goes_to bounds i) puts

-- the shard has no room for the put
abbrev pub HasNoRoom : WriteView → PutLine → Type 0
HasNoRoom w p = LacksRoom w p.key.now p.value.now

-- what the writer knows after the put
abbrev pub after_put : WriteView → PutLine → WriteView
after_put w p = put_view w p.key.now p.value.now (stores_of w.image w.used p.key.now p.value.now)

-- the puts were made one after the other, with room for each, from the first view to the last
abbrev pub Makes : WriteView → List PutLine → WriteView → Type 0
Makes w [] w' = w' ≡ w
Makes w (p ∷ puts) w' = (HasNoRoom w p → ⊥) × Makes (after_put w p) puts w'

-- the puts before the one of this line were made, and for this one there was no room
pub record StopsAt (w : WriteView) (puts : List PutLine) (line : ℕ) (w' : WriteView) : Type 0 where
  pub made : List PutLine
  pub put : PutLine
  pub left : List PutLine
  pub puts_are : puts ≡ made ++ put ∷ left
  pub makes : Makes w made w'
  pub full : HasNoRoom w' put
  pub line_is : line ≡ put.line

-- one put was made where it goes to the shard, or there was no room for it
abbrev pub HasTried : List (List ℕ) → ℕ → WriteView → WriteView → PutLine → Bool → Type 0
HasTried bounds i w w' p true = Makes w (puts_of bounds i (p ∷ [])) w'
HasTried bounds i w w' p false = (goes_to bounds i p ≡ true) × (w' ≡ w) × HasNoRoom w p

-- all puts of the shard were made, or those before the first for which it had no room, on this line
abbrev pub HasWritten : List (List ℕ) → ℕ → WriteView → WriteView → List PutLine → Option ℕ → Type 0
HasWritten bounds i w w' puts None = Makes w (puts_of bounds i puts) w'
HasWritten bounds i w w' puts (Some line) = StopsAt w (puts_of bounds i puts) line w'
