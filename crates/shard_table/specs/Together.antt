-- The entries of all shards of a table that is closed, one shard's behind another's. This project's own.
use Rattle.std.specs.Prelude.{◌≡◌, ℕ, ◌+◌, ◌<◌, nat_eq, List, [], ◌∷◌, ◌++◌, length, drop, slice_get, Some}
use Rattle.std.specs.List.{filter}
use Rattle.std.specs.FinMap as map_of
use Rattle.key_types.specs.Table.{Entry, table_of}
use Rattle.trie_rule.specs.Seats.{KeptWords}
use Rattle.shard_freeze.specs.Cursor.{CursorAt}
use Rattle.shard_freeze.specs.Sorted.{entries_made, put_entries}
use Rattle.shard_table.specs.Shards.{shard_index}

-- the entries of the shards' sorted maps
abbrev pub shard_entries : List KeptWords → List Entry
shard_entries [] = []
shard_entries (shard ∷ shards) = entries_made shard.made ++ shard_entries shards

-- ---- a cursor over them

-- a cursor over one of the shards, by its place from 0
pub record TableCursorAt : Type 0 where
  pub shard : ℕ
  pub cursor : CursorAt

-- it was made by that shard
abbrev pub IsCursorOf : List KeptWords → TableCursorAt → Type 0
IsCursorOf shards c = slice_get shards c.shard ≡ Some c.cursor.frozen

-- what it has left: of its shard, and all of those behind it
abbrev pub left_in : List KeptWords → TableCursorAt → List Entry
left_in shards c = c.cursor.left ++ shard_entries (drop (c.shard + 1) shards)

-- ---- the map of all puts

-- those of the puts that go to shard i, by their keys
abbrev pub puts_in : List (List ℕ) → ℕ → List Entry → List Entry
puts_in bounds i puts = filter (λ put. nat_eq (shard_index bounds put.0) i) puts

-- the shards from number i on are all that there are behind the bounds, and each has the puts that go to it, in their order
abbrev pub HoldPuts : List (List ℕ) → ℕ → List Entry → List KeptWords → Type 0
HoldPuts bounds i puts [] = length bounds < i
HoldPuts bounds i puts (shard ∷ shards) =
    (put_entries shard.made ≡ puts_in bounds i puts) × HoldPuts bounds (i + 1) puts shards

-- the entries of the shards are those of the sorted map of all puts
abbrev pub LawShardsList : Type 0
LawShardsList = (bounds : List (List ℕ)) (puts : List Entry) (shards : List KeptWords) → HoldPuts bounds 0 puts shards
    → shard_entries shards ≡ map_of.entries (table_of puts)
