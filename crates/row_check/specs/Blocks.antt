-- The row index of a partition, beside the blocks of that partition in Data.db. This project's own.
use Rattle.std.specs.Prelude.{◌≡◌, ◌≢◌, ℕ, ℤ, pos, List, take, Option, Some, None, Result, Ok, Err, Bool, ⊤}
use Rattle.outside.specs.declared.store.Part.TheVariants.{Rows}
use Rattle.key_types.specs.Columns.{Columns}
use Rattle.byte_order.specs.Strings.{separator_size}
use Rattle.bti_nodes.specs.declared.damage.Cause.TheVariants.{BadHead}
use Rattle.bti_nodes.specs.Trie.{Path}
use Rattle.bti_reader.specs.Steps.{payload_number}
use Rattle.bti_reader.specs.Walks.{next_in}
use Rattle.data_walk.specs.declared.refusal.Refusal.{Refusal}
use Rattle.data_walk.specs.DataWalk.{Enters, FindsBlock, Place, place_at}
use Rattle.data_walk.specs.declared.clash.Clash.TheVariants as clash
use Rattle.data_walk.specs.Refusals.{IsFault, clash_at, damaged_at}
use Rattle.path_check.specs.Paths.{EndsPaths, LacksPath, number_clash}

-- ---- the path of a block

-- the path of a block: the shortest prefix of its first string that is above the string before it
abbrev pub separator : List ℕ → List ℕ → List ℕ
separator before first = take (separator_size before first) first

-- A path of a row index with its node and its number, beside that of a block, and its offset.
pub data ComparesPath (path : List ℕ) (node : ℕ) (number : ℤ) (wanted : List ℕ) (offset : ℕ)
    : Result ⊤ Refusal → Type 0 where
  same : path ≡ wanted → number ≡ pos offset → ComparesPath path node number wanted offset (Ok tt)
  other_path : path ≢ wanted → ComparesPath path node number wanted offset (Err (clash_at Rows node clash.Path))
  other_number : path ≡ wanted → number ≢ pos offset
      → ComparesPath path node number wanted offset (Err (number_clash Rows node number (pos offset)))

-- the next path of a row index beside a block of these strings and this offset, and the last path that was given then
pub data ChecksBlock (rows : List ℕ) (root : ℕ) (last : Option (List ℕ)) (before first : List ℕ) (offset : ℕ)
    : Option (List ℕ) → Result ⊤ Refusal → Type 0 where
  -- a path is there
  given : (found : Path) (result : Result ⊤ Refusal) → next_in rows root last ≡ Ok (Some found)
      → ComparesPath found.path found.node (payload_number Rows found.payload) (separator before first) offset result
      → ChecksBlock rows root last before first offset (Some found.path) result
  -- none is had
  lacks : (after : Option (List ℕ)) (e : Refusal) → LacksPath Rows rows root last e
      → ChecksBlock rows root last before first offset after (Err e)

module _ (columns : Columns) (entries rows : List ℕ) where
  -- From a place in a block on, the last path being this, the blocks that begin further on in the partition have their
  -- paths in the trie at the root, one after the other, and there are no others; or what is refused first.
  pub data ComparesBlocks (root : ℕ) : Place → Option (List ℕ) → Result ⊤ Refusal → Type 0 where
    -- a block has its path
    block : (place next : Place) (last given : Option (List ℕ)) (offset : ℕ) (result : Result ⊤ Refusal)
        → FindsBlock columns entries place next (Ok (Some offset))
        → ChecksBlock rows root last next.before next.row offset given (Ok tt)
        → ComparesBlocks root next given result → ComparesBlocks root place last result
    -- or hasn't
    clashes : (place next : Place) (last given : Option (List ℕ)) (offset : ℕ) (e : Refusal)
        → FindsBlock columns entries place next (Ok (Some offset))
        → ChecksBlock rows root last next.before next.row offset given (Err e) → ComparesBlocks root place last (Err e)
    -- the partition ends
    ends : (place next : Place) (last : Option (List ℕ)) (result : Result ⊤ Refusal)
        → FindsBlock columns entries place next (Ok None)
        → EndsPaths Rows rows root last result → ComparesBlocks root place last result
    -- the walk over Data.db stops
    stops : (place next : Place) (last : Option (List ℕ)) (e : Refusal) → FindsBlock columns entries place next (Err e)
        → ComparesBlocks root place last (Err e)

  -- The partition whose head stands at a position of Data.db, beside the row index with its root there.
  pub data ChecksBlocks (position root : ℕ) : Result ⊤ Refusal → Type 0 where
    -- behind the head
    enters : (inside : Place) (has_static : Bool) (result : Result ⊤ Refusal)
        → Enters columns entries (place_at position) inside (Ok (Some has_static))
        → ComparesBlocks root inside None result
        → ChecksBlocks position root result
    -- the file ends there
    ended : (place : Place) → Enters columns entries (place_at position) place (Ok None)
        → ChecksBlocks position root (Err (damaged_at position BadHead))
    -- no head stands there, or no static part behind it
    stops : (place : Place) (e : Refusal) → Enters columns entries (place_at position) place (Err e)
        → ChecksBlocks position root (Err e)
    -- the store failed
    fault : (e : Refusal) → IsFault e → ChecksBlocks position root (Err e)
