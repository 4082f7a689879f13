-- The entries of Rows.db, beside the partitions of Data.db. This project's own.
use Rattle.std.specs.Prelude.{◌≡◌, ◌≢◌, ◌<◌, ◌≤◌, ◌^◌, ℕ, ℤ, pos, negsuc, List, ◌∷◌, [], ◌++◌, drop, Option, Some, None, Result, Ok, Err, ⊤}
use Rattle.outside.specs.declared.store.Part.TheVariants.{Partitions, Rows}
use Rattle.key_types.specs.Columns.{Columns}
use Rattle.key_decode.specs.Strings.{IsStringOf}
use Rattle.bti_nodes.specs.declared.damage.Cause.TheVariants.{BadEntry}
use Rattle.bti_nodes.specs.Payloads.{signed_number}
use Rattle.bti_nodes.specs.Trie.{Path}
use Rattle.bti_reader.specs.Walks.{next_in}
use Rattle.data_file.specs.declared.reading.DataError.TheVariants.{Damaged}
use Rattle.index_files.specs.declared.entry.EntryNumbers.{EntryNumbers}
use Rattle.index_files.specs.Entries.{NoEntry}
use Rattle.index_files.specs.Reading.{file_damage}
use Rattle.row_index.specs.Entries.{Block, BlockList}
use Rattle.row_index.specs.File.{entry_bytes}
use Rattle.table_files.specs.IndexMeaning.{LeadsToEntry}
use Rattle.data_walk.specs.declared.data_walk.PartitionSum.{PartitionSum}
use Rattle.data_walk.specs.declared.refusal.Refusal.{Refusal}
use Rattle.data_walk.specs.declared.refusal.Refusal.TheVariants.{Unread}
use Rattle.data_walk.specs.declared.clash.Clash.TheVariants.{Key}
use Rattle.data_walk.specs.DataWalk.{FindsPartition, Place, place_at}
use Rattle.data_walk.specs.Refusals.{IsFault, clash_at}
use Rattle.row_check.specs.Blocks.{ChecksBlocks}
use Rattle.path_check.specs.Paths.{EndsPaths, LacksPath, number_clash}

-- ---- what the entries should be

-- a partition of two or more blocks leads to its entry
abbrev pub LeadsFromPath : List ℕ → BlockList → List Block → ℤ → Type 0
LeadsFromPath rows partition [] number = Unit {0}
LeadsFromPath rows partition (block ∷ blocks) number = LeadsToEntry rows partition (block ∷ blocks) number

-- the paths of Partitions.db are as many as the partitions, and each leads to the entry of its partition, where it
-- has one
abbrev pub EntriesAre : List ℕ → List BlockList → List Path → Type 0
EntriesAre rows [] [] = Unit {0}
EntriesAre rows [] (found ∷ more) = ⊥
EntriesAre rows (partition ∷ partitions) [] = ⊥
EntriesAre rows (partition ∷ partitions) (found ∷ more) =
    LeadsFromPath rows partition partition.blocks (signed_number found.payload) × EntriesAre rows partitions more

-- ---- an entry

-- The bytes at a position of Rows.db begin with an entry as it is written, with these numbers: its root stands below
-- it, and it is that of a partition of two or more blocks.
pub record SpellsEntry (columns : Columns) (bytes : List ℕ) (at : ℕ) (partition : List ℕ) (numbers : EntryNumbers)
    : Type 0 where
  pub string : IsStringOf columns.partition partition
  pub rest : List ℕ
  pub stands : bytes ≡ entry_bytes partition numbers.position numbers.root numbers.blocks ++ rest
  pub place : numbers.position < 2 ^ 64
  pub root : numbers.root < at
  pub blocks : 2 ≤ numbers.blocks
  pub few : numbers.blocks < 2 ^ 32

-- An entry at a position of Rows.db, beside the partition of this string: its string, where the partition stands in
-- Data.db, and how many blocks it has, in this order.
pub data ComparesEntry (at : ℕ) (partition : List ℕ) (numbers : EntryNumbers) (key : List ℕ) (sum : PartitionSum)
    : Result ⊤ Refusal → Type 0 where
  same : partition ≡ key → numbers.position ≡ sum.position → numbers.blocks ≡ sum.blocks
      → ComparesEntry at partition numbers key sum (Ok tt)
  other_key : partition ≢ key → ComparesEntry at partition numbers key sum (Err (clash_at Rows at Key))
  other_position : partition ≡ key → numbers.position ≢ sum.position
      → ComparesEntry at partition numbers key sum
      (Err (number_clash Rows at (pos numbers.position) (pos sum.position)))
  other_blocks : partition ≡ key → numbers.position ≡ sum.position → numbers.blocks ≢ sum.blocks
      → ComparesEntry at partition numbers key sum (Err (number_clash Rows at (pos numbers.blocks) (pos sum.blocks)))

-- What is found at a position of Rows.db where the entry of a partition of this string is to stand.
pub data FindsEntry (columns : Columns) (rows : List ℕ) (at : ℕ) (key : List ℕ) (sum : PartitionSum)
    : Result EntryNumbers Refusal → Type 0 where
  own : (partition : List ℕ) (numbers : EntryNumbers) → SpellsEntry columns (drop at rows) at partition numbers
      → ComparesEntry at partition numbers key sum (Ok tt) → FindsEntry columns rows at key sum (Ok numbers)
  clashes : (partition : List ℕ) (numbers : EntryNumbers) (e : Refusal)
      → SpellsEntry columns (drop at rows) at partition numbers
      → ComparesEntry at partition numbers key sum (Err e) → FindsEntry columns rows at key sum (Err e)
  none : NoEntry columns (drop at rows) at
      → FindsEntry columns rows at key sum (Err (Unread (Damaged (file_damage Rows at BadEntry))))
  fault : (e : Refusal) → IsFault e → FindsEntry columns rows at key sum (Err e)

-- ---- all of them

module _ (columns : Columns) (entries rows : List ℕ) where
  -- The number of a path of Partitions.db, at a node, beside the partition of this string.
  pub data ChecksNumber (node : ℕ) (number : ℤ) (key : List ℕ) (sum : PartitionSum) : Result ⊤ Refusal → Type 0 where
    -- a partition of one block has no entry
    single : sum.blocks < 2 → ChecksNumber node number key sum (Ok tt)
    -- the number of another is no position
    negative : (n : ℕ) → 2 ≤ sum.blocks → number ≡ negsuc n
        → ChecksNumber node number key sum (Err (number_clash Partitions node number (pos 0)))
    -- its entry isn't found there
    refused : (at : ℕ) (e : Refusal) → 2 ≤ sum.blocks → number ≡ pos at → FindsEntry columns rows at key sum (Err e)
        → ChecksNumber node number key sum (Err e)
    -- or is, and then its row index is looked at
    found : (at : ℕ) (numbers : EntryNumbers) (result : Result ⊤ Refusal) → 2 ≤ sum.blocks → number ≡ pos at
        → at < 2 ^ 63
        → FindsEntry columns rows at key sum (Ok numbers)
        → ChecksBlocks columns entries rows sum.position numbers.root result
        → ChecksNumber node number key sum result

  module _ (index : List ℕ) (root : ℕ) where
    -- From a place between partitions on, the last path of Partitions.db being this, the partitions that follow lead to
    -- their entries and row indexes, and there are no other paths; or what is refused first.
    pub data ComparesEntries : Place → Option (List ℕ) → Result ⊤ Refusal → Type 0 where
      -- a partition leads there
      partition : (place next : Place) (last : Option (List ℕ)) (sum : PartitionSum) (found : Path)
          (result : Result ⊤ Refusal)
          → FindsPartition columns entries place next (Ok (Some sum)) → next_in index root last ≡ Ok (Some found)
          → ChecksNumber found.node (signed_number found.payload) next.key sum (Ok tt)
          → ComparesEntries next (Some found.path) result → ComparesEntries place last result
      -- or doesn't
      clashes : (place next : Place) (last : Option (List ℕ)) (sum : PartitionSum) (found : Path) (e : Refusal)
          → FindsPartition columns entries place next (Ok (Some sum)) → next_in index root last ≡ Ok (Some found)
          → ChecksNumber found.node (signed_number found.payload) next.key sum (Err e)
          → ComparesEntries place last (Err e)
      -- or has no path
      lacks : (place next : Place) (last : Option (List ℕ)) (sum : PartitionSum) (e : Refusal)
          → FindsPartition columns entries place next (Ok (Some sum)) → LacksPath Partitions index root last e
          → ComparesEntries place last (Err e)
      -- Data.db ends
      ends : (place next : Place) (last : Option (List ℕ)) (result : Result ⊤ Refusal)
          → FindsPartition columns entries place next (Ok None)
          → EndsPaths Partitions index root last result → ComparesEntries place last result
      -- the walk over Data.db stops
      stops : (place next : Place) (last : Option (List ℕ)) (e : Refusal)
          → FindsPartition columns entries place next (Err e)
          → ComparesEntries place last (Err e)

    -- The partitions of Data.db beside the paths of Partitions.db, and the entries and row indexes of Rows.db.
    pub data ChecksEntries : Result ⊤ Refusal → Type 0 where
      whole : (result : Result ⊤ Refusal) → ComparesEntries (place_at 0) None result → ChecksEntries result
      -- the store failed
      fault : (e : Refusal) → IsFault e → ChecksEntries (Err e)
