-- What a reader finds in the index files of a table.
use Rattle.std.specs.Prelude.{◌≡◌, ℕ, ◌+◌, ◌<◌, ◌^◌, ℤ, pos, negsuc, List, [], ◌∷◌, ◌++◌, length, take, drop, Ok, Err}
use Rattle.byte_order.specs.Strings.{IsSeparatorLength, IsUniqueLength}
use Rattle.bti_nodes.specs.Payloads.{signed_number, unsigned_number}
use Rattle.bti_nodes.specs.Trie.{Path, Paths, paths}
use Rattle.partition_index.specs.Entries.{Numbered, first_string, last_string, strings_of}
use Rattle.partition_index.specs.File.{behind_trie}
use Rattle.row_index.specs.Entries.{Block, BlockList}
use Rattle.row_index.specs.File.{row_entry}

-- ---- Partitions.db

-- a path is that of a partition: the shortest prefix of its string that none of the others begins with, and the payload
-- spells its number, with the fewest bytes or more
pub record IsIndexPath (partition : Numbered) (others : List (List ℕ)) (found : Path) : Type 0 where
  pub size : ℕ
  pub unique : IsUniqueLength partition.string others size
  pub path : found.path ≡ take size partition.string
  pub number : signed_number found.payload ≡ partition.number

-- one path for each partition, in order, where some strings stand before the partitions
abbrev pub AreIndexPaths : List (List ℕ) → List Numbered → List Path → Type 0
AreIndexPaths before [] [] = Unit {0}
AreIndexPaths before [] (found ∷ more) = ⊥
AreIndexPaths before (partition ∷ partitions) [] = ⊥
AreIndexPaths before (partition ∷ partitions) (found ∷ more) =
    IsIndexPath partition (before ++ strings_of partitions) found
    × AreIndexPaths (before ++ partition.string ∷ []) partitions more

-- the paths are there, and are those of these partitions
abbrev pub MeansIndex : List Numbered → Paths → Type 0
MeansIndex partitions (Err wrong) = ⊥
MeansIndex partitions (Ok found) = AreIndexPaths [] partitions found

-- the file is a trie and what stands behind it: the first and the last string, and the footer with the trie's end, the
-- number of partitions and the trie's root
pub record HasTrie (file : List ℕ) (partitions : List Numbered) : Type 0 where
  pub trie : List ℕ
  pub root : ℕ
  pub bytes : file ≡ trie ++ behind_trie (first_string partitions) (last_string partitions) (length trie) (length partitions) root
  pub some : 0 < root
  pub below : root < length trie
  pub short : length file < 2 ^ 64
  pub few : length partitions < 2 ^ 64
  pub means : MeansIndex partitions (paths file root)

-- without partitions there is no trie, and all numbers are 0
abbrev pub IsIndexFile : List ℕ → List Numbered → Type 0
IsIndexFile file [] = file ≡ behind_trie [] [] 0 0 0
IsIndexFile file (partition ∷ partitions) = HasTrie file (partition ∷ partitions)

-- ---- Rows.db

-- a path is that of a block: the shortest prefix of its first string that is above the string before the block, and the
-- payload spells its offset, with the fewest bytes or more
pub record IsBlockPath (block : Block) (found : Path) : Type 0 where
  pub size : ℕ
  pub shortest : IsSeparatorLength block.before block.first size
  pub path : found.path ≡ take size block.first
  pub offset : unsigned_number found.payload ≡ block.offset

-- one path for each block, in order
abbrev pub AreBlockPaths : List Block → List Path → Type 0
AreBlockPaths [] [] = Unit {0}
AreBlockPaths [] (found ∷ more) = ⊥
AreBlockPaths (block ∷ blocks) [] = ⊥
AreBlockPaths (block ∷ blocks) (found ∷ more) = IsBlockPath block found × AreBlockPaths blocks more

-- the paths are there, and are those of these blocks
abbrev pub MeansBlocks : List Block → Paths → Type 0
MeansBlocks blocks (Err wrong) = ⊥
MeansBlocks blocks (Ok found) = AreBlockPaths blocks found

-- a whole entry of the partition stands at a position of Rows.db, and its root below it; the numbers fit the entry
pub record HasEntry (file : List ℕ) (partition : BlockList) (at : ℕ) : Type 0 where
  pub root : ℕ
  pub rest : List ℕ
  pub entry : drop at file ≡ row_entry partition root ++ rest
  pub below : root < at
  pub place : partition.data_at < 2 ^ 64
  pub short : at < 2 ^ 64
  pub few : length partition.blocks + 1 < 2 ^ 32
  pub means : MeansBlocks partition.blocks (paths file root)

-- ---- from one to the other

-- the number of a partition leads to its entry in Rows.db, or, where it has one block, to its position in Data.db
abbrev pub LeadsToEntry : List ℕ → BlockList → List Block → ℤ → Type 0
LeadsToEntry rows partition [] number = number ≡ negsuc partition.data_at
LeadsToEntry rows partition (block ∷ blocks) number = (at : ℕ) × (number ≡ pos at) × HasEntry rows partition at

-- the numbered partitions are those of Data.db, in order, and each number leads where it should
abbrev pub AllLead : List ℕ → List BlockList → List Numbered → Type 0
AllLead rows [] [] = Unit {0}
AllLead rows [] (one ∷ more) = ⊥
AllLead rows (partition ∷ partitions) [] = ⊥
AllLead rows (partition ∷ partitions) (one ∷ more) =
    (one.string ≡ partition.string) × LeadsToEntry rows partition partition.blocks one.number × AllLead rows partitions more

-- Partitions.db and Rows.db index the partitions of Data.db.
pub record IndexFilesStand (partitions_file rows_file : List ℕ) (partitions : List BlockList) : Type 0 where
  pub numbered : List Numbered
  pub index : IsIndexFile partitions_file numbered
  pub entries : AllLead rows_file partitions numbered
