-- What contracts see of a writer of a partition index: the partitions that it was given. A relation, since it holds no
-- more than what is left of them.
use Rattle.std.specs.Prelude.{◌≡◌, ◌≤◌, ◌+◌, ◌^◌, ℕ, ℤ, List, [], ◌∷◌, ◌++◌, length, drop, Option, Some, None, Result, OnOk, if◌then◌else◌, nat_lt}
use Rattle.outside.specs.Files.{Appends, Files}
use Rattle.outside.specs.declared.store.FileId.{FileId}
use Rattle.page_packer.specs.declared.packer.Packer.{Packer}
use Rattle.page_packer.specs.Packing.{AppendsSome, Packing}
use Rattle.page_packer.specs.Packs.{Packs}
use Rattle.partition_index.specs.declared.newest.Newest.{Newest}
use Rattle.partition_index.specs.declared.writer.PartitionWriter.{PartitionWriter}
use Rattle.partition_index.specs.Entries.{AreNumbered, IsApartBelow, Numbered, before_last, first_string, last_among, settled, string_bytes}
use Rattle.partition_index.specs.File.{index_bytes_for, index_trie, early_index}

-- a file, and the partitions whose index it is to be
pub record Indexing : Type 0 where
  pub file : FileId
  pub partitions : List Numbered

abbrev pub no_partitions : FileId → Indexing
no_partitions file = record { file = file; partitions = [] }

abbrev pub numbered : List ℕ → ℤ → Numbered
numbered string number = record { string = string; number = number }

-- one partition more
abbrev pub with_partition : Indexing → Numbered → Indexing
with_partition w p = record { file = w.file; partitions = w.partitions ++ p ∷ [] }

-- ---- what a writer holds

-- the last partition
abbrev pub last_in : Newest → Numbered
last_in h = record { string = h.last; number = h.number }

-- the string before it, where there is one
abbrev pub string_before : Newest → Option (List ℕ)
string_before h = if nat_lt 1 h.count then Some h.before else None

-- with one partition more
abbrev pub newest_with : Newest → List ℕ → ℤ → Newest
newest_with h string number = record { before = h.last; last = string; number = number; count = h.count + 1 }

-- the last of the partitions is held, the string before it, and their number
abbrev pub IsNewest : Newest → List Numbered → Type 0
IsNewest h [] = (h.count ≡ 0) × (h.last ≡ [])
IsNewest h (p ∷ ps) =
    (h.count ≡ length (p ∷ ps)) × (last_in h ≡ last_among p ps) × (string_before h ≡ before_last None p ps)

-- the packing of the entries that stand
abbrev pub settled_packing : Indexing → Packing
settled_packing w = record { file = w.file; start = 0; entries = settled w.partitions }

-- the packer got the entries of all partitions but the last, which is the newest
pub record PacksIndex (packer : Packer) (newest : Newest) (w : Indexing) : Type 0 where
  pub packs : Packs packer (settled_packing w)
  pub fine : AreNumbered w.partitions
  pub newest_is : IsNewest newest w.partitions

-- The writer was given these partitions.
pub record WritesIndex (s : PartitionWriter) (w : Indexing) : Type 0 where
  pub file : s.file ≡ w.file
  pub first : s.first ≡ first_string w.partitions
  pub trie : PacksIndex s.packer s.newest w

-- ---- its calls

-- the string is apart above the last, where there is one
abbrev pub IsPartitionBehind : List Numbered → List ℕ → Type 0
IsPartitionBehind [] string = Unit {0}
IsPartitionBehind (p ∷ ps) string = IsApartBelow (last_among p ps).string string

-- A partition may be added: its string is apart above the last, and all have together at most 2^30 bytes.
pub record TakesPartition (s : PartitionWriter) (string : List ℕ) : Type 0 where
  pub indexing : Indexing
  pub writes : WritesIndex s indexing
  pub behind : IsPartitionBehind indexing.partitions string
  pub few : string_bytes indexing.partitions + length string ≤ 2 ^ 30

-- the writer was given some partitions, or none
abbrev pub WritesSome : PartitionWriter → Type 0
WritesSome s = (w : Indexing) × WritesIndex s w

-- with the partition the strings have together at most 2^30 bytes
abbrev pub HasRoom : Indexing → Numbered → Type 0
HasRoom w p = string_bytes w.partitions + length p.string ≤ 2 ^ 30

-- At Ok the writer was given one partition more, whichever it was given before; what stands early with that partition
-- stands in the file then, and after an error a prefix of it.
pub record AddsPartition (old new : PartitionWriter) (before after : Option Files) {T E : Type 0} (result : Result T E)
    (p : Numbered) : Type 0 where
  pub writes : OnOk result ((w : Indexing) → WritesIndex old w → HasRoom w p → WritesIndex new (with_partition w p))
  pub appends : (w : Indexing) → WritesIndex old w
      → AppendsSome before after w.file result (index_bytes_for w.partitions p)

-- what ends the trie is appended; nothing where there are no partitions
abbrev pub AppendsTrie : {T E : Type 0} → Option Files → Option Files → FileId → Result T E → List Numbered → Type 0
AppendsTrie before after file result [] = after ≡ before
AppendsTrie before after file result (p ∷ ps) =
    Appends before after file result (drop (length (early_index (p ∷ ps))) (index_trie (p ∷ ps)).bytes)
