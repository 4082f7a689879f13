-- What holds of the index of every list of partitions.
use Rattle.std.specs.Prelude.{◌≡◌, ◌<◌, ◌≤◌, ◌+◌, ◌^◌, List, [], ◌∷◌, ◌++◌, length}
use Rattle.bti_nodes.specs.Trie.{paths}
use Rattle.page_packer.specs.Early.{IsBeginning}
use Rattle.page_packer.specs.Reading.{AreThese}
use Rattle.partition_index.specs.Entries.{AreNumbered, IsPartitionIndex, Numbered, index_entries}
use Rattle.partition_index.specs.File.{early_index, index_trie, last_index_bytes, index_bytes_for, partition_file}

-- The entries that neighbours determine are the partition index, unique among all strings.
abbrev pub EntriesAreIndex : Type 0
EntriesAreIndex = (ps : List Numbered) → AreNumbered ps → IsPartitionIndex ps (index_entries ps)

-- The trie at the root that the footer names means exactly these entries.
abbrev pub FileMeansIndex : Type 0
FileMeansIndex =
    (ps : List Numbered) → AreNumbered ps → 0 < length ps
    → AreThese (paths (partition_file ps) (index_trie ps).root) (index_entries ps)

-- What stands early is a prefix of the file of every longer list,
abbrev pub EarlyIndexStands : Type 0
EarlyIndexStands =
    (ps more : List Numbered) → AreNumbered (ps ++ more) → IsBeginning (early_index ps) (partition_file (ps ++ more))

-- each partition appends the rest of what stands early with it, and the end appends the rest of the file.
abbrev pub EarlyIndexGrows : Type 0
EarlyIndexGrows =
    (ps : List Numbered) (p : Numbered) → AreNumbered (ps ++ p ∷ [])
    → early_index (ps ++ p ∷ []) ≡ early_index ps ++ index_bytes_for ps p

abbrev pub IndexEnds : Type 0
IndexEnds = (ps : List Numbered) → AreNumbered ps → partition_file ps ≡ early_index ps ++ last_index_bytes ps

-- ---- what a reader's footer rests on

-- there are at most 2^30 partitions, the strings and the footer stand behind the trie, and the file is short
pub record IsShortIndex (ps : List Numbered) : Type 0 where
  pub few : length ps ≤ 2 ^ 30
  pub behind : length (index_trie ps).bytes + 28 ≤ length (partition_file ps)
  pub short : length (partition_file ps) < 2 ^ 36

abbrev pub IndexIsShort : Type 0
IndexIsShort = (ps : List Numbered) → AreNumbered ps → IsShortIndex ps

-- Of some partitions the root stands in the trie, and not at the file's start.
abbrev pub RootInTrie : Type 0
RootInTrie =
    (ps : List Numbered) → AreNumbered ps → 0 < length ps
    → (0 < (index_trie ps).root) × ((index_trie ps).root < length (index_trie ps).bytes)
