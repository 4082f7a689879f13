-- The bytes of a partition index in its file (after BtiFormat.md; the strings behind the trie and the order of the
-- numbers are this project's own).
use Rattle.std.specs.Prelude.{ℕ, List, [], ◌∷◌, ◌++◌, length, drop}
use Rattle.byteorder.specs.Endian.{big_bytes}
use Rattle.length_prefix.specs.Counted.{counted}
use Rattle.page_packer.specs.Tree.{tree_of}
use Rattle.page_packer.specs.Layout.{Laid, lay}
use Rattle.page_packer.specs.Early.{early_of}
use Rattle.partition_index.specs.Entries.{Numbered, first_string, index_entries, last_string, settled}

-- the trie, laid from the file's start; no partitions have none
abbrev pub index_trie : List Numbered → Laid
index_trie [] = record { bytes = []; root = 0 }
index_trie (p ∷ ps) = lay (tree_of (index_entries (p ∷ ps))) 0

-- a number in eight bytes, the high one first
unfoldable pub in_eight : ℕ → List ℕ
in_eight n = big_bytes 8 n

-- the last 24 bytes: where the trie ends, how many partitions there are, and where the trie's root is
abbrev pub footer : ℕ → ℕ → ℕ → List ℕ
footer end_ count root = in_eight end_ ++ (in_eight count ++ in_eight root)

-- what stands behind the trie: the first and the last string, and the footer
abbrev pub behind_trie : List ℕ → List ℕ → ℕ → ℕ → ℕ → List ℕ
behind_trie first last end_ count root = counted first ++ (counted last ++ footer end_ count root)

-- the file of these partitions
abbrev pub partition_file : List Numbered → List ℕ
partition_file ps =
    let trie = index_trie ps in
    trie.bytes ++ behind_trie (first_string ps) (last_string ps) (length trie.bytes) (length ps) trie.root

-- ---- what is appended when

-- what stands once these partitions were added
abbrev pub early_index : List Numbered → List ℕ
early_index ps = early_of (settled ps) 0

-- what one partition more appends
abbrev pub index_bytes_for : List Numbered → Numbered → List ℕ
index_bytes_for ps p = drop (length (early_index ps)) (early_index (ps ++ p ∷ []))

-- what ends the file
abbrev pub last_index_bytes : List Numbered → List ℕ
last_index_bytes ps = drop (length (early_index ps)) (partition_file ps)
