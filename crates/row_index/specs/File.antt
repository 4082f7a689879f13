-- The bytes of a row index in its file (after the `Rows.db` of Cassandra's BTI format; the order of an entry's parts is
-- this project's own).
use Rattle.std.specs.Prelude.{ℕ, ◌+◌, List, [], ◌∷◌, ◌++◌, length}
use Rattle.byteorder.specs.Endian.{big_bytes}
use Rattle.length_prefix.specs.Counted.{counted}
use Rattle.page_packer.specs.Tree.{tree_of}
use Rattle.page_packer.specs.Layout.{Laid, lay}
use Rattle.row_index.specs.Entries.{BlockList, separator_entries}

-- the trie of a partition's separators, laid from a position on
abbrev pub row_trie : BlockList → ℕ → Laid
row_trie p at = lay (tree_of (separator_entries p.blocks)) at

-- an entry: the string, its position in the data file, the trie's root and the number of blocks
unfoldable pub entry_bytes : List ℕ → ℕ → ℕ → ℕ → List ℕ
entry_bytes string data_at root blocks =
    counted string ++ (big_bytes 8 data_at ++ (big_bytes 8 root ++ big_bytes 4 blocks))

-- the entry of a partition, whose first block is counted too
abbrev pub row_entry : BlockList → ℕ → List ℕ
row_entry p root = entry_bytes p.string p.data_at root (length p.blocks + 1)

-- where the entry stands: behind the trie
abbrev pub row_entry_at : BlockList → ℕ → ℕ
row_entry_at p at = at + length (row_trie p at).bytes

-- the bytes of one partition from a position on
abbrev pub block_list_bytes : BlockList → ℕ → List ℕ
block_list_bytes p at = let trie = row_trie p at in trie.bytes ++ row_entry p trie.root

-- the bytes of these partitions, from a position on
abbrev pub rows_from : ℕ → List BlockList → List ℕ
rows_from at [] = []
rows_from at (p ∷ ps) = let here = block_list_bytes p at in here ++ rows_from (at + length here) ps

-- the file of these partitions
abbrev pub row_file : List BlockList → List ℕ
row_file ps = rows_from 0 ps
