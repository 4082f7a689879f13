-- What a layout means to a reader of the file.
use Rattle.std.specs.Prelude.{◌≡◌, ◌≤◌, ◌<◌, ◌^◌, ℕ, List, ◌++◌, length, map, Ok, Err}
use Rattle.bti_nodes.specs.Trie.{Path, Paths, paths}
use Rattle.page_packer.specs.Tree.{TrieEntry, AreEntries, key_bytes, tree_of}
use Rattle.page_packer.specs.Layout.{lay}

-- a path of a trie as a key with its payload
abbrev pub entry_of_path : Path → TrieEntry
entry_of_path p = record { key = p.path; payload = p.payload }

-- the paths are there, and are exactly these entries in their order
abbrev pub AreThese : Paths → List TrieEntry → Type 0
AreThese (Ok ps) es = map entry_of_path ps ≡ es
AreThese (Err w) es = ⊥

-- Wherever a layout stands in a file at its start, whatever follows it, the trie at its root means exactly its entries.
abbrev pub LayoutMeans : Type 0
LayoutMeans =
    (es : List TrieEntry) (front rest : List ℕ) → AreEntries es → 0 < length es → key_bytes es ≤ 2 ^ 30
    → AreThese (paths (front ++ ((lay (tree_of es) (length front)).bytes ++ rest)) (lay (tree_of es) (length front)).root) es
