-- How long a layout is.
use Rattle.std.specs.Prelude.{◌≤◌, ℕ, ◌+◌, ◌*◌, ◌^◌, List, length}
use Rattle.page_packer.specs.Tree.{TrieEntry, AreEntries, key_bytes, tree_of}
use Rattle.page_packer.specs.Layout.{lay}

-- The layout of keys of n bytes together takes at most 32 * (n + 1) bytes, the zeros between pages among them.
abbrev pub LengthBound : Type 0
LengthBound = (es : List TrieEntry) (p : ℕ) → AreEntries es → key_bytes es ≤ 2 ^ 30 → length (lay (tree_of es) p).bytes ≤ 32 * (key_bytes es + 1)
