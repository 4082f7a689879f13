-- Laws of what is left of a tree.
use Rattle.std.specs.Prelude.{◌≡◌, ◌≤◌, ◌<◌, ◌^◌, ℕ, ◌+◌, ◌∷◌, [], List, length}
use Rattle.std.specs.List.{AllByRecursion}
use Rattle.page_packer.specs.Tree.{TrieEntry, IsBelow, tree_of}
use Rattle.page_packer.specs.Layout.{lay}
use Rattle.page_packer.specs.Early.{early_of, early_more}
use Rattle.page_packer.specs.Edge.{Frontier, Reached, more_of, frontier_with, with_one, closes, after}

-- What a packer appends for a key, by what it holds, is what is appended early, and it holds then what is left of all keys.
abbrev pub FrontierGrows : Type 0
FrontierGrows =
    (p : Frontier) (es : List TrieEntry) (key v : List ℕ) → Reached p es → IsBelow p.last key → AllByRecursion (λ b. b < 256) key → 0 < length v → length v ≤ 7 → p.bytes + length key ≤ 2 ^ 30
    → Reached (frontier_with p key v) (with_one es key v) × ((more_of p key v).bytes ≡ early_more es (record { key = key; payload = v } ∷ []) p.start)

-- What closes it ends the layout of all keys.
abbrev pub FrontierCloses : Type 0
FrontierCloses = (p : Frontier) (es : List TrieEntry) → Reached p es → lay (tree_of es) p.start ≡ after (early_of es p.start) (closes p.edge p.end_)
