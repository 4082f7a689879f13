-- Where the walk to a key leaves the trie. The cases are those of a put; this project's own.
use Rattle.std.specs.Prelude.{ℕ, ◌<◌, ◌^◌, ◌+◌, ◌/◌, ◌%◌, ◌==◌, nat_lt, if◌then◌else◌, List, [], ◌∷◌, Option, Some, None}
use Rattle.cell_layout.specs.declared.Kind.{Kind}
use Rattle.cell_layout.specs.declared.Kind.TheVariants as kind
use Rattle.cell_layout.specs.Pointers.{kind_at}
use Rattle.cell_layout.specs.Slots.{slot_at, child_count}
use Rattle.trie_image.specs.declared.exit.Stand.{Stand}
use Rattle.trie_image.specs.declared.exit.Meets.{Meets}
use Rattle.trie_image.specs.declared.exit.Meets.TheVariants.{Content, Nothing, OtherByte, End, Sparse, Full, NoLeaf, NoMid, PastContent}
use Rattle.trie_image.specs.declared.exit.Exit.{Exit}
use Rattle.trie_image.specs.declared.exit.Step.{Step}
use Rattle.trie_image.specs.declared.exit.Step.TheVariants.{On, Left}
use Rattle.trie_image.specs.Image.{word_of, field, cell_byte}

-- at a pointer, which stands in the field of the cell
abbrev pub stand_at : ℕ → ℕ → ℕ → Stand
stand_at cell place p = record { cell = cell; field = place; entered = p; at = p }

-- the field is one of a cell that a pointer can name
abbrev pub IsInside : Stand → Type 0
IsInside s = (s.cell < 2 ^ 27) × (s.field < 8)

-- a sparse node that is met has room for a child
abbrev pub HasFreeSlot : List ℕ → Meets → Stand → Type 0
HasFreeSlot w Sparse s = child_count (word_of w s.cell 3) < 6
HasFreeSlot w _ s = Unit {0}

-- the same of what a step leads to
abbrev pub StaysInside : List ℕ → Step → Type 0
StaysInside w (On s) = IsInside s
StaysInside w (Left meets s) = IsInside s × HasFreeSlot w meets s

-- at the pointer in a field
abbrev pub stand_in : List ℕ → ℕ → ℕ → Stand
stand_in w cell place = stand_at cell place (field w cell place)

-- the walk ends here
abbrev pub exit_with : Meets → Stand → ℕ → Exit
exit_with meets s taken = record { meets = meets; stand = s; taken = taken }

-- what the key's end meets
abbrev pub end_at : List ℕ → Stand → ℕ → Option Kind → Exit
end_at w s taken (Some kind.Nothing) = exit_with Nothing s taken
end_at w s taken (Some kind.Content) = exit_with Content s taken
end_at w s taken (Some kind.Prefix) = exit_with Content (stand_in w (s.at / 32) 0) taken
end_at w s taken _ = exit_with End s taken

-- a chain's byte: the next one, or its tail after the last
abbrev pub chain_step : List ℕ → ℕ → Stand → Step
chain_step w b s = if cell_byte w (s.at / 32) (s.at % 32) == b then (if s.at % 32 == 27 then On (stand_in w (s.at / 32) 7) else On record { cell = s.cell; field = s.field; entered = s.entered; at = s.at + 1 })
    else Left OtherByte s

-- a sparse node's child, or room for one more, or none
abbrev pub slot_step : List ℕ → Stand → Option ℕ → Step
slot_step w s (Some slot) = On (stand_in w (s.at / 32) slot)
slot_step w s None = if nat_lt (child_count (word_of w (s.at / 32) 3)) 6 then Left Sparse (stand_at (s.at / 32) 0 s.at) else Left Full s

-- a split node's child: a missing mid or leaf cell is met in the field where its pointer would stand
abbrev pub leaf_step : List ℕ → ℕ → ℕ → ℕ → Step
leaf_step w b mid leaf = if leaf == 0 then Left NoLeaf (stand_at mid (b / 8 % 8) 0) else On (stand_in w (leaf / 32) (b % 8))

abbrev pub mid_step : List ℕ → ℕ → ℕ → ℕ → Step
mid_step w b top mid = if mid == 0 then Left NoMid (stand_at top (b / 64) 0) else leaf_step w b (mid / 32) (field w (mid / 32) (b / 8 % 8))

-- a byte of the key in a node, by the pointer's kind; in a well-formed image no other kind stands here
abbrev pub node_step : List ℕ → ℕ → Stand → Option Kind → Step
node_step w b s (Some kind.Chain) = chain_step w b s
node_step w b s (Some kind.Sparse) = slot_step w s (slot_at (word_of w (s.at / 32) 3) b)
node_step w b s (Some kind.Wide) = mid_step w b (s.at / 32) (field w (s.at / 32) (b / 64))
node_step w b s _ = Left Nothing s

-- a byte of the key: past a content, into the node under a prefix, or into a node
abbrev pub byte_step : List ℕ → ℕ → Stand → Option Kind → Step
byte_step w b s (Some kind.Content) = Left PastContent s
byte_step w b s (Some kind.Prefix) = node_step w b (stand_in w (s.at / 32) 1) (kind_at (field w (s.at / 32) 1))
byte_step w b s k = node_step w b s k

-- a step goes on, or the walk ends there
abbrev pub exit_from : Step → (Stand → Exit) → ℕ → Exit
exit_from (On s) go taken = go s
exit_from (Left meets s) go taken = exit_with meets s taken

-- the walk of the rest of a key, after so many bytes
abbrev pub exit_at : List ℕ → List ℕ → Stand → ℕ → Exit
exit_at w [] s taken = end_at w s taken (kind_at s.at)
exit_at w (b ∷ k) s taken = exit_from (byte_step w b s (kind_at s.at)) (λ next. exit_at w k next (taken + 1)) taken

-- the walk of a key from the root, whose pointer is field 2 of cell 0
abbrev pub exit_of : List ℕ → List ℕ → Exit
exit_of w key = exit_at w key (stand_in w 0 2) 0
