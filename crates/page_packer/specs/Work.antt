-- What was appended to the bytes of a layout.
use Rattle.std.specs.Prelude.{◌≡◌, ◌++◌, ◌∷◌, [], ℕ, List}
use Rattle.page_packer.specs.Layout.{Laid, LaidUnder, closed_in_page}
use Rattle.page_packer.specs.declared.work.Stood.{Stood}
use Rattle.page_packer.specs.declared.work.Work.{Work}

-- the bytes were appended, and the children stand behind those that stood
abbrev pub Adds : Work → Work → LaidUnder → Type 0
Adds before now under = (now.out ≡ before.out ++ under.bytes) × (now.stood.items ≡ before.stood.items ++ under.children)

-- the same of one node, under a byte, with all below it
abbrev pub AddsOne : Work → Work → ℕ → Laid → Type 0
AddsOne before now b laid = (now.out ≡ before.out ++ laid.bytes) × (now.stood.items ≡ before.stood.items ++ record { byte = b; position = laid.root } ∷ [])

-- a node at a position or in the next page, whose children stand
abbrev pub closed_alone : List ℕ → List Stood → ℕ → Laid
closed_alone p children at = closed_in_page p (record { bytes = []; children = children }) at
