-- What holds of the fields for all words and pointers.
use Rattle.std.specs.Prelude.{◌≡◌, ◌≢◌, ◌↔◌, ℕ, ◌+◌, ◌*◌, ◌/◌, ◌%◌, ◌<◌, slice_get, Some}
use Rattle.cell_layout.specs.declared.Kind.TheVariants.{Chain}
use Rattle.cell_layout.specs.Words.{byte_of}
use Rattle.cell_layout.specs.Pointers.{kind_at, index_at}
use Rattle.cell_layout.specs.Slots.{slots_of, slot_at, child_count, IsSparse}

-- the pointer after a chain pointer is the chain pointer to the next byte of the cell, unless it is at the last byte
abbrev pub LawNextByte : Type 0
LawNextByte = (p : ℕ) → kind_at p ≡ Some Chain → p % 32 ≢ 27 → (kind_at (p + 1) ≡ Some Chain) × ((p + 1) / 32 ≡ p / 32) × ((p + 1) % 32 ≡ p % 32 + 1)

-- a byte is its three indices: four top pointers, eight mid pointers, eight leaf pointers
abbrev pub LawSplitIndices : Type 0
LawSplitIndices = (b : ℕ) → b < 256 → (index_at b 0 < 4) × (index_at b 1 < 8) × (index_at b 2 < 8) × (b ≡ 64 * index_at b 0 + 8 * index_at b 1 + index_at b 2)

-- a slot that is found is below six and taken, and it is the first one with the byte
abbrev pub LawSlots : Type 0
LawSlots = (word b s : ℕ) → slot_at word b ≡ Some s → (s < 6) × (s < child_count word) × (byte_of word s ≡ b) × ((t : ℕ) → t < s → byte_of word t ≢ b)

-- in a node, the slot that is found for a byte is the one at some place of the order word, and each such slot is found for its
-- byte
abbrev pub LawOrdered : Type 0
LawOrdered = (word b s : ℕ) → IsSparse word → (slot_at word b ≡ Some s) ↔ ((place : ℕ) × (slice_get (slots_of word) place ≡ Some s) × (byte_of word s ≡ b))
