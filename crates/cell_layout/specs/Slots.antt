-- Word 3 of a sparse cell: the bytes of six slots in its low bytes, the order word in its two highest. After the sparse
-- node of Apache Cassandra's InMemoryTrie.md; the places of the fields are this project's own.
use Rattle.std.specs.Prelude.{◌≡◌, ℕ, zero, suc, ◌+◌, ◌*◌, ◌/◌, ◌%◌, ◌^◌, ◌<◌, ◌≤◌, ◌==◌, nat_lt, if◌then◌else◌, List, [], ◌∷◌, ◌++◌, length, take, map, Option}
use Rattle.std.specs.List.{position_from, range_with_len}
use Rattle.std.specs.List.Sorted.{IsPermutation}
use Rattle.cell_layout.specs.Words.{byte_of, with_byte}

-- at most so many base-6 digits of a number, the least first; 0 has none
abbrev pub digits : ℕ → ℕ → List ℕ
digits zero n = []
digits (suc most) n = if n == 0 then [] else n % 6 ∷ digits most (n / 6)

-- the number with these base-6 digits
abbrev pub number_of : List ℕ → ℕ
number_of [] = 0
number_of (d ∷ ds) = d + 6 * number_of ds

-- the slots that the order word names, in its order; a number of 16 bits has at most seven digits
unfoldable pub slots_of : ℕ → List ℕ
slots_of word = digits 7 (word / 2 ^ 48)

-- how many children the node has
abbrev pub child_count : ℕ → ℕ
child_count word = length (slots_of word)

-- the bytes of the six slots, taken or free
unfoldable pub slot_bytes : ℕ → List ℕ
slot_bytes word = byte_of word 0 ∷ byte_of word 1 ∷ byte_of word 2 ∷ byte_of word 3 ∷ byte_of word 4 ∷ byte_of word 5 ∷ []

-- the bytes of the taken slots, which are the first ones
abbrev pub child_bytes : ℕ → List ℕ
child_bytes word = take (child_count word) (slot_bytes word)

-- the slot of the child under the byte: the first taken one that has it
unfoldable pub slot_at : ℕ → ℕ → Option ℕ
slot_at word b = position_from (λ x. x == b) 0 (child_bytes word)

-- each byte is below the next
abbrev pub Ascends : List ℕ → Type 0
Ascends [] = Unit {0}
Ascends (a ∷ []) = Unit {0}
Ascends (a ∷ b ∷ bs) = (a < b) × Ascends (b ∷ bs)

-- the word is that of a node: 2 to 6 children, in the slots from 0 on, each named once, in ascending order of bytes
pub record IsSparse (word : ℕ) : Type 0 where
  pub least : 2 ≤ child_count word
  pub most : child_count word ≤ 6
  pub slots : IsPermutation (range_with_len 0 (child_count word)) (slots_of word)
  pub ascends : Ascends (map (byte_of word) (slots_of word))

-- the new word is that of a node with one child more: the byte has the least free slot, the others stay in theirs
pub record AddsChild (old new byte : ℕ) : Type 0 where
  pub node : IsSparse new
  pub bytes : child_bytes new ≡ child_bytes old ++ byte ∷ []
  pub free : (s : ℕ) → child_count old < s → s < 6 → byte_of new s ≡ byte_of old s

-- slot n put before the first slot of a greater byte
abbrev pub insert_slot : ℕ → ℕ → ℕ → List ℕ → List ℕ
insert_slot word b n [] = n ∷ []
insert_slot word b n (d ∷ ds) = if nat_lt b (byte_of word d) then n ∷ d ∷ ds else d ∷ insert_slot word b n ds

-- the word with a child more under the byte, in the slot after the taken ones
unfoldable pub word_with : ℕ → ℕ → ℕ
word_with word b = with_byte (word % 2 ^ 48) (child_count word) b + number_of (insert_slot word b (child_count word) (slots_of word)) * 2 ^ 48
