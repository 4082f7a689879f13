-- The halves and bytes of a 64-bit word, little-endian. This project's own.
use Rattle.std.specs.Prelude.{ℕ, ◌+◌, ◌*◌, ◌/◌, ◌%◌, ◌^◌, ◌<◌, Bool, true, false, List, slice_index}

-- the low or the high half of a word
abbrev pub half_of : ℕ → Bool → ℕ
half_of word false = word % 2 ^ 32
half_of word true = word / 2 ^ 32

-- the word with that half changed
abbrev pub with_half_of : ℕ → Bool → ℕ → ℕ
with_half_of word false p = word / 2 ^ 32 * 2 ^ 32 + p
with_half_of word true p = p * 2 ^ 32 + word % 2 ^ 32

-- byte i of a word, the least first
abbrev pub byte_of : ℕ → ℕ → ℕ
byte_of word i = word / 2 ^ (8 * i) % 256

-- the word with byte i changed
abbrev pub with_byte : ℕ → ℕ → ℕ → ℕ
with_byte word i b = word / 2 ^ (8 * i + 8) * 2 ^ (8 * i + 8) + b * 2 ^ (8 * i) + word % 2 ^ (8 * i)

-- each number is a byte; past the end there are zeros
abbrev pub ItemsAreBytes : List ℕ → Type 0
ItemsAreBytes xs = (i : ℕ) → slice_index xs i < 256
