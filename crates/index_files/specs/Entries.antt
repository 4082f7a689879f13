-- Entries of the row index. This project's own.
use Rattle.std.specs.Prelude.{◌≡◌, ℕ, ◌<◌, ◌≤◌, List, ◌++◌, length, drop}
use Rattle.byteorder.specs.Endian.{big_number}
use Rattle.key_types.specs.Columns.{Columns}
use Rattle.key_decode.specs.Strings.{IsStringOf}
use Rattle.length_prefix.specs.Counted.{counted}
use Rattle.index_files.specs.declared.entry.EntryNumbers.{EntryNumbers}

-- the numbers with which the bytes begin: the position in eight bytes, the root in eight, the blocks in four
abbrev pub numbers_in : List ℕ → EntryNumbers
numbers_in bytes = record {
  position = big_number 8 bytes;
  root = big_number 8 (drop 8 bytes);
  blocks = big_number 4 (drop 16 bytes);
}

-- The bytes at a position of the file begin with an entry: the string of a partition behind its length, and numbers of
-- which the root lies before the entry and the blocks are two at least.
pub record BeginsEntry (columns : Columns) (bytes : List ℕ) (at : ℕ) (partition : List ℕ) (numbers : EntryNumbers)
    : Type 0 where
  pub string : IsStringOf columns.partition partition
  pub rest : List ℕ
  pub stands : bytes ≡ counted partition ++ rest
  pub whole : 20 ≤ length rest
  pub read : numbers ≡ numbers_in rest
  pub root : numbers.root < at
  pub blocks : 2 ≤ numbers.blocks

-- no entry begins here
abbrev pub NoEntry : Columns → List ℕ → ℕ → Type 0
NoEntry columns bytes at =
    (partition : List ℕ) (numbers : EntryNumbers) → BeginsEntry columns bytes at partition numbers → ⊥
