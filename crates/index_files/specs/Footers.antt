-- The footer of a partition index. This project's own.
use Rattle.std.specs.Prelude.{◌≡◌, ◌⊎◌, ℕ, ◌<◌, List, [], ◌++◌, length, drop}
use Rattle.byteorder.specs.Endian.{big_number}
use Rattle.key_types.specs.Columns.{Columns}
use Rattle.key_decode.specs.Strings.{IsStringOf}
use Rattle.length_prefix.specs.Counted.{counted}
use Rattle.index_files.specs.declared.footer.FooterNumbers.{FooterNumbers}

-- the numbers with which the bytes begin, in eight bytes each
abbrev pub footer_numbers : List ℕ → FooterNumbers
footer_numbers bytes = record {
  strings = big_number 8 bytes;
  partitions = big_number 8 (drop 8 bytes);
  root = big_number 8 (drop 16 bytes);
}

-- a table without partitions has no trie, and empty strings
abbrev pub IsEmptyFooter : List ℕ → List ℕ → FooterNumbers → Type 0
IsEmptyFooter first last n = (n.partitions ≡ 0) × (n.root ≡ 0) × (n.strings ≡ 0) × (first ≡ []) × (last ≡ [])

-- another table's root stands before the strings, and these are strings of partitions
abbrev pub IsFullFooter : Columns → List ℕ → List ℕ → FooterNumbers → Type 0
IsFullFooter columns first last n =
    (0 < n.partitions) × (0 < n.root) × (n.root < n.strings)
    × IsStringOf columns.partition first × IsStringOf columns.partition last

-- the strings and numbers that a footer may have
abbrev pub IsSoundFooter : Columns → List ℕ → List ℕ → FooterNumbers → Type 0
IsSoundFooter columns first last n = IsEmptyFooter first last n ⊎ IsFullFooter columns first last n

-- The file ends with a footer: from where its numbers say the two strings stand, each behind its length, and behind
-- them the last twenty-four bytes are the numbers.
pub record IsFooter (columns : Columns) (file first last : List ℕ) (numbers : FooterNumbers) : Type 0 where
  pub trie : List ℕ
  pub place : length trie ≡ numbers.strings
  pub end : List ℕ
  pub count : length end ≡ 24
  pub stands : file ≡ trie ++ (counted first ++ (counted last ++ end))
  pub read : numbers ≡ footer_numbers end
  pub sound : IsSoundFooter columns first last numbers

-- the file has no footer
abbrev pub NoFooter : Columns → List ℕ → Type 0
NoFooter columns file = (first last : List ℕ) (numbers : FooterNumbers) → IsFooter columns file first last numbers → ⊥

-- these are the last bytes, from a position on, of a file with this footer, whatever stands before them
abbrev pub EndsIn : Columns → ℕ → List ℕ → List ℕ → List ℕ → FooterNumbers → Type 0
EndsIn columns start tail first last numbers =
    (before : List ℕ) → length before ≡ start → IsFooter columns (before ++ tail) first last numbers

-- they are the last bytes of a file without a footer
abbrev pub EndsInNone : Columns → ℕ → List ℕ → Type 0
EndsInNone columns start tail = (before : List ℕ) → length before ≡ start → NoFooter columns (before ++ tail)

-- two strings, each behind its length, fill the bytes from that place on
pub record AreStrings (bytes : List ℕ) (from : ℕ) (first last : List ℕ) : Type 0 where
  pub front : List ℕ
  pub place : length front ≡ from
  pub stands : bytes ≡ front ++ (counted first ++ counted last)
