-- What the check of the footer of Partitions.db answers, once the first and the last partition's string are known.
use Rattle.std.specs.Prelude.{◌≡◌, ℕ, ◌<◌, ◌^◌, ◌-◌, List, ◌++◌, length, take, drop, Result, Ok, Err}
use Rattle.outside.specs.declared.store.Part.TheVariants.{Partitions}
use Rattle.bti_nodes.specs.declared.damage.Cause.TheVariants.{BadFooter}
use Rattle.key_types.specs.Columns.{Columns}
use Rattle.data_file.specs.declared.reading.DataError.TheVariants.{StoreFault, Damaged, NoMemory}
use Rattle.index_files.specs.declared.footer.FooterNumbers.{FooterNumbers}
use Rattle.index_files.specs.Footers.{EndsIn, IsFooter, NoFooter}
use Rattle.index_files.specs.Reading.{file_damage, footer_place}
use Rattle.partition_index.specs.File.{behind_trie, footer}
use Rattle.data_walk.specs.declared.clash.Clash.TheVariants.{Key}
use Rattle.data_walk.specs.declared.refusal.Refusal.{Refusal}
use Rattle.data_walk.specs.declared.refusal.Refusal.TheVariants.{Clashes, Unread}
use Rattle.table_check.specs.declared.footer.Footer.{Footer}

-- the bytes end with these numbers, in eight bytes each
abbrev pub SpellsNumbers : List ℕ → FooterNumbers → Type 0
SpellsNumbers bytes numbers =
    (front : List ℕ) × (bytes ≡ front ++ footer numbers.strings numbers.partitions numbers.root)

-- The last bytes of a file, from a position on, have the footer of these strings and numbers, whatever stands before
-- them.
pub record EndsInThis (columns : Columns) (start : ℕ) (tail first last : List ℕ) (numbers : FooterNumbers)
    : Type 0 where
  pub ends : EndsIn columns start tail first last numbers
  pub spelled : SpellsNumbers tail numbers
  pub few : numbers.partitions < 2 ^ 64

-- The file has the footer of these strings: it is a trie and what stands behind that, and what was read are the
-- footer's numbers, at the place where its damage would be told.
pub record HasFooterOf (columns : Columns) (file first last : List ℕ) (read : Footer) : Type 0 where
  pub is : IsFooter columns file first last read.numbers
  pub stands : file ≡ is.trie ++ behind_trie first last (length is.trie) read.numbers.partitions read.numbers.root
  pub place : read.position ≡ footer_place (length file)
  pub short : length file < 2 ^ 64
  pub few : read.numbers.partitions < 2 ^ 64

-- the file has a footer, of which one string or both are others
pub record HasOtherFooter (columns : Columns) (file first last : List ℕ) : Type 0 where
  pub first_there : List ℕ
  pub last_there : List ℕ
  pub numbers : FooterNumbers
  pub is : IsFooter columns file first_there last_there numbers
  pub differ : first_there ≡ first → last_there ≡ last → ⊥

-- The footer has the strings that are asked for, or others, which is a clash, or the file has none, which is damage; a
-- store may fail and memory run out.
abbrev pub ChecksFooter : Columns → List ℕ → List ℕ → List ℕ → Result Footer Refusal → Type 0
ChecksFooter columns file first last (Ok read) = HasFooterOf columns file first last read
ChecksFooter columns file first last (Err (Clashes at)) =
    (at ≡ record { part = Partitions; position = footer_place (length file); clash = Key })
    × HasOtherFooter columns file first last
ChecksFooter columns file first last (Err (Unread (Damaged damage))) =
    (damage ≡ file_damage Partitions (footer_place (length file)) BadFooter) × NoFooter columns file
ChecksFooter columns file first last (Err (Unread StoreFault)) = Unit {0}
ChecksFooter columns file first last (Err (Unread NoMemory)) = Unit {0}

-- the same of each file of that size of which these are the last bytes
abbrev pub ComparesFooter : Columns → ℕ → List ℕ → List ℕ → List ℕ → Result Footer Refusal → Type 0
ComparesFooter columns size tail first last result =
    (file : List ℕ) → size ≡ length file → tail ≡ take 2076 (drop (size - 2076) file)
    → ChecksFooter columns file first last result
