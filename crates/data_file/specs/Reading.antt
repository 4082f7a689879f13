-- What begins at a place of a data file.
use Rattle.std.specs.Prelude.{◌≡◌, ◌≢◌, ℕ, ◌+◌, ◌<◌, ◌≤◌, ◌^◌, List, [], ◌∷◌, ◌++◌, length, Option, Some}
use Rattle.key_types.specs.Columns.{Columns}
use Rattle.byte_comparable.specs.Strings.{longest_string}
use Rattle.key_decode.specs.Strings.{IsStringOf}
use Rattle.data_file.specs.Listing.{head_bytes, row_bytes, static_bytes, FitsStaticType, IsRow}
use Rattle.data_file.specs.declared.reading.Head.{Head}
use Rattle.data_file.specs.declared.reading.StaticPart.{StaticPart}
use Rattle.data_file.specs.declared.reading.RowAt.{RowAt}
use Rattle.data_file.specs.declared.reading.RowAt.TheVariants.{Row, End}

-- the bytes begin with the head of a partition with this string
abbrev pub BeginsHead : Columns → List ℕ → List ℕ → Type 0
BeginsHead columns bytes key = IsStringOf columns.partition key × ((rest : List ℕ) × (bytes ≡ head_bytes key ++ rest))

-- the bytes begin with a row of this clustering and this value
abbrev pub BeginsRow : Columns → List ℕ → List ℕ → List ℕ → Type 0
BeginsRow columns bytes clustering value = IsRow columns clustering value × ((rest : List ℕ) × (bytes ≡ row_bytes clustering value ++ rest))

-- the bytes begin with the end of a partition
abbrev pub BeginsEnd : List ℕ → Type 0
BeginsEnd bytes = (rest : List ℕ) × (bytes ≡ 0 ∷ rest)

-- the bytes begin with the static part of a partition in a table with a static type, which has this value or none
abbrev pub BeginsStaticPart : Columns → List ℕ → Option (List ℕ) → Type 0
BeginsStaticPart columns bytes value = FitsStaticType columns.static_value value × ((rest : List ℕ) × (bytes ≡ static_bytes value ++ rest))

-- no head begins here
abbrev pub NoHead : Columns → List ℕ → Type 0
NoHead columns bytes = (key : List ℕ) → BeginsHead columns bytes key → ⊥

-- neither a row nor an end begins here
abbrev pub NoRow : Columns → List ℕ → Type 0
NoRow columns bytes = ((clustering value : List ℕ) → BeginsRow columns bytes clustering value → ⊥) × (BeginsEnd bytes → ⊥)

-- no static part begins here
abbrev pub NoStaticPart : Columns → List ℕ → Type 0
NoStaticPart columns bytes = (value : Option (List ℕ)) → BeginsStaticPart columns bytes value → ⊥

-- ---- bytes that are cut off

-- the bytes are the beginning of a row, as far as its lengths say, and there is more of it; that of the clustering is at most 1,024 where both its bytes stand there
pub record IsCutRow (bytes : List ℕ) : Type 0 where
  pub clustering : List ℕ
  pub value : List ℕ
  pub more : List ℕ
  pub short : 3 ≤ length bytes → length clustering ≤ longest_string
  pub counts : (length clustering < 2 ^ 16) × (length value < 2 ^ 16)
  pub cut : more ≢ []
  pub row : row_bytes clustering value ≡ bytes ++ more

-- the bytes are the beginning of a static part, as far as its length says, and there is more of it
pub record IsCutStatic (bytes : List ℕ) : Type 0 where
  pub value : List ℕ
  pub more : List ℕ
  pub counts : length value < 2 ^ 16
  pub cut : more ≢ []
  pub part : static_bytes (Some value) ≡ bytes ++ more

-- ---- where it stands

-- the head that begins where these bytes stand, at a place of the file: its string, and the place behind it
abbrev pub IsHeadAt : Columns → List ℕ → ℕ → Head → Type 0
IsHeadAt columns bytes at head = BeginsHead columns bytes head.partition × (head.rows_at ≡ at + length (head_bytes head.partition))

-- the row or the end that begins there, and the place behind it
abbrev pub IsRowAt : Columns → List ℕ → ℕ → RowAt → Type 0
IsRowAt columns bytes at (Row row) = BeginsRow columns bytes row.clustering row.value × (row.end ≡ at + length (row_bytes row.clustering row.value))
IsRowAt columns bytes at (End behind) = BeginsEnd bytes × (behind ≡ at + 1)

-- the static part that begins there, and the place behind it
abbrev pub IsStaticPartAt : Columns → List ℕ → ℕ → StaticPart → Type 0
IsStaticPartAt columns bytes at static_part = BeginsStaticPart columns bytes static_part.value × (static_part.end ≡ at + length (static_bytes static_part.value))
