-- The search for a row in a block. This project's own.
use Rattle.std.specs.Prelude.{◌≡◌, ◌⊎◌, ℕ, ◌+◌, ◌<◌, ◌≤◌, Option, None, Some, Result, Ok, Err}
use Rattle.std.specs.Prelude.{List, [], ◌∷◌, ◌++◌, length, drop}
use Rattle.std.specs.declared.cmp.Ordering.TheVariants.{Less, Greater}
use Rattle.key_types.specs.Columns.{Columns}
use Rattle.key_types.specs.Table.{string_cmp}
use Rattle.bti_nodes.specs.declared.damage.Cause.TheVariants.{BadRow}
use Rattle.bti_nodes.specs.declared.damage.Damage.{Damage}
use Rattle.data_file.specs.Answers.{damage_at}
use Rattle.data_file.specs.Listing.{row_bytes, rows_bytes, IsRow, Row}
use Rattle.data_file.specs.Reading.{BeginsEnd, BeginsRow, NoRow}
use Rattle.table_reader.specs.declared.block.Stop.{Stop}
use Rattle.table_reader.specs.declared.block.Stop.TheVariants.{Short, Bad}

-- the rows, which stand from a place on, are passed over: each lies below the key, and none ends the block
abbrev pub ArePassed : Columns → List ℕ → ℕ → ℕ → List Row → Type 0
ArePassed columns key limit at [] = Unit {0}
ArePassed columns key limit at (row ∷ rows) =
    IsRow columns row.clustering row.value × (string_cmp row.clustering key ≡ Less)
    × (at + length (row_bytes row.clustering row.value) < limit)
    × ArePassed columns key limit (at + length (row_bytes row.clustering row.value)) rows

-- the bytes begin with a row above the key
pub record BeginsAbove (columns : Columns) (key bytes : List ℕ) : Type 0 where
  pub clustering : List ℕ
  pub value : List ℕ
  pub row : BeginsRow columns bytes clustering value
  pub above : string_cmp clustering key ≡ Greater

-- they begin with the block's last row, which lies below the key
pub record BeginsLast (columns : Columns) (key : List ℕ) (limit at : ℕ) (bytes : List ℕ) : Type 0 where
  pub clustering : List ℕ
  pub value : List ℕ
  pub row : BeginsRow columns bytes clustering value
  pub below : string_cmp clustering key ≡ Less
  pub last : limit ≤ at + length (row_bytes clustering value)

-- What stands at the place behind the rows that were passed: the key's row with its value; or no row of the key, since
-- a row above it, the end of the partition or the block's last row stands there; or nothing sound.
abbrev pub Meets : Columns → List ℕ → ℕ → ℕ → List ℕ → Result (Option (List ℕ)) Damage → Type 0
Meets columns key limit at bytes (Ok (Some value)) = BeginsRow columns bytes key value
Meets columns key limit at bytes (Ok None) =
    BeginsAbove columns key bytes ⊎ BeginsEnd bytes ⊎ BeginsLast columns key limit at bytes
Meets columns key limit at bytes (Err damage) = (damage ≡ damage_at at BadRow) × NoRow columns bytes

-- The bytes that stand at a place of a block, which ends with the first row that ends at the limit or behind it, hold
-- this value of the key, or none, or are damaged there.
pub record FindsRow (columns : Columns) (key : List ℕ) (limit at : ℕ) (bytes : List ℕ)
    (found : Result (Option (List ℕ)) Damage) : Type 0 where
  pub rows : List Row
  pub passed : ArePassed columns key limit at rows
  pub rest : List ℕ
  pub stands : bytes ≡ rows_bytes rows ++ rest
  pub met : Meets columns key limit (at + length (rows_bytes rows)) rest found

-- the same of bytes and whatever follows them
abbrev pub FindsWith : Columns → List ℕ → ℕ → ℕ → List ℕ → Result (Option (List ℕ)) Damage → Type 0
FindsWith columns key limit at bytes found = (more : List ℕ) → FindsRow columns key limit at (bytes ++ more) found

-- The search comes to a row that is cut off, at a place behind some of the bytes: it is damage where nothing follows
-- the bytes, and where something does, what is found from that place on is found.
pub record IsCutAt (columns : Columns) (key : List ℕ) (limit at : ℕ) (bytes : List ℕ) (place : ℕ) : Type 0 where
  pub damaged : FindsRow columns key limit at bytes (Err (damage_at place BadRow))
  pub passed : ℕ
  pub there : place ≡ at + passed
  pub inside : (passed ≡ 0) ⊎ (place < limit)
  pub within : passed ≤ length bytes
  pub few : length bytes < passed + 66564
  pub onward : (more : List ℕ) (found : Result (Option (List ℕ)) Damage)
      → FindsRow columns key limit place (drop passed bytes ++ more) found
      → FindsRow columns key limit at (bytes ++ more) found

-- Where a search stopped: at damage, or at a row that is cut off.
abbrev pub StopsAt : Columns → List ℕ → ℕ → ℕ → List ℕ → Stop → Type 0
StopsAt columns key limit at bytes (Bad place) = FindsWith columns key limit at bytes (Err (damage_at place BadRow))
StopsAt columns key limit at bytes (Short place) = IsCutAt columns key limit at bytes place
