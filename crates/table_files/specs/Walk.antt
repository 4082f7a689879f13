-- What a walk over a data file meets, from its start to its end or to the first place that is not sound. This project's own.
use Rattle.std.specs.Prelude.{◌≡◌, ◌≢◌, ℕ, ◌+◌, List, [], ◌∷◌, ◌++◌, length, drop, Option, Some, None, IsSome}
use Rattle.key_types.specs.Table.{Entry}
use Rattle.bti_nodes.specs.declared.damage.Cause.TheVariants.{BadHead, BadRow}
use Rattle.bti_nodes.specs.declared.damage.Damage.{Damage}
use Rattle.data_file.specs.Answers.{damage_at}
use Rattle.key_types.specs.Columns.{Columns}
use Rattle.key_decode.specs.Strings.{IsStringOf}
use Rattle.data_file.specs.Listing.{head_bytes, static_part_bytes, row_bytes, FitsStaticType, IsRow}
use Rattle.data_file.specs.Reading.{NoHead, NoStaticPart, NoRow}
use Rattle.table_files.specs.Standing.{static_entries}

-- From a place of a data file on, between partitions or inside the partition of a key, the bytes that are left give these entries in order,
-- and then the walk stops: at the file's end, or at the first place where nothing sound begins. One rule for each thing that may stand there.
pub data Walks (columns : Columns) : Option (List ℕ) → ℕ → List ℕ → List Entry → Option Damage → Type 0 where
  -- the file's end
  ends : (at : ℕ) → Walks columns None at [] [] None
  -- no head of a partition
  bad_head : (at : ℕ) (bytes : List ℕ) → bytes ≢ [] → NoHead columns bytes → Walks columns None at bytes [] (Some (damage_at at BadHead))
  -- the head of a partition with its static part, and then what stands in it
  head : (at : ℕ) (key : List ℕ) (static_part : Option (List ℕ)) (bytes rest : List ℕ) (entries : List Entry) (stop : Option Damage) → IsStringOf columns.partition key
      → FitsStaticType columns.static_value static_part → bytes ≡ (head_bytes key ++ static_part_bytes columns.static_value static_part) ++ rest
      → Walks columns (Some key) (at + length (head_bytes key ++ static_part_bytes columns.static_value static_part)) rest entries stop
      → Walks columns None at bytes (static_entries key static_part ++ entries) stop
  -- a head, in a table with a static type, and no static part behind it
  bad_static_part : (at : ℕ) (key bytes rest : List ℕ) → IsStringOf columns.partition key → IsSome columns.static_value → bytes ≡ head_bytes key ++ rest
      → NoStaticPart columns rest → Walks columns None at bytes [] (Some (damage_at (at + length (head_bytes key)) BadRow))
  -- a row of the partition
  row : (at : ℕ) (key clustering value bytes rest : List ℕ) (entries : List Entry) (stop : Option Damage) → IsRow columns clustering value
      → bytes ≡ row_bytes clustering value ++ rest → Walks columns (Some key) (at + length (row_bytes clustering value)) rest entries stop
      → Walks columns (Some key) at bytes ((key ++ clustering, value) ∷ entries) stop
  -- the end of the partition
  closes : (at : ℕ) (key bytes rest : List ℕ) (entries : List Entry) (stop : Option Damage) → bytes ≡ 0 ∷ rest → Walks columns None (at + 1) rest entries stop
      → Walks columns (Some key) at bytes entries stop
  -- neither a row nor an end
  bad_row : (at : ℕ) (key bytes : List ℕ) → NoRow columns bytes → Walks columns (Some key) at bytes [] (Some (damage_at at BadRow))

-- ---- parts of a walk

-- from one place of the file to another the walk passes exactly these entries
pub record Passes (columns : Columns) (file : List ℕ) (inside : Option (List ℕ)) (at : ℕ) (entries : List Entry) (inside' : Option (List ℕ)) (at' : ℕ) : Type 0 where
  -- what comes from there on comes behind them
  pub onward : (more : List Entry) (stop : Option Damage) → Walks columns inside' at' (drop at' file) more stop → Walks columns inside at (drop at file) (entries ++ more) stop
  -- every walk begins with them, and goes on from there
  pub only : (all : List Entry) (stop : Option Damage) → Walks columns inside at (drop at file) all stop
      → (more : List Entry) × (all ≡ entries ++ more) × Walks columns inside' at' (drop at' file) more stop

-- from this place of the file the walk gives these entries and stops so, and no others and not otherwise
pub record Stops (columns : Columns) (file : List ℕ) (inside : Option (List ℕ)) (at : ℕ) (entries : List Entry) (stop : Option Damage) : Type 0 where
  pub here : Walks columns inside at (drop at file) entries stop
  pub only : (all : List Entry) (other : Option Damage) → Walks columns inside at (drop at file) all other → (all ≡ entries) × (other ≡ stop)
