-- The files of a table while they grow: what their writers were given, and what stands in them.
use Rattle.std.specs.Prelude.{◌≡◌, ◌≢◌, ℕ, List, [], ◌++◌, length, Option, Result, MatchResult, IfSome, Some, false}
use Rattle.std.specs.FinMap as map
use Rattle.outside.specs.Files.{Files, bytes_of}
use Rattle.outside.specs.Told.{WhereTold}
use Rattle.outside.specs.declared.store.FileId.{FileId}
use Rattle.page_packer.specs.Early.{IsBeginning}
use Rattle.partition_index.specs.File.{early_index, partition_file}
use Rattle.partition_index.specs.Writing.{Indexing, WritesIndex, no_partitions}
use Rattle.row_index.specs.File.{row_file}
use Rattle.row_index.specs.Writing.{RowIndexing, WritesRowIndex, early_rows, no_rows}
use Rattle.table_files.specs.Names.{data_id, partitions_id, rows_id, schema_id}
use Rattle.table_files.specs.There.{any_there}
use Rattle.flush_walk.specs.declared.growing.GrowingFiles.{GrowingFiles}

-- ---- the four files of a generation

pub record FourFiles : Type 0 where
  pub listing : List ℕ
  pub rows : List ℕ
  pub partitions : List ℕ
  pub schema : List ℕ

-- the generation's files have these bytes, one that isn't there counting as an empty one, and all other files are as
-- they were before
pub record HaveBytes (generation : ℕ) (four : FourFiles) (before now : Files) : Type 0 where
  pub listing : bytes_of now (data_id generation) ≡ four.listing
  pub rows : bytes_of now (rows_id generation) ≡ four.rows
  pub partitions : bytes_of now (partitions_id generation) ≡ four.partitions
  pub schema : bytes_of now (schema_id generation) ≡ four.schema
  pub others : (file : FileId) → file.generation ≢ generation → map.get now file ≡ map.get before file

-- none of the generation's files is there, where the files are told
abbrev pub NoneOf : ℕ → Option Files → Type 0
NoneOf generation files = IfSome files (λ m. any_there generation m ≡ false)

-- ---- what the writers were given

-- the generation, the files before the first call, the bytes for Data.db, and what the writers of the indexes were given
pub record Growing : Type 0 where
  pub generation : ℕ
  pub before : Option Files
  pub listing : List ℕ
  pub rows : RowIndexing
  pub index : Indexing

abbrev pub nothing_grown : ℕ → Option Files → Growing
nothing_grown generation before = record {
  generation = generation;
  before = before;
  listing = [];
  rows = no_rows (rows_id generation);
  index = no_partitions (partitions_id generation);
}

-- with more bytes for Data.db
abbrev pub with_bytes : Growing → List ℕ → Growing
with_bytes t bytes = record t { listing = t.listing ++ bytes }

-- what stands of it, where this front of the bytes for Data.db stands
abbrev pub standing : Growing → List ℕ → FourFiles
standing t front = record { listing = front; rows = early_rows t.rows; partitions = early_index t.index.partitions; schema = [] }

-- of the bytes for Data.db all but those held back stand, and all that stands of the indexes
abbrev pub StandsNow : GrowingFiles → Growing → Files → Files → Type 0
StandsNow s t before now =
    (front : List ℕ) × (t.listing ≡ front ++ s.listing.pending) × HaveBytes t.generation (standing t front) before now

-- The writers were given this, and what they appended stands.
pub record Grows (s : GrowingFiles) (t : Growing) (now : Option Files) : Type 0 where
  pub position : s.listing.position ≡ length t.listing
  pub listing_file : s.listing.file ≡ data_id t.generation
  pub rows : WritesRowIndex s.rows t.rows
  pub rows_file : t.rows.file ≡ rows_id t.generation
  pub index : WritesIndex s.partitions t.index
  pub index_file : t.index.file ≡ partitions_id t.generation
  pub files : WhereTold t.before now (StandsNow s t)

-- ---- after an error

-- each file has a prefix of what it was to have, and Schema.txt nothing
pub record AreCut (part whole : FourFiles) : Type 0 where
  pub listing : IsBeginning part.listing whole.listing
  pub rows : IsBeginning part.rows whole.rows
  pub partitions : IsBeginning part.partitions whole.partitions
  pub schema : part.schema ≡ []

abbrev pub CutOff : Growing → FourFiles → Option Files → Type 0
CutOff t whole now = WhereTold t.before now (λ old new. (part : FourFiles) × AreCut part whole × HaveBytes t.generation part old new)

-- what stands of it where no bytes are held back
abbrev pub Torn : Growing → Option Files → Type 0
Torn t now = CutOff t (standing t t.listing) now

-- at Ok the writers were given this, and else a part of it stands
abbrev pub Moves : {T E : Type 0} → Result T E → GrowingFiles → Growing → Option Files → Type 0
Moves result s t now = MatchResult result (λ _. Grows s t now) (λ _. Torn t now)

-- ---- the end of the files

-- the three files when their writers have ended
abbrev pub ended : Growing → FourFiles
ended t = record { listing = t.listing; rows = row_file t.rows.done; partitions = partition_file t.index.partitions; schema = [] }

-- they are there, and all other files are as they were before
pub record AreThree (generation : ℕ) (four : FourFiles) (before now : Files) : Type 0 where
  pub listing : map.get now (data_id generation) ≡ Some four.listing
  pub rows : map.get now (rows_id generation) ≡ Some four.rows
  pub partitions : map.get now (partitions_id generation) ≡ Some four.partitions
  pub schema : bytes_of now (schema_id generation) ≡ []
  pub others : (file : FileId) → file.generation ≢ generation → map.get now file ≡ map.get before file

-- at Ok the three files are there, and else a part of them stands
abbrev pub Ends : {T E : Type 0} → Result T E → Growing → Option Files → Type 0
Ends result t now = MatchResult result (λ _. WhereTold t.before now (AreThree t.generation (ended t))) (λ _. CutOff t (ended t) now)
