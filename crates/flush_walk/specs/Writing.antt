-- What contracts see of a writer of a table: the entries that it was given, and what stands in the files.
use Rattle.std.specs.Prelude.{◌≡◌, ◌≢◌, ℕ, ◌+◌, Bool, true, false, List, [], ◌∷◌, ◌++◌, length, Option, None, Some, Result, MatchResult, OnErr, OnOk, IfOk, IfSome}
use Rattle.std.specs.FinMap as map
use Rattle.outside.specs.Files.{Files, bytes_of}
use Rattle.outside.specs.Told.{WhereTold}
use Rattle.key_types.specs.Columns.{Columns}
use Rattle.key_types.specs.Table.{Table}
use Rattle.key_types.specs.declared.schema.ValueType.{ValueType}
use Rattle.data_file.specs.Listing.{Partition, Row, data_bytes}
use Rattle.data_file.specs.declared.writer.Counts.{Counts}
use Rattle.page_packer.specs.Early.{IsBeginning}
use Rattle.row_index.specs.Entries.{Block}
use Rattle.table_files.specs.Blocks.{blocks_of}
use Rattle.table_files.specs.IndexMeaning.{IndexFilesStand}
use Rattle.table_files.specs.Indexes.{partitions_file, placed, rows_file}
use Rattle.table_files.specs.Names.{data_id, partitions_id, rows_id, schema_id}
use Rattle.table_files.specs.SchemaFile.{HaveSchemaFile, schema_file_text}
use Rattle.table_files.specs.Standing.{AreOfTable, StandFor, entries_in}
use Rattle.flush_walk.specs.declared.current.CurrentPartition.{CurrentPartition}
use Rattle.flush_walk.specs.declared.writer.TableWriter.{TableWriter}
use Rattle.flush_walk.specs.Given.{Flushing, Given, TakesEntry, growing_of, last_clustering, last_start, partitions_given, with_entry}
use Rattle.flush_walk.specs.Growing.{FourFiles, Grows, HaveBytes, Torn}

-- ---- the open partition

abbrev pub has_blocks : List Block → Bool
has_blocks [] = false
has_blocks (b ∷ bs) = true

-- what is held of the open partition: its string and position, the string of its last row, and its last block
pub record IsHeld (s : CurrentPartition) (static : Option ValueType) (closed : List Partition) (p : Partition) : Type 0 where
  pub is_open : s.is_open ≡ true
  pub key : s.key ≡ p.key
  pub position : s.position ≡ length (data_bytes static closed)
  pub last : s.last ≡ last_clustering p.rows
  pub start : s.start ≡ last_start static p
  pub indexed : s.indexed ≡ has_blocks (blocks_of static p)

abbrev pub IsCurrent : CurrentPartition → Option ValueType → List Partition → Option Partition → Type 0
IsCurrent s static closed None = s.is_open ≡ false
IsCurrent s static closed (Some p) = IsHeld s static closed p

-- ---- the writer

-- how many rows there are
abbrev pub rows_in_all : List Partition → ℕ
rows_in_all [] = 0
rows_in_all (p ∷ ps) = length p.rows + rows_in_all ps

pub record AreCounts (counts : Counts) (ps : List Partition) : Type 0 where
  pub partitions : counts.partitions ≡ length ps
  pub rows : counts.rows ≡ rows_in_all ps

-- The writer was given these entries, and what it appended stands.
pub record WritesTable (s : TableWriter) (w : Flushing) (now : Option Files) : Type 0 where
  pub generation : s.generation ≡ w.generation
  pub static : s.static_value ≡ w.columns.static_value
  pub text : s.text ≡ schema_file_text w.columns
  pub table : AreOfTable w.columns (partitions_given w)
  pub grows : Grows s.files (growing_of w) now
  pub current : IsCurrent s.current w.columns.static_value w.closed w.current
  pub counts : AreCounts s.counts (partitions_given w)

-- at Ok the writer was given this, and else a part of it stands
abbrev pub Goes : {T E : Type 0} → Result T E → TableWriter → Flushing → Option Files → Type 0
Goes result s w now = MatchResult result (λ _. WritesTable s w now) (λ _. Torn (growing_of w) now)

-- ---- what becomes of it

-- the four files of a table of these partitions
abbrev pub files_of_table : Columns → List Partition → FourFiles
files_of_table columns ps = record {
  listing = data_bytes columns.static_value ps;
  rows = rows_file columns.static_value ps;
  partitions = partitions_file columns.static_value ps;
  schema = schema_file_text columns;
}

-- the second partition is the first with more rows, or none
pub record IsContinued (p q : Partition) : Type 0 where
  pub key : q.key ≡ p.key
  pub static_part : q.static_part ≡ p.static_part
  pub more : List Row
  pub rows : q.rows ≡ p.rows ++ more

-- the partitions go on from the whole ones, and from the open one where there is one
abbrev pub GoOnFrom : List Partition → Option Partition → List Partition → Type 0
GoOnFrom closed None ps = (rest : List Partition) × (ps ≡ closed ++ rest)
GoOnFrom closed (Some p) ps =
    (q : Partition) × (rest : List Partition) × (ps ≡ closed ++ q ∷ rest) × IsContinued p q

-- Each file has a prefix of what it was to have, and Schema.txt something only where the others are whole.
pub record AreBegun (part whole : FourFiles) : Type 0 where
  pub listing : IsBeginning part.listing whole.listing
  pub rows : IsBeginning part.rows whole.rows
  pub partitions : IsBeginning part.partitions whole.partitions
  pub schema : IsBeginning part.schema whole.schema
  pub last : part.schema ≢ [] → (part.listing ≡ whole.listing) × (part.rows ≡ whole.rows) × (part.partitions ≡ whole.partitions)

-- after an error, in place of none of the generation's files: a part of the files of these partitions stands
abbrev pub BeginsFiles : Flushing → List Partition → Option Files → Type 0
BeginsFiles w ps now =
    WhereTold w.before now (λ old new. (part : FourFiles) × AreBegun part (files_of_table w.columns ps) × HaveBytes w.generation part old new)

-- whatever entries were to come
abbrev pub LeavesBegun : Flushing → Option Files → Type 0
LeavesBegun w now = (ps : List Partition) → AreOfTable w.columns ps → GoOnFrom w.closed w.current ps → BeginsFiles w ps now

-- an entry may be added
abbrev pub TakesNext : TableWriter → Given → Option Files → Type 0
TakesNext s e now = (w : Flushing) × WritesTable s w now × TakesEntry w e

-- At Ok the writer was given one entry more, and after an error a part of the files stands.
pub record AddsEntryTo (old new : TableWriter) (before after : Option Files) {T E : Type 0} (result : Result T E) (e : Given) : Type 0 where
  pub writes : OnOk result ((w : Flushing) → WritesTable old w before → TakesEntry w e → WritesTable new (with_entry w e) after)
  pub begun : OnErr result ((w : Flushing) → WritesTable old w before → TakesEntry w e → LeavesBegun (with_entry w e) after)

-- the four files were added, and nothing else changed
abbrev pub AddsFour : ℕ → FourFiles → Files → Files → Type 0
AddsFour generation four old new =
    new ≡ map.insert (map.insert (map.insert (map.insert old (data_id generation) four.listing) (rows_id generation) four.rows)
    (partitions_id generation) four.partitions) (schema_id generation) four.schema

-- they stand for each map of the entries
abbrev pub StandForGiven : Flushing → Files → Type 0
StandForGiven w new =
    HaveSchemaFile w.columns → (table : Table) → map.entries table ≡ entries_in (partitions_given w)
    → StandFor new w.generation w.columns table

-- the index files index the partitions
abbrev pub IndexGiven : Flushing → Files → Type 0
IndexGiven w new =
    IndexFilesStand (bytes_of new (partitions_id w.generation)) (bytes_of new (rows_id w.generation))
    (placed w.columns.static_value (partitions_given w))

-- At Ok the four files of the partitions were added, they stand for the map of the entries, and the counts are theirs;
-- after an error a part of the files stands.
pub record FinishesTable (s : TableWriter) (before after : Option Files) {E : Type 0} (result : Result Counts E) : Type 0 where
  pub adds : OnOk result ((w : Flushing) → WritesTable s w before
      → WhereTold w.before after (AddsFour w.generation (files_of_table w.columns (partitions_given w))))
  pub stand : OnOk result ((w : Flushing) → WritesTable s w before → IfSome after (StandForGiven w))
  pub indexed : OnOk result ((w : Flushing) → WritesTable s w before → IfSome after (IndexGiven w))
  pub counts : IfOk result (λ counts. (w : Flushing) → WritesTable s w before → AreCounts counts (partitions_given w))
  pub begun : OnErr result ((w : Flushing) → WritesTable s w before → BeginsFiles w (partitions_given w) after)
