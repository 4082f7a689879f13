-- What the check of a table's files answers. This project's own.
use Rattle.std.specs.Prelude.{◌≡◌, ◌≢◌, ℕ, ◌<◌, pos, List, Result, Ok, Err, ⊤}
use Rattle.outside.specs.declared.store.Part.TheVariants.{Partitions}
use Rattle.outside.specs.Files.{Files, bytes_of}
use Rattle.key_types.specs.Columns.{Columns}
use Rattle.key_types.specs.Table.{Table}
use Rattle.data_file.specs.declared.writer.Counts.{Counts}
use Rattle.table_files.specs.Names.{data_id, partitions_id, rows_id, schema_id}
use Rattle.table_files.specs.SchemaFile.{IsSchemaFile, IsWholeSchemaFile}
use Rattle.table_files.specs.Standing.{StandFor}
use Rattle.table_reader.specs.declared.fault.TableFault.{TableFault}
use Rattle.table_reader.specs.declared.fault.TableFault.TheVariants.{StoreFault, Damaged, Unfinished, NoMemory}
use Rattle.table_reader.specs.Faults.{fault_of}
use Rattle.data_walk.specs.declared.clash.Clash.TheVariants.{Number}
use Rattle.data_walk.specs.declared.refusal.Refusal.{Refusal}
use Rattle.data_walk.specs.declared.refusal.Refusal.TheVariants.{Clashes, Unread}
use Rattle.data_walk.specs.Refusals.{IsFault, clash_at}
use Rattle.row_check.specs.Entries.{ChecksEntries}
use Rattle.partition_check.specs.declared.data.Found.{Found}
use Rattle.table_check.specs.declared.footer.Footer.{Footer}
use Rattle.table_check.specs.declared.verdict.Verdict.{Verdict}
use Rattle.table_check.specs.declared.verdict.Verdict.TheVariants.{Sound, Unsound}
use Rattle.partition_check.specs.Data.{FindsData}
use Rattle.table_check.specs.Footing.{ChecksFooter}
use Rattle.partition_check.specs.Found.{counts_of}
use Rattle.partition_check.specs.Partitions.{ChecksPartitions}

-- ---- what is said of the files

-- the files stand for a map, and these are the counts of what Data.db lists
pub record IsSound (files : Files) (generation : ℕ) (counts : Counts) : Type 0 where
  pub columns : Columns
  pub table : Table
  pub stands : StandFor files generation columns table
  pub sum : counts ≡ counts_of stands.held.partitions

-- they stand for none
abbrev pub StandForNone : Files → ℕ → Type 0
StandForNone files generation = (columns : Columns) (table : Table) → StandFor files generation columns table → ⊥

-- What a check says of the files. A store may fail and memory run out.
abbrev pub Checks : Files → ℕ → Result Verdict TableFault → Type 0
Checks files generation (Ok (Sound counts)) = IsSound files generation counts
Checks files generation (Ok (Unsound mismatch)) = StandForNone files generation
Checks files generation (Err (Damaged damage)) = StandForNone files generation
Checks files generation (Err Unfinished) = ¬ (IsWholeSchemaFile (bytes_of files (schema_id generation)))
Checks files generation (Err StoreFault) = Unit {0}
Checks files generation (Err NoMemory) = Unit {0}

-- ---- which of its steps a check answers

-- the footer's number of partitions isn't that of Data.db
abbrev pub count_clash : Found → Footer → Refusal
count_clash found footer =
    clash_at Partitions footer.position (Number (pos footer.numbers.partitions) (pos found.counts.partitions))

-- the number of partitions, which is compared last
pub data ComparesCounts (found : Found) (footer : Footer) : Result Counts Refusal → Type 0 where
  same : footer.numbers.partitions ≡ found.counts.partitions → ComparesCounts found footer (Ok found.counts)
  other : footer.numbers.partitions ≢ found.counts.partitions
      → ComparesCounts found footer (Err (count_clash found footer))

module _ (columns : Columns) (entries index rows : List ℕ) where
  -- The trie of Partitions.db and what it leads to, beside the partitions of Data.db, where there is one.
  pub data ChecksIndexes (found : Found) (root : ℕ) : Result ⊤ Refusal → Type 0 where
    none : found.counts.partitions ≡ 0 → ChecksIndexes found root (Ok tt)
    partitions : (e : Refusal) → 0 < found.counts.partitions → ChecksPartitions columns entries index root (Err e)
        → ChecksIndexes found root (Err e)
    behind : (result : Result ⊤ Refusal) → 0 < found.counts.partitions
        → ChecksPartitions columns entries index root (Ok tt) → ChecksEntries columns entries rows index root result
        → ChecksIndexes found root result

  -- Data.db is gone through first, and then the footer, the indexes and the footer's number of partitions are compared
  -- with it. The first refusal is the answer; the store may fail and memory run out.
  pub data ChecksFiles : Result Counts Refusal → Type 0 where
    entries_refused : (e : Refusal) → FindsData columns entries (Err e) → ChecksFiles (Err e)
    footer_refused : (found : Found) (e : Refusal) → FindsData columns entries (Ok found)
        → ChecksFooter columns index found.first found.last (Err e) → ChecksFiles (Err e)
    indexes_refused : (found : Found) (footer : Footer) (e : Refusal) → FindsData columns entries (Ok found)
        → ChecksFooter columns index found.first found.last (Ok footer)
        → ChecksIndexes found footer.numbers.root (Err e) → ChecksFiles (Err e)
    compared : (found : Found) (footer : Footer) (result : Result Counts Refusal)
        → FindsData columns entries (Ok found) → ChecksFooter columns index found.first found.last (Ok footer)
        → ChecksIndexes found footer.numbers.root (Ok tt) → ComparesCounts found footer result → ChecksFiles result
    fault : (e : Refusal) → IsFault e → ChecksFiles (Err e)

-- what a check answers, by how its steps ended
abbrev pub verdict_of : Result Counts Refusal → Result Verdict TableFault
verdict_of (Ok counts) = Ok (Sound counts)
verdict_of (Err (Clashes at)) = Ok (Unsound at)
verdict_of (Err (Unread e)) = Err (fault_of e)

-- where Schema.txt is whole, a check answers how its steps end
abbrev pub Answers : Files → ℕ → Result Verdict TableFault → Type 0
Answers files generation result = (columns : Columns) → IsSchemaFile columns (bytes_of files (schema_id generation))
    → (steps : Result Counts Refusal) × (result ≡ verdict_of steps)
    × ChecksFiles columns (bytes_of files (data_id generation)) (bytes_of files (partitions_id generation))
    (bytes_of files (rows_id generation)) steps
