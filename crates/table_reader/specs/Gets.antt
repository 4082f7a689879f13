-- What a get finds in the files of a table, step by step: each step tells what stands at its place, or that nothing
-- sound does, and the first such place ends the get. This project's own.
use Rattle.std.specs.Prelude.{◌≡◌, ◌≢◌, ◌⊎◌, ℕ, ◌+◌, ◌==◌, ℤ, if◌then◌else◌}
use Rattle.std.specs.Prelude.{List, length, drop, Option, None, Some, Result, Ok, Err}
use Rattle.key_types.specs.declared.schema.ValueType.{ValueType}
use Rattle.key_types.specs.Columns.{Columns}
use Rattle.outside.specs.declared.store.Part.TheVariants.{Partitions, Rows}
use Rattle.outside.specs.Files.{Files, bytes_of}
use Rattle.bti_nodes.specs.declared.damage.Cause.TheVariants.{BadEntry, BadHead, BadRow}
use Rattle.bti_nodes.specs.declared.damage.Damage.{Damage}
use Rattle.bti_nodes.specs.Payloads.{signed_number, unsigned_number}
use Rattle.bti_reader.specs.Searches.{Answer, exact_in, floor_in}
use Rattle.data_file.specs.Answers.{damage_at}
use Rattle.data_file.specs.Listing.{head_bytes, static_bytes}
use Rattle.data_file.specs.Reading.{BeginsHead, BeginsStaticPart, NoHead, NoStaticPart}
use Rattle.index_files.specs.declared.entry.EntryNumbers.{EntryNumbers}
use Rattle.index_files.specs.declared.footer.FooterNumbers.{FooterNumbers}
use Rattle.index_files.specs.declared.place.PartitionPlace.{PartitionPlace}
use Rattle.index_files.specs.declared.place.PartitionPlace.TheVariants.{Entry, Head}
use Rattle.index_files.specs.Entries.{BeginsEntry, NoEntry}
use Rattle.index_files.specs.Reading.{file_damage, partition_place}
use Rattle.table_files.specs.Blocks.{block_size}
use Rattle.table_files.specs.Names.{data_id, partitions_id, rows_id}
use Rattle.table_reader.specs.declared.place.PartitionAt.{PartitionAt}
use Rattle.table_reader.specs.declared.block_at.BlockAt.{BlockAt}
use Rattle.table_reader.specs.Rows.{FindsRow}

-- what a get or a scan reads: the columns of a table, and the bytes of Data.db, Partitions.db and Rows.db
pub record TableBytes : Type 0 where
  pub columns : Columns
  pub entries : List ℕ
  pub partitions : List ℕ
  pub rows : List ℕ

-- those of a generation
abbrev pub bytes_in : Columns → Files → ℕ → TableBytes
bytes_in columns files generation = record {
  columns = columns;
  entries = bytes_of files (data_id generation);
  partitions = bytes_of files (partitions_id generation);
  rows = bytes_of files (rows_id generation);
}

-- what is found: a value, none, or the first damaged place
abbrev pub Found : Type 0
Found = Result (Option (List ℕ)) Damage

-- ---- one step behind the other

-- a step ends in damage, which is what is found; or well, and the rest finds what is found
abbrev pub Then : {A B : Type 0} → (Result A Damage → Type 0) → (A → Result B Damage → Type 0) → Result B Damage → Type 0
Then {A} Step Rest found =
    ((damage : Damage) × Step (Err damage) × (found ≡ Err damage)) ⊎ ((x : A) × Step (Ok x) × Rest x found)

-- where nothing is there none is found
abbrev pub IfThere : {A : Type 0} → Option A → (A → Found → Type 0) → Found → Type 0
IfThere None Rest found = found ≡ Ok None
IfThere (Some x) Rest found = Rest x found

-- ---- the partition

-- the number of the path that a search finds
abbrev pub number_of : Answer → Result (Option ℤ) Damage
number_of (Err wrong) = Err (file_damage Partitions wrong.position wrong.cause)
number_of (Ok None) = Ok None
number_of (Ok (Some path)) = Ok (Some (signed_number path.payload))

-- the number that a partition index has for a key; without partitions it has no trie
abbrev pub number_in : List ℕ → FooterNumbers → List ℕ → Result (Option ℤ) Damage
number_in file footer key = if footer.partitions == 0 then Ok None else number_of (exact_in file footer.root key)

-- where the head stands to which a number leads, and the root of the row index, where there is one
abbrev pub LeadsTo : TableBytes → PartitionPlace → Result PartitionAt Damage → Type 0
LeadsTo t (Head at) found = found ≡ Ok (record { head = at; root = None })
LeadsTo t (Entry at) (Ok there) =
    (string : List ℕ) × (numbers : EntryNumbers) × BeginsEntry t.columns (drop at t.rows) at string numbers
    × (there ≡ record { head = numbers.position; root = Some numbers.root })
LeadsTo t (Entry at) (Err damage) = (damage ≡ file_damage Rows at BadEntry) × NoEntry t.columns (drop at t.rows) at

-- the head at a place: the place behind it, or none where it is that of another key
abbrev pub FindsHead : TableBytes → List ℕ → ℕ → Result (Option ℕ) Damage → Type 0
FindsHead t key at (Ok None) = (other : List ℕ) × (other ≢ key) × BeginsHead t.columns (drop at t.entries) other
FindsHead t key at (Ok (Some behind)) =
    BeginsHead t.columns (drop at t.entries) key × (behind ≡ at + length (head_bytes key))
FindsHead t key at (Err damage) = (damage ≡ damage_at at BadHead) × NoHead t.columns (drop at t.entries)

-- ---- in the partition

-- the static value of a partition whose head ends there; without a static type it has none
abbrev pub FindsStatic : Option ValueType → TableBytes → ℕ → Found → Type 0
FindsStatic None t at found = found ≡ Ok None
FindsStatic (Some type) t at (Ok value) = BeginsStaticPart t.columns (drop at t.entries) value
FindsStatic (Some type) t at (Err damage) = (damage ≡ damage_at at BadRow) × NoStaticPart t.columns (drop at t.entries)

-- the first block of a partition whose head stands at a place and ends at another: its rows stand behind the head and
-- the static part, and it counts from the head on
abbrev pub FirstBlock : Option ValueType → TableBytes → ℕ → ℕ → Result BlockAt Damage → Type 0
FirstBlock None t head at found = found ≡ Ok (record { rows = at; limit = head + block_size })
FirstBlock (Some type) t head at (Ok block) =
    (value : Option (List ℕ)) × BeginsStaticPart t.columns (drop at t.entries) value
    × (block ≡ record { rows = at + length (static_bytes value); limit = head + block_size })
FirstBlock (Some type) t head at (Err damage) =
    (damage ≡ damage_at at BadRow) × NoStaticPart t.columns (drop at t.entries)

-- the offset of the path that a search finds
abbrev pub offset_of : Answer → Result (Option ℕ) Damage
offset_of (Err wrong) = Err (file_damage Rows wrong.position wrong.cause)
offset_of (Ok None) = Ok None
offset_of (Ok (Some path)) = Ok (Some (unsigned_number path.payload))

-- the offset of the block that a row index has for a key: of the last whose separator isn't above it
abbrev pub offset_in : List ℕ → Option ℕ → List ℕ → Result (Option ℕ) Damage
offset_in file None key = Ok None
offset_in file (Some root) key = offset_of (floor_in file root key)

-- the block at that offset, or the first, where the row index has none for the key
abbrev pub FindsBlock : TableBytes → PartitionAt → ℕ → Result (Option ℕ) Damage → Result BlockAt Damage → Type 0
FindsBlock t there behind (Err damage) found = found ≡ Err damage
FindsBlock t there behind (Ok None) found = FirstBlock t.columns.static_value t there.head behind found
FindsBlock t there behind (Ok (Some offset)) found =
    found ≡ Ok (record { rows = there.head + offset; limit = there.head + offset + block_size })

-- the row of a key in a block
abbrev pub FindsInBlock : TableBytes → List ℕ → BlockAt → Found → Type 0
FindsInBlock t key block found = FindsRow t.columns key block.limit block.rows (drop block.rows t.entries) found

-- what is wanted of a partition whose head ends there: the row of a clustering, or without one the static value
abbrev pub FindsInside : TableBytes → PartitionAt → Option (List ℕ) → ℕ → Found → Type 0
FindsInside t there None behind found = FindsStatic t.columns.static_value t behind found
FindsInside t there (Some key) behind found =
    Then (FindsBlock t there behind (offset_in t.rows there.root key)) (FindsInBlock t key) found

-- ---- all of it

-- What stands at the partition to which a number leads, where it is the key's.
abbrev pub FindsThere : TableBytes → List ℕ → Option (List ℕ) → ℤ → Found → Type 0
FindsThere t key wanted number found =
    Then (LeadsTo t (partition_place number)) (λ there.
    Then (FindsHead t key there.head) (λ behind. IfThere behind (FindsInside t there wanted))) found

-- What a get finds of a partition's key: the row of a clustering, or without one the static value.
abbrev pub Gets : TableBytes → FooterNumbers → List ℕ → Option (List ℕ) → Found → Type 0
Gets t footer key wanted found =
    Then (λ number. number ≡ number_in t.partitions footer key)
    (λ number. IfThere number (FindsThere t key wanted)) found
