-- Where a scan begins: the search for a bound through the index files, and the place of Data.db that it comes to. Each
-- relation says what is found, or which place that is asked for is damaged and why. This project's own.
use Rattle.std.specs.Prelude.{◌≡◌, ◌⊎◌, ℕ, ◌+◌, ◌<◌, ℤ, List, length, drop, Option, None, Some, Result, Ok, Err, IfSome}
use Rattle.std.specs.declared.cmp.Ordering.{Ordering}
use Rattle.std.specs.declared.cmp.Ordering.TheVariants.{Less, Equal, Greater}
use Rattle.outside.specs.declared.store.FileId.{FileId}
use Rattle.outside.specs.Files.{Files, bytes_of}
use Rattle.key_types.specs.declared.schema.ValueType.{ValueType}
use Rattle.key_types.specs.Table.{string_cmp}
use Rattle.bti_nodes.specs.declared.damage.Cause.TheVariants.{BadHead, BadRow}
use Rattle.bti_nodes.specs.declared.damage.Damage.{Damage}
use Rattle.bti_reader.specs.Searches.{ceiling_in, exact_in, floor_in}
use Rattle.data_file.specs.Answers.{damage_at}
use Rattle.data_file.specs.Listing.{head_bytes, static_bytes}
use Rattle.data_file.specs.Reading.{BeginsHead, BeginsStaticPart, NoHead, NoStaticPart}
use Rattle.index_files.specs.declared.footer.FooterNumbers.{FooterNumbers}
use Rattle.index_files.specs.Reading.{partition_place}
use Rattle.table_reader.specs.declared.place.PartitionAt.{PartitionAt}
use Rattle.table_reader.specs.Gets.{LeadsTo, TableBytes, Then, number_of, offset_of}
use Rattle.table_reader.specs.declared.seek.BoundString.{BoundString}
use Rattle.table_reader.specs.declared.seek.Start.{Start}

-- ---- the files

-- a scan begins in no partition, or in that of this string
abbrev pub IsInOf : List ℕ → Option Start → Type 0
IsInOf string start = IfSome start (λ s. IfSome s.partition (λ partition. partition ≡ string))

-- the same of the bound from which it goes; without one it begins in no partition
abbrev pub IsInBound : Option BoundString → Option Start → Type 0
IsInBound None start = IfSome start (λ s. s.partition ≡ None)
IsInBound (Some bound) start = IsInOf bound.partition start

-- where the files are told, the file has so many bytes
abbrev pub EndsAt : Option Files → FileId → ℕ → Type 0
EndsAt files file limit = IfSome files (λ m. length (bytes_of m file) ≡ limit)

-- at the head of a partition
abbrev pub at_head : PartitionAt → Option Start
at_head place = Some (record { at = place.head; partition = None })

module _ (table : TableBytes) where
  -- ---- places of Data.db

  -- the string of the partition whose head stands at a place
  abbrev pub HasHead : ℕ → Result (List ℕ) Damage → Type 0
  HasHead at (Ok key) = BeginsHead table.columns (drop at table.entries) key
  HasHead at (Err damage) = (damage ≡ damage_at at BadHead) × NoHead table.columns (drop at table.entries)

  -- where the rows begin behind a head that ends there: behind the static part where there is a static type
  abbrev pub HasRows : Option ValueType → ℕ → Result ℕ Damage → Type 0
  HasRows None behind result = result ≡ Ok behind
  HasRows (Some type) behind (Ok at) = (value : Option (List ℕ))
      × BeginsStaticPart table.columns (drop behind table.entries) value × (at ≡ behind + length (static_bytes value))
  HasRows (Some type) behind (Err damage) =
      (damage ≡ damage_at behind BadRow) × NoStaticPart table.columns (drop behind table.entries)

  -- where a block stands whose offset was found, in a partition whose head stands at a place and ends there; where none
  -- was found, the first block's rows
  abbrev pub HasBlock : ℕ → ℕ → Option ℕ → Result ℕ Damage → Type 0
  HasBlock head behind (Some offset) result = result ≡ Ok (head + offset)
  HasBlock head behind None result = HasRows table.columns.static_value behind result

  -- the block in which the rows of a partition begin that aren't below the clustering: that of the greatest separator
  -- that isn't above it
  abbrev pub BeginsBlock : PartitionAt → List ℕ → ℕ → Option ℕ → Result ℕ Damage → Type 0
  BeginsBlock place clustering behind None = HasBlock place.head behind None
  BeginsBlock place clustering behind (Some index) =
      Then (λ offset. offset ≡ offset_of (floor_in table.rows index clustering)) (HasBlock place.head behind)

  -- ---- where the scan begins

  -- at the head of the partition that a number names
  abbrev pub BeginsAt : Option ℤ → Result (Option Start) Damage → Type 0
  BeginsAt None result = result ≡ Ok None
  BeginsAt (Some number) result = Then (LeadsTo table (partition_place number))
      (λ place. Then (HasHead place.head) (λ key found. found ≡ Ok (at_head place))) result

  -- in the partition of the bound: at its head where the bound names no clustering components, and else in a block
  abbrev pub BeginsWithin : PartitionAt → List ℕ → Option (List ℕ) → Result (Option Start) Damage → Type 0
  BeginsWithin place string None result = result ≡ Ok (at_head place)
  BeginsWithin place string (Some clustering) result =
      Then (BeginsBlock place clustering (place.head + length (head_bytes string)) place.root)
      (λ at found. found ≡ Ok (Some (record { at = at; partition = Some string }))) result

-- over a table whose partition index has its root there
module _ (table : TableBytes) (root : ℕ) where
  -- at the head of the first partition whose path isn't below the string
  abbrev pub BeginsNext : List ℕ → Result (Option Start) Damage → Type 0
  BeginsNext string =
      Then (λ number. number ≡ number_of (ceiling_in table.partitions root string)) (BeginsAt table)

  -- by the order of a partition's string to the bound's
  abbrev pub BeginsBy : BoundString → PartitionAt → Ordering → Result (Option Start) Damage → Type 0
  BeginsBy bound place Less result = BeginsNext bound.partition result
  BeginsBy bound place Equal result = BeginsWithin table place bound.partition bound.clustering result
  BeginsBy bound place Greater result = result ≡ Ok (at_head place)

  -- by the partition whose path begins the bound's partition, which may be another; where there is none, at the next
  abbrev pub BeginsFrom : BoundString → Option ℤ → Result (Option Start) Damage → Type 0
  BeginsFrom bound None result = BeginsNext bound.partition result
  BeginsFrom bound (Some number) result = Then (LeadsTo table (partition_place number))
      (λ place. Then (HasHead table place.head) (λ key. BeginsBy bound place (string_cmp key bound.partition))) result

  -- The search for a bound: none where the table has no partition at or above it.
  abbrev pub Seeks : BoundString → Result (Option Start) Damage → Type 0
  Seeks bound =
      Then (λ number. number ≡ number_of (exact_in table.partitions root bound.partition)) (BeginsFrom bound)

-- Where a scan begins: at the start of Data.db without a bound; nowhere where the footer counts no partition; and else
-- where the search for the bound comes to.
abbrev pub BeginsScan : TableBytes → FooterNumbers → Option BoundString → Result (Option Start) Damage → Type 0
BeginsScan table footer None result = result ≡ Ok (Some (record { at = 0; partition = None }))
BeginsScan table footer (Some bound) result =
    ((footer.partitions ≡ 0) × (result ≡ Ok None)) ⊎ ((0 < footer.partitions) × Seeks table footer.root bound result)
