-- The entries of Rows.db beside the partitions of Data.db, step by step.
use Rattle.std.proofs.Common.{◌≡◌, ℕ, ◌≤◌, List, length, drop, Option, None, Some, IfSome, Result, Ok, Err, ap, subst, arith, length-append}
use Rattle.std.specs.Prelude.{⊤}
use Rattle.std.proofs.lemmas.List.{length-drop}
use Rattle.outside.specs.Files.{Files, bytes_of}
use Rattle.outside.specs.declared.store.Part.TheVariants.{Partitions}
use Rattle.key_types.specs.Columns.{Columns}
use Rattle.data_file.specs.Listing.{partition_bytes}
use Rattle.bti_nodes.specs.Payloads.{signed_number}
use Rattle.bti_reader.specs.declared.way.PathHit.{PathHit}
use Rattle.bti_reader.specs.declared.way.Way.{Way}
use Rattle.bti_reader.specs.Walks.{last_given}
use Rattle.bti_reader.specs.Ways.{Progress}
use Rattle.table_files.specs.Names.{data_id, partitions_id, rows_id}
use Rattle.table_reader.specs.Scans.{unread_at}
use Rattle.table_reader.specs.Window.{Continues}
use Rattle.data_walk.specs.declared.data_walk.DataWalk.{DataWalk}
use Rattle.data_walk.specs.declared.data_walk.PartitionSum.{PartitionSum}
use Rattle.data_walk.specs.declared.refusal.Refusal.{Refusal}
use Rattle.data_walk.specs.DataWalk.{FindsPartition, OverFile, Place, place_at, place_of}
use Rattle.data_walk.specs.Refusals.{IsFault}
use Rattle.data_walk.proofs.Passing.{passes_partition}
use Rattle.row_check.specs.Entries.{ChecksEntries, ChecksNumber, ComparesEntries}
use Rattle.path_check.specs.Paths.{EndsPaths, GivesPath}
use Rattle.row_check.proofs.Compared.{unread_continues}

-- a partition that is found stands in the file
found_within : (columns : Columns) (file : List ℕ) (place place' : Place) (sum : PartitionSum) → FindsPartition columns file place place' (Ok (Some sum))
    → sum.position ≤ length file
found_within columns file place place' sum finds =
    let p = passes_partition columns file place place' sum finds in
    omega (arith, p.position, ap length p.stands, length-drop place.at file, length-append (partition_bytes columns.static_value p.partition) (drop place'.at file))

module _ (columns : Columns) (generation root : ℕ) where
  abbrev Compares : Files → Place → Option (List ℕ) → Result ⊤ Refusal → Type 0
  Compares m place last result = ComparesEntries columns (bytes_of m (data_id generation)) (bytes_of m (rows_id generation))
      (bytes_of m (partitions_id generation)) root place last result

  -- what a check finds from there on
  abbrev pub EntriesFound : Option Files → DataWalk → Progress → Result ⊤ Refusal → Type 0
  EntriesFound files walk paths result = IfSome files (λ m. Continues (bytes_of m (data_id generation)) walk.window
      → Compares m (place_of walk) (last_given paths.way) result)

  -- From one place to another a check came: the file is the window's still, and what it finds from there it finds from here.
  abbrev pub ComesTo : Option Files → DataWalk → Progress → DataWalk → Progress → Type 0
  ComesTo files walk paths walk' paths' = IfSome files (λ m. Continues (bytes_of m (data_id generation)) walk.window
      → Continues (bytes_of m (data_id generation)) walk'.window × ((result : Result ⊤ Refusal)
      → Compares m (place_of walk') (last_given paths'.way) result → Compares m (place_of walk) (last_given paths.way) result))

  pub comes_nowhere : (files : Option Files) (walk : DataWalk) (paths : Progress) → ComesTo files walk paths walk paths
  comes_nowhere None walk paths = tt
  comes_nowhere (Some m) walk paths = λ c. (c, λ result finds. finds)

  -- a partition that the walk finds
  abbrev pub Finds : Option Files → DataWalk → DataWalk → PartitionSum → Type 0
  Finds files walk walk' sum = OverFile files (data_id generation) (FindsPartition columns) walk walk' (Ok (Some sum))

  -- a path that is had
  abbrev pub Gives : Option Files → Progress → Progress → Result PathHit Refusal → Type 0
  Gives files paths paths' result = IfSome files (λ m. GivesPath Partitions (bytes_of m (partitions_id generation)) root (last_given paths.way) (last_given paths'.way) result)

  -- what is found where its number leads
  abbrev pub Checks : Option Files → DataWalk → PartitionSum → PathHit → Result ⊤ Refusal → Type 0
  Checks files walk' sum hit result = IfSome files (λ m. sum.position ≤ length (bytes_of m (data_id generation))
      → ChecksNumber columns (bytes_of m (data_id generation)) (bytes_of m (rows_id generation)) hit.node hit.number walk'.key sum result)

  -- a partition leads to its entry
  pub comes_on : (files : Option Files) (start walk walk' : DataWalk) (first paths paths' : Progress) (sum : PartitionSum) (hit : PathHit) → Finds files walk walk' sum
      → Gives files paths paths' (Ok hit) → Checks files walk' sum hit (Ok tt) → ComesTo files start first walk paths → ComesTo files start first walk' paths'
  comes_on None start walk walk' first paths paths' sum hit finds gives checks came = tt
  comes_on (Some m) start walk walk' first paths paths' sum hit finds (found, next, given, same) checks came = λ c.
      let entries : List ℕ = bytes_of m (data_id generation) in
      let rows : List ℕ = bytes_of m (rows_id generation) in
      let was = came c in
      let told = finds was.0 in
      let within = found_within columns entries (place_of walk) (place_of walk') sum told.0 in
      let checked : ChecksNumber columns entries rows found.node (signed_number found.payload) walk'.key sum (Ok tt) =
      subst (λ (h : PathHit). ChecksNumber columns entries rows h.node h.number walk'.key sum (Ok tt)) same (checks within) in (
        told.1,
        λ result more. was.1 result (ComparesEntries.partition (place_of walk) (place_of walk') (last_given paths.way) sum found result told.0 next checked
            (subst (λ (last : Option (List ℕ)). Compares m (place_of walk') last result) given more)),
      )

  -- or doesn't
  pub entries_clash : (files : Option Files) (start walk walk' : DataWalk) (first paths paths' : Progress) (sum : PartitionSum) (hit : PathHit) (e : Refusal)
      → Finds files walk walk' sum → Gives files paths paths' (Ok hit) → Checks files walk' sum hit (Err e) → ComesTo files start first walk paths
      → EntriesFound files start first (Err e)
  entries_clash None start walk walk' first paths paths' sum hit e finds gives checks came = tt
  entries_clash (Some m) start walk walk' first paths paths' sum hit e finds (found, next, given, same) checks came = λ c.
      let entries : List ℕ = bytes_of m (data_id generation) in
      let rows : List ℕ = bytes_of m (rows_id generation) in
      let was = came c in
      let told = finds was.0 in
      let within = found_within columns entries (place_of walk) (place_of walk') sum told.0 in
      let checked : ChecksNumber columns entries rows found.node (signed_number found.payload) walk'.key sum (Err e) =
      subst (λ (h : PathHit). ChecksNumber columns entries rows h.node h.number walk'.key sum (Err e)) same (checks within) in
      was.1 (Err e) (ComparesEntries.clashes (place_of walk) (place_of walk') (last_given paths.way) sum found e told.0 next checked)

  -- or has no path
  pub entries_lack : (files : Option Files) (start walk walk' : DataWalk) (first paths paths' : Progress) (sum : PartitionSum) (e : Refusal)
      → Finds files walk walk' sum → Gives files paths paths' (Err e) → ComesTo files start first walk paths → EntriesFound files start first (Err e)
  entries_lack None start walk walk' first paths paths' sum e finds lacks came = tt
  entries_lack (Some m) start walk walk' first paths paths' sum e finds lacks came = λ c.
      let was = came c in
      was.1 (Err e) (ComparesEntries.lacks (place_of walk) (place_of walk') (last_given paths.way) sum e (finds was.0).0 lacks)

  -- Data.db ends
  pub entries_end : (files : Option Files) (start walk walk' : DataWalk) (first paths : Progress) (result : Result ⊤ Refusal)
      → OverFile files (data_id generation) (FindsPartition columns) walk walk' (Ok None)
      → IfSome files (λ m. EndsPaths Partitions (bytes_of m (partitions_id generation)) root (last_given paths.way) result)
      → ComesTo files start first walk paths → EntriesFound files start first result
  entries_end None start walk walk' first paths result finds ends came = tt
  entries_end (Some m) start walk walk' first paths result finds ends came = λ c.
      let was = came c in
      was.1 result (ComparesEntries.ends (place_of walk) (place_of walk') (last_given paths.way) result (finds was.0).0 ends)

  -- the walk over Data.db stops
  pub entries_stop : (files : Option Files) (start walk walk' : DataWalk) (first paths : Progress) (e : Refusal)
      → OverFile files (data_id generation) (FindsPartition columns) walk walk' (Err e) → ComesTo files start first walk paths → EntriesFound files start first (Err e)
  entries_stop None start walk walk' first paths e finds came = tt
  entries_stop (Some m) start walk walk' first paths e finds came = λ c.
      let was = came c in
      was.1 (Err e) (ComparesEntries.stops (place_of walk) (place_of walk') (last_given paths.way) e (finds was.0).0)

  -- ---- from the start of Data.db

  -- what a check finds of the whole files
  abbrev pub WholeFound : Option Files → Result ⊤ Refusal → Type 0
  WholeFound files result = IfSome files (λ m. ChecksEntries columns (bytes_of m (data_id generation)) (bytes_of m (rows_id generation))
      (bytes_of m (partitions_id generation)) root result)

  pub whole_found : (files : Option Files) (walk : DataWalk) (paths : Progress) (limit : ℕ) (result : Result ⊤ Refusal) → walk.window ≡ unread_at 0 limit
      → place_of walk ≡ place_at 0 → IfSome files (λ m. limit ≡ length (bytes_of m (data_id generation))) → paths.way ≡ None
      → EntriesFound files walk paths result → WholeFound files result
  whole_found None walk paths limit result window place size none found = tt
  whole_found (Some m) walk paths limit result window place size none found =
      let all : Compares m (place_of walk) (last_given paths.way) result = found (unread_continues (bytes_of m (data_id generation)) 0 limit walk.window window size) in
      ChecksEntries.whole result (subst (λ (p : Place). Compares m p None result) place
      (subst (λ (way : Option Way). Compares m (place_of walk) (last_given way) result) none all))

  pub whole_fault : (files : Option Files) (e : Refusal) → IsFault e → WholeFound files (Err e)
  whole_fault None e fault = tt
  whole_fault (Some m) e fault = ChecksEntries.fault e fault
