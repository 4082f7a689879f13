-- Steps of the check of the partition index.
use Rattle.std.proofs.Common.{◌≡◌, ◌∙◌, ℕ, List, [], length, Option, None, Some, IfSome, Result, Ok, Err, sym, ap, subst}
use Rattle.std.specs.Prelude.{OnOk, ⊤, ℤ}
use Rattle.outside.specs.Files.{Files, bytes_of}
use Rattle.outside.specs.declared.store.FileId.{FileId}
use Rattle.outside.specs.declared.store.Part.TheVariants.{Partitions}
use Rattle.key_types.specs.Columns.{Columns}
use Rattle.bti_reader.specs.declared.way.PathHit.{PathHit}
use Rattle.bti_reader.specs.declared.way.Way.{Way}
use Rattle.bti_reader.specs.Ways.{IsWayOf, Progress, Stands}
use Rattle.data_file.specs.declared.reading.DataError.TheVariants as data_error
use Rattle.table_reader.specs.Scans.{unread_at}
use Rattle.table_reader.specs.Window.{Continues}
use Rattle.data_walk.specs.declared.data_walk.DataWalk.{DataWalk}
use Rattle.data_walk.specs.declared.data_walk.PartitionSum.{PartitionSum}
use Rattle.data_walk.specs.declared.refusal.Refusal.{Refusal}
use Rattle.data_walk.specs.declared.refusal.Refusal.TheVariants as refusal
use Rattle.data_walk.specs.DataWalk.{FindsPartition, OverFile, Place, place_at, place_of}
use Rattle.data_walk.specs.Refusals.{IsFault}
use Rattle.partition_check.specs.Partitions.{ChecksPartitions, ChecksPath, ComparesPartitions, ComparesPath, key_behind, unique_path}
use Rattle.partition_check.proofs.Walked.{continues_there}
use Rattle.path_check.specs.Paths.{EndsPaths, GivesPath}

-- ---- one path

-- a path that was given, compared
pub checks_given : (index : List ℕ) (root : ℕ) (last given : Option (List ℕ)) (wanted : List ℕ) (sum : PartitionSum) (hit : PathHit) (result : Result ⊤ Refusal)
    → GivesPath Partitions index root last given (Ok hit) → ComparesPath hit.path hit.node hit.number wanted sum result → ChecksPath index root last wanted sum given result
checks_given index root last given wanted sum hit result (found, next, is_given, is) compares =
    subst (λ (g : Option (List ℕ)). ChecksPath index root last wanted sum g result) (sym is_given)
    (ChecksPath.given found result next (subst (λ (h : PathHit). ComparesPath h.path h.node h.number wanted sum result) is compares))

-- the same in a file that the store tells
pub checks_there : (files : Option Files) (file : FileId) (root : ℕ) (last given : Option (List ℕ)) (wanted : List ℕ) (sum : PartitionSum) (hit : PathHit) (result : Result ⊤ Refusal)
    → IfSome files (λ m. GivesPath Partitions (bytes_of m file) root last given (Ok hit)) → ComparesPath hit.path hit.node hit.number wanted sum result
    → IfSome files (λ m. ChecksPath (bytes_of m file) root last wanted sum given result)
checks_there None file root last given wanted sum hit result gives compares = tt
checks_there (Some m) file root last given wanted sum hit result gives compares = checks_given (bytes_of m file) root last given wanted sum hit result gives compares

-- a path that wasn't had
pub lacks_there : (files : Option Files) (file : FileId) (root : ℕ) (last given : Option (List ℕ)) (wanted : List ℕ) (sum : PartitionSum) (e : Refusal)
    → IfSome files (λ m. GivesPath Partitions (bytes_of m file) root last given (Err e)) → IfSome files (λ m. ChecksPath (bytes_of m file) root last wanted sum given (Err e))
lacks_there None file root last given wanted sum e lacks = tt
lacks_there (Some m) file root last given wanted sum e lacks = ChecksPath.lacks given e lacks

-- a comparison of paths asks nothing of the store
pub no_fault : (path : List ℕ) (node : ℕ) (number : ℤ) (wanted : List ℕ) (sum : PartitionSum) (result : Result ⊤ Refusal) → ComparesPath path node number wanted sum result
    → result ≡ Err (refusal.Unread data_error.StoreFault) → ⊥
no_fault path node number wanted sum _ (ComparesPath.same is fits_it) e = cc
no_fault path node number wanted sum _ (ComparesPath.other_path other) e = cc
no_fault path node number wanted sum _ (ComparesPath.other_number is other) e = cc

-- ---- all paths

module _ (columns : Columns) (file index : FileId) (root : ℕ) (start : DataWalk) (first : Option PartitionSum) (begun : Option (List ℕ)) where
  -- Where the walk and the index stand so, what is compared from there on is compared from the start.
  abbrev pub Beside : Option Files → List ℕ → Option PartitionSum → DataWalk → Option (List ℕ) → Type 0
  Beside files before here walk last = IfSome files (λ m. Continues (bytes_of m file) start.window
      → Continues (bytes_of m file) walk.window × ((result : Result ⊤ Refusal)
      → ComparesPartitions columns (bytes_of m file) (bytes_of m index) root before here (place_of walk) last result
      → ComparesPartitions columns (bytes_of m file) (bytes_of m index) root [] first (place_of start) begun result))

  abbrev pub Compares : Option Files → Result ⊤ Refusal → Type 0
  Compares files result = IfSome files (λ m. Continues (bytes_of m file) start.window
      → ComparesPartitions columns (bytes_of m file) (bytes_of m index) root [] first (place_of start) begun result)

  pub beside_start : (files : Option Files) (before : List ℕ) → before ≡ [] → Beside files before first start begun
  beside_start None before none = tt
  beside_start (Some m) before none = λ c. (
    c,
    λ result f.
        subst (λ (b : List ℕ). ComparesPartitions columns (bytes_of m file) (bytes_of m index) root b first (place_of start) begun result) none f,
  )

  pub beside_on : (files : Option Files) (before wanted key : List ℕ) (here : PartitionSum) (behind : Option PartitionSum) (walk walk' : DataWalk) (last given : Option (List ℕ))
      → OverFile files file (FindsPartition columns) walk walk' (Ok behind) → key ≡ walk.key → wanted ≡ unique_path before key (key_behind behind walk'.key)
      → IfSome files (λ m. ChecksPath (bytes_of m index) root last wanted here given (Ok tt)) → Beside files before (Some here) walk last → Beside files key behind walk' given
  beside_on None before wanted key here behind walk walk' last given step same is checks came = tt
  beside_on (Some m) before wanted key here behind walk walk' last given step same is checks came = λ c.
      let was = came c in
      let told = step was.0 in
      let path : wanted ≡ unique_path before walk.key (key_behind behind walk'.key) = is ∙ ap (λ (k : List ℕ). unique_path before k (key_behind behind walk'.key)) same in (
        told.1,
        λ result f. was.1 result (ComparesPartitions.partition before here behind (place_of walk) (place_of walk') last given result told.0
            (subst (λ (w : List ℕ). ChecksPath (bytes_of m index) root last w here given (Ok tt)) path checks)
            (subst (λ (k : List ℕ). ComparesPartitions columns (bytes_of m file) (bytes_of m index) root k behind (place_of walk') given result) same f)),
      )

  pub beside_clash : (files : Option Files) (before wanted key : List ℕ) (here : PartitionSum) (behind : Option PartitionSum) (walk walk' : DataWalk) (last given : Option (List ℕ)) (e : Refusal)
      → OverFile files file (FindsPartition columns) walk walk' (Ok behind) → key ≡ walk.key → wanted ≡ unique_path before key (key_behind behind walk'.key)
      → IfSome files (λ m. ChecksPath (bytes_of m index) root last wanted here given (Err e)) → Beside files before (Some here) walk last → Compares files (Err e)
  beside_clash None before wanted key here behind walk walk' last given e step same is checks came = tt
  beside_clash (Some m) before wanted key here behind walk walk' last given e step same is checks came = λ c.
      let was = came c in
      let told = step was.0 in
      let path : wanted ≡ unique_path before walk.key (key_behind behind walk'.key) = is ∙ ap (λ (k : List ℕ). unique_path before k (key_behind behind walk'.key)) same in
      was.1 (Err e) (ComparesPartitions.clashes before here behind (place_of walk) (place_of walk') last given e told.0
      (subst (λ (w : List ℕ). ChecksPath (bytes_of m index) root last w here given (Err e)) path checks))

  pub beside_stop : (files : Option Files) (before : List ℕ) (here : PartitionSum) (walk walk' : DataWalk) (last : Option (List ℕ)) (e : Refusal)
      → OverFile files file (FindsPartition columns) walk walk' (Err e) → Beside files before (Some here) walk last → Compares files (Err e)
  beside_stop None before here walk walk' last e step came = tt
  beside_stop (Some m) before here walk walk' last e step came = λ c.
      let was = came c in
      was.1 (Err e) (ComparesPartitions.stops before here (place_of walk) (place_of walk') last e (step was.0).0)

  pub beside_fault : (files : Option Files) (before : List ℕ) (here : Option PartitionSum) (walk : DataWalk) (last : Option (List ℕ)) (e : Refusal) → IsFault e
      → Beside files before here walk last → Compares files (Err e)
  beside_fault None before here walk last e fault came = tt
  beside_fault (Some m) before here walk last e fault came = λ c. (came c).1 (Err e) (ComparesPartitions.fault before here (place_of walk) last e fault)

  pub beside_end : (files : Option Files) (before : List ℕ) (here : Option PartitionSum) (walk : DataWalk) (last : Option (List ℕ)) (result : Result ⊤ Refusal) → here ≡ None
      → IfSome files (λ m. EndsPaths Partitions (bytes_of m index) root last result) → Beside files before here walk last → Compares files result
  beside_end None before here walk last result none ends came = tt
  beside_end (Some m) before here walk last result none ends came = λ c.
      (came c).1 result (subst (λ (h : Option PartitionSum). ComparesPartitions columns (bytes_of m file) (bytes_of m index) root before h (place_of walk) last result) (sym none)
      (ComparesPartitions.ends before (place_of walk) last result ends))

-- ---- the whole

-- a walk that begins at the first partition of a file of so many bytes
pub record Begins (file : FileId) (files : Option Files) (walk : DataWalk) (n : ℕ) : Type 0 where
  pub size : IfSome files (λ m. n ≡ length (bytes_of m file))
  pub window : walk.window ≡ unread_at 0 n
  pub place : place_of walk ≡ place_at 0

module _ (columns : Columns) (file index : FileId) (root : ℕ) where
  abbrev pub Checks : Option Files → Result ⊤ Refusal → Type 0
  Checks files result = IfSome files (λ m. ChecksPartitions columns (bytes_of m file) (bytes_of m index) root result)

  pub checks_failed : (files : Option Files) (e : Refusal) → IsFault e → Checks files (Err e)
  checks_failed None e fault = tt
  checks_failed (Some m) e fault = ChecksPartitions.fault e fault

  first_step : (m : Files) (walk walk' : DataWalk) (n : ℕ) (result : Result (Option PartitionSum) Refusal) → Begins file (Some m) walk n → OverFile (Some m) file (FindsPartition columns) walk walk' result
      → FindsPartition columns (bytes_of m file) (place_at 0) (place_of walk') result × OnOk result (Continues (bytes_of m file) walk'.window)
  first_step m walk walk' n result begins step =
      let told = step (continues_there (bytes_of m file) 0 n walk.window begins.window begins.size) in
      (subst (λ (p : Place). FindsPartition columns (bytes_of m file) p (place_of walk') result) begins.place told.0, told.1)

  pub checks_stop : (files : Option Files) (walk walk' : DataWalk) (n : ℕ) (e : Refusal) → Begins file files walk n → OverFile files file (FindsPartition columns) walk walk' (Err e) → Checks files (Err e)
  checks_stop None walk walk' n e begins step = tt
  checks_stop (Some m) walk walk' n e begins step = ChecksPartitions.stops (place_of walk') e (first_step m walk walk' n (Err e) begins step).0

  pub checks_whole : (files : Option Files) (walk walk' : DataWalk) (n : ℕ) (first : Option PartitionSum) (result : Result ⊤ Refusal) → Begins file files walk n
      → OverFile files file (FindsPartition columns) walk walk' (Ok first) → Compares columns file index root walk' first None files result → Checks files result
  checks_whole None walk walk' n first result begins step compares = tt
  checks_whole (Some m) walk walk' n first result begins step compares =
      let told = first_step m walk walk' n (Ok first) begins step in
      ChecksPartitions.whole (place_of walk') first result told.0 (compares told.1)

-- a walk through a trie that has given no path stands
pub stands_first : (files : Option Files) (walk : Progress) → walk.way ≡ None → Stands files walk
stands_first None walk none = tt
stands_first (Some m) walk none = subst (λ (w : Option Way). IsWayOf (bytes_of m walk.file) walk.root w) (sym none) tt
