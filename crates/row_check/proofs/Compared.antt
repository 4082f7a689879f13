-- A row index beside the blocks of its partition, step by step.
use Rattle.std.proofs.Common.{◌≡◌, ◌∙◌, ℕ, ◌≤◌, Bool, List, length, drop, min, Option, None, Some, IfSome, Result, Ok, Err, refl, ap, sym, subst, arith}
use Rattle.std.specs.Prelude.{OnOk, ⊤}
use Rattle.outside.specs.Files.{Files, bytes_of}
use Rattle.outside.specs.declared.store.FileId.{FileId}
use Rattle.outside.specs.declared.store.Part.TheVariants.{Rows}
use Rattle.key_types.specs.Columns.{Columns}
use Rattle.bti_nodes.specs.declared.damage.Cause.TheVariants.{BadHead}
use Rattle.bti_reader.specs.declared.way.Way.{Way}
use Rattle.bti_reader.specs.Walks.{last_given}
use Rattle.bti_reader.specs.Ways.{Progress}
use Rattle.table_reader.specs.Scans.{unread_at}
use Rattle.table_reader.specs.Window.{Continues, Unread}
use Rattle.data_walk.specs.declared.data_walk.DataWalk.{DataWalk}
use Rattle.data_walk.specs.declared.refusal.Refusal.{Refusal}
use Rattle.data_walk.specs.DataWalk.{Enters, FindsBlock, OverFile, Place, place_at, place_of}
use Rattle.data_walk.specs.Refusals.{IsFault, damaged_at}
use Rattle.row_check.specs.Blocks.{ChecksBlock, ChecksBlocks, ComparesBlocks}
use Rattle.path_check.specs.Paths.{EndsPaths}

-- ---- from block to block

module _ (columns : Columns) (file rows : FileId) (root : ℕ) where
  -- what a check finds of these files from there on
  abbrev pub BlocksFound : Option Files → DataWalk → Progress → Result ⊤ Refusal → Type 0
  BlocksFound files walk paths result = IfSome files (λ m. Continues (bytes_of m file) walk.window
      → ComparesBlocks columns (bytes_of m file) (bytes_of m rows) root (place_of walk) (last_given paths.way) result)

  -- From one place to another a check came: the file is the window's still, and what it finds from there it finds from here.
  abbrev pub ComesTo : Option Files → DataWalk → Progress → DataWalk → Progress → Type 0
  ComesTo files walk paths walk' paths' = IfSome files (λ m. Continues (bytes_of m file) walk.window
      → Continues (bytes_of m file) walk'.window × ((result : Result ⊤ Refusal)
      → ComparesBlocks columns (bytes_of m file) (bytes_of m rows) root (place_of walk') (last_given paths'.way) result
      → ComparesBlocks columns (bytes_of m file) (bytes_of m rows) root (place_of walk) (last_given paths.way) result))

  pub comes_nowhere : (files : Option Files) (walk : DataWalk) (paths : Progress) → ComesTo files walk paths walk paths
  comes_nowhere None walk paths = tt
  comes_nowhere (Some m) walk paths = λ c. (c, λ result finds. finds)

  -- a block has its path
  pub comes_on : (files : Option Files) (start walk walk' : DataWalk) (first paths paths' : Progress) (offset : ℕ)
      → OverFile files file (FindsBlock columns) walk walk' (Ok (Some offset))
      → IfSome files (λ m. ChecksBlock (bytes_of m rows) root (last_given paths.way) walk'.before walk'.row offset (last_given paths'.way) (Ok tt))
      → ComesTo files start first walk paths → ComesTo files start first walk' paths'
  comes_on None start walk walk' first paths paths' offset finds checks came = tt
  comes_on (Some m) start walk walk' first paths paths' offset finds checks came = λ c.
      let was = came c in
      let told = finds was.0 in (
        told.1,
        λ result more. was.1 result
            (ComparesBlocks.block (place_of walk) (place_of walk') (last_given paths.way) (last_given paths'.way) offset result told.0 checks more),
      )

  -- or hasn't
  pub blocks_clash : (files : Option Files) (start walk walk' : DataWalk) (first paths paths' : Progress) (offset : ℕ) (e : Refusal)
      → OverFile files file (FindsBlock columns) walk walk' (Ok (Some offset))
      → IfSome files (λ m. ChecksBlock (bytes_of m rows) root (last_given paths.way) walk'.before walk'.row offset (last_given paths'.way) (Err e))
      → ComesTo files start first walk paths → BlocksFound files start first (Err e)
  blocks_clash None start walk walk' first paths paths' offset e finds checks came = tt
  blocks_clash (Some m) start walk walk' first paths paths' offset e finds checks came = λ c.
      let was = came c in
      was.1 (Err e)
      (ComparesBlocks.clashes (place_of walk) (place_of walk') (last_given paths.way) (last_given paths'.way) offset e (finds was.0).0 checks)

  -- the partition ends
  pub blocks_end : (files : Option Files) (start walk walk' : DataWalk) (first paths : Progress) (result : Result ⊤ Refusal)
      → OverFile files file (FindsBlock columns) walk walk' (Ok None)
      → IfSome files (λ m. EndsPaths Rows (bytes_of m rows) root (last_given paths.way) result)
      → ComesTo files start first walk paths → BlocksFound files start first result
  blocks_end None start walk walk' first paths result finds ends came = tt
  blocks_end (Some m) start walk walk' first paths result finds ends came = λ c.
      let was = came c in
      was.1 result (ComparesBlocks.ends (place_of walk) (place_of walk') (last_given paths.way) result (finds was.0).0 ends)

  -- the walk over Data.db stops
  pub blocks_stop : (files : Option Files) (start walk walk' : DataWalk) (first paths : Progress) (e : Refusal)
      → OverFile files file (FindsBlock columns) walk walk' (Err e)
      → ComesTo files start first walk paths → BlocksFound files start first (Err e)
  blocks_stop None start walk walk' first paths e finds came = tt
  blocks_stop (Some m) start walk walk' first paths e finds came = λ c.
      let was = came c in
      was.1 (Err e) (ComparesBlocks.stops (place_of walk) (place_of walk') (last_given paths.way) e (finds was.0).0)

-- ---- a partition

-- a window of a file of which nothing was read
pub unread_continues : (file : List ℕ) (at limit : ℕ) (window : Unread) → window ≡ unread_at at limit → limit ≡ length file → Continues file window
unread_continues file at limit window is size =
    let begun : Continues file (unread_at at limit) = record { rest = drop at file; is = refl; ended = λ whole. cc; long = sym size } in
    subst (Continues file) (sym is) begun

module _ (columns : Columns) (file rows : FileId) (position root : ℕ) where
  -- what a check finds of a partition
  abbrev pub PartitionFound : Option Files → Result ⊤ Refusal → Type 0
  PartitionFound files result = IfSome files (λ m. position ≤ length (bytes_of m file)
      → ChecksBlocks columns (bytes_of m file) (bytes_of m rows) position root result)

  -- The walk begins at the position.
  pub record Begins (files : Option Files) (walk : DataWalk) : Type 0 where
    pub limit : ℕ
    pub window : walk.window ≡ unread_at (min position limit) limit
    pub place : place_of walk ≡ place_at (min position limit)
    pub size : IfSome files (λ m. limit ≡ length (bytes_of m file))

  pub begins : (files : Option Files) (walk : DataWalk) (limit start : ℕ) → start ≡ min position limit → walk.window ≡ unread_at start limit
      → place_of walk ≡ place_at start → IfSome files (λ m. limit ≡ length (bytes_of m file)) → Begins files walk
  begins files walk limit start least window place size = record {
    limit = limit;
    window = window ∙ ap (λ (at : ℕ). unread_at at limit) least;
    place = place ∙ ap place_at least;
    size = size;
  }

  -- a step from there
  first_step : {A : Type 0} (step : List ℕ → Place → Place → Result A Refusal → Type 0) (m : Files) (walk walk' : DataWalk) (result : Result A Refusal)
      → Begins (Some m) walk → position ≤ length (bytes_of m file) → OverFile (Some m) file step walk walk' result
      → step (bytes_of m file) (place_at position) (place_of walk') result × OnOk result (Continues (bytes_of m file) walk'.window)
  first_step step m walk walk' result b within over =
      let at : min position b.limit ≡ position = omega (arith, within, b.size) in
      let told = over (unread_continues (bytes_of m file) (min position b.limit) b.limit walk.window b.window b.size) in
      (subst (λ (p : Place). step (bytes_of m file) p (place_of walk') result) (b.place ∙ ap place_at at) told.0, told.1)

  -- behind its head
  pub partition_inside : (files : Option Files) (walk inside : DataWalk) (has_static : Bool) (first : Progress) (result : Result ⊤ Refusal) → Begins files walk
      → OverFile files file (Enters columns) walk inside (Ok (Some has_static)) → first.way ≡ None → BlocksFound columns file rows root files inside first result
      → PartitionFound files result
  partition_inside None walk inside has_static first result b over none found = tt
  partition_inside (Some m) walk inside has_static first result b over none found = λ within.
      let told = first_step (Enters columns) m walk inside (Ok (Some has_static)) b within over in
      ChecksBlocks.enters (place_of inside) has_static result told.0
      (subst (λ (way : Option Way). ComparesBlocks columns (bytes_of m file) (bytes_of m rows) root (place_of inside) (last_given way) result) none (found told.1))

  -- the file ends there
  pub partition_ended : (files : Option Files) (walk walk' : DataWalk) (e : Refusal) → Begins files walk → OverFile files file (Enters columns) walk walk' (Ok None)
      → e ≡ damaged_at position BadHead → PartitionFound files (Err e)
  partition_ended None walk walk' e b over is = tt
  partition_ended (Some m) walk walk' e b over is = λ within.
      subst (λ (x : Refusal). ChecksBlocks columns (bytes_of m file) (bytes_of m rows) position root (Err x)) (sym is)
      (ChecksBlocks.ended (place_of walk') (first_step (Enters columns) m walk walk' (Ok None) b within over).0)

  -- no head stands there
  pub partition_stops : (files : Option Files) (walk walk' : DataWalk) (e : Refusal) → Begins files walk → OverFile files file (Enters columns) walk walk' (Err e)
      → PartitionFound files (Err e)
  partition_stops None walk walk' e b over = tt
  partition_stops (Some m) walk walk' e b over = λ within.
      ChecksBlocks.stops (place_of walk') e (first_step (Enters columns) m walk walk' (Err e) b within over).0

  -- the store failed
  pub partition_fault : (files : Option Files) (e : Refusal) → IsFault e → PartitionFound files (Err e)
  partition_fault None e fault = tt
  partition_fault (Some m) e fault = λ within. ChecksBlocks.fault e fault
