-- Steps of a walk, one after the other.
use Rattle.std.proofs.Common.{◌≡◌, ◌∙◌, ℕ, ◌+◌, ◌-◌, Bool, List, Option, None, Some, IfSome, Result, Ok, Err, sym, ap, subst}
use Rattle.std.specs.Prelude.{OnOk}
use Rattle.outside.specs.Files.{Files, bytes_of}
use Rattle.outside.specs.declared.store.FileId.{FileId}
use Rattle.key_types.specs.Columns.{Columns}
use Rattle.data_file.specs.declared.reading.DataError.{DataError}
use Rattle.data_file.specs.Answers.{IsStop}
use Rattle.table_reader.specs.Window.{Continues, Unread}
use Rattle.data_walk.specs.declared.data_walk.DataWalk.{DataWalk}
use Rattle.data_walk.specs.declared.data_walk.Met.TheVariants as met
use Rattle.data_walk.specs.declared.refusal.Refusal.{Refusal}
use Rattle.data_walk.specs.declared.refusal.Refusal.TheVariants as refusal
use Rattle.data_walk.specs.Refusals.{clash_at}
use Rattle.outside.specs.declared.store.Part.TheVariants.{Data}
use Rattle.data_walk.specs.declared.clash.Clash.TheVariants.{Order}
use Rattle.data_walk.specs.DataWalk.{CountsBlocks, Enters, FindsBlock, FindsPartition, HasEntry, MeetsRow, OverAll, OverFile, Place, StopsAtHead, StopsAtRow, behind_first, place_of}

-- the walk in which a window takes the place of its own
abbrev pub with_window : DataWalk → Unread → DataWalk
with_window walk window = record walk { window = window }

-- what a filled window is of
abbrev pub Fills : Option Files → FileId → Unread → Unread → Type 0
Fills files file w v = IfSome files (λ m. Continues (bytes_of m file) w → Continues (bytes_of m file) v)

-- From one place to another a walk came: the file is the window's still, and what the walk finds from there it finds from here.
abbrev pub Came : Columns → Option Files → FileId → DataWalk → DataWalk → Type 0
Came columns files file walk walk' = IfSome files (λ m. Continues (bytes_of m file) walk.window
    → Continues (bytes_of m file) walk'.window × ((place : Place) (result : Result (Option ℕ) Refusal)
    → FindsBlock columns (bytes_of m file) (place_of walk') place result → FindsBlock columns (bytes_of m file) (place_of walk) place result))

module _ (columns : Columns) (file : FileId) where
  pub came_nowhere : (files : Option Files) (walk : DataWalk) → Came columns files file walk walk
  came_nowhere None walk = tt
  came_nowhere (Some m) walk = λ c. (c, λ place result finds. finds)

  -- the place of a walk whose window was filled
  filled_place : (walk : DataWalk) (v : Unread) → v.at ≡ walk.window.at → place_of (with_window walk v) ≡ place_of walk
  filled_place walk v same = ap (λ (n : ℕ). record { at = n; key = walk.key; head = walk.head; before = walk.before; row = walk.row; block = walk.block; rows = walk.rows }) same

  -- a step over a filled window is one over the file
  pub step_there : {A : Type 0} (step : List ℕ → Place → Place → Result A Refusal → Type 0) (m : Files) (walk walk' : DataWalk) (v : Unread) (result : Result A Refusal)
      → v.at ≡ walk.window.at → (Continues (bytes_of m file) walk.window → Continues (bytes_of m file) v) → OverAll step (with_window walk v) walk' result → Continues (bytes_of m file) walk.window
      → step (bytes_of m file) (place_of walk) (place_of walk') result × OnOk result (Continues (bytes_of m file) walk'.window)
  step_there step m walk walk' v result same fills over c =
      let told = over (bytes_of m file) (fills c) in
      (subst (λ (p : Place). step (bytes_of m file) p (place_of walk') result) (filled_place walk v same) told.0, told.1)

  pub step_told : {A : Type 0} (step : List ℕ → Place → Place → Result A Refusal → Type 0) (files : Option Files) (walk walk' : DataWalk) (v : Unread) (result : Result A Refusal)
      → v.at ≡ walk.window.at → Fills files file walk.window v → OverAll step (with_window walk v) walk' result → OverFile files file step walk walk' result
  step_told step None walk walk' v result same fills over = tt
  step_told step (Some m) walk walk' v result same fills over = λ c. step_there step m walk walk' v result same fills over c

  -- a row of the same block
  pub came_row : (files : Option Files) (start walk walk' : DataWalk) (v : Unread) → v.at ≡ walk.window.at → Fills files file walk.window v
      → OverAll (MeetsRow columns) (with_window walk v) walk' (Ok met.Row) → Came columns files file start walk → Came columns files file start walk'
  came_row None start walk walk' v same fills over came = tt
  came_row (Some m) start walk walk' v same fills over came = λ c.
      let was = came c in
      let told = step_there (MeetsRow columns) m walk walk' v (Ok met.Row) same fills over was.0 in
      let met_row = told.0 in (
        told.1,
        λ place result finds. was.1 place result (FindsBlock.row (place_of walk) place met_row.0 result met_row.1 met_row.2
            (subst (λ (p : Place). FindsBlock columns (bytes_of m file) p place result) met_row.3 finds)),
      )

  -- the first row of another block
  pub found_block : (files : Option Files) (start walk walk' : DataWalk) (v : Unread) (offset : ℕ) → v.at ≡ walk.window.at → Fills files file walk.window v
      → offset ≡ walk'.block - walk'.head → OverAll (MeetsRow columns) (with_window walk v) walk' (Ok met.Block) → Came columns files file start walk
      → OverFile files file (FindsBlock columns) start walk' (Ok (Some offset))
  found_block None start walk walk' v offset same fills size over came = tt
  found_block (Some m) start walk walk' v offset same fills size over came = λ c.
      let was = came c in
      let told = step_there (MeetsRow columns) m walk walk' v (Ok met.Block) same fills over was.0 in
      let met_row = told.0 in
      let place : place_of walk' ≡ behind_first (place_of walk) met_row.0 = met_row.3 in
      let from : offset ≡ walk.window.at - walk.head = size ∙ ap (λ (p : Place). p.block - p.head) place in (
        was.1 (place_of walk') (Ok (Some offset))
            (subst (λ (p : Place). FindsBlock columns (bytes_of m file) (place_of walk) p (Ok (Some offset))) (sym place)
            (subst (λ (n : ℕ). FindsBlock columns (bytes_of m file) (place_of walk) (behind_first (place_of walk) met_row.0) (Ok (Some n))) (sym from)
            (FindsBlock.block (place_of walk) met_row.0 met_row.1 met_row.2))),
        told.1,
      )

  -- the end of the partition
  pub found_end : (files : Option Files) (start walk walk' : DataWalk) (v : Unread) → v.at ≡ walk.window.at → Fills files file walk.window v
      → OverAll (MeetsRow columns) (with_window walk v) walk' (Ok met.End) → Came columns files file start walk → OverFile files file (FindsBlock columns) start walk' (Ok None)
  found_end None start walk walk' v same fills over came = tt
  found_end (Some m) start walk walk' v same fills over came = λ c.
      let was = came c in
      let told = step_there (MeetsRow columns) m walk walk' v (Ok met.End) same fills over was.0 in (
        was.1 (place_of walk') (Ok None) (subst (λ (p : Place). FindsBlock columns (bytes_of m file) (place_of walk) p (Ok None)) (sym told.0.1)
            (FindsBlock.ends (place_of walk) told.0.0)),
        told.1,
      )

  -- a refusal of a step
  pub refused_row : (files : Option Files) (start walk walk' end_ : DataWalk) (v : Unread) (e : Refusal) → v.at ≡ walk.window.at → Fills files file walk.window v
      → OverAll (MeetsRow columns) (with_window walk v) walk' (Err e) → Came columns files file start walk → OverFile files file (FindsBlock columns) start end_ (Err e)
  refused_row None start walk walk' end_ v e same fills over came = tt
  refused_row (Some m) start walk walk' end_ v e same fills over came = λ c.
      let was = came c in
      let told = step_there (MeetsRow columns) m walk walk' v (Err e) same fills over was.0 in
      (was.1 (place_of end_) (Err e) (FindsBlock.stops (place_of walk) (place_of end_) e told.0), tt)

  -- a fault of the store, or want of memory, before a step
  pub refused_fill : (files : Option Files) (start walk end_ : DataWalk) (e : DataError) → IsStop e → Came columns files file start walk
      → OverFile files file (FindsBlock columns) start end_ (Err (refusal.Unread e))
  refused_fill None start walk end_ e stop came = tt
  refused_fill (Some m) start walk end_ e stop came = λ c.
      let was = came c in
      (was.1 (place_of end_) (Err (refusal.Unread e)) (FindsBlock.stops (place_of walk) (place_of end_) (refusal.Unread e) (StopsAtRow.fault (refusal.Unread e) stop)), tt)

  -- ---- blocks that are counted

  -- From one place to another so many blocks have begun: what the walk counts from there it counts from here.
  abbrev pub Counted : Option Files → ℕ → DataWalk → DataWalk → Type 0
  Counted files n walk walk' = IfSome files (λ m. Continues (bytes_of m file) walk.window
      → Continues (bytes_of m file) walk'.window × ((place : Place) (result : Result ℕ Refusal)
      → CountsBlocks columns (bytes_of m file) n (place_of walk') place result → CountsBlocks columns (bytes_of m file) 1 (place_of walk) place result))

  pub counted_none : (files : Option Files) (walk : DataWalk) → Counted files 1 walk walk
  counted_none None walk = tt
  counted_none (Some m) walk = λ c. (c, λ place result counts. counts)

  pub counted_block : (files : Option Files) (n offset : ℕ) (start walk walk' : DataWalk) → OverFile files file (FindsBlock columns) walk walk' (Ok (Some offset))
      → Counted files n start walk → Counted files (n + 1) start walk'
  counted_block None n offset start walk walk' found counted = tt
  counted_block (Some m) n offset start walk walk' found counted = λ c.
      let was = counted c in
      let told = found was.0 in
      (told.1, λ place result counts. was.1 place result (CountsBlocks.block n offset (place_of walk) (place_of walk') place result told.0 counts))

  pub counted_end : (files : Option Files) (n : ℕ) (start walk walk' : DataWalk) → OverFile files file (FindsBlock columns) walk walk' (Ok None)
      → Counted files n start walk → OverFile files file (λ bytes. CountsBlocks columns bytes 1) start walk' (Ok n)
  counted_end None n start walk walk' found counted = tt
  counted_end (Some m) n start walk walk' found counted = λ c.
      let was = counted c in
      let told = found was.0 in
      (was.1 (place_of walk') (Ok n) (CountsBlocks.ends n (place_of walk) (place_of walk') told.0), told.1)

  pub counted_stop : (files : Option Files) (n : ℕ) (start walk walk' : DataWalk) (e : Refusal) → OverFile files file (FindsBlock columns) walk walk' (Err e)
      → Counted files n start walk → OverFile files file (λ bytes. CountsBlocks columns bytes 1) start walk' (Err e)
  counted_stop None n start walk walk' e found counted = tt
  counted_stop (Some m) n start walk walk' e found counted = λ c.
      let was = counted c in
      let told = found was.0 in
      (was.1 (place_of walk') (Err e) (CountsBlocks.stops n (place_of walk) (place_of walk') (place_of walk') e told.0), tt)

  -- ---- a partition

  -- a fault of the store, or want of memory, before a head
  pub enter_fault : (files : Option Files) (walk walk' : DataWalk) (e : DataError) → IsStop e → OverFile files file (Enters columns) walk walk' (Err (refusal.Unread e))
  enter_fault None walk walk' e stop = tt
  enter_fault (Some m) walk walk' e stop = λ c. (StopsAtHead.fault (refusal.Unread e) stop, tt)

  pub finds_none : (files : Option Files) (walk walk' : DataWalk) → OverFile files file (Enters columns) walk walk' (Ok None) → OverFile files file (FindsPartition columns) walk walk' (Ok None)
  finds_none None walk walk' enters = tt
  finds_none (Some m) walk walk' enters = λ c. let told = enters c in (FindsPartition.ends (place_of walk) (place_of walk') told.0, told.1)

  pub finds_no_head : (files : Option Files) (walk walk' : DataWalk) (e : Refusal) → OverFile files file (Enters columns) walk walk' (Err e)
      → OverFile files file (FindsPartition columns) walk walk' (Err e)
  finds_no_head None walk walk' e enters = tt
  finds_no_head (Some m) walk walk' e enters = λ c. (FindsPartition.stops (place_of walk) (place_of walk') (place_of walk') e (enters c).0, tt)

  pub finds_refusal : (files : Option Files) (walk inside walk' : DataWalk) (has_static : Bool) (e : Refusal) → OverFile files file (Enters columns) walk inside (Ok (Some has_static))
      → OverFile files file (λ bytes. CountsBlocks columns bytes 1) inside walk' (Err e) → OverFile files file (FindsPartition columns) walk walk' (Err e)
  finds_refusal None walk inside walk' has_static e enters counts = tt
  finds_refusal (Some m) walk inside walk' has_static e enters counts = λ c.
      let told = enters c in
      (FindsPartition.stops_inside (place_of walk) (place_of inside) (place_of walk') (place_of walk') has_static e told.0 (counts told.1).0, tt)

  pub finds_empty : (files : Option Files) (walk inside walk' : DataWalk) (has_static : Bool) (blocks : ℕ) (e : Refusal) → OverFile files file (Enters columns) walk inside (Ok (Some has_static))
      → OverFile files file (λ bytes. CountsBlocks columns bytes 1) inside walk' (Ok blocks) → (HasEntry has_static walk'.rows → ⊥) → e ≡ clash_at Data walk'.head Order
      → OverFile files file (FindsPartition columns) walk walk' (Err e)
  finds_empty None walk inside walk' has_static blocks e enters counts none is = tt
  finds_empty (Some m) walk inside walk' has_static blocks e enters counts none is = λ c.
      let told = enters c in (
        subst (λ (x : Refusal). FindsPartition columns (bytes_of m file) (place_of walk) (place_of walk') (Err x)) (sym is)
            (FindsPartition.empty (place_of walk) (place_of inside) (place_of walk') has_static blocks told.0 (counts told.1).0 none),
        tt,
      )

  pub finds_partition : (files : Option Files) (walk inside walk' : DataWalk) (has_static : Bool) (blocks : ℕ) → OverFile files file (Enters columns) walk inside (Ok (Some has_static))
      → OverFile files file (λ bytes. CountsBlocks columns bytes 1) inside walk' (Ok blocks) → HasEntry has_static walk'.rows
      → OverFile files file (FindsPartition columns) walk walk' (Ok (Some (record { position = walk'.head; blocks = blocks; rows = walk'.rows })))
  finds_partition None walk inside walk' has_static blocks enters counts some = tt
  finds_partition (Some m) walk inside walk' has_static blocks enters counts some = λ c.
      let told = enters c in
      let counted = counts told.1 in
      (FindsPartition.passes (place_of walk) (place_of inside) (place_of walk') has_static blocks told.0 counted.0 some, counted.1)
