-- Steps of a walk over the rows of a partition.
use Rattle.std.proofs.Common.{◌≡◌, ◌∙◌, ℕ, ◌+◌, ◌≤◌, true, false, List, ◌++◌, length, drop, Result, Ok, Err, sym, ap, subst, arith, length-append}
use Rattle.std.specs.declared.cmp.Ordering.TheVariants.{Less}
use Rattle.bti_nodes.specs.declared.damage.Cause.{Cause}
use Rattle.bti_nodes.specs.declared.damage.Cause.TheVariants.{BadRow}
use Rattle.data_file.specs.declared.reading.DataError.TheVariants.{StoreFault}
use Rattle.outside.specs.declared.store.Part.TheVariants.{Data}
use Rattle.key_types.specs.Columns.{Columns}
use Rattle.key_types.specs.Table.{string_cmp}
use Rattle.data_file.specs.Listing.{Row, row_bytes}
use Rattle.data_file.specs.Reading.{BeginsEnd, BeginsRow, NoRow}
use Rattle.table_reader.specs.Window.{Continues, Unread}
use Rattle.table_reader.proofs.ScanSteps.{passed, passed_by, row_there}
use Rattle.data_walk.specs.declared.data_walk.DataWalk.{DataWalk}
use Rattle.data_walk.specs.declared.data_walk.Met.TheVariants as met
use Rattle.data_walk.specs.declared.refusal.Refusal.{Refusal}
use Rattle.data_walk.specs.declared.refusal.Refusal.TheVariants as refusal
use Rattle.data_walk.specs.declared.clash.Clash.TheVariants.{Order}
use Rattle.data_walk.specs.Refusals.{IsFault, clash_at, damaged_at}
use Rattle.data_walk.specs.DataWalk.{MeetsRow, OverAll, StopsAtRow, begins_block, behind_end, behind_first, behind_row, place_of}

pub passed_window : (file : List ℕ) (w v : Unread) (count : ℕ) → v ≡ passed_by count w → count ≤ length w.bytes → Continues file w → Continues file v
passed_window file w v count is fits c = subst (Continues file) (sym is) (passed file w count c fits)

-- an error leaves nothing to hold
pub refused : (columns : Columns) (walk walk' : DataWalk) (e : Refusal) → ((file : List ℕ) → Continues file walk.window → StopsAtRow columns file (place_of walk) e)
    → OverAll (MeetsRow columns) walk walk' (Err e)
refused columns walk walk' e stops = λ file c. (stops file c, tt)

-- a row, and where the walk stands behind it
pub over_row : (columns : Columns) (walk walk' : DataWalk) (count : ℕ) (clustering value : List ℕ) → walk'.window ≡ passed_by count walk.window
    → count ≡ length (row_bytes clustering value) → BeginsRow columns walk.window.bytes clustering value → string_cmp walk.row clustering ≡ Less
    → walk'.key ≡ walk.key → walk'.head ≡ walk.head → walk'.before ≡ walk.row → walk'.row ≡ clustering → walk'.rows ≡ walk.rows + 1
    → begins_block walk.row walk.block walk.window.at ≡ false → walk'.block ≡ walk.block → OverAll (MeetsRow columns) walk walk' (Ok met.Row)
over_row columns walk walk' count clustering value window size begins above key head before row rows same block =
    let there : Row = record { clustering = clustering; value = value } in
    let place : place_of walk' ≡ behind_row (place_of walk) there = λ i. record {
      at = (ap (λ (u : Unread). u.at) window ∙ ap (λ (n : ℕ). walk.window.at + n) size) i;
      key = key i;
      head = head i;
      before = before i;
      row = row i;
      block = block i;
      rows = rows i;
    } in
    λ file c. (
      (there, (row_there columns file walk.window clustering value c begins, above), same, place),
      passed_window file walk.window walk'.window count window (omega (arith, ap length begins.1.1, length-append (row_bytes clustering value) begins.1.0)) c,
    )

pub over_first : (columns : Columns) (walk walk' : DataWalk) (count : ℕ) (clustering value : List ℕ) → walk'.window ≡ passed_by count walk.window
    → count ≡ length (row_bytes clustering value) → BeginsRow columns walk.window.bytes clustering value → string_cmp walk.row clustering ≡ Less
    → walk'.key ≡ walk.key → walk'.head ≡ walk.head → walk'.before ≡ walk.row → walk'.row ≡ clustering → walk'.rows ≡ walk.rows + 1
    → begins_block walk.row walk.block walk.window.at ≡ true → walk'.block ≡ walk.window.at → OverAll (MeetsRow columns) walk walk' (Ok met.Block)
over_first columns walk walk' count clustering value window size begins above key head before row rows same block =
    let there : Row = record { clustering = clustering; value = value } in
    let place : place_of walk' ≡ behind_first (place_of walk) there = λ i. record {
      at = (ap (λ (u : Unread). u.at) window ∙ ap (λ (n : ℕ). walk.window.at + n) size) i;
      key = key i;
      head = head i;
      before = before i;
      row = row i;
      block = block i;
      rows = rows i;
    } in
    λ file c. (
      (there, (row_there columns file walk.window clustering value c begins, above), same, place),
      passed_window file walk.window walk'.window count window (omega (arith, ap length begins.1.1, length-append (row_bytes clustering value) begins.1.0)) c,
    )

-- the end of the partition
pub over_end : (columns : Columns) (walk walk' : DataWalk) → walk'.window ≡ passed_by 1 walk.window → BeginsEnd walk.window.bytes
    → walk'.key ≡ walk.key → walk'.head ≡ walk.head → walk'.before ≡ walk.before → walk'.row ≡ walk.row → walk'.rows ≡ walk.rows → walk'.block ≡ walk.block
    → OverAll (MeetsRow columns) walk walk' (Ok met.End)
over_end columns walk walk' window (rest, begins) key head before row rows block =
    let place : place_of walk' ≡ behind_end (place_of walk) = λ i. record {
      at = ap (λ (u : Unread). u.at) window i;
      key = key i;
      head = head i;
      before = before i;
      row = row i;
      block = block i;
      rows = rows i;
    } in
    λ file c. (
      ((rest ++ c.rest, c.is ∙ ap (λ (b : List ℕ). b ++ c.rest) begins), place),
      passed_window file walk.window walk'.window 1 window (omega (arith, ap length begins)) c,
    )

-- neither a row nor an end
pub bad_row : (columns : Columns) (walk walk' : DataWalk) (e : Refusal) (at : ℕ) → at ≡ walk.window.at → e ≡ damaged_at at BadRow
    → ((file : List ℕ) → Continues file walk.window → NoRow columns (drop walk.window.at file)) → OverAll (MeetsRow columns) walk walk' (Err e)
bad_row columns walk walk' e at place is no_row =
    let there : e ≡ damaged_at walk.window.at BadRow = is ∙ ap (λ (n : ℕ). damaged_at n BadRow) place in
    subst (λ (x : Refusal). OverAll (MeetsRow columns) walk walk' (Err x)) (sym there)
    (refused columns walk walk' (damaged_at walk.window.at BadRow) (λ file c. StopsAtRow.bad (no_row file c)))

-- a row that isn't above the one before
pub low_row : (columns : Columns) (walk walk' : DataWalk) (e : Refusal) (at : ℕ) (clustering value : List ℕ) → at ≡ walk.window.at → e ≡ clash_at Data at Order
    → BeginsRow columns walk.window.bytes clustering value → (string_cmp walk.row clustering ≡ Less → ⊥) → OverAll (MeetsRow columns) walk walk' (Err e)
low_row columns walk walk' e at clustering value place is begins low =
    let there : e ≡ clash_at Data walk.window.at Order = is ∙ ap (λ (n : ℕ). clash_at Data n Order) place in
    subst (λ (x : Refusal). OverAll (MeetsRow columns) walk walk' (Err x)) (sym there)
    (refused columns walk walk' (clash_at Data walk.window.at Order)
    (λ file c. StopsAtRow.order (record { clustering = clustering; value = value }) (row_there columns file walk.window clustering value c begins, low)))

-- a fault of the store, or want of memory
pub faulty_row : (columns : Columns) (walk walk' : DataWalk) (e : Refusal) → IsFault e → OverAll (MeetsRow columns) walk walk' (Err e)
faulty_row columns walk walk' e fault = refused columns walk walk' e (λ file c. StopsAtRow.fault e fault)

-- damage is no fault of the store
pub not_fault : {A : Type 0} (r : Result A Refusal) (e : Refusal) (at : ℕ) (cause : Cause) → r ≡ Err e → e ≡ damaged_at at cause → r ≡ Err (refusal.Unread StoreFault) → ⊥
not_fault r e at cause was is f = let apart = sym (was ∙ ap Err is) ∙ f in cc
