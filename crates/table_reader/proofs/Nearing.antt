-- How far the next entry of a walk's range is, over files that are told.
use Rattle.std.proofs.Common.{◌≡◌, ℕ, ◌+◌, ◌*◌, ◌≤◌, List, length, Option, None, Some, IfSome, Result, Ok, Err, arith, ap, refl, subst, sym}
use Rattle.std.specs.Prelude.{max}
use Rattle.outside.specs.Files.{Files, bytes_of}
use Rattle.outside.specs.declared.store.FileId.{FileId}
use Rattle.key_types.specs.Columns.{Columns}
use Rattle.data_file.specs.declared.reading.DataError.{DataError}
use Rattle.data_file.specs.declared.reading.DataError.TheVariants.{StoreFault, Damaged, NoMemory}
use Rattle.table_reader.specs.declared.seek.BoundString.{BoundString}
use Rattle.table_reader.specs.declared.walker.EntryStrings.{EntryStrings}
use Rattle.table_reader.specs.declared.walker.Met.TheVariants.{Passed, Given, Done}
use Rattle.table_reader.specs.declared.walker.Walker.{Walker}
use Rattle.table_reader.specs.Going.{ComesBy, GoesBy, IsNear, ListsOn, between_rows, bytes_ahead, most_below}
use Rattle.table_reader.specs.Ranges.{IsBelow, Scanning, StandsStill, StepIs, inside_of, scanning_of}
use Rattle.table_reader.specs.StepsOver.{IsAny}
use Rattle.table_reader.specs.Window.{Continues, Unread, enough, most_ahead, page_size, read_to}
use Rattle.table_reader.proofs.Giving.{Came}
use Rattle.table_reader.proofs.Going.{comes_soon, follows}

module _ (columns : Columns) (file : List ℕ) where
  -- a scan that stands where another stood
  pub comes_still : (scan scan' : Scanning) (place : ℕ) → scan'.inside ≡ scan.inside → scan'.window.at ≡ scan.window.at → scan'.from ≡ scan.from → ComesBy columns file scan place → ComesBy columns file scan' place
  comes_still scan scan' place inside at from c =
      let same : bytes_ahead scan'.from columns.static_value scan'.inside c.rows c.partitions ≡ bytes_ahead scan.from columns.static_value scan.inside c.rows c.partitions =
      λ i. bytes_ahead (from i) columns.static_value (inside i) c.rows c.partitions in
      record {
        rows = c.rows;
        partitions = c.partitions;
        lists = subst (λ (o : Option (List ℕ)). ListsOn columns file o scan'.window.at c.rows c.partitions) (sym inside)
            (subst (λ (n : ℕ). ListsOn columns file scan.inside n c.rows c.partitions) (sym at) c.lists);
        soon = omega (arith, c.soon, at, same);
      }

  pub comes_later : (scan : Scanning) (place place' : ℕ) → place ≤ place' → ComesBy columns file scan place → ComesBy columns file scan place'
  comes_later scan place place' later c = record { rows = c.rows; partitions = c.partitions; lists = c.lists; soon = omega (arith, c.soon, later) }

  pub comes_passing : (walk walk' : Walker) (place : ℕ) → StepIs columns walk walk' (Ok Passed) → Continues file walk.window → ComesBy columns file (scanning_of walk) place → ComesBy columns file (scanning_of walk') place
  comes_passing walk walk' place (passed, below, moves, from, to, strings) continues c =
      let f = follows columns file (IsBelow walk.from) (inside_of walk) (inside_of walk') walk.window.at walk'.window.at c.rows c.partitions c.lists (moves.3 file continues).2 in
      record {
        rows = f.rows';
        partitions = f.ps';
        lists = f.lists;
        soon = omega (arith, c.soon, f.nearer walk.from (λ p w is. is), ap (λ (o : Option BoundString). bytes_ahead o columns.static_value (inside_of walk') f.rows' f.ps') from);
      }

  pub goes_giving : (walk walk' : Walker) (place : ℕ) (entry : EntryStrings) → StepIs columns walk walk' (Ok (Given entry)) → Continues file walk.window → ComesBy columns file (scanning_of walk) place
      → GoesBy columns file (scanning_of walk') place (Ok (Some entry))
  goes_giving walk walk' place entry (below, above, moves, from, to, inside, strings) continues c =
      let f = follows columns file IsAny (inside_of walk) (inside_of walk') walk.window.at walk'.window.at c.rows c.partitions c.lists (moves.3 file continues).2 in (
        omega (arith, f.short, c.soon),
        record {
          rows = f.rows';
          partitions = f.ps';
          lists = f.lists;
          soon = omega (arith, comes_soon columns file (inside_of walk') walk'.window.at f.rows' f.ps' f.lists, ap (λ (o : Option BoundString). bytes_ahead o columns.static_value (inside_of walk') f.rows' f.ps') from);
        },
      )

  comes_at_rest : (walk walk' : Walker) (place : ℕ) → StandsStill walk walk' → ComesBy columns file (scanning_of walk) place → ComesBy columns file (scanning_of walk') place
  comes_at_rest walk walk' place s c = comes_still (scanning_of walk) (scanning_of walk') place s.inside (ap (λ (u : Unread). u.at) s.window) s.from c

  pub goes_failing : (walk walk' : Walker) (place : ℕ) (e : DataError) → StepIs columns walk walk' (Err e) → ComesBy columns file (scanning_of walk) place → ComesBy columns file (scanning_of walk') place
  goes_failing walk walk' place (Damaged damage) (still, stops) c = comes_at_rest walk walk' place still c
  goes_failing walk walk' place NoMemory still c = comes_at_rest walk walk' place still c
  goes_failing walk walk' place StoreFault step c = absurd step

  pub goes_resting : (walk walk' : Walker) (place : ℕ) → StepIs columns walk walk' (Ok Done) → ComesBy columns file (scanning_of walk) place → ComesBy columns file (scanning_of walk') place
  goes_resting walk walk' place (still, past) c = comes_at_rest walk walk' place still c

  near_after : (scan' : Scanning) (at : ℕ) (result : Result (Option EntryStrings) DataError) → at ≤ scan'.window.at → GoesBy columns file scan' (at + most_below) result
      → IsNear columns file scan' × (scan'.window.at ≤ at + most_below + enough)
  near_after scan' at (Ok (Some entry)) on goes = (comes_later scan' (scan'.window.at + between_rows) (scan'.window.at + most_below) (omega arith) goes.1, goes.0)
  near_after scan' at (Ok None) on goes = (comes_later scan' (at + most_below) (scan'.window.at + most_below) (omega (arith, on)) goes, omega (arith, goes.soon))
  near_after scan' at (Err e) on goes = (comes_later scan' (at + most_below) (scan'.window.at + most_below) (omega (arith, on)) goes, omega (arith, goes.soon))

-- ---- the same of files that are told

-- where the next entry was near, few pages are read
pub near_reads : (columns : Columns) (files : Option Files) (file : FileId) (scan scan' : Scanning) (result : Result (Option EntryStrings) DataError) (before after : ℕ)
    → IfSome files (λ m. Continues (bytes_of m file) scan.window → (place : ℕ) → ComesBy columns (bytes_of m file) scan place → GoesBy columns (bytes_of m file) scan' place result)
    → IfSome files (λ m. Continues (bytes_of m file) scan.window) → scan.window.at ≤ scan'.window.at
    → page_size * after + read_to scan.window ≤ page_size * before + read_to scan'.window + 2 * page_size
    → length scan'.window.bytes ≤ max (length scan.window.bytes) most_ahead
    → IfSome files (λ m. IsNear columns (bytes_of m file) scan → IsNear columns (bytes_of m file) scan' × (after ≤ before + 64))
near_reads columns None file scan scan' result before after goes stands on reads ahead = tt
near_reads columns (Some m) file scan scan' result before after goes stands on reads ahead = λ near.
    let there = near_after columns (bytes_of m file) scan' scan.window.at result on (goes stands (scan.window.at + most_below) near) in
    (there.0, omega (arith, there.1, reads, ahead))

module _ (columns : Columns) (file : FileId) (first : Walker) where
  -- by a place by which the next entry came at first, it comes still
  abbrev pub Nears : Option Files → Walker → Type 0
  Nears files walk = IfSome files (λ m. Continues (bytes_of m file) first.window → (place : ℕ)
      → ComesBy columns (bytes_of m file) (scanning_of first) place → ComesBy columns (bytes_of m file) (scanning_of walk) place)

  -- and this was given then
  abbrev pub Goes : Option Files → Walker → Result (Option EntryStrings) DataError → Type 0
  Goes files walk result = IfSome files (λ m. Continues (bytes_of m file) first.window → (place : ℕ)
      → ComesBy columns (bytes_of m file) (scanning_of first) place → GoesBy columns (bytes_of m file) (scanning_of walk) place result)

  pub nears_at_once : (files : Option Files) → Nears files first
  nears_at_once None = tt
  nears_at_once (Some m) = λ c place comes. comes

  pub nears_filled : (files : Option Files) (walk : Walker) (w : Unread) → w.at ≡ walk.window.at → Nears files walk → Nears files (record { window = w; key = walk.key; inside = walk.inside; from = walk.from; to = walk.to })
  nears_filled None walk w at nears = tt
  nears_filled (Some m) walk w at nears = λ c place comes.
      comes_still columns (bytes_of m file) (scanning_of walk) (scanning_of (record { window = w; key = walk.key; inside = walk.inside; from = walk.from; to = walk.to })) place refl at refl (nears c place comes)

  pub nears_passing : (files : Option Files) (walk walk' : Walker) → StepIs columns walk walk' (Ok Passed) → Came columns file first files walk → Nears files walk → Nears files walk'
  nears_passing None walk walk' step came nears = tt
  nears_passing (Some m) walk walk' step came nears = λ c place comes. comes_passing columns (bytes_of m file) walk walk' place step (came c).0 (nears c place comes)

  pub goes_entry : (files : Option Files) (walk walk' : Walker) (entry : EntryStrings) → StepIs columns walk walk' (Ok (Given entry)) → Came columns file first files walk → Nears files walk
      → Goes files walk' (Ok (Some entry))
  goes_entry None walk walk' entry step came nears = tt
  goes_entry (Some m) walk walk' entry step came nears = λ c place comes. goes_giving columns (bytes_of m file) walk walk' place entry step (came c).0 (nears c place comes)

  pub goes_none : (files : Option Files) (walk walk' : Walker) → StepIs columns walk walk' (Ok Done) → Nears files walk → Goes files walk' (Ok None)
  goes_none None walk walk' step nears = tt
  goes_none (Some m) walk walk' step nears = λ c place comes. goes_resting columns (bytes_of m file) walk walk' place step (nears c place comes)

  pub goes_error : (files : Option Files) (walk walk' : Walker) (e : DataError) → StepIs columns walk walk' (Err e) → Nears files walk → Goes files walk' (Err e)
  goes_error None walk walk' e step nears = tt
  goes_error (Some m) walk walk' e step nears = λ c place comes. goes_failing columns (bytes_of m file) walk walk' place e step (nears c place comes)

  pub goes_stop : (files : Option Files) (walk : Walker) (e : DataError) → Nears files walk → Goes files walk (Err e)
  goes_stop None walk e nears = tt
  goes_stop (Some m) walk e nears = nears
