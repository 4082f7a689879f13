-- Steps of a scan, one after the other.
use Rattle.std.proofs.Common.{◌≡◌, ◌∙◌, ℕ, List, [], ◌∷◌, ◌++◌, drop, Option, None, Some, IfSome, Result, Ok, Err, refl, sym, ap, subst, append_assoc}
use Rattle.std.specs.List.{AllByRecursion}
use Rattle.outside.specs.Files.{Files, bytes_of}
use Rattle.outside.specs.declared.store.FileId.{FileId}
use Rattle.key_types.specs.Columns.{Columns}
use Rattle.key_types.specs.Table.{Entry}
use Rattle.bti_nodes.specs.declared.damage.Damage.{Damage}
use Rattle.bti_reader.proofs.Asking.{join}
use Rattle.data_file.specs.Answers.{IsStop}
use Rattle.data_file.specs.declared.reading.DataError.{DataError}
use Rattle.data_file.specs.declared.reading.DataError.TheVariants.{StoreFault, Damaged, NoMemory}
use Rattle.table_files.specs.Walk.{Passes, Stops, Walks}
use Rattle.table_reader.specs.declared.seek.BoundString.{BoundString}
use Rattle.table_reader.specs.declared.walker.EntryStrings.{EntryStrings}
use Rattle.table_reader.specs.declared.walker.Met.TheVariants.{Passed, Given, Done}
use Rattle.table_reader.specs.declared.walker.Walker.{Walker}
use Rattle.table_reader.specs.Ranges.{Gives, GivesEntry, IsEntryBelow, IsEntryOf, IsOpen, IsPast, PassesBelow, Scanning, StandsStill, StepIs, entries_of, entry_of, inside_of, scanning_of}
use Rattle.table_reader.specs.Window.{Continues, Unread}

all_append : (P : EntryStrings → Type 0) (xs ys : List EntryStrings) → AllByRecursion P xs → AllByRecursion P ys → AllByRecursion P (xs ++ ys)
all_append P [] ys p q = q
all_append P (x ∷ xs) ys (p, ps) q = (p, all_append P xs ys ps q)

entries_append : (xs ys : List EntryStrings) → entries_of (xs ++ ys) ≡ entries_of xs ++ entries_of ys
entries_append [] ys = refl
entries_append (x ∷ xs) ys = ap (λ (es : List Entry). entry_of x ∷ es) (entries_append xs ys)

module _ (columns : Columns) (file : List ℕ) where
  passes_none : (inside : Option (List ℕ)) (at : ℕ) → Passes columns file inside at [] inside at
  passes_none inside at = record { onward = λ more stop walk. walk; only = λ all stop walk. (all, refl, walk) }

  passes_then : (inside inside' inside'' : Option (List ℕ)) (at at' at'' : ℕ) (first second : List Entry) → Passes columns file inside at first inside' at' → Passes columns file inside' at' second inside'' at''
      → Passes columns file inside at (first ++ second) inside'' at''
  passes_then inside inside' inside'' at at' at'' first second p q = record {
    onward = λ more stop walk. subst (λ (es : List Entry). Walks columns inside at (drop at file) es stop) (sym (append_assoc first second more)) (p.onward (second ++ more) stop (q.onward more stop walk));
    only = λ all stop walk.
        let one = p.only all stop walk in
        let two = q.only one.0 stop one.2 in
        (two.0, one.1 ∙ ap (λ (es : List Entry). first ++ es) two.1 ∙ sym (append_assoc first second two.0), two.2);
  }

  -- a scan that stands where it stood passed nothing
  pub passes_still : (scan scan' : Scanning) → scan'.inside ≡ scan.inside → scan'.window.at ≡ scan.window.at → scan'.from ≡ scan.from → scan'.to ≡ scan.to → PassesBelow columns file scan scan'
  passes_still scan scan' inside at from to =
      let here : Passes columns file scan.inside scan.window.at [] scan.inside scan.window.at = passes_none scan.inside scan.window.at in
      record {
        passed = [];
        below = tt;
        walk = subst (λ (o : Option (List ℕ)). Passes columns file scan.inside scan.window.at [] o scan'.window.at) (sym inside)
            (subst (λ (p : ℕ). Passes columns file scan.inside scan.window.at [] scan.inside p) (sym at) here);
        from = from;
        to = to;
        strings = λ known. (subst (IsOpen columns) (sym inside) known, tt);
      }

  pub passes_on : (scan mid scan' : Scanning) → PassesBelow columns file scan mid → PassesBelow columns file mid scan' → PassesBelow columns file scan scan'
  passes_on scan mid scan' p q = record {
    passed = p.passed ++ q.passed;
    below = all_append (IsEntryBelow scan.from) p.passed q.passed p.below (subst (λ (f : Option BoundString). AllByRecursion (IsEntryBelow f) q.passed) p.from q.below);
    walk = subst (λ (es : List Entry). Passes columns file scan.inside scan.window.at es scan'.inside scan'.window.at) (sym (entries_append p.passed q.passed))
        (passes_then scan.inside mid.inside scan'.inside scan.window.at mid.window.at scan'.window.at (entries_of p.passed) (entries_of q.passed) p.walk q.walk);
    from = q.from ∙ p.from;
    to = q.to ∙ p.to;
    strings = λ known.
        let one = p.strings known in
        let two = q.strings one.0 in
        (two.0, all_append (IsEntryOf columns) p.passed q.passed one.1 two.1);
  }

  -- what is given from a place that was passed to is given from the place before
  pub gives_on : (scan mid scan' : Scanning) (result : Result (Option EntryStrings) DataError) → PassesBelow columns file scan mid → Gives columns file mid scan' result → Gives columns file scan scan' result
  gives_on scan mid scan' (Ok (Some entry)) p (next, q, g) = (next, passes_on scan mid next p q, g)
  gives_on scan mid scan' (Ok None) p (q, past) = (passes_on scan mid scan' p q, past)
  gives_on scan mid scan' (Err (Damaged damage)) p (q, stops) = (passes_on scan mid scan' p q, stops)
  gives_on scan mid scan' (Err StoreFault) p q = passes_on scan mid scan' p q
  gives_on scan mid scan' (Err NoMemory) p q = passes_on scan mid scan' p q

  pub stop_gives : (scan scan' : Scanning) (e : DataError) → IsStop e → PassesBelow columns file scan scan' → Gives columns file scan scan' (Err e)
  stop_gives scan scan' (Damaged damage) stop p = absurd stop
  stop_gives scan scan' StoreFault stop p = p
  stop_gives scan scan' NoMemory stop p = p

  still_passes : (walk walk' : Walker) → StandsStill walk walk' → PassesBelow columns file (scanning_of walk) (scanning_of walk')
  still_passes walk walk' s = passes_still (scanning_of walk) (scanning_of walk') s.inside (ap (λ (u : Unread). u.at) s.window) s.from s.to

  still_window : (walk walk' : Walker) → StandsStill walk walk' → Continues file walk.window → Continues file walk'.window
  still_window walk walk' s c = subst (λ (u : Unread). Continues file u) (sym s.window) c

  pub passed_step : (walk walk' : Walker) → StepIs columns walk walk' (Ok Passed) → Continues file walk.window → Continues file walk'.window × PassesBelow columns file (scanning_of walk) (scanning_of walk')
  passed_step walk walk' (passed, below, moves, from, to, strings) c =
      let moved = moves.3 file c in
      (moved.0, record { passed = passed; below = below; walk = moved.1; from = from; to = to; strings = strings })

  pub given_step : (walk walk' : Walker) (entry : EntryStrings) → StepIs columns walk walk' (Ok (Given entry)) → Continues file walk.window
      → Continues file walk'.window × GivesEntry columns file (scanning_of walk) (scanning_of walk') entry
  given_step walk walk' entry (below, above, moves, from, to, inside, strings) c =
      let moved = moves.3 file c in
      (moved.0, record { not_below = below; not_above = above; walk = moved.1; from = from; to = to; inside = inside; strings = strings })

  past_by : (walk walk' : Walker) → StandsStill walk walk' → IsPast columns file (inside_of walk) walk.window.at walk.to → IsPast columns file (inside_of walk') walk'.window.at walk'.to
  past_by walk walk' s past =
      subst (λ (o : Option (List ℕ)). IsPast columns file o walk'.window.at walk'.to) (sym s.inside)
      (subst (λ (p : ℕ). IsPast columns file (inside_of walk) p walk'.to) (sym (ap (λ (u : Unread). u.at) s.window))
      (subst (λ (t : Option BoundString). IsPast columns file (inside_of walk) walk.window.at t) (sym s.to) past))

  pub done_step : (walk walk' : Walker) → StepIs columns walk walk' (Ok Done) → Continues file walk.window
      → Continues file walk'.window × Gives columns file (scanning_of walk) (scanning_of walk') (Ok None)
  done_step walk walk' (still, past) c = (still_window walk walk' still c, (still_passes walk walk' still, past_by walk walk' still (past file c)))

  stops_by : (walk walk' : Walker) (damage : Damage) → StandsStill walk walk' → Stops columns file (inside_of walk) walk.window.at [] (Some damage) → Stops columns file (inside_of walk') walk'.window.at [] (Some damage)
  stops_by walk walk' damage s stops =
      subst (λ (o : Option (List ℕ)). Stops columns file o walk'.window.at [] (Some damage)) (sym s.inside)
      (subst (λ (p : ℕ). Stops columns file (inside_of walk) p [] (Some damage)) (sym (ap (λ (u : Unread). u.at) s.window)) stops)

  pub failed_step : (walk walk' : Walker) (e : DataError) → StepIs columns walk walk' (Err e) → Continues file walk.window
      → Continues file walk'.window × Gives columns file (scanning_of walk) (scanning_of walk') (Err e)
  failed_step walk walk' (Damaged damage) (still, stops) c = (still_window walk walk' still c, (still_passes walk walk' still, stops_by walk walk' damage still (stops file c)))
  failed_step walk walk' NoMemory still c = (still_window walk walk' still c, still_passes walk walk' still)
  failed_step walk walk' StoreFault step c = absurd step

-- ---- the same of files that are told

module _ (columns : Columns) (file : FileId) (first : Walker) where
  -- the walk came here from the first place, and passed entries below the range
  abbrev pub Came : Option Files → Walker → Type 0
  Came files walk = IfSome files (λ m. Continues (bytes_of m file) first.window
      → Continues (bytes_of m file) walk.window × PassesBelow columns (bytes_of m file) (scanning_of first) (scanning_of walk))

  -- and then this was given
  abbrev pub Gave : Option Files → Walker → Result (Option EntryStrings) DataError → Type 0
  Gave files walk result = IfSome files (λ m. Continues (bytes_of m file) first.window
      → Continues (bytes_of m file) walk.window × Gives columns (bytes_of m file) (scanning_of first) (scanning_of walk) result)

  pub came_at_once : (files : Option Files) → Came files first
  came_at_once None = tt
  came_at_once (Some m) = λ c. (c, passes_still columns (bytes_of m file) (scanning_of first) (scanning_of first) refl refl refl refl)

  pub came_filled : (files again : Option Files) (walk : Walker) (w : Unread) → again ≡ files → w.at ≡ walk.window.at → IfSome again (λ m. Continues (bytes_of m file) walk.window → Continues (bytes_of m file) w)
      → Came files walk → Came files (record { window = w; key = walk.key; inside = walk.inside; from = walk.from; to = walk.to })
  came_filled files again walk w stay at told came =
      join files again stay told came
      (λ m p q. λ c.
      let here = q c in (
        p here.0,
        passes_on columns (bytes_of m file) (scanning_of first) (scanning_of walk) (record { window = w; inside = inside_of walk; from = walk.from; to = walk.to }) here.1
            (passes_still columns (bytes_of m file) (scanning_of walk) (record { window = w; inside = inside_of walk; from = walk.from; to = walk.to }) refl at refl refl),
      ))

  pub came_passing : (files : Option Files) (walk walk' : Walker) → StepIs columns walk walk' (Ok Passed) → Came files walk → Came files walk'
  came_passing None walk walk' step came = tt
  came_passing (Some m) walk walk' step came = λ c.
      let here = came c in
      let on = passed_step columns (bytes_of m file) walk walk' step here.0 in
      (on.0, passes_on columns (bytes_of m file) (scanning_of first) (scanning_of walk) (scanning_of walk') here.1 on.1)

  pub gave_entry : (files : Option Files) (walk walk' : Walker) (entry : EntryStrings) → StepIs columns walk walk' (Ok (Given entry)) → Came files walk → Gave files walk' (Ok (Some entry))
  gave_entry None walk walk' entry step came = tt
  gave_entry (Some m) walk walk' entry step came = λ c.
      let here = came c in
      let on = given_step columns (bytes_of m file) walk walk' entry step here.0 in
      (on.0, (scanning_of walk, here.1, on.1))

  pub gave_none : (files : Option Files) (walk walk' : Walker) → StepIs columns walk walk' (Ok Done) → Came files walk → Gave files walk' (Ok None)
  gave_none None walk walk' step came = tt
  gave_none (Some m) walk walk' step came = λ c.
      let here = came c in
      let on = done_step columns (bytes_of m file) walk walk' step here.0 in
      (on.0, gives_on columns (bytes_of m file) (scanning_of first) (scanning_of walk) (scanning_of walk') (Ok None) here.1 on.1)

  pub gave_error : (files : Option Files) (walk walk' : Walker) (e : DataError) → StepIs columns walk walk' (Err e) → Came files walk → Gave files walk' (Err e)
  gave_error None walk walk' e step came = tt
  gave_error (Some m) walk walk' e step came = λ c.
      let here = came c in
      let on = failed_step columns (bytes_of m file) walk walk' e step here.0 in
      (on.0, gives_on columns (bytes_of m file) (scanning_of first) (scanning_of walk) (scanning_of walk') (Err e) here.1 on.1)

  pub gave_stop : (files : Option Files) (walk : Walker) (e : DataError) → IsStop e → Came files walk → Gave files walk (Err e)
  gave_stop None walk e stop came = tt
  gave_stop (Some m) walk e stop came = λ c. let here = came c in (here.0, stop_gives columns (bytes_of m file) (scanning_of first) (scanning_of walk) e stop here.1)
