-- Steps of a scan over a window.
use Rattle.std.proofs.Common.{◌≡◌, ◌≢◌, ◌⊎◌, ℕ, ◌+◌, ◌/◌, ◌%◌, ◌<◌, ◌≤◌, Bool, true, false, List, [], ◌∷◌, ◌++◌, length, drop, Option, None, Some, Result, Ok, Err, inl, inr, refl, sym, ap, ◌∙◌, subst, arith, append_assoc, length-append, ⊎_elim}
use Rattle.std.proofs.lemmas.List.{drop-drop, drop-append-le, append-nil, length-drop}
use Rattle.std.proofs.Math.Seq.{drop-append_seam}
use Rattle.std.specs.Prelude.{if◌then◌else◌, IfSome, IsSome, is_some}
use Rattle.std.specs.List.{AllByRecursion}
use Rattle.key_types.specs.Columns.{Columns}
use Rattle.key_types.specs.Table.{Entry}
use Rattle.key_types.specs.declared.schema.ValueType.{ValueType}
use Rattle.key_decode.specs.Strings.{IsStringOf}
use Rattle.key_decode.proofs.Known.{string_length}
use Rattle.bti_nodes.specs.declared.damage.Damage.{Damage}
use Rattle.bti_nodes.specs.declared.damage.Cause.TheVariants.{BadHead, BadRow}
use Rattle.data_file.specs.declared.parse.ParseRow.{ParseRow}
use Rattle.data_file.specs.declared.parse.ParseRow.TheVariants.{Short, Bad, NoMemory}
use Rattle.data_file.specs.declared.reading.DataError.{DataError}
use Rattle.data_file.specs.declared.reading.DataError.TheVariants.{Damaged}
use Rattle.data_file.specs.Answers.{damage_at}
use Rattle.data_file.specs.Listing.{static_part_bytes, head_bytes, row_bytes}
use Rattle.data_file.specs.Reading.{BeginsEnd, BeginsHead, BeginsRow, NoStaticPart, NoHead, NoRow}
use Rattle.data_file.proofs.Found.{no_head_on}
use Rattle.table_files.specs.Standing.{static_entries}
use Rattle.table_files.specs.Walk.{Passes, Stops}
use Rattle.table_files.proofs.Passing.{bad_static_part_stops, bad_head_stops, bad_row_stops, end_passes, head_passes, row_passes}
use Rattle.table_reader.specs.declared.seek.BoundString.{BoundString}
use Rattle.table_reader.specs.declared.walker.EntryStrings.{EntryStrings}
use Rattle.table_reader.specs.declared.walker.Met.TheVariants.{Passed, Given, Done}
use Rattle.table_reader.specs.declared.walker.Walker.{Walker}
use Rattle.table_reader.specs.Parts.{GivesStatic, IsStaticAbove, IsStaticPartBehind, NoStaticPartBehind}
use Rattle.table_reader.specs.Ranges.{BeginsStatic, IsAbove, IsBelow, IsEntryBelow, IsEntryOf, IsOpen, IsPast, StandsStill, StepIs, entries_of, entry_of, inside_of, within_bytes}
use Rattle.table_reader.specs.StepsOver.{IsAny, IsOfStatic, StepsOver}
use Rattle.table_reader.specs.Window.{Unread, Continues, HasEnough, enough, read_to}

-- ---- the partition

pub is_outside : (walk : Walker) → walk.inside ≡ false → inside_of walk ≡ None
is_outside walk e = ap (λ (b : Bool). if b then Some walk.key else None) e

by_inside : (b : Bool) (key : List ℕ) → (b ≡ false → ⊥) → (if b then Some key else None) ≡ Some key
by_inside true key ne = refl
by_inside false key ne = absurd (ne refl)

is_inside : (walk : Walker) → (walk.inside ≡ false → ⊥) → inside_of walk ≡ Some walk.key
is_inside walk ne = by_inside walk.inside walk.key ne

still : (walk walk' : Walker) → walk'.window ≡ walk.window → walk'.inside ≡ walk.inside → walk'.key ≡ walk.key → walk'.from ≡ walk.from → walk'.to ≡ walk.to → StandsStill walk walk'
still walk walk' w i k f t = record { window = w; inside = (λ j. if i j then Some (k j) else None); from = f; to = t }

pub still_outside : (walk walk' : Walker) → walk.inside ≡ false → walk'.window ≡ walk.window → walk'.inside ≡ walk.inside → walk'.from ≡ walk.from → walk'.to ≡ walk.to → StandsStill walk walk'
still_outside walk walk' outside w i f t =
    record { window = w; inside = is_outside walk' (i ∙ outside) ∙ sym (is_outside walk outside); from = f; to = t }

same_walk : (walk : Walker) → StandsStill walk walk
same_walk walk = record { window = refl; inside = refl; from = refl; to = refl }

-- the walk is in no partition, or in one whose string is known
open_there : (columns : Columns) (inside : Option (List ℕ)) (key : List ℕ) → inside ≡ Some key → IsOpen columns inside → IsStringOf columns.partition key
open_there columns inside key is known = subst (IsOpen columns) is known

-- ---- the window

-- the window behind so many bytes
abbrev pub passed_by : ℕ → Unread → Unread
passed_by count w = record { bytes = drop count w.bytes; at = w.at + count; limit = w.limit; whole = w.whole }

pub passed : (file : List ℕ) (w : Unread) (count : ℕ) → Continues file w → count ≤ length w.bytes → Continues file (passed_by count w)
passed file w count c fits = record {
  rest = c.rest;
  is = sym (drop-drop count w.at file) ∙ ap (drop count) c.is ∙ drop-append-le count w.bytes c.rest fits;
  ended = c.ended;
  long = c.long;
}

pub room_there : (w : Unread) (bytes : List ℕ) → bytes ≡ w.bytes → w.at + length bytes ≤ w.limit → w.at + length w.bytes ≤ w.limit
room_there w bytes same room = subst (λ (b : List ℕ). w.at + length b ≤ w.limit) same room

-- ---- what a step passes

module _ (columns : Columns) where
  -- from one window to another a walk passes these entries
  abbrev pub Moving : (List ℕ → List ℕ → Type 0) → Unread → Unread → Option (List ℕ) → Option (List ℕ) → List Entry → Type 0
  Moving Is w v inside inside' entries = (w.at < v.at) × (v.at ≤ v.limit) × (v.limit ≡ w.limit) × ((file : List ℕ) → Continues file w
      → Continues file v × Passes columns file inside w.at entries inside' v.at × StepsOver columns Is file inside w.at inside' v.at) × (read_to v ≡ read_to w) × (v.whole ≡ w.whole)

  moving : (Is : List ℕ → List ℕ → Type 0) (w v : Unread) (n : ℕ) (front rest : List ℕ) (inside inside' : Option (List ℕ)) (entries : List Entry) → w.at + length w.bytes ≤ w.limit → v ≡ passed_by n w → n ≡ length front → 0 < length front
      → w.bytes ≡ front ++ rest → ((file more : List ℕ) → drop w.at file ≡ front ++ more
      → Passes columns file inside w.at entries inside' (w.at + length front) × StepsOver columns Is file inside w.at inside' (w.at + length front)) → Moving Is w v inside inside' entries
  moving Is w v n front rest inside inside' entries room is count some begins passes =
      let fits : n ≤ length w.bytes = omega (arith, ap length begins, length-append front rest) in
      subst (λ (u : Unread). Moving Is w u inside inside' entries) (sym is) (
        omega arith,
        omega arith,
        refl,
        λ file c.
            let there = passes file (rest ++ c.rest) (c.is ∙ ap (λ b. b ++ c.rest) begins ∙ append_assoc front rest c.rest) in (
              passed file w n c fits,
              subst (λ (k : ℕ). Passes columns file inside w.at entries inside' (w.at + k)) (sym count) there.0,
              subst (λ (k : ℕ). StepsOver columns Is file inside w.at inside' (w.at + k)) (sym count) there.1,
            ),
        omega (arith, fits, length-drop n w.bytes),
        refl,
      )

  -- behind the head of the bytes its static part stands
  pub parts_there : (bytes key more behind : List ℕ) (static_part : Option (List ℕ)) → bytes ≡ head_bytes key ++ more → drop (length (head_bytes key)) bytes ≡ static_part_bytes columns.static_value static_part ++ behind
      → bytes ≡ (head_bytes key ++ static_part_bytes columns.static_value static_part) ++ behind
  parts_there bytes key more behind static_part e f =
      let rest : more ≡ static_part_bytes columns.static_value static_part ++ behind = sym (drop-append_seam (head_bytes key) more) ∙ ap (drop (length (head_bytes key))) (sym e) ∙ f in
      e ∙ ap (λ bs. head_bytes key ++ bs) rest ∙ sym (append_assoc (head_bytes key) (static_part_bytes columns.static_value static_part) behind)

  pub moves_head : (Is : List ℕ → List ℕ → Type 0) (w v : Unread) (n : ℕ) (inside : Option (List ℕ)) (key : List ℕ) (static_part : Option (List ℕ)) (count : ℕ) → w.at + length w.bytes ≤ w.limit → inside ≡ None → v ≡ passed_by n w
      → n ≡ length (head_bytes key) + count → BeginsHead columns w.bytes key → IsStaticPartBehind columns (drop (length (head_bytes key)) w.bytes) static_part count
      → IsOfStatic Is key static_part → Moving Is w v inside (Some key) (static_entries key static_part)
  moves_head Is w v n inside key static_part count room outside is long (string, (more, e)) (f, size, (behind, g)) so =
      let front : List ℕ = head_bytes key ++ static_part_bytes columns.static_value static_part in
      moving Is w v n front behind inside (Some key) (static_entries key static_part) room is (omega (arith, length-append (head_bytes key) (static_part_bytes columns.static_value static_part)))
      (omega (arith, length-append (head_bytes key) (static_part_bytes columns.static_value static_part))) (parts_there w.bytes key more behind static_part e g)
      (λ file rest at. subst (λ (o : Option (List ℕ)). Passes columns file o w.at (static_entries key static_part) (Some key) (w.at + length front)
      × StepsOver columns Is file o w.at (Some key) (w.at + length front)) (sym outside)
      (head_passes columns file w.at key static_part rest string f at, (static_part, rest, string, f, so, at, refl)))

  moves_row : (Is : List ℕ → List ℕ → Type 0) (w v : Unread) (n : ℕ) (inside : Option (List ℕ)) (key c value : List ℕ) → w.at + length w.bytes ≤ w.limit → inside ≡ Some key → v ≡ passed_by n w
      → n ≡ length (row_bytes c value) → BeginsRow columns w.bytes c value → Is key c → Moving Is w v inside inside ((key ++ c, value) ∷ [])
  moves_row Is w v n inside key c value room within is count b so =
      moving Is w v n (row_bytes c value) b.1.0 inside inside ((key ++ c, value) ∷ []) room is count (omega arith) b.1.1
      (λ file more e. subst (λ (o : Option (List ℕ)). Passes columns file o w.at ((key ++ c, value) ∷ []) o (w.at + length (row_bytes c value))
      × StepsOver columns Is file o w.at o (w.at + length (row_bytes c value))) (sym within)
      (row_passes columns file w.at key c value more b.0 e, (c, value, more, refl, b.0, so, e, refl)))

  moves_end : (Is : List ℕ → List ℕ → Type 0) (w v : Unread) (n : ℕ) (inside : Option (List ℕ)) (key : List ℕ) → w.at + length w.bytes ≤ w.limit → inside ≡ Some key → v ≡ passed_by n w → n ≡ 1 → BeginsEnd w.bytes → Moving Is w v inside None []
  moves_end Is w v n inside key room within is count (rest, begins) =
      moving Is w v n (0 ∷ []) rest inside None [] room is count (omega arith) begins
      (λ file more e. subst (λ (o : Option (List ℕ)). Passes columns file o w.at [] None (w.at + 1) × StepsOver columns Is file o w.at None (w.at + 1)) (sym within)
      (end_passes columns file w.at key more e, (more, e, refl)))

  -- ---- what is in the file

  all_of : (file : List ℕ) (w : Unread) (c : Continues file w) → w.whole ≡ true → drop w.at file ≡ w.bytes
  all_of file w c whole = c.is ∙ ap (λ r. w.bytes ++ r) (c.ended whole) ∙ append-nil w.bytes

  pub row_there : (file : List ℕ) (w : Unread) (clustering value : List ℕ) → Continues file w → BeginsRow columns w.bytes clustering value → BeginsRow columns (drop w.at file) clustering value
  row_there file w clustering value c (is, (more, e)) = (is, (more ++ c.rest, c.is ∙ ap (λ b. b ++ c.rest) e ∙ append_assoc (row_bytes clustering value) more c.rest))

  pub no_head_there : (file : List ℕ) (w : Unread) → Continues file w → HasEnough w → NoHead columns w.bytes → NoHead columns (drop w.at file)
  no_head_there file w c (inl whole) no_head = subst (λ (b : List ℕ). NoHead columns b) (sym (all_of file w c whole)) no_head
  no_head_there file w c (inr long) no_head = subst (λ (b : List ℕ). NoHead columns b) (sym c.is) (no_head_on columns w.bytes c.rest (omega arith) no_head)

  pub some_there : (bytes rest : List ℕ) → bytes ≢ [] → bytes ++ rest ≢ []
  some_there [] rest ne = λ e. ne refl
  some_there (b ∷ bytes) rest ne = λ e. cc

  pub no_part_there : (file : List ℕ) (w : Unread) (key more : List ℕ) → length key ≤ 1024 → w.bytes ≡ head_bytes key ++ more → (c : Continues file w) → HasEnough w
      → ((NoStaticPart columns more × (length more < 65538)) ⊎ ((rest : List ℕ) → NoStaticPart columns (more ++ rest))) → NoStaticPart columns (more ++ c.rest)
  no_part_there file w key more short e c full (inr never) = never c.rest
  no_part_there file w key more short e c (inl whole) (inl (no_part, few)) = subst (NoStaticPart columns) (sym (ap (λ r. more ++ r) (c.ended whole) ∙ append-nil more)) no_part
  no_part_there file w key more short e c (inr long) (inl (no_part, few)) = absurd (omega (arith, ap length e, length-append (head_bytes key) more))

  pub few_rows : (w : Unread) → HasEnough w → NoRow columns w.bytes × (length w.bytes < 66564) → (file : List ℕ) → Continues file w → NoRow columns (drop w.at file)
  few_rows w full (no_row, few) file c =
      let whole : w.whole ≡ true = ⊎_elim (λ e. e) (λ (l : enough ≤ length w.bytes). absurd (omega arith)) full in
      subst (λ (b : List ℕ). NoRow columns b) (sym (all_of file w c whole)) no_row

  pub bad_rows : (w : Unread) → ((more : List ℕ) → NoRow columns (w.bytes ++ more)) → (file : List ℕ) → Continues file w → NoRow columns (drop w.at file)
  bad_rows w no_row file c = subst (λ (b : List ℕ). NoRow columns b) (sym c.is) (no_row c.rest)

  -- ---- at a head

  pub ends_file : (walk : Walker) → walk.inside ≡ false → HasEnough walk.window → walk.window.bytes ≡ [] → StepIs columns walk walk (Ok Done)
  ends_file walk outside full empty =
      let whole : walk.window.whole ≡ true = ⊎_elim (λ e. e) (λ (l : enough ≤ length walk.window.bytes). absurd (omega (arith, ap length empty))) full in (
        same_walk walk,
        λ file c. subst (λ (o : Option (List ℕ)). IsPast columns file o walk.window.at walk.to) (sym (is_outside walk outside))
            (inl (all_of file walk.window c whole ∙ empty)),
      )

  static_there : (file : List ℕ) (w : Unread) (key value : List ℕ) (count : ℕ) → Continues file w → BeginsHead columns w.bytes key
      → IsStaticPartBehind columns (drop (length (head_bytes key)) w.bytes) (Some value) count → BeginsStatic columns (drop w.at file) key value
  static_there file w key value count c (string, (more, e)) (fits, size, (behind, g)) =
      let front : List ℕ = head_bytes key ++ static_part_bytes columns.static_value (Some value) in
      (string, fits, (behind ++ c.rest, c.is ∙ ap (λ b. b ++ c.rest) (parts_there w.bytes key more behind (Some value) e g) ∙ append_assoc front behind c.rest))

  pub static_above : (walk : Walker) (key : List ℕ) (static_part : Option (List ℕ)) (count : ℕ) → walk.inside ≡ false → BeginsHead columns walk.window.bytes key
      → IsStaticPartBehind columns (drop (length (head_bytes key)) walk.window.bytes) static_part count → IsStaticAbove walk.to key static_part → StepIs columns walk walk (Ok Done)
  static_above walk key None count outside begins part above = absurd above
  static_above walk key (Some value) count outside begins part above = (
    same_walk walk,
    λ file c. subst (λ (o : Option (List ℕ)). IsPast columns file o walk.window.at walk.to) (sym (is_outside walk outside))
        (inr (key, value, static_there file walk.window key value count c begins part, above)),
  )

  stops_so : (walk : Walker) (e : DataError) (damage : Damage) → e ≡ Damaged damage
      → ((file : List ℕ) → Continues file walk.window → Stops columns file (inside_of walk) walk.window.at [] (Some damage)) → StepIs columns walk walk (Err e)
  stops_so walk e damage is stops = subst (λ (x : DataError). StepIs columns walk walk (Err x)) (sym is) (same_walk walk, stops)

  pub bad_head : (walk : Walker) (e : DataError) (at : ℕ) → walk.inside ≡ false → HasEnough walk.window → walk.window.bytes ≢ [] → NoHead columns walk.window.bytes
      → at ≡ walk.window.at → e ≡ Damaged (damage_at at BadHead) → StepIs columns walk walk (Err e)
  bad_head walk e at outside full some no_head place is =
      stops_so walk e (damage_at walk.window.at BadHead) (is ∙ ap (λ (p : ℕ). Damaged (damage_at p BadHead)) place)
      (λ file c. subst (λ (o : Option (List ℕ)). Stops columns file o walk.window.at [] (Some (damage_at walk.window.at BadHead))) (sym (is_outside walk outside))
      (bad_head_stops columns file walk.window.at (λ e. some_there walk.window.bytes c.rest some (sym c.is ∙ e)) (no_head_there file walk.window c full no_head)))

  pub bad_part : (walk : Walker) (e : DataError) (key : List ℕ) (at n : ℕ) → walk.inside ≡ false → HasEnough walk.window → BeginsHead columns walk.window.bytes key → n ≡ length (head_bytes key)
      → NoStaticPartBehind columns (drop n walk.window.bytes) → at ≡ walk.window.at → e ≡ Damaged (damage_at (at + n) BadRow) → StepIs columns walk walk (Err e)
  bad_part walk e key at n outside full (string, (more, f)) size (static, no_part) place is =
      let w : Unread = walk.window in
      let rest : drop n w.bytes ≡ more = ap (λ (m : ℕ). drop m w.bytes) size ∙ ap (drop (length (head_bytes key))) f ∙ drop-append_seam (head_bytes key) more in
      let told = subst (λ (bs : List ℕ). (NoStaticPart columns bs × (length bs < 65538)) ⊎ ((behind : List ℕ) → NoStaticPart columns (bs ++ behind))) rest no_part in
      stops_so walk e (damage_at (walk.window.at + length (head_bytes key)) BadRow) (is ∙ ap (λ (p : ℕ). Damaged (damage_at (p + n) BadRow)) place ∙ ap (λ (m : ℕ). Damaged (damage_at (walk.window.at + m) BadRow)) size)
      (λ file c. subst (λ (o : Option (List ℕ)). Stops columns file o walk.window.at [] (Some (damage_at (walk.window.at + length (head_bytes key)) BadRow))) (sym (is_outside walk outside))
      (bad_static_part_stops columns file walk.window.at key (more ++ c.rest) string static (c.is ∙ ap (λ bs. bs ++ c.rest) f ∙ append_assoc (head_bytes key) more c.rest)
      (no_part_there file w key more (string_length columns.partition key string) f c full told)))

  -- the entries of a static part, which was given or lies below
  static_passed : (from : Option BoundString) (key : List ℕ) (static_part : Option (List ℕ)) → IsStringOf columns.partition key → GivesStatic from key static_part None
      → (below : List EntryStrings) × AllByRecursion (IsEntryBelow from) below × (static_entries key static_part ≡ entries_of below) × AllByRecursion (IsEntryOf columns) below
  static_passed from key None string given = ([], tt, refl, tt)
  static_passed from key (Some value) string given = (
    record { partition = key; clustering = None; value = value } ∷ [],
    (given, tt),
    ap (λ (k : List ℕ). (k, value) ∷ []) (sym (append-nil key)),
    (record { partition = string; clustering = tt }, tt),
  )

  static_told : (from : Option BoundString) (key : List ℕ) (static_part : Option (List ℕ)) (entry : EntryStrings) → GivesStatic from key static_part (Some entry)
      → (IsEntryBelow from entry → ⊥) × (entry.partition ≡ key) × (entry.clustering ≡ None) × (static_entries key static_part ≡ entry_of entry ∷ [])
  static_told from key None entry given = cc
  static_told from key (Some value) entry (apart, is) =
      let P : EntryStrings → Type 0 = λ e. (IsEntryBelow from e → ⊥) × (e.partition ≡ key) × (e.clustering ≡ None) × (static_entries key (Some value) ≡ entry_of e ∷ []) in
      subst P (sym is) (apart, refl, refl, ap (λ (k : List ℕ). (k, value) ∷ []) (sym (append-nil key)))

  -- a static value that isn't given lies below
  pub static_lies_below : (from : Option BoundString) (key : List ℕ) (static_part : Option (List ℕ)) → GivesStatic from key static_part None → IsOfStatic (IsBelow from) key static_part
  static_lies_below from key None given = tt
  static_lies_below from key (Some value) given = given

  pub any_static : (key : List ℕ) (static_part : Option (List ℕ)) → IsOfStatic IsAny key static_part
  any_static key None = tt
  any_static key (Some value) = tt

  pub enters_passing : (walk : Walker) (v : Unread) (key kept : List ℕ) (static_part : Option (List ℕ)) → kept ≡ key → IsStringOf columns.partition key → GivesStatic walk.from key static_part None
      → Moving (IsBelow walk.from) walk.window v (inside_of walk) (Some key) (static_entries key static_part)
      → StepIs columns walk (record { window = v; key = kept; inside = true; from = walk.from; to = walk.to }) (Ok Passed)
  enters_passing walk v key kept static_part same string given moves =
      let told = static_passed walk.from key static_part string given in
      let M : List ℕ → List Entry → Type 0 = λ k es. Moving (IsBelow walk.from) walk.window v (inside_of walk) (Some k) es in (
        told.0,
        told.1,
        subst (λ (k : List ℕ). M k (entries_of told.0)) (sym same) (subst (M key) told.2 moves),
        refl,
        refl,
        λ known. (subst (IsStringOf columns.partition) (sym same) string, told.3),
      )

  not_above : (to : Option BoundString) (key : List ℕ) (entry : EntryStrings) → entry.partition ≡ key → entry.clustering ≡ None → (IsAbove to key [] → ⊥) → IsAbove to entry.partition (within_bytes entry.clustering) → ⊥
  not_above to key entry p c apart above =
      apart (subst (λ (o : Option (List ℕ)). IsAbove to key (within_bytes o)) c (subst (λ (k : List ℕ). IsAbove to k (within_bytes entry.clustering)) p above))

  some_static : (from to : Option BoundString) (key : List ℕ) (static_part : Option (List ℕ)) (entry : EntryStrings) → GivesStatic from key static_part (Some entry)
      → (IsStaticAbove to key static_part → ⊥) → IsAbove to key [] → ⊥
  some_static from to key None entry given apart above = cc
  some_static from to key (Some value) entry given apart above = apart above

  pub enters_giving : (walk : Walker) (v : Unread) (key kept : List ℕ) (static_part : Option (List ℕ)) (entry : EntryStrings) → kept ≡ key → IsStringOf columns.partition key → GivesStatic walk.from key static_part (Some entry)
      → (IsStaticAbove walk.to key static_part → ⊥) → Moving IsAny walk.window v (inside_of walk) (Some key) (static_entries key static_part)
      → StepIs columns walk (record { window = v; key = kept; inside = true; from = None; to = walk.to }) (Ok (Given entry))
  enters_giving walk v key kept static_part entry same string given apart moves =
      let told = static_told walk.from key static_part entry given in
      let M : List ℕ → List Entry → Type 0 = λ k es. Moving IsAny walk.window v (inside_of walk) (Some k) es in (
        told.0,
        not_above walk.to key entry told.1 told.2 (some_static walk.from walk.to key static_part entry given apart),
        subst (λ (k : List ℕ). M k (entry_of entry ∷ [])) (sym same) (subst (M key) told.3 moves),
        refl,
        refl,
        ap Some (same ∙ sym told.1),
        λ known. record {
          partition = subst (IsStringOf columns.partition) (sym told.1) string;
          clustering = subst (λ (o : Option (List ℕ)). IfSome o (IsStringOf columns.clustering)) (sym told.2) tt;
        },
      )

  -- ---- in a partition

  pub bad_row : (walk : Walker) (e : DataError) (at : ℕ) → (walk.inside ≡ false → ⊥) → ((file : List ℕ) → Continues file walk.window → NoRow columns (drop walk.window.at file))
      → at ≡ walk.window.at → e ≡ Damaged (damage_at at BadRow) → StepIs columns walk walk (Err e)
  bad_row walk e at within no_row place is =
      stops_so walk e (damage_at walk.window.at BadRow) (is ∙ ap (λ (p : ℕ). Damaged (damage_at p BadRow)) place)
      (λ file c. subst (λ (o : Option (List ℕ)). Stops columns file o walk.window.at [] (Some (damage_at walk.window.at BadRow))) (sym (is_inside walk within))
      (bad_row_stops columns file walk.window.at walk.key (no_row file c)))

  pub row_above : (walk : Walker) (clustering value : List ℕ) → (walk.inside ≡ false → ⊥) → BeginsRow columns walk.window.bytes clustering value → IsAbove walk.to walk.key clustering
      → StepIs columns walk walk (Ok Done)
  row_above walk clustering value within begins above = (
    same_walk walk,
    λ file c. subst (λ (o : Option (List ℕ)). IsPast columns file o walk.window.at walk.to) (sym (is_inside walk within))
        (clustering, value, row_there file walk.window clustering value c begins, above),
  )

  pub ends_partition : (walk : Walker) (v : Unread) → (walk.inside ≡ false → ⊥) → walk.window.at + length walk.window.bytes ≤ walk.window.limit → v ≡ passed_by 1 walk.window → BeginsEnd walk.window.bytes
      → StepIs columns walk (record { window = v; key = walk.key; inside = false; from = walk.from; to = walk.to }) (Ok Passed)
  ends_partition walk v within room is begins =
      ([], tt, moves_end (IsBelow walk.from) walk.window v 1 (inside_of walk) walk.key room (is_inside walk within) is refl begins, refl, refl, λ known. (tt, tt))

  row_moves : (Is : List ℕ → List ℕ → Type 0) (walk : Walker) (v : Unread) (n : ℕ) (clustering value : List ℕ) → (walk.inside ≡ false → ⊥) → walk.window.at + length walk.window.bytes ≤ walk.window.limit → v ≡ passed_by n walk.window
      → n ≡ length (row_bytes clustering value) → BeginsRow columns walk.window.bytes clustering value → Is walk.key clustering
      → Moving Is walk.window v (inside_of walk) (inside_of walk) ((walk.key ++ clustering, value) ∷ [])
  row_moves Is walk v n clustering value within room is count begins so =
      moves_row Is walk.window v n (inside_of walk) walk.key clustering value room (is_inside walk within) is count begins so

  pub passes_row_below : (walk : Walker) (v : Unread) (n : ℕ) (clustering value : List ℕ) → (walk.inside ≡ false → ⊥) → walk.window.at + length walk.window.bytes ≤ walk.window.limit → v ≡ passed_by n walk.window
      → n ≡ length (row_bytes clustering value) → BeginsRow columns walk.window.bytes clustering value → IsBelow walk.from walk.key clustering
      → StepIs columns walk (record { window = v; key = walk.key; inside = walk.inside; from = walk.from; to = walk.to }) (Ok Passed)
  passes_row_below walk v n clustering value within room is count begins below = (
    record { partition = walk.key; clustering = Some clustering; value = value } ∷ [],
    (below, tt),
    row_moves (IsBelow walk.from) walk v n clustering value within room is count begins below,
    refl,
    refl,
    λ known. (known, (record { partition = open_there columns (inside_of walk) walk.key (is_inside walk within) known; clustering = begins.0.0 }, tt)),
  )

  pub gives_row : (walk : Walker) (v : Unread) (n : ℕ) (clustering value key : List ℕ) (entry : EntryStrings) → (walk.inside ≡ false → ⊥) → walk.window.at + length walk.window.bytes ≤ walk.window.limit
      → v ≡ passed_by n walk.window → n ≡ length (row_bytes clustering value) → BeginsRow columns walk.window.bytes clustering value
      → (IsBelow walk.from walk.key clustering → ⊥) → (IsAbove walk.to walk.key clustering → ⊥) → key ≡ walk.key
      → entry ≡ record { partition = key; clustering = Some clustering; value = value }
      → StepIs columns walk (record { window = v; key = walk.key; inside = walk.inside; from = None; to = walk.to }) (Ok (Given entry))
  gives_row walk v n clustering value key entry within room is count begins below above same made =
      let walk' : Walker = record { window = v; key = walk.key; inside = walk.inside; from = None; to = walk.to } in
      let whole : entry ≡ record { partition = walk.key; clustering = Some clustering; value = value } = made ∙ ap (λ (k : List ℕ). record { partition = k; clustering = Some clustering; value = value }) same in
      subst (λ (e : EntryStrings). StepIs columns walk walk' (Ok (Given e))) (sym whole) (
        below,
        above,
        row_moves IsAny walk v n clustering value within room is count begins tt,
        refl,
        refl,
        is_inside walk within,
        λ known. record { partition = open_there columns (inside_of walk) walk.key (is_inside walk within) known; clustering = begins.0.0 },
      )

pub row_length : (c v : List ℕ) → 5 + length c + length v ≡ length (row_bytes c v)
row_length c v = omega (arith, length-append (length c / 256 ∷ length c % 256 ∷ c) (length v / 256 ∷ length v % 256 ∷ v))

-- ---- the static part behind a head

no_static : (static : Option ValueType) → is_some static ≡ false → static ≡ None
no_static None e = refl
no_static (Some type) e = cc

module _ (columns : Columns) where
  -- a table without a static type has none, of no bytes
  pub none_behind : (bytes : List ℕ) → is_some columns.static_value ≡ false → IsStaticPartBehind columns bytes None 0
  none_behind bytes e =
      let is : columns.static_value ≡ None = no_static columns.static_value e in
      (tt, ap (λ (o : Option ValueType). length (static_part_bytes o None)) (sym is), (bytes, ap (λ (o : Option ValueType). static_part_bytes o None ++ bytes) (sym is)))

  -- a refusal says that none begins there
  pub no_part : {X : Type 0} (bytes behind : List ℕ) (r : Result X ParseRow) (e : ParseRow) → behind ≡ bytes → IsSome columns.static_value → r ≡ Err e
      → (r ≡ Err Short → NoStaticPart columns behind × (length behind < 65538)) → (r ≡ Err Bad → (more : List ℕ) → NoStaticPart columns (behind ++ more)) → ¬ (r ≡ Err NoMemory)
      → NoStaticPartBehind columns bytes
  no_part bytes behind r Short same some is short bad memory = (some, inl (subst (λ (bs : List ℕ). NoStaticPart columns bs × (length bs < 65538)) same (short is)))
  no_part bytes behind r Bad same some is short bad memory = (some, inr (subst (λ (bs : List ℕ). (more : List ℕ) → NoStaticPart columns (bs ++ more)) same (bad is)))
  no_part bytes behind r NoMemory same some is short bad memory = absurd (memory is)

  -- a refusal says that no row begins in the file
  pub no_row : {X : Type 0} (w : Unread) (bytes : List ℕ) (r : Result X ParseRow) (e : ParseRow) → bytes ≡ w.bytes → HasEnough w → r ≡ Err e
      → (r ≡ Err Short → NoRow columns bytes × (length bytes < 66564)) → (r ≡ Err Bad → (more : List ℕ) → NoRow columns (bytes ++ more)) → ¬ (r ≡ Err NoMemory)
      → (file : List ℕ) → Continues file w → NoRow columns (drop w.at file)
  no_row w bytes r Short same full is short bad memory file c =
      few_rows columns w full (subst (λ (bs : List ℕ). NoRow columns bs × (length bs < 66564)) same (short is)) file c
  no_row w bytes r Bad same full is short bad memory file c =
      bad_rows columns w (subst (λ (bs : List ℕ). (more : List ℕ) → NoRow columns (bs ++ more)) same (bad is)) file c
  no_row w bytes r NoMemory same full is short bad memory file c = absurd (memory is)
