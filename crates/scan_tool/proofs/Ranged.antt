-- What is printed of files that stand for a map.
use Rattle.std.proofs.Common.{◌≡◌, ◌∙◌, ℕ, ◌≤◌, List, [], ◌∷◌, ◌++◌, length, Option, None, Some, IfSome, Result, Ok, Err, inl, inr, refl, sym, ap, subst, arith, append_assoc}
use Rattle.std.proofs.lemmas.List.{append-nil}
use Rattle.std.specs.Prelude.{⊤}
use Rattle.std.specs.FinMap as map
use Rattle.bti_nodes.specs.declared.damage.Damage.{Damage}
use Rattle.data_file.specs.declared.reading.DataError.TheVariants as data_error
use Rattle.key_types.specs.Columns.{Columns}
use Rattle.key_types.specs.Table.{Entry, Table}
use Rattle.byte_comparable.specs.declared.strings.Side.TheVariants.{Before, After}
use Rattle.outside.specs.Files.{Files, bytes_of}
use Rattle.outside.specs.Told.{WhereTold}
use Rattle.flush_walk.specs.Entries.{row_count}
use Rattle.row_text.specs.Printed.{count_line, entry_lines, rows_text}
use Rattle.row_text.proofs.PrintedLemmas.{lines_append}
use Rattle.table_files.specs.Names.{data_id, schema_id}
use Rattle.table_files.specs.Standing.{StandFor}
use Rattle.table_files.proofs.SchemaLemmas.{one_schema}
use Rattle.table_reader.specs.declared.fault.TableFault.TheVariants as table_fault
use Rattle.table_reader.specs.declared.seek.BoundString.{BoundString}
use Rattle.table_reader.specs.declared.seek.Start.{Start}
use Rattle.table_reader.specs.declared.walker.EntryStrings.{EntryStrings}
use Rattle.table_reader.specs.Left.{HasLeft, IsBound, NamesSome, range_of}
use Rattle.table_reader.specs.Ranges.{Scanning, entries_of, entry_of}
use Rattle.table_reader.specs.Scans.{begun}
use Rattle.table_reader.proofs.Footers.{footers_stand}
use Rattle.table_reader.proofs.Leaving.{scans_give_range}
use Rattle.table_reader.proofs.Ranged.{ranges_have}
use Rattle.scan_tool.specs.declared.error.ScanError.{ScanError}
use Rattle.scan_tool.specs.declared.error.ScanError.TheVariants as scan_error
use Rattle.scan_tool.specs.Given.{Begins, GivesAll, HasEach, HasSome, HasUntil}
use Rattle.scan_tool.specs.Laws.{PrintsFirst, PrintsOf, PrintsPrefix, PrintsMap}
use Rattle.scan_tool.specs.Printing.{Appends, AppendsPrefix, PrintsIn, PrintsNamed, PrintsRange, PrintsUnder, lines_of, text_of}
use Rattle.scan_tool.proofs.Named.{named_bound, named_some}
use Rattle.scan_tool.proofs.Pushes.{longer_prefix, told_piece, told_prefix}

-- what is given one behind the other are the first entries that are left
pub gives_front : (columns : Columns) (file : List ℕ) (scan last : Scanning) (entries : List EntryStrings) (left : List Entry) → HasLeft columns file scan left → GivesAll columns file scan entries last
    → (rest : List Entry) × (left ≡ entries_of entries ++ rest) × HasLeft columns file last rest
gives_front columns file scan last [] left has e = (left, refl, subst (λ (s : Scanning). HasLeft columns file s left) e has)
gives_front columns file scan last (x ∷ entries) left has (mid, gives, all) =
    let first = scans_give_range columns file scan mid left (Ok (Some x)) has gives in
    let more = gives_front columns file mid last entries first.0 first.2 all in
    (more.0, first.1 ∙ ap (λ es. entry_of x ∷ es) more.1, more.2)

module _ (files : Files) (generation : ℕ) (columns : Columns) (table : Table) (stand : StandFor files generation columns table) where
  abbrev data_bytes : List ℕ
  data_bytes = bytes_of files (data_id generation)

  module _ (from to : Option BoundString) (is_from : IsBound columns from) (some_from : NamesSome from) (is_to : IsBound columns to) where
    abbrev range : List Entry
    range = range_of from to (map.entries table)

    -- a scan begins with what is in its range
    begins_left : (first : Scanning) → Begins columns files generation from to (Ok first) → HasLeft columns data_bytes first range
    begins_left first (footer, has, (start, begins, is)) =
        let found = ranges_have files generation columns table footer from to (Ok start) stand has is_from some_from is_to begins in
        let same : found.0 ≡ start = let e : Ok start ≡ Ok found.0 = found.1 in cc in
        subst (λ (s : Scanning). HasLeft columns data_bytes s range) (sym is)
        (subst (λ (s : Option Start). HasLeft columns data_bytes (begun (length data_bytes) from to s) range) same found.3)

    within : (start : Option Start) (at : Start) → start ≡ Some at → IfSome start (λ s. s.at ≤ length data_bytes) → at.at ≤ length data_bytes
    within start at same is = subst (λ (o : Option Start). IfSome o (λ s. s.at ≤ length data_bytes)) same is

    -- and comes to no damage
    never_damaged : (damage : Damage) → Begins columns files generation from to (Err (table_fault.Damaged damage)) → ⊥
    never_damaged damage (footer, has, inl begins) =
        let found = ranges_have files generation columns table footer from to (Err damage) stand has is_from some_from is_to begins in
        let e : Err damage ≡ Ok found.0 = found.1 in cc
    never_damaged damage (footer, has, inr (start, begins, behind, is)) =
        let found = ranges_have files generation columns table footer from to (Ok (Some start)) stand has is_from some_from is_to begins in
        let same : found.0 ≡ Some start = let e : Ok (Some start) ≡ Ok found.0 = found.1 in cc in
        absurd (omega (arith, behind, within found.0 start same found.2))

    some_are : (entries : List EntryStrings) → HasSome columns files generation from to entries → (rest : List Entry) × (range ≡ entries_of entries ++ rest)
    some_are entries (inl none) = (range, sym (ap (λ es. entries_of es ++ range) none))
    some_are entries (inr (first, begins, (last, given))) =
        let more = gives_front columns data_bytes first last entries range (begins_left first begins) given in (more.0, more.1)

    each_are : (entries : List EntryStrings) → HasEach columns files generation from to entries → entries_of entries ≡ range
    each_are entries (first, begins, (last, end_, given, past)) =
        let more = gives_front columns data_bytes first last entries range (begins_left first begins) given in
        let none = (scans_give_range columns data_bytes last end_ more.0 (Ok None) more.2 past).0 in
        sym (more.1 ∙ ap (λ es. entries_of entries ++ es) none ∙ append-nil (entries_of entries))

    never_until : (damage : Damage) (entries : List EntryStrings) → HasUntil columns files generation from to damage entries → ⊥
    never_until damage entries (inl (empty, none, is)) = let there = footers_stand files generation columns table stand in none _ _ there.0 there.1.2
    never_until damage entries (inr (inl (empty, begins))) = never_damaged damage begins
    never_until damage entries (inr (inr (first, begins, (last, end_, given, stops)))) =
        let more = gives_front columns data_bytes first last entries range (begins_left first begins) given in
        scans_give_range columns data_bytes last end_ more.0 (Err (data_error.Damaged damage)) more.2 stops

    -- ---- what is printed

    some_prefix : (written written' : Option (List ℕ)) (entries : List EntryStrings) → HasSome columns files generation from to entries → WhereTold written written' (AppendsPrefix (lines_of columns entries))
        → PrintsPrefix columns table written written' range
    some_prefix written written' entries has told =
        let some = some_are entries has in
        longer_prefix written written' (lines_of columns entries) (entry_lines columns some.0 ++ count_line (row_count columns range)) (rows_text columns range)
        (sym (append_assoc (lines_of columns entries) (entry_lines columns some.0) (count_line (row_count columns range)))
        ∙ ap (λ t. t ++ count_line (row_count columns range)) (sym (lines_append columns (entries_of entries) some.0) ∙ ap (entry_lines columns) (sym some.1)))
        told

    each_prefix : (written written' : Option (List ℕ)) (entries : List EntryStrings) → HasEach columns files generation from to entries → WhereTold written written' (AppendsPrefix (text_of columns entries))
        → PrintsPrefix columns table written written' range
    each_prefix written written' entries has told = told_prefix written written' (text_of columns entries) (rows_text columns range) (ap (rows_text columns) (each_are entries has)) told

    each_whole : (written written' : Option (List ℕ)) (entries : List EntryStrings) → HasEach columns files generation from to entries → WhereTold written written' (Appends (text_of columns entries))
        → WhereTold written written' (Appends (rows_text columns range))
    each_whole written written' entries has told = told_piece written written' (text_of columns entries) (rows_text columns range) (ap (rows_text columns) (each_are entries has)) told

    some_first : (written written' : Option (List ℕ)) (entries : List EntryStrings) → HasSome columns files generation from to entries → WhereTold written written' (Appends (lines_of columns entries))
        → PrintsFirst columns table written written' range
    some_first written written' entries has told = let some = some_are entries has in (entries_of entries, some.0, some.1, told)

  -- between the bounds of two texts
  module _ (from to written written' : Option (List ℕ)) where
    named_of : (result : Result ⊤ ScanError) → PrintsNamed columns (Some files) generation from to written written' result → PrintsOf columns table from to written written' result
    named_of (Ok x) (lower, upper, first, second, (entries, has, told)) =
        (lower, upper, first, second, each_whole lower upper (named_bound columns Before from lower first) (named_some columns from lower first) (named_bound columns After to upper second) written written' entries has told)
    named_of (Err (scan_error.Damaged damage)) (lower, upper, first, second, (entries, has, told)) =
        never_until lower upper (named_bound columns Before from lower first) (named_some columns from lower first) (named_bound columns After to upper second) damage entries has
    named_of (Err scan_error.StoreFault) (lower, upper, first, second, (entries, has, told)) =
        inr (lower, upper, first, second, some_first lower upper (named_bound columns Before from lower first) (named_some columns from lower first) (named_bound columns After to upper second) written written' entries has told)
    named_of (Err scan_error.SinkFault) (lower, upper, first, second, inl (entries, has, told)) =
        (lower, upper, first, second, some_prefix lower upper (named_bound columns Before from lower first) (named_some columns from lower first) (named_bound columns After to upper second) written written' entries has told)
    named_of (Err scan_error.SinkFault) (lower, upper, first, second, inr (entries, has, told)) =
        (lower, upper, first, second, each_prefix lower upper (named_bound columns Before from lower first) (named_some columns from lower first) (named_bound columns After to upper second) written written' entries has told)
    named_of (Err scan_error.NoMemory) (lower, upper, first, second, (entries, has, told)) =
        inr (lower, upper, first, second, some_prefix lower upper (named_bound columns Before from lower first) (named_some columns from lower first) (named_bound columns After to upper second) written written' entries has told)
    named_of (Err scan_error.Usage) (lower, upper, first, second, printed) = absurd printed
    named_of (Err scan_error.Unfinished) (lower, upper, first, second, printed) = absurd printed

    in_of : (result : Result ⊤ ScanError) → PrintsIn columns (Some files) generation from to written written' result → PrintsOf columns table from to written written' result
    in_of (Ok x) named = named_of (Ok x) named
    in_of (Err (scan_error.Damaged damage)) named = named_of (Err (scan_error.Damaged damage)) named
    in_of (Err scan_error.StoreFault) named = named_of (Err scan_error.StoreFault) named
    in_of (Err scan_error.SinkFault) named = named_of (Err scan_error.SinkFault) named
    in_of (Err scan_error.NoMemory) (inl none) = inl none
    in_of (Err scan_error.NoMemory) (inr named) = named_of (Err scan_error.NoMemory) named
    in_of (Err scan_error.Usage) refused = refused
    in_of (Err scan_error.Unfinished) printed = absurd printed

    -- under the columns of the files
    under_of : (result : Result ⊤ ScanError) → PrintsUnder (Some files) generation from to written written' result → PrintsOf columns table from to written written' result
    under_of result (others, is, printed) =
        in_of result (subst (λ (c : Columns). PrintsIn c (Some files) generation from to written written' result) (one_schema (bytes_of files (schema_id generation)) others columns is stand.schema) printed)

    range_printed : (result : Result ⊤ ScanError) → PrintsRange (Some files) generation from to written written' result → PrintsOf columns table from to written written' result
    range_printed (Ok x) under = under_of (Ok x) under
    range_printed (Err (scan_error.Damaged damage)) under = under_of (Err (scan_error.Damaged damage)) under
    range_printed (Err scan_error.SinkFault) under = under_of (Err scan_error.SinkFault) under
    range_printed (Err scan_error.Usage) under = under_of (Err scan_error.Usage) under
    range_printed (Err scan_error.StoreFault) (inl none) = inl none
    range_printed (Err scan_error.StoreFault) (inr under) = under_of (Err scan_error.StoreFault) under
    range_printed (Err scan_error.NoMemory) (inl none) = inl none
    range_printed (Err scan_error.NoMemory) (inr under) = under_of (Err scan_error.NoMemory) under
    range_printed (Err scan_error.Unfinished) (not_whole, none) = absurd (not_whole (columns, stand.schema))

pub prints_map : PrintsMap
prints_map files generation columns table from to written written' result stand printed = range_printed files generation columns table stand from to written written' result printed
