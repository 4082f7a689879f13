-- A `load`, and a `scan` over the files that it left.
use Rattle.std.proofs.Common.{◌≡◌, ◌+◌, ◌++◌, ℕ, Bool, true, false, List, [], ◌∷◌, Option, Some, None, Result, Ok, Err, refl, sym, ◌∙◌, ap, subst}
use Rattle.std.proofs.lemmas.List.{append-nil}
use Rattle.std.specs.Prelude.{IfSome, cond, if◌then◌else◌, ⊤}
use Rattle.std.specs.List.{filter}
use Rattle.outside.specs.Files.{Files}
use Rattle.outside.specs.Told.{WhereTold}
use Rattle.key_types.specs.Columns.{Columns}
use Rattle.byte_comparable.specs.Encoding.{key_string}
use Rattle.script_text.proofs.Meaning.{meaning}
use Rattle.script_text.specs.Lines.{lines_of}
use Rattle.script_text.specs.Meaning.{AreAcceptedLines, IsScript}
use Rattle.script_text.specs.Puts.{Batch, Put}
use Rattle.script_text.specs.Script.{batches_of, puts_of, script_of}
use Rattle.script_text.specs.Spelled.{Line}
use Rattle.script_run.specs.Legal.{IsLegalText}
use Rattle.script_text.specs.declared.script.Script.{Script}
use Rattle.script_text.specs.declared.script.ScriptError.{ScriptError}
use Rattle.script_text.specs.declared.script.ScriptError.TheVariants as script_error
use Rattle.table_files.specs.Standing.{StandFor}
use Rattle.table_tool.specs.declared.status.Status.{Status}
use Rattle.table_tool.specs.declared.status.Status.TheVariants as status
use Rattle.table_tool.specs.First.{first_generation}
use Rattle.table_tool.specs.Laws.{AnswersAllGets, HeadlineOfFiles, HeadlineOfReads, PrintsAllPuts}
use Rattle.table_tool.specs.Loading.{LoadAsked, LoadEnds, Loaded, WritesLoad, loading, loading_of}
use Rattle.table_tool.specs.Outcome.{IsOrNoMemory}
use Rattle.table_tool.specs.Outside.{Outside, SinkFails, StoreFails}
use Rattle.key_types.specs.Table.{Entry, Table}
use Rattle.std.specs.FinMap as map
use Rattle.key_types.specs.Kinds.{Vals}
use Rattle.byte_comparable.specs.Order.{Key, KeyFits, within_string}
use Rattle.script_text.specs.Laws.{AreOfKeys, HasKey}
use Rattle.script_text.proofs.Ascending.{entries_ascend}
use Rattle.flush_walk.specs.Entries.{is_row, row_count}
use Rattle.row_text.specs.Printed.{AreKeyLines, IsTableText, entry_line, entry_lines, key_line, rows_of_key, rows_text}
use Rattle.table_tool.proofs.Told.{told_so, told_then}
use Rattle.row_text.proofs.PrintedLemmas.{is_row_entry, is_static_entry, row_named, static_named}
use Rattle.flush_walk.proofs.PartsLemmas.{some_key}
use Rattle.table_tool.specs.Rows.{rows_of, table_put}
use Rattle.byte_comparable.specs.declared.strings.Side.{Side}
use Rattle.byte_comparable.specs.declared.strings.Side.TheVariants.{Before, After}
use Rattle.table_reader.specs.declared.seek.BoundString.{BoundString}
use Rattle.table_reader.specs.Left.{is_in_range, range_of}
use Rattle.scan_tool.specs.declared.error.ScanError.{ScanError}
use Rattle.scan_tool.specs.declared.error.ScanError.TheVariants as scan_error
use Rattle.scan_tool.specs.Bounds.{NamesEnd}
use Rattle.scan_tool.specs.Laws.{PrintsOf}
use Rattle.scan_tool.proofs.Named.{one_bound}
use Rattle.table_tool.specs.Scanning.{EndsAs, ScanEnds, ScansNamed, ScansOfMap}

-- the script that is taken
accepted : (r : Result Script ScriptError) (script : Script) → loading_of r ≡ Ok script → r ≡ Ok script
accepted (Ok script') script e = let same : script' ≡ script = cc in ap Ok same
accepted (Err (script_error.BadLine line cause)) script e = cc
accepted (Err script_error.TooLarge) script e = cc
accepted (Err script_error.NoMemory) script e = cc

-- a script that `script_of` computes is that of its lines
pub said : (columns : Columns) (readers : ℕ) (bytes : List ℕ) (script : Script) → script_of columns readers bytes ≡ Ok script
    → (lines : List Line) × AreAcceptedLines columns readers 1 0 (lines_of bytes) lines × (script.batches ≡ batches_of lines)
said columns readers bytes script is =
    let meant : IsScript columns readers bytes (Ok script) = subst (IsScript columns readers bytes) is (meaning.computed columns readers bytes) in
    (meant.1.0, meant.1.1, ap (λ (s : Script). s.batches) meant.1.2)

-- ---- the lines of entries by their typed keys

module _ (columns : Columns) where
  -- the line of an entry of a typed key, and whether it is one of a row
  named : (partition : Vals) (clustering : Option Vals) (value : List ℕ) → KeyFits columns.partition columns.clustering (record { partition = partition; clustering = clustering })
      → (entry_line columns (key_string columns.partition partition ++ within_string columns.clustering clustering, value) ≡ key_line columns partition clustering value)
      × ((if is_row columns (key_string columns.partition partition ++ within_string columns.clustering clustering, value) then 1 else 0) ≡ rows_of_key clustering)
  named partition (Some c) value fits = (
    row_named columns partition c value fits.0 fits.1,
    ap (λ (b : Bool). if b then 1 else 0) (is_row_entry columns partition (key_string columns.clustering c) value fits.0 ∙ some_key columns.clustering c fits.1),
  )
  named partition None value fits =
      let bare = append-nil (key_string columns.partition partition) in (
        ap (λ (s : List ℕ). entry_line columns (s, value)) bare ∙ static_named columns partition value fits.0,
        ap (λ (s : List ℕ). if is_row columns (s, value) then 1 else 0) bare ∙ ap (λ (b : Bool). if b then 1 else 0) (is_static_entry columns partition value fits.0),
      )

  all_named : (keys : List Key) (entries : List Entry) → AreOfKeys columns keys entries → AreKeyLines columns entries (entry_lines columns entries) (row_count columns entries)
  all_named [] entries e = rw e (refl, refl)
  all_named (key ∷ keys) entries (entry, rest, e, (fits, is), more) =
      let here = named key.partition key.clustering entry.1 fits in
      let line = ap (λ (s : List ℕ). entry_line columns (s, entry.1)) is ∙ here.0 in
      let count = ap (λ (s : List ℕ). if is_row columns (s, entry.1) then 1 else 0) is ∙ here.1 in
      rw e
      (key, entry_lines columns rest, row_count columns rest, fits, is, ap (λ l. l ++ entry_lines columns rest) line, ap (λ n. n + row_count columns rest) count, all_named keys rest more)

  -- the entries that a test keeps are those of some of the keys
  module _ (p : Entry → Bool) where
    abbrev Kept : List Entry → Type 0
    Kept entries = (kept : List Key) × AreOfKeys columns kept (filter p entries)

    kept_by : (key : Key) (entry : Entry) (rest : List Entry) (t : Bool) → p entry ≡ t → HasKey columns key entry.0 → Kept rest → Kept (entry ∷ rest)
    kept_by key entry rest true is has others =
        (key ∷ others.0, (entry, filter p rest, ap (λ (t : Bool). cond t (entry ∷ filter p rest) (filter p rest)) is, has, others.1))
    kept_by key entry rest false is has others =
        (others.0, subst (AreOfKeys columns others.0) (sym (ap (λ (t : Bool). cond t (entry ∷ filter p rest) (filter p rest)) is)) others.1)

    kept_named : (keys : List Key) (entries : List Entry) → AreOfKeys columns keys entries → Kept entries
    kept_named [] entries e = ([], ap (filter p) e)
    kept_named (key ∷ keys) entries (entry, rest, e, has, more) = subst Kept (sym e) (kept_by key entry rest (p entry) refl has (kept_named keys rest more))

  table_text : (readers : ℕ) (bytes : List ℕ) (script : Script) → script_of columns readers bytes ≡ Ok script → (lower upper : Option BoundString)
      → let rows = range_of lower upper (rows_of (puts_of script.batches)) in IsTableText columns rows (rows_text columns rows)
  table_text readers bytes script is lower upper =
      let rows = range_of lower upper (rows_of (puts_of script.batches)) in
      let keyed = entries_ascend columns readers bytes script is in
      let kept = kept_named (is_in_range lower upper) keyed.0 (rows_of (puts_of script.batches)) keyed.1 in
      (entry_lines columns rows, row_count columns rows, all_named kept.0 rows kept.1, refl)

-- ---- the ends of a range that texts name

same_end : (columns : Columns) (side : Side) (text : Option (List ℕ)) (a b : Option BoundString) → NamesEnd columns side text a → NamesEnd columns side text b → a ≡ b
same_end columns side None a b is also = is ∙ sym also
same_end columns side (Some text) None b is also = absurd is
same_end columns side (Some text) (Some a) None is also = absurd also
same_end columns side (Some text) (Some a) (Some b) is also = ap Some (one_bound columns side text a b is also)

-- ---- what a scan over the files prints

module _ (columns : Columns) (files : Files) (table : Table) (from to : Option (List ℕ)) (lower upper : Option BoundString)
    (first : NamesEnd columns Before from lower) (second : NamesEnd columns After to upper)
    (before after : Outside) (result : Status) (told : before.files ≡ Some files) (ends : ScanEnds from to before after result)
    (stand : StandFor files first_generation columns table) where
  abbrev rows : List Entry
  rows = range_of lower upper (map.entries table)

  range_printed : (printed : Result ⊤ ScanError) (between : Option (List ℕ)) → PrintsOf columns table from to before.written between printed
      → EndsAs printed between before after status.Ok → WhereTold before.written after.written (λ old new. new ≡ old ++ rows_text columns rows)
  range_printed (Ok x) between (lower', upper', first', second', told') ended =
      let same = ap (λ (b : Option BoundString). range_of b upper' (map.entries table)) (same_end columns Before from lower' lower first' first)
      ∙ ap (λ (b : Option BoundString). range_of lower b (map.entries table)) (same_end columns After to upper' upper second' second) in
      told_then before.written between after.written _ _ _
      (λ x y z is e. e ∙ is ∙ ap (λ (es : List Entry). x ++ rows_text columns es) same) told' ended.behind
  range_printed (Err scan_error.Usage) between is ended = absurd (let e = ended.ends in cc)
  range_printed (Err scan_error.SinkFault) between is ended = absurd (let e = ended.ends in cc)
  range_printed (Err scan_error.StoreFault) between is ended = absurd (let e = ended.ends in cc)
  range_printed (Err (scan_error.Damaged damage)) between is ended = absurd is
  range_printed (Err scan_error.Unfinished) between is ended = absurd is
  range_printed (Err scan_error.NoMemory) between is ended = absurd (let e = ended.ends in cc)

  pub well : ¬ (StoreFails before after) → ¬ (SinkFails before after) → IsOrNoMemory status.Ok result
  well =
      subst (λ (o : Option Files). IfSome o (λ m. ScansNamed from to m before after result)) told ends.complete columns table stand (lower, upper, first, second)

  pub all_printed : result ≡ status.Ok → WhereTold before.written after.written (λ old new. new ≡ old ++ rows_text columns rows)
  all_printed ok =
      let all = subst (λ (o : Option Files). IfSome o (λ m. ScansOfMap from to m before after result)) told ends.stand columns table stand in
      range_printed all.0 all.1 all.2 (subst (λ (r : Status). EndsAs all.0 all.1 before after r) ok all.3)

  -- where the map is that of the puts of a script
  all_puts : (puts : List Put) → table ≡ table_put puts → (readers : ℕ) (bytes : List ℕ) (lines : List Line)
      → AreAcceptedLines columns readers 1 0 (lines_of bytes) lines → puts ≡ puts_of (batches_of lines)
      → IsTableText columns rows (rows_text columns rows) → PrintsAllPuts columns readers bytes lower upper before after result
  all_puts puts is_put readers bytes lines are of text = record {
    lines = lines;
    accepted = are;
    printed = λ ok. told_so before.written after.written _ _
        (λ old new is. (rows_text columns rows, subst (λ (t : Table). IsTableText columns (range_of lower upper (map.entries t)) (rows_text columns rows)) (is_put ∙ ap table_put of) text, is))
        (all_printed ok);
    complete = well;
  }

-- what a `load` that ended Ok has done
module _ (asked : LoadAsked) (bytes : List ℕ) (before after : Outside) (left : before.left ≡ Some bytes) (ends : LoadEnds asked before after status.Ok) where
  pub done : (script : Script) × (line : List ℕ) × (loading asked bytes ≡ Ok script) × Loaded asked.columns (puts_of script.batches) before.files after.files line
  done =
      subst (λ (o : Option (List ℕ)). IfSome o (λ bs. status.Ok ≡ status.Ok
      → (script : Script) × (line : List ℕ) × (loading asked bs ≡ Ok script) × Loaded asked.columns (puts_of script.batches) before.files after.files line)) left ends.done refl

  pub taken : script_of asked.columns asked.readers bytes ≡ Ok done.0
  taken = accepted (script_of asked.columns asked.readers bytes) done.0 done.2

  pub stands : (files : Files) → after.files ≡ Some files → StandFor files first_generation asked.columns (table_put (puts_of done.0.batches))
  stands files there = subst (λ (o : Option Files). IfSome o (λ new. StandFor new first_generation asked.columns (table_put (puts_of done.0.batches)))) there done.3.stand

  written : WhereTold before.written after.written (WritesLoad asked (loading asked bytes) before.files after.files status.Ok before.sink_faults after.sink_faults)
  written =
      subst (λ (o : Option (List ℕ)). IfSome o (λ bs. WhereTold before.written after.written
      (WritesLoad asked (loading asked bs) before.files after.files status.Ok before.sink_faults after.sink_faults))) left ends.written

  -- a legal text of the script that is expected is one of the lines' batches
  answered : (lines : List Line) → done.0.batches ≡ batches_of lines → (old new : List ℕ)
      → WritesLoad asked (loading asked bytes) before.files after.files status.Ok before.sink_faults after.sink_faults old new
      → (text : List ℕ) × (last : List ℕ) × IsLegalText asked.columns asked.bounds (batches_of lines) text × (new ≡ old ++ (text ++ last))
  answered lines of old new (whole, (script, text, line, is, legal, loaded, parts), e) =
      let both : ◌≡◌ {A = Result Script Status} (Ok script) (Ok done.0) = sym is ∙ done.2 in
      let same : script ≡ done.0 = cc in (
        text,
        line,
        subst (λ (bs : List Batch). IsLegalText asked.columns asked.bounds bs text) (ap (λ (s : Script). s.batches) same ∙ of) legal,
        e ∙ ap (λ (l : List ℕ). old ++ l) parts,
      )

  pub answers_all : AnswersAllGets asked bytes before after
  answers_all =
      let lines = said asked.columns asked.readers bytes done.0 taken in record {
        lines = lines.0;
        accepted = lines.1;
        printed = told_so before.written after.written _ _ (answered lines.0 lines.2) written;
      }

pub reads : HeadlineOfReads
reads words asked bytes before after ask left ends = answers_all asked bytes before after left (ends.load asked ask)

pub files_scanned : HeadlineOfFiles
files_scanned words words' asked bytes files from to lower upper before between between' after result ask ask' first' second' left there also first second =
    let ends = first.load asked ask in
    let script = done asked bytes before between left ends in
    let is = taken asked bytes before between left ends in
    let lines = said asked.columns asked.readers bytes script.0 is in
    all_puts asked.columns files (table_put (puts_of script.0.batches)) from to lower upper first' second' between' after result also (second.scan from to ask')
    (stands asked bytes before between left ends files there) (puts_of script.0.batches) refl asked.readers bytes lines.0 lines.1
    (ap puts_of lines.2) (table_text asked.columns asked.readers bytes script.0 is lower upper)
