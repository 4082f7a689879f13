-- The entries of a scan, given and printed one behind the other.
use Rattle.std.proofs.Common.{◌≡◌, ◌∙◌, ℕ, ◌+◌, List, [], ◌∷◌, ◌++◌, Option, None, Some, IfSome, Result, Ok, Err, inl, inr, refl, sym, ap, subst, append_assoc}
use Rattle.std.proofs.lemmas.List.{append-nil}
use Rattle.std.specs.Prelude.{⊤}
use Rattle.outside.specs.Files.{Files, bytes_of}
use Rattle.outside.specs.Told.{WhereTold}
use Rattle.bti_nodes.specs.declared.damage.Damage.{Damage}
use Rattle.data_file.specs.declared.reading.DataError.TheVariants as data_error
use Rattle.key_types.specs.Columns.{Columns}
use Rattle.flush_walk.specs.Entries.{row_count}
use Rattle.row_text.specs.Printed.{count_line, entry_line, entry_lines}
use Rattle.row_text.proofs.PrintedLemmas.{count_append, lines_append}
use Rattle.table_files.specs.Names.{data_id}
use Rattle.table_reader.specs.declared.walker.EntryStrings.{EntryStrings}
use Rattle.table_reader.specs.Ranges.{Gives, Scanning, entries_of, entry_of}
use Rattle.scan_tool.specs.declared.error.ScanError.{ScanError}
use Rattle.scan_tool.specs.declared.error.ScanError.TheVariants as scan_error
use Rattle.scan_tool.specs.declared.lines.Lines.{Lines}
use Rattle.scan_tool.specs.Given.{GivesAll, GivesEach, GivesSome, GivesUntil}
use Rattle.scan_tool.specs.Printing.{AppendsPrefix, lines_of, text_of}
use Rattle.scan_tool.specs.Steps.{EndsText, Holds, IfGives, IsPushed, PrintsEntries, PrintsFrom, PutsLine, PutsSome, StopsWith, TurnIs}
use Rattle.scan_tool.proofs.Pushes.{cut_prefix, pushed_on, pushed_prefix, pushed_still}

-- ---- entries

pub more_entries : (entries : List EntryStrings) (entry : EntryStrings) → entries_of (entries ++ entry ∷ []) ≡ entries_of entries ++ entry_of entry ∷ []
more_entries [] entry = refl
more_entries (x ∷ entries) entry = ap (λ es. entry_of x ∷ es) (more_entries entries entry)

module _ (columns : Columns) where
  lines_on : (entries : List EntryStrings) (entry : EntryStrings) → lines_of columns (entries ++ entry ∷ []) ≡ lines_of columns entries ++ entry_line columns (entry_of entry)
  lines_on entries entry =
      ap (entry_lines columns) (more_entries entries entry) ∙ lines_append columns (entries_of entries) (entry_of entry ∷ [])
      ∙ ap (λ l. lines_of columns entries ++ l) (append-nil (entry_line columns (entry_of entry)))

  count_on : (entries : List EntryStrings) (entry : EntryStrings) → row_count columns (entries_of (entries ++ entry ∷ [])) ≡ row_count columns (entries_of entries) + row_count columns (entry_of entry ∷ [])
  count_on entries entry = ap (row_count columns) (more_entries entries entry) ∙ count_append columns (entries_of entries) (entry_of entry ∷ [])

  module _ (file : List ℕ) where
    gives_more : (scan mid scan' : Scanning) (entries : List EntryStrings) (entry : EntryStrings) → GivesAll columns file scan entries mid → Gives columns file mid scan' (Ok (Some entry))
        → GivesAll columns file scan (entries ++ entry ∷ []) scan'
    gives_more scan mid scan' [] entry e g = (scan', subst (λ (s : Scanning). Gives columns file s scan' (Ok (Some entry))) (sym e) g, refl)
    gives_more scan mid scan' (x ∷ entries) entry (next, first, rest) g = (next, first, gives_more next mid scan' entries entry rest g)

  -- ---- over files that may be told

  -- from the first place to another the scan gave these entries
  abbrev pub Along : Option Files → ℕ → Scanning → List EntryStrings → Scanning → Type 0
  Along files generation first entries scan = IfSome files (λ m. GivesAll columns (bytes_of m (data_id generation)) first entries scan)

  pub along_more : (files now : Option Files) (generation : ℕ) (first mid scan' : Scanning) (entries : List EntryStrings) (entry : EntryStrings) → now ≡ files
      → Along files generation first entries mid → IfGives columns now generation mid scan' (Some entry) → Along files generation first (entries ++ entry ∷ []) scan'
  along_more None now generation first mid scan' entries entry same along gives = tt
  along_more (Some m) now generation first mid scan' entries entry same along gives =
      gives_more (bytes_of m (data_id generation)) first mid scan' entries entry along (subst (λ (fs : Option Files). IfGives columns fs generation mid scan' (Some entry)) same gives)

  pub along_some : (files : Option Files) (generation : ℕ) (first mid : Scanning) (entries : List EntryStrings) → Along files generation first entries mid
      → IfSome files (λ m. GivesSome columns (bytes_of m (data_id generation)) first entries)
  along_some None generation first mid entries along = tt
  along_some (Some m) generation first mid entries along = (mid, along)

  along_until : (files now : Option Files) (generation : ℕ) (first mid scan' : Scanning) (entries : List EntryStrings) (damage : Damage) → now ≡ files
      → Along files generation first entries mid → IfSome now (λ m. Gives columns (bytes_of m (data_id generation)) mid scan' (Err (data_error.Damaged damage)))
      → IfSome files (λ m. GivesUntil columns (bytes_of m (data_id generation)) damage first entries)
  along_until None now generation first mid scan' entries damage same along gives = tt
  along_until (Some m) now generation first mid scan' entries damage same along gives =
      (mid, scan', along, subst (λ (fs : Option Files). IfSome fs (λ f. Gives columns (bytes_of f (data_id generation)) mid scan' (Err (data_error.Damaged damage)))) same gives)

  -- ---- turns

  module _ (files now : Option Files) (generation : ℕ) (first mid scan' : Scanning) (lines lines' : Lines) (entries : List EntryStrings) (written written' : Option (List ℕ)) (same : now ≡ files)
      (along : Along files generation first entries mid) (holds : Holds columns files generation lines entries written written') where
    pub held_more : (entry : EntryStrings) → PutsLine columns entry lines lines' → Holds columns files generation lines' (entries ++ entry ∷ []) written written'
    held_more entry puts = record {
      pushed = holds.pushed;
      text =
          ap (λ t. holds.pushed ++ t) puts.text ∙ sym (append_assoc holds.pushed lines.text (entry_line columns (entry_of entry)))
          ∙ ap (λ t. t ++ entry_line columns (entry_of entry)) holds.text ∙ sym (lines_on entries entry);
      rows = puts.rows ∙ ap (λ n. n + row_count columns (entry_of entry ∷ [])) holds.rows ∙ sym (count_on entries entry);
      told = holds.told;
    }

    held_same : lines' ≡ lines → Holds columns files generation lines' entries written written'
    held_same is = subst (λ (l : Lines). Holds columns files generation l entries written written') (sym is) holds

    pub held_prefix : PutsSome columns files generation first written written'
    held_prefix = (entries, along_some files generation first mid entries along, pushed_prefix written written' holds.pushed lines.text (lines_of columns entries) holds.text holds.told)

    -- an error comes
    pub turned_error : (e : ScanError) → TurnIs columns now generation mid scan' lines lines' (Err e) → PrintsEntries columns files generation first lines' written written' (Err e)
    turned_error (scan_error.Damaged damage) (gives, is) = (entries, along_until files now generation first mid scan' entries damage same along gives, held_same is)
    turned_error scan_error.StoreFault is = (entries, along_some files generation first mid entries along, held_same is)
    turned_error scan_error.NoMemory turn = held_prefix
    turned_error scan_error.SinkFault turn = absurd turn
    turned_error scan_error.Usage turn = absurd turn
    turned_error scan_error.Unfinished turn = absurd turn

  module _ (files : Option Files) (generation : ℕ) (first scan : Scanning) (lines : Lines) (entries : List EntryStrings) (written between written' : Option (List ℕ))
      (along : Along files generation first entries scan) (holds : Holds columns files generation lines entries written between) where
    -- behind a push of some of the text
    pub held_pushed : (lines' : Lines) → lines'.rows ≡ lines.rows → IsPushed lines.text lines'.text between written' → Holds columns files generation lines' entries written written'
    held_pushed lines' rows (piece, parts, told) = record {
      pushed = holds.pushed ++ piece;
      text = append_assoc holds.pushed piece lines'.text ∙ (ap (λ t. holds.pushed ++ t) (sym parts) ∙ holds.text);
      rows = rows ∙ holds.rows;
      told = pushed_on written between written' holds.pushed piece (holds.pushed ++ piece) refl holds.told told;
    }

    -- and of a prefix of it
    pub held_cut : WhereTold between written' (AppendsPrefix lines.text) → PutsSome columns files generation first written written'
    held_cut cut = (entries, along_some files generation first scan entries along, cut_prefix written between written' holds.pushed lines.text (lines_of columns entries) holds.text holds.told cut)

  -- ---- the end

  module _ (files : Option Files) (generation : ℕ) (first : Scanning) (lines : Lines) (written between written' : Option (List ℕ)) where
    whole_text : (entries : List EntryStrings) (holds : Holds columns files generation lines entries written between)
        → holds.pushed ++ (lines.text ++ count_line lines.rows) ≡ text_of columns entries
    whole_text entries holds =
        sym (append_assoc holds.pushed lines.text (count_line lines.rows)) ∙ ap (λ t. t ++ count_line lines.rows) holds.text ∙ ap (λ n. lines_of columns entries ++ count_line n) holds.rows

    pub ended : (result : Result ⊤ ScanError) → PrintsEntries columns files generation first lines written between (Ok tt) → EndsText result lines.text (count_line lines.rows) between written'
        → PrintsFrom columns files generation first written written' result
    ended (Ok x) (entries, each, holds) told =
        (entries, each, pushed_on written between written' holds.pushed (lines.text ++ count_line lines.rows) (text_of columns entries) (whole_text entries holds) holds.told told)
    ended (Err scan_error.SinkFault) (entries, each, holds) told =
        inr (entries, each, cut_prefix written between written' holds.pushed (lines.text ++ count_line lines.rows) (text_of columns entries) (whole_text entries holds) holds.told told)
    ended (Err scan_error.NoMemory) (entries, each, holds) told =
        (entries, some_of files entries each, pushed_prefix written written' holds.pushed lines.text (lines_of columns entries) holds.text (pushed_still written between written' holds.pushed holds.told told))
      where
        some_of : (fs : Option Files) (es : List EntryStrings) → IfSome fs (λ m. GivesEach columns (bytes_of m (data_id generation)) first es)
            → IfSome fs (λ m. GivesSome columns (bytes_of m (data_id generation)) first es)
        some_of None es given = tt
        some_of (Some m) es (last, end_, given, past) = (last, given)
    ended (Err scan_error.Usage) printed told = absurd told
    ended (Err scan_error.StoreFault) printed told = absurd told
    ended (Err (scan_error.Damaged damage)) printed told = absurd told
    ended (Err scan_error.Unfinished) printed told = absurd told

    -- the text before damage
    pub stopped_damage : (damage : Damage) (result : ScanError) → PrintsEntries columns files generation first lines written between (Err (scan_error.Damaged damage))
        → StopsWith (scan_error.Damaged damage) result lines.text between written' → PrintsFrom columns files generation first written written' (Err result)
    stopped_damage damage result (entries, until, holds) (inl (is, told)) =
        subst (λ (e : ScanError). PrintsFrom columns files generation first written written' (Err e)) (sym is)
        (entries, until, pushed_on written between written' holds.pushed lines.text (lines_of columns entries) holds.text holds.told told)
    stopped_damage damage result (entries, until, holds) (inr (is, told)) =
        subst (λ (e : ScanError). PrintsFrom columns files generation first written written' (Err e)) (sym is)
        (inl (entries, some_of files entries until, cut_prefix written between written' holds.pushed lines.text (lines_of columns entries) holds.text holds.told told))
      where
        some_of : (fs : Option Files) (es : List EntryStrings) → IfSome fs (λ m. GivesUntil columns (bytes_of m (data_id generation)) damage first es)
            → IfSome fs (λ m. GivesSome columns (bytes_of m (data_id generation)) first es)
        some_of None es given = tt
        some_of (Some m) es (last, end_, given, past) = (last, given)

    -- and before a fault of the store
    pub stopped_store : (result : ScanError) → PrintsEntries columns files generation first lines written between (Err scan_error.StoreFault)
        → StopsWith scan_error.StoreFault result lines.text between written' → PrintsFrom columns files generation first written written' (Err result)
    stopped_store result (entries, some, holds) (inl (is, told)) =
        subst (λ (e : ScanError). PrintsFrom columns files generation first written written' (Err e)) (sym is)
        (entries, some, pushed_on written between written' holds.pushed lines.text (lines_of columns entries) holds.text holds.told told)
    stopped_store result (entries, some, holds) (inr (is, told)) =
        subst (λ (e : ScanError). PrintsFrom columns files generation first written written' (Err e)) (sym is)
        (inl (entries, some, cut_prefix written between written' holds.pushed lines.text (lines_of columns entries) holds.text holds.told told))
