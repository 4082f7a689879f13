-- What is printed of an open table, by what its calls answer.
use Rattle.std.proofs.Common.{◌≡◌, ℕ, List, [], Option, None, Some, IfSome, Result, Ok, Err, inl, inr, refl, sym, ap, subst}
use Rattle.std.specs.Prelude.{⊤}
use Rattle.outside.specs.Files.{Files, bytes_of}
use Rattle.bti_nodes.specs.declared.damage.Damage.{Damage}
use Rattle.key_types.specs.Columns.{Columns, columns_of}
use Rattle.key_types.specs.declared.schema.Schema.{Schema}
use Rattle.index_files.specs.declared.footer.FooterNumbers.{FooterNumbers}
use Rattle.table_files.specs.Names.{data_id, partitions_id, schema_id}
use Rattle.table_files.specs.SchemaFile.{IsSchemaFile}
use Rattle.table_reader.specs.declared.fault.TableFault.{TableFault}
use Rattle.table_reader.specs.declared.fault.TableFault.TheVariants.{StoreFault, Damaged, Unfinished, NoMemory}
use Rattle.table_reader.specs.declared.seek.BoundString.{BoundString}
use Rattle.table_reader.specs.declared.walker.EntryStrings.{EntryStrings}
use Rattle.table_reader.specs.Gets.{bytes_in}
use Rattle.table_reader.specs.Opened.{IsLoaded, LoadsFooter, Opened}
use Rattle.table_reader.specs.Ranges.{Scanning}
use Rattle.table_reader.specs.Scans.{Scans}
use Rattle.scan_tool.specs.declared.bound.BoundStop.{BoundStop}
use Rattle.scan_tool.specs.declared.bound.BoundStop.TheVariants as bound_stop
use Rattle.scan_tool.specs.declared.error.ScanError.{ScanError}
use Rattle.scan_tool.specs.declared.error.ScanError.TheVariants as scan_error
use Rattle.scan_tool.specs.Bounds.{ReadsRange}
use Rattle.scan_tool.specs.Errors.{bound_error, error_of}
use Rattle.scan_tool.specs.Given.{Begins, GivesEach, GivesSome, GivesUntil, HasEach, HasSome, HasUntil}
use Rattle.scan_tool.specs.Printing.{Prints, PrintsIn, PrintsRange}
use Rattle.scan_tool.specs.Steps.{PrintsFrom}
use Rattle.scan_tool.proofs.Pushes.{nothing_of, nothing_pushed, unwritten}

-- ---- a scan of an open table

-- how a scan begins behind a footer that was loaded
pub begun_in : (fs gs : Option Files) (old new : Opened) (from to : Option BoundString) (result : Result Scanning TableFault) → gs ≡ fs → new ≡ record old { footer = new.footer; pages = new.pages }
    → IfSome fs (λ m. IsLoaded (columns_of old.schema) (bytes_of m (partitions_id old.generation)) new.footer)
    → IfSome gs (λ m. IfSome new.footer (λ footer. Scans (bytes_in (columns_of new.schema) m new.generation) footer from to result))
    → IfSome fs (λ m. Begins (columns_of old.schema) m old.generation from to result)
begun_in None gs old new from to result stay same has begins = tt
begun_in (Some m) gs old new from to result stay same has begins =
    by new.footer has
    (subst (λ (s : Schema). IfSome new.footer (λ footer. Scans (bytes_in (columns_of s) m old.generation) footer from to result)) (ap (λ (t : Opened). t.schema) same)
    (subst (λ (n : ℕ). IfSome new.footer (λ footer. Scans (bytes_in (columns_of new.schema) m n) footer from to result)) (ap (λ (t : Opened). t.generation) same)
    (subst (λ (o : Option Files). IfSome o (λ f. IfSome new.footer (λ footer. Scans (bytes_in (columns_of new.schema) f new.generation) footer from to result))) stay begins)))
  where
    by : (footer : Option FooterNumbers) → IsLoaded (columns_of old.schema) (bytes_of m (partitions_id old.generation)) footer → IfSome footer (λ f. Scans (bytes_in (columns_of old.schema) m old.generation) f from to result)
        → Begins (columns_of old.schema) m old.generation from to result
    by None has begins = absurd has
    by (Some footer) has begins = (footer, has, begins)

module _ (columns : Columns) (files : Option Files) (generation : ℕ) (from to : Option BoundString) (written written' : Option (List ℕ)) where
  none_yet : (fs : Option Files) → IfSome fs (λ m. HasSome columns m generation from to [])
  none_yet None = tt
  none_yet (Some m) = inl refl

  until_none : (fs : Option Files) (damage : Damage) → IfSome fs (λ m. Begins columns m generation from to (Err (Damaged damage))) → IfSome fs (λ m. HasUntil columns m generation from to damage [])
  until_none None damage begins = tt
  until_none (Some m) damage begins = inr (inl (refl, begins))

  no_footer : (fs : Option Files) (footer : Option FooterNumbers) (damage : Damage) → IfSome fs (λ m. LoadsFooter {T = ⊤} columns (bytes_of m (partitions_id generation)) footer (Err (Damaged damage)))
      → IfSome fs (λ m. HasUntil columns m generation from to damage [])
  no_footer None footer damage loads = tt
  no_footer (Some m) footer damage loads = inl (refl, loads.1, loads.0)

  -- the footer isn't loaded
  pub unloaded : (footer : Option FooterNumbers) (e : TableFault) (f : ScanError) → f ≡ error_of e → ¬ (e ≡ Unfinished) → IfSome files (λ m. LoadsFooter {T = ⊤} columns (bytes_of m (partitions_id generation)) footer (Err e))
      → written' ≡ written → Prints columns files generation from to written written' (Err f)
  unloaded footer e f is whole loads same = subst (λ (x : ScanError). Prints columns files generation from to written written' (Err x)) (sym is) (by e whole loads)
    where
      by : (e : TableFault) → ¬ (e ≡ Unfinished) → IfSome files (λ m. LoadsFooter {T = ⊤} columns (bytes_of m (partitions_id generation)) footer (Err e)) → Prints columns files generation from to written written' (Err (error_of e))
      by (Damaged damage) whole loads = ([], no_footer files footer damage loads, nothing_pushed written written' (unwritten written written' same))
      by StoreFault whole loads = ([], none_yet files, nothing_pushed written written' (unwritten written written' same))
      by NoMemory whole loads = ([], none_yet files, nothing_of written written' [] (unwritten written written' same))
      by Unfinished whole loads = absurd (whole refl)

  -- no scan is begun
  pub unbegun : (e : TableFault) (f : ScanError) → f ≡ error_of e → ¬ (e ≡ Unfinished) → IfSome files (λ m. Begins columns m generation from to (Err e)) → written' ≡ written
      → Prints columns files generation from to written written' (Err f)
  unbegun e f is whole begins same = subst (λ (x : ScanError). Prints columns files generation from to written written' (Err x)) (sym is) (by e whole begins)
    where
      by : (e : TableFault) → ¬ (e ≡ Unfinished) → IfSome files (λ m. Begins columns m generation from to (Err e)) → Prints columns files generation from to written written' (Err (error_of e))
      by (Damaged damage) whole begins = ([], until_none files damage begins, nothing_pushed written written' (unwritten written written' same))
      by StoreFault whole begins = ([], none_yet files, nothing_pushed written written' (unwritten written written' same))
      by NoMemory whole begins = ([], none_yet files, nothing_of written written' [] (unwritten written written' same))
      by Unfinished whole begins = absurd (whole refl)

  -- a scan is printed
  module _ (first : Scanning) where
    some_from : (fs : Option Files) (entries : List EntryStrings) → IfSome fs (λ m. Begins columns m generation from to (Ok first)) → IfSome fs (λ m. GivesSome columns (bytes_of m (data_id generation)) first entries)
        → IfSome fs (λ m. HasSome columns m generation from to entries)
    some_from None entries begins gives = tt
    some_from (Some m) entries begins gives = inr (first, begins, gives)

    each_from : (fs : Option Files) (entries : List EntryStrings) → IfSome fs (λ m. Begins columns m generation from to (Ok first)) → IfSome fs (λ m. GivesEach columns (bytes_of m (data_id generation)) first entries)
        → IfSome fs (λ m. HasEach columns m generation from to entries)
    each_from None entries begins gives = tt
    each_from (Some m) entries begins gives = (first, begins, gives)

    until_from : (fs : Option Files) (damage : Damage) (entries : List EntryStrings) → IfSome fs (λ m. Begins columns m generation from to (Ok first))
        → IfSome fs (λ m. GivesUntil columns (bytes_of m (data_id generation)) damage first entries) → IfSome fs (λ m. HasUntil columns m generation from to damage entries)
    until_from None damage entries begins gives = tt
    until_from (Some m) damage entries begins gives = inr (inr (first, begins, gives))

    printed_of : IfSome files (λ m. Begins columns m generation from to (Ok first)) → (result : Result ⊤ ScanError) → PrintsFrom columns files generation first written written' result
        → Prints columns files generation from to written written' result
    printed_of begins (Ok x) (entries, each, told) = (entries, each_from files entries begins each, told)
    printed_of begins (Err (scan_error.Damaged damage)) (entries, until, told) = (entries, until_from files damage entries begins until, told)
    printed_of begins (Err scan_error.StoreFault) (entries, some, told) = (entries, some_from files entries begins some, told)
    printed_of begins (Err scan_error.SinkFault) (inl (entries, some, told)) = inl (entries, some_from files entries begins some, told)
    printed_of begins (Err scan_error.SinkFault) (inr (entries, each, told)) = inr (entries, each_from files entries begins each, told)
    printed_of begins (Err scan_error.NoMemory) (entries, some, told) = (entries, some_from files entries begins some, told)
    printed_of begins (Err scan_error.Usage) printed = absurd printed
    printed_of begins (Err scan_error.Unfinished) printed = absurd printed

    -- where the store, the columns and the generation are as they were
    pub printed_from : (again : Option Files) (others : Columns) (number : ℕ) (result : Result ⊤ ScanError) → again ≡ files → others ≡ columns → number ≡ generation
        → IfSome files (λ m. Begins columns m generation from to (Ok first)) → PrintsFrom others again number first written written' result → Prints columns files generation from to written written' result
    printed_from again others number result stay same is begins printed =
        printed_of begins result
        (subst (λ (n : ℕ). PrintsFrom columns files n first written written' result) is
        (subst (λ (c : Columns). PrintsFrom c files number first written written' result) same
        (subst (λ (fs : Option Files). PrintsFrom others fs number first written written' result) stay printed)))

-- ---- the texts of the bounds

module _ (columns : Columns) (files : Option Files) (generation : ℕ) (from to written written' : Option (List ℕ)) where
  pub unread_in : (others : Columns) (e : BoundStop) (f : ScanError) → others ≡ columns → f ≡ bound_error e → ReadsRange others from to (Err e) → written' ≡ written
      → PrintsIn columns files generation from to written written' (Err f)
  unread_in others e f same is reads stay = subst (λ (x : ScanError). PrintsIn columns files generation from to written written' (Err x)) (sym is) (by e (subst (λ (c : Columns). ReadsRange c from to (Err e)) same reads))
    where
      by : (e : BoundStop) → ReadsRange columns from to (Err e) → PrintsIn columns files generation from to written written' (Err (bound_error e))
      by bound_stop.Refused reads = (reads, unwritten written written' stay)
      by bound_stop.NoMemory reads = inl (unwritten written written' stay)

-- ---- the schema's file

module _ (fs : Option Files) (generation : ℕ) (from to written written' : Option (List ℕ)) where
  under : (columns : Columns) (result : Result ⊤ ScanError) → IfSome fs (λ m. IsSchemaFile columns (bytes_of m (schema_id generation))) → PrintsIn columns fs generation from to written written' result
      → PrintsRange fs generation from to written written' result
  under columns (Ok x) is printed = (columns, is, printed)
  under columns (Err (scan_error.Damaged damage)) is printed = (columns, is, printed)
  under columns (Err scan_error.SinkFault) is printed = (columns, is, printed)
  under columns (Err scan_error.Usage) is printed = (columns, is, printed)
  under columns (Err scan_error.StoreFault) is printed = inr (columns, is, printed)
  under columns (Err scan_error.NoMemory) is printed = inr (columns, is, printed)
  under columns (Err scan_error.Unfinished) is printed = absurd printed

  pub opened_prints : (gs : Option Files) (n : ℕ) (columns : Columns) (result : Result ⊤ ScanError) → gs ≡ fs → n ≡ generation → IfSome fs (λ m. IsSchemaFile columns (bytes_of m (schema_id generation)))
      → PrintsIn columns gs n from to written written' result → PrintsRange fs generation from to written written' result
  opened_prints gs n columns result stay is schema printed =
      under columns result schema
      (subst (λ (k : ℕ). PrintsIn columns fs k from to written written' result) is (subst (λ (o : Option Files). PrintsIn columns o n from to written written' result) stay printed))
