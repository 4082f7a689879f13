-- Where a scan begins.
use Rattle.std.proofs.Common.{◌≡◌, ℕ, List, length, drop, Option, None, Some, IfSome, Ok, refl, sym, subst}
use Rattle.outside.specs.Files.{Files, bytes_of}
use Rattle.key_types.specs.Columns.{columns_of}
use Rattle.bti_reader.proofs.Asking.{join}
use Rattle.index_files.specs.declared.footer.FooterNumbers.{FooterNumbers}
use Rattle.table_files.specs.Names.{data_id}
use Rattle.table_reader.specs.declared.seek.BoundString.{BoundString}
use Rattle.table_reader.specs.declared.seek.Start.{Start}
use Rattle.table_reader.specs.declared.walker.Walker.{Walker}
use Rattle.table_reader.specs.Opened.{Opened}
use Rattle.table_reader.specs.Ranges.{Scanning, scanning_of}
use Rattle.table_reader.specs.Scans.{BeginsWalk, ScanStands, Scans, begun, unread_at}
use Rattle.table_reader.specs.SeekReads.{WithinScan}
use Rattle.table_reader.specs.Gets.{bytes_in}
use Rattle.table_reader.specs.Reads.{EndsCall}
use Rattle.table_reader.specs.Seeking.{BeginsScan}
use Rattle.table_reader.specs.Window.{Continues}

-- what a place of a file has is what is unread there
unread_continues : (file : List ℕ) (at : ℕ) → Continues file (unread_at at (length file))
unread_continues file at = record { rest = drop at file; is = refl; ended = λ e. cc; long = refl }

begun_continues : (file : List ℕ) (from to : Option BoundString) (start : Option Start) → Continues file (begun (length file) from to start).window
begun_continues file from to None = unread_continues file (length file)
begun_continues file from to (Some start) = unread_continues file start.at

module _ (files again : Option Files) (table : Opened) (generation : ℕ) (from to : Option BoundString) (start : Option Start) (walk : Walker) where
  pub scan_stands : generation ≡ table.generation → IfSome again (λ m. BeginsWalk (length (bytes_of m (data_id generation))) from to start (Ok walk)) → ScanStands again table.generation (scanning_of walk)
  scan_stands same begins =
      join again again refl begins begins
      (λ m p q.
      let file = bytes_of m (data_id generation) in
      subst (λ (g : ℕ). Continues (bytes_of m (data_id g)) (scanning_of walk).window) same
      (subst (λ (s : Scanning). Continues file s.window) (sym p) (begun_continues file from to start)))

  pub scan_begins : (named : Option BoundString) → again ≡ files → generation ≡ table.generation → named ≡ from
      → IfSome files (λ m. IfSome table.footer (λ footer. EndsCall (BeginsScan (bytes_in (columns_of table.schema) m table.generation) footer named) (Ok start)))
      → IfSome again (λ m. BeginsWalk (length (bytes_of m (data_id generation))) from to start (Ok walk))
      → IfSome files (λ m. IfSome table.footer (λ footer. Scans (bytes_in (columns_of table.schema) m table.generation) footer from to (Ok (scanning_of walk))))
  scan_begins named stay same is begins there =
      join files again stay there begins
      (λ m p q.
      with_footer m table.footer (subst (λ (g : ℕ). BeginsWalk (length (bytes_of m (data_id g))) from to start (Ok walk)) same p)
      (subst (λ (n : Option BoundString). IfSome table.footer (λ footer. EndsCall (BeginsScan (bytes_in (columns_of table.schema) m table.generation) footer n) (Ok start))) is q))
    where
      with_footer : (m : Files) (footer : Option FooterNumbers) → BeginsWalk (length (bytes_of m (data_id table.generation))) from to start (Ok walk)
          → IfSome footer (λ f. EndsCall (BeginsScan (bytes_in (columns_of table.schema) m table.generation) f from) (Ok start))
          → IfSome footer (λ f. Scans (bytes_in (columns_of table.schema) m table.generation) f from to (Ok (scanning_of walk)))
      with_footer m None p q = tt
      with_footer m (Some f) p q = (start, q, p)

pub scan_reads : (files : Option Files) (table : Opened) (from named : Option BoundString) (before mid after : ℕ) → named ≡ from → after ≡ mid
    → IfSome files (λ m. IfSome table.footer (λ footer. WithinScan (bytes_in (columns_of table.schema) m table.generation) footer named before mid))
    → IfSome files (λ m. IfSome table.footer (λ footer. WithinScan (bytes_in (columns_of table.schema) m table.generation) footer from before after))
scan_reads files table from named before mid after is same within =
    subst (λ (n : Option BoundString). IfSome files (λ m. IfSome table.footer (λ footer. WithinScan (bytes_in (columns_of table.schema) m table.generation) footer n before after))) is
    (subst (λ (r : ℕ). IfSome files (λ m. IfSome table.footer (λ footer. WithinScan (bytes_in (columns_of table.schema) m table.generation) footer named before r))) (sym same) within)
