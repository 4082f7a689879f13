-- How often the search for a scan's beginning reads the store, whatever it answers.
use Rattle.std.proofs.Common.{◌≡◌, ◌∙◌, ℕ, ℤ, ◌+◌, ◌≤◌, List, length, drop, Option, Some, IfSome, Ok, arith, ap, subst, sym}
use Rattle.std.specs.declared.cmp.Ordering.TheVariants.{Equal}
use Rattle.std.specs.FinMap as map
use Rattle.outside.specs.Files.{Files, bytes_of}
use Rattle.outside.specs.declared.store.FileId.{FileId}
use Rattle.bti_reader.specs.declared.ask.Hit.{Hit}
use Rattle.bti_reader.specs.Searches.{exact_in}
use Rattle.bti_reader.specs.Steps.{FindsHit}
use Rattle.bti_reader.proofs.Asking.{join, join3}
use Rattle.data_file.specs.Answers.{IsHead}
use Rattle.data_file.specs.Reading.{BeginsHead}
use Rattle.data_file.specs.declared.reading.Head.{Head as Head'}
use Rattle.index_files.specs.declared.footer.FooterNumbers.{FooterNumbers}
use Rattle.index_files.specs.Reading.{partition_place}
use Rattle.key_types.specs.Columns.{Columns, columns_of}
use Rattle.key_types.specs.Table.{string_cmp}
use Rattle.table_files.specs.Names.{data_id, partitions_id, rows_id}
use Rattle.table_reader.specs.declared.place.PartitionAt.{PartitionAt}
use Rattle.table_reader.specs.declared.seek.BoundString.{BoundString}
use Rattle.table_reader.specs.Gets.{LeadsTo, bytes_in}
use Rattle.table_reader.specs.Opened.{Opened}
use Rattle.table_reader.specs.Reads.{Ends, IsWantedWithin, clustering_length}
use Rattle.table_reader.specs.SeekReads.{AlwaysWithinFrom, AlwaysWithinScan, AlwaysWithinSeek}
use Rattle.table_reader.proofs.Seeks.{finds_along, number_along}

module _ (columns : Columns) (generation root : ℕ) (bound : BoundString) where
  abbrev pub AlwaysFrom : ℤ → ℕ → ℕ → Files → Type 0
  AlwaysFrom number r0 r3 m = AlwaysWithinFrom (bytes_in columns m generation) root bound (Some number) (r0 + (length bound.partition + 23)) r3

  pub equal_within : (files again third : Option Files) (place : PartitionAt) (head : Head') (number : ℤ) (r0 r2 r3 : ℕ) → again ≡ files → third ≡ again → r2 ≤ r0 + 4
      → string_cmp head.partition bound.partition ≡ Equal
      → IfSome files (λ m. Ends (LeadsTo (bytes_in columns m generation) (partition_place number)) (Ok place))
      → IfSome again (λ m. IsHead columns (drop place.head (bytes_of m (data_id generation))) place.head (Ok head))
      → IfSome third (λ m. (most : ℕ) → IsWantedWithin (bytes_of m (rows_id generation)) place.root bound.clustering most → r3 ≤ r2 + (clustering_length bound.clustering + 19 + most))
      → IfSome files (AlwaysFrom number r0 r3)
  equal_within files again third place head number r0 r2 r3 stay stays few compared leads begins told =
      join3 files again third stay stays begins leads told
      (λ m p q s. λ next most n is.
      let same = map.slice_cmp-IsAntisymmetric map.nat_cmp-IsAntisymmetric head.partition bound.partition compared in
      let last = s most (is place q (subst (λ (k : List ℕ). BeginsHead columns (drop place.head (bytes_of m (data_id generation))) k) same p.0)) in
      omega (arith, last, few))

  -- ---- the whole search

  abbrev pub AlwaysSeek : ℕ → ℕ → Files → Type 0
  AlwaysSeek r0 r3 m = AlwaysWithinSeek (bytes_in columns m generation) root bound r0 r3

  pub from_seek : (files again third : Option Files) (string : List ℕ) (file : FileId) (hit : Hit) (number : ℤ) (r0 r1 r3 : ℕ) → again ≡ files → third ≡ again
      → string ≡ bound.partition → file ≡ partitions_id generation → number ≡ hit.number → r1 ≤ r0 + (length string + 1) → FindsHit again file 0 (λ bytes. exact_in bytes root string) (Ok (Some hit))
      → IfSome third (AlwaysFrom number r1 r3) → IfSome files (AlwaysSeek r0 r3)
  from_seek files again third string file hit number r0 r1 r3 stay stays same name signed few hits within =
      join files third (stays ∙ stay) within (finds_along columns generation root string bound.partition exact_in files again file (Ok (Some hit)) stay same name hits)
      (λ m p q. λ next most n is.
      let found = number_along (exact_in (bytes_in columns m generation).partitions root bound.partition) hit q in
      let last = (subst (λ (z : ℤ). AlwaysFrom z r1 r3 m) signed p) next most n (is (Some hit.number) found) in
      omega (arith, last, few, ap (λ (s : List ℕ). length s) same))

-- ---- the table's calls

abbrev pub ScanWithin : Option Files → Opened → Option BoundString → ℕ → ℕ → Type 0
ScanWithin files table from r0 r3 = IfSome files (λ m. IfSome table.footer (λ footer. AlwaysWithinScan (bytes_in (columns_of table.schema) m table.generation) footer from r0 r3))

pub scan_within : (files : Option Files) (table : Opened) (footer : FooterNumbers) (bound : BoundString) (from : Option BoundString) (r0 r3 : ℕ) → from ≡ Some bound → table.footer ≡ Some footer
    → IfSome files (λ m. AlwaysWithinSeek (bytes_in (columns_of table.schema) m table.generation) footer.root bound r0 r3) → ScanWithin files table from r0 r3
scan_within files table footer bound from r0 r3 named loaded told =
    let found = subst (λ (o : Option BoundString). IfSome files (λ m. AlwaysWithinScan (bytes_in (columns_of table.schema) m table.generation) footer o r0 r3)) (sym named) told in
    subst (λ (o : Option FooterNumbers). IfSome files (λ m. IfSome o (λ f. AlwaysWithinScan (bytes_in (columns_of table.schema) m table.generation) f from r0 r3))) (sym loaded) found
