-- What the steps say of the files that a store tells, put together.
use Rattle.std.proofs.Common.{◌≡◌, ℕ, ◌<◌, Option, None, Some, IfSome, Result, Ok, Err, subst}
use Rattle.std.specs.Prelude.{⊤}
use Rattle.outside.specs.Files.{Files, bytes_of}
use Rattle.key_types.specs.Columns.{Columns}
use Rattle.data_file.specs.declared.writer.Counts.{Counts}
use Rattle.table_files.specs.Names.{data_id, partitions_id, rows_id}
use Rattle.data_file.specs.declared.reading.DataError.TheVariants.{StoreFault}
use Rattle.data_walk.specs.declared.refusal.Refusal.{Refusal}
use Rattle.data_walk.specs.declared.refusal.Refusal.TheVariants.{Unread}
use Rattle.data_walk.specs.Refusals.{IsFault}
use Rattle.partition_check.specs.declared.data.Found.{Found}
use Rattle.partition_check.specs.Data.{FindsData}
use Rattle.partition_check.specs.Partitions.{ChecksPartitions}
use Rattle.row_check.specs.Entries.{ChecksEntries}
use Rattle.table_check.specs.declared.footer.Footer.{Footer}
use Rattle.table_check.specs.Check.{ChecksFiles, ChecksIndexes, ComparesCounts}
use Rattle.table_check.specs.Footing.{ChecksFooter}

module _ (columns : Columns) (generation : ℕ) where
  -- what each step says of the files
  abbrev pub DataOf : Result Found Refusal → Files → Type 0
  DataOf result m = FindsData columns (bytes_of m (data_id generation)) result

  abbrev pub FooterOf : Found → Result Footer Refusal → Files → Type 0
  FooterOf found result m = ChecksFooter columns (bytes_of m (partitions_id generation)) found.first found.last result

  abbrev pub PartitionsOf : ℕ → Result ⊤ Refusal → Files → Type 0
  PartitionsOf root result m = ChecksPartitions columns (bytes_of m (data_id generation))
      (bytes_of m (partitions_id generation)) root result

  abbrev pub EntriesOf : ℕ → Result ⊤ Refusal → Files → Type 0
  EntriesOf root result m =
      ChecksEntries columns (bytes_of m (data_id generation)) (bytes_of m (rows_id generation))
      (bytes_of m (partitions_id generation)) root result

  abbrev pub IndexesOf : Found → ℕ → Result ⊤ Refusal → Files → Type 0
  IndexesOf found root result m =
      ChecksIndexes columns (bytes_of m (data_id generation)) (bytes_of m (partitions_id generation))
      (bytes_of m (rows_id generation)) found root result

  abbrev pub FilesOf : Result Counts Refusal → Files → Type 0
  FilesOf result m =
      ChecksFiles columns (bytes_of m (data_id generation)) (bytes_of m (partitions_id generation))
      (bytes_of m (rows_id generation)) result

  -- ---- the indexes

  pub no_partitions : (files : Option Files) (found : Found) (root : ℕ) → found.counts.partitions ≡ 0
      → IfSome files (IndexesOf found root (Ok tt))
  no_partitions None found root none = tt
  no_partitions (Some m) found root none = ChecksIndexes.none none

  pub stops_at_partitions : (files : Option Files) (found : Found) (root : ℕ) (e : Refusal)
      → 0 < found.counts.partitions
      → IfSome files (PartitionsOf root (Err e)) → IfSome files (IndexesOf found root (Err e))
  stops_at_partitions None found root e some told = tt
  stops_at_partitions (Some m) found root e some told = ChecksIndexes.partitions e some told

  pub entries_behind : (files files' : Option Files) (found : Found) (root : ℕ) (result : Result ⊤ Refusal)
      → files' ≡ files
      → 0 < found.counts.partitions → IfSome files (PartitionsOf root (Ok tt)) → IfSome files' (EntriesOf root result)
      → IfSome files (IndexesOf found root result)
  entries_behind None files' found root result same some told entries = tt
  entries_behind (Some m) files' found root result same some told entries =
      ChecksIndexes.behind result some told (subst (λ (f : Option Files). IfSome f (EntriesOf root result)) same
      entries)

  -- ---- the steps

  pub faulted : (files : Option Files) (e : Refusal) → IsFault e → IfSome files (FilesOf (Err e))
  faulted None e fault = tt
  faulted (Some m) e fault = ChecksFiles.fault e fault

  pub stops_at_data : (files : Option Files) (e : Refusal) → IfSome files (DataOf (Err e))
      → IfSome files (FilesOf (Err e))
  stops_at_data None e told = tt
  stops_at_data (Some m) e told = ChecksFiles.entries_refused e told

  module _ (files files' : Option Files) (found : Found) (same : files' ≡ files)
      (data_told : IfSome files (DataOf (Ok found))) where
    pub stops_at_footer : (e : Refusal) → IfSome files' (FooterOf found (Err e)) → IfSome files (FilesOf (Err e))
    stops_at_footer e told = by files same data_told
      where
        by : (fs : Option Files) → files' ≡ fs → IfSome fs (DataOf (Ok found)) → IfSome fs (FilesOf (Err e))
        by None is went = tt
        by (Some m) is went = ChecksFiles.footer_refused found e went
            (subst (λ (f : Option Files). IfSome f (FooterOf found (Err e))) is told)

    module _ (files'' : Option Files) (footer : Footer) (again : files'' ≡ files')
        (footer_told : IfSome files' (FooterOf found (Ok footer))) where
      pub stops_at_indexes : (e : Refusal) → IfSome files'' (IndexesOf found footer.numbers.root (Err e))
          → IfSome files (FilesOf (Err e))
      stops_at_indexes e told = by files same data_told
        where
          by : (fs : Option Files) → files' ≡ fs → IfSome fs (DataOf (Ok found)) → IfSome fs (FilesOf (Err e))
          by None is went = tt
          by (Some m) is went =
              ChecksFiles.indexes_refused found footer e went
              (subst (λ (f : Option Files). IfSome f (FooterOf found (Ok footer))) is footer_told)
              (subst (λ (f : Option Files). IfSome f (IndexesOf found footer.numbers.root (Err e))) is
              (subst (λ (f : Option Files). IfSome f (IndexesOf found footer.numbers.root (Err e))) again told))

      pub all_compared : (result : Result Counts Refusal)
          → IfSome files'' (IndexesOf found footer.numbers.root (Ok tt)) → ComparesCounts found footer result
          → IfSome files (FilesOf result)
      all_compared result told counts = by files same data_told
        where
          by : (fs : Option Files) → files' ≡ fs → IfSome fs (DataOf (Ok found)) → IfSome fs (FilesOf result)
          by None is went = tt
          by (Some m) is went =
              ChecksFiles.compared found footer result went
              (subst (λ (f : Option Files). IfSome f (FooterOf found (Ok footer))) is footer_told)
              (subst (λ (f : Option Files). IfSome f (IndexesOf found footer.numbers.root (Ok tt))) is
              (subst (λ (f : Option Files). IfSome f (IndexesOf found footer.numbers.root (Ok tt))) again told)) counts

-- comparing numbers asks nothing of the store
pub no_store_fault : (found : Found) (footer : Footer) (result : Result Counts Refusal)
    → ComparesCounts found footer result → result ≡ Err (Unread StoreFault) → ⊥
no_store_fault found footer result counts is = by (subst (ComparesCounts found footer) is counts)
  where
    by : ComparesCounts found footer (Err (Unread StoreFault)) → ⊥
    by counts = elim counts [ ]
