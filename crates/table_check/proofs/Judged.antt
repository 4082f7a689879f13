-- What the steps of a check end with says whether the files stand for a map.
use Rattle.std.proofs.Common.{◌≡◌, ◌∙◌, ℕ, ◌<◌, List, length, Result, Ok, Err, ap, arith, refl, subst, sym}
use Rattle.std.specs.FinMap as finite
use Rattle.outside.specs.Files.{Files, bytes_of}
use Rattle.bti_nodes.specs.Trie.{Paths, paths}
use Rattle.key_types.specs.Columns.{Columns}
use Rattle.key_types.specs.Table.{Table}
use Rattle.data_file.specs.Listing.{Partition}
use Rattle.data_file.specs.declared.reading.DataError.TheVariants as data_error
use Rattle.data_file.specs.declared.writer.Counts.{Counts}
use Rattle.data_file.proofs.Unique.{listing_unique}
use Rattle.index_files.specs.declared.footer.FooterNumbers.{FooterNumbers}
use Rattle.row_index.specs.Entries.{BlockList}
use Rattle.table_files.specs.Indexes.{placed}
use Rattle.table_files.specs.Names.{data_id, partitions_id, rows_id, schema_id}
use Rattle.table_files.specs.SchemaFile.{IsSchemaFile}
use Rattle.table_files.specs.Standing.{StandFor}
use Rattle.data_walk.specs.declared.refusal.Refusal.{Refusal}
use Rattle.data_walk.specs.declared.refusal.Refusal.TheVariants.{Clashes, Unread}
use Rattle.data_walk.specs.Refusals.{IsFault}
use Rattle.row_check.specs.Entries.{EntriesAre}
use Rattle.row_check.specs.Laws.{EntriesAreJudged, MeansEntries}
use Rattle.partition_check.specs.declared.data.Found.{Found}
use Rattle.table_check.specs.declared.footer.Footer.{Footer}
use Rattle.table_check.specs.Check.{ChecksFiles, ChecksIndexes, ComparesCounts, IsSound}
use Rattle.partition_check.specs.Data.{FindsData, FoundIsListed, HeldIsFound}
use Rattle.table_check.specs.Footing.{ChecksFooter, HasFooterOf}
use Rattle.partition_check.specs.Found.{ListsTable, first_key, last_key}
use Rattle.partition_check.specs.Partitions.{CheckedIsIndex, IndexIs, IndexIsChecked}
use Rattle.table_check.proofs.Mapped.{map_of}
use Rattle.table_check.proofs.Once.{footer_once}
use Rattle.table_check.proofs.Standing.{AreIndexed, stand}
use Rattle.table_check.proofs.Stood.{HasIndexes, has_indexes}

-- the laws of the steps
pub record Laws : Type 0 where
  pub found : FoundIsListed
  pub held : HeldIsFound
  pub index : CheckedIsIndex
  pub indexed : IndexIsChecked
  pub entries : EntriesAreJudged

refusal_is : (f e : Refusal) → ◌≡◌ {A = Result Counts Refusal} (Err f) (Err e) → f ≡ e
refusal_is f e is = cc

module _ (laws : Laws) (columns : Columns) (entries index rows : List ℕ) where
  -- ---- nothing is refused

  -- the entries are those to which the paths lead that were found
  entries_of : (ps : List BlockList) (root : ℕ) (is : IndexIs index root ps)
      → MeansEntries rows ps (paths index root) → EntriesAre rows ps is.found
  entries_of ps root is means = subst (λ (r : Paths). MeansEntries rows ps r) is.means means

  indexes_are : (ps : List Partition) (found : Found) (root : ℕ) → ListsTable columns entries ps found
      → ChecksIndexes columns entries index rows found root (Ok tt) → 0 < length ps
      → AreIndexed index rows root (placed columns.static_value ps)
  indexes_are ps found root lists (ChecksIndexes.none gone) some =
      absurd (omega (arith, gone, some, ap (λ (c : Counts). c.partitions) lists.counts))
  indexes_are ps found root lists (ChecksIndexes.behind result are checks leads) some =
      let is = laws.index columns entries index root ps found lists checks in
      let means = laws.entries columns entries rows index root ps (Ok tt) lists.listed lists.ascend lists.rows leads in
      record { paths = is; entries = entries_of (placed columns.static_value ps) root is means }

  -- ---- the files stand for a map

  module _ (ps : List Partition) (found : Found) (lists : ListsTable columns entries ps found)
      (has : HasIndexes columns index rows ps) where
    -- the footer is that which was read
    same_numbers : (read : Footer) → HasFooterOf columns index found.first found.last read → read.numbers ≡ has.numbers
    same_numbers read of_found =
        (footer_once columns index found.first (first_key ps) found.last (last_key ps) read.numbers has.numbers
        of_found.is has.is).numbers_are

    footer_fault : (e : Refusal) → ChecksFooter columns index found.first found.last (Err e) → IsFault e
    footer_fault (Clashes at) told =
        let other = told.1 in
        let same = footer_once columns index other.first_there (first_key ps) other.last_there
        (last_key ps) other.numbers has.numbers other.is has.is in
        absurd (other.differ (same.first_is ∙ sym lists.first) (same.last_is ∙ sym lists.last))
    footer_fault (Unread (data_error.Damaged damage)) told =
        absurd (told.1 (first_key ps) (last_key ps) has.numbers has.is)
    footer_fault (Unread data_error.StoreFault) told = tt
    footer_fault (Unread data_error.NoMemory) told = tt

    some_there : 0 < found.counts.partitions → 0 < length ps
    some_there some = omega (arith, some, ap (λ (c : Counts). c.partitions) lists.counts)

    indexed_at : (root : ℕ) → root ≡ has.numbers.root → 0 < found.counts.partitions
        → AreIndexed index rows root (placed columns.static_value ps)
    indexed_at root same some =
        subst (λ (r : ℕ). AreIndexed index rows r (placed columns.static_value ps)) (sym same)
        (has.indexed (some_there some))

    means_entries : (root : ℕ) → AreIndexed index rows root (placed columns.static_value ps)
        → MeansEntries rows (placed columns.static_value ps) (paths index root)
    means_entries root are = subst (λ (r : Paths). MeansEntries rows (placed columns.static_value ps) r)
        (sym are.paths.means) are.entries

    indexes_fault : (root : ℕ) (e : Refusal) → root ≡ has.numbers.root
        → ChecksIndexes columns entries index rows found root (Err e) → IsFault e
    indexes_fault root _ same (ChecksIndexes.partitions e some checks) =
        laws.indexed columns entries index root ps found e lists (indexed_at root same some).paths checks
    indexes_fault root e same (ChecksIndexes.behind result some checks leads) =
        laws.entries columns entries rows index root ps (Err e) lists.listed lists.ascend lists.rows leads
        (means_entries root (indexed_at root same some))

    counts_fault : (read : Footer) (e : Refusal) → read.numbers ≡ has.numbers → ComparesCounts found read (Err e)
        → IsFault e
    counts_fault read _ same (ComparesCounts.other differ) =
        let counted = ap (λ (c : Counts). c.partitions) lists.counts in
        absurd (differ (ap (λ (n : FooterNumbers). n.partitions) same ∙ has.count ∙ sym counted))

  -- ---- the steps together

  -- what is needed of Data.db and the indexes, to say it of whole files
  fault_where : (ps : List Partition) (result : Result Counts Refusal) (e : Refusal) → result ≡ Err e
      → ((found : Found) → FindsData columns entries (Ok found) → ListsTable columns entries ps found)
      → ((e : Refusal) → FindsData columns entries (Err e) → IsFault e) → HasIndexes columns index rows ps
      → ChecksFiles columns entries index rows result → IsFault e
  fault_where ps _ e is lists held has (ChecksFiles.entries_refused f told) = subst IsFault (refusal_is f e is)
      (held f told)
  fault_where ps _ e is lists held has (ChecksFiles.footer_refused found f went told) =
      subst IsFault (refusal_is f e is) (footer_fault ps found (lists found went) has f told)
  fault_where ps _ e is lists held has (ChecksFiles.indexes_refused found read f went footer told) =
      let listed = lists found went in
      let root = ap (λ (n : FooterNumbers). n.root) (same_numbers ps found listed has read footer) in
      subst IsFault (refusal_is f e is) (indexes_fault ps found listed has read.numbers.root f root told)
  fault_where ps _ e is lists held has (ChecksFiles.compared found read result went footer told counts) =
      let listed = lists found went in
      counts_fault ps found listed has read e (same_numbers ps found listed has read footer)
      (subst (ComparesCounts found read) is counts)
  fault_where ps _ e is lists held has (ChecksFiles.fault f fault) = subst IsFault (refusal_is f e is) fault

-- ---- whole files

module _ (laws : Laws) (files : Files) (generation : ℕ) (columns : Columns) where
  abbrev entries : List ℕ
  entries = bytes_of files (data_id generation)

  abbrev index : List ℕ
  index = bytes_of files (partitions_id generation)

  abbrev rows : List ℕ
  rows = bytes_of files (rows_id generation)

  pub sound : (counts : Counts) → IsSchemaFile columns (bytes_of files (schema_id generation))
      → ChecksFiles columns entries index rows (Ok counts) → IsSound files generation counts
  sound counts schema (ChecksFiles.compared found read result went footer indexes compares) =
      by (Ok counts) compares refl
    where
      of_found : (ps : List Partition) → ListsTable columns entries ps found
          → read.numbers.partitions ≡ found.counts.partitions → IsSound files generation found.counts
      of_found ps lists same =
          let table = map_of columns ps lists.listed.1 lists.ascend lists.rows in
          let has = subst (λ (s : List ℕ). HasFooterOf columns index (first_key ps) s read) lists.last
          (subst (λ (s : List ℕ). HasFooterOf columns index s found.last read) lists.first footer) in
          let count : read.numbers.partitions ≡ length ps = same ∙ ap (λ (c : Counts). c.partitions) lists.counts in
          record {
            columns = columns;
            table = table.0;
            stands = record {
              held = record {
                partitions = ps;
                listed = lists.listed;
                ascend = lists.ascend;
                rows = lists.rows;
                same
                    = table.1;
              };
              indexes = stand columns index rows ps read has count
                  (indexes_are laws columns entries index rows ps found read.numbers.root lists indexes);
              schema = schema;
            };
            sum = lists.counts;
          }

      by : (r : Result Counts Refusal) → ComparesCounts found read r → r ≡ Ok counts → IsSound files generation counts
      by _ (ComparesCounts.same same) is =
          let lists = laws.found columns entries found went in
          let one : found.counts ≡ counts = cc in
          subst (IsSound files generation) one (of_found lists.0 lists.1 same)
      by _ (ComparesCounts.other differ) is = cc

  pub refused : (table : Table) (e : Refusal) → ChecksFiles columns entries index rows (Err e)
      → StandFor files generation columns table → IsFault e
  refused table e told stands =
      let held = stands.held in
      fault_where laws columns entries index rows held.partitions (Err e) e refl lists_held
      (λ f went. laws.held columns entries (finite.entries table) f held went)
      (has_indexes columns index rows held.partitions held.listed.1 stands.indexes) told
    where
      lists_held : (found : Found) → FindsData columns entries (Ok found)
          → ListsTable columns entries stands.held.partitions found
      lists_held found went =
          let lists = laws.found columns entries found went in
          subst (λ (ps : List Partition). ListsTable columns entries ps found)
          (listing_unique columns entries lists.0 stands.held.partitions lists.1.listed stands.held.listed) lists.1
