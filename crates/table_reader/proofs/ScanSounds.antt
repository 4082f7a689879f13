-- Scans over files that stand for a map: their search meets no damage, and what they give is near.
use Rattle.std.proofs.Common.{◌≡◌, ◌∙◌, ℕ, ◌+◌, ◌≤◌, List, [], length, Option, None, Some, Ok, arith, ap, inl, inr, refl, subst, sym, true}
use Rattle.std.proofs.lemmas.List.{drop_all}
use Rattle.std.specs.Prelude.{ℤ, find}
use Rattle.bti_nodes.specs.Payloads.{signed_number}
use Rattle.bti_nodes.specs.Trie.{Path, paths}
use Rattle.bti_reader.specs.Meaning.{path_above, path_begins}
use Rattle.bti_reader.specs.Searches.{ceiling_in, exact_in}
use Rattle.bti_reader.proofs.Ascending.{in_order}
use Rattle.bti_reader.proofs.Finds.{searches_find}
use Rattle.key_types.specs.Columns.{Columns}
use Rattle.key_types.specs.declared.schema.ValueType.{ValueType}
use Rattle.data_file.specs.Listing.{ArePartitions, Partition, data_bytes}
use Rattle.index_files.specs.declared.footer.FooterNumbers.{FooterNumbers}
use Rattle.index_files.specs.Reading.{partition_place}
use Rattle.table_files.specs.Blocks.{blocks_of}
use Rattle.table_files.specs.IndexMeaning.{LeadsToEntry}
use Rattle.table_files.specs.Indexes.{placed_at}
use Rattle.table_files.specs.Standing.{RowsAscend}
use Rattle.row_index.specs.Entries.{Block}
use Rattle.table_reader.specs.declared.seek.BoundString.{BoundString}
use Rattle.table_reader.specs.declared.seek.Start.{Start}
use Rattle.table_reader.specs.declared.place.PartitionAt.{PartitionAt}
use Rattle.table_reader.specs.Gets.{LeadsTo, TableBytes, bytes_in, number_of}
use Rattle.table_reader.specs.Going.{IsNear}
use Rattle.table_reader.specs.NextReads.{IsBlockWithin, IsScanBounded, ScansAreBounded, ScansBeginNear}
use Rattle.table_reader.specs.Ranges.{Scanning}
use Rattle.table_reader.specs.Reads.{IsPathWithin, IsWantedWithin, path_length}
use Rattle.table_reader.specs.Scans.{begun}
use Rattle.table_reader.specs.SeekReads.{AlwaysWithinScan, IsSeekSound, block_len}
use Rattle.table_reader.proofs.Going.{all_high, partitions_soon}
use Rattle.table_reader.proofs.Indexed.{HasRoot, leads_ok}
use Rattle.table_reader.proofs.Named.{HavePaths, exact_names}
use Rattle.table_reader.proofs.Ranged.{IndexIs, begins_by, index_is, ok_start}
use Rattle.table_reader.proofs.Sounds.{path_within, separator_within}
use Rattle.table_reader.proofs.Starts.{IsNearAt}
use Rattle.table_reader.proofs.Whole.{stands_at}

-- ---- near

near_of : (columns : Columns) (file : List ℕ) (from to : Option BoundString) (start : Option Start) → IsNearAt columns file from start → IsNear columns file (begun (length file) from to start)
near_of columns file from to None near =
    record { rows = []; partitions = []; lists = (refl, drop_all (length file) file (omega arith), tt, tt); soon = omega arith }
near_of columns file from to (Some start) (rows, ps, lists, few) = record { rows = rows; partitions = ps; lists = lists; soon = omega (arith, few) }

pub scans_near : ScansBeginNear
scans_near files generation columns table footer None to scan stands has is some (start, begins, same) =
    let held = stands.held in
    let file = bytes_in columns files generation in
    let one : start ≡ Some (record { at = 0; partition = None }) = ok_start start (Some (record { at = 0; partition = None })) begins in
    let few = partitions_soon columns None held.partitions (all_high held.partitions) held.listed.1 held.rows in
    subst (λ (s : Scanning). IsNear columns file.entries s) (ap (begun (length file.entries) None to) (sym one) ∙ sym same)
    (near_of columns file.entries None to (Some (record { at = 0; partition = None })) ([], held.partitions, (refl, held.listed.0, held.listed.1, held.rows), omega (arith, few)))
scans_near files generation columns table footer (Some bound) to scan stands (first, last, has) is some (start, begins, same) =
    let held = stands.held in
    let file = bytes_in columns files generation in
    let index = index_is columns file.partitions file.rows first last footer held.partitions stands.indexes.numbered stands.indexes.index stands.indexes.entries has in
    let b = begins_by file footer bound held.partitions (Ok start) is some held.listed.0 held.listed.1 held.rows held.ascend index begins in
    let one : b.start ≡ start = ok_start b.start start (sym b.is) in
    subst (λ (s : Scanning). IsNear columns file.entries s) (ap (begun (length file.entries) (Some bound) to) one ∙ sym same) (near_of columns file.entries (Some bound) to b.start b.near)

-- ---- no damage

wanted_within : (rows : List ℕ) (root : Option ℕ) (blocks : List Block) (clustering : Option (List ℕ)) (most : ℕ) → HasRoot rows blocks root → block_len rows clustering root ≤ most
    → IsWantedWithin rows root clustering most
wanted_within rows root blocks None most has l = tt
wanted_within rows root blocks (Some string) most has l = separator_within rows string root blocks most has l

module _ (t : TableBytes) (root : ℕ) (bound : BoundString) (ps : List Partition) (bytes : t.entries ≡ data_bytes t.columns.static_value ps) (are : ArePartitions t.columns ps) (ascend : RowsAscend ps)
    (fs : List Path) (means : paths t.partitions root ≡ Ok fs) (have : HavePaths t.columns.static_value t.rows 0 ps fs) where
  abbrev static : Option ValueType
  static = t.columns.static_value

  sound_by : (o : Option Path) (number : ℤ) (place : PartitionAt) (most : ℕ) → find (path_begins bound.partition) fs ≡ o → Ok (Some number) ≡ number_of (Ok o)
      → LeadsTo t (partition_place number) (Ok place) → block_len t.rows bound.clustering place.root ≤ most → IsWantedWithin t.rows place.root bound.clustering most
  sound_by None number place most f e leads l = cc
  sound_by (Some path) number place most f e leads l =
      let n = (exact_names static t.rows bound.partition 0 ps fs (Some path) have (in_order t.partitions root fs means).ascend f).0 in
      let same : number ≡ signed_number path.payload = cc in
      let base = length (data_bytes static n.front) in
      let here : 0 + length (data_bytes static n.front) ≡ base = omega arith in
      let s = stands_at t.columns t.entries n.front n.p n.rest (bytes ∙ ap (data_bytes static) n.parts) (subst (ArePartitions t.columns) n.parts are) (subst RowsAscend n.parts ascend) in
      let to = subst (λ (z : ℤ). LeadsToEntry t.rows (placed_at static base n.p) (blocks_of static n.p) z) (sym same)
      (subst (λ (k : ℕ). LeadsToEntry t.rows (placed_at static k n.p) (blocks_of static n.p) (signed_number path.payload)) here n.leads) in
      wanted_within t.rows place.root (blocks_of static n.p) bound.clustering most (leads_ok t (placed_at static base n.p) s.key (blocks_of static n.p) number place refl to leads).1 l

  seek_sound : (most : ℕ) → ((number : Option ℤ) → Ok number ≡ number_of (exact_in t.partitions root bound.partition) → IsBlockWithin t bound number most) → IsSeekSound t root bound most
  seek_sound most within None e = tt
  seek_sound most within (Some number) e = λ place leads head.
      sound_by (find (path_begins bound.partition) fs) number place most refl (e ∙ ap number_of (searches_find t.partitions bound.partition root fs means).exact) leads
      (within (Some number) e place leads head)

  path_sound : IsPathWithin (ceiling_in t.partitions root bound.partition) (path_length (ceiling_in t.partitions root bound.partition))
  path_sound =
      path_within (ceiling_in t.partitions root bound.partition) (find (path_above true bound.partition) fs) (path_length (ceiling_in t.partitions root bound.partition))
      (searches_find t.partitions bound.partition root fs means).ceiling (omega arith)

bounded_by : (t : TableBytes) (footer : FooterNumbers) (bound : BoundString) (ps : List Partition) (old new : ℕ) → t.entries ≡ data_bytes t.columns.static_value ps → ArePartitions t.columns ps → RowsAscend ps
    → IndexIs t.columns.static_value t.partitions t.rows footer ps → AlwaysWithinScan t footer (Some bound) old new → (footer.partitions ≡ 0 → new ≤ old) → IsScanBounded t footer (Some bound) old new
bounded_by t footer bound ps old new bytes are ascend (inl (none, empty)) always unread = λ most within. let still = unread none in omega (arith, still)
bounded_by t footer bound ps old new bytes are ascend (inr (positive, (fs, means, have))) always unread = λ most within.
    let one = always (path_length (ceiling_in t.partitions footer.root bound.partition)) most (path_sound t footer.root bound ps bytes are ascend fs means have)
    (seek_sound t footer.root bound ps bytes are ascend fs means have most within) in
    omega (arith, one)

pub scans_bounded : ScansAreBounded
scans_bounded files generation columns table footer None old new stands has always unread = λ most within. omega (arith, always)
scans_bounded files generation columns table footer (Some bound) old new stands (first, last, has) always unread =
    let held = stands.held in
    let t = bytes_in columns files generation in
    let index = index_is columns t.partitions t.rows first last footer held.partitions stands.indexes.numbered stands.indexes.index stands.indexes.entries has in
    bounded_by t footer bound held.partitions old new held.listed.0 held.listed.1 held.rows index always unread
