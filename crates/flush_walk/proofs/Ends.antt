-- What the writer of a table was given when a partition ends.
use Rattle.std.proofs.Common.{◌≡◌, ℕ, ◌^◌, ◌<◌, ◌≤◌, Bool, true, false, List, [], ◌∷◌, ◌++◌, length, Option, Some, None, arith, refl, sym, ◌∙◌, ap, subst}
use Rattle.std.specs.Prelude.{pos, negsuc}
use Rattle.std.proofs.lemmas.List.{append-nil, length-append}
use Rattle.outside.specs.Files.{Files}
use Rattle.key_types.specs.declared.schema.ValueType.{ValueType}
use Rattle.key_decode.proofs.Known.{string_length}
use Rattle.data_file.specs.Listing.{Partition, data_bytes, end_bytes}
use Rattle.partition_index.specs.Entries.{AreNumbered, IsNumbered, Numbered, StandApart}
use Rattle.partition_index.specs.Writing.{HasRoom, Indexing, IsPartitionBehind, TakesPartition, WritesIndex, numbered, with_partition}
use Rattle.partition_index.specs.declared.writer.PartitionWriter.{PartitionWriter}
use Rattle.row_index.specs.Entries.{Block, BlockList}
use Rattle.row_index.specs.File.{row_file}
use Rattle.row_index.specs.Writing.{RowIndexing, begun_entry_at, with_finished}
use Rattle.table_files.specs.Blocks.{blocks_of}
use Rattle.table_files.specs.Indexes.{all_indexed, all_numbered, number_at, placed, placed_at, row_indexed}
use Rattle.table_files.specs.Standing.{AreOfTable}
use Rattle.table_files.proofs.Numbering.{are_numbered}
use Rattle.flush_walk.specs.declared.growing.GrowingFiles.{GrowingFiles}
use Rattle.flush_walk.specs.declared.writer.TableWriter.{TableWriter}
use Rattle.flush_walk.specs.Current.{number_turned, rows_turned}
use Rattle.flush_walk.specs.Given.{Flushing, growing_of, listed, opened, opened_bytes, turned}
use Rattle.flush_walk.specs.Growing.{Growing, Grows, Torn, with_bytes}
use Rattle.flush_walk.specs.Writing.{AreCounts, IsCurrent, IsHeld, WritesTable, has_blocks}
use Rattle.page_packer.specs.Early.{IsBeginning}
use Rattle.partition_index.specs.File.{early_index, index_bytes_for}
use Rattle.partition_index.proofs.Settled.{early_index_grows}
use Rattle.flush_walk.proofs.Moves.{all_prefix, cut_on}
use Rattle.flush_walk.proofs.Lists.{are_parted, string_bytes_parted}
use Rattle.flush_walk.proofs.Steps.{place_few}
use Rattle.flush_walk.proofs.Turns.{indexed_closed, listing_closed, numbered_closed}

-- ---- the last of the partitions with numbers

last_behind : (ps : List Numbered) (n : Numbered) → StandApart (ps ++ n ∷ []) → IsPartitionBehind ps n.string × IsNumbered n
last_behind [] n h = (tt, h.0)
last_behind (p ∷ []) n h = (h.1, h.2.0)
last_behind (p ∷ q ∷ ps) n h = last_behind (q ∷ ps) n h.2

-- ---- the open partition ends

module _ (s : TableWriter) (v : Flushing) (p : Partition) (f : Option Files) (h : WritesTable s (opened v p) f) where
  abbrev type : Option ValueType
  type = v.columns.static_value

  abbrev held : IsHeld s.current type v.closed p
  held = h.current

  abbrev one : BlockList
  one = placed_at type (length (data_bytes type v.closed)) p

  pub current_few : s.current.position < 2 ^ 40
  current_few = omega (arith, held.position, h.grows.position, place_few s (opened v p) f h, length-append (data_bytes type v.closed) (opened_bytes type p))

  pub key_few : length s.current.key ≤ 1024
  key_few = subst (λ (k : List ℕ). length k ≤ 1024) (sym held.key) (string_length v.columns.partition p.key (are_parted v.columns v.closed (p ∷ []) h.table.are).1.0)

  -- where it has one block
  module _ (alone : s.current.indexed ≡ false) where
    no_blocks : blocks_of type p ≡ []
    no_blocks = by (blocks_of type p) (sym held.indexed ∙ alone)
      where
        by : (bs : List Block) → has_blocks bs ≡ false → bs ≡ []
        by [] e = refl
        by (b ∷ bs) e = cc

    rows_same : (growing_of (opened v p)).rows ≡ (growing_of (turned (opened v p))).rows
    rows_same =
        let done : all_indexed (placed type v.closed) ≡ all_indexed (placed type (v.closed ++ p ∷ [])) =
        sym (indexed_closed type v.closed p ∙ ap (λ (bs : List Block). all_indexed (placed type v.closed) ++ row_indexed one bs) no_blocks ∙ append-nil (all_indexed (placed type v.closed))) in
        λ i. record (growing_of (opened v p)).rows { done = done i; begun = no_blocks i }

    pub alone_grows : Grows s.files (rows_turned v p) f
    alone_grows = subst (λ (w : RowIndexing). Grows s.files (record (growing_of (opened v p)) { rows = w }) f) rows_same h.grows

    pub alone_number : negsuc s.current.position ≡ number_turned v p
    alone_number =
        ap negsuc held.position
        ∙ sym (ap (λ (bs : List Block). number_at one bs (length (row_file (all_indexed (placed type v.closed))))) no_blocks)

  -- where it has more
  module _ (more : s.current.indexed ≡ true) where
    some_blocks : has_blocks (blocks_of type p) ≡ true
    some_blocks = sym held.indexed ∙ more

    rows_ended : with_finished (growing_of (opened v p)).rows s.current.key s.current.position ≡ (growing_of (turned (opened v p))).rows
    rows_ended =
        let rows = (growing_of (opened v p)).rows in
        let given : with_finished rows s.current.key s.current.position ≡ with_finished rows p.key (length (data_bytes type v.closed)) =
        ap (λ (k : List ℕ). with_finished rows k s.current.position) held.key ∙ ap (λ (n : ℕ). with_finished rows p.key n) held.position in
        let entry : one ∷ [] ≡ row_indexed one (blocks_of type p) = by (blocks_of type p) some_blocks in
        let done : all_indexed (placed type v.closed) ++ one ∷ [] ≡ all_indexed (placed type (v.closed ++ p ∷ [])) =
        ap (λ (ls : List BlockList). all_indexed (placed type v.closed) ++ ls) entry ∙ sym (indexed_closed type v.closed p) in
        given ∙ (λ i. record (with_finished rows p.key (length (data_bytes type v.closed))) { done = done i })
      where
        by : (bs : List Block) → has_blocks bs ≡ true → one ∷ [] ≡ row_indexed one bs
        by [] e = cc
        by (b ∷ bs) e = refl

    pub more_grows : (s' : GrowingFiles) (f' : Option Files) → Grows s' (record (growing_of (opened v p)) { rows = with_finished (growing_of (opened v p)).rows s.current.key s.current.position }) f'
        → Grows s' (rows_turned v p) f'
    more_grows s' f' grows = subst (λ (w : RowIndexing). Grows s' (record (growing_of (opened v p)) { rows = w }) f') rows_ended grows

    pub more_torn : (f' : Option Files) → Torn (record (growing_of (opened v p)) { rows = with_finished (growing_of (opened v p)).rows s.current.key s.current.position }) f'
        → Torn (rows_turned v p) f'
    more_torn f' torn = subst (λ (w : RowIndexing). Torn (record (growing_of (opened v p)) { rows = w }) f') rows_ended torn

    pub more_blocks : 0 < length (growing_of (opened v p)).rows.begun
    more_blocks = by (blocks_of type p) some_blocks
      where
        by : (bs : List Block) → has_blocks bs ≡ true → 0 < length bs
        by [] e = cc
        by (b ∷ bs) e = omega arith

    pub more_number : (at : ℕ) → at ≡ begun_entry_at (growing_of (opened v p)).rows → pos at ≡ number_turned v p
    more_number at is = ap pos is ∙ by (blocks_of type p) some_blocks
      where
        by : (bs : List Block) → has_blocks bs ≡ true → pos (begun_entry_at (growing_of (opened v p)).rows) ≡ number_at one bs (length (row_file (all_indexed (placed type v.closed))))
        by [] e = cc
        by (b ∷ bs) e = refl

  -- ---- its number

  abbrev number : Numbered
  number = numbered p.key (number_turned v p)

  all_fine : AreNumbered (all_numbered (placed type v.closed) ++ number ∷ [])
  all_fine = subst AreNumbered (numbered_closed v p) (are_numbered v.columns (v.closed ++ p ∷ []) h.table)

  pub number_ready : (t : Growing) → t.index ≡ (growing_of (opened v p)).index → HasRoom t.index (numbered s.current.key (number_turned v p)) × AreNumbered (t.index.partitions ++ numbered s.current.key (number_turned v p) ∷ [])
  number_ready t is =
      let same : ◌≡◌ {A = Numbered} number (numbered s.current.key (number_turned v p)) = ap (λ (k : List ℕ). numbered k (number_turned v p)) (sym held.key) in
      let room : HasRoom (growing_of (opened v p)).index number =
      omega (arith, all_fine.few, string_bytes_parted (all_numbered (placed type v.closed)) (number ∷ [])) in
      subst (λ (i : Indexing). HasRoom i (numbered s.current.key (number_turned v p)) × AreNumbered (i.partitions ++ numbered s.current.key (number_turned v p) ∷ [])) (sym is)
      (subst (λ (n : Numbered). HasRoom (growing_of (opened v p)).index n × AreNumbered (all_numbered (placed type v.closed) ++ n ∷ [])) same (room, all_fine))

  pub takes : (w : PartitionWriter) → w ≡ s.files.partitions → TakesPartition w s.current.key
  takes w is = record {
    indexing = (growing_of (opened v p)).index;
    writes = subst (λ (x : PartitionWriter). WritesIndex x (growing_of (opened v p)).index) (sym is) h.grows.index;
    behind = subst (λ (k : List ℕ). IsPartitionBehind (all_numbered (placed type v.closed)) k) (sym held.key) (last_behind (all_numbered (placed type v.closed)) number all_fine.ascend).0;
    few = omega (arith, all_fine.few, string_bytes_parted (all_numbered (placed type v.closed)) (number ∷ []), ap (λ (k : List ℕ). length k) held.key);
  }

  pub number_is : IsNumbered number
  number_is = (last_behind (all_numbered (placed type v.closed)) number all_fine.ascend).1

  pub key_some : 0 < length s.current.key
  key_some = omega (arith, number_is.some, ap (λ (k : List ℕ). length k) held.key)

  -- ---- all of it

  abbrev numbered_growing : Growing
  numbered_growing = record (rows_turned v p) { index = with_partition (rows_turned v p).index (numbered s.current.key (number_turned v p)) }

  index_is : numbered_growing ≡ record (growing_of (turned (opened v p))) { listing = (growing_of (opened v p)).listing }
  index_is =
      let index : all_numbered (placed type v.closed) ++ numbered s.current.key (number_turned v p) ∷ [] ≡ all_numbered (placed type (v.closed ++ p ∷ [])) =
      ap (λ (k : List ℕ). all_numbered (placed type v.closed) ++ numbered k (number_turned v p) ∷ []) held.key ∙ sym (numbered_closed v p) in
      λ i. record numbered_growing { index = record numbered_growing.index { partitions = index i } }

  closed_is : with_bytes numbered_growing end_bytes ≡ growing_of (turned (opened v p))
  closed_is =
      ap (λ (t : Growing). with_bytes t end_bytes) index_is
      ∙ (λ i. record (growing_of (turned (opened v p))) { listing = listing_closed type v.closed p i })

  index_goes_on : IsBeginning (early_index (all_numbered (placed type v.closed))) (early_index (all_numbered (placed type (v.closed ++ p ∷ []))))
  index_goes_on =
      (index_bytes_for (all_numbered (placed type v.closed)) number, ap early_index (numbered_closed v p) ∙ early_index_grows (all_numbered (placed type v.closed)) number all_fine)

  pub rows_torn_on : (f' : Option Files) → Torn (rows_turned v p) f' → Torn (growing_of (turned (opened v p))) f'
  rows_torn_on f' torn =
      cut_on (growing_of (turned (opened v p))) _ _ f' (end_bytes, sym (listing_closed type v.closed p)) (all_prefix _) index_goes_on torn

  pub index_torn_on : (f' : Option Files) → Torn numbered_growing f' → Torn (growing_of (turned (opened v p))) f'
  index_torn_on f' torn =
      cut_on (growing_of (turned (opened v p))) _ _ f' (end_bytes, sym (listing_closed type v.closed p)) (all_prefix _)
      (subst (λ (t : Growing). IsBeginning (early_index t.index.partitions) (early_index (growing_of (turned (opened v p))).index.partitions)) (sym index_is) (all_prefix _)) torn

  pub closed_torn : (f' : Option Files) → Torn (with_bytes numbered_growing end_bytes) f' → Torn (growing_of (turned (opened v p))) f'
  closed_torn f' torn = subst (λ (t : Growing). Torn t f') closed_is torn

  pub closed_writes : (s' : TableWriter) (f' : Option Files) → Grows s'.files (with_bytes numbered_growing end_bytes) f'
      → s'.generation ≡ s.generation → s'.static_value ≡ s.static_value → s'.text ≡ s.text → s'.current.is_open ≡ false → s'.counts ≡ s.counts
      → WritesTable s' (turned (opened v p)) f'
  closed_writes s' f' grows generation static text current counts =
      let same : v.closed ++ p ∷ [] ≡ (v.closed ++ p ∷ []) ++ [] = sym (append-nil (v.closed ++ p ∷ [])) in
      record {
        generation = generation ∙ h.generation;
        static = static ∙ h.static;
        text = text ∙ h.text;
        table = subst (AreOfTable v.columns) same h.table;
        grows = subst (λ (t : Growing). Grows s'.files t f') closed_is grows;
        current = current;
        counts = subst (λ (ps : List Partition). AreCounts s'.counts ps) same (subst (λ c. AreCounts c (v.closed ++ p ∷ [])) (sym counts) h.counts);
      }

-- ---- which partition is open

pub with_current : (s : TableWriter) (w : Flushing) (f : Option Files) → WritesTable s w f → s.current.is_open ≡ true → (p : Partition) × (w ≡ opened w p)
with_current s w f h is = by w.current refl h.current
  where
    by : (o : Option Partition) → w.current ≡ o → IsCurrent s.current w.columns.static_value w.closed o → (p : Partition) × (w ≡ opened w p)
    by None e current = absurd (true_false (sym is ∙ current))
      where
        true_false : ◌≡◌ {A = Bool} true false → ⊥
        true_false e = cc
    by (Some p) e current = (p, λ i. record w { current = e i })

-- none is
pub not_open : (s : TableWriter) (w : Flushing) (f : Option Files) → WritesTable s w f → s.current.is_open ≡ false → WritesTable s (turned w) f
not_open s w f h is = by w.current refl h.current
  where
    by : (o : Option Partition) → w.current ≡ o → IsCurrent s.current w.columns.static_value w.closed o → WritesTable s (turned w) f
    by (Some p) e current = absurd (true_false (sym current.is_open ∙ is))
      where
        true_false : ◌≡◌ {A = Bool} true false → ⊥
        true_false e = cc
    by None e current =
        let same : w ≡ turned w =
        λ i. record w { closed = (sym (append-nil w.closed) ∙ ap (λ (o : Option Partition). w.closed ++ listed o) (sym e)) i; current = e i } in
        subst (λ (u : Flushing). WritesTable s u f) same h
