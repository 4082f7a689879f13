-- What the writer of a table was given after each step.
use Rattle.std.proofs.Common.{◌≡◌, ℕ, ◌+◌, ◌-◌, ◌^◌, ◌<◌, ◌≤◌, Bool, true, false, List, [], ◌∷◌, ◌++◌, length, Option, Some, None, Result, Ok, Err, IsErr, arith, refl, sym, ◌∙◌, ap, subst}
use Rattle.std.specs.Prelude.{◌&&◌, if◌then◌else◌}
use Rattle.std.proofs.lemmas.List.{append-nil, length-append}
use Rattle.std.specs.declared.cmp.Ordering.TheVariants.{Less}
use Rattle.key_types.specs.Table.{string_cmp}
use Rattle.key_types.specs.declared.schema.ValueType.{ValueType}
use Rattle.outside.specs.Files.{Files}
use Rattle.data_file.specs.Listing.{AreRows, Partition, Row, data_bytes, end_bytes, row_bytes, rows_bytes}
use Rattle.data_file.specs.declared.writer.Counts.{Counts}
use Rattle.row_index.specs.Entries.{AreBlocks, AreBlockLists, Block, BlockList, IsBlock, all_block_bytes, block_bytes}
use Rattle.row_index.specs.Writing.{GoesBehind, IsBehindBlocks, block_of, early_rows}
use Rattle.row_index.proofs.Rows.{bytes_parted, lists_parted}
use Rattle.table_files.specs.Blocks.{block_start, blocks_of, ends_block, rows_at}
use Rattle.table_files.specs.Indexes.{all_indexed, placed, placed_at, row_indexed}
use Rattle.table_files.specs.Standing.{AreOfTable, entries_in, row_entries, static_entries}
use Rattle.table_files.proofs.Blocked.{partitions_few}
use Rattle.table_files.proofs.Numbering.{are_lists, data_few}
use Rattle.flush_walk.specs.declared.current.CurrentPartition.{CurrentPartition}
use Rattle.flush_walk.specs.declared.writer.TableWriter.{TableWriter}
use Rattle.flush_walk.specs.Current.{begins_block, blocks_next, current_of, with_block_at, with_blocks}
use Rattle.flush_walk.specs.Entries.{has_some, row_at}
use Rattle.flush_walk.specs.Given.{Flushing, Given, begun_with, current_bytes, growing_of, last_clustering, last_start, listed, opened, opened_bytes, partitions_given, rows_given, start_among, start_behind, turned, with_row}
use Rattle.flush_walk.specs.Growing.{Growing, Grows, Torn, with_bytes}
use Rattle.flush_walk.specs.Writing.{Goes, IsHeld, WritesTable, has_blocks, rows_in_all}
use Rattle.flush_walk.proofs.Lists.{are_parted, data_parted}
use Rattle.flush_walk.proofs.Moves.{all_prefix, cut_on}
use Rattle.partition_index.specs.File.{early_index}
use Rattle.flush_walk.proofs.Turns.{begun_growing, blocks_begun, blocks_next_are, indexed_closed, last_begun, last_next, listing_closed, next_growing, opened_long, start_begun, start_next}

-- ---- numbers

listing_few : (static : Option ValueType) (closed : List Partition) (current : Option Partition)
    → length (data_bytes static closed ++ current_bytes static current) ≤ length (data_bytes static (closed ++ listed current))
listing_few static closed None =
    omega (arith, ap (λ (bs : List ℕ). length bs) (data_parted static closed []), length-append (data_bytes static closed) [])
listing_few static closed (Some p) =
    omega (
      arith,
      ap (λ (bs : List ℕ). length bs) (listing_closed static closed p),
      length-append (data_bytes static closed ++ opened_bytes static p) end_bytes,
      length-append (data_bytes static (closed ++ p ∷ [])) [],
    )

pub place_few : (s : TableWriter) (w : Flushing) (f : Option Files) → WritesTable s w f → s.files.listing.position < 2 ^ 40
place_few s w f h =
    omega (arith, h.grows.position, listing_few w.columns.static_value w.closed w.current, data_few w.columns (partitions_given w) h.table)

pub counts_few : (s : TableWriter) (w : Flushing) (f : Option Files) → WritesTable s w f → (s.counts.partitions ≤ 1000000)
counts_few s w f h = omega (arith, h.counts.partitions, partitions_few w.columns (partitions_given w) h.table.rows, h.table.few)

pub rows_all_parted : (xs ys : List Partition) → rows_in_all (xs ++ ys) ≡ rows_in_all xs + rows_in_all ys
rows_all_parted [] ys = omega arith
rows_all_parted (x ∷ xs) ys = omega (arith, rows_all_parted xs ys)

-- there are no more rows than entries
rows_most : (ps : List Partition) → rows_in_all ps ≤ length (entries_in ps)
rows_most [] = omega arith
rows_most (p ∷ ps) = omega (arith, rows_most ps, entries_parted_here p ps, row_entries_long p.key p.rows)
  where
    row_entries_long : (key : List ℕ) (rows : List Row) → length (row_entries key rows) ≡ length rows
    row_entries_long key [] = refl
    row_entries_long key (r ∷ rows) = omega (arith, row_entries_long key rows)

    entries_parted_here : (p : Partition) (ps : List Partition)
        → length (entries_in (p ∷ ps)) ≡ length (static_entries p.key p.static_part) + length (row_entries p.key p.rows) + length (entries_in ps)
    entries_parted_here p ps =
        omega (
          arith,
          length-append (static_entries p.key p.static_part) (row_entries p.key p.rows ++ entries_in ps),
          length-append (row_entries p.key p.rows) (entries_in ps),
        )

pub rows_few : (s : TableWriter) (w : Flushing) (f : Option Files) → WritesTable s w f → s.counts.rows ≤ 1000000
rows_few s w f h = omega (arith, h.counts.rows, rows_most (partitions_given w), h.table.few)

pub row_at_few : (c : List ℕ) → row_at c ≤ 1
row_at_few [] = omega arith
row_at_few (b ∷ c) = omega arith

rows_counted : (c value : List ℕ) → length (rows_given c value) ≡ row_at c
rows_counted [] value = refl
rows_counted (b ∷ c) value = refl

pub goes_err : {T E : Type 0} (r : Result T E) (s : TableWriter) (w : Flushing) (f : Option Files) → IsErr r → Torn (growing_of w) f → Goes r s w f
goes_err (Ok x) s w f bad torn = cc
goes_err (Err e) s w f bad torn = torn

-- ---- a partition begins

pub begun_writes : (s s' : TableWriter) (w : Flushing) (e : Given) (f f' : Option Files) (at n : ℕ) → WritesTable s (turned w) f
    → AreOfTable w.columns ((turned w).closed ++ begun_with e ∷ [])
    → Grows s'.files (with_bytes (growing_of (turned w)) (opened_bytes s.static_value (begun_with e))) f' → at ≡ s.files.listing.position → n ≡ row_at e.clustering
    → s'.generation ≡ s.generation → s'.static_value ≡ s.static_value → s'.text ≡ s.text → s'.current ≡ current_of e.partition e.clustering at
    → s'.counts ≡ record { partitions = s.counts.partitions + 1; rows = s.counts.rows + n }
    → WritesTable s' (opened (turned w) (begun_with e)) f'
begun_writes s s' w e f f' at n h table grows place many generation static text current counts =
    let closed = (turned w).closed in
    let type = w.columns.static_value in
    let same : with_bytes (growing_of (turned w)) (opened_bytes s.static_value (begun_with e)) ≡ growing_of (opened (turned w) (begun_with e)) =
    ap (λ (o : Option ValueType). with_bytes (growing_of (turned w)) (opened_bytes o (begun_with e))) h.static ∙ begun_growing w e in
    record {
      generation = generation ∙ h.generation;
      static = static ∙ h.static;
      text = text ∙ h.text;
      table = table;
      grows = subst (λ (t : Growing). Grows s'.files t f') same grows;
      current = record {
        is_open = ap (λ (c : CurrentPartition). c.is_open) current;
        key = ap (λ (c : CurrentPartition). c.key) current;
        position = ap (λ (c : CurrentPartition). c.position) current ∙ place ∙ h.grows.position ∙ ap (λ (bs : List ℕ). length bs) (append-nil (data_bytes type closed));
        last = ap (λ (c : CurrentPartition). c.last) current ∙ sym (last_begun e.clustering e.value);
        start = ap (λ (c : CurrentPartition). c.start) current ∙ sym (start_begun type e.partition e.value e.clustering);
        indexed = ap (λ (c : CurrentPartition). c.indexed) current ∙ ap has_blocks (sym (blocks_begun type e.partition e.value e.clustering));
      };
      counts = record {
        partitions = omega (arith, ap (λ (c : Counts). c.partitions) counts, h.counts.partitions, length-append closed [], length-append closed (begun_with e ∷ []));
        rows = omega (
          arith,
          ap (λ (c : Counts). c.rows) counts,
          h.counts.rows,
          rows_all_parted closed [],
          rows_all_parted closed (begun_with e ∷ []),
          many,
          rows_counted e.clustering e.value,
        );
      };
    }

pub begun_torn : (s : TableWriter) (w : Flushing) (e : Given) (f f' : Option Files) → WritesTable s (turned w) f
    → Torn (with_bytes (growing_of (turned w)) (opened_bytes s.static_value (begun_with e))) f' → Torn (growing_of (opened (turned w) (begun_with e))) f'
begun_torn s w e f f' h torn =
    let same : with_bytes (growing_of (turned w)) (opened_bytes s.static_value (begun_with e)) ≡ growing_of (opened (turned w) (begun_with e)) =
    ap (λ (o : Option ValueType). with_bytes (growing_of (turned w)) (opened_bytes o (begun_with e))) h.static ∙ begun_growing w e in
    subst (λ (t : Growing). Torn t f') same torn

-- ---- a row goes into the open partition

block_bytes_last : (bs : List Block) (b : Block) → block_bytes (bs ++ b ∷ []) ≡ block_bytes bs + length b.first
block_bytes_last [] b = omega arith
block_bytes_last (c ∷ bs) b = omega (arith, block_bytes_last bs b)

last_block : (bs : List Block) (b : Block) → AreBlocks (bs ++ b ∷ []) → IsBehindBlocks bs b.before × IsBlock b
last_block [] b h = (tt, h.0)
last_block (c ∷ []) b h = (h.1, h.2.0)
last_block (c ∷ d ∷ bs) b h = last_block (d ∷ bs) b h.2

blocks_fit : (done : List BlockList) (one : BlockList) (bs : List Block) (b : Block) → AreBlockLists (done ++ row_indexed one (bs ++ b ∷ [])) → one.blocks ≡ bs ++ b ∷ []
    → AreBlocks (bs ++ b ∷ []) × (all_block_bytes done + block_bytes bs + length b.first ≤ 2 ^ 30)
blocks_fit done one [] b h is =
    let each = (lists_parted done (one ∷ []) h.each).1.0 in
    (subst AreBlocks is each.blocks, omega (arith, h.few, bytes_parted done (one ∷ []), ap block_bytes is, block_bytes_last [] b))
blocks_fit done one (c ∷ bs) b h is =
    let each = (lists_parted done (one ∷ []) h.each).1.0 in
    (subst AreBlocks is each.blocks, omega (arith, h.few, bytes_parted done (one ∷ []), ap block_bytes is, block_bytes_last (c ∷ bs) b))

-- the last block begins no later than the rows end
start_most : (start end_ : ℕ) (rows : List Row) → start ≤ end_ → start_behind start end_ rows ≤ end_ + length (rows_bytes rows)
start_most start end_ [] low = omega (arith, low)
start_most start end_ (r ∷ rows) low =
    let next = end_ + length (row_bytes r.clustering r.value) in
    omega (
      arith,
      start_most (block_start start end_) next rows (by (ends_block start end_)),
      length-append (row_bytes r.clustering r.value) (rows_bytes rows),
    )
  where
    by : (t : Bool) → (if t then end_ else start) ≤ end_ + length (row_bytes r.clustering r.value)
    by true = omega arith
    by false = omega (arith, low)

starts_most : (at : ℕ) (rows : List Row) → start_among at rows ≤ at + length (rows_bytes rows)
starts_most at [] = omega arith
starts_most at (r ∷ rows) =
    omega (
      arith,
      start_most 0 (at + length (row_bytes r.clustering r.value)) rows (omega arith),
      length-append (row_bytes r.clustering r.value) (rows_bytes rows),
    )

-- what is held of a partition when a block begins, or none
module _ (s : CurrentPartition) (end_ : ℕ) where
  abbrev at_block : Bool → CurrentPartition
  at_block t = if t then record s { start = end_; indexed = true } else s

  block_open : (t : Bool) → (at_block t).is_open ≡ s.is_open
  block_open true = refl
  block_open false = refl

  block_key : (t : Bool) → (at_block t).key ≡ s.key
  block_key true = refl
  block_key false = refl

  block_position : (t : Bool) → (at_block t).position ≡ s.position
  block_position true = refl
  block_position false = refl

  block_start_at : (t : Bool) → (at_block t).start ≡ (if t then end_ else s.start)
  block_start_at true = refl
  block_start_at false = refl

  block_indexed : (t : Bool) (b : Block) (bs : List Block) → s.indexed ≡ has_blocks bs → (at_block t).indexed ≡ has_blocks (bs ++ (if t then b ∷ [] else []))
  block_indexed true b [] is = refl
  block_indexed true b (x ∷ bs) is = refl
  block_indexed false b [] is = is
  block_indexed false b (x ∷ bs) is = is

module _ (s : TableWriter) (v : Flushing) (p : Partition) (c value : List ℕ) (f : Option Files) (h : WritesTable s (opened v p) f)
    (table : AreOfTable v.columns (v.closed ++ with_row p c value ∷ [])) (end_ : ℕ) (is_end : end_ ≡ s.files.listing.position - s.current.position) where
  abbrev type : Option ValueType
  type = v.columns.static_value

  abbrev held : IsHeld s.current type v.closed p
  held = h.current

  rows_are : AreRows v.columns p.rows
  rows_are = (are_parted v.columns v.closed (p ∷ []) h.table.are).1.2

  end_is : end_ ≡ rows_at type p + length (rows_bytes p.rows)
  end_is =
      omega (arith, is_end, h.grows.position, held.position, length-append (data_bytes type v.closed) (opened_bytes type p), opened_long type p)

  pub end_some : (0 < end_) × (end_ < 2 ^ 40) × (s.current.position ≤ s.files.listing.position)
  end_some = (
    omega (arith, end_is),
    omega (arith, is_end, place_few s (opened v p) f h),
    omega (arith, h.grows.position, held.position, length-append (data_bytes type v.closed) (opened_bytes type p)),
  )

  -- the block that the row begins
  abbrev by_parts : List ℕ → ℕ → ℕ → List Block
  by_parts last start end' = if has_some last && ends_block start end' then block_of last c end' ∷ [] else []

  abbrev starts : List ℕ → ℕ → ℕ → ℕ
  starts last start end' = if has_some last && ends_block start end' then end' else start

  next_are : blocks_of type (with_row p c value) ≡ blocks_of type p ++ blocks_next s.current c end_
  next_are =
      blocks_next_are v.columns type p c value rows_are
      ∙ sym (ap (λ (l : List ℕ). blocks_of type p ++ by_parts l s.current.start end_) held.last
      ∙ ap (λ (n : ℕ). blocks_of type p ++ by_parts (last_clustering p.rows) n end_) held.start
      ∙ ap (λ (n : ℕ). blocks_of type p ++ by_parts (last_clustering p.rows) (last_start type p) n) end_is)

  starts_are : starts s.current.last s.current.start end_ ≡ last_start type (with_row p c value)
  starts_are =
      ap (λ (l : List ℕ). starts l s.current.start end_) held.last
      ∙ ap (λ (n : ℕ). starts (last_clustering p.rows) n end_) held.start
      ∙ ap (λ (n : ℕ). starts (last_clustering p.rows) (last_start type p) n) end_is
      ∙ sym (start_next v.columns type p c value rows_are)

  -- it may be added
  pub ready : begins_block s.current end_ ≡ true → GoesBehind s.files.rows (growing_of (opened v p)).rows (block_of s.current.last c end_)
      × AreBlocks (blocks_of type p ++ block_of s.current.last c end_ ∷ []) × (string_cmp s.current.last c ≡ Less)
  ready begins =
      let b = block_of s.current.last c end_ in
      let one = placed_at type (length (data_bytes type v.closed)) (with_row p c value) in
      let done = all_indexed (placed type v.closed) in
      let here : blocks_of type (with_row p c value) ≡ blocks_of type p ++ b ∷ [] =
      next_are ∙ ap (λ (t : Bool). blocks_of type p ++ (if t then b ∷ [] else [])) begins in
      let lists = subst AreBlockLists (indexed_closed type v.closed (with_row p c value)) (are_lists v.columns (v.closed ++ with_row p c value ∷ []) table) in
      let fit = blocks_fit done one (blocks_of type p) b (subst (λ (bs : List Block). AreBlockLists (done ++ row_indexed one bs)) here lists) here in
      let last = last_block (blocks_of type p) b fit.0 in
      (record { writes = h.grows.rows; behind = last.0; few = fit.1 }, fit.0, last.1.above)

  pub start_few : s.current.start < 2 ^ 60
  start_few = omega (arith, held.start, starts_most (rows_at type p) p.rows, end_is, end_some.1)

  -- what is held then
  pub next_writes : (s' : TableWriter) (f' : Option Files) → 0 < length c
      → Grows s'.files (with_bytes (with_blocks (growing_of (opened v p)) (blocks_next s.current c end_)) (rows_bytes (rows_given c value))) f'
      → s'.generation ≡ s.generation → s'.static_value ≡ s.static_value → s'.text ≡ s.text → s'.current ≡ record (with_block_at s.current end_) { last = c }
      → s'.counts ≡ record { partitions = s.counts.partitions; rows = s.counts.rows + 1 } → WritesTable s' (opened v (with_row p c value)) f'
  next_writes s' f' some grows generation static text current counts = record {
    generation = generation ∙ h.generation;
    static = static ∙ h.static;
    text = text ∙ h.text;
    table = table;
    grows = subst (λ (t : Growing). Grows s'.files t f') (next_growing v p c value (blocks_next s.current c end_) some next_are) grows;
    current = record {
      is_open = ap (λ (x : CurrentPartition). x.is_open) current ∙ block_open s.current end_ (begins_block s.current end_) ∙ held.is_open;
      key = ap (λ (x : CurrentPartition). x.key) current ∙ block_key s.current end_ (begins_block s.current end_) ∙ held.key;
      position = ap (λ (x : CurrentPartition). x.position) current ∙ block_position s.current end_ (begins_block s.current end_) ∙ held.position;
      last = ap (λ (x : CurrentPartition). x.last) current ∙ sym (last_next p.rows (record { clustering = c; value = value }));
      start = ap (λ (x : CurrentPartition). x.start) current ∙ block_start_at s.current end_ (begins_block s.current end_) ∙ starts_are;
      indexed =
          ap (λ (x : CurrentPartition). x.indexed) current
          ∙ block_indexed s.current end_ (begins_block s.current end_) (block_of s.current.last c end_) (blocks_of type p) held.indexed
          ∙ ap has_blocks (sym next_are);
    };
    counts = record {
      partitions = omega (
        arith,
        ap (λ (x : Counts). x.partitions) counts,
        h.counts.partitions,
        length-append v.closed (p ∷ []),
        length-append v.closed (with_row p c value ∷ []),
      );
      rows = omega (
        arith,
        ap (λ (x : Counts). x.rows) counts,
        h.counts.rows,
        rows_all_parted v.closed (p ∷ []),
        rows_all_parted v.closed (with_row p c value ∷ []),
        length-append p.rows (record { clustering = c; value = value } ∷ []),
      );
    };
  }

  pub next_torn : (f' : Option Files) → 0 < length c
      → Torn (with_bytes (with_blocks (growing_of (opened v p)) (blocks_next s.current c end_)) (rows_bytes (rows_given c value))) f'
      → Torn (growing_of (opened v (with_row p c value))) f'
  next_torn f' some torn = subst (λ (t : Growing). Torn t f') (next_growing v p c value (blocks_next s.current c end_) some next_are) torn

  pub block_torn : (f' : Option Files) → 0 < length c → Torn (with_blocks (growing_of (opened v p)) (blocks_next s.current c end_)) f'
      → Torn (growing_of (opened v (with_row p c value))) f'
  block_torn f' some torn =
      let t = with_blocks (growing_of (opened v p)) (blocks_next s.current c end_) in
      next_torn f' some
      (cut_on t _ _ f' (rows_bytes (rows_given c value), refl) (all_prefix (early_rows t.rows)) (all_prefix (early_index t.index.partitions)) torn)
