-- What the files are given with one entry more, and when a partition ends.
use Rattle.std.proofs.Common.{◌≡◌, ℕ, ◌+◌, ◌<◌, Bool, true, List, [], ◌∷◌, ◌++◌, length, Option, arith, refl, sym, ◌∙◌, ap}
use Rattle.std.specs.Prelude.{◌&&◌, if◌then◌else◌}
use Rattle.std.proofs.lemmas.List.{append_assoc, append-nil, length-append}
use Rattle.key_types.specs.Columns.{Columns}
use Rattle.key_types.specs.declared.schema.ValueType.{ValueType}
use Rattle.data_file.specs.Listing.{AreRows, Partition, Row, data_bytes, end_bytes, head_bytes, partition_bytes, row_bytes, rows_bytes, static_part_bytes}
use Rattle.partition_index.specs.Writing.{numbered}
use Rattle.row_index.specs.Entries.{Block, BlockList}
use Rattle.row_index.specs.File.{row_file}
use Rattle.row_index.specs.Writing.{block_of}
use Rattle.table_files.specs.Blocks.{block_begun, block_start, blocks_among, blocks_behind, blocks_of, ends_block, rows_at}
use Rattle.table_files.specs.Indexes.{all_indexed, all_numbered, number_at, placed, placed_at, row_indexed}
use Rattle.table_files.proofs.Strings.{string_some}
use Rattle.flush_walk.specs.Current.{number_turned, with_blocks}
use Rattle.flush_walk.specs.Entries.{has_some}
use Rattle.flush_walk.specs.Given.{Flushing, Given, begun_with, clustering_behind, growing_of, last_clustering, last_start, opened, opened_bytes, rows_given, start_among, start_behind, turned, with_row}
use Rattle.flush_walk.specs.Growing.{with_bytes}
use Rattle.flush_walk.proofs.Lists.{blocks_behind_more, clustering_with, data_parted, indexed_parted, numbered_parted, placed_parted, rows_bytes_more, start_behind_more}

-- ---- a partition begins

module _ (static : Option ValueType) (partition value : List ℕ) where
  pub blocks_begun : (c : List ℕ) → blocks_of static (begun_with (record { partition = partition; clustering = c; value = value })) ≡ []
  blocks_begun [] = refl
  blocks_begun (b ∷ c) = refl

  pub start_begun : (c : List ℕ) → last_start static (begun_with (record { partition = partition; clustering = c; value = value })) ≡ 0
  start_begun [] = refl
  start_begun (b ∷ c) = refl

pub last_begun : (c value : List ℕ) → last_clustering (rows_given c value) ≡ c
last_begun [] value = refl
last_begun (b ∷ c) value = refl

pub begun_growing : (w : Flushing) (e : Given)
    → with_bytes (growing_of (turned w)) (opened_bytes w.columns.static_value (begun_with e)) ≡ growing_of (opened (turned w) (begun_with e))
begun_growing w e =
    let static = w.columns.static_value in
    let now = growing_of (opened (turned w) (begun_with e)) in
    let bytes = opened_bytes static (begun_with e) in
    let listing : (data_bytes static (turned w).closed ++ []) ++ bytes ≡ data_bytes static (turned w).closed ++ bytes =
    ap (λ (bs : List ℕ). bs ++ bytes) (append-nil (data_bytes static (turned w).closed)) in
    let begun : ◌≡◌ {A = List Block} [] (blocks_of static (begun_with e)) = sym (blocks_begun static e.partition e.value e.clustering) in
    λ i. record now { listing = listing i; rows = record now.rows { begun = begun i } }

-- ---- it goes on

some_behind : (columns : Columns) (row : Row) (rows : List Row) → AreRows columns (row ∷ rows) → has_some (clustering_behind row.clustering rows) ≡ true
some_behind columns row [] h = by row.clustering (string_some columns.clustering row.clustering h.0.0)
  where
    by : (c : List ℕ) → 0 < length c → has_some c ≡ true
    by [] some = absurd (omega (arith, some))
    by (b ∷ c) some = refl
some_behind columns row (r ∷ rows) h = some_behind columns r rows h.1

module _ (columns : Columns) (static : Option ValueType) (p : Partition) (c value : List ℕ) where
  abbrev at : ℕ
  at = rows_at static p

  abbrev row : Row
  row = record { clustering = c; value = value }

  -- the block that the next row begins, where it begins one
  abbrev next : List Row → List Block
  next rows =
      let end_ = at + length (rows_bytes rows) in
      if has_some (last_clustering rows) && ends_block (start_among at rows) end_ then block_of (last_clustering rows) c end_ ∷ [] else []

  blocks_next_by : (rows : List Row) → AreRows columns rows → blocks_among at (rows ++ row ∷ []) ≡ blocks_among at rows ++ next rows
  blocks_next_by [] are = refl
  blocks_next_by (r ∷ rows) are =
      let end_ = at + length (row_bytes r.clustering r.value) in
      let place : end_ + length (rows_bytes rows) ≡ at + length (row_bytes r.clustering r.value ++ rows_bytes rows) = omega (arith, length-append (row_bytes r.clustering r.value) (rows_bytes rows)) in
      let start = start_behind 0 end_ rows in
      let before = clustering_behind r.clustering rows in
      blocks_behind_more 0 r.clustering end_ rows row
      ∙ ap (λ (n : ℕ). blocks_behind 0 r.clustering end_ rows ++ block_begun start before n c) place
      ∙ ap (λ (t : Bool). blocks_behind 0 r.clustering end_ rows
      ++ (if t && ends_block start (at + length (rows_bytes (r ∷ rows))) then block_of before c (at + length (rows_bytes (r ∷ rows))) ∷ [] else [])) (sym (some_behind columns r rows are))

  pub blocks_next_are : AreRows columns p.rows → blocks_of static (with_row p c value) ≡ blocks_of static p ++ next p.rows
  blocks_next_are are = blocks_next_by p.rows are

  -- where the last block begins then
  start_next_by : (rows : List Row) → AreRows columns rows → start_among at (rows ++ row ∷ [])
      ≡ (if has_some (last_clustering rows) && ends_block (start_among at rows) (at + length (rows_bytes rows)) then at + length (rows_bytes rows) else start_among at rows)
  start_next_by [] are = refl
  start_next_by (r ∷ rows) are =
      let end_ = at + length (row_bytes r.clustering r.value) in
      let place : end_ + length (rows_bytes rows) ≡ at + length (row_bytes r.clustering r.value ++ rows_bytes rows) = omega (arith, length-append (row_bytes r.clustering r.value) (rows_bytes rows)) in
      let start = start_behind 0 end_ rows in
      start_behind_more 0 end_ rows row
      ∙ ap (λ (n : ℕ). block_start start n) place
      ∙ ap (λ (t : Bool). if t && ends_block start (at + length (rows_bytes (r ∷ rows))) then at + length (rows_bytes (r ∷ rows)) else start) (sym (some_behind columns r rows are))

  pub start_next : AreRows columns p.rows → last_start static (with_row p c value)
      ≡ (if has_some (last_clustering p.rows) && ends_block (last_start static p) (at + length (rows_bytes p.rows)) then at + length (rows_bytes p.rows) else last_start static p)
  start_next are = start_next_by p.rows are

pub last_next : (rows : List Row) (last : Row) → last_clustering (rows ++ last ∷ []) ≡ last.clustering
last_next [] last = refl
last_next (r ∷ rows) last = clustering_with r.clustering rows last

pub opened_next : (static : Option ValueType) (p : Partition) (c value : List ℕ) → opened_bytes static (with_row p c value) ≡ opened_bytes static p ++ row_bytes c value
opened_next static p c value =
    let head = head_bytes p.key in
    let part = static_part_bytes static p.static_part in
    let rows = rows_bytes p.rows in
    let last = row_bytes c value in
    ap (λ (bs : List ℕ). head ++ (part ++ bs)) (rows_bytes_more p.rows (record { clustering = c; value = value } ∷ []) ∙ ap (λ (bs : List ℕ). rows ++ bs) (append-nil last))
    ∙ ap (λ (bs : List ℕ). head ++ bs) (sym (append_assoc part rows last))
    ∙ sym (append_assoc head (part ++ rows) last)

pub opened_long : (static : Option ValueType) (p : Partition) → length (opened_bytes static p) ≡ rows_at static p + length (rows_bytes p.rows)
opened_long static p =
    let head = head_bytes p.key in
    let part = static_part_bytes static p.static_part in
    omega (arith, length-append head (part ++ rows_bytes p.rows), length-append part (rows_bytes p.rows), length-append head part)

row_written : (c value : List ℕ) → 0 < length c → rows_bytes (rows_given c value) ≡ row_bytes c value
row_written [] value some = absurd (omega (arith, some))
row_written (b ∷ c) value some = append-nil (row_bytes (b ∷ c) value)

pub next_growing : (v : Flushing) (p : Partition) (c value : List ℕ) (bs : List Block) → 0 < length c
    → blocks_of v.columns.static_value (with_row p c value) ≡ blocks_of v.columns.static_value p ++ bs
    → with_bytes (with_blocks (growing_of (opened v p)) bs) (rows_bytes (rows_given c value)) ≡ growing_of (opened v (with_row p c value))
next_growing v p c value bs some is =
    let static = v.columns.static_value in
    let now = growing_of (opened v (with_row p c value)) in
    let closed = data_bytes static v.closed in
    let listing : (closed ++ opened_bytes static p) ++ rows_bytes (rows_given c value) ≡ closed ++ opened_bytes static (with_row p c value) =
    ap (λ (x : List ℕ). (closed ++ opened_bytes static p) ++ x) (row_written c value some) ∙ append_assoc closed (opened_bytes static p) (row_bytes c value)
    ∙ ap (λ (x : List ℕ). closed ++ x) (sym (opened_next static p c value)) in
    λ i. record now { listing = listing i; rows = record now.rows { begun = sym is i } }

-- ---- it ends

pub listing_closed : (static : Option ValueType) (closed : List Partition) (p : Partition)
    → (data_bytes static closed ++ opened_bytes static p) ++ end_bytes ≡ data_bytes static (closed ++ p ∷ []) ++ []
listing_closed static closed p =
    let head = head_bytes p.key in
    let part = static_part_bytes static p.static_part in
    let rows = rows_bytes p.rows in
    let front = data_bytes static closed in
    append_assoc front (opened_bytes static p) end_bytes
    ∙ ap (λ (bs : List ℕ). front ++ bs) (append_assoc head (part ++ rows) end_bytes ∙ ap (λ (bs : List ℕ). head ++ bs) (append_assoc part rows end_bytes))
    ∙ ap (λ (bs : List ℕ). front ++ bs) (sym (append-nil (partition_bytes static p)))
    ∙ sym (data_parted static closed (p ∷ []))
    ∙ sym (append-nil (data_bytes static (closed ++ p ∷ [])))

one_more : (static : Option ValueType) (closed : List Partition) (p : Partition)
    → placed static (closed ++ p ∷ []) ≡ placed static closed ++ placed_at static (length (data_bytes static closed)) p ∷ []
one_more static closed p =
    let here : 0 + length (data_bytes static closed) ≡ length (data_bytes static closed) = omega arith in
    placed_parted static 0 closed (p ∷ []) ∙ ap (λ (n : ℕ). placed static closed ++ placed_at static n p ∷ []) here

pub indexed_closed : (static : Option ValueType) (closed : List Partition) (p : Partition)
    → all_indexed (placed static (closed ++ p ∷ []))
    ≡ all_indexed (placed static closed) ++ row_indexed (placed_at static (length (data_bytes static closed)) p) (blocks_of static p)
indexed_closed static closed p =
    let one = placed_at static (length (data_bytes static closed)) p in
    ap all_indexed (one_more static closed p) ∙ indexed_parted (placed static closed) (one ∷ [])
    ∙ ap (λ (ls : List BlockList). all_indexed (placed static closed) ++ ls) (append-nil (row_indexed one (blocks_of static p)))

pub numbered_closed : (v : Flushing) (p : Partition)
    → all_numbered (placed v.columns.static_value (v.closed ++ p ∷ [])) ≡ all_numbered (placed v.columns.static_value v.closed) ++ numbered p.key (number_turned v p) ∷ []
numbered_closed v p =
    let static = v.columns.static_value in
    let one = placed_at static (length (data_bytes static v.closed)) p in
    let done = placed static v.closed in
    let here : 0 + length (row_file (all_indexed done)) ≡ length (row_file (all_indexed done)) = omega arith in
    ap all_numbered (one_more static v.closed p) ∙ numbered_parted 0 done (one ∷ [])
    ∙ ap (λ (n : ℕ). all_numbered done ++ numbered p.key (number_at one (blocks_of static p) n) ∷ []) here
