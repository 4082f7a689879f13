-- Partitions and rows with more of them behind.
use Rattle.std.proofs.Common.{◌≡◌, ℕ, ◌+◌, List, [], ◌∷◌, ◌++◌, length, Option, arith, refl, sym, ◌∙◌, ap}
use Rattle.std.proofs.lemmas.List.{append_assoc, append-nil, length-append}
use Rattle.std.specs.declared.cmp.Ordering.TheVariants.{Less}
use Rattle.key_types.specs.Columns.{Columns}
use Rattle.key_types.specs.Table.{Entry, string_cmp}
use Rattle.key_types.specs.declared.schema.ValueType.{ValueType}
use Rattle.data_file.specs.Listing.{ArePartitions, AreRows, IsRow, Partition, Row, data_bytes, partition_bytes, row_bytes, rows_bytes}
use Rattle.row_index.specs.Entries.{Block, BlockList}
use Rattle.row_index.specs.File.{rows_from}
use Rattle.partition_index.specs.Entries.{Numbered, string_bytes}
use Rattle.partition_index.specs.Writing.{numbered}
use Rattle.table_files.specs.Blocks.{block_begun, block_start, blocks_behind}
use Rattle.table_files.specs.Indexes.{all_indexed, number_at, numbered_from, placed_at, placed_from, row_indexed}
use Rattle.table_files.specs.Standing.{RowsAscend, StringsAscend, entries_in, row_entries, static_entries}
use Rattle.table_files.proofs.Blocked.{clusterings}
use Rattle.table_files.proofs.Numbering.{keys, rows_of_one}
use Rattle.flush_walk.specs.Given.{clustering_behind, last_clustering, start_behind}

-- ---- partitions

module _ (columns : Columns) where
  pub are_parted : (xs ys : List Partition) → ArePartitions columns (xs ++ ys) → ArePartitions columns xs × ArePartitions columns ys
  are_parted [] ys h = (tt, h)
  are_parted (x ∷ xs) ys h = let rest = are_parted xs ys h.3 in ((h.0, h.1, h.2, rest.0), rest.1)

  pub are_joined : (xs ys : List Partition) → ArePartitions columns xs → ArePartitions columns ys → ArePartitions columns (xs ++ ys)
  are_joined [] ys h k = k
  are_joined (x ∷ xs) ys h k = (h.0, h.1, h.2, are_joined xs ys h.3 k)

  pub rows_with : (rows : List Row) (row : Row) → AreRows columns rows → IsRow columns row.clustering row.value → AreRows columns (rows ++ row ∷ [])
  rows_with [] row h is = (is, tt)
  rows_with (r ∷ rows) row h is = (h.0, rows_with rows row h.1 is)

pub rows_parted : (xs ys : List Partition) → RowsAscend (xs ++ ys) → RowsAscend xs × RowsAscend ys
rows_parted [] ys h = (tt, h)
rows_parted (x ∷ xs) ys h = let rest = rows_parted xs ys h.2 in ((h.0, h.1, rest.0), rest.1)

pub rows_joined : (xs ys : List Partition) → RowsAscend xs → RowsAscend ys → RowsAscend (xs ++ ys)
rows_joined [] ys h k = k
rows_joined (x ∷ xs) ys h k = (h.0, h.1, rows_joined xs ys h.2 k)

-- one partition more, whose string is above the last
pub keys_more : (closed : List Partition) (p q : Partition) → StringsAscend (keys (closed ++ p ∷ [])) → string_cmp p.key q.key ≡ Less
    → StringsAscend (keys ((closed ++ p ∷ []) ++ q ∷ []))
keys_more [] p q h above = (above, tt)
keys_more (x ∷ []) p q h above = (h.0, (above, tt))
keys_more (x ∷ y ∷ closed) p q h above = (h.0, keys_more (y ∷ closed) p q h.1 above)

-- the last partition in place of one with its string
pub keys_same : (closed : List Partition) (p q : Partition) → q.key ≡ p.key → keys (closed ++ q ∷ []) ≡ keys (closed ++ p ∷ [])
keys_same [] p q e = ap (λ (k : List ℕ). k ∷ []) e
keys_same (x ∷ closed) p q e = ap (λ (ks : List (List ℕ)). x.key ∷ ks) (keys_same closed p q e)

pub entries_parted_by : (xs ys : List Partition) → entries_in (xs ++ ys) ≡ entries_in xs ++ entries_in ys
entries_parted_by [] ys = refl
entries_parted_by (x ∷ xs) ys =
    let first = static_entries x.key x.static_part in
    let rows = row_entries x.key x.rows in
    ap (λ (es : List Entry). first ++ (rows ++ es)) (entries_parted_by xs ys)
    ∙ ap (λ (es : List Entry). first ++ es) (sym (append_assoc rows (entries_in xs) (entries_in ys)))
    ∙ sym (append_assoc first (rows ++ entries_in xs) (entries_in ys))

pub row_entries_more : (key : List ℕ) (rows : List Row) (row : Row) → row_entries key (rows ++ row ∷ []) ≡ row_entries key rows ++ (key ++ row.clustering, row.value) ∷ []
row_entries_more key [] row = refl
row_entries_more key (r ∷ rows) row = ap (λ (es : List Entry). (key ++ r.clustering, r.value) ∷ es) (row_entries_more key rows row)

pub data_parted : (static : Option ValueType) (xs ys : List Partition) → data_bytes static (xs ++ ys) ≡ data_bytes static xs ++ data_bytes static ys
data_parted static [] ys = refl
data_parted static (x ∷ xs) ys =
    ap (λ (bs : List ℕ). partition_bytes static x ++ bs) (data_parted static xs ys) ∙ sym (append_assoc (partition_bytes static x) (data_bytes static xs) (data_bytes static ys))

pub rows_bytes_more : (rows more : List Row) → rows_bytes (rows ++ more) ≡ rows_bytes rows ++ rows_bytes more
rows_bytes_more [] more = refl
rows_bytes_more (row ∷ rows) more =
    ap (λ (bs : List ℕ). row_bytes row.clustering row.value ++ bs) (rows_bytes_more rows more)
    ∙ sym (append_assoc (row_bytes row.clustering row.value) (rows_bytes rows) (rows_bytes more))

-- ---- rows

-- one row more, above the last
pub ascend_behind : (before : List ℕ) (rows : List Row) (row : Row) → StringsAscend (before ∷ clusterings rows) → string_cmp (clustering_behind before rows) row.clustering ≡ Less
    → StringsAscend (before ∷ clusterings (rows ++ row ∷ []))
ascend_behind before [] row h above = (above, tt)
ascend_behind before (r ∷ rows) row h above = (h.0, ascend_behind r.clustering rows row h.1 above)

pub ascend_with : (rows : List Row) (row : Row) → StringsAscend (clusterings rows) → string_cmp (last_clustering rows) row.clustering ≡ Less → StringsAscend (clusterings (rows ++ row ∷ []))
ascend_with [] row h above = tt
ascend_with (r ∷ rows) row h above = ascend_behind r.clustering rows row h above

pub clustering_with : (before : List ℕ) (rows : List Row) (row : Row) → clustering_behind before (rows ++ row ∷ []) ≡ row.clustering
clustering_with before [] row = refl
clustering_with before (r ∷ rows) row = clustering_with r.clustering rows row

-- ---- blocks

place_on : (end_ : ℕ) (r : Row) (rows : List Row)
    → (end_ + length (row_bytes r.clustering r.value)) + length (rows_bytes rows) ≡ end_ + length (row_bytes r.clustering r.value ++ rows_bytes rows)
place_on end_ r rows = omega (arith, length-append (row_bytes r.clustering r.value) (rows_bytes rows))

pub blocks_behind_more : (start : ℕ) (before : List ℕ) (end_ : ℕ) (rows : List Row) (row : Row)
    → blocks_behind start before end_ (rows ++ row ∷ [])
    ≡ blocks_behind start before end_ rows ++ block_begun (start_behind start end_ rows) (clustering_behind before rows) (end_ + length (rows_bytes rows)) row.clustering
blocks_behind_more start before end_ [] row =
    let here : end_ ≡ end_ + 0 = omega arith in
    append-nil (block_begun start before end_ row.clustering) ∙ ap (λ (n : ℕ). block_begun start before n row.clustering) here
blocks_behind_more start before end_ (r ∷ rows) row =
    let next = end_ + length (row_bytes r.clustering r.value) in
    let from = block_start start end_ in
    let first = block_begun start before end_ r.clustering in
    ap (λ (bs : List Block). first ++ bs) (blocks_behind_more from r.clustering next rows row)
    ∙ sym (append_assoc first (blocks_behind from r.clustering next rows) (block_begun (start_behind from next rows) (clustering_behind r.clustering rows) (next + length (rows_bytes rows)) row.clustering))
    ∙ ap (λ (n : ℕ). (first ++ blocks_behind from r.clustering next rows) ++ block_begun (start_behind from next rows) (clustering_behind r.clustering rows) n row.clustering) (place_on end_ r rows)

pub start_behind_more : (start end_ : ℕ) (rows : List Row) (row : Row)
    → start_behind start end_ (rows ++ row ∷ []) ≡ block_start (start_behind start end_ rows) (end_ + length (rows_bytes rows))
start_behind_more start end_ [] row = let here : end_ ≡ end_ + 0 = omega arith in ap (λ (n : ℕ). block_start start n) here
start_behind_more start end_ (r ∷ rows) row =
    let next = end_ + length (row_bytes r.clustering r.value) in
    let from = block_start start end_ in
    start_behind_more from next rows row ∙ ap (λ (n : ℕ). block_start (start_behind from next rows) n) (place_on end_ r rows)

-- ---- partitions with their places

pub placed_parted : (static : Option ValueType) (at : ℕ) (xs ys : List Partition)
    → placed_from static at (xs ++ ys) ≡ placed_from static at xs ++ placed_from static (at + length (data_bytes static xs)) ys
placed_parted static at [] ys = let here : at ≡ at + 0 = omega arith in ap (λ (n : ℕ). placed_from static n ys) here
placed_parted static at (x ∷ xs) ys =
    let next = at + length (partition_bytes static x) in
    let place : next + length (data_bytes static xs) ≡ at + length (partition_bytes static x ++ data_bytes static xs) =
    omega (arith, length-append (partition_bytes static x) (data_bytes static xs)) in
    ap (λ (ls : List BlockList). placed_at static at x ∷ ls) (placed_parted static next xs ys)
    ∙ ap (λ (n : ℕ). placed_at static at x ∷ (placed_from static next xs ++ placed_from static n ys)) place

pub indexed_parted : (xs ys : List BlockList) → all_indexed (xs ++ ys) ≡ all_indexed xs ++ all_indexed ys
indexed_parted [] ys = refl
indexed_parted (x ∷ xs) ys =
    ap (λ (ls : List BlockList). row_indexed x x.blocks ++ ls) (indexed_parted xs ys) ∙ sym (append_assoc (row_indexed x x.blocks) (all_indexed xs) (all_indexed ys))

pub numbered_parted : (at : ℕ) (xs ys : List BlockList)
    → numbered_from at (xs ++ ys) ≡ numbered_from at xs ++ numbered_from (at + length (rows_from at (all_indexed xs))) ys
numbered_parted at [] ys = let here : at ≡ at + 0 = omega arith in ap (λ (n : ℕ). numbered_from n ys) here
numbered_parted at (x ∷ xs) ys =
    let first = length (rows_from at (row_indexed x x.blocks)) in
    let one = numbered x.string (number_at x x.blocks at) in
    let place : (at + first) + length (rows_from (at + first) (all_indexed xs)) ≡ at + length (rows_from at (row_indexed x x.blocks ++ all_indexed xs)) =
    omega (arith, rows_of_one at x x.blocks (all_indexed xs)) in
    ap (λ (ns : List Numbered). one ∷ ns) (numbered_parted (at + first) xs ys)
    ∙ ap (λ (n : ℕ). one ∷ (numbered_from (at + first) xs ++ numbered_from n ys)) place

pub string_bytes_parted : (xs ys : List Numbered) → string_bytes (xs ++ ys) ≡ string_bytes xs + string_bytes ys
string_bytes_parted [] ys = omega arith
string_bytes_parted (x ∷ xs) ys = omega (arith, string_bytes_parted xs ys)
