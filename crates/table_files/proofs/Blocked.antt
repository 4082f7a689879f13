-- The blocks of a partition: they are those of a row index, and no more than its rows.
use Rattle.std.proofs.Common.{◌≡◌, ◌≢◌, ℕ, ◌+◌, ◌*◌, ◌^◌, ◌<◌, ◌≤◌, Bool, true, false, List, [], ◌∷◌, ◌++◌, length, map, Option, None, Some, arith, refl, sym, ◌∙◌, ap, subst}
use Rattle.std.proofs.lemmas.List.{length-append}
use Rattle.std.proofs.lemmas.Cmp.{nat_list_cmp_total}
use Rattle.std.specs.Prelude.{if◌then◌else◌}
use Rattle.std.specs.declared.cmp.Ordering.TheVariants.{Less}
use Rattle.key_types.specs.Columns.{Columns, IsValueOf}
use Rattle.key_types.specs.Table.{string_cmp}
use Rattle.key_types.specs.declared.schema.ValueType.{ValueType}
use Rattle.key_types.specs.declared.schema.ValueType.TheVariants.{Text, Blob}
use Rattle.key_decode.proofs.Known.{string_length}
use Rattle.length_prefix.specs.Counted.{counted}
use Rattle.data_file.specs.Listing.{AreRows, ArePartitions, FitsStaticType, Partition, Row, data_bytes, end_bytes, head_bytes, partition_bytes, row_bytes, rows_bytes, static_bytes, static_part_bytes}
use Rattle.row_index.specs.Entries.{AreBlocks, Block, IsBeforeNextBlock, IsBlock, block_bytes}
use Rattle.row_index.specs.Writing.{block_of}
use Rattle.table_files.specs.Blocks.{block_begun, block_start, blocks_among, blocks_behind, blocks_of, ends_block, rows_at}
use Rattle.table_files.specs.Standing.{RowsAscend, StringsAscend, entries_in, row_entries, static_entries}
use Rattle.table_files.proofs.Strings.{never_itself, string_bytes_small}

abbrev pub clusterings : List Row → List (List ℕ)
clusterings rows = map (λ (row : Row). row.clustering) rows

-- ---- how long the parts of a partition are

value_short : (type : ValueType) (value : List ℕ) → IsValueOf type value → length value ≤ 65535
value_short Text value is = is.0
value_short Blob value is = is

static_short : (static : Option ValueType) (value : Option (List ℕ)) → FitsStaticType static value → length (static_part_bytes static value) ≤ 65538
static_short None None is = omega arith
static_short None (Some value) is = absurd is
static_short (Some type) None is = omega arith
static_short (Some type) (Some value) is = omega (arith, value_short type value is)

pub row_long : (clustering value : List ℕ) → length (row_bytes clustering value) ≡ length clustering + length value + 5
row_long clustering value = omega (arith, length-append (counted clustering) (counted value))

module _ (columns : Columns) where
  rows_short : (key : List ℕ) (rows : List Row) → AreRows columns rows → length (rows_bytes rows) ≤ 66564 * length (row_entries key rows)
  rows_short key [] are = omega arith
  rows_short key (row ∷ rows) are =
      omega (
        arith,
        rows_short key rows are.1,
        string_length columns.clustering row.clustering are.0.0,
        value_short columns.value row.value are.0.1,
        row_long row.clustering row.value,
        length-append (row_bytes row.clustering row.value) (rows_bytes rows),
      )

  -- a partition has an entry
  some_entry : (p : Partition) → (p.static_part ≡ None → p.rows ≢ []) → 0 < length (static_entries p.key p.static_part) + length (row_entries p.key p.rows)
  some_entry p some = by p.static_part p.rows some
    where
      by : (static : Option (List ℕ)) (rows : List Row) → (static ≡ None → rows ≢ []) → 0 < length (static_entries p.key static) + length (row_entries p.key rows)
      by (Some value) rows some = omega arith
      by None [] some = absurd (some refl refl)
      by None (row ∷ rows) some = omega arith

  pub entries_parted : (p : Partition) (ps : List Partition)
      → length (entries_in (p ∷ ps)) ≡ length (static_entries p.key p.static_part) + length (row_entries p.key p.rows) + length (entries_in ps)
  entries_parted p ps =
      omega (
        arith,
        length-append (static_entries p.key p.static_part) (row_entries p.key p.rows ++ entries_in ps),
        length-append (row_entries p.key p.rows) (entries_in ps),
      )

  pub partition_long : (p : Partition) → length (partition_bytes columns.static_value p) ≡ rows_at columns.static_value p + length (rows_bytes p.rows) + 1
  partition_long p =
      let static = static_part_bytes columns.static_value p.static_part in
      omega (
        arith,
        length-append (head_bytes p.key) (static ++ (rows_bytes p.rows ++ end_bytes)),
        length-append static (rows_bytes p.rows ++ end_bytes),
        length-append (rows_bytes p.rows) end_bytes,
        length-append (head_bytes p.key) static,
      )

  -- Data.db has at most so many bytes for each entry
  pub data_short : (ps : List Partition) → ArePartitions columns ps → RowsAscend ps → length (data_bytes columns.static_value ps) ≤ 140000 * length (entries_in ps)
  data_short [] are rows = omega arith
  data_short (p ∷ ps) are rows =
      omega (
        arith,
        data_short ps are.3 rows.2,
        rows_short p.key p.rows are.2,
        some_entry p rows.0,
        entries_parted p ps,
        partition_long p,
        length-append (head_bytes p.key) (static_part_bytes columns.static_value p.static_part),
        string_length columns.partition p.key are.0,
        static_short columns.static_value p.static_part are.1,
        length-append (partition_bytes columns.static_value p) (data_bytes columns.static_value ps),
      )

  -- there are no more partitions than entries
  pub partitions_few : (ps : List Partition) → RowsAscend ps → length ps ≤ length (entries_in ps)
  partitions_few [] rows = omega arith
  partitions_few (p ∷ ps) rows = omega (arith, partitions_few ps rows.2, some_entry p rows.0, entries_parted p ps)

  -- ---- the row before a block

  -- the row before the first of the blocks isn't below what the row before them all isn't below
  first_behind : (x : List ℕ) (start : ℕ) (before : List ℕ) (end_ : ℕ) (rows : List Row) → StringsAscend (before ∷ clusterings rows)
      → (string_cmp before x ≡ Less → ⊥) → IsBeforeNextBlock x (blocks_behind start before end_ rows)
  first_behind x start before end_ [] ascend unmet = tt
  first_behind x start before end_ (row ∷ rows) ascend unmet =
      by (ends_block start end_) (λ start'. first_behind x start' row.clustering (end_ + length (row_bytes row.clustering row.value)) rows ascend.1
      (λ low. unmet (nat_list_cmp_total.trans before row.clustering x ascend.0 low)))
    where
      by : (t : Bool) → ((start' : ℕ) → IsBeforeNextBlock x (blocks_behind start' row.clustering (end_ + length (row_bytes row.clustering row.value)) rows))
          → IsBeforeNextBlock x ((if t then block_of before row.clustering end_ ∷ [] else []) ++ blocks_behind (if t then end_ else start) row.clustering (end_ + length (row_bytes row.clustering row.value)) rows)
      by true rest = unmet
      by false rest = rest start

  -- ---- they are blocks

  behind_are : (start : ℕ) (before : List ℕ) (end_ : ℕ) (rows : List Row) → AreRows columns rows → StringsAscend (before ∷ clusterings rows)
      → 0 < end_ → end_ + length (rows_bytes rows) < 2 ^ 56 → AreBlocks (blocks_behind start before end_ rows)
  behind_are start before end_ [] are ascend some few = tt
  behind_are start before end_ (row ∷ rows) are ascend some few =
      let next = end_ + length (row_bytes row.clustering row.value) in
      by (ends_block start end_)
      (λ start'. behind_are start' row.clustering next rows are.1 ascend.1 (omega (arith, some)) (omega (arith, few, length-append (row_bytes row.clustering row.value) (rows_bytes rows))))
    where
      by : (t : Bool) → ((start' : ℕ) → AreBlocks (blocks_behind start' row.clustering (end_ + length (row_bytes row.clustering row.value)) rows))
          → AreBlocks ((if t then block_of before row.clustering end_ ∷ [] else []) ++ blocks_behind (if t then end_ else start) row.clustering (end_ + length (row_bytes row.clustering row.value)) rows)
      by true rest = (
        record {
          bytes = string_bytes_small columns.clustering row.clustering are.0.0;
          above = ascend.0;
          some = some;
          few = omega (arith, few);
        },
        first_behind row.clustering end_ row.clustering (end_ + length (row_bytes row.clustering row.value)) rows ascend.1 (never_itself row.clustering),
        rest end_,
      )
      by false rest = rest start

  pub among_are : (at : ℕ) (rows : List Row) → AreRows columns rows → StringsAscend (clusterings rows) → at + length (rows_bytes rows) < 2 ^ 56 → AreBlocks (blocks_among at rows)
  among_are at [] are ascend few = tt
  among_are at (row ∷ rows) are ascend few =
      behind_are 0 row.clustering (at + length (row_bytes row.clustering row.value)) rows are.1 ascend (omega arith) (omega (arith, few, length-append (row_bytes row.clustering row.value) (rows_bytes rows)))

  -- ---- their strings are those of rows

  behind_few : (key : List ℕ) (start : ℕ) (before : List ℕ) (end_ : ℕ) (rows : List Row) → AreRows columns rows → block_bytes (blocks_behind start before end_ rows) ≤ 1024 * length (row_entries key rows)
  behind_few key start before end_ [] are = omega arith
  behind_few key start before end_ (row ∷ rows) are =
      by (ends_block start end_) (λ start'. behind_few key start' row.clustering (end_ + length (row_bytes row.clustering row.value)) rows are.1)
    where
      by : (t : Bool) → ((start' : ℕ) → block_bytes (blocks_behind start' row.clustering (end_ + length (row_bytes row.clustering row.value)) rows) ≤ 1024 * length (row_entries key rows))
          → block_bytes ((if t then block_of before row.clustering end_ ∷ [] else []) ++ blocks_behind (if t then end_ else start) row.clustering (end_ + length (row_bytes row.clustering row.value)) rows)
          ≤ 1024 * length (row_entries key (row ∷ rows))
      by true rest = omega (arith, rest end_, string_length columns.clustering row.clustering are.0.0)
      by false rest = omega (arith, rest start)

  pub among_few : (key : List ℕ) (at : ℕ) (rows : List Row) → AreRows columns rows → block_bytes (blocks_among at rows) ≤ 1024 * length (row_entries key rows)
  among_few key at [] are = omega arith
  among_few key at (row ∷ rows) are = omega (arith, behind_few key 0 row.clustering (at + length (row_bytes row.clustering row.value)) rows are.1)
