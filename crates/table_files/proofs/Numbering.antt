-- The partitions of a table with their numbers: they are those of the two index files.
use Rattle.std.proofs.Common.{◌≡◌, ℕ, ◌+◌, ◌-◌, ◌*◌, ◌^◌, ◌<◌, ◌≤◌, List, [], ◌∷◌, ◌++◌, length, map, Option, arith, refl, sym, ◌∙◌, ap, subst}
use Rattle.std.specs.Prelude.{ℤ, pos, negsuc, ◌≤ℤ◌, ◌<ℤ◌}
use Rattle.std.proofs.lemmas.Int.{ints}
use Rattle.std.proofs.lemmas.List.{length-append, append-nil}
use Rattle.std.specs.List.{AllByRecursion}
use Rattle.key_types.specs.Columns.{Columns}
use Rattle.key_types.specs.declared.schema.ValueType.{ValueType}
use Rattle.key_decode.proofs.Known.{string_length}
use Rattle.data_file.specs.Listing.{ArePartitions, Partition, Row, data_bytes, partition_bytes, rows_bytes}
use Rattle.partition_index.specs.Entries.{AreNumbered, IsFollowed, IsNumbered, Numbered, StandApart, string_bytes}
use Rattle.row_index.specs.Entries.{AreBlockLists, Block, BlockList, IsBlockList, all_block_bytes, block_bytes}
use Rattle.row_index.specs.File.{block_list_bytes, row_entry, row_entry_at, row_file, row_trie, rows_from}
use Rattle.row_index.proofs.Rows.{rows_are_short}
use Rattle.table_files.specs.Blocks.{blocks_of}
use Rattle.table_files.specs.Indexes.{all_indexed, all_numbered, number_at, numbered_from, placed, placed_at, placed_from, row_indexed}
use Rattle.table_files.specs.Standing.{AreOfTable, RowsAscend, StringsAscend, entries_in, row_entries, static_entries}
use Rattle.table_files.proofs.Strings.{apart_below, string_bytes_small, string_some}
use Rattle.table_files.proofs.Blocked.{among_are, among_few, data_short, entries_parted, partition_long, partitions_few}

abbrev pub keys : List Partition → List (List ℕ)
keys ps = map (λ (p : Partition). p.key) ps

-- ---- what Rows.db has of one partition, and of those behind it

pub rows_of_one : (at : ℕ) (p : BlockList) (bs : List Block) (more : List BlockList)
    → length (rows_from at (row_indexed p bs ++ more)) ≡ length (rows_from at (row_indexed p bs)) + length (rows_from (at + length (rows_from at (row_indexed p bs))) more)
rows_of_one at p [] more = let here : at ≡ at + 0 = omega arith in ap (λ (n : ℕ). length (rows_from n more)) here ∙ omega arith
rows_of_one at p (b ∷ bs) more =
    let here = block_list_bytes p at in
    let one : length here ≡ length (here ++ []) = omega (arith, length-append {A = ℕ}) in
    length-append here (rows_from (at + length here) more)
    ∙ ap (λ (n : ℕ). n + length (rows_from (at + n) more)) one

-- ---- each number fits seven bytes

record Fits (number : ℤ) : Type 0 where
  low : negsuc (2 ^ 55 - 1) ≤ℤ number
  high : number <ℤ pos (2 ^ 55)

number_fits : (p : BlockList) (bs : List Block) (at : ℕ) → p.data_at < 2 ^ 55 → at + length (rows_from at (row_indexed p bs)) < 2 ^ 41 → Fits (number_at p bs at)
number_fits p [] at place short = record { low = grind (arith, ints); high = grind (arith, ints) }
number_fits p (b ∷ bs) at place short =
    let trie = row_trie p at in
    let entry = row_entry p trie.root in
    let few : row_entry_at p at < 2 ^ 41 = omega (arith, short, length-append (trie.bytes ++ entry) [], length-append trie.bytes entry) in
    record { low = grind (arith, ints); high = grind (arith, ints) }

module _ (columns : Columns) where
  abbrev static : Option ValueType
  static = columns.static_value

  -- ---- Partitions.db

  followed : (key : List ℕ) (at data_at : ℕ) (p : Partition) (ps : List Partition) → ArePartitions columns (p ∷ ps) → StringsAscend (keys (p ∷ ps))
      → IsFollowed p.key (numbered_from at (placed_from static data_at ps))
  followed key at data_at p [] are ascend = tt
  followed key at data_at p (q ∷ ps) are ascend = apart_below columns.partition p.key q.key are.0 are.3.0 ascend.0

  tail_ascends : (p : Partition) (ps : List Partition) → StringsAscend (keys (p ∷ ps)) → StringsAscend (keys ps)
  tail_ascends p [] ascend = tt
  tail_ascends p (q ∷ ps) ascend = ascend.1

  stand_apart : (at data_at : ℕ) (ps : List Partition) → ArePartitions columns ps → StringsAscend (keys ps) → data_at + length (data_bytes static ps) < 2 ^ 55
      → at + length (rows_from at (all_indexed (placed_from static data_at ps))) < 2 ^ 41 → StandApart (numbered_from at (placed_from static data_at ps))
  stand_apart at data_at [] are ascend place short = tt
  stand_apart at data_at (p ∷ ps) are ascend place short =
      let one = placed_at static data_at p in
      let next = at + length (rows_from at (row_indexed one one.blocks)) in
      let behind = data_at + length (partition_bytes static p) in
      let parts = rows_of_one at one one.blocks (all_indexed (placed_from static behind ps)) in
      let all = length-append (partition_bytes static p) (data_bytes static ps) in
      let fits = number_fits one one.blocks at (omega (arith, place, all)) (omega (arith, short, parts)) in (
        record {
          bytes = string_bytes_small columns.partition p.key are.0;
          some = string_some columns.partition p.key are.0;
          most = string_length columns.partition p.key are.0;
          low = fits.low;
          high = fits.high;
        },
        followed p.key next behind p ps are ascend,
        stand_apart next behind ps are.3 (tail_ascends p ps ascend) (omega (arith, place, all)) (omega (arith, short, parts)),
      )

  strings_few : (at data_at : ℕ) (ps : List Partition) → ArePartitions columns ps → string_bytes (numbered_from at (placed_from static data_at ps)) ≤ 1024 * length ps
  strings_few at data_at [] are = omega arith
  strings_few at data_at (p ∷ ps) are =
      let one = placed_at static data_at p in
      let rest = strings_few (at + length (rows_from at (row_indexed one one.blocks))) (data_at + length (partition_bytes static p)) ps are.3 in
      omega (arith, rest, string_length columns.partition p.key are.0)

  -- ---- Rows.db

  -- the blocks of a partition are blocks of a row index
  pub is_list : (data_at : ℕ) (p : Partition) (ps : List Partition) (b : Block) (bs : List Block) → ArePartitions columns (p ∷ ps) → RowsAscend (p ∷ ps)
      → data_at + length (data_bytes static (p ∷ ps)) < 2 ^ 55 → blocks_of static p ≡ b ∷ bs → IsBlockList (placed_at static data_at p)
  is_list data_at p ps b bs are rows place is =
      let all = length-append (partition_bytes static p) (data_bytes static ps) in
      record {
        most = string_length columns.partition p.key are.0;
        place = omega (arith, place);
        some = omega (arith, ap (λ (cs : List Block). length cs) is);
        blocks = among_are columns _ p.rows are.2 rows.1 (omega (arith, place, all, partition_long columns p));
      }

  are_each : (data_at : ℕ) (ps : List Partition) → ArePartitions columns ps → RowsAscend ps → data_at + length (data_bytes static ps) < 2 ^ 55
      → AllByRecursion IsBlockList (all_indexed (placed_from static data_at ps))
  are_each data_at [] are rows place = tt
  are_each data_at (p ∷ ps) are rows place =
      let behind = data_at + length (partition_bytes static p) in
      by (blocks_of static p) (is_list data_at p ps) (are_each behind ps are.3 rows.2 (omega (arith, place, length-append (partition_bytes static p) (data_bytes static ps)))) refl
    where
      by : (bs : List Block) → ((b : Block) (cs : List Block) → ArePartitions columns (p ∷ ps) → RowsAscend (p ∷ ps) → data_at + length (data_bytes static (p ∷ ps)) < 2 ^ 55
          → blocks_of static p ≡ b ∷ cs → IsBlockList (placed_at static data_at p))
          → AllByRecursion IsBlockList (all_indexed (placed_from static (data_at + length (partition_bytes static p)) ps)) → blocks_of static p ≡ bs
          → AllByRecursion IsBlockList (row_indexed (placed_at static data_at p) bs ++ all_indexed (placed_from static (data_at + length (partition_bytes static p)) ps))
      by [] one rest is = rest
      by (b ∷ bs) one rest is = (one b bs are rows place is, rest)

  blocks_few : (data_at : ℕ) (ps : List Partition) → ArePartitions columns ps → all_block_bytes (all_indexed (placed_from static data_at ps)) ≤ 1024 * length (entries_in ps)
  blocks_few data_at [] are = omega arith
  blocks_few data_at (p ∷ ps) are =
      let behind = data_at + length (partition_bytes static p) in
      let few = among_few columns p.key _ p.rows are.2 in
      by (blocks_of static p) refl few (blocks_few behind ps are.3) (entries_parted columns p ps)
    where
      by : (bs : List Block) → blocks_of static p ≡ bs → block_bytes (blocks_of static p) ≤ 1024 * length (row_entries p.key p.rows)
          → all_block_bytes (all_indexed (placed_from static (data_at + length (partition_bytes static p)) ps)) ≤ 1024 * length (entries_in ps)
          → length (entries_in (p ∷ ps)) ≡ length (static_entries p.key p.static_part) + length (row_entries p.key p.rows) + length (entries_in ps)
          → all_block_bytes (row_indexed (placed_at static data_at p) bs ++ all_indexed (placed_from static (data_at + length (partition_bytes static p)) ps))
          ≤ 1024 * length (entries_in (p ∷ ps))
      by [] is few rest all = omega (arith, rest, all)
      by (b ∷ bs) is few rest all = omega (arith, few, rest, all)

  -- ---- of a whole table

  pub data_few : (ps : List Partition) → AreOfTable columns ps → length (data_bytes static ps) < 2 ^ 40
  data_few ps h = omega (arith, data_short columns ps h.are h.rows, h.few)

  pub are_lists : (ps : List Partition) → AreOfTable columns ps → AreBlockLists (all_indexed (placed static ps))
  are_lists ps h = record {
    each = are_each 0 ps h.are h.rows (omega (arith, data_few ps h));
    few = omega (arith, blocks_few 0 ps h.are, h.few);
  }

  pub are_numbered : (ps : List Partition) → AreOfTable columns ps → AreNumbered (all_numbered (placed static ps))
  are_numbered ps h = record {
    ascend = stand_apart 0 0 ps h.are h.ascend (omega (arith, data_few ps h)) (omega (arith, rows_are_short (all_indexed (placed static ps)) (are_lists ps h)));
    few = omega (arith, strings_few 0 0 ps h.are, partitions_few columns ps h.rows, h.few);
  }
