-- What stands of a table's files is the beginning of what they are to have, whatever entries are to come.
use Rattle.std.proofs.Common.{◌≡◌, ℕ, ◌+◌, List, [], ◌∷◌, ◌++◌, length, Option, Some, None, refl, sym, ◌∙◌, ap, subst}
use Rattle.std.proofs.lemmas.List.{append_assoc, append-nil}
use Rattle.outside.specs.Files.{Files}
use Rattle.key_types.specs.declared.schema.ValueType.{ValueType}
use Rattle.data_file.specs.Listing.{Partition, Row, data_bytes, end_bytes, head_bytes, partition_bytes, rows_bytes, static_part_bytes}
use Rattle.page_packer.specs.Early.{IsBeginning}
use Rattle.partition_index.specs.Entries.{AreNumbered}
use Rattle.partition_index.specs.File.{early_index, partition_file}
use Rattle.partition_index.proofs.Settled.{early_index_stands}
use Rattle.row_index.specs.Entries.{AreBlockLists, Block, BlockList}
use Rattle.row_index.specs.File.{row_file}
use Rattle.row_index.specs.Laws.{IsBegunFile}
use Rattle.row_index.specs.Writing.{early_rows}
use Rattle.row_index.proofs.Growing.{early_rows_stand}
use Rattle.table_files.specs.Blocks.{block_begun, block_start, blocks_among, blocks_behind, blocks_of, rows_at}
use Rattle.table_files.specs.Indexes.{all_indexed, all_numbered, numbered_from, placed, placed_at, placed_from, row_indexed}
use Rattle.table_files.specs.SchemaFile.{schema_file_text}
use Rattle.table_files.specs.Standing.{AreOfTable}
use Rattle.table_files.proofs.Numbering.{are_lists, are_numbered}
use Rattle.flush_walk.specs.Given.{Flushing, current_blocks, current_bytes, growing_of, opened_bytes}
use Rattle.flush_walk.specs.Growing.{AreCut, FourFiles, Torn, standing}
use Rattle.flush_walk.specs.Writing.{AreBegun, GoOnFrom, IsContinued, LeavesBegun, files_of_table}
use Rattle.flush_walk.proofs.Lists.{data_parted, indexed_parted, numbered_parted, placed_parted, rows_bytes_more}
use Rattle.flush_walk.proofs.Moves.{prefix_on}
use Rattle.flush_walk.proofs.Stores.{told_so}

-- ---- the same with the partitions as a whole list

-- a partition that goes on is the first with more rows
continued : (p q : Partition) → (c : IsContinued p q) → q ≡ record p { rows = p.rows ++ c.more }
continued p q c = λ i. record { key = c.key i; static_part = c.static_part i; rows = c.rows i }

-- ---- Data.db

opened_goes_on : (static : Option ValueType) (p : Partition) (more : List Row)
    → partition_bytes static (record p { rows = p.rows ++ more }) ≡ opened_bytes static p ++ (rows_bytes more ++ end_bytes)
opened_goes_on static p more =
    let head = head_bytes p.key in
    let part = static_part_bytes static p.static_part in
    let rows = rows_bytes p.rows in
    let rest = rows_bytes more ++ end_bytes in
    ap (λ (bs : List ℕ). head ++ (part ++ (bs ++ end_bytes))) (rows_bytes_more p.rows more)
    ∙ ap (λ (bs : List ℕ). head ++ (part ++ bs)) (append_assoc rows (rows_bytes more) end_bytes)
    ∙ ap (λ (bs : List ℕ). head ++ bs) (sym (append_assoc part rows rest))
    ∙ sym (append_assoc head (part ++ rows) rest)

listing_prefix : (static : Option ValueType) (closed : List Partition) (current : Option Partition) (ps : List Partition) → GoOnFrom closed current ps
    → IsBeginning (data_bytes static closed ++ current_bytes static current) (data_bytes static ps)
listing_prefix static closed None ps (rest, is) =
    (data_bytes static rest, ap (data_bytes static) is ∙ data_parted static closed rest ∙ ap (λ (bs : List ℕ). bs ++ data_bytes static rest) (sym (append-nil (data_bytes static closed))))
listing_prefix static closed (Some p) ps (q, rest, is, c) =
    let front = data_bytes static closed in
    let open' = opened_bytes static p in
    let tail = rows_bytes c.more ++ end_bytes in
    let behind = data_bytes static rest in (
      tail ++ behind,
      ap (data_bytes static) is ∙ data_parted static closed (q ∷ rest)
          ∙ ap (λ (x : Partition). front ++ (partition_bytes static x ++ behind)) (continued p q c)
          ∙ ap (λ (bs : List ℕ). front ++ (bs ++ behind)) (opened_goes_on static p c.more)
          ∙ ap (λ (bs : List ℕ). front ++ bs) (append_assoc open' tail behind)
          ∙ sym (append_assoc front open' (tail ++ behind)),
    )

-- ---- Rows.db

behind_goes_on : (start : ℕ) (before : List ℕ) (end_ : ℕ) (rows more : List Row) → (rest : List Block) × (blocks_behind start before end_ (rows ++ more) ≡ blocks_behind start before end_ rows ++ rest)
behind_goes_on start before end_ [] more = (blocks_behind start before end_ more, refl)
behind_goes_on start before end_ (row ∷ rows) more =
    let next = behind_goes_on (block_start start end_) row.clustering _ rows more in
    let first = block_begun start before end_ row.clustering in
    (next.0, ap (λ (bs : List Block). first ++ bs) next.1 ∙ sym (append_assoc first (blocks_behind (block_start start end_) row.clustering _ rows) next.0))

among_goes_on : (at : ℕ) (rows more : List Row) → (rest : List Block) × (blocks_among at (rows ++ more) ≡ blocks_among at rows ++ rest)
among_goes_on at [] more = (blocks_among at more, refl)
among_goes_on at (row ∷ rows) more = behind_goes_on 0 row.clustering _ rows more

indexed_behind : (static : Option ValueType) (closed rest : List Partition)
    → all_indexed (placed static (closed ++ rest)) ≡ all_indexed (placed static closed) ++ all_indexed (placed_from static (0 + length (data_bytes static closed)) rest)
indexed_behind static closed rest =
    ap all_indexed (placed_parted static 0 closed rest) ∙ indexed_parted (placed static closed) (placed_from static (0 + length (data_bytes static closed)) rest)

begun_in : (one : BlockList) (bs all : List Block) (more : List BlockList) → one.blocks ≡ all → ((rest : List Block) × (all ≡ bs ++ rest)) → IsBegunFile bs (row_indexed one all ++ more)
begun_in one [] all more is rest = tt
begun_in one (b ∷ bs) [] more is (rest, e) = cc
begun_in one (b ∷ bs) (c ∷ all) more is (rest, e) = (rest, is ∙ e)

module _ (w : Flushing) (ps : List Partition) (h : AreOfTable w.columns ps) where
  abbrev static : Option ValueType
  static = w.columns.static_value

  rows_by : (closed rest : List Partition) (begun : List Block) → ps ≡ closed ++ rest
      → IsBegunFile begun (all_indexed (placed_from static (0 + length (data_bytes static closed)) rest))
      → IsBeginning (early_rows (record (growing_of w).rows { done = all_indexed (placed static closed); begun = begun })) (row_file (all_indexed (placed static ps)))
  rows_by closed rest begun is starts =
      let lists = ap (λ (xs : List Partition). all_indexed (placed static xs)) is ∙ indexed_behind static closed rest in
      let more = all_indexed (placed_from static (0 + length (data_bytes static closed)) rest) in
      let rows = record (growing_of w).rows { done = all_indexed (placed static closed); begun = begun } in
      subst (λ (ls : List BlockList). IsBeginning (early_rows rows) (row_file ls)) (sym lists)
      (early_rows_stand rows more (subst AreBlockLists lists (are_lists w.columns ps h)) starts)

  rows_prefix : (current : Option Partition) → GoOnFrom w.closed current ps
      → IsBeginning (early_rows (record (growing_of w).rows { begun = current_blocks static current })) (row_file (all_indexed (placed static ps)))
  rows_prefix None (rest, is) = rows_by w.closed rest [] is tt
  rows_prefix (Some p) (q, rest, is, c) =
      let one = placed_at static (0 + length (data_bytes static w.closed)) q in
      let more = all_indexed (placed_from static _ rest) in
      let same : blocks_of static q ≡ blocks_of static (record p { rows = p.rows ++ c.more }) = ap (blocks_of static) (continued p q c) in
      let goes = among_goes_on (rows_at static p) p.rows c.more in
      rows_by w.closed (q ∷ rest) (blocks_of static p) is (begun_in one (blocks_of static p) (blocks_of static q) more refl (goes.0, same ∙ goes.1))

  -- ---- Partitions.db

  index_by : (closed rest : List Partition) → ps ≡ closed ++ rest → IsBeginning (early_index (all_numbered (placed static closed))) (partition_file (all_numbered (placed static ps)))
  index_by closed rest is =
      let behind = numbered_from (0 + length (row_file (all_indexed (placed static closed)))) (placed_from static (0 + length (data_bytes static closed)) rest) in
      let all = ap (λ (xs : List Partition). all_numbered (placed static xs)) is
      ∙ ap all_numbered (placed_parted static 0 closed rest) ∙ numbered_parted 0 (placed static closed) (placed_from static (0 + length (data_bytes static closed)) rest) in
      subst (λ ns. IsBeginning (early_index (all_numbered (placed static closed))) (partition_file ns)) (sym all)
      (early_index_stands (all_numbered (placed static closed)) behind (subst AreNumbered all (are_numbered w.columns ps h)))

  index_prefix : (current : Option Partition) → GoOnFrom w.closed current ps → IsBeginning (early_index (all_numbered (placed static w.closed))) (partition_file (all_numbered (placed static ps)))
  index_prefix None (rest, is) = index_by w.closed rest is
  index_prefix (Some p) (q, rest, is, c) = index_by w.closed (q ∷ rest) is

  -- ---- all files

  begun_by : (part : FourFiles) → GoOnFrom w.closed w.current ps → AreCut part (standing (growing_of w) (growing_of w).listing) → AreBegun part (files_of_table w.columns ps)
  begun_by part goes cut = record {
    listing = prefix_on part.listing (growing_of w).listing _ cut.listing (listing_prefix static w.closed w.current ps goes);
    rows = prefix_on part.rows (early_rows (growing_of w).rows) _ cut.rows (rows_prefix w.current goes);
    partitions = prefix_on part.partitions (early_index (growing_of w).index.partitions) _ cut.partitions (index_prefix w.current goes);
    schema = (schema_file_text w.columns, ap (λ (bs : List ℕ). bs ++ schema_file_text w.columns) (sym cut.schema));
    last = λ some. absurd (some cut.schema);
  }

-- a part of what stands is a part of the files of each table that goes on from there
pub torn_begun : (w : Flushing) (f : Option Files) → Torn (growing_of w) f → LeavesBegun w f
torn_begun w f torn ps h goes = told_so w.before f _ _ (λ old new p. (p.0, begun_by w ps h p.0 goes p.1, p.2)) torn
