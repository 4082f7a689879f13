-- What the check of blocks finds, beside what the row index means.
use Rattle.std.proofs.Common.{◌≡◌, ◌∙◌, ℕ, List, [], ◌∷◌, take, Option, None, Some, Result, Ok, Err, ap, sym, subst}
use Rattle.std.specs.Prelude.{pos, ⊤}
use Rattle.std.specs.declared.cmp.Ordering.TheVariants.{Less}
use Rattle.outside.specs.declared.store.Part.TheVariants.{Rows}
use Rattle.key_types.specs.Columns.{Columns}
use Rattle.key_types.specs.Table.{string_cmp}
use Rattle.byte_order.specs.Strings.{separator_size}
use Rattle.byte_order.proofs.Sizes.{separator_once, separator_size_is}
use Rattle.bti_nodes.specs.Payloads.{unsigned_number}
use Rattle.bti_nodes.specs.Trie.{Path, paths}
use Rattle.bti_reader.specs.Steps.{payload_number}
use Rattle.data_file.specs.Listing.{Partition}
use Rattle.row_index.specs.Entries.{Block}
use Rattle.table_files.specs.Blocks.{blocks_of}
use Rattle.table_files.specs.IndexMeaning.{AreBlockPaths, IsBlockPath, MeansBlocks}
use Rattle.data_walk.specs.declared.refusal.Refusal.{Refusal}
use Rattle.data_walk.specs.Ahead.{BlocksAhead, PartitionAhead, end_of}
use Rattle.data_walk.specs.DataWalk.{FindsBlock, Place, behind_row, place_at}
use Rattle.data_walk.proofs.Finding.{heads_open}
use Rattle.data_walk.proofs.Meeting.{blocks_are_met}
use Rattle.path_check.specs.Paths.{EndsPaths}
use Rattle.path_check.proofs.Following.{Follow, first_follows, none_follow, some_follow, whole_follows, whole_is}
use Rattle.row_check.specs.Blocks.{ChecksBlock, ChecksBlocks, ComparesBlocks, ComparesPath, separator}
use Rattle.row_check.specs.Laws.{BlocksAreJudged, Judges}

-- the first row of a block is above the row before it
first_above : (columns : Columns) (file : List ℕ) (place next : Place) (offset : ℕ) → FindsBlock columns file place next (Ok (Some offset))
    → string_cmp next.before next.row ≡ Less
first_above columns file _ _ offset (FindsBlock.row place next row result stands same finds) = first_above columns file (behind_row place row) next offset finds
first_above columns file _ _ offset (FindsBlock.block place row stands begins) = stands.1

-- ---- one block

-- the path of a block, as it is compared
abbrev Compares : Block → Path → Result ⊤ Refusal → Type 0
Compares block found result = ComparesPath found.path found.node (payload_number Rows found.payload) (separator block.before block.first) block.offset result

same_offset : (n offset : ℕ) → pos n ≡ pos offset → n ≡ offset
same_offset n offset e = cc

is_path : (block : Block) (found : Path) → string_cmp block.before block.first ≡ Less → Compares block found (Ok tt) → IsBlockPath block found
is_path block found above (ComparesPath.same path number) =
    record {
      size = separator_size block.before block.first;
      shortest = separator_size_is block.before block.first above;
      path = path;
      offset = same_offset (unsigned_number found.payload) block.offset number;
    }

no_clash : (block : Block) (found : Path) (e : Refusal) → string_cmp block.before block.first ≡ Less → IsBlockPath block found → Compares block found (Err e) → ⊥
no_clash block found _ above is (ComparesPath.other_path apart) =
    let once = separator_once block.before block.first is.size (separator_size block.before block.first) is.shortest (separator_size_is block.before block.first above) in
    apart (is.path ∙ ap (λ (n : ℕ). take n block.first) once)
no_clash block found _ above is (ComparesPath.other_number path apart) = apart (ap pos is.offset)

module _ (rows : List ℕ) (root : ℕ) where
  -- what is found of these blocks, the last path being this
  abbrev Found : Option (List ℕ) → List Block → Result ⊤ Refusal → Type 0
  Found last blocks result = Judges (Follow rows root last (AreBlockPaths blocks)) result

  abbrev Checks : Option (List ℕ) → Block → Option (List ℕ) → Result ⊤ Refusal → Type 0
  Checks last block given result = ChecksBlock rows root last block.before block.first block.offset given result

  found_on : (last given : Option (List ℕ)) (block : Block) (blocks : List Block) (result : Result ⊤ Refusal) → string_cmp block.before block.first ≡ Less
      → Checks last block given (Ok tt) → Found given blocks result → Found last (block ∷ blocks) result
  found_on last _ block blocks (Ok done) above (ChecksBlock.given path _ next compares) found =
      record { all = path ∷ found.all; given = (next, found.given); are = (is_path block path above compares, found.are) }
  found_on last _ block blocks (Err e) above (ChecksBlock.given path _ next compares) found =
      λ f. let more = first_follows rows root last (AreBlockPaths (block ∷ blocks)) path next (λ none. none) f in
      found (record { all = more.all; given = more.given; are = more.are.1 })

  found_clash : (last given : Option (List ℕ)) (block : Block) (blocks : List Block) (e : Refusal) → string_cmp block.before block.first ≡ Less
      → Checks last block given (Err e) → Found last (block ∷ blocks) (Err e)
  found_clash last _ block blocks e above (ChecksBlock.given path _ next compares) =
      λ f. let more = first_follows rows root last (AreBlockPaths (block ∷ blocks)) path next (λ none. none) f in
      absurd (no_clash block path e above more.are.0 compares)
  found_clash last _ block blocks _ above (ChecksBlock.lacks given e lacks) =
      some_follow rows root Rows last (AreBlockPaths (block ∷ blocks)) e (λ none. none) lacks

  found_end : (last : Option (List ℕ)) (result : Result ⊤ Refusal) → EndsPaths Rows rows root last result → Found last [] result
  found_end last (Ok done) (EndsPaths.ends none) = record { all = []; given = none; are = tt }
  found_end last (Err e) ends = none_follow rows root Rows last (AreBlockPaths []) e (λ p more are. are) ends

-- ---- all blocks of a partition

module _ (columns : Columns) (entries rows : List ℕ) (root : ℕ) where
  -- a block that is met is the one that is still to begin
  met_block : (place next : Place) (block : Block) (last given : Option (List ℕ)) (offset : ℕ) (result : Result ⊤ Refusal) → offset ≡ block.offset → next.before ≡ block.before
      → next.row ≡ block.first → ChecksBlock rows root last next.before next.row offset given result → Checks rows root last block given result
  met_block place next block last given offset result at before first checks =
      let same : record { before = next.before; first = next.row; offset = offset } ≡ block = λ i. record { before = before i; first = first i; offset = at i } in
      subst (λ (b : Block). Checks rows root last b given result) same checks

  met_above : (place next : Place) (block : Block) (offset : ℕ) → FindsBlock columns entries place next (Ok (Some offset)) → next.before ≡ block.before → next.row ≡ block.first
      → string_cmp block.before block.first ≡ Less
  met_above place next block offset finds before first = sym (λ i. string_cmp (before i) (first i)) ∙ first_above columns entries place next offset finds

  compared : (behind : ℕ) (place : Place) (last : Option (List ℕ)) (blocks : List Block) (result : Result ⊤ Refusal) → BlocksAhead columns entries behind place blocks
      → ComparesBlocks columns entries rows root place last result → Found rows root last blocks result
  compared behind _ _ [] _ ahead (ComparesBlocks.block place next last given offset result finds checks more) =
      absurd (blocks_are_met columns entries behind place next [] (Ok (Some offset)) ahead finds)
  compared behind _ _ (block ∷ blocks) _ ahead (ComparesBlocks.block place next last given offset result finds checks more) =
      let (at, before, first, left) = blocks_are_met columns entries behind place next (block ∷ blocks) (Ok (Some offset)) ahead finds in
      found_on rows root last given block blocks result (met_above place next block offset finds before first)
      (met_block place next block last given offset (Ok tt) at before first checks) (compared behind next given blocks result left more)
  compared behind _ _ [] _ ahead (ComparesBlocks.clashes place next last given offset e finds checks) =
      absurd (blocks_are_met columns entries behind place next [] (Ok (Some offset)) ahead finds)
  compared behind _ _ (block ∷ blocks) _ ahead (ComparesBlocks.clashes place next last given offset e finds checks) =
      let (at, before, first, left) = blocks_are_met columns entries behind place next (block ∷ blocks) (Ok (Some offset)) ahead finds in
      found_clash rows root last given block blocks e (met_above place next block offset finds before first)
      (met_block place next block last given offset (Err e) at before first checks)
  compared behind _ _ [] _ ahead (ComparesBlocks.ends place next last result finds ends) = found_end rows root last result ends
  compared behind _ _ (block ∷ blocks) _ ahead (ComparesBlocks.ends place next last result finds ends) =
      absurd (blocks_are_met columns entries behind place next (block ∷ blocks) (Ok None) ahead finds)
  compared behind _ _ blocks _ ahead (ComparesBlocks.stops place next last e finds) =
      λ f. blocks_are_met columns entries behind place next blocks (Err e) ahead finds

  module _ (position : ℕ) (partition : Partition) (ahead : PartitionAhead columns entries (place_at position) partition) where
    abbrev blocks : List Block
    blocks = blocks_of columns.static_value partition

    checked : (result : Result ⊤ Refusal) → ChecksBlocks columns entries rows position root result → Found rows root None blocks result
    checked _ (ChecksBlocks.enters inside has_static result enters compares) =
        let opens = heads_open columns entries (place_at position) inside partition (Ok (Some has_static)) ahead enters in
        compared (end_of columns (place_at position) partition) inside None blocks result opens.2 compares
    checked _ (ChecksBlocks.ended place enters) = absurd (heads_open columns entries (place_at position) place partition (Ok None) ahead enters)
    checked _ (ChecksBlocks.stops place e enters) = λ f. heads_open columns entries (place_at position) place partition (Err e) ahead enters
    checked _ (ChecksBlocks.fault e fault) = λ f. fault

-- the paths that follow are those of the trie
meant : (rows : List ℕ) (root : ℕ) (blocks : List Block) (result : Result ⊤ Refusal) → Found rows root None blocks result → Judges (MeansBlocks blocks (paths rows root)) result
meant rows root blocks (Ok done) found = whole_is rows root (MeansBlocks blocks) found
meant rows root blocks (Err e) found = λ means. found (whole_follows rows root (MeansBlocks blocks) (λ wrong no. no) means)

pub blocks_are_judged : BlocksAreJudged
blocks_are_judged columns entries rows position root partition result ahead checks =
    meant rows root (blocks_of columns.static_value partition) result (checked columns entries rows root position partition ahead result checks)
