-- What stands of a row index while partitions and blocks are added.
use Rattle.std.proofs.Common.{◌≡◌, ℕ, List, [], ◌∷◌, ◌++◌, length, drop, refl, ap, sym, subst, ◌∙◌}
use Rattle.std.proofs.Math.Seq.{drop-append_seam}
use Rattle.std.proofs.lemmas.List.{append_assoc, append-nil, map-append}
use Rattle.std.specs.List.{AllByRecursion}
use Rattle.page_packer.specs.Tree.{AreEntries, TrieEntry, tree_of}
use Rattle.page_packer.specs.Layout.{lay}
use Rattle.page_packer.specs.Early.{IsBeginning, early_of}
use Rattle.page_packer.specs.Packing.{Packing, packing_bytes_for, early_bytes, last_bytes, with_entry}
use Rattle.page_packer.proofs.Early.{list_grows, list_stands, packing_ends, prefix_behind, prefix_is, prefix_then}
use Rattle.page_packer.proofs.Streamed.{empty_light}
use Rattle.row_index.specs.Entries.{AreBlocks, Block, BlockList, IsBlockList, separator_entries, separator_entry}
use Rattle.row_index.specs.File.{block_list_bytes, row_entry, row_file, row_trie}
use Rattle.row_index.specs.Writing.{RowIndexing, begun_rows_at, begun_packing, block_list, early_rows, last_row_bytes, row_bytes_for, with_block}
use Rattle.row_index.specs.Laws.{EarlyRowsGrow, EarlyRowsStand, IsBegunFile, PartitionEnds}
use Rattle.row_index.proofs.Rows.{file_goes_on, lists_parted, parted_at, rows_behind}
use Rattle.row_index.proofs.Separators.{are_entries}

-- ---- blocks behind blocks

pub entries_parts : (bs cs : List Block) → separator_entries (bs ++ cs) ≡ separator_entries bs ++ separator_entries cs
entries_parts bs cs = map-append separator_entry bs cs

both_are : (bs cs : List Block) → AreBlocks (bs ++ cs) → AreEntries (separator_entries bs ++ separator_entries cs)
both_are bs cs h = subst AreEntries (entries_parts bs cs) (are_entries (bs ++ cs) h)

-- ---- what stands is a prefix of every longer file

-- of a file without blocks that are open all stands
pub all_stand : (done : List BlockList) → row_file done ++ early_of (separator_entries []) (length (row_file done)) ≡ row_file done
all_stand done = ap (λ (bytes : List ℕ). row_file done ++ bytes) (empty_light (length (row_file done))).0 ∙ append-nil (row_file done)

open_stands : (done : List BlockList) (p : BlockList) (more : List BlockList) (bs rest : List Block) → AreBlocks p.blocks → p.blocks ≡ bs ++ rest
    → IsBeginning (row_file done ++ early_of (separator_entries bs) (length (row_file done))) (row_file (done ++ p ∷ more))
open_stands done p more bs rest h is =
    let front = row_file done in
    let at = length front in
    let early = early_of (separator_entries bs) at in
    let trie = row_trie p at in
    let rest_of = rows_behind at p more in
    let longer = list_stands (separator_entries bs) (separator_entries rest) at (both_are bs rest (subst AreBlocks is h)) in
    let same : separator_entries p.blocks ≡ separator_entries bs ++ separator_entries rest = ap separator_entries is ∙ entries_parts bs rest in
    let stands : IsBeginning early trie.bytes = subst (λ (es : List TrieEntry). IsBeginning early (lay (tree_of es) at).bytes) (sym same) longer in
    let here : IsBeginning early (block_list_bytes p at) = prefix_then early trie.bytes (row_entry p trie.root) stands in
    let behind = prefix_behind front early (block_list_bytes p at ++ rest_of) (prefix_then early (block_list_bytes p at) rest_of here) in
    subst (λ (file : List ℕ). IsBeginning (front ++ early) file) (sym (parted_at done p more)) behind

-- the blocks of the next partition, where there is one
abbrev NextBlocks : List BlockList → Type 0
NextBlocks [] = Unit {0}
NextBlocks (p ∷ more) = AreBlocks p.blocks

next_blocks : (more : List BlockList) → AllByRecursion IsBlockList more → NextBlocks more
next_blocks [] h = tt
next_blocks (p ∷ more) h = h.0.blocks

rows_stand : (done : List BlockList) (bs : List Block) (more : List BlockList) → NextBlocks more → IsBegunFile bs more
    → IsBeginning (row_file done ++ early_of (separator_entries bs) (length (row_file done))) (row_file (done ++ more))
rows_stand done [] more h begun = subst (λ (front : List ℕ). IsBeginning front (row_file (done ++ more))) (sym (all_stand done)) (file_goes_on done more)
rows_stand done (b ∷ bs) [] h begun = absurd begun
rows_stand done (b ∷ bs) (p ∷ more) h begun = open_stands done p more (b ∷ bs) begun.0 h begun.1

pub early_rows_stand : EarlyRowsStand
early_rows_stand w more h begun = rows_stand w.done w.begun more (next_blocks more (lists_parted w.done more h.each).1) begun

-- ---- what one block more appends

pub early_rows_grow : EarlyRowsGrow
early_rows_grow w b h =
    let front = row_file w.done in
    let at = length front in
    let bs = w.begun in
    let grows = list_grows (separator_entries bs) (separator_entry b ∷ []) at (both_are bs (b ∷ []) h) in
    let same = sym (entries_parts bs (b ∷ [])) in
    let early = early_of (separator_entries bs) at in
    let more = early_of (separator_entries (bs ++ b ∷ [])) at in
    prefix_is (front ++ early) (front ++ more) (prefix_behind front early more (subst (λ (es : List TrieEntry). IsBeginning early (early_of es at)) same grows))

-- what stands behind a front is dropped behind it
drop_behind : (front a b : List ℕ) → drop (length (front ++ a)) (front ++ b) ≡ drop (length a) b
drop_behind [] a b = refl
drop_behind (x ∷ front) a b = drop_behind front a b

-- it is what the packer appends
pub block_bytes_are : (w : RowIndexing) (b : Block) → packing_bytes_for (begun_packing w) (separator_entry b).key (separator_entry b).payload ≡ row_bytes_for w b
block_bytes_are w b =
    let at = begun_rows_at w in
    let early = early_of (separator_entries w.begun) at in
    ap (λ (es : List TrieEntry). drop (length early) (early_of es at)) (sym (entries_parts w.begun (b ∷ [])))
    ∙ sym (drop_behind (row_file w.done) early (early_of (separator_entries (w.begun ++ b ∷ [])) at))

pub packing_with : (w : RowIndexing) (b : Block) → with_entry (begun_packing w) (separator_entry b).key (separator_entry b).payload ≡ begun_packing (with_block w b)
packing_with w b = ap (λ (es : List TrieEntry). packing_of es) (sym (entries_parts w.begun (b ∷ [])))
  where
    packing_of : List TrieEntry → Packing
    packing_of es = record { file = w.file; start = begun_rows_at w; entries = es }

-- ---- what ends a partition

pub partition_ends : PartitionEnds
partition_ends w string data_at h =
    let p = block_list w string data_at in
    all_stand (w.done ++ p ∷ [])
    ∙ prefix_is (early_rows w) (row_file (w.done ++ p ∷ [])) (open_stands w.done p [] w.begun [] h (sym (append-nil w.begun)))

-- the rest of its trie, and its entry
pub last_rows_are : (w : RowIndexing) (string : List ℕ) (data_at : ℕ) → AreBlocks w.begun
    → last_row_bytes w string data_at ≡ last_bytes (begun_packing w) ++ row_entry (block_list w string data_at) (row_trie (block_list w string data_at) (begun_rows_at w)).root
last_rows_are w string data_at h =
    let front = row_file w.done in
    let p = block_list w string data_at in
    let trie = row_trie p (begun_rows_at w) in
    let entry = row_entry p trie.root in
    let packing = begun_packing w in
    let early = early_bytes packing in
    let last = last_bytes packing in
    let whole : trie.bytes ++ entry ≡ early ++ (last ++ entry) = ap (λ (bytes : List ℕ). bytes ++ entry) (packing_ends packing (are_entries w.begun h)) ∙ append_assoc early last entry in
    let file : row_file (w.done ++ p ∷ []) ≡ front ++ (early ++ (last ++ entry)) =
    parted_at w.done p [] ∙ ap (λ (bytes : List ℕ). front ++ bytes) (append-nil (trie.bytes ++ entry)) ∙ ap (λ (bytes : List ℕ). front ++ bytes) whole in
    ap (λ (bytes : List ℕ). drop (length (front ++ early)) bytes) file ∙ drop_behind front early (early ++ (last ++ entry)) ∙ drop-append_seam early (last ++ entry)
