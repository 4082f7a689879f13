-- The index files of a table's partitions index them.
use Rattle.std.proofs.Common.{◌≡◌, ℕ, ◌+◌, ◌-◌, ◌^◌, ◌<◌, ◌≤◌, List, [], ◌∷◌, ◌++◌, length, map, Ok, Err, Option, arith, refl, sym, ◌∙◌, ap, subst}
use Rattle.std.specs.Prelude.{ℤ, pos, negsuc, ◌≤ℤ◌, ◌<ℤ◌}
use Rattle.std.proofs.lemmas.Int.{ints}
use Rattle.std.proofs.lemmas.List.{append_assoc, append-nil, length-append}
use Rattle.key_types.specs.Columns.{Columns}
use Rattle.bti_nodes.specs.Payloads.{doubled, signed_bytes, signed_number, unsigned_bytes, unsigned_number}
use Rattle.bti_nodes.specs.Trie.{Path, Paths, paths}
use Rattle.bti_nodes.proofs.Numbers.{numbers_read}
use Rattle.page_packer.specs.Reading.{AreThese, entry_of_path}
use Rattle.page_packer.specs.Tree.{TrieEntry}
use Rattle.data_file.specs.Listing.{Partition}
use Rattle.partition_index.specs.Entries.{AreIndexed, AreNumbered, Numbered, StandApart, index_entries}
use Rattle.partition_index.specs.File.{index_trie, partition_file}
use Rattle.partition_index.proofs.Index.{entries_are_index}
use Rattle.partition_index.proofs.Places.{index_is_short, root_in_trie}
use Rattle.partition_index.proofs.Settled.{file_means_index}
use Rattle.row_index.specs.Entries.{AreBlocks, AreBlockLists, Block, BlockList, IsRowIndex, separator_entries}
use Rattle.row_index.specs.File.{block_list_bytes, row_entry, row_entry_at, row_file, row_trie, rows_from}
use Rattle.row_index.proofs.Rows.{each_stands_in_rows, lists_parted, parted_at, rows_are_short, rows_behind}
use Rattle.row_index.proofs.Separators.{entries_are_row_index}
use Rattle.table_files.specs.IndexMeaning.{AllLead, AreBlockPaths, AreIndexPaths, HasEntry, IndexFilesStand, IsIndexFile, LeadsToEntry, MeansBlocks, MeansIndex}
use Rattle.table_files.specs.Indexes.{all_indexed, all_numbered, number_at, numbered_from, placed, row_indexed}
use Rattle.table_files.specs.Laws.{IndexesStand}
use Rattle.table_files.proofs.Numbering.{are_lists, are_numbered}

-- ---- the paths of a trie

-- the number of a partition has seven bytes with its sign
doubled_few : (z : ℤ) → negsuc (2 ^ 55 - 1) ≤ℤ z → z <ℤ pos (2 ^ 55) → doubled z < 2 ^ 56
doubled_few (pos n) low high = grind (arith, ints)
doubled_few (negsuc n) low high = grind (arith, ints)

-- entries of an index as paths
index_paths : (before : List (List ℕ)) (ps : List Numbered) (found : List Path) (es : List TrieEntry) → StandApart ps → AreIndexed before ps es → map entry_of_path found ≡ es
    → AreIndexPaths before ps found
index_paths before [] [] es apart are is = tt
index_paths before [] (f ∷ found) [] apart are is = cc
index_paths before [] (f ∷ found) (e ∷ es) apart are is = absurd are
index_paths before (p ∷ ps) found [] apart are is = absurd are
index_paths before (p ∷ ps) [] (e ∷ es) apart are is = cc
index_paths before (p ∷ ps) (f ∷ found) (e ∷ es) apart are is =
    let first : entry_of_path f ≡ e = cc in
    let rest : map entry_of_path found ≡ es = cc in
    let key : f.path ≡ e.key = ap (λ (x : TrieEntry). x.key) first in
    let payload : f.payload ≡ e.payload = ap (λ (x : TrieEntry). x.payload) first in (
      record {
        size = are.0.size;
        unique = are.0.unique;
        path = key ∙ are.0.key;
        number = ap signed_number (payload ∙ are.0.payload) ∙ (numbers_read.1 p.number (doubled_few p.number apart.0.low apart.0.high)).reads;
      },
      index_paths (before ++ p.string ∷ []) ps found es apart.2 are.1 rest,
    )

means_index : (ps : List Numbered) (found : Paths) → AreNumbered ps → AreThese found (index_entries ps) → MeansIndex ps found
means_index ps (Ok found) h these = index_paths [] ps found (index_entries ps) h.ascend (entries_are_index ps h) these
means_index ps (Err wrong) h these = these

block_paths : (bs : List Block) (found : List Path) (es : List TrieEntry) → AreBlocks bs → IsRowIndex bs es → map entry_of_path found ≡ es → AreBlockPaths bs found
block_paths [] [] es blocks are is = tt
block_paths [] (f ∷ found) [] blocks are is = cc
block_paths [] (f ∷ found) (e ∷ es) blocks are is = absurd are
block_paths (b ∷ bs) found [] blocks are is = absurd are
block_paths (b ∷ bs) [] (e ∷ es) blocks are is = cc
block_paths (b ∷ bs) (f ∷ found) (e ∷ es) blocks are is =
    let first : entry_of_path f ≡ e = cc in
    let rest : map entry_of_path found ≡ es = cc in
    let key : f.path ≡ e.key = ap (λ (x : TrieEntry). x.key) first in
    let payload : f.payload ≡ e.payload = ap (λ (x : TrieEntry). x.payload) first in (
      record {
        size = are.0.size;
        shortest = are.0.shortest;
        path = key ∙ are.0.key;
        offset = ap unsigned_number (payload ∙ are.0.payload) ∙ (numbers_read.0 b.offset blocks.0.few).reads;
      },
      block_paths bs found es blocks.2 are.1 rest,
    )

means_blocks : (bs : List Block) (found : Paths) → AreBlocks bs → AreThese found (separator_entries bs) → MeansBlocks bs found
means_blocks bs (Ok found) blocks these = block_paths bs found (separator_entries bs) blocks (entries_are_row_index bs blocks) these
means_blocks bs (Err wrong) blocks these = these

-- ---- Partitions.db

pub index_stands : (ps : List Numbered) → AreNumbered ps → IsIndexFile (partition_file ps) ps
index_stands [] h = refl
index_stands (p ∷ ps) h =
    let short = index_is_short (p ∷ ps) h in
    let root = root_in_trie (p ∷ ps) h (omega arith) in
    record {
      trie = (index_trie (p ∷ ps)).bytes;
      root = (index_trie (p ∷ ps)).root;
      bytes = refl;
      some = root.0;
      below = root.1;
      short = omega (arith, short.short);
      few = omega (arith, short.few);
      means = means_index (p ∷ ps) _ h (file_means_index (p ∷ ps) h (omega arith));
    }

-- ---- Rows.db

-- a partition in the row index has its entry there
has_entry : (before : List BlockList) (p : BlockList) (more : List BlockList) → AreBlockLists (before ++ p ∷ more)
    → HasEntry (row_file (before ++ p ∷ more)) p (row_entry_at p (length (row_file before)))
has_entry before p more h =
    let stands = each_stands_in_rows before p more h in
    let is = (lists_parted before (p ∷ more) h.each).1.0 in
    let at = length (row_file before) in
    let file = row_file (before ++ p ∷ more) in
    let trie = row_trie p at in
    record {
      root = trie.root;
      rest = stands.entry.0;
      entry = stands.entry.1;
      below = stands.root;
      place = is.place;
      short = omega (
        arith,
        rows_are_short (before ++ p ∷ more) h,
        ap (λ (bytes : List ℕ). length bytes) (parted_at before p more),
        length-append (row_file before) (block_list_bytes p at ++ rows_behind at p more),
        length-append (block_list_bytes p at) (rows_behind at p more),
        length-append trie.bytes (row_entry p trie.root),
      );
      few = omega (arith, stands.few);
      means = means_blocks p.blocks _ is.blocks stands.means;
    }

-- one partition more in front
one_behind : (before : List BlockList) (p : BlockList) → length (row_file (before ++ p ∷ [])) ≡ length (row_file before) + length (rows_from (length (row_file before)) (p ∷ []))
one_behind before p =
    let at = length (row_file before) in
    ap (λ (bytes : List ℕ). length bytes) (parted_at before p []) ∙ length-append (row_file before) (block_list_bytes p at ++ [])

-- the partitions behind some, wherever these end
abbrev LeadBehind : List BlockList → Type 0
LeadBehind ps = (before : List BlockList) (at : ℕ) → AreBlockLists (before ++ all_indexed ps) → at ≡ length (row_file before)
    → AllLead (row_file (before ++ all_indexed ps)) ps (numbered_from at ps)

lead_with : (p : BlockList) (ps : List BlockList) (bs : List Block) → LeadBehind ps → (before : List BlockList) (at : ℕ)
    → AreBlockLists (before ++ (row_indexed p bs ++ all_indexed ps)) → at ≡ length (row_file before)
    → LeadsToEntry (row_file (before ++ (row_indexed p bs ++ all_indexed ps))) p bs (number_at p bs at)
    × AllLead (row_file (before ++ (row_indexed p bs ++ all_indexed ps))) ps (numbered_from (at + length (rows_from at (row_indexed p bs))) ps)
lead_with p ps [] behind before at h place = (refl, behind before (at + 0) h (omega (arith, place)))
lead_with p ps (b ∷ bs) behind before at h place =
    let same : (before ++ p ∷ []) ++ all_indexed ps ≡ before ++ p ∷ all_indexed ps = append_assoc before (p ∷ []) (all_indexed ps) in
    let rest = behind (before ++ p ∷ []) (at + length (rows_from at (p ∷ []))) (subst AreBlockLists (sym same) h)
    (subst (λ (n : ℕ). n + length (rows_from n (p ∷ [])) ≡ length (row_file (before ++ p ∷ []))) (sym place) (sym (one_behind before p))) in
    let entry = has_entry before p (all_indexed ps) h in (
      (row_entry_at p at, refl, subst (λ (n : ℕ). HasEntry (row_file (before ++ p ∷ all_indexed ps)) p (row_entry_at p n)) (sym place) entry),
      subst (λ (ls : List BlockList). AllLead (row_file ls) ps (numbered_from (at + length (rows_from at (p ∷ []))) ps)) same rest,
    )

all_lead : (ps : List BlockList) → LeadBehind ps
all_lead [] before at h place = tt
all_lead (p ∷ ps) before at h place =
    let rest = lead_with p ps p.blocks (all_lead ps) before at h place in
    (refl, rest.0, rest.1)

pub indexes_stand : IndexesStand
indexes_stand columns ps h = record {
  numbered = all_numbered (placed columns.static_value ps);
  index = index_stands _ (are_numbered columns ps h);
  entries = all_lead (placed columns.static_value ps) [] 0 (are_lists columns ps h) refl;
}
