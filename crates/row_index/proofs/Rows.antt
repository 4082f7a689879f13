-- The file of a row index: how long it is, and where the bytes of each partition stand.
use Rattle.std.proofs.Common.{◌≡◌, ℕ, ◌+◌, ◌*◌, ◌^◌, ◌<◌, ◌≤◌, List, [], ◌∷◌, ◌++◌, length, drop, arith, ap, sym, subst, ◌∙◌}
use Rattle.std.proofs.Math.Seq.{drop-append_seam}
use Rattle.std.proofs.lemmas.List.{append_assoc, length-append, length-map}
use Rattle.std.specs.List.{AllByRecursion}
use Rattle.bti_nodes.specs.Trie.{paths}
use Rattle.byteorder.specs.Endian.{big_bytes}
use Rattle.byteorder.specs.Numbers.{length-bytes_high_first}
use Rattle.length_prefix.specs.Counted.{counted}
use Rattle.page_packer.specs.Tree.{tree_of}
use Rattle.page_packer.specs.Reading.{AreThese}
use Rattle.page_packer.proofs.Length.{lay_root, length_bound}
use Rattle.page_packer.proofs.Meaning.{layout_means}
use Rattle.row_index.specs.Entries.{BlockList, IsBlockList, all_block_bytes, block_bytes, separator_entries, separator_entry}
use Rattle.row_index.specs.File.{block_list_bytes, entry_bytes, row_entry, row_entry_at, row_file, row_trie, rows_from}
use Rattle.row_index.specs.Laws.{EachStandsInRows, RowsAreShort}
use Rattle.row_index.proofs.Separators.{are_entries, few_blocks, few_keys}

-- ---- some partitions and others behind them

rows_parts : (at : ℕ) (ps qs : List BlockList) → rows_from at (ps ++ qs) ≡ rows_from at ps ++ rows_from (at + length (rows_from at ps)) qs
rows_parts at [] qs = let same : at ≡ at + 0 = omega arith in ap (λ (n : ℕ). rows_from n qs) same
rows_parts at (p ∷ ps) qs =
    let here = block_list_bytes p at in
    let next = at + length here in
    let rest = rows_from next ps in
    let place : next + length rest ≡ at + length (here ++ rest) = omega (arith, length-append here rest) in
    ap (λ (bytes : List ℕ). here ++ bytes) (rows_parts next ps qs) ∙ sym (append_assoc here rest (rows_from (next + length rest) qs))
    ∙ ap (λ (n : ℕ). (here ++ rest) ++ rows_from n qs) place

-- the bytes of some partitions behind one
abbrev pub rows_behind : ℕ → BlockList → List BlockList → List ℕ
rows_behind at p more = rows_from (at + length (block_list_bytes p at)) more

-- the file has the partitions before, this one, and others behind it
pub parted_at : (before : List BlockList) (p : BlockList) (more : List BlockList)
    → row_file (before ++ p ∷ more) ≡ row_file before ++ (block_list_bytes p (length (row_file before)) ++ rows_behind (length (row_file before)) p more)
parted_at before p more =
    let at = length (row_file before) in
    let here : 0 + at ≡ at = omega arith in
    rows_parts 0 before (p ∷ more) ∙ ap (λ (n : ℕ). row_file before ++ rows_from n (p ∷ more)) here

pub file_goes_on : (before more : List BlockList) → (rest : List ℕ) × (row_file (before ++ more) ≡ row_file before ++ rest)
file_goes_on before more = (rows_from (0 + length (row_file before)) more, rows_parts 0 before more)

pub lists_parted : (before more : List BlockList) → AllByRecursion IsBlockList (before ++ more) → AllByRecursion IsBlockList before × AllByRecursion IsBlockList more
lists_parted [] more h = (tt, h)
lists_parted (p ∷ before) more h = let rest = lists_parted before more h.1 in ((h.0, rest.0), rest.1)

pub lists_joined : (before more : List BlockList) → AllByRecursion IsBlockList before → AllByRecursion IsBlockList more → AllByRecursion IsBlockList (before ++ more)
lists_joined [] more h k = k
lists_joined (p ∷ before) more h k = (h.0, lists_joined before more h.1 k)

pub bytes_parted : (before more : List BlockList) → all_block_bytes (before ++ more) ≡ all_block_bytes before + all_block_bytes more
bytes_parted [] more = omega arith
bytes_parted (p ∷ before) more = omega (arith, bytes_parted before more)

-- ---- the file's length

pub entry_long : (string : List ℕ) (data_at root blocks : ℕ) → length (entry_bytes string data_at root blocks) ≡ length string + 22
unfolding entry_bytes
entry_long string data_at root blocks =
    let at = big_bytes 8 data_at in
    let top = big_bytes 8 root in
    let count = big_bytes 4 blocks in
    omega (
      arith,
      length-append (counted string) (at ++ (top ++ count)),
      length-append at (top ++ count),
      length-append top count,
      length-bytes_high_first 8 data_at,
      length-bytes_high_first 8 root,
      length-bytes_high_first 4 blocks,
    )

pub trie_long : (p : BlockList) (at : ℕ) → IsBlockList p → block_bytes p.blocks ≤ 2 ^ 30 → length (row_trie p at).bytes ≤ 32 * (block_bytes p.blocks + 1)
trie_long p at h few =
    let es = separator_entries p.blocks in
    let keys = few_keys p.blocks in
    omega (arith, keys, length_bound es at (are_entries p.blocks h.blocks) (omega (arith, keys, few)))

one_long : (p : BlockList) (at : ℕ) → IsBlockList p → block_bytes p.blocks ≤ 2 ^ 30 → length (block_list_bytes p at) ≤ 1110 * block_bytes p.blocks
one_long p at h few =
    let trie = row_trie p at in
    let some : 0 < block_bytes p.blocks = omega (arith, few_blocks p.blocks h.blocks, h.some) in
    omega (arith, trie_long p at h few, length-append trie.bytes (row_entry p trie.root), entry_long p.string p.data_at trie.root (length p.blocks + 1), h.most, some)

rows_long : (at : ℕ) (ps : List BlockList) → AllByRecursion IsBlockList ps → all_block_bytes ps ≤ 2 ^ 30 → length (rows_from at ps) ≤ 1110 * all_block_bytes ps
rows_long at [] h few = omega arith
rows_long at (p ∷ ps) h few =
    let here = block_list_bytes p at in
    let rest = rows_from (at + length here) ps in
    omega (arith, length-append here rest, one_long p at h.0 (omega (arith, few)), rows_long (at + length here) ps h.1 (omega (arith, few)))

pub rows_are_short : RowsAreShort
rows_are_short ps h = omega (arith, rows_long 0 ps h.each h.few, h.few)

-- ---- a partition in the file

pub each_stands_in_rows : EachStandsInRows
each_stands_in_rows before p more h =
    let front = row_file before in
    let at = length front in
    let trie = row_trie p at in
    let entry = row_entry p trie.root in
    let file = row_file (before ++ p ∷ more) in
    let rest = rows_behind at p more in
    let parts = lists_parted before (p ∷ more) h.each in
    let is = parts.1.0 in
    let few : block_bytes p.blocks ≤ 2 ^ 30 = omega (arith, bytes_parted before (p ∷ more), h.few) in
    let es = separator_entries p.blocks in
    let behind : file ≡ front ++ (trie.bytes ++ (entry ++ rest)) = parted_at before p more ∙ ap (λ (bytes : List ℕ). front ++ bytes) (append_assoc trie.bytes entry rest) in
    let there : file ≡ (front ++ trie.bytes) ++ (entry ++ rest) = behind ∙ sym (append_assoc front trie.bytes (entry ++ rest)) in
    let place : row_entry_at p at ≡ length (front ++ trie.bytes) = sym (length-append front trie.bytes) in
    record {
      entry = (rest, ap (λ (n : ℕ). drop n file) place ∙ ap (λ (bytes : List ℕ). drop (length (front ++ trie.bytes)) bytes) there ∙ drop-append_seam (front ++ trie.bytes) (entry ++ rest));
      means = subst (λ (bytes : List ℕ). AreThese (paths bytes trie.root) es) (sym behind)
          (layout_means es front (entry ++ rest) (are_entries p.blocks is.blocks) (omega (arith, length-map p.blocks separator_entry, is.some)) (omega (arith, few_keys p.blocks, few)));
      root = (lay_root (tree_of es) at).1;
      few = omega (arith, few_blocks p.blocks is.blocks, few);
    }
