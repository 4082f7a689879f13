-- What a writer of a row index holds, from call to call.
use Rattle.std.proofs.Common.{Option, Result, Ok, IsErr, Fits, w8, slice_index_or, ◌≡◌, ℕ, ◌+◌, ◌^◌, ◌<◌, ◌≤◌, List, [], ◌∷◌, ◌++◌, length, take, arith, ap, sym, subst, ◌∙◌}
use Rattle.std.proofs.lemmas.List.{length-append, length-take}
use Rattle.std.specs.declared.cmp.Ordering.TheVariants.{Less}
use Rattle.key_types.specs.Table.{string_cmp}
use Rattle.outside.specs.Files.{Appends, Files}
use Rattle.outside.proofs.Sets.{appended_behind, failed_before}
use Rattle.outside.specs.declared.store.FileId.{FileId}
use Rattle.byte_order.specs.Strings.{separator_size}
use Rattle.bti_nodes.specs.Payloads.{unsigned_bytes}
use Rattle.page_packer.specs.declared.packer.Packer.{Packer}
use Rattle.page_packer.specs.Tree.{AreEntries}
use Rattle.page_packer.specs.Packing.{Packing, packing_bytes_for, laid, last_bytes, nothing_packed, with_entry}
use Rattle.page_packer.specs.Packs.{Packs, Takes}
use Rattle.page_packer.proofs.Added.{all_bytes}
use Rattle.page_packer.proofs.Heavier.{ascend_parts}
use Rattle.row_index.specs.declared.writer.RowWriter.{RowWriter}
use Rattle.row_index.specs.Entries.{AreBlockLists, AreBlocks, Block, IsBlock, block_bytes, separator_entries, separator_entry}
use Rattle.row_index.specs.File.{entry_bytes, row_entry, row_file, row_trie}
use Rattle.row_index.specs.Writing.{GoesBehind, IsBehindBlocks, RowIndexing, WritesRowIndex, begun_rows_at, begun_entry_at, begun_packing, block_list, block_of, last_row_bytes, row_bytes_for, with_block, with_finished}
use Rattle.row_index.proofs.Growing.{block_bytes_are, entries_parts, last_rows_are, packing_with}
use Rattle.row_index.proofs.Rows.{bytes_parted, entry_long, lists_joined, parted_at, rows_are_short}
use Rattle.row_index.proofs.Separators.{are_entries, few_blocks, few_keys}

-- the packer, wherever it was put
pub packs_as : (packer held : Packer) (w : RowIndexing) → packer ≡ held → Packs held (begun_packing w) → Packs packer (begun_packing w)
packs_as packer held w same h = subst (λ (k : Packer). Packs k (begun_packing w)) (sym same) h

-- ---- one block more

blocks_more : (bs : List Block) (n : Block) → AreBlocks bs → IsBehindBlocks bs n.before → IsBlock n → AreBlocks (bs ++ n ∷ [])
blocks_more [] n h behind is = (is, tt, tt)
blocks_more (b ∷ []) n h behind is = (h.0, behind, (is, tt, tt))
blocks_more (b ∷ c ∷ bs) n h behind is = (h.0, h.1, blocks_more (c ∷ bs) n h.2 behind is)

bytes_more : (bs : List Block) (n : Block) → block_bytes (bs ++ n ∷ []) ≡ block_bytes bs + length n.first
bytes_more [] n = omega arith
bytes_more (b ∷ bs) n = omega (arith, bytes_more bs n)

pub count_few : (s : RowWriter) (w : RowIndexing) → WritesRowIndex s w → s.blocks ≤ 2 ^ 30
count_few s w h = omega (arith, h.count, few_blocks w.begun h.fine, h.few)

pub block_is : (before first : List ℕ) (offset : ℕ) → ((i : ℕ) → Fits w8 (slice_index_or first i 0)) → string_cmp before first ≡ Less → 0 < offset → offset < 2 ^ 56
    → IsBlock (block_of before first offset)
block_is before first offset fits above some few = record { bytes = all_bytes first fits; above = above; some = some; few = few }

-- the packer takes its separator
pub takes_block : (s : RowWriter) (w : RowIndexing) (b : Block) → GoesBehind s w b → IsBlock b → Takes s.packer (separator_entry b).key
takes_block s w b h is =
    let es = separator_entries w.begun in
    let all = subst AreEntries (entries_parts w.begun (b ∷ [])) (are_entries (w.begun ++ b ∷ []) (blocks_more w.begun b h.writes.fine h.behind is)) in
    record {
      packing = begun_packing w;
      packs = h.writes.packs;
      above = (ascend_parts es (separator_entry b ∷ []) [] all).1.0;
      few = omega (arith, few_keys w.begun, length-take (separator_size b.before b.first) b.first, h.few);
    }

-- the packer got it, and appended what it appends
pub block_packed : (w : RowIndexing) (before first : List ℕ) (offset size : ℕ) (payload : List ℕ) → size ≡ separator_size before first → payload ≡ unsigned_bytes offset
    → with_entry (begun_packing w) (take size first) payload ≡ begun_packing (with_block w (block_of before first offset))
block_packed w before first offset size payload long spelled =
    ap (λ (n : ℕ). with_entry (begun_packing w) (take n first) payload) long
    ∙ ap (λ (v : List ℕ). with_entry (begun_packing w) (take (separator_size before first) first) v) spelled ∙ packing_with w (block_of before first offset)

pub block_appended : (w : RowIndexing) (before first : List ℕ) (offset size : ℕ) (payload : List ℕ) → size ≡ separator_size before first → payload ≡ unsigned_bytes offset
    → packing_bytes_for (begun_packing w) (take size first) payload ≡ row_bytes_for w (block_of before first offset)
block_appended w before first offset size payload long spelled =
    ap (λ (n : ℕ). packing_bytes_for (begun_packing w) (take n first) payload) long
    ∙ ap (λ (v : List ℕ). packing_bytes_for (begun_packing w) (take (separator_size before first) first) v) spelled ∙ block_bytes_are w (block_of before first offset)

pub next_rows : (s t : RowWriter) (w : RowIndexing) (b : Block) → GoesBehind s w b → IsBlock b → t.file ≡ s.file → t.blocks ≡ s.blocks + 1
    → Packs t.packer (begun_packing (with_block w b)) → WritesRowIndex t (with_block w b)
next_rows s t w b h is file count packs = record {
  file = file ∙ h.writes.file;
  packs = packs;
  done = h.writes.done;
  fine = blocks_more w.begun b h.writes.fine h.behind is;
  few = omega (arith, bytes_more w.begun b, h.few);
  count = omega (arith, count, h.writes.count, length-append w.begun (b ∷ []));
}

-- ---- the end of a partition

-- what is finished with it
pub with_it : (s : RowWriter) (w : RowIndexing) (string : List ℕ) (data_at : ℕ) → WritesRowIndex s w → 0 < length w.begun → length string ≤ 1024 → data_at < 2 ^ 64
    → AreBlockLists (w.done ++ block_list w string data_at ∷ [])
with_it s w string data_at h some most place = record {
  each = lists_joined w.done _ h.done (record { most = most; place = place; some = some; blocks = h.fine }, tt);
  few = omega (arith, bytes_parted w.done (block_list w string data_at ∷ []), h.few);
}

-- the file ends behind the entry
pub ends_at : (w : RowIndexing) (string : List ℕ) (data_at : ℕ) → length (row_file (w.done ++ block_list w string data_at ∷ [])) ≡ begun_entry_at w + (length string + 22)
ends_at w string data_at =
    let p = block_list w string data_at in
    let trie = row_trie p (begun_rows_at w) in
    let entry = row_entry p trie.root in
    omega (
      arith,
      ap (λ (bytes : List ℕ). length bytes) (parted_at w.done p []),
      length-append (row_file w.done) ((trie.bytes ++ entry) ++ []),
      length-append (trie.bytes ++ entry) [],
      length-append trie.bytes entry,
      entry_long string data_at trie.root (length w.begun + 1),
    )

pub next_partition : (s t : RowWriter) (w : RowIndexing) (string : List ℕ) (data_at start : ℕ) → WritesRowIndex s w → 0 < length w.begun → length string ≤ 1024 → data_at < 2 ^ 64
    → t.file ≡ s.file → t.blocks ≡ 0 → Packs t.packer (nothing_packed s.file start) → start ≡ begun_entry_at w + (length string + 22) → WritesRowIndex t (with_finished w string data_at)
next_partition s t w string data_at start h some most place file none packs at =
    let all = with_it s w string data_at h some most place in
    let there = at ∙ sym (ends_at w string data_at) in
    let here : Packs t.packer (nothing_packed w.file start) = subst (λ (f : FileId). Packs t.packer (nothing_packed f start)) h.file packs in
    record {
      file = file ∙ h.file;
      packs = subst (λ (n : ℕ). Packs t.packer (nothing_packed w.file n)) there here;
      done = all.each;
      fine = tt;
      few = omega (arith, all.few);
      count = none;
    }

-- the file stays short
end_short : (s : RowWriter) (w : RowIndexing) (string : List ℕ) (data_at : ℕ) → WritesRowIndex s w → 0 < length w.begun → length string ≤ 1024 → data_at < 2 ^ 64
    → begun_entry_at w + (length string + 22) < 2 ^ 41
end_short s w string data_at h some most place = omega (arith, ends_at w string data_at, rows_are_short _ (with_it s w string data_at h some most place))

-- where the trie of a partition and the entry end, from what the code has
pub record Ended (w : RowIndexing) (string : List ℕ) (end_ : ℕ) (entry : List ℕ) : Type 0 where
  pub is : end_ ≡ begun_entry_at w
  pub behind : end_ + length entry ≡ begun_entry_at w + (length string + 22)
  pub short : end_ + length entry < 2 ^ 41

pub entry_ended : (s : RowWriter) (packer : Packer) (w : RowIndexing) (string : List ℕ) (data_at root end_ : ℕ) (entry : List ℕ) → WritesRowIndex s w → 0 < length w.begun
    → length string ≤ 1024 → data_at < 2 ^ 64 → packer ≡ s.packer → ((p : Packing) → Packs packer p → end_ ≡ p.start + length (laid p).bytes)
    → entry ≡ entry_bytes string data_at root (s.blocks + 1) → Ended w string end_ entry
entry_ended s packer w string data_at root end_ entry h some most place same ends is =
    let here : end_ ≡ begun_entry_at w = ends (begun_packing w) (packs_as packer s.packer w same h.packs) in
    let long = ap (λ (bytes : List ℕ). length bytes) is in
    record {
      is = here;
      behind = omega (arith, here, long, entry_long string data_at root (s.blocks + 1));
      short = omega (arith, here, long, entry_long string data_at root (s.blocks + 1), end_short s w string data_at h some most place);
    }

-- ---- what is appended then

-- there are blocks, whatever it was given
pub any_some : (s : RowWriter) (w v : RowIndexing) → WritesRowIndex s w → 0 < length w.begun → WritesRowIndex s v → 0 < length v.begun
any_some s w v h some k = omega (arith, h.count, k.count)

pub entry_is : (s : RowWriter) (w : RowIndexing) (string : List ℕ) (data_at root : ℕ) → WritesRowIndex s w → root ≡ (laid (begun_packing w)).root
    → entry_bytes string data_at root (s.blocks + 1) ≡ row_entry (block_list w string data_at) (laid (begun_packing w)).root
entry_is s w string data_at root h top =
    ap (λ (n : ℕ). entry_bytes string data_at n (s.blocks + 1)) top ∙ ap (λ (n : ℕ). entry_bytes string data_at (laid (begun_packing w)).root (n + 1)) h.count

-- the rest of the trie stands, and its entry is appended,
pub partition_appended : (E : Type 0) {T R G : Type 0} (old mid new : Option Files) (w : RowIndexing) (string : List ℕ) (data_at : ℕ) (first : T) (r : Result R G) → AreBlocks w.begun
    → Appends {E = E} old mid w.file (Ok first) (last_bytes (begun_packing w)) → Appends mid new w.file r (row_entry (block_list w string data_at) (laid (begun_packing w)).root)
    → Appends old new w.file r (last_row_bytes w string data_at)
partition_appended E old mid new w string data_at first r fine p q =
    subst (λ (bytes : List ℕ). Appends old new w.file r bytes) (sym (last_rows_are w string data_at fine))
    (appended_behind E old mid new w.file first r r (last_bytes (begun_packing w)) _ (λ e. e) (λ e. e) p q)

-- or the rest of the trie was not appended whole
pub partition_failed : {T R E G : Type 0} (old new : Option Files) (w : RowIndexing) (string : List ℕ) (data_at : ℕ) (inner : Result T E) (outer : Result R G) → AreBlocks w.begun
    → IsErr inner → IsErr outer → Appends old new w.file inner (last_bytes (begun_packing w)) → Appends old new w.file outer (last_row_bytes w string data_at)
partition_failed old new w string data_at r s fine bad worse p =
    subst (λ (bytes : List ℕ). Appends old new w.file s bytes) (sym (last_rows_are w string data_at fine))
    (failed_before old new w.file r s (last_bytes (begun_packing w)) _ bad worse p)
