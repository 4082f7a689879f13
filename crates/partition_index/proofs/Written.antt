-- What a writer of a partition index holds, from call to call.
use Rattle.std.proofs.Common.{take, Fits, w8, slice_index_or, ◌≡◌, ◌≢◌, ℕ, ℤ, ◌+◌, ◌-◌, ◌^◌, ◌<◌, ◌≤◌, true, List, [], ◌∷◌, ◌++◌, length, drop, arith, refl, ap, sym, subst, ◌∙◌}
use Rattle.std.proofs.lemmas.Bool.Decides.{nat_tests}
use Rattle.std.proofs.lemmas.List.{length-append}
use Rattle.std.specs.Prelude.{Option, Some, None, nat_lt, ◌≤ℤ◌, ◌<ℤ◌, pos, negsuc}
use Rattle.outside.specs.declared.store.FileId.{FileId}
use Rattle.byte_order.specs.Laws.{DiffersFrom}
use Rattle.byte_order.specs.Strings.{Differ, unique_size}
use Rattle.bti_nodes.specs.Payloads.{signed_bytes}
use Rattle.page_packer.specs.declared.packer.Packer.{Packer}
use Rattle.page_packer.specs.Tree.{TrieEntry, IsBelow, key_bytes, last_key}
use Rattle.page_packer.specs.Early.{early_of}
use Rattle.page_packer.specs.Packing.{Packing, packing_bytes_for, with_entry}
use Rattle.page_packer.specs.Packs.{Packs, Takes}
use Rattle.page_packer.proofs.Added.{all_bytes}
use Rattle.page_packer.proofs.Followed.{pick}
use Rattle.partition_index.specs.declared.newest.Newest.{Newest}
use Rattle.partition_index.specs.declared.writer.PartitionWriter.{PartitionWriter}
use Rattle.partition_index.specs.Entries.{AreNumbered, IsApartBelow, IsNumbered, Numbered, StandApart, before_last, entry_between, first_string, index_entries, last_among, settled}
use Rattle.partition_index.specs.File.{early_index, index_bytes_for}
use Rattle.partition_index.specs.Writing.{HasRoom, Indexing, IsPartitionBehind, IsNewest, PacksIndex, TakesPartition, string_before, last_in, newest_with, settled_packing, WritesIndex, numbered, with_partition}
use Rattle.partition_index.proofs.Index.{differ, differs_before, some_string}
use Rattle.partition_index.proofs.Ends.{count_most, last_is}
use Rattle.partition_index.proofs.Settled.{all_settled, before_more, last_more, next_fits, partitions_more, settled_more, two_settled}

-- ---- the last partition

last_apart : (before : Option (List ℕ)) (p : Numbered) (ps : List Numbered) → StandApart (p ∷ ps) → DiffersFrom p.string before
    → DiffersFrom (last_among p ps).string (before_last before p ps)
last_apart before p [] h low = low
last_apart before p (q ∷ ps) h low = last_apart (Some p.string) q ps h.2 (differs_before p.string q.string h.1)

-- it can be packed
pub record CanPack (packer : Packer) (newest : Newest) (behind : Option (List ℕ)) : Type 0 where
  pub takes : Takes packer (entry_between (string_before newest) (last_in newest) behind).key
  pub some : newest.last ≢ []
  pub before : DiffersFrom newest.last (string_before newest)
  pub is : IsNumbered (last_in newest)

can_pack : (packer : Packer) (newest : Newest) (file : FileId) (p : Numbered) (ps : List Numbered) (behind : Option (List ℕ)) (all : List Numbered) (rest : List TrieEntry)
    → PacksIndex packer newest (record { file = file; partitions = p ∷ ps }) → AreNumbered all
    → index_entries all ≡ settled (p ∷ ps) ++ entry_between (before_last None p ps) (last_among p ps) behind ∷ rest → CanPack packer newest behind
can_pack packer newest file p ps behind all rest h fine is =
    let last : last_in newest ≡ last_among p ps = h.newest_is.1 in
    let before : string_before newest ≡ before_last None p ps = h.newest_is.2 in
    let ours : Numbered → Option (List ℕ) → TrieEntry = λ l b. entry_between b l behind in
    let same : entry_between (before_last None p ps) (last_among p ps) behind ≡ entry_between (string_before newest) (last_in newest) behind =
    ap (λ (b : Option (List ℕ)). ours (last_among p ps) b) (sym before) ∙ ap (λ (l : Numbered). ours l (string_before newest)) (sym last) in
    let fits = next_fits all (settled (p ∷ ps)) (entry_between (before_last None p ps) (last_among p ps) behind) rest fine is in
    let part : IsNumbered (last_in newest) = subst IsNumbered (sym last) (last_is p ps h.fine.ascend) in
    let apart = subst (λ (l : Numbered). DiffersFrom l.string (before_last None p ps)) (sym last) (last_apart None p ps h.fine.ascend tt) in
    record {
      takes = record {
        packing = settled_packing (record { file = file; partitions = p ∷ ps });
        packs = h.packs;
        above = subst (λ (e : TrieEntry). above_last e) same fits.0;
        few = subst (λ (e : TrieEntry). few_with e) same fits.1;
      };
      some = some_string newest.last part.some;
      before = subst (λ (b : Option (List ℕ)). DiffersFrom newest.last b) (sym before) apart;
      is = part;
    }
  where
    above_last : TrieEntry → Type 0
    above_last e = IsBelow (last_key (settled (p ∷ ps))) e.key

    few_with : TrieEntry → Type 0
    few_with e = key_bytes (settled (p ∷ ps)) + length e.key ≤ 2 ^ 30

pub next_pack : (packer : Packer) (newest : Newest) (file : FileId) (ps : List Numbered) (n : Numbered) → PacksIndex packer newest (record { file = file; partitions = ps })
    → 0 < newest.count → IsPartitionBehind ps n.string → AreNumbered (ps ++ n ∷ []) → CanPack packer newest (Some n.string) × Differ newest.last n.string
next_pack packer newest file [] n h some behind fine = absurd (omega (arith, h.newest_is.0, some))
next_pack packer newest file (p ∷ ps) n h some behind fine = (
  can_pack packer newest file p ps (Some n.string) (p ∷ (ps ++ n ∷ [])) _ h fine (two_settled None p ps n),
  subst (λ (l : Numbered). Differ l.string n.string) (sym h.newest_is.1) (differ (last_among p ps).string n.string behind),
)

pub last_pack : (packer : Packer) (newest : Newest) (file : FileId) (ps : List Numbered) → PacksIndex packer newest (record { file = file; partitions = ps })
    → 0 < newest.count → CanPack packer newest None
last_pack packer newest file [] h some = absurd (omega (arith, h.newest_is.0, some))
last_pack packer newest file (p ∷ ps) h some = can_pack packer newest file p ps None (p ∷ ps) [] h h.fine (all_settled None p ps)

-- its key, from what the code has
pub packed_key : (newest : Newest) (last : List ℕ) (before behind : Option (List ℕ)) (size : ℕ) → last ≡ newest.last → before ≡ string_before newest → size ≡ unique_size before last behind
    → take size last ≡ (entry_between (string_before newest) (last_in newest) behind).key
packed_key newest last before behind size same front long =
    ap (λ (n : ℕ). take n last) long ∙ ap (λ (b : Option (List ℕ)). take (unique_size b last behind) last) front
    ∙ ap (λ (string : List ℕ). take (unique_size (string_before newest) string behind) string) same

-- ---- one partition more

abbrev pub packed_with : Newest → FileId → List Numbered → Option (List ℕ) → Packing
packed_with newest file ps behind =
    with_entry (settled_packing (record { file = file; partitions = ps })) (entry_between (string_before newest) (last_in newest) behind).key (signed_bytes newest.number)

pub packed_some : (newest : Newest) (file : FileId) (ps : List Numbered) (behind : Option (List ℕ)) → 0 < length (packed_with newest file ps behind).entries
packed_some newest file ps behind = omega (arith, length-append (settled ps) (entry_between (string_before newest) (last_in newest) behind ∷ []))

held_entry : (newest : Newest) (p : Numbered) (ps : List Numbered) (behind : Option (List ℕ)) → IsNewest newest (p ∷ ps)
    → entry_between (string_before newest) (last_in newest) behind ≡ entry_between (before_last None p ps) (last_among p ps) behind
held_entry newest p ps behind h =
    ap (λ (b : Option (List ℕ)). entry_between b (last_in newest) behind) h.2 ∙ ap (λ (l : Numbered). entry_between (before_last None p ps) l behind) h.1

pub packing_next : (newest : Newest) (file : FileId) (ps : List Numbered) (n : Numbered) → IsNewest newest ps → 0 < newest.count
    → packed_with newest file ps (Some n.string) ≡ settled_packing (record { file = file; partitions = ps ++ n ∷ [] })
packing_next newest file [] n h some = absurd (omega (arith, h.0, some))
packing_next newest file (p ∷ ps) n h some =
    let is = ap (λ (e : TrieEntry). settled (p ∷ ps) ++ e ∷ []) (held_entry newest p ps (Some n.string) h) ∙ sym (settled_more None p ps n) in
    ap (λ (es : List TrieEntry). packing_of file es) is
  where
    packing_of : FileId → List TrieEntry → Packing
    packing_of f es = record { file = f; start = 0; entries = es }

pub packing_last : (newest : Newest) (file : FileId) (ps : List Numbered) → IsNewest newest ps → 0 < newest.count
    → packed_with newest file ps None ≡ record { file = file; start = 0; entries = index_entries ps }
packing_last newest file [] h some = absurd (omega (arith, h.0, some))
packing_last newest file (p ∷ ps) h some =
    let is = ap (λ (e : TrieEntry). settled (p ∷ ps) ++ e ∷ []) (held_entry newest p ps None h) ∙ sym (all_settled None p ps) in
    ap (λ (es : List TrieEntry). packing_of file es) is
  where
    packing_of : FileId → List TrieEntry → Packing
    packing_of f es = record { file = f; start = 0; entries = es }

newest_next : (newest : Newest) (ps : List Numbered) (n : Numbered) → IsNewest newest ps → 0 < newest.count → IsNewest (newest_with newest n.string n.number) (ps ++ n ∷ [])
newest_next newest [] n h some = absurd (omega (arith, h.0, some))
newest_next newest (p ∷ ps) n h some =
    let more : nat_lt 1 (newest.count + 1) ≡ true = grind (arith, nat_tests) in (
      omega (arith, h.0, length-append (p ∷ ps) (n ∷ [])),
      sym (last_more p ps n),
      pick (nat_lt 1 (newest.count + 1)) (Some newest.last) None more ∙ ap (λ (l : Numbered). Some l.string) h.1 ∙ sym (before_more None p ps n),
    )

-- the same partitions are held, so the string is behind them too
pub same_behind : (newest : Newest) (ps qs : List Numbered) (string : List ℕ) → IsNewest newest ps → IsNewest newest qs → IsPartitionBehind ps string → IsPartitionBehind qs string
same_behind newest ps [] string h k behind = tt
same_behind newest [] (q ∷ qs) string h k behind = absurd (omega (arith, h.0, k.0))
same_behind newest (p ∷ ps) (q ∷ qs) string h k behind = subst (λ (l : Numbered). IsApartBelow l.string string) (sym h.1 ∙ k.1) behind

pub newest_count : (newest : Newest) (ps : List Numbered) → IsNewest newest ps → newest.count ≡ length ps
newest_count newest [] h = h.0
newest_count newest (p ∷ ps) h = h.0

pub count_few : (packer : Packer) (newest : Newest) (w : Indexing) → PacksIndex packer newest w → newest.count ≤ 2 ^ 30
count_few packer newest w h = omega (arith, newest_count newest w.partitions h.newest_is, count_most w.partitions h.fine.ascend, h.fine.few)

first_more : (ps : List Numbered) (n : Numbered) → 0 < length ps → first_string (ps ++ n ∷ []) ≡ first_string ps
first_more [] n h = absurd (omega (arith, h))
first_more (p ∷ ps) n h = refl

pub next_writes : (s t : PartitionWriter) (w : Indexing) (n : Numbered) → WritesIndex s w → 0 < s.newest.count → IsPartitionBehind w.partitions n.string → IsNumbered n → HasRoom w n
    → t.file ≡ s.file → t.first ≡ s.first → t.newest ≡ newest_with s.newest n.string n.number → Packs t.packer (packed_with s.newest w.file w.partitions (Some n.string))
    → WritesIndex t (with_partition w n)
next_writes s t w n h some behind is room file first newest packs = record {
  file = file ∙ h.file;
  first = first ∙ h.first ∙ sym (first_more w.partitions n (omega (arith, newest_count s.newest w.partitions h.trie.newest_is, some)));
  trie = record {
    packs = subst (λ (p : Packing). Packs t.packer p) (packing_next s.newest w.file w.partitions n h.trie.newest_is some) packs;
    fine = partitions_more w.partitions n h.trie.fine behind is room;
    newest_is = subst (λ (k : Newest). IsNewest k (w.partitions ++ n ∷ [])) (sym newest) (newest_next s.newest w.partitions n h.trie.newest_is some);
  };
}

-- what packing the last partition appends is what one more appends
pub appended_next : (newest : Newest) (file : FileId) (ps : List Numbered) (n : Numbered) → IsNewest newest ps → 0 < newest.count
    → packing_bytes_for (settled_packing (record { file = file; partitions = ps })) (entry_between (string_before newest) (last_in newest) (Some n.string)).key (signed_bytes newest.number) ≡ index_bytes_for ps n
appended_next newest file ps n h some = ap (λ (p : Packing). drop (length (early_index ps)) (early_of p.entries 0)) (packing_next newest file ps n h some)

-- ---- the call of the packer for the next partition

pub numbered_is : (string : List ℕ) (number : ℤ) → ((i : ℕ) → Fits w8 (slice_index_or string i 0)) → 0 < length string → length string ≤ 1024
    → negsuc (2 ^ 55 - 1) ≤ℤ number → number <ℤ pos (2 ^ 55) → IsNumbered (numbered string number)
numbered_is string number fits some most low high = record { bytes = all_bytes string fits; some = some; most = most; low = low; high = high }

pub next_ready : (s : PartitionWriter) (n : Numbered) → TakesPartition s n.string → 0 < s.newest.count → IsNumbered n
    → CanPack s.packer s.newest (Some n.string) × Differ s.newest.last n.string
next_ready s n k some is =
    let w = k.indexing in
    next_pack s.packer s.newest w.file w.partitions n k.writes.trie some k.behind (partitions_more w.partitions n k.writes.trie.fine k.behind is k.few)
