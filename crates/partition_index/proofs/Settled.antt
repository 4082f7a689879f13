-- One partition more: which entries stand then, and what stands in the file.
use Rattle.std.proofs.Common.{◌≡◌, ℕ, ◌+◌, ◌^◌, ◌≤◌, List, [], ◌∷◌, ◌++◌, length, arith, refl, ap, sym, subst, ◌∙◌}
use Rattle.std.proofs.lemmas.List.{append_assoc, append-nil}
use Rattle.std.specs.Prelude.{Option, Some, None}
use Rattle.page_packer.specs.Tree.{AreEntries, TrieEntry, IsBelow, key_bytes, last_key, tree_of}
use Rattle.page_packer.specs.Layout.{lay}
use Rattle.page_packer.specs.Early.{IsBeginning, early_of}
use Rattle.page_packer.proofs.Early.{list_grows, list_stands, prefix_is}
use Rattle.page_packer.proofs.Heavier.{ascend_parts}
use Rattle.page_packer.proofs.Meaning.{layout_means}
use Rattle.page_packer.proofs.Streamed.{empty_light}
use Rattle.partition_index.specs.Entries.{AreNumbered, IsApartBelow, IsNumbered, Numbered, StandApart, before_last, index_entries_from, entry_between, index_entries, last_among, last_string, settled, settled_from, string_bytes}
use Rattle.partition_index.specs.File.{behind_trie, early_index, index_trie, partition_file}
use Rattle.partition_index.specs.Laws.{EarlyIndexGrows, EarlyIndexStands, FileMeansIndex, IndexEnds}
use Rattle.partition_index.specs.Writing.{IsPartitionBehind}
use Rattle.partition_index.proofs.Apart.{are_entries, few_keys}

-- ---- the ends of a longer list

pub last_more : (p : Numbered) (ps : List Numbered) (n : Numbered) → last_among p (ps ++ n ∷ []) ≡ n
last_more p [] n = refl
last_more p (q ∷ ps) n = last_more q ps n

pub before_more : (before : Option (List ℕ)) (p : Numbered) (ps : List Numbered) (n : Numbered) → before_last before p (ps ++ n ∷ []) ≡ Some (last_among p ps).string
before_more before p [] n = refl
before_more before p (q ∷ ps) n = before_more (Some p.string) q ps n

stand_more : (p : Numbered) (ps : List Numbered) (n : Numbered) → StandApart (p ∷ ps) → IsApartBelow (last_among p ps).string n.string → IsNumbered n → StandApart (p ∷ (ps ++ n ∷ []))
stand_more p [] n h apart is = (h.0, apart, (is, tt, tt))
stand_more p (q ∷ ps) n h apart is = (h.0, h.1, stand_more q ps n h.2 apart is)

bytes_more : (ps : List Numbered) (n : Numbered) → string_bytes (ps ++ n ∷ []) ≡ string_bytes ps + length n.string
bytes_more [] n = omega arith
bytes_more (p ∷ ps) n = omega (arith, bytes_more ps n)

pub partitions_more : (ps : List Numbered) (n : Numbered) → AreNumbered ps → IsPartitionBehind ps n.string → IsNumbered n → string_bytes ps + length n.string ≤ 2 ^ 30 → AreNumbered (ps ++ n ∷ [])
partitions_more [] n h behind is few = record { ascend = (is, tt, tt); few = omega (arith, few) }
partitions_more (p ∷ ps) n h behind is few = record { ascend = stand_more p ps n h.ascend behind is; few = omega (arith, few, bytes_more (p ∷ ps) n) }

-- ---- the entries that stand

pub settled_more : (before : Option (List ℕ)) (p : Numbered) (ps : List Numbered) (n : Numbered)
    → settled_from before (p ∷ (ps ++ n ∷ [])) ≡ settled_from before (p ∷ ps) ++ entry_between (before_last before p ps) (last_among p ps) (Some n.string) ∷ []
settled_more before p [] n = refl
settled_more before p (q ∷ ps) n = ap (λ (es : List TrieEntry). entry_between before p (Some q.string) ∷ es) (settled_more (Some p.string) q ps n)

pub all_settled : (before : Option (List ℕ)) (p : Numbered) (ps : List Numbered)
    → index_entries_from before (p ∷ ps) ≡ settled_from before (p ∷ ps) ++ entry_between (before_last before p ps) (last_among p ps) None ∷ []
all_settled before p [] = refl
all_settled before p (q ∷ ps) = ap (λ (es : List TrieEntry). entry_between before p (Some q.string) ∷ es) (all_settled (Some p.string) q ps)

pub two_settled : (before : Option (List ℕ)) (p : Numbered) (ps : List Numbered) (n : Numbered)
    → index_entries_from before (p ∷ (ps ++ n ∷ [])) ≡ settled_from before (p ∷ ps) ++ entry_between (before_last before p ps) (last_among p ps) (Some n.string) ∷ entry_between (Some (last_among p ps).string) n None ∷ []
two_settled before p [] n = refl
two_settled before p (q ∷ ps) n = ap (λ (es : List TrieEntry). entry_between before p (Some q.string) ∷ es) (two_settled (Some p.string) q ps n)

settled_front : (before : Option (List ℕ)) (ps more : List Numbered) → (rest : List TrieEntry) × (index_entries_from before (ps ++ more) ≡ settled_from before ps ++ rest)
settled_front before [] more = (index_entries_from before more, refl)
settled_front before (p ∷ []) more = (index_entries_from before (p ∷ more), refl)
settled_front before (p ∷ q ∷ ps) more =
    let rest = settled_front (Some p.string) (q ∷ ps) more in
    (rest.0, ap (λ (es : List TrieEntry). entry_between before p (Some q.string) ∷ es) rest.1)

-- ---- what may be packed next

key_bytes_parts : (es fs : List TrieEntry) → key_bytes (es ++ fs) ≡ key_bytes es + key_bytes fs
key_bytes_parts [] fs = omega arith
key_bytes_parts (e ∷ es) fs = omega (arith, key_bytes_parts es fs)

pub next_fits : (ps : List Numbered) (es : List TrieEntry) (e : TrieEntry) (rest : List TrieEntry) → AreNumbered ps → index_entries ps ≡ es ++ e ∷ rest
    → IsBelow (last_key es) e.key × (key_bytes es + length e.key ≤ 2 ^ 30)
next_fits ps es e rest h is =
    let all = subst AreEntries is (are_entries ps h.ascend) in
    ((ascend_parts es (e ∷ rest) [] all).1.0, omega (arith, key_bytes_parts es (e ∷ rest), few_keys ps h, ap key_bytes is))

-- ---- what stands in the file

-- what stands early is a prefix of the trie
pub trie_front : (p : Numbered) (ps : List Numbered) → StandApart (p ∷ ps) → IsBeginning (early_index (p ∷ ps)) (index_trie (p ∷ ps)).bytes
trie_front p ps h =
    let is = all_settled None p ps in
    let front = list_stands (settled (p ∷ ps)) _ 0 (subst AreEntries is (are_entries (p ∷ ps) h)) in
    (front.0, ap (λ (es : List TrieEntry). (lay (tree_of es) 0).bytes) is ∙ front.1)

prefix_of_file : (ps : List Numbered) (es rest : List TrieEntry) → AreNumbered ps → index_entries ps ≡ es ++ rest → IsBeginning (early_of es 0) (partition_file ps)
prefix_of_file [] [] rest h is = (partition_file [], ap (λ (bytes : List ℕ). bytes ++ partition_file []) (sym (empty_light 0).0))
prefix_of_file [] (e ∷ es) rest h is = cc
prefix_of_file (p ∷ ps) es rest h is =
    let trie = lay (tree_of (index_entries (p ∷ ps))) 0 in
    let end_ = behind_trie p.string (last_string (p ∷ ps)) (length trie.bytes) (length (p ∷ ps)) trie.root in
    let front = list_stands es rest 0 (subst AreEntries is (are_entries (p ∷ ps) h.ascend)) in (
      front.0 ++ end_,
      ap (λ (fs : List TrieEntry). (lay (tree_of fs) 0).bytes ++ end_) is ∙ ap (λ (bytes : List ℕ). bytes ++ end_) front.1 ∙ append_assoc (early_of es 0) front.0 end_,
    )

pub early_index_stands : EarlyIndexStands
early_index_stands ps more h =
    let front = settled_front None ps more in
    prefix_of_file (ps ++ more) (settled ps) front.0 h front.1

pub early_index_grows : EarlyIndexGrows
early_index_grows [] n h = prefix_is (early_index []) (early_index (n ∷ [])) ([], sym (append-nil (early_index [])))
early_index_grows (p ∷ ps) n h =
    let e = entry_between (before_last None p ps) (last_among p ps) (Some n.string) in
    let f = entry_between (Some (last_among p ps).string) n None in
    let is = two_settled None p ps n in
    let both = subst AreEntries is (are_entries (p ∷ (ps ++ n ∷ [])) h.ascend) in
    let first = (ascend_parts (settled (p ∷ ps) ++ e ∷ []) (f ∷ []) [] (subst AreEntries (sym (append_assoc (settled (p ∷ ps)) (e ∷ []) (f ∷ []))) both)).0 in
    let front = list_grows (settled (p ∷ ps)) (e ∷ []) 0 first in
    prefix_is (early_index (p ∷ ps)) (early_index (p ∷ (ps ++ n ∷ [])))
    (front.0, ap (λ (es : List TrieEntry). early_of es 0) (settled_more None p ps n) ∙ front.1)

pub index_ends : IndexEnds
index_ends [] h = prefix_is (early_index []) (partition_file []) (prefix_of_file [] [] [] h refl)
index_ends (p ∷ ps) h = prefix_is (early_index (p ∷ ps)) (partition_file (p ∷ ps)) (prefix_of_file (p ∷ ps) (settled (p ∷ ps)) _ h (all_settled None p ps))

pub file_means_index : FileMeansIndex
file_means_index [] h some = absurd (omega (arith, some))
file_means_index (p ∷ ps) h some =
    let trie = lay (tree_of (index_entries (p ∷ ps))) 0 in
    layout_means (index_entries (p ∷ ps)) [] (behind_trie p.string (last_string (p ∷ ps)) (length trie.bytes) (length (p ∷ ps)) trie.root)
    (are_entries (p ∷ ps) h.ascend) (omega arith) (few_keys (p ∷ ps) h)
