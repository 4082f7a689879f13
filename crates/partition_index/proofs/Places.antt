-- How long a partition index is, and where its root stands.
use Rattle.std.proofs.Common.{◌≡◌, ℕ, ◌+◌, ◌*◌, ◌^◌, ◌<◌, ◌≤◌, Bool, true, false, List, [], ◌∷◌, ◌++◌, length, arith}
use Rattle.std.proofs.lemmas.List.{length-append}
use Rattle.std.specs.Prelude.{if◌then◌else◌, ◌==◌}
use Rattle.byteorder.specs.Numbers.{length-bytes_high_first}
use Rattle.length_prefix.specs.Counted.{counted}
use Rattle.page_packer.specs.Tree.{AreEntries, TrieEntry, IsBelow, Tree, branch, end, grown, path, tree, tree_of, weight, with_key}
use Rattle.page_packer.specs.Layout.{Laid, closed_in_page, gap, lay, lay_under, light, packed, packed_under, shifted}
use Rattle.page_packer.proofs.Length.{lay_root, length_bound}
use Rattle.page_packer.proofs.Pages.{root_between}
use Rattle.partition_index.specs.Entries.{AreNumbered, Numbered, first_string, index_entries, last_string}
use Rattle.partition_index.specs.File.{behind_trie, footer, in_eight, index_trie}
use Rattle.partition_index.specs.Laws.{IndexIsShort, RootInTrie}
use Rattle.partition_index.proofs.Apart.{are_entries, few_keys}
use Rattle.partition_index.proofs.Ends.{count_most, first_short, last_short}

-- ---- the root stands behind other nodes

abbrev HasBranch : Tree → Type 0
HasBranch (tree q end) = ⊥
HasBranch (tree q (branch b t bs)) = Unit {0}

key_branches : (t : Tree) (key v : List ℕ) → HasBranch t → HasBranch (with_key t key v)
key_branches (tree q end) key v h = absurd h
key_branches (tree q (branch b t bs)) [] v h = tt
key_branches (tree q (branch b t end)) (c ∷ key) v h = by (b == c)
  where
    by : (same : Bool) → HasBranch (tree q (if same then branch b (with_key t key v) end else branch b t (branch c (path key v) end)))
    by true = tt
    by false = tt
key_branches (tree q (branch b t (branch d u bs))) (c ∷ key) v h = tt

keys_branch : (es : List TrieEntry) (t : Tree) → HasBranch t → HasBranch (grown t es)
keys_branch [] t h = h
keys_branch (e ∷ es) t h = keys_branch es (with_key t e.key e.payload) (key_branches t e.key e.payload h)

tree_branches : (es : List TrieEntry) → AreEntries es → 0 < length es → HasBranch (tree_of es)
tree_branches [] h some = absurd (omega (arith, some))
tree_branches (e ∷ es) h some = keys_branch es _ (by e.key e.payload h.0)
  where
    by : (key v : List ℕ) → IsBelow [] key → HasBranch (with_key (tree [] end) key v)
    by [] v low = cc
    by (b ∷ key) v low = tt

root_above : (t : Tree) (p : ℕ) → HasBranch t → p < (lay t p).root
root_above (tree q end) p h = absurd h
root_above (tree q (branch b t bs)) p h =
    let all = tree q (branch b t bs) in
    let room = gap p (weight all) in
    let under = lay_under (branch b t bs) p in
    by (light all) (shifted room (packed all (p + room))) (closed_in_page q under (p + length under.bytes))
    (omega (arith, root_between t (p + room), length-append (packed t (p + room)).bytes (packed_under bs (p + room + length (packed t (p + room)).bytes)).bytes))
    (omega (arith, lay_root t p, length-append (lay t p).bytes (lay_under bs (p + length (lay t p).bytes)).bytes))
  where
    by : (small : Bool) (x y : Laid) → p < x.root → p < y.root → p < (if small then x else y).root
    by true x y a c = a
    by false x y a c = c

pub root_in_trie : RootInTrie
root_in_trie [] h some = absurd (omega (arith, some))
root_in_trie (p ∷ ps) h some =
    let es = index_entries (p ∷ ps) in
    (root_above (tree_of es) 0 (tree_branches es (are_entries (p ∷ ps) h.ascend) (omega arith)), omega (arith, lay_root (tree_of es) 0))

-- ---- the file's length

eight_long : (n : ℕ) → length (in_eight n) ≡ 8
unfolding in_eight
eight_long n = length-bytes_high_first 8 n

behind_long : (first last : List ℕ) (end_ count root : ℕ) → length (behind_trie first last end_ count root) ≡ length first + length last + 28
behind_long first last end_ count root =
    omega (
      arith,
      eight_long end_,
      eight_long count,
      eight_long root,
      length-append (counted first) (counted last ++ footer end_ count root),
      length-append (counted last) (footer end_ count root),
      length-append (in_eight end_) (in_eight count ++ in_eight root),
      length-append (in_eight count) (in_eight root),
    )

trie_short : (ps : List Numbered) → AreNumbered ps → length (index_trie ps).bytes ≤ 32 * (2 ^ 30 + 1)
trie_short [] h = omega arith
trie_short (p ∷ ps) h =
    let es = index_entries (p ∷ ps) in
    let few = few_keys (p ∷ ps) h in
    omega (arith, few, length_bound es 0 (are_entries (p ∷ ps) h.ascend) few)

pub index_is_short : IndexIsShort
index_is_short ps h =
    let trie = index_trie ps in
    let behind = behind_long (first_string ps) (last_string ps) (length trie.bytes) (length ps) trie.root in
    let all = length-append trie.bytes (behind_trie (first_string ps) (last_string ps) (length trie.bytes) (length ps) trie.root) in
    record {
      few = omega (arith, count_most ps h.ascend, h.few);
      behind = omega (arith, all, behind);
      short = omega (arith, all, behind, trie_short ps h, first_short ps h.ascend, last_short ps h.ascend);
    }
