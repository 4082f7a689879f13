-- The paths of a tree that stands in a file are its entries.
use Rattle.std.proofs.Common.{◌≡◌, ℕ, zero, suc, ◌+◌, ◌-◌, ◌^◌, ◌<◌, ◌≤◌, List, [], ◌∷◌, ◌++◌, length, map, Option, Some, None, Result, Ok, Err, refl, sym, ◌∙◌, ap, subst, arith}
use Rattle.std.proofs.lemmas.List.{map-append}
use Rattle.std.specs.Result.{IsOkAnd}
use Rattle.bti_nodes.specs.declared.node.Child.{Child}
use Rattle.bti_nodes.specs.Grammar.{Node}
use Rattle.bti_nodes.specs.Laws.{standing}
use Rattle.bti_nodes.specs.Trie as trie
use Rattle.bti_nodes.specs.Trie.{Wrong, Path, Paths, node_in, longer, under, both, of_places, of_node, paths_by, paths}
use Rattle.page_packer.specs.Tree.{Tree, Branches, tree, end, branch, TrieEntry, AreEntries, key_bytes, tree_of, below, own, entries_of, entries_under}
use Rattle.page_packer.specs.Layout.{lay}
use Rattle.page_packer.specs.Reading.{entry_of_path, AreThese}
use Rattle.page_packer.proofs.Grown.{same_entries}
use Rattle.page_packer.proofs.Reading.{Means, MeansUnder, root_means}

-- places without children have no paths
abbrev placed : List Child → List (Option Child)
placed [] = []
placed (c ∷ cs) = Some c ∷ placed cs

only_children : (go : ℕ → Paths) (at : ℕ) (places : List (Option Child)) → of_places go at places ≡ of_places go at (placed (standing places))
only_children go at [] = refl
only_children go at (None ∷ places) = only_children go at places
only_children go at (Some c ∷ places) = ap (both (under c.byte (go (at - c.distance)))) (only_children go at places)

both_these : (r s : Paths) (es fs : List TrieEntry) → AreThese r es → AreThese s fs → AreThese (both r s) (es ++ fs)
both_these (Err w) s es fs h k = absurd h
both_these (Ok ps) (Err w) es fs h k = absurd k
both_these (Ok ps) (Ok qs) es fs h k = map-append entry_of_path ps qs ∙ ap (λ x. x ++ map entry_of_path qs) h ∙ ap (λ x. es ++ x) k

longer_these : (b : ℕ) (ps : List Path) → map entry_of_path (map (longer b) ps) ≡ map (below b) (map entry_of_path ps)
longer_these b [] = refl
longer_these b (p ∷ ps) = ap (λ x. below b (entry_of_path p) ∷ x) (longer_these b ps)

under_these : (b : ℕ) (r : Paths) (es : List TrieEntry) → AreThese r es → AreThese (under b r) (map (below b) es)
under_these b (Err w) es h = absurd h
under_these b (Ok ps) es h = longer_these b ps ∙ ap (map (below b)) h

own_these : (at : ℕ) (q : List ℕ) → map entry_of_path (trie.own at q) ≡ own q
own_these at [] = refl
own_these at (x ∷ xs) = refl

node_these : (go : ℕ → Paths) (at : ℕ) (r : Result Node Wrong) (q : List ℕ) (bs : Branches) (P : List Child → Type 0) → IsOkAnd r (λ n. (n.payload ≡ q) × P (standing n.places))
    → ((cs : List Child) → P cs → AreThese (of_places go at (placed cs)) (entries_under bs)) → AreThese (of_node go at r) (own q ++ entries_under bs)
node_these go at (Err w) q bs P h f = absurd h
node_these go at (Ok n) q bs P h f =
    both_these (Ok (trie.own at n.payload)) (of_places go at n.places) (own q) (entries_under bs) (own_these at n.payload ∙ ap own h.0)
    (subst (λ (r : Paths). AreThese r (entries_under bs)) (sym (only_children go at n.places)) (f (standing n.places) h.1))

mutual
  paths_these : (t : Tree) (file : List ℕ) (at fuel : ℕ) → at < fuel → Means file at t → AreThese (paths_by fuel file at) (entries_of t)
  paths_these (tree q bs) file at zero f h = absurd (omega (arith, f))
  paths_these (tree q bs) file at (suc fuel) f h =
      node_these (paths_by fuel file) at (node_in file at) q bs (λ cs. MeansUnder file at bs cs) h (λ cs k. children_these bs cs file at fuel (omega (arith, f)) k)

  children_these : (bs : Branches) (cs : List Child) (file : List ℕ) (at fuel : ℕ) → at ≤ fuel → MeansUnder file at bs cs → AreThese (of_places (paths_by fuel file) at (placed cs)) (entries_under bs)
  children_these end [] file at fuel f h = refl
  children_these end (c ∷ cs) file at fuel f h = absurd h
  children_these (branch b t bs) [] file at fuel f h = absurd h
  children_these (branch b t bs) (c ∷ cs) file at fuel f h =
      both_these (under c.byte (paths_by fuel file (at - c.distance))) (of_places (paths_by fuel file) at (placed cs)) (map (below b) (entries_of t)) (entries_under bs)
      (subst (λ (x : ℕ). AreThese (under c.byte (paths_by fuel file (at - c.distance))) (map (below x) (entries_of t))) h.0
      (under_these c.byte (paths_by fuel file (at - c.distance)) (entries_of t) (paths_these t file (at - c.distance) fuel (omega (arith, f, h.1, h.2)) h.3)))
      (children_these bs cs file at fuel f h.4)

pub layout_means : (es : List TrieEntry) (front rest : List ℕ) → AreEntries es → 0 < length es → key_bytes es ≤ 2 ^ 30 → AreThese (paths (front ++ ((lay (tree_of es) (length front)).bytes ++ rest)) (lay (tree_of es) (length front)).root) es
unfolding paths
layout_means es front rest a some few =
    let file = front ++ ((lay (tree_of es) (length front)).bytes ++ rest) in
    let root = (lay (tree_of es) (length front)).root in
    subst (λ (x : List TrieEntry). AreThese (paths_by (root + 1) file root) x) (same_entries es a) (paths_these (tree_of es) file root (root + 1) (omega arith) (root_means es front rest a some few))
