-- A layout is read as its tree.
use Rattle.std.proofs.Common.{◌≡◌, ℕ, ◌+◌, ◌-◌, ◌*◌, ◌/◌, ◌%◌, ◌^◌, ◌<◌, ◌≤◌, ◌⊎◌, inl, inr, Bool, true, false, List, [], ◌∷◌, ◌++◌, length, take, drop, map, Result, Ok, Err, refl, sym, ◌∙◌, ap, subst, arith, append_assoc, length-append}
use Rattle.std.proofs.Math.Seq.{drop-append_seam, take-append-add}
use Rattle.std.proofs.lemmas.List.{drop-drop, drop-take}
use Rattle.std.proofs.lemmas.Bool.Decides.{nat_tests}
use Rattle.std.specs.List.{AllByRecursion}
use Rattle.std.specs.Result.{IsOkAnd}
use Rattle.bti_nodes.specs.declared.node.Child.{Child}
use Rattle.bti_nodes.specs.declared.node.NodeError.{NodeError}
use Rattle.bti_nodes.specs.Grammar.{Node, node_at}
use Rattle.bti_nodes.specs.Trie.{Wrong, or_wrong, node_in}
use Rattle.outside.specs.Pages.{page_of}
use Rattle.bti_nodes.specs.Laws.{standing}
use Rattle.bti_nodes.specs.Spelling.{Parts, IsNode, distance_of, zeros}
use Rattle.bti_nodes.proofs.RoundTrip.{round_trip}
use Rattle.page_packer.specs.declared.work.Stood.{Stood}
use Rattle.page_packer.specs.Tree.{Tree, Branches, tree, end, branch, TrieEntry, AscendFrom, AreEntries, key_bytes, with_key, grown, tree_of, weight, weights}
use Rattle.page_packer.specs.Sound.{Ascend, IsFull, Sound, SoundUnder, count, counts}
use Rattle.page_packer.specs.Layout.{Laid, lay, lay_under, packed, packed_under, light, gap, node_at_place, seen_from}
use Rattle.page_packer.proofs.Grown.{last_of, key_sound, sound_tree}
use Rattle.page_packer.proofs.Pages.{SameLetters, packed_letters, laid_letters, under_between, under_len, root_between, last_below, light_means, wider, part_first, part_rest, light_in_page, node_in_page, node_within}
use Rattle.page_packer.proofs.Length.{zeros_len, gap_small, lay_between, lay_root, lay_under_len, tree_count, node_short, few_branches, branches}
use Rattle.page_packer.proofs.Joined.{node_fine}
use Rattle.page_packer.proofs.Laid.{lay_heavy_is}
use Rattle.page_packer.proofs.Edges.{light_is}

-- A file has a tree at a position: the payload of the node there, and at each child's position the subtree under its byte.
abbrev mutual
  pub Means : List ℕ → ℕ → Tree → Type 0
  Means file at (tree q bs) = IsOkAnd (node_in file at) (λ n. (n.payload ≡ q) × MeansUnder file at bs (standing n.places))

  pub MeansUnder : List ℕ → ℕ → Branches → List Child → Type 0
  MeansUnder file at end [] = Unit {0}
  MeansUnder file at end (c ∷ cs) = ⊥
  MeansUnder file at (branch b t bs) [] = ⊥
  MeansUnder file at (branch b t bs) (c ∷ cs) =
      (c.byte ≡ b) × (0 < c.distance) × (c.distance ≤ at) × Means file (at - c.distance) t × MeansUnder file at bs cs

ok_wrong : (at : ℕ) (r : Result Node NodeError) (P Q : Node → Type 0) → ((x : Node) → P x → Q x) → IsOkAnd r P → IsOkAnd (or_wrong at r) Q
ok_wrong at (Ok x) P Q f h = f x h
ok_wrong at (Err e) P Q f h = h

-- what a page has from bytes on that lie in it
at_page : (file front node rest : List ℕ) (at : ℕ) → at ≡ length front → file ≡ front ++ (node ++ rest) → at % 4096 + length node ≤ 4096
    → drop (at % 4096) (page_of file (at / 4096)) ≡ node ++ take (4096 - at % 4096 - length node) rest
at_page file front node rest at e f h =
    let m = at % 4096 in
    let k = 4096 * (at / 4096) in
    let r = 4096 - m - length node in
    let xs = drop k file in
    let whole : 4096 ≡ m + (length node + r) = omega (arith, h) in
    let place : k + m ≡ at = omega arith in
    let there : drop at file ≡ node ++ rest = ap (λ n. drop n file) e ∙ ap (drop (length front)) f ∙ drop-append_seam front (node ++ rest) in
    ap (λ n. drop m (take n xs)) whole ∙ drop-take m (length node + r) xs ∙ ap (take (length node + r)) (drop-drop m k file ∙ ap (λ n. drop n file) place ∙ there) ∙ take-append-add node rest r

back_all : (at : ℕ) (cs : List Stood) → AllByRecursion (λ d. d ≤ at) (map distance_of (map (seen_from at) cs))
back_all at [] = tt
back_all at (c ∷ cs) = (omega arith, back_all at cs)

-- a node that stands in its page is read
node_means : (file front rest q : List ℕ) (bs : Branches) (cs : List Stood) (at : ℕ) → at ≡ length front → file ≡ front ++ (node_at_place q cs at ++ rest) → at % 4096 + length (node_at_place q cs at) ≤ 4096
    → IsNode (record { payload = q; children = map (seen_from at) cs }) → Ascend 0 bs → SameLetters bs cs → MeansUnder file at bs (map (seen_from at) cs) → Means file at (tree q bs)
node_means file front rest q bs cs at e f page fine a same under =
    let parts : Parts = record { payload = q; children = map (seen_from at) cs } in
    let node = node_at_place q cs at in
    let behind = take (4096 - at % 4096 - length node) rest in
    let read = round_trip parts behind at fine (last_below 0 at bs cs a same) (back_all at cs) in
    subst (λ (x : List ℕ). IsOkAnd (or_wrong at (node_at x at)) (λ n. (n.payload ≡ q) × MeansUnder file at bs (standing n.places))) (sym (at_page file front node rest at e f page))
    (ok_wrong at (node_at (node ++ behind) at) (λ n. (n.payload ≡ q) × (standing n.places ≡ map (seen_from at) cs)) (λ n. (n.payload ≡ q) × MeansUnder file at bs (standing n.places))
    (λ n h. (h.0, subst (λ (x : List Child). MeansUnder file at bs x) (sym h.1) under)) read)

pub in_front : (file a b c rest : List ℕ) → file ≡ a ++ ((b ++ c) ++ rest) → file ≡ a ++ (b ++ (c ++ rest))
in_front file a b c rest e = e ∙ ap (λ x. a ++ x) (append_assoc b c rest)

pub moved_on : (file a b c rest : List ℕ) → file ≡ a ++ ((b ++ c) ++ rest) → file ≡ (a ++ b) ++ (c ++ rest)
moved_on file a b c rest e = in_front file a b c rest e ∙ sym (append_assoc a b (c ++ rest))

back : (at r : ℕ) → r ≤ at → r ≡ at - (at - r)
back at r h = omega arith

mutual
  packed_means : (t : Tree) (p : ℕ) (file front rest : List ℕ) → p ≡ length front → file ≡ front ++ ((packed t p).bytes ++ rest) → Sound t → IsFull t → weight t ≤ 4096 → p % 4096 + length (packed t p).bytes ≤ 4096
      → Means file (packed t p).root t
  packed_means (tree q bs) p file front rest e f s full w page =
      let under = packed_under bs p in
      let at = p + length under.bytes in
      let node = node_at_place q under.children at in
      let few : weights bs ≤ 4096 = omega arith in
      let whole : p % 4096 + (length under.bytes + length node) ≤ 4096 = omega (arith, length-append under.bytes node, page) in
      let fine = node_fine q bs under.children p at s.0 full s.1 (packed_letters bs p) (under_between bs p) (omega (arith, under_len bs p few)) in
      node_means file (front ++ under.bytes) rest q bs under.children at (omega (arith, e, length-append front under.bytes)) (moved_on file front under.bytes node rest f) (part_rest p (length under.bytes) (length node) whole) fine s.1 (packed_letters bs p)
      (packed_under_means bs p at file front (node ++ rest) e (in_front file front under.bytes node rest f) s.2 few (omega arith) (part_first p (length under.bytes) (length node) whole))

  packed_under_means : (bs : Branches) (p at : ℕ) (file front rest : List ℕ) → p ≡ length front → file ≡ front ++ ((packed_under bs p).bytes ++ rest) → SoundUnder bs → weights bs ≤ 4096 → p + length (packed_under bs p).bytes ≤ at
      → p % 4096 + length (packed_under bs p).bytes ≤ 4096 → MeansUnder file at bs (map (seen_from at) (packed_under bs p).children)
  packed_under_means end p at file front rest e f s w m page = tt
  packed_under_means (branch b t bs) p at file front rest e f s w m page =
      let first = packed t p in
      let next = p + length first.bytes in
      let others = packed_under bs next in
      let len = length-append first.bytes others.bytes in
      let root = root_between t p in
      let whole : p % 4096 + (length first.bytes + length others.bytes) ≤ 4096 = omega (arith, len, page) in
      let one = packed_means t p file front (others.bytes ++ rest) e (in_front file front first.bytes others.bytes rest f) s.0 s.1 (omega arith) (part_first p (length first.bytes) (length others.bytes) whole) in (
        refl,
        omega (arith, root.1, len, m),
        omega arith,
        subst (λ (n : ℕ). Means file n t) (back at first.root (omega (arith, root.1, len, m))) one,
        packed_under_means bs next at file (front ++ first.bytes) rest (omega (arith, e, length-append front first.bytes)) (moved_on file front first.bytes others.bytes rest f) s.2 (omega arith) (omega (arith, len, m)) (part_rest p (length first.bytes) (length others.bytes) whole),
      )

light_or : (b : Bool) → (b ≡ true) ⊎ (b ≡ false)
light_or true = inl refl
light_or false = inr refl

pub heavy : (t : Tree) → light t ≡ false → 4096 < weight t
heavy t h = grind (arith, nat_tests)

mutual
  lay_means : (t : Tree) (p : ℕ) (file front rest : List ℕ) → p ≡ length front → file ≡ front ++ ((lay t p).bytes ++ rest) → Sound t → IsFull t → count t ≤ 2 ^ 31 → Means file (lay t p).root t
  lay_means (tree q bs) p file front rest e f s full small =
      let t = tree q bs in
      elim (light_or (light t)) as (λ _. Means file (lay t p).root t) [
        | inl fits ↦ (let room = gap p (weight t) in
            let is = light_is t p fits in
            let whole = packed t (p + room) in
            let g : file ≡ front ++ ((zeros room ++ whole.bytes) ++ rest) = f ∙ ap (λ (l : Laid). front ++ (l.bytes ++ rest)) is in
            let at_end : p + room ≡ length (front ++ zeros room) = omega (arith, e, length-append front (zeros room), zeros_len room) in
            subst (λ (n : ℕ). Means file n t) (sym (ap (λ (l : Laid). l.root) is))
            (packed_means (tree q bs) (p + room) file (front ++ zeros room) rest at_end (moved_on file front (zeros room) whole.bytes rest g) s full (light_means t fits) (light_in_page t p fits)))
        | inr over ↦ (let under = lay_under bs p in
            let at = p + length under.bytes in
            let room = gap at (length (node_at_place q under.children at)) in
            let to = at + room in
            let node = node_at_place q under.children to in
            let is = lay_heavy_is q bs p (heavy t over) in
            let before = under.bytes ++ zeros room in
            let g : file ≡ front ++ ((before ++ node) ++ rest) = f ∙ ap (λ (l : Laid). front ++ (l.bytes ++ rest)) is in
            let h = lay_under_len bs p s.2 (omega arith) in
            let between = lay_between bs p in
            let few : branches bs ≤ 256 = omega (arith, few_branches 0 bs (omega arith) s.1) in
            let short = node_short q bs under.children p at s.0 s.1 (laid_letters bs p) between (omega (arith, h)) in
            let gap_len = gap_small at (length (node_at_place q under.children at)) in
            let near : to - p < 2 ^ 40 = omega (arith, h, short, gap_len, few) in
            let fine = node_fine q bs under.children p to s.0 full s.1 (laid_letters bs p) (wider p p at to under.children (omega arith) (omega arith) between) near in
            let to_end : to ≡ length (front ++ before) = omega (arith, e, length-append front before, length-append under.bytes (zeros room), zeros_len room) in
            let inner : file ≡ front ++ (under.bytes ++ ((zeros room ++ node) ++ rest)) =
            g ∙ ap (λ x. front ++ (x ++ rest)) (append_assoc under.bytes (zeros room) node) ∙ ap (λ x. front ++ x) (append_assoc under.bytes (zeros room ++ node) rest) in
            subst (λ (n : ℕ). Means file n t) (sym (ap (λ (l : Laid). l.root) is))
            (node_means file (front ++ before) rest q bs under.children to to_end (moved_on file front before node rest g) (node_in_page q under.children at (λ i. node_within q bs under.children i s.0 s.1 (laid_letters bs p))) fine s.1 (laid_letters bs p)
            (lay_under_means bs p to file front ((zeros room ++ node) ++ rest) e inner s.2 (omega arith) (omega arith))))
      ]

  lay_under_means : (bs : Branches) (p at : ℕ) (file front rest : List ℕ) → p ≡ length front → file ≡ front ++ ((lay_under bs p).bytes ++ rest) → SoundUnder bs → counts bs ≤ 2 ^ 31 → p + length (lay_under bs p).bytes ≤ at
      → MeansUnder file at bs (map (seen_from at) (lay_under bs p).children)
  lay_under_means end p at file front rest e f s w m = tt
  lay_under_means (branch b t bs) p at file front rest e f s w m =
      let first = lay t p in
      let next = p + length first.bytes in
      let others = lay_under bs next in
      let len = length-append first.bytes others.bytes in
      let root = lay_root t p in
      let one = lay_means t p file front (others.bytes ++ rest) e (in_front file front first.bytes others.bytes rest f) s.0 s.1 (omega arith) in (
        refl,
        omega (arith, root.1, len, m),
        omega arith,
        subst (λ (n : ℕ). Means file n t) (back at first.root (omega (arith, root.1, len, m))) one,
        lay_under_means bs next at file (front ++ first.bytes) rest (omega (arith, e, length-append front first.bytes)) (moved_on file front first.bytes others.bytes rest f) s.2 (omega arith) (omega (arith, len, m)),
      )

grown_full : (es : List TrieEntry) (t : Tree) → Sound t → AscendFrom (last_of t) es → IsFull t → IsFull (grown t es)
grown_full [] t s a h = h
grown_full (e ∷ es) t s a h =
    let r = key_sound t e.key e.payload s a.1.bytes a.1.paid a.1.short a.0 in
    grown_full es (with_key t e.key e.payload) r.0 (subst (λ k. AscendFrom k es) (sym r.2) a.2) r.1

pub tree_full : (es : List TrieEntry) → AreEntries es → 0 < length es → IsFull (tree_of es)
tree_full [] a h = absurd (omega arith)
tree_full (e ∷ es) a h =
    let r = key_sound (tree [] end) e.key e.payload (omega arith, tt, tt) a.1.bytes a.1.paid a.1.short a.0 in
    grown_full es (with_key (tree [] end) e.key e.payload) r.0 (subst (λ k. AscendFrom k es) (sym r.2) a.2) r.1

pub root_means : (es : List TrieEntry) (front rest : List ℕ) → AreEntries es → 0 < length es → key_bytes es ≤ 2 ^ 30 → Means (front ++ ((lay (tree_of es) (length front)).bytes ++ rest)) (lay (tree_of es) (length front)).root (tree_of es)
root_means es front rest a some few =
    lay_means (tree_of es) (length front) (front ++ ((lay (tree_of es) (length front)).bytes ++ rest)) front rest refl refl (sound_tree es a) (tree_full es a some) (omega (arith, tree_count es, few))
