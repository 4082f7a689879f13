-- What a streaming packer knows.
use Rattle.std.proofs.Common.{◌≡◌, ℕ, ◌+◌, ◌++◌, drop, ◌*◌, ◌^◌, ◌<◌, ◌≤◌, true, List, [], ◌∷◌, length, refl, sym, ◌∙◌, ap, subst, arith, inl, inr, length-append}
use Rattle.std.proofs.Math.Seq.{drop-append_seam}
use Rattle.std.proofs.lemmas.Bool.Decides.{nat_tests}
use Rattle.std.specs.List.{AllByRecursion}
use Rattle.page_packer.specs.declared.edge.Level.{Level}
use Rattle.page_packer.specs.declared.work.Stood.{Stood}
use Rattle.page_packer.specs.Tree.{Tree, Branches, tree, end, branch, TrieEntry, AreEntries, IsBelow, last_key, tree_of, weight}
use Rattle.page_packer.specs.Sound.{IsFull, Sound, SoundUnder, count, counts}
use Rattle.page_packer.specs.Layout.{Laid, lay, light}
use Rattle.page_packer.specs.Early.{early, early_under, early_of}
use Rattle.page_packer.specs.Last.{last_of, last_under}
use Rattle.page_packer.specs.Edge.{Edge, whole, bare, above, and_stood, left, left_under, closes, Frontier, Reached, with_one, more_of}
use Rattle.page_packer.specs.Levels.{edge_over, last_over, AreLevels}
use Rattle.page_packer.proofs.Reading.{tree_full}
use Rattle.page_packer.proofs.Grown.{grown_sound, sound_tree}
use Rattle.page_packer.proofs.Length.{tree_count, length_bound, weight_short}
use Rattle.page_packer.proofs.Edges.{frontier_closes, frontier_grows}
use Rattle.page_packer.proofs.Followed.{pick, pass, test_or, SoundEdge, edge_sound, levels_sound}

-- the key along an edge, its light subtree's nodes, and that they are some
abbrev pub last_edge : Edge → List ℕ
last_edge (whole t) = last_of t
last_edge (bare q done) = []
last_edge (above q done b e) = b ∷ last_edge e

abbrev pub held_count : Edge → ℕ
held_count (whole t) = count t
held_count (bare q done) = 0
held_count (above q done b e) = held_count e

abbrev pub FullIn : Edge → Type 0
FullIn (whole t) = IsFull t
FullIn (bare q done) = Unit {0}
FullIn (above q done b e) = FullIn e

abbrev pub FullBelow : Edge → Type 0
FullBelow (whole t) = Unit {0}
FullBelow (bare q done) = Unit {0}
FullBelow (above q done b e) = FullIn e

pub over_last : (ls : List Level) (t : Tree) → last_edge (edge_over ls (whole t)) ≡ last_over ls t
over_last [] t = refl
over_last (l ∷ ls) t = ap (λ k. l.byte ∷ k) (over_last ls t)

pub over_count : (ls : List Level) (t : Tree) → held_count (edge_over ls (whole t)) ≡ count t
over_count [] t = refl
over_count (l ∷ ls) t = over_count ls t

full_over : (ls : List Level) (t : Tree) → FullIn (edge_over ls (whole t)) → IsFull t
full_over [] t h = h
full_over (l ∷ ls) t h = full_over ls t h

pub below_full : (ls : List Level) (t : Tree) → FullBelow (edge_over ls (whole t)) → 0 < length ls → IsFull t
below_full [] t h m = absurd (omega arith)
below_full (l ∷ ls) t h m = full_over ls t h

mutual
  last_left : (t : Tree) (p : ℕ) → last_edge (left t p) ≡ last_of t
  last_left (tree q bs) p =
      let t = tree q bs in
      elim (test_or (light t)) as (λ _. last_edge (left t p) ≡ last_of t) [
        | inl h ↦ ap last_edge (pick (light t) (whole t) (left_under q [] bs p) h)
        | inr h ↦ ap last_edge (pass (light t) (whole t) (left_under q [] bs p) h) ∙ last_left_under q [] bs p
      ]

  last_left_under : (q : List ℕ) (done : List Stood) (bs : Branches) (p : ℕ) → last_edge (left_under q done bs p) ≡ last_under bs
  last_left_under q done end p = refl
  last_left_under q done (branch b t end) p = ap (λ k. b ∷ k) (last_left t p)
  last_left_under q done (branch b t (branch c u bs)) p = last_left_under q (and_stood done b (lay t p).root) (branch c u bs) (p + length (lay t p).bytes)

mutual
  count_left : (t : Tree) (p : ℕ) → held_count (left t p) ≤ count t
  count_left (tree q bs) p =
      let t = tree q bs in
      elim (test_or (light t)) as (λ _. held_count (left t p) ≤ count t) [
        | inl h ↦ omega (arith, ap held_count (pick (light t) (whole t) (left_under q [] bs p) h))
        | inr h ↦ omega (arith, ap held_count (pass (light t) (whole t) (left_under q [] bs p) h), count_left_under q [] bs p)
      ]

  count_left_under : (q : List ℕ) (done : List Stood) (bs : Branches) (p : ℕ) → held_count (left_under q done bs p) ≤ counts bs
  count_left_under q done end p = omega arith
  count_left_under q done (branch b t end) p = let h = count_left t p in omega (arith, h)
  count_left_under q done (branch b t (branch c u bs)) p = let h = count_left_under q (and_stood done b (lay t p).root) (branch c u bs) (p + length (lay t p).bytes) in omega (arith, h)

mutual
  full_left : (t : Tree) (p : ℕ) → Sound t → IsFull t → FullIn (left t p)
  full_left (tree q bs) p s f =
      let t = tree q bs in
      elim (test_or (light t)) as (λ _. FullIn (left t p)) [
        | inl h ↦ subst FullIn (sym (pick (light t) (whole t) (left_under q [] bs p) h)) f
        | inr h ↦ subst FullIn (sym (pass (light t) (whole t) (left_under q [] bs p) h)) (full_left_under q [] bs p s.2)
      ]

  full_left_under : (q : List ℕ) (done : List Stood) (bs : Branches) (p : ℕ) → SoundUnder bs → FullIn (left_under q done bs p)
  full_left_under q done end p s = tt
  full_left_under q done (branch b t end) p s = full_left t p s.0 s.1
  full_left_under q done (branch b t (branch c u bs)) p s = full_left_under q (and_stood done b (lay t p).root) (branch c u bs) (p + length (lay t p).bytes) s.2

in_below : (e : Edge) → FullIn e → FullBelow e
in_below (whole t) h = tt
in_below (bare q done) h = tt
in_below (above q done b e) h = h

full_below : (t : Tree) (p : ℕ) → Sound t → FullBelow (left t p)
full_below (tree q bs) p s =
    let t = tree q bs in
    elim (test_or (light t)) as (λ _. FullBelow (left t p)) [
      | inl h ↦ subst FullBelow (sym (pick (light t) (whole t) (left_under q [] bs p) h)) tt
      | inr h ↦ subst FullBelow (sym (pass (light t) (whole t) (left_under q [] bs p) h)) (in_below (left_under q [] bs p) (full_left_under q [] bs p s.2))
    ]

-- what follows for the levels and the subtree of a packing
pub record Ready (p : Frontier) (ls : List Level) (t : Tree) : Type 0 where
  pub levels : AreLevels p.end_ ls
  pub sound : Sound t
  pub full : 0 < length ls → IsFull t
  pub count_ : count t ≤ p.bytes + 1
  pub room : length (closes (edge_over ls (whole t)) p.end_).bytes ≤ 32 * (2 ^ 30 + 1)
  pub near : p.end_ ≤ p.start + 32 * (2 ^ 30 + 1)

pub ready : (p : Frontier) (es : List TrieEntry) (ls : List Level) (t : Tree) → Reached p es → p.edge ≡ edge_over ls (whole t) → Ready p ls t
ready p es ls t h e =
    let all = tree_of es in
    let s = sound_tree es h.entries in
    let n = tree_count es in
    let is : left all p.start ≡ edge_over ls (whole t) = sym h.edge ∙ e in
    let edge : SoundEdge p.end_ (edge_over ls (whole t)) = subst (λ (x : Edge). SoundEdge p.end_ x) is (subst (λ (m : ℕ). SoundEdge m (left all p.start)) (sym h.end_) (edge_sound all p.start s (omega (arith, n, h.few)))) in
    let parts = levels_sound ls t p.end_ edge in
    let laid = frontier_closes p es h in
    let long = length_bound es p.start h.entries h.few in
    let closing = closes p.edge p.end_ in
    let total : length (lay all p.start).bytes ≡ length (early all p.start) + length closing.bytes = ap (λ (l : Laid). length l.bytes) laid ∙ length-append (early all p.start) closing.bytes in
    record {
      levels = parts.0;
      sound = parts.1;
      full = λ m. below_full ls t (subst FullBelow is (full_below all p.start s)) m;
      count_ = omega (arith, over_count ls t, ap held_count is, count_left all p.start, n, h.bytes);
      room = omega (arith, total, long, h.few, ap (λ (x : Edge). length (closes x p.end_).bytes) e);
      near = omega (arith, total, long, h.few, h.end_);
    }

-- a packing with the last key of its edge
pub last_is : (p : Frontier) (es : List TrieEntry) (ls : List Level) (t : Tree) → AreEntries es → p.edge ≡ left (tree_of es) p.start → p.edge ≡ edge_over ls (whole t) → last_over ls t ≡ last_key es
last_is p es ls t a h e =
    sym (over_last ls t) ∙ ap last_edge (sym e ∙ h) ∙ last_left (tree_of es) p.start ∙ (grown_sound es (tree [] end) (omega arith, tt, tt) a).1

pub empty_light : (p : ℕ) → (early (tree [] end) p ≡ []) × (left (tree [] end) p ≡ whole (tree [] end))
empty_light p =
    let t = tree [] end in
    let w : weight t ≤ 9 = omega (arith, weight_short [] end (omega arith) tt) in
    let s : light t ≡ true = grind (arith, nat_tests) in
    (pick (light t) [] (early_under end p) s, pick (light t) (whole t) (left_under [] [] end p) s)

-- the packing with one key more, as it is held
pub next_packs : (p q : Frontier) (es : List TrieEntry) (key v : List ℕ) (ls : List Level) (t : Tree) → Reached p es → IsBelow p.last key → AllByRecursion (λ b. b < 256) key → 0 < length v → length v ≤ 7 → p.bytes + length key ≤ 2 ^ 30
    → q.start ≡ p.start → q.edge ≡ (more_of p key v).edge → q.end_ ≡ p.end_ + length (more_of p key v).bytes → q.bytes ≡ p.bytes + length key → q.edge ≡ edge_over ls (whole t) → q.last ≡ last_over ls t → Reached q (with_one es key v)
next_packs p q es key v ls t h below bytes paid short few start edge end_ many is last =
    let all = with_one es key v in
    let n = (frontier_grows p es key v h below bytes paid short few).0 in
    let edge_is : q.edge ≡ left (tree_of all) q.start = edge ∙ n.edge ∙ ap (left (tree_of all)) (sym start) in
    record {
      entries = n.entries;
      few = n.few;
      edge = edge_is;
      end_ = omega (arith, end_, n.end_, start, ap (λ k. length (early (tree_of all) k)) start);
      bytes = omega (arith, many, n.bytes);
      last = last ∙ last_is q all ls t n.entries edge_is is;
    }

pub new_packs : (p : Frontier) (t : Tree) → p.edge ≡ whole (tree [] end) → p.end_ ≡ p.start → p.bytes ≡ 0 → p.last ≡ [] → Reached p []
new_packs p t edge end_ bytes last =
    let e = empty_light p.start in
    record {
      entries = tt;
      few = omega arith;
      edge = edge ∙ sym e.1;
      end_ = omega (arith, end_, ap (λ (x : List ℕ). length x) e.0);
      bytes = bytes;
      last = last;
    }

pub ready_full : (p : Frontier) (es : List TrieEntry) (ls : List Level) (t : Tree) → Reached p es → 0 < length es → p.edge ≡ edge_over ls (whole t) → IsFull t
ready_full p es ls t h some e =
    full_over ls t (subst FullIn (sym h.edge ∙ e) (full_left (tree_of es) p.start (sound_tree es h.entries) (tree_full es h.entries some)))

-- what closes a frontier ends the layout of a packing that reached it
pub record Ends (f : Frontier) (es : List TrieEntry) (start : ℕ) : Type 0 where
  pub root : (lay (tree_of es) start).root ≡ (closes f.edge f.end_).root
  pub bytes : (closes f.edge f.end_).bytes ≡ drop (length (early_of es start)) (lay (tree_of es) start).bytes
  pub long : start + length (lay (tree_of es) start).bytes ≡ f.end_ + length (closes f.edge f.end_).bytes

pub ends : (f : Frontier) (es : List TrieEntry) (start : ℕ) → Reached f es → f.start ≡ start → Ends f es start
ends f es start h e =
    let all = frontier_closes f es h in
    let front = early_of es f.start in
    let closing = closes f.edge f.end_ in
    let bytes : (lay (tree_of es) f.start).bytes ≡ front ++ closing.bytes = ap (λ (l : Laid). l.bytes) all in
    subst (Ends f es) e (record {
      root = ap (λ (l : Laid). l.root) all;
      bytes = sym (drop-append_seam front closing.bytes) ∙ ap (λ x. drop (length front) x) (sym bytes);
      long = omega (arith, h.end_, ap (λ (x : List ℕ). length x) bytes, length-append front closing.bytes);
    })
