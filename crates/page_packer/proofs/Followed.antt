-- A key follows levels, or leaves them.
use Rattle.std.proofs.Common.{◌≡◌, ℕ, suc, ◌+◌, ◌^◌, ◌<◌, ◌≤◌, Bool, true, false, List, [], ◌∷◌, ◌++◌, length, take, drop, get_or, ◌⊎◌, refl, sym, ◌∙◌, ap, subst, arith, inl, inr, length-append}
use Rattle.std.proofs.lemmas.Bool.Decides.{nat_tests}
use Rattle.std.specs.Prelude.{◌==◌, if◌then◌else◌}
use Rattle.bti_nodes.specs.Spelling.{bytes_in}
use Rattle.page_packer.specs.declared.work.Stood.{Stood}
use Rattle.page_packer.specs.declared.edge.Level.{Level}
use Rattle.page_packer.specs.Tree.{Tree, Branches, tree, end, branch, IsBelow, path, with_key}
use Rattle.page_packer.specs.Sound.{Ascend, Sound, SoundUnder, count}
use Rattle.page_packer.specs.Layout.{Laid, lay, light}
use Rattle.page_packer.specs.Early.{early, early_under}
use Rattle.page_packer.specs.Edge.{Edge, whole, bare, above, and_stood, left, left_under, closes, Grown, put_onto, begun, beside_last, with_more}
use Rattle.page_packer.specs.Levels.{edge_over, closes_over, followed, over_grown, last_over, Climb, AllNear, AreLevels}
use Rattle.page_packer.proofs.Grown.{first_bytes, never_below}
use Rattle.page_packer.proofs.Length.{lay_root, lay_len}
use Rattle.page_packer.proofs.Early.{early_lay}
use Rattle.page_packer.proofs.Closed.{over_closes}

pub pick : {A : Type 0} (s : Bool) (x y : A) → s ≡ true → (if s then x else y) ≡ x
pick true x y h = refl
pick false x y h = cc

pub pass : {A : Type 0} (s : Bool) (x y : A) → s ≡ false → (if s then x else y) ≡ y
pass true x y h = cc
pass false x y h = refl

pub test_or : (s : Bool) → (s ≡ true) ⊎ (s ≡ false)
test_or true = inl refl
test_or false = inr refl

-- a key that follows all levels goes on in the subtree below them
pub follows_all : (ls : List Level) (t : Tree) (key v : List ℕ) (p : ℕ) → followed ls key ≡ length ls → with_more (edge_over ls (whole t)) key v p ≡ over_grown ls (begun (with_key t (drop (length ls) key) v) p)
follows_all [] t key v p h = refl
follows_all (l ∷ ls) t [] v p h = absurd (omega (arith, h))
follows_all (l ∷ ls) t (b ∷ rest) v p h =
    let q = bytes_in l.payload in
    let edge = edge_over ls (whole t) in
    let last = closes edge p in
    let on = put_onto q l.done.items l.byte (with_more edge rest v p) in
    let off = beside_last last (put_onto q (and_stood l.done.items l.byte last.root) b (begun (path rest v) (p + length last.bytes))) in
    elim (test_or (l.byte == b)) as (λ _. with_more (edge_over (l ∷ ls) (whole t)) (b ∷ rest) v p ≡ over_grown (l ∷ ls) (begun (with_key t (drop (length (l ∷ ls)) (b ∷ rest)) v) p)) [
      | inl e ↦ (let n : followed ls rest ≡ length ls = omega (arith, h, pick (l.byte == b) (1 + followed ls rest) 0 e) in
          pick (l.byte == b) on off e ∙ ap (put_onto q l.done.items l.byte) (follows_all ls t rest v p n))
      | inr e ↦ absurd (omega (arith, h, pass (l.byte == b) (1 + followed ls rest) 0 e))
    ]

-- what is appended where a key leaves a level: what closes all below it, and the path that begins
abbrev pub parted : Level → List Level → Tree → ℕ → List ℕ → List ℕ → ℕ → Grown
parted l below t b rest v p =
    let last = closes_over below (lay t p) p in
    beside_last last (put_onto (bytes_in l.payload) (and_stood l.done.items l.byte last.root) b (begun (path rest v) (p + length last.bytes)))

-- a key that leaves a level
pub record Leaves (ls : List Level) (t : Tree) (key v : List ℕ) (p d : ℕ) : Type 0 where
  pub level : Level
  pub split_ : ls ≡ take d ls ++ level ∷ drop (suc d) ls
  pub some : d < length key
  pub grown : with_more (edge_over ls (whole t)) key v p ≡ over_grown (take d ls) (parted level (drop (suc d) ls) t (get_or key d 0) (drop (suc d) key) v p)

pub leaves : (ls : List Level) (t : Tree) (key v : List ℕ) (p d : ℕ) → d ≡ followed ls key → d < length ls → IsBelow (last_over ls t) key → Leaves ls t key v p d
leaves [] t key v p d e h below = absurd (omega arith)
leaves (l ∷ ls) t [] v p d e h below = absurd (never_below (last_over (l ∷ ls) t) below)
leaves (l ∷ ls) t (b ∷ rest) v p d e h below =
    let q = bytes_in l.payload in
    let edge = edge_over ls (whole t) in
    let last = closes edge p in
    let on = put_onto q l.done.items l.byte (with_more edge rest v p) in
    let off = beside_last last (put_onto q (and_stood l.done.items l.byte last.root) b (begun (path rest v) (p + length last.bytes))) in
    elim (test_or (l.byte == b)) as (λ _. Leaves (l ∷ ls) t (b ∷ rest) v p d) [
      | inl s ↦ (let n : d ≡ suc (followed ls rest) = omega (arith, e, pick (l.byte == b) (1 + followed ls rest) 0 s) in
          let same : l.byte ≡ b = grind (arith, nat_tests) in
          let deeper : IsBelow (last_over ls t) rest = elim (first_bytes l.byte b (last_over ls t) rest below) as (λ _. IsBelow (last_over ls t) rest) [ inl less ↦ absurd (omega (arith, less, same)) | inr k ↦ k.1 ] in
          let r = leaves ls t rest v p (followed ls rest) refl (omega (arith, n, h)) deeper in
          subst (λ (i : ℕ). Leaves (l ∷ ls) t (b ∷ rest) v p i) (sym n) (record {
            level = r.level;
            split_ = ap (λ (x : List Level). l ∷ x) r.split_;
            some = omega (arith, r.some);
            grown = pick (l.byte == b) on off s ∙ ap (put_onto q l.done.items l.byte) r.grown;
          }))
      | inr s ↦ (let n : d ≡ 0 = e ∙ pass (l.byte == b) (1 + followed ls rest) 0 s in
          let is : last ≡ closes_over ls (lay t p) p = over_closes ls (whole t) p in
          subst (λ (i : ℕ). Leaves (l ∷ ls) t (b ∷ rest) v p i) (sym n) (record {
            level = l;
            split_ = refl;
            some = omega arith;
            grown = pass (l.byte == b) on off s ∙ ap (λ (x : Laid). beside_last x (put_onto q (and_stood l.done.items l.byte x.root) b (begun (path rest v) (p + length x.bytes)))) is;
          }))
    ]

-- the edge of a sound tree can be closed
abbrev pub SoundEdge : ℕ → Edge → Type 0
SoundEdge p (whole t) = Sound t
SoundEdge p (bare q done) = Unit {0}
SoundEdge p (above q done b edge) = (length q ≤ 7) × Climb 0 done b × AllNear p done × SoundEdge p edge

climb_more : (low b b' r : ℕ) (done : List Stood) → Climb low done b → b + 1 ≤ b' → b' < 256 → Climb low (and_stood done b r) b'
climb_more low b b' r [] h l m = (h.0, (l, m))
climb_more low b b' r (s ∷ done) h l m = (h.0, climb_more (s.byte + 1) b b' r done h.1 l m)

near_more : (p b r : ℕ) (done : List Stood) → AllNear p done → r < p → p < r + 2 ^ 39 → AllNear p (and_stood done b r)
near_more p b r [] h l m = (l, m, tt)
near_more p b r (s ∷ done) h l m = (h.0, h.1, near_more p b r done h.2 l m)

edge_if : (b : Bool) (t : Tree) (e : Edge) (p : ℕ) → Sound t → SoundEdge p e → SoundEdge p (if b then whole t else e)
edge_if true t e p h k = h
edge_if false t e p h k = k

early_if : (b : Bool) (e : List ℕ) (p q : ℕ) → p + length (if b then [] else e) ≤ q → b ≡ false → p + length e ≤ q
early_if b e p q h k = omega (arith, h, ap length (pass b [] e k))

mutual
  sound_left : (t : Tree) (p low q : ℕ) → Sound t → low ≤ p → p + length (early t p) ≤ q → q < low + 2 ^ 39 → SoundEdge q (left t p)
  sound_left (tree v bs) p low q s l m n =
      let t = tree v bs in
      elim (test_or (light t)) as (λ _. SoundEdge q (left t p)) [
        | inl h ↦ subst (SoundEdge q) (sym (pick (light t) (whole t) (left_under v [] bs p) h)) s
        | inr h ↦ subst (SoundEdge q) (sym (pass (light t) (whole t) (left_under v [] bs p) h))
            (sound_under v [] bs 0 p low q s.0 s.1 s.2 l (early_if (light t) (early_under bs p) p q m h) n (λ b x y. (x, y)) tt)
      ]

  sound_under : (v : List ℕ) (done : List Stood) (bs : Branches) (from p low q : ℕ) → length v ≤ 7 → Ascend from bs → SoundUnder bs → low ≤ p → p + length (early_under bs p) ≤ q → q < low + 2 ^ 39
      → ((b : ℕ) → from ≤ b → b < 256 → Climb 0 done b) → AllNear q done → SoundEdge q (left_under v done bs p)
  sound_under v done end from p low q short a s l m n climb near = tt
  sound_under v done (branch b t end) from p low q short a s l m n climb near = (short, climb b a.0 a.1, near, sound_left t p low q s.0 l m n)
  sound_under v done (branch b t (branch c u bs)) from p low q short a s l m n climb near =
      let first = lay t p in
      let next = p + length first.bytes in
      let root = lay_root t p in
      let len = length-append first.bytes (early_under (branch c u bs) next) in
      sound_under v (and_stood done b first.root) (branch c u bs) (b + 1) next low q short a.2 s.2 (omega arith) (omega (arith, len, m)) n (λ d x y. climb_more 0 b d first.root done (climb b a.0 a.1) x y)
      (near_more q b first.root done near (omega (arith, root.1, len, m)) (omega (arith, root.0, n)))

pub edge_sound : (t : Tree) (p : ℕ) → Sound t → count t ≤ 2 ^ 31 → SoundEdge (p + length (early t p)) (left t p)
edge_sound t p s small =
    let e = early_lay t p in
    let len = lay_len t p s small in
    sound_left t p p (p + length (early t p)) s (omega arith) (omega arith) (omega (arith, len, ap length e.1, length-append (early t p) e.0))

pub levels_sound : (ls : List Level) (t : Tree) (p : ℕ) → SoundEdge p (edge_over ls (whole t)) → AreLevels p ls × Sound t
levels_sound [] t p h = (tt, h)
levels_sound (l ∷ ls) t p h = let r = levels_sound ls t p h.3 in ((h.0, h.1, h.2, r.0), r.1)
