-- What is appended early stands.
use Rattle.std.proofs.Common.{◌≡◌, ℕ, ◌+◌, ◌<◌, ◌≤◌, Bool, true, false, List, [], ◌∷◌, ◌++◌, length, drop, refl, sym, ◌∙◌, ap, subst, arith, inl, inr, append_assoc, length-append}
use Rattle.std.proofs.Math.Seq.{drop-append_seam}
use Rattle.std.proofs.lemmas.List.{append-nil}
use Rattle.std.proofs.lemmas.Bool.Decides.{nat_tests}
use Rattle.std.specs.Prelude.{◌==◌, if◌then◌else◌}
use Rattle.bti_nodes.specs.Spelling.{zeros}
use Rattle.page_packer.specs.Tree.{Tree, Branches, tree, end, branch, TrieEntry, IsBelow, AscendFrom, AreEntries, path, with_key, with_branch, grown, tree_of, letters, weight}
use Rattle.page_packer.specs.Sound.{Sound}
use Rattle.page_packer.specs.Layout.{Laid, LaidUnder, lay, lay_under, packed, beside, light, shifted, closed_in_page, gap, node_at_place}
use Rattle.page_packer.specs.declared.work.Stood.{Stood}
use Rattle.page_packer.specs.Early.{early, early_under, early_of, IsBeginning, and_then, laid_then}
use Rattle.page_packer.specs.Packing.{Packing, laid, early_bytes, last_bytes}
use Rattle.page_packer.proofs.Grown.{last_of, last_under, first_bytes, never_below, key_sound, grown_sound}
use Rattle.page_packer.proofs.Heavier.{key_heavier, grown_then, ascend_parts}

-- prefixes
pub prefix_self : (a : List ℕ) → IsBeginning a a
prefix_self a = ([], sym (append-nil a))

pub prefix_then : (a b c : List ℕ) → IsBeginning a b → IsBeginning a (b ++ c)
prefix_then a b c h = (h.0 ++ c, ap (λ x. x ++ c) h.1 ∙ append_assoc a h.0 c)

pub prefix_behind : (x a b : List ℕ) → IsBeginning a b → IsBeginning (x ++ a) (x ++ b)
prefix_behind x a b h = (h.0, ap (λ y. x ++ y) h.1 ∙ sym (append_assoc x a h.0))

pub prefix_both : (a b c : List ℕ) → IsBeginning a b → IsBeginning b c → IsBeginning a c
prefix_both a b c h k = (h.0 ++ k.0, k.1 ∙ ap (λ x. x ++ k.0) h.1 ∙ append_assoc a h.0 k.0)

pub prefix_is : (a b : List ℕ) → IsBeginning a b → b ≡ a ++ drop (length a) b
prefix_is a b h = h.1 ∙ ap (λ r. a ++ r) (sym (drop-append_seam a h.0) ∙ ap (λ x. drop (length a) x) (sym h.1))

early_if : (b : Bool) (e : List ℕ) (x y : Laid) → IsBeginning e y.bytes → IsBeginning (if b then [] else e) (if b then x else y).bytes
early_if true e x y h = (x.bytes, refl)
early_if false e x y h = h

-- what is appended early begins the layout
mutual
  pub early_lay : (t : Tree) (p : ℕ) → IsBeginning (early t p) (lay t p).bytes
  early_lay (tree q bs) p =
      let t = tree q bs in
      let under = lay_under bs p in
      let at = p + length under.bytes in
      let room = gap at (length (node_at_place q under.children at)) in
      early_if (light t) (early_under bs p) (shifted (gap p (weight t)) (packed t (p + gap p (weight t)))) (closed_in_page q under at)
      (prefix_then (early_under bs p) (under.bytes ++ zeros room) (node_at_place q under.children (at + room)) (prefix_then (early_under bs p) under.bytes (zeros room) (early_lay_under bs p)))

  pub early_lay_under : (bs : Branches) (p : ℕ) → IsBeginning (early_under bs p) (lay_under bs p).bytes
  early_lay_under end p = ([], refl)
  early_lay_under (branch b t end) p = prefix_then (early t p) (lay t p).bytes [] (early_lay t p)
  early_lay_under (branch b t (branch c u bs)) p =
      let first = lay t p in
      let next = p + length first.bytes in
      prefix_behind first.bytes (early_under (branch c u bs) next) (lay_under (branch c u bs) next).bytes (early_lay_under (branch c u bs) next)

early_both : (x y : Bool) (e f : List ℕ) → (x ≡ false → y ≡ false) → IsBeginning e f → IsBeginning (if x then [] else e) (if y then [] else f)
early_both true y e f k h = ((if y then [] else f), refl)
early_both false true e f k h = absurd (let n : true ≡ false = k refl in cc)
early_both false false e f k h = h

-- a heavy subtree stays heavy
pub stays_heavy : (t u : Tree) → weight t ≤ weight u → light t ≡ false → light u ≡ false
stays_heavy t u h l = grind (arith, nat_tests)

pub early_behind : (c : ℕ) (t : Tree) (bs : Branches) (p : ℕ) → 0 < length (letters bs) → early_under (branch c t bs) p ≡ (lay t p).bytes ++ early_under bs (p + length (lay t p).bytes)
early_behind c t end p h = absurd (omega arith)
early_behind c t (branch d u bs) p h = refl

some_by : (b : Bool) (x y : Branches) → 0 < length (letters x) → 0 < length (letters y) → 0 < length (letters (if b then x else y))
some_by true x y h k = h
some_by false x y h k = k

pub some_branch : (bs : Branches) (b : ℕ) (rest p : List ℕ) → 0 < length (letters (with_branch bs b rest p))
some_branch end b rest p = omega arith
some_branch (branch c t end) b rest p = some_by (c == b) (branch c (with_key t rest p) end) (branch c t (branch b (path rest p) end)) (omega arith) (omega arith)
some_branch (branch c t (branch d u bs)) b rest p = omega arith

-- a key more appends more
mutual
  pub early_grows : (t : Tree) (k v : List ℕ) (p : ℕ) → IsBelow (last_of t) k → IsBeginning (early t p) (early (with_key t k v) p)
  early_grows (tree q bs) [] v p h = absurd (never_below (last_under bs) h)
  early_grows (tree q bs) (b ∷ rest) v p h =
      let t = tree q bs in
      let more = with_branch bs b rest v in
      early_both (light t) (light (tree q more)) (early_under bs p) (early_under more p) (stays_heavy t (tree q more) (key_heavier t (b ∷ rest) v h)) (early_grows_under bs b rest v p h)

  early_grows_under : (bs : Branches) (b : ℕ) (rest v : List ℕ) (p : ℕ) → IsBelow (last_under bs) (b ∷ rest) → IsBeginning (early_under bs p) (early_under (with_branch bs b rest v) p)
  early_grows_under end b rest v p h = (early_under (with_branch end b rest v) p, refl)
  early_grows_under (branch c t end) b rest v p h =
      elim (first_bytes c b (last_of t) rest h) as (λ _. IsBeginning (early_under (branch c t end) p) (early_under (with_branch (branch c t end) b rest v) p)) [
        | inl less ↦ (let other : (c == b) ≡ false = grind (arith, nat_tests) in
            rw other (prefix_then (early t p) (lay t p).bytes (early (path rest v) (p + length (lay t p).bytes)) (early_lay t p)))
        | inr same ↦ (let e = same.0 in let this : (c == b) ≡ true = grind (arith, nat_tests) in rw this (early_grows t rest v p same.1))
      ]
  early_grows_under (branch c t (branch d u bs)) b rest v p h =
      let more = with_branch (branch d u bs) b rest v in
      let first = lay t p in
      let next = p + length first.bytes in
      subst (λ l. IsBeginning (first.bytes ++ early_under (branch d u bs) next) l) (sym (early_behind c t more p (some_branch (branch d u bs) b rest v)))
      (prefix_behind first.bytes (early_under (branch d u bs) next) (early_under more next) (early_grows_under (branch d u bs) b rest v next h))

all_grow : (es : List TrieEntry) (t : Tree) (p : ℕ) → Sound t → AscendFrom (last_of t) es → IsBeginning (early t p) (early (grown t es) p)
all_grow [] t p s h = prefix_self (early t p)
all_grow (e ∷ es) t p s h =
    let r = key_sound t e.key e.payload s h.1.bytes h.1.paid h.1.short h.0 in
    let u = with_key t e.key e.payload in
    prefix_both (early t p) (early u p) (early (grown u es) p) (early_grows t e.key e.payload p h.0) (all_grow es u p r.0 (subst (λ k. AscendFrom k es) (sym r.2) h.2))

pub list_grows : (es more : List TrieEntry) (p : ℕ) → AreEntries (es ++ more) → IsBeginning (early_of es p) (early_of (es ++ more) p)
list_grows es more p h =
    let parts = ascend_parts es more [] h in
    let s = grown_sound es (tree [] end) (omega arith, tt, tt) parts.0 in
    subst (λ t. IsBeginning (early_of es p) (early t p)) (sym (grown_then es more (tree [] end))) (all_grow more (tree_of es) p s.0 (subst (λ k. AscendFrom k more) (sym s.1) parts.1))

pub list_stands : (es more : List TrieEntry) (p : ℕ) → AreEntries (es ++ more) → IsBeginning (early_of es p) (lay (tree_of (es ++ more)) p).bytes
list_stands es more p h =
    let all = tree_of (es ++ more) in
    prefix_both (early_of es p) (early all p) (lay all p).bytes (list_grows es more p h) (early_lay all p)

-- branches in two parts
abbrev under_of : List ℕ → List Stood → LaidUnder
under_of bytes children = record { bytes = bytes; children = children }

pub laid_in_parts : (bs cs : Branches) (p : ℕ) → lay_under (and_then bs cs) p ≡ laid_then (lay_under bs p) (lay_under cs (p + length (lay_under bs p).bytes))
laid_in_parts end cs p = let z : p ≡ p + 0 = omega arith in ap (λ n. lay_under cs n) z
laid_in_parts (branch b t bs) cs p =
    let first = lay t p in
    let next = p + length first.bytes in
    let rest = lay_under bs next in
    let far : next + length rest.bytes ≡ p + length (first.bytes ++ rest.bytes) = omega (arith, length-append first.bytes rest.bytes) in
    let last = lay_under cs (p + length (first.bytes ++ rest.bytes)) in
    ap (beside b first) (laid_in_parts bs cs next ∙ ap (λ n. laid_then rest (lay_under cs n)) far)
    ∙ ap (λ l. under_of l ((beside b first rest).children ++ last.children)) (sym (append_assoc first.bytes rest.bytes last.bytes))

-- what was appended early and what is appended in the end
pub packing_ends : (p : Packing) → AreEntries p.entries → (laid p).bytes ≡ early_bytes p ++ last_bytes p
packing_ends p a =
    let same : p.entries ++ [] ≡ p.entries = append-nil p.entries in
    let stands = list_stands p.entries [] p.start (subst AreEntries (sym same) a) in
    prefix_is (early_bytes p) (laid p).bytes (subst (λ (es : List TrieEntry). IsBeginning (early_bytes p) (lay (tree_of es) p.start).bytes) same stands)
