-- A key more makes no subtree lighter.
use Rattle.std.proofs.Common.{◌≡◌, ℕ, suc, ◌+◌, ◌*◌, ◌^◌, ◌<◌, ◌≤◌, ◌⊎◌, Bool, true, false, List, [], ◌∷◌, ◌++◌, length, map, refl, sym, ◌∙◌, ap, subst, arith, inl, inr}
use Rattle.std.proofs.Math.Nat.{mul-le-mul_right}
use Rattle.std.proofs.lemmas.Bool.Decides.{nat_tests}
use Rattle.std.specs.Prelude.{◌==◌, if◌then◌else◌, nat_lt, ◌&&◌}
use Rattle.std.specs.Int.{div_ceil}
use Rattle.bti_nodes.specs.Grammar.{body_len}
use Rattle.bti_nodes.specs.declared.table.Shape.{Shape}
use Rattle.bti_nodes.specs.declared.table.Shape.TheVariants.{Leaf, Short, Single, Sparse, Dense}
use Rattle.bti_nodes.specs.declared.outline.Outline.{Outline}
use Rattle.bti_nodes.specs.Spelling.{outline_by, outline_size, distant, last_letter, chosen, size_by, kind_of_number, holds, shape_holds, places_for}
use Rattle.bti_nodes.proofs.Choice.{is_choice}
use Rattle.page_packer.specs.Tree.{Tree, Branches, tree, end, branch, TrieEntry, IsBelow, AscendFrom, AreEntries, key_after, with_key, with_branch, grown, letters, unplaced, weight, weights, weight_here}
use Rattle.page_packer.specs.Sound.{Sound}
use Rattle.page_packer.proofs.Grown.{last_of, last_under, first_bytes, never_below, key_sound, grown_sound}
use Rattle.page_packer.proofs.Boxed.{last_more, count_more}

-- a node's outline with each distance 4,095, by what its size needs
more_div : (a b : ℕ) → a ≤ b → div_ceil a 8 ≤ div_ceil b 8
more_div a b h = omega arith

more_places : (shape : Shape) (width a b : ℕ) → a ≤ b → body_len shape width a ≤ body_len shape width b
more_places Leaf width a b h = omega arith
more_places Short width a b h = omega arith
more_places Single width a b h = omega arith
more_places Sparse width a b h = let k = more_div (a * width) (b * width) (mul-le-mul_right width h) in omega (arith, k, h)
more_places Dense width a b h = let k = more_div (a * width) (b * width) (mul-le-mul_right width h) in omega (arith, k, h)

some_body : (shape : Shape) (width places : ℕ) → 1 ≤ body_len shape width places
some_body Leaf width places = omega arith
some_body Short width places = omega arith
some_body Single width places = omega arith
some_body Sparse width places = omega arith
some_body Dense width places = omega arith

-- two outlines of one node, before and after a child more
pub record IsMore (o more : Outline) : Type 0 where
  pub payload : more.payload ≡ o.payload
  pub count : more.count ≡ suc o.count
  pub first : more.first ≡ o.first
  pub last : o.last ≤ more.last

fewer_places : (shape : Shape) (o more : Outline) → IsMore o more → places_for shape o ≤ places_for shape more
fewer_places Leaf o more h = omega arith
fewer_places Short o more h = omega (arith, h.count)
fewer_places Single o more h = omega (arith, h.count)
fewer_places Sparse o more h = omega (arith, h.count)
fewer_places Dense o more h = omega (arith, h.first, h.last)

no_less : (m : ℕ) (o more : Outline) → IsMore o more → size_by m o ≤ size_by m more
no_less m o more h =
    let kind = kind_of_number m in
    omega (arith, h.payload, more_places kind.shape kind.width (places_for kind.shape o) (places_for kind.shape more) (fewer_places kind.shape o more h))

held_before : (shape : Shape) (o more : Outline) → IsMore o more → 0 < o.count → shape_holds shape more ≡ true → shape_holds shape o ≡ true
held_before Leaf o more h some k = let n = h.count in grind (arith, nat_tests)
held_before Short o more h some k = let n = h.count in grind (arith, nat_tests)
held_before Single o more h some k = let n = h.count in grind (arith, nat_tests)
held_before Sparse o more h some k = let n = h.count in grind (arith, nat_tests)
held_before Dense o more h some k = let n = h.count in grind (arith, nat_tests)

and_held : (a b c : Bool) → (c ≡ true → a ≡ true) → (c && b) ≡ true → (a && b) ≡ true
and_held true b true f h = h
and_held true b false f h = cc
and_held false b true f h = absurd (let k : false ≡ true = f refl in cc)
and_held false b false f h = cc

far_if : (t : Bool) (n : ℕ) → t ≡ false → (if t then 0 else n) ≡ n
far_if true n h = cc
far_if false n h = refl

far : (o : Outline) → 0 < o.count → (distant o).greatest ≡ 4095
far o some = far_if (o.count == 0) 4095 (grind (arith, nat_tests))

more_far : (o more : Outline) → IsMore o more → IsMore (distant o) (distant more)
more_far o more h = record { payload = h.payload; count = h.count; first = h.first; last = h.last }

grown_some : (o more : Outline) → 0 < o.count → IsMore o more → outline_size (distant o) ≤ outline_size (distant more)
unfolding outline_size
grown_some o more some h =
    let a = distant o in
    let b = distant more in
    let g : a.greatest ≡ 4095 = far o some in
    let k : b.greatest ≡ 4095 = far more (omega (arith, h.count)) in
    let choice = is_choice b (omega (arith, h.count)) (omega (arith, k)) in
    let m = chosen b in
    let held : holds (kind_of_number m) a ≡ true =
    and_held (shape_holds (kind_of_number m).shape a) (nat_lt a.greatest (2 ^ (kind_of_number m).width)) (shape_holds (kind_of_number m).shape b)
    (held_before (kind_of_number m).shape a b (more_far o more h) some) (ap (λ x. shape_holds (kind_of_number m).shape b && nat_lt x (2 ^ (kind_of_number m).width)) (g ∙ sym k) ∙ choice.held) in
    let least = (is_choice a some (omega (arith, g))).least m choice.written.0 choice.written.1 held in
    omega (arith, least.0, no_less m a b (more_far o more h))

leaf_size : (o : Outline) → o.count ≡ 0 → outline_size o ≡ 1 + o.payload
unfolding outline_size chosen
leaf_size o h = rw h (omega arith)

any_size : (o : Outline) → 1 + o.payload ≤ outline_size o
unfolding outline_size
any_size o = let k = kind_of_number (chosen o) in omega (arith, some_body k.shape k.width (places_for k.shape o))

grown_leaf : (o more : Outline) → o.count ≡ 0 → more.payload ≡ o.payload → outline_size (distant o) ≤ outline_size (distant more)
grown_leaf o more h e = omega (arith, leaf_size (distant o) h, any_size (distant more), e)

-- the last of some letters
abbrev last_in : List ℕ → ℕ
last_in [] = 0
last_in (l ∷ []) = l
last_in (l ∷ m ∷ ls) = last_in (m ∷ ls)

last_is : (ls : List ℕ) → last_letter (map unplaced ls) ≡ last_in ls
last_is [] = refl
last_is (l ∷ []) = refl
last_is (l ∷ m ∷ ls) = last_is (m ∷ ls)

-- a node with one child more, behind the others
node_more : (n : ℕ) (ls : List ℕ) (b : ℕ) → last_in ls ≤ b → outline_size (distant (outline_by n (map unplaced ls))) ≤ outline_size (distant (outline_by n (map unplaced (ls ++ b ∷ []))))
node_more n [] b h = grown_leaf (outline_by n []) (outline_by n (map unplaced (b ∷ []))) refl refl
node_more n (l ∷ ls) b h =
    let o = outline_by n (map unplaced (l ∷ ls)) in
    let more = outline_by n (map unplaced ((l ∷ ls) ++ b ∷ [])) in
    grown_some o more (omega arith) (record {
      payload = refl;
      count = omega (arith, count_more (l ∷ ls) b);
      first = refl;
      last = omega (arith, last_is (l ∷ ls), last_more (l ∷ ls) b, h);
    })

-- the letters with one key more
abbrev pub SameOrMore : List ℕ → List ℕ → ℕ → Type 0
SameOrMore old new b = (new ≡ old) ⊎ ((last_in old ≤ b) × (new ≡ old ++ b ∷ []))

last_cons : (c d : ℕ) (ls : List ℕ) → last_in (c ∷ d ∷ ls) ≡ last_in (d ∷ ls)
last_cons c d ls = refl

letters_behind : (c d b : ℕ) (ls new : List ℕ) → SameOrMore (d ∷ ls) new b → SameOrMore (c ∷ d ∷ ls) (c ∷ new) b
letters_behind c d b ls new (inl e) = inl (ap (λ l. c ∷ l) e)
letters_behind c d b ls new (inr h) = inr (h.0, ap (λ l. c ∷ l) h.1)

pub letters_more : (bs : Branches) (b : ℕ) (rest p : List ℕ) → IsBelow (last_under bs) (b ∷ rest) → SameOrMore (letters bs) (letters (with_branch bs b rest p)) b
letters_more end b rest p h = inr (omega arith, refl)
letters_more (branch c t end) b rest p h =
    elim (first_bytes c b (last_of t) rest h) as (λ _. SameOrMore (letters (branch c t end)) (letters (with_branch (branch c t end) b rest p)) b) [
      | inl less ↦ (let other : (c == b) ≡ false = grind (arith, nat_tests) in rw other (inr (omega (arith, less), refl)))
      | inr same ↦ (let e = same.0 in let this : (c == b) ≡ true = grind (arith, nat_tests) in rw this (inl refl))
    ]
letters_more (branch c t (branch d u bs)) b rest p h = letters_behind c d b (letters bs) (letters (with_branch (branch d u bs) b rest p)) (letters_more (branch d u bs) b rest p h)

here_more : (q : List ℕ) (bs new : Branches) (b : ℕ) → SameOrMore (letters bs) (letters new) b → weight_here q bs ≤ weight_here q new
here_more q bs new b (inl e) = omega (arith, ap (λ ls. outline_size (distant (outline_by (length q) (map unplaced ls)))) e)
here_more q bs new b (inr h) = omega (arith, node_more (length q) (letters bs) b h.0, ap (λ ls. outline_size (distant (outline_by (length q) (map unplaced ls)))) h.1)

mutual
  pub key_heavier : (t : Tree) (k p : List ℕ) → IsBelow (last_of t) k → weight t ≤ weight (with_key t k p)
  key_heavier (tree q bs) [] p h = absurd (never_below (last_under bs) h)
  key_heavier (tree q bs) (b ∷ rest) p h = omega (arith, branch_heavier bs b rest p h, here_more q bs (with_branch bs b rest p) b (letters_more bs b rest p h))

  pub branch_heavier : (bs : Branches) (b : ℕ) (rest p : List ℕ) → IsBelow (last_under bs) (b ∷ rest) → weights bs ≤ weights (with_branch bs b rest p)
  branch_heavier end b rest p h = omega arith
  branch_heavier (branch c t end) b rest p h =
      elim (first_bytes c b (last_of t) rest h) as (λ _. weights (branch c t end) ≤ weights (with_branch (branch c t end) b rest p)) [
        | inl less ↦ (let other : (c == b) ≡ false = grind (arith, nat_tests) in rw other (omega arith))
        | inr same ↦ (let e = same.0 in let this : (c == b) ≡ true = grind (arith, nat_tests) in let k = key_heavier t rest p same.1 in rw this (omega (arith, k)))
      ]
  branch_heavier (branch c t (branch d u bs)) b rest p h = let k = branch_heavier (branch d u bs) b rest p h in omega (arith, k)

pub grown_heavier : (es : List TrieEntry) (t : Tree) → Sound t → AscendFrom (last_of t) es → weight t ≤ weight (grown t es)
grown_heavier [] t s h = omega arith
grown_heavier (e ∷ es) t s h =
    let r = key_sound t e.key e.payload s h.1.bytes h.1.paid h.1.short h.0 in
    let k = key_heavier t e.key e.payload h.0 in
    let g = grown_heavier es (with_key t e.key e.payload) r.0 (subst (λ k. AscendFrom k es) (sym r.2) h.2) in
    omega (arith, k, g)

pub grown_then : (es more : List TrieEntry) (t : Tree) → grown t (es ++ more) ≡ grown (grown t es) more
grown_then [] more t = refl
grown_then (e ∷ es) more t = grown_then es more (with_key t e.key e.payload)

pub ascend_parts : (es more : List TrieEntry) (last : List ℕ) → AscendFrom last (es ++ more) → AscendFrom last es × AscendFrom (key_after last es) more
ascend_parts [] more last h = (tt, h)
ascend_parts (e ∷ es) more last h = let r = ascend_parts es more e.key h.2 in ((h.0, h.1, r.0), r.1)

pub list_heavier : (q : List ℕ) (es more : List TrieEntry) → length q ≤ 7 → AreEntries (es ++ more) → weight (grown (tree q end) es) ≤ weight (grown (tree q end) (es ++ more))
list_heavier q es more short h =
    let parts = ascend_parts es more [] h in
    let s = grown_sound es (tree q end) (short, tt, tt) parts.0 in
    let k = grown_heavier more (grown (tree q end) es) s.0 (subst (λ k. AscendFrom k more) (sym s.1) parts.1) in
    omega (arith, k, ap weight (grown_then es more (tree q end)))
