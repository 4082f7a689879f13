-- Readings one after the other: they are exact, and the first number that passes its type is marked.
use Rattle.std.proofs.Common.{◌≡◌, ℕ, ◌+◌, Bool, true, false, cond, List, [], ◌∷◌, ◌++◌, length, Option, Some, None, Result, Ok, Err, refl, sym, ◌∙◌, ap, arith, subst, append_assoc, length-append}
use Rattle.std.specs.Prelude.{⊤}
use Rattle.grammar.specs.Exact.{Read, Exact, NextIs}
use Rattle.grammar.specs.Reading.{bind, then_read, Then, map_read, mapped, Mapped, by_first}
use Rattle.grammar.proofs.Bind.{bind_exact}
use Rattle.grammar.proofs.Map.{map_exact}
use Rattle.grammar.proofs.Signs.{HasText, map_text}
use Rattle.key_text.specs.Marking.{Marked}
use Rattle.key_text.proofs.Tracked.{Marks, Tracked, Tracks}
use Rattle.script_text.specs.Reading.{unmarked, map_marked, paired}

-- two readings without marks, seen as one value, and what they read
abbrev pub both : {A B C : Type 0} → (A → B → C) → Read A → Read B → Read C
both f r s = then_read r (λ a. map_read (f a) s)

abbrev pub Both : {A B C : Type 0} → (A → B → C) → (A → List ℕ → Type 0) → (B → List ℕ → Type 0) → C → List ℕ → Type 0
Both f First Second = Then First (λ a. Mapped (f a) Second)

module _ {A B C : Type 0} (f : A → B → C) (r : Read A) (s : Read B) (First : A → List ℕ → Type 0) (Second : B → List ℕ → Type 0) (follow : A → ℕ → Type 0) (after : ℕ → Type 0)
    (one : Exact r First follow) (two : Exact s Second (λ _. after)) (some : HasText Second)
    (starts : (a : A) (b : B) (bs rest : List ℕ) → Second b bs → NextIs after rest → NextIs (follow a) (bs ++ rest)) where
  pub both_exact : Exact (both f r s) (Both f First Second) (λ _. after)
  both_exact = bind_exact r (λ a. map_read (f a) s) First (λ a. Mapped (f a) Second) follow (λ _. after) one
      (λ a. map_exact (f a) s Second (λ _. after) (λ _. after) two (λ b c h. h) (λ b c h. h)) (λ a. map_text (f a) Second some) (λ a c bs rest is h. starts a is.0 bs rest is.1 h)

-- ---- marks

marks_as : (P Q : ℕ → Type 0) (F G : Type 0) (bs : List ℕ) (mark now : Option ℕ) → ((at : ℕ) → P at → Q at) → (F → G) → Marks P F bs mark now → Marks Q G bs mark now
marks_as P Q F G bs (Some x) now to fine h = h
marks_as P Q F G bs None None to fine h = fine h
marks_as P Q F G bs None (Some left) to fine h = (h.0, to h.0 h.1, h.2)

-- what was read seen as another value, under a wider grammar
module _ {A B : Type 0} (f : A → B) (m : Option ℕ → Read (Marked A)) (r : Read A) (Is : A → List ℕ → Type 0) (As : B → List ℕ → Type 0) (P Q : List ℕ → ℕ → Type 0) (fine : A → Type 0) (good : B → Type 0)
    (one : Tracks Is P fine m r) (to : (a : A) (bs : List ℕ) → Is a bs → As (f a) bs) (passes : (bs : List ℕ) (at : ℕ) → P bs at → Q bs at) (well : (a : A) → fine a → good (f a)) where
  map_by : (got : Result (Marked A × List ℕ) ℕ) (read : Result (A × List ℕ) ℕ) (mark : Option ℕ) (bs : List ℕ) → Tracked Is P fine mark bs got read → Tracked As Q good mark bs (mapped (λ x. (f x.0, x.1)) got) (mapped f read)
  map_by (Err e) read mark bs h = ap (mapped f) h
  map_by (Ok x) read mark bs (v, front, e, g, is, marks) = (
    f v,
    front,
    ap (mapped f) e,
    g,
    to v front is,
    marks_as (P front) (Q front) (fine v × (x.0.0 ≡ v)) (good (f v) × (f x.0.0 ≡ f v)) bs mark x.0.1 (passes front) (λ h. (well v h.0, ap f h.1)) marks,
  )

  pub mapped_tracked : Tracks As Q good (map_marked f m) (map_read f r)
  mapped_tracked mark bs = map_by (m mark bs) (r bs) mark bs (one mark bs)

-- nothing passes
abbrev pub Never : List ℕ → ℕ → Type 0
Never _ _ = ⊥

-- a reading without numbers
module _ {A : Type 0} (r : Read A) (Is : A → List ℕ → Type 0) (follow : A → ℕ → Type 0) (one : Exact r Is follow) where
  unmarked_by : (got : Result (A × List ℕ) ℕ) (mark : Option ℕ) (bs : List ℕ) → r bs ≡ got → Tracked Is Never (λ _. ⊤) mark bs (mapped (λ a. (a, mark)) got) got
  unmarked_by (Err e) mark bs g = refl
  unmarked_by (Ok x) (Some y) bs g = let p = one.found bs x.0 x.1 g in (x.0, p.0, refl, p.1, p.2, refl)
  unmarked_by (Ok x) None bs g = let p = one.found bs x.0 x.1 g in (x.0, p.0, refl, p.1, p.2, (tt, refl))

  pub unmarked_tracked : Tracks Is Never (λ _. ⊤) (unmarked r) r
  unmarked_tracked mark bs = unmarked_by (r bs) mark bs refl

-- the first byte chooses
module _ {A : Type 0} (test : ℕ → Bool) (Is : A → List ℕ → Type 0) (P : List ℕ → ℕ → Type 0) (fine : A → Type 0) (m n : Option ℕ → Read (Marked A)) (p q : Read A)
    (one : Tracks Is P fine m p) (two : Tracks Is P fine n q) where
  first_by : (t : Bool) (mark : Option ℕ) (b : ℕ) (bs : List ℕ) → Tracked Is P fine mark (b ∷ bs) (cond t (m mark (b ∷ bs)) (n mark (b ∷ bs))) (cond t (p (b ∷ bs)) (q (b ∷ bs)))
  first_by true mark b bs = one mark (b ∷ bs)
  first_by false mark b bs = two mark (b ∷ bs)

  pub first_tracked : Tracks Is P fine (λ mark. by_first test (m mark) (n mark)) (by_first test p q)
  first_tracked mark [] = refl
  first_tracked mark (b ∷ bs) = first_by (test b) mark b bs

-- one after the other
module _ {A B C : Type 0} (f : A → B → C) (m : Option ℕ → Read (Marked A)) (n : Option ℕ → Read (Marked B)) (r : Read A) (s : Read B)
    (First : A → List ℕ → Type 0) (Second : B → List ℕ → Type 0) (As : C → List ℕ → Type 0) (P Q R : List ℕ → ℕ → Type 0) (fine : A → Type 0) (good : B → Type 0) (well : C → Type 0)
    (one : Tracks First P fine m r) (two : Tracks Second Q good n s)
    (to : (a : A) (b : B) (front behind : List ℕ) → First a front → Second b behind → As (f a b) (front ++ behind))
    (ok : (a : A) (b : B) → fine a → good b → well (f a b))
    (here : (b : B) (front behind : List ℕ) (at : ℕ) → P front at → Second b behind → R (front ++ behind) at)
    (there : (a : A) (front behind : List ℕ) (at : ℕ) → First a front → fine a → Q behind at → R (front ++ behind) (length front + at)) where
  pair_marks : (mark middle now : Option ℕ) (a x : A) (b y : B) (front behind bs cs : List ℕ) → First a front → Second b behind → length bs ≡ length front + length cs
      → Marks (P front) (fine a × (x ≡ a)) bs mark middle → Marks (Q behind) (good b × (y ≡ b)) cs middle now → Marks (R (front ++ behind)) (well (f a b) × (f x y ≡ f a b)) bs mark now
  pair_marks (Some z) middle now a x b y front behind bs cs is also l h k = subst (λ (m : Option ℕ). Marks (Q behind) (good b × (y ≡ b)) cs m now) h k
  pair_marks None None None a x b y front behind bs cs is also l h k = (ok a b h.0 k.0, ap (λ u. f u y) h.1 ∙ ap (λ u. f a u) k.1)
  pair_marks None None (Some left) a x b y front behind bs cs is also l h k = (length front + k.0, there a front behind k.0 is h.0 k.1, (let e = k.2 in omega arith))
  pair_marks None (Some z) now a x b y front behind bs cs is also l h k =
      subst (λ (m : Option ℕ). Marks (R (front ++ behind)) (well (f a b) × (f x y ≡ f a b)) bs None m) (sym k) (h.0, here b front behind h.0 h.1 also, h.2)

  second_by : (got : Result (Marked B × List ℕ) ℕ) (read : Result (B × List ℕ) ℕ) (x : Marked A) (a : A) (front cs : List ℕ) (mark : Option ℕ) (bs : List ℕ) → bs ≡ front ++ cs → First a front
      → Marks (P front) (fine a × (x.0 ≡ a)) bs mark x.1 → Tracked Second Q good x.1 cs got read → Tracked As R well mark bs (mapped (λ y. (f x.0 y.0, y.1)) got) (mapped (f a) read)
  second_by (Err e) read x a front cs mark bs g is marks h = ap (mapped (f a)) h
  second_by (Ok y) read x a front cs mark bs g is marks (b, behind, e, h, also, after) = (
    f a b,
    front ++ behind,
    ap (mapped (f a)) e,
    g ∙ ap (λ l. front ++ l) h ∙ sym (append_assoc front behind y.1),
    to a b front behind is also,
    pair_marks mark x.1 y.0.1 a x.0 b y.0.0 front behind bs cs is also (ap length g ∙ length-append front cs) marks after,
  )

  pair_by : (got : Result (Marked A × List ℕ) ℕ) (read : Result (A × List ℕ) ℕ) (mark : Option ℕ) (bs : List ℕ) → Tracked First P fine mark bs got read
      → Tracked As R well mark bs (bind got (λ x. map_read (λ y. (f x.0 y.0, y.1)) (n x.1))) (bind read (λ a. map_read (f a) s))
  pair_by (Err e) read mark bs h = ap (λ g. bind g (λ a. map_read (f a) s)) h
  pair_by (Ok x) read mark bs (a, front, e, g, is, marks) =
      subst (λ (q : Result (A × List ℕ) ℕ). Tracked As R well mark bs (mapped (λ y. (f x.0.0 y.0, y.1)) (n x.0.1 x.1)) (bind q (λ a. map_read (f a) s))) (sym e)
      (second_by (n x.0.1 x.1) (s x.1) x.0 a front x.1 mark bs g is marks (two x.0.1 x.1))

  pub paired_tracked : Tracks As R well (paired f m n) (both f r s)
  paired_tracked mark bs = pair_by (m mark bs) (r bs) mark bs (one mark bs)
