-- A marked reading reads what the plain one reads, and marks the first number that passes its type.
use Rattle.std.proofs.Common.{◌≡◌, ℕ, zero, suc, ◌+◌, ◌<◌, cond, Bool, true, false, List, [], ◌∷◌, ◌++◌, length, Option, Some, None, Result, Ok, Err, refl, sym, ◌∙◌, ap, arith, subst, append_assoc, length-append, inl, inr}
use Rattle.std.specs.Prelude.{⊤, nat_le, nat_lt, ℤ, pos, negsuc, if◌then◌else◌, IsTrue}
use Rattle.std.proofs.lemmas.Bool.Decides.{nat_tests}
use Rattle.grammar.specs.Exact.{Read, Exact}
use Rattle.grammar.specs.Reading.{bind, then_read, map_read, mapped, ends, sign_at, IsSign}
use Rattle.grammar.proofs.Signs.{sign_exact}
use Rattle.key_types.specs.Kinds.{Kind, tiny, small, int, big, text, blob, boolean, tuple, reversed, Kinds, end, more, Val, number, bytes, truth, values, Vals, none, and, Fits, within}
use Rattle.key_text.specs.Grammar.{IsLiteral, AreLiterals, AreFurther, IsList}
use Rattle.key_text.specs.Outside.{NumbersFit, AllNumbersFit, ItemPasses, SignPasses, LastPasses, ValuePasses, AnyPasses, FurtherPasses, ListPasses}
use Rattle.key_text.specs.Reading.{number_at, quoted_text_at, blob_at, truth_at, closed_read, no_close}
use Rattle.key_text.specs.Marking.{Marked, kept, marked_number, marked_number_at, marked_at, marked_all, marked_rest, marked_list}
use Rattle.key_text.proofs.Plain.{signed, number_value, value_at, all_at, rest_at, list_at, Follow}
use Rattle.key_text.proofs.Lists.{value_exact}

-- ---- numbers within the bound of a type

abbrev pub kept_by : Bool → ℤ → Option ℤ
kept_by t z = if t then Some z else None

same_test : (a b : Bool) (z : ℤ) → a ≡ b → kept_by a z ≡ kept_by b z
same_test a b z e = ap (λ t. kept_by t z) e

pub kept_within : (m : ℕ) (minus : Bool) (n : ℕ) → kept (suc m) minus n ≡ kept_by (within (negsuc m) (pos (suc m)) (signed (minus, n))) (signed (minus, n))
kept_within m false n = same_test (nat_lt n (suc m)) (within (negsuc m) (pos (suc m)) (pos n)) (pos n) (grind (arith, nat_tests))
kept_within m true zero = same_test (nat_le 0 (suc m)) (within (negsuc m) (pos (suc m)) (pos 0)) (pos 0) (grind (arith, nat_tests))
kept_within m true (suc n) = same_test (nat_le (suc n) (suc m)) (within (negsuc m) (pos (suc m)) (negsuc n)) (negsuc n) (grind (arith, nat_tests))

-- ---- marks

-- the first mark stays; without one, all is fine and no mark made, or a mark is made where the place is
abbrev pub Marks : (ℕ → Type 0) → Type 0 → List ℕ → Option ℕ → Option ℕ → Type 0
Marks P fine bs (Some x) now = now ≡ Some x
Marks P fine bs None None = fine
Marks P fine bs None (Some left) = (at : ℕ) × P at × (left + at ≡ length bs)

abbrev pub Tracked : {A : Type 0} → (A → List ℕ → Type 0) → (List ℕ → ℕ → Type 0) → (A → Type 0) → Option ℕ → List ℕ → Result (Marked A × List ℕ) ℕ → Result (A × List ℕ) ℕ → Type 0
Tracked {A} Is P fine mark bs (Ok x) read =
    (v : A) × (front : List ℕ) × (read ≡ Ok (v, x.1)) × (bs ≡ front ++ x.1) × Is v front × Marks (P front) (fine v × (x.0.0 ≡ v)) bs mark x.0.1
Tracked Is P fine mark bs (Err e) read = read ≡ Err e

abbrev pub Tracks : {A : Type 0} → (A → List ℕ → Type 0) → (List ℕ → ℕ → Type 0) → (A → Type 0) → (Option ℕ → Read (Marked A)) → Read A → Type 0
Tracks Is P fine marked plain = (mark : Option ℕ) (bs : List ℕ) → Tracked Is P fine mark bs (marked mark bs) (plain bs)

shifted : (P Q : ℕ → Type 0) (n : ℕ) (F G : Type 0) (bs cs : List ℕ) (mark now : Option ℕ) → ((at : ℕ) → P at → Q (n + at)) → (F → G) → length bs ≡ n + length cs → Marks P F cs mark now → Marks Q G bs mark now
shifted P Q n F G bs cs (Some x) now to fine l h = h
shifted P Q n F G bs cs None None to fine l h = fine h
shifted P Q n F G bs cs None (Some left) to fine l h = (n + h.0, to h.0 h.1, (let e = h.2 in omega arith))

-- ---- values of one token

abbrev GotNumber : Type 0
GotNumber = Result ((Bool × ℕ) × List ℕ) ℕ

module _ (t : Kind) (m : ℕ) (Fit : (z : ℤ) → IsTrue (within (negsuc m) (pos (suc m)) z) → Fits t (number z)) (Back : (z : ℤ) → Fits t (number z) → IsTrue (within (negsuc m) (pos (suc m)) z))
    (one : Exact (map_read number_value (closed_read number_at)) (IsLiteral t) (λ _ b. Follow t b)) (NF : (z : ℤ) → Fits t (number z) → NumbersFit t (number z))
    (PF : (z : ℤ) (bs : List ℕ) → IsLiteral t (number z) bs → (Fits t (number z) → ⊥) → ValuePasses t bs 0) where
  never : (b : Bool) → b ≡ false → b ≡ true → ⊥
  never true e h = cc
  never false e h = cc

  marked_by : (b : Bool) (z : ℤ) (front rest : List ℕ) (mark : Option ℕ) (bs : List ℕ) → within (negsuc m) (pos (suc m)) z ≡ b → bs ≡ front ++ rest → IsLiteral t (number z) front
      → Tracked (IsLiteral t) (ValuePasses t) (NumbersFit t) mark bs (Ok (marked_number mark (length bs) (kept_by b z), rest)) (Ok (number z, rest))
  marked_by true z front rest (Some x) bs e f is = (number z, front, refl, f, is, refl)
  marked_by true z front rest None bs e f is = (number z, front, refl, f, is, (NF z (Fit z e), refl))
  marked_by false z front rest (Some x) bs e f is = (number z, front, refl, f, is, refl)
  marked_by false z front rest None bs e f is = (number z, front, refl, f, is, (0, PF z front is (λ h. never (within (negsuc m) (pos (suc m)) z) e (Back z h)), omega arith))

  number_by : (got : GotNumber) (mark : Option ℕ) (bs : List ℕ) → closed_read number_at bs ≡ got
      → Tracked (IsLiteral t) (ValuePasses t) (NumbersFit t) mark bs (mapped (λ x. marked_number mark (length bs) (kept (suc m) x.0 x.1)) got) (mapped number_value got)
  number_by (Err e) mark bs g = refl
  number_by (Ok x) mark bs g =
      let z = signed x.0 in
      let p = one.found bs (number z) x.1 (ap (mapped number_value) g) in
      subst (λ (k : Option ℤ). Tracked (IsLiteral t) (ValuePasses t) (NumbersFit t) mark bs (Ok (marked_number mark (length bs) k, x.1)) (Ok (number z, x.1))) (sym (kept_within m x.0.0 x.0.1))
      (marked_by (within (negsuc m) (pos (suc m)) z) z p.0 x.1 mark bs refl p.1 p.2)

  number_tracked : Tracks (IsLiteral t) (ValuePasses t) (NumbersFit t) (marked_number_at (suc m)) (map_read number_value (closed_read number_at))
  number_tracked mark bs = number_by (closed_read number_at bs) mark bs refl

-- a value that has no number
module _ {B : Type 0} (t : Kind) (f : B → Val) (r : Read B) (one : Exact (map_read f r) (IsLiteral t) (λ _ b. Follow t b)) (fine : (b : B) → NumbersFit t (f b)) where
  other_by : (got : Result (B × List ℕ) ℕ) (mark : Option ℕ) (bs : List ℕ) → r bs ≡ got → Tracked (IsLiteral t) (ValuePasses t) (NumbersFit t) mark bs (mapped (λ b. (f b, mark)) got) (mapped f got)
  other_by (Err e) mark bs g = refl
  other_by (Ok x) (Some y) bs g = let p = one.found bs (f x.0) x.1 (ap (mapped f) g) in (f x.0, p.0, refl, p.1, p.2, refl)
  other_by (Ok x) None bs g = let p = one.found bs (f x.0) x.1 (ap (mapped f) g) in (f x.0, p.0, refl, p.1, p.2, (fine x.0, refl))

  other_tracked : Tracks (IsLiteral t) (ValuePasses t) (NumbersFit t) (λ mark. map_read (λ b. (f b, mark)) r) (map_read f r)
  other_tracked mark bs = other_by (r bs) mark bs refl

-- ---- a sign before

module _ {A : Type 0} (c : ℕ) (w : c < 256) (Is As : A → List ℕ → Type 0) (P : List ℕ → ℕ → Type 0) (fine : A → Type 0) (marked : Option ℕ → Read (Marked A)) (plain : Read A) (one : Tracks Is P fine marked plain)
    (to : (a : A) (left rest : List ℕ) → IsSign c tt left → Is a rest → As a (left ++ rest)) where
  behind_by : (got : Result (Marked A × List ℕ) ℕ) (read : Result (A × List ℕ) ℕ) (mark : Option ℕ) (bs left cs : List ℕ) → IsSign c tt left → bs ≡ left ++ cs → Tracked Is P fine mark cs got read → Tracked As (SignPasses c P) fine mark bs got read
  behind_by (Err e) read mark bs left cs sign f h = h
  behind_by (Ok x) read mark bs left cs sign f (v, front, e, g, is, marks) = (
    v,
    left ++ front,
    e,
    f ∙ ap (λ l. left ++ l) g ∙ sym (append_assoc left front x.1),
    to v left front sign is,
    shifted (P front) (SignPasses c P (left ++ front)) (length left) (fine v × (x.0.0 ≡ v)) (fine v × (x.0.0 ≡ v)) bs cs mark x.0.1 (λ at p. (left, front, at, sign, p, refl, refl)) (λ k. k) (ap length f ∙ length-append left cs) marks,
  )

  sign_by : (got : Result (⊤ × List ℕ) ℕ) (mark : Option ℕ) (bs : List ℕ) → sign_at c bs ≡ got → Tracked As (SignPasses c P) fine mark bs (bind got (λ _. marked mark)) (bind got (λ _. plain))
  sign_by (Err e) mark bs g = refl
  sign_by (Ok x) mark bs g = let p = (sign_exact c w).found bs x.0 x.1 g in behind_by (marked mark x.1) (plain x.1) mark bs p.0 x.1 p.2 p.1 (one mark x.1)

  sign_tracked : Tracks As (SignPasses c P) fine (λ mark. then_read (sign_at c) (λ _. marked mark)) (then_read (sign_at c) (λ _. plain))
  sign_tracked mark bs = sign_by (sign_at c bs) mark bs refl

-- ---- the last sign of a list

marks_as : (P Q : ℕ → Type 0) (F G : Type 0) (bs : List ℕ) (mark now : Option ℕ) → ((at : ℕ) → P at → Q at) → (F → G) → Marks P F bs mark now → Marks Q G bs mark now
marks_as P Q F G bs (Some x) now to fine h = h
marks_as P Q F G bs None None to fine h = fine h
marks_as P Q F G bs None (Some left) to fine h = (h.0, to h.0 h.1, h.2)

module _ {B : Type 0} (f : Vals → B) (ts : Kinds) (marked : Option ℕ → Read (Marked Vals)) (plain : Read Vals) (one : Tracks (AreLiterals ts) (AnyPasses ts) (AllNumbersFit ts) marked plain)
    (As : B → List ℕ → Type 0) (fine : B → Type 0) (to : (vs : Vals) (inside right : List ℕ) → AreLiterals ts vs inside → IsSign 41 tt right → As (f vs) (inside ++ right)) (kept_fine : (vs : Vals) → AllNumbersFit ts vs → fine (f vs)) where
  close_by : (got : Result (⊤ × List ℕ) ℕ) (x : Marked Vals) (v : Vals) (front cs : List ℕ) (mark : Option ℕ) (bs : List ℕ) → sign_at 41 cs ≡ got → bs ≡ front ++ cs → AreLiterals ts v front
      → Marks (AnyPasses ts front) (AllNumbersFit ts v × (x.0 ≡ v)) bs mark x.1 → Tracked As (LastPasses (AnyPasses ts)) fine mark bs (mapped (λ _. (f x.0, x.1)) got) (mapped (λ _. f v) got)
  close_by (Err e) x v front cs mark bs g h is marks = refl
  close_by (Ok y) x v front cs mark bs g h is marks =
      let p = (sign_exact 41 (omega arith)).found cs y.0 y.1 g in (
        f v,
        front ++ p.0,
        refl,
        h ∙ ap (λ l. front ++ l) p.1 ∙ sym (append_assoc front p.0 y.1),
        to v front p.0 is p.2,
        marks_as (AnyPasses ts front) (LastPasses (AnyPasses ts) (front ++ p.0)) (AllNumbersFit ts v × (x.0 ≡ v)) (fine (f v) × (f x.0 ≡ f v)) bs mark x.1 (λ at q. (front, p.0, q, p.2, refl)) (λ k. (kept_fine v k.0, ap f k.1)) marks,
      )

  inside_by : (got : Result (Marked Vals × List ℕ) ℕ) (read : Result (Vals × List ℕ) ℕ) (mark : Option ℕ) (bs : List ℕ) → Tracked (AreLiterals ts) (AnyPasses ts) (AllNumbersFit ts) mark bs got read
      → Tracked As (LastPasses (AnyPasses ts)) fine mark bs (bind got (λ x. map_read (λ _. (f x.0, x.1)) (sign_at 41))) (bind read (λ vs. map_read (λ _. f vs) (sign_at 41)))
  inside_by (Err e) read mark bs h = ap (λ g. bind g (λ vs. map_read (λ _. f vs) (sign_at 41))) h
  inside_by (Ok x) read mark bs (v, front, e, g, is, marks) =
      subst (λ (q : Result (Vals × List ℕ) ℕ). Tracked As (LastPasses (AnyPasses ts)) fine mark bs (mapped (λ _. (f x.0.0, x.0.1)) (sign_at 41 x.1)) (bind q (λ vs. map_read (λ _. f vs) (sign_at 41)))) (sym e)
      (close_by (sign_at 41 x.1) x.0 v front x.1 mark bs refl g is marks)

  inside_tracked : Tracks As (LastPasses (AnyPasses ts)) fine (λ mark. then_read (marked mark) (λ x. map_read (λ _. (f x.0, x.1)) (sign_at 41))) (then_read plain (λ vs. map_read (λ _. f vs) (sign_at 41)))
  inside_tracked mark bs = inside_by (marked mark bs) (plain bs) mark bs (one mark bs)

-- ---- a component and those behind it

abbrev ItemP : Kind → Kinds → List ℕ → ℕ → Type 0
ItemP t ts = ItemPasses t (ValuePasses t) (AreFurther ts) (FurtherPasses ts)

module _ (t : Kind) (ts : Kinds) (one : Tracks (IsLiteral t) (ValuePasses t) (NumbersFit t) (marked_at t) (value_at t)) (two : Tracks (AreFurther ts) (FurtherPasses ts) (AllNumbersFit ts) (marked_rest ts) (rest_at ts)) where
  item_marks : (mark middle now : Option ℕ) (v u : Val) (ws us : Vals) (front behind bs cs : List ℕ) → IsLiteral t v front → AreFurther ts ws behind → length bs ≡ length front + length cs
      → Marks (ValuePasses t front) (NumbersFit t v × (u ≡ v)) bs mark middle → Marks (FurtherPasses ts behind) (AllNumbersFit ts ws × (us ≡ ws)) cs middle now
      → Marks (ItemP t ts (front ++ behind)) (AllNumbersFit (more t ts) (and v ws) × (and u us ≡ and v ws)) bs mark now
  item_marks (Some z) middle now v u ws us front behind bs cs lit further l h k = subst (λ (m : Option ℕ). Marks (FurtherPasses ts behind) (AllNumbersFit ts ws × (us ≡ ws)) cs m now) h k
  item_marks None None None v u ws us front behind bs cs lit further l h k = ((h.0, k.0), ap (λ x. and x us) h.1 ∙ ap (λ y. and v y) k.1)
  item_marks None None (Some left) v u ws us front behind bs cs lit further l h k = (length front + k.0, (front, behind, refl, inr (v, k.0, lit, h.0, k.1, refl)), (let e = k.2 in omega arith))
  item_marks None (Some z) now v u ws us front behind bs cs lit further l h k =
      subst (λ (m : Option ℕ). Marks (ItemP t ts (front ++ behind)) (AllNumbersFit (more t ts) (and v ws) × (and u us ≡ and v ws)) bs None m) (sym k) (h.0, (front, behind, refl, inl (h.1, ws, further)), h.2)

  item_by : (got : Result (Marked Vals × List ℕ) ℕ) (read : Result (Vals × List ℕ) ℕ) (x : Marked Val) (v : Val) (front cs : List ℕ) (mark : Option ℕ) (bs : List ℕ) → bs ≡ front ++ cs → IsLiteral t v front
      → Marks (ValuePasses t front) (NumbersFit t v × (x.0 ≡ v)) bs mark x.1 → Tracked (AreFurther ts) (FurtherPasses ts) (AllNumbersFit ts) x.1 cs got read
      → Tracked (AreLiterals (more t ts)) (ItemP t ts) (AllNumbersFit (more t ts)) mark bs (mapped (λ y. (and x.0 y.0, y.1)) got) (mapped (and v) read)
  item_by (Err e) read x v front cs mark bs f lit marks h = ap (mapped (and v)) h
  item_by (Ok y) read x v front cs mark bs f lit marks (ws, behind, e, g, further, after) = (
    and v ws,
    front ++ behind,
    ap (mapped (and v)) e,
    f ∙ ap (λ l. front ++ l) g ∙ sym (append_assoc front behind y.1),
    (front, behind, lit, further, refl),
    item_marks mark x.1 y.0.1 v x.0 ws y.0.0 front behind bs cs lit further (ap length f ∙ length-append front cs) marks after,
  )

  first_by : (got : Result (Marked Val × List ℕ) ℕ) (read : Result (Val × List ℕ) ℕ) (mark : Option ℕ) (bs : List ℕ) → Tracked (IsLiteral t) (ValuePasses t) (NumbersFit t) mark bs got read
      → Tracked (AreLiterals (more t ts)) (ItemP t ts) (AllNumbersFit (more t ts)) mark bs (bind got (λ x. map_read (λ y. (and x.0 y.0, y.1)) (marked_rest ts x.1))) (bind read (λ v. map_read (and v) (rest_at ts)))
  first_by (Err e) read mark bs h = ap (λ g. bind g (λ v. map_read (and v) (rest_at ts))) h
  first_by (Ok x) read mark bs (v, front, e, g, lit, marks) =
      subst (λ (q : Result (Val × List ℕ) ℕ). Tracked (AreLiterals (more t ts)) (ItemP t ts) (AllNumbersFit (more t ts)) mark bs (mapped (λ y. (and x.0.0 y.0, y.1)) (marked_rest ts x.0.1 x.1)) (bind q (λ w. map_read (and w) (rest_at ts)))) (sym e)
      (item_by (marked_rest ts x.0.1 x.1) (rest_at ts x.1) x.0 v front x.1 mark bs g lit marks (two x.0.1 x.1))

  item_tracked : Tracks (AreLiterals (more t ts)) (ItemP t ts) (AllNumbersFit (more t ts)) (λ mark. then_read (marked_at t mark) (λ x. map_read (λ y. (and x.0 y.0, y.1)) (marked_rest ts x.1)))
      (then_read (value_at t) (λ v. map_read (and v) (rest_at ts)))
  item_tracked mark bs = first_by (marked_at t mark bs) (value_at t bs) mark bs (one mark bs)

-- no component
module _ (As : Vals → List ℕ → Type 0) (P : List ℕ → ℕ → Type 0) (fine : Vals → Type 0) (is : As none []) (well : fine none) where
  end_marks : (bs : List ℕ) (mark : Option ℕ) → Marks (P []) (fine none × (none ≡ none)) bs mark mark
  end_marks bs None = (well, refl)
  end_marks bs (Some x) = refl

  end_by : (t : Bool) (b : ℕ) (bs : List ℕ) (mark : Option ℕ)
      → Tracked As P fine mark (b ∷ bs) (cond {A = Result (Marked Vals × List ℕ) ℕ} t (Err (length bs + 1)) (Ok ((none, mark), b ∷ bs))) (cond {A = Result (Vals × List ℕ) ℕ} t (Err (length bs + 1)) (Ok (none, b ∷ bs)))
  end_by true b bs mark = refl
  end_by false b bs mark = (none, [], refl, refl, is, end_marks (b ∷ bs) mark)

  end_tracked : Tracks As P fine (λ mark. ends no_close (none, mark)) (ends no_close none)
  end_tracked mark [] = (none, [], refl, refl, is, end_marks [] mark)
  end_tracked mark (b ∷ bs) = end_by (no_close b) b bs mark

-- what stands behind the first sign of a list
abbrev Inside : Kinds → Vals → List ℕ → Type 0
Inside ts vs bs = (inside : List ℕ) × (right : List ℕ) × AreLiterals ts vs inside × IsSign 41 tt right × (bs ≡ inside ++ right)

abbrev InsideTuple : Kinds → Val → List ℕ → Type 0
InsideTuple ts (values vs) bs = Inside ts vs bs
InsideTuple ts _ bs = ⊥

tuple_inside : (ts : Kinds) (v : Val) (left rest : List ℕ) → IsSign 40 tt left → InsideTuple ts v rest → IsLiteral (tuple ts) v (left ++ rest)
tuple_inside ts (number z) left rest sign is = absurd is
tuple_inside ts (bytes b) left rest sign is = absurd is
tuple_inside ts (truth b) left rest sign is = absurd is
tuple_inside ts (values vs) left rest sign (inside, right, all, last, e) = (left, inside, right, sign, all, last, ap (λ l. left ++ l) e)

comma_inside : (t : Kind) (ts : Kinds) (vs : Vals) (left rest : List ℕ) → IsSign 44 tt left → AreLiterals (more t ts) vs rest → AreFurther (more t ts) vs (left ++ rest)
comma_inside t ts none left rest sign is = absurd is
comma_inside t ts (and v ws) left rest sign (first, behind, lit, further, e) = (left, first, behind, sign, lit, further, ap (λ l. left ++ l) e)

mutual
  pub value_tracked : (t : Kind) → Tracks (IsLiteral t) (ValuePasses t) (NumbersFit t) (marked_at t) (value_at t)
  value_tracked tiny = number_tracked tiny 127 (λ z h. h) (λ z h. h) (value_exact tiny) (λ z h. h) (λ z bs is n. (z, is, n, refl))
  value_tracked small = number_tracked small 32767 (λ z h. h) (λ z h. h) (value_exact small) (λ z h. h) (λ z bs is n. (z, is, n, refl))
  value_tracked int = number_tracked int 2147483647 (λ z h. h) (λ z h. h) (value_exact int) (λ z h. h) (λ z bs is n. (z, is, n, refl))
  value_tracked big = number_tracked big 9223372036854775807 (λ z h. h) (λ z h. h) (value_exact big) (λ z h. h) (λ z bs is n. (z, is, n, refl))
  value_tracked text = other_tracked text bytes (closed_read quoted_text_at) (value_exact text) (λ b. tt)
  value_tracked blob = other_tracked blob bytes (closed_read blob_at) (value_exact blob) (λ b. tt)
  value_tracked boolean = other_tracked boolean truth truth_at (value_exact boolean) (λ b. tt)
  value_tracked (tuple ts) = sign_tracked 40 (omega arith) (InsideTuple ts) (IsLiteral (tuple ts)) (LastPasses (AnyPasses ts)) (NumbersFit (tuple ts)) (λ mark. then_read (marked_all ts mark) (λ x. map_read (λ _. (values x.0, x.1)) (sign_at 41)))
      (then_read (all_at ts) (λ vs. map_read (λ _. values vs) (sign_at 41)))
      (inside_tracked values ts (marked_all ts) (all_at ts) (all_tracked ts) (InsideTuple ts) (NumbersFit (tuple ts)) (λ vs inside right is last. (inside, right, is, last, refl)) (λ vs h. h)) (tuple_inside ts)
  value_tracked (reversed t) = value_tracked t

  pub all_tracked : (ts : Kinds) → Tracks (AreLiterals ts) (AnyPasses ts) (AllNumbersFit ts) (marked_all ts) (all_at ts)
  all_tracked end = end_tracked (AreLiterals end) (AnyPasses end) (AllNumbersFit end) refl tt
  all_tracked (more t ts) = item_tracked t ts (value_tracked t) (rest_tracked ts)

  pub rest_tracked : (ts : Kinds) → Tracks (AreFurther ts) (FurtherPasses ts) (AllNumbersFit ts) (marked_rest ts) (rest_at ts)
  rest_tracked end = end_tracked (AreFurther end) (FurtherPasses end) (AllNumbersFit end) refl tt
  rest_tracked (more t ts) = sign_tracked 44 (omega arith) (AreLiterals (more t ts)) (AreFurther (more t ts)) (ItemP t ts) (AllNumbersFit (more t ts)) (λ mark. then_read (marked_at t mark) (λ x. map_read (λ y. (and x.0 y.0, y.1)) (marked_rest ts x.1)))
      (then_read (value_at t) (λ v. map_read (and v) (rest_at ts))) (item_tracked t ts (value_tracked t) (rest_tracked ts)) (comma_inside t ts)

pub list_tracked : (ts : Kinds) → Tracks (IsList ts) (ListPasses ts) (AllNumbersFit ts) (marked_list ts) (list_at ts)
list_tracked ts = sign_tracked 40 (omega arith) (Inside ts) (IsList ts) (LastPasses (AnyPasses ts)) (AllNumbersFit ts) (λ mark. then_read (marked_all ts mark) (λ x. map_read (λ _. x) (sign_at 41))) (then_read (all_at ts) (λ vs. map_read (λ _. vs) (sign_at 41)))
    (inside_tracked (λ vs. vs) ts (marked_all ts) (all_at ts) (all_tracked ts) (Inside ts) (AllNumbersFit ts) (λ vs inside right is last. (inside, right, is, last, refl)) (λ vs h. h))
    (λ vs left rest sign h. (left, h.0, h.1, sign, h.2, h.3, ap (λ l. left ++ l) h.4))
