-- Texts that stand as they are, and how far a blob goes.
use Rattle.std.proofs.Common.{◌≡◌, ℕ, suc, ◌+◌, ◌-◌, ◌==◌, Bool, true, false, cond, List, [], ◌∷◌, length, take, drop, Option, None, Some, Result, Ok, Err, arith, refl, sym, ◌∙◌, ap}
use Rattle.std.specs.List.{position_from}
use Rattle.std.proofs.lemmas.List.{append-nil, length-drop}
use Rattle.std.proofs.Math.Seq.{take-length}
use Rattle.key_decode.specs.Reading.{text_at, after_zero}
use Rattle.grammar.specs.Reading.{onto, with_front}
use Rattle.key_decode.specs.Passing.{Skips}

abbrev Got : Type 0
Got = Result (List ℕ × List ℕ) ℕ

-- ---- up to the first zero

-- a byte more in front
onto_front : (b : ℕ) (front : List ℕ) (got : Got) → onto b (with_front front got) ≡ with_front (b ∷ front) got
onto_front b front (Ok x) = refl
onto_front b front (Err e) = refl

no_front : (got : Got) → got ≡ with_front [] got
no_front (Ok x) = refl
no_front (Err e) = refl

-- the first zero, where counting begins at a number, and what is read up to it
record Zero (bs : List ℕ) (from at : ℕ) : Type 0 where
  count : ℕ
  is : at ≡ from + count
  reads : text_at bs ≡ with_front (take count bs) (after_zero (drop (suc count) bs))

zero_by : (t : Bool) (b : ℕ) (bs : List ℕ) (from at : ℕ) → (b == 0) ≡ t → cond t (Some from) (position_from (λ c. c == 0) (from + 1) bs) ≡ Some at
    → (position_from (λ c. c == 0) (from + 1) bs ≡ Some at → Zero bs (from + 1) at) → Zero (b ∷ bs) from at
zero_by true b bs from at e h rest =
    let same : from ≡ at = cc in
    record { count = 0; is = omega arith; reads = rw e (no_front (after_zero bs)) }
zero_by false b bs from at e h rest =
    let z = rest h in
    let there = z.is in
    record { count = suc z.count; is = omega arith; reads = rw e (ap (onto b) z.reads ∙ onto_front b (take z.count bs) (after_zero (drop (suc z.count) bs))) }

zero_at : (bs : List ℕ) (from at : ℕ) → position_from (λ b. b == 0) from bs ≡ Some at → Zero bs from at
zero_at [] from at h = cc
zero_at (b ∷ bs) from at h = zero_by (b == 0) b bs from at refl h (zero_at bs (from + 1) at)

-- where a text ends behind the first zero, the bytes before it are the text
pub plain_reads : (bs rest : List ℕ) (at : ℕ) → position_from (λ b. b == 0) 0 bs ≡ Some at → after_zero (take (length bs - (at + 1)) (drop (at + 1) bs)) ≡ Ok ([], rest)
    → text_at bs ≡ Ok (take at bs, rest)
plain_reads bs rest at h ends =
    let z = zero_at bs 0 at h in
    let there : z.count ≡ at = let is = z.is in omega arith in
    let next : suc z.count ≡ at + 1 = omega arith in
    let tail : take (length bs - (at + 1)) (drop (at + 1) bs) ≡ drop (at + 1) bs = ap (λ k. take k (drop (at + 1) bs)) (sym (length-drop (at + 1) bs)) ∙ take-length (drop (at + 1) bs) in
    z.reads ∙ ap (λ j. with_front (take z.count bs) (after_zero (drop j bs))) next ∙ ap (λ l. with_front (take z.count bs) (after_zero l)) (sym tail) ∙ ap (with_front (take z.count bs)) ends
    ∙ ap (λ l. Ok (l, rest)) (append-nil (take z.count bs) ∙ ap (λ j. take j bs) there)

-- ---- the bytes behind

-- what is left behind what was read
abbrev pub left_of : Result (List ℕ × List ℕ) ℕ → Option (List ℕ)
left_of (Ok x) = Some x.1
left_of (Err e) = None

-- a blob ends where these bytes are left
pub some_left : {X : Type 0} (view : X → List ℕ) (x : X) (got : Got) → left_of got ≡ Some (view x) → Skips (λ blob. Unit {0}) view (Some x) got
some_left view x (Ok y) h = let same : y.1 ≡ view x = cc in (y.0, tt, ap (λ l. Ok (y.0, l)) same)
some_left view x (Err e) h = cc
