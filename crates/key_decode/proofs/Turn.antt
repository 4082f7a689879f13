-- A reading of the complement of the bytes.
use Rattle.std.proofs.Common.{◌≡◌, ℕ, ◌<◌, Bool, true, false, List, [], ◌∷◌, ◌++◌, length, Result, Ok, Err, arith, refl, sym, ◌∙◌, ap, subst}
use Rattle.std.proofs.lemmas.Bool.Decides.{nat_tests}
use Rattle.grammar.specs.Exact.{Read, Exact, StopsAt, NextIs}
use Rattle.key_types.specs.Kinds.{AreBytes}
use Rattle.key_decode.specs.Reading.{byte_complement, complemented, seen, back, complement_read}

abbrev pub Turned : {A : Type 0} → (A → List ℕ → Type 0) → A → List ℕ → Type 0
Turned Is a bs = Is a (complemented bs)

below_turned : (b : ℕ) → b < 256 → byte_complement b < 256
below_turned b h = grind (arith, nat_tests)

pub turned_bytes : (bs : List ℕ) → AreBytes bs → AreBytes (complemented bs)
turned_bytes [] h = tt
turned_bytes (b ∷ bs) h = (below_turned b h.0, turned_bytes bs h.1)

twice : (b : ℕ) → byte_complement (byte_complement b) ≡ b
twice b = grind (arith, nat_tests)

pub all_twice : (bs : List ℕ) → complemented (complemented bs) ≡ bs
all_twice [] = refl
all_twice (b ∷ bs) = ap (λ x. x ∷ complemented (complemented bs)) (twice b) ∙ ap (λ l. b ∷ l) (all_twice bs)

pub both : (xs ys : List ℕ) → complemented (xs ++ ys) ≡ complemented xs ++ complemented ys
both [] ys = refl
both (x ∷ xs) ys = ap (λ l. byte_complement x ∷ l) (both xs ys)

pub same_length : (bs : List ℕ) → length (complemented bs) ≡ length bs
same_length [] = refl
same_length (b ∷ bs) = let p = same_length bs in omega arith

pub seen_length : (t : Bool) (bs : List ℕ) → length (seen t bs) ≡ length bs
seen_length true bs = same_length bs
seen_length false bs = refl

module _ {A : Type 0} (r : Read A) (Is : A → List ℕ → Type 0) (follow : A → ℕ → Type 0) (one : Exact r Is follow) where
  ok_by : (x : Result (A × List ℕ) ℕ) (a : A) (rest : List ℕ) → back x ≡ Ok (a, rest) → x ≡ Ok (a, complemented rest)
  ok_by (Ok y) a rest h =
      let pairs : ◌≡◌ {A = A × List ℕ} (y.0, complemented y.1) (a, rest) = cc in
      ap (λ l. Ok (y.0, l)) (sym (all_twice y.1)) ∙ ap (λ q. Ok (q.0, complemented q.1)) pairs
  ok_by (Err n) a rest h = cc

  err_by : (x : Result (A × List ℕ) ℕ) (left : ℕ) → back x ≡ Err left → x ≡ Err left
  err_by (Ok y) left h = cc
  err_by (Err n) left h = cc

  begins : (rest : List ℕ) (a : A) → NextIs (λ b. follow a (byte_complement b)) rest → NextIs (follow a) (complemented rest)
  begins [] a h = tt
  begins (b ∷ bs) a h = h

  found : (text : List ℕ) (a : A) (rest : List ℕ) → complement_read r text ≡ Ok (a, rest) → (front : List ℕ) × (text ≡ front ++ rest) × Turned Is a front
  found text a rest h =
      let p = one.found (complemented text) a (complemented rest) (ok_by (r (complemented text)) a rest h) in
      (complemented p.0, sym (all_twice text) ∙ ap complemented p.1 ∙ both p.0 (complemented rest) ∙ ap (λ l. complemented p.0 ++ l) (all_twice rest), subst (Is a) (sym (all_twice p.0)) p.2)

  all : (a : A) (front rest : List ℕ) → Turned Is a front → NextIs (λ b. follow a (byte_complement b)) rest → complement_read r (front ++ rest) ≡ Ok (a, rest)
  all a front rest is h =
      ap (λ l. back (r l)) (both front rest) ∙ ap back (one.all a (complemented front) (complemented rest) is (begins rest a h)) ∙ ap (λ l. Ok (a, l)) (all_twice rest)

  next : (text : List ℕ) (a : A) (b : ℕ) (bs : List ℕ) → complement_read r text ≡ Ok (a, b ∷ bs) → follow a (byte_complement b)
  next text a b bs h = one.next (complemented text) a (byte_complement b) (complemented bs) (ok_by (r (complemented text)) a (b ∷ bs) h)

  stops_from : (text : List ℕ) (left : ℕ) → StopsAt r Is (complemented text) left → StopsAt (complement_read r) (Turned Is) text left
  stops_from text left s = record {
    front = complemented s.front;
    rest = complemented s.rest;
    parts = sym (all_twice text) ∙ ap complemented s.parts ∙ both s.front s.rest;
    count = s.count ∙ sym (same_length s.rest);
    goes_on = (complemented s.goes_on.0, s.goes_on.1, subst (Is s.goes_on.1) (sym (both (complemented s.front) (complemented s.goes_on.0) ∙ ap (λ l. l ++ complemented (complemented s.goes_on.0)) (all_twice s.front) ∙ ap (λ l. s.front ++ l) (all_twice s.goes_on.0))) s.goes_on.2, turned_bytes s.goes_on.0 s.goes_on.3);
    no_further = λ b bs is cs.
        let known : s.rest ≡ byte_complement b ∷ complemented bs = sym (all_twice s.rest) ∙ ap complemented is in
        ap (λ l. back (r l)) (both (complemented s.front) (b ∷ cs) ∙ ap (λ l. l ++ complemented (b ∷ cs)) (all_twice s.front))
        ∙ ap back (s.no_further (byte_complement b) (complemented bs) known (complemented cs)) ∙ ap Err (same_length (b ∷ cs));
  }

  pub turn_exact : Exact (complement_read r) (Turned Is) (λ a b. follow a (byte_complement b))
  turn_exact = record {
    found = found;
    all = all;
    next = next;
    stops = λ text left h. stops_from text left (one.stops (complemented text) left (err_by (r (complemented text)) left h));
  }
