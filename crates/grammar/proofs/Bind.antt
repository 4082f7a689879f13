-- Two exact readings, one after the other, are an exact reading.
use Rattle.std.proofs.Common.{◌≡◌, ℕ, List, [], ◌∷◌, ◌++◌, Result, Ok, Err, refl, sym, ◌∙◌, ap, append_assoc}
use Rattle.grammar.specs.Exact.{Read, Exact, StopsAt, NextIs}
use Rattle.key_types.specs.Kinds.{AreBytes}
use Rattle.grammar.proofs.Octets.{bytes_both}
use Rattle.grammar.specs.Reading.{bind, then_read, Then}

module _ {A B : Type 0} (r : Read A) (f : A → Read B) (First : A → List ℕ → Type 0) (Second : A → B → List ℕ → Type 0) (follow : A → ℕ → Type 0) (after : B → ℕ → Type 0)
    (one : Exact r First follow) (two : (a : A) → Exact (f a) (Second a) after)
    (some : (a : A) → (b : B) × (text : List ℕ) × Second a b text × AreBytes text)
    (starts : (a : A) (b : B) (text rest : List ℕ) → Second a b text → NextIs (after b) rest → NextIs (follow a) (text ++ rest)) where
  found_by : (got : Result (A × List ℕ) ℕ) (text : List ℕ) (b : B) (rest : List ℕ) → r text ≡ got → bind got f ≡ Ok (b, rest) → (front : List ℕ) × (text ≡ front ++ rest) × Then First Second b front
  found_by (Ok x) text b rest e h =
      let p = one.found text x.0 x.1 e in
      let q = (two x.0).found x.1 b rest h in
      (p.0 ++ q.0, p.1 ∙ ap (λ t. p.0 ++ t) q.1 ∙ sym (append_assoc p.0 q.0 rest), (x.0, p.0, q.0, p.2, q.2, refl))
  found_by (Err n) text b rest e h = cc

  all : (b : B) (text rest : List ℕ) → Then First Second b text → NextIs (after b) rest → then_read r f (text ++ rest) ≡ Ok (b, rest)
  all b text rest t h =
      ap (λ s. bind (r s) f) (ap (λ s. s ++ rest) t.5 ∙ append_assoc t.1 t.2 rest)
      ∙ ap (λ g. bind g f) (one.all t.0 t.1 (t.2 ++ rest) t.3 (starts t.0 b t.2 rest t.4 h)) ∙ (two t.0).all b t.2 rest t.4 h

  next_by : (got : Result (A × List ℕ) ℕ) (text : List ℕ) (b : B) (c : ℕ) (cs : List ℕ) → bind got f ≡ Ok (b, c ∷ cs) → after b c
  next_by (Ok x) text b c cs h = (two x.0).next x.1 b c cs h
  next_by (Err n) text b c cs h = cc

  starts_by : (text : List ℕ) (a : A) (front : List ℕ) (b : ℕ) (bs cs : List ℕ) → r text ≡ Ok (a, front ++ b ∷ bs) → NextIs (follow a) (front ++ b ∷ cs)
  starts_by text a [] b bs cs e = one.next text a b bs e
  starts_by text a (d ∷ ds) b bs cs e = one.next text a d (ds ++ b ∷ bs) e

  stops_by : (got : Result (A × List ℕ) ℕ) (text : List ℕ) (left : ℕ) → r text ≡ got → bind got f ≡ Err left → StopsAt (then_read r f) (Then First Second) text left
  stops_by (Ok x) text left e h =
      let p = one.found text x.0 x.1 e in
      let s = (two x.0).stops x.1 left h in
      record {
        front = p.0 ++ s.front;
        rest = s.rest;
        parts = p.1 ∙ ap (λ t. p.0 ++ t) s.parts ∙ sym (append_assoc p.0 s.front s.rest);
        count = s.count;
        goes_on = (s.goes_on.0, s.goes_on.1, (x.0, p.0, s.front ++ s.goes_on.0, p.2, s.goes_on.2, append_assoc p.0 s.front s.goes_on.0), s.goes_on.3);
        no_further = λ b bs is cs.
            let known : r text ≡ Ok (x.0, s.front ++ b ∷ bs) = e ∙ ap (λ t. Ok (x.0, t)) (s.parts ∙ ap (λ t. s.front ++ t) is) in
            ap (λ t. bind (r t) f) (append_assoc p.0 s.front (b ∷ cs))
            ∙ ap (λ g. bind g f) (one.all x.0 p.0 (s.front ++ b ∷ cs) p.2 (starts_by text x.0 s.front b bs cs known))
            ∙ s.no_further b bs is cs;
      }
  stops_by (Err n) text left e h =
      let s = one.stops text n e in
      let same : left ≡ n = cc in
      let second = some s.goes_on.1 in
      record {
        front = s.front;
        rest = s.rest;
        parts = s.parts;
        count = same ∙ s.count;
        goes_on = (s.goes_on.0 ++ second.1, second.0, (s.goes_on.1, s.front ++ s.goes_on.0, second.1, s.goes_on.2, second.2, sym (append_assoc s.front s.goes_on.0 second.1)), bytes_both s.goes_on.0 second.1 s.goes_on.3 second.3);
        no_further = λ b bs is cs. ap (λ g. bind g f) (s.no_further b bs is cs);
      }

  pub bind_exact : Exact (then_read r f) (Then First Second) after
  bind_exact = record {
    found = λ text b rest h. found_by (r text) text b rest refl h;
    all = all;
    next = λ text b c cs h. next_by (r text) text b c cs h;
    stops = λ text left h. stops_by (r text) text left refl h;
  }
