-- What was read seen as another value, what may be left out, and the end of a text.
use Rattle.std.proofs.Common.{◌≡◌, ℕ, ◌+◌, ◌-◌, List, [], ◌∷◌, ◌++◌, length, Result, Ok, Err, refl, sym, ◌∙◌, ap, arith, subst, append_assoc, length-append}
use Rattle.std.proofs.lemmas.List.{append-nil}
use Rattle.grammar.specs.Exact.{Read, Exact, StopsAt, NextIs, Longest}
use Rattle.grammar.specs.Reading.{mapped, map_read, Mapped, whole, all_of}

module _ {A B : Type 0} (f : A → B) (r : Read A) (Is : A → List ℕ → Type 0) (follow : A → ℕ → Type 0) (after : B → ℕ → Type 0)
    (one : Exact r Is follow) (to : (a : A) (c : ℕ) → follow a c → after (f a) c) (from : (a : A) (c : ℕ) → after (f a) c → follow a c) where
  found_by : (x : Result (A × List ℕ) ℕ) (text : List ℕ) (b : B) (rest : List ℕ) → r text ≡ x → mapped f x ≡ Ok (b, rest) → (a : A) × (r text ≡ Ok (a, rest)) × (b ≡ f a)
  found_by (Ok x) text b rest e h =
      let pairs : ◌≡◌ {A = B × List ℕ} (f x.0, x.1) (b, rest) = cc in
      (x.0, e ∙ ap (λ q. Ok (x.0, q)) (ap (λ q. q.1) pairs), sym (ap (λ q. q.0) pairs))
  found_by (Err n) text b rest e h = cc

  back : (rest : List ℕ) (a : A) → NextIs (after (f a)) rest → NextIs (follow a) rest
  back [] a h = tt
  back (c ∷ cs) a h = from a c h

  err_by : (x : Result (A × List ℕ) ℕ) (left : ℕ) → mapped f x ≡ Err left → x ≡ Err left
  err_by (Ok x) left h = cc
  err_by (Err n) left h = cc

  stops_as : (text : List ℕ) (left : ℕ) → StopsAt r Is text left → StopsAt (map_read f r) (Mapped f Is) text left
  stops_as text left s = record {
    front = s.front;
    rest = s.rest;
    parts = s.parts;
    count = s.count;
    goes_on = (s.goes_on.0, f s.goes_on.1, (s.goes_on.1, s.goes_on.2, refl), s.goes_on.3);
    no_further = λ b bs is cs. ap (mapped f) (s.no_further b bs is cs);
  }

  pub map_exact : Exact (map_read f r) (Mapped f Is) after
  map_exact = record {
    found = λ text b rest h. let p = found_by (r text) text b rest refl h in let q = one.found text p.0 rest p.1 in (q.0, q.1, (p.0, q.2, p.2));
    all = λ b front rest is h. ap (mapped f) (one.all is.0 front rest is.1 (back rest is.0 (subst (λ (x : B). NextIs (after x) rest) is.2 h))) ∙ ap (λ x. Ok (x, rest)) (sym is.2);
    next = λ text b c cs h. let p = found_by (r text) text b (c ∷ cs) refl h in subst (λ (x : B). after x c) (sym p.2) (to p.0 c (one.next text p.0 c cs p.1));
    stops = λ text left h. stops_as text left (one.stops text left (err_by (r text) left h));
  }

-- ---- a whole text

module _ {A : Type 0} (r : Read A) (Is : A → List ℕ → Type 0) (follow : A → ℕ → Type 0) (one : Exact r Is follow) where
  ok_by : (x : Result (A × List ℕ) ℕ) (a : A) → all_of x ≡ Ok a → x ≡ Ok (a, [])
  ok_by (Ok (b, [])) a h = let e : b ≡ a = cc in ap (λ q. Ok (q, [])) e
  ok_by (Ok (b, c ∷ cs)) a h = cc
  ok_by (Err n) a h = cc

  -- what is read is a whole text of the grammar
  pub whole_found : (text : List ℕ) (a : A) → whole r text ≡ Ok a → Is a text
  whole_found text a h = let p = one.found text a [] (ok_by (r text) a h) in subst (Is a) (sym (p.1 ∙ append-nil p.0)) p.2

  pub whole_all : (text : List ℕ) (a : A) → Is a text → whole r text ≡ Ok a
  whole_all text a is = ap (λ l. all_of (r l)) (sym (append-nil text)) ∙ ap all_of (one.all a text [] is tt)

  apart : (x : A) (n : ℕ) (got : Result (A × List ℕ) ℕ) (rest : List ℕ) → got ≡ Ok (x, rest) → got ≡ Err n → ⊥
  apart x n got rest e h = cc

  shorter : (a x : A) (b : ℕ) (bs : List ℕ) (got : Result (A × List ℕ) ℕ) → got ≡ Ok (a, []) → got ≡ Ok (x, b ∷ bs) → ⊥
  shorter a x b bs got e h =
      let pairs : ◌≡◌ {A = A × List ℕ} (a, []) (x, b ∷ bs) = cc in
      let lists : [] ≡ b ∷ bs = ap (λ q. q.1) pairs in cc

  longest_by : (x : Result (A × List ℕ) ℕ) (text : List ℕ) (left : ℕ) → r text ≡ x → all_of x ≡ Err left → Longest Is text (length text - left)
  longest_by (Ok (a, [])) text left e h = cc
  longest_by (Ok (a, b ∷ bs)) text left e h =
      let p = one.found text a (b ∷ bs) e in
      let l : left ≡ length (b ∷ bs) = cc in
      record {
        front = p.0;
        rest = b ∷ bs;
        parts = p.1;
        count = (let both : length text ≡ length p.0 + length (b ∷ bs) = ap length p.1 ∙ length-append p.0 (b ∷ bs) in omega arith);
        goes_on = ([], a, subst (Is a) (sym (append-nil p.0)) p.2, tt);
        no_further = λ c cs is v.
            let heads : b ≡ c = cc in
            let all : (p.0 ++ c ∷ []) ++ v.0 ≡ p.0 ++ c ∷ v.0 = append_assoc p.0 (c ∷ []) v.0 in
            shorter v.1 a c v.0 (r (p.0 ++ c ∷ v.0))
            (ap r (sym all) ∙ ap r (sym (append-nil ((p.0 ++ c ∷ []) ++ v.0))) ∙ one.all v.1 ((p.0 ++ c ∷ []) ++ v.0) [] v.2 tt)
            (one.all a p.0 (c ∷ v.0) p.2 (subst (follow a) heads (one.next text a b bs e)));
      }
  longest_by (Err n) text left e h =
      let s = one.stops text n e in
      let same : n ≡ left = cc in
      record {
        front = s.front;
        rest = s.rest;
        parts = s.parts;
        count = (let both : length text ≡ length s.front + length s.rest = ap length s.parts ∙ length-append s.front s.rest in let c = s.count in omega arith);
        goes_on = s.goes_on;
        no_further = λ b bs is v.
            let all : (s.front ++ b ∷ []) ++ v.0 ≡ s.front ++ b ∷ v.0 = append_assoc s.front (b ∷ []) v.0 in
            apart v.1 (length (b ∷ v.0)) (r (s.front ++ b ∷ v.0)) []
            (ap r (sym all) ∙ ap r (sym (append-nil ((s.front ++ b ∷ []) ++ v.0))) ∙ one.all v.1 ((s.front ++ b ∷ []) ++ v.0) [] v.2 tt)
            (s.no_further b bs is v.0);
      }

  -- where it is refused, the place is the longest prefix that begins a text of the grammar
  pub longest : (text : List ℕ) (left : ℕ) → whole r text ≡ Err left → Longest Is text (length text - left)
  longest text left h = longest_by (r text) text left refl h
