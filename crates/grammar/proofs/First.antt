-- Two exact readings, of which the first byte chooses one, are an exact reading.
use Rattle.std.proofs.Common.{◌≡◌, ℕ, Bool, true, false, cond, List, [], ◌∷◌, ◌++◌, length, Ok, Err, refl, sym, ◌∙◌, ap, subst, inl, inr}
use Rattle.grammar.specs.Exact.{Read, Exact, StopsAt, Viable, NextIs}
use Rattle.grammar.specs.Reading.{by_first, Either}
use Rattle.grammar.proofs.Front.{stops_empty}

module _ {A : Type 0} (test : ℕ → Bool) (r s : Read A) (First Second : A → List ℕ → Type 0) (follow : A → ℕ → Type 0)
    (one : Exact r First follow) (two : Exact s Second follow)
    (heads : (a : A) (text : List ℕ) → First a text → (c : ℕ) × (cs : List ℕ) × (text ≡ c ∷ cs) × (test c ≡ true))
    (others : (a : A) (text : List ℕ) → Second a text → (c : ℕ) × (cs : List ℕ) × (text ≡ c ∷ cs) × (test c ≡ false))
    (some : Viable First []) where
  found_by : (t : Bool) (b : ℕ) (bs : List ℕ) (a : A) (rest : List ℕ) → cond t (r (b ∷ bs)) (s (b ∷ bs)) ≡ Ok (a, rest) → (front : List ℕ) × (b ∷ bs ≡ front ++ rest) × Either First Second a front
  found_by true b bs a rest h = let p = one.found (b ∷ bs) a rest h in (p.0, p.1, inl p.2)
  found_by false b bs a rest h = let p = two.found (b ∷ bs) a rest h in (p.0, p.1, inr p.2)

  found : (text : List ℕ) (a : A) (rest : List ℕ) → by_first test r s text ≡ Ok (a, rest) → (front : List ℕ) × (text ≡ front ++ rest) × Either First Second a front
  found [] a rest h = cc
  found (b ∷ bs) a rest h = found_by (test b) b bs a rest h

  at_first : (c : ℕ) (cs : List ℕ) → test c ≡ true → by_first test r s (c ∷ cs) ≡ r (c ∷ cs)
  at_first c cs e = ap (λ t. cond t (r (c ∷ cs)) (s (c ∷ cs))) e

  at_second : (c : ℕ) (cs : List ℕ) → test c ≡ false → by_first test r s (c ∷ cs) ≡ s (c ∷ cs)
  at_second c cs e = ap (λ t. cond t (r (c ∷ cs)) (s (c ∷ cs))) e

  all : (a : A) (front rest : List ℕ) → Either First Second a front → NextIs (follow a) rest → by_first test r s (front ++ rest) ≡ Ok (a, rest)
  all a front rest (inl i) h =
      let p = heads a front i in
      ap (λ l. by_first test r s (l ++ rest)) p.2 ∙ at_first p.0 (p.1 ++ rest) p.3 ∙ ap (λ l. r (l ++ rest)) (sym p.2) ∙ one.all a front rest i h
  all a front rest (inr i) h =
      let p = others a front i in
      ap (λ l. by_first test r s (l ++ rest)) p.2 ∙ at_second p.0 (p.1 ++ rest) p.3 ∙ ap (λ l. s (l ++ rest)) (sym p.2) ∙ two.all a front rest i h

  next_by : (t : Bool) (x : ℕ) (xs : List ℕ) (a : A) (b : ℕ) (bs : List ℕ) → cond t (r (x ∷ xs)) (s (x ∷ xs)) ≡ Ok (a, b ∷ bs) → follow a b
  next_by true x xs a b bs h = one.next (x ∷ xs) a b bs h
  next_by false x xs a b bs h = two.next (x ∷ xs) a b bs h

  next : (text : List ℕ) (a : A) (b : ℕ) (bs : List ℕ) → by_first test r s text ≡ Ok (a, b ∷ bs) → follow a b
  next [] a b bs h = cc
  next (x ∷ xs) a b bs h = next_by (test x) x xs a b bs h

  -- behind the first byte the readings are one
  along : (read : Read A) (b : ℕ) → ((cs : List ℕ) → by_first test r s (b ∷ cs) ≡ read (b ∷ cs)) → (bs front : List ℕ) (d : ℕ) (ds cs : List ℕ) → b ∷ bs ≡ front ++ d ∷ ds → read (front ++ d ∷ cs) ≡ Err (length (d ∷ cs))
      → by_first test r s (front ++ d ∷ cs) ≡ Err (length (d ∷ cs))
  along read b is bs [] d ds cs p h =
      let head : b ≡ d = cc in
      subst (λ (x : ℕ). read (x ∷ cs) ≡ Err (length (x ∷ cs)) → by_first test r s (x ∷ cs) ≡ Err (length (x ∷ cs))) head (λ k. is cs ∙ k) h
  along read b is bs (f ∷ fs) d ds cs p h =
      let head : b ≡ f = cc in
      subst (λ (x : ℕ). read (x ∷ (fs ++ d ∷ cs)) ≡ Err (length (d ∷ cs)) → by_first test r s (x ∷ (fs ++ d ∷ cs)) ≡ Err (length (d ∷ cs))) head (λ k. is (fs ++ d ∷ cs) ∙ k) h

  stops_by : (t : Bool) (b : ℕ) (bs : List ℕ) (left : ℕ) → test b ≡ t → cond t (r (b ∷ bs)) (s (b ∷ bs)) ≡ Err left → StopsAt (by_first test r s) (Either First Second) (b ∷ bs) left
  stops_by true b bs left e h =
      let p = one.stops (b ∷ bs) left h in
      record {
        front = p.front;
        rest = p.rest;
        parts = p.parts;
        count = p.count;
        goes_on = (p.goes_on.0, p.goes_on.1, inl p.goes_on.2, p.goes_on.3);
        no_further = λ d ds is cs. along r b (λ xs. at_first b xs e) bs p.front d ds cs (p.parts ∙ ap (λ l. p.front ++ l) is) (p.no_further d ds is cs);
      }
  stops_by false b bs left e h =
      let p = two.stops (b ∷ bs) left h in
      record {
        front = p.front;
        rest = p.rest;
        parts = p.parts;
        count = p.count;
        goes_on = (p.goes_on.0, p.goes_on.1, inr p.goes_on.2, p.goes_on.3);
        no_further = λ d ds is cs. along s b (λ xs. at_second b xs e) bs p.front d ds cs (p.parts ∙ ap (λ l. p.front ++ l) is) (p.no_further d ds is cs);
      }

  stops : (text : List ℕ) (left : ℕ) → by_first test r s text ≡ Err left → StopsAt (by_first test r s) (Either First Second) text left
  stops [] left h = stops_empty _ _ left (let e : left ≡ 0 = cc in e) (some.0, some.1, inl some.2, some.3)
  stops (b ∷ bs) left h = stops_by (test b) b bs left refl h

  pub first_exact : Exact (by_first test r s) (Either First Second) follow
  first_exact = record { found = found; all = all; next = next; stops = stops }
