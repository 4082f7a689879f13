-- What may be left out, where its first byte tells.
use Rattle.std.proofs.Common.{◌≡◌, ℕ, ◌==◌, Bool, true, false, cond, List, [], ◌∷◌, ◌++◌, length, Ok, Err, refl, sym, ◌∙◌, ap, arith, subst, inl, inr}
use Rattle.std.proofs.lemmas.Bool.Decides.{nat_tests}
use Rattle.grammar.specs.Exact.{Read, Exact, StopsAt, NextIs}
use Rattle.grammar.specs.Reading.{perhaps, Perhaps}

-- ---- what may be left out

module _ {A : Type 0} (c : ℕ) (none : A) (r : Read A) (Is : A → List ℕ → Type 0) (follow : A → ℕ → Type 0) (after : A → ℕ → Type 0)
    (one : Exact r Is follow)
    (heads : (a : A) (text : List ℕ) → Is a text → (cs : List ℕ) × (text ≡ c ∷ cs))
    (there : (a : A) (text : List ℕ) → Is a text → (b : ℕ) → after a b → follow a b)
    (back : (text : List ℕ) (a : A) (rest : List ℕ) → r text ≡ Ok (a, rest) → (b : ℕ) → follow a b → after a b)
    (left_out : (b : ℕ) → after none b → (b == c) ≡ false)
    (let_go : (b : ℕ) → (b == c) ≡ false → after none b) where
  self : (b : ℕ) → (b == b) ≡ true
  self b = grind (arith, nat_tests)

  same_byte : (b d : ℕ) → (b == d) ≡ true → b ≡ d
  same_byte b d e = grind (arith, nat_tests)

  at_head : (cs : List ℕ) → perhaps c none r (c ∷ cs) ≡ r (c ∷ cs)
  at_head cs = rw (self c) refl

  found_by : (t : Bool) (b : ℕ) (bs : List ℕ) (a : A) (rest : List ℕ) → cond t (r (b ∷ bs)) (Ok (none, b ∷ bs)) ≡ Ok (a, rest) → (front : List ℕ) × (b ∷ bs ≡ front ++ rest) × Perhaps none Is a front
  found_by true b bs a rest h = let p = one.found (b ∷ bs) a rest h in (p.0, p.1, inl p.2)
  found_by false b bs a rest h = let pairs : ◌≡◌ {A = A × List ℕ} (none, b ∷ bs) (a, rest) = cc in ([], ap (λ q. q.1) pairs, inr (sym (ap (λ q. q.0) pairs), refl))

  found : (text : List ℕ) (a : A) (rest : List ℕ) → perhaps c none r text ≡ Ok (a, rest) → (front : List ℕ) × (text ≡ front ++ rest) × Perhaps none Is a front
  found [] a rest h = let pairs : ◌≡◌ {A = A × List ℕ} (none, []) (a, rest) = cc in ([], ap (λ q. q.1) pairs, inr (sym (ap (λ q. q.0) pairs), refl))
  found (b ∷ bs) a rest h = found_by (b == c) b bs a rest h

  back_all : (rest : List ℕ) (a : A) (text : List ℕ) → Is a text → NextIs (after a) rest → NextIs (follow a) rest
  back_all [] a text is h = tt
  back_all (b ∷ bs) a text is h = there a text is b h

  nothing : (rest : List ℕ) → NextIs (after none) rest → perhaps c none r rest ≡ Ok (none, rest)
  nothing [] h = refl
  nothing (b ∷ bs) h = rw (left_out b h) refl

  all : (a : A) (front rest : List ℕ) → Perhaps none Is a front → NextIs (after a) rest → perhaps c none r (front ++ rest) ≡ Ok (a, rest)
  all a front rest (inl i) h =
      let head = heads a front i in
      ap (λ l. perhaps c none r (l ++ rest)) head.1 ∙ at_head (head.0 ++ rest) ∙ ap (λ l. r (l ++ rest)) (sym head.1) ∙ one.all a front rest i (back_all rest a front i h)
  all a front rest (inr i) h =
      ap (λ l. perhaps c none r (l ++ rest)) i.1 ∙ nothing rest (subst (λ (x : A). NextIs (after x) rest) i.0 h) ∙ ap (λ x. Ok (x, rest)) (sym i.0)

  next_by : (t : Bool) (b : ℕ) (bs : List ℕ) (a : A) (d : ℕ) (ds : List ℕ) → (b == c) ≡ t → cond t (r (b ∷ bs)) (Ok (none, b ∷ bs)) ≡ Ok (a, d ∷ ds) → after a d
  next_by true b bs a d ds e h = back (b ∷ bs) a (d ∷ ds) h d (one.next (b ∷ bs) a d ds h)
  next_by false b bs a d ds e h =
      let pairs : ◌≡◌ {A = A × List ℕ} (none, b ∷ bs) (a, d ∷ ds) = cc in
      let lists : b ∷ bs ≡ d ∷ ds = ap (λ q. q.1) pairs in
      let head : b ≡ d = cc in
      subst (λ (x : A). after x d) (ap (λ q. q.0) pairs) (subst (after none) head (let_go b e))

  next : (text : List ℕ) (a : A) (b : ℕ) (bs : List ℕ) → perhaps c none r text ≡ Ok (a, b ∷ bs) → after a b
  next [] a b bs h = let pairs : ◌≡◌ {A = A × List ℕ} (none, []) (a, b ∷ bs) = cc in let lists : [] ≡ b ∷ bs = ap (λ q. q.1) pairs in cc
  next (x ∷ xs) a b bs h = next_by (x == c) x xs a b bs refl h

  -- behind the first byte the two readings are one
  along : (b : ℕ) (bs front : List ℕ) (d : ℕ) (ds cs : List ℕ) → (b == c) ≡ true → b ∷ bs ≡ front ++ d ∷ ds → r (front ++ d ∷ cs) ≡ Err (length (d ∷ cs)) → perhaps c none r (front ++ d ∷ cs) ≡ Err (length (d ∷ cs))
  along b bs [] d ds cs e p h = let head : b ≡ d = cc in subst (λ (x : ℕ). r (x ∷ cs) ≡ Err (length (x ∷ cs)) → perhaps c none r (x ∷ cs) ≡ Err (length (x ∷ cs))) head (λ k. rw e k) h
  along b bs (f ∷ fs) d ds cs e p h = let head : b ≡ f = cc in subst (λ (x : ℕ). r (x ∷ (fs ++ d ∷ cs)) ≡ Err (length (d ∷ cs)) → perhaps c none r (x ∷ (fs ++ d ∷ cs)) ≡ Err (length (d ∷ cs))) head (λ k. rw e k) h

  stops_by : (t : Bool) (b : ℕ) (bs : List ℕ) (left : ℕ) → (b == c) ≡ t → cond t (r (b ∷ bs)) (Ok (none, b ∷ bs)) ≡ Err left → StopsAt (perhaps c none r) (Perhaps none Is) (b ∷ bs) left
  stops_by true b bs left e h =
      let s = one.stops (b ∷ bs) left h in
      record {
        front = s.front;
        rest = s.rest;
        parts = s.parts;
        count = s.count;
        goes_on = (s.goes_on.0, s.goes_on.1, inl s.goes_on.2, s.goes_on.3);
        no_further = λ d ds is cs. along b bs s.front d ds cs e (s.parts ∙ ap (λ l. s.front ++ l) is) (s.no_further d ds is cs);
      }
  stops_by false b bs left e h = cc

  stops : (text : List ℕ) (left : ℕ) → perhaps c none r text ≡ Err left → StopsAt (perhaps c none r) (Perhaps none Is) text left
  stops [] left h = cc
  stops (b ∷ bs) left h = stops_by (b == c) b bs left refl h

  pub perhaps_exact : Exact (perhaps c none r) (Perhaps none Is) after
  perhaps_exact = record { found = found; all = all; next = next; stops = stops }
