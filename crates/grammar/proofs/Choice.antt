-- Two exact readings of which neither reads what the other reads: both tried are an exact reading.
use Rattle.std.proofs.Common.{◌≡◌, ℕ, ◌+◌, ◌≤◌, Bool, true, false, List, [], ◌∷◌, ◌++◌, length, Result, Ok, Err, refl, sym, ◌∙◌, ap, arith, append_assoc, length-append, inl, inr}
use Rattle.std.specs.Prelude.{min, nat_le}
use Rattle.std.proofs.lemmas.Bool.Decides.{nat_tests}
use Rattle.grammar.specs.Exact.{Read, Exact, StopsAt, NextIs}
use Rattle.grammar.specs.Reading.{or_else, further_stop, either, Either}

min_first : (m n : ℕ) → m ≤ n → min m n ≡ m
min_first m n h = grind (arith, nat_tests)

min_second : (m n : ℕ) → n ≤ m → min m n ≡ n
min_second m n h = grind (arith, nat_tests)

-- of two fronts of one text the longer begins with the shorter
split_front : (xs ys ps qs : List ℕ) → xs ++ ps ≡ ys ++ qs → length ps ≤ length qs → (more : List ℕ) × (xs ≡ ys ++ more) × (qs ≡ more ++ ps)
split_front xs [] ps qs e h = (xs, refl, sym e)
split_front [] (y ∷ ys) ps qs e h =
    let l : length ps ≡ length (y ∷ ys) + length qs = ap length e ∙ length-append (y ∷ ys) qs in
    absurd (omega arith)
split_front (x ∷ xs) (y ∷ ys) ps qs e h =
    let head : x ≡ y = cc in
    let tail : xs ++ ps ≡ ys ++ qs = cc in
    let p = split_front xs ys ps qs tail h in
    (p.0, ap (λ z. z ∷ xs) head ∙ ap (λ l. y ∷ l) p.1, p.2)

module _ {A : Type 0} (r s : Read A) (First Second : A → List ℕ → Type 0) (follow : A → ℕ → Type 0)
    (one : Exact r First follow) (two : Exact s Second follow)
    (others : (a : A) (text rest : List ℕ) → Second a text → NextIs (follow a) rest → (n : ℕ) × (r (text ++ rest) ≡ Err n)) where
  found_by : (x y : Result (A × List ℕ) ℕ) (text : List ℕ) (a : A) (rest : List ℕ) → r text ≡ x → s text ≡ y → or_else x y ≡ Ok (a, rest) → (front : List ℕ) × (text ≡ front ++ rest) × Either First Second a front
  found_by (Ok x) y text a rest e g h = let p = one.found text a rest (e ∙ h) in (p.0, p.1, inl p.2)
  found_by (Err n) (Ok y) text a rest e g h = let p = two.found text a rest (g ∙ h) in (p.0, p.1, inr p.2)
  found_by (Err n) (Err m) text a rest e g h = cc

  all : (a : A) (front rest : List ℕ) → Either First Second a front → NextIs (follow a) rest → either r s (front ++ rest) ≡ Ok (a, rest)
  all a front rest (inl i) h = ap (λ x. or_else x (s (front ++ rest))) (one.all a front rest i h)
  all a front rest (inr i) h =
      let o = others a front rest i h in
      ap (λ x. or_else x (s (front ++ rest))) o.1 ∙ ap (further_stop o.0) (two.all a front rest i h)

  next_by : (x y : Result (A × List ℕ) ℕ) (text : List ℕ) (a : A) (b : ℕ) (bs : List ℕ) → r text ≡ x → s text ≡ y → or_else x y ≡ Ok (a, b ∷ bs) → follow a b
  next_by (Ok x) y text a b bs e g h = one.next text a b bs (e ∙ h)
  next_by (Err n) (Ok y) text a b bs e g h = two.next text a b bs (g ∙ h)
  next_by (Err n) (Err m) text a b bs e g h = cc

  -- a reading that stopped before is refused at the same place, whatever stands further on
  earlier : (t : Read A) (Is : A → List ℕ → Type 0) (text : List ℕ) (n : ℕ) (p : StopsAt t Is text n) (front rest : List ℕ) → text ≡ front ++ rest → length rest ≤ n
      → (b : ℕ) (bs : List ℕ) → rest ≡ b ∷ bs → (cs : List ℕ) → (m : ℕ) × (t (front ++ b ∷ cs) ≡ Err m) × (length (b ∷ cs) ≤ m)
  earlier t Is text n p front rest e h b bs is cs = by q.0 q.1 q.2
    where
      q : (more : List ℕ) × (front ≡ p.front ++ more) × (p.rest ≡ more ++ rest)
      q = split_front front p.front rest p.rest (sym e ∙ p.parts) (let c = p.count in omega arith)

      by : (more : List ℕ) → front ≡ p.front ++ more → p.rest ≡ more ++ rest → (m : ℕ) × (t (front ++ b ∷ cs) ≡ Err m) × (length (b ∷ cs) ≤ m)
      by [] f g = (length (b ∷ cs), ap (λ l. t (l ++ b ∷ cs)) f ∙ ap t (append_assoc p.front [] (b ∷ cs)) ∙ p.no_further b bs (g ∙ is) cs, omega arith)
      by (d ∷ ds) f g = (
        length (d ∷ (ds ++ b ∷ cs)),
        ap (λ l. t (l ++ b ∷ cs)) f ∙ ap t (append_assoc p.front (d ∷ ds) (b ∷ cs)) ∙ p.no_further d (ds ++ rest) g (ds ++ b ∷ cs),
        (let l = length-append ds (b ∷ cs) in omega arith),
      )

  stops_both : (c : Bool) (text : List ℕ) (n m left : ℕ) → r text ≡ Err n → s text ≡ Err m → nat_le n m ≡ c → left ≡ min n m → StopsAt (either r s) (Either First Second) text left
  stops_both true text n m left e g t h =
      let le : n ≤ m = grind (arith, nat_tests) in
      let p = one.stops text n e in
      let q = two.stops text m g in
      record {
        front = p.front;
        rest = p.rest;
        parts = p.parts;
        count = h ∙ min_first n m le ∙ p.count;
        goes_on = (p.goes_on.0, p.goes_on.1, inl p.goes_on.2, p.goes_on.3);
        no_further = λ b bs is cs.
            let other = earlier s Second text m q p.front p.rest p.parts (let k = p.count in omega arith) b bs is cs in
            ap (λ x. or_else x (s (p.front ++ b ∷ cs))) (p.no_further b bs is cs) ∙ ap (further_stop (length (b ∷ cs))) other.1 ∙ ap Err (min_first (length (b ∷ cs)) other.0 other.2);
      }
  stops_both false text n m left e g t h =
      let le : m ≤ n = grind (arith, nat_tests) in
      let p = one.stops text n e in
      let q = two.stops text m g in
      record {
        front = q.front;
        rest = q.rest;
        parts = q.parts;
        count = h ∙ min_second n m le ∙ q.count;
        goes_on = (q.goes_on.0, q.goes_on.1, inr q.goes_on.2, q.goes_on.3);
        no_further = λ b bs is cs.
            let other = earlier r First text n p q.front q.rest q.parts (let k = q.count in omega arith) b bs is cs in
            ap (λ x. or_else x (s (q.front ++ b ∷ cs))) other.1 ∙ ap (further_stop other.0) (q.no_further b bs is cs) ∙ ap Err (min_second other.0 (length (b ∷ cs)) other.2);
      }

  stops_by : (x y : Result (A × List ℕ) ℕ) (text : List ℕ) (left : ℕ) → r text ≡ x → s text ≡ y → or_else x y ≡ Err left → StopsAt (either r s) (Either First Second) text left
  stops_by (Ok x) y text left e g h = cc
  stops_by (Err n) (Ok y) text left e g h = cc
  stops_by (Err n) (Err m) text left e g h = stops_both (nat_le n m) text n m left e g refl (let k : min n m ≡ left = cc in sym k)

  pub either_exact : Exact (either r s) (Either First Second) follow
  either_exact = record {
    found = λ text a rest h. found_by (r text) (s text) text a rest refl refl h;
    all = all;
    next = λ text a b bs h. next_by (r text) (s text) text a b bs refl refl h;
    stops = λ text left h. stops_by (r text) (s text) text left refl refl h;
  }
