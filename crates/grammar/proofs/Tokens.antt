-- Tokens are read exactly.
use Rattle.std.proofs.Common.{◌≡◌, ℕ, zero, suc, ◌+◌, ◌==◌, Bool, true, false, cond, List, [], ◌∷◌, ◌++◌, length, Result, Ok, Err, refl, sym, ◌∙◌, ap, arith, subst, add-one}
use Rattle.std.specs.Prelude.{⊤, replicate, ◌&&◌}
use Rattle.std.proofs.lemmas.Bool.Decides.{nat_tests}
use Rattle.grammar.specs.Exact.{Exact, StopsAt, NextIs}
use Rattle.key_types.specs.Kinds.{AreBytes}
use Rattle.grammar.specs.Reading.{given_at, IsGiven, without_spaces, is_letter, gap_at, IsGap, AfterGap, ends, IsEnd, token, IsToken}
use Rattle.grammar.proofs.Bind.{bind_exact}
use Rattle.grammar.proofs.Front.{stops_first, stops_empty}

pub same_byte : (b c : ℕ) → (b == c) ≡ true → b ≡ c
same_byte b c e = grind (arith, nat_tests)

pub self : (b : ℕ) → (b == b) ≡ true
self b = grind (arith, nat_tests)

-- ---- given bytes

abbrev FoundLiteral : List ℕ → List ℕ → Type 0
FoundLiteral w bs = (a : ⊤) (rest : List ℕ) → given_at w bs ≡ Ok (a, rest) → bs ≡ w ++ rest

literal_by : (t : Bool) (c b : ℕ) (cs bs : List ℕ) (a : ⊤) (rest : List ℕ) → (b == c) ≡ t → cond {A = Result (⊤ × List ℕ) ℕ} t (given_at cs bs) (Err (length bs + 1)) ≡ Ok (a, rest) → FoundLiteral cs bs → b ∷ bs ≡ c ∷ (cs ++ rest)
literal_by true c b cs bs a rest e h f = ap (λ x. x ∷ bs) (same_byte b c e) ∙ ap (λ l. c ∷ l) (f a rest h)
literal_by false c b cs bs a rest e h f = cc

found_literal : (w bs : List ℕ) → FoundLiteral w bs
found_literal [] bs a rest h = let pairs : ◌≡◌ {A = ⊤ × List ℕ} (tt, bs) (a, rest) = cc in ap (λ q. q.1) pairs
found_literal (c ∷ cs) [] a rest h = cc
found_literal (c ∷ cs) (b ∷ bs) a rest h = literal_by (b == c) c b cs bs a rest refl h (found_literal cs bs)

all_literal : (w rest : List ℕ) → given_at w (w ++ rest) ≡ Ok (tt, rest)
all_literal [] rest = refl
all_literal (c ∷ cs) rest = rw (self c) (all_literal cs rest)

abbrev StopsLiteral : List ℕ → List ℕ → Type 0
StopsLiteral w bs = (left : ℕ) → given_at w bs ≡ Err left → StopsAt (given_at w) (IsGiven w) bs left

stops_by : (t : Bool) (c b : ℕ) (cs bs : List ℕ) (left : ℕ) → AreBytes (c ∷ cs) → (b == c) ≡ t → cond {A = Result (⊤ × List ℕ) ℕ} t (given_at cs bs) (Err (length bs + 1)) ≡ Err left → StopsLiteral cs bs → StopsAt (given_at (c ∷ cs)) (IsGiven (c ∷ cs)) (b ∷ bs) left
stops_by true c b cs bs left w e h s =
    let p = s left h in
    record {
      front = b ∷ p.front;
      rest = p.rest;
      parts = ap (λ l. b ∷ l) p.parts;
      count = p.count;
      goes_on = (p.goes_on.0, tt, ap (λ x. x ∷ (p.front ++ p.goes_on.0)) (same_byte b c e) ∙ ap (λ l. c ∷ l) p.goes_on.2, p.goes_on.3);
      no_further = λ d ds is xs. rw e (p.no_further d ds is xs);
    }
stops_by false c b cs bs left w e h s =
    let k : left ≡ length bs + 1 = cc in
    stops_first (given_at (c ∷ cs)) _ b bs left (k ∙ add-one (length bs)) (c ∷ cs, tt, refl, w) (λ xs. (rw (e, add-one) refl))

stops_literal : (w bs : List ℕ) → AreBytes w → StopsLiteral w bs
stops_literal [] bs w left h = cc
stops_literal (c ∷ cs) [] w left h = stops_empty _ _ left (let e : left ≡ 0 = cc in e) (c ∷ cs, tt, refl, w)
stops_literal (c ∷ cs) (b ∷ bs) w left h = stops_by (b == c) c b cs bs left w refl h (stops_literal cs bs w.1)

pub literal_exact : (w : List ℕ) → AreBytes w → Exact (given_at w) (IsGiven w) (λ _ _. ⊤)
literal_exact w h = record {
  found = λ text a rest e. (w, found_literal w text a rest e, refl);
  all = λ a front rest is k. ap (λ l. given_at w (l ++ rest)) is ∙ all_literal w rest;
  next = λ text a b bs e. tt;
  stops = λ text left e. stops_literal w text h left e;
}

-- ---- spaces

pub skipped : (bs : List ℕ) → (n : ℕ) × (bs ≡ replicate n 32 ++ without_spaces bs)
skipped [] = (0, refl)
skipped (b ∷ bs) = by (b == 32) refl (skipped bs)
  where
    by : (t : Bool) → (b == 32) ≡ t → (n : ℕ) × (bs ≡ replicate n 32 ++ without_spaces bs) → (n : ℕ) × (b ∷ bs ≡ replicate n 32 ++ cond t (without_spaces bs) (b ∷ bs))
    by true e p = (suc p.0, ap (λ x. x ∷ bs) (same_byte b 32 e) ∙ ap (λ l. 32 ∷ l) p.1)
    by false e p = (0, refl)

pub no_space_left : (bs : List ℕ) (b : ℕ) (cs : List ℕ) → without_spaces bs ≡ b ∷ cs → (b == 32) ≡ false
no_space_left [] b cs h = cc
no_space_left (x ∷ xs) b cs h = by (x == 32) refl h (no_space_left xs b cs)
  where
    by : (t : Bool) → (x == 32) ≡ t → cond t (without_spaces xs) (x ∷ xs) ≡ b ∷ cs → (without_spaces xs ≡ b ∷ cs → (b == 32) ≡ false) → (b == 32) ≡ false
    by true e h f = f h
    by false e h f = let same : x ≡ b = cc in subst (λ (y : ℕ). (y == 32) ≡ false) same e

pub stays : (rest : List ℕ) → NextIs (λ b. (b == 32) ≡ false) rest → without_spaces rest ≡ rest
stays [] h = refl
stays (b ∷ bs) h = rw h refl

pub skips : (n : ℕ) (rest : List ℕ) → NextIs (λ b. (b == 32) ≡ false) rest → without_spaces (replicate n 32 ++ rest) ≡ rest
skips zero rest h = stays rest h
skips (suc n) rest h = skips n rest h

abbrev GotGap : Type 0
GotGap = Result (Bool × List ℕ) ℕ

found_gap_by : (t u : Bool) (b : ℕ) (bs : List ℕ) (a : Bool) (rest : List ℕ) → (b == 32) ≡ t → cond {A = GotGap} t (Ok (true, without_spaces bs)) (cond u (Err (length bs + 1)) (Ok (false, b ∷ bs))) ≡ Ok (a, rest)
    → (front : List ℕ) × (b ∷ bs ≡ front ++ rest) × IsGap a front
found_gap_by true u b bs a rest e h =
    let pairs : ◌≡◌ {A = Bool × List ℕ} (true, without_spaces bs) (a, rest) = cc in
    let p = skipped bs in
    (32 ∷ replicate p.0 32, ap (λ x. x ∷ bs) (same_byte b 32 e) ∙ ap (λ l. 32 ∷ l) p.1 ∙ ap (λ q. 32 ∷ (replicate p.0 32 ++ q.1)) pairs, subst (λ (x : Bool). IsGap x (32 ∷ replicate p.0 32)) (ap (λ q. q.0) pairs) (p.0, refl))
found_gap_by false true b bs a rest e h = cc
found_gap_by false false b bs a rest e h =
    let pairs : ◌≡◌ {A = Bool × List ℕ} (false, b ∷ bs) (a, rest) = cc in
    ([], ap (λ q. q.1) pairs, subst (λ (x : Bool). IsGap x []) (ap (λ q. q.0) pairs) refl)

found_gap : (word : Bool) (bs : List ℕ) (a : Bool) (rest : List ℕ) → gap_at word bs ≡ Ok (a, rest) → (front : List ℕ) × (bs ≡ front ++ rest) × IsGap a front
found_gap word [] a rest h = let pairs : ◌≡◌ {A = Bool × List ℕ} (false, []) (a, rest) = cc in ([], ap (λ q. q.1) pairs, subst (λ (x : Bool). IsGap x []) (ap (λ q. q.0) pairs) refl)
found_gap word (b ∷ bs) a rest h = found_gap_by (b == 32) (word && is_letter b) b bs a rest refl h

next_gap_by : (word t u : Bool) (b : ℕ) (bs : List ℕ) (a : Bool) (c : ℕ) (cs : List ℕ) → (b == 32) ≡ t → (word && is_letter b) ≡ u → cond {A = GotGap} t (Ok (true, without_spaces bs)) (cond u (Err (length bs + 1)) (Ok (false, b ∷ bs))) ≡ Ok (a, c ∷ cs) → AfterGap word a c
next_gap_by word true u b bs a c cs e g h =
    let pairs : ◌≡◌ {A = Bool × List ℕ} (true, without_spaces bs) (a, c ∷ cs) = cc in
    subst (λ (x : Bool). AfterGap word x c) (ap (λ q. q.0) pairs) (no_space_left bs c cs (ap (λ q. q.1) pairs))
next_gap_by word false true b bs a c cs e g h = cc
next_gap_by word false false b bs a c cs e g h =
    let pairs : ◌≡◌ {A = Bool × List ℕ} (false, b ∷ bs) (a, c ∷ cs) = cc in
    let lists : b ∷ bs ≡ c ∷ cs = ap (λ q. q.1) pairs in
    let same : b ≡ c = cc in
    subst (λ (x : Bool). AfterGap word x c) (ap (λ q. q.0) pairs) (subst (λ (x : ℕ). AfterGap word false x) same (e, g))

next_gap : (word : Bool) (bs : List ℕ) (a : Bool) (c : ℕ) (cs : List ℕ) → gap_at word bs ≡ Ok (a, c ∷ cs) → AfterGap word a c
next_gap word [] a c cs h = let pairs : ◌≡◌ {A = Bool × List ℕ} (false, []) (a, c ∷ cs) = cc in let lists : [] ≡ c ∷ cs = ap (λ q. q.1) pairs in cc
next_gap word (b ∷ bs) a c cs h = next_gap_by word (b == 32) (word && is_letter b) b bs a c cs refl refl h

no_gap : (word : Bool) (rest : List ℕ) → NextIs (AfterGap word false) rest → gap_at word rest ≡ Ok (false, rest)
no_gap word [] h = refl
no_gap word (b ∷ bs) h = rw (h.0, h.1) refl

all_gap : (word a : Bool) (front rest : List ℕ) → IsGap a front → NextIs (AfterGap word a) rest → gap_at word (front ++ rest) ≡ Ok (a, rest)
all_gap word false front rest is h = ap (λ l. gap_at word (l ++ rest)) is ∙ no_gap word rest h
all_gap word true front rest is h = ap (λ l. gap_at word (l ++ rest)) is.1 ∙ ap (λ l. Ok (true, l)) (skips is.0 rest (spaces_end rest h))
  where
    spaces_end : (rest : List ℕ) → NextIs (AfterGap word true) rest → NextIs (λ b. (b == 32) ≡ false) rest
    spaces_end [] h = tt
    spaces_end (b ∷ bs) h = h

stops_gap_by : (word t u : Bool) (b : ℕ) (bs : List ℕ) (left : ℕ) → (b == 32) ≡ t → (word && is_letter b) ≡ u → cond {A = GotGap} t (Ok (true, without_spaces bs)) (cond u (Err (length bs + 1)) (Ok (false, b ∷ bs))) ≡ Err left → StopsAt (gap_at word) IsGap (b ∷ bs) left
stops_gap_by word true u b bs left e g h = cc
stops_gap_by word false false b bs left e g h = cc
stops_gap_by word false true b bs left e g h =
    let k : left ≡ length bs + 1 = cc in
    stops_first (gap_at word) _ b bs left (k ∙ add-one (length bs)) ([], false, refl, tt) (λ xs. (rw (e, g, add-one) refl))

stops_gap : (word : Bool) (bs : List ℕ) (left : ℕ) → gap_at word bs ≡ Err left → StopsAt (gap_at word) IsGap bs left
stops_gap word [] left h = cc
stops_gap word (b ∷ bs) left h = stops_gap_by word (b == 32) (word && is_letter b) b bs left refl refl h

pub gap_exact : (word : Bool) → Exact (gap_at word) IsGap (AfterGap word)
gap_exact word = record { found = found_gap word; all = all_gap word; next = next_gap word; stops = stops_gap word }

pub any_rest : (rest : List ℕ) → NextIs (λ _. ⊤) rest
any_rest [] = tt
any_rest (b ∷ bs) = tt

pub token_exact : (word : Bool) (w : List ℕ) → AreBytes w → Exact (token word w) (IsToken w) (AfterGap word)
token_exact word w h = bind_exact (given_at w) (λ _. gap_at word) (IsGiven w) (λ _. IsGap) (λ _ _. ⊤) (AfterGap word) (literal_exact w h) (λ _. gap_exact word) (λ _. (false, [], refl, tt)) (λ a b text rest is k. any_rest (text ++ rest))

pub token_heads : (w : List ℕ) (s : Bool) (text : List ℕ) → IsToken w s text → (more : List ℕ) × (text ≡ w ++ more)
token_heads w s text is = (is.2, is.5 ∙ ap (λ l. l ++ is.2) is.3)

-- ---- nothing, before no bad byte

module _ {A : Type 0} (bad : ℕ → Bool) (a : A) where
  abbrev GotEnd : Type 0
  GotEnd = Result (A × List ℕ) ℕ

  end_by : (t : Bool) (b : ℕ) (bs : List ℕ) (x : A) (rest : List ℕ) → cond {A = GotEnd} t (Err (length bs + 1)) (Ok (a, b ∷ bs)) ≡ Ok (x, rest) → (t ≡ false) × (x ≡ a) × (b ∷ bs ≡ rest)
  end_by true b bs x rest h = cc
  end_by false b bs x rest h = let pairs : ◌≡◌ {A = A × List ℕ} (a, b ∷ bs) (x, rest) = cc in (refl, sym (ap (λ q. q.0) pairs), ap (λ q. q.1) pairs)

  found_end : (text : List ℕ) (x : A) (rest : List ℕ) → ends bad a text ≡ Ok (x, rest) → (front : List ℕ) × (text ≡ front ++ rest) × IsEnd a x front
  found_end [] x rest h = let pairs : ◌≡◌ {A = A × List ℕ} (a, []) (x, rest) = cc in ([], ap (λ q. q.1) pairs, (sym (ap (λ q. q.0) pairs), refl))
  found_end (b ∷ bs) x rest h = let p = end_by (bad b) b bs x rest h in ([], p.2, (p.1, refl))

  here : (rest : List ℕ) → NextIs (λ b. bad b ≡ false) rest → ends bad a rest ≡ Ok (a, rest)
  here [] h = refl
  here (b ∷ bs) h = rw h refl

  next_end : (text : List ℕ) (x : A) (c : ℕ) (cs : List ℕ) → ends bad a text ≡ Ok (x, c ∷ cs) → bad c ≡ false
  next_end [] x c cs h = let pairs : ◌≡◌ {A = A × List ℕ} (a, []) (x, c ∷ cs) = cc in let lists : [] ≡ c ∷ cs = ap (λ q. q.1) pairs in cc
  next_end (b ∷ bs) x c cs h = let p = end_by (bad b) b bs x (c ∷ cs) h in let q : b ∷ bs ≡ c ∷ cs = p.2 in let same : b ≡ c = cc in subst (λ (y : ℕ). bad y ≡ false) same p.0

  stops_end_by : (t : Bool) (b : ℕ) (bs : List ℕ) (left : ℕ) → bad b ≡ t → cond {A = GotEnd} t (Err (length bs + 1)) (Ok (a, b ∷ bs)) ≡ Err left → StopsAt (ends bad a) (IsEnd a) (b ∷ bs) left
  stops_end_by false b bs left e h = cc
  stops_end_by true b bs left e h =
      let k : left ≡ length bs + 1 = cc in
      stops_first (ends bad a) _ b bs left (k ∙ add-one (length bs)) ([], a, (refl, refl), tt) (λ xs. (rw (e, add-one) refl))

  stops_end : (bs : List ℕ) (left : ℕ) → ends bad a bs ≡ Err left → StopsAt (ends bad a) (IsEnd a) bs left
  stops_end [] left h = cc
  stops_end (b ∷ bs) left h = stops_end_by (bad b) b bs left refl h

  pub ends_exact : Exact (ends bad a) (IsEnd a) (λ _ b. bad b ≡ false)
  ends_exact = record {
    found = found_end;
    all = λ x front rest is h. ap (λ l. ends bad a (l ++ rest)) is.1 ∙ here rest h ∙ ap (λ y. Ok (y, rest)) (sym is.0);
    next = next_end;
    stops = stops_end;
  }
