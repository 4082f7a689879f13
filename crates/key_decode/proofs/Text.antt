-- Texts are read exactly.
use Rattle.std.proofs.Common.{◌≡◌, ℕ, zero, suc, ◌==◌, ◌+◌, Bool, true, false, cond, List, [], ◌∷◌, ◌++◌, length, Result, Ok, Err, arith, refl, sym, ◌∙◌, ap, subst, add-one}
use Rattle.std.proofs.lemmas.Bool.Decides.{nat_tests}
use Rattle.byte_comparable.specs.Encoding.{escaped}
use Rattle.byte_comparable.proofs.Zeros.{plain, behind_zero, escaped_plain}
use Rattle.grammar.specs.Exact.{Exact, StopsAt, NextIs}
use Rattle.key_decode.specs.Reading.{text_at, after_zero, after_run, EndsText}
use Rattle.grammar.specs.Reading.{onto}
use Rattle.grammar.proofs.Front.{stops_first, stops_empty}

-- the bytes of a text
abbrev pub IsText : List ℕ → List ℕ → Type 0
IsText a bs = bs ≡ escaped a

same_byte : (b c : ℕ) → (b == c) ≡ true → b ≡ c
same_byte b c e = grind (arith, nat_tests)

positive : (b : ℕ) → (suc b == 0) ≡ false
positive b = grind (arith, nat_tests)

not_zero : (b : ℕ) → (b == 0) ≡ false → (c : ℕ) × (b ≡ suc c)
not_zero zero e = let no : true ≡ false = e in cc
not_zero (suc b) e = (b, refl)

-- ---- the three readings, and what they read

abbrev Plain : List ℕ → List ℕ → Type 0
Plain a bs = bs ≡ plain a

abbrev Behind : List ℕ → List ℕ → Type 0
Behind a bs = 0 ∷ bs ≡ plain a

abbrev After : List ℕ → List ℕ → Type 0
After a bs = (bs ≡ plain a) × (0xFF ∷ bs ≡ behind_zero a)

-- a zero in front
zero_front : (a bs rest : List ℕ) → 0 ∷ bs ≡ plain a ++ rest → 0xFE ∷ bs ≡ behind_zero a ++ rest
zero_front [] bs rest h = let e : bs ≡ rest = cc in ap (λ l. 0xFE ∷ l) e
zero_front (zero ∷ a) bs rest h = let e : bs ≡ behind_zero a ++ rest = cc in ap (λ l. 0xFE ∷ l) e
zero_front (suc x ∷ a) bs rest h = let e : 0 ≡ suc x = cc in absurd (omega arith)

split_onto : (b : ℕ) (got : Result (List ℕ × List ℕ) ℕ) (a rest : List ℕ) → onto b got ≡ Ok (a, rest) → (a1 : List ℕ) × (got ≡ Ok (a1, rest)) × (a ≡ b ∷ a1)
split_onto b (Ok x) a rest h =
    let pairs : ◌≡◌ {A = List ℕ × List ℕ} (b ∷ x.0, x.1) (a, rest) = cc in
    (x.0, ap (λ r. Ok (x.0, r)) (ap (λ q. q.1) pairs), sym (ap (λ q. q.0) pairs))
split_onto b (Err e) a rest h = cc

err_onto : (b : ℕ) (got : Result (List ℕ × List ℕ) ℕ) (left : ℕ) → onto b got ≡ Err left → got ≡ Err left
err_onto b (Ok x) left h = cc
err_onto b (Err e) left h = cc

-- ---- found

abbrev FoundText : List ℕ → Type 0
FoundText bs = (a rest : List ℕ) → text_at bs ≡ Ok (a, rest) → bs ≡ plain a ++ rest

abbrev FoundBehind : List ℕ → Type 0
FoundBehind bs = (a rest : List ℕ) → after_zero bs ≡ Ok (a, rest) → 0 ∷ bs ≡ plain a ++ rest

abbrev FoundAfter : List ℕ → Type 0
FoundAfter bs = (a rest : List ℕ) → after_run bs ≡ Ok (a, rest) → (bs ≡ plain a ++ rest) × (0xFF ∷ bs ≡ behind_zero a ++ rest)

one_byte : (b : ℕ) (bs a rest : List ℕ) → (b == 0) ≡ false → bs ≡ plain a ++ rest → (b ∷ bs ≡ plain (b ∷ a) ++ rest) × (0xFF ∷ b ∷ bs ≡ behind_zero (b ∷ a) ++ rest)
one_byte zero bs a rest e h = let no : true ≡ false = e in cc
one_byte (suc b) bs a rest e h = (ap (λ l. suc b ∷ l) h, ap (λ l. 0xFF ∷ suc b ∷ l) h)

text_by : (t : Bool) (b : ℕ) (bs a rest : List ℕ) → (b == 0) ≡ t → cond t (after_zero bs) (onto b (text_at bs)) ≡ Ok (a, rest) → FoundText bs → FoundBehind bs → b ∷ bs ≡ plain a ++ rest
text_by true b bs a rest e h f g = ap (λ x. x ∷ bs) (same_byte b 0 e) ∙ g a rest h
text_by false b bs a rest e h f g =
    let p = split_onto b (text_at bs) a rest h in
    (one_byte b bs p.0 rest e (f p.0 rest p.1)).0 ∙ ap (λ l. plain l ++ rest) (sym p.2)

after_by : (t : Bool) (b : ℕ) (bs a rest : List ℕ) → (b == 0) ≡ t → cond {A = Result (List ℕ × List ℕ) ℕ} t (Err (length bs + 1)) (onto b (text_at bs)) ≡ Ok (a, rest) → FoundText bs
    → (b ∷ bs ≡ plain a ++ rest) × (0xFF ∷ b ∷ bs ≡ behind_zero a ++ rest)
after_by true b bs a rest e h f = cc
after_by false b bs a rest e h f =
    let p = split_onto b (text_at bs) a rest h in
    let both = one_byte b bs p.0 rest e (f p.0 rest p.1) in
    (both.0 ∙ ap (λ l. plain l ++ rest) (sym p.2), both.1 ∙ ap (λ l. behind_zero l ++ rest) (sym p.2))

ended : (b : ℕ) (bs a rest : List ℕ) → ◌≡◌ {A = Result (List ℕ × List ℕ) ℕ} (Ok ([], b ∷ bs)) (Ok (a, rest)) → 0 ∷ b ∷ bs ≡ plain a ++ rest
ended b bs a rest h =
    let pairs : ◌≡◌ {A = List ℕ × List ℕ} ([], b ∷ bs) (a, rest) = cc in
    ap (λ q. plain q.0 ++ q.1) pairs

behind_by : (t u : Bool) (b : ℕ) (bs a rest : List ℕ) → (b == 0xFE) ≡ t → (b == 0xFF) ≡ u
    → cond t (onto 0 (after_zero bs)) (cond u (onto 0 (after_run bs)) (Ok ([], b ∷ bs))) ≡ Ok (a, rest) → FoundBehind bs → FoundAfter bs → 0 ∷ b ∷ bs ≡ plain a ++ rest
behind_by true u b bs a rest e g h f k =
    let p = split_onto 0 (after_zero bs) a rest h in
    ap (λ x. 0 ∷ x ∷ bs) (same_byte b 0xFE e) ∙ ap (λ l. 0 ∷ l) (zero_front p.0 bs rest (f p.0 rest p.1)) ∙ ap (λ l. plain l ++ rest) (sym p.2)
behind_by false true b bs a rest e g h f k =
    let p = split_onto 0 (after_run bs) a rest h in
    ap (λ x. 0 ∷ x ∷ bs) (same_byte b 0xFF g) ∙ ap (λ l. 0 ∷ l) (k p.0 rest p.1).1 ∙ ap (λ l. plain l ++ rest) (sym p.2)
behind_by false false b bs a rest e g h f k = ended b bs a rest h

mutual
  found_text : (bs : List ℕ) → FoundText bs
  found_text [] a rest h = cc
  found_text (b ∷ bs) a rest h = text_by (b == 0) b bs a rest refl h (found_text bs) (found_behind bs)

  found_behind : (bs : List ℕ) → FoundBehind bs
  found_behind [] a rest h = let pairs : ◌≡◌ {A = List ℕ × List ℕ} ([], []) (a, rest) = cc in ap (λ q. plain q.0 ++ q.1) pairs
  found_behind (b ∷ bs) a rest h = behind_by (b == 0xFE) (b == 0xFF) b bs a rest refl refl h (found_behind bs) (found_after bs)

  found_after : (bs : List ℕ) → FoundAfter bs
  found_after [] a rest h = cc
  found_after (b ∷ bs) a rest h = after_by (b == 0) b bs a rest refl h (found_text bs)

-- ---- all

ends_here : (rest : List ℕ) → NextIs EndsText rest → after_zero rest ≡ Ok ([], rest)
ends_here [] h = refl
ends_here (b ∷ bs) h = rw (h.0, h.1) refl

mutual
  all_text : (a rest : List ℕ) → NextIs EndsText rest → text_at (plain a ++ rest) ≡ Ok (a, rest)
  all_text [] rest h = ends_here rest h
  all_text (zero ∷ a) rest h = all_zero a rest h
  all_text (suc b ∷ a) rest h = rw (positive b) (ap (onto (suc b)) (all_text a rest h))

  all_zero : (a rest : List ℕ) → NextIs EndsText rest → after_zero (behind_zero a ++ rest) ≡ Ok (0 ∷ a, rest)
  all_zero [] rest h = ap (onto 0) (ends_here rest h)
  all_zero (zero ∷ a) rest h = ap (onto 0) (all_zero a rest h)
  all_zero (suc b ∷ a) rest h = rw (positive b) (ap (λ r. onto 0 (onto (suc b) r)) (all_text a rest h))

-- ---- next

abbrev NextOf : Result (List ℕ × List ℕ) ℕ → Type 0
NextOf got = (a : List ℕ) (b : ℕ) (bs : List ℕ) → got ≡ Ok (a, b ∷ bs) → EndsText b

next_onto : (x : ℕ) (got : Result (List ℕ × List ℕ) ℕ) → NextOf got → NextOf (onto x got)
next_onto x got n a b bs h = let p = split_onto x got a (b ∷ bs) h in n p.0 b bs p.1

next_text_by : (t : Bool) (b : ℕ) (bs : List ℕ) → NextOf (after_zero bs) → NextOf (text_at bs) → NextOf (cond t (after_zero bs) (onto b (text_at bs)))
next_text_by true b bs n m = n
next_text_by false b bs n m = next_onto b (text_at bs) m

next_after_by : (t : Bool) (b : ℕ) (bs : List ℕ) → NextOf (text_at bs) → NextOf (cond t (Err (length bs + 1)) (onto b (text_at bs)))
next_after_by true b bs m = λ a c cs h. cc
next_after_by false b bs m = next_onto b (text_at bs) m

next_behind_by : (t u : Bool) (b : ℕ) (bs : List ℕ) → (b == 0xFE) ≡ t → (b == 0xFF) ≡ u → NextOf (after_zero bs) → NextOf (after_run bs) → NextOf (cond t (onto 0 (after_zero bs)) (cond u (onto 0 (after_run bs)) (Ok ([], b ∷ bs))))
next_behind_by true u b bs e g n m = next_onto 0 (after_zero bs) n
next_behind_by false true b bs e g n m = next_onto 0 (after_run bs) m
next_behind_by false false b bs e g n m = λ a c cs h.
    let pairs : ◌≡◌ {A = List ℕ × List ℕ} ([], b ∷ bs) (a, c ∷ cs) = cc in
    let lists : b ∷ bs ≡ c ∷ cs = ap (λ q. q.1) pairs in
    let same : b ≡ c = cc in
    subst EndsText same (e, g)

mutual
  next_text : (bs : List ℕ) → NextOf (text_at bs)
  next_text [] = λ a c cs h. cc
  next_text (b ∷ bs) = next_text_by (b == 0) b bs (next_behind bs) (next_text bs)

  next_behind : (bs : List ℕ) → NextOf (after_zero bs)
  next_behind [] = λ a c cs h. let pairs : ◌≡◌ {A = List ℕ × List ℕ} ([], []) (a, c ∷ cs) = cc in let lists : [] ≡ c ∷ cs = ap (λ q. q.1) pairs in cc
  next_behind (b ∷ bs) = next_behind_by (b == 0xFE) (b == 0xFF) b bs refl refl (next_behind bs) (next_after bs)

  next_after : (bs : List ℕ) → NextOf (after_run bs)
  next_after [] = λ a c cs h. cc
  next_after (b ∷ bs) = next_after_by (b == 0) b bs (next_text bs)

-- ---- stops

-- one byte more in front of what stopped
one_more : (read inner : List ℕ → Result (List ℕ × List ℕ) ℕ) (Is Inner : List ℕ → List ℕ → Type 0) (b : ℕ) (bs : List ℕ) (left : ℕ)
    → ((cs : List ℕ) (n : ℕ) → inner cs ≡ Err n → read (b ∷ cs) ≡ Err n) → ((a cs : List ℕ) → Inner a cs → (d : List ℕ) × Is d (b ∷ cs)) → StopsAt inner Inner bs left → StopsAt read Is (b ∷ bs) left
one_more read inner Is Inner b bs left steps is s =
    let whole = is s.goes_on.1 (s.front ++ s.goes_on.0) s.goes_on.2 in
    record {
      front = b ∷ s.front;
      rest = s.rest;
      parts = ap (λ l. b ∷ l) s.parts;
      count = s.count;
      goes_on = (s.goes_on.0, whole.0, whole.1, s.goes_on.3);
      no_further = λ c cs e ds. steps (s.front ++ c ∷ ds) (length (c ∷ ds)) (s.no_further c cs e ds);
    }

abbrev StopsText : List ℕ → Type 0
StopsText bs = (left : ℕ) → text_at bs ≡ Err left → StopsAt text_at Plain bs left

abbrev StopsBehind : List ℕ → Type 0
StopsBehind bs = (left : ℕ) → after_zero bs ≡ Err left → StopsAt after_zero Behind bs left

abbrev StopsAfter : List ℕ → Type 0
StopsAfter bs = (left : ℕ) → after_run bs ≡ Err left → StopsAt after_run After bs left

plain_more : (b : ℕ) (a cs : List ℕ) → (b == 0) ≡ false → cs ≡ plain a → (b ∷ cs ≡ plain (b ∷ a)) × (0xFF ∷ b ∷ cs ≡ behind_zero (b ∷ a))
plain_more zero a cs e h = let no : true ≡ false = e in cc
plain_more (suc b) a cs e h = (ap (λ l. suc b ∷ l) h, ap (λ l. 0xFF ∷ suc b ∷ l) h)

zero_more : (a cs : List ℕ) → 0 ∷ cs ≡ plain a → 0xFE ∷ cs ≡ behind_zero a
zero_more [] cs h = let e : cs ≡ [] = cc in ap (λ l. 0xFE ∷ l) e
zero_more (zero ∷ a) cs h = let e : cs ≡ behind_zero a = cc in ap (λ l. 0xFE ∷ l) e
zero_more (suc x ∷ a) cs h = let e : 0 ≡ suc x = cc in absurd (omega arith)

stops_text_by : (t : Bool) (b : ℕ) (bs : List ℕ) (left : ℕ) → (b == 0) ≡ t → cond t (after_zero bs) (onto b (text_at bs)) ≡ Err left → StopsText bs → StopsBehind bs → StopsAt text_at Plain (b ∷ bs) left
stops_text_by true b bs left e h s t = one_more text_at after_zero Plain Behind b bs left (λ cs n k. rw e k) (λ a cs is. (a, ap (λ x. x ∷ cs) (same_byte b 0 e) ∙ is)) (t left h)
stops_text_by false b bs left e h s t = one_more text_at text_at Plain Plain b bs left (λ cs n k. rw e (ap (onto b) k)) (λ a cs is. (b ∷ a, (plain_more b a cs e is).0)) (s left (err_onto b (text_at bs) left h))

stops_behind_by : (t u : Bool) (b : ℕ) (bs : List ℕ) (left : ℕ) → (b == 0xFE) ≡ t → (b == 0xFF) ≡ u → cond t (onto 0 (after_zero bs)) (cond u (onto 0 (after_run bs)) (Ok ([], b ∷ bs))) ≡ Err left
    → StopsBehind bs → StopsAfter bs → StopsAt after_zero Behind (b ∷ bs) left
stops_behind_by true u b bs left e g h s t = one_more after_zero after_zero Behind Behind b bs left (λ cs n k. rw e (ap (onto 0) k))
    (λ a cs is. (0 ∷ a, ap (λ x. 0 ∷ x ∷ cs) (same_byte b 0xFE e) ∙ ap (λ l. 0 ∷ l) (zero_more a cs is))) (s left (err_onto 0 (after_zero bs) left h))
stops_behind_by false true b bs left e g h s t = one_more after_zero after_run Behind After b bs left (λ cs n k. rw (e, g) (ap (onto 0) k))
    (λ a cs is. (0 ∷ a, ap (λ x. 0 ∷ x ∷ cs) (same_byte b 0xFF g) ∙ ap (λ l. 0 ∷ l) is.1)) (t left (err_onto 0 (after_run bs) left h))
stops_behind_by false false b bs left e g h s t = cc

stops_after_by : (t : Bool) (b : ℕ) (bs : List ℕ) (left : ℕ) → (b == 0) ≡ t → cond {A = Result (List ℕ × List ℕ) ℕ} t (Err (length bs + 1)) (onto b (text_at bs)) ≡ Err left → StopsText bs → StopsAt after_run After (b ∷ bs) left
stops_after_by true b bs left e h s =
    let count : left ≡ length bs + 1 = cc in
    stops_first after_run _ b bs left (count ∙ add-one (length bs)) (1 ∷ 0 ∷ [], 1 ∷ [], (refl, refl), (omega arith, (omega arith, tt))) (λ cs. (rw (e, add-one) refl))
stops_after_by false b bs left e h s = one_more after_run text_at After Plain b bs left (λ cs n k. rw e (ap (onto b) k)) (λ a cs is. (b ∷ a, plain_more b a cs e is)) (s left (err_onto b (text_at bs) left h))

mutual
  stops_text : (bs : List ℕ) → StopsText bs
  stops_text [] left h = stops_empty _ _ left (let e : left ≡ 0 = cc in e) (0 ∷ [], [], refl, (omega arith, tt))
  stops_text (b ∷ bs) left h = stops_text_by (b == 0) b bs left refl h (stops_text bs) (stops_behind bs)

  stops_behind : (bs : List ℕ) → StopsBehind bs
  stops_behind [] left h = cc
  stops_behind (b ∷ bs) left h = stops_behind_by (b == 0xFE) (b == 0xFF) b bs left refl refl h (stops_behind bs) (stops_after bs)

  stops_after : (bs : List ℕ) → StopsAfter bs
  stops_after [] left h = stops_empty _ _ left (let e : left ≡ 0 = cc in e) (1 ∷ 0 ∷ [], 1 ∷ [], (refl, refl), (omega arith, (omega arith, tt)))
  stops_after (b ∷ bs) left h = stops_after_by (b == 0) b bs left refl h (stops_text bs)

-- the same of the form with whole runs
as_text : (bs : List ℕ) (left : ℕ) → StopsAt text_at Plain bs left → StopsAt text_at IsText bs left
as_text bs left s = record {
  front = s.front;
  rest = s.rest;
  parts = s.parts;
  count = s.count;
  goes_on = (s.goes_on.0, s.goes_on.1, s.goes_on.2 ∙ sym (escaped_plain s.goes_on.1), s.goes_on.3);
  no_further = s.no_further;
}

pub text_exact : Exact text_at IsText (λ _. EndsText)
text_exact = record {
  found = λ text a rest h. (plain a, found_text text a rest h, sym (escaped_plain a));
  all = λ a front rest is h. ap (λ l. text_at (l ++ rest)) (is ∙ escaped_plain a) ∙ all_text a rest h;
  next = λ text a b bs h. next_text text a b bs h;
  stops = λ text left h. as_text text left (stops_text text left h);
}
