-- Values of all types are read exactly.
use Rattle.std.proofs.Common.{◌≡◌, ℕ, ◌+◌, ◌≤◌, ◌==◌, ◌^◌, Bool, true, false, cond, List, [], ◌∷◌, ◌++◌, length, Result, Ok, Err, arith, refl, sym, ◌∙◌, ap, subst, add-one, inl}
use Rattle.std.specs.Prelude.{⊤, pos, negsuc}
use Rattle.std.proofs.lemmas.Bool.Decides.{nat_tests}
use Rattle.grammar.specs.Exact.{Exact, StopsAt, NextIs}
use Rattle.grammar.specs.Reading.{Then, map_read, Mapped, given_at, IsGiven, Either}
use Rattle.grammar.proofs.Octets.{bytes_both}
use Rattle.grammar.proofs.Bind.{bind_exact}
use Rattle.grammar.proofs.First.{first_exact}
use Rattle.grammar.proofs.Map.{map_exact}
use Rattle.grammar.proofs.Tokens.{literal_exact}
use Rattle.key_types.specs.Kinds.{Kind, tiny, small, int, big, text, blob, boolean, tuple, reversed, Kinds, end, more, Val, number, bytes, truth, values, Vals, none, and, AreBytes}
use Rattle.key_decode.specs.Reading.{text_at, EndsText, unsigned_at, long_at, byte_complement, complemented, complement_read, lowered, signed_at, big_at, is_high, is_from, truth_byte_at, value_at, values_at}
use Rattle.key_decode.proofs.Text.{text_exact, IsText}
use Rattle.key_decode.proofs.Turn.{turn_exact, all_twice, turned_bytes, Turned}
use Rattle.key_decode.proofs.Exact.{any, Free, IsNumber, number_exact, number_some, IsLong, long_exact, long_some}
use Rattle.grammar.proofs.Front.{stops_first, stops_empty}

-- ---- one component

abbrev pub IsSigned : ℕ → ℕ → Val → List ℕ → Type 0
IsSigned k half = Mapped (λ n. number (lowered half n)) (IsNumber k 0)

abbrev pub IsBig : Val → List ℕ → Type 0
IsBig = Either (Mapped (λ n. number (pos n)) IsLong) (Mapped (λ n. number (negsuc n)) (Turned IsLong))

abbrev pub IsTruth : Val → List ℕ → Type 0
IsTruth v bs = (b : Bool) × (v ≡ truth b) × (bs ≡ cond b 1 0 ∷ [])

abbrev mutual
  pub IsRead : Kind → Val → List ℕ → Type 0
  IsRead tiny = IsSigned 1 (2 ^ 7)
  IsRead small = IsSigned 2 (2 ^ 15)
  IsRead int = IsSigned 4 (2 ^ 31)
  IsRead big = IsBig
  IsRead text = Mapped bytes IsText
  IsRead blob = Mapped bytes IsText
  IsRead boolean = IsTruth
  IsRead (tuple ts) = Mapped values (AreRead ts)
  IsRead (reversed t) = Turned (IsRead t)

  pub AreRead : Kinds → Vals → List ℕ → Type 0
  AreRead end = Mapped (λ _. none) (IsGiven (0x38 ∷ []))
  AreRead (more t ts) = Then (IsGiven (0x40 ∷ [])) (λ _. Then (IsRead t) (λ v. Mapped (and v) (AreRead ts)))

-- what may stand behind a value
abbrev pub MayFollow : Kind → ℕ → Type 0
MayFollow (reversed t) b = MayFollow t (byte_complement b)
MayFollow text b = EndsText b
MayFollow blob b = EndsText b
MayFollow t b = ⊤

-- separators and terminators, also complemented
abbrev Between : ℕ → Type 0
Between b = (16 ≤ b) × (b ≤ 239)

between_turned : (b : ℕ) → Between b → Between (byte_complement b)
between_turned b h = (grind (arith, nat_tests), grind (arith, nat_tests))

between_ends : (b : ℕ) → Between b → EndsText b
between_ends b h = (grind (arith, nat_tests), grind (arith, nat_tests))

between : (t : Kind) (b : ℕ) → Between b → MayFollow t b
between (tuple ts) b h = tt
between (reversed t) b h = between t (byte_complement b) (between_turned b h)
between text b h = between_ends b h
between blob b h = between_ends b h
between tiny b h = tt
between small b h = tt
between int b h = tt
between big b h = tt
between boolean b h = tt

signed_exact : (k half : ℕ) → Exact (signed_at k half) (IsSigned k half) (Free {A = Val})
signed_exact k half = map_exact (λ n. number (lowered half n)) (unsigned_at k 0) (IsNumber k 0) (Free {A = ℕ}) (Free {A = Val}) (number_exact k 0) (λ a c h. tt) (λ a c h. tt)

text_value : Exact (map_read bytes text_at) (Mapped bytes IsText) (λ _. EndsText)
text_value = map_exact bytes text_at IsText (λ _. EndsText) (λ _. EndsText) text_exact (λ a c h. h) (λ a c h. h)

-- ---- bigints

is_above : (b : ℕ) → is_from 128 b ≡ true → is_high b ≡ true
is_above b h = grind (arith, nat_tests)

turned_low : (b c : ℕ) → is_from 128 b ≡ true → byte_complement c ≡ b → is_high c ≡ false
turned_low b c h k = grind (arith, nat_tests)

high_heads : (v : Val) (all : List ℕ) → Mapped (λ n. number (pos n)) IsLong v all → (c : ℕ) × (cs : List ℕ) × (all ≡ c ∷ cs) × (is_high c ≡ true)
high_heads v all is = let l = is.1 in (l.0, l.2, l.5 ∙ ap (λ q. q ++ l.2) l.3.1, is_above l.0 l.3.0)

low_by : (all : List ℕ) (b : ℕ) (bs : List ℕ) → complemented all ≡ b ∷ bs → is_from 128 b ≡ true → (c : ℕ) × (cs : List ℕ) × (all ≡ c ∷ cs) × (is_high c ≡ false)
low_by [] b bs h w = cc
low_by (c ∷ cs) b bs h w = let same : byte_complement c ≡ b = cc in (c, cs, refl, turned_low b c w same)

low_heads : (v : Val) (all : List ℕ) → Mapped (λ n. number (negsuc n)) (Turned IsLong) v all → (c : ℕ) × (cs : List ℕ) × (all ≡ c ∷ cs) × (is_high c ≡ false)
low_heads v all is = let l = is.1 in low_by all l.0 l.2 (l.5 ∙ ap (λ q. q ++ l.2) l.3.1) l.3.0

high_exact : Exact (map_read (λ n. number (pos n)) long_at) (Mapped (λ n. number (pos n)) IsLong) (Free {A = Val})
high_exact = map_exact (λ n. number (pos n)) long_at IsLong (Free {A = ℕ}) (Free {A = Val}) long_exact (λ a c h. tt) (λ a c h. tt)

low_exact : Exact (map_read (λ n. number (negsuc n)) (complement_read long_at)) (Mapped (λ n. number (negsuc n)) (Turned IsLong)) (Free {A = Val})
low_exact = map_exact (λ n. number (negsuc n)) (complement_read long_at) (Turned IsLong) (λ a b. Free {A = ℕ} a (byte_complement b)) (Free {A = Val}) (turn_exact long_at IsLong (Free {A = ℕ}) long_exact) (λ a c h. tt) (λ a c h. tt)

big_exact : Exact big_at IsBig (Free {A = Val})
big_exact = first_exact is_high _ _ (Mapped (λ n. number (pos n)) IsLong) (Mapped (λ n. number (negsuc n)) (Turned IsLong)) (Free {A = Val}) high_exact low_exact high_heads low_heads
    (let p = long_some in (p.1, number (pos p.0), (p.0, p.2, refl), p.3))

-- ---- truths

abbrev GotVal : Type 0
GotVal = Result (Val × List ℕ) ℕ

same_byte : (b c : ℕ) → (b == c) ≡ true → b ≡ c
same_byte b c e = grind (arith, nat_tests)

got_truth : (x : Bool) (b : ℕ) (bs : List ℕ) (v : Val) (rest : List ℕ) → b ≡ cond x 1 0 → ◌≡◌ {A = GotVal} (Ok (truth x, bs)) (Ok (v, rest)) → (front : List ℕ) × (b ∷ bs ≡ front ++ rest) × IsTruth v front
got_truth x b bs v rest e h =
    let pairs : ◌≡◌ {A = Val × List ℕ} (truth x, bs) (v, rest) = cc in
    (b ∷ [], ap (λ q. b ∷ q.1) pairs, (x, sym (ap (λ q. q.0) pairs), ap (λ y. y ∷ []) e))

truth_by : (t u : Bool) (b : ℕ) (bs : List ℕ) (v : Val) (rest : List ℕ) → (b == 0) ≡ t → (b == 1) ≡ u → cond {A = GotVal} t (Ok (truth false, bs)) (cond {A = GotVal} u (Ok (truth true, bs)) (Err (length bs + 1))) ≡ Ok (v, rest)
    → (front : List ℕ) × (b ∷ bs ≡ front ++ rest) × IsTruth v front
truth_by true u b bs v rest e g h = got_truth false b bs v rest (same_byte b 0 e) h
truth_by false true b bs v rest e g h = got_truth true b bs v rest (same_byte b 1 g) h
truth_by false false b bs v rest e g h = cc

truth_found : (text : List ℕ) (v : Val) (rest : List ℕ) → truth_byte_at text ≡ Ok (v, rest) → (front : List ℕ) × (text ≡ front ++ rest) × IsTruth v front
truth_found [] v rest h = cc
truth_found (b ∷ bs) v rest h = truth_by (b == 0) (b == 1) b bs v rest refl refl h

truth_all_by : (x : Bool) (rest : List ℕ) → truth_byte_at (cond x 1 0 ∷ rest) ≡ Ok (truth x, rest)
truth_all_by true rest = refl
truth_all_by false rest = refl

truth_all : (v : Val) (front rest : List ℕ) → IsTruth v front → truth_byte_at (front ++ rest) ≡ Ok (v, rest)
truth_all v front rest is = ap (λ l. truth_byte_at (l ++ rest)) is.2 ∙ truth_all_by is.0 rest ∙ ap (λ w. Ok (w, rest)) (sym is.1)

truth_stops_by : (t u : Bool) (b : ℕ) (bs : List ℕ) (left : ℕ) → (b == 0) ≡ t → (b == 1) ≡ u → cond {A = GotVal} t (Ok (truth false, bs)) (cond {A = GotVal} u (Ok (truth true, bs)) (Err (length bs + 1))) ≡ Err left
    → StopsAt truth_byte_at IsTruth (b ∷ bs) left
truth_stops_by true u b bs left e g h = cc
truth_stops_by false true b bs left e g h = cc
truth_stops_by false false b bs left e g h =
    let k : left ≡ length bs + 1 = cc in
    stops_first truth_byte_at _ b bs left (k ∙ add-one (length bs)) (0 ∷ [], truth false, (false, refl, refl), (omega arith, tt)) (λ cs. (rw (e, g, add-one) refl))

truth_stops : (text : List ℕ) (left : ℕ) → truth_byte_at text ≡ Err left → StopsAt truth_byte_at IsTruth text left
truth_stops [] left h = stops_empty _ _ left (let e : left ≡ 0 = cc in e) (0 ∷ [], truth false, (false, refl, refl), (omega arith, tt))
truth_stops (b ∷ bs) left h = truth_stops_by (b == 0) (b == 1) b bs left refl refl h

truth_exact : Exact truth_byte_at IsTruth (Free {A = Val})
truth_exact = record {
  found = truth_found;
  all = λ v front rest is h. truth_all v front rest is;
  next = λ text v b bs h. tt;
  stops = truth_stops;
}

-- ---- there are values of each type

turn_some : (t : Kind) → (v : Val) × (bs : List ℕ) × IsRead t v bs × AreBytes bs → (v : Val) × (bs : List ℕ) × Turned (IsRead t) v bs × AreBytes bs
turn_some t p = (p.0, complemented p.1, subst (IsRead t p.0) (sym (all_twice p.1)) p.2, turned_bytes p.1 p.3)

signed_some : (k half : ℕ) → (v : Val) × (bs : List ℕ) × IsSigned k half v bs × AreBytes bs
signed_some k half = let p = number_some k 0 in (number (lowered half p.0), p.1, (p.0, p.2, refl), p.3)

mutual
  some : (t : Kind) → (v : Val) × (bs : List ℕ) × IsRead t v bs × AreBytes bs
  some (tuple ts) = let p = all_some ts in (values p.0, p.1, (p.0, p.2, refl), p.3)
  some (reversed t) = turn_some t (some t)
  some text = (bytes [], 0 ∷ [], ([], refl, refl), (omega arith, tt))
  some blob = (bytes [], 0 ∷ [], ([], refl, refl), (omega arith, tt))
  some tiny = signed_some 1 (2 ^ 7)
  some small = signed_some 2 (2 ^ 15)
  some int = signed_some 4 (2 ^ 31)
  some big = let p = long_some in (number (pos p.0), p.1, inl (p.0, p.2, refl), p.3)
  some boolean = (truth false, 0 ∷ [], (false, refl, refl), (omega arith, tt))

  all_some : (ts : Kinds) → (vs : Vals) × (bs : List ℕ) × AreRead ts vs bs × AreBytes bs
  all_some end = (none, 0x38 ∷ [], (tt, refl, refl), (omega arith, tt))
  all_some (more t ts) =
      let p = some t in
      let q = all_some ts in
      (and p.0 q.0, 0x40 ∷ (p.1 ++ q.1), (tt, 0x40 ∷ [], p.1 ++ q.1, refl, (p.0, p.1, q.1, p.2, (q.0, q.2, refl), refl), refl), (omega arith, bytes_both p.1 q.1 p.3 q.3))

-- ---- all types

-- the first byte of components
first : (ts : Kinds) (vs : Vals) (bs : List ℕ) → AreRead ts vs bs → (b : ℕ) × (cs : List ℕ) × (bs ≡ b ∷ cs) × Between b
first end vs bs is = (0x38, [], is.1, (omega arith, omega arith))
first (more t ts) vs bs is = (0x40, is.2, is.5 ∙ ap (λ l. l ++ is.2) is.3, (omega arith, omega arith))

may_follow : (t : Kind) (ts : Kinds) (vs : Vals) (bs rest : List ℕ) → AreRead ts vs bs → NextIs (MayFollow t) (bs ++ rest)
may_follow t ts vs bs rest is = let p = first ts vs bs is in subst (λ (l : List ℕ). NextIs (MayFollow t) (l ++ rest)) (sym p.2) (between t p.0 p.3)

abbrev All : Kinds → Type 0
All ts = Exact (values_at ts) (AreRead ts) (Free {A = Vals})

separator : AreBytes (0x40 ∷ [])
separator = (omega arith, tt)

terminator : AreBytes (0x38 ∷ [])
terminator = (omega arith, tt)

-- one component and those behind it
one_more : (t : Kind) (ts : Kinds) → Exact (value_at t) (IsRead t) (λ _. MayFollow t) → All ts → All (more t ts)
one_more t ts one rest =
    let inner = bind_exact (value_at t) (λ v. map_read (and v) (values_at ts)) (IsRead t) (λ v. Mapped (and v) (AreRead ts)) (λ _. MayFollow t) (Free {A = Vals})
    one (λ v. map_exact (and v) (values_at ts) (AreRead ts) (Free {A = Vals}) (Free {A = Vals}) rest (λ a c k. tt) (λ a c k. tt))
    (λ v. let q = all_some ts in (and v q.0, q.1, (q.0, q.2, refl), q.3))
    (λ v vs bs tail is k. may_follow t ts is.0 bs tail is.1) in
    bind_exact (given_at (0x40 ∷ [])) _ (IsGiven (0x40 ∷ [])) _ (Free {A = ⊤}) (Free {A = Vals}) (literal_exact (0x40 ∷ []) separator) (λ _. inner)
    (λ _. let p = some t in let q = all_some ts in (and p.0 q.0, p.1 ++ q.1, (p.0, p.1, q.1, p.2, (q.0, q.2, refl), refl), bytes_both p.1 q.1 p.3 q.3))
    (λ a vs bs tail is k. any bs tail)

mutual
  pub value_exact : (t : Kind) → Exact (value_at t) (IsRead t) (λ _. MayFollow t)
  value_exact (tuple ts) = map_exact values (values_at ts) (AreRead ts) (Free {A = Vals}) (λ _ _. ⊤) (values_exact ts) (λ a c k. tt) (λ a c k. tt)
  value_exact (reversed t) = turn_exact (value_at t) (IsRead t) (λ _. MayFollow t) (value_exact t)
  value_exact text = text_value
  value_exact blob = text_value
  value_exact tiny = signed_exact 1 (2 ^ 7)
  value_exact small = signed_exact 2 (2 ^ 15)
  value_exact int = signed_exact 4 (2 ^ 31)
  value_exact big = big_exact
  value_exact boolean = truth_exact

  pub values_exact : (ts : Kinds) → All ts
  values_exact end = map_exact (λ _. none) (given_at (0x38 ∷ [])) (IsGiven (0x38 ∷ [])) (Free {A = ⊤}) (Free {A = Vals}) (literal_exact (0x38 ∷ []) terminator) (λ a c k. tt) (λ a c k. tt)
  values_exact (more t ts) = one_more t ts (value_exact t) (values_exact ts)
