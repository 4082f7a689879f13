-- Strings that are read are those of values that fit.
use Rattle.std.proofs.Common.{◌≡◌, ℕ, ◌+◌, ◌-◌, ◌≤◌, ◌==◌, ◌&&◌, ◌↔◌, Bool, true, false, cond, List, [], ◌∷◌, ◌++◌, length, take, nat_lt, nat_eq, min, Option, None, Some, Result, Ok, Err, arith, refl, sym, ◌∙◌, ap, subst, length-append, ltb-false, eqb-true, eq-eqb}
use Rattle.std.specs.Str.{is_utf8}
use Rattle.std.proofs.lemmas.Bool.Decides.{nat_tests}
use Rattle.std.proofs.lemmas.List.{append-nil}
use Rattle.std.proofs.Math.Seq.{take-append-add, take-append_seam}
use Rattle.grammar.specs.Reading.{all_of}
use Rattle.key_types.specs.Kinds as k
use Rattle.key_types.specs.Kinds.{Kind, tiny, small, int, big, text, blob, boolean, tuple, reversed, Kinds, end, more, Val, number, bytes, truth, values, Vals, none, and, Fits, EachFits, all_bytes, fits_by, all_fit_by, AreBytes}
use Rattle.key_types.specs.Layout.{count_of}
use Rattle.byte_comparable.specs.Encoding.{key_string}
use Rattle.byte_comparable.specs.Strings.{checked_string, first_misfit_from, string_of, value_count}
use Rattle.byte_comparable.specs.declared.strings.KeyError.{KeyError}
use Rattle.byte_comparable.specs.declared.strings.KeyError.TheVariants.{WrongCount, TooLong}
use Rattle.key_decode.specs.Reading.{values_at}
use Rattle.key_decode.specs.Shapes.{FitsAsBytes, EachFitsAsBytes}
use Rattle.key_decode.specs.Passing.{IsUtf8Of, AreUtf8Of}
use Rattle.key_decode.specs.Strings.{IsStringOf, SplitsString, BeginsString}
use Rattle.key_decode.proofs.All.{values_exact}
use Rattle.key_decode.proofs.Exact.{any}
use Rattle.key_decode.proofs.Link.{all_back, each_fits_as_bytes}
use Rattle.key_decode.proofs.Whole.{values_found}

-- ---- values that fit, and their test

and_true : (a b : Bool) → a ≡ true → b ≡ true → (a && b) ≡ true
and_true true b e f = f
and_true false b e f = cc

both_true : (a b : Bool) → (a && b) ≡ true → (a ≡ true) × (b ≡ true)
both_true true b e = (refl, e)
both_true false b e = cc

bytes_true : (b : List ℕ) → k.AreBytes b → all_bytes b ≡ true
bytes_true [] h = refl
bytes_true (x ∷ b) h = and_true (nat_lt x 256) (all_bytes b) (grind (arith, nat_tests)) (bytes_true b h.1)

true_bytes : (b : List ℕ) → all_bytes b ≡ true → k.AreBytes b
true_bytes [] h = tt
true_bytes (x ∷ b) h = let p = both_true (nat_lt x 256) (all_bytes b) h in let low = p.0 in (grind (arith, nat_tests), true_bytes b p.1)

mutual
  fits_true : (t : Kind) (v : Val) → Fits t v → fits_by t v ≡ true
  fits_true tiny (number n) h = h
  fits_true tiny (bytes b) h = absurd h
  fits_true tiny (truth b) h = absurd h
  fits_true tiny (values vs) h = absurd h
  fits_true small (number n) h = h
  fits_true small (bytes b) h = absurd h
  fits_true small (truth b) h = absurd h
  fits_true small (values vs) h = absurd h
  fits_true int (number n) h = h
  fits_true int (bytes b) h = absurd h
  fits_true int (truth b) h = absurd h
  fits_true int (values vs) h = absurd h
  fits_true big (number n) h = h
  fits_true big (bytes b) h = absurd h
  fits_true big (truth b) h = absurd h
  fits_true big (values vs) h = absurd h
  fits_true text (number n) h = absurd h
  fits_true text (bytes b) h = and_true (is_utf8 b) (all_bytes b) h.0 (bytes_true b h.1)
  fits_true text (truth b) h = absurd h
  fits_true text (values vs) h = absurd h
  fits_true blob (number n) h = absurd h
  fits_true blob (bytes b) h = bytes_true b h
  fits_true blob (truth b) h = absurd h
  fits_true blob (values vs) h = absurd h
  fits_true boolean (number n) h = absurd h
  fits_true boolean (bytes b) h = absurd h
  fits_true boolean (truth b) h = refl
  fits_true boolean (values vs) h = absurd h
  fits_true (tuple ts) (number n) h = absurd h
  fits_true (tuple ts) (bytes b) h = absurd h
  fits_true (tuple ts) (truth b) h = absurd h
  fits_true (tuple ts) (values vs) h = all_true ts vs h
  fits_true (reversed t) v h = fits_true t v h

  all_true : (ts : Kinds) (vs : Vals) → EachFits ts vs → all_fit_by ts vs ≡ true
  all_true end none h = refl
  all_true end (and v vs) h = absurd h
  all_true (more t ts) none h = absurd h
  all_true (more t ts) (and v vs) h = and_true (fits_by t v) (all_fit_by ts vs) (fits_true t v h.0) (all_true ts vs h.1)

mutual
  of_true : (t : Kind) (v : Val) → fits_by t v ≡ true → Fits t v
  of_true tiny (number n) h = h
  of_true tiny (bytes b) h = cc
  of_true tiny (truth b) h = cc
  of_true tiny (values vs) h = cc
  of_true small (number n) h = h
  of_true small (bytes b) h = cc
  of_true small (truth b) h = cc
  of_true small (values vs) h = cc
  of_true int (number n) h = h
  of_true int (bytes b) h = cc
  of_true int (truth b) h = cc
  of_true int (values vs) h = cc
  of_true big (number n) h = h
  of_true big (bytes b) h = cc
  of_true big (truth b) h = cc
  of_true big (values vs) h = cc
  of_true text (number n) h = cc
  of_true text (bytes b) h = let p = both_true (is_utf8 b) (all_bytes b) h in (p.0, true_bytes b p.1)
  of_true text (truth b) h = cc
  of_true text (values vs) h = cc
  of_true blob (number n) h = cc
  of_true blob (bytes b) h = true_bytes b h
  of_true blob (truth b) h = cc
  of_true blob (values vs) h = cc
  of_true boolean (number n) h = cc
  of_true boolean (bytes b) h = cc
  of_true boolean (truth b) h = tt
  of_true boolean (values vs) h = cc
  of_true (tuple ts) (number n) h = cc
  of_true (tuple ts) (bytes b) h = cc
  of_true (tuple ts) (truth b) h = cc
  of_true (tuple ts) (values vs) h = all_of_true ts vs h
  of_true (reversed t) v h = of_true t v h

  all_of_true : (ts : Kinds) (vs : Vals) → all_fit_by ts vs ≡ true → EachFits ts vs
  all_of_true end none h = tt
  all_of_true end (and v vs) h = cc
  all_of_true (more t ts) none h = cc
  all_of_true (more t ts) (and v vs) h = let p = both_true (fits_by t v) (all_fit_by ts vs) h in (of_true t v p.0, all_of_true ts vs p.1)

-- ---- values that fit as bytes, and whose texts are UTF-8

mutual
  of_both : (t : Kind) (v : Val) → FitsAsBytes t v → IsUtf8Of t v → Fits t v
  of_both tiny (number n) f u = f
  of_both tiny (bytes b) f u = absurd f
  of_both tiny (truth b) f u = absurd f
  of_both tiny (values vs) f u = absurd f
  of_both small (number n) f u = f
  of_both small (bytes b) f u = absurd f
  of_both small (truth b) f u = absurd f
  of_both small (values vs) f u = absurd f
  of_both int (number n) f u = f
  of_both int (bytes b) f u = absurd f
  of_both int (truth b) f u = absurd f
  of_both int (values vs) f u = absurd f
  of_both big (number n) f u = f
  of_both big (bytes b) f u = absurd f
  of_both big (truth b) f u = absurd f
  of_both big (values vs) f u = absurd f
  of_both text (number n) f u = absurd f
  of_both text (bytes b) f u = (u, f)
  of_both text (truth b) f u = absurd f
  of_both text (values vs) f u = absurd f
  of_both blob (number n) f u = absurd f
  of_both blob (bytes b) f u = f
  of_both blob (truth b) f u = absurd f
  of_both blob (values vs) f u = absurd f
  of_both boolean (number n) f u = absurd f
  of_both boolean (bytes b) f u = absurd f
  of_both boolean (truth b) f u = f
  of_both boolean (values vs) f u = absurd f
  of_both (tuple ts) (number n) f u = absurd f
  of_both (tuple ts) (bytes b) f u = absurd f
  of_both (tuple ts) (truth b) f u = absurd f
  of_both (tuple ts) (values vs) f u = each_of_both ts vs f u
  of_both (reversed t) v f u = of_both t v f u

  each_of_both : (ts : Kinds) (vs : Vals) → EachFitsAsBytes ts vs → AreUtf8Of ts vs → EachFits ts vs
  each_of_both end none f u = tt
  each_of_both end (and v vs) f u = absurd f
  each_of_both (more t ts) none f u = absurd f
  each_of_both (more t ts) (and v vs) f u = (of_both t v f.0 u.0, each_of_both ts vs f.1 u.1)

mutual
  of_utf8 : (t : Kind) (v : Val) → Fits t v → IsUtf8Of t v
  of_utf8 tiny (number n) f = tt
  of_utf8 tiny (bytes b) f = absurd f
  of_utf8 tiny (truth b) f = absurd f
  of_utf8 tiny (values vs) f = absurd f
  of_utf8 small (number n) f = tt
  of_utf8 small (bytes b) f = absurd f
  of_utf8 small (truth b) f = absurd f
  of_utf8 small (values vs) f = absurd f
  of_utf8 int (number n) f = tt
  of_utf8 int (bytes b) f = absurd f
  of_utf8 int (truth b) f = absurd f
  of_utf8 int (values vs) f = absurd f
  of_utf8 big (number n) f = tt
  of_utf8 big (bytes b) f = absurd f
  of_utf8 big (truth b) f = absurd f
  of_utf8 big (values vs) f = absurd f
  of_utf8 text (number n) f = absurd f
  of_utf8 text (bytes b) f = f.0
  of_utf8 text (truth b) f = absurd f
  of_utf8 text (values vs) f = absurd f
  of_utf8 blob (number n) f = absurd f
  of_utf8 blob (bytes b) f = tt
  of_utf8 blob (truth b) f = absurd f
  of_utf8 blob (values vs) f = absurd f
  of_utf8 boolean (number n) f = absurd f
  of_utf8 boolean (bytes b) f = absurd f
  of_utf8 boolean (truth b) f = tt
  of_utf8 boolean (values vs) f = absurd f
  of_utf8 (tuple ts) (number n) f = absurd f
  of_utf8 (tuple ts) (bytes b) f = absurd f
  of_utf8 (tuple ts) (truth b) f = absurd f
  of_utf8 (tuple ts) (values vs) f = each_utf8 ts vs f
  of_utf8 (reversed t) v f = of_utf8 t v f

  each_utf8 : (ts : Kinds) (vs : Vals) → EachFits ts vs → AreUtf8Of ts vs
  each_utf8 end none f = tt
  each_utf8 end (and v vs) f = absurd f
  each_utf8 (more t ts) none f = absurd f
  each_utf8 (more t ts) (and v vs) f = (of_utf8 t v f.0, each_utf8 ts vs f.1)

-- ---- strings of values that fit

same_count : (ts : Kinds) (vs : Vals) → EachFits ts vs → value_count vs ≡ count_of ts
same_count end none f = refl
same_count end (and v vs) f = absurd f
same_count (more t ts) none f = absurd f
same_count (more t ts) (and v vs) f = let rest = same_count ts vs f.1 in omega arith

no_misfit : (i : ℕ) (ts : Kinds) (vs : Vals) → EachFits ts vs → first_misfit_from i ts vs ≡ None
no_misfit i end none f = refl
no_misfit i end (and v vs) f = absurd f
no_misfit i (more t ts) none f = absurd f
no_misfit i (more t ts) (and v vs) f = rw (fits_true t v f.0) (no_misfit (i + 1) ts vs f.1)

first_fits : (b : Bool) (t : Kind) (v : Val) (m : Option ℕ) (i : ℕ) → fits_by t v ≡ b → cond b m (Some i) ≡ None → Fits t v × (m ≡ None)
first_fits true t v m i e is = (of_true t v e, is)
first_fits false t v m i e is = cc

all_fit : (i : ℕ) (ts : Kinds) (vs : Vals) → value_count vs ≡ count_of ts → first_misfit_from i ts vs ≡ None → EachFits ts vs
all_fit i end none c m = tt
all_fit i end (and v vs) c m = absurd (omega arith)
all_fit i (more t ts) none c m = absurd (omega arith)
all_fit i (more t ts) (and v vs) c m =
    let p = first_fits (fits_by t v) t v (first_misfit_from (i + 1) ts vs) i refl m in (p.0, all_fit (i + 1) ts vs (omega arith) p.1)

-- the string of values that fit
pub fitting : (ts : Kinds) (vs : Vals) → EachFits ts vs → length (key_string ts vs) ≤ 1024 → string_of ts vs ≡ Ok (key_string ts vs)
fitting ts vs f short =
    let all : checked_string None (key_string ts vs) ≡ Ok (key_string ts vs) = by (nat_lt 1024 (length (key_string ts vs))) refl in
    rw (eq-eqb (value_count vs) (count_of ts) (same_count ts vs f), no_misfit 0 ts vs f) all
  where
    by : (t : Bool) → nat_lt 1024 (length (key_string ts vs)) ≡ t → cond t (Err (TooLong (length (key_string ts vs)))) (Ok (key_string ts vs)) ≡ Ok (key_string ts vs)
    by false e = refl
    by true e = absurd (grind (arith, nat_tests))

by_length : (t : Bool) (s b : List ℕ) (e : KeyError) → nat_lt 1024 (length s) ≡ t → cond t (Err e) (Ok s) ≡ Ok b → (s ≡ b) × (length b ≤ 1024)
by_length true s b e h is = cc
by_length false s b e h is = let same : s ≡ b = cc in (same, rw (← same) (ltb-false 1024 (length s) h))

by_fit : (m : Option ℕ) (s b : List ℕ) → checked_string m s ≡ Ok b → (m ≡ None) × (s ≡ b) × (length b ≤ 1024)
by_fit (Some i) s b is = cc
by_fit None s b is = let p = by_length (nat_lt 1024 (length s)) s b (TooLong (length s)) refl is in (refl, p.0, p.1)

by_count : (t : Bool) (m : Option ℕ) (s b : List ℕ) → cond t (checked_string m s) (Err WrongCount) ≡ Ok b → (t ≡ true) × (m ≡ None) × (s ≡ b) × (length b ≤ 1024)
by_count true m s b is = let p = by_fit m s b is in (refl, p.0, p.1, p.2)
by_count false m s b is = cc

-- what a string is of
pub taken : (ts : Kinds) (string : List ℕ) (vs : Vals) → string_of ts vs ≡ Ok string → EachFits ts vs × (key_string ts vs ≡ string) × (length string ≤ 1024)
taken ts string vs is =
    let p = by_count (nat_eq (value_count vs) (count_of ts)) (first_misfit_from 0 ts vs) (key_string ts vs) string is in
    (all_fit 0 ts vs (eqb-true (value_count vs) (count_of ts) p.0) p.1, p.2, p.3)

-- a key string has at most 1,024 bytes
pub string_length : (ts : Kinds) (string : List ℕ) → IsStringOf ts string → length string ≤ 1024
string_length ts string (vs, is) = (taken ts string vs is).2

-- ---- what is read of them

-- the string of values that fit is read as them, whatever stands behind it
pub read_key : (ts : Kinds) (vs : Vals) (rest : List ℕ) → EachFits ts vs → values_at ts (key_string ts vs ++ rest) ≡ Ok (vs, rest)
read_key ts vs rest fits = (values_exact ts).all vs (key_string ts vs) rest (all_back ts vs (each_fits_as_bytes ts vs fits)).0 (any [] rest)

-- and so is a string of a key
pub read_of : (ts : Kinds) (string rest : List ℕ) → IsStringOf ts string → (vs : Vals) × AreUtf8Of ts vs × (values_at ts (string ++ rest) ≡ Ok (vs, rest))
read_of ts string rest (vs, is) =
    let p = taken ts string vs is in
    (vs, each_utf8 ts vs p.0, ap (λ l. values_at ts (l ++ rest)) (sym p.1) ∙ read_key ts vs rest p.0)

-- and what is read whole is a string
known : (ts : Kinds) (string : List ℕ) (vs : Vals) → AreBytes string → length string ≤ 1024 → AreUtf8Of ts vs → values_at ts string ≡ Ok (vs, []) → IsStringOf ts string
known ts string vs h short good read =
    let p = values_found ts string vs h (ap all_of read) in
    let fits = each_of_both ts vs p.0 good in
    (vs, fitting ts vs fits (subst (λ (l : List ℕ). length l ≤ 1024) p.1 short) ∙ ap Ok (sym p.1))

rest_of : {A : Type 0} (a b : A) (xs ys : List ℕ) → ◌≡◌ {A = Result (A × List ℕ) ℕ} (Ok (a, xs)) (Ok (b, ys)) → xs ≡ ys
rest_of {A} a b xs ys e = let pairs : ◌≡◌ {A = A × List ℕ} (a, xs) (b, ys) = cc in ap (λ q. q.1) pairs

nothing : (xs : List ℕ) → length xs ≡ 0 → xs ≡ []
nothing [] e = refl
nothing (x ∷ xs) e = absurd (omega arith)

-- bytes are a string exactly where nothing is left
pub some_string : (ts : Kinds) (string left : List ℕ) (vs : Vals) → AreBytes string → length string ≤ 1024 → AreUtf8Of ts vs → values_at ts string ≡ Ok (vs, left)
    → ((length left == 0) ≡ true) ↔ IsStringOf ts string
some_string ts string left vs h short good read = (
  λ e. known ts string vs h short good (read ∙ ap (λ l. Ok (vs, l)) (nothing left (eqb-true (length left) 0 e))),
  λ s. let p = read_of ts string [] s in
      let same : left ≡ [] = rest_of vs p.0 left [] (sym read ∙ ap (values_at ts) (sym (append-nil string)) ∙ p.2) in
      ap (λ l. length l == 0) same,
)

-- and none where nothing is read
pub no_string : (ts : Kinds) (string : List ℕ) → ((vs : Vals) (rest : List ℕ) → AreUtf8Of ts vs → values_at ts string ≡ Ok (vs, rest) → ⊥) → IsStringOf ts string → ⊥
no_string ts string never s = let p = read_of ts string [] s in never p.0 [] p.1 (ap (values_at ts) (sym (append-nil string)) ∙ p.2)

-- ---- where the string at the front ends

-- the first bytes have the string too, where they are as many as it has or more
begun : (all front string rest : List ℕ) (n : ℕ) → front ≡ take n all → length string ≤ n → all ≡ string ++ rest → front ≡ string ++ take (n - length string) rest
begun all front string rest n is short e =
    let sum : n ≡ length string + (n - length string) = omega arith in
    is ∙ ap (take n) e ∙ ap (λ m. take m (string ++ rest)) sum ∙ take-append-add string rest (n - length string)

module _ (ts : Kinds) (all front : List ℕ) (n : ℕ) (is : front ≡ take n all) (most : n ≡ min (length all) 1024) where
  reaches : (string rest : List ℕ) → SplitsString ts all string rest → length string ≤ n
  reaches string rest (s, e) =
      let short = string_length ts string s in
      let both : length all ≡ length string + length rest = ap length e ∙ length-append string rest in
      omega arith

  pub only_front : (vs : Vals) (left : List ℕ) → values_at ts front ≡ Ok (vs, left) → (string rest : List ℕ) → SplitsString ts all string rest → length string ≡ length front - length left
  only_front vs left read string rest (s, e) =
      let more = take (n - length string) rest in
      let parts = begun all front string rest n is (reaches string rest (s, e)) e in
      let p = read_of ts string more s in
      let same : left ≡ more = rest_of vs p.0 left more (sym read ∙ ap (values_at ts) parts ∙ p.2) in
      let both : length front ≡ length string + length more = ap length parts ∙ length-append string more in
      let less : length left ≡ length more = ap length same in
      omega arith

  pub no_front : ((vs : Vals) (rest : List ℕ) → AreUtf8Of ts vs → values_at ts front ≡ Ok (vs, rest) → ⊥) → BeginsString ts all → ⊥
  no_front never (string, rest, (s, e)) =
      let more = take (n - length string) rest in
      let p = read_of ts string more s in
      never p.0 more p.1 (ap (values_at ts) (begun all front string rest n is (reaches string rest (s, e)) e) ∙ p.2)

-- so many bytes are the string
pub taken_front : (ts : Kinds) (all : List ℕ) (m : ℕ) → BeginsString ts all → ((string rest : List ℕ) → SplitsString ts all string rest → length string ≡ m) → IsStringOf ts (take m all) × (m ≤ length all)
taken_front ts all m (string, rest, (s, e)) only =
    let long = only string rest (s, e) in
    let both : length all ≡ length string + length rest = ap length e ∙ length-append string rest in
    let front : take m all ≡ string = ap (λ n. take n all) (sym long) ∙ ap (take (length string)) e ∙ take-append_seam string rest in
    (subst (IsStringOf ts) (sym front) s, omega arith)
