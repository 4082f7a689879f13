-- The digits of an order word, counted and put together again.
use Rattle.std.proofs.Common.{◌≡◌, ◌≢◌, ℕ, zero, suc, ◌+◌, ◌-◌, ◌*◌, ◌/◌, ◌%◌, ◌^◌, ◌<◌, ◌≤◌, ◌==◌, nat_lt, List, [], ◌∷◌, length, refl, sym, ap, ◌∙◌, subst, arith, eq-eqb, ne_eqb, pow-suc, lt-ltb, ⊎_elim}
use Rattle.std.proofs.lemmas.Bool.{cases_eq, cond-true, cond-false}
use Rattle.cell_layout.specs.Words.{byte_of}
use Rattle.cell_layout.specs.Slots.{digits, number_of, insert_slot}

digits_none : (most n : ℕ) → n ≡ 0 → digits most n ≡ []
digits_none zero n e = refl
digits_none (suc most) n e = cond-true (n == 0) [] (n % 6 ∷ digits most (n / 6)) (eq-eqb n 0 e)

pub digits_step : (most n : ℕ) → n ≢ 0 → digits (suc most) n ≡ n % 6 ∷ digits most (n / 6)
digits_step most n ne = cond-false (n == 0) [] (n % 6 ∷ digits most (n / 6)) (ne_eqb n 0 ne)

pub pow_six : (n : ℕ) → 6 ^ suc n ≡ 6 * 6 ^ n
pow_six n = omega (arith, pow-suc 6 n)

-- a number has k digits where it is below 6^k and not below 6^(k - 1)
pub count_is : (most k n : ℕ) → k ≤ most → n < 6 ^ k → (0 < k → 6 ^ k ≤ 6 * n) → length (digits most n) ≡ k
count_is most zero n l h f = let z : n ≡ 0 = omega arith in ap (λ (x : List ℕ). length x) (digits_none most n z)
count_is zero (suc k) n l h f = absurd (omega arith)
count_is (suc most) (suc k) n l h f = let low : 6 ^ k ≤ n = omega (arith, pow_six k, f (omega arith)) in
    let some : n ≢ 0 = λ z. positive k (omega arith) in
    ap (λ (x : List ℕ). length x) (digits_step most n some) ∙ ap (λ (x : ℕ). suc x) (count_is most k (n / 6) (omega arith) (omega (arith, pow_six k)) (rest k low))
  where
    positive : (j : ℕ) → 6 ^ j ≤ 0 → ⊥
    positive zero e = omega arith
    positive (suc j) e = positive j (omega (arith, pow_six j))

    rest : (j : ℕ) → 6 ^ j ≤ n → 0 < j → 6 ^ j ≤ 6 * (n / 6)
    rest zero e z = absurd (omega arith)
    rest (suc j) e z = omega (arith, pow_six j)

pub div_pow : (left order : ℕ) → (left ≡ 0 → ⊥) → order < 6 ^ left → order / 6 < 6 ^ (left - 1)
div_pow zero order ne h = absurd (ne refl)
div_pow (suc m) order ne h = let e : suc m - 1 ≡ m = omega arith in let l : order / 6 < 6 ^ m = omega (arith, pow_six m) in subst (λ (x : ℕ). order / 6 < 6 ^ x) (sym e) l

-- the number that the digits of a number make
pub number-digits : (most n : ℕ) → n < 6 ^ most → number_of (digits most n) ≡ n
number-digits zero n h = let e : n ≡ 0 = omega arith in sym e
number-digits (suc most) n h = ⊎_elim (λ (z : n ≡ 0). ap (λ (l : List ℕ). number_of l) (digits_none (suc most) n z) ∙ sym z)
    (λ (ne : n ≢ 0). let less : n / 6 < 6 ^ most = omega (arith, pow_six most) in ap (λ (l : List ℕ). number_of l) (digits_step most n ne) ∙ let ih = number-digits most (n / 6) less in omega (arith, ih)) (cases_eq n 0)

-- every digit below 6, and the last one not 0
abbrev pub AreDigits : List ℕ → Type 0
AreDigits [] = Unit {0}
AreDigits (d ∷ []) = (d < 6) × (d ≢ 0)
AreDigits (d ∷ e ∷ ds) = (d < 6) × AreDigits (e ∷ ds)

number_pos : (d : ℕ) (ds : List ℕ) → AreDigits (d ∷ ds) → number_of (d ∷ ds) ≢ 0
number_pos d [] h z = let n = h.1 in n (omega arith)
number_pos d (e ∷ ds) h z = let p = number_pos e ds h.1 in p (omega arith)

more_digits : (most n : ℕ) (ds : List ℕ) → n ≢ 0 → n < 6 ^ suc most → digits most (n / 6) ≡ ds → AreDigits ds → AreDigits (n % 6 ∷ ds)
more_digits most n [] ne l e h = let k : n / 6 ≡ 0 = sym (number-digits most (n / 6) (omega (arith, pow_six most))) ∙ ap (λ (x : List ℕ). number_of x) e in (omega arith, λ z. ne (omega arith))
more_digits most n (d ∷ ds) ne l e h = (omega arith, h)

pub digits_are : (most n : ℕ) → n < 6 ^ most → AreDigits (digits most n)
digits_are zero n h = tt
digits_are (suc most) n h = ⊎_elim (λ (z : n ≡ 0). subst AreDigits (sym (digits_none (suc most) n z)) tt)
    (λ (ne : n ≢ 0). subst AreDigits (sym (digits_step most n ne)) (more_digits most n (digits most (n / 6)) ne h refl (digits_are most (n / 6) (omega (arith, pow_six most))))) (cases_eq n 0)

-- the digits of a number made of digits
pub digits-number : (ds : List ℕ) (most : ℕ) → AreDigits ds → length ds ≤ most → digits most (number_of ds) ≡ ds
digits-number [] zero h l = refl
digits-number [] (suc most) h l = refl
digits-number (d ∷ ds) zero h l = absurd (omega arith)
digits-number (d ∷ []) (suc most) h l = let q : (d + 6 * 0) / 6 ≡ 0 = omega (arith, h.0) in let r : (d + 6 * 0) % 6 ≡ d = omega (arith, h.0) in
    digits_step most (d + 6 * 0) (number_pos d [] h) ∙ (ap (λ (x : ℕ). x ∷ digits most ((d + 6 * 0) / 6)) r ∙ ap (λ (x : ℕ). d ∷ digits most x) q ∙ ap (λ (x : List ℕ). d ∷ x) (digits-number [] most tt (omega arith)))
digits-number (d ∷ e ∷ ds) (suc most) h l = let m : ℕ = number_of (e ∷ ds) in let q : (d + 6 * m) / 6 ≡ m = omega (arith, h.0) in let r : (d + 6 * m) % 6 ≡ d = omega (arith, h.0) in
    digits_step most (d + 6 * m) (number_pos d (e ∷ ds) h) ∙ (ap (λ (x : ℕ). x ∷ digits most ((d + 6 * m) / 6)) r ∙ ap (λ (x : ℕ). d ∷ digits most x) q ∙ ap (λ (x : List ℕ). d ∷ x) (digits-number (e ∷ ds) most h.1 (omega arith)))

-- the step of the insertion where the slot stands first
pub insert_here : (word b n left order : ℕ) → (left ≡ 0 → ⊥) → (order ≡ 0 → ⊥) → order < 6 ^ left → b < byte_of word (order % 6) → n + 6 * order ≡ number_of (insert_slot word b n (digits left order))
insert_here word b n zero order ne some_ h l = absurd (ne refl)
insert_here word b n (suc m) order ne some_ h l = let ds : List ℕ = order % 6 ∷ digits m (order / 6) in
    let first : insert_slot word b n ds ≡ n ∷ ds = cond-true (nat_lt b (byte_of word (order % 6))) (n ∷ ds) (order % 6 ∷ insert_slot word b n (digits m (order / 6))) (lt-ltb b (byte_of word (order % 6)) l) in
    ap (λ (x : ℕ). n + 6 * x) (sym (number-digits (suc m) order h)) ∙ (ap (λ (x : List ℕ). n + 6 * number_of x) (digits_step m order some_) ∙ (sym (ap (λ (x : List ℕ). number_of x) first) ∙ sym (ap (λ (x : List ℕ). number_of (insert_slot word b n x)) (digits_step m order some_))))
