-- Numbers of bigint.
use Rattle.std.proofs.Common.{◌≡◌, ℕ, zero, suc, ◌+◌, ◌-◌, ◌*◌, ◌/◌, ◌%◌, ◌^◌, ◌<◌, ◌≤◌, Bool, true, false, List, [], ◌∷◌, ◌++◌, arith, refl, sym, ◌∙◌, ap, subst}
use Rattle.std.proofs.lemmas.Bool.Decides.{nat_tests}
use Rattle.std.proofs.lemmas.Nat.{pow_below}
use Rattle.std.specs.Prelude.{ℤ, pos, negsuc, IsTrue, if◌then◌else◌, nat_lt}
use Rattle.std.specs.Int.{bytes_high_first, byte_at}
use Rattle.std.specs.Ordering.{nat_cmp, int_cmp, ordering_then, ordering_reverse}
use Rattle.std.specs.declared.cmp.Ordering.{Ordering}
use Rattle.std.specs.declared.cmp.Ordering.TheVariants.{Less, Equal, Greater}
use Rattle.key_types.specs.Kinds.{AreBytes, within}
use Rattle.byte_comparable.specs.Encoding.{complement, sized, long_bytes, big_bytes}
use Rattle.byte_comparable.proofs.Compare.{apart, then_then, reverse_then, bytes_complement, below, above, KeptAs}
use Rattle.byte_comparable.proofs.Turn.{turn_kept}
use Rattle.byte_comparable.proofs.Numbers.{Within, held, high_kept, high_are_bytes, divided, positive}

-- ---- which form a number has

abbrev pub top : ℕ → ℕ
top k = 2 ^ (7 * k + 6)

abbrev pub floor : ℕ → ℕ
floor zero = 0
floor (suc k) = top k

pub data Form (n : ℕ) (l : List ℕ) : Type 0 where
  few : (k : ℕ) → k ≤ 7 → l ≡ sized (suc k) n → floor k ≤ n → n < top k → Form n l
  nine : l ≡ 255 ∷ bytes_high_first 8 (n + 2 ^ 63) → 2 ^ 55 ≤ n → Form n l

step : (n m : ℕ) (x y : List ℕ) (b : Bool) → nat_lt n m ≡ b → (n < m → Form n x) → (m ≤ n → Form n y) → Form n (if b then x else y)
step n m x y true e f g = f (grind (arith, nat_tests))
step n m x y false e f g = g (grind (arith, nat_tests))

pub form : (n : ℕ) → Form n (long_bytes n)
form n =
    step n (2 ^ 6) _ _ _ refl (λ t. few 0 (omega arith) refl (omega arith) t) (λ f0.
    step n (2 ^ 13) _ _ _ refl (λ t. few 1 (omega arith) refl f0 t) (λ f1.
    step n (2 ^ 20) _ _ _ refl (λ t. few 2 (omega arith) refl f1 t) (λ f2.
    step n (2 ^ 27) _ _ _ refl (λ t. few 3 (omega arith) refl f2 t) (λ f3.
    step n (2 ^ 34) _ _ _ refl (λ t. few 4 (omega arith) refl f3 t) (λ f4.
    step n (2 ^ 41) _ _ _ refl (λ t. few 5 (omega arith) refl f4 t) (λ f5.
    step n (2 ^ 48) _ _ _ refl (λ t. few 6 (omega arith) refl f5 t) (λ f6.
    step n (2 ^ 55) _ _ _ refl (λ t. few 7 (omega arith) refl f6 t) (λ f7.
    nine refl f7))))))))

-- ---- its first byte

abbrev first : ℕ → ℕ → ℕ
first k n = 256 - 2 ^ (7 - k) + n / 256 ^ k

under : (k n : ℕ) → k ≤ 6 → n < top k → first k n < 256 - 2 ^ (6 - k)
under zero n h l = omega arith
under (suc zero) n h l = omega arith
under (suc (suc zero)) n h l = omega arith
under (suc (suc (suc zero))) n h l = omega arith
under (suc (suc (suc (suc zero)))) n h l = omega arith
under (suc (suc (suc (suc (suc zero))))) n h l = omega arith
under (suc (suc (suc (suc (suc (suc zero)))))) n h l = omega arith
under (suc (suc (suc (suc (suc (suc (suc k))))))) n h l = absurd (omega arith)

pub pow_up : (i j : ℕ) → i ≤ j → 2 ^ i ≤ 2 ^ j
pow_up i j h = by (nat_lt i j) refl
  where
    by : (b : Bool) → nat_lt i j ≡ b → 2 ^ i ≤ 2 ^ j
    by true e = let l : i < j = grind (arith, nat_tests) in let p = pow_below i j l in omega arith
    by false e = let s : i ≡ j = grind (arith, nat_tests) in subst (λ (x : ℕ). 2 ^ i ≤ 2 ^ x) s (omega arith)

one_least : (i : ℕ) → 1 ≤ 2 ^ i
one_least i = pow_up 0 i (omega arith)

most_128 : (k : ℕ) → k ≤ 7 → 2 ^ (7 - k) ≤ 128
most_128 k h = pow_up (7 - k) 7 (omega arith)

-- ---- forms of different lengths, and of one length

pub floor_up : (j k n : ℕ) → j < k → floor k ≤ n → top j ≤ n
floor_up j zero n h f = absurd (omega arith)
floor_up j (suc k) n h f = let p = pow_up (7 * j + 6) (7 * k + 6) (omega arith) in omega arith

shorter : (j k m n : ℕ) (p q : List ℕ) → j < k → k ≤ 7 → m < top j → floor k ≤ n → apart (sized (suc j) m ++ p) (sized (suc k) n ++ q) ≡ ordering_then (nat_cmp m n) (apart p q)
shorter j k m n p q l h t f =
    let u = under j m (omega arith) t in
    let w = pow_up (7 - k) (6 - j) (omega arith) in
    let heads : nat_cmp (first j m) (first k n) ≡ Less = below (first j m) (first k n) (omega arith) in
    let up = floor_up j k n l f in
    let sizes : nat_cmp m n ≡ Less = below m n (omega arith) in
    ap (λ o. ordering_then o (apart (bytes_high_first j m ++ p) (bytes_high_first k n ++ q))) heads ∙ sym (ap (λ o. ordering_then o (apart p q)) sizes)

ahead : (c x y : ℕ) → nat_cmp (c + x) (c + y) ≡ nat_cmp x y
ahead c x y = grind (arith, nat_tests)

as_long : (k m n : ℕ) (p q : List ℕ) → apart (sized (suc k) m ++ p) (sized (suc k) n ++ q) ≡ ordering_then (nat_cmp m n) (apart p q)
as_long k m n p q =
    let w = 256 ^ k in
    ap (λ o. ordering_then o (apart (bytes_high_first k m ++ p) (bytes_high_first k n ++ q))) (ahead (256 - 2 ^ (7 - k)) (m / w) (n / w))
    ∙ ap (λ o. ordering_then (nat_cmp (m / w) (n / w)) o) (high_kept k m n p q)
    ∙ sym (then_then (nat_cmp (m / w) (n / w)) (nat_cmp (m % w) (n % w)) (apart p q))
    ∙ ap (λ o. ordering_then o (apart p q)) (sym (divided m n w (positive k)))

-- the other way round
nat_round : (x y : ℕ) → nat_cmp y x ≡ ordering_reverse (nat_cmp x y)
nat_round x y = grind (arith, nat_tests)

pub apart_round : (xs ys : List ℕ) → apart ys xs ≡ ordering_reverse (apart xs ys)
apart_round [] [] = refl
apart_round [] (y ∷ ys) = refl
apart_round (x ∷ xs) [] = refl
apart_round (x ∷ xs) (y ∷ ys) =
    ap (λ o. ordering_then o (apart ys xs)) (nat_round x y) ∙ ap (λ o. ordering_then (ordering_reverse (nat_cmp x y)) o) (apart_round xs ys)
    ∙ sym (reverse_then (nat_cmp x y) (apart xs ys))

round : (xs ys : List ℕ) (m n : ℕ) → KeptAs ys xs (nat_cmp n m) → KeptAs xs ys (nat_cmp m n)
round xs ys m n kept p q h k =
    apart_round (ys ++ q) (xs ++ p) ∙ ap ordering_reverse (kept q p k h) ∙ reverse_then (nat_cmp n m) (apart q p)
    ∙ ap (λ o. ordering_then o (ordering_reverse (apart q p))) (sym (nat_round n m)) ∙ ap (λ o. ordering_then (nat_cmp m n) o) (sym (apart_round q p))

few_few : (r : Ordering) (j k m n : ℕ) → nat_cmp j k ≡ r → j ≤ 7 → k ≤ 7 → floor j ≤ m → m < top j → floor k ≤ n → n < top k → KeptAs (sized (suc j) m) (sized (suc k) n) (nat_cmp m n)
few_few Less j k m n e hj hk fm tm fn tn p q h g = let l : j < k = grind (arith, nat_tests) in shorter j k m n p q l hk tm fn
few_few Equal j k m n e hj hk fm tm fn tn p q h g =
    let s : j ≡ k = grind (arith, nat_tests) in
    subst (λ (x : ℕ). apart (sized (suc j) m ++ p) (sized (suc x) n ++ q) ≡ ordering_then (nat_cmp m n) (apart p q)) s (as_long j m n p q)
few_few Greater j k m n e hj hk fm tm fn tn p q h g =
    let l : k < j = grind (arith, nat_tests) in round (sized (suc j) m) (sized (suc k) n) m n (λ p q h g. shorter k j n m p q l hj tn fm) p q h g

-- ---- nine bytes

eight_nine : (m n : ℕ) (p q : List ℕ) → m < 2 ^ 55 → 2 ^ 55 ≤ n → n < 2 ^ 63 → apart (sized 8 m ++ p) ((255 ∷ bytes_high_first 8 (n + 2 ^ 63)) ++ q) ≡ ordering_then (nat_cmp m n) (apart p q)
eight_nine m n p q a b c =
    let none : first 7 m ≡ 255 = omega arith in
    let second : nat_cmp (byte_at 6 m) (byte_at 7 (n + 2 ^ 63)) ≡ Less = below (byte_at 6 m) (byte_at 7 (n + 2 ^ 63)) (omega arith) in
    let sizes : nat_cmp m n ≡ Less = below m n (omega arith) in
    ap (λ x. ordering_then (nat_cmp x 255) (apart (bytes_high_first 7 m ++ p) (bytes_high_first 8 (n + 2 ^ 63) ++ q))) none
    ∙ ap (λ o. ordering_then o (apart (bytes_high_first 6 m ++ p) (bytes_high_first 7 (n + 2 ^ 63) ++ q))) second
    ∙ sym (ap (λ o. ordering_then o (apart p q)) sizes)

less_nine : (j m n : ℕ) (p q : List ℕ) → j ≤ 6 → m < top j → 2 ^ 55 ≤ n → apart (sized (suc j) m ++ p) ((255 ∷ bytes_high_first 8 (n + 2 ^ 63)) ++ q) ≡ ordering_then (nat_cmp m n) (apart p q)
less_nine j m n p q h t b =
    let u = under j m h t in
    let w = one_least (6 - j) in
    let up = pow_up (7 * j + 6) 48 (omega arith) in
    let heads : nat_cmp (first j m) 255 ≡ Less = below (first j m) 255 (omega arith) in
    let sizes : nat_cmp m n ≡ Less = below m n (omega arith) in
    ap (λ o. ordering_then o (apart (bytes_high_first j m ++ p) (bytes_high_first 8 (n + 2 ^ 63) ++ q))) heads ∙ sym (ap (λ o. ordering_then o (apart p q)) sizes)

few_nine : (b : Bool) (j m n : ℕ) → nat_lt j 7 ≡ b → j ≤ 7 → m < top j → 2 ^ 55 ≤ n → n < 2 ^ 63 → KeptAs (sized (suc j) m) (255 ∷ bytes_high_first 8 (n + 2 ^ 63)) (nat_cmp m n)
few_nine true j m n e h t b c p q _ _ = less_nine j m n p q (grind (arith, nat_tests)) t b
few_nine false j m n e h t b c p q _ _ =
    let s : 7 ≡ j = grind (arith, nat_tests) in
    subst (λ (x : ℕ). m < top x → apart (sized (suc x) m ++ p) ((255 ∷ bytes_high_first 8 (n + 2 ^ 63)) ++ q) ≡ ordering_then (nat_cmp m n) (apart p q)) s (λ l. eight_nine m n p q l b c) t

nine_nine : (m n : ℕ) → m < 2 ^ 63 → n < 2 ^ 63 → KeptAs (255 ∷ bytes_high_first 8 (m + 2 ^ 63)) (255 ∷ bytes_high_first 8 (n + 2 ^ 63)) (nat_cmp m n)
nine_nine m n a b p q h k =
    held 8 (m + 2 ^ 63) (n + 2 ^ 63) (omega arith) (omega arith) p q h k
    ∙ ap (λ o. ordering_then o (apart p q)) (behind m n)
  where
    behind : (m n : ℕ) → nat_cmp (m + 2 ^ 63) (n + 2 ^ 63) ≡ nat_cmp m n
    behind m n = grind (arith, nat_tests)

as_forms : (m n : ℕ) (x y : List ℕ) → m < 2 ^ 63 → n < 2 ^ 63 → Form m x → Form n y → KeptAs x y (nat_cmp m n)
as_forms m n x y a b (few j hj e fm tm) (few k hk g fn tn) = rw (e, g) (few_few (nat_cmp j k) j k m n refl hj hk fm tm fn tn)
as_forms m n x y a b (few j hj e fm tm) (nine g l) = rw (e, g) (few_nine (nat_lt j 7) j m n refl hj tm l b)
as_forms m n x y a b (nine e l) (few k hk g fn tn) = rw (e, g) (round (255 ∷ bytes_high_first 8 (m + 2 ^ 63)) (sized (suc k) n) m n (few_nine (nat_lt k 7) k n m refl hk tn l a))
as_forms m n x y a b (nine e l) (nine g o) = rw (e, g) (nine_nine m n a b)

long_kept : (m n : ℕ) → m < 2 ^ 63 → n < 2 ^ 63 → KeptAs (long_bytes m) (long_bytes n) (nat_cmp m n)
long_kept m n a b = as_forms m n (long_bytes m) (long_bytes n) a b (form m) (form n)

-- ---- bytes, the first of them from 128 up

abbrev Begins : List ℕ → Type 0
Begins [] = ⊥
Begins (b ∷ bs) = (128 ≤ b) × (b < 256) × AreBytes bs

sized_begins : (b : Bool) (k n : ℕ) → nat_lt k 7 ≡ b → k ≤ 7 → n < top k → Begins (sized (suc k) n)
sized_begins true k n e h t =
    let u = under k n (grind (arith, nat_tests)) t in
    let w = most_128 k h in
    (omega arith, omega arith, high_are_bytes k n)
sized_begins false k n e h t =
    let s : 7 ≡ k = grind (arith, nat_tests) in
    subst (λ (x : ℕ). n < top x → Begins (sized (suc x) n)) s (λ l. (omega arith, omega arith, high_are_bytes 7 n)) t

form_begins : (n : ℕ) (l : List ℕ) → Form n l → Begins l
form_begins n l (few k h e f t) = rw e (sized_begins (nat_lt k 7) k n refl h t)
form_begins n l (nine e b) = rw e (omega arith, omega arith, high_are_bytes 8 (n + 2 ^ 63))

begin_bytes : (l : List ℕ) → Begins l → AreBytes l
begin_bytes [] h = absurd h
begin_bytes (b ∷ bs) h = (h.1, h.2)

long_are_bytes : (n : ℕ) → AreBytes (long_bytes n)
long_are_bytes n = begin_bytes (long_bytes n) (form_begins n (long_bytes n) (form n))

crossed : (xs ys : List ℕ) → Begins xs → Begins ys → (p q : List ℕ) → apart (xs ++ p) (complement ys ++ q) ≡ Greater
crossed [] ys h k p q = absurd h
crossed (x ∷ xs) [] h k p q = absurd k
crossed (x ∷ xs) (y ∷ ys) h k p q = ap (λ o. ordering_then o (apart (xs ++ p) (complement ys ++ q))) (above x (255 - y) (omega arith))

in_63 : (x : ℤ) → IsTrue (within (negsuc 9223372036854775807) (pos 9223372036854775808) x) → Within (2 ^ 63) x
in_63 (pos n) h = grind (arith, nat_tests)
in_63 (negsuc n) h = grind (arith, nat_tests)

abbrev Held : ℤ → ℤ → Type 0
Held x y = KeptAs (big_bytes x) (big_bytes y) (int_cmp x y)

same_sign : (m n : ℕ) → nat_cmp m n ≡ int_cmp (pos m) (pos n)
same_sign m n = grind (arith, nat_tests)

both_below : (m n : ℕ) → ordering_reverse (nat_cmp m n) ≡ int_cmp (negsuc m) (negsuc n)
both_below m n = grind (arith, nat_tests)

across : (m n : ℕ) → int_cmp (pos m) (negsuc n) ≡ Greater
across m n = grind (arith, nat_tests)

back_across : (m n : ℕ) → int_cmp (negsuc m) (pos n) ≡ Less
back_across m n = grind (arith, nat_tests)

kept : (x y : ℤ) → Within (2 ^ 63) x → Within (2 ^ 63) y → Held x y
kept (pos m) (pos n) a b = subst (KeptAs (long_bytes m) (long_bytes n)) (same_sign m n) (long_kept m n a b)
kept (negsuc m) (negsuc n) a b = subst (KeptAs (complement (long_bytes m)) (complement (long_bytes n))) (both_below m n) (turn_kept (long_bytes m) (long_bytes n) (nat_cmp m n) (long_are_bytes m) (long_are_bytes n) (long_kept m n a b))
kept (pos m) (negsuc n) a b = λ p q h k. crossed (long_bytes m) (long_bytes n) (form_begins m _ (form m)) (form_begins n _ (form n)) p q ∙ ap (λ o. ordering_then o (apart p q)) (sym (across m n))
kept (negsuc m) (pos n) a b = λ p q h k.
    apart_round (long_bytes n ++ q) (complement (long_bytes m) ++ p)
    ∙ ap ordering_reverse (crossed (long_bytes n) (long_bytes m) (form_begins n _ (form n)) (form_begins m _ (form m)) q p)
    ∙ ap (λ o. ordering_then o (apart p q)) (sym (back_across m n))

pub big_kept : (x y : ℤ) → IsTrue (within (negsuc 9223372036854775807) (pos 9223372036854775808) x) → IsTrue (within (negsuc 9223372036854775807) (pos 9223372036854775808) y) → KeptAs (big_bytes x) (big_bytes y) (int_cmp x y)
big_kept x y f g = kept x y (in_63 x f) (in_63 y g)

pub big_are_bytes : (x : ℤ) → IsTrue (within (negsuc 9223372036854775807) (pos 9223372036854775808) x) → AreBytes (big_bytes x)
big_are_bytes (pos n) f = long_are_bytes n
big_are_bytes (negsuc n) f = bytes_complement (long_bytes n)
