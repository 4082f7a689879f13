-- Bigints from 0 up: what is read is what is written.
use Rattle.std.proofs.Common.{◌≡◌, ℕ, zero, suc, ◌==◌, ◌+◌, ◌-◌, ◌*◌, ◌/◌, ◌%◌, ◌^◌, ◌<◌, ◌≤◌, Bool, true, false, List, [], ◌∷◌, ◌++◌, length, arith, refl, sym, ◌∙◌, ap, subst}
use Rattle.std.specs.Prelude.{nat_lt, nat_le, ◌&&◌, if◌then◌else◌}
use Rattle.std.specs.Int.{bytes_high_first, byte_at}
use Rattle.std.proofs.lemmas.Bool.Decides.{nat_tests}
use Rattle.std.proofs.lemmas.Nat.{div-mul-add, mod_below}
use Rattle.key_types.specs.Kinds.{AreBytes}
use Rattle.byte_comparable.specs.Encoding.{sized, long_bytes}
use Rattle.byte_comparable.proofs.Long.{top, floor, Form, few, nine, form, pow_up, floor_up}
use Rattle.byte_comparable.proofs.Numbers.{byte_is}
use Rattle.key_decode.specs.Reading.{is_from, count_behind, base, least_second}
use Rattle.key_decode.proofs.Exact.{value_from, IsNine, IsThirdBy, IsSecond, IsLong}
use Rattle.key_decode.proofs.Digits.{from_sum, from_below, digits, bytes_long, from_bytes}

-- ---- which form a number has

same_few : (n : ℕ) (l : List ℕ) → Form n l → (k : ℕ) → k ≤ 7 → floor k ≤ n → n < top k → l ≡ sized (suc k) n
same_few n l (few j hj e f t) k hk g w = by (nat_lt j k) (nat_lt k j) refl refl
  where
    by : (x y : Bool) → nat_lt j k ≡ x → nat_lt k j ≡ y → l ≡ sized (suc k) n
    by true y p q = let u = floor_up j k n (grind (arith, nat_tests)) g in absurd (omega arith)
    by false true p q = let u = floor_up k j n (grind (arith, nat_tests)) f in absurd (omega arith)
    by false false p q = let s : j ≡ k = grind (arith, nat_tests) in e ∙ ap (λ x. sized (suc x) n) s
same_few n l (nine e b) k hk g w = let u = pow_up (7 * k + 6) 55 (omega arith) in absurd (omega arith)

same_nine : (n : ℕ) (l : List ℕ) → Form n l → 2 ^ 55 ≤ n → l ≡ 255 ∷ bytes_high_first 8 (n + 2 ^ 63)
same_nine n l (nine e b) h = e
same_nine n l (few k hk e f t) h = let u = pow_up (7 * k + 6) 55 (omega arith) in absurd (omega arith)

-- ---- the first byte

record Ranged (b k : ℕ) : Type 0 where
  few_bytes : k ≤ 7
  from : base k ≤ b
  below : b < base k + 2 ^ (6 - k)

pick : (b m x y : ℕ) (t : Bool) → nat_lt b m ≡ t → (b < m → Ranged b x) → (m ≤ b → Ranged b y) → Ranged b (if t then x else y)
pick b m x y true e f g = f (grind (arith, nat_tests))
pick b m x y false e f g = g (grind (arith, nat_tests))

counted : (b : ℕ) → 128 ≤ b → b < 256 → Ranged b (count_behind b)
counted b l h =
    pick b 0xC0 _ _ _ refl (λ t. record { few_bytes = omega arith; from = omega arith; below = omega arith }) (λ f0.
    pick b 0xE0 _ _ _ refl (λ t. record { few_bytes = omega arith; from = omega arith; below = omega arith }) (λ f1.
    pick b 0xF0 _ _ _ refl (λ t. record { few_bytes = omega arith; from = omega arith; below = omega arith }) (λ f2.
    pick b 0xF8 _ _ _ refl (λ t. record { few_bytes = omega arith; from = omega arith; below = omega arith }) (λ f3.
    pick b 0xFC _ _ _ refl (λ t. record { few_bytes = omega arith; from = omega arith; below = omega arith }) (λ f4.
    pick b 0xFE _ _ _ refl (λ t. record { few_bytes = omega arith; from = omega arith; below = omega arith }) (λ f5.
    pick b 0xFF _ _ _ refl (λ t. record { few_bytes = omega arith; from = omega arith; below = omega arith }) (λ f6.
    record { few_bytes = omega arith; from = omega arith; below = omega arith })))))))

-- a first byte is of one count alone
one_count : (b j k : ℕ) → Ranged b j → Ranged b k → j ≡ k
one_count b j k p q = by (nat_lt j k) (nat_lt k j) refl refl
  where
    apart : (j k : ℕ) → Ranged b j → Ranged b k → j < k → j ≡ k
    apart j k p q l =
        let u = pow_up (7 - k) (6 - j) (omega arith) in
        let v = pow_up 0 (6 - j) (omega arith) in
        let w : 2 ^ (7 - j) ≡ 2 ^ (6 - j) + 2 ^ (6 - j) = twice j (let x = q.few_bytes in omega arith) in
        let at_j = p.below in
        let at_k = q.from in
        let most = pow_up (7 - j) 7 (omega arith) in
        absurd (omega arith)
      where
        twice : (j : ℕ) → j ≤ 6 → 2 ^ (7 - j) ≡ 2 ^ (6 - j) + 2 ^ (6 - j)
        twice j h = let e : 7 - j ≡ suc (6 - j) = omega arith in ap (λ x. 2 ^ x) e ∙ omega arith

    by : (x y : Bool) → nat_lt j k ≡ x → nat_lt k j ≡ y → j ≡ k
    by true y e f = apart j k p q (grind (arith, nat_tests))
    by false true e f = sym (apart k j q p (grind (arith, nat_tests)))
    by false false e f = grind (arith, nat_tests)

is_byte : (low b : ℕ) → is_from low b ≡ true → (low ≤ b) × (b < 256)
is_byte low b h = (grind (arith, nat_tests), grind (arith, nat_tests))

-- ---- what is read is written so

-- the form of so many bytes behind the first
spelled : (k b n : ℕ) (rest : List ℕ) → base k ≤ b → b < 256 → AreBytes rest → length rest ≡ k → n ≡ value_from (b - base k) rest → sized (suc k) n ≡ b ∷ rest
spelled k b n rest l w h e is =
    let low = from_below rest h in
    let sum : n ≡ (b - base k) * 256 ^ k + value_from 0 rest = is ∙ from_sum (b - base k) rest ∙ ap (λ x. (b - base k) * 256 ^ x + value_from 0 rest) e in
    let high : n / 256 ^ k ≡ b - base k = ap (λ x. x / 256 ^ k) sum ∙ div-mul-add (b - base k) (256 ^ k) (value_from 0 rest) (subst (λ (x : ℕ). value_from 0 rest < 256 ^ x) e low) in
    let first : base k + n / 256 ^ k ≡ b = ap (λ x. base k + x) high ∙ omega arith in
    let tail : bytes_high_first k n ≡ rest = ap (λ x. bytes_high_first x n) (sym e) ∙ ap (bytes_high_first (length rest)) is ∙ digits (b - base k) rest h in
    ap (λ x. x ∷ bytes_high_first k n) first ∙ ap (λ l. b ∷ l) tail

abbrev Found : ℕ → List ℕ → Type 0
Found n bs = (n < 2 ^ 63) × (bs ≡ long_bytes n)

found_few : (k b n : ℕ) (rest : List ℕ) → k ≤ 7 → floor k ≤ n → n < top k → n < 2 ^ 63 → sized (suc k) n ≡ b ∷ rest → Found n (b ∷ rest)
found_few k b n rest hk f t w e = (w, sym e ∙ sym (same_few n (long_bytes n) (form n) k hk f t))

record Bounds (j n : ℕ) : Type 0 where
  least : top j ≤ n
  most : n < top (suc j)
  all : n < 2 ^ 63

abbrev Summed : ℕ → ℕ → ℕ → ℕ → ℕ → Type 0
Summed j b c v n = n ≡ ((b - base (suc j)) * 256 + c) * 256 ^ j + v

bounds_base : (j b c v n : ℕ) → j ≤ 6 → b ≡ base (suc j) → c < 256 → 2 ^ (7 - suc j) ≤ c → (j ≡ 6 → c < 128) → v < 256 ^ j → Summed j b c v n → Bounds j n
bounds_base zero b c v n h e w l s u is = record { least = omega arith; most = omega arith; all = omega arith }
bounds_base (suc zero) b c v n h e w l s u is = record { least = omega arith; most = omega arith; all = omega arith }
bounds_base (suc (suc zero)) b c v n h e w l s u is = record { least = omega arith; most = omega arith; all = omega arith }
bounds_base (suc (suc (suc zero))) b c v n h e w l s u is = record { least = omega arith; most = omega arith; all = omega arith }
bounds_base (suc (suc (suc (suc zero)))) b c v n h e w l s u is = record { least = omega arith; most = omega arith; all = omega arith }
bounds_base (suc (suc (suc (suc (suc zero))))) b c v n h e w l s u is = record { least = omega arith; most = omega arith; all = omega arith }
bounds_base (suc (suc (suc (suc (suc (suc zero)))))) b c v n h e w l s u is = let k = s refl in record { least = omega arith; most = omega arith; all = omega arith }
bounds_base (suc (suc (suc (suc (suc (suc (suc j))))))) b c v n h e w l s u is = absurd (omega arith)

bounds_above : (j b c v n : ℕ) → j ≤ 6 → base (suc j) + 1 ≤ b → b < base (suc j) + 2 ^ (6 - suc j) → c < 256 → v < 256 ^ j → Summed j b c v n → Bounds j n
bounds_above zero b c v n h e r w u is = record { least = omega arith; most = omega arith; all = omega arith }
bounds_above (suc zero) b c v n h e r w u is = record { least = omega arith; most = omega arith; all = omega arith }
bounds_above (suc (suc zero)) b c v n h e r w u is = record { least = omega arith; most = omega arith; all = omega arith }
bounds_above (suc (suc (suc zero))) b c v n h e r w u is = record { least = omega arith; most = omega arith; all = omega arith }
bounds_above (suc (suc (suc (suc zero)))) b c v n h e r w u is = record { least = omega arith; most = omega arith; all = omega arith }
bounds_above (suc (suc (suc (suc (suc zero))))) b c v n h e r w u is = absurd (omega arith)
bounds_above (suc (suc (suc (suc (suc (suc zero)))))) b c v n h e r w u is = absurd (omega arith)
bounds_above (suc (suc (suc (suc (suc (suc (suc j))))))) b c v n h e r w u is = absurd (omega arith)

bounds : (t : Bool) (j b c v n : ℕ) → (b == base (suc j)) ≡ t → Ranged b (suc j) → c < 256 → (if t then 2 ^ (7 - suc j) else 0) ≤ c → (j ≡ 6 → c < 128) → v < 256 ^ j → Summed j b c v n → Bounds j n
bounds true j b c v n e r w l s u is = bounds_base j b c v n (let x = r.few_bytes in omega arith) (grind (arith, nat_tests)) w l s u is
bounds false j b c v n e r w l s u is =
    let other : (b ≡ base (suc j)) → ⊥ = λ x. grind (arith, nat_tests) in
    let from = r.from in
    bounds_above j b c v n (let x = r.few_bytes in omega arith) (omega (arith, other)) r.below w u is

-- a bigint of nine bytes
nine_bounds : (t : Bool) (c d v n : ℕ) → (c == 128) ≡ t → 128 ≤ c → c < 256 → (if t then 128 else 0) ≤ d → d < 256 → v < 256 ^ 6 → n ≡ ((c - 128) * 256 + d) * 256 ^ 6 + v → (2 ^ 55 ≤ n) × (n < 2 ^ 63)
nine_bounds true c d v n e f w l x u is = let same : c ≡ 128 = grind (arith, nat_tests) in (omega arith, omega arith)
nine_bounds false c d v n e f w l x u is = let other : (c ≡ 128) → ⊥ = λ y. grind (arith, nat_tests) in (omega (arith, other), omega arith)

nine_found : (c n : ℕ) (tail : List ℕ) → 128 ≤ c → c < 256 → AreBytes tail → IsNine c n tail → Found n (255 ∷ c ∷ tail)
nine_found c n tail f w h is =
    let d = is.0 in
    let last = is.2 in
    let parts : tail ≡ d ∷ last = is.5 ∙ ap (λ l. l ++ last) is.3.1 in
    let bytes : AreBytes (d ∷ last) = subst AreBytes parts h in
    let range = is_byte (if c == 128 then 128 else 0) d is.3.0 in
    let v = value_from 0 last in
    let small : v < 256 ^ 6 = subst (λ (x : ℕ). v < 256 ^ x) is.4.0 (from_below last bytes.1) in
    let sum : n ≡ ((c - 128) * 256 + d) * 256 ^ 6 + v = is.4.1 ∙ from_sum ((c - 128) * 256 + d) last ∙ ap (λ x. ((c - 128) * 256 + d) * 256 ^ x + v) is.4.0 in
    let limits = nine_bounds (c == 128) c d v n refl f w range.0 range.1 small sum in
    let all : value_from 0 (c ∷ d ∷ last) ≡ n + 2 ^ 63 =
    from_sum ((0 * 256 + c) * 256 + d) last ∙ ap (λ x. ((0 * 256 + c) * 256 + d) * 256 ^ x + v) is.4.0 ∙ omega arith in
    let spelled : bytes_high_first 8 (n + 2 ^ 63) ≡ c ∷ d ∷ last =
    ap (bytes_high_first 8) (sym all) ∙ ap (λ x. bytes_high_first (suc (suc x)) (value_from 0 (c ∷ d ∷ last))) (sym is.4.0) ∙ digits 0 (c ∷ d ∷ last) (w, bytes) in
    (limits.1, ap (λ l. 255 ∷ c ∷ l) parts ∙ ap (λ l. 255 ∷ l) (sym spelled) ∙ sym (same_nine n (long_bytes n) (form n) limits.0))

third_found : (t : Bool) (j b c n : ℕ) (tail : List ℕ) → (j == 6 && nat_le 128 c) ≡ t → Ranged b (suc j) → b < 256 → c < 256 → least_second (suc j) b ≤ c → AreBytes tail → IsThirdBy t j b c n tail → Found n (b ∷ c ∷ tail)
third_found true j b c n tail e r w x l h is =
    let last : j ≡ 6 = grind (arith, nat_tests) in
    let high : 128 ≤ c = grind (arith, nat_tests) in
    let only : b ≡ 255 = only_one b j last r w in
    subst (λ (y : ℕ). Found n (y ∷ c ∷ tail)) (sym only) (nine_found c n tail high x h is)
  where
    only_one : (b j : ℕ) → j ≡ 6 → Ranged b (suc j) → b < 256 → b ≡ 255
    only_one b j e r w = let from : base 7 ≤ b = subst (λ (y : ℕ). base (suc y) ≤ b) e r.from in omega arith
third_found false j b c n tail e r w x l h is =
    let m = (b - base (suc j)) * 256 + c in
    let v = value_from 0 tail in
    let small : v < 256 ^ j = subst (λ (y : ℕ). v < 256 ^ y) is.0 (from_below tail h) in
    let sum : n ≡ m * 256 ^ j + v = is.1 ∙ from_sum m tail ∙ ap (λ y. m * 256 ^ y + v) is.0 in
    let limits = bounds (b == base (suc j)) j b c v n refl r x l (λ last. low_then j c last e) small sum in
    found_few (suc j) b n (c ∷ tail) r.few_bytes limits.least limits.most limits.all (spelled (suc j) b n (c ∷ tail) r.from w (x, h) (ap suc is.0) is.1)
  where
    low_then : (j c : ℕ) → j ≡ 6 → (j == 6 && nat_le 128 c) ≡ false → c < 128
    low_then j c last e = grind (arith, nat_tests)

second_found : (k b n : ℕ) (rest : List ℕ) → Ranged b k → b < 256 → AreBytes rest → IsSecond k b n rest → Found n (b ∷ rest)
second_found zero b n rest r w h is =
    let v = value_from 0 rest in
    let small : v < 256 ^ 0 = subst (λ (y : ℕ). v < 256 ^ y) is.0 (from_below rest h) in
    let sum : n ≡ (b - 128) * 256 ^ 0 + v = is.1 ∙ from_sum (b - 128) rest ∙ ap (λ y. (b - 128) * 256 ^ y + v) is.0 in
    let from = r.from in
    let below = r.below in
    found_few 0 b n rest (omega arith) (omega arith) (omega arith) (omega arith) (spelled 0 b n rest r.from w h is.0 is.1)
second_found (suc j) b n rest r w h is =
    let c = is.0 in
    let parts : rest ≡ c ∷ is.2 = is.5 ∙ ap (λ l. l ++ is.2) is.3.1 in
    let bytes : AreBytes (c ∷ is.2) = subst AreBytes parts h in
    let range = is_byte (least_second (suc j) b) c is.3.0 in
    subst (λ (l : List ℕ). Found n (b ∷ l)) (sym parts) (third_found (j == 6 && nat_le 128 c) j b c n is.2 refl r w range.1 range.0 bytes.1 is.4)

pub long_found : (n : ℕ) (bs : List ℕ) → IsLong n bs → AreBytes bs → (n < 2 ^ 63) × (bs ≡ long_bytes n)
long_found n bs is h =
    let b = is.0 in
    let parts : bs ≡ b ∷ is.2 = is.5 ∙ ap (λ l. l ++ is.2) is.3.1 in
    let bytes : AreBytes (b ∷ is.2) = subst AreBytes parts h in
    let range = is_byte 128 b is.3.0 in
    subst (λ (l : List ℕ). Found n l) (sym parts) (second_found (count_behind b) b n is.2 (counted b range.0 range.1) range.1 bytes.1 is.4)

-- ---- what is written is read so

record Split (j n : ℕ) : Type 0 where
  high : n / 256 ^ suc j < 2 ^ (6 - suc j)
  whole : n ≡ (n / 256 ^ suc j * 256 + n / 256 ^ j % 256) * 256 ^ j + n % 256 ^ j
  long_enough : n / 256 ^ suc j ≡ 0 → 2 ^ (7 - suc j) ≤ n / 256 ^ j % 256
  no_nine : j ≡ 6 → n / 256 ^ j % 256 < 128

split : (j n : ℕ) → j ≤ 6 → top j ≤ n → n < top (suc j) → Split j n
split zero n h f t = record { high = omega arith; whole = omega arith; long_enough = λ e. omega arith; no_nine = λ e. omega arith }
split (suc zero) n h f t = record { high = omega arith; whole = omega arith; long_enough = λ e. omega arith; no_nine = λ e. omega arith }
split (suc (suc zero)) n h f t = record { high = omega arith; whole = omega arith; long_enough = λ e. omega arith; no_nine = λ e. omega arith }
split (suc (suc (suc zero))) n h f t = record { high = omega arith; whole = omega arith; long_enough = λ e. omega arith; no_nine = λ e. omega arith }
split (suc (suc (suc (suc zero)))) n h f t = record { high = omega arith; whole = omega arith; long_enough = λ e. omega arith; no_nine = λ e. omega arith }
split (suc (suc (suc (suc (suc zero))))) n h f t = record { high = omega arith; whole = omega arith; long_enough = λ e. omega arith; no_nine = λ e. omega arith }
split (suc (suc (suc (suc (suc (suc zero)))))) n h f t = record { high = omega arith; whole = omega arith; long_enough = λ e. omega arith; no_nine = λ e. omega arith }
split (suc (suc (suc (suc (suc (suc (suc j))))))) n h f t = absurd (omega arith)

base_least : (k : ℕ) → k ≤ 7 → (128 ≤ base k) × (base k + 2 ^ (6 - k) ≤ 256)
base_least zero h = (omega arith, omega arith)
base_least (suc j) h =
    let a = pow_up (7 - suc j) 7 (omega arith) in
    let b = pow_up (6 - suc j) (7 - suc j) (omega arith) in
    (omega arith, omega arith)

is_from_by : (low b : ℕ) → low ≤ b → b < 256 → is_from low b ≡ true
is_from_by low b l h = grind (arith, nat_tests)

least_by : (t : Bool) (k b c : ℕ) → (b == base k) ≡ t → (b ≡ base k → 2 ^ (7 - k) ≤ c) → (if t then 2 ^ (7 - k) else 0) ≤ c
least_by true k b c e f = f (grind (arith, nat_tests))
least_by false k b c e f = omega arith

no_third : (j c : ℕ) → (j ≡ 6 → c < 128) → (j == 6 && nat_le 128 c) ≡ false
no_third j c f = by (j == 6) refl
  where
    by : (t : Bool) → (j == 6) ≡ t → (t && nat_le 128 c) ≡ false
    by true e = let l = f (grind (arith, nat_tests)) in grind (arith, nat_tests)
    by false e = refl

second_all : (k n : ℕ) → k ≤ 7 → floor k ≤ n → n < top k → (Ranged (base k + n / 256 ^ k) k) × IsSecond k (base k + n / 256 ^ k) n (bytes_high_first k n)
second_all zero n h f t =
    (record { few_bytes = omega arith; from = omega arith; below = omega arith }, (refl, omega arith))
second_all (suc j) n h f t =
    let s = split j n (omega arith) f t in
    let b = base (suc j) + n / 256 ^ suc j in
    let c = byte_at j n in
    let is : c ≡ n / 256 ^ j % 256 = byte_is j n in
    let high = s.high in
    let whole = s.whole in
    let less : c < 256 = subst (λ (y : ℕ). y < 256) (sym is) (mod_below (n / 256 ^ j) 256 (omega arith)) in
    let enough : b ≡ base (suc j) → 2 ^ (7 - suc j) ≤ c = λ e. subst (λ (y : ℕ). 2 ^ (7 - suc j) ≤ y) (sym is) (s.long_enough (omega arith)) in
    let none = no_third j c (λ e. subst (λ (y : ℕ). y < 128) (sym is) (s.no_nine e)) in
    let back : b - base (suc j) ≡ n / 256 ^ suc j = omega arith in
    let sum : n ≡ value_from ((b - base (suc j)) * 256 + c) (bytes_high_first j n) =
    whole ∙ ap (λ y. (n / 256 ^ suc j * 256 + y) * 256 ^ j + n % 256 ^ j) (sym is) ∙ ap (λ y. (y * 256 + c) * 256 ^ j + n % 256 ^ j) (sym back) ∙ sym (from_bytes ((b - base (suc j)) * 256 + c) j n) in (
      record { few_bytes = h; from = omega arith; below = omega arith },
      (
        c,
        c ∷ [],
        bytes_high_first j n,
        (is_from_by (least_second (suc j) b) c (least_by (b == base (suc j)) (suc j) b c refl enough) less, refl),
        subst (λ (y : Bool). IsThirdBy y j b c n (bytes_high_first j n)) (sym none) (bytes_long j n, sum),
        refl,
      ),
    )

long_few : (k n : ℕ) → k ≤ 7 → floor k ≤ n → n < top k → IsLong n (sized (suc k) n)
long_few k n h f t =
    let p = second_all k n h f t in
    let b = base k + n / 256 ^ k in
    let limits = base_least k h in
    let from = p.0.from in
    let below = p.0.below in
    let low : 128 ≤ b = omega arith in
    let high : b < 256 = omega arith in
    let count : k ≡ count_behind b = one_count b k (count_behind b) p.0 (counted b low high) in
    (b, b ∷ [], bytes_high_first k n, (is_from_by 128 b low high, refl), subst (λ (y : ℕ). IsSecond y b n (bytes_high_first k n)) count p.1, refl)

nine_least : (t : Bool) (c d : ℕ) → (c == 128) ≡ t → (c ≡ 128 → 128 ≤ d) → (if t then 128 else 0) ≤ d
nine_least true c d e f = f (grind (arith, nat_tests))
nine_least false c d e f = omega arith

record SplitNine (n : ℕ) : Type 0 where
  second : 128 ≤ (n + 2 ^ 63) / 256 ^ 7 % 256
  third : (n + 2 ^ 63) / 256 ^ 7 % 256 ≡ 128 → 128 ≤ (n + 2 ^ 63) / 256 ^ 6 % 256
  whole : n ≡ (((n + 2 ^ 63) / 256 ^ 7 % 256 - 128) * 256 + (n + 2 ^ 63) / 256 ^ 6 % 256) * 256 ^ 6 + (n + 2 ^ 63) % 256 ^ 6

split_nine : (n : ℕ) → 2 ^ 55 ≤ n → n < 2 ^ 63 → SplitNine n
split_nine n f h = record { second = omega arith; third = λ e. omega arith; whole = omega arith }

long_nine : (n : ℕ) → 2 ^ 55 ≤ n → n < 2 ^ 63 → IsLong n (255 ∷ bytes_high_first 8 (n + 2 ^ 63))
long_nine n f h =
    let m = n + 2 ^ 63 in
    let s = split_nine n f h in
    let c = byte_at 7 m in
    let d = byte_at 6 m in
    let second : 128 ≤ c = s.second in
    let less : c < 256 = mod_below (m / 256 ^ 7) 256 (omega arith) in
    let third : d < 256 = mod_below (m / 256 ^ 6) 256 (omega arith) in
    let is_nine : (6 == 6 && nat_le 128 c) ≡ true = grind (arith, nat_tests) in
    let sum : n ≡ value_from ((c - 128) * 256 + d) (bytes_high_first 6 m) = s.whole ∙ sym (from_bytes ((c - 128) * 256 + d) 6 m) in
    let last : IsNine c n (d ∷ bytes_high_first 6 m) =
    (d, d ∷ [], bytes_high_first 6 m, (is_from_by (if c == 128 then 128 else 0) d (nine_least (c == 128) c d refl s.third) third, refl), (bytes_long 6 m, sum), refl) in (
      255,
      255 ∷ [],
      bytes_high_first 8 m,
      (is_from_by 128 255 (omega arith) (omega arith), refl),
      (c, c ∷ [], d ∷ bytes_high_first 6 m, (is_from_by (least_second 7 255) c (omega arith) less, refl), subst (λ (y : Bool). IsThirdBy y 6 255 c n (d ∷ bytes_high_first 6 m)) (sym is_nine) last, refl),
      refl,
    )

long_by : (n : ℕ) (l : List ℕ) → n < 2 ^ 63 → Form n l → IsLong n l
long_by n l h (few k hk e f t) = subst (IsLong n) (sym e) (long_few k n hk f t)
long_by n l h (nine e b) = subst (IsLong n) (sym e) (long_nine n b h)

pub long_all : (n : ℕ) → n < 2 ^ 63 → IsLong n (long_bytes n)
long_all n h = long_by n (long_bytes n) h (form n)
