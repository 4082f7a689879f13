-- Payload numbers are read as they were spelled, in the fewest bytes.
use Rattle.std.proofs.Common.{◌≡◌, ℕ, zero, suc, ◌-◌, ◌*◌, ◌^◌, ◌<◌, ◌≤◌, Bool, true, false, [], length, refl, sym, ◌∙◌, ap, arith}
use Rattle.std.proofs.lemmas.List.{append-nil}
use Rattle.std.proofs.lemmas.Bool.Decides.{nat_tests}
use Rattle.std.proofs.lemmas.Int.{ints}
use Rattle.std.specs.Prelude.{if◌then◌else◌, nat_lt, ℤ, pos, negsuc, ◌-ℤ◌}
use Rattle.byteorder.specs.Endian.{big_number, big_bytes, twos_complement}
use Rattle.byteorder.specs.Numbers.{big_number-reads_back, length-bytes_high_first}
use Rattle.bti_nodes.specs.Payloads.{bytes_for, unsigned_bytes, signed_bytes, doubled, IsFewest, IsUnsigned, IsSigned, NumbersRead}

-- one to seven bytes that hold the number, and no fewer
pub record Counted (n k : ℕ) : Type 0 where
  pub some : (1 ≤ k) × (k ≤ 7)
  pub fits : n < 256 ^ k
  pub half : 2 ^ (8 * k) ≡ 2 * 2 ^ (8 * k - 1)
  pub whole : 2 ^ (8 * k) ≡ 256 ^ k

counted_by : (a b c d e f : Bool) (n : ℕ) → n < 2 ^ 56 → nat_lt n (2 ^ 8) ≡ a → nat_lt n (2 ^ 16) ≡ b → nat_lt n (2 ^ 24) ≡ c → nat_lt n (2 ^ 32) ≡ d → nat_lt n (2 ^ 40) ≡ e → nat_lt n (2 ^ 48) ≡ f
    → Counted n (if a then 1 else if b then 2 else if c then 3 else if d then 4 else if e then 5 else if f then 6 else 7)
counted_by true b c d e f n h p q r s t u = record { some = (omega arith, omega arith); fits = grind (arith, nat_tests); half = refl; whole = refl }
counted_by false true c d e f n h p q r s t u = record { some = (omega arith, omega arith); fits = grind (arith, nat_tests); half = refl; whole = refl }
counted_by false false true d e f n h p q r s t u = record { some = (omega arith, omega arith); fits = grind (arith, nat_tests); half = refl; whole = refl }
counted_by false false false true e f n h p q r s t u = record { some = (omega arith, omega arith); fits = grind (arith, nat_tests); half = refl; whole = refl }
counted_by false false false false true f n h p q r s t u = record { some = (omega arith, omega arith); fits = grind (arith, nat_tests); half = refl; whole = refl }
counted_by false false false false false true n h p q r s t u = record { some = (omega arith, omega arith); fits = grind (arith, nat_tests); half = refl; whole = refl }
counted_by false false false false false false n h p q r s t u = record { some = (omega arith, omega arith); fits = omega arith; half = refl; whole = refl }

pub counted : (n : ℕ) → n < 2 ^ 56 → Counted n (bytes_for n)
counted n h = counted_by (nat_lt n (2 ^ 8)) (nat_lt n (2 ^ 16)) (nat_lt n (2 ^ 24)) (nat_lt n (2 ^ 32)) (nat_lt n (2 ^ 40)) (nat_lt n (2 ^ 48)) n h refl refl refl refl refl refl

upto : (a b c d : Bool) (x k : ℕ) → 5 ≤ k → x ≤ k → (if a then 1 else if b then 2 else if c then 3 else if d then 4 else x) ≤ k
upto true b c d x k l h = omega arith
upto false true c d x k l h = omega arith
upto false false true d x k l h = omega arith
upto false false false true x k l h = omega arith
upto false false false false x k l h = h

-- a count of bytes that is passed over can't hold the number
fewest_by : (a b c d e f : Bool) (n j : ℕ) → nat_lt n (2 ^ 8) ≡ a → nat_lt n (2 ^ 16) ≡ b → nat_lt n (2 ^ 24) ≡ c → nat_lt n (2 ^ 32) ≡ d → nat_lt n (2 ^ 40) ≡ e → nat_lt n (2 ^ 48) ≡ f → 1 ≤ j → n < 256 ^ j
    → (if a then 1 else if b then 2 else if c then 3 else if d then 4 else if e then 5 else if f then 6 else 7) ≤ j
fewest_by a b c d e f n zero p q r s t u l h = absurd (omega arith)
fewest_by true b c d e f n (suc zero) p q r s t u l h = omega arith
fewest_by false b c d e f n (suc zero) p q r s t u l h = absurd (grind (arith, nat_tests))
fewest_by true b c d e f n (suc (suc zero)) p q r s t u l h = omega arith
fewest_by false true c d e f n (suc (suc zero)) p q r s t u l h = omega arith
fewest_by false false c d e f n (suc (suc zero)) p q r s t u l h = absurd (grind (arith, nat_tests))
fewest_by true b c d e f n (suc (suc (suc zero))) p q r s t u l h = omega arith
fewest_by false true c d e f n (suc (suc (suc zero))) p q r s t u l h = omega arith
fewest_by false false true d e f n (suc (suc (suc zero))) p q r s t u l h = omega arith
fewest_by false false false d e f n (suc (suc (suc zero))) p q r s t u l h = absurd (grind (arith, nat_tests))
fewest_by true b c d e f n (suc (suc (suc (suc zero)))) p q r s t u l h = omega arith
fewest_by false true c d e f n (suc (suc (suc (suc zero)))) p q r s t u l h = omega arith
fewest_by false false true d e f n (suc (suc (suc (suc zero)))) p q r s t u l h = omega arith
fewest_by false false false true e f n (suc (suc (suc (suc zero)))) p q r s t u l h = omega arith
fewest_by false false false false e f n (suc (suc (suc (suc zero)))) p q r s t u l h = absurd (grind (arith, nat_tests))
fewest_by a b c d true f n (suc (suc (suc (suc (suc j))))) p q r s t u l h = upto a b c d 5 _ (omega arith) (omega arith)
fewest_by a b c d false f n (suc (suc (suc (suc (suc zero))))) p q r s t u l h = absurd (grind (arith, nat_tests))
fewest_by a b c d false true n (suc (suc (suc (suc (suc (suc j)))))) p q r s t u l h = upto a b c d 6 _ (omega arith) (omega arith)
fewest_by a b c d false false n (suc (suc (suc (suc (suc (suc zero)))))) p q r s t u l h = absurd (grind (arith, nat_tests))
fewest_by a b c d false false n (suc (suc (suc (suc (suc (suc (suc j))))))) p q r s t u l h = upto a b c d 7 _ (omega arith) (omega arith)

fewest : (n : ℕ) → IsFewest n (bytes_for n)
fewest n j l h = fewest_by (nat_lt n (2 ^ 8)) (nat_lt n (2 ^ 16)) (nat_lt n (2 ^ 24)) (nat_lt n (2 ^ 32)) (nat_lt n (2 ^ 40)) (nat_lt n (2 ^ 48)) n j refl refl refl refl refl refl l h

read_back : (k n : ℕ) → n < 256 ^ k → big_number k (big_bytes k n) ≡ n
read_back k n h = ap (big_number k) (sym (append-nil (big_bytes k n))) ∙ big_number-reads_back k n [] h

unsigned : (n : ℕ) → n < 2 ^ 56 → IsUnsigned n (unsigned_bytes n)
unsigned n h =
    let k = bytes_for n in
    let long : length (big_bytes k n) ≡ k = length-bytes_high_first k n in
    record {
      reads = ap (λ j. big_number j (big_bytes k n)) long ∙ read_back k n (counted n h).fits;
      fewest = λ j l s. omega (arith, long, fewest n j l s);
    }

below : (t : Bool) (u : ℕ) (z : ℤ) → t ≡ true → (if t then pos u else z) ≡ pos u
below true u z h = refl
below false u z h = cc

above : (t : Bool) (y z : ℤ) → t ≡ false → (if t then y else z) ≡ z
above true y z h = cc
above false y z h = refl

difference : (w n : ℕ) → n < w → pos (w - 1 - n) -ℤ pos w ≡ negsuc n
difference w n h = omega (arith, ints)

positive : (n : ℕ) → 2 * n < 2 ^ 56 → IsSigned (pos n) (big_bytes (bytes_for (2 * n)) n)
positive n h =
    let k = bytes_for (2 * n) in
    let c = counted (2 * n) h in
    let long : length (big_bytes k n) ≡ k = length-bytes_high_first k n in
    let small : n < 2 ^ (8 * k - 1) = omega (arith, c.fits, c.half, c.whole) in
    let reads : big_number k (big_bytes k n) ≡ n = read_back k n (omega (arith, c.fits)) in
    record {
      reads = ap (λ j. twos_complement j (big_number j (big_bytes k n))) long ∙ ap (twos_complement k) reads ∙ below (nat_lt n (2 ^ (8 * k - 1))) n (pos n -ℤ pos (2 ^ (8 * k))) (grind (arith, nat_tests));
      fewest = λ j l s. omega (arith, long, fewest (2 * n) j l s);
    }

negative : (n : ℕ) → 2 * n < 2 ^ 56 → IsSigned (negsuc n) (let k = bytes_for (2 * n) in big_bytes k (2 ^ (8 * k) - 1 - n))
negative n h =
    let k = bytes_for (2 * n) in
    let u = 2 ^ (8 * k) - 1 - n in
    let c = counted (2 * n) h in
    let long : length (big_bytes k u) ≡ k = length-bytes_high_first k u in
    let big : 2 ^ (8 * k - 1) ≤ u = omega (arith, c.fits, c.half, c.whole) in
    let room : n < 2 ^ (8 * k) = omega (arith, c.fits, c.whole) in
    let reads : big_number k (big_bytes k u) ≡ u = read_back k u (omega (arith, c.fits, c.whole)) in
    record {
      reads = ap (λ j. twos_complement j (big_number j (big_bytes k u))) long ∙ ap (twos_complement k) reads ∙ above (nat_lt u (2 ^ (8 * k - 1))) (pos u) (pos u -ℤ pos (2 ^ (8 * k))) (grind (arith, nat_tests)) ∙ difference (2 ^ (8 * k)) n room;
      fewest = λ j l s. omega (arith, long, fewest (2 * n) j l s);
    }

signed : (z : ℤ) → doubled z < 2 ^ 56 → IsSigned z (signed_bytes z)
signed (pos n) h = positive n h
signed (negsuc n) h = negative n h

pub numbers_read : NumbersRead
numbers_read = (unsigned, signed)
