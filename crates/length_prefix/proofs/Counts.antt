-- Counted bytes determine what they count; bytes that are cut off begin nothing whole.
use Rattle.std.proofs.Common.{◌≡◌, ◌≢◌, ◌∙◌, ℕ, zero, suc, ◌+◌, ◌*◌, ◌-◌, ◌/◌, ◌%◌, ◌<◌, ◌≤◌, ◌^◌, List, [], ◌∷◌, ◌++◌, length, take, drop, Option, None, Some, arith, refl, ap, sym, subst, append_assoc, length-append}
use Rattle.std.specs.Prelude.{replicate, slice_index}
use Rattle.std.proofs.lemmas.List.{append-nil, take-append-drop}
use Rattle.byteorder.specs.Endian.{big_number}
use Rattle.length_prefix.specs.Counted.{stated_length, counted, IsCutOff}

-- ---- one count, one item

same_count : (m n : ℕ) → m / 256 ≡ n / 256 → m % 256 ≡ n % 256 → m ≡ n
same_count m n h l = omega arith

fronts : (a b r s : List ℕ) → length a ≡ length b → a ++ r ≡ b ++ s → (a ≡ b) × (r ≡ s)
fronts [] [] r s n e = (refl, e)
fronts [] (y ∷ b) r s n e = absurd (omega arith)
fronts (x ∷ a) [] r s n e = absurd (omega arith)
fronts (x ∷ a) (y ∷ b) r s n e =
    let tails : a ++ r ≡ b ++ s = cc in
    let lengths : length a ≡ length b = omega arith in
    let rest = fronts a b r s lengths tails in
    let same : a ≡ b = rest.0 in
    (cc, rest.1)

pub counted-same : (a b r s : List ℕ) → counted a ++ r ≡ counted b ++ s → (a ≡ b) × (r ≡ s)
counted-same a b r s e =
    let high : length a / 256 ≡ length b / 256 = cc in
    let low : length a % 256 ≡ length b % 256 = cc in
    let tails : a ++ r ≡ b ++ s = cc in
    fronts a b r s (same_count (length a) (length b) high low) tails

-- the count of counted bytes is their number
pub count_of_counted : (item rest : List ℕ) → stated_length (counted item ++ rest) ≡ Some (length item)
count_of_counted item rest = ap Some (omega arith)

-- where two bytes are there, what follows them is no matter
pub count_goes_on : (bytes more : List ℕ) → 2 ≤ length bytes → stated_length (bytes ++ more) ≡ stated_length bytes
count_goes_on [] more two = absurd (omega (arith, two))
count_goes_on (high ∷ []) more two = absurd (omega (arith, two))
count_goes_on (high ∷ low ∷ bytes) more two = refl

-- ---- bytes that begin with a count

abbrev zeros : ℕ → List ℕ
zeros n = replicate n 0

length_zeros : (n : ℕ) → length (zeros n) ≡ n
length_zeros zero = refl
length_zeros (suc n) = ap suc (length_zeros n)

length_front : (n : ℕ) (xs : List ℕ) → n ≤ length xs → length (take n xs) ≡ n
length_front zero xs h = refl
length_front (suc n) [] h = absurd (omega (arith, h))
length_front (suc n) (x ∷ xs) h = ap suc (length_front n xs (omega (arith, h)))

-- bytes of so many, behind their count
counted_as : (high low : ℕ) (item : List ℕ) → low < 256 → length item ≡ high * 256 + low → counted item ≡ high ∷ low ∷ item
counted_as high low item fits n =
    let first : length item / 256 ≡ high = omega (arith, fits, n) in
    let second : length item % 256 ≡ low = omega (arith, fits, n) in
    λ i. first i ∷ second i ∷ item

some_is : (m n : ℕ) → ◌≡◌ {A = Option ℕ} (Some m) (Some n) → m ≡ n
some_is m n e = cc

pub begins_counted : (bytes : List ℕ) (count : ℕ) → ((i : ℕ) → slice_index bytes i < 256) → Some count ≡ stated_length bytes → count ≤ length (drop 2 bytes)
    → (length (take count (drop 2 bytes)) < 2 ^ 16) × (bytes ≡ counted (take count (drop 2 bytes)) ++ drop count (drop 2 bytes))
begins_counted [] count fits is few = cc
begins_counted (high ∷ []) count fits is few = cc
begins_counted (high ∷ low ∷ bytes) count fits is few =
    let value = some_is count (high * 256 + low) is in
    let long : length (take count bytes) ≡ high * 256 + low = length_front count bytes few ∙ value in
    let first : high < 256 = fits 0 in
    let second : low < 256 = fits 1 in
    (omega (arith, long, first, second), sym (ap (λ l. l ++ drop count bytes) (counted_as high low (take count bytes) second long) ∙ ap (λ l. high ∷ low ∷ l) (take-append-drop count bytes)))

-- ---- bytes that are cut off

some_zeros : (k : ℕ) → 0 < k → zeros k ≢ []
some_zeros zero h e = omega (arith, h)
some_zeros (suc k) h e = cc

pub cut_count : (bytes : List ℕ) → ((i : ℕ) → slice_index bytes i < 256) → None ≡ stated_length bytes → IsCutOff bytes
cut_count [] fits is = ([], 0 ∷ 0 ∷ [], omega arith, (λ e. cc), refl)
cut_count (high ∷ []) fits is =
    let n : length (zeros (high * 256)) ≡ high * 256 + 0 = length_zeros (high * 256) ∙ omega arith in
    let small : high < 256 = fits 0 in
    (zeros (high * 256), 0 ∷ zeros (high * 256), omega (arith, n, small), (λ e. cc), counted_as high 0 (zeros (high * 256)) (omega arith) n)
cut_count (high ∷ low ∷ bytes) fits is = cc

pub cut_item : (bytes : List ℕ) (count : ℕ) → ((i : ℕ) → slice_index bytes i < 256) → Some count ≡ stated_length bytes → length (drop 2 bytes) < count → IsCutOff bytes
cut_item [] count fits is few = cc
cut_item (high ∷ []) count fits is few = cc
cut_item (high ∷ low ∷ bytes) count fits is few =
    let rest = zeros (count - length bytes) in
    let small : high < 256 = fits 0 in
    let byte : low < 256 = fits 1 in
    let value = some_is count (high * 256 + low) is in
    let n : length (bytes ++ rest) ≡ high * 256 + low =
    length-append bytes rest ∙ ap (λ k. length bytes + k) (length_zeros (count - length bytes)) ∙ omega (arith, few, value) in
    (bytes ++ rest, rest, omega (arith, n, small, byte), some_zeros (count - length bytes) (omega (arith, few)), counted_as high low (bytes ++ rest) byte n)

-- nothing is behind a whole item
pub nothing_more : (xs ys : List ℕ) → [] ≡ xs ++ ys → ys ≡ []
nothing_more [] ys e = sym e
nothing_more (x ∷ xs) ys e = cc

pub not_cut_off : (bytes item rest : List ℕ) → IsCutOff bytes → bytes ≡ counted item ++ rest → ⊥
not_cut_off bytes item rest (whole, more, fits, some, e) at =
    let joined : counted whole ++ [] ≡ counted item ++ (rest ++ more) =
    append-nil (counted whole) ∙ e ∙ ap (λ l. l ++ more) at ∙ append_assoc (counted item) rest more in
    some (nothing_more rest more (counted-same whole item [] (rest ++ more) joined).1)
