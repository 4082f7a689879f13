-- What a word of a sparse cell finds, and the word with a child more.
use Rattle.std.proofs.Common.{◌≡◌, ◌≢◌, ℕ, zero, suc, ◌+◌, ◌*◌, ◌/◌, ◌%◌, ◌^◌, ◌<◌, ◌≤◌, ◌==◌, List, [], ◌∷◌, ◌++◌, length, take, map, get_or, Some, None, refl, sym, ap, ◌∙◌, subst, arith, eq-eqb, ne_eqb, eqb-true}
use Rattle.std.proofs.lemmas.Bool.{eqb-false}
use Rattle.std.proofs.lemmas.List.{get_or-take}
use Rattle.std.proofs.Math.Seq.{take-suc}
use Rattle.std.proofs.lemmas.List.FromFn.{length-range_with_len, get_or-range_with_len}
use Rattle.std.specs.List.{position_from, range_with_len, All}
use Rattle.std.specs.List.Sorted.{IsPermutation}
use Rattle.std.proofs.lemmas.List.Sorted.{IsPermutation-push_more, All-permutation}
use Rattle.cell_layout.specs.Words.{byte_of, with_byte}
use Rattle.cell_layout.specs.Slots.{digits, number_of, slots_of, slot_bytes, slot_at, child_count, child_bytes, insert_slot, word_with, Ascends, IsSparse, AddsChild}
use Rattle.cell_layout.proofs.Positions.{IsFound, found, missed, pushed_new, pushed_other}
use Rattle.cell_layout.proofs.Digits.{AreDigits, digits_are, digits-number}
use Rattle.cell_layout.proofs.Bytes.{set_here, set_other}
use Rattle.cell_layout.proofs.Inserted.{length-insert_slot, permutes, digits-insert_slot, Lacks, SameBytes, map-insert_slot, ascends-insert_byte, range_more}

-- the bytes of the six slots, by index
pub get_or-slot_bytes : (w k : ℕ) → k < 6 → get_or (slot_bytes w) k 0 ≡ byte_of w k
unfolding slot_bytes
get_or-slot_bytes w zero l = refl
get_or-slot_bytes w (suc zero) l = refl
get_or-slot_bytes w (suc (suc zero)) l = refl
get_or-slot_bytes w (suc (suc (suc zero))) l = refl
get_or-slot_bytes w (suc (suc (suc (suc zero)))) l = refl
get_or-slot_bytes w (suc (suc (suc (suc (suc zero))))) l = refl
get_or-slot_bytes w (suc (suc (suc (suc (suc (suc k)))))) l = absurd (omega arith)

length-slot_bytes : (w : ℕ) → length (slot_bytes w) ≡ 6
unfolding slot_bytes
length-slot_bytes w = refl

length_taken : (n : ℕ) (xs : List ℕ) → length (take n xs) ≤ length xs × (length (take n xs) ≤ n)
length_taken zero xs = (omega arith, omega arith)
length_taken (suc n) [] = (omega arith, omega arith)
length_taken (suc n) (x ∷ xs) = let h = length_taken n xs in (omega (arith, h.0), omega (arith, h.1))

length_whole : (n : ℕ) (xs : List ℕ) → n ≤ length xs → length (take n xs) ≡ n
length_whole zero xs l = refl
length_whole (suc n) [] l = absurd (omega arith)
length_whole (suc n) (x ∷ xs) l = ap (λ (x : ℕ). suc x) (length_whole n xs (omega arith))

pub length-child_bytes : (w : ℕ) → child_count w ≤ 6 → length (child_bytes w) ≡ child_count w
length-child_bytes w l = length_whole (child_count w) (slot_bytes w) (omega (arith, length-slot_bytes w))

-- the byte of a taken slot
byte_at : (w k : ℕ) → k < length (child_bytes w) → (k < 6) × (k < child_count w) × (get_or (child_bytes w) k 0 ≡ byte_of w k)
byte_at w k l = let h = length_taken (child_count w) (slot_bytes w) in let six : k < 6 = omega (arith, h.0, length-slot_bytes w) in let taken : k < child_count w = omega (arith, h.1) in
    (six, taken, get_or-take (child_count w) (slot_bytes w) k 0 taken ∙ get_or-slot_bytes w k six)

pub slot_is : (word b s : ℕ) → slot_at word b ≡ Some s → (s < 6) × (s < child_count word) × (byte_of word s ≡ b) × ((t : ℕ) → t < s → byte_of word t ≢ b)
unfolding slot_at
slot_is word b s e = let f : IsFound (λ (x : ℕ). x == b) 0 (child_bytes word) s = found (λ (x : ℕ). x == b) 0 (child_bytes word) s e in
    let h = byte_at word f.at f.inside in let same : s ≡ f.at = omega (arith, f.is) in (
      omega (arith, h.0),
      omega (arith, h.1),
      ap (λ (x : ℕ). byte_of word x) same ∙ (sym h.2 ∙ eqb-true (get_or (child_bytes word) f.at 0) b f.passes),
      λ t l z. let k = byte_at word t (omega (arith, f.inside)) in eqb-false (get_or (child_bytes word) t 0) b (f.first t (omega arith)) (k.2 ∙ z),
    )

-- what the word finds once a child was added in the least free slot
pub added_new : (w v b : ℕ) → child_count w ≤ 6 → child_bytes v ≡ child_bytes w ++ b ∷ [] → slot_at w b ≡ None → slot_at v b ≡ Some (child_count w)
unfolding slot_at
added_new w v b l e n = ap (λ (xs : List ℕ). position_from (λ x. x == b) 0 xs) e ∙ pushed_new (λ (x : ℕ). x == b) 0 (child_bytes w) b (child_count w) (eq-eqb b b refl) n (let k = length-child_bytes w l in omega (arith, k))

pub added_old : (w v b x : ℕ) → child_bytes v ≡ child_bytes w ++ b ∷ [] → x ≢ b → slot_at v x ≡ slot_at w x
unfolding slot_at
added_old w v b x e ne = ap (λ (xs : List ℕ). position_from (λ y. y == x) 0 xs) e ∙ pushed_other (λ (y : ℕ). y == x) 0 (child_bytes w) b (ne_eqb b x (λ z. ne (sym z)))

-- bytes of a word below its order word
below_order : (x o j : ℕ) → j < 6 → byte_of (x % 2 ^ 48 + o * 2 ^ 48) j ≡ byte_of x j
below_order x o zero l = let e : (x % 2 ^ 48 + o * 2 ^ 48) / 2 ^ 0 % 256 ≡ x / 2 ^ 0 % 256 = omega arith in e
below_order x o (suc zero) l = let e : (x % 2 ^ 48 + o * 2 ^ 48) / 2 ^ 8 % 256 ≡ x / 2 ^ 8 % 256 = omega arith in e
below_order x o (suc (suc zero)) l = let e : (x % 2 ^ 48 + o * 2 ^ 48) / 2 ^ 16 % 256 ≡ x / 2 ^ 16 % 256 = omega arith in e
below_order x o (suc (suc (suc zero))) l = let e : (x % 2 ^ 48 + o * 2 ^ 48) / 2 ^ 24 % 256 ≡ x / 2 ^ 24 % 256 = omega arith in e
below_order x o (suc (suc (suc (suc zero)))) l = let e : (x % 2 ^ 48 + o * 2 ^ 48) / 2 ^ 32 % 256 ≡ x / 2 ^ 32 % 256 = omega arith in e
below_order x o (suc (suc (suc (suc (suc zero))))) l = let e : (x % 2 ^ 48 + o * 2 ^ 48) / 2 ^ 40 % 256 ≡ x / 2 ^ 40 % 256 = omega arith in e
below_order x o (suc (suc (suc (suc (suc (suc j)))))) l = absurd (omega arith)

low_part : (x j : ℕ) → j < 6 → byte_of (x % 2 ^ 48) j ≡ byte_of x j
low_part x j l = let z : x % 2 ^ 48 + 0 * 2 ^ 48 ≡ x % 2 ^ 48 = omega arith in ap (λ (y : ℕ). byte_of y j) (sym z) ∙ below_order x 0 j l

small_word : (x n b : ℕ) → x < 2 ^ 48 → n < 6 → b < 256 → with_byte x n b < 2 ^ 48
small_word x zero b l s t = let e : x / 2 ^ 8 * 2 ^ 8 + b * 2 ^ 0 + x % 2 ^ 0 < 2 ^ 48 = omega arith in e
small_word x (suc zero) b l s t = let e : x / 2 ^ 16 * 2 ^ 16 + b * 2 ^ 8 + x % 2 ^ 8 < 2 ^ 48 = omega arith in e
small_word x (suc (suc zero)) b l s t = let e : x / 2 ^ 24 * 2 ^ 24 + b * 2 ^ 16 + x % 2 ^ 16 < 2 ^ 48 = omega arith in e
small_word x (suc (suc (suc zero))) b l s t = let e : x / 2 ^ 32 * 2 ^ 32 + b * 2 ^ 24 + x % 2 ^ 24 < 2 ^ 48 = omega arith in e
small_word x (suc (suc (suc (suc zero)))) b l s t = let e : x / 2 ^ 40 * 2 ^ 40 + b * 2 ^ 32 + x % 2 ^ 32 < 2 ^ 48 = omega arith in e
small_word x (suc (suc (suc (suc (suc zero))))) b l s t = let e : x / 2 ^ 48 * 2 ^ 48 + b * 2 ^ 40 + x % 2 ^ 40 < 2 ^ 48 = omega arith in e
small_word x (suc (suc (suc (suc (suc (suc n)))))) b l s t = absurd (omega arith)

-- the new word: its order word and its bytes
module _ (w b : ℕ) (few : child_count w < 6) (byte : b < 256) where
  low : ℕ
  low = with_byte (w % 2 ^ 48) (child_count w) b

  new_order : ℕ
  new_order = number_of (insert_slot w b (child_count w) (slots_of w))

  low_small : with_byte (w % 2 ^ 48) (child_count w) b < 2 ^ 48
  low_small = small_word (w % 2 ^ 48) (child_count w) b (omega arith) few byte

  bytes_of_low : (j : ℕ) → j < 6 → byte_of (word_with w b) j ≡ byte_of (with_byte (w % 2 ^ 48) (child_count w) b) j
  unfolding word_with
  bytes_of_low j l = let x : ℕ = with_byte (w % 2 ^ 48) (child_count w) b in let o : ℕ = number_of (insert_slot w b (child_count w) (slots_of w)) in
      let same : x + o * 2 ^ 48 ≡ x % 2 ^ 48 + o * 2 ^ 48 = omega (arith, low_small) in ap (λ (y : ℕ). byte_of y j) same ∙ below_order x o j l

  pub new_byte : byte_of (word_with w b) (child_count w) ≡ b
  new_byte = bytes_of_low (child_count w) few ∙ set_here (w % 2 ^ 48) b (child_count w) few byte

  pub other_byte : (j : ℕ) → j < 6 → j ≢ child_count w → byte_of (word_with w b) j ≡ byte_of w j
  other_byte j l ne = bytes_of_low j l ∙ (set_other (w % 2 ^ 48) b (child_count w) j few l ne byte ∙ low_part w j l)

  order_is : word_with w b / 2 ^ 48 ≡ number_of (insert_slot w b (child_count w) (slots_of w))
  unfolding word_with
  order_is = omega (arith, low_small)

  are_digits : (h : w < 2 ^ 64) → AreDigits (slots_of w)
  unfolding slots_of
  are_digits h = digits_are 7 (w / 2 ^ 48) (omega arith)

  new_slots : w < 2 ^ 64 → child_count w ≢ 0 → slots_of (word_with w b) ≡ insert_slot w b (child_count w) (slots_of w)
  unfolding slots_of
  new_slots h some_ = ap (λ (x : ℕ). digits 7 x) order_is ∙ digits-number (insert_slot w b (child_count w) (slots_of w)) 7 (digits-insert_slot w b (child_count w) (slots_of w) few some_ (are_digits h)) (omega (arith, length-insert_slot w b (child_count w) (slots_of w)))

-- the first bytes of two words that agree there
taken_same : (v w n : ℕ) → n < 6 → ((j : ℕ) → j < n → byte_of v j ≡ byte_of w j) → take n (slot_bytes v) ≡ take n (slot_bytes w)
unfolding slot_bytes
taken_same v w zero l h = refl
taken_same v w (suc zero) l h = let a = h 0 (omega arith) in cc
taken_same v w (suc (suc zero)) l h = let a = h 0 (omega arith) in let b = h 1 (omega arith) in cc
taken_same v w (suc (suc (suc zero))) l h = let a = h 0 (omega arith) in let b = h 1 (omega arith) in let c = h 2 (omega arith) in cc
taken_same v w (suc (suc (suc (suc zero)))) l h = let a = h 0 (omega arith) in let b = h 1 (omega arith) in let c = h 2 (omega arith) in let d = h 3 (omega arith) in cc
taken_same v w (suc (suc (suc (suc (suc zero))))) l h = let a = h 0 (omega arith) in let b = h 1 (omega arith) in let c = h 2 (omega arith) in let d = h 3 (omega arith) in let e = h 4 (omega arith) in cc
taken_same v w (suc (suc (suc (suc (suc (suc n)))))) l h = absurd (omega arith)

pub in_range : (n : ℕ) → All (λ s. s < n) (range_with_len 0 n)
in_range n k d l = let inside : k < n = omega (arith, length-range_with_len 0 n) in omega (arith, get_or-range_with_len 0 n k d inside)

rest_of : (P : ℕ → Type 0) (x : ℕ) (xs : List ℕ) → All P (x ∷ xs) → All P xs
rest_of P x xs h k d l = h (suc k) d (omega arith)

first_of_all : (P : ℕ → Type 0) (x : ℕ) (xs : List ℕ) → All P (x ∷ xs) → P x
first_of_all P x xs h = h 0 x (omega arith)

same_bytes : (v w n : ℕ) (ds : List ℕ) → ((j : ℕ) → j < n → byte_of v j ≡ byte_of w j) → All (λ s. s < n) ds → SameBytes w v ds
same_bytes v w n [] h a = tt
same_bytes v w n (d ∷ ds) h a = (h d (first_of_all (λ s. s < n) d ds a), same_bytes v w n ds h (rest_of (λ s. s < n) d ds a))

lacks_byte : (w b n : ℕ) (ds : List ℕ) → ((j : ℕ) → j < n → byte_of w j ≢ b) → All (λ s. s < n) ds → Lacks b (map (byte_of w) ds)
lacks_byte w b n [] h a = tt
lacks_byte w b n (d ∷ ds) h a = (h d (first_of_all (λ s. s < n) d ds a), lacks_byte w b n ds h (rest_of (λ s. s < n) d ds a))

-- a byte that isn't found is in no taken slot
pub absent : (w b : ℕ) → child_count w ≤ 6 → slot_at w b ≡ None → (j : ℕ) → j < child_count w → byte_of w j ≢ b
unfolding slot_at
absent w b six n j l z = let k : j < length (child_bytes w) = omega (arith, length-child_bytes w six) in
    eqb-false (get_or (child_bytes w) j 0) b (missed (λ (x : ℕ). x == b) 0 (child_bytes w) j n k) ((byte_at w j k).2 ∙ z)

pub adds_child : (w b : ℕ) → w < 2 ^ 64 → b < 256 → child_count w < 6 → IsSparse w → slot_at w b ≡ None → AddsChild w (word_with w b) b
adds_child w b fits byte few h none_ = record { node = is_node; bytes = bytes_are; free = λ s l k. other_byte w b few byte s k (λ z. omega arith) }
  where
    some_ : child_count w ≢ 0
    some_ z = omega (arith, h.least)

    slots_are : slots_of (word_with w b) ≡ insert_slot w b (child_count w) (slots_of w)
    slots_are = new_slots w b few byte fits some_

    count_is : child_count (word_with w b) ≡ suc (child_count w)
    count_is = ap (λ (l : List ℕ). length l) slots_are ∙ length-insert_slot w b (child_count w) (slots_of w)

    kept : (j : ℕ) → j < child_count w → byte_of (word_with w b) j ≡ byte_of w j
    kept j l = other_byte w b few byte j (omega arith) (λ z. omega arith)

    inside : All (λ s. s < child_count w) (slots_of w)
    inside = All-permutation (λ s. s < child_count w) (range_with_len 0 (child_count w)) (slots_of w) h.slots (in_range (child_count w))

    bytes_are : child_bytes (word_with w b) ≡ child_bytes w ++ b ∷ []
    bytes_are = ap (λ (n : ℕ). take n (slot_bytes (word_with w b))) count_is ∙ (take-suc (slot_bytes (word_with w b)) (child_count w) 0 (omega (arith, length-slot_bytes (word_with w b)))
        ∙ (ap (λ (x : ℕ). take (child_count w) (slot_bytes (word_with w b)) ++ x ∷ []) (get_or-slot_bytes (word_with w b) (child_count w) few ∙ new_byte w b few byte)
        ∙ ap (λ (l : List ℕ). l ++ b ∷ []) (taken_same (word_with w b) w (child_count w) few kept)))

    permuted : IsPermutation (range_with_len 0 (suc (child_count w))) (insert_slot w b (child_count w) (slots_of w))
    permuted = let zero_more : 0 + child_count w ≡ child_count w = omega arith in
        subst (λ (l : List ℕ). IsPermutation l (insert_slot w b (child_count w) (slots_of w))) (ap (λ (x : ℕ). range_with_len 0 (child_count w) ++ x ∷ []) (sym zero_more) ∙ sym (range_more 0 (child_count w)))
        (IsPermutation-push_more (range_with_len 0 (child_count w)) (slots_of w) (insert_slot w b (child_count w) (slots_of w)) (child_count w) h.slots (permutes w b (child_count w) (slots_of w)))

    sorted : Ascends (map (byte_of (word_with w b)) (insert_slot w b (child_count w) (slots_of w)))
    sorted = subst Ascends (sym (map-insert_slot w (word_with w b) b (child_count w) (slots_of w) (new_byte w b few byte) (same_bytes (word_with w b) w (child_count w) (slots_of w) kept inside)))
        (ascends-insert_byte b (map (byte_of w) (slots_of w)) (lacks_byte w b (child_count w) (slots_of w) (absent w b (omega arith) none_) inside) h.ascends)

    is_node : IsSparse (word_with w b)
    is_node = record {
      least = omega (arith, count_is, h.least);
      most = omega (arith, count_is);
      slots = subst (λ (l : List ℕ). IsPermutation (range_with_len 0 (length l)) l) (sym slots_are) (subst (λ (n : ℕ). IsPermutation (range_with_len 0 n) (insert_slot w b (child_count w) (slots_of w))) (sym (length-insert_slot w b (child_count w) (slots_of w))) permuted);
      ascends = subst (λ (l : List ℕ). Ascends (map (byte_of (word_with w b)) l)) (sym slots_are) sorted;
    }

-- the word that the code makes
pub made : (w b slot x o : ℕ) → slot ≡ child_count w → x ≡ with_byte (w % 2 ^ 48) slot b → o ≡ number_of (insert_slot w b slot (digits 7 (w / 2 ^ 48))) → x + o * 2 ^ 48 ≡ word_with w b
unfolding word_with slots_of
made w b slot x o e p q = ap (λ (n : ℕ). n + o * 2 ^ 48) p ∙ (ap (λ (n : ℕ). with_byte (w % 2 ^ 48) slot b + n * 2 ^ 48) q
    ∙ ap (λ (s : ℕ). with_byte (w % 2 ^ 48) s b + number_of (insert_slot w b s (digits 7 (w / 2 ^ 48))) * 2 ^ 48) e)

pub slot_small : (word b s : ℕ) → slot_at word b ≡ Some s → s < 6
slot_small word b s e = (slot_is word b s e).0
