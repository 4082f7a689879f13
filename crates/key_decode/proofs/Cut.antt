-- Numbers of so many bytes, which are cut off.
use Rattle.std.proofs.Common.{◌≡◌, ℕ, zero, suc, ◌+◌, ◌-◌, ◌*◌, ◌<◌, ◌≤◌, Bool, true, false, List, [], ◌∷◌, ◌++◌, length, take, drop, get_or, Ok, Err, arith, refl, sym, ◌∙◌, ap, add-one}
use Rattle.std.proofs.lemmas.List.{append-nil, drop-map, take-append-drop}
use Rattle.std.proofs.Math.Seq.{drop-cons}
use Rattle.key_decode.specs.Reading.{byte_complement, complemented, seen, unsigned_at}
use Rattle.key_decode.proofs.Turn.{both}
use Rattle.key_decode.proofs.Room.{number_next}
use Rattle.key_decode.proofs.Exact.{any, number_exact}

-- ---- bytes as they stand, or their complements

seen_more : (t : Bool) (b s : ℕ) (bs : List ℕ) → seen t (b ∷ []) ≡ s ∷ [] → seen t (b ∷ bs) ≡ s ∷ seen t bs
seen_more true b s bs e = let same : byte_complement b ≡ s = cc in ap (λ x. x ∷ complemented bs) same
seen_more false b s bs e = let same : b ≡ s = cc in ap (λ x. x ∷ bs) same

pub seen_drop : (t : Bool) (k : ℕ) (bs : List ℕ) → drop k (seen t bs) ≡ seen t (drop k bs)
seen_drop true k bs = drop-map byte_complement k bs
seen_drop false k bs = refl

seen_both : (t : Bool) (xs ys : List ℕ) → seen t (xs ++ ys) ≡ seen t xs ++ seen t ys
seen_both true xs ys = both xs ys
seen_both false xs ys = refl

-- ---- enough bytes, and too few

pub number_enough : (k n : ℕ) (bs : List ℕ) → k ≤ length bs → (m : ℕ) × (unsigned_at k n bs ≡ Ok (m, drop k bs))
number_enough zero n bs h = (n, refl)
number_enough (suc k) n [] h = absurd (omega arith)
number_enough (suc k) n (b ∷ bs) h = number_enough k (n * 256 + b) bs (omega arith)

pub number_few : (k n : ℕ) (bs : List ℕ) → length bs < k → unsigned_at k n bs ≡ Err 0
number_few zero n bs h = absurd (omega arith)
number_few (suc k) n [] h = refl
number_few (suc k) n (b ∷ bs) h = number_few k (n * 256 + b) bs (omega arith)

-- ---- digit by digit

-- one digit more
pub digit_next : (t : Bool) (bs : List ℕ) (i b s n : ℕ) → i < length bs → get_or bs i 0 ≡ b → seen t (b ∷ []) ≡ s ∷ []
    → unsigned_at (length bs - (i + 1)) (n * 256 + s) (seen t (drop (i + 1) bs)) ≡ unsigned_at (length bs - i) n (seen t (drop i bs))
digit_next t bs i b s n less is e =
    number_next (length bs - i) (length bs - (i + 1)) n s (seen t (drop i bs)) (seen t (drop (i + 1) bs)) (omega arith)
    (ap (seen t) (drop-cons bs i 0 less ∙ ap (λ x. x ∷ drop (suc i) bs) is) ∙ seen_more t b s (drop (suc i) bs) e ∙ ap (λ j. s ∷ seen t (drop j bs)) (sym (add-one i)))

-- the digits, and the bytes behind them
number_behind : (k n m : ℕ) (xs ys : List ℕ) → unsigned_at k n xs ≡ Ok (m, []) → unsigned_at k n (xs ++ ys) ≡ Ok (m, ys)
number_behind k n m xs ys h =
    let p = (number_exact k n).found xs m [] h in
    ap (λ l. unsigned_at k n (l ++ ys)) (p.1 ∙ append-nil p.0) ∙ (number_exact k n).all m p.0 ys p.2 (any [] ys)

pub number_cut : (t : Bool) (k n m : ℕ) (bytes digits rest : List ℕ) → digits ≡ take k bytes → rest ≡ drop k bytes → length digits ≡ k → unsigned_at (length digits) n (seen t digits) ≡ Ok (m, [])
    → unsigned_at k n (seen t bytes) ≡ Ok (m, seen t rest)
number_cut t k n m bytes digits rest front back long h =
    let parts : bytes ≡ digits ++ rest = sym (take-append-drop k bytes) ∙ ap (λ l. l ++ drop k bytes) (sym front) ∙ ap (λ l. digits ++ l) (sym back) in
    ap (λ l. unsigned_at k n (seen t l)) parts ∙ ap (unsigned_at k n) (seen_both t digits rest)
    ∙ number_behind k n m (seen t digits) (seen t rest) (ap (λ j. unsigned_at j n (seen t digits)) (sym long) ∙ h)
