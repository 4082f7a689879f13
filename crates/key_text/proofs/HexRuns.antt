-- The hexadecimal digits at the front of bytes, and what is read of them.
use Rattle.std.proofs.Common.{◌≡◌, ℕ, zero, suc, ◌+◌, ◌-◌, ◌%◌, ◌≤◌, ◌<◌, ◌⊎◌, inl, inr, slice_index, Bool, true, false, cond, List, [], ◌∷◌, ◌++◌, length, take, drop, Option, Some, None, unwrap_or, Result, Ok, Err, refl, sym, ap, ◌∙◌, arith}
use Rattle.std.specs.Prelude.{not}
use Rattle.std.specs.List.{AllByRecursion, position_from}
use Rattle.std.proofs.lemmas.List.{append_assoc}
use Rattle.std.proofs.Math.Seq.{take-length, drop-length}
use Rattle.std.specs.List.{AllPass}
use Rattle.hex.specs.Hex.{decode_of, is_hex_digit}
use Rattle.hex.specs.declared.error.FromHexError.{FromHexError}
use Rattle.hex.specs.declared.error.FromHexError.TheVariants.{InvalidHexCharacter, OddLength, OutOfMemory}
use Rattle.hex.proofs.HexLemmas.{decode_of-err}
use Rattle.grammar.specs.Exact.{NextIs}
use Rattle.grammar.specs.Reading.{onto}
use Rattle.key_types.specs.Literals.{hex_digits}
use Rattle.key_text.specs.Reading.{hex_at, low_at}
use Rattle.key_text.specs.Tokens.{AreHex, hex_value, is_hex}

abbrev pub AreDigits : List ℕ → Type 0
AreDigits bs = AllByRecursion (λ b. is_hex b ≡ true) bs

abbrev pub EndsDigits : List ℕ → Type 0
EndsDigits bs = NextIs (λ b. is_hex b ≡ false) bs

-- ---- where the digits end

-- so many digits stand at the front, and no more
record Run (i at : ℕ) (bs : List ℕ) : Type 0 where
  pub steps : ℕ
  pub place : at ≡ i + steps
  pub within : steps ≤ length bs
  pub digits : AreDigits (take steps bs)
  pub behind : EndsDigits (drop steps bs)

abbrev Runs : ℕ → List ℕ → Option ℕ → Type 0
Runs i bs None = AreDigits bs
Runs i bs (Some at) = Run i at bs

longer : (i b : ℕ) (bs : List ℕ) (o : Option ℕ) → is_hex b ≡ true → Runs (i + 1) bs o → Runs i (b ∷ bs) o
longer i b bs None e all = (e, all)
longer i b bs (Some at) e run = record { steps = suc run.steps; place = omega (arith, run.place); within = omega (arith, run.within); digits = (e, run.digits); behind = run.behind }

runs_by : (t : Bool) (i b : ℕ) (bs : List ℕ) (o : Option ℕ) → is_hex b ≡ t → Runs (i + 1) bs o → Runs i (b ∷ bs) (cond (not t) (Some i) o)
runs_by true i b bs o e run = longer i b bs o e run
runs_by false i b bs o e run = record { steps = 0; place = omega arith; within = omega arith; digits = tt; behind = e }

runs : (i : ℕ) (bs : List ℕ) → Runs i bs (position_from (λ b. not (is_hex b)) i bs)
runs i [] = tt
runs i (b ∷ bs) = runs_by (is_hex b) i b bs (position_from (λ b. not (is_hex b)) (i + 1) bs) refl (runs (i + 1) bs)

-- what stands before and behind the end of the digits
pub record Splits (bs : List ℕ) (at : ℕ) : Type 0 where
  pub within : at ≤ length bs
  pub digits : AreDigits (take at bs)
  pub behind : EndsDigits (drop at bs)

pub splits : (bs : List ℕ) (o : Option ℕ) → o ≡ position_from (λ b. not (is_hex b)) 0 bs → Splits bs (unwrap_or o (length bs))
splits bs o e = rw e (by (position_from (λ b. not (is_hex b)) 0 bs) (runs 0 bs))
  where
    by : (o : Option ℕ) → Runs 0 bs o → Splits bs (unwrap_or o (length bs))
    by None all = record { within = omega arith; digits = rw (take-length bs) all; behind = rw (drop-length bs) tt }
    by (Some at) run = let e : at ≡ run.steps = omega (arith, run.place) in rw e (record { within = run.within; digits = run.digits; behind = run.behind })

pub splits_at : (bs : List ℕ) (o : Option ℕ) (at : ℕ) → o ≡ position_from (λ b. not (is_hex b)) 0 bs → at ≡ unwrap_or o (length bs) → Splits bs at
splits_at bs o at e is = rw is (splits bs o e)

-- ---- what is read

none_read : (rest : List ℕ) → EndsDigits rest → hex_at rest ≡ Ok ([], rest)
none_read [] h = refl
none_read (b ∷ bs) h = rw h refl

-- the bytes that the digits spell
pub even_read : (bytes digits rest : List ℕ) → AreHex bytes digits → EndsDigits rest → hex_at (digits ++ rest) ≡ Ok (bytes, rest)
even_read [] digits rest e h = rw e (none_read rest h)
even_read (b ∷ bs) digits rest (high, low, more, e, first, second, byte, behind) h =
    rw (e, first, second, even_read bs more rest behind h) (ap (λ (v : ℕ). Ok (v ∷ bs, rest)) (sym byte))

odd_end : (high : ℕ) (rest : List ℕ) → EndsDigits rest → low_at high rest ≡ Err (length rest)
odd_end high [] h = refl
odd_end high (b ∷ bs) h = rw h (ap Err (let one : length bs + 1 ≡ suc (length bs) = omega arith in one))

-- a digit that is left over
pub odd_read : (digits rest : List ℕ) → AreDigits digits → length digits % 2 ≡ 1 → EndsDigits rest → hex_at (digits ++ rest) ≡ Err (length rest)
odd_read [] rest all odd h = absurd (let no : 0 ≡ 1 = odd in cc)
odd_read (a ∷ []) rest (first, all) odd h = rw first (odd_end (hex_value a) rest h)
odd_read (a ∷ b ∷ digits) rest (first, (second, all)) odd h =
    let fewer : length digits % 2 ≡ 1 = omega (arith, odd) in rw (first, second, odd_read digits rest all fewer h) refl

-- the kit finds an odd number of digits only where there is one
pub odd_text : (digits : List ℕ) (e : FromHexError) → e ≡ OddLength → (e ≡ OutOfMemory) ⊎ (decode_of digits ≡ Err e) → length digits % 2 ≡ 1
odd_text digits e is (inl memory) = let no : OddLength ≡ OutOfMemory = sym is ∙ memory in cc
odd_text digits e is (inr refused) = by (decode_of-err digits e refused)
  where
    by : ((length digits % 2 ≡ 1) × (e ≡ OddLength))
        ⊎ ((k : ℕ) × (e ≡ InvalidHexCharacter (slice_index digits k) (0 + k)) × (k < length digits) × (is_hex_digit (slice_index digits k) ≡ false) × AllPass is_hex_digit (take k digits))
        → length digits % 2 ≡ 1
    by (inl odd) = odd.0
    by (inr found) = let no : OddLength ≡ InvalidHexCharacter (slice_index digits found.0) (0 + found.0) = sym is ∙ found.1 in cc

-- ---- what is written

pub digits_behind : (a b : List ℕ) → hex_digits (a ++ b) ≡ hex_digits a ++ hex_digits b
digits_behind [] b = refl
digits_behind (x ∷ a) b = rw (digits_behind a b) refl

pub pieces_behind : (old out more bytes rest piece after : List ℕ) → out ++ hex_digits rest ≡ old ++ hex_digits bytes → rest ≡ piece ++ after → more ≡ out ++ hex_digits piece
    → more ++ hex_digits after ≡ old ++ hex_digits bytes
pieces_behind old out more bytes rest piece after told parts made =
    ap (λ (l : List ℕ). l ++ hex_digits after) made
    ∙ append_assoc out (hex_digits piece) (hex_digits after)
    ∙ ap (λ (l : List ℕ). out ++ l) (sym (digits_behind piece after) ∙ ap hex_digits (sym parts))
    ∙ told
