-- The digits of a number, and the rows of a script, one after the other.
use Rattle.std.proofs.Common.{◌≡◌, ◌<◌, ◌+◌, ◌-◌, ◌*◌, ◌/◌, ◌%◌, ◌^◌, ℕ, zero, suc, List, [], ◌∷◌, ◌++◌, refl, ◌∙◌, ap, arith, append_assoc}
use Rattle.std.proofs.lemmas.List.{append-nil}
use Rattle.key_types.specs.Literals.{hex_digit}
use Rattle.script_text.specs.Generator.{hexadecimal, number_at, next_number, generated_row, first_rows}

pub next_digit : (out pushed : List ℕ) (left n : ℕ) → 0 < left → pushed ≡ out ++ hex_digit (n / 2 ^ (4 * (left - 1)) % 16) ∷ [] → pushed ++ hexadecimal (left - 1) n ≡ out ++ hexadecimal left n
unfolding hexadecimal
next_digit out pushed zero n l e = absurd (omega arith)
next_digit out pushed (suc k) n l e =
    let same : suc k - 1 ≡ k = omega arith in
    ap (λ x. x ++ hexadecimal (suc k - 1) n) e ∙ append_assoc out (hex_digit (n / 2 ^ (4 * (suc k - 1)) % 16) ∷ []) (hexadecimal (suc k - 1) n) ∙ ap (λ j. out ++ hex_digit (n / 2 ^ (4 * j) % 16) ∷ hexadecimal j n) same

pub no_digit : (out : List ℕ) (n : ℕ) → out ++ hexadecimal 0 n ≡ out
unfolding hexadecimal
no_digit out n = append-nil out

-- no rows, and one more
pub no_rows : (seed count gets : ℕ) → first_rows seed count gets 0 ≡ []
unfolding first_rows
no_rows seed count gets = refl

pub next_row : (seed count gets row : ℕ) → first_rows seed count gets (row + 1) ≡ first_rows seed count gets row ++ generated_row count gets row (number_at seed (row + 1))
unfolding first_rows
next_row seed count gets row = let same : row + 1 ≡ suc row = omega arith in ap (first_rows seed count gets) same

-- the next number
pub number_next : (seed i : ℕ) → number_at seed (i + 1) ≡ next_number (number_at seed i)
number_next seed i = let same : i + 1 ≡ suc i = omega arith in ap (number_at seed) same
