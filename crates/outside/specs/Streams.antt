-- What a pull and a push do to the bytes, where they are told.
use Rattle.std.specs.Prelude.{◌≡◌, ℕ, ◌≤◌, List, [], ◌++◌, length, take, Option, Result, MatchResult}
use Rattle.outside.specs.Told.{WhereTold}

-- At Ok n the first n bytes of into were taken from the front, none of them only at the end. A failed pull takes nothing.
abbrev pub Pulls : {E : Type 0} → Option (List ℕ) → Option (List ℕ) → Result ℕ E → List ℕ → Type 0
Pulls old new result into =
    WhereTold old new (λ xs ys. MatchResult result (λ n. (xs ≡ take n into ++ ys) × (n ≡ 0 → xs ≡ [])) (λ _. ys ≡ xs))

-- At Ok the whole piece stands at the end, and otherwise a prefix of it.
abbrev pub Pushes : {T E : Type 0} → Option (List ℕ) → Option (List ℕ) → Result T E → List ℕ → Type 0
Pushes old new result piece =
    WhereTold old new (λ xs ys. MatchResult result (λ _. ys ≡ xs ++ piece) (λ _. (k : ℕ) × (k ≤ length piece) × (ys ≡ xs ++ take k piece)))
