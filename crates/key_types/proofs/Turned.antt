-- The complements of the bytes, as far as a loop has come.
use Rattle.std.proofs.Common.{◌≡◌, ℕ, zero, suc, ◌+◌, ◌-◌, ◌<◌, List, [], ◌∷◌, ◌++◌, length, map, take, drop, get_or, refl, ap, arith, add-one, sym, ◌∙◌}
use Rattle.std.proofs.Math.ListN.{set}

abbrev pub turned : ℕ → List ℕ → List ℕ
turned i xs = map (λ b. 255 - b) (take i xs) ++ drop i xs

one_more : (i : ℕ) (xs : List ℕ) → i < length xs → set (turned i xs) i (255 - get_or (turned i xs) i 0) ≡ turned (suc i) xs
one_more i [] h = absurd (omega arith)
one_more zero (x ∷ xs) h = refl
one_more (suc i) (x ∷ xs) h = ap (λ l. (255 - x) ∷ l) (one_more i xs (omega arith))

pub next : (i : ℕ) (xs ys : List ℕ) → i < length xs → ys ≡ turned i xs → set ys i (255 - get_or ys i 0) ≡ turned (i + 1) xs
next i xs ys h e = ap (λ l. set l i (255 - get_or l i 0)) e ∙ one_more i xs h ∙ ap (λ k. turned k xs) (sym (add-one i))
