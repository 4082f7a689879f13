-- What was there stays in front.
use Rattle.std.proofs.Common.{◌≡◌, ℕ, ◌≤◌, List, ◌++◌, length, take, refl, sym, ◌∙◌, ap, arith}
use Rattle.std.proofs.lemmas.List.{take-take, take_at, length-take}

pub still : (a b c : List ℕ) → take (length b) c ≡ b → take (length a) b ≡ a → take (length a) c ≡ a
still a b c h k =
    let l : length a ≤ length b = omega (arith, simp length-take at (ap length k)) in
    sym (take-take (length a) (length b) c l) ∙ ap (take (length a)) h ∙ k

pub in_front : (a b more : List ℕ) → b ≡ a ++ more → take (length a) b ≡ a
in_front a b more e = ap (take (length a)) e ∙ take_at a more (length a) refl
