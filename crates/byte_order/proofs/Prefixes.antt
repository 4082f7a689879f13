-- Prefixes, and the test that finds them.
use Rattle.std.proofs.Common.{◌≡◌, ℕ, Bool, true, false, List, [], ◌∷◌, ◌++◌, arith, refl, ap, sym, ◌∙◌}
use Rattle.std.specs.Prelude.{nat_eq, ◌&&◌}
use Rattle.std.specs.List.{starts_with}
use Rattle.std.proofs.lemmas.Bool.Decides.{nat_tests}
use Rattle.byte_order.specs.Strings.{IsPrefix}

both : (p q : Bool) → (p && q) ≡ true → (p ≡ true) × (q ≡ true)
both true q h = (refl, h)
both false q h = cc

same : (x y : ℕ) → nat_eq x y ≡ true → x ≡ y
same x y h = grind (arith, nat_tests)

self : (x : ℕ) → nat_eq x x ≡ true
self x = grind (arith, nat_tests)

pub found : (a b : List ℕ) → starts_with nat_eq b a ≡ true → IsPrefix a b
found [] b h = (b, refl)
found (x ∷ a) [] h = cc
found (x ∷ a) (y ∷ b) h =
    let parts = both (nat_eq x y) (starts_with nat_eq b a) h in
    let rest = found a b parts.1 in
    (rest.0, ap (λ z. z ∷ b) (sym (same x y parts.0)) ∙ ap (λ l. x ∷ l) rest.1)

more : (a tail : List ℕ) → starts_with nat_eq (a ++ tail) a ≡ true
more [] tail = refl
more (x ∷ a) tail = ap (λ t. t && starts_with nat_eq (a ++ tail) a) (self x) ∙ more a tail

pub all : (a b : List ℕ) → IsPrefix a b → starts_with nat_eq b a ≡ true
all a b p = ap (λ l. starts_with nat_eq l a) p.1 ∙ more a p.0

-- ---- the parts of a list

pub head_is : (a b : ℕ) (xs ys : List ℕ) → ◌≡◌ {A = List ℕ} (a ∷ xs) (b ∷ ys) → a ≡ b
head_is a b xs ys e = cc

pub tail_is : (a b : ℕ) (xs ys : List ℕ) → ◌≡◌ {A = List ℕ} (a ∷ xs) (b ∷ ys) → xs ≡ ys
tail_is a b xs ys e = cc
