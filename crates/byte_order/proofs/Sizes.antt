-- The functions that count the bytes by which strings differ, against what the shortest prefixes are.
use Rattle.std.proofs.Common.{◌≡◌, ◌≢◌, ◌⊎◌, inl, inr, ℕ, zero, suc, ◌<◌, ◌≤◌, Bool, true, false, List, [], ◌∷◌, ◌++◌, length, take, arith, refl, ap, sym, ◌∙◌}
use Rattle.std.specs.Prelude.{max, ◌==◌, Option, Some, None, if◌then◌else◌}
use Rattle.std.proofs.lemmas.Bool.Decides.{nat_tests}
use Rattle.std.specs.declared.cmp.Ordering.TheVariants.{Less}
use Rattle.std.specs.Ordering.{nat_cmp, ordering_then}
use Rattle.key_types.specs.Table.{string_cmp}
use Rattle.byte_order.specs.Strings.{IsPrefix, IsSeparatorLength, IsUniqueLength, neighbours, separator_size, shared_beside, shared_size, unique_size}
use Rattle.byte_order.specs.Laws.{DiffersFrom, SeparatorSize, UniqueSize}
use Rattle.byte_order.proofs.Prefixes.{head_is, tail_is}
use Rattle.byte_order.proofs.Shared.{Beside, BesideSome, Shared, beside, equal_is, first_decides, greater_is, itself, rest_decides, separates, unique}

-- ---- how many bytes are alike

same_byte : (x y : ℕ) → (x == y) ≡ true → x ≡ y
same_byte x y e = grind (arith, nat_tests)

other_byte : (x y : ℕ) → (x == y) ≡ false → x ≢ y
other_byte x y e h = grind (arith, nat_tests)

pub shared_is : (a b : List ℕ) → Shared a b (shared_size a b)
shared_is [] b = record { same = refl; most = (omega arith, omega arith); differ = λ p q. absurd (omega (arith, p)) }
shared_is (x ∷ a) [] = record { same = refl; most = (omega arith, omega arith); differ = λ p q. absurd (omega (arith, q)) }
shared_is (x ∷ a) (y ∷ b) = by (x == y) refl (shared_is a b)
  where
    by : (t : Bool) → (x == y) ≡ t → Shared a b (shared_size a b) → Shared (x ∷ a) (y ∷ b) (if t then suc (shared_size a b) else 0)
    by true e s = record {
      same = ap (λ z. z ∷ take (shared_size a b) a) (same_byte x y e) ∙ ap (λ l. y ∷ l) s.same;
      most = (omega (arith, s.most.0), omega (arith, s.most.1));
      differ = λ p q. s.differ (omega (arith, p)) (omega (arith, q));
    }
    by false e s = record { same = refl; most = (omega arith, omega arith); differ = λ p q. other_byte x y e }

pub mirrored : (a b : List ℕ) → shared_size a b ≡ shared_size b a
mirrored [] [] = refl
mirrored [] (y ∷ b) = refl
mirrored (x ∷ a) [] = refl
mirrored (x ∷ a) (y ∷ b) = by (x == y) (y == x) refl refl (mirrored a b)
  where
    by : (s t : Bool) → (x == y) ≡ s → (y == x) ≡ t → shared_size a b ≡ shared_size b a
        → (if s then suc (shared_size a b) else 0) ≡ (if t then suc (shared_size b a) else 0)
    by true true e f rest = ap suc rest
    by true false e f rest = absurd (other_byte y x f (sym (same_byte x y e)))
    by false true e f rest = absurd (other_byte x y e (sym (same_byte y x f)))
    by false false e f rest = refl

beside_is : (key : List ℕ) (other : Option (List ℕ)) → DiffersFrom key other → BesideSome key other (shared_beside other key)
beside_is key None d = refl
beside_is key (Some other) d = beside key other (shared_size key other) (shared_is key other) d

-- ---- the shortest prefixes

pub unique_size_is : UniqueSize
unique_size_is before key behind some d e =
    let m = shared_beside before key in
    let n = shared_beside behind key in
    let greater = greater_is m n (max m n) refl in
    unique key before behind m n (max m n) some (beside_is key before d) (beside_is key behind e) greater.0 greater.1 greater.2

pub separator_size_is : SeparatorSize
separator_size_is before next low = separates before next (shared_size before next) (shared_is before next) low

-- there is one shortest
pub unique_once : (key : List ℕ) (others : List (List ℕ)) (n m : ℕ) → IsUniqueLength key others n → IsUniqueLength key others m → n ≡ m
unique_once key others n m a b = omega (arith, a.shortest m b.least b.alone, b.shortest n a.least a.alone)

pub separator_once : (before next : List ℕ) (n m : ℕ) → IsSeparatorLength before next n → IsSeparatorLength before next m → n ≡ m
separator_once before next n m a b = omega (arith, a.shortest m b.above, b.shortest n a.above)

-- ---- longer prefixes are in the order of the strings

pub below_by : (a b : List ℕ) (m n : ℕ) → string_cmp a b ≡ Less → (IsPrefix a b → ⊥) → shared_size a b < m → shared_size a b < n
    → string_cmp (take m a) (take n b) ≡ Less
below_by [] b m n low apart p q = absurd (apart (b, refl))
below_by (x ∷ a) [] m n low apart p q = cc
below_by (x ∷ a) (y ∷ b) zero n low apart p q = absurd (omega (arith, p))
below_by (x ∷ a) (y ∷ b) (suc m) zero low apart p q = absurd (omega (arith, q))
below_by (x ∷ a) (y ∷ b) (suc m) (suc n) low apart p q = by (x == y) refl p q (below_by a b m n)
  where
    by : (t : Bool) → (x == y) ≡ t → (if t then suc (shared_size a b) else 0) < suc m → (if t then suc (shared_size a b) else 0) < suc n
        → (string_cmp a b ≡ Less → (IsPrefix a b → ⊥) → shared_size a b < m → shared_size a b < n → string_cmp (take m a) (take n b) ≡ Less)
        → ordering_then (nat_cmp x y) (string_cmp (take m a) (take n b)) ≡ Less
    by true e p q rest =
        let same = same_byte x y e in
        let tie = itself x y same in
        let longer : IsPrefix a b → ⊥ = λ f. apart (f.0, ap (λ z. z ∷ b) (sym same) ∙ ap (λ l. x ∷ l) f.1) in
        rest_decides (nat_cmp x y) (string_cmp (take m a) (take n b)) tie
        ∙ rest (sym (rest_decides (nat_cmp x y) (string_cmp a b) tie) ∙ low) longer (omega (arith, p)) (omega (arith, q))
    by false e p q rest =
        first_decides (nat_cmp x y) (string_cmp a b) (string_cmp (take m a) (take n b)) (λ h. other_byte x y e (equal_is x y h)) low

-- what is above a string isn't its beginning
pub never_longer : (a b : List ℕ) → string_cmp a b ≡ Less → IsPrefix b a → ⊥
never_longer [] [] low f = cc
never_longer [] (y ∷ b) low f = cc
never_longer (x ∷ a) [] low f = cc
never_longer (x ∷ a) (y ∷ b) low f =
    let same : x ≡ y = head_is x y a (b ++ f.0) f.1 in
    never_longer a b (sym (rest_decides (nat_cmp x y) (string_cmp a b) (itself x y same)) ∙ low) (f.0, tail_is x y a (b ++ f.0) f.1)
