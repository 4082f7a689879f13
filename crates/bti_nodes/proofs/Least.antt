-- One more type in the choice.
use Rattle.std.proofs.Common.{◌≡◌, ℕ, suc, ◌-◌, ◌^◌, ◌<◌, ◌≤◌, Bool, true, false, refl, sym, ◌∙◌, ap, arith}
use Rattle.std.proofs.lemmas.Bool.Decides.{nat_tests}
use Rattle.std.specs.Prelude.{if◌then◌else◌, nat_lt, nat_le, ◌&&◌}
use Rattle.bti_nodes.specs.declared.table.Kind.{Kind}
use Rattle.bti_nodes.specs.declared.outline.Outline.{Outline}
use Rattle.bti_nodes.specs.Spelling.{holds, shape_holds, kind_of_number, size_by, better, least_from}

both : (a b : Bool) (n m : ℕ) → a ≡ true → b ≡ true → (if a && b then n else m) ≡ n
both true true n m h k = refl
both true false n m h k = cc
both false b n m h k = cc

not_first : (a b : Bool) (n m : ℕ) → a ≡ false → (if a && b then n else m) ≡ m
not_first true b n m h = cc
not_first false b n m h = refl

not_second : (a b : Bool) (n m : ℕ) → b ≡ false → (if a && b then n else m) ≡ m
not_second true true n m h = cc
not_second true false n m h = refl
not_second false b n m h = refl

pub taken : (n best : ℕ) (o : Outline) → holds (kind_of_number n) o ≡ true → size_by n o ≤ size_by best o → better n best o ≡ n
taken n best o h l = both (holds (kind_of_number n) o) (nat_le (size_by n o) (size_by best o)) n best h (grind (arith, nat_tests))

pub passed : (n best : ℕ) (o : Outline) → holds (kind_of_number n) o ≡ false → better n best o ≡ best
passed n best o h = not_first (holds (kind_of_number n) o) (nat_le (size_by n o) (size_by best o)) n best h

pub larger : (n best : ℕ) (o : Outline) → size_by best o < size_by n o → better n best o ≡ best
larger n best o l = not_second (holds (kind_of_number n) o) (nat_le (size_by n o) (size_by best o)) n best (grind (arith, nat_tests))

-- the choice from the number before m on
pub one_more : (m best result : ℕ) (o : Outline) → 1 ≤ m → m ≤ 14 → best ≡ least_from (14 - m) m o → better (m - 1) best o ≡ result → result ≡ least_from (14 - (m - 1)) (m - 1) o
unfolding least_from
one_more m best result o low high h e =
    let k : 14 - (m - 1) ≡ suc (14 - m) = omega arith in
    let s : suc (m - 1) ≡ m = omega arith in
    sym (ap (λ j. least_from j (m - 1) o) k ∙ ap (λ j. better (m - 1) (least_from (14 - m) j o) o) s ∙ ap (λ b. better (m - 1) b o) (sym h) ∙ e)

first_true : (a b : Bool) → (a && b) ≡ true → a ≡ true
first_true true b h = refl
first_true false b h = cc

pub shape_of_held : (kind : Kind) (o : Outline) → holds kind o ≡ true → shape_holds kind.shape o ≡ true
shape_of_held kind o h = first_true (shape_holds kind.shape o) (nat_lt o.greatest (2 ^ kind.width)) h
