-- How many gets a generated script has.
use Rattle.std.proofs.Common.{◌≡◌, ◌≤◌, ◌+◌, ◌*◌, ◌/◌, ℕ, zero, suc, Bool, true, false, refl, ◌∙◌, ap, arith}
use Rattle.std.specs.Prelude.{nat_lt, if◌then◌else◌}
use Rattle.std.proofs.lemmas.Bool.Decides.{nat_tests}
use Rattle.std.proofs.lemmas.Nat.{le-div}
use Rattle.std.proofs.Math.Nat.{add-mul, add-div_right, div-le_self, div-mul-le_self, mul-div_cancel_left}
use Rattle.script_text.specs.Generator.{has_get, gets_among, GeneratesGets}

module _ (count gets : ℕ) (some : 1 ≤ count) (fewer : gets ≤ count) where
  rises : (a b : ℕ) → a ≤ b → a / count ≤ b / count
  rises a b h = le-div (a / count) b count some (let e = div-mul-le_self a count in omega arith)

  -- how many are due before a row
  abbrev due : ℕ → ℕ
  due row = row * gets / count

  next : (row : ℕ) → (row + 1) * gets ≡ row * gets + gets
  next row = add-mul row 1 gets ∙ (let e : 1 * gets ≡ gets = omega arith in ap (λ n. row * gets + n) e)

  at_least : (row : ℕ) → due row ≤ due (row + 1)
  at_least row = rises (row * gets) ((row + 1) * gets) (let e = next row in omega arith)

  at_most : (row : ℕ) → due (row + 1) ≤ due row + 1
  at_most row =
      let e = rises ((row + 1) * gets) (row * gets + count) (let f = next row in omega arith) in
      let f = add-div_right (row * gets) {k = count} some in
      omega arith

  step_by : (t : Bool) (a b : ℕ) → nat_lt a b ≡ t → a ≤ b → b ≤ a + 1 → a + (if t then 1 else 0) ≡ b
  step_by true a b e h k = grind (arith, nat_tests)
  step_by false a b e h k = grind (arith, nat_tests)

  among : (row : ℕ) → gets_among count gets row ≡ due row
  among zero = (let e = div-le_self (0 * gets) count in omega arith)
  among (suc row) =
      let same : row + 1 ≡ suc row = omega arith in
      ap (λ n. n + (if has_get count gets row then 1 else 0)) (among row) ∙ step_by (has_get count gets row) (due row) (due (row + 1)) refl (at_least row) (at_most row) ∙ ap due same

  all : gets_among count gets count ≡ gets
  all = among count ∙ mul-div_cancel_left gets {n = count} some

pub generates : GeneratesGets
generates count gets some fewer = all count gets some fewer
