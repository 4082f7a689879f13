use Rattle.std.proofs.Common.{rules, ◌≡◌, ℕ, zero, suc, ◌<◌, Bool, true, false, refl, sym, ◌∙◌, ap, arith, inl, inr}
use Rattle.std.proofs.Math.Nat.{eq-or-lt_of_le}
use Rattle.std.specs.Prelude.{◌&&◌}
use Rattle.bti_nodes.specs.Grammar.{each_below, points_back, distance_at, all_point_back}
use Rattle.bti_nodes.proofs.parse.points_back.Goals as goal

both_false : (a : Bool) → (a && false) ≡ false
both_false true = refl
both_false false = refl

left_false : (a b : Bool) → a ≡ false → (a && b) ≡ false
left_false true b h = cc
left_false false b h = refl

-- where p fails below n, it doesn't hold of all below n
one_fails : (n i : ℕ) (p : ℕ → Bool) → i < n → p i ≡ false → each_below n p ≡ false
one_fails zero i p l h = absurd (omega arith)
one_fails (suc n) i p l h = elim (eq-or-lt_of_le {n = i} {m = n} (omega arith)) as (λ _. each_below (suc n) p ≡ false) [
  | inl same ↦ ap (λ q. each_below n p && q) (ap p (sym same) ∙ h) ∙ both_false (each_below n p)
  | inr less ↦ left_false (each_below n p) (p n) (one_fails n i p less h)
]

pub returns-then-not-may_stand : goal.returns-then-not-may_stand
unfolding all_point_back
returns-then-not-may_stand c =
    let fails : c.may_stand.result ≡ false = search rules in
    let stands = points_back c.args.kind.shape c.args.places c.args.position c.loop-i.i in
    sym (one_fails c.args.places c.loop-i.i (λ i. points_back c.args.kind.shape c.args.places c.args.position i (distance_at c.args.kind.shape c.args.kind.width c.args.places c.args.bytes.now i)) (search rules)
    (ap stands (sym c.distance_at-distance.ensures) ∙ sym c.may_stand.ensures ∙ fails))
