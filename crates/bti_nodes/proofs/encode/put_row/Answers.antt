use Rattle.std.proofs.Common.{◌≡◌, ℕ, zero, suc, ◌*◌, ◌/◌, ◌^◌, ◌<◌, ◌≤◌, List, refl, ◌∙◌, ap, subst, arith}
use Rattle.std.specs.List.{AllByRecursion}
use Rattle.bti_nodes.proofs.encode.put_row.Goals as goal

powers : (j : ℕ) → j ≤ 8 → 2 ^ (8 * j) ≡ 256 ^ j
powers zero h = refl
powers (suc zero) h = refl
powers (suc (suc zero)) h = refl
powers (suc (suc (suc zero))) h = refl
powers (suc (suc (suc (suc zero)))) h = refl
powers (suc (suc (suc (suc (suc zero))))) h = refl
powers (suc (suc (suc (suc (suc (suc zero)))))) h = refl
powers (suc (suc (suc (suc (suc (suc (suc zero))))))) h = refl
powers (suc (suc (suc (suc (suc (suc (suc (suc zero)))))))) h = refl
powers (suc (suc (suc (suc (suc (suc (suc (suc (suc j))))))))) h = absurd (omega arith)

in_bytes : (ds : List ℕ) (width j : ℕ) → width ≡ 8 * j → j ≤ 8 → AllByRecursion (λ d. d < 2 ^ width) ds → AllByRecursion (λ d. d < 256 ^ j) ds
in_bytes ds width j e l h =
    let P : ℕ → Type 0 = λ n. AllByRecursion (λ d. d < n) ds in
    subst P (ap (λ n. 2 ^ n) e ∙ powers j l) h

pub put_wholes-requires-clause-fit : goal.put_wholes-requires-clause-fit
put_wholes-requires-clause-fit c =
    let whole : c.args.width ≡ 8 * (c.args.width / 8) = grind (arith, c.requires.width) in
    let few : c.args.width / 8 ≤ 8 = grind (arith, c.requires.width) in
    in_bytes c.args.ds.now c.args.width (c.args.width / 8) whole few c.requires.fit
