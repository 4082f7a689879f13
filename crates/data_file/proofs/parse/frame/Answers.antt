use Rattle.std.proofs.Common.{◌≡◌, [], ◌∷◌, Err, List, ℕ, ap, arith, refl, subst, sym}
use Rattle.data_file.specs.Reading.{IsCutRow}
use Rattle.data_file.specs.declared.parse.ParseRow.TheVariants.{Bad}
use Rattle.data_file.proofs.Cuts.{cut_empty, no_bytes}
use Rattle.data_file.proofs.Frames.{frame_bad}
use Rattle.data_file.proofs.parse.frame.Goals as goal

pub returns-in_default-clause-short : goal.returns-in_default-clause-short
returns-in_default-clause-short c =
    let empty : c.args.bytes.now ≡ [] = no_bytes c.args.bytes.now (omega (arith, c.in_default.ensures.cases)) in
    (λ short. subst (λ (bytes : List ℕ). IsCutRow bytes) (sym empty) cut_empty, λ cut. refl)

pub returns-in-Err-clause-bad : goal.returns-in-Err-clause-bad
returns-in-Err-clause-bad c =
    λ bad more.
    let same : c.in-Err.e ≡ Bad = cc in
    let at : c.args.bytes.now ≡ c.in-Some.first.now ∷ c.in-Some.rest.now = c.in-Some.ensures.cases.0 in
    let first : c.args.bytes.now ≡ 1 ∷ c.in-Some.rest.now = cc in
    frame_bad c.args.bytes.now c.in-Some.rest.now more first (c.in-Err.ensures.bad (ap Err same) more)
