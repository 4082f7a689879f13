use Rattle.std.proofs.Common.{Err, arith, inl, inr}
use Rattle.std.proofs.lemmas.Bool.{cases_lt}
use Rattle.std.proofs.lemmas.List.Sorted.{searched}
use Rattle.bti_nodes.proofs.Found.{no_lower}
use Rattle.bti_nodes.proofs.view.place_among.Goals as goal

pub returns-in-Err : goal.returns-in-Err
returns-in-Err c i l e =
    let xs = c.args.letters.now in
    let found = searched xs c.args.byte (Err c.in-Err.field-0) c.in-Err.ensures.position (no_lower xs c.requires) in
    elim (cases_lt i c.in-Err.field-0) as (λ _. ⊥) [ inl low ↦ (let h = found.1 i low in omega (arith, h, e)) | inr high ↦ (let h = found.2 i high l in omega (arith, h, e)) ]
