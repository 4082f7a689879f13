use Rattle.std.proofs.Common.{List, ℕ, sym, subst}
use Rattle.std.specs.String.{string_bytes}
use Rattle.key_tool.specs.Shown.{ShowsLine, kinds_in}
use Rattle.table_tool.proofs.KeyLemmas.{line_ends}
use Rattle.table_tool.proofs.key.key.Goals as goal

pub returns-in-Ok : goal.returns-in-Ok
returns-in-Ok g c =
    λ left faults files store_faults reads.
    let asked = c.args.request.now in
    let kinds = kinds_in asked.part asked.schema in
    line_ends kinds asked.way (string_bytes asked.text) c.as_slice.result.now _ _ _ _ c.print.result
    (subst (λ (t : List ℕ). ShowsLine asked.way kinds t c.as_slice.result.now) c.as_str-text.ensures.value
    (subst (λ (l : List ℕ). ShowsLine asked.way kinds c.as_str-text.result.now l) (sym c.as_slice.ensures) c.in-Ok.ensures))
    c.print.ensures.told c.print.ensures.fault left faults files store_faults reads c.print.ensures.cases
