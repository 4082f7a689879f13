use Rattle.std.proofs.Common.{◌≡◌, ap, Option, Result, Err, sym, subst, rules}
use Rattle.std.specs.Prelude.{⊤}
use Rattle.outside.specs.Files.{Files}
use Rattle.key_types.specs.Columns.{columns_of}
use Rattle.bti_reader.specs.Ways.{Progress}
use Rattle.data_walk.specs.declared.refusal.Refusal.{Refusal}
use Rattle.data_walk.specs.Refusals.{IsFault}
use Rattle.row_check.proofs.Entered.{EntriesFound, WholeFound, whole_fault, whole_found}
use Rattle.row_check.proofs.entries.check_entries.Goals as goal

pub returns-in_err-limit-clause-told : goal.returns-in_err-limit-clause-told
returns-in_err-limit-clause-told g c =
    let a = c.args in
    let columns = columns_of a.schema.now in
    let files = g.K.Store.files a.store.now in
    let e : Refusal = c.in_err-limit.field-0.0 in
    let fault : IsFault e = subst IsFault (sym c.in_err-limit.ensures.stops) tt in
    let is : c.from_residual.result ≡ Err e = search rules in
    subst (λ (r : Result ⊤ Refusal). WholeFound columns a.generation a.root files r) (sym is)
    (whole_fault columns a.generation a.root files e fault)

pub returns-clause-told : goal.returns-clause-told
returns-clause-told g c =
    let a = c.args in
    let columns = columns_of a.schema.now in
    let files = g.K.Store.files a.store.now in
    let result : Result ⊤ Refusal = c.compare_entries.result in
    let found = subst (λ (f : Option Files). EntriesFound columns a.generation a.root f c.new-walk.result c.new-paths.result result) c.in_ok-limit.ensures.files c.compare_entries.ensures.told in
    whole_found columns a.generation a.root files c.new-walk.result c.new-paths.result c.in_ok-limit.limit result c.new-walk.ensures.window c.new-walk.ensures.place c.in_ok-limit.ensures.size
    (ap (λ (p : Progress). p.way) c.new-paths.ensures) found
