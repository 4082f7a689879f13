use Rattle.std.proofs.Common.{◌≡◌, Bool, Option, Err, sym, subst, Result, rules}
use Rattle.key_types.specs.Columns.{columns_of}
use Rattle.data_walk.specs.declared.data_walk.DataWalk.{DataWalk}
use Rattle.data_walk.specs.declared.refusal.Refusal.{Refusal}
use Rattle.data_walk.specs.declared.refusal.Refusal.TheVariants.{Unread}
use Rattle.data_walk.specs.DataWalk.{Enters, OverFile}
use Rattle.data_walk.proofs.Steps.{enter_fault, with_window}
use Rattle.data_walk.proofs.data_walk.DataWalk.enter.Goals as goal

pub returns-in_err-fill-clause-told : goal.returns-in_err-fill-clause-told
returns-in_err-fill-clause-told g c =
    let columns = columns_of c.args.schema.now in
    let files = g.K.Store.files c.args.store.now in
    let after : DataWalk = with_window c.args.self.now c.fill.new.self in
    let is : c.from_residual.result ≡ Err (Unread c.in_err-fill.field-0.0) = search rules in
    subst (λ (r : Result (Option Bool) Refusal). OverFile files c.args.file (Enters columns) c.args.self.now after r) (sym is)
    (enter_fault columns c.args.file files c.args.self.now after c.in_err-fill.field-0.0 c.in_err-fill.ensures.stops)
