use Rattle.std.proofs.Common.{◌∙◌, Ok, arith, subst}
use Rattle.std.proofs.lemmas.Result.{err_from_is_err_and}
use Rattle.key_types.specs.Columns.{columns_of}
use Rattle.table_reader.specs.declared.walker.Met.{Met}
use Rattle.table_reader.specs.declared.walker.Walker.{Walker}
use Rattle.table_reader.specs.Ranges.{StepIs}
use Rattle.table_reader.proofs.Giving.{came_filled, came_passing, gave_entry, gave_error, gave_none}
use Rattle.table_reader.proofs.Nearing.{goes_entry, goes_error, goes_none, goes_stop, nears_filled, nears_passing}
use Rattle.table_reader.proofs.Windows.{pays_on}
use Rattle.table_reader.proofs.next.next_of.Goals as goal

pub steps-preserved : goal.steps-preserved
steps-preserved g c =
    let columns = columns_of c.args.schema.now in
    let walk : Walker = record { window = c.fill.new.self; key = c.steps.walk.key; inside = c.steps.walk.inside; from = c.steps.walk.from; to = c.steps.walk.to } in
    let step = subst (λ (met : Met). StepIs columns walk c.step.new.self (Ok met)) c.in-Passed.is c.in_ok-step.ensures in
    let filled = came_filled columns c.args.file c.args.walk.now (g.K.Store.files c.args.store.now) (g.K.Store.files c.steps.store) c.steps.walk c.fill.new.self c.steps.invariant.same c.in_ok-fill.ensures.place
    c.in_ok-fill.ensures.told c.steps.invariant.came in
    record {
      came = came_passing columns c.args.file c.args.walk.now (g.K.Store.files c.args.store.now) walk c.step.new.self step filled;
      nears = nears_passing columns c.args.file c.args.walk.now (g.K.Store.files c.args.store.now) walk c.step.new.self step filled
          (nears_filled columns c.args.file c.args.walk.now (g.K.Store.files c.args.store.now) c.steps.walk c.fill.new.self c.in_ok-fill.ensures.place c.steps.invariant.nears);
      at = omega (arith, c.steps.invariant.at, c.in_ok-fill.ensures.place, step.2.0);
      inside = λ known. (step.5 (c.steps.invariant.inside known)).0;
      limit = step.2.2 ∙ c.in_ok-fill.ensures.limit ∙ c.steps.invariant.limit;
      same = c.in_ok-fill.ensures.files ∙ c.steps.invariant.same;
      ahead = omega (arith, c.in_ok-fill.ensures.ahead, c.steps.invariant.ahead, step.2.0, step.2.4);
      paid = pays_on c.args.walk.now.window c.steps.walk.window c.fill.new.self c.step.new.self.window (g.K.Store.reads c.args.store.now) (g.K.Store.reads c.steps.store) (g.K.Store.reads c.fill.new.store)
          c.steps.invariant.paid c.in_ok-fill.ensures.paid step.2.4 step.2.5;
      later = omega (arith, c.in_ok-fill.ensures.later, c.steps.invariant.later);
    }

pub returns-in-Given-clause-gives : goal.returns-in-Given-clause-gives
returns-in-Given-clause-gives g c =
    let columns = columns_of c.args.schema.now in
    let walk : Walker = record { window = c.fill.new.self; key = c.steps.walk.key; inside = c.steps.walk.inside; from = c.steps.walk.from; to = c.steps.walk.to } in
    gave_entry columns c.args.file c.args.walk.now (g.K.Store.files c.args.store.now) walk c.step.new.self c.in-Given.entry
    (subst (λ (met : Met). StepIs columns walk c.step.new.self (Ok met)) c.in-Given.is c.in_ok-step.ensures)
    (came_filled columns c.args.file c.args.walk.now (g.K.Store.files c.args.store.now) (g.K.Store.files c.steps.store) c.steps.walk c.fill.new.self c.steps.invariant.same c.in_ok-fill.ensures.place
    c.in_ok-fill.ensures.told c.steps.invariant.came)

pub returns-in-Done-clause-gives : goal.returns-in-Done-clause-gives
returns-in-Done-clause-gives g c =
    let columns = columns_of c.args.schema.now in
    let walk : Walker = record { window = c.fill.new.self; key = c.steps.walk.key; inside = c.steps.walk.inside; from = c.steps.walk.from; to = c.steps.walk.to } in
    gave_none columns c.args.file c.args.walk.now (g.K.Store.files c.args.store.now) walk c.step.new.self
    (subst (λ (met : Met). StepIs columns walk c.step.new.self (Ok met)) c.in-Done.is c.in_ok-step.ensures)
    (came_filled columns c.args.file c.args.walk.now (g.K.Store.files c.args.store.now) (g.K.Store.files c.steps.store) c.steps.walk c.fill.new.self c.steps.invariant.same c.in_ok-fill.ensures.place
    c.in_ok-fill.ensures.told c.steps.invariant.came)

pub returns-in-Given-clause-near : goal.returns-in-Given-clause-near
returns-in-Given-clause-near g c =
    let columns = columns_of c.args.schema.now in
    let walk : Walker = record { window = c.fill.new.self; key = c.steps.walk.key; inside = c.steps.walk.inside; from = c.steps.walk.from; to = c.steps.walk.to } in
    goes_entry columns c.args.file c.args.walk.now (g.K.Store.files c.args.store.now) walk c.step.new.self c.in-Given.entry
    (subst (λ (met : Met). StepIs columns walk c.step.new.self (Ok met)) c.in-Given.is c.in_ok-step.ensures)
    (came_filled columns c.args.file c.args.walk.now (g.K.Store.files c.args.store.now) (g.K.Store.files c.steps.store) c.steps.walk c.fill.new.self c.steps.invariant.same c.in_ok-fill.ensures.place
    c.in_ok-fill.ensures.told c.steps.invariant.came)
    (nears_filled columns c.args.file c.args.walk.now (g.K.Store.files c.args.store.now) c.steps.walk c.fill.new.self c.in_ok-fill.ensures.place c.steps.invariant.nears)

pub returns-in-Done-clause-near : goal.returns-in-Done-clause-near
returns-in-Done-clause-near g c =
    let columns = columns_of c.args.schema.now in
    let walk : Walker = record { window = c.fill.new.self; key = c.steps.walk.key; inside = c.steps.walk.inside; from = c.steps.walk.from; to = c.steps.walk.to } in
    goes_none columns c.args.file c.args.walk.now (g.K.Store.files c.args.store.now) walk c.step.new.self
    (subst (λ (met : Met). StepIs columns walk c.step.new.self (Ok met)) c.in-Done.is c.in_ok-step.ensures)
    (nears_filled columns c.args.file c.args.walk.now (g.K.Store.files c.args.store.now) c.steps.walk c.fill.new.self c.in_ok-fill.ensures.place c.steps.invariant.nears)

pub returns-in_err-fill-clause-near : goal.returns-in_err-fill-clause-near
returns-in_err-fill-clause-near g c =
    let walk : Walker = record { window = c.fill.new.self; key = c.steps.walk.key; inside = c.steps.walk.inside; from = c.steps.walk.from; to = c.steps.walk.to } in
    let e = err_from_is_err_and c.from_residual.result c.from_residual.ensures.1 in
    rw e.1 (goes_stop (columns_of c.args.schema.now) c.args.file c.args.walk.now (g.K.Store.files c.args.store.now) walk c.in_err-fill.field-0.0
    (nears_filled (columns_of c.args.schema.now) c.args.file c.args.walk.now (g.K.Store.files c.args.store.now) c.steps.walk c.fill.new.self c.in_err-fill.ensures.place c.steps.invariant.nears))

pub returns-in_err-step-clause-gives : goal.returns-in_err-step-clause-gives
returns-in_err-step-clause-gives g c =
    let columns = columns_of c.args.schema.now in
    let walk : Walker = record { window = c.fill.new.self; key = c.steps.walk.key; inside = c.steps.walk.inside; from = c.steps.walk.from; to = c.steps.walk.to } in
    let e = err_from_is_err_and c.from_residual-in_err-step.result c.from_residual-in_err-step.ensures.1 in
    rw (e.1, e.2) (gave_error columns c.args.file c.args.walk.now (g.K.Store.files c.args.store.now) walk c.step.new.self c.in_err-step.field-0.0 c.in_err-step.ensures
    (came_filled columns c.args.file c.args.walk.now (g.K.Store.files c.args.store.now) (g.K.Store.files c.steps.store) c.steps.walk c.fill.new.self c.steps.invariant.same c.in_ok-fill.ensures.place
    c.in_ok-fill.ensures.told c.steps.invariant.came))

pub returns-in_err-step-clause-near : goal.returns-in_err-step-clause-near
returns-in_err-step-clause-near g c =
    let columns = columns_of c.args.schema.now in
    let walk : Walker = record { window = c.fill.new.self; key = c.steps.walk.key; inside = c.steps.walk.inside; from = c.steps.walk.from; to = c.steps.walk.to } in
    let e = err_from_is_err_and c.from_residual-in_err-step.result c.from_residual-in_err-step.ensures.1 in
    rw e.1 (goes_error columns c.args.file c.args.walk.now (g.K.Store.files c.args.store.now) walk c.step.new.self c.in_err-step.field-0.0 c.in_err-step.ensures
    (nears_filled columns c.args.file c.args.walk.now (g.K.Store.files c.args.store.now) c.steps.walk c.fill.new.self c.in_ok-fill.ensures.place c.steps.invariant.nears))
