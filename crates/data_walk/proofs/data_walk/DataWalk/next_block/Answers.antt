use Rattle.std.proofs.Common.{◌≡◌, ◌∙◌, Option, Ok, Err, refl, sym, subst, ℕ, Result, arith, rules}
use Rattle.outside.specs.Files.{Files}
use Rattle.key_types.specs.Columns.{columns_of}
use Rattle.data_walk.specs.declared.data_walk.DataWalk.{DataWalk}
use Rattle.data_walk.specs.declared.data_walk.Met.{Met}
use Rattle.data_walk.specs.declared.refusal.Refusal.{Refusal}
use Rattle.data_walk.specs.declared.refusal.Refusal.TheVariants.{Unread}
use Rattle.data_walk.specs.DataWalk.{FindsBlock, MeetsRow, OverAll, OverFile}
use Rattle.data_walk.proofs.Steps.{Fills, came_nowhere, came_row, found_block, found_end, refused_fill, refused_row, with_window}
use Rattle.data_walk.proofs.data_walk.DataWalk.next_block.Goals as goal

pub rows-init : goal.rows-init
rows-init g c = record {
  came = came_nowhere (columns_of c.args.schema.now) c.args.file (g.K.Store.files c.args.store.now) c.args.self.now;
  place = c.requires.place;
  key = refl;
  head = refl;
  on = omega arith;
  limit = refl;
  same = refl;
  later = omega arith;
}

pub rows-preserved : goal.rows-preserved
rows-preserved g c =
    let columns = columns_of c.args.schema.now in
    let files = g.K.Store.files c.args.store.now in
    let fills : Fills files c.args.file c.rows.self.window c.fill.new.self = subst (λ (f : Option Files). Fills f c.args.file c.rows.self.window c.fill.new.self) c.rows.invariant.same c.in_ok-fill.ensures.told in
    let step = subst (λ (met : Met). OverAll (MeetsRow columns) (with_window c.rows.self c.fill.new.self) c.pass_row.new.self (Ok met)) c.in-Row.is c.in_ok-pass_row.ensures.told in
    record {
      came = came_row columns c.args.file files c.args.self.now c.rows.self c.pass_row.new.self c.fill.new.self c.in_ok-fill.ensures.place fills step c.rows.invariant.came;
      place = c.in_ok-pass_row.ensures.place;
      key = c.in_ok-pass_row.ensures.key ∙ c.rows.invariant.key;
      head = c.in_ok-pass_row.ensures.head ∙ c.rows.invariant.head;
      on = omega (arith, c.rows.invariant.on, c.in_ok-pass_row.ensures.on, c.in_ok-fill.ensures.place);
      limit = c.in_ok-pass_row.ensures.limit ∙ c.in_ok-fill.ensures.limit ∙ c.rows.invariant.limit;
      same = c.in_ok-fill.ensures.files ∙ c.rows.invariant.same;
      later = omega (arith, c.in_ok-fill.ensures.later, c.rows.invariant.later);
    }

pub returns-in_err-fill-clause-told : goal.returns-in_err-fill-clause-told
returns-in_err-fill-clause-told g c =
    let columns = columns_of c.args.schema.now in
    let files = g.K.Store.files c.args.store.now in
    let after : DataWalk = with_window c.rows.self c.fill.new.self in
    let is : c.from_residual.result ≡ Err (Unread c.in_err-fill.field-0.0) = search rules in
    subst (λ (r : Result (Option ℕ) Refusal). OverFile files c.args.file (FindsBlock columns) c.args.self.now after r) (sym is)
    (refused_fill columns c.args.file files c.args.self.now c.rows.self after c.in_err-fill.field-0.0 c.in_err-fill.ensures.stops c.rows.invariant.came)

pub returns-in_err-pass_row-clause-told : goal.returns-in_err-pass_row-clause-told
returns-in_err-pass_row-clause-told g c =
    let columns = columns_of c.args.schema.now in
    let files = g.K.Store.files c.args.store.now in
    let fills : Fills files c.args.file c.rows.self.window c.fill.new.self = subst (λ (f : Option Files). Fills f c.args.file c.rows.self.window c.fill.new.self) c.rows.invariant.same c.in_ok-fill.ensures.told in
    let is : c.from_residual-in_err-pass_row.result ≡ Err c.in_err-pass_row.field-0.0 = search rules in
    subst (λ (r : Result (Option ℕ) Refusal). OverFile files c.args.file (FindsBlock columns) c.args.self.now c.pass_row.new.self r) (sym is)
    (refused_row columns c.args.file files c.args.self.now c.rows.self c.pass_row.new.self c.pass_row.new.self c.fill.new.self c.in_err-pass_row.field-0.0 c.in_ok-fill.ensures.place fills
    c.in_err-pass_row.ensures.told c.rows.invariant.came)

pub returns-in-Block-clause-told : goal.returns-in-Block-clause-told
returns-in-Block-clause-told g c =
    let columns = columns_of c.args.schema.now in
    let files = g.K.Store.files c.args.store.now in
    let fills : Fills files c.args.file c.rows.self.window c.fill.new.self = subst (λ (f : Option Files). Fills f c.args.file c.rows.self.window c.fill.new.self) c.rows.invariant.same c.in_ok-fill.ensures.told in
    let step = subst (λ (met : Met). OverAll (MeetsRow columns) (with_window c.rows.self c.fill.new.self) c.pass_row.new.self (Ok met)) c.in-Block.is c.in_ok-pass_row.ensures.told in
    found_block columns c.args.file files c.args.self.now c.rows.self c.pass_row.new.self c.fill.new.self _ c.in_ok-fill.ensures.place fills refl step c.rows.invariant.came

pub returns-in-End-clause-told : goal.returns-in-End-clause-told
returns-in-End-clause-told g c =
    let columns = columns_of c.args.schema.now in
    let files = g.K.Store.files c.args.store.now in
    let fills : Fills files c.args.file c.rows.self.window c.fill.new.self = subst (λ (f : Option Files). Fills f c.args.file c.rows.self.window c.fill.new.self) c.rows.invariant.same c.in_ok-fill.ensures.told in
    let step = subst (λ (met : Met). OverAll (MeetsRow columns) (with_window c.rows.self c.fill.new.self) c.pass_row.new.self (Ok met)) c.in-End.is c.in_ok-pass_row.ensures.told in
    found_end columns c.args.file files c.args.self.now c.rows.self c.pass_row.new.self c.fill.new.self c.in_ok-fill.ensures.place fills step c.rows.invariant.came
