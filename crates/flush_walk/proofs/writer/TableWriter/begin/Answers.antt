use Rattle.std.proofs.Common.{refl, arith}
use Rattle.flush_walk.specs.Given.{entry_given}
use Rattle.flush_walk.proofs.Moves.{grows_torn}
use Rattle.flush_walk.proofs.Steps.{begun_torn, begun_writes, goes_err, counts_few, place_few, row_at_few, rows_few}
use Rattle.flush_walk.proofs.writer.TableWriter.begin.Goals as goal

pub begin-requires-clause-place : goal.begin-requires-clause-place
begin-requires-clause-place g c =
    let given = c.requires.given in
    omega (arith, place_few c.args.self.now _ _ given.1)

pub overflow_add-self : goal.overflow_add-self
overflow_add-self g c = omega (arith, counts_few c.args.self.now _ _ c.requires.given.1)

pub overflow_add-self-2 : goal.overflow_add-self-2
overflow_add-self-2 g c = omega (arith, rows_few c.args.self.now _ _ c.requires.given.1, c.row_at.ensures, row_at_few c.args.clustering.now)

pub returns-in_err-begin-clause-gone : goal.returns-in_err-begin-clause-gone
returns-in_err-begin-clause-gone g c =
    λ w h table.
    goes_err c.from_residual-in_err-begin.result _ _ _ c.from_residual-in_err-begin.ensures.0
    (begun_torn c.args.self.now w (entry_given c.args.partition.now c.args.clustering.now c.args.value.now) _ _ h (grows_torn _ _ _ (c.in_ok-at.ensures.moved _ h.grows)))

pub returns-clause-gone : goal.returns-clause-gone
returns-clause-gone g c =
    λ w h table.
    begun_writes c.args.self.now _ w (entry_given c.args.partition.now c.args.clustering.now c.args.value.now) _ _ c.in_ok-at.at c.row_at.result h table
    (c.in_ok-at.ensures.moved _ h.grows) c.in_ok-at.ensures.at c.row_at.ensures refl refl refl c.in_ok-begin.ensures refl
