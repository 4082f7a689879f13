use Rattle.std.proofs.Common.{rules, refl, Ok, option_copied}
use Rattle.bti_nodes.specs.declared.damage.PackError.{PackError}
use Rattle.flush_walk.proofs.Moves.{no_static_part, static_moves, torn_as}
use Rattle.flush_walk.proofs.growing.GrowingFiles.static_part.Goals as goal

pub returns-in_err-static_part-clause-moved : goal.returns-in_err-static_part-clause-moved
returns-in_err-static_part-clause-moved g c =
    λ t h.
    torn_as c.static_part.result c.from_residual.result _ _ _ _ (search rules) c.from_residual.ensures.0
    (static_moves c.args.self.now _ t _ _ h refl refl c.static_part.ensures.file c.args.static_value (option_copied c.args.value) c.static_part.result (search rules) c.static_part.ensures.position c.static_part.ensures.written)

pub returns-in_ok-static_part-clause-moved : goal.returns-in_ok-static_part-clause-moved
returns-in_ok-static_part-clause-moved g c =
    λ t h.
    static_moves c.args.self.now _ t _ _ h refl refl c.in_ok-static_part.ensures.file {E = PackError} c.args.static_value (option_copied c.args.value) (Ok c.in_ok-static_part.field-0) (search rules) c.in_ok-static_part.ensures.position c.in_ok-static_part.ensures.written

pub returns-else-is_some-clause-moved : goal.returns-else-is_some-clause-moved
returns-else-is_some-clause-moved g c = λ t h. no_static_part _ t _ c.args.static_value (option_copied c.args.value) (search rules) h
