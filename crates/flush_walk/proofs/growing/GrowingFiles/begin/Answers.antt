use Rattle.std.proofs.Common.{rules, ap}
use Rattle.std.specs.Prelude.{Option, List, ℕ}
use Rattle.data_file.specs.Listing.{head_bytes, rows_bytes, static_part_bytes}
use Rattle.flush_walk.specs.Given.{rows_given, static_given}
use Rattle.flush_walk.specs.Growing.{with_bytes}
use Rattle.flush_walk.proofs.Moves.{first_torn, moves_err, second_torn, three_grow, torn_of}
use Rattle.flush_walk.proofs.growing.GrowingFiles.begin.Goals as goal

pub returns-in_err-at-clause-moved : goal.returns-in_err-at-clause-moved
returns-in_err-at-clause-moved g c =
    λ t h.
    let part = static_part_bytes c.args.static_value (static_given c.args.clustering.now c.args.value.now) in
    let rows = rows_bytes (rows_given c.args.clustering.now c.args.value.now) in
    moves_err c.from_residual.result _ _ _ c.from_residual.ensures.0
    (first_torn t (head_bytes c.args.partition.now) part rows _ (torn_of c.open_partition.result _ _ _ (search rules) (c.open_partition.ensures.moved t h)))

pub returns-in_err-static_part-clause-moved : goal.returns-in_err-static_part-clause-moved
returns-in_err-static_part-clause-moved g c =
    λ t h.
    let head = head_bytes c.args.partition.now in
    let part = static_part_bytes c.args.static_value (static_given c.args.clustering.now c.args.value.now) in
    let rows = rows_bytes (rows_given c.args.clustering.now c.args.value.now) in
    moves_err c.from_residual-in_err-static_part.result _ _ _ c.from_residual-in_err-static_part.ensures.0
    (second_torn t head part rows _ _ (ap (λ (o : Option (List ℕ)). static_part_bytes c.args.static_value o) c.static_given.ensures.given)
    (torn_of c.static_part.result _ _ _ (search rules) (c.static_part.ensures.moved (with_bytes t head) (c.in_ok-at.ensures.moved t h))))

pub returns-clause-moved : goal.returns-clause-moved
returns-clause-moved g c =
    λ t h.
    let head = head_bytes c.args.partition.now in
    let part = static_part_bytes c.args.static_value (static_given c.args.clustering.now c.args.value.now) in
    let rows = rows_bytes (rows_given c.args.clustering.now c.args.value.now) in
    three_grow t head part rows _ _ _ (ap (λ (o : Option (List ℕ)). static_part_bytes c.args.static_value o) c.static_given.ensures.given)
    (c.in_ok-row.ensures.moved _ (c.in_ok-static_part.ensures.moved (with_bytes t head) (c.in_ok-at.ensures.moved t h)))
