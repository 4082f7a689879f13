use Rattle.std.proofs.Common.{rules, ◌≡◌, arith, ap, subst, List, ℕ, ◌∙◌, length, w64}
use Rattle.std.specs.Prelude.{negsuc}
use Rattle.std.proofs.lemmas.Int.{ints, to_z_pos}
use mir.Val.{of_z, to_z}
use lib.IntN.{◌-ℤ◌}
use Rattle.row_index.specs.Writing.{with_finished}
use Rattle.flush_walk.specs.Growing.{Grows, Moves}
use Rattle.flush_walk.specs.Given.{growing_of, opened}
use Rattle.flush_walk.proofs.Moves.{moves_err, torn_of}
use Rattle.flush_walk.proofs.Ends.{alone_grows, alone_number, current_few, key_few, more_grows, more_number, more_torn}
use Rattle.flush_walk.proofs.writer.TableWriter.end_rows.Goals as goal

pub overflow_cast-result : goal.overflow_cast-result
overflow_cast-result g c = let few = current_few c.args.self.now c.requires.0 c.requires.1 _ c.requires.2 in omega (arith, few)

pub returns-then-not-self-clause-moved : goal.returns-then-not-self-clause-moved
returns-then-not-self-clause-moved g c = λ v p h. alone_grows c.args.self.now v p _ h (search rules)

pub returns-then-not-self-clause-number : goal.returns-then-not-self-clause-number
returns-then-not-self-clause-number g c =
    λ v p h.
    let few = current_few c.args.self.now v p _ h in
    (let e : to_z w64 (of_z w64 (negsuc 0 -ℤ to_z w64 c.args.self.now.current.position)) ≡ negsuc c.args.self.now.current.position = omega (arith, ints) in e) ∙ alone_number c.args.self.now v p _ h (search rules)

pub finish_rows-requires-clause-string : goal.finish_rows-requires-clause-string
finish_rows-requires-clause-string g c = let few = key_few c.args.self.now c.requires.0 c.requires.1 _ c.requires.2 in omega (arith, few, ap length c.as_slice.ensures)

pub returns-in_err-at-clause-moved : goal.returns-in_err-at-clause-moved
returns-in_err-at-clause-moved g c =
    λ v p h.
    moves_err c.from_residual.result _ _ _ c.from_residual.ensures.0
    (more_torn c.args.self.now v p _ h (search rules) _ (torn_of c.finish_rows.result c.finish_rows.new.self _ (g.K.Store.files c.finish_rows.new.store) (search rules)
    (subst (λ (k : List ℕ). Moves c.finish_rows.result c.finish_rows.new.self (record (growing_of (opened v p)) { rows = with_finished (growing_of (opened v p)).rows k c.args.self.now.current.position }) (g.K.Store.files c.finish_rows.new.store))
    c.as_slice.ensures (c.finish_rows.ensures.moved (growing_of (opened v p)) h.grows))))

pub returns-clause-moved : goal.returns-clause-moved
returns-clause-moved g c =
    λ v p h.
    more_grows c.args.self.now v p _ h (search rules) c.finish_rows.new.self (g.K.Store.files c.finish_rows.new.store)
    (subst (λ (k : List ℕ). Grows c.finish_rows.new.self (record (growing_of (opened v p)) { rows = with_finished (growing_of (opened v p)).rows k c.args.self.now.current.position }) (g.K.Store.files c.finish_rows.new.store))
    c.as_slice.ensures (c.in_ok-at.ensures.moved (growing_of (opened v p)) h.grows))

pub returns-clause-number : goal.returns-clause-number
returns-clause-number g c =
    λ v p h.
    to_z_pos w64 c.in_ok-at.at (omega (arith, c.in_ok-at.ensures.short)) ∙ more_number c.args.self.now v p _ h (search rules) _ (c.in_ok-at.ensures.at _ h.grows)
