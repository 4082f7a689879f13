use Rattle.std.proofs.Common.{sym, None}
use Rattle.std.proofs.lemmas.Result.{err_from_is_err_and}
use Rattle.outside.specs.Files.{bytes_of}
use Rattle.bti_reader.proofs.Asking.{join, exact_err, exact_ends, hit_turn, end_turn, none_turn, no_hit, short}
use Rattle.bti_reader.proofs.paths.exact.Goals as goal

pub returns-in_err-turn-clause-found : goal.returns-in_err-turn-clause-found
returns-in_err-turn-clause-found g c =
    let e = err_from_is_err_and c.from_residual.result c.from_residual.ensures.1 in
    rw (e.1, e.2) (join (g.K.Store.files c.args.store.now) (g.K.Store.files c.nodes.store) c.nodes.invariant.same c.in_err-turn.ensures.turn c.nodes.invariant.search
    (λ m p q. exact_err c.args.file.part (bytes_of m c.args.file) c.args.root c.nodes.position c.nodes.passed c.nodes.rest.now c.args.key.now c.question_at.result _ c.question_at.ensures p q))

pub returns-then-is_some-clause-found : goal.returns-then-is_some-clause-found
returns-then-is_some-clause-found g c =
    join (g.K.Store.files c.args.store.now) (g.K.Store.files c.nodes.store) c.nodes.invariant.same c.in_ok-turn.ensures.turn c.nodes.invariant.search
    (λ m p q. exact_ends c.args.file.part (bytes_of m c.args.file) c.args.root c.nodes.position c.nodes.passed c.nodes.rest.now c.args.key.now c.question_at.result c.in_ok-turn.turn c.in_ok-turn.turn.hit c.question_at.ensures p
    (hit_turn c.args.file.part (bytes_of m c.args.file) c.nodes.position c.nodes.passed c.nodes.rest.now c.in_ok-turn.turn (sym c.if-is_some.ensures)) q)

pub returns-in-empty-clause-found : goal.returns-in-empty-clause-found
returns-in-empty-clause-found g c =
    join (g.K.Store.files c.args.store.now) (g.K.Store.files c.nodes.store) c.nodes.invariant.same c.in_ok-turn.ensures.turn c.nodes.invariant.search
    (λ m p q. exact_ends c.args.file.part (bytes_of m c.args.file) c.args.root c.nodes.position c.nodes.passed c.nodes.rest.now c.args.key.now c.question_at.result c.in_ok-turn.turn None c.question_at.ensures p
    (end_turn c.args.file.part (bytes_of m c.args.file) c.nodes.position c.nodes.passed c.nodes.rest.now c.in_ok-turn.turn (no_hit c.in_ok-turn.turn.hit c.if-is_some.ensures) (short c.nodes.rest.now c.in-empty.len_below)) q)

pub returns-in-None-clause-found : goal.returns-in-None-clause-found
returns-in-None-clause-found g c =
    join (g.K.Store.files c.args.store.now) (g.K.Store.files c.nodes.store) c.nodes.invariant.same c.in_ok-turn.ensures.turn c.nodes.invariant.search
    (λ m p q. exact_ends c.args.file.part (bytes_of m c.args.file) c.args.root c.nodes.position c.nodes.passed c.nodes.rest.now c.args.key.now c.question_at.result c.in_ok-turn.turn None c.question_at.ensures p
    (none_turn c.args.file.part (bytes_of m c.args.file) c.nodes.position c.nodes.passed c.nodes.rest.now c.in_ok-turn.turn (no_hit c.in_ok-turn.turn.hit c.if-is_some.ensures) c.in-None.is) q)
