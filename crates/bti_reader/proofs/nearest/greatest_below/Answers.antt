use Rattle.std.proofs.Common.{◌∙◌, ◌+◌, length, Some, sym, subst, arith}
use Rattle.std.proofs.lemmas.Result.{err_from_is_err_and}
use Rattle.outside.specs.Files.{bytes_of}
use Rattle.bti_nodes.specs.Grammar.{IsBack}
use Rattle.bti_reader.proofs.Asking.{join, join3, below_on, below_stops, below_end_err, below_here, below_back, no_hit, short, front_rest, taken_on, fits_on}
use Rattle.bti_reader.specs.Searches.{last_path, below_from}
use Rattle.bti_reader.specs.Steps.{answer_of, spare_answer}
use Rattle.bti_reader.proofs.Within.{spare_of_bytes, within_less, within_on}
use Rattle.bti_reader.proofs.nearest.greatest_below.Goals as goal

pub nodes-preserved : goal.nodes-preserved
nodes-preserved g c =
    let back : IsBack c.nodes.position (Some c.in-Some.child) = subst (IsBack c.nodes.position) c.in-Some.is c.in_ok-turn.ensures.back.0 in
    record {
      honest = c.ask.ensures.honest;
      same = c.ask.ensures.files ∙ c.nodes.invariant.same;
      search = join (g.K.Store.files c.args.store.now) (g.K.Store.files c.nodes.store) c.nodes.invariant.same c.in_ok-turn.ensures.turn c.nodes.invariant.search
          (λ m p q. below_on c.args.itself c.args.file.part (bytes_of m c.args.file) c.nodes.position c.nodes.passed _ c.nodes.rest.now _ c.nodes.spare c.kept-spare.result c.in_ok-turn.turn c.in-Some.child _
          (front_rest c.nodes.rest.now c.in-len1-up.len_at_least) c.kept-spare.ensures c.in-Some.is p q);
      taken = taken_on c.nodes.passed (length c.args.key.now) c.nodes.rest.now c.nodes.invariant.taken c.in-len1-up.len_at_least;
      room = omega arith;
      fits = rw c.kept-spare.ensures (fits_on c.args.root c.nodes.spare c.in_ok-turn.turn.beside c.in_ok-turn.turn.hit c.nodes.position c.nodes.passed c.nodes.invariant.fits c.in_ok-turn.ensures.back.1 c.nodes.invariant.room);
      reads = omega arith;
      later = omega arith;
    }

pub returns-in-None-clause-found : goal.returns-in-None-clause-found
returns-in-None-clause-found g c =
    join3 (g.K.Store.files c.args.store.now) (g.K.Store.files c.nodes.store) (g.K.Store.files c.ask.new.store) c.nodes.invariant.same c.ask.ensures.files c.in_ok-turn.ensures.turn c.nodes.invariant.search c.take_last.ensures.found
    (λ m p q s. below_stops c.args.itself c.args.file.part (bytes_of m c.args.file) c.nodes.position c.nodes.passed _ c.nodes.rest.now _ c.nodes.spare c.kept-spare.result c.in_ok-turn.turn _ c.take_last.result
    (front_rest c.nodes.rest.now c.in-len1-up.len_at_least) c.kept-spare.ensures c.in-None.is p q s)

pub returns-in_err-turn-2-clause-found : goal.returns-in_err-turn-2-clause-found
returns-in_err-turn-2-clause-found g c =
    let e = err_from_is_err_and c.from_residual-in_err-turn-2.result c.from_residual-in_err-turn-2.ensures.1 in
    rw (e.1, e.2) (join (g.K.Store.files c.args.store.now) (g.K.Store.files c.nodes.store) c.nodes.invariant.same c.in_err-turn-2.ensures.turn c.nodes.invariant.search
    (λ m p q. below_end_err c.args.itself c.args.file.part (bytes_of m c.args.file) c.nodes.position c.nodes.passed c.nodes.rest.now c.nodes.spare _ _ (short c.nodes.rest.now c.in_default.len_below) p q))

pub returns-then-is_some-clause-found : goal.returns-then-is_some-clause-found
returns-then-is_some-clause-found g c =
    join (g.K.Store.files c.args.store.now) (g.K.Store.files c.nodes.store) c.nodes.invariant.same c.in_ok-turn-2.ensures.turn c.nodes.invariant.search
    (λ m p q. below_here c.args.itself c.args.file.part (bytes_of m c.args.file) c.nodes.position c.nodes.passed c.nodes.rest.now c.nodes.spare c.in_ok-turn-2.turn c.if_counts-here.result _ (short c.nodes.rest.now c.in_default.len_below)
    c.if_counts-here.ensures (sym c.if-is_some.ensures) p q)

pub returns-clause-found : goal.returns-clause-found
returns-clause-found g c =
    join3 (g.K.Store.files c.args.store.now) (g.K.Store.files c.nodes.store) (g.K.Store.files c.ask-2.new.store) c.nodes.invariant.same c.ask-2.ensures.files c.in_ok-turn-2.ensures.turn c.nodes.invariant.search c.take_last-2.ensures.found
    (λ m p q s. below_back c.args.itself c.args.file.part (bytes_of m c.args.file) c.nodes.position c.nodes.passed c.nodes.rest.now c.nodes.spare c.in_ok-turn-2.turn c.if_counts-here.result _ c.take_last-2.result
    (short c.nodes.rest.now c.in_default.len_below) c.if_counts-here.ensures (no_hit c.if_counts-here.result c.if-is_some.ensures) p q s)

pub returns-in-None-clause-within : goal.returns-in-None-clause-within
returns-in-None-clause-within g c =
    let most = g.K.Store.reads c.args.store.now + (length c.args.key.now + 1) in
    join3 (g.K.Store.files c.args.store.now) (g.K.Store.files c.nodes.store) (g.K.Store.files c.ask.new.store) c.nodes.invariant.same c.ask.ensures.files c.in_ok-turn.ensures.turn c.nodes.invariant.search c.take_last.ensures.within
    (λ m p q s.
    let kept = spare_answer c.args.file.part (last_path (bytes_of m c.args.file)) c.kept-spare.result in
    let whole = answer_of c.args.file.part 0 (below_from c.args.itself (bytes_of m c.args.file) c.args.root c.args.key.now) in
    within_on kept whole most (g.K.Store.reads c.take_last.new.store) (spare_of_bytes c.args.file.part (last_path (bytes_of m c.args.file)) c.kept-spare.result)
    (λ r h. below_stops c.args.itself c.args.file.part (bytes_of m c.args.file) c.nodes.position c.nodes.passed _ c.nodes.rest.now _ c.nodes.spare c.kept-spare.result c.in_ok-turn.turn whole r
    (front_rest c.nodes.rest.now c.in-len1-up.len_at_least) c.kept-spare.ensures c.in-None.is p q h)
    (within_less (g.K.Store.reads c.ask.new.store) most (g.K.Store.reads c.take_last.new.store) (g.K.Store.reads c.take_last.new.store) kept
    (omega (arith, c.ask.ensures.reads, c.nodes.invariant.reads, c.nodes.invariant.taken)) s))

pub returns-clause-within : goal.returns-clause-within
returns-clause-within g c =
    let most = g.K.Store.reads c.args.store.now + (length c.args.key.now + 1) in
    join3 (g.K.Store.files c.args.store.now) (g.K.Store.files c.nodes.store) (g.K.Store.files c.ask-2.new.store) c.nodes.invariant.same c.ask-2.ensures.files c.in_ok-turn-2.ensures.turn c.nodes.invariant.search c.take_last-2.ensures.within
    (λ m p q s.
    let kept = spare_answer c.args.file.part (last_path (bytes_of m c.args.file)) c.nodes.spare in
    let whole = answer_of c.args.file.part 0 (below_from c.args.itself (bytes_of m c.args.file) c.args.root c.args.key.now) in
    within_on kept whole most (g.K.Store.reads c.take_last-2.new.store) (spare_of_bytes c.args.file.part (last_path (bytes_of m c.args.file)) c.nodes.spare)
    (λ r h. below_back c.args.itself c.args.file.part (bytes_of m c.args.file) c.nodes.position c.nodes.passed c.nodes.rest.now c.nodes.spare c.in_ok-turn-2.turn c.if_counts-here.result whole r
    (short c.nodes.rest.now c.in_default.len_below) c.if_counts-here.ensures (no_hit c.if_counts-here.result c.if-is_some.ensures) p q h)
    (within_less (g.K.Store.reads c.ask-2.new.store) most (g.K.Store.reads c.take_last-2.new.store) (g.K.Store.reads c.take_last-2.new.store) kept
    (omega (arith, c.ask-2.ensures.reads, c.nodes.invariant.reads, c.nodes.invariant.taken)) s))
