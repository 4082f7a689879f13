use Rattle.std.proofs.Common.{◌∙◌, ◌+◌, length, Some, None, subst, arith}
use Rattle.outside.specs.Files.{bytes_of}
use Rattle.bti_nodes.specs.Grammar.{IsBack}
use Rattle.bti_reader.specs.Searches.{first_path, ceiling_in}
use Rattle.bti_reader.specs.Steps.{answer_of, spare_answer}
use Rattle.bti_reader.proofs.Asking.{join, join3, above_on, above_stops, front_rest, taken_on, fits_on}
use Rattle.bti_reader.proofs.Within.{spare_of_bytes, within_less, within_on}
use Rattle.bti_reader.proofs.nearest.ceiling.Goals as goal

pub nodes-preserved : goal.nodes-preserved
nodes-preserved g c =
    let back : IsBack c.nodes.position (Some c.in-Some.child) = subst (IsBack c.nodes.position) c.in-Some.is c.in_ok-turn.ensures.back.0 in
    record {
      honest = c.ask.ensures.honest;
      same = c.ask.ensures.files ∙ c.nodes.invariant.same;
      search = join (g.K.Store.files c.args.store.now) (g.K.Store.files c.nodes.store) c.nodes.invariant.same c.in_ok-turn.ensures.turn c.nodes.invariant.search
          (λ m p q. above_on c.args.file.part (bytes_of m c.args.file) c.nodes.position c.nodes.passed _ c.nodes.rest.now _ c.nodes.spare c.kept-spare.result c.in_ok-turn.turn c.in-Some.child _
          (front_rest c.nodes.rest.now c.in-len1-up.len_at_least) c.kept-spare.ensures c.in-Some.is p q);
      taken = taken_on c.nodes.passed (length c.args.key.now) c.nodes.rest.now c.nodes.invariant.taken c.in-len1-up.len_at_least;
      room = omega arith;
      fits = rw c.kept-spare.ensures (fits_on c.args.root c.nodes.spare c.in_ok-turn.turn.beside None c.nodes.position c.nodes.passed c.nodes.invariant.fits c.in_ok-turn.ensures.back.1 c.nodes.invariant.room);
      reads = omega arith;
      later = omega arith;
    }

pub returns-in-None-clause-found : goal.returns-in-None-clause-found
unfolding ceiling_in
returns-in-None-clause-found g c =
    join3 (g.K.Store.files c.args.store.now) (g.K.Store.files c.nodes.store) (g.K.Store.files c.ask.new.store) c.nodes.invariant.same c.ask.ensures.files c.in_ok-turn.ensures.turn c.nodes.invariant.search c.take_first.ensures.found
    (λ m p q s. above_stops c.args.file.part (bytes_of m c.args.file) c.nodes.position c.nodes.passed _ c.nodes.rest.now _ c.nodes.spare c.kept-spare.result c.in_ok-turn.turn _ c.take_first.result
    (front_rest c.nodes.rest.now c.in-len1-up.len_at_least) c.kept-spare.ensures c.in-None.is p q s)

pub returns-in-None-clause-within : goal.returns-in-None-clause-within
unfolding ceiling_in
returns-in-None-clause-within g c =
    let most = g.K.Store.reads c.args.store.now + (length c.args.key.now + 1) in
    join3 (g.K.Store.files c.args.store.now) (g.K.Store.files c.nodes.store) (g.K.Store.files c.ask.new.store) c.nodes.invariant.same c.ask.ensures.files c.in_ok-turn.ensures.turn c.nodes.invariant.search c.take_first.ensures.within
    (λ m p q s.
    let kept = spare_answer c.args.file.part (first_path (bytes_of m c.args.file)) c.kept-spare.result in
    let whole = answer_of c.args.file.part 0 (ceiling_in (bytes_of m c.args.file) c.args.root c.args.key.now) in
    within_on kept whole most (g.K.Store.reads c.take_first.new.store) (spare_of_bytes c.args.file.part (first_path (bytes_of m c.args.file)) c.kept-spare.result)
    (λ r h. above_stops c.args.file.part (bytes_of m c.args.file) c.nodes.position c.nodes.passed _ c.nodes.rest.now _ c.nodes.spare c.kept-spare.result c.in_ok-turn.turn whole r
    (front_rest c.nodes.rest.now c.in-len1-up.len_at_least) c.kept-spare.ensures c.in-None.is p q h)
    (within_less (g.K.Store.reads c.ask.new.store) most (g.K.Store.reads c.take_first.new.store) (g.K.Store.reads c.take_first.new.store) kept
    (omega (arith, c.ask.ensures.reads, c.nodes.invariant.reads, c.nodes.invariant.taken)) s))
