use Rattle.std.proofs.Common.{◌∙◌, arith}
use Rattle.std.proofs.lemmas.Result.{err_from_is_err_and}
use Rattle.outside.specs.Files.{bytes_of}
use Rattle.bti_reader.proofs.Asking.{join}
use Rattle.bti_reader.proofs.Walking.{way_err, way_hit, way_on}
use Rattle.bti_reader.proofs.Ways.{both_longer, first_stays, grown, least_stands}
use Rattle.bti_reader.proofs.way.first_into.Goals as goal

pub returns-in_err-turn-clause-found : goal.returns-in_err-turn-clause-found
returns-in_err-turn-clause-found g c =
    let e = err_from_is_err_and c.from_residual-in_err-turn.result c.from_residual-in_err-turn.ensures.1 in
    rw (e.1, e.2) (join (g.K.Store.files c.args.store.now) (g.K.Store.files c.down.store) c.down.invariant.same c.in_err-turn.ensures.turn c.down.invariant.search
    (λ m p q. way_err c.args.file.part (bytes_of m c.args.file) c.down.path c.args.taken 0 c.down.position c.args.start _ p q))

pub returns-in-Some-clause-found : goal.returns-in-Some-clause-found
returns-in-Some-clause-found g c =
    join (g.K.Store.files c.args.store.now) (g.K.Store.files c.down.store) c.down.invariant.same c.in_ok-turn.ensures.turn c.down.invariant.search
    (λ m p q. way_hit c.args.file.part (bytes_of m c.args.file) c.down.path c.args.taken 0 c.down.position c.args.start c.in_ok-turn.turn c.in-Some.hit c.path_hit.result p c.in-Some.is c.path_hit.ensures q)

pub down-preserved : goal.down-preserved
down-preserved g c =
    let longer = c.in_ok-push-in-Some-child.ensures.ok in
    record {
      honest = c.ask.ensures.honest;
      same = c.ask.ensures.files ∙ c.down.invariant.same;
      search = join (g.K.Store.files c.args.store.now) (g.K.Store.files c.down.store) c.down.invariant.same c.in_ok-turn.ensures.turn c.down.invariant.search
          (λ m p q. way_on c.args.file.part (bytes_of m c.args.file) c.down.path c.push-in-Some-child.new.self c.args.taken 0 c.down.position c.args.start c.in_ok-turn.turn c.in-Some-child.child p c.in_default.is c.in-Some-child.is longer q);
      count = both_longer c.down.nodes c.down.path c.push.new.self c.push-in-Some-child.new.self c.down.position c.in-Some-child.child.byte c.down.invariant.count c.in_ok-push.ensures.ok longer;
      way = join (g.K.Store.files c.args.store.now) (g.K.Store.files c.down.store) c.down.invariant.same c.in_ok-turn.ensures.turn c.down.invariant.way
          (λ m p q. rw c.in_ok-push.ensures.ok (grown (bytes_of m c.args.file) c.down.path c.down.nodes c.push-in-Some-child.new.self c.down.position c.in-Some-child.child.byte _ c.down.invariant.count longer q
          (least_stands c.args.file.part (bytes_of m c.args.file) 0 c.down.position c.in_ok-turn.turn c.in-Some-child.child p c.in-Some-child.is)));
      root = rw c.in_ok-push.ensures.ok (first_stays c.down.nodes c.down.position _ ∙ c.down.invariant.root);
      later = omega (arith, c.ask.ensures.later, c.down.invariant.later);
    }
