use Rattle.std.proofs.Common.{◌∙◌, ◌+◌, Some, subst, arith}
use Rattle.std.proofs.lemmas.Result.{err_from_is_err_and}
use Rattle.bti_nodes.specs.Grammar.{IsBack}
use Rattle.outside.specs.Files.{bytes_of}
use Rattle.bti_reader.proofs.Asking.{join, last_err, last_hit, last_on, some_reads}
use Rattle.bti_reader.proofs.Within.{last_within}
use Rattle.bti_reader.proofs.paths.last_path.Goals as goal

pub returns-in_err-turn-clause-found : goal.returns-in_err-turn-clause-found
returns-in_err-turn-clause-found g c =
    let e = err_from_is_err_and c.from_residual.result c.from_residual.ensures.1 in
    rw (e.1, e.2) (join (g.K.Store.files c.args.store.now) (g.K.Store.files c.nodes.store) c.nodes.invariant.same c.in_err-turn.ensures.turn c.nodes.invariant.search
    (λ m p q. last_err c.args.file.part (bytes_of m c.args.file) c.args.start c.nodes.position c.nodes.passed c.args.taken _ p q))

pub returns-in-None-clause-found : goal.returns-in-None-clause-found
returns-in-None-clause-found g c =
    join (g.K.Store.files c.args.store.now) (g.K.Store.files c.nodes.store) c.nodes.invariant.same c.in_ok-turn.ensures.turn c.nodes.invariant.search
    (λ m p q. last_hit c.args.file.part (bytes_of m c.args.file) c.args.start c.nodes.position c.nodes.passed c.args.taken c.in_ok-turn.turn p c.in-None.is q)

pub returns-in-None-clause-reads : goal.returns-in-None-clause-reads
returns-in-None-clause-reads g c =
    some_reads c.in_ok-turn.turn.hit (g.K.Store.reads c.ask.new.store) c.args.taken (g.K.Store.reads c.args.store.now) c.nodes.passed c.in_ok-turn.ensures.hit (omega (arith, c.in_ok-turn.ensures.reads, c.nodes.invariant.reads))

pub nodes-preserved : goal.nodes-preserved
nodes-preserved g c =
    let back : IsBack c.nodes.position (Some c.in-Some.child) = subst (IsBack c.nodes.position) c.in-Some.is c.in_ok-turn.ensures.back.0 in
    record {
      honest = c.ask.ensures.honest;
      same = c.ask.ensures.files ∙ c.nodes.invariant.same;
      search = join (g.K.Store.files c.args.store.now) (g.K.Store.files c.nodes.store) c.nodes.invariant.same c.in_ok-turn.ensures.turn c.nodes.invariant.search
          (λ m p q. last_on c.args.file.part (bytes_of m c.args.file) c.args.start c.nodes.position c.nodes.passed c.args.taken c.in_ok-turn.turn c.in-Some.child p c.in-Some.is q);
      room = omega arith;
      reads = omega arith;
      later = omega arith;
    }

pub returns-in_err-turn-clause-within : goal.returns-in_err-turn-clause-within
returns-in_err-turn-clause-within g c =
    last_within (g.K.Store.files c.args.store.now) c.args.file c.args.start c.nodes.position c.nodes.passed c.args.taken (g.K.Store.reads c.args.store.now + 1) (g.K.Store.reads c.ask.new.store + c.args.taken)
    c.nodes.invariant.search (omega (arith, c.ask.ensures.reads, c.nodes.invariant.reads))

pub returns-in-None-clause-within : goal.returns-in-None-clause-within
returns-in-None-clause-within g c =
    last_within (g.K.Store.files c.args.store.now) c.args.file c.args.start c.nodes.position c.nodes.passed c.args.taken (g.K.Store.reads c.args.store.now + 1) (g.K.Store.reads c.ask.new.store + c.args.taken)
    c.nodes.invariant.search (omega (arith, c.ask.ensures.reads, c.nodes.invariant.reads))
