use Rattle.std.proofs.Common.{◌∙◌, ◌+◌, Some, sym, subst, arith}
use Rattle.std.proofs.lemmas.Result.{err_from_is_err_and}
use Rattle.bti_nodes.specs.Grammar.{IsBack}
use Rattle.outside.specs.Files.{bytes_of}
use Rattle.bti_reader.proofs.Asking.{join, first_err, first_hit, first_on, no_hit, some_reads}
use Rattle.bti_reader.proofs.Within.{first_within}
use Rattle.bti_reader.proofs.paths.first_path.Goals as goal

pub returns-in_err-turn-clause-found : goal.returns-in_err-turn-clause-found
returns-in_err-turn-clause-found g c =
    let e = err_from_is_err_and c.from_residual.result c.from_residual.ensures.1 in
    rw (e.1, e.2) (join (g.K.Store.files c.args.store.now) (g.K.Store.files c.nodes.store) c.nodes.invariant.same c.in_err-turn.ensures.turn c.nodes.invariant.search
    (λ m p q. first_err c.args.file.part (bytes_of m c.args.file) c.args.start c.nodes.position c.nodes.passed c.args.taken _ p q))

pub returns-then-is_some-clause-found : goal.returns-then-is_some-clause-found
returns-then-is_some-clause-found g c =
    join (g.K.Store.files c.args.store.now) (g.K.Store.files c.nodes.store) c.nodes.invariant.same c.in_ok-turn.ensures.turn c.nodes.invariant.search
    (λ m p q. first_hit c.args.file.part (bytes_of m c.args.file) c.args.start c.nodes.position c.nodes.passed c.args.taken c.in_ok-turn.turn p (sym c.if-is_some.ensures) q)

pub returns-then-is_some-clause-reads : goal.returns-then-is_some-clause-reads
returns-then-is_some-clause-reads g c =
    some_reads c.in_ok-turn.turn.hit (g.K.Store.reads c.ask.new.store) c.args.taken (g.K.Store.reads c.args.store.now) c.nodes.passed c.in_ok-turn.ensures.hit (omega (arith, c.in_ok-turn.ensures.reads, c.nodes.invariant.reads))

pub nodes-preserved : goal.nodes-preserved
nodes-preserved g c =
    let back : IsBack c.nodes.position (Some c.in-Some.child) = subst (IsBack c.nodes.position) c.in-Some.is c.in_ok-turn.ensures.back.0 in
    record {
      honest = c.ask.ensures.honest;
      same = c.ask.ensures.files ∙ c.nodes.invariant.same;
      search = join (g.K.Store.files c.args.store.now) (g.K.Store.files c.nodes.store) c.nodes.invariant.same c.in_ok-turn.ensures.turn c.nodes.invariant.search
          (λ m p q. first_on c.args.file.part (bytes_of m c.args.file) c.args.start c.nodes.position c.nodes.passed c.args.taken c.in_ok-turn.turn c.in-Some.child p (no_hit c.in_ok-turn.turn.hit c.if-is_some.ensures) c.in-Some.is q);
      room = omega arith;
      reads = omega arith;
      later = omega arith;
    }

pub returns-in_err-turn-clause-within : goal.returns-in_err-turn-clause-within
returns-in_err-turn-clause-within g c =
    first_within (g.K.Store.files c.args.store.now) c.args.file c.args.start c.nodes.position c.nodes.passed c.args.taken (g.K.Store.reads c.args.store.now + 1) (g.K.Store.reads c.ask.new.store + c.args.taken)
    c.nodes.invariant.search (omega (arith, c.ask.ensures.reads, c.nodes.invariant.reads))

pub returns-then-is_some-clause-within : goal.returns-then-is_some-clause-within
returns-then-is_some-clause-within g c =
    first_within (g.K.Store.files c.args.store.now) c.args.file c.args.start c.nodes.position c.nodes.passed c.args.taken (g.K.Store.reads c.args.store.now + 1) (g.K.Store.reads c.ask.new.store + c.args.taken)
    c.nodes.invariant.search (omega (arith, c.ask.ensures.reads, c.nodes.invariant.reads))
