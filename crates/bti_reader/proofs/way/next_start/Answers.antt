use Rattle.std.proofs.Common.{◌≡◌, ◌+◌, ◌-◌, ◌∙◌, refl, drop, false, get_or, length, None, Ok, sym, subst, arith}
use Rattle.std.proofs.lemmas.Result.{err_from_is_err_and}
use Rattle.outside.specs.Files.{bytes_of}
use Rattle.bti_reader.specs.declared.ask.Question.TheVariants.{Least}
use Rattle.bti_reader.specs.Searches.{above_from}
use Rattle.bti_reader.proofs.Asking.{join, join3}
use Rattle.bti_reader.proofs.Ways.{below_found, beside_found, beside_stands, least_stands, none_after, none_beside, way_wrong}
use Rattle.bti_reader.proofs.way.next_start.Goals as goal

pub returns-in_err-below-clause-found : goal.returns-in_err-below-clause-found
returns-in_err-below-clause-found g c =
    let e = err_from_is_err_and c.from_residual.result c.from_residual.ensures.1 in
    rw (e.1, e.2) (join (g.K.Store.files c.args.store.now) (g.K.Store.files c.args.store.now) refl c.in_err-below.ensures.turn c.requires.way
    (λ m p q. way_wrong c.args.file.part Least (bytes_of m c.args.file) c.args.path.now c.args.nodes.now (length c.args.path.now) _ _ q (omega arith) p))

pub returns-in-Some-clause-found : goal.returns-in-Some-clause-found
returns-in-Some-clause-found g c =
    join (g.K.Store.files c.args.store.now) (g.K.Store.files c.args.store.now) refl c.in_ok-below.ensures.turn c.requires.way
    (λ m p q. rw c.start_of.ensures (below_found c.args.file.part (bytes_of m c.args.file) c.args.path.now c.args.nodes.now _ c.in_ok-below.below c.in-Some.child q p c.in-Some.is))

pub returns-in-Some-clause-child : goal.returns-in-Some-clause-child
returns-in-Some-clause-child g c =
    join (g.K.Store.files c.args.store.now) (g.K.Store.files c.args.store.now) refl c.in_ok-below.ensures.turn c.requires.way
    (λ m p q. rw c.start_of.ensures (least_stands c.args.file.part (bytes_of m c.args.file) _ _ c.in_ok-below.below c.in-Some.child p c.in-Some.is))

pub returns-in-Some-beside-clause-found : goal.returns-in-Some-beside-clause-found
returns-in-Some-beside-clause-found g c =
    let j = c.up.depth - 1 in
    let more : j + 1 ≡ c.up.depth = omega (arith, c.up-test.true) in
    join3 (g.K.Store.files c.args.store.now) (g.K.Store.files c.up.store) (g.K.Store.files c.args.store.now) c.up.invariant.same (sym c.up.invariant.same) c.in_ok-turn.ensures.turn c.up.invariant.none c.requires.way
    (λ m p none q. rw c.start_of-in-Some-beside.ensures
    (beside_found c.args.file.part (bytes_of m c.args.file) c.args.path.now c.args.nodes.now j _ c.in_ok-turn.turn c.in-Some-beside.child q (omega (arith, c.up-test.true, c.up.invariant.deep)) (rw more none) p c.in-Some-beside.is))

pub returns-in-Some-beside-clause-child : goal.returns-in-Some-beside-clause-child
returns-in-Some-beside-clause-child g c =
    join (g.K.Store.files c.args.store.now) (g.K.Store.files c.up.store) c.up.invariant.same c.in_ok-turn.ensures.turn c.requires.way
    (λ m p q. rw c.start_of-in-Some-beside.ensures (beside_stands c.args.file.part (bytes_of m c.args.file) _ _ _ c.in_ok-turn.turn c.in-Some-beside.child p c.in-Some-beside.is))

pub up-preserved : goal.up-preserved
up-preserved g c =
    let j = c.up.depth - 1 in
    let more : j + 1 ≡ c.up.depth = omega (arith, c.up-test.true) in
    record {
      honest = c.ask-in-up.ensures.honest;
      same = c.ask-in-up.ensures.files ∙ c.up.invariant.same;
      deep = omega (arith, c.up.invariant.deep);
      none = join3 (g.K.Store.files c.args.store.now) (g.K.Store.files c.up.store) (g.K.Store.files c.args.store.now) c.up.invariant.same (sym c.up.invariant.same) c.in_ok-turn.ensures.turn c.up.invariant.none c.requires.way
          (λ m p none q. none_beside c.args.file.part (bytes_of m c.args.file) c.args.path.now c.args.nodes.now j _ c.in_ok-turn.turn q (omega (arith, c.up-test.true, c.up.invariant.deep)) (rw more none) p c.in_default-beside.is);
      later = omega (arith, c.ask-in-up.ensures.later, c.up.invariant.later);
    }

pub returns-clause-found : goal.returns-clause-found
returns-clause-found g c =
    let end : c.up.depth ≡ 0 = omega (arith, c.up-test.false) in
    join (g.K.Store.files c.args.store.now) (g.K.Store.files c.args.store.now) refl c.up.invariant.none c.requires.way
    (λ m none q. none_after (bytes_of m c.args.file) c.args.path.now c.args.nodes.now (subst (λ k. above_from false (bytes_of m c.args.file) (get_or c.args.nodes.now k 0) (drop k c.args.path.now) ≡ Ok None) end none))
