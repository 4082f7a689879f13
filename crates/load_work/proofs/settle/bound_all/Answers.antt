use Rattle.std.proofs.Common.{◌<◌, length, ◌∙◌, length-set, arith}
use Rattle.std.proofs.lemmas.Option.{slice_get_within}
use Rattle.shard_table.proofs.Each.{each_length}
use Rattle.load_work.specs.Merge.{CanBeBounded}
use Rattle.load_work.proofs.Lists.{set_beside}
use Rattle.load_work.proofs.Settling.{can_now, bounded_more}
use Rattle.load_work.proofs.settle.bound_all.Goals as goal

pub slice_copy_out-bound : goal.slice_copy_out-bound
slice_copy_out-bound c = omega (arith, c.loop-i.invariant.len, each_length (CanBeBounded c.args.writers.now) c.args.gets.now c.args.answers.now c.requires.can)

pub bounds-answers-i : goal.bounds-answers-i
bounds-answers-i c = omega (arith, c.loop-i.invariant.len, each_length (CanBeBounded c.args.writers.now) c.args.gets.now c.args.answers.now c.requires.can)

pub bound-requires-clause-can : goal.bound-requires-clause-can
bound-requires-clause-can c =
    let first = c.args.answers.now in let i = c.loop-i.i in
    let inside : i < length first = omega (arith, each_length (CanBeBounded c.args.writers.now) c.args.gets.now first c.requires.can) in
    can_now c.args.writers.now c.loop-i.writers c.loop-i.invariant.same c.args.gets.now first c.loop-i.answers i _ _ inside (c.loop-i.invariant.left i (omega arith)) c.requires.can

pub loop-i-preserved : goal.loop-i-preserved
loop-i-preserved c =
    let first = c.args.answers.now in let i = c.loop-i.i in let answers = c.loop-i.answers in
    let inside : i < length first = omega (arith, each_length (CanBeBounded c.args.writers.now) c.args.gets.now first c.requires.can) in
    record {
      same = c.bound.ensures.same ∙ c.loop-i.invariant.same;
      len = length-set answers i c.bound.result ∙ c.loop-i.invariant.len;
      left = λ j le. set_beside answers i j c.bound.result (omega (arith, le)) ∙ c.loop-i.invariant.left j (omega (arith, le));
      bounded = bounded_more c.args.writers.now c.loop-i.writers c.loop-i.invariant.same c.args.gets.now first answers i _ _ inside (c.loop-i.invariant.left i (omega arith)) c.bound.result c.bound.ensures.bounded c.loop-i.invariant.bounded;
    }

pub returns-clause-bounded : goal.returns-clause-bounded
returns-clause-bounded c i g a b at to now = c.loop-i.invariant.bounded i g a b (omega (arith, slice_get_within c.args.gets.now i g at, c.loop-i-test.false)) at to now
