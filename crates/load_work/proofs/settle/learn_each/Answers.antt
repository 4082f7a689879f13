use Rattle.std.proofs.Common.{◌≡◌, List, length, set, slice_index_or, sym, ap, ◌∙◌, subst, refl, arith}
use Rattle.std.proofs.lemmas.List.{set-get_or}
use Rattle.std.proofs.lemmas.Option.{slice_get_within}
use Rattle.trie_rule.specs.Seats.{WriterAt}
use Rattle.shard_table.specs.Seats.{AreEach, IsFreeWriter, IsFreeReader}
use Rattle.shard_table.proofs.Each.{each_length}
use Rattle.load_work.specs.Reads.{HasGrown}
use Rattle.load_work.specs.Work.{HasLearnt}
use Rattle.load_work.proofs.Answered.{each_set, each_with_itself, grown_same}
use Rattle.load_work.proofs.Lists.{each_by_place}
use Rattle.load_work.proofs.Settling.{writer_may, reader_may, grown_more, learnt_more}
use Rattle.load_work.proofs.settle.learn_each.Goals as goal

pub loop-i-init : goal.loop-i-init
loop-i-init c = record {
  same = refl;
  reading = c.requires.reading;
  grown = each_with_itself HasGrown c.args.seats.now grown_same;
  learnt = λ j w s less at to. absurd (omega (arith, less));
}

pub cells-requires : goal.cells-requires
cells-requires c = omega (arith, each_length IsFreeReader c.args.table.now.shards c.loop-i.seats c.loop-i.invariant.reading)

pub bounds-writers-i : goal.bounds-writers-i
bounds-writers-i c = omega (arith, each_length IsFreeReader c.args.table.now.shards c.loop-i.seats c.loop-i.invariant.reading, each_length IsFreeWriter c.args.table.now.shards c.args.writers.now c.requires.writing, ap length c.loop-i.invariant.same)

pub learn_puts-requires-clause-write : goal.learn_puts-requires-clause-write
learn_puts-requires-clause-write c = writer_may c.args.table.now.shards c.loop-i.i c.cells.result.now c.cells.ensures c.loop-i.writers _ (subst (AreEach IsFreeWriter c.args.table.now.shards) (sym c.loop-i.invariant.same) c.requires.writing)

pub learn_puts-requires-clause-read : goal.learn_puts-requires-clause-read
learn_puts-requires-clause-read c = reader_may c.args.table.now.shards c.loop-i.i c.cells.result.now c.cells.ensures c.loop-i.seats _ c.loop-i.invariant.reading

pub loop-i-preserved : goal.loop-i-preserved
loop-i-preserved c =
    let i = c.loop-i.i in let seats = c.loop-i.seats in let t = c.learn_puts.new.reader in let writers = c.loop-i.writers in
    record {
      same = ap (λ (s : WriterAt). set writers i s) c.learn_puts.ensures.same ∙ set-get_or writers i c.index-writers-i.result ∙ c.loop-i.invariant.same;
      reading = each_set IsFreeReader c.args.table.now.shards seats i c.cells.result.now t c.loop-i.invariant.reading c.cells.ensures (record { own = c.learn_puts.ensures.read.0; idle = c.learn_puts.ensures.read.1 });
      grown = grown_more c.args.seats.now seats i c.index-seats-i.result t (omega arith) c.loop-i.invariant.grown c.learn_puts.ensures.grown;
      learnt = learnt_more c.args.writers.now seats i c.index-writers-i.result t
          (subst (λ (ws : List WriterAt). HasLearnt (slice_index_or ws i c.index-writers-i.result) t) c.loop-i.invariant.same c.learn_puts.ensures.learnt) c.loop-i.invariant.learnt;
    }

pub returns-clause-learnt : goal.returns-clause-learnt
returns-clause-learnt c =
    let seats = c.loop-i.seats in
    let long : length c.args.writers.now ≡ length seats = omega (arith, each_length IsFreeReader c.args.table.now.shards seats c.loop-i.invariant.reading, each_length IsFreeWriter c.args.table.now.shards c.args.writers.now c.requires.writing) in
    each_by_place HasLearnt c.args.writers.now seats long (λ j w s at to. c.loop-i.invariant.learnt j w s (omega (arith, slice_get_within seats j s to, c.loop-i-test.false)) at to)
