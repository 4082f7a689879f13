use Rattle.std.proofs.Common.{◌≡◌, ◌<◌, List, length, slice_index_or, refl, sym, ◌∙◌, subst, length-set, arith}
use Rattle.std.specs.Global.{Vec}
use Rattle.std.specs.Vec.{with_items}
use Rattle.std.proofs.lemmas.Option.{slice_get-get_or}
use Rattle.trie_rule.specs.Seats.{WriterAt, ReaderAt}
use Rattle.shard_table.specs.Seats.{AreEach, IsFreeReader}
use Rattle.shard_table.proofs.Each.{each_length}
use Rattle.load_work.specs.Reads.{HasGrown}
use Rattle.load_work.specs.Work.{HasLearnt}
use Rattle.load_work.proofs.Settling.{written_again, readers_same, reading_more, readers_more, all_learnt_more}
use Rattle.load_work.proofs.settle.learn_all.Goals as goal

pub loop-q-init : goal.loop-q-init
loop-q-init c = record {
  same = refl;
  count = refl;
  reading = c.requires.reading;
  grown = readers_same c.args.readers.now;
  learnt = λ p seats less at. absurd (omega (arith, less));
}

pub loop-q-preserved : goal.loop-q-preserved
loop-q-preserved c =
    let shards = c.args.table.now.shards in let readers = c.loop-q.readers in let q = c.loop-q.q in let d = c.index-readers-q.result in
    let old : Vec ReaderAt = slice_index_or readers q d in let after : List ReaderAt = c.learn_each.new.seats in let new : Vec ReaderAt = with_items old after in
    let less : q < length readers = omega arith in
    let was : AreEach IsFreeReader shards old.items = c.loop-q.invariant.reading q d less in
    let long : length after ≡ length old.items = omega (arith, each_length IsFreeReader shards old.items was, each_length IsFreeReader shards after c.learn_each.ensures.reading) in
    let same : after ≡ new.items = sym (written_again old after long) in
    let free : AreEach IsFreeReader shards new.items = subst (AreEach IsFreeReader shards) same c.learn_each.ensures.reading in
    let more : AreEach HasGrown old.items new.items = subst (λ (l : List ReaderAt). AreEach HasGrown l new.items) c.as_mut_slice.ensures.value (subst (AreEach HasGrown c.as_mut_slice.result.now) same c.learn_each.ensures.grown) in
    let learnt : AreEach HasLearnt c.args.writers.now new.items = subst (λ (ws : List WriterAt). AreEach HasLearnt ws new.items) c.loop-q.invariant.same (subst (AreEach HasLearnt c.loop-q.writers) same c.learn_each.ensures.learnt) in
    record {
      same = c.learn_each.ensures.same ∙ c.loop-q.invariant.same;
      count = length-set readers q new ∙ c.loop-q.invariant.count;
      reading = reading_more shards c.args.writers.now c.args.readers.now readers q d new less free more c.loop-q.invariant.reading;
      grown = readers_more shards c.args.writers.now c.args.readers.now readers q d new less free more c.loop-q.invariant.grown;
      learnt = all_learnt_more shards c.args.writers.now c.args.readers.now readers q d new less free more learnt c.loop-q.invariant.learnt;
    }

pub returns-clause-learnt : goal.returns-clause-learnt
returns-clause-learnt c k d less = c.loop-q.invariant.learnt k (slice_index_or c.loop-q.readers k d) (omega (arith, less, c.loop-q-test.false)) (slice_get-get_or c.loop-q.readers k d less)
