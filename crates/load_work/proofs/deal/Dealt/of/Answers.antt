use Rattle.std.proofs.Common.{◌++◌, [], All, vec_len, sym, ap, subst, arith}
use Rattle.std.specs.Global.{Vec}
use Rattle.trie_rule.specs.Seats.{WriterAt, ReaderAt}
use Rattle.shard_table.specs.Seats.{AreEach, IsFreeWriter, IsFreeReader}
use Rattle.shard_table.proofs.Each.{each_length}
use Rattle.load_work.specs.Deal.{IsDealt, writes_from, reads_from}
use Rattle.load_work.proofs.deal.Dealt.of.Goals as goal

pub deal_writers-requires-clause-few : goal.deal_writers-requires-clause-few
deal_writers-requires-clause-few c =
    omega (arith, ap (λ (v : Vec WriterAt). vec_len v) c.replace-writers.ensures.value, c.args.workers.now.writers.ok.0, each_length IsFreeWriter c.args.table.now.shards c.args.workers.now.writers.items c.requires.workers.writing, c.requires.few)

pub returns : goal.returns
returns c =
    let table = c.args.table.now in let puts = c.args.puts.now in let gets = c.args.gets.now in let w = c.args.workers.now in
    let free : All (λ (s : Vec ReaderAt). AreEach IsFreeReader table.shards s.items) c.replace-readers.result.items =
    subst (λ (v : Vec (Vec ReaderAt)). All (λ (s : Vec ReaderAt). AreEach IsFreeReader table.shards s.items) v.items) (sym c.replace-readers.ensures.value) c.requires.workers.reading in
    let readers = c.in_ok-deal_readers.ensures table puts free [] (c.new-dealt.ensures.jobs, c.new-dealt.ensures.places) in
    let all = c.in_ok-deal_writers.ensures gets (reads_from 0 c.replace-readers.result.items ++ []) readers in
    subst (λ (v : Vec WriterAt). IsDealt table puts gets (writes_from 0 v.items ++ (reads_from 0 w.readers.items ++ [])) c.deal_writers.new.self.jobs.items c.deal_writers.new.self.places.items) c.replace-writers.ensures.value
    (subst (λ (v : Vec (Vec ReaderAt)). IsDealt table puts gets (writes_from 0 c.replace-writers.result.items ++ (reads_from 0 v.items ++ [])) c.deal_writers.new.self.jobs.items c.deal_writers.new.self.places.items) c.replace-readers.ensures.value all)
