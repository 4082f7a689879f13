use Rattle.std.proofs.Common.{◌≡◌, [], ◌∷◌, ◌++◌, suc, vec_len, arith}
use Rattle.load_work.specs.Deal.{reads_from}
use Rattle.load_work.specs.Reads.{gets_of}
use Rattle.load_work.proofs.Lists.{one_less}
use Rattle.load_work.proofs.Dealing.{next_reader, idle_reader, reader_free}
use Rattle.load_work.proofs.deal.Dealt.deal_readers.Goals as goal

pub readers-preserved-in-Continue-1 : goal.readers-preserved-in-Continue-1
readers-preserved-in-Continue-1 c =
    let seats = c.in-Some.seats in let rest = c.readers.invariant.0 in let before = c.readers.readers in let now = c.pop.new.self in
    let e : vec_len before ≡ suc (vec_len now) = omega (arith, c.in-Some.ensures.cases) in
    let all : c.args.readers.items ≡ now.items ++ seats ∷ rest = one_less c.args.readers.items before.items now.items rest seats c.readers.invariant.1 c.in-Some.ensures.items in (
      seats ∷ rest,
      all,
      λ table puts free workers was.
          next_reader table puts c.args.gets.now workers c.len-reader.result (vec_len now) (vec_len before) c.len-reader.ensures e c.deal.new.self.jobs.items c.deal.new.self.places.items seats rest
          (c.in_ok-deal.ensures table puts c.args.gets.now (reader_free table.shards c.args.readers.items now.items rest seats all free) (reads_from (vec_len before) rest ++ workers) (c.readers.invariant.2 table puts free workers was)),
    )

pub readers-preserved : goal.readers-preserved
readers-preserved c =
    let seats = c.in-Some.seats in let rest = c.readers.invariant.0 in let before = c.readers.readers in let now = c.pop.new.self in
    let e : vec_len before ≡ suc (vec_len now) = omega (arith, c.in-Some.ensures.cases) in
    let all : c.args.readers.items ≡ now.items ++ seats ∷ rest = one_less c.args.readers.items before.items now.items rest seats c.readers.invariant.1 c.in-Some.ensures.items in
    let none : gets_of c.len-reader.result c.args.gets.now ≡ [] = c.has_gets.ensures c.if-has_gets.false in (
      seats ∷ rest,
      all,
      λ table puts free workers was.
          next_reader table puts c.args.gets.now workers c.len-reader.result (vec_len now) (vec_len before) c.len-reader.ensures e c.pass.new.self.jobs.items c.pass.new.self.places.items seats rest
          (c.in_ok-pass.ensures table puts c.args.gets.now _
          (idle_reader table puts c.args.gets.now c.len-reader.result seats c.new.result (reader_free table.shards c.args.readers.items now.items rest seats all free) none c.new.ensures.items)
          (reads_from (vec_len before) rest ++ workers)
          (c.readers.invariant.2 table puts free workers was)),
    )
