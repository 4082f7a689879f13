use Rattle.std.proofs.Common.{arith}
use Rattle.load_work.proofs.Written.{goes_on, stops}
use Rattle.load_work.proofs.write.make_puts.Goals as goal

pub returns-then-not-try_put-clause-written : goal.returns-then-not-try_put-clause-written
returns-then-not-try_put-clause-written g c =
    let t = c.if-not-try_put.ensures.tried in
    stops c.args.table.now.bounds c.args.shard c.args.seat.now.knows c.puts.seat.knows c.try_put.new.seat.knows c.args.puts.now c.puts.line-index _ (omega arith) c.puts.invariant.makes t.0 t.1 t.2

pub puts-preserved : goal.puts-preserved
puts-preserved g c = record {
  may = c.if-not-try_put.ensures.may;
  makes = goes_on c.args.table.now.bounds c.args.shard c.args.seat.now.knows c.puts.seat.knows c.try_put.new.seat.knows c.args.puts.now c.puts.line-index _ (omega arith) c.puts.invariant.makes c.if-not-try_put.ensures.tried;
}
