use Rattle.std.proofs.Common.{arith, subst, sym}
use Rattle.shard_table.specs.Seats.{AreWorkers}
use Rattle.load_tests.proofs.Answering.{reader_there, shard_there, record_seen}
use Rattle.load_tests.proofs.batches.check_batch.Goals as goal

pub value_of-requires-clause-workers : goal.value_of-requires-clause-workers
value_of-requires-clause-workers g c = subst (AreWorkers c.args.table.now.shards) (sym c.answers.invariant) c.in_ok-answers.ensures.workers

pub value_of-requires-clause-reader : goal.value_of-requires-clause-reader
value_of-requires-clause-reader g c = reader_there c.args.table.now c.args.workers.now c.run_batch.new.workers c.answers.workers c.answers.invariant c.args.gets.now c.in_ok-answers.answers c.in_ok-answers.ensures.answers c.answers.i c.index-answer.result.now (omega arith) c.index-answer.ensures

pub value_of-requires-clause-shard : goal.value_of-requires-clause-shard
value_of-requires-clause-shard g c = shard_there c.args.table.now c.args.workers.now c.run_batch.new.workers c.answers.workers c.answers.invariant c.args.gets.now c.in_ok-answers.answers c.in_ok-answers.ensures.answers c.answers.i c.index-answer.result.now (omega arith) c.index-answer.ensures

pub value_of-requires-clause-record : goal.value_of-requires-clause-record
value_of-requires-clause-record g c = record_seen c.args.table.now c.args.workers.now c.run_batch.new.workers c.answers.workers c.answers.invariant c.args.gets.now c.in_ok-answers.answers c.in_ok-answers.ensures.answers c.answers.i c.index-answer.result.now (omega arith) c.index-answer.ensures
