use Rattle.std.proofs.Common.{arith}
use Rattle.shard_table.specs.Seats.{IsFreeWriter}
use Rattle.shard_table.proofs.Each.{each_length}
use Rattle.script_run.proofs.Valued.{found_none, found_some}
use Rattle.script_run.proofs.answers.value_found.Goals as goal

pub value_of-requires-clause-shard : goal.value_of-requires-clause-shard
value_of-requires-clause-shard c =
    let w = c.args.workers.now in
    omega (arith, c.requires.answered.shard, w.writers.ok.0, each_length IsFreeWriter c.args.table.now.shards w.writers.items c.requires.workers.writing)

pub returns-in-None-clause-value : goal.returns-in-None-clause-value
returns-in-None-clause-value c asked lent =
    found_none c.args.table.now.shards c.args.workers.now c.requires.workers c.requires.learnt c.args.get.now asked c.args.answer.now lent c.requires.answered c.in-None.is

pub returns-in_ok-value_of-in-Some-clause-value : goal.returns-in_ok-value_of-in-Some-clause-value
returns-in_ok-value_of-in-Some-clause-value c asked lent =
    found_some c.args.table.now.shards c.args.workers.now c.requires.workers c.requires.learnt c.args.get.now asked c.args.answer.now lent c.requires.answered c.in-Some.rec c.in_ok-value_of-in-Some.field-0
    c.in-Some.is c.in_ok-value_of-in-Some.ensures.value
