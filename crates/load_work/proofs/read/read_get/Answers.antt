use Rattle.std.proofs.Common.{◌∙◌}
use Rattle.std.proofs.lemmas.Option.{slice_get-get_or}
use Rattle.shard_table.specs.Seats.{IsFreeReader}
use Rattle.shard_table.proofs.Each.{each_at}
use Rattle.load_work.specs.Reads.{HasGrown}
use Rattle.load_work.proofs.Answered.{inside_each, each_set, each_with_itself, grown_same, read_at}
use Rattle.load_work.proofs.read.read_get.Goals as goal

pub bounds-seats-shard : goal.bounds-seats-shard
bounds-seats-shard g c = inside_each IsFreeReader c.args.table.now.shards c.args.seats.now c.shard_of-shard.result c.requires.seats c.shard_of-shard.ensures.inside

pub answer-requires-clause-may : goal.answer-requires-clause-may
answer-requires-clause-may g c =
    let seats = c.args.seats.now in let i = c.shard_of-shard.result in
    let f = each_at IsFreeReader c.args.table.now.shards seats i c.cells.result.now _ c.requires.seats c.cells.ensures (slice_get-get_or seats i c.index-seats-shard.result (inside_each IsFreeReader c.args.table.now.shards c.args.seats.now c.shard_of-shard.result c.requires.seats c.shard_of-shard.ensures.inside)) in (f.own, f.idle)

pub returns-clause-seats : goal.returns-clause-seats
returns-clause-seats g c = each_set IsFreeReader c.args.table.now.shards c.args.seats.now c.shard_of-shard.result c.cells.result.now c.answer.new.seat c.requires.seats c.cells.ensures (record { own = c.answer.ensures.may.0; idle = c.answer.ensures.may.1 })

pub returns-clause-grown : goal.returns-clause-grown
returns-clause-grown g c =
    let seats = c.args.seats.now in let i = c.shard_of-shard.result in
    each_set HasGrown seats seats i _ c.answer.new.seat (each_with_itself HasGrown seats grown_same) (slice_get-get_or seats i c.index-seats-shard.result (inside_each IsFreeReader c.args.table.now.shards c.args.seats.now c.shard_of-shard.result c.requires.seats c.shard_of-shard.ensures.inside)) c.answer.ensures.grown

pub returns-clause-read : goal.returns-clause-read
returns-clause-read g c =
    let seats = c.args.seats.now in let i = c.shard_of-shard.result in let e = c.answer.ensures in
    read_at c.args.table.now.bounds seats i _ c.answer.new.seat c.args.get.now c.answer.result (record { line = e.line; reader = e.reader; shard = e.shard ∙ c.shard_of-shard.ensures.is }) e.shard (inside_each IsFreeReader c.args.table.now.shards c.args.seats.now c.shard_of-shard.result c.requires.seats c.shard_of-shard.ensures.inside) (slice_get-get_or seats i c.index-seats-shard.result (inside_each IsFreeReader c.args.table.now.shards c.args.seats.now c.shard_of-shard.result c.requires.seats c.shard_of-shard.ensures.inside)) e.answer
