use Rattle.std.proofs.Common.{take}
use Rattle.shard_table.specs.Seats.{AreEach, IsFreeReader}
use Rattle.load_work.specs.Reads.{HasGrown, HasRead, AnswersRise, gets_of}
use Rattle.load_work.proofs.read.make_gets.Given as goal

abbrev pub invariant-gets : goal.invariant-gets
invariant-gets g l = record {
  free : AreEach IsFreeReader l.table.shards l.seats;
  grown : AreEach HasGrown l.fn.seats l.seats;
  read : AreEach (HasRead l.table.bounds l.fn.seats l.seats) (gets_of l.reader (take l.get-index l.gets)) l.answers.items;
  rise : AnswersRise l.answers.items;
}
