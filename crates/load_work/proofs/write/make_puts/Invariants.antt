use Rattle.std.proofs.Common.{take}
use Rattle.trie_writer.specs.Written.{MayWrite}
use Rattle.load_work.specs.Puts.{Makes, puts_of}
use Rattle.load_work.proofs.write.make_puts.Given as goal

abbrev pub invariant-puts : goal.invariant-puts
invariant-puts g l = record {
  may : MayWrite l.cells l.seat;
  makes : Makes l.fn.seat.knows (puts_of l.table.bounds l.shard (take l.line-index l.puts)) l.seat.knows;
}
