use Rattle.std.proofs.Common.{◌≡◌, [], take}
use Rattle.load_work.specs.Puts.{puts_of}
use Rattle.load_work.proofs.deal.has_puts.Given as goal

abbrev pub invariant-puts : goal.invariant-puts
invariant-puts l = puts_of l.table.bounds l.shard (take l.put-index l.puts) ≡ []
