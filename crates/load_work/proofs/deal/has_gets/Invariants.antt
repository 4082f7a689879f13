use Rattle.std.proofs.Common.{◌≡◌, [], take}
use Rattle.load_work.specs.Reads.{gets_of}
use Rattle.load_work.proofs.deal.has_gets.Given as goal

abbrev pub invariant-gets : goal.invariant-gets
invariant-gets l = gets_of l.reader (take l.get-index l.gets) ≡ []
