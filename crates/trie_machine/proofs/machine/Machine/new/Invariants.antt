use Rattle.std.proofs.Common.{◌≡◌, replicate, Some}
use Rattle.trie_machine.specs.Events.{resting}
use Rattle.trie_machine.proofs.machine.Machine.new.Given as goal

abbrev pub invariant-loop : goal.invariant-loop
invariant-loop l = l.seats.items ≡ replicate l.counter (Some (resting 0))
