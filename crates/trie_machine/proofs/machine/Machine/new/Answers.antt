use Rattle.std.proofs.Common.{rules, arith}
use Rattle.trie_machine.proofs.Readers.{is_opening}
use Rattle.trie_machine.proofs.machine.Machine.new.Goals as goal

pub invariant_of-result : goal.invariant_of-result
invariant_of-result c = is_opening c.args.cells c.args.readers c.in_ok-words.words.items c.new.result.items c.loop.seats.items (omega arith) (omega arith) (search rules) (search rules) (search rules)
