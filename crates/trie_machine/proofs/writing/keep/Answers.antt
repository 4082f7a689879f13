use Rattle.std.proofs.Common.{arith}
use Rattle.trie_machine.proofs.writing.keep.Goals as goal

pub overflow_cast-filled : goal.overflow_cast-filled
overflow_cast-filled c = let fits = c.requires.fits c.in-Some.writing c.in-Some.is in omega (arith, c.made.ensures, fits)
