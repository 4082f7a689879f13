use Rattle.std.proofs.Common.{arith}
use Rattle.byte_order.proofs.Shared.{word_more}
use Rattle.byte_order.proofs.shortest.shared_words.Goals as goal

pub words-preserved : goal.words-preserved
words-preserved c =
    (word_more c.words.at c.args.a.now c.args.b.now c.words.invariant.0 c.if-ne.ensures, omega (arith, c.words-test.true), omega (arith, c.if-b-at-ge-WORD.true))
