use Rattle.std.proofs.Common.{◌∙◌, arith}
use Rattle.load_work.proofs.Dealing.{other_reader}
use Rattle.load_work.proofs.deal.has_gets.Goals as goal

pub gets-preserved : goal.gets-preserved
gets-preserved c = other_reader c.args.gets.now c.gets.get-index c.args.reader _ (omega arith) c.if-get-reader.false ∙ c.gets.invariant
