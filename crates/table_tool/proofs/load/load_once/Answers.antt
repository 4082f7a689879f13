use Rattle.table_tool.specs.Request.{asked_of}
use Rattle.table_tool.proofs.LoadLemmas.{quiet_store}
use Rattle.table_tool.proofs.load.load_once.Goals as goal

pub returns-in-Err-clause-answers : goal.returns-in-Err-clause-answers
returns-in-Err-clause-answers g c = quiet_store (asked_of c.args.request) (g.S.Source.left c.args.source.now) (g.O.Sink.written c.args.out.now)
