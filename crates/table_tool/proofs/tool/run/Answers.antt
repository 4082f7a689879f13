use Rattle.table_tool.proofs.RunLemmas.{memory_run}
use Rattle.table_tool.proofs.tool.run.Goals as goal

pub returns-in-Err-clause-ends : goal.returns-in-Err-clause-ends
returns-in-Err-clause-ends g c =
    memory_run c.args.words.now (g.S.Source.left c.args.source.now) (g.S.Source.faults c.args.source.now) (g.O.Sink.written c.args.out.now) (g.O.Sink.faults c.args.out.now)
    (g.K.Store.files c.args.store.now) (g.K.Store.faults c.args.store.now) (g.K.Store.reads c.args.store.now)
