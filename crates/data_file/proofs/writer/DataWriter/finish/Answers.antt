use Rattle.std.proofs.Common.{rules}
use Rattle.data_file.proofs.Puts.{failed_finish}
use Rattle.data_file.proofs.writer.DataWriter.finish.Goals as goal

pub returns-in_err-append-clause-written : goal.returns-in_err-append-clause-written
returns-in_err-append-clause-written g c =
    rw (← c.self.view_is) (failed_finish (g.K.Store.files c.args.store.now) (g.K.Store.files c.append.new.self) c.self.inside.file c.from_residual.result
    c.in_err-append.field-0.0 c.as_slice.result.now c.self.inside.pending (search rules) c.as_slice.ensures c.in_err-append.ensures.bytes)
