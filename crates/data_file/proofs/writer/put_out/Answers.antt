use Rattle.std.proofs.Common.{rules}
use Rattle.data_file.proofs.Puts.{failed_put}
use Rattle.data_file.proofs.writer.put_out.Goals as goal

pub returns-in_err-append-clause-written : goal.returns-in_err-append-clause-written
returns-in_err-append-clause-written g c =
    failed_put (g.K.Store.files c.args.store.now) (g.K.Store.files c.append.new.self) c.args.file c.from_residual.result c.in_err-append.field-0.0
    c.as_slice.result.now c.args.pending.now c.args.pending.now (search rules) c.as_slice.ensures c.in_err-append.ensures.bytes
