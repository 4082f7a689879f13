use Rattle.std.proofs.Common.{rules}
use Rattle.data_file.proofs.Puts.{nothing_put}
use Rattle.data_file.proofs.writer.DataWriter.static_part.Goals as goal

pub returns-in_err-put_static_part-clause-written : goal.returns-in_err-put_static_part-clause-written
returns-in_err-put_static_part-clause-written g c =
    nothing_put (g.K.Store.files c.args.store.now) c.args.self.now.file c.from_residual.result _ _ (search rules)
