use Rattle.std.proofs.Common.{ap}
use Rattle.std.specs.Option.{option_copied}
use Rattle.outside.specs.Files.{bytes_of}
use Rattle.table_files.specs.Names.{rows_id}
use Rattle.table_reader.proofs.Bounds.{block_lost}
use Rattle.table_reader.proofs.get.value_inside.Goals as goal

pub returns-in_err-block-clause-within : goal.returns-in_err-block-clause-within
returns-in_err-block-clause-within g c =
    block_lost (g.K.Store.files c.args.store.now) (λ m. bytes_of m (rows_id c.args.generation)) c.args.there.root (option_copied c.args.wanted) c.in-Some.key.now
    (g.K.Store.reads c.args.store.now) (g.K.Store.reads c.block_of.new.store) (ap option_copied c.in-Some.is) c.block_of.ensures.within
