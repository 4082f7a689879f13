use Rattle.std.proofs.Common.{Err, IfSome, subst}
use Rattle.outside.specs.Files.{bytes_of}
use Rattle.key_types.specs.Columns.{columns_of}
use Rattle.table_files.specs.Names.{partitions_id}
use Rattle.table_reader.specs.Opened.{LoadsFooter, Opened}
use Rattle.table_reader.proofs.Tables.{footer_fault}
use Rattle.table_reader.proofs.table.OpenTable.load_footer.Goals as goal

pub returns-in-Err-clause-footer : goal.returns-in-Err-clause-footer
returns-in-Err-clause-footer g c =
    subst
    (λ (t : Opened). IfSome (g.K.Store.files c.args.store.now)
    (λ m. LoadsFooter {T = Unit {0}} (columns_of t.schema) (bytes_of m (partitions_id t.generation)) c.self.inside.footer (Err c.from.result)))
    c.self.view_is
    (footer_fault (g.K.Store.files c.args.store.now) c.partitions_id-file.result c.self.inside.generation (columns_of c.self.inside.schema) c.self.inside.footer
    c.in-Err.e c.from.result c.partitions_id-file.ensures c.in-Err.ensures.footer c.from.ensures)
