use Rattle.std.proofs.Common.{IfSome, OnOk, subst}
use Rattle.std.specs.Option.{option_copied}
use Rattle.key_types.specs.Columns.{columns_of}
use Rattle.table_reader.specs.Gets.{bytes_in}
use Rattle.table_reader.specs.Opened.{Opened}
use Rattle.table_reader.specs.Reads.{IsAlwaysBounded, IsBounded}
use Rattle.table_reader.proofs.Bounds.{loaded_within}
use Rattle.table_reader.proofs.Steps.{has_bound, no_bound}
use Rattle.table_reader.proofs.table.OpenTable.get.Goals.{in-Ok, in-Err}
use Rattle.table_reader.proofs.table.OpenTable.get.Goals as goal

pub returns-clause-reads : goal.returns-clause-reads
returns-clause-reads g c =
    elim c.match-value_of.branch [
      | in-Ok w ↦
          subst
          (λ (t : Opened). IfSome (g.K.Store.files c.args.store.now) (λ m. IfSome t.footer (λ f. OnOk c.match-value_of.result (IsBounded (bytes_in (columns_of t.schema) m t.generation) f
          c.args.partition.now (option_copied c.args.clustering) (g.K.Store.reads c.args.store.now) (g.K.Store.reads c.value_of.new.store)))))
          c.self.view_is
          (has_bound (g.K.Store.files c.args.store.now) c.self.inside.footer c.in-Some.footer c.match-value_of.result w.in-Ok.value
          (λ m f. IsBounded (bytes_in (columns_of c.self.inside.schema) m c.self.inside.generation) f c.args.partition.now (option_copied c.args.clustering) (g.K.Store.reads c.args.store.now) (g.K.Store.reads c.value_of.new.store))
          c.in-Some.is w.result-is w.in-Ok.ensures.reads)
      | in-Err w ↦ no_bound (g.K.Store.files c.args.store.now) c.args.self.now.footer c.match-value_of.result w.from.result _ w.result-is
    ]

pub returns-clause-within : goal.returns-clause-within
returns-clause-within g c =
    subst
    (λ (t : Opened). IfSome (g.K.Store.files c.args.store.now) (λ m. IfSome t.footer (λ f. IsAlwaysBounded (bytes_in (columns_of t.schema) m t.generation) f
    c.args.partition.now (option_copied c.args.clustering) (g.K.Store.reads c.args.store.now) (g.K.Store.reads c.value_of.new.store))))
    c.self.view_is
    (loaded_within (g.K.Store.files c.args.store.now) c.self.inside.footer c.in-Some.footer
    (λ m f. IsAlwaysBounded (bytes_in (columns_of c.self.inside.schema) m c.self.inside.generation) f c.args.partition.now (option_copied c.args.clustering) (g.K.Store.reads c.args.store.now) (g.K.Store.reads c.value_of.new.store))
    c.in-Some.is c.value_of.ensures.within)
