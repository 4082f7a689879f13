use Rattle.key_types.specs.Columns.{columns_of}
use Rattle.get_tool.proofs.Found.{not_found, value_found}
use Rattle.get_tool.proofs.ShowReads.{few_found, found_within}
use Rattle.get_tool.proofs.showing.found_at.Goals as goal

pub returns-in-Ok-value_at-clause-found : goal.returns-in-Ok-value_at-clause-found
returns-in-Ok-value_at-clause-found g c =
    value_found (g.K.Store.files c.args.store.now) (g.K.Store.files c.load_footer.new.store) c.args.table.now c.load_footer.new.self c.args.key.now c.in-Ok-value_at.value
    c.in-Ok.ensures.files c.in-Ok.ensures.same c.in-Ok.ensures.footer c.in-Ok-value_at.ensures.value

pub returns-in-Err-value_at-clause-found : goal.returns-in-Err-value_at-clause-found
returns-in-Err-value_at-clause-found g c =
    not_found (g.K.Store.files c.args.store.now) (g.K.Store.files c.load_footer.new.store) c.args.table.now c.load_footer.new.self c.args.key.now c.in-Err-value_at.e c.from-in-Err-value_at.result
    c.in-Ok.ensures.files c.in-Ok.ensures.same c.from-in-Err-value_at.ensures c.in-Ok.ensures.footer c.in-Err-value_at.ensures.value

pub returns-in-Err-clause-reads : goal.returns-in-Err-clause-reads
returns-in-Err-clause-reads g c =
    few_found (g.K.Store.files c.args.store.now) c.args.table.now.generation (columns_of c.args.table.now.schema) c.args.key.now (g.K.Store.reads c.args.store.now) (g.K.Store.reads c.load_footer.new.store)
    c.in-Err.ensures.reads

pub returns-in-Ok-value_at-clause-reads : goal.returns-in-Ok-value_at-clause-reads
returns-in-Ok-value_at-clause-reads g c =
    found_within (g.K.Store.files c.args.store.now) (g.K.Store.files c.load_footer.new.store) c.args.table.now c.load_footer.new.self c.args.key.now (g.K.Store.reads c.args.store.now)
    (g.K.Store.reads c.load_footer.new.store) (g.K.Store.reads c.value_at.new.store) c.in-Ok.ensures.files c.in-Ok.ensures.same c.in-Ok.ensures.footer c.in-Ok.ensures.reads c.in-Ok-value_at.ensures.reads

pub returns-in-Err-value_at-clause-reads : goal.returns-in-Err-value_at-clause-reads
returns-in-Err-value_at-clause-reads g c =
    found_within (g.K.Store.files c.args.store.now) (g.K.Store.files c.load_footer.new.store) c.args.table.now c.load_footer.new.self c.args.key.now (g.K.Store.reads c.args.store.now)
    (g.K.Store.reads c.load_footer.new.store) (g.K.Store.reads c.value_at.new.store) c.in-Ok.ensures.files c.in-Ok.ensures.same c.in-Ok.ensures.footer c.in-Ok.ensures.reads c.in-Err-value_at.ensures.reads
