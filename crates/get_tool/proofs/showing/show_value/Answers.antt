use Rattle.key_types.specs.Columns.{columns_of}
use Rattle.get_tool.proofs.Found.{opened_shows}
use Rattle.get_tool.proofs.ShowReads.{few_shown, opened_within}
use Rattle.get_tool.proofs.showing.show_value.Goals as goal

pub returns-in-Ok-clause-shows : goal.returns-in-Ok-clause-shows
returns-in-Ok-clause-shows g c =
    opened_shows (g.K.Store.files c.args.store.now) (g.K.Store.files c.open.new.store) c.args.generation c.in-Ok.table.generation (columns_of c.in-Ok.table.schema) c.args.text.now c.shown_in.result
    c.in-Ok.ensures.files c.in-Ok.ensures.generation c.in-Ok.ensures.table c.shown_in.ensures.shows

pub returns-in-Ok-clause-reads : goal.returns-in-Ok-clause-reads
returns-in-Ok-clause-reads g c =
    opened_within (g.K.Store.files c.args.store.now) (g.K.Store.files c.open.new.store) c.args.generation c.in-Ok.table.generation (columns_of c.in-Ok.table.schema) c.args.text.now
    (g.K.Store.reads c.args.store.now) (g.K.Store.reads c.open.new.store) (g.K.Store.reads c.shown_in.new.store) c.in-Ok.ensures.files c.in-Ok.ensures.generation c.in-Ok.ensures.table
    c.in-Ok.ensures.reads c.shown_in.ensures.reads

pub returns-in-Err-clause-reads : goal.returns-in-Err-clause-reads
returns-in-Err-clause-reads g c =
    few_shown (g.K.Store.files c.args.store.now) c.args.generation c.args.text.now (g.K.Store.reads c.args.store.now) (g.K.Store.reads c.open.new.store) c.in-Err.ensures.reads
