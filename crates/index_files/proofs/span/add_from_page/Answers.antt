use Rattle.index_files.proofs.Spans.{page_added}
use Rattle.index_files.proofs.span.add_from_page.Goals as goal

pub returns-in_ok-extend-in-Ok-clause-added : goal.returns-in_ok-extend-in-Ok-clause-added
returns-in_ok-extend-in-Ok-clause-added g c =
    page_added (g.K.Store.files c.args.store.now) c.args.file c.args.at c.args.count c.args.held.now c.in-Ok.page.now c.part_of.result.now
    c.extend.new.self c.requires.page c.in-Ok.ensures.page c.part_of.ensures c.in_ok-extend-in-Ok.ensures.ok
