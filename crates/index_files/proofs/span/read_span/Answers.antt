use Rattle.std.proofs.Common.{◌-◌, ◌%◌, ◌+◌, arith, refl}
use Rattle.index_files.proofs.Spans.{both_added}
use Rattle.index_files.proofs.span.read_span.Goals as goal

pub returns-clause-bytes : goal.returns-clause-bytes
returns-clause-bytes g c =
    both_added (g.K.Store.files c.args.store.now) (g.K.Store.files c.add_from_page-2.new.store) c.args.file c.args.at (4096 - c.args.at % 4096)
    (c.args.at + (4096 - c.args.at % 4096)) (c.args.count - (4096 - c.args.at % 4096)) c.args.count c.new-held.result c.add_from_page-2.new.held
    c.add_from_page-3.new.held c.in_ok-add_from_page-2.ensures.files c.new-held.ensures refl (omega (arith, c.if-count-on_page.false))
    c.in_ok-add_from_page-2.ensures.added c.in_ok-add_from_page-3.ensures.added
