use Rattle.std.proofs.Common.{refl, arith, ◌*◌}
use Rattle.std.proofs.lemmas.Grind.{common_steps}
use Rattle.page_cache.proofs.Pages.{is_page}
use Rattle.page_cache.proofs.cache.read_page.Goals as goal

pub returns-clause-page : goal.returns-clause-page
returns-clause-page g c =
    is_page (g.K.Store.files c.args.store.now) c.args.file c.args.number (c.args.number * 4096) c.in_ok-count.count c.read.new.into _ c.in_ok-count.ensures.bytes refl (grind (arith, common_steps)) (grind (arith, common_steps))
