use Rattle.std.proofs.Common.{refl, rules}
use Rattle.page_cache.specs.Pages.{page_key}
use Rattle.page_cache.proofs.Pages.{told_page}
use Rattle.page_cache.proofs.cache.PageCache.page.Goals as goal

pub returns : goal.returns
returns g c = (
  (refl, (λ _. tt), record { honest = c.load.ensures.uses.honest; ok = c.in_ok-load.ensures.uses.ok; err = tt }),
  record {
    uses = tt;
    page = told_page (g.K.Store.files c.args.store.now) (page_key c.args.file c.args.number) c.load.new.self c.held.result.now (rw (← c.load.ensures.files) c.load.ensures.uses.honest) c.held.ensures;
    files = c.load.ensures.files;
    reads = c.load.ensures.reads;
    none_read = c.load.ensures.none_read;
    later = c.load.ensures.later;
    fault = search rules;
  },
)
