-- What a cache is once the page that it gave is let go.
use Rattle.std.specs.Prelude.{ℕ, Option, Result, ⊤}
use mathlib.Core.Option.{none}
use Rattle.std.specs.Borrow.{follows_so, MutBor, Fml}
use Rattle.outside.specs.declared.store.FileId.{FileId}
use Rattle.outside.specs.Files.{Files}
use Rattle.page_cache.specs.contracts.cache.PageCache.{the_row}
use Rattle.page_cache.specs.Pages.{HeldPages, Uses}

-- Once the page's bytes aren't borrowed any more, the pages are what a call for that page makes of them.
abbrev pub EndsUsed : {T E : Type 0} → MutBor HeldPages → Option Files → FileId → ℕ → HeldPages → Result T E → Fml
EndsUsed c files file number old result =
    follows_so the_row the_row c.ghost_name none (λ _ _. ⊤) (λ new. Uses files file number old result new)
