use Rattle.std.proofs.Common.{◌+◌, length, drop, arith, true, ◌∙◌, ap}
use Rattle.std.proofs.lemmas.List.{drop-append-le}
use Rattle.table_reader.specs.Window.{Unread}
use Rattle.table_reader.proofs.Windows.{told_page}
use Rattle.table_reader.proofs.window.Window.read_page.Goals as goal

pub returns-then-count-lt-PAGE-clause-told : goal.returns-then-count-lt-PAGE-clause-told
returns-then-count-lt-PAGE-clause-told g c =
    rw (← c.self.view_is) (
    told_page _ c.args.file c.read.new.into _ (c.self.inside.at + length c.unread.result.now) c.in_ok-found.found c.min-count.result true _
    (omega (arith, ap length c.unread.ensures.bytes, ap (λ (u : Unread). length u.bytes) c.self.view_is)) c.min-count.ensures
    (ap (drop c.self.inside.used) c.in_ok-extend.ensures.ok ∙ drop-append-le c.self.inside.used c.self.inside.bytes _ c.self.invariant.0)
    (λ all was. omega (arith, c.if-count-lt-PAGE.true))
    c.in_ok-found.ensures.bytes
    )

pub returns-clause-told : goal.returns-clause-told
returns-clause-told g c =
    rw (← c.self.view_is) (
    told_page _ c.args.file c.read.new.into _ (c.self.inside.at + length c.unread.result.now) c.in_ok-found.found c.min-count.result c.self.inside.whole _
    (omega (arith, ap length c.unread.ensures.bytes, ap (λ (u : Unread). length u.bytes) c.self.view_is)) c.min-count.ensures
    (ap (drop c.self.inside.used) c.in_ok-extend.ensures.ok ∙ drop-append-le c.self.inside.used c.self.inside.bytes _ c.self.invariant.0)
    (λ all was. absurd (was all))
    c.in_ok-found.ensures.bytes
    )
