use Rattle.std.proofs.Common.{◌≡◌, ◌≤◌, ℕ, List, length, sym, ◌∙◌, ap, arith, false}
use Rattle.std.specs.Prelude.{is_some}
use Rattle.std.specs.Map.{lookup}
use Rattle.lru.specs.LruCache.{LruCache}
use Rattle.page_cache.specs.declared.key.PageKey.{PageKey}
use Rattle.page_cache.specs.Key.{same_page}
use Rattle.page_cache.specs.Pages.{page_key}
use Rattle.page_cache.proofs.Pages.{after_held, after_missing, not_promoted, unchanged}
use Rattle.page_cache.proofs.cache.PageCache.load.Goals as goal

pub returns-then-promote-clause-held : goal.returns-then-promote-clause-held
returns-then-promote-clause-held g c =
    let a =
    after_held (page_key c.args.file c.args.number) c.args.self.now c.self.inside.pages.entries c.promote.new.self c.self.inside.pages.cap (g.K.Store.files c.args.store.now) c.self.view_is c.len-count.ensures.valid.1 c.self.invariant
    c.promote.ensures.entries (sym c.promote.ensures.value ∙ c.if-promote.true) c.requires.honest in
    a.held

pub returns-then-promote-clause-uses : goal.returns-then-promote-clause-uses
returns-then-promote-clause-uses g c =
    let a =
    after_held (page_key c.args.file c.args.number) c.args.self.now c.self.inside.pages.entries c.promote.new.self c.self.inside.pages.cap (g.K.Store.files c.args.store.now) c.self.view_is c.len-count.ensures.valid.1 c.self.invariant
    c.promote.ensures.entries (sym c.promote.ensures.value ∙ c.if-promote.true) c.requires.honest in
    record { honest = a.honest; ok = a.keys; err = tt }

pub returns-in_err-bytes-clause-uses : goal.returns-in_err-bytes-clause-uses
returns-in_err-bytes-clause-uses g c =
    let es = c.self.inside.pages.entries in
    let key = page_key c.args.file c.args.number in
    let none : is_some (lookup (same_page key) es) ≡ false = sym c.promote.ensures.value ∙ c.if-promote.false in
    unchanged (g.K.Store.files c.read_page.new.store) c.args.file c.args.number c.args.self.now c.promote.new.self.entries c.from_residual.result c.from_residual.ensures.0
    (ap (λ (l : LruCache PageKey (List ℕ)). l.entries) c.promote.ensures.entries ∙ not_promoted key es none ∙ c.self.view_is)
    (rw c.in_err-bytes.ensures.files c.requires.honest)

pub returns-in_err-put-clause-uses : goal.returns-in_err-put-clause-uses
returns-in_err-put-clause-uses g c =
    let es = c.self.inside.pages.entries in
    let key = page_key c.args.file c.args.number in
    let none : is_some (lookup (same_page key) es) ≡ false = sym c.promote.ensures.value ∙ c.if-promote.false in
    unchanged (g.K.Store.files c.read_page.new.store) c.args.file c.args.number c.args.self.now c.put.new.self.entries c.from_residual-in_err-put.result c.from_residual-in_err-put.ensures.0
    (ap (λ (l : LruCache PageKey (List ℕ)). l.entries) (c.in_err-put.ensures.err ∙ c.promote.ensures.entries) ∙ not_promoted key es none ∙ c.self.view_is)
    (rw c.in_ok-bytes.ensures.files c.requires.honest)

pub returns-clause-held : goal.returns-clause-held
returns-clause-held g c =
    let a =
    after_missing (page_key c.args.file c.args.number) c.in_ok-bytes.bytes c.args.self.now c.self.inside.pages.entries c.promote.new.self c.put.new.self c.self.inside.pages.cap (g.K.Store.files c.read_page.new.store) c.self.view_is
    (sym c.promote.ensures.value ∙ c.if-promote.false) c.promote.ensures.entries c.self.invariant c.in_ok-put.ensures.entries (rw c.in_ok-bytes.ensures.files c.requires.honest) (rw c.in_ok-bytes.ensures.files c.in_ok-bytes.ensures.page) in
    a.held

pub returns-clause-uses : goal.returns-clause-uses
returns-clause-uses g c =
    let a =
    after_missing (page_key c.args.file c.args.number) c.in_ok-bytes.bytes c.args.self.now c.self.inside.pages.entries c.promote.new.self c.put.new.self c.self.inside.pages.cap (g.K.Store.files c.read_page.new.store) c.self.view_is
    (sym c.promote.ensures.value ∙ c.if-promote.false) c.promote.ensures.entries c.self.invariant c.in_ok-put.ensures.entries (rw c.in_ok-bytes.ensures.files c.requires.honest) (rw c.in_ok-bytes.ensures.files c.in_ok-bytes.ensures.page) in
    record { honest = a.honest; ok = a.keys; err = tt }
