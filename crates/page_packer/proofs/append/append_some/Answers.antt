use Rattle.std.proofs.Common.{rules, Ok, sym, ◌∙◌}
use Rattle.outside.specs.Files.{Appends}
use Rattle.bti_nodes.specs.declared.damage.PackError.{PackError}
use Rattle.page_packer.proofs.Appended.{none_appended, some_appended}
use Rattle.page_packer.proofs.append.append_some.Goals as goal

pub returns-then-is_empty-clause-written : goal.returns-then-is_empty-clause-written
returns-then-is_empty-clause-written g c =
    none_appended {T = Unit {0}} {E = PackError} (g.K.Store.files c.args.store.now) c.args.file (Ok tt) c.args.bytes.now (sym c.is_empty.ensures ∙ c.if-is_empty.true)

pub returns-clause-written : goal.returns-clause-written
returns-clause-written g c =
    let files = g.K.Store.files c.args.store.now in
    let now = g.K.Store.files c.append.new.self in
    let w : Appends {T = Unit {0}} {E = PackError} files now c.args.file (Ok tt) c.args.bytes.now = search rules in
    some_appended {T = Unit {0}} {E = PackError} files now c.args.file (Ok tt) c.args.bytes.now (sym c.is_empty.ensures ∙ c.if-is_empty.false) w

pub returns-in_err-append-clause-written : goal.returns-in_err-append-clause-written
returns-in_err-append-clause-written g c =
    let files = g.K.Store.files c.args.store.now in
    let now = g.K.Store.files c.append.new.self in
    let w : Appends {T = Unit {0}} {E = PackError} files now c.args.file c.from_residual.result c.args.bytes.now = search rules in
    some_appended {T = Unit {0}} {E = PackError} files now c.args.file c.from_residual.result c.args.bytes.now (sym c.is_empty.ensures ∙ c.if-is_empty.false) w
