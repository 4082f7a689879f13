use Rattle.std.proofs.Common.{rules, subst, sym, ◌∙◌}
use Rattle.flush_walk.specs.Given.{Flushing, entry_given, turned}
use Rattle.flush_walk.specs.Writing.{Goes, LeavesBegun}
use Rattle.flush_walk.proofs.Adds.{adds_by, adds_none, begins, entry_short, gone, torn_goes, turned_begins}
use Rattle.flush_walk.proofs.Prefixes.{torn_begun}
use Rattle.flush_walk.proofs.writer.TableWriter.add.Goals as goal

pub go_on-requires-clause-given : goal.go_on-requires-clause-given
go_on-requires-clause-given g c =
    let e = entry_given c.args.partition.now c.args.clustering.now c.args.value.now in
    let k = c.requires in
    let d = gone c.args.self.now k.0 e _ k.1 k.2 (sym c.is.ensures ∙ search rules) in
    (k.0, d.p, d.writes, d.table)

pub go_on-requires-clause-some : goal.go_on-requires-clause-some
go_on-requires-clause-some g c =
    let e = entry_given c.args.partition.now c.args.clustering.now c.args.value.now in
    let k = c.requires in
    (gone c.args.self.now k.0 e _ k.1 k.2 (sym c.is.ensures ∙ search rules)).some

pub go_on-requires-clause-clustering : goal.go_on-requires-clause-clustering
go_on-requires-clause-clustering g c = (entry_short c.requires.0 (entry_given c.args.partition.now c.args.clustering.now c.args.value.now) c.requires.2).clustering

pub go_on-requires-clause-value : goal.go_on-requires-clause-value
go_on-requires-clause-value g c = (entry_short c.requires.0 (entry_given c.args.partition.now c.args.clustering.now c.args.value.now) c.requires.2).value

pub returns-then-is-clause-added : goal.returns-then-is-clause-added
returns-then-is-clause-added g c =
    let e = entry_given c.args.partition.now c.args.clustering.now c.args.value.now in
    adds_by c.go_on.result _ _ _ _ e
    (λ w h t.
    let d = gone c.args.self.now w e _ h t (sym c.is.ensures ∙ search rules) in
    subst (λ (u : Flushing). Goes c.go_on.result c.go_on.new.self u (g.K.Store.files c.go_on.new.store)) (sym d.next) (c.go_on.ensures.gone w d.p d.writes d.table))

pub returns-in_err-close-clause-added : goal.returns-in_err-close-clause-added
returns-in_err-close-clause-added g c =
    let e = entry_given c.args.partition.now c.args.clustering.now c.args.value.now in
    adds_none c.from_residual.result _ _ _ _ e c.from_residual.ensures.0
    (λ w h t.
    let d = begins c.args.self.now w e _ h t (sym c.is.ensures ∙ search rules) in
    let torn = torn_goes c.close.result c.close.new.self (turned w) (g.K.Store.files c.close.new.store) (search rules) (c.close.ensures.gone w h) in
    subst (λ (u : Flushing). LeavesBegun u (g.K.Store.files c.close.new.store)) (sym d.next) (turned_begins w e _ (torn_begun (turned w) _ torn)))

pub begin-requires-clause-given : goal.begin-requires-clause-given
begin-requires-clause-given g c =
    let e = entry_given c.args.partition.now c.args.clustering.now c.args.value.now in
    let k = c.requires in
    let d = begins c.args.self.now k.0 e _ k.1 k.2 (sym c.is.ensures ∙ search rules) in
    (k.0, c.in_ok-close.ensures.gone k.0 k.1, d.table)

pub begin-requires-clause-key : goal.begin-requires-clause-key
begin-requires-clause-key g c = (entry_short c.requires.0 (entry_given c.args.partition.now c.args.clustering.now c.args.value.now) c.requires.2).partition

pub begin-requires-clause-clustering : goal.begin-requires-clause-clustering
begin-requires-clause-clustering g c = (entry_short c.requires.0 (entry_given c.args.partition.now c.args.clustering.now c.args.value.now) c.requires.2).clustering

pub begin-requires-clause-value : goal.begin-requires-clause-value
begin-requires-clause-value g c = (entry_short c.requires.0 (entry_given c.args.partition.now c.args.clustering.now c.args.value.now) c.requires.2).value

pub returns-clause-added : goal.returns-clause-added
returns-clause-added g c =
    let e = entry_given c.args.partition.now c.args.clustering.now c.args.value.now in
    adds_by c.begin.result _ _ _ _ e
    (λ w h t.
    let d = begins c.args.self.now w e _ h t (sym c.is.ensures ∙ search rules) in
    subst (λ (u : Flushing). Goes c.begin.result c.begin.new.self u (g.K.Store.files c.begin.new.store)) (sym d.next) (c.begin.ensures.gone w (c.in_ok-close.ensures.gone w h) d.table))
