use Rattle.std.proofs.Common.{◌≡◌, Err, IfSome, Result, arith, rules, subst, sym}
use Rattle.std.specs.Prelude.{⊤}
use Rattle.key_types.specs.Columns.{columns_of}
use Rattle.data_walk.specs.declared.refusal.Refusal.{Refusal}
use Rattle.table_check.proofs.Joined.{IndexesOf, entries_behind, no_partitions, stops_at_partitions}
use Rattle.table_check.proofs.checking.check_indexes.Goals as goal

pub returns-then-found-eq0-clause-told : goal.returns-then-found-eq0-clause-told
returns-then-found-eq0-clause-told g c =
    no_partitions (columns_of c.args.schema.now) c.args.generation
    (g.K.Store.files c.args.store.now) c.args.found.now c.args.root
    (omega (arith, c.if-found-eq0.true))

pub returns-in_err-check_partitions-clause-told : goal.returns-in_err-check_partitions-clause-told
returns-in_err-check_partitions-clause-told g c =
    let columns = columns_of c.args.schema.now in
    let files = g.K.Store.files c.args.store.now in
    let is : c.from_residual.result ≡ Err c.in_err-check_partitions.field-0.0 = search rules in
    subst (λ (r : Result ⊤ Refusal). IfSome files
    (IndexesOf columns c.args.generation c.args.found.now c.args.root r)) (sym is)
    (stops_at_partitions columns c.args.generation files c.args.found.now c.args.root
    c.in_err-check_partitions.field-0.0
    (omega (arith, c.if-found-eq0.false)) c.in_err-check_partitions.ensures.told)

pub returns-clause-told : goal.returns-clause-told
returns-clause-told g c =
    entries_behind (columns_of c.args.schema.now) c.args.generation (g.K.Store.files c.args.store.now)
    (g.K.Store.files c.check_partitions.new.store)
    c.args.found.now c.args.root c.check_entries.result c.in_ok-check_partitions.ensures.files
    (omega (arith, c.if-found-eq0.false))
    c.in_ok-check_partitions.ensures.told c.check_entries.ensures.told
