use Rattle.std.proofs.Common.{◌≡◌, ◌∙◌, ◌<◌, ◌^◌, ℕ, Option, Result, Err, ap, sym, subst, arith, rules, w64, to_z, of_z}
use Rattle.std.proofs.lemmas.Int.{ints}
use Rattle.std.specs.Prelude.{ℤ, pos, ◌<ℤ◌, ◌≤ℤ◌, ⊤}
use lib.IntN.{nat_abs}
use Rattle.outside.specs.Files.{Files}
use Rattle.outside.specs.declared.store.Part.TheVariants.{Partitions}
use Rattle.key_types.specs.Columns.{columns_of}
use Rattle.table_files.specs.Names.{data_id, rows_id}
use Rattle.data_walk.specs.declared.refusal.Refusal.{Refusal}
use Rattle.path_check.specs.Paths.{number_clash}
use Rattle.row_check.proofs.Compared.{PartitionFound}
use Rattle.row_check.proofs.Numbered.{NumberChecked, negative_is, number_found, number_negative, number_refused, number_single, plain_is}
use Rattle.row_check.proofs.entries.check_number.Goals as goal

pub returns-then-sum-lt2-clause-told : goal.returns-then-sum-lt2-clause-told
returns-then-sum-lt2-clause-told g c =
    let a = c.args in
    number_single (columns_of a.schema.now) a.generation a.hit.now a.key.now a.sum (g.K.Store.files a.store.now) c.if-sum-lt2.true

pub returns-then-hit-lt0-clause-told : goal.returns-then-hit-lt0-clause-told
returns-then-hit-lt0-clause-told g c =
    let a = c.args in
    let hit = a.hit.now in
    let columns = columns_of a.schema.now in
    let files = g.K.Store.files a.store.now in
    let below : hit.number <ℤ pos 0 = omega (arith, ints) in
    let negative = negative_is hit.number below in
    let is : c.number_clash.result ≡ number_clash Partitions hit.node hit.number (pos 0) = search rules in
    subst (λ (e : Refusal). NumberChecked columns a.generation hit a.key.now a.sum files (Err e)) (sym is)
    (number_negative columns a.generation hit a.key.now a.sum files negative.0 c.if-sum-lt2.false negative.1)

pub returns-in_err-entry-clause-told : goal.returns-in_err-entry-clause-told
returns-in_err-entry-clause-told g c =
    let a = c.args in
    let hit = a.hit.now in
    let columns = columns_of a.schema.now in
    let files = g.K.Store.files a.store.now in
    let e : Refusal = c.in_err-entry.field-0.0 in
    let at : ℕ = nat_abs (to_z w64 (of_z w64 hit.number)) in
    let value : to_z w64 (of_z w64 hit.number) ≡ hit.number = search rules in
    let above : pos 0 ≤ℤ hit.number = omega (arith, ints) in
    let number : hit.number ≡ pos at = plain_is hit.number above ∙ ap (λ (z : ℤ). pos (nat_abs z)) (sym value) in
    let is : c.from_residual.result ≡ Err e = search rules in
    subst (λ (r : Result ⊤ Refusal). NumberChecked columns a.generation hit a.key.now a.sum files r) (sym is)
    (number_refused columns a.generation hit a.key.now a.sum files at e c.if-sum-lt2.false number c.in_err-entry.ensures.told)

pub returns-clause-told : goal.returns-clause-told
returns-clause-told g c =
    let a = c.args in
    let hit = a.hit.now in
    let columns = columns_of a.schema.now in
    let files = g.K.Store.files a.store.now in
    let entry = c.in_ok-entry.entry in
    let result : Result ⊤ Refusal = c.check_blocks.result in
    let at : ℕ = nat_abs (to_z w64 (of_z w64 hit.number)) in
    let value : to_z w64 (of_z w64 hit.number) ≡ hit.number = search rules in
    let above : pos 0 ≤ℤ hit.number = omega (arith, ints) in
    let number : hit.number ≡ pos at = plain_is hit.number above ∙ ap (λ (z : ℤ). pos (nat_abs z)) (sym value) in
    let short : at < 2 ^ 63 = omega (arith, ints) in
    let checks = subst (λ (f : Option Files). PartitionFound columns (data_id a.generation) (rows_id a.generation) a.sum.position entry.root f result) c.in_ok-entry.ensures.files
    c.check_blocks.ensures.told in
    number_found columns a.generation hit a.key.now a.sum files at entry result c.if-sum-lt2.false number short c.in_ok-entry.ensures.told checks
