use Rattle.std.proofs.Common.{◌≡◌, ◌∙◌, List, ℕ, IfSome, Result, Err, take, drop, refl, sym, subst, rules}
use Rattle.outside.specs.Files.{bytes_of}
use Rattle.outside.specs.declared.store.FileId.{FileId}
use Rattle.outside.specs.declared.store.Part.TheVariants.{Rows}
use Rattle.key_types.specs.Columns.{columns_of}
use Rattle.bti_nodes.specs.declared.damage.Cause.TheVariants.{BadEntry}
use Rattle.data_file.specs.declared.reading.DataError.{DataError}
use Rattle.data_file.specs.declared.reading.DataError.TheVariants.{Damaged, StoreFault}
use Rattle.index_files.specs.declared.entry.EntryNumbers.{EntryNumbers}
use Rattle.index_files.specs.Reading.{file_damage}
use Rattle.data_walk.specs.declared.refusal.Refusal.{Refusal}
use Rattle.data_walk.specs.declared.refusal.Refusal.TheVariants.{Unread}
use Rattle.row_check.proofs.Sought.{EntryFound, compares_no_fault, entry_clashes, entry_fault, entry_found, entry_none}
use Rattle.row_check.proofs.entry.entry_of.Goals as goal

pub returns-in_err-bytes-clause-told : goal.returns-in_err-bytes-clause-told
returns-in_err-bytes-clause-told g c =
    let a = c.args in
    let columns = columns_of a.schema.now in
    let files = g.K.Store.files a.store.now in
    let e : DataError = c.in_err-bytes.field-0.0 in
    let is : c.from_residual.result ≡ Err (Unread e) = search rules in
    subst (λ (r : Result EntryNumbers Refusal). EntryFound columns a.generation a.at a.key.now a.sum files r) (sym is)
    (entry_fault columns a.generation a.at a.key.now a.sum files (Unread e) c.in_err-bytes.ensures.stops)

pub returns-in_default-clause-told : goal.returns-in_default-clause-told
returns-in_default-clause-told g c =
    let a = c.args in
    let columns = columns_of a.schema.now in
    let files = g.K.Store.files a.store.now in
    let held : List ℕ = c.in_ok-bytes.bytes in
    let told = subst (λ (f : FileId). IfSome files (λ m. held ≡ take 1046 (drop a.at (bytes_of m f)))) c.rows_id.ensures c.in_ok-bytes.ensures.bytes in
    let is : c.damage_at.result ≡ Unread (Damaged (file_damage Rows a.at BadEntry)) = search rules in
    subst (λ (e : Refusal). EntryFound columns a.generation a.at a.key.now a.sum files (Err e)) (sym is)
    (entry_none columns a.generation a.at a.key.now a.sum held c.as_slice.result.now c.as_slice.ensures files told (c.in_default.ensures.none refl))

pub returns-in_err-compare_entry-clause-told : goal.returns-in_err-compare_entry-clause-told
returns-in_err-compare_entry-clause-told g c =
    let a = c.args in
    let columns = columns_of a.schema.now in
    let files = g.K.Store.files a.store.now in
    let held : List ℕ = c.in_ok-bytes.bytes in
    let entry = c.in-Some.entry in
    let e : Refusal = c.in_err-compare_entry.field-0.0 in
    let told = subst (λ (f : FileId). IfSome files (λ m. held ≡ take 1046 (drop a.at (bytes_of m f)))) c.rows_id.ensures c.in_ok-bytes.ensures.bytes in
    let is : c.from_residual-in_err-compare_entry.result ≡ Err e = search rules in
    subst (λ (r : Result EntryNumbers Refusal). EntryFound columns a.generation a.at a.key.now a.sum files r) (sym is)
    (entry_clashes columns a.generation a.at a.key.now a.sum held c.as_slice.result.now c.as_slice.ensures entry.partition.now entry.numbers c.in-Some.ensures.some files e told
    c.in_err-compare_entry.ensures)

pub returns-in_err-compare_entry-clause-fault : goal.returns-in_err-compare_entry-clause-fault
returns-in_err-compare_entry-clause-fault g c = λ stops.
    let a = c.args in
    let entry = c.in-Some.entry in
    let e : Refusal = c.in_err-compare_entry.field-0.0 in
    let is : c.from_residual-in_err-compare_entry.result ≡ Err e = search rules in
    let same : ◌≡◌ {A = Result EntryNumbers Refusal} (Err e) (Err (Unread StoreFault)) = sym is ∙ stops in
    absurd (compares_no_fault a.at entry.partition.now entry.numbers a.key.now a.sum (Err e) c.in_err-compare_entry.ensures cc)

pub returns-clause-told : goal.returns-clause-told
returns-clause-told g c =
    let a = c.args in
    let columns = columns_of a.schema.now in
    let files = g.K.Store.files a.store.now in
    let held : List ℕ = c.in_ok-bytes.bytes in
    let entry = c.in-Some.entry in
    let told = subst (λ (f : FileId). IfSome files (λ m. held ≡ take 1046 (drop a.at (bytes_of m f)))) c.rows_id.ensures c.in_ok-bytes.ensures.bytes in
    entry_found columns a.generation a.at a.key.now a.sum held c.as_slice.result.now c.as_slice.ensures entry.partition.now entry.numbers c.in-Some.ensures.some files told
    c.in_ok-compare_entry.ensures
