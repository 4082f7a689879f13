use Rattle.std.proofs.Common.{◌≡◌, ◌∙◌, IfOk, IfSome, List, Ok, ap, arith, sym, subst, ℕ, ℤ, w64}
use Rattle.std.proofs.lemmas.Int.{to_z-of_z}
use Rattle.std.proofs.lemmas.Result.{err_from_is_err_and}
use Rattle.std.specs.declared.cmp.Ordering.TheVariants.{Less, Equal, Greater}
use Rattle.index_files.specs.Reading.{partition_place}
use Rattle.key_types.specs.Columns.{columns_of}
use Rattle.key_types.specs.Table.{string_cmp}
use Rattle.table_reader.specs.Gets.{LeadsTo, bytes_in}
use Rattle.table_reader.specs.Seeking.{IsInOf}
use Rattle.table_reader.specs.Reads.{Ends}
use Rattle.table_reader.proofs.SeekBounds.{equal_within}
use Rattle.table_reader.proofs.Seeks.{equal_reads, from_equal, from_greater, from_head_stops, from_less, greater_reads, less_reads, same_strings}
use Rattle.table_reader.proofs.seek.by_partition.Goals as goal

pub returns-in_err-head-clause-begins : goal.returns-in_err-head-clause-begins
returns-in_err-head-clause-begins g c =
    let e = err_from_is_err_and c.from_residual-in_err-head.result c.from_residual-in_err-head.ensures.1 in
    let leads = subst (λ (z : ℤ). IfSome (g.K.Store.files c.args.store.now) (λ m. Ends (LeadsTo (bytes_in (columns_of c.args.schema.now) m c.args.table.generation) (partition_place z)) (Ok c.in_ok-place.place)))
    (to_z-of_z w64 c.args.number c.ranges.number) c.in_ok-place.ensures.place in
    rw (e.1, e.2) (from_head_stops (columns_of c.args.schema.now) c.args.table.generation c.args.table.root c.args.bound.now c.args.number (g.K.Store.files c.args.store.now) (g.K.Store.files c.place_of.new.store)
    c.in_ok-place.place c.in_err-head.field-0.0 c.place_of.ensures.files leads c.in_err-head.ensures.head)

pub returns-in-Less-clause-begins : goal.returns-in-Less-clause-begins
returns-in-Less-clause-begins g c =
    let leads = subst (λ (z : ℤ). IfSome (g.K.Store.files c.args.store.now) (λ m. Ends (LeadsTo (bytes_in (columns_of c.args.schema.now) m c.args.table.generation) (partition_place z)) (Ok c.in_ok-place.place)))
    (to_z-of_z w64 c.args.number c.ranges.number) c.in_ok-place.ensures.place in
    let compared : string_cmp c.in_ok-head.head.partition c.args.bound.now.partition ≡ Less =
    ap (λ (s : List ℕ). string_cmp s c.args.bound.now.partition) (sym c.as_slice.ensures) ∙ ap (λ (s : List ℕ). string_cmp c.as_slice.result.now s) (sym c.as_slice-string.ensures) ∙ sym c.compare_bytes.ensures ∙ c.in-Less.is in
    from_less (columns_of c.args.schema.now) c.args.table.generation c.args.table.root c.args.bound.now c.args.number (g.K.Store.files c.args.store.now) (g.K.Store.files c.place_of.new.store) (g.K.Store.files c.head_at.new.store)
    c.in_ok-place.place c.in_ok-head.head c.as_slice-string.result.now c.next_partition.result c.place_of.ensures.files c.head_at.ensures.files leads c.in_ok-head.ensures.head compared c.as_slice-string.ensures
    c.next_partition.ensures.begins

pub returns-in-Less-clause-reads : goal.returns-in-Less-clause-reads
returns-in-Less-clause-reads g c =
    less_reads (columns_of c.args.schema.now) c.args.table.generation c.args.table.root c.args.bound.now c.args.number (g.K.Store.files c.args.store.now) (g.K.Store.files c.head_at.new.store)
    c.as_slice-string.result.now c.next_partition.result (g.K.Store.reads c.args.store.now) (g.K.Store.reads c.head_at.new.store) (g.K.Store.reads c.next_partition.new.store)
    (c.head_at.ensures.files ∙ c.place_of.ensures.files) (omega (arith, c.place_of.ensures.reads, c.head_at.ensures.reads)) c.as_slice-string.ensures c.next_partition.ensures.reads

pub returns-in-Equal-clause-begins : goal.returns-in-Equal-clause-begins
returns-in-Equal-clause-begins g c =
    let leads = subst (λ (z : ℤ). IfSome (g.K.Store.files c.args.store.now) (λ m. Ends (LeadsTo (bytes_in (columns_of c.args.schema.now) m c.args.table.generation) (partition_place z)) (Ok c.in_ok-place.place)))
    (to_z-of_z w64 c.args.number c.ranges.number) c.in_ok-place.ensures.place in
    let compared : string_cmp c.in_ok-head.head.partition c.args.bound.now.partition ≡ Equal =
    ap (λ (s : List ℕ). string_cmp s c.args.bound.now.partition) (sym c.as_slice.ensures) ∙ ap (λ (s : List ℕ). string_cmp c.as_slice.result.now s) (sym c.as_slice-string.ensures) ∙ sym c.compare_bytes.ensures ∙ c.in-Equal.is in
    from_equal (columns_of c.args.schema.now) c.args.table.generation c.args.table.root c.args.bound.now c.args.number (g.K.Store.files c.args.store.now) (g.K.Store.files c.place_of.new.store) (g.K.Store.files c.head_at.new.store)
    c.in_ok-place.place c.in_ok-head.head c.within.result c.place_of.ensures.files c.head_at.ensures.files leads c.in_ok-head.ensures.head compared c.within.ensures.begins

pub returns-in-Equal-clause-reads : goal.returns-in-Equal-clause-reads
returns-in-Equal-clause-reads g c =
    let leads = subst (λ (z : ℤ). IfSome (g.K.Store.files c.args.store.now) (λ m. Ends (LeadsTo (bytes_in (columns_of c.args.schema.now) m c.args.table.generation) (partition_place z)) (Ok c.in_ok-place.place)))
    (to_z-of_z w64 c.args.number c.ranges.number) c.in_ok-place.ensures.place in
    let compared : string_cmp c.in_ok-head.head.partition c.args.bound.now.partition ≡ Equal =
    ap (λ (s : List ℕ). string_cmp s c.args.bound.now.partition) (sym c.as_slice.ensures) ∙ ap (λ (s : List ℕ). string_cmp c.as_slice.result.now s) (sym c.as_slice-string.ensures) ∙ sym c.compare_bytes.ensures ∙ c.in-Equal.is in
    equal_reads (columns_of c.args.schema.now) c.args.table.generation c.args.table.root c.args.bound.now c.args.number (g.K.Store.files c.args.store.now) (g.K.Store.files c.place_of.new.store) (g.K.Store.files c.head_at.new.store)
    c.in_ok-place.place c.in_ok-head.head c.within.result (g.K.Store.reads c.args.store.now) (g.K.Store.reads c.head_at.new.store) (g.K.Store.reads c.within.new.store) c.place_of.ensures.files c.head_at.ensures.files
    (omega (arith, c.place_of.ensures.reads, c.head_at.ensures.reads)) compared leads c.in_ok-head.ensures.head c.within.ensures.reads

pub returns-in-Equal-clause-inside : goal.returns-in-Equal-clause-inside
returns-in-Equal-clause-inside g c =
    let compared : string_cmp c.in_ok-head.head.partition c.args.bound.now.partition ≡ Equal =
    ap (λ (s : List ℕ). string_cmp s c.args.bound.now.partition) (sym c.as_slice.ensures) ∙ ap (λ (s : List ℕ). string_cmp c.as_slice.result.now s) (sym c.as_slice-string.ensures) ∙ sym c.compare_bytes.ensures ∙ c.in-Equal.is in
    subst (λ (s : List ℕ). IfOk c.within.result (IsInOf s)) (same_strings c.in_ok-head.head.partition c.args.bound.now.partition compared) c.within.ensures.inside

pub returns-in-Greater-clause-begins : goal.returns-in-Greater-clause-begins
returns-in-Greater-clause-begins g c =
    let leads = subst (λ (z : ℤ). IfSome (g.K.Store.files c.args.store.now) (λ m. Ends (LeadsTo (bytes_in (columns_of c.args.schema.now) m c.args.table.generation) (partition_place z)) (Ok c.in_ok-place.place)))
    (to_z-of_z w64 c.args.number c.ranges.number) c.in_ok-place.ensures.place in
    let compared : string_cmp c.in_ok-head.head.partition c.args.bound.now.partition ≡ Greater =
    ap (λ (s : List ℕ). string_cmp s c.args.bound.now.partition) (sym c.as_slice.ensures) ∙ ap (λ (s : List ℕ). string_cmp c.as_slice.result.now s) (sym c.as_slice-string.ensures) ∙ sym c.compare_bytes.ensures ∙ c.in-Greater.is in
    from_greater (columns_of c.args.schema.now) c.args.table.generation c.args.table.root c.args.bound.now c.args.number (g.K.Store.files c.args.store.now) (g.K.Store.files c.place_of.new.store)
    c.in_ok-place.place c.in_ok-head.head c.at_head.result c.place_of.ensures.files leads c.in_ok-head.ensures.head compared c.at_head.ensures

pub returns-in-Greater-clause-reads : goal.returns-in-Greater-clause-reads
returns-in-Greater-clause-reads g c =
    greater_reads (columns_of c.args.schema.now) c.args.table.generation c.args.table.root c.args.bound.now c.args.number (g.K.Store.files c.args.store.now)
    (g.K.Store.reads c.args.store.now) (g.K.Store.reads c.head_at.new.store) (omega (arith, c.place_of.ensures.reads, c.head_at.ensures.reads))

pub returns-in-Equal-clause-within : goal.returns-in-Equal-clause-within
returns-in-Equal-clause-within g c =
    let leads = subst (λ (z : ℤ). IfSome (g.K.Store.files c.args.store.now) (λ m. Ends (LeadsTo (bytes_in (columns_of c.args.schema.now) m c.args.table.generation) (partition_place z)) (Ok c.in_ok-place.place)))
    (to_z-of_z w64 c.args.number c.ranges.number) c.in_ok-place.ensures.place in
    let compared : string_cmp c.in_ok-head.head.partition c.args.bound.now.partition ≡ Equal =
    ap (λ (s : List ℕ). string_cmp s c.args.bound.now.partition) (sym c.as_slice.ensures) ∙ ap (λ (s : List ℕ). string_cmp c.as_slice.result.now s) (sym c.as_slice-string.ensures) ∙ sym c.compare_bytes.ensures ∙ c.in-Equal.is in
    equal_within (columns_of c.args.schema.now) c.args.table.generation c.args.table.root c.args.bound.now (g.K.Store.files c.args.store.now) (g.K.Store.files c.place_of.new.store) (g.K.Store.files c.head_at.new.store)
    c.in_ok-place.place c.in_ok-head.head c.args.number (g.K.Store.reads c.args.store.now) (g.K.Store.reads c.head_at.new.store) (g.K.Store.reads c.within.new.store) c.place_of.ensures.files c.head_at.ensures.files
    (omega (arith, c.place_of.ensures.reads, c.head_at.ensures.reads)) compared leads c.in_ok-head.ensures.head c.within.ensures.within
