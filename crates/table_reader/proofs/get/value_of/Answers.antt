use mir.Syntax.{w64}
use mir.Val.{SFits}
use Rattle.std.proofs.Common.{rules}
use Rattle.std.proofs.lemmas.Int.{to_z-of_z}
use Rattle.key_types.specs.Columns.{columns_of}
use Rattle.table_reader.proofs.Steps.{number_found, number_reads}
use Rattle.std.specs.Option.{option_copied}
use Rattle.table_reader.proofs.Bounds.{get_within}
use Rattle.table_reader.proofs.get.value_of.Goals as goal

pub returns-in-Some-clause-value : goal.returns-in-Some-clause-value
returns-in-Some-clause-value g c =
    let fits : SFits w64 c.in-Some.number = search rules in
    let value = simp to_z-of_z at c.value_there.ensures.value in
    number_found (g.K.Store.files c.args.store.now) (g.K.Store.files c.number_of.new.store) (columns_of c.args.schema.now) c.args.generation c.args.footer c.args.key.now
    _ c.in-Some.number c.value_there.result c.in_ok-number.ensures.files (rw c.in-Some.is at c.in_ok-number.ensures.found) value

pub returns-in-Some-clause-reads : goal.returns-in-Some-clause-reads
returns-in-Some-clause-reads g c =
    let fits : SFits w64 c.in-Some.number = search rules in
    let reads = simp to_z-of_z at c.value_there.ensures.reads in
    number_reads (g.K.Store.files c.args.store.now) (g.K.Store.files c.number_of.new.store) (columns_of c.args.schema.now) c.args.generation c.args.footer c.args.key.now
    _ c.in-Some.number c.value_there.result (g.K.Store.reads c.args.store.now) (g.K.Store.reads c.number_of.new.store) (g.K.Store.reads c.value_there.new.store)
    c.in_ok-number.ensures.files (rw c.in-Some.is at c.in_ok-number.ensures.found) c.in_ok-number.ensures.reads reads

pub returns-in-Some-clause-within : goal.returns-in-Some-clause-within
returns-in-Some-clause-within g c =
    let fits : SFits w64 c.in-Some.number = search rules in
    let within = simp to_z-of_z at c.value_there.ensures.within in
    get_within (g.K.Store.files c.args.store.now) (g.K.Store.files c.number_of.new.store) (columns_of c.args.schema.now) c.args.generation c.args.footer c.args.key.now
    (option_copied c.args.wanted) c.in-Some.number (g.K.Store.reads c.args.store.now) (g.K.Store.reads c.number_of.new.store) (g.K.Store.reads c.value_there.new.store)
    c.in_ok-number.ensures.files (rw c.in-Some.is at c.in_ok-number.ensures.found) c.in_ok-number.ensures.reads within
