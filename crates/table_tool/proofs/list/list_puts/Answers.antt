use Rattle.std.proofs.Common.{◌≡◌, ◌∙◌, [], List, Err, ap, arith, rules, subst, sym}
use Rattle.std.specs.List.{AllByRecursion}
use Rattle.key_types.specs.Columns.{columns_of}
use Rattle.script_text.specs.Puts.{Batch}
use Rattle.script_text.specs.Script.{puts_of}
use Rattle.script_text.proofs.Accepted.{accepted_puts}
use Rattle.script_run.specs.declared.run.RunError.TheVariants.{Full}
use Rattle.script_run.specs.Runs.{HasRoom, IsRunPut}
use Rattle.table_tool.specs.Rows.{rows_of}
use Rattle.table_tool.proofs.RowLemmas.{script_rows_are, script_rows_few}
use Rattle.table_tool.proofs.RunPuts.{no_bound, run_puts}
use Rattle.table_tool.proofs.list.list_puts.Goals as goal

pub fill_shard-requires-clause-puts : goal.fill_shard-requires-clause-puts
fill_shard-requires-clause-puts c =
    let columns = columns_of c.args.schema.now in
    let script = c.args.script.now in
    let spelled = c.requires.spelled in
    subst (λ (bs : List Batch). AllByRecursion (IsRunPut []) (puts_of bs)) (sym c.as_slice.ensures)
    (run_puts columns [] (λ string of. no_bound string) (puts_of script.batches) (accepted_puts columns 1 spelled.0 script spelled.1))

pub returns-in_err-table-clause-room : goal.returns-in_err-table-clause-room
returns-in_err-table-clause-room c room line e =
    let is : c.from_residual.result ≡ Err c.in_err-table.field-0.0 = search rules in
    let both = sym is ∙ e in
    let same : c.in_err-table.field-0.0 ≡ Full line = cc in
    c.in_err-table.ensures.room (subst (λ (bs : List Batch). HasRoom c.args.cells [] (puts_of bs)) (sym c.as_slice.ensures) room) line (ap Err same)

pub print_rows-requires-clause-entries : goal.print_rows-requires-clause-entries
print_rows-requires-clause-entries c =
    script_rows_are (columns_of c.args.schema.now) 1 c.args.script.now _ c.requires.spelled (c.in_ok-table.ensures.entries ∙ ap (λ (bs : List Batch). rows_of (puts_of bs)) c.as_slice.ensures)

pub print_rows-requires-clause-count : goal.print_rows-requires-clause-count
print_rows-requires-clause-count c =
    script_rows_few (columns_of c.args.schema.now) 1 c.args.script.now _ (omega arith) c.requires.spelled
    (c.in_ok-table.ensures.entries ∙ ap (λ (bs : List Batch). rows_of (puts_of bs)) c.as_slice.ensures)
