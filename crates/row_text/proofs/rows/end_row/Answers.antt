use Rattle.key_types.specs.Columns.{columns_of}
use Rattle.row_text.proofs.PrintedLemmas.{ok_so, row_ended}
use Rattle.row_text.proofs.rows.end_row.Goals as goal

pub returns : goal.returns
returns c =
    ok_so c.push-2.result _ _
    (row_ended (columns_of c.args.schema.now) c.args.clustering.now c.args.value.now c.args.out.now c.push.new.self c.write_string.new.out c.write_equals.new.out c.push-2.new.self
    c.in_ok-push.ensures.ok c.in_ok-write_string.ensures.ok c.in_ok-write_equals.ensures.ok)
    c.push-2.ensures.ok
