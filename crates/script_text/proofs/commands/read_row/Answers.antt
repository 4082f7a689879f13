use Rattle.std.proofs.Common.{Some}
use Rattle.key_types.specs.Columns.{columns_of}
use Rattle.byte_comparable.specs.Encoding.{key_string}
use Rattle.script_text.specs.Reading.{set_at}
use Rattle.script_text.proofs.Spelled.{row_read, behind_both, end_behind}
use Rattle.script_text.proofs.commands.read_row.Goals as goal

pub returns : goal.returns
returns c =
    let s = columns_of c.args.schema.now in
    let list = c.in_ok-rest.ensures in
    let middle = c.spell_list.new.out_of_range in
    let set = c.in_ok-rest-2.ensures middle in
    let string = key_string s.clustering list.0 in (
      (Some list.0, set.0),
      row_read s set_at c.args.out_of_range.now middle middle c.args.bytes.now c.in_ok-rest.rest.now c.in_ok-rest-2.rest.now list.0 set.0 list.1 set.1,
      (
        set.2.0,
        set.2.1,
        behind_both c.args.out.now string set.2.0 c.spell_list.new.out c.read_set.new.out set.2.2 list.2,
        end_behind c.args.out.now string c.spell_list.new.out c.len-end.result c.len-end.ensures list.2,
      ),
    )
