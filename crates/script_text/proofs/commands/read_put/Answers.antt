use Rattle.std.specs.Prelude.{codes}
use Rattle.key_types.specs.Columns.{columns_of}
use Rattle.byte_comparable.specs.Encoding.{key_string}
use Rattle.byte_comparable.specs.Order.{within_string}
use Rattle.std.proofs.Common.{◌++◌, ◌+◌, ◌∙◌, ap, length, length-append}
use Rattle.script_text.specs.Reading.{set_at}
use Rattle.script_text.proofs.Spelled.{verb_read, behind_both, end_behind}
use Rattle.script_text.proofs.commands.read_put.Goals as goal

pub returns : goal.returns
returns c =
    let s = columns_of c.args.schema.now in
    let list = c.in_ok-rest-2.ensures in
    let rest = c.in_ok-clustering.ensures in
    let out = c.args.out.now in
    let string = key_string s.partition list.0 in
    let within = within_string s.clustering rest.0.0 in (
      (list.0, rest.0),
      verb_read s set_at (codes "put") c.args.out_of_range.now c.spell_list.new.out_of_range c.read_rest.new.out_of_range c.args.bytes.now c.in_ok-rest.rest.now c.in_ok-rest-2.rest.now c.in_ok-clustering.rest.now c.in_ok-rest.field-0-0 list.0
          rest.0 c.in_ok-rest.ensures list.1 rest.1,
      (
        rest.2.0,
        rest.2.1,
        (
          behind_both out string (within ++ rest.2.0) c.spell_list.new.out c.read_rest.new.out rest.2.2 list.2,
          end_behind out string c.spell_list.new.out c.len-partition.result c.len-partition.ensures list.2,
          rest.2.3 ∙ ap (λ n. n + length within) (ap length list.2 ∙ length-append out string),
        ),
      ),
    )
