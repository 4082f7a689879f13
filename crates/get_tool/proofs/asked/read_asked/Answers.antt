use Rattle.std.proofs.Common.{◌≡◌, ◌∙◌, ◌++◌, ap}
use Rattle.grammar.specs.Reading.{bind, mapped}
use Rattle.key_types.specs.Columns.{columns_of}
use Rattle.byte_comparable.specs.Encoding.{key_string}
use Rattle.get_tool.specs.Asked.{within_by}
use Rattle.get_tool.proofs.Keys.{key_read}
use Rattle.get_tool.proofs.asked.read_asked.Goals as goal

pub returns : goal.returns
returns c =
    let s = columns_of c.args.schema.now in
    let list = c.in_ok-rest.ensures in
    let within = c.in_ok-clustering.ensures in (
      (list.0, within.0),
      key_read s c.args.out_of_range.now c.spell_list.new.out_of_range c.read_within.new.out_of_range c.args.bytes.now c.in_ok-rest.rest.now c.in_ok-clustering.rest.now list.0 within.0 list.1 within.1,
      (list.2 ∙ ap (λ l. l ++ key_string s.partition list.0) c.new-partition.ensures, within.2),
    )
