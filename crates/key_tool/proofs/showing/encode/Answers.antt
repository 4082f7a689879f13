use Rattle.key_types.specs.Kinds.{values_of}
use Rattle.key_tool.specs.Shown.{kinds_in}
use Rattle.key_tool.proofs.Found.{encodes}
use Rattle.key_tool.proofs.showing.encode.Goals as goal

pub returns : goal.returns
returns c =
    let spells = rw c.kinds_in.ensures at c.in_ok-components.ensures in
    encodes (kinds_in c.args.part c.args.schema.now) c.args.text.now (values_of c.in_ok-components.components) c.string_line.result spells c.string_line.ensures
