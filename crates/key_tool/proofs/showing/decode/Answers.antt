use Rattle.key_tool.specs.Shown.{kinds_in}
use Rattle.key_tool.proofs.Found.{decodes}
use Rattle.key_tool.proofs.showing.decode.Goals as goal

pub returns : goal.returns
returns c =
    let shown = rw c.as_slice.ensures at c.components_line.ensures in
    decodes (kinds_in c.args.part c.args.schema.now) c.args.text.now c.in_ok-bytes.bytes c.components_line.result c.in_ok-bytes.ensures shown
