use Rattle.std.proofs.Common.{◌∙◌, ◌++◌, Some, ap}
use Rattle.grammar.specs.Reading.{mapped}
use Rattle.key_types.specs.Columns.{columns_of}
use Rattle.byte_comparable.specs.Encoding.{key_string}
use Rattle.get_tool.proofs.asked.read_row.Goals as goal

pub returns : goal.returns
returns c =
    let list = c.in_ok-rest.ensures in
    (Some list.0, ap (mapped (λ x. (Some x.0, x.1))) list.1, ap Some (list.2 ∙ ap (λ l. l ++ key_string (columns_of c.args.schema.now).clustering list.0) c.new-string.ensures))
