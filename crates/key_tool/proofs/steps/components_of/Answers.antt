use Rattle.std.proofs.Common.{sym, ◌∙◌}
use Rattle.std.proofs.lemmas.Str.{is_utf8-from_IsUtf8}
use Rattle.key_types.specs.Kinds.{kinds_of}
use Rattle.key_tool.proofs.Found.{not_spelled}
use Rattle.key_tool.proofs.steps.components_of.Goals as goal

pub read_list-requires : goal.read_list-requires
read_list-requires c = is_utf8-from_IsUtf8 c.as_bytes.result.now c.as_bytes.ensures.utf8

pub returns-in-Err-BadToken : goal.returns-in-Err-BadToken
returns-in-Err-BadToken c = not_spelled (kinds_of c.args.kinds.now) c.as_bytes.result.now c.args.text.now c.in-Err-BadToken.field-0 c.as_bytes.ensures.value c.in-Err-BadToken.ensures (λ e. cc (sym e ∙ c.in-Err-BadToken.field-0-is))

pub returns-in-Err-OutOfRange : goal.returns-in-Err-OutOfRange
returns-in-Err-OutOfRange c = not_spelled (kinds_of c.args.kinds.now) c.as_bytes.result.now c.args.text.now c.in-Err-OutOfRange.field-0 c.as_bytes.ensures.value c.in-Err-OutOfRange.ensures (λ e. cc (sym e ∙ c.in-Err-OutOfRange.field-0-is))
