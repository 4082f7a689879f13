use Rattle.std.proofs.Common.{rules, ◌≡◌, ◌∙◌, ap, refl}
use Rattle.grammar.specs.Reading.{mapped}
use Rattle.key_types.specs.Columns.{columns_of}
use Rattle.script_text.specs.Grammar.{sync_text}
use Rattle.script_text.specs.Reading.{put_said, get_said, put_said_at, get_said_at, sync_said_at, command_at}
use Rattle.script_text.proofs.commands.read_command.Goals as goal

pub returns-in_ok-ends-in-112 : goal.returns-in_ok-ends-in-112
returns-in_ok-ends-in-112 c =
    let s = columns_of c.args.schema.now in
    let mark = c.args.out_of_range.now in
    let same : command_at s mark c.args.bytes.now ≡ put_said_at s mark c.args.bytes.now = search rules in
    let read = c.in_ok-ends-in-112.ensures in
    (put_said read.0, same ∙ ap (mapped (λ x. (put_said x.0, x.1))) read.1, read.2)

pub returns-in_ok-ends-in-103 : goal.returns-in_ok-ends-in-103
returns-in_ok-ends-in-103 c =
    let s = columns_of c.args.schema.now in
    let mark = c.args.out_of_range.now in
    let same : command_at s mark c.args.bytes.now ≡ get_said_at s mark c.args.bytes.now = search rules in
    let read = c.in_ok-ends-in-103.ensures in
    (get_said read.0, same ∙ ap (mapped (λ x. (get_said x.0, x.1))) read.1, read.2)

pub returns-in_ok-rest-in_default : goal.returns-in_ok-rest-in_default
returns-in_ok-rest-in_default c =
    let s = columns_of c.args.schema.now in
    let mark = c.args.out_of_range.now in
    let same : command_at s mark c.args.bytes.now ≡ sync_said_at mark c.args.bytes.now = search rules in
    (sync_text, same ∙ c.in_ok-rest-in_default.ensures mark, refl)
