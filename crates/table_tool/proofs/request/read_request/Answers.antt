use Rattle.std.proofs.Common.{◌≡◌, Err, Ok, map, rules, subst}
use Rattle.std.specs.String.{string_bytes}
use Rattle.command_line.specs.Reading.{command_of}
use Rattle.command_line.specs.Said.{said_of}
use Rattle.command_line.specs.declared.command.Command.{Command}
use Rattle.table_tool.proofs.RequestLemmas.{asks_key, refused_list}
use Rattle.table_tool.proofs.request.read_request.Goals as goal

pub returns-in_err-schema-in-List-clause-asks : goal.returns-in_err-schema-in-List-clause-asks
returns-in_err-schema-in-List-clause-asks c =
    let is : c.from_residual-in_err-schema-in-List.result ≡ Err c.in_err-schema-in-List.field-0.0 = search rules in
    let say = subst (λ (x : Command). command_of (map string_bytes c.args.words.now) ≡ Ok (said_of x)) c.in-List.is c.in_ok-arguments.ensures.said in
    refused_list c.args.words.now (string_bytes c.in-List.arguments.schema) c.as_str.result.now c.in-List.arguments.cells c.from_residual-in_err-schema-in-List.result c.in_err-schema-in-List.field-0.0
    is c.as_str.ensures.value say c.in_err-schema-in-List.ensures

pub returns-in-Key-clause-asks : goal.returns-in-Key-clause-asks
returns-in-Key-clause-asks c =
    let say = subst (λ (x : Command). command_of (map string_bytes c.args.words.now) ≡ Ok (said_of x)) c.in-Key.is c.in_ok-arguments.ensures.said in
    asks_key c.args.words.now c.in-Key.arguments c.key_request.result say c.key_request.ensures
