use Rattle.std.proofs.Common.{◌≡◌, Err, rules}
use Rattle.std.specs.String.{string_bytes}
use Rattle.table_tool.proofs.RequestLemmas.{refused_load, short_schema}
use Rattle.table_tool.proofs.request.load_request.Goals as goal

pub returns-in_err-schema-clause-asks : goal.returns-in_err-schema-clause-asks
returns-in_err-schema-clause-asks c words say =
    let is : c.from_residual.result ≡ Err c.in_err-schema.field-0.0 = search rules in
    refused_load words (string_bytes c.args.arguments.schema) c.as_str.result.now (string_bytes c.args.arguments.bounds) c.args.arguments.cells c.args.arguments.readers c.from_residual.result
    c.in_err-schema.field-0.0 is c.as_str.ensures.value say c.in_err-schema.ensures

pub returns-clause-can : goal.returns-clause-can
returns-clause-can c = record {
  schema = short_schema c.as_str.result.now _ c.in_ok-schema.ensures;
  bounds = (c.as_str-2.result.now, c.in_ok-bounds.ensures);
  cells = c.requires.0;
  some = c.requires.1.0;
  eight = c.requires.1.1;
}
