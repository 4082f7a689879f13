use Rattle.std.proofs.Common.{Err, List, ℕ, subst}
use Rattle.schema_text.specs.Answers.{ReadsSchemaText}
use Rattle.table_tool.proofs.SchemaLemmas.{no_schema}
use Rattle.table_tool.proofs.request.schema_of.Goals as goal

pub returns-in-Err : goal.returns-in-Err
returns-in-Err c = rw c.words_error.ensures (no_schema c.args.text.now c.in-Err.e (subst (λ (b : List ℕ). ReadsSchemaText b (Err c.in-Err.e)) c.as_bytes.ensures.value c.in-Err.ensures))
