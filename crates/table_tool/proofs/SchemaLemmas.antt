-- A text in the words that is refused as a schema.
use Rattle.std.proofs.Common.{ℕ, arith, List, Err}
use Rattle.schema_text.specs.Answers.{ReadsSchemaText}
use Rattle.schema_text.specs.declared.reading.SchemaError.{SchemaError}
use Rattle.schema_text.specs.declared.reading.SchemaError.TheVariants as error
use Rattle.schema_text.proofs.Unique.{read_as}
use Rattle.table_tool.specs.Request.{ReadsSchema, words_error}

-- a refused text is of no schema
pub no_schema : (text : List ℕ) (e : SchemaError) → ReadsSchemaText text (Err e) → ReadsSchema text (Err (words_error e))
no_schema text (error.TooLong count) read = λ columns is. let long = read.1 in let short = is.short in omega arith
no_schema text (error.BadText at) read = λ columns is. read.1.0 columns is.is
no_schema text error.TooMany read = λ columns is. read_as columns text (Err error.TooMany) is.bounds is.is read.1
no_schema text error.TooDeep read = λ columns is. read_as columns text (Err error.TooDeep) is.bounds is.is read.1
no_schema text error.NoMemory read = tt
