-- What holds of the texts of schemas. This project's own.
use Rattle.std.specs.Prelude.{◌≡◌, ℕ, ◌≤◌, ◌*◌, List, length, Result, Ok, Err}
use Rattle.key_types.specs.declared.schema.Schema.{Schema}
use Rattle.schema_text.specs.declared.reading.SchemaError.{SchemaError}
use Rattle.schema_text.specs.declared.reading.SchemaError.TheVariants as error
use Rattle.key_types.specs.Columns.{Columns, columns_of}
use Rattle.schema_text.specs.Bounds.{KeepsBounds}
use Rattle.schema_text.specs.Grammar.{IsSchemaText}
use Rattle.schema_text.specs.Canonical.{canonical}
use Rattle.schema_text.specs.Answers.{ReadsSchemaText}

-- these columns were read, unless memory ran out
abbrev pub IsSchemaRead : Columns → Result Schema SchemaError → Type 0
IsSchemaRead s (Ok r) = columns_of r ≡ s
IsSchemaRead s (Err error.NoMemory) = Unit {0}
IsSchemaRead s (Err _) = ⊥

-- the laws of the texts of schemas
pub record SchemaTexts : Type 0 where
  -- what is written of a schema is a text of it
  pub written : (s : Columns) → KeepsBounds s → IsSchemaText s (canonical s)
  -- a text is of at most one schema
  pub one : (s t : Columns) (bytes : List ℕ) → IsSchemaText s bytes → IsSchemaText t bytes → s ≡ t
  -- so what is written in at most 2,000 bytes is read back as the same schema
  pub read_back : (s : Columns) (result : Result Schema SchemaError) → KeepsBounds s → length (canonical s) ≤ 2000 → ReadsSchemaText (canonical s) result → IsSchemaRead s result
  -- what is written is at most twice as long as any text of the schema: of a text that `read_schema` takes at most 4,000 bytes
  pub short : (s : Columns) (bytes : List ℕ) → IsSchemaText s bytes → length (canonical s) ≤ 2 * length bytes
