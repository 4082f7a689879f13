-- What is answered where a text is read as a schema. This project's own.
use Rattle.std.specs.Prelude.{◌≡◌, ℕ, ◌≤◌, ◌<◌, true, false, List, length, Option, Some, None, Result, Ok, Err}
use Rattle.key_types.specs.declared.bytes.NoMemory.{NoMemory}
use Rattle.key_types.specs.declared.schema.Schema.{Schema}
use Rattle.grammar.specs.Exact.{Longest}
use Rattle.schema_text.specs.declared.reading.SchemaError.{SchemaError}
use Rattle.schema_text.specs.declared.reading.SchemaError.TheVariants as error
use Rattle.key_types.specs.Columns.{Columns, columns_of}
use Rattle.schema_text.specs.Bounds.{has_few, is_flat, KeepsBounds}
use Rattle.schema_text.specs.Grammar.{IsSchemaText}
use Rattle.schema_text.specs.Canonical.{canonical}

-- no columns have this text
abbrev pub IsNoText : List ℕ → Type 0
IsNoText bytes = (s : Columns) → IsSchemaText s bytes → ⊥

-- by cases on the answer to a text of any length: the schema of the text, or the first refusal
abbrev pub Parses : List ℕ → Result Schema SchemaError → Type 0
Parses bytes (Ok s) = IsSchemaText (columns_of s) bytes
Parses bytes (Err (error.BadText at)) = IsNoText bytes × Longest IsSchemaText bytes at
Parses bytes (Err error.TooMany) = (s : Columns) × IsSchemaText s bytes × (has_few s ≡ false)
Parses bytes (Err error.TooDeep) = (s : Columns) × IsSchemaText s bytes × (has_few s ≡ true) × (is_flat s ≡ false)
Parses bytes (Err (error.TooLong count)) = ⊥
Parses bytes (Err error.NoMemory) = Unit {0}

-- the same where a text of over 2,000 bytes is refused first
abbrev pub ReadsSchemaText : List ℕ → Result Schema SchemaError → Type 0
ReadsSchemaText bytes (Err (error.TooLong count)) = (count ≡ length bytes) × (2000 < length bytes)
ReadsSchemaText bytes (Err error.NoMemory) = Unit {0}
ReadsSchemaText bytes result = (length bytes ≤ 2000) × Parses bytes result

-- the schema whose canonical text of at most 4,000 bytes this is, or none where it is of no schema
abbrev pub ReadsCanonical : List ℕ → Result (Option Schema) NoMemory → Type 0
ReadsCanonical bytes (Ok (Some s)) = (bytes ≡ canonical (columns_of s)) × (length bytes ≤ 4000)
ReadsCanonical bytes (Ok None) = (s : Columns) → KeepsBounds s → bytes ≡ canonical s → length bytes ≤ 4000 → ⊥
ReadsCanonical bytes (Err _) = Unit {0}
