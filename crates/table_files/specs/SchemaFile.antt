-- The text of Schema.txt. The layout is this project's own.
use Rattle.std.specs.Prelude.{◌≡◌, ℕ, ◌≤◌, List, ◌++◌, length, codes, Option, Some, None}
use Rattle.key_types.specs.declared.schema.Schema.{Schema}
use Rattle.key_types.specs.declared.schema.ValueType.{ValueType}
use Rattle.key_types.specs.Columns.{Columns, columns_of}
use Rattle.schema_text.specs.Bounds.{KeepsBounds}
use Rattle.schema_text.specs.Canonical.{canonical}

-- the first line: version 2 exactly where there is a static type
abbrev pub version_line : Option ValueType → List ℕ
version_line None = codes "bti-table 1\n"
version_line (Some type) = codes "bti-table 2\n"

-- the whole text of the file
abbrev pub schema_file_text : Columns → List ℕ
schema_file_text columns = version_line columns.static_value ++ (canonical columns ++ codes "\nend\n")

-- the columns are those of a schema whose canonical text has at most 4,000 bytes
abbrev pub HaveSchemaFile : Columns → Type 0
HaveSchemaFile columns = KeepsBounds columns × (length (canonical columns) ≤ 4000)

-- the bytes are the whole text of these columns
abbrev pub IsSchemaFile : Columns → List ℕ → Type 0
IsSchemaFile columns bytes = HaveSchemaFile columns × (bytes ≡ schema_file_text columns)

-- they are the whole text of some columns
abbrev pub IsWholeSchemaFile : List ℕ → Type 0
IsWholeSchemaFile bytes = (columns : Columns) × IsSchemaFile columns bytes

-- the schema that the bytes are the whole text of, or none where they are of none
abbrev pub ReadsSchemaFile : List ℕ → Option Schema → Type 0
ReadsSchemaFile bytes (Some schema) = IsSchemaFile (columns_of schema) bytes
ReadsSchemaFile bytes None = ¬ (IsWholeSchemaFile bytes)
