-- The one text of a schema that is written. This project's own.
use Rattle.std.specs.Prelude.{ℕ, List, [], ◌++◌, codes, Option, Some, None}
use Rattle.key_types.specs.declared.schema.ValueType.{ValueType}
use Rattle.key_types.specs.declared.schema.ValueType.TheVariants.{Text, Blob}
use Rattle.key_types.specs.Kinds.{Kind, tiny, small, int, big, text, blob, boolean, tuple, reversed, Kinds, end, more}
use Rattle.key_types.specs.Columns.{Columns}

-- a type; several with a comma and a space between each two; and those behind the first of several
abbrev mutual
  pub type_text : Kind → List ℕ
  type_text tiny = codes "tinyint"
  type_text small = codes "smallint"
  type_text int = codes "int"
  type_text big = codes "bigint"
  type_text text = codes "text"
  type_text blob = codes "blob"
  type_text boolean = codes "boolean"
  type_text (tuple ts) = codes "tuple<" ++ types_text ts ++ codes ">"
  type_text (reversed t) = type_text t ++ codes " reversed"

  pub types_text : Kinds → List ℕ
  types_text end = []
  types_text (more t ts) = type_text t ++ rest_text ts

  pub rest_text : Kinds → List ℕ
  rest_text end = []
  rest_text (more t ts) = codes ", " ++ type_text t ++ rest_text ts

-- a value type
abbrev pub value_text : ValueType → List ℕ
value_text Text = codes "text"
value_text Blob = codes "blob"

-- the type of a static value behind a semicolon, where there is one
abbrev pub static_text : Option ValueType → List ℕ
static_text None = []
static_text (Some v) = codes "; " ++ value_text v

-- the types of the components of keys
abbrev pub lists_text : Columns → List ℕ
lists_text s = codes "(" ++ types_text s.partition ++ codes "; " ++ types_text s.clustering

-- the types of values
abbrev pub values_text : Columns → List ℕ
values_text s = codes "; " ++ value_text s.value ++ static_text s.static_value ++ codes ")"

-- one space after each comma and semicolon and before each `reversed`, and no other
abbrev pub canonical : Columns → List ℕ
canonical s = lists_text s ++ values_text s
