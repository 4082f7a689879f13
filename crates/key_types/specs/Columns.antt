-- The columns of a table without pointers, and the bytes of their values. This project's own.
use Rattle.std.specs.Prelude.{ℕ, ◌≤◌, List, length, Option, IsTrue}
use Rattle.std.specs.Str.{is_utf8}
use Rattle.key_types.specs.declared.schema.Schema.{Schema}
use Rattle.key_types.specs.declared.schema.ValueType.{ValueType}
use Rattle.key_types.specs.declared.schema.ValueType.TheVariants.{Text, Blob}
use Rattle.key_types.specs.Kinds.{Kinds, kinds_of}

-- the types of the components of a partition and within it, of a value, and of the static value where there is one
pub record Columns : Type 0 where
  pub partition : Kinds
  pub clustering : Kinds
  pub value : ValueType
  pub static_value : Option ValueType

-- what a schema in memory stands for
abbrev pub columns_of : Schema → Columns
columns_of s = record { partition = kinds_of s.partition; clustering = kinds_of s.clustering; value = s.value; static_value = s.static_value }

-- the greatest length of a value, in bytes
abbrev pub longest_value : ℕ
longest_value = 65535

-- the bytes are a value of this type: they are not too many, and a text is UTF-8
abbrev pub IsValueOf : ValueType → List ℕ → Type 0
IsValueOf Text bytes = (length bytes ≤ longest_value) × IsTrue (is_utf8 bytes)
IsValueOf Blob bytes = length bytes ≤ longest_value
