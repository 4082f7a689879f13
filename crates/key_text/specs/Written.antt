-- The row or the static value that is written of a key and a value. This project's own.
use Rattle.std.specs.Prelude.{ℕ, List, [], ◌++◌, codes}
use Rattle.key_types.specs.declared.schema.ValueType.{ValueType}
use Rattle.key_types.specs.declared.schema.ValueType.TheVariants.{Text, Blob}
use Rattle.key_types.specs.Kinds.{Kinds, end, Vals, none}
use Rattle.key_types.specs.Literals.{text_literal, blob_literal, literals, list_literal}

-- the components behind one: only private contracts cite it
abbrev pub further_literals : Kinds → Vals → List ℕ
further_literals end none = []
further_literals ts vs = codes ", " ++ literals ts vs

-- a value of a row
abbrev pub value_literal : ValueType → List ℕ → List ℕ
value_literal Text bs = text_literal bs
value_literal Blob bs = blob_literal bs

-- the partition's components and those within it
abbrev pub key_literal : Kinds → Kinds → Vals → Vals → List ℕ
key_literal ps cs partition clustering = list_literal ps partition ++ codes " " ++ list_literal cs clustering

-- an equals sign and a value
abbrev pub equals_literal : ValueType → List ℕ → List ℕ
equals_literal value bs = codes " = " ++ value_literal value bs

-- a key, an equals sign, and the value
abbrev pub row_literal : Kinds → Kinds → ValueType → Vals → Vals → List ℕ → List ℕ
row_literal ps cs value partition clustering bs = key_literal ps cs partition clustering ++ equals_literal value bs

-- a partition's key, the word `static`, an equals sign, and the value
abbrev pub static_literal : Kinds → ValueType → Vals → List ℕ → List ℕ
static_literal ps value partition bs = list_literal ps partition ++ codes " static" ++ equals_literal value bs
