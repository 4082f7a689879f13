-- What was read of a text, without pointers: only private contracts cite it.
use Rattle.std.specs.Prelude.{◌≡◌, true, false, Result, Ok, Err}
use Rattle.key_types.specs.declared.schema.Schema.{Schema}
use Rattle.key_types.specs.Kinds.{kinds_of}
use Rattle.schema_text.specs.declared.reading.Parts.{Parts}
use Rattle.schema_text.specs.declared.reading.SchemaError.{SchemaError}
use Rattle.schema_text.specs.declared.reading.SchemaError.TheVariants as error
use Rattle.key_types.specs.Columns.{Columns, columns_of}
use Rattle.schema_text.specs.Bounds.{has_few, is_flat}
use Rattle.schema_text.specs.Grammar.{IsSome, AreTypes}

-- the columns that the parts in memory stand for
abbrev pub columns_of_parts : Parts → Columns
columns_of_parts p = record { partition = kinds_of p.partition; clustering = kinds_of p.clustering; value = p.value; static_value = p.static_value }

-- what every text of the grammar keeps
abbrev pub AreTextColumns : Columns → Type 0
AreTextColumns s = IsSome s.partition × AreTypes s.partition × AreTypes s.clustering

-- the schema of the columns, or the first bound that they pass
abbrev pub Bounded : Columns → Result Schema SchemaError → Type 0
Bounded s (Ok r) = columns_of r ≡ s
Bounded s (Err error.TooMany) = has_few s ≡ false
Bounded s (Err error.TooDeep) = (has_few s ≡ true) × (is_flat s ≡ false)
Bounded s (Err _) = ⊥
