-- How the reading of a head, a static part or a row at a place of a data file ends.
use Rattle.std.specs.Prelude.{◌≡◌, ℕ, List, Result, Ok, Err}
use Rattle.outside.specs.declared.store.Part.TheVariants.{Data}
use Rattle.bti_nodes.specs.declared.damage.Cause.{Cause}
use Rattle.bti_nodes.specs.declared.damage.Cause.TheVariants.{BadHead, BadRow}
use Rattle.bti_nodes.specs.declared.damage.Damage.{Damage}
use Rattle.key_types.specs.Columns.{Columns}
use Rattle.data_file.specs.declared.reading.Head.{Head}
use Rattle.data_file.specs.declared.reading.StaticPart.{StaticPart}
use Rattle.data_file.specs.declared.reading.RowAt.{RowAt}
use Rattle.data_file.specs.declared.reading.DataError.{DataError}
use Rattle.data_file.specs.declared.reading.DataError.TheVariants.{StoreFault, Damaged, NoMemory}
use Rattle.data_file.specs.Reading.{IsStaticPartAt, IsHeadAt, IsRowAt, NoStaticPart, NoHead, NoRow}

-- damage of the data file at a place
abbrev pub damage_at : ℕ → Cause → Damage
damage_at at cause = record { part = Data; position = at; cause = cause }

-- the bytes that stand at the place begin with this head, or with none, which is damage; a store may fail and memory run out
abbrev pub IsHead : Columns → List ℕ → ℕ → Result Head DataError → Type 0
IsHead columns bytes at (Ok head) = IsHeadAt columns bytes at head
IsHead columns bytes at (Err (Damaged damage)) = (damage ≡ damage_at at BadHead) × NoHead columns bytes
IsHead columns bytes at (Err StoreFault) = Unit {0}
IsHead columns bytes at (Err NoMemory) = Unit {0}

-- the same of a row or an end
abbrev pub IsRowOrEnd : Columns → List ℕ → ℕ → Result RowAt DataError → Type 0
IsRowOrEnd columns bytes at (Ok row) = IsRowAt columns bytes at row
IsRowOrEnd columns bytes at (Err (Damaged damage)) = (damage ≡ damage_at at BadRow) × NoRow columns bytes
IsRowOrEnd columns bytes at (Err StoreFault) = Unit {0}
IsRowOrEnd columns bytes at (Err NoMemory) = Unit {0}

-- the same of a static part
abbrev pub IsStaticPart : Columns → List ℕ → ℕ → Result StaticPart DataError → Type 0
IsStaticPart columns bytes at (Ok static_part) = IsStaticPartAt columns bytes at static_part
IsStaticPart columns bytes at (Err (Damaged damage)) = (damage ≡ damage_at at BadRow) × NoStaticPart columns bytes
IsStaticPart columns bytes at (Err StoreFault) = Unit {0}
IsStaticPart columns bytes at (Err NoMemory) = Unit {0}

-- no damage was found
abbrev pub IsStop : DataError → Type 0
IsStop (Damaged damage) = ⊥
IsStop StoreFault = Unit {0}
IsStop NoMemory = Unit {0}
