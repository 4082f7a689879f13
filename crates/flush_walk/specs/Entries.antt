-- The parts of the string of an entry's key. This project's own.
use Rattle.std.specs.Prelude.{ℕ, ◌+◌, ◌-◌, Bool, true, false, List, [], ◌∷◌, length, take, Result, Ok, Err, if◌then◌else◌}
use Rattle.key_types.specs.Columns.{Columns}
use Rattle.key_types.specs.Kinds.{Vals}
use Rattle.key_types.specs.Table.{Entry}
use Rattle.key_decode.specs.Reading.{values_at}

-- what stands behind the components that were read; nothing where none were
abbrev pub rest_behind : Result (Vals × List ℕ) ℕ → List ℕ
rest_behind (Ok found) = found.1
rest_behind (Err left) = []

-- the string of the row within its partition, which is empty for a static value
abbrev pub clustering_in : Columns → List ℕ → List ℕ
clustering_in columns string = rest_behind (values_at columns.partition string)

-- the string of the partition
abbrev pub partition_in : Columns → List ℕ → List ℕ
partition_in columns string = take (length string - length (clustering_in columns string)) string

abbrev pub has_some : List ℕ → Bool
has_some [] = false
has_some (b ∷ bs) = true

-- the entry is of a row, and not of a static value
abbrev pub is_row : Columns → Entry → Bool
is_row columns entry = has_some (clustering_in columns entry.0)

-- how many rows an entry is, of which these bytes stand behind its partition's string: one, or none for a static value
abbrev pub row_at : List ℕ → ℕ
row_at clustering = if has_some clustering then 1 else 0

-- how many entries are of rows
abbrev pub row_count : Columns → List Entry → ℕ
row_count columns [] = 0
row_count columns (entry ∷ entries) = (if is_row columns entry then 1 else 0) + row_count columns entries
