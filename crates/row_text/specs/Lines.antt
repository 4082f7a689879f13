-- How the line of an entry is put together: only private contracts cite it.
use Rattle.std.specs.Prelude.{◌≡◌, ◌≢◌, ℕ, List, [], ◌++◌}
use Rattle.key_types.specs.Kinds.{Kinds}
use Rattle.key_types.specs.Columns.{Columns}
use Rattle.key_printing.specs.Texts.{IsTextOf}
use Rattle.row_text.specs.Printed.{entry_line}

-- where the line so far is the text of a partition's components, it becomes that of the entry with this value, whose key's string is that of the partition before these bytes
abbrev pub EndsLine : Columns → List ℕ → List ℕ → List ℕ → List ℕ → Type 0
EndsLine columns clustering value so_far whole =
    (before key text : List ℕ) → IsTextOf columns.partition key text → so_far ≡ before ++ text → whole ≡ before ++ entry_line columns (key ++ clustering, value)

-- the text is that of the last partition's components, where there is one
abbrev pub HoldsText : Kinds → List ℕ → List ℕ → Type 0
HoldsText kinds last text = last ≢ [] → IsTextOf kinds last text
