-- The rows that a list of puts leaves, in order. This project's own.
use Rattle.std.specs.Prelude.{List, [], ◌∷◌}
use Rattle.std.specs.BTreeMap.{insert_entry}
use Rattle.std.specs.FinMap as map
use Rattle.key_types.specs.Table.{Entry, Table, string_cmp, table_of}
use Rattle.script_text.specs.Puts.{Put}
use Rattle.script_text.specs.Script.{entries_of}

-- the sorted map of all puts
abbrev pub table_put : List Put → Table
table_put puts = table_of (entries_of puts)

-- its entries, ascending by the strings of their keys
abbrev pub rows_of : List Put → List Entry
rows_of puts = map.entries (table_put puts)

-- ---- the same map kept as the sorted list of its entries, for the loop that makes it

abbrev pub rows_after : List Entry → List Entry → List Entry
rows_after rows [] = rows
rows_after rows (put ∷ puts) = rows_after (insert_entry string_cmp rows put.0 put.1) puts
