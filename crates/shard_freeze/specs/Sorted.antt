-- The sorted map that the puts of a shard leave, and its entries from a key on. This project's own.
use Rattle.std.specs.Prelude.{ℕ, Bool, not, List, map}
use Rattle.std.specs.List.{filter}
use Rattle.std.specs.Ordering.{is_lt}
use Rattle.std.specs.FinMap as map_of
use Rattle.key_types.specs.Table.{Entry, Table, string_cmp, table_of}
use Rattle.trie_image.specs.declared.Put.{Put}

-- the puts as keys and values
abbrev pub put_entries : List Put → List Entry
put_entries puts = map (λ p. (p.key, p.value)) puts

-- the sorted map that the puts leave: a later put of a key replaces the earlier one
abbrev pub table_made : List Put → Table
table_made puts = table_of (put_entries puts)

-- its entries, ascending by their keys
abbrev pub entries_made : List Put → List Entry
entries_made puts = map_of.entries (table_made puts)

-- the key isn't below the string
abbrev pub reaches : List ℕ → List ℕ → Bool
reaches from key = not (is_lt (string_cmp key from))

-- the entries whose keys aren't below a string, in their order
abbrev pub entries_from : List ℕ → List Entry → List Entry
entries_from from es = filter (λ e. reaches from e.0) es
