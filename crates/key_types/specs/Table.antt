-- The order of byte strings, and the sorted map that a list of puts leaves. This project's own.
use Rattle.std.specs.Prelude.{◌≡◌, ◌≢◌, ◌↔◌, ℕ, List, [], ◌∷◌, ◌++◌, Option, Some, None}
use Rattle.std.specs.declared.cmp.Ordering.{Ordering}
use Rattle.std.specs.Ordering.{nat_cmp}
use Rattle.std.specs.Cmp.Lexicographic.{slice_cmp}
use Rattle.std.specs.FinMap as map

-- byte strings go by their first different byte, unsigned; a proper prefix is less
abbrev pub string_cmp : List ℕ → List ℕ → Ordering
string_cmp = slice_cmp nat_cmp

-- a key's string and a value
abbrev pub Entry : Type 0
Entry = List ℕ × List ℕ

-- a sorted map from the strings of keys to values
abbrev pub Table : Type 0
Table = map.FinMap string_cmp (List ℕ)

-- the map after more puts: a later put of a key replaces the earlier one
abbrev pub table_after : Table → List Entry → Table
table_after table [] = table
table_after table (put ∷ puts) = table_after (map.insert table put.0 put.1) puts

-- the map that the puts leave
abbrev pub table_of : List Entry → Table
table_of puts = table_after map.empty puts

-- no put is of this key
abbrev pub LacksKey : List ℕ → List Entry → Type 0
LacksKey key [] = Unit {0}
LacksKey key (put ∷ puts) = (key ≢ put.0) × LacksKey key puts

-- this is the value of the key's last put: no put behind it is of the key
abbrev pub IsLastValue : List ℕ → List ℕ → List Entry → Type 0
IsLastValue key value puts = (front : List Entry) × (rest : List Entry) × (puts ≡ front ++ (key, value) ∷ rest) × LacksKey key rest

-- a get of the map that the puts leave is the value of the key's last put
pub record GetsLastPut : Type 0 where
  pub some : (puts : List Entry) (key value : List ℕ) → (map.get (table_of puts) key ≡ Some value) ↔ IsLastValue key value puts
  pub none : (puts : List Entry) (key : List ℕ) → (map.get (table_of puts) key ≡ None) ↔ LacksKey key puts

-- the newer value where there is one, and else the older
abbrev pub value_over : Option (List ℕ) → Option (List ℕ) → Option (List ℕ)
value_over (Some newer) older = Some newer
value_over None older = older

-- the map of one list of puts behind another is the second's over the first's
abbrev pub IsOver : Type 0
IsOver = (first second : List Entry) (key : List ℕ)
    → map.get (table_of (first ++ second)) key ≡ value_over (map.get (table_of second) key) (map.get (table_of first) key)
