-- What the neighbours of a string say of all strings of an ascending list. This project's own.
use Rattle.std.specs.Prelude.{◌≡◌, ◌≢◌, ℕ, List, [], ◌∷◌, ◌++◌, Option, Some, None, IfSome}
use Rattle.std.specs.declared.cmp.Ordering.TheVariants.{Less}
use Rattle.key_types.specs.Table.{string_cmp}
use Rattle.byte_order.specs.Strings.{AreAscending, Differ, IsSeparatorLength, IsUniqueLength, first_of, last_of, neighbours, separator_size, unique_size}

-- in an ascending list the shortest prefix that no neighbour has is the shortest that no other string has
abbrev pub UniqueAmongAll : Type 0
UniqueAmongAll =
    (before : List (List ℕ)) (key : List ℕ) (behind : List (List ℕ)) (n : ℕ) → AreAscending (before ++ key ∷ behind)
    → IsUniqueLength key (neighbours (last_of before) (first_of behind)) n → IsUniqueLength key (before ++ behind) n

-- the string differs from the key, where it is there
abbrev pub DiffersFrom : List ℕ → Option (List ℕ) → Type 0
DiffersFrom key beside = IfSome beside (λ other. Differ key other)

-- the bytes that tell a key from its neighbours are its shortest prefix that neither has,
abbrev pub UniqueSize : Type 0
UniqueSize =
    (before : Option (List ℕ)) (key : List ℕ) (behind : Option (List ℕ)) → key ≢ [] → DiffersFrom key before → DiffersFrom key behind
    → IsUniqueLength key (neighbours before behind) (unique_size before key behind)

-- and those that tell a string from a lesser one are its shortest prefix above that
abbrev pub SeparatorSize : Type 0
SeparatorSize = (before next : List ℕ) → string_cmp before next ≡ Less → IsSeparatorLength before next (separator_size before next)
