-- The bounds between shards, as their text. This project's own.
use Rattle.std.specs.Prelude.{◌≡◌, ◌≤◌, ℕ, List, [], ◌∷◌, ◌++◌, length, Result, Ok, Err}
use Rattle.std.specs.List.{AllByRecursion}
use Rattle.key_types.specs.Columns.{Columns}
use Rattle.key_types.specs.Kinds.{Kinds, Vals, EachFits}
use Rattle.key_text.specs.Grammar.{IsList, IsText}
use Rattle.byte_comparable.specs.Encoding.{key_string}
use Rattle.byte_comparable.specs.Strings.{longest_string}
use Rattle.shard_table.specs.Shards.{BoundsAscend}
use Rattle.bounds_text.specs.declared.reading.BoundsError.{BoundsError}
use Rattle.bounds_text.specs.declared.reading.BoundsError.TheVariants.{Refused, NoMemory}

-- lists of components that fit, one behind the other, and their strings
abbrev pub AreBoundLists : Kinds → List (List ℕ) → List ℕ → Type 0
AreBoundLists ts [] text = text ≡ []
AreBoundLists ts (bound ∷ bounds) text =
    (vs : Vals) × (front : List ℕ) × (rest : List ℕ) × IsList ts vs front × EachFits ts vs × (bound ≡ key_string ts vs)
    × AreBoundLists ts bounds rest × (text ≡ front ++ rest)

-- The text is that of bounds with these strings: lists of the components of a partition, with spaces before them or
-- none. There are at most seven, their strings ascend, and none is too long.
pub record IsBoundsText (columns : Columns) (text : List ℕ) (bounds : List (List ℕ)) : Type 0 where
  pub lists : IsText (AreBoundLists columns.partition) bounds text
  pub short : AllByRecursion (λ bound. length bound ≤ longest_string) bounds
  pub few : length bounds ≤ 7
  pub ascend : BoundsAscend bounds

-- the text is that of no bounds
abbrev pub IsNoBoundsText : Columns → List ℕ → Type 0
IsNoBoundsText columns text = (bounds : List (List ℕ)) → IsBoundsText columns text bounds → ⊥

abbrev pub ReadsBounds : Columns → List ℕ → Result (List (List ℕ)) BoundsError → Type 0
ReadsBounds columns text (Ok bounds) = IsBoundsText columns text bounds
ReadsBounds columns text (Err Refused) = IsNoBoundsText columns text
ReadsBounds columns text (Err NoMemory) = Unit {0}

-- a text is of at most one list of bounds
abbrev pub OneBoundsText : Type 0
OneBoundsText =
    (columns : Columns) (text : List ℕ) (bounds others : List (List ℕ))
    → IsBoundsText columns text bounds → IsBoundsText columns text others → bounds ≡ others
