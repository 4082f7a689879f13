-- What one step of the reading of bounds does: only private contracts and proofs cite it. This project's own.
use Rattle.std.specs.Prelude.{◌≡◌, ◌<◌, ◌≤◌, ◌-◌, ℕ, List, [], ◌∷◌, ◌++◌, length, Result, Ok, Err}
use Rattle.std.specs.Str.{IsUtf8}
use Rattle.std.specs.List.{AllByRecursion}
use Rattle.std.specs.declared.cmp.Ordering.TheVariants.{Less}
use Rattle.key_types.specs.Kinds.{Kinds, Vals, EachFits}
use Rattle.key_types.specs.Table.{string_cmp}
use Rattle.grammar.specs.Exact.{NextIs}
use Rattle.grammar.specs.Reading.{NoSpace, without_spaces}
use Rattle.key_text.specs.Grammar.{IsList}
use Rattle.byte_comparable.specs.Encoding.{key_string}
use Rattle.byte_comparable.specs.Strings.{longest_string}
use Rattle.shard_table.specs.Shards.{bound_at, BoundsAscend}
use Rattle.bounds_text.specs.declared.reading.BoundsError.{BoundsError}
use Rattle.bounds_text.specs.declared.reading.BoundsError.TheVariants.{Refused, NoMemory}
use Rattle.bounds_text.specs.Bounds.{AreBoundLists}

-- the bytes end a text of UTF-8
abbrev pub EndsUtf8 : List ℕ → Type 0
EndsUtf8 bytes = (before : List ℕ) × IsUtf8 (before ++ bytes)

-- The bytes are a list of components that fit, with its spaces, and others behind it; its string is the bound.
pub record BeginsWithBound (ts : Kinds) (bytes bound behind : List ℕ) : Type 0 where
  pub components : Vals
  pub list : List ℕ
  pub is_list : IsList ts components list
  pub fit : EachFits ts components
  pub string : bound ≡ key_string ts components
  pub parts : bytes ≡ list ++ behind
  pub next : NextIs NoSpace behind

-- the bytes begin with no bound, or with one that is too long; or memory ran out
abbrev pub LacksBound : Kinds → List ℕ → BoundsError → Type 0
LacksBound ts bytes Refused =
    (bound behind : List ℕ) → BeginsWithBound ts bytes bound behind → length bound ≤ longest_string → ⊥
LacksBound ts bytes NoMemory = Unit {0}

-- their first bound is found, and the bytes behind it
abbrev pub FindsBound : {X : Type 0} → Kinds → List ℕ → (X → List ℕ × List ℕ) → Result X BoundsError → Type 0
FindsBound ts bytes view (Ok x) =
    BeginsWithBound ts bytes (view x).0 (view x).1 × (length (view x).0 ≤ longest_string)
    × (length (view x).1 < length bytes)
FindsBound ts bytes view (Err e) = LacksBound ts bytes e

-- the string is above the last bound, or there is none; where bounds ascend it is above them all
abbrev pub IsAboveAll : List (List ℕ) → List ℕ → Type 0
IsAboveAll bounds string = 1 ≤ length bounds → string_cmp (bound_at bounds (length bounds - 1)) string ≡ Less

-- there is no room for the bound, or it isn't above the others; or memory ran out
abbrev pub LacksPlace : List (List ℕ) → List ℕ → BoundsError → Type 0
LacksPlace bounds bound Refused = length bounds < 7 → IsAboveAll bounds bound → ⊥
LacksPlace bounds bound NoMemory = Unit {0}

-- the bound is put behind the others
abbrev pub AddsBound : {X : Type 0} → List (List ℕ) → List ℕ → List (List ℕ) → Result X BoundsError → Type 0
AddsBound before bound after (Ok x) = (after ≡ before ++ bound ∷ []) × (length before < 7) × IsAboveAll before bound
AddsBound before bound after (Err e) = LacksPlace before bound e

-- These bounds were read from the text, and these bytes are left of it.
pub record HasReadBounds (ts : Kinds) (text : List ℕ) (bounds : List (List ℕ)) (left : List ℕ) : Type 0 where
  pub read : List ℕ
  pub parts : without_spaces text ≡ read ++ left
  pub lists : AreBoundLists ts bounds read
  pub next : NextIs NoSpace left
  pub short : AllByRecursion (λ bound. length bound ≤ longest_string) bounds
  pub few : length bounds ≤ 7
  pub ascend : BoundsAscend bounds
