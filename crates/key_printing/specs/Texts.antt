-- The text of the components of which a string is put together.
use Rattle.std.specs.Prelude.{◌≡◌, ℕ, List, ◌++◌}
use Rattle.key_types.specs.Kinds.{Kinds, Vals, EachFits}
use Rattle.key_types.specs.Literals.{list_literal}
use Rattle.byte_comparable.specs.Encoding.{key_string}

-- the text is the list, in parentheses, of the components of these types of which this is the string: there are no others
abbrev pub IsTextOf : Kinds → List ℕ → List ℕ → Type 0
IsTextOf kinds string text = (components : Vals) × EachFits kinds components × (string ≡ key_string kinds components) × (text ≡ list_literal kinds components)

-- that text was put at the end of what stood there before
abbrev pub PutsText : Kinds → List ℕ → List ℕ → List ℕ → Type 0
PutsText kinds string before after = (text : List ℕ) × IsTextOf kinds string text × (after ≡ before ++ text)
