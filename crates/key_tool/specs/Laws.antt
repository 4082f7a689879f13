-- What holds of the lines that are shown. This project's own.
use Rattle.std.specs.Prelude.{◌≡◌, ℕ, ◌≤◌, List, length, Ok}
use Rattle.std.specs.Str.{str_to_ascii_lowercase}
use Rattle.key_types.specs.Kinds.{Kinds, Vals, EachFits}
use Rattle.key_types.specs.Literals.{hex_digits, list_literal}
use Rattle.byte_comparable.specs.Strings.{string_of}
use Rattle.key_tool.specs.Shown.{ShowsDecoded, ShowsEncoded, SpellsComponents, ended_line}

-- the laws of what is shown
pub record KeyTexts : Type 0 where
  -- at most one line is shown of a text, either way
  pub one_encoded : (kinds : Kinds) (text a b : List ℕ) → ShowsEncoded kinds text a → ShowsEncoded kinds text b → a ≡ b
  pub one_decoded : (kinds : Kinds) (text a b : List ℕ) → ShowsDecoded kinds text a → ShowsDecoded kinds text b → a ≡ b
  -- of the literal of components that fit and have a string the string is shown, and of the string the same literal
  pub literal_encoded : (kinds : Kinds) (components : Vals) (string : List ℕ) → EachFits kinds components → string_of kinds components ≡ Ok string
      → ShowsEncoded kinds (list_literal kinds components) (ended_line (hex_digits string))
  pub string_decoded : (kinds : Kinds) (components : Vals) (string : List ℕ) → EachFits kinds components → string_of kinds components ≡ Ok string
      → ShowsDecoded kinds (hex_digits string) (ended_line (list_literal kinds components))
  -- so what is shown of any text of components shows the components' literal
  pub encoded_back : (kinds : Kinds) (text digits : List ℕ) → ShowsEncoded kinds text (ended_line digits)
      → (components : Vals) × SpellsComponents kinds text components × ShowsDecoded kinds digits (ended_line (list_literal kinds components))
  -- and what is shown of a string of at most 1,024 bytes shows the same string in its lower-case form
  pub decoded_back : (kinds : Kinds) (text list : List ℕ) → ShowsDecoded kinds text (ended_line list) → length text ≤ 2048
      → ShowsEncoded kinds list (ended_line (str_to_ascii_lowercase text))
