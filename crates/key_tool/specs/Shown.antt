-- What is shown of the components of a key and of their string. This project's own.
use Rattle.std.specs.Prelude.{◌≡◌, ℕ, List, [], ◌∷◌, ◌++◌, Ok}
use Rattle.key_types.specs.declared.schema.Schema.{Schema}
use Rattle.key_types.specs.Kinds.{Kinds, Vals, EachFits, kinds_of}
use Rattle.key_types.specs.Literals.{hex_digits, list_literal}
use Rattle.byte_comparable.specs.Encoding.{key_string}
use Rattle.byte_comparable.specs.Strings.{string_of}
use Rattle.key_text.specs.Grammar.{IsList, IsText}
use Rattle.key_text.specs.Tokens.{AreHex}
use Rattle.key_tool.specs.declared.request.KeyPart.{KeyPart}
use Rattle.key_tool.specs.declared.request.KeyPart.TheVariants.{Partition, Clustering}
use Rattle.key_tool.specs.declared.request.KeyWay.{KeyWay}
use Rattle.key_tool.specs.declared.request.KeyWay.TheVariants.{Encode, Decode}

-- the types of the components of a part of the key
abbrev pub kinds_in : KeyPart → Schema → Kinds
kinds_in Partition schema = kinds_of schema.partition
kinds_in Clustering schema = kinds_of schema.clustering

-- the bytes, and a line feed
abbrev pub ended_line : List ℕ → List ℕ
ended_line bytes = bytes ++ 10 ∷ []

-- the text is a literal of these components, each of which fits its type
abbrev pub SpellsComponents : Kinds → List ℕ → Vals → Type 0
SpellsComponents kinds text components = IsText (IsList kinds) components text × EachFits kinds components

-- the components have a string of at most 1,024 bytes, and the line is this string in lower hexadecimal
abbrev pub IsStringLine : Kinds → Vals → List ℕ → Type 0
IsStringLine kinds components line = (string : List ℕ) × (string_of kinds components ≡ Ok string) × (line ≡ ended_line (hex_digits string))

-- the text spells components, and the line is that of their string
abbrev pub ShowsEncoded : Kinds → List ℕ → List ℕ → Type 0
ShowsEncoded kinds text line = (components : Vals) × SpellsComponents kinds text components × IsStringLine kinds components line

-- the bytes are the string, of any length, of these components, each of which fits its type
abbrev pub HasString : Kinds → List ℕ → Vals → Type 0
HasString kinds bytes components = EachFits kinds components × (bytes ≡ key_string kinds components)

-- the bytes are the string of some components, and the line is the literal of these
abbrev pub IsListLine : Kinds → List ℕ → List ℕ → Type 0
IsListLine kinds bytes line = (components : Vals) × HasString kinds bytes components × (line ≡ ended_line (list_literal kinds components))

-- the text is bytes in hexadecimal, with digits of both cases, and the line is that of the bytes' components
abbrev pub ShowsDecoded : Kinds → List ℕ → List ℕ → Type 0
ShowsDecoded kinds text line = (bytes : List ℕ) × AreHex bytes text × IsListLine kinds bytes line

-- the line that is shown of the text in this way
abbrev pub ShowsLine : KeyWay → Kinds → List ℕ → List ℕ → Type 0
ShowsLine Encode = ShowsEncoded
ShowsLine Decode = ShowsDecoded
