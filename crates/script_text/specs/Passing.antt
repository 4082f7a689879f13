-- Which number of a line passes its type first. This project's own.
use Rattle.std.specs.Prelude.{◌≡◌, ◌⊎◌, ℕ, ◌+◌, List, ◌++◌, length, codes, Option}
use Rattle.key_types.specs.declared.schema.ValueType.{ValueType}
use Rattle.key_types.specs.Kinds.{Val, Vals}
use Rattle.key_text.specs.Grammar.{IsList}
use Rattle.key_text.specs.Outside.{AllNumbersFit, ListPasses, TextPasses}
use Rattle.key_types.specs.Columns.{Columns}
use Rattle.script_text.specs.Grammar.{IsSpacedWord, IsWithinText, IsTypeOf, IsSet}

-- a key with a value of this type, with numbers of any size: the first number that passes its type is among the components of the partition, or else of the row
abbrev pub KeyPasses : Columns → ValueType → List ℕ → ℕ → Type 0
KeyPasses s t bs at =
    (list : List ℕ) × (within : List ℕ) × (bs ≡ list ++ within)
    × ((ListPasses s.partition list at × (cs : Option Vals) × IsWithinText s cs within × IsTypeOf s cs t)
    ⊎ ((vs : Vals) × (k : ℕ) × IsList s.partition vs list × AllNumbersFit s.partition vs × ListPasses s.clustering within k × (t ≡ s.value) × (at ≡ length list + k)))

-- of a line that puts
abbrev pub PutPasses : Columns → List ℕ → ℕ → Type 0
PutPasses s bs at =
    (t : ValueType) × (word : List ℕ) × (key : List ℕ) × (set : List ℕ) × (k : ℕ) × (v : Val)
    × IsSpacedWord (codes "put") word × KeyPasses s t key k × IsSet t v set × (bs ≡ word ++ (key ++ set)) × (at ≡ length word + k)

-- of a line that asks for a key
abbrev pub GetPasses : Columns → List ℕ → ℕ → Type 0
GetPasses s bs at =
    (t : ValueType) × (word : List ℕ) × (key : List ℕ) × (k : ℕ) × IsSpacedWord (codes "get") word × KeyPasses s t key k × (bs ≡ word ++ key) × (at ≡ length word + k)

-- of a line, without spaces before
abbrev pub CommandPasses : Columns → List ℕ → ℕ → Type 0
CommandPasses s bs at = PutPasses s bs at ⊎ GetPasses s bs at

-- spaces may stand before it
abbrev pub LinePasses : Columns → List ℕ → ℕ → Type 0
LinePasses s = TextPasses (CommandPasses s)
