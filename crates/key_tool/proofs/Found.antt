-- What is found of a text step by step.
use Rattle.std.proofs.Common.{◌≡◌, ℕ, List, Result, Ok, Err, refl, subst}
use Rattle.key_types.specs.Kinds.{Kinds, Vals}
use Rattle.key_text.specs.Answers.{ReadsList}
use Rattle.key_text.specs.declared.reading.LiteralError.{LiteralError}
use Rattle.key_text.specs.declared.reading.LiteralError.TheVariants as literal
use Rattle.key_text.specs.Tokens.{AreHex}
use Rattle.key_text.proofs.Back.{list_one, list_outside}
use Rattle.key_tool.specs.declared.request.KeyFault.{KeyFault}
use Rattle.key_tool.specs.declared.request.KeyFault.TheVariants.{Refused, NoMemory}
use Rattle.key_tool.specs.Answers.{Finds}
use Rattle.key_text.proofs.Hexadecimal.{one_meaning}
use Rattle.key_tool.specs.Shown.{ShowsDecoded, ShowsEncoded, IsListLine, IsStringLine, SpellsComponents}

-- a text that is refused spells no components
refused_not : (kinds : Kinds) (text : List ℕ) (e : LiteralError) → ReadsList kinds text (Err e) → (e ≡ literal.NoMemory → ⊥) → (vs : Vals) → SpellsComponents kinds text vs → ⊥
refused_not kinds text (literal.BadToken at) refused other vs spells = refused.0 vs spells.0
refused_not kinds text (literal.OutOfRange at) outside other vs spells = list_outside kinds vs text at outside spells.0 spells.1
refused_not kinds text literal.NoMemory refused other vs spells = other refl

pub not_spelled : (kinds : Kinds) (bytes text : List ℕ) (e : LiteralError) → bytes ≡ text → ReadsList kinds bytes (Err e) → (e ≡ literal.NoMemory → ⊥) → (vs : Vals) → SpellsComponents kinds text vs → ⊥
not_spelled kinds bytes text e same refused = refused_not kinds text e (subst (λ (b : List ℕ). ReadsList kinds b (Err e)) same refused)

-- what is found for the components that the text spells is found for the text
pub encodes : (kinds : Kinds) (text : List ℕ) (vs : Vals) (result : Result (List ℕ) KeyFault) → SpellsComponents kinds text vs
    → Finds (λ line. line) (IsStringLine kinds vs) result → Finds (λ line. line) (ShowsEncoded kinds text) result
encodes kinds text vs (Ok line) spells found = (vs, spells, found)
encodes kinds text vs (Err Refused) spells none = λ line (ws, other, shown). none line (subst (λ (v : Vals). IsStringLine kinds v line) (list_one kinds ws vs text other.0 spells.0) shown)
encodes kinds text vs (Err NoMemory) spells found = tt

-- what is found for the bytes of which the text is the hexadecimal is found for the text
pub decodes : (kinds : Kinds) (text bytes : List ℕ) (result : Result (List ℕ) KeyFault) → AreHex bytes text
    → Finds (λ line. line) (IsListLine kinds bytes) result → Finds (λ line. line) (ShowsDecoded kinds text) result
decodes kinds text bytes (Ok line) hex found = (bytes, hex, found)
decodes kinds text bytes (Err Refused) hex none = λ line (more, other, shown). none line (subst (λ (b : List ℕ). IsListLine kinds b line) (one_meaning text more bytes other hex) shown)
decodes kinds text bytes (Err NoMemory) hex found = tt
