-- The laws of the lines that are shown.
use Rattle.std.proofs.Common.{◌≡◌, ℕ, ◌≤◌, List, [], ◌∷◌, ◌++◌, length, Ok, refl, sym, ap, subst, ◌∙◌, arith}
use Rattle.std.proofs.lemmas.List.{append-nil, append_cancel_right}
use Rattle.std.specs.Str.{str_to_ascii_lowercase}
use Rattle.key_types.specs.Kinds.{Kinds, end, Vals, none, AreBytes, EachFits}
use Rattle.key_types.specs.Literals.{hex_digits, list_literal}
use Rattle.byte_comparable.specs.Encoding.{components, key_string}
use Rattle.byte_comparable.specs.Strings.{string_of}
use Rattle.byte_comparable.proofs.Compare.{bytes_both}
use Rattle.byte_comparable.proofs.Compose.{all_are_bytes}
use Rattle.byte_comparable.proofs.Kept.{whole}
use Rattle.byte_comparable.proofs.Leads.{leads}
use Rattle.key_decode.proofs.Known.{fitting, taken}
use Rattle.key_text.specs.Grammar.{IsList, IsText}
use Rattle.key_text.proofs.Back.{list_one, list_text}
use Rattle.key_tool.specs.Shown.{ShowsDecoded, ShowsEncoded, SpellsComponents, ended_line}
use Rattle.key_tool.specs.Laws.{KeyTexts}
use Rattle.key_text.proofs.Hexadecimal.{in_lower_case, one_meaning, twice, written}

-- ---- at most one

same_line : (a b : List ℕ) → ended_line a ≡ ended_line b → a ≡ b
same_line a b e = append_cancel_right a b (10 ∷ []) e

same_ok : (kinds : Kinds) (vs ws : Vals) (a b : List ℕ) → vs ≡ ws → string_of kinds vs ≡ Ok a → string_of kinds ws ≡ Ok b → a ≡ b
same_ok kinds vs ws a b e h k = let both : string_of kinds vs ≡ string_of kinds ws = ap (string_of kinds) e in cc

one_encoded : (kinds : Kinds) (text a b : List ℕ) → ShowsEncoded kinds text a → ShowsEncoded kinds text b → a ≡ b
one_encoded kinds text a b (vs, sp, (s, e, la)) (ws, sq, (t, f, lb)) =
    la ∙ ap (λ l. ended_line (hex_digits l)) (same_ok kinds vs ws s t (list_one kinds vs ws text sp.0 sq.0) e f) ∙ sym lb

-- components that fit and have the same string are the same
same_components : (kinds : Kinds) (vs ws : Vals) → EachFits kinds vs → EachFits kinds ws → key_string kinds vs ≡ key_string kinds ws → vs ≡ ws
same_components kinds vs ws f g e =
    (whole kinds end vs none ws none [] f tt g tt (ap (λ l. l ++ key_string end none) (sym e) ∙ sym (append-nil (key_string kinds vs ++ key_string end none)))).0

one_decoded : (kinds : Kinds) (text a b : List ℕ) → ShowsDecoded kinds text a → ShowsDecoded kinds text b → a ≡ b
one_decoded kinds text a b (s, h, (vs, (f, is), la)) (t, k, (ws, (g, js), lb)) =
    la ∙ ap (λ c. ended_line (list_literal kinds c)) (same_components kinds vs ws f g (sym is ∙ one_meaning text s t h k ∙ js)) ∙ sym lb

-- ---- there and back

string_bytes : (kinds : Kinds) (vs : Vals) → EachFits kinds vs → AreBytes (key_string kinds vs)
string_bytes kinds vs f = bytes_both (components kinds vs) (0x38 ∷ []) (all_are_bytes kinds vs (leads kinds vs f)) (omega arith, tt)

literal_encoded : (kinds : Kinds) (vs : Vals) (string : List ℕ) → EachFits kinds vs → string_of kinds vs ≡ Ok string → ShowsEncoded kinds (list_literal kinds vs) (ended_line (hex_digits string))
literal_encoded kinds vs string f e = (vs, (list_text kinds vs f, f), (string, e, refl))

string_decoded : (kinds : Kinds) (vs : Vals) (string : List ℕ) → EachFits kinds vs → string_of kinds vs ≡ Ok string → ShowsDecoded kinds (hex_digits string) (ended_line (list_literal kinds vs))
string_decoded kinds vs string f e =
    let is = sym (taken kinds string vs e).1 in
    (string, written string (subst AreBytes (sym is) (string_bytes kinds vs f)), (vs, (f, is), refl))

encoded_back : (kinds : Kinds) (text digits : List ℕ) → ShowsEncoded kinds text (ended_line digits)
    → (vs : Vals) × SpellsComponents kinds text vs × ShowsDecoded kinds digits (ended_line (list_literal kinds vs))
encoded_back kinds text digits (vs, spells, (string, e, l)) =
    let back = string_decoded kinds vs string spells.1 e in
    (vs, spells, subst (λ (d : List ℕ). ShowsDecoded kinds d (ended_line (list_literal kinds vs))) (sym (same_line digits (hex_digits string) l)) back)

decoded_back : (kinds : Kinds) (text list : List ℕ) → ShowsDecoded kinds text (ended_line list) → length text ≤ 2048 → ShowsEncoded kinds list (ended_line (str_to_ascii_lowercase text))
decoded_back kinds text list (bytes, h, (vs, (f, is), l)) short =
    let both = twice bytes text h in
    let few : length bytes ≤ 1024 = omega (arith, both) in
    let has : string_of kinds vs ≡ Ok bytes = fitting kinds vs f (subst (λ (b : List ℕ). length b ≤ 1024) is few) ∙ ap Ok (sym is) in
    let same = same_line list (list_literal kinds vs) l in
    (vs, (subst (λ (w : List ℕ). IsText (IsList kinds) vs w) (sym same) (list_text kinds vs f), f), (bytes, has, ap ended_line (sym (in_lower_case bytes text h))))

pub key_texts : KeyTexts
key_texts = record {
  one_encoded = one_encoded;
  one_decoded = one_decoded;
  literal_encoded = literal_encoded;
  string_decoded = string_decoded;
  encoded_back = encoded_back;
  decoded_back = decoded_back;
}
