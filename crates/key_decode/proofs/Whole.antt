-- What is answered for whole values and lists of values.
use Rattle.std.proofs.Common.{◌≡◌, ℕ, ◌≤◌, Bool, true, false, List, length, Ok, Err}
use Rattle.grammar.specs.Reading.{whole}
use Rattle.key_types.specs.Kinds.{Kind, Kinds, Val, Vals, Fits, EachFits, value_of, values_of, AreBytes}
use Rattle.key_types.specs.declared.kinds.Value.{Value}
use Rattle.key_types.specs.declared.kinds.ValueList.{ValueList}
use Rattle.byte_comparable.specs.Encoding.{encoding, key_string}
use Rattle.key_decode.specs.Reading.{value_at, values_at}
use Rattle.key_decode.specs.Shapes.{FitsAsBytes, EachFitsAsBytes, Decodes, DecodesAll, RefusesBytes, refusal_of}
use Rattle.key_decode.proofs.All.{IsRead, AreRead, MayFollow, value_exact, values_exact}
use Rattle.key_decode.proofs.Exact.{Free}
use Rattle.key_decode.proofs.Link.{link, all_link, back, all_back, fit_as_bytes, each_fits_as_bytes}
use Rattle.key_decode.proofs.Answered.{found, only, left_within, refused, refuses}

module _ (t : Kind) (bytes : List ℕ) where
  pub value_found : (v : Val) → AreBytes bytes → whole (value_at t) bytes ≡ Ok v → FitsAsBytes t v × (bytes ≡ encoding t v)
  value_found v h e = found (value_at t) (IsRead t) (λ _. MayFollow t) (value_exact t) (encoding t) (FitsAsBytes t) (Fits t) value_of (link t) (back t) (fit_as_bytes t) bytes v h e

  pub value_only : (v : Val) → AreBytes bytes → whole (value_at t) bytes ≡ Ok v → (Fits t v → ⊥) → (a : Val) → Fits t a → bytes ≡ encoding t a → ⊥
  value_only v h e never = only (value_at t) (IsRead t) (λ _. MayFollow t) (value_exact t) (encoding t) (FitsAsBytes t) (Fits t) value_of (link t) (back t) (fit_as_bytes t) bytes v h e never

  pub value_left : (left : ℕ) → whole (value_at t) bytes ≡ Err left → left ≤ length bytes
  value_left left e = left_within (value_at t) (IsRead t) (λ _. MayFollow t) (value_exact t) (encoding t) (FitsAsBytes t) (Fits t) value_of (link t) (back t) (fit_as_bytes t) bytes left e

  pub value_refused : (left : ℕ) → AreBytes bytes → whole (value_at t) bytes ≡ Err left → Decodes t bytes (Err (refusal_of (length bytes) left))
  value_refused left h e = refused (value_at t) (IsRead t) (λ _. MayFollow t) (value_exact t) (encoding t) (FitsAsBytes t) (Fits t) value_of (link t) (back t) (fit_as_bytes t) bytes left h e

  pub value_refuses : (left : ℕ) → whole (value_at t) bytes ≡ Err left → RefusesBytes {X = Value} (encoding t) (Fits t) bytes (Err (refusal_of (length bytes) left))
  value_refuses left e = refuses (value_at t) (IsRead t) (λ _. MayFollow t) (value_exact t) (encoding t) (FitsAsBytes t) (Fits t) value_of (link t) (back t) (fit_as_bytes t) bytes left e

module _ (ts : Kinds) (bytes : List ℕ) where
  pub values_found : (vs : Vals) → AreBytes bytes → whole (values_at ts) bytes ≡ Ok vs → EachFitsAsBytes ts vs × (bytes ≡ key_string ts vs)
  values_found vs h e = found (values_at ts) (AreRead ts) (Free {A = Vals}) (values_exact ts) (key_string ts) (EachFitsAsBytes ts) (EachFits ts) values_of (all_link ts) (all_back ts) (each_fits_as_bytes ts) bytes vs h e

  pub values_only : (vs : Vals) → AreBytes bytes → whole (values_at ts) bytes ≡ Ok vs → (EachFits ts vs → ⊥) → (a : Vals) → EachFits ts a → bytes ≡ key_string ts a → ⊥
  values_only vs h e never = only (values_at ts) (AreRead ts) (Free {A = Vals}) (values_exact ts) (key_string ts) (EachFitsAsBytes ts) (EachFits ts) values_of (all_link ts) (all_back ts) (each_fits_as_bytes ts) bytes vs h e never

  pub values_left : (left : ℕ) → whole (values_at ts) bytes ≡ Err left → left ≤ length bytes
  values_left left e = left_within (values_at ts) (AreRead ts) (Free {A = Vals}) (values_exact ts) (key_string ts) (EachFitsAsBytes ts) (EachFits ts) values_of (all_link ts) (all_back ts) (each_fits_as_bytes ts) bytes left e

  pub values_refused : (left : ℕ) → AreBytes bytes → whole (values_at ts) bytes ≡ Err left → DecodesAll ts bytes (Err (refusal_of (length bytes) left))
  values_refused left h e = refused (values_at ts) (AreRead ts) (Free {A = Vals}) (values_exact ts) (key_string ts) (EachFitsAsBytes ts) (EachFits ts) values_of (all_link ts) (all_back ts) (each_fits_as_bytes ts) bytes left h e

  pub values_refuses : (left : ℕ) → whole (values_at ts) bytes ≡ Err left → RefusesBytes {X = ValueList} (key_string ts) (EachFits ts) bytes (Err (refusal_of (length bytes) left))
  values_refuses left e = refuses (values_at ts) (AreRead ts) (Free {A = Vals}) (values_exact ts) (key_string ts) (EachFitsAsBytes ts) (EachFits ts) values_of (all_link ts) (all_back ts) (each_fits_as_bytes ts) bytes left e

pub never : (P : Type 0) (b : Bool) → (P → b ≡ true) → b ≡ false → P → ⊥
never P true f h p = cc
never P false f h p = let e = f p in cc
