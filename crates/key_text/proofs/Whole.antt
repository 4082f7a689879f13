-- What is answered for whole values and lists of components.
use Rattle.std.proofs.Common.{◌≡◌, ℕ, ◌-◌, ◌≤◌, true, List, length, Some, None, Ok, Err}
use Rattle.std.specs.Str.{is_utf8}
use Rattle.grammar.specs.Exact.{Longest}
use Rattle.grammar.specs.Reading.{then_read, spaces_at, whole, NoSpace}
use Rattle.key_types.specs.Kinds.{Kind, Kinds, Val, Vals, Fits, EachFits, AreBytes}
use Rattle.key_text.specs.Grammar.{IsLiteral, IsList, IsText}
use Rattle.key_text.specs.Outside.{NumbersFit, AllNumbersFit, ValuePasses, ListPasses, TextPasses}
use Rattle.key_text.specs.Marking.{marked_at, marked_list}
use Rattle.key_text.proofs.Plain.{value_at, list_at, Follow}
use Rattle.key_text.proofs.Lists.{value_text_exact, list_text_exact}
use Rattle.key_text.proofs.Tracked.{value_tracked, list_tracked}
use Rattle.key_text.proofs.Answered as answered
use Rattle.key_text.proofs.Utf.{literal_fits, list_fits, whole_within, whole_bytes}

module _ (t : Kind) (text : List ℕ) where
  pub value_read : (v : Val) → whole (then_read spaces_at (λ _. marked_at t None)) text ≡ Ok (v, None) → is_utf8 text ≡ true → AreBytes text → IsText (IsLiteral t) v text × Fits t v
  value_read v h u b =
      let p = answered.read (IsLiteral t) (ValuePasses t) (NumbersFit t) (λ _. Follow t) (marked_at t) (value_at t) (value_tracked t) (value_text_exact t) text v h in
      let is = p.0 in
      (is, literal_fits t v is.1 is.3 (whole_within is.0 is.1 text is.2 u) (whole_bytes is.0 is.1 text is.2 b) p.1)

  pub value_outside : (v : Val) (left : ℕ) → whole (then_read spaces_at (λ _. marked_at t None)) text ≡ Ok (v, Some left) → (left ≤ length text) × TextPasses (ValuePasses t) text (length text - left)
  value_outside v left h = answered.out_of_range (IsLiteral t) (ValuePasses t) (NumbersFit t) (λ _. Follow t) (marked_at t) (value_at t) (value_tracked t) (value_text_exact t) text v left h

  pub value_refused : (left : ℕ) → whole (then_read spaces_at (λ _. marked_at t None)) text ≡ Err left → ((a : Val) → IsText (IsLiteral t) a text → ⊥) × Longest (IsText (IsLiteral t)) text (length text - left)
  value_refused left h = answered.refused (IsLiteral t) (ValuePasses t) (NumbersFit t) (λ _. Follow t) (marked_at t) (value_at t) (value_tracked t) (value_text_exact t) text left h

  pub value_left : (left : ℕ) → whole (then_read spaces_at (λ _. marked_at t None)) text ≡ Err left → left ≤ length text
  value_left left h = answered.left_within (IsLiteral t) (ValuePasses t) (NumbersFit t) (λ _. Follow t) (marked_at t) (value_at t) (value_tracked t) (value_text_exact t) text left h

module _ (ts : Kinds) (text : List ℕ) where
  pub list_read : (vs : Vals) → whole (then_read spaces_at (λ _. marked_list ts None)) text ≡ Ok (vs, None) → is_utf8 text ≡ true → AreBytes text → IsText (IsList ts) vs text × EachFits ts vs
  list_read vs h u b =
      let p = answered.read (IsList ts) (ListPasses ts) (AllNumbersFit ts) (λ _. NoSpace) (marked_list ts) (list_at ts) (list_tracked ts) (list_text_exact ts) text vs h in
      let is = p.0 in
      (is, list_fits ts vs is.1 is.3 (whole_within is.0 is.1 text is.2 u) (whole_bytes is.0 is.1 text is.2 b) p.1)

  pub list_outside : (vs : Vals) (left : ℕ) → whole (then_read spaces_at (λ _. marked_list ts None)) text ≡ Ok (vs, Some left) → (left ≤ length text) × TextPasses (ListPasses ts) text (length text - left)
  list_outside vs left h = answered.out_of_range (IsList ts) (ListPasses ts) (AllNumbersFit ts) (λ _. NoSpace) (marked_list ts) (list_at ts) (list_tracked ts) (list_text_exact ts) text vs left h

  pub list_refused : (left : ℕ) → whole (then_read spaces_at (λ _. marked_list ts None)) text ≡ Err left → ((a : Vals) → IsText (IsList ts) a text → ⊥) × Longest (IsText (IsList ts)) text (length text - left)
  list_refused left h = answered.refused (IsList ts) (ListPasses ts) (AllNumbersFit ts) (λ _. NoSpace) (marked_list ts) (list_at ts) (list_tracked ts) (list_text_exact ts) text left h

  pub list_left : (left : ℕ) → whole (then_read spaces_at (λ _. marked_list ts None)) text ≡ Err left → left ≤ length text
  list_left left h = answered.left_within (IsList ts) (ListPasses ts) (AllNumbersFit ts) (λ _. NoSpace) (marked_list ts) (list_at ts) (list_tracked ts) (list_text_exact ts) text left h
