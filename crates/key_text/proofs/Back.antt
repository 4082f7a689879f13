-- A text is of at most one value, and what is written is read back as the same value.
use Rattle.std.proofs.Common.{◌≡◌, ℕ, List, ◌++◌, Result, Ok, Err, refl, ◌∙◌, ap, subst, inl, inr}
use Rattle.grammar.specs.Reading.{then_read, spaces_at, whole, IsSign, NoSpace}
use Rattle.grammar.proofs.Map.{whole_all}
use Rattle.key_types.specs.declared.kinds.Value.{Value}
use Rattle.key_types.specs.declared.kinds.ValueList.{ValueList}
use Rattle.key_types.specs.Kinds.{Kind, tiny, small, int, big, text, blob, boolean, tuple, reversed, Kinds, end, more, Val, number, values, Vals, none, and, Fits, EachFits, value_of, values_of}
use Rattle.key_types.specs.Literals.{literal, list_literal}
use Rattle.key_text.specs.declared.reading.LiteralError.{LiteralError}
use Rattle.key_text.specs.declared.reading.LiteralError.TheVariants.{BadToken, OutOfRange, NoMemory}
use Rattle.key_text.specs.Grammar.{IsLiteral, AreLiterals, AreFurther, IsList, IsText}
use Rattle.key_text.specs.Outside.{ValuePasses, AnyPasses, FurtherPasses, ItemPasses, ListPasses, TextPasses}
use Rattle.key_text.specs.Answers.{ReadsValue, ReadsList}
use Rattle.key_text.specs.Laws.{IsLiteralRead}
use Rattle.key_text.proofs.Plain.{value_at, list_at, Follow}
use Rattle.key_text.proofs.Lists.{value_text_exact, list_text_exact}
use Rattle.key_text.proofs.Decimals.{value_written, list_written}

same_ok : {A : Type 0} (a b : A) (got : Result A ℕ) → got ≡ Ok a → got ≡ Ok b → a ≡ b
same_ok a b got e h = cc

pub value_one : (t : Kind) (v w : Val) (bs : List ℕ) → IsText (IsLiteral t) v bs → IsText (IsLiteral t) w bs → v ≡ w
value_one t v w bs h k =
    let all : (a : Val) → IsText (IsLiteral t) a bs → whole (then_read spaces_at (λ _. value_at t)) bs ≡ Ok a = λ a is. whole_all (then_read spaces_at (λ _. value_at t)) (IsText (IsLiteral t)) (λ _. Follow t) (value_text_exact t) bs a is in
    same_ok v w (whole (then_read spaces_at (λ _. value_at t)) bs) (all v h) (all w k)

pub list_one : (ts : Kinds) (vs ws : Vals) (bs : List ℕ) → IsText (IsList ts) vs bs → IsText (IsList ts) ws bs → vs ≡ ws
list_one ts vs ws bs h k =
    let all : (a : Vals) → IsText (IsList ts) a bs → whole (then_read spaces_at (λ _. list_at ts)) bs ≡ Ok a = λ a is. whole_all (then_read spaces_at (λ _. list_at ts)) (IsText (IsList ts)) (λ _. NoSpace) (list_text_exact ts) bs a is in
    same_ok vs ws (whole (then_read spaces_at (λ _. list_at ts)) bs) (all vs h) (all ws k)

-- ---- where a number passes its type, the text is of a value that doesn't fit

abbrev Misfit : (Val → List ℕ → Type 0) → (Val → Type 0) → List ℕ → Type 0
Misfit Is Fit bs = (v : Val) × Is v bs × (Fit v → ⊥)

abbrev Misfits : (Vals → List ℕ → Type 0) → (Vals → Type 0) → List ℕ → Type 0
Misfits Is Fit bs = (vs : Vals) × Is vs bs × (Fit vs → ⊥)

item_misfits : (t : Kind) (ts : Kinds) (Here Further : List ℕ → ℕ → Type 0) → ((bs : List ℕ) (at : ℕ) → Here bs at → Misfit (IsLiteral t) (Fits t) bs) → ((bs : List ℕ) (at : ℕ) → Further bs at → Misfits (AreFurther ts) (EachFits ts) bs)
    → (bs : List ℕ) (at : ℕ) → ItemPasses t Here (AreFurther ts) Further bs at → Misfits (AreLiterals (more t ts)) (EachFits (more t ts)) bs
item_misfits t ts Here Further here further bs at (first, rest, e, inl (p, vs, behind)) = let m = here first at p in (and m.0 vs, (first, rest, m.1, behind, e), λ h. m.2 h.0)
item_misfits t ts Here Further here further bs at (first, rest, e, inr (v, k, lit, fit, p, same)) = let m = further rest k p in (and v m.0, (first, rest, lit, m.1, e), λ h. m.2 h.1)

comma_misfits : (t : Kind) (ts : Kinds) (left rest bs : List ℕ) → IsSign 44 tt left → bs ≡ left ++ rest → Misfits (AreLiterals (more t ts)) (EachFits (more t ts)) rest → Misfits (AreFurther (more t ts)) (EachFits (more t ts)) bs
comma_misfits t ts left rest bs sign e (none, is, n) = absurd is
comma_misfits t ts left rest bs sign e (and v vs, (first, behind, lit, further, f), n) = (and v vs, (left, first, behind, sign, lit, further, e ∙ ap (λ l. left ++ l) f), n)

mutual
  misfit : (t : Kind) (bs : List ℕ) (at : ℕ) → ValuePasses t bs at → Misfit (IsLiteral t) (Fits t) bs
  misfit tiny bs at (z, is, n, e) = (number z, is, n)
  misfit small bs at (z, is, n, e) = (number z, is, n)
  misfit int bs at (z, is, n, e) = (number z, is, n)
  misfit big bs at (z, is, n, e) = (number z, is, n)
  misfit text bs at (z, is, n, e) = (number z, is, n)
  misfit blob bs at (z, is, n, e) = (number z, is, n)
  misfit boolean bs at (z, is, n, e) = (number z, is, n)
  misfit (tuple ts) bs at (left, rest, k, sign, (inside, right, p, last, f), e, same) =
      let m = misfits ts inside k p in
      (values m.0, (left, inside, right, sign, m.1, last, e ∙ ap (λ l. left ++ l) f), m.2)
  misfit (reversed t) bs at p = misfit t bs at p

  misfits : (ts : Kinds) (bs : List ℕ) (at : ℕ) → AnyPasses ts bs at → Misfits (AreLiterals ts) (EachFits ts) bs
  misfits end bs at p = absurd p
  misfits (more t ts) bs at p = item_misfits t ts (ValuePasses t) (FurtherPasses ts) (misfit t) (further_misfits ts) bs at p

  further_misfits : (ts : Kinds) (bs : List ℕ) (at : ℕ) → FurtherPasses ts bs at → Misfits (AreFurther ts) (EachFits ts) bs
  further_misfits end bs at p = absurd p
  further_misfits (more t ts) bs at (left, rest, k, sign, p, e, same) = comma_misfits t ts left rest bs sign e (item_misfits t ts (ValuePasses t) (FurtherPasses ts) (misfit t) (further_misfits ts) rest k p)

list_misfits : (ts : Kinds) (bs : List ℕ) (at : ℕ) → ListPasses ts bs at → Misfits (IsList ts) (EachFits ts) bs
list_misfits ts bs at (left, rest, k, sign, (inside, right, p, last, f), e, same) =
    let m = misfits ts inside k p in
    (m.0, (left, inside, right, sign, m.1, last, e ∙ ap (λ l. left ++ l) f), m.2)

pub value_outside : (t : Kind) (v : Val) (bs : List ℕ) (at : ℕ) → TextPasses (ValuePasses t) bs at → IsText (IsLiteral t) v bs → Fits t v → ⊥
value_outside t v bs at (n, rest, k, e, p, same) is h =
    let m = misfit t rest k p in
    m.2 (subst (Fits t) (value_one t v m.0 bs is (n, rest, e, m.1)) h)

pub list_outside : (ts : Kinds) (vs : Vals) (bs : List ℕ) (at : ℕ) → TextPasses (ListPasses ts) bs at → IsText (IsList ts) vs bs → EachFits ts vs → ⊥
list_outside ts vs bs at (n, rest, k, e, p, same) is h =
    let m = list_misfits ts rest k p in
    m.2 (subst (EachFits ts) (list_one ts vs m.0 bs is (n, rest, e, m.1)) h)

-- ---- what is written

pub value_text : (t : Kind) (v : Val) → Fits t v → IsText (IsLiteral t) v (literal t v)
value_text t v h = (0, literal t v, refl, value_written t v h)

pub list_text : (ts : Kinds) (vs : Vals) → EachFits ts vs → IsText (IsList ts) vs (list_literal ts vs)
list_text ts vs h = (0, list_literal ts vs, refl, list_written ts vs h)

pub value_back : (t : Kind) (v : Val) (result : Result Value LiteralError) → Fits t v → ReadsValue t (literal t v) result → IsLiteralRead value_of v result
value_back t v (Ok x) h p = value_one t (value_of x) v (literal t v) p.0 (value_text t v h)
value_back t v (Err (BadToken at)) h p = p.0 v (value_text t v h)
value_back t v (Err (OutOfRange at)) h p = value_outside t v (literal t v) at p (value_text t v h) h
value_back t v (Err NoMemory) h p = tt

pub list_back : (ts : Kinds) (vs : Vals) (result : Result ValueList LiteralError) → EachFits ts vs → ReadsList ts (list_literal ts vs) result → IsLiteralRead values_of vs result
list_back ts vs (Ok x) h p = list_one ts (values_of x) vs (list_literal ts vs) p.0 (list_text ts vs h)
list_back ts vs (Err (BadToken at)) h p = p.0 vs (list_text ts vs h)
list_back ts vs (Err (OutOfRange at)) h p = list_outside ts vs (list_literal ts vs) at p (list_text ts vs h) h
list_back ts vs (Err NoMemory) h p = tt
