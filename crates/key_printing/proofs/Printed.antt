-- What is printed of what is read.
use Rattle.std.proofs.Common.{◌≡◌, ℕ, Bool, List, [], ◌∷◌, ◌++◌, Result, Ok, Err, Bor, refl, sym, ◌∙◌, ap, subst}
use Rattle.std.specs.Prelude.{⊤, not}
use Rattle.std.proofs.lemmas.List.{append-nil}
use Rattle.grammar.specs.Code.{StopsAs, GivesOnto}
use Rattle.grammar.specs.Reading.{bind, then_read, map_read, mapped, given_at as sign}
use Rattle.grammar.specs.declared.stop.Stop.{Stop}
use Rattle.grammar.specs.declared.stop.Stop.TheVariants.{Memory, At}
use Rattle.key_types.specs.Kinds.{Kind, reversed, Kinds, more, Val, Vals, and, EachFits}
use Rattle.key_types.specs.Literals.{literal, literals, list_literal}
use Rattle.byte_comparable.specs.Encoding.{key_string}
use Rattle.key_decode.specs.Reading.{seen, value_at, values_at}
use Rattle.key_decode.specs.Strings.{IsStringOf}
use Rattle.key_decode.proofs.Flipped.{turned_ok, turned_err}
use Rattle.key_decode.proofs.Known.{read_key, taken}
use Rattle.key_text.specs.Written.{further_literals}
use Rattle.key_text.proofs.Listed.{listed}
use Rattle.key_printing.specs.Texts.{PutsText}

-- what was read has its text behind the text before
abbrev pub PrintsSo : {A X : Type 0} → (A → List ℕ) → (X → List ℕ) → List ℕ → List ℕ → Result X Stop → Result (A × List ℕ) ℕ → Type 0
PrintsSo spelled view before after = GivesOnto spelled before after (λ a x. (a, view x))

-- the complements
pub turned_prints : (kind : Kind) (t u : Bool) (bs before after : List ℕ) (r : Result (Bor (List ℕ)) Stop) → u ≡ not t
    → PrintsSo (literal kind) (λ x. seen u x.now) before after r (value_at kind (seen u bs)) → PrintsSo (literal (reversed kind)) (λ x. seen t x.now) before after r (value_at (reversed kind) (seen t bs))
turned_prints kind t u bs before after (Ok x) e (v, is, text) = (v, turned_ok {A = Val} {X = Val} (λ z. z) (λ z. []) (value_at kind) t u e bs v x.now is, text)
turned_prints kind t u bs before after (Err Memory) e h = tt
turned_prints kind t u bs before after (Err (At left)) e h = turned_err {A = Val} {X = Val} (λ z. z) (λ z. []) (value_at kind) t u e bs left h

-- ---- a component, and those behind it

module _ (t : Kind) (ts : Kinds) (bs : List ℕ) where
  abbrev behind_sign : Result (⊤ × List ℕ) ℕ → Result (Vals × List ℕ) ℕ
  behind_sign r = bind r (λ _. then_read (value_at t) (λ v. map_read (and v) (values_at ts)))

  abbrev behind_value : Result (Val × List ℕ) ℕ → Result (Vals × List ℕ) ℕ
  behind_value r = bind r (λ v. map_read (and v) (values_at ts))

  module _ (behind : List ℕ) (separator : sign (0x40 ∷ []) bs ≡ Ok (tt, behind)) where
    pub more_prints : {X : Type 0} (view : X → List ℕ) (v : Val) (rest before mid after : List ℕ) (r : Result X Stop) → value_at t behind ≡ Ok (v, rest) → mid ≡ before ++ literal t v
        → PrintsSo (further_literals ts) view mid after r (values_at ts rest) → PrintsSo (literals (more t ts)) view before after r (values_at (more t ts) bs)
    more_prints view v rest before mid after (Ok x) is text (vs, read, further) =
        (and v vs, ap behind_sign separator ∙ ap behind_value is ∙ ap (mapped (and v)) read, further ∙ listed before mid t ts (more t ts) v vs (and v vs) text refl refl)
    more_prints view v rest before mid after (Err Memory) is text h = tt
    more_prints view v rest before mid after (Err (At left)) is text h = ap behind_sign separator ∙ ap behind_value is ∙ ap (mapped (and v)) h

-- ---- whole strings

module _ (ts : Kinds) (string : List ℕ) where
  read_string : (vs : Vals) → EachFits ts vs → string ≡ key_string ts vs → values_at ts string ≡ Ok (vs, [])
  read_string vs fits is = ap (values_at ts) (is ∙ sym (append-nil (key_string ts vs))) ∙ read_key ts vs [] fits

  same_read : (vs ws : Vals) (xs ys : List ℕ) → values_at ts string ≡ Ok (vs, xs) → values_at ts string ≡ Ok (ws, ys) → vs ≡ ws
  same_read vs ws xs ys first second =
      let same : ◌≡◌ {A = Result (Vals × List ℕ) ℕ} (Ok (vs, xs)) (Ok (ws, ys)) = sym first ∙ second in
      let pairs : ◌≡◌ {A = Vals × List ℕ} (vs, xs) (ws, ys) = cc in
      ap (λ q. q.0) pairs

  -- the components that are printed are those of the string
  pub string_printed : (vs : Vals) (rest before after : List ℕ) → IsStringOf ts string → values_at ts string ≡ Ok (vs, rest) → after ≡ before ++ list_literal ts vs → PutsText ts string before after
  string_printed vs rest before after (ws, is) read text =
      let p = taken ts string ws is in
      let same : vs ≡ ws = same_read vs ws rest [] read (read_string ws p.0 (sym p.1)) in
      (list_literal ts vs, (vs, subst (EachFits ts) (sym same) p.0, sym p.1 ∙ ap (key_string ts) (sym same), refl), text)

  -- and a string is always read
  pub only_memory : (e : Stop) → IsStringOf ts string → StopsAs e (values_at ts string) → e ≡ Memory
  only_memory Memory is h = refl
  only_memory (At left) (ws, is) h =
      let p = taken ts string ws is in
      let read = read_string ws p.0 (sym p.1) in
      cc
