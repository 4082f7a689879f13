-- What is answered for bytes that are read to their end, and for bytes that aren't.
use Rattle.std.proofs.Common.{◌≡◌, ℕ, suc, ◌+◌, ◌-◌, ◌<◌, ◌≤◌, ◌==◌, Bool, true, false, List, [], ◌∷◌, ◌++◌, length, take, Result, Ok, Err, arith, refl, sym, ◌∙◌, ap, subst, length-append, add-one}
use Rattle.std.specs.Prelude.{if◌then◌else◌}
use Rattle.std.proofs.lemmas.List.{append-nil}
use Rattle.std.proofs.lemmas.Bool.Decides.{nat_tests}
use Rattle.grammar.specs.Exact.{Read, Exact, Viable}
use Rattle.key_types.specs.Kinds.{AreBytes}
use Rattle.grammar.specs.Reading.{whole, all_of}
use Rattle.grammar.proofs.Octets.{bytes_both}
use Rattle.grammar.proofs.Map.{whole_found, whole_all, longest}
use Rattle.key_decode.specs.declared.decoding.DecodeError.TheVariants.{Truncated, BadByte}
use Rattle.key_decode.specs.Shapes.{IsShape, BeginsShape, DecodesBy, RefusesBytes, refusal_of}
use Rattle.key_decode.proofs.Link.{bytes_front, bytes_behind}

take_front : (xs ys : List ℕ) → take (length xs) (xs ++ ys) ≡ xs
take_front [] ys = refl
take_front (x ∷ xs) ys = ap (λ l. x ∷ l) (take_front xs ys)

take_more : (xs : List ℕ) (b : ℕ) (ys : List ℕ) → take (suc (length xs)) (xs ++ b ∷ ys) ≡ xs ++ b ∷ []
take_more [] b ys = refl
take_more (x ∷ xs) b ys = ap (λ l. x ∷ l) (take_more xs b ys)

module _ {A X : Type 0} (r : Read A) (Is : A → List ℕ → Type 0) (follow : A → ℕ → Type 0) (one : Exact r Is follow)
    (spelled : A → List ℕ) (AsBytes Fit : A → Type 0) (view : X → A)
    (link : (a : A) (bs : List ℕ) → Is a bs → AreBytes bs → AsBytes a × (bs ≡ spelled a))
    (back : (a : A) → AsBytes a → Is a (spelled a) × AreBytes (spelled a))
    (fit : (a : A) → Fit a → AsBytes a) where
  pub found : (text : List ℕ) (a : A) → AreBytes text → whole r text ≡ Ok a → AsBytes a × (text ≡ spelled a)
  found text a h e = link a text (whole_found r Is follow one text a e) h

  all : (text : List ℕ) (a : A) → AsBytes a → text ≡ spelled a → whole r text ≡ Ok a
  all text a f e = whole_all r Is follow one text a (subst (Is a) (sym e) (back a f).0)

  no_shape : (text : List ℕ) (left : ℕ) → whole r text ≡ Err left → IsShape spelled AsBytes text → ⊥
  no_shape text left e s = clash s.0 (whole r text) (all text s.0 s.1 s.2) e
    where
      clash : (a : A) (got : Result A ℕ) → got ≡ Ok a → got ≡ Err left → ⊥
      clash a got f g = cc

  -- a shape of a value that doesn't fit is the encoding of none that does
  pub only : (text : List ℕ) (a : A) → AreBytes text → whole r text ≡ Ok a → (Fit a → ⊥) → (b : A) → Fit b → text ≡ spelled b → ⊥
  only text a h e never b f g = never (subst Fit (same b (whole r text) (all text b (fit b f) g) e) f)
    where
      same : (b : A) (got : Result A ℕ) → got ≡ Ok b → got ≡ Ok a → b ≡ a
      same b got f g = cc

  pub none_fits : (text : List ℕ) (left : ℕ) → whole r text ≡ Err left → (b : A) → Fit b → text ≡ spelled b → ⊥
  none_fits text left e b f g = no_shape text left e (b, fit b f, g)

  left_by : (got : Result (A × List ℕ) ℕ) (text : List ℕ) (left : ℕ) → r text ≡ got → all_of got ≡ Err left → left ≤ length text
  left_by (Ok (a, [])) text left e h = cc
  left_by (Ok (a, b ∷ bs)) text left e h =
      let p = one.found text a (b ∷ bs) e in
      let l : left ≡ length (b ∷ bs) = cc in
      let both : length text ≡ length p.0 + length (b ∷ bs) = ap length p.1 ∙ length-append p.0 (b ∷ bs) in
      omega arith
  left_by (Err n) text left e h =
      let s = one.stops text n e in
      let same : n ≡ left = cc in
      let both : length text ≡ length s.front + length s.rest = ap length s.parts ∙ length-append s.front s.rest in
      let c = s.count in
      omega arith

  pub left_within : (text : List ℕ) (left : ℕ) → whole r text ≡ Err left → left ≤ length text
  left_within text left h = left_by (r text) text left refl h

  abbrev Begins : List ℕ → Type 0
  Begins = BeginsShape spelled AsBytes

  begins : (front : List ℕ) → AreBytes front → Viable Is front → Begins front
  begins front h v = let p = link v.1 (front ++ v.0) v.2 (bytes_both front v.0 h v.3) in (v.0, (v.1, p.0, p.1))

  viable : (front : List ℕ) → Begins front → Viable Is front
  viable front s =
      let p = back s.1.0 s.1.1 in
      (s.0, s.1.0, subst (Is s.1.0) (sym s.1.2) p.0, bytes_behind front s.0 (subst AreBytes (sym s.1.2) p.1))

  none_left : (xs : List ℕ) → length xs ≡ 0 → xs ≡ []
  none_left [] h = refl
  none_left (x ∷ xs) h = absurd (omega arith)

  truncated : (text : List ℕ) → AreBytes text → whole r text ≡ Err 0 → Begins text × (IsShape spelled AsBytes text → ⊥)
  truncated text h e =
      let l = longest r Is follow one text 0 e in
      let both : length text ≡ length l.front + length l.rest = ap length l.parts ∙ length-append l.front l.rest in
      let count = l.count in
      let same : text ≡ l.front = l.parts ∙ ap (λ x. l.front ++ x) (none_left l.rest (omega arith)) ∙ append-nil l.front in
      (subst Begins (sym same) (begins l.front (subst AreBytes same h) l.goes_on), no_shape text 0 e)

  abbrev BadAt : List ℕ → ℕ → Type 0
  BadAt text at = (at < length text) × Begins (take at text) × (Begins (take (at + 1) text) → ⊥)

  bad_by : (rest : List ℕ) (text front : List ℕ) (at : ℕ) → AreBytes text → text ≡ front ++ rest → length front ≡ at → at < length text → Viable Is front
      → ((b : ℕ) (bs : List ℕ) → rest ≡ b ∷ bs → Viable Is (front ++ b ∷ []) → ⊥) → BadAt text at
  bad_by [] text front at h e c w v never =
      let both : length text ≡ length front = ap length (e ∙ append-nil front) in absurd (omega arith)
  bad_by (b ∷ bs) text front at h e c w v never =
      let inside : AreBytes (front ++ b ∷ bs) = subst AreBytes e h in
      let before : take at text ≡ front = ap (take at) e ∙ ap (λ n. take n (front ++ b ∷ bs)) (sym c) ∙ take_front front (b ∷ bs) in
      let after : take (at + 1) text ≡ front ++ b ∷ [] =
      ap (take (at + 1)) e ∙ ap (λ n. take (n + 1) (front ++ b ∷ bs)) (sym c) ∙ ap (λ n. take n (front ++ b ∷ bs)) (add-one (length front)) ∙ take_more front b bs in
      (w, subst Begins (sym before) (begins front (bytes_front front (b ∷ bs) inside) v), λ s. never b bs refl (viable (front ++ b ∷ []) (subst Begins after s)))

  bad_byte : (text : List ℕ) (left : ℕ) → AreBytes text → whole r text ≡ Err left → 0 < left → BadAt text (length text - left)
  bad_byte text left h e w =
      let l = longest r Is follow one text left e in
      let within = left_within text left e in
      bad_by l.rest text l.front (length text - left) h l.parts l.count (omega arith) l.goes_on l.no_further

  refused_by : (t : Bool) (text : List ℕ) (left : ℕ) → (left == 0) ≡ t → AreBytes text → whole r text ≡ Err left → DecodesBy spelled AsBytes view Fit text (Err (if t then Truncated else BadByte (length text - left)))
  refused_by true text left e h g = let none : left ≡ 0 = grind (arith, nat_tests) in truncated text h (g ∙ ap Err none)
  refused_by false text left e h g = bad_byte text left h g (grind (arith, nat_tests))

  pub refused : (text : List ℕ) (left : ℕ) → AreBytes text → whole r text ≡ Err left → DecodesBy spelled AsBytes view Fit text (Err (refusal_of (length text) left))
  refused text left h e = refused_by (left == 0) text left refl h e

  refuses_by : (t : Bool) (text : List ℕ) (left : ℕ) → whole r text ≡ Err left → RefusesBytes {X = X} spelled Fit text (Err (if t then Truncated else BadByte (length text - left)))
  refuses_by true text left e = none_fits text left e
  refuses_by false text left e = none_fits text left e

  pub refuses : (text : List ℕ) (left : ℕ) → whole r text ≡ Err left → RefusesBytes {X = X} spelled Fit text (Err (refusal_of (length text) left))
  refuses text left e = refuses_by (left == 0) text left e
