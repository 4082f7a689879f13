-- What the marked reading of a whole text says of the grammar.
use Rattle.std.proofs.Common.{◌≡◌, ℕ, zero, suc, ◌+◌, ◌-◌, ◌≤◌, List, [], ◌∷◌, ◌++◌, length, Option, Some, None, Result, Ok, Err, refl, sym, ◌∙◌, ap, arith, subst, length-append}
use Rattle.std.specs.Prelude.{replicate}
use Rattle.std.proofs.lemmas.List.{append-nil}
use Rattle.grammar.specs.Exact.{Read, Exact, Longest}
use Rattle.grammar.specs.Reading.{then_read, spaces_at, without_spaces, whole, all_of}
use Rattle.grammar.proofs.Map.{whole_all, longest}
use Rattle.grammar.proofs.Tokens.{skipped}
use Rattle.key_text.specs.Grammar.{IsText}
use Rattle.key_text.specs.Outside.{TextPasses}
use Rattle.key_text.specs.Marking.{Marked}
use Rattle.key_text.proofs.Tracked.{Marks, Tracked, Tracks}

spaces_long : (n : ℕ) → length {A = ℕ} (replicate n 32) ≡ n
spaces_long zero = refl
spaces_long (suc n) = ap suc (spaces_long n)

module _ {A : Type 0} (Is : A → List ℕ → Type 0) (P : List ℕ → ℕ → Type 0) (fine : A → Type 0) (follow : A → ℕ → Type 0) (marked : Option ℕ → Read (Marked A)) (plain : Read A)
    (tracks : Tracks Is P fine marked plain) (one : Exact (then_read spaces_at (λ _. plain)) (IsText Is) follow) (text : List ℕ) where
  abbrev behind : List ℕ
  behind = without_spaces text

  abbrev WholeMarked : Result (Marked A) ℕ
  WholeMarked = whole (then_read spaces_at (λ _. marked None)) text

  -- how many spaces stand before
  abbrev gap : ℕ
  gap = (skipped text).0

  parts : text ≡ replicate gap 32 ++ behind
  parts = (skipped text).1

  long : length text ≡ gap + length behind
  long = ap length parts ∙ length-append (replicate gap 32) behind ∙ ap (λ n. n + length behind) (spaces_long gap)

  ok_by : (got : Result (Marked A × List ℕ) ℕ) (x : Marked A) → Tracked Is P fine None behind got (plain behind) → all_of got ≡ Ok x → (v : A) × Is v behind × Marks (P behind) (fine v × (x.0 ≡ v)) behind None x.1
  ok_by (Ok (y, [])) x (v, front, e, f, is, marks) h =
      let same : y ≡ x = cc in
      let front_all : front ≡ behind = sym (f ∙ append-nil front) in (
        v,
        subst (Is v) front_all is,
        subst (λ (z : Marked A). Marks (P behind) (fine v × (z.0 ≡ v)) behind None z.1) same (subst (λ (l : List ℕ). Marks (P l) (fine v × (y.0 ≡ v)) behind None y.1) front_all marks),
      )
  ok_by (Ok (y, b ∷ bs)) x t h = cc
  ok_by (Err e) x t h = cc

  read_by : (v : A) (x : A) → Is v behind → fine v × (x ≡ v) → IsText Is x text × fine x
  read_by v x is h = subst (λ (z : A). IsText Is z text × fine z) (sym h.1) ((gap, behind, parts, is), h.0)

  -- without a mark the value is that of the text, and its numbers fit
  pub read : (x : A) → WholeMarked ≡ Ok (x, None) → IsText Is x text × fine x
  read x h = let p = ok_by (marked None behind) (x, None) (tracks None behind) h in read_by p.0 x p.1 p.2

  -- with one, the first number that passes its type begins there
  pub out_of_range : (x : A) (left : ℕ) → WholeMarked ≡ Ok (x, Some left) → (left ≤ length text) × TextPasses P text (length text - left)
  out_of_range x left h =
      let p = ok_by (marked None behind) (x, Some left) (tracks None behind) h in
      let m = p.2 in
      let l = long in
      let place = m.2 in
      (omega arith, (gap, behind, m.0, parts, m.1, omega arith))

  refused_by : (got : Result (Marked A × List ℕ) ℕ) (left : ℕ) → Tracked Is P fine None behind got (plain behind) → all_of got ≡ Err left → whole (then_read spaces_at (λ _. plain)) text ≡ Err left
  refused_by (Ok (y, [])) left t h = cc
  refused_by (Ok (y, b ∷ bs)) left (v, front, e, f, is, marks) h = let l : length (b ∷ bs) ≡ left = cc in ap all_of e ∙ ap Err l
  refused_by (Err e) left t h = let l : e ≡ left = cc in ap all_of t ∙ ap Err l

  plain_refused : (left : ℕ) → WholeMarked ≡ Err left → whole (then_read spaces_at (λ _. plain)) text ≡ Err left
  plain_refused left h = refused_by (marked None behind) left (tracks None behind) h

  apart : (a : A) (left : ℕ) (got : Result A ℕ) → got ≡ Ok a → got ≡ Err left → ⊥
  apart a left got e h = cc

  -- where the reading stops, the text is none of the grammar, and the place is its longest prefix that begins one
  pub refused : (left : ℕ) → WholeMarked ≡ Err left → ((a : A) → IsText Is a text → ⊥) × Longest (IsText Is) text (length text - left)
  refused left h =
      let e = plain_refused left h in
      (λ a is. apart a left (whole (then_read spaces_at (λ _. plain)) text) (whole_all (then_read spaces_at (λ _. plain)) (IsText Is) follow one text a is) e, longest (then_read spaces_at (λ _. plain)) (IsText Is) follow one text left e)

  left_by : (got : Result (A × List ℕ) ℕ) (left : ℕ) → then_read spaces_at (λ _. plain) text ≡ got → all_of got ≡ Err left → left ≤ length text
  left_by (Ok (a, [])) left g k = cc
  left_by (Ok (a, b ∷ bs)) left g k =
      let p = one.found text a (b ∷ bs) g in
      let l : length text ≡ length p.0 + length (b ∷ bs) = ap length p.1 ∙ length-append p.0 (b ∷ bs) in
      let n : left ≡ length (b ∷ bs) = cc in
      omega arith
  left_by (Err n) left g k =
      let m : n ≡ left = cc in
      let s = one.stops text n g in
      let l : length text ≡ length s.front + length s.rest = ap length s.parts ∙ length-append s.front s.rest in
      let c = s.count in
      omega arith

  pub left_within : (left : ℕ) → WholeMarked ≡ Err left → left ≤ length text
  left_within left h = left_by (then_read spaces_at (λ _. plain) text) left refl (plain_refused left h)
