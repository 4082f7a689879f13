-- A line whose first number passes its type is one of the grammar that doesn't fit; and a line that fits is read.
use Rattle.std.proofs.Common.{◌≡◌, ℕ, zero, suc, Bool, true, false, ◌||◌, ◌==◌, List, [], ◌∷◌, ◌++◌, length, Some, None, Result, Ok, Err, refl, sym, ◌∙◌, ap, subst, ◌⊎◌, inl, inr}
use Rattle.std.specs.Prelude.{replicate, if◌then◌else◌}
use Rattle.grammar.specs.Reading.{then_read, spaces_at, without_spaces, all_of}
use Rattle.grammar.proofs.Map.{whole_all}
use Rattle.key_types.specs.Kinds.{Kind, tiny, small, int, big, text, blob, boolean, tuple, reversed, Kinds, end, more, number, values, and, Fits, EachFits}
use Rattle.key_text.specs.Grammar.{IsLiteral, AreLiterals, AreFurther, IsList, IsText}
use Rattle.key_text.specs.Marking.{Marked}
use Rattle.key_text.specs.Outside.{ValuePasses, AnyPasses, FurtherPasses, ListPasses}
use Rattle.key_text.proofs.Tracked.{Marks, Tracked}
use Rattle.key_types.specs.declared.schema.ValueType.{ValueType}
use Rattle.key_types.specs.Columns.{Columns}
use Rattle.byte_comparable.specs.Order.{Key, KeyFits}
use Rattle.script_text.specs.declared.script.LineCause.{LineCause}
use Rattle.script_text.specs.declared.script.LineCause.TheVariants.{BadText}
use Rattle.script_text.specs.Grammar.{LineText, no_text, put_text, get_text, sync_text, IsKeyText, IsTypeOf, IsCommand, IsLine, LineFits}
use Rattle.script_text.specs.Passing.{KeyPasses, CommandPasses}
use Rattle.script_text.specs.Reading.{command_at, whole_line, is_comment, is_blank, has_dash, told, line_of}
use Rattle.script_text.proofs.Sayings.{AfterLine, LineNumbers, plain_command, command_exact, command_tracked, command_heads, spaced_command_exact}
use Rattle.script_text.proofs.Told.{comment_is, blank_is}

-- ---- literals that don't fit

-- a value that is so written and doesn't fit
abbrev Misfit : {A : Type 0} → (A → List ℕ → Type 0) → (A → Type 0) → List ℕ → Type 0
Misfit {A} Is Fit bs = (a : A) × Is a bs × (Fit a → ⊥)

mutual
  value_misfit : (t : Kind) (bs : List ℕ) (at : ℕ) → ValuePasses t bs at → Misfit (IsLiteral t) (Fits t) bs
  value_misfit tiny bs at (z, is, n, e) = (number z, is, n)
  value_misfit small bs at (z, is, n, e) = (number z, is, n)
  value_misfit int bs at (z, is, n, e) = (number z, is, n)
  value_misfit big bs at (z, is, n, e) = (number z, is, n)
  value_misfit text bs at (z, is, n, e) = (number z, is, n)
  value_misfit blob bs at (z, is, n, e) = (number z, is, n)
  value_misfit boolean bs at (z, is, n, e) = (number z, is, n)
  value_misfit (tuple ts) bs at (left, rest, k, sign, (inside, right, any, last, e), f, g) =
      let p = any_misfit ts inside k any in
      (values p.0, (left, inside, right, sign, p.1, last, f ∙ ap (λ x. left ++ x) e), p.2)
  value_misfit (reversed t) bs at h = value_misfit t bs at h

  any_misfit : (ts : Kinds) (bs : List ℕ) (at : ℕ) → AnyPasses ts bs at → Misfit (AreLiterals ts) (EachFits ts) bs
  any_misfit end bs at h = absurd h
  any_misfit (more t ts) bs at (first, rest, e, inl (here, vs, behind)) =
      let p = value_misfit t first at here in
      (and p.0 vs, (first, rest, p.1, behind, e), (λ h. p.2 h.0))
  any_misfit (more t ts) bs at (first, rest, e, inr (v, k, is, n, behind, same)) =
      let p = further_misfit ts rest k behind in
      (and v p.0, (first, rest, is, p.1, e), (λ h. p.2 h.1))

  further_misfit : (ts : Kinds) (bs : List ℕ) (at : ℕ) → FurtherPasses ts bs at → Misfit (AreFurther ts) (EachFits ts) bs
  further_misfit end bs at h = absurd h
  further_misfit (more t ts) bs at (comma, behind, k, sign, (first, rest, e, inl (here, vs, further)), f, g) =
      let p = value_misfit t first k here in
      (and p.0 vs, (comma, first, rest, sign, p.1, further, f ∙ ap (λ x. comma ++ x) e), (λ h. p.2 h.0))
  further_misfit (more t ts) bs at (comma, behind, k, sign, (first, rest, e, inr (v, j, is, n, further, same)), f, g) =
      let p = further_misfit ts rest j further in
      (and v p.0, (comma, first, rest, sign, is, p.1, f ∙ ap (λ x. comma ++ x) e), (λ h. p.2 h.1))

list_misfit : (ts : Kinds) (bs : List ℕ) (at : ℕ) → ListPasses ts bs at → Misfit (IsList ts) (EachFits ts) bs
list_misfit ts bs at (left, rest, k, sign, (inside, right, any, last, e), f, g) =
    let p = any_misfit ts inside k any in
    (p.0, (left, inside, right, sign, p.1, last, f ∙ ap (λ x. left ++ x) e), p.2)

-- ---- lines

module _ (s : Columns) where
  -- a key that is so written, with a value of the type, doesn't fit
  key_misfit : (t : ValueType) (bs : List ℕ) (at : ℕ) → KeyPasses s t bs at → (key : Key) × IsKeyText s key bs × IsTypeOf s key.clustering t × (KeyFits s.partition s.clustering key → ⊥)
  key_misfit t bs at (list, within, e, inl (h, cs, is, typed)) =
      let p = list_misfit s.partition list at h in
      (record { partition = p.0; clustering = cs }, (list, within, p.1, is, e), typed, (λ f. p.2 f.0))
  key_misfit t bs at (list, within, e, inr (vs, k, l, n, h, typed, same)) =
      let p = list_misfit s.clustering within k h in
      (record { partition = vs; clustering = Some p.0 }, (list, within, l, p.1, e), typed, (λ f. p.2 f.1))

  command_misfit : (bs : List ℕ) (at : ℕ) → CommandPasses s bs at → Misfit (IsCommand s) (LineFits s) bs
  command_misfit bs at (inl (t, word, key, set, k, v, w, h, is, e, same)) =
      let p = key_misfit t key k h in
      (put_text (record { key = p.0; value = v }), (t, word, key, set, w, p.1, p.2, is, e), (λ f. p.3 f.0))
  command_misfit bs at (inr (t, word, key, k, w, h, e, same)) =
      let p = key_misfit t key k h in
      (get_text p.0, (word, key, w, p.1, e), p.3)

  same_value : (p q : LineText) (got : Result (LineText × List ℕ) ℕ) → got ≡ Ok (p, []) → got ≡ Ok (q, []) → p ≡ q
  same_value p q got e f = let pairs : ◌≡◌ {A = LineText × List ℕ} (p, []) (q, []) = cc in ap (λ x. x.0) pairs

  -- a line says one thing
  one_line : (p q : LineText) (bs : List ℕ) → IsCommand s p bs → IsCommand s q bs → p ≡ q
  one_line p q bs is also = same_value p q (plain_command s (bs ++ [])) ((command_exact s).all p bs [] is tt) ((command_exact s).all q bs [] also tt)

  module _ (line : List ℕ) (p : LineText) (fits : LineFits s p) where
    abbrev behind : List ℕ
    behind = without_spaces line

    mark_by : (x : Marked LineText) (v : LineText) (front : List ℕ) → v ≡ p → IsCommand s v front → Marks (CommandPasses s front) (LineNumbers s v × (x.0 ≡ v)) behind None x.1 → x ≡ (p, None)
    mark_by (y, None) v front same is h = ap (λ z. (z, None)) (h.1 ∙ same)
    mark_by (y, Some left) v front same is h =
        let q = command_misfit front h.0 h.1 in
        absurd (q.2 (subst (LineFits s) (sym (one_line q.0 v front q.1 is ∙ same)) fits))

    read_by : (got : Result (Marked LineText × List ℕ) ℕ) (plain : Result (LineText × List ℕ) ℕ) → Tracked (IsCommand s) (CommandPasses s) (LineNumbers s) None behind got plain → all_of plain ≡ Ok p → all_of got ≡ Ok (p, None)
    read_by (Ok (x, [])) plain (v, front, e, f, is, marks) h =
        let same : v ≡ p = (let k : Ok v ≡ Ok p = ap all_of (sym e) ∙ h in cc) in
        ap Ok (mark_by x v front same is marks)
    read_by (Ok (x, b ∷ bs)) plain (v, front, e, f, is, marks) h = absurd (let no : Err (length (b ∷ bs)) ≡ Ok p = ap all_of (sym e) ∙ h in cc)
    read_by (Err n) plain e h = absurd (let no : Err n ≡ Ok p = ap all_of (sym e) ∙ h in cc)

    line_read : IsText (IsCommand s) p line → whole_line s line ≡ Ok (p, None)
    line_read is =
        read_by (command_at s None behind) (plain_command s behind) (command_tracked s None behind) (whole_all (then_read spaces_at (λ _. plain_command s)) (IsText (IsCommand s)) (AfterLine s) (spaced_command_exact s) line p is)

  -- ---- such a line begins like no other

  abbrev IsPlain : List ℕ → Type 0
  IsPlain line = (is_comment line ≡ false) × (is_blank line ≡ false) × (has_dash line ≡ false)

  plain_head : (c : ℕ) (cs : List ℕ) → (c == 32) ≡ false → (c == 45) ≡ false → IsPlain (c ∷ cs)
  plain_head c [] e f = (refl, rw e refl, f)
  plain_head c (d ∷ cs) e f = (rw f refl, rw e refl, f)

  plain_by : (n : ℕ) (rest : List ℕ) → (c : ℕ) × (cs : List ℕ) × (rest ≡ c ∷ cs) × (((c == 32) ≡ false) × ((c == 45) ≡ false)) → IsPlain (replicate n 32 ++ rest)
  plain_by zero rest (c, cs, e, h) = subst IsPlain (sym e) (plain_head c cs h.0 h.1)
  plain_by (suc n) rest h = (space (replicate n 32 ++ rest), (plain_by n rest h).1, refl)
    where
      space : (cs : List ℕ) → is_comment (32 ∷ cs) ≡ false
      space [] = refl
      space (c ∷ cs) = refl

  silent_by : (t u : Bool) (rest : Result LineText LineCause) → (t ≡ true) ⊎ (u ≡ true) → (if t || u then Ok no_text else rest) ≡ Ok no_text
  silent_by true u rest h = refl
  silent_by false true rest h = refl
  silent_by false false rest (inl h) = cc
  silent_by false false rest (inr h) = cc

  spoken_by : (t u w : Bool) (n : ℕ) (p : LineText) (got : Result (Marked LineText) ℕ) → t ≡ false → u ≡ false → w ≡ false → got ≡ Ok (p, None)
      → (if t || u then Ok no_text else (if w then Err (BadText 1) else told n got)) ≡ Ok p
  spoken_by true u w n p got e f g h = cc
  spoken_by false true w n p got e f g h = cc
  spoken_by false false true n p got e f g h = cc
  spoken_by false false false n p got e f g h = ap (told n) h

  spoken : (p : LineText) (line : List ℕ) → IsText (IsCommand s) p line → LineFits s p → line_of s line ≡ Ok p
  spoken p line (n, rest, e, is) fits =
      let h = plain_by n rest (command_heads s p rest is) in
      spoken_by (is_comment line) (is_blank line) (has_dash line) (length line) p (whole_line s line)
      (ap is_comment e ∙ h.0) (ap is_blank e ∙ h.1) (ap has_dash e ∙ h.2) (line_read line p fits (n, rest, e, is))

  -- a line that fits is read
  pub line_all : (said : LineText) (line : List ℕ) → IsLine s said line → LineFits s said → line_of s line ≡ Ok said
  line_all no_text line (inl is) fits = silent_by (is_comment line) (is_blank line) (if has_dash line then Err (BadText 1) else told (length line) (whole_line s line)) (inl (comment_is line is))
  line_all no_text line (inr is) fits = silent_by (is_comment line) (is_blank line) (if has_dash line then Err (BadText 1) else told (length line) (whole_line s line)) (inr (blank_is line is))
  line_all (put_text p) line is fits = spoken (put_text p) line is fits
  line_all (get_text key) line is fits = spoken (get_text key) line is fits
  line_all sync_text line is fits = spoken sync_text line is fits
