-- Pushes, one behind the other.
use Rattle.std.proofs.Common.{◌≡◌, ◌∙◌, ℕ, ◌+◌, List, [], ◌++◌, length, take, Option, None, Some, refl, sym, ap, subst, arith, append_assoc, length-append}
use Rattle.std.proofs.lemmas.List.{append-nil, take-append-le}
use Rattle.std.proofs.Math.Seq.{take-append_seam, take-append-add}
use Rattle.outside.specs.Told.{WhereTold}
use Rattle.scan_tool.specs.Printing.{Appends, AppendsPrefix, Unwritten}

-- the same of an equal piece
pub told_piece : (written written' : Option (List ℕ)) (piece text : List ℕ) → piece ≡ text → WhereTold written written' (Appends piece) → WhereTold written written' (Appends text)
told_piece written written' piece text same told = subst (λ (p : List ℕ). WhereTold written written' (Appends p)) same told

-- and of a prefix
pub told_prefix : (written written' : Option (List ℕ)) (piece text : List ℕ) → piece ≡ text → WhereTold written written' (AppendsPrefix piece) → WhereTold written written' (AppendsPrefix text)
told_prefix written written' piece text same told = subst (λ (p : List ℕ). WhereTold written written' (AppendsPrefix p)) same told

-- what is as it was has nothing behind it
pub unwritten : (written written' : Option (List ℕ)) → written' ≡ written → Unwritten written written'
unwritten None written' same = subst (λ (w : Option (List ℕ)). Unwritten None w) (sym same) tt
unwritten (Some before) written' same = subst (λ (w : Option (List ℕ)). Unwritten (Some before) w) (sym same) refl

-- nothing was pushed, which is a text without bytes
pub nothing_pushed : (written written' : Option (List ℕ)) → Unwritten written written' → WhereTold written written' (Appends [])
nothing_pushed None None told = tt
nothing_pushed None (Some after) told = absurd told
nothing_pushed (Some before) None told = absurd told
nothing_pushed (Some before) (Some after) told = told ∙ sym (append-nil before)

-- and a prefix of any text
pub nothing_of : (written written' : Option (List ℕ)) (text : List ℕ) → Unwritten written written' → WhereTold written written' (AppendsPrefix text)
nothing_of None None text told = tt
nothing_of None (Some after) text told = absurd told
nothing_of (Some before) None text told = absurd told
nothing_of (Some before) (Some after) text told = (0, omega arith, told ∙ sym (append-nil before))

-- what was pushed is a prefix of the whole text
pub pushed_prefix : (written written' : Option (List ℕ)) (pushed text lines : List ℕ) → pushed ++ text ≡ lines → WhereTold written written' (Appends pushed)
    → WhereTold written written' (AppendsPrefix lines)
pushed_prefix None None pushed text lines is told = tt
pushed_prefix None (Some after) pushed text lines is told = absurd told
pushed_prefix (Some before) None pushed text lines is told = absurd told
pushed_prefix (Some before) (Some after) pushed text lines is told =
    (length pushed, omega (arith, ap length is, length-append pushed text), told ∙ ap (λ t. before ++ t) (sym (ap (take (length pushed)) (sym is) ∙ take-append_seam pushed text)))

-- and so it is with a prefix of what is held behind it
pub cut_prefix : (written between written' : Option (List ℕ)) (pushed text lines : List ℕ) → pushed ++ text ≡ lines → WhereTold written between (Appends pushed)
    → WhereTold between written' (AppendsPrefix text) → WhereTold written written' (AppendsPrefix lines)
cut_prefix None None None pushed text lines is told more = tt
cut_prefix None None (Some c) pushed text lines is told more = absurd more
cut_prefix None (Some b) c pushed text lines is told more = absurd told
cut_prefix (Some a) None c pushed text lines is told more = absurd told
cut_prefix (Some a) (Some b) None pushed text lines is told more = absurd more
cut_prefix (Some a) (Some b) (Some c) pushed text lines is told (k, short, e) = (
  length pushed + k,
  omega (arith, ap length is, length-append pushed text),
  e ∙ (ap (λ t. t ++ take k text) told ∙ (append_assoc a pushed (take k text) ∙ ap (λ t. a ++ t) (sym (take-append-add pushed text k) ∙ ap (take (length pushed + k)) is))),
)

-- a prefix of a text is one of what begins with it
pub longer_prefix : (written written' : Option (List ℕ)) (text more lines : List ℕ) → text ++ more ≡ lines → WhereTold written written' (AppendsPrefix text) → WhereTold written written' (AppendsPrefix lines)
longer_prefix None None text more lines is told = tt
longer_prefix None (Some after) text more lines is told = absurd told
longer_prefix (Some before) None text more lines is told = absurd told
longer_prefix (Some before) (Some after) text more lines is (k, short, e) =
    (k, omega (arith, ap length is, length-append text more), e ∙ ap (λ t. before ++ t) (sym (ap (take k) (sym is) ∙ take-append-le k text more short)))

-- two pushes, one behind the other
pub pushed_on : (written between written' : Option (List ℕ)) (pushed piece text : List ℕ) → pushed ++ piece ≡ text → WhereTold written between (Appends pushed)
    → WhereTold between written' (Appends piece) → WhereTold written written' (Appends text)
pushed_on None None None pushed piece text is told more = tt
pushed_on None None (Some c) pushed piece text is told more = absurd more
pushed_on None (Some b) c pushed piece text is told more = absurd told
pushed_on (Some a) None c pushed piece text is told more = absurd told
pushed_on (Some a) (Some b) None pushed piece text is told more = absurd more
pushed_on (Some a) (Some b) (Some c) pushed piece text is told more = more ∙ (ap (λ t. t ++ piece) told ∙ (append_assoc a pushed piece ∙ ap (λ t. a ++ t) is))

-- nothing behind a push
pub pushed_still : (written between written' : Option (List ℕ)) (pushed : List ℕ) → WhereTold written between (Appends pushed) → Unwritten between written' → WhereTold written written' (Appends pushed)
pushed_still None None None pushed told more = tt
pushed_still None None (Some c) pushed told more = absurd more
pushed_still None (Some b) c pushed told more = absurd told
pushed_still (Some a) None c pushed told more = absurd told
pushed_still (Some a) (Some b) None pushed told more = absurd more
pushed_still (Some a) (Some b) (Some c) pushed told more = more ∙ told
