-- Components one after the other.
use Rattle.std.proofs.Common.{◌≡◌, List, [], ◌++◌, ℕ, Result, Ok, Err, OnOk, sym, ◌∙◌, ap, append_assoc}
use Rattle.std.specs.Prelude.{codes}
use Rattle.std.proofs.lemmas.List.{append-nil}
use Rattle.key_types.specs.Kinds.{Kind, Kinds, end, more, Val, Vals, none, and}
use Rattle.key_types.specs.Literals.{literal, literals}
use Rattle.key_text.specs.Written.{further_literals}

one_more : (t : Kind) (ts : Kinds) (v : Val) (vs : Vals) → literal t v ++ further_literals ts vs ≡ literals (more t ts) (and v vs)
one_more t end v none = append-nil (literal t v)
one_more t end v (and w ws) = sym (append_assoc (literal t v) (codes ", ") [])
one_more t (more u us) v none = sym (append_assoc (literal t v) (codes ", ") (literals (more u us) none))
one_more t (more u us) v (and w ws) = sym (append_assoc (literal t v) (codes ", ") (literals (more u us) (and w ws)))

pub listed : (out now : List ℕ) (t : Kind) (ts ks : Kinds) (v : Val) (vs ws : Vals) → now ≡ out ++ literal t v → ks ≡ more t ts → ws ≡ and v vs → now ++ further_literals ts vs ≡ out ++ literals ks ws
listed out now t ts ks v vs ws e f g =
    ap (λ l. l ++ further_literals ts vs) e ∙ append_assoc out (literal t v) (further_literals ts vs) ∙ ap (λ l. out ++ l) (one_more t ts v vs) ∙ ap (λ k. out ++ literals k (and v vs)) (sym f) ∙ ap (λ w. out ++ literals ks w) (sym g)

pub on_ok_as : {T E P Q : Type 0} (r : Result T E) → (P → Q) → OnOk r P → OnOk r Q
on_ok_as (Ok x) f h = f h
on_ok_as (Err e) f h = tt
