-- Numbers and booleans that were read fit their types.
use Rattle.std.proofs.Common.{◌≡◌, ℕ, suc, Bool, true, false, List, length, Option, Result, Ok, Err, refl, sym, ap, arith, subst}
use Rattle.std.specs.Prelude.{ℤ, pos, negsuc, IsTrue}
use Rattle.std.proofs.lemmas.Bool.Decides.{nat_tests}
use Rattle.grammar.specs.Reading.{mapped}
use Rattle.key_types.specs.Kinds.{Kind, tiny, small, int, big, text, blob, boolean, tuple, reversed, Val, number, truth, Fits, within}
use Rattle.key_text.specs.Reading.{number_at, truth_at, closed_read}
use Rattle.key_text.specs.Marking.{Marked, kept, marked_number, marked_at}
use Rattle.key_text.proofs.Plain.{signed}
use Rattle.key_text.proofs.Tracked.{kept_by, kept_within}
use Rattle.key_spelling.specs.Spelling.{IsPlain}

abbrev IsNumberWithin : ℕ → Val → Type 0
IsNumberWithin m v = (z : ℤ) × (v ≡ number z) × IsTrue (within (negsuc m) (pos (suc m)) z)

zero_within : (m : ℕ) → IsTrue (within (negsuc m) (pos (suc m)) (pos 0))
zero_within m = grind (arith, nat_tests)

kept_fits : (m : ℕ) (b : Bool) (z : ℤ) (mark : Option ℕ) (left : ℕ) → within (negsuc m) (pos (suc m)) z ≡ b → IsNumberWithin m (marked_number mark left (kept_by b z)).0
kept_fits m true z mark left e = (z, refl, e)
kept_fits m false z mark left e = (pos 0, refl, zero_within m)

number_fits : (m : ℕ) (got : Result ((Bool × ℕ) × List ℕ) ℕ) (mark now : Option ℕ) (left : ℕ) (rest : List ℕ) (v : Val)
    → mapped (λ x. marked_number mark left (kept (suc m) x.0 x.1)) got ≡ Ok ((v, now), rest) → IsNumberWithin m v
number_fits m (Err e) mark now left rest v h = cc
number_fits m (Ok x) mark now left rest v h =
    let same : (marked_number mark left (kept (suc m) x.0.0 x.0.1), x.1) ≡ ((v, now), rest) = cc in
    let z = signed x.0 in
    subst (IsNumberWithin m) (ap (λ (p : Marked Val × List ℕ). p.0.0) same)
    (subst (λ (k : Option ℤ). IsNumberWithin m (marked_number mark left k).0) (sym (kept_within m x.0.0 x.0.1)) (kept_fits m (within (negsuc m) (pos (suc m)) z) z mark left refl))

truth_fits : (got : Result (Bool × List ℕ) ℕ) (mark now : Option ℕ) (rest : List ℕ) (v : Val) → mapped {B = Marked Val} (λ b. (truth b, mark)) got ≡ Ok ((v, now), rest) → Fits boolean v
truth_fits (Err e) mark now rest v h = cc
truth_fits (Ok x) mark now rest v h =
    let same : ((truth x.0, mark), x.1) ≡ ((v, now), rest) = cc in subst (Fits boolean) (ap (λ (p : Marked Val × List ℕ). p.0.0) same) tt

fits_as : (t : Kind) (m : ℕ) (v : Val) → ((z : ℤ) → IsTrue (within (negsuc m) (pos (suc m)) z) → Fits t (number z)) → IsNumberWithin m v → Fits t v
fits_as t m v fit (z, e, h) = subst (Fits t) (sym e) (fit z h)

-- what is read of a number's or a boolean's type fits it
pub plain_fits : (t : Kind) (mark now : Option ℕ) (bs rest : List ℕ) (v : Val) → IsPlain t → marked_at t mark bs ≡ Ok ((v, now), rest) → Fits t v
plain_fits tiny mark now bs rest v is h = fits_as tiny 127 v (λ z f. f) (number_fits 127 (closed_read number_at bs) mark now (length bs) rest v h)
plain_fits small mark now bs rest v is h = fits_as small 32767 v (λ z f. f) (number_fits 32767 (closed_read number_at bs) mark now (length bs) rest v h)
plain_fits int mark now bs rest v is h = fits_as int 2147483647 v (λ z f. f) (number_fits 2147483647 (closed_read number_at bs) mark now (length bs) rest v h)
plain_fits big mark now bs rest v is h = fits_as big 9223372036854775807 v (λ z f. f) (number_fits 9223372036854775807 (closed_read number_at bs) mark now (length bs) rest v h)
plain_fits text mark now bs rest v is h = absurd is
plain_fits blob mark now bs rest v is h = absurd is
plain_fits boolean mark now bs rest v is h = truth_fits (truth_at bs) mark now rest v h
plain_fits (tuple ts) mark now bs rest v is h = absurd is
plain_fits (reversed t) mark now bs rest v is h = absurd is
