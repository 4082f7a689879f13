-- The strings of bounds, and what they are of.
use Rattle.std.proofs.Common.{◌≡◌, ◌≢◌, ◌∙◌, ℕ, ◌+◌, ◌<◌, ◌≤◌, length, length-append, arith, Bool, true, false, List, [], ◌∷◌, ◌++◌, Option, Some, None, IfSome, Result, Ok, Err, refl, sym, ap, subst}
use Rattle.std.proofs.lemmas.List.{append-nil}
use Rattle.std.proofs.lemmas.Bool.Decides.{nat_tests}
use Rattle.std.specs.Prelude.{cond, nat_le, nat_lt}
use Rattle.std.specs.Ordering.{nat_cmp}
use Rattle.std.specs.Cmp.Lexicographic.{slice_cmp}
use Rattle.std.specs.declared.cmp.Ordering.{Ordering}
use Rattle.std.specs.declared.cmp.Ordering.TheVariants.{Less, Equal, Greater}
use Rattle.key_types.specs.Columns.{Columns}
use Rattle.key_types.specs.Kinds.{Kind, Kinds, end, more, Val, Vals, none, and, Fits, fits_by}
use Rattle.key_types.specs.Layout.{count_of}
use Rattle.byte_comparable.specs.Encoding.{LeadFits, bound_with, components, encoding, key_string, separator, terminator}
use Rattle.byte_comparable.specs.Order.{from_string, string_of_key, to_string}
use Rattle.byte_comparable.specs.Strings.{bound_end, bound_of, checked_string, first_misfit_from, string_of, value_count}
use Rattle.key_text.specs.Marking.{Marked}
use Rattle.byte_comparable.specs.declared.strings.KeyError.{KeyError}
use Rattle.byte_comparable.specs.declared.strings.KeyError.TheVariants.{WrongCount, TooLong}
use Rattle.byte_comparable.specs.declared.strings.Side.{Side}
use Rattle.byte_comparable.specs.declared.strings.Side.TheVariants.{Before, After}
use Rattle.byte_comparable.proofs.Ranges.{from_kept, to_kept}
use Rattle.key_decode.proofs.Known.{taken}
use Rattle.table_reader.specs.declared.seek.BoundString.{BoundString}
use Rattle.table_reader.specs.Laws.{bound_bytes}
use Rattle.table_reader.specs.Left.{IsBound, NamesSome, is_not_greater, is_not_less}
use Rattle.table_reader.specs.Ranges.{within_bytes}
use Rattle.scan_tool.specs.Bounds.{AreBoundStrings, IsSideString, IsWithin, NamesBound, NamesEnd}
use Rattle.scan_tool.specs.Laws.{LowerBounds, UpperBounds}

-- ---- what a bound string is of

-- a value that is tested to fit its type fits it, as its string alone is one of a key
one_fits : (t : Kind) (v : Val) → fits_by t v ≡ true → length (encoding t v) ≤ 1022 → Fits t v
one_fits t v is short = (taken (more t end) (key_string (more t end) (and v none)) (and v none) (rw is whole)).0.0
  where
    long : length (key_string (more t end) (and v none)) ≤ 1024
    long = omega (arith, length-append (encoding t v) [], length-append (separator ∷ (encoding t v ++ [])) (terminator ∷ []))

    by : (over : Bool) → nat_lt 1024 (length (key_string (more t end) (and v none))) ≡ over
        → cond over (Err (TooLong (length (key_string (more t end) (and v none))))) (Ok (key_string (more t end) (and v none))) ≡ Ok (key_string (more t end) (and v none))
    by false e = refl
    by true e = absurd (grind (arith, nat_tests, long))

    whole : checked_string None (key_string (more t end) (and v none)) ≡ Ok (key_string (more t end) (and v none))
    whole = by (nat_lt 1024 (length (key_string (more t end) (and v none)))) refl

first_fits : (b : Bool) (t : Kind) (v : Val) (m : Option ℕ) (i : ℕ) → fits_by t v ≡ b → length (encoding t v) ≤ 1022 → cond b m (Some i) ≡ None → Fits t v × (m ≡ None)
first_fits true t v m i e short is = (one_fits t v e short, is)
first_fits false t v m i e short is = cc

lead_fits : (i : ℕ) (ts : Kinds) (vs : Vals) → length (components ts vs) ≤ 1023 → first_misfit_from i ts vs ≡ None → LeadFits ts vs
lead_fits i end none short m = tt
lead_fits i end (and v vs) short m = tt
lead_fits i (more t ts) none short m = tt
lead_fits i (more t ts) (and v vs) short m =
    let p = first_fits (fits_by t v) t v (first_misfit_from (i + 1) ts vs) i refl (omega (arith, length-append (encoding t v) (components ts vs))) m in
    (p.0, lead_fits (i + 1) ts vs (omega (arith, length-append (encoding t v) (components ts vs))) p.1)

by_length : (t : Bool) (s b : List ℕ) (e : KeyError) → nat_lt 1024 (length s) ≡ t → cond t (Err e) (Ok s) ≡ Ok b → (s ≡ b) × (length s ≤ 1024)
by_length true s b e h is = cc
by_length false s b e h is = let same : s ≡ b = cc in (same, grind (arith, nat_tests, h))

by_fit : (m : Option ℕ) (s b : List ℕ) → checked_string m s ≡ Ok b → (m ≡ None) × (s ≡ b) × (length s ≤ 1024)
by_fit (Some i) s b is = cc
by_fit None s b is = let p = by_length (nat_lt 1024 (length s)) s b (TooLong (length s)) refl is in (refl, p.0, p.1)

by_count : (t : Bool) (m : Option ℕ) (s b : List ℕ) → cond t (checked_string m s) (Err WrongCount) ≡ Ok b → (m ≡ None) × (s ≡ b) × (length s ≤ 1024)
by_count true m s b is = by_fit m s b is
by_count false m s b is = cc

side_taken : (side : Side) (ts : Kinds) (vs : Vals) (string : List ℕ) → bound_of side ts vs ≡ Ok string → LeadFits ts vs × (bound_with (bound_end side) ts vs ≡ string)
side_taken side ts vs string is =
    let p = by_count (nat_le (value_count vs) (count_of ts)) (first_misfit_from 0 ts vs) (bound_with (bound_end side) ts vs) string is in
    (lead_fits 0 ts vs (omega (arith, p.2, length-append (components ts vs) (bound_end side ∷ []))) p.0, p.1)

-- within a partition
side_is : (side : Side) (ts : Kinds) (vs : Vals) (string : Option (List ℕ)) → IsSideString side ts vs string → LeadFits ts vs × (bound_with (bound_end side) ts vs ≡ within_bytes string)
side_is side ts vs None is = absurd is
side_is side ts vs (Some string) is = side_taken side ts vs string is

lower_is : (columns : Columns) (p c : Vals) (bound : BoundString) → AreBoundStrings columns Before p c bound → LeadFits columns.clustering c × (bound_bytes bound ≡ from_string columns.partition columns.clustering p c)
lower_is columns p none bound (partition, within) =
    (no_lead columns.clustering, ap (λ (o : Option (List ℕ)). bound.partition ++ within_bytes o) within ∙ append-nil bound.partition ∙ sym (taken columns.partition bound.partition p partition).1)
  where
    no_lead : (ts : Kinds) → LeadFits ts none
    no_lead end = tt
    no_lead (more t ts) = tt
lower_is columns p (and v vs) bound (partition, within) =
    let side = side_is Before columns.clustering (and v vs) bound.clustering within in
    (side.0, ap (λ (s : List ℕ). bound.partition ++ s) (sym side.1) ∙ ap (λ (k : List ℕ). k ++ bound_with (bound_end Before) columns.clustering (and v vs)) (sym (taken columns.partition bound.partition p partition).1))

upper_is : (columns : Columns) (p c : Vals) (bound : BoundString) → AreBoundStrings columns After p c bound → LeadFits columns.clustering c × (bound_bytes bound ≡ to_string columns.partition columns.clustering p c)
upper_is columns p c bound (partition, within) =
    let side = side_is After columns.clustering c bound.clustering within in
    (side.0, ap (λ (s : List ℕ). bound.partition ++ s) (sym side.1) ∙ ap (λ (k : List ℕ). k ++ bound_with (bound_end After) columns.clustering c) (sym (taken columns.partition bound.partition p partition).1))

-- the bound that a text names is one of the table
pub named_bound : (columns : Columns) (side : Side) (text : Option (List ℕ)) (bound : Option BoundString) → NamesEnd columns side text bound → IsBound columns bound
named_bound columns side None bound named = subst (IsBound columns) (sym named) tt
named_bound columns side (Some text) None named = absurd named
named_bound columns side (Some text) (Some bound) named = (named.partition, named.strings.0)

-- and a lower one that names components of rows has a string for them
some_within : (ts : Kinds) (vs : Vals) (string : Option (List ℕ)) → IsWithin Before ts vs string → IfSome string (λ s. 0 < length s)
some_within ts none string is = subst (λ (o : Option (List ℕ)). IfSome o (λ s. 0 < length s)) (sym is) tt
some_within ts (and v vs) None is = absurd is
some_within ts (and v vs) (Some string) is =
    let made = (side_taken Before ts (and v vs) string is).1 in omega (arith, ap length made, length-append (components ts (and v vs)) (bound_end Before ∷ []))

pub named_some : (columns : Columns) (text : Option (List ℕ)) (bound : Option BoundString) → NamesEnd columns Before text bound → NamesSome bound
named_some columns None bound named = subst NamesSome (sym named) tt
named_some columns (Some text) None named = absurd named
named_some columns (Some text) (Some bound) named = some_within columns.clustering named.clustering bound.clustering named.strings.1

-- a text names one bound
same_side : (side : Side) (ts : Kinds) (vs : Vals) (a b : Option (List ℕ)) → IsSideString side ts vs a → IsSideString side ts vs b → a ≡ b
same_side side ts vs None b is also = absurd is
same_side side ts vs (Some a) None is also = absurd also
same_side side ts vs (Some a) (Some b) is also = let both : ◌≡◌ {A = Result (List ℕ) KeyError} (Ok a) (Ok b) = sym is ∙ also in cc

same_within : (side : Side) (ts : Kinds) (vs : Vals) (a b : Option (List ℕ)) → IsWithin side ts vs a → IsWithin side ts vs b → a ≡ b
same_within Before ts none a b is also = is ∙ sym also
same_within Before ts (and v vs) a b is also = same_side Before ts (and v vs) a b is also
same_within After ts vs a b is also = same_side After ts vs a b is also

pub one_bound : (columns : Columns) (side : Side) (text : List ℕ) (a b : BoundString) → NamesBound columns side text a → NamesBound columns side text b → a ≡ b
one_bound columns side text a b is also =
    let both : ◌≡◌ {A = Result (Marked (Vals × Vals)) ℕ} (Ok ((is.partition, is.clustering), None)) (Ok ((also.partition, also.clustering), None)) = sym is.read ∙ also.read in
    let pairs : ◌≡◌ {A = Marked (Vals × Vals)} ((is.partition, is.clustering), None) ((also.partition, also.clustering), None) = cc in
    let first : is.partition ≡ also.partition = ap (λ (p : Marked (Vals × Vals)). p.0.0) pairs in
    let within : is.clustering ≡ also.clustering = ap (λ (p : Marked (Vals × Vals)). p.0.1) pairs in
    let strings : ◌≡◌ {A = Result (List ℕ) KeyError} (Ok a.partition) (Ok b.partition) =
    sym is.strings.0 ∙ (ap (string_of columns.partition) first ∙ also.strings.0) in
    let partition : a.partition ≡ b.partition = cc in
    let clustering : a.clustering ≡ b.clustering =
    same_within side columns.clustering also.clustering a.clustering b.clustering
    (subst (λ (vs : Vals). IsWithin side columns.clustering vs a.clustering) within is.strings.1) also.strings.1 in
    λ i. record { partition = partition i; clustering = clustering i }

-- ---- orders

not_less : (o : Ordering) → o ≢ Less → is_not_less o ≡ true
not_less Less ne = absurd (ne refl)
not_less Equal ne = refl
not_less Greater ne = refl

less_not : (o : Ordering) → is_not_less o ≡ true → o ≢ Less
less_not Less is = λ e. cc
less_not Equal is = λ e. cc
less_not Greater is = λ e. cc

not_greater : (o : Ordering) → o ≢ Greater → is_not_greater o ≡ true
not_greater Less ne = refl
not_greater Equal ne = refl
not_greater Greater ne = absurd (ne refl)

greater_not : (o : Ordering) → is_not_greater o ≡ true → o ≢ Greater
greater_not Less is = λ e. cc
greater_not Equal is = λ e. cc
greater_not Greater is = λ e. cc

pub lower_bounds : LowerBounds
lower_bounds columns text bound key named fits =
    let lower = lower_is columns named.partition named.clustering bound named.strings in
    let whole = taken columns.partition bound.partition named.partition named.strings.0 in
    let kept = from_kept columns.partition columns.clustering key.partition named.partition fits.0 whole.0 key.clustering named.clustering fits.1 lower.0 in
    let string = string_of_key columns.partition columns.clustering key in (
      λ is. not_less (slice_cmp nat_cmp string (bound_bytes bound)) (subst (λ (b : List ℕ). slice_cmp nat_cmp string b ≢ Less) (sym lower.1) (kept.0 is)),
      λ is. kept.1 (subst (λ (b : List ℕ). slice_cmp nat_cmp string b ≢ Less) lower.1 (less_not (slice_cmp nat_cmp string (bound_bytes bound)) is)),
    )

pub upper_bounds : UpperBounds
upper_bounds columns text bound key named fits =
    let upper = upper_is columns named.partition named.clustering bound named.strings in
    let whole = taken columns.partition bound.partition named.partition named.strings.0 in
    let kept = to_kept columns.partition columns.clustering key.partition named.partition fits.0 whole.0 key.clustering named.clustering fits.1 upper.0 in
    let string = string_of_key columns.partition columns.clustering key in (
      λ is. not_greater (slice_cmp nat_cmp string (bound_bytes bound)) (subst (λ (b : List ℕ). slice_cmp nat_cmp string b ≢ Greater) (sym upper.1) (kept.0 is)),
      λ is. kept.1 (subst (λ (b : List ℕ). slice_cmp nat_cmp string b ≢ Greater) upper.1 (greater_not (slice_cmp nat_cmp string (bound_bytes bound)) is)),
    )
