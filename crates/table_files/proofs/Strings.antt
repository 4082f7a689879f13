-- The strings of partitions and rows: what they have, and how they stand to one another.
use Rattle.std.proofs.Common.{◌≡◌, ◌≢◌, ℕ, ◌+◌, ◌<◌, List, [], ◌∷◌, ◌++◌, length, Ok, arith, refl, sym, ◌∙◌, ap, subst}
use Rattle.std.proofs.lemmas.List.{length-append, append-nil}
use Rattle.std.proofs.lemmas.Cmp.{nat_list_cmp_total}
use Rattle.std.specs.List.{AllByRecursion}
use Rattle.std.specs.declared.cmp.Ordering.TheVariants.{Less}
use Rattle.std.specs.Ordering.{ordering_reverse}
use Rattle.key_types.specs.Kinds.{AreBytes, Kinds, end, none}
use Rattle.key_types.specs.Table.{string_cmp}
use Rattle.byte_order.specs.Strings.{IsPrefix}
use Rattle.byte_comparable.specs.Encoding.{components, key_string}
use Rattle.byte_comparable.proofs.Kept.{whole}
use Rattle.key_decode.specs.Strings.{IsStringOf}
use Rattle.key_decode.proofs.Known.{taken}
use Rattle.key_decode.proofs.Link.{all_back, each_fits_as_bytes}
use Rattle.partition_index.specs.Entries.{IsApartBelow}

-- ---- one string

as_all : (bs : List ℕ) → AreBytes bs → AllByRecursion (λ b. b < 256) bs
as_all [] h = tt
as_all (b ∷ bs) h = (h.0, as_all bs h.1)

pub string_bytes_small : (ts : Kinds) (string : List ℕ) → IsStringOf ts string → AllByRecursion (λ b. b < 256) string
string_bytes_small ts string (vs, is) =
    let of_string = taken ts string vs is in
    as_all string (subst AreBytes of_string.1 (all_back ts vs (each_fits_as_bytes ts vs of_string.0)).1)

pub string_some : (ts : Kinds) (string : List ℕ) → IsStringOf ts string → 0 < length string
string_some ts string (vs, is) =
    let of_string = taken ts string vs is in
    omega (arith, ap (λ (bs : List ℕ). length bs) of_string.1, length-append (components ts vs) (0x38 ∷ []))

-- ---- two strings

-- a string that begins with another one is that
one_string : (ts : Kinds) (string front tail : List ℕ) → IsStringOf ts string → IsStringOf ts front → string ≡ front ++ tail → front ≡ string
one_string ts string front tail (vs, is) (us, front_is) e =
    let of_string = taken ts string vs is in
    let of_front = taken ts front us front_is in
    let longer : key_string ts vs ≡ key_string ts us ++ tail = of_string.1 ∙ e ∙ ap (λ (bs : List ℕ). bs ++ tail) (sym of_front.1) in
    let same = whole end ts none us none vs tail tt of_front.0 tt of_string.0 (ap (λ (bs : List ℕ). 0x38 ∷ bs) longer) in
    sym of_front.1 ∙ ap (key_string ts) same.1 ∙ of_string.1

pub never_itself : (a : List ℕ) → string_cmp a a ≡ Less → ⊥
never_itself a low = let e : Less ≡ ordering_reverse Less = sym low ∙ nat_list_cmp_total.antisymm a a ∙ ap ordering_reverse low in cc

-- strings that ascend stand apart
pub apart_below : (ts : Kinds) (a b : List ℕ) → IsStringOf ts a → IsStringOf ts b → string_cmp a b ≡ Less → IsApartBelow a b
apart_below ts a b is_a is_b low = (low, λ (more, e). never_itself b (subst (λ (c : List ℕ). string_cmp c b ≡ Less) (one_string ts b a more is_b is_a e) low))
