-- Where entries ascend, the strings of their partitions do, and in one partition those of their rows.
use Rattle.std.proofs.Common.{◌≡◌, ◌≢◌, ◌⊎◌, ℕ, List, [], ◌∷◌, ◌++◌, inl, inr, refl, sym, ◌∙◌, ap, subst}
use Rattle.std.specs.declared.cmp.Ordering.{Ordering}
use Rattle.std.specs.declared.cmp.Ordering.TheVariants.{Less, Equal, Greater}
use Rattle.std.specs.Ordering.{nat_cmp, ordering_then}
use Rattle.std.specs.FinMap as finite
use Rattle.key_types.specs.Columns.{Columns}
use Rattle.key_types.specs.Kinds.{Kinds, end, none}
use Rattle.key_types.specs.Table.{Entry, string_cmp}
use Rattle.byte_comparable.specs.Encoding.{key_string}
use Rattle.byte_comparable.proofs.Compare.{same, slice_front}
use Rattle.byte_comparable.proofs.Kept.{whole}
use Rattle.key_decode.specs.Strings.{IsStringOf}
use Rattle.key_decode.proofs.Known.{taken}
use Rattle.flush_walk.specs.Entries.{clustering_in, partition_in}
use Rattle.flush_walk.specs.TableEntries.{IsTableEntry}

-- ---- the order of strings that are put together

-- the bytes begin with the front
abbrev BeginsWith : List ℕ → List ℕ → Type 0
BeginsWith bytes front = (tail : List ℕ) × (bytes ≡ front ++ tail)

-- the fronts of strings that ascend ascend, or one of them begins with the other
abbrev Fronts : List ℕ → List ℕ → Type 0
Fronts xs ys = (string_cmp xs ys ≡ Less) ⊎ (BeginsWith ys xs ⊎ BeginsWith xs ys)

module _ (x y : ℕ) (xs ys : List ℕ) where
  equal_first : x ≡ y → Fronts xs ys → Fronts (x ∷ xs) (y ∷ ys)
  equal_first is (inl less) = inl (ap (λ (o : Ordering). ordering_then o (string_cmp xs ys)) (subst (λ (z : ℕ). nat_cmp x z ≡ Equal) is (same x)) ∙ less)
  equal_first is (inr (inl (tail, e))) = inr (inl (tail, ap (λ (z : ℕ). z ∷ ys) (sym is) ∙ ap (λ (zs : List ℕ). x ∷ zs) e))
  equal_first is (inr (inr (tail, e))) = inr (inr (tail, ap (λ (z : ℕ). z ∷ xs) is ∙ ap (λ (zs : List ℕ). y ∷ zs) e))

  first_decides : (o s : Ordering) → nat_cmp x y ≡ o → ordering_then o s ≡ Less → (s ≡ Less → Fronts xs ys) → Fronts (x ∷ xs) (y ∷ ys)
  first_decides Less s is less behind = inl (ap (λ (o : Ordering). ordering_then o (string_cmp xs ys)) is)
  first_decides Equal s is less behind = equal_first (finite.nat_cmp-IsAntisymmetric x y is) (behind less)
  first_decides Greater s is less behind = cc

fronts : (xs ys cs ds : List ℕ) → string_cmp (xs ++ cs) (ys ++ ds) ≡ Less → Fronts xs ys
fronts [] ys cs ds less = inr (inl (ys, refl))
fronts (x ∷ xs) [] cs ds less = inr (inr (x ∷ xs, refl))
fronts (x ∷ xs) (y ∷ ys) cs ds less =
    first_decides x y xs ys (nat_cmp x y) (string_cmp (xs ++ cs) (ys ++ ds)) refl less (fronts xs ys cs ds)

-- a string of a partition that begins with another one is that
pub one_string : (ts : Kinds) (string front tail : List ℕ) → IsStringOf ts string → IsStringOf ts front → string ≡ front ++ tail → front ≡ string
one_string ts string front tail (vs, is) (us, front_is) e =
    let of_string = taken ts string vs is in
    let of_front = taken ts front us front_is in
    let longer : key_string ts vs ≡ key_string ts us ++ tail = of_string.1 ∙ e ∙ ap (λ (bs : List ℕ). bs ++ tail) (sym of_front.1) in
    let same = whole end ts none us none vs tail tt of_front.0 tt of_string.0 (ap (λ (bs : List ℕ). 0x38 ∷ bs) longer) in
    sym of_front.1 ∙ ap (key_string ts) same.1 ∙ of_string.1

front_less : (ts : Kinds) (p q : List ℕ) → IsStringOf ts p → IsStringOf ts q → p ≢ q → Fronts p q → string_cmp p q ≡ Less
front_less ts p q is_p is_q apart (inl less) = less
front_less ts p q is_p is_q apart (inr (inl (tail, e))) = absurd (apart (one_string ts q p tail is_q is_p e))
front_less ts p q is_p is_q apart (inr (inr (tail, e))) = absurd (apart (sym (one_string ts p q tail is_p is_q e)))

module _ (columns : Columns) (e f : Entry) (is_e : IsTableEntry columns e) (is_f : IsTableEntry columns f) (less : string_cmp e.0 f.0 ≡ Less) where
  parts_less : string_cmp (partition_in columns e.0 ++ clustering_in columns e.0) (partition_in columns f.0 ++ clustering_in columns f.0) ≡ Less
  parts_less = ap (λ (s : List ℕ). string_cmp s (partition_in columns f.0 ++ clustering_in columns f.0)) is_e.parts ∙ ap (string_cmp e.0) is_f.parts ∙ less

  pub partition_less : partition_in columns e.0 ≢ partition_in columns f.0 → string_cmp (partition_in columns e.0) (partition_in columns f.0) ≡ Less
  partition_less apart =
      front_less columns.partition (partition_in columns e.0) (partition_in columns f.0) is_e.partition is_f.partition apart
      (fronts (partition_in columns e.0) (partition_in columns f.0) (clustering_in columns e.0) (clustering_in columns f.0) parts_less)

  pub row_less : partition_in columns e.0 ≡ partition_in columns f.0 → string_cmp (clustering_in columns e.0) (clustering_in columns f.0) ≡ Less
  row_less is =
      sym (slice_front (partition_in columns e.0) (clustering_in columns e.0) (clustering_in columns f.0))
      ∙ ap (λ (p : List ℕ). string_cmp (partition_in columns e.0 ++ clustering_in columns e.0) (p ++ clustering_in columns f.0)) is
      ∙ parts_less
