-- What the parts of a row say of its frame.
use Rattle.std.proofs.Common.{◌≡◌, ◌∙◌, ℕ, ◌<◌, ◌≤◌, ◌^◌, List, ◌∷◌, ◌++◌, length, Option, None, Some, IfSome, arith, ap, sym, subst, append_assoc}
use Rattle.key_types.specs.Columns.{Columns, IsValueOf}
use Rattle.key_types.specs.declared.schema.ValueType.{ValueType}
use Rattle.key_types.specs.declared.schema.ValueType.TheVariants.{Text, Blob}
use Rattle.key_decode.specs.Strings.{IsStringOf}
use Rattle.length_prefix.specs.Counted.{counted, IsCutOff}
use Rattle.length_prefix.proofs.Counts.{counted-same, not_cut_off}
use Rattle.data_file.specs.Listing.{row_bytes, FitsStaticType, IsRow}
use Rattle.data_file.specs.Reading.{BeginsEnd, BeginsRow, NoStaticPart, NoHead, NoRow}
use Rattle.data_file.specs.Parsing.{IsStaticPartFrame, IsFrame, NoStaticPartFrame, NoFrame}
use Rattle.data_file.proofs.Counted.{behind_first, row-same}
use Rattle.key_decode.proofs.Known.{string_length}

-- ---- heads

pub no_head_cut : (columns : Columns) (bytes : List ℕ) → IsCutOff bytes → NoHead columns bytes
no_head_cut columns bytes cut key (is, (rest, e)) =
    not_cut_off bytes key rest cut e

pub no_head_else : (columns : Columns) (bytes key rest : List ℕ) → bytes ≡ counted key ++ rest → (IsStringOf columns.partition key → ⊥) → NoHead columns bytes
no_head_else columns bytes key rest at not other (is, (more, e)) =
    let same = (counted-same key other rest more (sym at ∙ e)).0 in
    not (subst (λ (k : List ℕ). IsStringOf columns.partition k) (sym same) is)

-- ---- frames

pub framed : (bytes c rest v more : List ℕ) → length c < 2 ^ 16 → bytes ≡ counted c ++ rest → length v < 2 ^ 16 → rest ≡ counted v ++ more
    → IsFrame (1 ∷ bytes) c v
framed bytes c rest v more m e n f =
    (m, n, (more, ap (λ t. 1 ∷ t) (e ∙ ap (λ t. counted c ++ t) f) ∙ sym (behind_first c v more)))

no_end : (bytes : List ℕ) → BeginsEnd (1 ∷ bytes) → ⊥
no_end bytes (rest, e) = cc

-- ---- rows

value_length : (kind : ValueType) (v : List ℕ) → IsValueOf kind v → length v < 2 ^ 16
value_length Text v is = let short = is.0 in omega arith
value_length Blob v is = omega arith

frame_of : (columns : Columns) (bytes c v : List ℕ) → BeginsRow columns bytes c v → (length c ≤ 1024) × IsFrame bytes c v
frame_of columns bytes c v ((string, value), at) =
    let short = string_length columns.clustering c string in
    (short, (omega arith, value_length columns.value v value, at))

pub no_row : (columns : Columns) (bytes : List ℕ) → NoFrame bytes → NoRow columns bytes
no_row columns bytes none = (λ c v row. let frame = frame_of columns bytes c v row in none.0 c v frame.0 frame.1, none.1)

pub no_row_else : (columns : Columns) (bytes c v : List ℕ) → IsFrame bytes c v → (IsRow columns c v → ⊥) → (more : List ℕ) → NoRow columns (bytes ++ more)
no_row_else columns bytes c v (k, l, (rest, at)) not more =
    let all : bytes ++ more ≡ row_bytes c v ++ (rest ++ more) = ap (λ t. t ++ more) at ∙ append_assoc (row_bytes c v) rest more in (
      λ d w (is, (behind, e)).
          let same = row-same c v (rest ++ more) d w behind (sym all ∙ e) in
          not (subst (λ (x : List ℕ). IsRow columns x v) (sym same.0) (subst (λ (x : List ℕ). IsRow columns d x) (sym same.1) is)),
      λ (behind, e). no_end _ (behind, sym (all ∙ behind_first c v (rest ++ more)) ∙ e),
    )

pub frame_bad : (bytes rest more : List ℕ) → bytes ≡ 1 ∷ rest → NoFrame (1 ∷ (rest ++ more)) → NoFrame (bytes ++ more)
frame_bad bytes rest more e none = subst NoFrame (sym (ap (λ t. t ++ more) e)) none

-- ---- static parts

static_part_frame : (static : Option ValueType) (value : Option (List ℕ)) → FitsStaticType static value → IfSome value (λ v. length v < 2 ^ 16)
static_part_frame static None is = tt
static_part_frame None (Some v) is = absurd is
static_part_frame (Some kind) (Some v) is = value_length kind v is

pub no_static_part : (columns : Columns) (bytes : List ℕ) → NoStaticPartFrame bytes → NoStaticPart columns bytes
no_static_part columns bytes none value (is, at) = none value (static_part_frame columns.static_value value is, at)

-- a value that isn't one of the type
pub no_static_part_else : (columns : Columns) (bytes v : List ℕ) (kind : ValueType) → columns.static_value ≡ Some kind → IsStaticPartFrame bytes (Some v) → (IsValueOf kind v → ⊥)
    → (more : List ℕ) → NoStaticPart columns (bytes ++ more)
no_static_part_else columns bytes v kind static (l, (rest, at)) not more None (is, (behind, e)) =
    let first : 1 ∷ ((counted v ++ rest) ++ more) ≡ 0 ∷ behind = sym (ap (λ t. t ++ more) at) ∙ e in cc
no_static_part_else columns bytes v kind static (l, (rest, at)) not more (Some u) (is, (behind, e)) =
    let first : 1 ∷ ((counted v ++ rest) ++ more) ≡ 1 ∷ (counted u ++ behind) = sym (ap (λ t. t ++ more) at) ∙ e in
    let tails : (counted v ++ rest) ++ more ≡ counted u ++ behind = cc in
    let same = (counted-same v u (rest ++ more) behind (sym (append_assoc (counted v) rest more) ∙ tails)).0 in
    let fits : FitsStaticType (Some kind) (Some u) = subst (λ (t : Option ValueType). FitsStaticType t (Some u)) static is in
    not (subst (IsValueOf kind) (sym same) fits)
