-- Bytes that are cut off: what they are the beginning of, and that nothing whole begins with them.
use Rattle.std.proofs.Common.{◌≡◌, ◌≢◌, ◌∙◌, ℕ, suc, ◌+◌, ◌<◌, ◌≤◌, ◌^◌, nat_lt, Bool, true, false, ltb-true, ltb-false, List, [], ◌∷◌, ◌++◌, length, Option, None, Some, Result, Ok, Err, arith, refl, ap, sym, append_assoc, length-append}
use Rattle.std.proofs.lemmas.List.{append-nil}
use Rattle.key_types.specs.Columns.{Columns}
use Rattle.length_prefix.specs.Counted.{stated_length, counted, IsCutOff}
use Rattle.length_prefix.proofs.Counts.{count_goes_on, count_of_counted, counted-same, nothing_more}
use Rattle.data_file.specs.Listing.{row_bytes, static_bytes}
use Rattle.data_file.specs.Reading.{IsCutRow, IsCutStatic, NoStaticPart, NoRow}
use Rattle.data_file.specs.Parsing.{IsStaticPartFrame, IsFrame, NoFrame, counts_too_many}
use Rattle.data_file.proofs.Counted.{behind_first}
use Rattle.data_file.proofs.Unique.{row_front}
use Rattle.data_file.proofs.Frames.{no_static_part, no_row}

-- ---- rows

pub cut_not_framed : (bytes clustering value : List ℕ) → IsFrame bytes clustering value → IsCutRow bytes → ⊥
cut_not_framed bytes clustering value (k, l, (rest, at)) cut =
    let joined : row_bytes cut.clustering cut.value ++ [] ≡ row_bytes clustering value ++ (rest ++ cut.more) =
    append-nil (row_bytes cut.clustering cut.value) ∙ cut.row ∙ ap (λ t. t ++ cut.more) at ∙ append_assoc (row_bytes clustering value) rest cut.more in
    cut.cut (nothing_more rest cut.more (row_front cut.clustering cut.value [] clustering value (rest ++ cut.more) joined).2)

-- the first byte of a row that is cut off is that of a row
pub cut_first : (bytes rest : List ℕ) (first : ℕ) → bytes ≡ first ∷ rest → first ≢ 1 → IsCutRow bytes → ⊥
cut_first bytes rest first at other cut =
    let both : row_bytes cut.clustering cut.value ≡ first ∷ (rest ++ cut.more) = cut.row ∙ ap (λ t. t ++ cut.more) at in
    other cc

cut_short : (bytes : List ℕ) → IsCutRow bytes → length bytes < 66564
cut_short bytes cut =
    let whole : length (row_bytes cut.clustering cut.value) ≡ length bytes + length cut.more = ap length cut.row ∙ length-append bytes cut.more in
    let parts : length (row_bytes cut.clustering cut.value) ≡ 5 + length cut.clustering + length cut.value =
    ap suc (length-append (counted cut.clustering) (counted cut.value)) ∙ omega arith in
    by (nat_lt (length bytes) 3) refl whole parts
  where
    by : (b : Bool) → nat_lt (length bytes) 3 ≡ b → length (row_bytes cut.clustering cut.value) ≡ length bytes + length cut.more
        → length (row_bytes cut.clustering cut.value) ≡ 5 + length cut.clustering + length cut.value → length bytes < 66564
    by true less whole parts = omega (arith, ltb-true (length bytes) 3 less)
    by false more whole parts =
        let short = cut.short (ltb-false (length bytes) 3 more) in
        let value = cut.counts.1 in
        let behind : 0 < length cut.more = some cut.more cut.cut in
        omega (arith, short, value, behind, whole, parts)
      where
        some : (xs : List ℕ) → xs ≢ [] → 0 < length xs
        some [] h = absurd (h refl)
        some (x ∷ xs) h = omega arith

pub cut_none : (columns : Columns) (bytes : List ℕ) → IsCutRow bytes → NoRow columns bytes × (length bytes < 66564)
cut_none columns bytes cut =
    (no_row columns bytes ((λ c v k frame. cut_not_framed bytes c v frame cut), (λ end. cut_first bytes end.0 0 end.1 (λ e. cc) cut)), cut_short bytes cut)

-- ---- the frame of a row, behind its first byte

-- where the clustering's length stands whole it is what the bytes count
counts : (bytes item rest more : List ℕ) → counted item ++ rest ≡ bytes ++ more → 2 ≤ length bytes → counts_too_many (stated_length bytes) ≡ nat_lt 1024 (length item)
counts bytes item rest more e two =
    ap counts_too_many (sym (count_goes_on bytes more two) ∙ ap stated_length (sym e) ∙ count_of_counted item rest)

two_there : (bytes : List ℕ) → counts_too_many (stated_length bytes) ≡ true → 2 ≤ length bytes
two_there [] e = cc
two_there (high ∷ []) e = cc
two_there (high ∷ low ∷ bytes) e = omega arith

pub too_many_bad : (bytes : List ℕ) → counts_too_many (stated_length bytes) ≡ true → (more : List ℕ) → NoFrame (1 ∷ (bytes ++ more))
too_many_bad bytes many more =
    (λ c v k frame. by c v k frame.2.0 (sym (behind_first c v frame.2.0) ∙ sym frame.2.1), λ end. cc_end end.0 end.1)
  where
    by : (c v : List ℕ) → length c ≤ 1024 → (rest : List ℕ) → 1 ∷ (counted c ++ (counted v ++ rest)) ≡ 1 ∷ (bytes ++ more) → ⊥
    by c v k rest e =
        let tails : counted c ++ (counted v ++ rest) ≡ bytes ++ more = cc in
        let over = ltb-true 1024 (length c) (sym (counts bytes c (counted v ++ rest) more tails (two_there bytes many)) ∙ many) in
        omega (arith, over, k)

    cc_end : (rest : List ℕ) → 1 ∷ (bytes ++ more) ≡ 0 ∷ rest → ⊥
    cc_end rest e = cc

pub too_many_not_cut : (bytes : List ℕ) → counts_too_many (stated_length bytes) ≡ true → IsCutRow (1 ∷ bytes) → ⊥
too_many_not_cut bytes many cut =
    let tails : counted cut.clustering ++ counted cut.value ≡ bytes ++ cut.more = tail_of (counted cut.clustering ++ counted cut.value) (bytes ++ cut.more) cut.row in
    let two = two_there bytes many in
    let over = ltb-true 1024 (length cut.clustering) (sym (counts bytes cut.clustering (counted cut.value) cut.more tails two) ∙ many) in
    omega (arith, over, cut.short (omega (arith, two)))
  where
    tail_of : (xs ys : List ℕ) → ◌≡◌ {A = List ℕ} (1 ∷ xs) (1 ∷ ys) → xs ≡ ys
    tail_of xs ys e = cc

-- the clustering is cut off
pub cut_clustering : (bytes : List ℕ) → counts_too_many (stated_length bytes) ≡ false → IsCutOff bytes → IsCutRow (1 ∷ bytes)
cut_clustering bytes few (item, more, fits, some, e) = record {
  clustering = item;
  value = [];
  more = more ++ counted [];
  short = λ three.
      let two : 2 ≤ length bytes = omega (arith, three) in
      ltb-false 1024 (length item) (sym (counts bytes item [] more (append-nil (counted item) ∙ e) two) ∙ few);
  counts = (fits, omega arith);
  cut = ends more some;
  row = ap (λ t. 1 ∷ t) (ap (λ t. t ++ counted []) e ∙ append_assoc bytes more (counted []));
}
  where
    ends : (xs : List ℕ) → xs ≢ [] → xs ++ counted [] ≢ []
    ends [] h e = absurd (h refl)
    ends (x ∷ xs) h e = cc

-- the value is cut off
pub cut_value : (bytes clustering rest : List ℕ) → counts_too_many (stated_length bytes) ≡ false → length clustering < 2 ^ 16 → bytes ≡ counted clustering ++ rest → IsCutOff rest
    → IsCutRow (1 ∷ bytes)
cut_value bytes clustering rest few small at (item, more, fits, some, e) = record {
  clustering = clustering;
  value = item;
  more = more;
  short = λ three.
      let two : 2 ≤ length bytes = omega (arith, three) in
      ltb-false 1024 (length clustering) (sym (counts bytes clustering rest [] (sym at ∙ sym (append-nil bytes)) two) ∙ few);
  counts = (small, fits);
  cut = some;
  row = ap (λ t. 1 ∷ t) (ap (λ t. counted clustering ++ t) e ∙ sym (append_assoc (counted clustering) rest more) ∙ ap (λ t. t ++ more) (sym at));
}

-- no bytes at all
pub cut_empty : IsCutRow []
cut_empty = record {
  clustering = [];
  value = [];
  more = row_bytes [] [];
  short = λ three. omega (arith, three);
  counts = (omega arith, omega arith);
  cut = λ e. cc;
  row = refl;
}

-- ---- static parts

pub cut_static_empty : IsCutStatic []
cut_static_empty = record { value = []; more = static_bytes (Some []); counts = omega arith; cut = λ e. cc; part = refl }

pub cut_static : (bytes : List ℕ) → IsCutOff bytes → IsCutStatic (1 ∷ bytes)
cut_static bytes (item, more, fits, some, e) = record { value = item; more = more; counts = fits; cut = some; part = ap (λ t. 1 ∷ t) e }

pub cut_static_first : (bytes rest : List ℕ) (first : ℕ) → bytes ≡ first ∷ rest → first ≢ 1 → IsCutStatic bytes → ⊥
cut_static_first bytes rest first at other cut =
    let both : static_bytes (Some cut.value) ≡ first ∷ (rest ++ cut.more) = cut.part ∙ ap (λ t. t ++ cut.more) at in
    other cc

pub cut_static_not_framed : (bytes : List ℕ) (value : Option (List ℕ)) → IsStaticPartFrame bytes value → IsCutStatic bytes → ⊥
cut_static_not_framed bytes None (k, (rest, at)) cut = cut_static_first bytes rest 0 at (λ e. cc) cut
cut_static_not_framed bytes (Some value) (k, (rest, at)) cut =
    let joined : 1 ∷ counted cut.value ≡ 1 ∷ (counted value ++ (rest ++ cut.more)) =
    cut.part ∙ ap (λ t. t ++ cut.more) at ∙ ap (λ t. 1 ∷ t) (append_assoc (counted value) rest cut.more) in
    let tails : counted cut.value ≡ counted value ++ (rest ++ cut.more) = cc in
    cut.cut (nothing_more rest cut.more (counted-same cut.value value [] (rest ++ cut.more) (append-nil (counted cut.value) ∙ tails)).1)

pub cut_static_none : (columns : Columns) (bytes : List ℕ) → IsCutStatic bytes → NoStaticPart columns bytes × (length bytes < 65538)
cut_static_none columns bytes cut =
    let whole : length (static_bytes (Some cut.value)) ≡ length bytes + length cut.more = ap length cut.part ∙ length-append bytes cut.more in
    let value = cut.counts in
    (no_static_part columns bytes (λ v frame. cut_static_not_framed bytes v frame cut), omega (arith, whole, value, some cut.more cut.cut))
  where
    some : (xs : List ℕ) → xs ≢ [] → 0 < length xs
    some [] h = absurd (h refl)
    some (x ∷ xs) h = omega arith

-- ---- answers

pub not_ok : {T E : Type 0} (x : T) (e : E) → ◌≡◌ {A = Result T E} (Ok x) (Err e) → ⊥
not_ok x e h = cc

pub no_bytes : (bytes : List ℕ) → length bytes < 1 → bytes ≡ []
no_bytes [] h = refl
no_bytes (x ∷ bytes) h = absurd (omega (arith, h))
