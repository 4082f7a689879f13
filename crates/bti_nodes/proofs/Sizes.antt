-- How many bytes a node has.
use Rattle.std.proofs.Common.{◌≡◌, ℕ, zero, suc, ◌+◌, ◌-◌, ◌*◌, ◌/◌, ◌<◌, ◌≤◌, List, [], ◌∷◌, length, map, get_or, refl, sym, ◌∙◌, ap, arith, length-append}
use Rattle.std.specs.Int.{div_ceil}
use Rattle.std.specs.List.{flat_map}
use Rattle.std.proofs.lemmas.List.{length-map}
use Rattle.std.proofs.lemmas.List.FromFn.{length-map-range_with_len}
use Rattle.std.proofs.Math.Nat.{mul-le-mul_left}
use Rattle.byteorder.specs.Endian.{big_bytes}
use Rattle.byteorder.specs.Numbers.{length-bytes_high_first}
use Rattle.bti_nodes.specs.declared.table.Kind.{Kind}
use Rattle.bti_nodes.specs.declared.table.Shape.{Shape}
use Rattle.bti_nodes.specs.declared.table.Shape.TheVariants.{Leaf, Short, Single, Sparse, Dense}
use Rattle.bti_nodes.specs.declared.node.Child.{Child}
use Rattle.bti_nodes.specs.declared.outline.Outline.{Outline}
use Rattle.bti_nodes.specs.Table.{kinds}
use Rattle.bti_nodes.specs.Grammar.{body_len}
use Rattle.bti_nodes.specs.Spelling.{Parts, body, twelves, row_of_bits, size_as, places_for, outline_by, outline_of, outline_size, node_bytes, node_size, chosen, kind_of_number, greatest, first_letter, last_letter, letter_of, distance_of, distance_under, dense_row}

twelves_len : (ds : List ℕ) → length (twelves ds) ≡ div_ceil (length ds * 12) 8
twelves_len [] = refl
twelves_len (a ∷ []) = refl
twelves_len (a ∷ b ∷ rest) = let h = twelves_len rest in omega (arith, h)

wholes_len : (k : ℕ) (ds : List ℕ) → length (flat_map (big_bytes k) ds) ≡ length ds * k
wholes_len k [] = sym (omega arith)
wholes_len k (d ∷ ds) = length-append (big_bytes k d) (flat_map (big_bytes k) ds) ∙ grind (arith, length-bytes_high_first k d, wholes_len k ds)

abbrev pub RowFits : ℕ → Type 0
RowFits width = (ds : List ℕ) → length (row_of_bits width ds) ≡ div_ceil (length ds * width) 8

pub row_8 : RowFits 8
row_8 ds = wholes_len 1 ds ∙ omega arith

pub row_12 : RowFits 12
row_12 ds = twelves_len ds

pub row_16 : RowFits 16
row_16 ds = wholes_len 2 ds ∙ omega arith

pub row_24 : RowFits 24
row_24 ds = wholes_len 3 ds ∙ omega arith

pub row_32 : RowFits 32
row_32 ds = wholes_len 4 ds ∙ omega arith

pub row_40 : RowFits 40
row_40 ds = wholes_len 5 ds ∙ omega arith

pub row_64 : RowFits 64
row_64 ds = wholes_len 8 ds ∙ omega arith

abbrev Fits : Kind → Type 0
Fits kind = (number n : ℕ) (cs : List Child) → length (body number kind.shape kind.width n cs) ≡ body_len kind.shape kind.width (places_for kind.shape (outline_by n cs))

leaf : (width : ℕ) → Fits (record { shape = Leaf; width = width })
leaf width number n cs = refl

short : (width : ℕ) → Fits (record { shape = Short; width = width })
short width number n cs = length-append (big_bytes ((4 + width) / 8) _) _ ∙ omega (arith, length-bytes_high_first ((4 + width) / 8))

single : (width : ℕ) → Fits (record { shape = Single; width = width })
single width number n cs = omega (arith, length-bytes_high_first (width / 8) (greatest cs))

sparse : (width : ℕ) → RowFits width → Fits (record { shape = Sparse; width = width })
sparse width row number n cs =
    let letters = map letter_of cs in
    let ds = map distance_of cs in
    let a : length letters ≡ length cs = length-map cs letter_of in
    let b : length ds ≡ length cs = length-map cs distance_of in
    let c : length (row_of_bits width ds) ≡ div_ceil (length cs * width) 8 = row ds ∙ ap (λ n. div_ceil (n * width) 8) b in
    omega (arith, length-append letters (row_of_bits width ds), a, c)

dense : (width : ℕ) → RowFits width → Fits (record { shape = Dense; width = width })
dense width row number n cs =
    let places = last_letter cs - first_letter cs + 1 in
    let b : length (dense_row cs) ≡ places = length-map-range_with_len (distance_under cs) (first_letter cs) places in
    let c : length (row_of_bits width (dense_row cs)) ≡ div_ceil (places * width) 8 = row (dense_row cs) ∙ ap (λ n. div_ceil (n * width) 8) b in
    omega (arith, c)

abbrev AllFit : List Kind → Type 0
AllFit [] = Unit {0}
AllFit (k ∷ ks) = Fits k × AllFit ks

all_fit : AllFit kinds
all_fit =
    (leaf 0, (short 4, (single 8, (short 12, (single 16, (sparse 8 row_8, (sparse 12 row_12, (sparse 16 row_16, (sparse 24 row_24, (sparse 40 row_40, (dense 12 row_12, (dense 16 row_16, (dense 24 row_24, (dense 32 row_32, (dense 40 row_40, (dense 64 row_64, tt))))))))))))))))

fits_at : (ks : List Kind) → AllFit ks → (n : ℕ) → Fits (get_or ks n (record { shape = Leaf; width = 0 }))
fits_at [] h n = leaf 0
fits_at (k ∷ ks) h zero = h.0
fits_at (k ∷ ks) h (suc n) = fits_at ks h.1 n

-- what stands before the payload is as long as the type says
pub body_fits : (number n : ℕ) (cs : List Child) → length (body number (kind_of_number number).shape (kind_of_number number).width n cs) ≡ body_len (kind_of_number number).shape (kind_of_number number).width (places_for (kind_of_number number).shape (outline_by n cs))
body_fits number n cs = fits_at kinds all_fit number number n cs

pub size_is_length : (p : Parts) → length (node_bytes p) ≡ node_size p
unfolding node_bytes outline_size
size_is_length p =
    let m = chosen (outline_of p) in
    omega (arith, length-append (body m (kind_of_number m).shape (kind_of_number m).width (length p.payload) p.children) p.payload, body_fits m (length p.payload) p.children)

some_as : (shape : Shape) (width : ℕ) (o : Outline) → 1 ≤ size_as (record { shape = shape; width = width }) o
some_as Leaf width o = omega arith
some_as Short width o = omega arith
some_as Single width o = omega arith
some_as Sparse width o = omega arith
some_as Dense width o = omega arith

pub outline_some : (o : Outline) → 1 ≤ outline_size o
unfolding outline_size
outline_some o = some_as (kind_of_number (chosen o)).shape (kind_of_number (chosen o)).width o

pub size_some : (p : Parts) → 1 ≤ node_size p
size_some p = outline_some (outline_of p)

abbrev Few : Parts → Type 0
Few p = (length p.payload ≤ 7) × (length p.children ≤ 256) × (last_letter p.children < 256)

abbrev InPage : Kind → Type 0
InPage kind = (p : Parts) → Few p → size_as kind (outline_of p) ≤ 4096

page_of : (shape : Shape) (width : ℕ) → width ≤ 64 → InPage (record { shape = shape; width = width })
page_of Leaf width h p few = omega (arith, few.0)
page_of Short width h p few = omega (arith, few.0)
page_of Single width h p few = omega (arith, few.0)
page_of Sparse width h p few = omega (arith, few.0, few.1, mul-le-mul_left {m = width} {n = 64} (length p.children) h)
page_of Dense width h p few = omega (arith, few.0, few.2, mul-le-mul_left {m = width} {n = 64} (last_letter p.children - first_letter p.children + 1) h)

abbrev AllNarrow : List Kind → Type 0
AllNarrow [] = Unit {0}
AllNarrow (k ∷ ks) = (k.width ≤ 64) × AllNarrow ks

narrow_at : (ks : List Kind) → AllNarrow ks → (n : ℕ) → (get_or ks n (record { shape = Leaf; width = 0 })).width ≤ 64
narrow_at [] h n = omega arith
narrow_at (k ∷ ks) h zero = h.0
narrow_at (k ∷ ks) h (suc n) = narrow_at ks h.1 n

narrow : AllNarrow kinds
narrow = search arith

pub size_within : (p : Parts) → length p.payload ≤ 7 → length p.children ≤ 256 → last_letter p.children < 256 → node_size p ≤ 4096
unfolding outline_size
size_within p a b c = let m = chosen (outline_of p) in page_of (kind_of_number m).shape (kind_of_number m).width (narrow_at kinds narrow m) p (a, b, c)
