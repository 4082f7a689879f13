-- What is written with several children is parsed to the same node.
use Rattle.std.proofs.Common.{◌≡◌, ◌≢◌, ℕ, zero, suc, ◌+◌, ◌-◌, ◌*◌, ◌/◌, ◌%◌, ◌^◌, ◌<◌, ◌≤◌, Bool, true, false, List, [], ◌∷◌, ◌++◌, length, map, get_or, Option, Some, None, refl, sym, ◌∙◌, ap, arith, inl, inr, append_assoc, length-append}
use Rattle.std.proofs.Math.Nat.{eq-or-lt_of_le}
use Rattle.std.proofs.lemmas.List.{length-map}
use Rattle.std.proofs.lemmas.List.FromFn.{fill_by_all, get_or-map-range_with_len, length-map-range_with_len}
use Rattle.std.proofs.lemmas.Bool.{cases_lt}
use Rattle.std.proofs.lemmas.Bool.Decides.{nat_tests}
use Rattle.std.specs.Prelude.{if◌then◌else◌, nat_lt, nat_le, ◌&&◌, ◌==◌}
use Rattle.std.specs.Result.{IsOkAnd}
use Rattle.std.specs.List.{AllByRecursion, range_with_len}
use Rattle.std.specs.Int.{div_ceil}
use Rattle.bti_nodes.specs.declared.table.Kind.{Kind}
use Rattle.bti_nodes.specs.declared.table.Shape.TheVariants.{Leaf, Sparse, Dense}
use Rattle.bti_nodes.specs.declared.node.Child.{Child}
use Rattle.bti_nodes.specs.Table.{kinds}
use Rattle.bti_nodes.specs.Grammar.{byte_at, body_len, payload_len, letter_at, distance_at, child_at_distance, child_by, ascends, in_order, points_back, node_at, bits_at}
use Rattle.bti_nodes.specs.Spelling.{body, row_of_bits, letter_of, distance_of, IsAscending, greatest, first_letter, last_letter, distance_under, dense_row}
use Rattle.bti_nodes.specs.Packing.{RowReads}
use Rattle.bti_nodes.specs.Laws.{standing}
use Rattle.bti_nodes.proofs.Rows.{shifted, no_child, distance_is, absent, under_within, row_within, last_from}
use Rattle.bti_nodes.proofs.Sizes.{RowFits}
use Rattle.bti_nodes.proofs.Again.{FitsIn, Good, Again, Means, again, good_distance, own_len, short_len, child_again, take_front, behind, fits_at, below_all, same_from}

-- a sparse node
abbrev some_child : Child → Option Child
some_child c = Some c

letter_is : (cs : List Child) (rest : List ℕ) (i : ℕ) → i < length cs → get_or (map letter_of cs ++ rest) i 0 ≡ (get_or cs i no_child).byte
letter_is [] rest i l = absurd (omega arith)
letter_is (c ∷ cs) rest zero l = refl
letter_is (c ∷ cs) rest (suc i) l = letter_is cs rest i (omega arith)

some_is : (cs : List Child) (i : ℕ) → i < length cs → get_or (map some_child cs) i None ≡ Some (get_or cs i no_child)
some_is [] i l = absurd (omega arith)
some_is (c ∷ cs) zero l = refl
some_is (c ∷ cs) (suc i) l = some_is cs i (omega arith)

standing_some : (cs : List Child) → standing (map some_child cs) ≡ cs
standing_some [] = refl
standing_some (c ∷ cs) = ap (λ l. c ∷ l) (standing_some cs)

letters_ascend : (low : ℕ) (cs : List Child) → IsAscending low cs → ascends (map letter_of cs) ≡ true
letters_ascend low [] h = refl
letters_ascend low (c ∷ []) h = refl
letters_ascend low (c ∷ d ∷ cs) h =
    let less = h.1.0 in
    let t : nat_lt c.byte d.byte ≡ true = grind (arith, nat_tests) in
    rw (t, letters_ascend (c.byte + 1) (d ∷ cs) h.1)

two_more : (a b k : ℕ) (l : List ℕ) → get_or (a ∷ b ∷ l) (2 + k) 0 ≡ get_or l k 0
two_more a b k l = let e : 2 + k ≡ suc (suc k) = omega arith in rw e

sparse_order : (h n : ℕ) (letters more : List ℕ) → n ≡ length letters → 0 < n → ascends letters ≡ true → in_order Sparse n (h ∷ n ∷ (letters ++ more)) ≡ true
unfolding in_order
sparse_order h n letters more e some up =
    let first : nat_lt 0 n ≡ true = grind (arith, nat_tests) in
    rw (first, take_front letters more n e, up)

sparse_distance : (width n h i : ℕ) (letters ds more : List ℕ) → n ≡ length letters → RowReads width → AllByRecursion (λ d. d < 2 ^ width) ds → i < length ds
    → distance_at Sparse width n ((h ∷ n ∷ letters) ++ row_of_bits width ds ++ more) i ≡ get_or ds i 0
unfolding distance_at
sparse_distance width n h i letters ds more e reads all l =
    let at : 16 + 8 * n + i * width ≡ 8 * length (h ∷ n ∷ letters) + i * width = omega arith in
    ap (λ k. bits_at ((h ∷ n ∷ letters) ++ row_of_bits width ds ++ more) k width) at ∙ reads (h ∷ n ∷ letters) more ds i all l

sparse_child : (width n h i : ℕ) (cs : List Child) (bytes more : List ℕ) → bytes ≡ h ∷ n ∷ (map letter_of cs ++ more) → i < length cs → distance_at Sparse width n bytes i ≡ get_or (map distance_of cs) i 0 → 0 < get_or (map distance_of cs) i 0
    → child_by (record { shape = Sparse; width = width }) n bytes i ≡ Some (get_or cs i no_child)
unfolding child_by letter_at
sparse_child width n h i cs bytes more e l d some =
    let c = get_or cs i no_child in
    let letter : get_or bytes (2 + i) 0 ≡ c.byte = ap (λ l. get_or l (2 + i) 0) e ∙ two_more h n i (map letter_of cs ++ more) ∙ letter_is cs more i l in
    let distance : distance_at Sparse width n bytes i ≡ c.distance = d ∙ distance_is cs i l in
    let there : 0 < c.distance = omega (arith, some, distance_is cs i l) in
    ap (λ k. child_at_distance k (distance_at Sparse width n bytes i)) letter ∙ ap (λ k. child_at_distance c.byte k) distance ∙ child_again c.byte c.distance there

pub sparse_again : (number width : ℕ) → number < 16 → get_or kinds number (record { shape = Leaf; width = 0 }) ≡ record { shape = Sparse; width = width } → RowFits width → RowReads width → Again number (record { shape = Sparse; width = width })
sparse_again number width small kind_is row_fits row_reads p rest position good =
    let cs = p.children in
    let len = length p.payload in
    let n = length cs in
    let letters = map letter_of cs in
    let ds = map distance_of cs in
    let row = row_of_bits width ds in
    let head = 16 * number + len in
    let bytes = ((head ∷ n ∷ (letters ++ row)) ++ p.payload) ++ rest in
    let kind : Kind = record { shape = Sparse; width = width } in
    let n_letters : length letters ≡ n = length-map cs letter_of in
    let n_ds : length ds ≡ n = length-map cs distance_of in
    let n_row : length row ≡ div_ceil (n * width) 8 = row_fits ds ∙ ap (λ n. div_ceil (n * width) 8) n_ds in
    let high : head / 16 ≡ number = omega (arith, good.short) in
    let low : head % 16 ≡ len = omega (arith, good.short) in
    let paid : payload_len Sparse (byte_at bytes 0 % 16) ≡ len = ap (λ k. if nat_lt k 8 then k else 0) low ∙ own_len len good.short in
    let size : body_len Sparse width n + payload_len Sparse (byte_at bytes 0 % 16) ≤ length bytes = omega (arith, paid, n_letters, n_row, length-append ((letters ++ row) ++ p.payload) rest, length-append (letters ++ row) p.payload, length-append letters row) in
    let by_letters : bytes ≡ head ∷ n ∷ (letters ++ (row ++ (p.payload ++ rest))) = ap (λ l. head ∷ n ∷ l) (simp append_assoc) in
    let by_row : bytes ≡ (head ∷ n ∷ letters) ++ row ++ (p.payload ++ rest) = ap (λ l. head ∷ n ∷ l) (append_assoc (letters ++ row) p.payload rest) in
    let ordered : in_order Sparse n bytes ≡ true = ap (λ l. in_order Sparse n l) by_letters ∙ sparse_order head n letters (row ++ (p.payload ++ rest)) (sym n_letters) good.shape.0 (letters_ascend 0 cs good.order) in
    let distances : (i : ℕ) → i < n → distance_at Sparse width n bytes i ≡ get_or ds i 0 =
    λ i l. ap (λ b. distance_at Sparse width n b i) by_row ∙ sparse_distance width n head i letters ds (p.payload ++ rest) (sym n_letters) row_reads (below_all width position ds good.fits) (omega (arith, n_ds)) in
    let each : (i : ℕ) → i < n → FitsIn width position (get_or ds i 0) = λ i l. fits_at width position ds i good.fits (omega (arith, n_ds)) in
    let child : (i : ℕ) → i < n → child_by kind n bytes i ≡ get_or (map some_child cs) i None = λ i l. sparse_child width n head i cs bytes (row ++ (p.payload ++ rest)) by_letters l (distances i l) (each i l).0 ∙ sym (some_is cs i l) in
    let all : map (child_by kind n bytes) (range_with_len 0 n) ≡ map some_child cs = sym (fill_by_all (child_by kind n bytes) (map some_child cs) n None (length-map cs some_child) (λ k l. sym (child k l))) in
    again kind n position bytes p.payload cs (ap (λ n. get_or kinds n (record { shape = Leaf; width = 0 })) high ∙ kind_is) refl size ordered
    (λ i l. ap (λ d. nat_lt 0 d && nat_le d position) (distances i l) ∙ good_distance (get_or ds i 0) position (each i l).0 (each i l).1)
    (ap (λ k. nat_lt k 8) low ∙ short_len len good.short) (behind (head ∷ n ∷ (letters ++ row)) p.payload rest _ _ (omega (arith, n_letters, n_row, length-append letters row)) paid)
    (ap standing all ∙ standing_some cs)

-- a dense node: the children that stand under a range of bytes
abbrev Below : ℕ → List Child → Type 0
Below high [] = Unit {0}
Below high (c ∷ cs) = (c.byte < high) × Below high cs

wider : (a b : ℕ) (cs : List Child) → a ≤ b → Below a cs → Below b cs
wider a b [] l h = tt
wider a b (c ∷ cs) l h = (omega (arith, h.0), wider a b cs l h.1)

below_last : (low : ℕ) (cs : List Child) → IsAscending low cs → Below (last_letter cs + 1) cs
below_last low [] h = tt
below_last low (c ∷ []) h = (omega arith, tt)
below_last low (c ∷ d ∷ cs) h =
    let rest = below_last (c.byte + 1) (d ∷ cs) h.1 in
    (omega (arith, rest.0, h.1.0), rest)

skip : (t : Bool) (x y : ℕ) → t ≡ false → (if t then x else y) ≡ y
skip true x y h = cc
skip false x y h = refl

take_it : (t : Bool) (x y : ℕ) → t ≡ true → (if t then x else y) ≡ x
take_it true x y h = refl
take_it false x y h = cc

under_head : (c : Child) (cs : List Child) (b : ℕ) → c.byte ≡ b → distance_under (c ∷ cs) b ≡ c.distance
under_head c cs b e = take_it (c.byte == b) c.distance (distance_under cs b) (grind (arith, nat_tests))

under_rest : (c : Child) (cs : List Child) (b : ℕ) → c.byte ≢ b → distance_under (c ∷ cs) b ≡ distance_under cs b
under_rest c cs b ne = skip (c.byte == b) c.distance (distance_under cs b) (grind (arith, nat_tests))

abbrev child_at : List Child → ℕ → Option Child
child_at cs b = child_at_distance b (distance_under cs b)

same_child : (c : Child) (b : ℕ) → c.byte ≡ b → 0 < c.distance → child_at_distance b c.distance ≡ Some c
same_child c b e some = child_again b c.distance some ∙ ap (λ k. Some (record { byte = k; distance = c.distance })) (sym e)

again_from : (a b : ℕ) (cs : List Child) → b ≤ a → IsAscending a cs → IsAscending b cs
again_from a b [] l h = tt
again_from a b (c ∷ cs) l h = (omega (arith, h.0), h.1)

standing_range : (a n : ℕ) (cs : List Child) → IsAscending a cs → Below (a + n) cs → AllByRecursion (λ d. 0 < d) (map distance_of cs) → standing (map (child_at cs) (range_with_len a n)) ≡ cs
standing_range a zero [] up below some = refl
standing_range a zero (c ∷ cs) up below some = absurd (omega (arith, up.0, below.0))
standing_range a (suc n) [] up below some = standing_range (a + 1) n [] tt tt tt
standing_range a (suc n) (c ∷ cs) up below some =
    elim (eq-or-lt_of_le up.0) as (λ _. standing (child_at (c ∷ cs) a ∷ map (child_at (c ∷ cs)) (range_with_len (a + 1) n)) ≡ c ∷ cs) [
      | inl same ↦ ap (λ x. standing (x ∷ map (child_at (c ∷ cs)) (range_with_len (a + 1) n))) (ap (child_at_distance a) (under_head c cs a (sym same)) ∙ same_child c a (sym same) some.0)
          ∙ ap (λ l. c ∷ standing l) (same_from (child_at (c ∷ cs)) (child_at cs) (a + 1) n (λ i l m. ap (child_at_distance i) (under_rest c cs i (omega arith))))
          ∙ ap (λ l. c ∷ l) (standing_range (a + 1) n cs (again_from (c.byte + 1) (a + 1) cs (omega arith) up.1) (wider (a + suc n) (a + 1 + n) cs (omega arith) below.1) some.1)
      | inr less ↦ ap (λ x. standing (x ∷ map (child_at (c ∷ cs)) (range_with_len (a + 1) n))) (ap (child_at_distance a) (absent c.byte a (c ∷ cs) (omega arith, up.1) less))
          ∙ standing_range (a + 1) n (c ∷ cs) (omega arith, up.1) (wider (a + suc n) (a + 1 + n) (c ∷ cs) (omega arith) below) some
    ]

dense_points : (i places d position : ℕ) → i < places → d ≤ position → (i ≡ 0 → 0 < d) → (i + 1 ≡ places → 0 < d) → points_back Dense places position i d ≡ true
dense_points zero places d position l back first last = good_distance d position (first refl) back
dense_points (suc i) places d position l back first last =
    elim (cases_lt (suc i + 1) places) as (λ _. points_back Dense places position (suc i) d ≡ true) [
      | inl inside ↦ grind (arith, nat_tests)
      | inr edge ↦ (let some = last (omega arith) in grind (arith, nat_tests))
    ]

under_last : (low : ℕ) (c : Child) (cs : List Child) → IsAscending low (c ∷ cs) → AllByRecursion (λ d. 0 < d) (map distance_of (c ∷ cs)) → 0 < distance_under (c ∷ cs) (last_letter (c ∷ cs))
under_last low c [] up some = omega (arith, under_head c [] c.byte refl, some.0)
under_last low c (d ∷ cs) up some =
    let h = under_last (c.byte + 1) d cs up.1 some.1 in
    let l = last_from (c.byte + 1) (d ∷ cs) up.1 in
    omega (arith, h, under_rest c (d ∷ cs) (last_letter (d ∷ cs)) (omega (arith, l, up.1.0)))

all_some : (width position : ℕ) (ds : List ℕ) → AllByRecursion (FitsIn width position) ds → AllByRecursion (λ d. 0 < d) ds
all_some width position [] h = tt
all_some width position (d ∷ ds) h = (h.0.0, all_some width position ds h.1)

greatest_fits : (width position : ℕ) (c : Child) (cs : List Child) → AllByRecursion (FitsIn width position) (map distance_of (c ∷ cs)) → (greatest (c ∷ cs) < 2 ^ width) × (greatest (c ∷ cs) ≤ position)
greatest_fits width position c [] h = (omega (arith, h.0.2), omega (arith, h.0.1))
greatest_fits width position c (d ∷ cs) h =
    let rest = greatest_fits width position d cs h.1 in
    (omega (arith, h.0.2, rest.0), omega (arith, h.0.1, rest.1))

dense_distance : (width head first more i : ℕ) (cs : List Child) (rest : List ℕ) → RowReads width → AllByRecursion (λ d. d < 2 ^ width) (dense_row cs) → first ≡ first_letter cs → i < last_letter cs - first_letter cs + 1
    → distance_at Dense width (last_letter cs - first_letter cs + 1) ((head ∷ first ∷ more ∷ []) ++ row_of_bits width (dense_row cs) ++ rest) i ≡ distance_under cs (first + i)
unfolding distance_at
dense_distance width head first more i cs rest reads all e l =
    let places = last_letter cs - first_letter cs + 1 in
    let at : 24 + i * width ≡ 8 * length (head ∷ first ∷ more ∷ []) + i * width = omega arith in
    ap (λ k. bits_at ((head ∷ first ∷ more ∷ []) ++ row_of_bits width (dense_row cs) ++ rest) k width) at
    ∙ reads (head ∷ first ∷ more ∷ []) rest (dense_row cs) i all (omega (arith, length-map-range_with_len (distance_under cs) (first_letter cs) places))
    ∙ get_or-map-range_with_len (distance_under cs) (first_letter cs) places i (first + i) 0 l (omega arith)

dense_by : (number width : ℕ) (c : Child) (cs : List Child) (payload rest : List ℕ) (position : ℕ) → number < 16 → get_or kinds number (record { shape = Leaf; width = 0 }) ≡ record { shape = Dense; width = width } → RowFits width → RowReads width
    → Good (record { shape = Dense; width = width }) (record { payload = payload; children = c ∷ cs }) position
    → IsOkAnd (node_at ((body number Dense width (length payload) (c ∷ cs) ++ payload) ++ rest) position) (Means payload (c ∷ cs))
unfolding in_order child_by letter_at
dense_by number width c cs payload rest position small kind_is row_fits row_reads good =
    let all = c ∷ cs in
    let len = length payload in
    let first = c.byte in
    let last = last_letter all in
    let places = last - first + 1 in
    let row = row_of_bits width (dense_row all) in
    let head = 16 * number + len in
    let front = head ∷ first ∷ (last - first) ∷ row in
    let bytes = (front ++ payload) ++ rest in
    let kind : Kind = record { shape = Dense; width = width } in
    let ordered : first ≤ last = last_from 0 all good.order in
    let n_row : length row ≡ div_ceil (places * width) 8 = row_fits (dense_row all) ∙ ap (λ n. div_ceil (n * width) 8) (length-map-range_with_len (distance_under all) first places) in
    let high : head / 16 ≡ number = omega (arith, good.short) in
    let low : head % 16 ≡ len = omega (arith, good.short) in
    let paid : payload_len Dense (byte_at bytes 0 % 16) ≡ len = ap (λ k. if nat_lt k 8 then k else 0) low ∙ own_len len good.short in
    let fit = greatest_fits width position c cs good.fits in
    let some = all_some width position (map distance_of all) good.fits in
    let by_row : bytes ≡ (head ∷ first ∷ (last - first) ∷ []) ++ row ++ (payload ++ rest) = ap (λ l. head ∷ first ∷ (last - first) ∷ l) (append_assoc row payload rest) in
    let distances : (i : ℕ) → i < places → distance_at Dense width places bytes i ≡ distance_under all (first + i) =
    λ i l. ap (λ b. distance_at Dense width places b i) by_row ∙ dense_distance width head first (last - first) i all (payload ++ rest) row_reads (row_within all first places (2 ^ width) fit.0) refl l in
    let size : body_len Dense width places + payload_len Dense (byte_at bytes 0 % 16) ≤ length bytes = omega (arith, paid, n_row, length-append (row ++ payload) rest, length-append row payload) in
    let in_page : nat_le (first + places) 256 ≡ true = (let below = good.last in grind (arith, nat_tests)) in
    let back : (i : ℕ) → i < places → points_back Dense places position i (distance_at Dense width places bytes i) ≡ true =
    λ i l. ap (λ d. points_back Dense places position i d) (distances i l)
    ∙ dense_points i places (distance_under all (first + i)) position l (omega (arith, under_within all (first + i), fit.1))
    (λ z. omega (arith, under_head c cs (first + i) (omega arith), some.0))
    (λ z. (let e : first + i ≡ last = omega arith in omega (arith, under_last 0 c cs good.order some, ap (distance_under all) e))) in
    let places_are : map (child_by kind places bytes) (range_with_len 0 places) ≡ map (child_at all) (range_with_len first places) =
    same_from (child_by kind places bytes) (λ i. child_at all (first + i)) 0 places (λ i z l. ap (child_at_distance (first + i)) (distances i (omega arith)))
    ∙ shifted (child_at all) first 0 places ∙ (let z : first + 0 ≡ first = omega arith in ap (λ a. map (child_at all) (range_with_len a places)) z) in
    again kind places position bytes payload all (ap (λ n. get_or kinds n (record { shape = Leaf; width = 0 })) high ∙ kind_is) refl size in_page back
    (ap (λ k. nat_lt k 8) low ∙ short_len len good.short) (behind front payload rest _ _ (omega (arith, n_row)) paid)
    (ap standing places_are ∙ standing_range first places all (omega arith, good.order.1) (wider (last + 1) (first + places) all (omega arith) (below_last 0 all good.order)) some)

dense_of : (number width : ℕ) (payload : List ℕ) (cs : List Child) (rest : List ℕ) (position : ℕ) → number < 16 → get_or kinds number (record { shape = Leaf; width = 0 }) ≡ record { shape = Dense; width = width } → RowFits width → RowReads width
    → Good (record { shape = Dense; width = width }) (record { payload = payload; children = cs }) position
    → IsOkAnd (node_at ((body number Dense width (length payload) cs ++ payload) ++ rest) position) (Means payload cs)
dense_of number width payload [] rest position small kind_is row_fits row_reads good = absurd (omega (arith, good.shape))
dense_of number width payload (c ∷ cs) rest position small kind_is row_fits row_reads good = dense_by number width c cs payload rest position small kind_is row_fits row_reads good

pub dense_again : (number width : ℕ) → number < 16 → get_or kinds number (record { shape = Leaf; width = 0 }) ≡ record { shape = Dense; width = width } → RowFits width → RowReads width → Again number (record { shape = Dense; width = width })
dense_again number width small kind_is row_fits row_reads p rest position good = dense_of number width p.payload p.children rest position small kind_is row_fits row_reads good
