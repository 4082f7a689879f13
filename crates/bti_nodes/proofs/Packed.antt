-- Numbers in a row of bits.
use Rattle.std.proofs.Common.{◌≡◌, ℕ, zero, suc, ◌+◌, ◌-◌, ◌*◌, ◌/◌, ◌%◌, ◌^◌, ◌<◌, List, [], ◌∷◌, ◌++◌, length, drop, get_or, ◌∙◌, ap, arith, append_assoc}
use Rattle.std.proofs.Math.Seq.{drop-append-add}
use Rattle.std.specs.List.{flat_map, AllByRecursion}
use Rattle.std.specs.Int.{div_ceil}
use Rattle.byteorder.specs.Endian.{big_number, big_bytes}
use Rattle.byteorder.specs.Numbers.{big_number-reads_back, length-bytes_high_first}
use Rattle.bti_nodes.specs.Grammar.{bits_at}
use Rattle.bti_nodes.specs.Spelling.{twelves, row_of_bits}
use Rattle.bti_nodes.specs.Packing.{RowReads}

-- count bytes from the first on, without the last bits and without the bits before
read : ℕ → ℕ → ℕ → ℕ → List ℕ → ℕ
read count first shift width bytes = big_number count (drop first bytes) / 2 ^ shift % 2 ^ width

pub bits_behind : (xs ys : List ℕ) (at w : ℕ) → bits_at (xs ++ ys) (8 * length xs + at) w ≡ bits_at ys at w
unfolding bits_at
bits_behind xs ys at w =
    let n = length xs in
    let f = at / 8 in
    let e = div_ceil (at + w) 8 in
    let f' = (8 * n + at) / 8 in
    let e' = div_ceil (8 * n + at + w) 8 in
    let s = 8 * e - (at + w) in
    let a : f' ≡ n + f = omega arith in
    let b : e' ≡ n + e = omega arith in
    let count : e' - f' ≡ e - f = omega arith in
    let shift : 8 * e' - (8 * n + at + w) ≡ s = omega arith in
    let rest : drop f' (xs ++ ys) ≡ drop f ys = ap (λ k. drop k (xs ++ ys)) a ∙ drop-append-add xs ys f in
    ap (λ k. big_number k (drop f' (xs ++ ys)) / 2 ^ (8 * e' - (8 * n + at + w)) % 2 ^ w) count ∙ ap (λ l. big_number (e - f) l / 2 ^ (8 * e' - (8 * n + at + w)) % 2 ^ w) rest
    ∙ ap (λ k. big_number (e - f) (drop f ys) / 2 ^ k % 2 ^ w) shift

first_of_two : (a b : ℕ) (rest : List ℕ) → a < 4096 → b < 4096 → bits_at (a / 16 ∷ (a % 16 * 16 + b / 256) ∷ b % 256 ∷ rest) 0 12 ≡ a
unfolding bits_at
first_of_two a b rest p q = omega arith

second_of_two : (a b : ℕ) (rest : List ℕ) → a < 4096 → b < 4096 → bits_at (a / 16 ∷ (a % 16 * 16 + b / 256) ∷ b % 256 ∷ rest) 12 12 ≡ b
unfolding bits_at
second_of_two a b rest p q = omega arith

last_one : (a : ℕ) (rest : List ℕ) → a < 4096 → bits_at (a / 16 ∷ a % 16 * 16 ∷ rest) 0 12 ≡ a
unfolding bits_at
last_one a rest p = omega arith

-- the twelve bits at a place
twelve_at : (ds rest : List ℕ) (i : ℕ) → AllByRecursion (λ d. d < 4096) ds → i < length ds → bits_at (twelves ds ++ rest) (i * 12) 12 ≡ get_or ds i 0
twelve_at [] rest i h l = absurd (omega arith)
twelve_at (a ∷ []) rest zero h l = last_one a rest h.0
twelve_at (a ∷ []) rest (suc i) h l = absurd (omega arith)
twelve_at (a ∷ b ∷ ds) rest zero h l = first_of_two a b (twelves ds ++ rest) h.0 h.1.0
twelve_at (a ∷ b ∷ ds) rest (suc zero) h l = second_of_two a b (twelves ds ++ rest) h.0 h.1.0
twelve_at (a ∷ b ∷ ds) rest (suc (suc i)) h l =
    let at : suc (suc i) * 12 ≡ 24 + i * 12 = omega arith in
    ap (λ k. bits_at (twelves (a ∷ b ∷ ds) ++ rest) k 12) at
    ∙ bits_behind (a / 16 ∷ (a % 16 * 16 + b / 256) ∷ b % 256 ∷ []) (twelves ds ++ rest) (i * 12) 12
    ∙ twelve_at ds rest i h.1.1 (omega arith)

-- j whole bytes at the front
abbrev pub Whole : ℕ → Type 0
Whole j = (d : ℕ) (rest : List ℕ) → d < 2 ^ (8 * j) → bits_at (big_bytes j d ++ rest) 0 (8 * j) ≡ d

whole_at : (j : ℕ) → Whole j → (ds rest : List ℕ) (i : ℕ) → AllByRecursion (λ d. d < 2 ^ (8 * j)) ds → i < length ds → bits_at (flat_map (big_bytes j) ds ++ rest) (i * (8 * j)) (8 * j) ≡ get_or ds i 0
whole_at j one [] rest i h l = absurd (omega arith)
whole_at j one (d ∷ ds) rest zero h l =
    let at : 0 * (8 * j) ≡ 0 = omega arith in
    ap (λ k. bits_at ((big_bytes j d ++ flat_map (big_bytes j) ds) ++ rest) k (8 * j)) at ∙ ap (λ bytes. bits_at bytes 0 (8 * j)) (append_assoc (big_bytes j d) (flat_map (big_bytes j) ds) rest) ∙ one d (flat_map (big_bytes j) ds ++ rest) h.0
whole_at j one (d ∷ ds) rest (suc i) h l =
    let at : suc i * (8 * j) ≡ 8 * length (big_bytes j d) + i * (8 * j) = grind (arith, length-bytes_high_first j d) in
    ap (λ k. bits_at ((big_bytes j d ++ flat_map (big_bytes j) ds) ++ rest) k (8 * j)) at
    ∙ ap (λ bytes. bits_at bytes (8 * length (big_bytes j d) + i * (8 * j)) (8 * j)) (append_assoc (big_bytes j d) (flat_map (big_bytes j) ds) rest)
    ∙ bits_behind (big_bytes j d) (flat_map (big_bytes j) ds ++ rest) (i * (8 * j)) (8 * j) ∙ whole_at j one ds rest i h.1 (omega arith)

pub one_1 : Whole 1
unfolding bits_at
one_1 d rest h = rw (big_number-reads_back 1 d rest h) (omega arith)

pub one_2 : Whole 2
unfolding bits_at
one_2 d rest h = rw (big_number-reads_back 2 d rest h) (omega arith)

one_3 : Whole 3
unfolding bits_at
one_3 d rest h = rw (big_number-reads_back 3 d rest h) (omega arith)

one_4 : Whole 4
unfolding bits_at
one_4 d rest h = rw (big_number-reads_back 4 d rest h) (omega arith)

one_5 : Whole 5
unfolding bits_at
one_5 d rest h = rw (big_number-reads_back 5 d rest h) (omega arith)

regrouped : (front row rest : List ℕ) (at w : ℕ) → bits_at (front ++ row ++ rest) (8 * length front + at) w ≡ bits_at (row ++ rest) at w
regrouped front row rest at w =
    ap (λ bytes. bits_at bytes (8 * length front + at) w) (append_assoc front row rest) ∙ bits_behind front (row ++ rest) at w

pub reads_8 : RowReads 8
reads_8 front rest ds i h l = regrouped front (row_of_bits 8 ds) rest (i * 8) 8 ∙ whole_at 1 one_1 ds rest i h l

pub reads_12 : RowReads 12
reads_12 front rest ds i h l = regrouped front (row_of_bits 12 ds) rest (i * 12) 12 ∙ twelve_at ds rest i h l

pub reads_16 : RowReads 16
reads_16 front rest ds i h l = regrouped front (row_of_bits 16 ds) rest (i * 16) 16 ∙ whole_at 2 one_2 ds rest i h l

pub reads_24 : RowReads 24
reads_24 front rest ds i h l = regrouped front (row_of_bits 24 ds) rest (i * 24) 24 ∙ whole_at 3 one_3 ds rest i h l

pub reads_32 : RowReads 32
reads_32 front rest ds i h l = regrouped front (row_of_bits 32 ds) rest (i * 32) 32 ∙ whole_at 4 one_4 ds rest i h l

pub reads_40 : RowReads 40
reads_40 front rest ds i h l = regrouped front (row_of_bits 40 ds) rest (i * 40) 40 ∙ whole_at 5 one_5 ds rest i h l
