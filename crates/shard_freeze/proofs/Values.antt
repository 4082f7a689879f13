-- The value of a record, word by word.
use Rattle.std.proofs.Common.{◌≡◌, ℕ, zero, suc, ◌+◌, ◌-◌, ◌*◌, ◌/◌, ◌%◌, ◌^◌, ◌<◌, ◌≤◌, min, true, List, [], ◌∷◌, ◌++◌, length, take, drop, get_or, slice_get, slice_index, Some, refl, sym, ap, ◌∙◌, arith}
use Rattle.std.proofs.lemmas.List.{ext_get_or, take_all, length-take-le, length-take, length-drop, take-append-drop, get_or-take, get_or-drop}
use Rattle.std.proofs.Math.Seq.{take-append-add}
use Rattle.std.specs.Int.{to_le_bytes, w64}
use Rattle.cell_layout.specs.Words.{half_of, byte_of}
use Rattle.cell_layout.specs.Cells.{record_word}
use Rattle.trie_image.specs.declared.Put.{Put}
use Rattle.trie_image.specs.declared.Owner.TheVariants.{RecordCell}
use Rattle.trie_image.specs.declared.Ledger.{Ledger}
use Rattle.trie_image.specs.Paths.{owner}
use Rattle.trie_image.specs.WellFormed.{IsWellFormed, HasLedger}
use Rattle.trie_image.proofs.Kept.{own_inside}
use Rattle.trie_image.proofs.PublicLaws.{law_record_word}
use Rattle.shard_freeze.specs.Cursor.{BeginsRecord, IsRecordValue}

-- the bytes are the first ones of the value of the put whose record begins with the cell, and the value is so long
abbrev pub StartsValue : List ℕ → ℕ → ℕ → ℕ → List ℕ → Type 0
StartsValue w cell len at bytes = (g : Ledger) (cells : ℕ) → IsWellFormed w g cells → (n : ℕ) (put : Put) → slice_get g.puts n ≡ Some put → put.cell ≡ cell → (length put.value ≡ len) × (bytes ≡ take at put.value)

module _ (w : List ℕ) (g : Ledger) (cells : ℕ) (ok : IsWellFormed w g cells) (n : ℕ) (put : Put) (there : slice_get g.puts n ≡ Some put) where
  own : owner g (put.cell + 0) ≡ Some (RecordCell n 0)
  own = ok.puts.records n 0 put there (omega arith)

  pub head_inside : 4 * put.cell < length w
  head_inside = omega (arith, own_inside g.owners (put.cell + 0) (RecordCell n 0) own, ok.image.size, ok.image.capacity)

  pub cell_small : put.cell < 2 ^ 22
  cell_small = omega (arith, own_inside g.owners (put.cell + 0) (RecordCell n 0) own, ok.image.small, ok.image.capacity)

  pub value_short : length put.value ≤ 65535
  value_short = (ok.puts.values n put there).0

  few : n < 2 ^ 22
  few = let l = own_inside_puts in omega (arith, l, ok.image.fewer, ok.image.capacity, ok.image.small)
    where
      get_less : (ps : List Put) (i : ℕ) (x : Put) → slice_get ps i ≡ Some x → i < length ps
      get_less [] i x e = absurd (cc)
      get_less (y ∷ ys) zero x e = omega arith
      get_less (y ∷ ys) (suc i) x e = let h = get_less ys i x e in omega arith

      own_inside_puts : n < length g.puts
      own_inside_puts = get_less g.puts n put there

  pub head_length : half_of (slice_index w (4 * put.cell)) true ≡ length put.value
  head_length =
      let cell = ok.image.each (put.cell + 0) (RecordCell n 0) own in
      let both : Some cell.0 ≡ Some put = sym cell.1 ∙ there in let is_put : cell.0 ≡ put = cc in
      let place : 4 * (put.cell + 0) + 0 ≡ 4 * put.cell = omega arith in
      let word : slice_index w (4 * put.cell) ≡ length put.value * 2 ^ 32 + (n + 1) =
      ap (λ (k : ℕ). slice_index w k) (sym place) ∙ cell.2.words 0 (omega arith) ∙ ap (λ (p : Put). record_word (n + 1) p.value 0) is_put in
      ap (λ (x : ℕ). half_of x true) word ∙ high
    where
      high : (length put.value * 2 ^ 32 + (n + 1)) / 2 ^ 32 ≡ length put.value
      high = omega (arith, few)

low_byte : (word j : ℕ) → j < 8 → get_or (to_le_bytes w64 word) j 0 ≡ byte_of word j
low_byte word zero l = omega arith
low_byte word (suc zero) l = refl
low_byte word (suc (suc zero)) l = refl
low_byte word (suc (suc (suc zero))) l = refl
low_byte word (suc (suc (suc (suc zero)))) l = refl
low_byte word (suc (suc (suc (suc (suc zero))))) l = refl
low_byte word (suc (suc (suc (suc (suc (suc zero)))))) l = refl
low_byte word (suc (suc (suc (suc (suc (suc (suc zero))))))) l = refl
low_byte word (suc (suc (suc (suc (suc (suc (suc (suc j)))))))) l = absurd (omega arith)

-- the bytes of a word, as far as the value goes, behind those before them
pub eight_more : (value : List ℕ) (at count word : ℕ) → at % 8 ≡ 0 → at < length value → count ≡ min (length value - at) 8
    → ((j : ℕ) → j < 8 → byte_of word j ≡ slice_index value (8 * (at / 8) + j)) → take at value ++ take count (to_le_bytes w64 word) ≡ take (at + 8) value
eight_more value at count word whole more least bytes =
    let front : length (take at value) ≡ at = length-take-le at value (omega arith) in
    let back : length (drop at value) ≡ length value - at = length-drop at value in
    let part : take count (to_le_bytes w64 word) ≡ take 8 (drop at value) =
    ext_get_or 0 (take count (to_le_bytes w64 word)) (take 8 (drop at value)) (same_length back)
    (λ j l. let short : j < count = omega (arith, l, length-take-le count (to_le_bytes w64 word) (omega (arith, eight, least))) in
    get_or-take count (to_le_bytes w64 word) j 0 short ∙ low_byte word j (omega (arith, short, least)) ∙ bytes j (omega (arith, short, least))
    ∙ ap (λ (i : ℕ). slice_index value i) (place j) ∙ sym (get_or-drop at value j 0) ∙ sym (get_or-take 8 (drop at value) j 0 (omega (arith, short, least)))) in
    ap (λ (xs : List ℕ). take at value ++ xs) part
    ∙ sym (take-append-add (take at value) (drop at value) 8)
    ∙ ap (λ (i : ℕ). take (i + 8) (take at value ++ drop at value)) front
    ∙ ap (λ (xs : List ℕ). take (at + 8) xs) (take-append-drop at value)
  where
    eight : length (to_le_bytes w64 word) ≡ 8
    eight = refl

    place : (j : ℕ) → 8 * (at / 8) + j ≡ at + j
    place j = omega (arith, whole)

    same_length : length (drop at value) ≡ length value - at → length (take count (to_le_bytes w64 word)) ≡ length (take 8 (drop at value))
    same_length back = omega (arith, length-take-le count (to_le_bytes w64 word) (omega (arith, eight, least)), length-take 8 (drop at value), back, least)

-- the words of a value lie in the image
pub piece_inside : (w : List ℕ) (cell at : ℕ) (len : ℕ) → HasLedger w → BeginsRecord w cell → half_of (slice_index w (4 * cell)) true ≡ len → at < len → 4 * cell + 1 + at / 8 < length w
piece_inside w cell at len (g, cells, ok) begins is more = let b = begins g cells ok in
    let e : len ≡ length (b.1).value = sym is ∙ ap (λ (c : ℕ). half_of (slice_index w (4 * c)) true) (sym b.3) ∙ head_length w g cells ok b.0 b.1 b.2 in
    let i = law_record_word w g cells b.0 (at / 8) b.1 ok b.2 (omega (arith, more, e)) in omega (arith, i.0, b.3)

pub starts : (w : List ℕ) (cell len : ℕ) (bytes : List ℕ) → len ≡ half_of (slice_index w (4 * cell)) true → bytes ≡ [] → StartsValue w cell len 0 bytes
starts w cell len bytes is none g cells ok n put there same =
    (sym (is ∙ ap (λ (c : ℕ). half_of (slice_index w (4 * c)) true) (sym same) ∙ head_length w g cells ok n put there), none)

pub goes_on : (w : List ℕ) (cell len at count word : ℕ) (bytes bytes' : List ℕ) → StartsValue w cell len at bytes → at % 8 ≡ 0 → at < len → count ≡ min (len - at) 8
    → word ≡ slice_index w (4 * cell + 1 + at / 8) → bytes' ≡ bytes ++ take count (to_le_bytes w64 word) → StartsValue w cell len (at + 8) bytes'
goes_on w cell len at count word bytes bytes' before whole more least loaded next g cells ok n put there same =
    let b = before g cells ok n put there same in
    let i = law_record_word w g cells n (at / 8) put ok there (omega (arith, more, b.0)) in
    let here : word ≡ slice_index w (4 * put.cell + 1 + at / 8) = loaded ∙ ap (λ (c : ℕ). slice_index w (4 * c + 1 + at / 8)) (sym same) in (
      b.0,
      next ∙ ap (λ (xs : List ℕ). xs ++ take count (to_le_bytes w64 word)) b.1
          ∙ eight_more put.value at count word whole (omega (arith, more, b.0)) (least ∙ ap (λ (x : ℕ). min (x - at) 8) (sym b.0))
          (λ j l. ap (λ (x : ℕ). byte_of x j) here ∙ i.1 j l),
    )

pub all_copied : (w : List ℕ) (cell len at : ℕ) (bytes : List ℕ) → StartsValue w cell len at bytes → len ≤ at → IsRecordValue w cell bytes
all_copied w cell len at bytes before past g cells ok n put there same = let b = before g cells ok n put there same in b.1 ∙ take_all at put.value (omega (arith, past, b.0))

pub record_short : (w : List ℕ) (cell len : ℕ) → HasLedger w → BeginsRecord w cell → len ≡ half_of (slice_index w (4 * cell)) true → (len ≤ 65535) × (cell < 2 ^ 22) × (4 * cell < length w)
record_short w cell len (g, cells, ok) begins is = let b = begins g cells ok in
    let e : len ≡ length (b.1).value = is ∙ ap (λ (c : ℕ). half_of (slice_index w (4 * c)) true) (sym b.3) ∙ head_length w g cells ok b.0 b.1 b.2 in
    (omega (arith, value_short w g cells ok b.0 b.1 b.2, e), omega (arith, cell_small w g cells ok b.0 b.1 b.2, b.3), omega (arith, head_inside w g cells ok b.0 b.1 b.2, b.3))
