-- The chain cells of a put read their bytes and are then their end.
use Rattle.std.proofs.Common.{◌≡◌, ◌≢◌, ℕ, zero, suc, ◌+◌, ◌-◌, ◌*◌, ◌/◌, ◌%◌, ◌^◌, ◌<◌, ◌≤◌, ◌==◌, if◌then◌else◌, true, List, [], ◌∷◌, length, take, drop, slice_index, refl, sym, ap, ◌∙◌, subst, arith, eq-eqb, ne_eqb}
use Rattle.std.proofs.lemmas.Bool.{cond-true, cond-false}
use Rattle.std.proofs.lemmas.List.{length-take-le, length-drop, take-append-drop}
use Rattle.cell_layout.specs.Words.{half_of, byte_of, ItemsAreBytes}
use Rattle.cell_layout.specs.Cells.{chain_cell, padded, chain_cells, chain_from, chain_entry, next_cell}
use Rattle.cell_layout.proofs.CellBytes.{bytes_taken, bytes_dropped, byte_of_chain_cell, tail_of_chain_cell, bytes_padded, padded_byte}
use Rattle.trie_image.specs.Reading.{Reads}
use Rattle.trie_image.specs.Image.{field, reading}
use Rattle.trie_image.proofs.Betters.{reads_on, cell_reads}
use Rattle.trie_image.proofs.CellWords.{Stands, stands_front, stands_back}

module _ (w : List ℕ) where
  -- one cell, entered at the first of its bytes
  pub part_reads : (c : ℕ) (bytes : List ℕ) (next p : ℕ) → Stands w c (chain_cell (padded bytes) next) → 1 ≤ length bytes → length bytes ≤ 28 → ItemsAreBytes bytes → 1 ≤ c → c < 2 ^ 26 → p ≡ 32 * c + (28 - length bytes) → Reads (reading w) p bytes next
  part_reads c bytes next p h some_ few small low high is = let four : length (chain_cell (padded bytes) next) ≡ 4 = refl in
      let end : field w c 7 ≡ next = ap (λ (x : ℕ). half_of x true) (h 3 (omega arith)) ∙ tail_of_chain_cell (padded bytes) next (bytes_padded bytes small) in
      subst (λ (x : ℕ). Reads (reading w) p bytes x) end (cell_reads w c bytes (28 - length bytes) p is (λ z. omega arith) (omega arith) (omega arith) (omega arith)
      (λ i l. let o : ℕ = 28 - length bytes + i in let back : o + length bytes - 28 ≡ i = omega arith in
      ap (λ (x : ℕ). byte_of x (o % 8)) (h (o / 8) (omega arith)) ∙ (byte_of_chain_cell (padded bytes) next (bytes_padded bytes small) o (omega arith) ∙ (padded_byte bytes o (omega arith) (omega arith) ∙ ap (λ (x : ℕ). slice_index bytes x) back))))

  -- the pointer that enters so many cells of so many bytes
  abbrev pub enters : ℕ → ℕ → ℕ → ℕ → ℕ
  enters zero f len end = end
  enters (suc n) f len end = 32 * f + (28 * suc n - len)

  next_enters : (n f len end : ℕ) → len ≡ 28 * n → next_cell f n end ≡ enters n (f + 1) len end
  next_enters zero f len end e = refl
  next_enters (suc n) f len end e = omega arith

  pub chain_reads : (n f : ℕ) (bytes : List ℕ) (end : ℕ) → Stands w f (chain_from f n bytes end) → 1 ≤ f → f + n < 2 ^ 26 → length bytes ≤ 28 * n → 28 * n < length bytes + 28 → ItemsAreBytes bytes → Reads (reading w) (enters n f (length bytes) end) bytes end
  chain_reads zero f [] end h low high few more small = refl
  chain_reads zero f (b ∷ bytes) end h low high few more small = absurd (omega arith)
  chain_reads (suc n) f bytes end h low high few more small =
      let k : ℕ = length bytes - 28 * n in let part : List ℕ = take k bytes in let after : List ℕ = drop k bytes in
      let cell : List ℕ = chain_cell (padded part) (next_cell f n end) in
      let front : length part ≡ k = length-take-le k bytes (omega arith) in let left : length after ≡ 28 * n = omega (arith, length-drop k bytes) in
      let first : Reads (reading w) (32 * f + (28 * suc n - length bytes)) part (next_cell f n end) = part_reads f part (next_cell f n end) (32 * f + (28 * suc n - length bytes)) (stands_front w f cell (chain_from (f + 1) n after end) h)
      (omega (arith, front)) (omega (arith, front)) (bytes_taken k bytes small) low (omega arith) (omega (arith, front)) in
      let others : Reads (reading w) (enters n (f + 1) (length after) end) after end = chain_reads n (f + 1) after end (stands_back w f 1 cell (chain_from (f + 1) n after end) refl h) (omega arith) (omega arith) (omega (arith, left)) (omega (arith, left)) (bytes_dropped k bytes small) in
      subst (λ (x : List ℕ). Reads (reading w) (32 * f + (28 * suc n - length bytes)) x end) (take-append-drop k bytes)
      (reads_on (reading w) part after (32 * f + (28 * suc n - length bytes)) (next_cell f n end) end first (subst (λ (x : ℕ). Reads (reading w) x after end) (sym (next_enters n f (length after) end left)) others))

  entry_is : (n f len end : ℕ) → chain_cells len ≡ n → enters n f len end ≡ (if len == 0 then end else 32 * f + (28 * n - len))
  entry_is zero f len end e = let z : len ≡ 0 = omega arith in sym (cond-true (len == 0) end (32 * f + (28 * 0 - len)) (eq-eqb len 0 z))
  entry_is (suc n) f len end e = let ne : len ≢ 0 = λ z. omega arith in sym (cond-false (len == 0) end (32 * f + (28 * suc n - len)) (ne_eqb len 0 ne))

  -- the new chain of a put, of at least as many cells as its bytes need
  pub new_chain_reads : (f : ℕ) (bytes : List ℕ) (end : ℕ) → Stands w f (chain_from f (chain_cells (length bytes)) bytes end) → 1 ≤ f → f + chain_cells (length bytes) < 2 ^ 26 → ItemsAreBytes bytes → Reads (reading w) (chain_entry f bytes end) bytes end
  new_chain_reads f bytes end h low high small = subst (λ (x : ℕ). Reads (reading w) x bytes end) (entry_is (chain_cells (length bytes)) f (length bytes) end refl) (chain_reads (chain_cells (length bytes)) f bytes end h low high (omega arith) (omega arith) small)
