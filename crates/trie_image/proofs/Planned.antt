-- The stores of a plan by their places, and that they are those of the put.
use Rattle.std.proofs.Common.{◌≡◌, ℕ, zero, suc, ◌+◌, ◌*◌, List, [], ◌∷◌, ◌++◌, length, take, drop, slice_index, slice_get, Option, Some, ap, ◌∙◌, arith, append_assoc, length-append}
use Rattle.cell_layout.specs.Cells.{record_cells, chain_cells, record_words, chain_from}
use Rattle.cell_layout.proofs.WordsAt.{get_right}
use Rattle.trie_image.specs.declared.StoreKind.TheVariants.{Prepare, Finish}
use Rattle.trie_image.specs.declared.WordStore.{WordStore}
use Rattle.trie_image.specs.declared.exit.Exit.{Exit}
use Rattle.trie_image.specs.Body.{further, published}
use Rattle.trie_image.specs.Stores.{store_at, prepares, content_of, entry_of, first_further, body_words, publish_stores, stores_from}
use Rattle.trie_image.specs.Planned.{publishing, words_planned, stores_planned}
use Rattle.trie_image.proofs.Owners.{get_front}
use Rattle.trie_image.proofs.OwnerLengths.{length_prepares}
use Rattle.trie_image.proofs.PlannedWords.{length_planned}

-- the store of a word of the new cells
prepare_at : (at : ℕ) (ws : List ℕ) (i x : ℕ) → slice_get ws i ≡ Some x → slice_get (prepares at ws) i ≡ Some (store_at (at + i) x Prepare)
prepare_at at [] i x e = absurd (cc)
prepare_at at (y ∷ ys) zero x e = let is : y ≡ x = cc in let z : at ≡ at + 0 = omega arith in ap (λ (v : ℕ). Some (store_at at v Prepare)) is ∙ ap (λ (n : ℕ). Some (store_at n x Prepare)) z
prepare_at at (y ∷ ys) (suc i) x e = let z : at + 1 + i ≡ at + suc i = omega arith in prepare_at (at + 1) ys i x e ∙ ap (λ (n : ℕ). Some (store_at n x Prepare)) z

module _ (used number : ℕ) (value rest more : List ℕ) (slot : Option WordStore) (publish : WordStore) where
  pub store_of_word : (i x : ℕ) → slice_get (words_planned used number value rest more) i ≡ Some x → slice_get (stores_planned used number value rest more slot publish) i ≡ Some (store_at (4 * used + i) x Prepare)
  unfolding stores_planned
  store_of_word i x e = get_front (prepares (4 * used) (words_planned used number value rest more) ++ publishing slot publish) (store_at 0 number Finish ∷ []) i (store_at (4 * used + i) x Prepare)
      (get_front (prepares (4 * used) (words_planned used number value rest more)) (publishing slot publish) i (store_at (4 * used + i) x Prepare) (prepare_at (4 * used) (words_planned used number value rest more) i x e))

  pub store_after : (i j : ℕ) (s : WordStore) → i ≡ 4 * record_cells (length value) + 4 * chain_cells (length rest) + length more + j → slice_get (publishing slot publish ++ store_at 0 number Finish ∷ []) j ≡ Some s → slice_get (stores_planned used number value rest more slot publish) i ≡ Some s
  unfolding stores_planned
  store_after i j s is e = let ps : List WordStore = prepares (4 * used) (words_planned used number value rest more) in
      ap (λ (l : List WordStore). slice_get l i) (append_assoc ps (publishing slot publish) (store_at 0 number Finish ∷ []))
      ∙ (get_right ps (publishing slot publish ++ store_at 0 number Finish ∷ []) i j (omega (arith, is, length_prepares (4 * used) (words_planned used number value rest more), length_planned used number value rest more)) ∙ e)

  pub length_stores : length (stores_planned used number value rest more slot publish) ≡ 4 * record_cells (length value) + 4 * chain_cells (length rest) + length more + (length (publishing slot publish) + 1)
  unfolding stores_planned
  length_stores = let ps : List WordStore = prepares (4 * used) (words_planned used number value rest more) in let fin : List WordStore = store_at 0 number Finish ∷ [] in
      omega (arith, length_prepares (4 * used) (words_planned used number value rest more), length_planned used number value rest more, length-append (ps ++ publishing slot publish) fin, length-append ps (publishing slot publish))

  -- they are those of the put, where the further words and the last stores are its own
  pub are_stores : (w : List ℕ) (e : Exit) (b : ℕ) → number ≡ slice_index w 0 + 1 → more ≡ further w e.meets e.stand b (first_further used value rest) (content_of used) (entry_of used value rest)
      → publishing slot publish ≡ publish_stores w e.meets e.stand b (entry_of used value rest) (published e.meets e.stand (first_further used value rest) (content_of used) (entry_of used value rest))
      → stores_planned used number value rest more slot publish ≡ stores_from w used value rest e b
  unfolding stores_planned words_planned body_words
  are_stores w e b n m p = let c : List ℕ = chain_from (used + record_cells (length value)) (chain_cells (length rest)) rest (content_of used) in
      ap (λ (l : List ℕ). prepares (4 * used) (record_words number value ++ c ++ l) ++ publishing slot publish ++ store_at 0 number Finish ∷ []) m
      ∙ (ap (λ (k : ℕ). prepares (4 * used) (record_words k value ++ c ++ further w e.meets e.stand b (first_further used value rest) (content_of used) (entry_of used value rest)) ++ publishing slot publish ++ store_at 0 k Finish ∷ []) n
      ∙ ap (λ (l : List WordStore). prepares (4 * used) (record_words (slice_index w 0 + 1) value ++ c ++ further w e.meets e.stand b (first_further used value rest) (content_of used) (entry_of used value rest)) ++ l ++ store_at 0 (slice_index w 0 + 1) Finish ∷ []) p)

-- a list from a place on, where the element there is known
pub drop_here : {A : Type 0} (xs : List A) (i : ℕ) (x : A) → slice_get xs i ≡ Some x → drop i xs ≡ x ∷ drop (i + 1) xs
drop_here [] i x e = absurd (cc)
drop_here (y ∷ ys) zero x e = let is : y ≡ x = cc in ap (λ z. z ∷ ys) is
drop_here (y ∷ ys) (suc i) x e = let z : suc (i + 1) ≡ suc i + 1 = omega arith in drop_here ys i x e ∙ ap (λ (n : ℕ). x ∷ drop n (y ∷ ys)) z

-- a list up to a place and one more
pub take_here : {A : Type 0} (xs : List A) (i : ℕ) (x : A) → slice_get xs i ≡ Some x → take (i + 1) xs ≡ take i xs ++ x ∷ []
take_here [] i x e = absurd (cc)
take_here (y ∷ ys) zero x e = let is : y ≡ x = cc in ap (λ z. z ∷ []) is
take_here (y ∷ ys) (suc i) x e = let z : suc i + 1 ≡ suc (i + 1) = omega arith in ap (λ (n : ℕ). take n (y ∷ ys)) z ∙ ap (λ l. y ∷ l) (take_here ys i x e)
