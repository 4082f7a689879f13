-- The words after the stores of a plan, part by part.
use Rattle.std.proofs.Common.{◌≡◌, ℕ, suc, ◌+◌, ◌-◌, ◌*◌, ◌<◌, List, [], ◌∷◌, ◌++◌, length, map, set, Option, sym, ap, ◌∙◌, arith, append_assoc, length-append}
use Rattle.std.specs.List.{range_with_len}
use Rattle.cell_layout.specs.Cells.{record_cells, value_word, record_words, chain_cells, chain_from}
use Rattle.cell_layout.proofs.WordsAt.{length_record_words, length_chain}
use Rattle.trie_image.specs.declared.StoreKind.TheVariants.{Finish}
use Rattle.trie_image.specs.declared.WordStore.{WordStore}
use Rattle.trie_image.specs.After.{after}
use Rattle.trie_image.specs.Stores.{store_at, prepares, content_of}
use Rattle.trie_image.specs.Planned.{publishing, words_planned, stores_planned}
use Rattle.trie_image.proofs.Stored.{after_append}

-- two runs of new words, one after the other
pub made_both : (w : List ℕ) (at next : ℕ) (a b : List ℕ) → next ≡ at + length a → after w (prepares at (a ++ b)) ≡ after (after w (prepares at a)) (prepares next b)
made_both w at next [] b e = let z : at ≡ next = omega arith in ap (λ (n : ℕ). after w (prepares n b)) z
made_both w at next (x ∷ a) b e = made_both (set w at x) (at + 1) next a b (omega arith)

-- the words of a value that are left, where one more is made
pub value_next : (w w' value : List ℕ) (at place n : ℕ) (x : ℕ) → place < n → x ≡ value_word value place → w' ≡ set w (at + place) x
    → after w' (prepares (at + (place + 1)) (map (value_word value) (range_with_len (place + 1) (n - (place + 1))))) ≡ after w (prepares (at + place) (map (value_word value) (range_with_len place (n - place))))
value_next w w' value at place n x l e is = let z : n - place ≡ suc (n - (place + 1)) = omega arith in let q : at + (place + 1) ≡ at + place + 1 = omega arith in let k : ℕ = n - (place + 1) in
    ap (λ (v : List ℕ). after v (prepares (at + (place + 1)) (map (value_word value) (range_with_len (place + 1) (n - (place + 1)))))) is
    ∙ (ap (λ (m : ℕ). after (set w (at + place) x) (prepares m (map (value_word value) (range_with_len (place + 1) (n - (place + 1)))))) q
    ∙ (ap (λ (v : ℕ). after (set w (at + place) v) (prepares (at + place + 1) (map (value_word value) (range_with_len (place + 1) (n - (place + 1)))))) e
    ∙ ap (λ (m : ℕ). after w (prepares (at + place) (map (value_word value) (range_with_len place m)))) (sym z)))

-- all stores, part by part
module _ (used number : ℕ) (value rest more : List ℕ) (slot : Option WordStore) (publish : WordStore) (w w1 w2 w3 w4 : List ℕ) (r n at : ℕ) where
  pub plan_made : r ≡ record_cells (length value) → n ≡ chain_cells (length rest) → at ≡ 4 * (used + r + n) → w1 ≡ after w (prepares (4 * used) (record_words number value)) → w2 ≡ after w1 (prepares (4 * (used + r)) (chain_from (used + r) n rest (content_of used)))
      → w3 ≡ after w2 (prepares at more) → w4 ≡ after w3 (publishing slot publish ++ store_at 0 number Finish ∷ []) → w4 ≡ after w (stores_planned used number value rest more slot publish)
  unfolding stores_planned words_planned
  plan_made is_r is_n is_at m1 m2 m3 m4 =
      let head : List ℕ = record_words number value in let chain : List ℕ = chain_from (used + record_cells (length value)) (chain_cells (length rest)) rest (content_of used) in
      let news : List WordStore = prepares (4 * used) (head ++ chain ++ more) in let fin : List WordStore = store_at 0 number Finish ∷ [] in
      let is_chain : chain_from (used + r) n rest (content_of used) ≡ chain_from (used + record_cells (length value)) (chain_cells (length rest)) rest (content_of used) =
      ap (λ (k : ℕ). chain_from (used + k) n rest (content_of used)) is_r ∙ ap (λ (k : ℕ). chain_from (used + record_cells (length value)) k rest (content_of used)) is_n in
      let two : after w (prepares (4 * used) (record_words number value ++ chain_from (used + record_cells (length value)) (chain_cells (length rest)) rest (content_of used))) ≡ w2 =
      made_both w (4 * used) (4 * (used + r)) head chain (omega (arith, is_r, length_record_words number value))
      ∙ (ap (λ (v : List ℕ). after v (prepares (4 * (used + r)) chain)) (sym m1) ∙ (ap (λ (l : List ℕ). after w1 (prepares (4 * (used + r)) l)) (sym is_chain) ∙ sym m2)) in
      let three : after w (prepares (4 * used) (record_words number value ++ chain_from (used + record_cells (length value)) (chain_cells (length rest)) rest (content_of used) ++ more)) ≡ w3 =
      made_both w (4 * used) at (head ++ chain) more (omega (arith, is_at, is_r, is_n, length_record_words number value, length_chain (used + record_cells (length value)) (chain_cells (length rest)) rest (content_of used), length-append head chain))
      ∙ (ap (λ (v : List ℕ). after v (prepares at more)) two ∙ sym m3) in
      m4 ∙ (ap (λ (v : List ℕ). after v (publishing slot publish ++ store_at 0 number Finish ∷ [])) (sym three)
      ∙ (sym (after_append w news (publishing slot publish ++ fin)) ∙ ap (λ (l : List WordStore). after w l) (sym (append_assoc news (publishing slot publish) fin))))
