-- The words of a put's new cells by their places.
use Rattle.std.proofs.Common.{◌≡◌, ℕ, ◌+◌, ◌*◌, List, ◌++◌, length, slice_get, Some, sym, ap, ◌∙◌, arith, length-append}
use Rattle.cell_layout.specs.Cells.{record_cells, record_words, chain_cells, chain_from}
use Rattle.cell_layout.proofs.WordsAt.{get_right, length_record_words, length_chain}
use Rattle.trie_image.specs.Stores.{content_of}
use Rattle.trie_image.specs.Planned.{words_planned}
use Rattle.trie_image.proofs.Owners.{get_front}

-- a word of a plan by the part that it is in
module _ (used number : ℕ) (value rest more : List ℕ) where
  pub in_record : (i x : ℕ) → slice_get (record_words number value) i ≡ Some x → slice_get (words_planned used number value rest more) i ≡ Some x
  unfolding words_planned
  in_record i x e = let r : List ℕ = record_words number value in let c : List ℕ = chain_from (used + record_cells (length value)) (chain_cells (length rest)) rest (content_of used) in
      get_front (r ++ c) more i x (get_front r c i x e)

  pub in_the_chain : (i j x r n : ℕ) → r ≡ record_cells (length value) → n ≡ chain_cells (length rest) → i ≡ 4 * r + j → slice_get (chain_from (used + r) n rest (content_of used)) j ≡ Some x → slice_get (words_planned used number value rest more) i ≡ Some x
  unfolding words_planned
  in_the_chain i j x r n cells long is e = let start : List ℕ = record_words number value in let c : List ℕ = chain_from (used + record_cells (length value)) (chain_cells (length rest)) rest (content_of used) in
      get_front (start ++ c) more i x (get_right start c i j (omega (arith, is, cells, length_record_words number value))
      ∙ (ap (λ (k : ℕ). slice_get (chain_from (used + k) (chain_cells (length rest)) rest (content_of used)) j) (sym cells) ∙ (ap (λ (k : ℕ). slice_get (chain_from (used + r) k rest (content_of used)) j) (sym long) ∙ e)))

  pub in_more : (i j x : ℕ) → i ≡ 4 * record_cells (length value) + 4 * chain_cells (length rest) + j → slice_get more j ≡ Some x → slice_get (words_planned used number value rest more) i ≡ Some x
  unfolding words_planned
  in_more i j x is e = let r : List ℕ = record_words number value in let c : List ℕ = chain_from (used + record_cells (length value)) (chain_cells (length rest)) rest (content_of used) in
      get_right (r ++ c) more i j (omega (arith, is, length_record_words number value, length_chain (used + record_cells (length value)) (chain_cells (length rest)) rest (content_of used), length-append r c)) ∙ e

  pub length_planned : length (words_planned used number value rest more) ≡ 4 * record_cells (length value) + 4 * chain_cells (length rest) + length more
  unfolding words_planned
  length_planned = let r : List ℕ = record_words number value in let c : List ℕ = chain_from (used + record_cells (length value)) (chain_cells (length rest)) rest (content_of used) in
      omega (arith, length_record_words number value, length_chain (used + record_cells (length value)) (chain_cells (length rest)) rest (content_of used), length-append (r ++ c) more, length-append r c)
