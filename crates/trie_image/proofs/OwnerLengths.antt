-- A put's new owners are as many as its new cells.
use Rattle.std.proofs.Common.{◌≡◌, ℕ, suc, ◌+◌, ◌-◌, ◌*◌, ◌/◌, ◌%◌, ◌==◌, Bool, true, false, cond, List, [], ◌∷◌, ◌++◌, length, filter, refl, ap, arith, length-append}
use Rattle.std.specs.List.{range_with_len}
use Rattle.cell_layout.specs.Cells.{record_cells, record_words, chain_cell, chain_cells, chain_from, branch_words, prefix_words}
use Rattle.cell_layout.proofs.WordsAt.{length_chain, length_record_words}
use Rattle.trie_image.specs.declared.Owner.TheVariants.{ChainCell, TopCell, MidCell, LeafCell}
use Rattle.trie_image.specs.declared.exit.Stand.{Stand}
use Rattle.trie_image.specs.declared.exit.Meets.{Meets}
use Rattle.trie_image.specs.declared.exit.Meets.TheVariants.{Content, Nothing, OtherByte, End, Sparse, Full, NoLeaf, NoMid, PastContent}
use Rattle.trie_image.specs.declared.exit.Exit.{Exit}
use Rattle.trie_image.specs.Image.{word_of, cell_byte}
use Rattle.trie_image.specs.Body.{passed_bytes, passed_words, chain_rest, seven, has_mid, has_leaf, mid_field, leaf_field, top_words, mid_words, leaf_words, further}
use Rattle.trie_image.specs.Stores.{prepares, content_of, entry_of, first_further, body_words}
use Rattle.trie_image.proofs.BodyLengths.{length_eights, length_branch}
use Rattle.trie_image.proofs.NewSplitNode.{mid_owners, leaf_owners, split_node_owners}
use Rattle.trie_image.proofs.NewOwners.{passed_owners, further_owners, first_owners, length_first_owners}
use Rattle.trie_image.proofs.PutLedger.{length_sent}

length_passed : (w : List ℕ) (s : Stand) (path : List ℕ) (end : ℕ) → length (passed_words w s end) ≡ 4 * length (passed_owners s path)
length_passed w s path end = by (s.at == s.entered)
  where
    by : (t : Bool) → length (cond t [] (chain_cell (passed_bytes w s) end)) ≡ 4 * length (cond t [] (ChainCell (28 - (s.at - s.entered)) path ∷ []))
    by true = refl
    by false = refl

length_split_node : (w : List ℕ) (node b entry x : ℕ) (path bytes : List ℕ) → length (top_words bytes x ++ mid_words bytes x 4 ++ leaf_words w node b entry bytes 32) ≡ 4 * length (split_node_owners bytes x path)
unfolding mid_words leaf_words
length_split_node w node b entry x path bytes = let four : length (top_words bytes x) ≡ 4 = refl in
    omega (
      arith,
      four,
      length-append (top_words bytes x ++ mid_words bytes x 4) (leaf_words w node b entry bytes 32),
      length-append (top_words bytes x) (mid_words bytes x 4),
      length_eights (mid_field bytes x) (filter (has_mid bytes) (range_with_len 0 4)),
      length_eights (leaf_field w node b entry) (filter (has_leaf bytes) (range_with_len 0 32)),
      length-append (TopCell path ∷ mid_owners bytes x) (leaf_owners bytes x),
      length_sent (λ i. MidCell x i) (filter (has_mid bytes) (range_with_len 0 4)),
      length_sent (λ k. LeafCell x (k / 8) (k % 8)) (filter (has_leaf bytes) (range_with_len 0 32)),
    )

length_further_owners : (w : List ℕ) (m : Meets) (s : Stand) (path : List ℕ) (b t x content entry : ℕ) → length (further w m s b x content entry) ≡ 4 * length (further_owners w m s path b t x)
length_further_owners w OtherByte s path b t x content entry =
    omega (arith, length-append (branch_words (cell_byte w (s.at / 32) (s.at % 32)) (chain_rest w s.at) b entry) (passed_words w s (32 * x + 30)), length_branch (cell_byte w (s.at / 32) (s.at % 32)) (chain_rest w s.at) b entry, length_passed w s path (32 * x + 30))
length_further_owners w End s path b t x content entry = let four : length (prefix_words content s.at) ≡ 4 = refl in omega (arith, length-append (prefix_words content s.at) (passed_words w s (32 * x + 31)), length_passed w s path (32 * x + 31), four)
length_further_owners w Full s path b t x content entry = length_split_node w (s.at / 32) b entry x path (seven (word_of w (s.at / 32) 3) b)
length_further_owners w NoLeaf s path b t x content entry = refl
length_further_owners w NoMid s path b t x content entry = refl
length_further_owners w PastContent s path b t x content entry = refl
length_further_owners w Content s path b t x content entry = refl
length_further_owners w Nothing s path b t x content entry = refl
length_further_owners w Sparse s path b t x content entry = refl

-- four words for each new owner
pub as_many : (w : List ℕ) (used number n : ℕ) (value start rest : List ℕ) (e : Exit) (b t : ℕ) (path : List ℕ) → length (body_words w used number value rest e b) ≡ 4 * length (first_owners n value start rest ++ further_owners w e.meets e.stand path b t (first_further used value rest))
unfolding body_words
as_many w used number n value start rest e b t path = let words : List ℕ = record_words number value in
    omega (
      arith,
      length-append (record_words number value ++ chain_from (used + record_cells (length value)) (chain_cells (length rest)) rest (content_of used)) (further w e.meets e.stand b (first_further used value rest) (content_of used) (entry_of used value rest)),
      length-append (record_words number value) (chain_from (used + record_cells (length value)) (chain_cells (length rest)) rest (content_of used)),
      length_record_words number value,
      length_chain (used + record_cells (length value)) (chain_cells (length rest)) rest (content_of used),
      length_further_owners w e.meets e.stand path b t (first_further used value rest) (content_of used) (entry_of used value rest),
      length-append (first_owners n value start rest) (further_owners w e.meets e.stand path b t (first_further used value rest)),
      length_first_owners n value start rest,
    )

pub length_prepares : (at : ℕ) (ws : List ℕ) → length (prepares at ws) ≡ length ws
length_prepares at [] = refl
length_prepares at (x ∷ ws) = ap (λ (n : ℕ). suc n) (length_prepares (at + 1) ws)
