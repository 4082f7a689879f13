-- How many words the cells of a put have.
use Rattle.std.proofs.Common.{◌≡◌, ℕ, zero, suc, ◌+◌, ◌-◌, ◌*◌, ◌/◌, ◌%◌, ◌≤◌, ◌==◌, nat_le, List, [], ◌∷◌, ◌++◌, length, take, drop, filter, refl, arith, length-append, length-drop}
use Rattle.std.proofs.lemmas.Bool.{cond_both}
use Rattle.std.proofs.lemmas.List.FromFn.{length-map-range_with_len}
use Rattle.std.specs.List.{range_with_len, flat_map}
use Rattle.cell_layout.proofs.WordsAt.{length_record_words, length_chain}
use Rattle.cell_layout.specs.Slots.{slot_bytes}
use Rattle.cell_layout.specs.Cells.{record_cells, record_words, chain_cell, chain_cells, chain_from, two_words, branch_words, prefix_words, eight}
use Rattle.trie_image.specs.declared.exit.Stand.{Stand}
use Rattle.trie_image.specs.declared.exit.Meets.{Meets}
use Rattle.trie_image.specs.declared.exit.Meets.TheVariants.{Content, Nothing, OtherByte, End, Sparse, Full, NoLeaf, NoMid, PastContent}
use Rattle.trie_image.specs.declared.exit.Exit.{Exit}
use Rattle.trie_image.specs.Image.{word_of, cell_byte}
use Rattle.trie_image.specs.Body.{passed_bytes, passed_words, chain_rest, seven, has_mid, has_leaf, mid_field, leaf_field, top_words, mid_words, leaf_words, split_node_words, further}
use Rattle.trie_image.proofs.Costs.{few_hits}
use Rattle.trie_image.specs.Stores.{cost, rest_of, content_of, entry_of, first_further, body_words}

pub length_eights : (f : ℕ → ℕ) (xs : List ℕ) → length (flat_map (λ i. eight f (8 * i)) xs) ≡ 4 * length xs
length_eights f [] = refl
length_eights f (x ∷ xs) = let four : length (eight f (8 * x)) ≡ 4 = refl in omega (arith, length-append (eight f (8 * x)) (flat_map (λ i. eight f (8 * i)) xs), length_eights f xs, four)

pub length_mids : (bytes : List ℕ) (x n : ℕ) → length (mid_words bytes x n) ≤ 4 * length bytes
unfolding mid_words
length_mids bytes x n = omega (arith, length_eights (mid_field bytes x) (filter (has_mid bytes) (range_with_len 0 n)), few_hits (λ b. b / 64) bytes 0 n)

pub length_leaves : (w : List ℕ) (node b entry : ℕ) (bytes : List ℕ) (n : ℕ) → length (leaf_words w node b entry bytes n) ≤ 4 * length bytes
unfolding leaf_words
length_leaves w node b entry bytes n = omega (arith, length_eights (leaf_field w node b entry) (filter (has_leaf bytes) (range_with_len 0 n)), few_hits (λ b. b / 8) bytes 0 n)

pub length_seven : (word b : ℕ) → length (seven word b) ≡ 7
unfolding slot_bytes
length_seven word b = refl

length_split_node : (w : List ℕ) (node b entry x : ℕ) → length (split_node_words w node b entry x) ≤ 60
length_split_node w node b entry x = let bytes : List ℕ = seven (word_of w node 3) b in let top : List ℕ = top_words bytes x in let mid : List ℕ = mid_words bytes x 4 in let leaf : List ℕ = leaf_words w node b entry bytes 32 in
    let four : length top ≡ 4 = refl in omega (arith, length-append (top ++ mid) leaf, length-append top mid, length_mids bytes x 4, length_leaves w node b entry bytes 32, length_seven (word_of w node 3) b, four)

pub length_branch : (old child new entry : ℕ) → length (branch_words old child new entry) ≡ 4
length_branch old child new entry = cond_both (nat_le old new) (two_words old child new entry) (two_words new entry old child) (λ (l : List ℕ). length l ≡ 4) (λ e. refl) (λ e. refl)

length_passed : (w : List ℕ) (s : Stand) (end : ℕ) → length (passed_words w s end) ≤ 4
length_passed w s end = cond_both (s.at == s.entered) [] (chain_cell (passed_bytes w s) end) (λ (l : List ℕ). length l ≤ 4) (λ e. omega arith) (λ e. omega arith)

length_further : (w : List ℕ) (m : Meets) (s : Stand) (b x content entry : ℕ) → length (further w m s b x content entry) ≤ 60
length_further w OtherByte s b x content entry = let split : List ℕ = branch_words (cell_byte w (s.at / 32) (s.at % 32)) (chain_rest w s.at) b entry in
    omega (arith, length-append split (passed_words w s (32 * x + 30)), length_branch (cell_byte w (s.at / 32) (s.at % 32)) (chain_rest w s.at) b entry, length_passed w s (32 * x + 30))
length_further w End s b x content entry = let prefix : List ℕ = prefix_words content s.at in let four : length prefix ≡ 4 = refl in omega (arith, length-append prefix (passed_words w s (32 * x + 31)), length_passed w s (32 * x + 31), four)
length_further w Full s b x content entry = length_split_node w (s.at / 32) b entry x
length_further w NoLeaf s b x content entry = omega arith
length_further w NoMid s b x content entry = omega arith
length_further w PastContent s b x content entry = omega arith
length_further w Content s b x content entry = omega arith
length_further w Nothing s b x content entry = omega arith
length_further w Sparse s b x content entry = omega arith

pub length_body : (w : List ℕ) (used number : ℕ) (value rest : List ℕ) (e : Exit) (b : ℕ) → length (body_words w used number value rest e b) ≤ 4 * record_cells (length value) + 4 * chain_cells (length rest) + 60
unfolding body_words
length_body w used number value rest e b = let record_ : List ℕ = record_words number value in let chain : List ℕ = chain_from (used + record_cells (length value)) (chain_cells (length rest)) rest (content_of used) in
    let more : List ℕ = further w e.meets e.stand b (first_further used value rest) (content_of used) (entry_of used value rest) in
    omega (arith, length-append (record_ ++ chain) more, length-append record_ chain, length_record_words number value, length_chain (used + record_cells (length value)) (chain_cells (length rest)) rest (content_of used), length_further w e.meets e.stand b (first_further used value rest) (content_of used) (entry_of used value rest))

-- the new chain takes no more bytes than the key has
pub rest_short : (key : List ℕ) (m : Meets) (taken : ℕ) → length (rest_of key m taken) ≤ length key
rest_short key Content taken = omega arith
rest_short key End taken = omega arith
rest_short key Nothing taken = omega (arith, length-drop taken key)
rest_short key PastContent taken = omega (arith, length-drop taken key)
rest_short key OtherByte taken = omega (arith, length-drop (taken + 1) key)
rest_short key Sparse taken = omega (arith, length-drop (taken + 1) key)
rest_short key Full taken = omega (arith, length-drop (taken + 1) key)
rest_short key NoLeaf taken = omega (arith, length-drop (taken + 1) key)
rest_short key NoMid taken = omega (arith, length-drop (taken + 1) key)

-- the words of a put's new cells are those of at most its cost
pub at_most_cost : (w : List ℕ) (used number : ℕ) (key value : List ℕ) (e : Exit) (b : ℕ) → length (body_words w used number value (rest_of key e.meets e.taken) e b) ≤ 4 * cost (length key) (length value)
at_most_cost w used number key value e b = omega (arith, length_body w used number value (rest_of key e.meets e.taken) e b, rest_short key e.meets e.taken)
