-- The words of the cells that a put takes, in the order of the cells: its record, the chain of the key's last bytes, and
-- the further cells of the case that the walk met. This project's own.
use Rattle.std.specs.Prelude.{ℕ, zero, suc, ◌+◌, ◌-◌, ◌*◌, ◌/◌, ◌%◌, ◌^◌, ◌==◌, nat_le, nat_lt, if◌then◌else◌, Bool, List, [], ◌∷◌, ◌++◌, length, take, drop, map, filter, count_by, slice_index}
use Rattle.std.specs.List.{range_with_len, list_any, flat_map}
use Rattle.cell_layout.specs.Slots.{slot_bytes, slot_at}
use Rattle.cell_layout.specs.Cells.{pair, chain_cell, branch_words, prefix_words, lone_words, eight}
use Rattle.trie_image.specs.declared.exit.Stand.{Stand}
use Rattle.trie_image.specs.declared.exit.Meets.{Meets}
use Rattle.trie_image.specs.declared.exit.Meets.TheVariants.{Content, Nothing, OtherByte, End, Sparse, Full, NoLeaf, NoMid, PastContent}
use Rattle.trie_image.specs.Image.{word_of, field, cell_byte, slot_child}

-- the bytes of a chain cell that the walk passed since it entered it, at the end of a cell's 28
unfoldable pub passed_bytes : List ℕ → Stand → List ℕ
passed_bytes w s = map (λ o. if nat_le 28 (o + (s.at - s.entered)) then cell_byte w (s.at / 32) (s.at % 32 + o - 28) else 0) (range_with_len 0 28)

-- a cell for the passed bytes, where there are any
abbrev pub passed_words : List ℕ → Stand → ℕ → List ℕ
passed_words w s end = if s.at == s.entered then [] else chain_cell (passed_bytes w s) end

-- the pointer to a new node behind the passed bytes: the node's own, or that of the chain cell after it
abbrev pub over_passed : Stand → ℕ → ℕ → ℕ
over_passed s x offset = if s.at == s.entered then 32 * x + offset else 32 * (x + 1) + (28 - (s.at - s.entered))

-- the child of a chain's byte: the next byte of the cell, or its tail; a chain pointer's offset is at most 27
abbrev pub chain_rest : List ℕ → ℕ → ℕ
chain_rest w at = if at % 32 == 27 then field w (at / 32) 7 else (if nat_lt (at % 32) 27 then at + 1 else 0)

-- the split node of a full sparse node and one child more: seven bytes, a mid cell for each different first two bits, a
-- leaf cell for each different first five bits
-- the bytes of a full sparse node and the new one
abbrev pub seven : ℕ → ℕ → List ℕ
seven word b = b ∷ slot_bytes word

-- some byte has these first two bits, or these first five
abbrev pub has_mid : List ℕ → ℕ → Bool
has_mid bytes i = list_any (λ b. b / 64 == i) bytes

abbrev pub has_leaf : List ℕ → ℕ → Bool
has_leaf bytes g = list_any (λ b. b / 8 == g) bytes

-- how many mid cells, and leaf cells, come before
unfoldable pub mids_below : List ℕ → ℕ → ℕ
mids_below bytes i = count_by (has_mid bytes) (range_with_len 0 i)

unfoldable pub leaves_below : List ℕ → ℕ → ℕ
leaves_below bytes g = count_by (has_leaf bytes) (range_with_len 0 g)

-- a pointer to a mid or leaf cell, where there is one
abbrev pub inner_pointer : Bool → ℕ → ℕ
inner_pointer there cell = if there then 32 * cell + 28 else 0

-- the pointer in the top cell x for two bits, and in a mid cell for five
unfoldable pub top_field : List ℕ → ℕ → ℕ → ℕ
top_field bytes x i = inner_pointer (has_mid bytes i) (x + 1 + mids_below bytes i)

unfoldable pub mid_field : List ℕ → ℕ → ℕ → ℕ
mid_field bytes x g = inner_pointer (has_leaf bytes g) (x + 1 + mids_below bytes 4 + leaves_below bytes g)

-- the child under a byte: the new one, or the sparse node's
unfoldable pub leaf_field : List ℕ → ℕ → ℕ → ℕ → ℕ → ℕ
leaf_field w node b entry c = if c == b then entry else slot_child w node (slot_at (word_of w node 3) c)

-- the top cell
abbrev pub top_words : List ℕ → ℕ → List ℕ
top_words bytes x = pair (top_field bytes x 0) (top_field bytes x 1) ∷ pair (top_field bytes x 2) (top_field bytes x 3) ∷ 0 ∷ 0 ∷ []

-- the mid cells of the first n indices, and the leaf cells of the first n groups of eight bytes
unfoldable pub mid_words : List ℕ → ℕ → ℕ → List ℕ
mid_words bytes x n = flat_map (λ i. eight (mid_field bytes x) (8 * i)) (filter (has_mid bytes) (range_with_len 0 n))

unfoldable pub leaf_words : List ℕ → ℕ → ℕ → ℕ → List ℕ → ℕ → List ℕ
leaf_words w node b entry bytes n = flat_map (λ g. eight (leaf_field w node b entry) (8 * g)) (filter (has_leaf bytes) (range_with_len 0 n))

-- all cells of the split node in place of the sparse cell `node`, from cell x on: top, mid cells, leaf cells
abbrev pub split_node_words : List ℕ → ℕ → ℕ → ℕ → ℕ → List ℕ
split_node_words w node b entry x = top_words (seven (word_of w node 3) b) x ++ mid_words (seven (word_of w node 3) b) x 4 ++ leaf_words w node b entry (seven (word_of w node 3) b) 32

-- the cells of the case that the walk met, from cell x on: b is the key's byte there, entry the pointer to the chain of the
-- bytes after it, content the new record
abbrev pub further : List ℕ → Meets → Stand → ℕ → ℕ → ℕ → ℕ → List ℕ
further w OtherByte s b x content entry = branch_words (cell_byte w (s.at / 32) (s.at % 32)) (chain_rest w s.at) b entry ++ passed_words w s (32 * x + 30)
further w End s b x content entry = prefix_words content s.at ++ passed_words w s (32 * x + 31)
further w Full s b x content entry = split_node_words w (s.at / 32) b entry x
further w NoLeaf s b x content entry = lone_words (b % 8) entry
further w NoMid s b x content entry = lone_words (b / 8 % 8) (32 * (x + 1) + 28) ++ lone_words (b % 8) entry
further w PastContent s b x content entry = prefix_words s.at entry
further w _ s b x content entry = []

-- the pointer that the publishing store puts in its field
abbrev pub published : Meets → Stand → ℕ → ℕ → ℕ → ℕ
published Content s x content entry = content
published Nothing s x content entry = entry
published Sparse s x content entry = entry
published OtherByte s x content entry = over_passed s x 30
published End s x content entry = over_passed s x 31
published PastContent s x content entry = 32 * x + 31
published _ s x content entry = 32 * x + 28
