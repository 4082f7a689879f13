-- The words of the cells that a put makes: records, chain cells, sparse cells of two children, prefix cells, and the cells of
-- a split node. After the node types of Apache Cassandra's InMemoryTrie.md; the places in a cell are this project's own.
use Rattle.std.specs.Prelude.{ℕ, zero, suc, ◌+◌, ◌-◌, ◌*◌, ◌/◌, ◌%◌, ◌^◌, ◌==◌, nat_le, if◌then◌else◌, List, [], ◌∷◌, ◌++◌, length, take, drop, map, slice_index}
use Rattle.std.specs.List.{range_with_len}

-- cells of the record of a value of so many bytes
abbrev pub record_cells : ℕ → ℕ
record_cells v = (8 + v + 31) / 32

-- the little-endian number of some bytes
abbrev pub number_of_bytes : List ℕ → ℕ
number_of_bytes [] = 0
number_of_bytes (b ∷ bs) = b + 256 * number_of_bytes bs

-- a word of two 4-byte fields, the low one first
abbrev pub pair : ℕ → ℕ → ℕ
pair low high = high * 2 ^ 32 + low

-- eight bytes of a value as a word, filled with zeros
abbrev pub value_word : List ℕ → ℕ → ℕ
value_word value i = number_of_bytes (take 8 (drop (8 * i) value))

-- a record: the put's number and the value's length, then the value
abbrev pub record_words : ℕ → List ℕ → List ℕ
record_words number value = pair number (length value) ∷ map (value_word value) (range_with_len 0 (4 * record_cells (length value) - 1))

-- word i of a record: the put's number and the value's length, and then the value's bytes, filled with zeros
abbrev pub record_word : ℕ → List ℕ → ℕ → ℕ
record_word number value zero = length value * 2 ^ 32 + number
record_word number value (suc i) = number_of_bytes (take 8 (drop (8 * i) value))

-- a chain cell of 28 bytes and its child pointer
abbrev pub chain_cell : List ℕ → ℕ → List ℕ
chain_cell bytes tail = number_of_bytes (take 8 bytes) ∷ number_of_bytes (take 8 (drop 8 bytes)) ∷ number_of_bytes (take 8 (drop 16 bytes)) ∷ pair (number_of_bytes (take 4 (drop 24 bytes))) tail ∷ []

-- the bytes at the end of a cell's 28, zeros before them
unfoldable pub padded : List ℕ → List ℕ
padded bytes = map (λ o. if nat_le 28 (o + length bytes) then slice_index bytes (o + length bytes - 28) else 0) (range_with_len 0 28)

-- how many chain cells so many bytes take
abbrev pub chain_cells : ℕ → ℕ
chain_cells r = (r + 27) / 28

-- the child of a chain cell after which so many follow: the next cell, or the end
abbrev pub next_cell : ℕ → ℕ → ℕ → ℕ
next_cell f zero end = end
next_cell f (suc n) end = 32 * (f + 1)

-- so many chain cells from cell f on: all but the first are full, and the last one's child is the end
abbrev pub chain_from : ℕ → ℕ → List ℕ → ℕ → List ℕ
chain_from f zero bytes end = []
chain_from f (suc n) bytes end = chain_cell (padded (take (length bytes - 28 * n) bytes)) (next_cell f n end) ++ chain_from (f + 1) n (drop (length bytes - 28 * n) bytes) end

-- the pointer that enters the chain of the bytes
abbrev pub chain_entry : ℕ → List ℕ → ℕ → ℕ
chain_entry f bytes end = if length bytes == 0 then end else 32 * f + (28 * chain_cells (length bytes) - length bytes)

-- a sparse cell of two children, the lesser byte in slot 0
abbrev pub two_words : ℕ → ℕ → ℕ → ℕ → List ℕ
two_words lesser low greater high = pair low high ∷ 0 ∷ 0 ∷ (lesser + 256 * greater + 6 * 2 ^ 48) ∷ []

-- a sparse cell of the byte that stood there and the key's byte
abbrev pub branch_words : ℕ → ℕ → ℕ → ℕ → List ℕ
branch_words old child new entry = if nat_le old new then two_words old child new entry else two_words new entry old child

-- a prefix cell
abbrev pub prefix_words : ℕ → ℕ → List ℕ
prefix_words content node = pair content node ∷ 0 ∷ 0 ∷ 0 ∷ []

-- a mid or leaf cell with one pointer, at index i, word by word
abbrev pub lone_word : ℕ → ℕ → ℕ → ℕ
lone_word i p place = if i / 2 == place then (if i % 2 == 1 then pair 0 p else p) else 0

abbrev pub lone_words : ℕ → ℕ → List ℕ
lone_words i p = lone_word i p 0 ∷ lone_word i p 1 ∷ lone_word i p 2 ∷ lone_word i p 3 ∷ []

-- a cell of eight pointers
abbrev pub eight : (ℕ → ℕ) → ℕ → List ℕ
eight f k = pair (f k) (f (k + 1)) ∷ pair (f (k + 2)) (f (k + 3)) ∷ pair (f (k + 4)) (f (k + 5)) ∷ pair (f (k + 6)) (f (k + 7)) ∷ []
