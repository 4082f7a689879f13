-- An image read by the layout of cells: which record and which children each kind of pointer has. After the node types of
-- Apache Cassandra's InMemoryTrie.md; the layout of cells is this project's own.
use Rattle.std.specs.Prelude.{ℕ, ◌+◌, ◌*◌, ◌/◌, ◌%◌, ◌==◌, nat_lt, if◌then◌else◌, false, List, slice_index, Option, Some, None}
use Rattle.cell_layout.specs.declared.Kind.{Kind}
use Rattle.cell_layout.specs.declared.Kind.TheVariants.{Content, Chain, Sparse, Wide, Prefix}
use Rattle.cell_layout.specs.Words.{half_of, byte_of}
use Rattle.cell_layout.specs.Pointers.{kind_at, record_cell}
use Rattle.cell_layout.specs.Slots.{slot_at}
use Rattle.trie_image.specs.Reading.{Reading}

-- word i of a cell, its half i of eight, its byte i of 32
abbrev pub word_of : List ℕ → ℕ → ℕ → ℕ
word_of w c i = slice_index w (4 * c + i)

abbrev pub field : List ℕ → ℕ → ℕ → ℕ
field w c i = half_of (word_of w c (i / 2)) (i % 2 == 1)

abbrev pub cell_byte : List ℕ → ℕ → ℕ → ℕ
cell_byte w c o = byte_of (word_of w c (o / 8)) (o % 8)

-- a chain pointer's child: the next byte of its cell, or the cell's tail
abbrev pub chain_child : List ℕ → ℕ → ℕ → ℕ
chain_child w p b = if cell_byte w (p / 32) (p % 32) == b then (if p % 32 == 27 then field w (p / 32) 7 else p + 1) else 0

-- a sparse node's child: the pointer in the slot that its order word finds for the byte
abbrev pub slot_child : List ℕ → ℕ → Option ℕ → ℕ
slot_child w c None = 0
slot_child w c (Some s) = field w c s

-- the pointer in a leaf cell, reached from a mid cell, reached from a top cell; a pointer 0 on the way is none
abbrev pub leaf_child : List ℕ → ℕ → ℕ → ℕ
leaf_child w l b = if l == 0 then 0 else field w (l / 32) (b % 8)

abbrev pub mid_child : List ℕ → ℕ → ℕ → ℕ
mid_child w m b = if m == 0 then 0 else leaf_child w (field w (m / 32) (b / 8 % 8)) b

abbrev pub split_child : List ℕ → ℕ → ℕ → ℕ
split_child w c b = if nat_lt b 256 then mid_child w (field w c (b / 64)) b else 0

-- the child of a node that is no prefix
abbrev pub node_child : List ℕ → ℕ → ℕ → Option Kind → ℕ
node_child w p b (Some Chain) = chain_child w p b
node_child w p b (Some Sparse) = slot_child w (p / 32) (slot_at (word_of w (p / 32) 3) b)
node_child w p b (Some Wide) = split_child w (p / 32) b
node_child w p b _ = 0

-- a prefix cell has the children of the node under it
abbrev pub child_of : List ℕ → ℕ → ℕ → Option Kind → ℕ
child_of w p b (Some Prefix) = node_child w (field w (p / 32) 1) b (kind_at (field w (p / 32) 1))
child_of w p b k = node_child w p b k

-- a content pointer has a record, which is known by its first cell
abbrev pub content_record : ℕ → Option Kind → Option ℕ
content_record p (Some Content) = Some (record_cell p)
content_record p _ = None

-- the record of a pointer: a content pointer's, a prefix cell's content's; no other pointer has one
abbrev pub record_of : List ℕ → ℕ → Option Kind → Option ℕ
record_of w p (Some Prefix) = content_record (field w (p / 32) 0) (kind_at (field w (p / 32) 0))
record_of w p k = content_record p k

-- the trie that an image is
abbrev pub reading : List ℕ → Reading
reading w = record { record_at = λ p. record_of w p (kind_at p); child = λ p b. child_of w p b (kind_at p) }

abbrev pub root_of : List ℕ → ℕ
root_of w = half_of (slice_index w 1) false
