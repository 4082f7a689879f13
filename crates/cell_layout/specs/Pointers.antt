-- What a pointer names, after the node types of Apache Cassandra's InMemoryTrie.md; the offsets are this project's own.
use Rattle.std.specs.Prelude.{ℕ, ◌-◌, ◌/◌, ◌%◌, ◌^◌, ◌==◌, nat_le, if◌then◌else◌, Option, Some, None}
use Rattle.cell_layout.specs.declared.Kind.{Kind}
use Rattle.cell_layout.specs.declared.Kind.TheVariants.{Nothing, Content, Chain, Sparse, Wide, Prefix}

-- what an offset from 0 to 31 names: a byte of a chain cell, a cell of a split node, a sparse or a prefix cell; 29 names nothing
abbrev pub kind_at_offset : ℕ → Option Kind
kind_at_offset o =
    if nat_le o 27 then Some Chain
    else (if o == 28 then Some Wide else (if o == 30 then Some Sparse else (if o == 31 then Some Prefix else None)))

-- what a pointer names: 0 is nothing, a pointer whose highest bit is set is content, any other is 32 * cell + offset
abbrev pub kind_at : ℕ → Option Kind
kind_at p = if p == 0 then Some Nothing else (if nat_le (2 ^ 31) p then Some Content else kind_at_offset (p % 32))

-- the first cell of a content pointer's record: the complement of the pointer
abbrev pub record_cell : ℕ → ℕ
record_cell p = 2 ^ 32 - 1 - p

-- the index of a byte's pointer in a cell of a split node: the two highest bits, the next three, the last three
abbrev pub index_at : ℕ → ℕ → ℕ
index_at byte level = if level == 0 then byte / 64 else (if level == 1 then byte / 8 % 8 else byte % 8)
