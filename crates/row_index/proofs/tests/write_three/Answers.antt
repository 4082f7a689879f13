use Rattle.std.proofs.Common.{◌≡◌, ◌≤◌, ◌+◌, ◌^◌, length, arith, refl}
use Rattle.std.specs.declared.cmp.Ordering.TheVariants.{Less}
use Rattle.key_types.specs.Table.{string_cmp}
use Rattle.outside.specs.declared.store.Part.TheVariants.{Rows}
use Rattle.row_index.specs.Entries.{Block}
use Rattle.row_index.specs.Writing.{GoesBehind, RowIndexing, WritesRowIndex, block_of, no_rows, with_block}
use Rattle.row_index.specs.declared.tests.Edge.{Edge}
use Rattle.row_index.specs.declared.writer.RowWriter.{RowWriter}
use Rattle.row_index.proofs.tests.write_three.Goals as goal

abbrev empty : RowIndexing
empty = no_rows (record { generation = 1; part = Rows })

abbrev block_at : Edge → Block
block_at e = block_of e.before.now e.first.now e.offset

first_goes : (s : RowWriter) (b : Block) → WritesRowIndex s empty → length b.first ≤ 2 ^ 30 → GoesBehind s empty b
first_goes s b h few = record { writes = h; behind = tt; few = omega (arith, few) }

second_goes : (s : RowWriter) (b d : Block) → WritesRowIndex s (with_block empty b) → (string_cmp d.before b.first ≡ Less → ⊥) → length b.first + length d.first ≤ 2 ^ 30
    → GoesBehind s (with_block empty b) d
second_goes s b d h behind few = record { writes = h; behind = behind; few = omega (arith, few) }

pub add-requires-clause-block : goal.add-requires-clause-block
add-requires-clause-block c = (empty, first_goes _ (block_at c.args.second) c.new-writer.ensures (omega (arith, c.requires.room)))

pub add-requires-2-clause-block : goal.add-requires-2-clause-block
add-requires-2-clause-block c =
    let b = block_at c.args.second in
    let d = block_at c.args.third in
    let one = c.in_ok-add.ensures.added.writes empty (first_goes _ b c.new-writer.ensures (omega (arith, c.requires.room))) in
    (with_block empty b, second_goes _ b d one c.requires.behind c.requires.room)

pub finish_partition-requires-clause-some : goal.finish_partition-requires-clause-some
finish_partition-requires-clause-some c =
    let b = block_at c.args.second in
    let d = block_at c.args.third in
    let one = c.in_ok-add.ensures.added.writes empty (first_goes _ b c.new-writer.ensures (omega (arith, c.requires.room))) in
    let two = c.in_ok-add-2.ensures.added.writes (with_block empty b) (second_goes _ b d one c.requires.behind c.requires.room) in
    (with_block (with_block empty b) d, two, omega arith)

pub finish-requires : goal.finish-requires
finish-requires c =
    let b = block_at c.args.second in
    let d = block_at c.args.third in
    let one = c.in_ok-add.ensures.added.writes empty (first_goes _ b c.new-writer.ensures (omega (arith, c.requires.room))) in
    let two = c.in_ok-add-2.ensures.added.writes (with_block empty b) (second_goes _ b d one c.requires.behind c.requires.room) in
    (_, c.in_ok-at.ensures.done (with_block (with_block empty b) d) two, refl)
