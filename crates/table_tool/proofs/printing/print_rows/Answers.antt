use Rattle.std.proofs.Common.{◌≡◌, ◌++◌, ◌∙◌, List, ℕ, ap, arith, sym, subst}
use Rattle.key_types.specs.Columns.{columns_of}
use Rattle.key_printing.specs.Texts.{IsTextOf}
use Rattle.shard_table.specs.Together.{left_in, shard_entries}
use Rattle.shard_table.proofs.Listed.{next_given}
use Rattle.flush_walk.specs.Entries.{clustering_in, partition_in}
use Rattle.row_text.specs.Printed.{entry_line}
use Rattle.row_text.proofs.PrintedLemmas.{count_few}
use Rattle.table_tool.proofs.PrintedLemmas.{next_count, next_line, rest_are, row_few}
use Rattle.table_tool.proofs.printing.print_rows.Goals as goal

pub overflow_add-count : goal.overflow_add-count
overflow_add-count c =
    let held = c.entries.invariant in
    omega (arith, held.count, count_few (columns_of c.args.schema.now) (shard_entries c.args.table.now), c.requires.count, row_few c.part.result.1.now, c.row_at-count.ensures)

pub entries-preserved : goal.entries-preserved
entries-preserved c =
    let columns = columns_of c.args.schema.now in
    let held = c.entries.invariant in
    let table = c.args.table.now in
    let left = left_in table c.entries.cursor in
    let left' = left_in table c.next_into.new.cursor in
    let key = c.next_into.new.key in
    let value = c.next_into.new.value in
    let partition = c.part.result.0.now in
    let clustering = c.part.result.1.now in
    let next = next_given left left' c.in_ok-next_into.field-0 key value c.if-branch.true c.in_ok-next_into.ensures.gives in
    let is_partition = c.part.ensures.partition ∙ ap (λ (k : List ℕ). partition_in columns k) c.as_slice.ensures in
    let is_clustering = c.part.ensures.clustering ∙ ap (λ (k : List ℕ). clustering_in columns k) c.as_slice.ensures in
    let text : IsTextOf columns.partition partition c.turn_text.new.text = c.in_ok-turn_text.ensures.text in
    let line : c.put_entry.new.out ≡ c.entries.out ++ entry_line columns (partition ++ clustering, value) =
    c.in_ok-put_entry.ensures partition (subst (IsTextOf columns.partition partition) (sym c.as_slice-in-entries.ensures) text)
    ∙ ap (λ (v : List ℕ). c.entries.out ++ entry_line columns (partition ++ clustering, v)) c.as_slice-in-entries-2.ensures in
    record {
      own = c.in_ok-next_into.ensures.own;
      entries = rest_are columns left left' key value partition clustering next is_partition is_clustering held.entries;
      text = λ some. subst (λ (s : List ℕ). IsTextOf columns.partition s c.turn_text.new.text) (sym c.in_ok-turn_text.ensures.last) text;
      lines = next_line columns left left' key value partition clustering next is_partition is_clustering held.entries c.entries.out c.put_entry.new.out _ line held.lines;
      count = next_count columns left left' key value partition clustering next is_partition is_clustering held.entries c.entries.count c.row_at-count.result _ c.row_at-count.ensures held.count;
    }
