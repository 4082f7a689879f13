use Rattle.std.proofs.Common.{◌≡◌, ◌∙◌, ◌+◌, true, false, sym, subst, List, ℕ, length, rules}
use Rattle.data_file.specs.Reading.{BeginsEnd, BeginsRow}
use Rattle.key_types.specs.Columns.{columns_of}
use Rattle.table_reader.specs.Ranges.{IsAbove, IsBelow}
use Rattle.table_reader.proofs.ScanSteps.{bad_row, ends_partition, gives_row, no_row, passes_row_below, room_there, row_above, row_length}
use Rattle.table_reader.proofs.walker.Walker.go_on.Goals as goal

pub returns-in-Ok-None : goal.returns-in-Ok-None
returns-in-Ok-None c =
    let columns = columns_of c.args.schema.now in
    let begins : BeginsEnd c.unread.result.now = search rules in
    ends_partition columns c.args.self.now c.pass.new.self c.requires.inside (room_there c.args.self.now.window _ c.unread.ensures.bytes c.unread.ensures.inside) c.pass.ensures
    (subst BeginsEnd c.unread.ensures.bytes begins)

pub returns-in-Err : goal.returns-in-Err
returns-in-Err c =
    let columns = columns_of c.args.schema.now in
    bad_row columns c.args.self.now c.damaged.result c.at.result c.requires.inside
    (no_row columns c.args.self.now.window c.unread.result.now c.row_in.result c.in-Err.field-0 c.unread.ensures.bytes c.requires.full c.in-Err.is c.row_in.ensures.short c.row_in.ensures.bad c.row_in.ensures.memory)
    c.at.ensures c.damaged.ensures

pub returns-then-is_above : goal.returns-then-is_above
returns-then-is_above c =
    let columns = columns_of c.args.schema.now in
    let row = c.in-Ok-Some.row in
    let begins : BeginsRow columns c.args.self.now.window.bytes row.clustering.now row.value.now = search rules in
    row_above columns c.args.self.now row.clustering.now row.value.now c.requires.inside begins
    (subst (λ (k : List ℕ). IsAbove c.args.self.now.to k row.clustering.now) c.as_slice-key.ensures (c.is_above.ensures.0 c.if-is_above.true))

pub returns-then-is_below : goal.returns-then-is_below
returns-then-is_below c =
    let columns = columns_of c.args.schema.now in
    let row = c.in-Ok-Some.row in
    let begins : BeginsRow columns c.args.self.now.window.bytes row.clustering.now row.value.now = search rules in
    passes_row_below columns c.args.self.now c.pass-then-is_below.new.self (5 + length row.clustering.now + length row.value.now) row.clustering.now row.value.now c.requires.inside
    (room_there c.args.self.now.window _ c.unread.ensures.bytes c.unread.ensures.inside) c.pass-then-is_below.ensures (row_length row.clustering.now row.value.now) begins
    (subst (λ (k : List ℕ). IsBelow c.args.self.now.from k row.clustering.now) c.as_slice-key.ensures (c.is_below.ensures.0 c.if-is_below.true))

pub returns : goal.returns
returns c =
    let columns = columns_of c.args.schema.now in
    let row = c.in-Ok-Some.row in
    let begins : BeginsRow columns c.args.self.now.window.bytes row.clustering.now row.value.now = search rules in
    let below : IsBelow c.args.self.now.from c.args.self.now.key row.clustering.now → ⊥ = λ low.
    let apart : true ≡ false = sym (c.is_below.ensures.1 (subst (λ (k : List ℕ). IsBelow c.args.self.now.from k row.clustering.now) (sym c.as_slice-key.ensures) low)) ∙ c.if-is_below.false in cc in
    let above : IsAbove c.args.self.now.to c.args.self.now.key row.clustering.now → ⊥ = λ high.
    let apart : true ≡ false = sym (c.is_above.ensures.1 (subst (λ (k : List ℕ). IsAbove c.args.self.now.to k row.clustering.now) (sym c.as_slice-key.ensures) high)) ∙ c.if-is_above.false in cc in
    gives_row columns c.args.self.now c.pass-2.new.self (5 + length row.clustering.now + length row.value.now) row.clustering.now row.value.now c.as_slice-key.result.now c.in_ok-entry.entry c.requires.inside
    (room_there c.args.self.now.window _ c.unread.ensures.bytes c.unread.ensures.inside) c.pass-2.ensures (row_length row.clustering.now row.value.now) begins below above c.as_slice-key.ensures c.in_ok-entry.ensures
