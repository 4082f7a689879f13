use Rattle.std.proofs.Common.{◌≡◌, ◌∙◌, ◌+◌, true, false, Err, refl, sym, subst, List, ℕ, Result, length, rules}
use Rattle.std.specs.declared.cmp.Ordering.TheVariants.{Less}
use Rattle.bti_nodes.specs.declared.damage.Cause.TheVariants.{BadRow}
use Rattle.data_file.specs.Reading.{BeginsEnd, BeginsRow}
use Rattle.data_file.specs.declared.reading.DataError.TheVariants.{NoMemory}
use Rattle.key_types.specs.Columns.{columns_of}
use Rattle.key_types.specs.Table.{string_cmp}
use Rattle.table_reader.proofs.ScanSteps.{no_row, row_length}
use Rattle.data_walk.specs.declared.data_walk.DataWalk.{DataWalk}
use Rattle.data_walk.specs.declared.data_walk.Met.{Met}
use Rattle.data_walk.specs.declared.refusal.Refusal.{Refusal}
use Rattle.data_walk.specs.declared.refusal.Refusal.TheVariants.{Unread}
use Rattle.data_walk.specs.DataWalk.{MeetsRow, OverAll, begins_block}
use Rattle.data_walk.proofs.Rows.{bad_row, faulty_row, low_row, not_fault, over_end, over_first, over_row}
use Rattle.data_walk.proofs.data_walk.DataWalk.pass_row.Goals as goal

pub returns-in-Ok-None-clause-told : goal.returns-in-Ok-None-clause-told
returns-in-Ok-None-clause-told c =
    let walk : DataWalk = c.args.self.now in
    let after : DataWalk = record walk { window = c.pass.new.self } in
    let begins : BeginsEnd c.unread.result.now = search rules in
    over_end (columns_of c.args.schema.now) walk after c.pass.ensures (subst BeginsEnd c.unread.ensures.bytes begins) refl refl refl refl refl refl

pub returns-in-Err : goal.returns-in-Err
returns-in-Err c =
    let columns = columns_of c.args.schema.now in
    let walk : DataWalk = c.args.self.now in
    record {
      told = bad_row columns walk walk c.damaged_at.result c.at-at.result c.at-at.ensures c.damaged_at.ensures
          (no_row columns walk.window c.unread.result.now c.row_in.result c.in-Err.field-0 c.unread.ensures.bytes c.requires.full c.in-Err.is c.row_in.ensures.short c.row_in.ensures.bad c.row_in.ensures.memory);
      place = tt;
      key = refl;
      head = refl;
      above = λ e. cc;
      on = tt;
      inside = tt;
      near = tt;
      limit = refl;
      fault = λ e. not_fault _ c.damaged_at.result c.at-at.result BadRow refl c.damaged_at.ensures e;
    }

pub returns-then-not-ascends-clause-told : goal.returns-then-not-ascends-clause-told
returns-then-not-ascends-clause-told c =
    let walk : DataWalk = c.args.self.now in
    let columns = columns_of c.args.schema.now in
    let row = c.in-Ok-Some.row in
    let begins : BeginsRow columns walk.window.bytes row.clustering.now row.value.now = search rules in
    let off : c.ascends.result ≡ false = search rules in
    low_row columns walk walk c.clash_at.result c.at-at.result row.clustering.now row.value.now c.at-at.ensures c.clash_at.ensures begins
    (λ above. let apart : true ≡ false = sym (c.ascends.ensures.1 (subst (λ (k : List ℕ). string_cmp k row.clustering.now ≡ Less) (sym c.as_slice.ensures) above)) ∙ off in cc)

pub returns-in_err-replace-clause-told : goal.returns-in_err-replace-clause-told
returns-in_err-replace-clause-told c =
    let walk : DataWalk = c.args.self.now in
    let after : DataWalk = record walk { before = c.replace.new.held } in
    let columns = columns_of c.args.schema.now in
    let is : c.from_residual.result ≡ Err (Unread NoMemory) = search rules in
    subst (λ (r : Result Met Refusal). OverAll (MeetsRow columns) walk after r) (sym is) (faulty_row columns walk after (Unread NoMemory) tt)

pub returns-then-not-begins-clause-told : goal.returns-then-not-begins-clause-told
returns-then-not-begins-clause-told c =
    let walk : DataWalk = c.args.self.now in
    let after : DataWalk = record walk { window = c.pass-2.new.self; row = c.swap.new.y; before = c.swap.new.x; rows = walk.rows + 1 } in
    let columns = columns_of c.args.schema.now in
    let row = c.in-Ok-Some.row in
    let begins : BeginsRow columns walk.window.bytes row.clustering.now row.value.now = search rules in
    let on : c.ascends.result ≡ true = search rules in
    let same : begins_block walk.row walk.block walk.window.at ≡ false = search rules in
    over_row columns walk after (5 + length row.clustering.now + length row.value.now) row.clustering.now row.value.now c.pass-2.ensures (row_length row.clustering.now row.value.now) begins
    (subst (λ (k : List ℕ). string_cmp k row.clustering.now ≡ Less) c.as_slice.ensures (c.ascends.ensures.0 on)) refl refl (search rules) (search rules) refl same refl

pub returns-clause-told : goal.returns-clause-told
returns-clause-told c =
    let walk : DataWalk = c.args.self.now in
    let after : DataWalk = record walk { window = c.pass-2.new.self; row = c.swap.new.y; before = c.swap.new.x; block = c.at-at.result; rows = walk.rows + 1 } in
    let columns = columns_of c.args.schema.now in
    let row = c.in-Ok-Some.row in
    let begins : BeginsRow columns walk.window.bytes row.clustering.now row.value.now = search rules in
    let on : c.ascends.result ≡ true = search rules in
    let another : begins_block walk.row walk.block walk.window.at ≡ true = search rules in
    over_first columns walk after (5 + length row.clustering.now + length row.value.now) row.clustering.now row.value.now c.pass-2.ensures (row_length row.clustering.now row.value.now) begins
    (subst (λ (k : List ℕ). string_cmp k row.clustering.now ≡ Less) c.as_slice.ensures (c.ascends.ensures.0 on)) refl refl (search rules) (search rules) refl another c.at-at.ensures
