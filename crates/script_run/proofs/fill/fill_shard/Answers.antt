use Rattle.std.proofs.Common.{◌≡◌, ◌+◌, ◌<◌, ℕ, List, [], length, take, slice_get, Some, sym, ◌∙◌, ap, subst, arith}
use Rattle.std.proofs.lemmas.List.{append-nil, take_all}
use Rattle.trie_rule.specs.Rule.{opening_write_view}
use Rattle.shard_table.specs.Seats.{IsFreeWriter, TableAt}
use Rattle.shard_table.proofs.Each.{each_at, each_length}
use Rattle.script_text.specs.Puts.{Batch, Put}
use Rattle.script_text.specs.Script.{puts_of}
use Rattle.script_run.specs.Runs.{IsRunPut, MakesPuts}
use Rattle.script_run.specs.Steps.{HaveMadePuts, StopsBefore}
use Rattle.script_run.proofs.Closed.{closed_entries, closed_some}
use Rattle.script_run.proofs.Filled.{batch_made, full_here, one_made, one_shard, seat_back}
use Rattle.script_run.proofs.Told.{handed_on, same_line}
use Rattle.script_run.specs.declared.run.RunError.TheVariants as run_error
use Rattle.std.proofs.lemmas.Result.{err_from_is_err_and}
use Rattle.script_run.proofs.Room.{batch_puts, item_is, never_full}
use Rattle.script_run.proofs.fill.fill_shard.Goals as goal

pub index_mut-requires : goal.index_mut-requires
index_mut-requires c =
    let w = c.batches.workers in
    omega (arith, w.writers.ok.0, c.table.invariant.0, c.table.inside.shards.ok.0, each_length IsFreeWriter c.table.inside.shards.items w.writers.items c.batches.invariant.workers.writing)

pub fill_batch-requires-clause-may : goal.fill_batch-requires-clause-may
fill_batch-requires-clause-may c =
    let w = c.batches.workers in let shards = c.table.inside.shards.items in let seat = c.index_mut.result.now in
    let some : 0 < length w.writers.items = omega (arith, w.writers.ok.0, c.table.invariant.0, c.table.inside.shards.ok.0, each_length IsFreeWriter shards w.writers.items c.batches.invariant.workers.writing) in
    let there : slice_get shards 0 ≡ Some c.cells.result.now = ap (λ (t : TableAt). slice_get t.shards 0) c.table.view_is ∙ c.cells.ensures in
    let are = each_at IsFreeWriter shards w.writers.items 0 c.cells.result.now seat c.batches.invariant.workers.writing there (item_is w.writers.items 0 seat some (sym c.index_mut.ensures.value)) in
    (are.own, are.idle)

pub fill_batch-requires-clause-puts : goal.fill_batch-requires-clause-puts
fill_batch-requires-clause-puts c =
    let batches = c.args.batches.now in let n = c.batches.batch-index in let batch = c.batch-item.result in
    let inside : n < length batches = omega arith in
    batch_puts (IsRunPut []) batches n batch (item_is batches n batch inside (sym c.batch-item.is)) c.requires.puts

pub returns-in_err-fill_batch-clause-full : goal.returns-in_err-fill_batch-clause-full
returns-in_err-fill_batch-clause-full c line e =
    let w = c.batches.workers in let shards = c.table.inside.shards.items in let seat = c.index_mut.result.now in
    let batches = c.args.batches.now in let n = c.batches.batch-index in let batch = c.batch-item.result in
    let inside : n < length batches = omega arith in
    let at : slice_get batches n ≡ Some batch = item_is batches n batch inside (sym c.batch-item.is) in
    let some : 0 < length w.writers.items = omega (arith, w.writers.ok.0, c.table.invariant.0, c.table.inside.shards.ok.0, each_length IsFreeWriter shards w.writers.items c.batches.invariant.workers.writing) in
    let made = c.batches.invariant.made 0 seat (item_is w.writers.items 0 seat some (sym c.index_mut.ensures.value)) in
    let stops = c.in_err-fill_batch.ensures.full in
    let result = c.from_residual-in_err-fill_batch.result in
    let given = err_from_is_err_and result c.from_residual-in_err-fill_batch.ensures.1 in
    let same : stops.0 ≡ line = same_line stops.0 line (sym stops.1 ∙ handed_on result given.0 c.in_err-fill_batch.field-0.0 (run_error.Full line) given.1 given.2 e) in
    full_here c.args.cells batches n batch at seat.knows (subst (λ (l : List Put). MakesPuts (opening_write_view c.args.cells) l seat.knows) (one_shard (puts_of (take n batches))) made) line
    (subst (λ (k : ℕ). StopsBefore seat.knows batch.puts k) same stops.2)

pub returns-in_err-fill_batch-clause-room : goal.returns-in_err-fill_batch-clause-room
returns-in_err-fill_batch-clause-room c room line e =
    let puts = puts_of c.args.batches.now in
    never_full c.args.cells [] puts [] puts [] (sym (append-nil puts)) room 0 line (returns-in_err-fill_batch-clause-full c line e)

pub batches-preserved : goal.batches-preserved
batches-preserved c =
    let w = c.batches.workers in let shards = c.table.inside.shards.items in let seat = c.index_mut.result.now in let next = c.fill_batch.new.seat in
    let batches = c.args.batches.now in let n = c.batches.batch-index in let batch = c.batch-item.result in
    let inside : n < length batches = omega arith in
    let at : slice_get batches n ≡ Some batch = item_is batches n batch inside (sym c.batch-item.is) in
    let bounds : c.table.inside.bounds ≡ [] = ap (λ (t : TableAt). t.bounds) c.table.view_is ∙ c.in_ok-table.ensures.bounds ∙ c.new.ensures in
    let one : length shards ≡ 1 = omega (arith, c.table.invariant.0, c.table.inside.shards.ok.0, ap length bounds) in
    let one_writer : length w.writers.items ≡ 1 = omega (arith, one, each_length IsFreeWriter shards w.writers.items c.batches.invariant.workers.writing) in
    let some : 0 < length w.writers.items = omega (arith, one_writer) in
    let made = c.batches.invariant.made 0 seat (item_is w.writers.items 0 seat some (sym c.index_mut.ensures.value)) in
    let all : MakesPuts (opening_write_view c.args.cells) (puts_of (take (n + 1) batches)) next.knows =
    batch_made c.args.cells batches n batch at seat.knows (subst (λ (l : List Put). MakesPuts (opening_write_view c.args.cells) l seat.knows) (one_shard (puts_of (take n batches))) made) next.knows
    c.in_ok-fill_batch.ensures.made in
    let there : slice_get shards 0 ≡ Some c.cells.result.now = ap (λ (t : TableAt). slice_get t.shards 0) c.table.view_is ∙ c.cells.ensures in
    record {
      workers = record {
        writing = seat_back shards w.writers.items c.cells.result.now next one c.batches.invariant.workers.writing there c.fill_batch.ensures.may;
        reading = c.batches.invariant.workers.reading;
      };
      made = one_made c.args.cells (puts_of (take (n + 1) batches)) w.writers.items next one_writer all;
    }

pub returns-clause-entries : goal.returns-clause-entries
returns-clause-entries c =
    let w = c.batches.workers in let batches = c.args.batches.now in
    let bounds : c.table.inside.bounds ≡ [] = ap (λ (t : TableAt). t.bounds) c.table.view_is ∙ c.in_ok-table.ensures.bounds ∙ c.new.ensures in
    let one : length c.table.inside.shards.items ≡ 1 = omega (arith, c.table.invariant.0, c.table.inside.shards.ok.0, ap length bounds) in
    let made : HaveMadePuts c.args.cells [] (puts_of batches) w = subst (λ (l : List Batch). HaveMadePuts c.args.cells [] (puts_of l) w) (take_all c.batches.batch-index batches (omega arith)) c.batches.invariant.made in
    closed_entries [] c.args.cells c.table.inside.shards.items w (puts_of batches) c.in_ok-frozen.frozen one c.batches.invariant.workers made c.requires.puts c.in_ok-frozen.ensures.closed

pub returns-clause-some : goal.returns-clause-some
returns-clause-some c =
    let w = c.batches.workers in
    let bounds : c.table.inside.bounds ≡ [] = ap (λ (t : TableAt). t.bounds) c.table.view_is ∙ c.in_ok-table.ensures.bounds ∙ c.new.ensures in
    let one : length c.table.inside.shards.items ≡ 1 = omega (arith, c.table.invariant.0, c.table.inside.shards.ok.0, ap length bounds) in
    closed_some [] c.table.inside.shards.items w c.in_ok-frozen.frozen one c.batches.invariant.workers c.in_ok-frozen.ensures.closed
