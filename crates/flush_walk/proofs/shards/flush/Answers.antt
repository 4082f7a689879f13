use Rattle.std.proofs.Common.{rules, List, map, ◌≡◌, refl, sym, ◌∙◌, ap, subst, arith}
use Rattle.key_types.specs.Columns.{columns_of}
use Rattle.key_types.specs.Table.{Entry}
use Rattle.shard_table.specs.Together.{left_in, shard_entries}
use Rattle.shard_table.proofs.Listed.{next_given, none_given}
use Rattle.flush_walk.specs.Flushed.{all_given}
use Rattle.flush_walk.specs.Given.{TakesEntries, entry_given, nothing_given, with_entries, with_entry}
use Rattle.flush_walk.specs.TableEntries.{AreTableEntries, given_in}
use Rattle.flush_walk.proofs.Fed.{entries_split, entries_taken, failed, finished, held_begun, never_begun, stopped_begun, takes_split, whole_end, whole_split}
use Rattle.flush_walk.proofs.shards.flush.Goals as goal

pub returns-in_err-writer-clause-written : goal.returns-in_err-writer-clause-written
returns-in_err-writer-clause-written g c =
    let columns = columns_of c.args.schema.now in
    let files = g.K.Store.files c.args.store.now in
    let entries = shard_entries c.args.table.now in
    failed c.from_residual.result (all_given c.args.generation columns files entries) files (search rules) (never_begun c.args.generation columns entries files c.requires.none)

pub returns-in_err-cursor-clause-written : goal.returns-in_err-cursor-clause-written
returns-in_err-cursor-clause-written g c =
    let columns = columns_of c.args.schema.now in
    let files = g.K.Store.files c.args.store.now in
    let entries = shard_entries c.args.table.now in
    failed c.from_residual-in_err-cursor.result (all_given c.args.generation columns files entries) files (search rules)
    (never_begun c.args.generation columns entries files c.requires.none)

pub entries-init : goal.entries-init
entries-init g c =
    let columns = columns_of c.args.schema.now in
    let files = g.K.Store.files c.args.store.now in
    let entries = shard_entries c.args.table.now in
    let first = nothing_given c.args.generation columns files in
    let left = sym c.in_ok-cursor.ensures.left in
    record {
      own = c.in_ok-cursor.ensures.own;
      given = first;
      writes = c.in_ok-writer.ensures files c.requires.none;
      entries = subst (AreTableEntries columns) left c.requires.entries;
      takes = subst (λ (es : List Entry). TakesEntries first (map (given_in columns) es)) left
          (entries_taken c.args.generation columns files entries c.requires.entries c.requires.ascend c.requires.few);
      whole = ap (λ (es : List Entry). with_entries first (map (given_in columns) es)) c.in_ok-cursor.ensures.left;
      later = omega arith;
    }

pub returns-in_err-next_into-clause-written : goal.returns-in_err-next_into-clause-written
returns-in_err-next_into-clause-written g c =
    let columns = columns_of c.args.schema.now in
    let held = c.entries.invariant in
    let all = all_given c.args.generation columns (g.K.Store.files c.args.store.now) (shard_entries c.args.table.now) in
    let now = g.K.Store.files c.entries.store in
    failed c.from_residual-in_err-next_into.result all now (search rules)
    (held_begun c.args.generation columns held.given all (left_in c.args.table.now c.entries.cursor) c.entries.writer now held.writes held.takes held.whole)

pub entries-preserved : goal.entries-preserved
entries-preserved g c =
    let generation = c.args.generation in
    let columns = columns_of c.args.schema.now in
    let held = c.entries.invariant in
    let table = c.args.table.now in
    let all = all_given generation columns (g.K.Store.files c.args.store.now) (shard_entries table) in
    let next =
    next_given (left_in table c.entries.cursor) (left_in table c.next_into.new.cursor) c.in_ok-next_into.field-0 c.next_into.new.key c.next_into.new.value c.if-branch.true
    c.in_ok-next_into.ensures.gives in
    let e = entry_given c.part.result.0.now c.part.result.1.now c.as_slice-in-entries.result.now in
    let takes = takes_split generation columns held.given all next c.as_slice.ensures c.part.ensures.partition c.part.ensures.clustering c.as_slice-in-entries.ensures held.takes in
    record {
      own = c.in_ok-next_into.ensures.own;
      given = with_entry held.given e;
      writes = c.in_ok-add.ensures.added.writes held.given held.writes takes.0;
      entries = (entries_split generation columns next held.entries).1;
      takes = takes.1;
      whole = whole_split generation columns held.given all next c.as_slice.ensures c.part.ensures.partition c.part.ensures.clustering c.as_slice-in-entries.ensures held.whole;
      later = omega (arith, held.later, c.add.ensures.later);
    }

pub returns-in_err-add-clause-written : goal.returns-in_err-add-clause-written
returns-in_err-add-clause-written g c =
    let generation = c.args.generation in
    let columns = columns_of c.args.schema.now in
    let held = c.entries.invariant in
    let table = c.args.table.now in
    let all = all_given generation columns (g.K.Store.files c.args.store.now) (shard_entries table) in
    let next =
    next_given (left_in table c.entries.cursor) (left_in table c.next_into.new.cursor) c.in_ok-next_into.field-0 c.next_into.new.key c.next_into.new.value c.if-branch.true
    c.in_ok-next_into.ensures.gives in
    let now = g.K.Store.files c.add.new.store in
    let takes = takes_split generation columns held.given all next c.as_slice.ensures c.part.ensures.partition c.part.ensures.clustering c.as_slice-in-entries.ensures held.takes in
    let left = c.in_err-add.ensures.added.begun held.given held.writes takes.0 in
    failed c.from_residual-in_err-add.result all now (search rules)
    (stopped_begun generation columns held.given all next c.as_slice.ensures c.part.ensures.partition c.part.ensures.clustering c.as_slice-in-entries.ensures c.entries.writer
    (g.K.Store.files c.entries.store) now held.writes held.takes held.whole left)
