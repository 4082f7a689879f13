use Rattle.key_types.specs.Columns.{columns_of}
use Rattle.shard_table.specs.Together.{shard_entries}
use Rattle.script_text.specs.Script.{puts_of}
use Rattle.table_tool.proofs.LoadedLemmas.{added_changes, loaded, sorted, stopped_changes}
use Rattle.table_tool.proofs.RowLemmas.{script_accepted, script_rows_are, script_rows_few}
use Rattle.table_tool.proofs.load.write_files.Goals as goal

pub flush-requires-clause-entries : goal.flush-requires-clause-entries
flush-requires-clause-entries g c =
    script_rows_are (columns_of c.args.schema.now) c.args.readers c.args.script.now (shard_entries c.args.table.now) c.requires.spelled c.requires.entries

pub flush-requires-clause-ascend : goal.flush-requires-clause-ascend
flush-requires-clause-ascend g c = sorted (puts_of c.args.script.now.batches) (shard_entries c.args.table.now) c.requires.entries

pub flush-requires-clause-few : goal.flush-requires-clause-few
flush-requires-clause-few g c =
    script_rows_few (columns_of c.args.schema.now) c.args.readers c.args.script.now (shard_entries c.args.table.now) c.requires.reader c.requires.spelled c.requires.entries

pub returns-in_err-counts-clause-changes : goal.returns-in_err-counts-clause-changes
returns-in_err-counts-clause-changes g c =
    let columns = columns_of c.args.schema.now in
    let script = c.args.script.now in
    let rows = shard_entries c.args.table.now in
    stopped_changes columns script rows (g.K.Store.files c.args.store.now) (g.K.Store.files c.flush.new.store) c.requires.entries
    (script_rows_are columns c.args.readers script rows c.requires.spelled c.requires.entries)
    (script_rows_few columns c.args.readers script rows c.requires.reader c.requires.spelled c.requires.entries) c.in_err-counts.ensures.written.begun

pub returns-in_err-ok_line-clause-changes : goal.returns-in_err-ok_line-clause-changes
returns-in_err-ok_line-clause-changes g c =
    let columns = columns_of c.args.schema.now in
    let script = c.args.script.now in
    let rows = shard_entries c.args.table.now in
    added_changes columns script rows (g.K.Store.files c.args.store.now) (g.K.Store.files c.flush.new.store) c.requires.entries
    (script_rows_are columns c.args.readers script rows c.requires.spelled c.requires.entries)
    (script_rows_few columns c.args.readers script rows c.requires.reader c.requires.spelled c.requires.entries) c.in_ok-counts.ensures.written.adds

pub returns-clause-changes : goal.returns-clause-changes
returns-clause-changes g c =
    let columns = columns_of c.args.schema.now in
    let script = c.args.script.now in
    let rows = shard_entries c.args.table.now in
    added_changes columns script rows (g.K.Store.files c.args.store.now) (g.K.Store.files c.flush.new.store) c.requires.entries
    (script_rows_are columns c.args.readers script rows c.requires.spelled c.requires.entries)
    (script_rows_few columns c.args.readers script rows c.requires.reader c.requires.spelled c.requires.entries) c.in_ok-counts.ensures.written.adds

pub returns-clause-loaded : goal.returns-clause-loaded
returns-clause-loaded g c =
    let columns = columns_of c.args.schema.now in
    let script = c.args.script.now in
    let rows = shard_entries c.args.table.now in
    let written = c.in_ok-counts.ensures.written in
    loaded columns script rows (g.K.Store.files c.args.store.now) (g.K.Store.files c.flush.new.store) c.requires.entries
    (script_rows_are columns c.args.readers script rows c.requires.spelled c.requires.entries)
    (script_rows_few columns c.args.readers script rows c.requires.reader c.requires.spelled c.requires.entries)
    c.in_ok-ok_line.field-0 script.puts c.in_ok-counts.counts.rows c.in_ok-counts.counts.partitions c.requires.columns
    (script_accepted columns c.args.readers script c.requires.reader c.requires.spelled).count c.in_ok-ok_line.ensures written.adds written.stand written.counts
