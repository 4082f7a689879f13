-- What `load` leaves and says where its files were added.
use Rattle.std.proofs.Common.{◌≡◌, ℕ, ◌≤◌, List, length, map, Option, None, Some, Result, Ok, IfSome, inl, inr, refl, ◌∙◌, sym, ap, subst}
use Rattle.std.specs.Prelude.{T}
use Rattle.std.specs.FinMap.Entries.{is_sorted}
use Rattle.outside.specs.Told.{WhereTold}
use Rattle.outside.specs.Files.{Files}
use Rattle.key_types.specs.Columns.{Columns}
use Rattle.key_types.specs.Table.{Entry, string_cmp}
use Rattle.data_file.specs.Listing.{Partition}
use Rattle.script_text.specs.Puts.{Put}
use Rattle.script_text.specs.Script.{puts_of}
use Rattle.script_text.specs.declared.script.Script.{Script}
use Rattle.table_tool.specs.declared.status.Status.{Status}
use Rattle.table_files.specs.SchemaFile.{HaveSchemaFile}
use Rattle.table_files.specs.Standing.{StandFor}
use Rattle.flush_walk.specs.Given.{Flushing, TakesEntries, map_entry, nothing_given, partitions_given}
use Rattle.flush_walk.specs.Writing.{AddsFour, AreCounts, BeginsFiles, StandForGiven, files_of_table}
use Rattle.flush_walk.proofs.Final.{added_have, all_begun}
use Rattle.flush_walk.proofs.Onward.{AreTaken, all_taken, same_all}
use Rattle.flush_walk.specs.Entries.{row_count}
use Rattle.table_tool.specs.First.{first_generation}
use Rattle.flush_walk.specs.Flushed.{all_given}
use Rattle.table_tool.specs.Loading.{ArePartitionsOf, Begun, ChangesFiles, Loaded, ok_line}
use Rattle.table_tool.specs.Rows.{rows_of, table_put}
use Rattle.flush_walk.specs.TableEntries.{AreTableEntries, given_in}
use Rattle.flush_walk.proofs.Fed.{count_all, entries_back, entries_taken, no_table}
use Rattle.table_tool.proofs.RowLemmas.{rows_sorted}
use Rattle.table_tool.proofs.Told.{told_none, told_so}

pub no_changes : (columns : Columns) (expected : Result Script Status) (f : Option Files) → WhereTold f f (ChangesFiles columns expected)
no_changes columns expected f = told_none f _ (λ xs. inl refl)

pub sorted : (puts : List Put) (rows : List Entry) → rows ≡ rows_of puts → T (is_sorted string_cmp rows)
sorted puts rows is = subst (λ (es : List Entry). T (is_sorted string_cmp es)) (sym is) (rows_sorted puts)

pub rows_taken : (columns : Columns) (puts : List Put) (rows : List Entry) (files : Option Files) → rows ≡ rows_of puts → AreTableEntries columns rows → length rows ≤ 1000000
    → TakesEntries (nothing_given first_generation columns files) (map (given_in columns) rows)
rows_taken columns puts rows files is are few = entries_taken first_generation columns files rows are (sorted puts rows is) few

module _ (columns : Columns) (script : Script) (rows : List Entry) (f0 f1 : Option Files) (is : rows ≡ rows_of (puts_of script.batches)) (are : AreTableEntries columns rows) (few : length rows ≤ 1000000) where
  abbrev puts : List Put
  puts = puts_of script.batches

  abbrev all : Flushing
  all = all_given first_generation columns f0 rows

  abbrev partitions : List Partition
  partitions = partitions_given all

  given : AreTaken (nothing_given first_generation columns f0) all (map map_entry (map (given_in columns) rows))
  given = all_taken (nothing_given first_generation columns f0) (map (given_in columns) rows) (rows_taken columns puts rows f0 is are few) (no_table first_generation columns)

  pub are_of : ArePartitionsOf columns partitions (rows_of puts)
  are_of = record { table = given.table; same = given.entries ∙ entries_back first_generation columns rows are ∙ is }

  generation_is : all.generation ≡ first_generation
  generation_is = (same_all (nothing_given first_generation columns f0) (map (given_in columns) rows)).generation

  columns_are : all.columns ≡ columns
  columns_are = (same_all (nothing_given first_generation columns f0) (map (given_in columns) rows)).columns

  before_is : all.before ≡ f0
  before_is = (same_all (nothing_given first_generation columns f0) (map (given_in columns) rows)).before

  added : WhereTold all.before f1 (AddsFour all.generation (files_of_table all.columns partitions)) → WhereTold f0 f1 (AddsFour first_generation (files_of_table columns partitions))
  added h =
      subst (λ (f : Option Files). WhereTold f f1 (AddsFour first_generation (files_of_table columns partitions))) before_is
      (subst (λ (g : ℕ). WhereTold all.before f1 (AddsFour g (files_of_table columns partitions))) generation_is
      (subst (λ (cs : Columns). WhereTold all.before f1 (AddsFour all.generation (files_of_table cs partitions))) columns_are h))

  begun_of : WhereTold all.before f1 (λ old new. Begun columns partitions old new) → WhereTold f0 f1 (ChangesFiles columns (Ok script))
  begun_of h =
      told_so f0 f1 _ _ (λ old new b. inr (script, partitions, refl, are_of, b))
      (subst (λ (f : Option Files). WhereTold f f1 (λ old new. Begun columns partitions old new)) before_is h)

  -- the files were begun
  pub stopped_changes : BeginsFiles all partitions f1 → WhereTold f0 f1 (ChangesFiles columns (Ok script))
  stopped_changes begins =
      begun_of
      (subst (λ (g : ℕ). BeginsFiles (record all { generation = g; columns = columns }) partitions f1) generation_is
      (subst (λ (cs : Columns). BeginsFiles (record all { columns = cs }) partitions f1) columns_are begins))

  -- the files were added
  pub added_changes : WhereTold all.before f1 (AddsFour all.generation (files_of_table all.columns partitions)) → WhereTold f0 f1 (ChangesFiles columns (Ok script))
  added_changes adds =
      let four = files_of_table columns partitions in
      told_so f0 f1 _ _ (λ old new h. inr (script, partitions, refl, are_of, (four, all_begun four, added_have first_generation four old new h))) (added adds)

  stands_one : HaveSchemaFile columns → (new : Files) → StandForGiven all new → StandFor new first_generation columns (table_put puts)
  stands_one have new stand =
      let of = subst HaveSchemaFile (sym columns_are) have in
      subst (λ (g : ℕ). StandFor new g columns (table_put puts)) generation_is
      (subst (λ (cs : Columns). StandFor new all.generation cs (table_put puts)) columns_are (stand of (table_put puts) (sym are_of.same)))

  stands : HaveSchemaFile columns → (f : Option Files) → IfSome f (StandForGiven all) → IfSome f (λ new. StandFor new first_generation columns (table_put puts))
  stands have None stand = tt
  stands have (Some new) stand = stands_one have new stand

  pub loaded : (line : List ℕ) (put_count rows_counted partitions_counted : ℕ) → HaveSchemaFile columns → put_count ≡ length puts → line ≡ ok_line put_count rows_counted partitions_counted
      → WhereTold all.before f1 (AddsFour all.generation (files_of_table all.columns partitions)) → IfSome f1 (StandForGiven all)
      → AreCounts (record { partitions = partitions_counted; rows = rows_counted }) partitions → Loaded columns puts f0 f1 line
  loaded line put_count rows_counted partitions_counted have puts_is line_is adds stand counts =
      let rows_are : rows_counted ≡ row_count columns (rows_of puts) =
      counts.rows ∙ sym (count_all first_generation columns partitions are_of.table.are) ∙ ap (row_count columns) are_of.same in
      record {
        partitions = partitions;
        are = are_of;
        added = added adds;
        stand = stands have f1 stand;
        counts =
            line_is ∙ ap (λ (n : ℕ). ok_line n rows_counted partitions_counted) puts_is ∙ ap (λ (n : ℕ). ok_line (length puts) n partitions_counted) rows_are
            ∙ ap (λ (n : ℕ). ok_line (length puts) (row_count columns (rows_of puts)) n) counts.partitions;
      }
