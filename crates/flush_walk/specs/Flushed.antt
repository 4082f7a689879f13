-- What a flush of all entries leaves.
use Rattle.std.specs.Prelude.{ℕ, List, map, Option, Result, IfOk, IfSome, OnErr, OnOk}
use Rattle.outside.specs.Files.{Files}
use Rattle.outside.specs.Told.{WhereTold}
use Rattle.key_types.specs.Columns.{Columns}
use Rattle.key_types.specs.Table.{Entry}
use Rattle.data_file.specs.declared.writer.Counts.{Counts}
use Rattle.flush_walk.specs.Given.{Flushing, nothing_given, partitions_given, with_entries}
use Rattle.flush_walk.specs.TableEntries.{given_in}
use Rattle.flush_walk.specs.Writing.{AddsFour, AreCounts, BeginsFiles, StandForGiven, files_of_table}

-- what the writer of the files was given when all entries are
abbrev pub all_given : ℕ → Columns → Option Files → List Entry → Flushing
all_given generation columns files entries = with_entries (nothing_given generation columns files) (map (given_in columns) entries)

-- At Ok the files of all that was given were added, they stand for it, and the counts are its; after an error a part of
-- them stands.
pub record Flushes (w : Flushing) (after : Option Files) {E : Type 0} (result : Result Counts E) : Type 0 where
  pub adds : OnOk result (WhereTold w.before after (AddsFour w.generation (files_of_table w.columns (partitions_given w))))
  pub stand : OnOk result (IfSome after (StandForGiven w))
  pub counts : IfOk result (λ counts. AreCounts counts (partitions_given w))
  pub begun : OnErr result (BeginsFiles w (partitions_given w) after)
