-- The names of the files of a table. The layout of the files is this project's own.
use Rattle.std.specs.Prelude.{ℕ}
use Rattle.outside.specs.declared.store.FileId.{FileId}
use Rattle.outside.specs.declared.store.Part.TheVariants.{Data, Partitions, Rows, Schema}

-- A table has the generations 1 to 32, of four files each.

-- the file of a generation's partitions and rows
abbrev pub data_id : ℕ → FileId
data_id generation = record { generation = generation; part = Data }

-- the index of its partitions
abbrev pub partitions_id : ℕ → FileId
partitions_id generation = record { generation = generation; part = Partitions }

-- the index of its rows
abbrev pub rows_id : ℕ → FileId
rows_id generation = record { generation = generation; part = Rows }

-- the file of its schema
abbrev pub schema_id : ℕ → FileId
schema_id generation = record { generation = generation; part = Schema }
