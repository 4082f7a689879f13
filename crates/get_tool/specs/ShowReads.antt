-- How often what is shown of a key reads the store, over files that stand for a map.
use Rattle.std.specs.Prelude.{ℕ, ◌+◌, ◌≤◌, List, length}
use Rattle.key_types.specs.Columns.{Columns}
use Rattle.key_types.specs.Table.{Table}
use Rattle.outside.specs.Files.{Files, bytes_of}
use Rattle.index_files.specs.declared.footer.FooterNumbers.{FooterNumbers}
use Rattle.table_files.specs.Names.{partitions_id}
use Rattle.table_files.specs.Standing.{StandFor}
use Rattle.table_reader.specs.Gets.{bytes_in}
use Rattle.table_reader.specs.Opened.{HasFooter}
use Rattle.table_reader.specs.Reads.{HasSeparatorWithin, clustering_length}
use Rattle.get_tool.specs.declared.asked.AskedKey.{AskedKey}
use Rattle.get_tool.specs.Asked.{NamesKey}

module _ (files : Files) (generation : ℕ) (columns : Columns) where
  -- the block in which a get looks for the key has a separator of at most so many bytes
  abbrev pub HasBlockWithin : AskedKey → ℕ → Type 0
  HasBlockWithin key most =
      (footer : FooterNumbers) → HasFooter columns (bytes_of files (partitions_id generation)) footer
      → HasSeparatorWithin (bytes_in columns files generation) footer key.partition key.clustering most

  -- A key is looked for, from the footer on, in at most as many reads as its strings and the separator of its block
  -- have bytes, and so many more.
  abbrev pub FindsWithin : ℕ → AskedKey → ℕ → ℕ → Type 0
  FindsWithin more key before after = (table : Table) (most : ℕ) → StandFor files generation columns table
      → HasBlockWithin key most
      → after ≤ before + length key.partition + clustering_length key.clustering + most + more

  -- the same of the key that a text names
  abbrev pub FindsNamedWithin : ℕ → List ℕ → ℕ → ℕ → Type 0
  FindsNamedWithin more text before after =
      (key : AskedKey) → NamesKey columns text key → FindsWithin more key before after

-- Over files that stand for a map, a key is shown in at most as many reads as its strings and the separator of its
-- block have bytes, and 80 more: those of the get, and the ones for the schema's file and the footer.
abbrev pub ShowsWithin : Files → ℕ → List ℕ → ℕ → ℕ → Type 0
ShowsWithin files generation text before after =
    (columns : Columns) → FindsNamedWithin files generation columns 80 text before after
