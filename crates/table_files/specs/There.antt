-- Which files of a generation are there. This project's own.
use Rattle.std.specs.Prelude.{◌≡◌, ℕ, Bool, ◌||◌, Option, Result, IfSome, MatchResult, is_some}
use Rattle.std.specs.FinMap as map
use Rattle.outside.specs.Files.{Files}
use Rattle.outside.specs.declared.store.FileId.{FileId}
use Rattle.table_files.specs.Names.{data_id, partitions_id, rows_id, schema_id}

-- the file is there
abbrev pub file_there : Files → FileId → Bool
file_there files file = is_some (map.get files file)

-- one of the generation's four files is there
abbrev pub any_there : ℕ → Files → Bool
any_there generation files =
    file_there files (data_id generation) || file_there files (partitions_id generation) || file_there files (rows_id generation)
    || file_there files (schema_id generation)

-- whether a file is there, where the files are told
abbrev pub Tells : {E : Type 0} → (Files → Bool) → Option Files → Result Bool E → Type 0
Tells test files result = IfSome files (λ old. MatchResult result (λ there. there ≡ test old) (λ _. Unit {0}))
