-- Pages of files.
use Rattle.std.specs.Prelude.{ℕ, ◌*◌, List, take, drop}

-- The page of that number: 4,096 bytes, fewer or none where the file ends before.
abbrev pub page_of : List ℕ → ℕ → List ℕ
page_of file number = take 4096 (drop (4096 * number) file)
