-- Bytes of a file that are held, from a place on.
use Rattle.std.specs.Prelude.{◌≡◌, ℕ, ◌++◌, List, drop, Option, IfSome}
use Rattle.outside.specs.Files.{Files, bytes_of}
use Rattle.outside.specs.declared.store.FileId.{FileId}

-- where the files are told, the held bytes are the first of those that the file has from the place on
abbrev pub IsFront : Option Files → FileId → ℕ → List ℕ → Type 0
IsFront files file at held = IfSome files (λ m. (rest : List ℕ) × (drop at (bytes_of m file) ≡ held ++ rest))

-- where the files are told, they are all of them
abbrev pub IsRest : Option Files → FileId → ℕ → List ℕ → Type 0
IsRest files file at held = IfSome files (λ m. drop at (bytes_of m file) ≡ held)
