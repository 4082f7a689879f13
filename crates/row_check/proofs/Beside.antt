-- A path of a row index beside a block.
use Rattle.std.proofs.Common.{◌≡◌, ℕ, List, Option, None, Some, IfSome, Result, Ok, Err, sym, subst}
use Rattle.std.specs.Prelude.{⊤}
use Rattle.outside.specs.Files.{Files, bytes_of}
use Rattle.outside.specs.declared.store.FileId.{FileId}
use Rattle.outside.specs.declared.store.Part.TheVariants.{Rows}
use Rattle.bti_reader.specs.declared.way.PathHit.{PathHit}
use Rattle.bti_reader.specs.Steps.{payload_number}
use Rattle.data_walk.specs.declared.refusal.Refusal.{Refusal}
use Rattle.path_check.specs.Paths.{GivesPath}
use Rattle.row_check.specs.Blocks.{ChecksBlock, ComparesPath, separator}

-- a path that is had, beside a block
pub checks_block : (files : Option Files) (file : FileId) (root : ℕ) (last given : Option (List ℕ)) (before first wanted : List ℕ) (offset : ℕ) (hit : PathHit) (result : Result ⊤ Refusal)
    → IfSome files (λ m. GivesPath Rows (bytes_of m file) root last given (Ok hit)) → ComparesPath hit.path hit.node hit.number wanted offset result → wanted ≡ separator before first
    → IfSome files (λ m. ChecksBlock (bytes_of m file) root last before first offset given result)
checks_block None file root last given before first wanted offset hit result gives compares is = tt
checks_block (Some m) file root last given before first wanted offset hit result (found, next, last_is, same) compares is =
    let rows : List ℕ = bytes_of m file in
    let found_so : ComparesPath found.path found.node (payload_number Rows found.payload) wanted offset result = subst (λ (h : PathHit). ComparesPath h.path h.node h.number wanted offset result) same compares in
    subst (λ (g : Option (List ℕ)). ChecksBlock rows root last before first offset g result) (sym last_is)
    (ChecksBlock.given found result next (subst (λ (w : List ℕ). ComparesPath found.path found.node (payload_number Rows found.payload) w offset result) is found_so))

-- none is had
pub checks_lacking : (files : Option Files) (file : FileId) (root : ℕ) (last given : Option (List ℕ)) (before first : List ℕ) (offset : ℕ) (e : Refusal)
    → IfSome files (λ m. GivesPath Rows (bytes_of m file) root last given (Err e)) → IfSome files (λ m. ChecksBlock (bytes_of m file) root last before first offset given (Err e))
checks_lacking None file root last given before first offset e lacks = tt
checks_lacking (Some m) file root last given before first offset e lacks = ChecksBlock.lacks given e lacks
