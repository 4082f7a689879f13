-- What a writer leaves in the files.
use Rattle.std.specs.Prelude.{◌≡◌, ◌⊎◌, ℕ, List, [], ◌++◌, Option, Result, MatchResult}
use Rattle.std.specs.FinMap as map
use Rattle.outside.specs.Told.{WhereTold}
use Rattle.outside.specs.Files.{Files, bytes_of}
use Rattle.outside.specs.declared.store.FileId.{FileId}

-- the files are as before, but that these bytes were put behind those of this file; where there are none the file may
-- still not be there
abbrev pub GrowsBy : Files → Files → FileId → List ℕ → Type 0
GrowsBy old new file bytes = (new ≡ map.insert old file (bytes_of old file ++ bytes)) ⊎ ((bytes ≡ []) × (new ≡ old))

-- a writer: its file, the bytes that it holds back, and the place behind all bytes that it was given
pub record Writing : Type 0 where
  pub file : FileId
  pub pending : List ℕ
  pub position : ℕ

-- of these bytes all but the held ones were put behind the file's
abbrev pub PutsAllBut : Files → Files → FileId → List ℕ → List ℕ → Type 0
PutsAllBut old new file bytes held = (front : List ℕ) × (bytes ≡ front ++ held) × GrowsBy old new file front

-- at Ok all but the held bytes were put behind the file's, and else a prefix
abbrev pub PutsButHeld : {T E : Type 0} → Option Files → Option Files → FileId → Result T E → List ℕ → List ℕ → Type 0
PutsButHeld old new file result bytes held =
    WhereTold old new (λ xs ys. MatchResult result (λ _. PutsAllBut xs ys file bytes held) (λ _. (left : List ℕ) × PutsAllBut xs ys file bytes left))

-- at Ok all bytes were put behind the file's, which is there now, and else a prefix
abbrev pub AppendsWhole : {T E : Type 0} → Option Files → Option Files → FileId → Result T E → List ℕ → Type 0
AppendsWhole old new file result bytes =
    WhereTold old new (λ xs ys. MatchResult result (λ _. ys ≡ map.insert xs file (bytes_of xs file ++ bytes))
    (λ _. (left : List ℕ) × PutsAllBut xs ys file bytes left))
