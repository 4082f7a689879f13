-- All paths of a trie, one after the other: each is the least above the last one.
use Rattle.std.specs.Prelude.{◌≡◌, ℕ, ◌-◌, List, [], ◌∷◌, ◌++◌, get_or, take, Option, Some, None, Result, Ok, Err, IfSome}
use Rattle.outside.specs.declared.store.FileId.{FileId}
use Rattle.outside.specs.declared.store.Part.{Part}
use Rattle.outside.specs.Files.{Files, bytes_of}
use Rattle.bti_nodes.specs.declared.node.Child.{Child}
use Rattle.bti_nodes.specs.Trie.{Path, paths}
use Rattle.data_file.specs.declared.reading.DataError.{DataError}
use Rattle.bti_reader.specs.declared.way.PathHit.{PathHit}
use Rattle.bti_reader.specs.declared.way.Start.{Start}
use Rattle.bti_reader.specs.declared.way.Way.{Way}
use Rattle.bti_reader.specs.Searches.{Answer, deeper, first_path, after_in}
use Rattle.bti_reader.specs.Steps.{SearchAnswers, AnswersIn, damage_of, payload_number}
use Rattle.bti_reader.specs.Ways.{Progress}

-- the next path: the first at all, or the least above the last one
abbrev pub next_in : List ℕ → ℕ → Option (List ℕ) → Answer
next_in file root None = first_path file root
next_in file root (Some key) = after_in file root key

-- the last path that a walk has given
abbrev pub last_given : Option Way → Option (List ℕ)
last_given None = None
last_given (Some way) = Some way.path

-- the path that a walk is to give next
abbrev pub next_of : Progress → List ℕ → Answer
next_of walk file = next_in file walk.root (last_given walk.way)

-- the least path above that of a way
abbrev pub path_after : List ℕ → List ℕ → List ℕ → Answer
path_after path nodes file = after_in file (get_or nodes 0 0) path

-- an answer with its path, behind those bytes
abbrev pub path_answer : Part → List ℕ → Answer → Result (Option PathHit) DataError
path_answer part taken (Err w) = Err (damage_of part w)
path_answer part taken (Ok None) = Ok None
path_answer part taken (Ok (Some p)) =
    Ok (Some (record { path = taken ++ p.path; node = p.node; number = payload_number part p.payload }))

-- what a search in the file's bytes finds, as a call gives it with its path behind those bytes
abbrev pub FindsPath : Option Files → FileId → List ℕ → (List ℕ → Answer) → Result (Option PathHit) DataError → Type 0
FindsPath files file taken search result =
    AnswersIn files file (λ bytes. path_answer file.part taken (search bytes)) result

-- the last path that was given after an answer
abbrev pub last_after : Option (List ℕ) → Option PathHit → Option (List ℕ)
last_after last None = last
last_after last (Some hit) = Some hit.path

-- an answer for a path that is longer at its front by those bytes
abbrev pub deepers : List ℕ → Answer → Answer
deepers [] a = a
deepers (b ∷ bs) a = deeper b (deepers bs a)

-- where the paths below a child begin, behind that many bytes
abbrev pub start_of : Child → ℕ → ℕ → Start
start_of c position passed = record { start = position - c.distance; passed = passed; byte = c.byte }

-- the first path there
abbrev pub start_answer : List ℕ → List ℕ → Option Start → Answer
start_answer file key None = Ok None
start_answer file key (Some s) = deepers (take s.passed key ++ s.byte ∷ []) (first_path file s.start)

-- the start that a search was to find, unless the store failed, memory ran out or a node doesn't begin
abbrev pub StartIs : Part → List ℕ → List ℕ → Result (Option Start) DataError → Answer → Type 0
StartIs part file key (Ok s) answer = start_answer file key s ≡ answer
StartIs part file key (Err e) answer = SearchAnswers {A = Option PathHit} (Err e) (path_answer part [] answer)

-- the start at which what a search in the file's bytes finds begins
abbrev pub StartsIn : Option Files → FileId → List ℕ → (List ℕ → Answer) → Result (Option Start) DataError → Type 0
StartsIn files file key search result =
    IfSome files (λ m. StartIs file.part (bytes_of m file) key result (search (bytes_of m file)))

-- the paths that a walk gives after the last one, until it gives none
abbrev pub Given : List ℕ → ℕ → Option (List ℕ) → List Path → Type 0
Given file root last [] = next_in file root last ≡ Ok None
Given file root last (p ∷ ps) = (next_in file root last ≡ Ok (Some p)) × Given file root (Some p.path) ps

-- where a walk came to its end, the trie has a meaning, and it was given whole; and where it has one, a walk gives it
pub record GivesAll (file : List ℕ) (root : ℕ) (ps : List Path) : Type 0 where
  pub ended : Given file root None ps → paths file root ≡ Ok ps
  pub given : paths file root ≡ Ok ps → Given file root None ps

-- that is so of every walk
abbrev pub WalkIsWhole : Type 0
WalkIsWhole = (file : List ℕ) (root : ℕ) (ps : List Path) → GivesAll file root ps
