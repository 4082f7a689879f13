-- What a search asks of a node, and what it answers.
use Rattle.std.specs.Prelude.{◌≡◌, ◌≢◌, ◌<◌, ◌≤◌, ℕ, ℤ, pos, ◌+◌, ◌-◌, List, [], ◌∷◌, length, Option, Some, None, Result, Ok, Err, IfOk, IfSome}
use Rattle.outside.specs.declared.store.FileId.{FileId}
use Rattle.outside.specs.declared.store.Part.{Part}
use Rattle.outside.specs.declared.store.Part.TheVariants.{Data, Partitions, Rows, Schema}
use Rattle.outside.specs.Files.{Files, bytes_of}
use Rattle.page_cache.specs.declared.error.ReadError.{ReadError}
use Rattle.outside.specs.Files.{Files, bytes_of}
use Rattle.page_cache.specs.declared.error.ReadError.TheVariants as read
use Rattle.bti_nodes.specs.declared.node.Child.{Child}
use Rattle.bti_nodes.specs.Payloads.{unsigned_number, signed_number}
use Rattle.bti_nodes.specs.Grammar.{Node, child_under, node_at}
use Rattle.bti_nodes.specs.Children.{child_below, child_above, least_child, greatest_child}
use Rattle.bti_nodes.specs.Trie.{Path, Wrong, node_in, or_wrong}
use Rattle.data_file.specs.declared.reading.DataError.{DataError}
use Rattle.data_file.specs.declared.reading.DataError.TheVariants.{StoreFault, NoMemory, Damaged}
use Rattle.bti_reader.specs.declared.ask.Question.{Question}
use Rattle.bti_reader.specs.declared.ask.Question.TheVariants.{End, At, Floor, Ceiling, Least, Greatest}
use Rattle.bti_reader.specs.declared.ask.Turn.{Turn}
use Rattle.bti_reader.specs.declared.ask.Hit.{Hit}
use Rattle.bti_reader.specs.declared.nearest.Spare.{Spare}
use Rattle.bti_reader.specs.declared.nearest.Spare.TheVariants.{Nothing, Own, From}
use Rattle.bti_reader.specs.Searches.{Answer}

-- a payload's number: without a sign in the row index, and with a sign elsewhere
abbrev pub payload_number : Part → List ℕ → ℤ
payload_number Rows payload = pos (unsigned_number payload)
payload_number Partitions payload = signed_number payload
payload_number Data payload = signed_number payload
payload_number Schema payload = signed_number payload

-- the node's own path behind that many bytes, where it has a payload
abbrev pub hit_at : Part → ℕ → ℕ → List ℕ → Option Hit
hit_at part passed position [] = None
hit_at part passed position (x ∷ xs) =
    Some (record { path_len = passed; node = position; number = payload_number part (x ∷ xs) })

-- what a search along a key asks a node
abbrev pub question_at : List ℕ → Question
question_at [] = End
question_at (b ∷ key) = At b

-- the child in which a search goes on
abbrev pub first_way : Question → List (Option Child) → Option Child
first_way End places = None
first_way (At b) places = child_under b places
first_way (Floor b) places = child_under b places
first_way (Ceiling b) places = child_under b places
first_way Least places = least_child places
first_way Greatest places = greatest_child places

-- the child that it keeps beside it
abbrev pub second_way : Question → List (Option Child) → Option Child
second_way (Floor b) places = child_below b places
second_way (Ceiling b) places = child_above b places
second_way End places = None
second_way (At b) places = None
second_way Least places = None
second_way Greatest places = None

-- what a node answers to a question, behind that many bytes
abbrev pub turn_of : Part → Question → ℕ → ℕ → Node → Turn
turn_of part question passed position n = record {
  hit = hit_at part passed position n.payload;
  child = first_way question n.places;
  beside = second_way question n.places;
}

-- damage of a file's part
abbrev pub damage_of : Part → Wrong → DataError
damage_of part w = Damaged (record { part = part; position = w.position; cause = w.cause })

-- the same, where a node begins
abbrev pub turn_in : Part → Question → ℕ → ℕ → Result Node Wrong → Result Turn DataError
turn_in part question passed position (Err w) = Err (damage_of part w)
turn_in part question passed position (Ok n) = Ok (turn_of part question passed position n)

-- what the node answers that begins with those bytes, at a position of its file
abbrev pub turn_here : Part → Question → ℕ → ℕ → List ℕ → Result Turn DataError
turn_here part question passed position bytes =
    turn_in part question passed position (or_wrong position (node_at bytes position))

-- what the node at a position of a file answers
abbrev pub turn_in_file : Part → Question → ℕ → ℕ → List ℕ → Result Turn DataError
turn_in_file part question passed position file = turn_in part question passed position (node_in file position)

-- where a node without payload is asked for its least or greatest child, there is one
abbrev pub IsOpen : Question → Turn → Type 0
IsOpen Least turn = turn.hit ≡ None → turn.child ≢ None
IsOpen Greatest turn = turn.child ≡ None → turn.hit ≢ None
IsOpen End turn = Unit {0}
IsOpen (At b) turn = Unit {0}
IsOpen (Floor b) turn = Unit {0}
IsOpen (Ceiling b) turn = Unit {0}

-- the hit of a path, behind that many bytes
abbrev pub hit_of : Part → ℕ → Path → Hit
hit_of part passed p =
    record { path_len = passed + length p.path; node = p.node; number = payload_number part p.payload }

-- an answer as a call gives it, behind that many bytes
abbrev pub answer_of : Part → ℕ → Answer → Result (Option Hit) DataError
answer_of part passed (Err w) = Err (damage_of part w)
answer_of part passed (Ok None) = Ok None
answer_of part passed (Ok (Some p)) = Ok (Some (hit_of part passed p))

-- what is expected, unless the store failed or memory ran out
abbrev pub SearchAnswers : {A : Type 0} → Result A DataError → Result A DataError → Type 0
SearchAnswers (Err StoreFault) expected = Unit {0}
SearchAnswers (Err NoMemory) expected = Unit {0}
SearchAnswers (Err (Damaged d)) expected = expected ≡ Err (Damaged d)
SearchAnswers (Ok x) expected = expected ≡ Ok x

-- the same of a file whose bytes the store tells; where it doesn't, nothing is said
abbrev pub AnswersIn : {A : Type 0}
    → Option Files → FileId → (List ℕ → Result A DataError) → Result A DataError → Type 0
AnswersIn files file expected result = IfSome files (λ m. SearchAnswers result (expected (bytes_of m file)))

-- what a search in the file's bytes finds, as a call gives it behind that many bytes
abbrev pub FindsHit : Option Files → FileId → ℕ → (List ℕ → Answer) → Result (Option Hit) DataError → Type 0
FindsHit files file passed search result =
    AnswersIn files file (λ bytes. answer_of file.part passed (search bytes)) result

-- why a page wasn't had, as the searches tell it
abbrev pub data_error : ReadError → DataError
data_error read.StoreFault = StoreFault
data_error read.NoMemory = NoMemory

-- what a search may come back to: nothing, a node's own path, or a child behind that many bytes
abbrev pub kept_spare : Spare → Option Child → Option Hit → ℕ → ℕ → Spare
kept_spare spare None None position passed = spare
kept_spare spare None (Some hit) position passed = Own hit
kept_spare spare (Some c) hit position passed = From (position - c.distance) (passed + 1)

-- a child that was kept lies below the root, behind as many bytes at least
abbrev pub SpareFits : ℕ → Spare → Type 0
SpareFits root Nothing = Unit {0}
SpareFits root (Own hit) = Unit {0}
SpareFits root (From start passed) = (0 < passed) × (passed + start ≤ root)

-- what is found there, where a way from a child on is known
abbrev pub spare_answer : Part → (ℕ → Answer) → Spare → Result (Option Hit) DataError
spare_answer part go Nothing = Ok None
spare_answer part go (Own hit) = Ok (Some hit)
spare_answer part go (From start passed) = answer_of part passed (go start)

-- the same in a file's bytes
abbrev pub FindsSpare : Option Files → FileId → (List ℕ → ℕ → Answer) → Spare → Result (Option Hit) DataError → Type 0
FindsSpare files file search spare result =
    AnswersIn files file (λ bytes. spare_answer file.part (search bytes) spare) result

-- how many bytes the path has that is answered, 0 for none
abbrev pub found_len : Option Hit → ℕ
found_len None = 0
found_len (Some hit) = hit.path_len

-- as many reads of the store at most as nodes lead to what was found, but for those that were passed before
abbrev pub WithinPath : ℕ → ℕ → ℕ → Result (Option Hit) DataError → Type 0
WithinPath old new passed result = IfOk result (λ hit. IfSome hit (λ h. new + passed ≤ old + (h.path_len + 1)))

-- At most so many reads more as the path has bytes that a search is to answer, and none more where it is to answer
-- none. Nothing is said where it is to come to a place at which no node begins.
abbrev pub WithinReply : ℕ → ℕ → Result (Option Hit) DataError → Type 0
WithinReply before after (Ok None) = after ≤ before
WithinReply before after (Ok (Some hit)) = after ≤ before + hit.path_len
WithinReply before after (Err e) = Unit {0}

-- the same of a search in the file's bytes, as a call gives it behind that many bytes, whatever the call answers
abbrev pub WithinFound : Option Files → FileId → ℕ → (List ℕ → Answer) → ℕ → ℕ → Type 0
WithinFound files file passed search before after =
    IfSome files (λ m. WithinReply before after (answer_of file.part passed (search (bytes_of m file))))

-- the same of what is found from a way on
abbrev pub WithinSpare : Option Files → FileId → (List ℕ → ℕ → Answer) → Spare → ℕ → ℕ → Type 0
WithinSpare files file search spare before after =
    IfSome files (λ m. WithinReply before after (spare_answer file.part (search (bytes_of m file)) spare))
