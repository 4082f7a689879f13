-- What a reader's calls answer, by the puts that it has seen. This project's own.
use Rattle.std.specs.Prelude.{◌≡◌, ℕ, ◌<◌, ◌≤◌, List, length, slice_index, Option, None}
use Rattle.trie_image.specs.declared.Put.{Put}
use Rattle.trie_image.specs.declared.Rec.{Rec}
use Rattle.trie_image.specs.Puts.{IsRecOf, HasLastPut}
use Rattle.trie_machine.specs.Events.{IsWordOf}
use Rattle.trie_machine.specs.Fresh.{IsAnswer}
use Rattle.trie_rule.specs.declared.views.ReadView.{ReadView}
use Rattle.trie_rule.specs.Rule.{IsStartOf}
use Rattle.trie_rule.specs.Seats.{CellsAt, ReaderAt, ReadsFrom}

-- the seat may find: it is of these cells, and no find is under way
abbrev pub MayRead : CellsAt → ReaderAt → Type 0
MayRead cells seat = ReadsFrom cells seat × (seat.knows.reader.find ≡ None)

-- the answer of a find is legal for what was seen in the end, from a base that counts at least what the reader knew
-- before
pub record HasAnswer (r q : ReadView) (key : List ℕ) (hit : Option Rec) (at : ℕ) : Type 0 where
  pub base : ℕ
  pub least : r.reader.front ≤ base
  pub is : IsAnswer q.seen base key hit at

-- where the reader had come to know all of a list of the shard's first puts, and the answer stands for no more of them, it
-- is what the map of this list has at the key
abbrev pub KeepsWhatWasTold : ReadView → List ℕ → Option Rec → ℕ → Type 0
KeepsWhatWasTold r key hit at = (told : List Put) → IsStartOf told r.seen → length told ≤ r.reader.front → at ≤ length told
    → HasLastPut told key hit

-- the record is that of one of the puts
abbrev pub IsSeenRecord : List Put → Rec → Type 0
IsSeenRecord puts rec = (n : ℕ) × (put : Put) × IsRecOf puts n put rec

-- these bytes are the value of the record's put
abbrev pub IsValueOfRecord : List Put → Rec → List ℕ → Type 0
IsValueOfRecord puts rec bytes = (n : ℕ) (put : Put) → IsRecOf puts n put rec → bytes ≡ put.value

-- this is word i of the value of the record's put
abbrev pub IsPieceOf : List Put → Rec → ℕ → ℕ → Type 0
IsPieceOf puts rec i word = (n : ℕ) (put : Put) → IsRecOf puts n put rec → IsWordOf put.value i word

-- the first bytes are those of the value
abbrev pub IsCopying : List Put → Rec → List ℕ → ℕ → Type 0
IsCopying puts rec bytes at = (n : ℕ) (put : Put) → IsRecOf puts n put rec
    → (i : ℕ) → i < at → i < rec.length → slice_index bytes i ≡ slice_index put.value i
