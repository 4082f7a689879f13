-- What contracts see of the cells, the seats, a note and the words at the end. This project's own.
use Rattle.std.specs.Prelude.{◌≡◌, ℕ, ◌*◌, ◌≤◌, List, ◌∷◌, length, Option, Some, None}
use Rattle.std.specs.Borrow.{Bor}
pub use Rattle.atomic_table.specs.Seated.{TableId}
use Rattle.trie_image.specs.declared.Put.{Put}
use Rattle.trie_image.specs.declared.WordStore.{WordStore}
use Rattle.trie_image.specs.declared.Place.{Place}
use Rattle.trie_image.specs.declared.Advance.{Advance}
use Rattle.trie_image.specs.Place.{outcome_of}
use Rattle.trie_machine.specs.declared.Find.{Find}
use Rattle.trie_machine.specs.Events.{reader_after, LoadTells}
use Rattle.trie_rule.specs.declared.views.WriteView.{WriteView}
use Rattle.trie_rule.specs.declared.views.ReadView.{ReadView}
use Rattle.trie_rule.specs.Rule.{IsStartOf}
use Rattle.trie_rule.specs.Kinds.{begun_or, MayPut, read_view_with, reader_with}

-- the cells of a shard: which table, and how many cells
pub record CellsAt : Type 0 where
  pub table_id : TableId
  pub cells : ℕ

-- a seat: which table it is of, and what it knows
pub record WriterAt : Type 0 where
  pub table_id : TableId
  pub knows : WriteView

pub record ReaderAt : Type 0 where
  pub table_id : TableId
  pub knows : ReadView

-- a note: which table it is of, how many cells that has, and the puts of which it tells
pub record ToldAt : Type 0 where
  pub table_id : TableId
  pub cells : ℕ
  pub told : List Put

-- the words at the end, and the puts that they stand for
pub record KeptWords : Type 0 where
  pub words : List ℕ
  pub made : List Put

-- the seat, or the note, is of these cells
abbrev pub WritesTo : CellsAt → WriterAt → Type 0
WritesTo c s = (s.table_id ≡ c.table_id) × (s.knows.cells ≡ c.cells)

abbrev pub ReadsFrom : CellsAt → ReaderAt → Type 0
ReadsFrom c s = (s.table_id ≡ c.table_id) × (s.knows.cells ≡ c.cells)

abbrev pub TellsOf : CellsAt → ToldAt → Type 0
TellsOf c n = (n.table_id ≡ c.table_id) × (n.cells ≡ c.cells)

-- the put of this key and value goes on or begins, and its next store is s
pub record IsNext (w : WriteView) (key value : List ℕ) (s : WordStore) : Type 0 where
  pub may : MayPut w key value w.begun
  pub left : List WordStore
  pub is : (begun_or w key value).left ≡ s ∷ left

-- the bytes of a key, where there is one
abbrev pub key_asked : Option (Bor (List ℕ)) → Option (List ℕ)
key_asked None = None
key_asked (Some key) = Some key.now

-- the front was raised to this number, the reader has seen at least what it had, and a find began where there is a key
pub record RaisesFront (r q : ReadView) (key : Option (List ℕ)) (front : ℕ) : Type 0 where
  pub least : r.reader.front ≤ front
  pub most : front ≤ length q.seen
  pub seen : IsStartOf r.seen q.seen
  pub next : q ≡ read_view_with r q.seen (reader_with front key)

-- a find's load: the reader has seen at least what it had, and the find moved, or ended with an answer that is legal
-- for what was seen
pub record MovesFind (f : Find) (r : ReadView) (loaded : ℕ) (q : ReadView) : Type 0 where
  pub seen : IsStartOf r.seen q.seen
  pub next : q ≡ read_view_with r q.seen (reader_after r.reader f (outcome_of f.place loaded f.key))
  pub most : q.reader.front ≤ length q.seen
  pub tells : LoadTells q.seen (4 * r.cells) f (outcome_of f.place loaded f.key)

-- a find of this key is under way, and stands at this place
abbrev pub IsFindAt : Option Find → List ℕ → Place → Type 0
IsFindAt find key place = (f : Find) × (find ≡ Some f) × (f.key ≡ key) × (f.place ≡ place)

-- the find moved by the load of a word that leads to this outcome
abbrev pub FindMoves : Option Find → ReadView → Advance → ReadView → Type 0
FindMoves find r outcome q = (f : Find) → find ≡ Some f
    → (loaded : ℕ) × (outcome ≡ outcome_of f.place loaded f.key) × MovesFind f r loaded q
