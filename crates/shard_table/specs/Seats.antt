-- What contracts see of a table, its workers and the shards at the end. This project's own.
use Rattle.std.specs.Prelude.{◌≡◌, ℕ, List, [], ◌∷◌, slice_get, Some, None}
use Rattle.std.specs.List.{All}
use Rattle.trie_machine.specs.Events.{resting}
use Rattle.trie_rule.specs.Rule.{opening_write_view}
use Rattle.shard_table.specs.declared.workers.Workers.{Workers}
use Rattle.trie_rule.specs.Seats.{CellsAt, WriterAt, ReaderAt, KeptWords, WritesTo, ReadsFrom}

-- the bounds of a table, and the cells of its shards
pub record TableAt : Type 0 where
  pub bounds : List (List ℕ)
  pub shards : List CellsAt

-- two lists are as long, and the items of each place belong together
abbrev pub AreEach : {X Y : Type 0} → (X → Y → Type 0) → List X → List Y → Type 0
AreEach P [] [] = Unit {0}
AreEach P [] (y ∷ ys) = ⊥
AreEach P (x ∷ xs) [] = ⊥
AreEach P (x ∷ xs) (y ∷ ys) = P x y × AreEach P xs ys

-- a write seat of these cells with no put under way, and a read seat with no find under way
pub record IsFreeWriter (c : CellsAt) (s : WriterAt) : Type 0 where
  pub own : WritesTo c s
  pub idle : s.knows.begun ≡ None

pub record IsFreeReader (c : CellsAt) (s : ReaderAt) : Type 0 where
  pub own : ReadsFrom c s
  pub idle : s.knows.reader.find ≡ None

-- one write seat for each shard; one read seat for each reader and shard
pub record AreWorkers (shards : List CellsAt) (w : Workers) : Type 0 where
  pub writing : AreEach IsFreeWriter shards w.writers.items
  pub reading : All (λ seats. AreEach IsFreeReader shards seats.items) w.readers.items

-- this holds of the seat of reader q at shard i
abbrev pub OfSeat : (ReaderAt → Type 0) → Workers → ℕ → ℕ → Type 0
OfSeat P w q i = (seats : _) (seat : ReaderAt) → slice_get w.readers.items q ≡ Some seats → slice_get seats.items i ≡ Some seat
    → P seat

-- the write seat of cells without puts, and a read seat that has seen none
pub record IsNewWriter (c : CellsAt) (s : WriterAt) : Type 0 where
  pub own : WritesTo c s
  pub knows : s.knows ≡ opening_write_view c.cells

pub record IsNewReader (c : CellsAt) (s : ReaderAt) : Type 0 where
  pub own : ReadsFrom c s
  pub seen : s.knows.seen ≡ []
  pub reader : s.knows.reader ≡ resting 0

-- each shard has so many cells
abbrev pub HaveCells : ℕ → List CellsAt → Type 0
HaveCells cells shards = All (λ c. c.cells ≡ cells) shards

-- a shard at the end has what its writer's seat knew
pub record IsClosed (s : WriterAt) (f : KeptWords) : Type 0 where
  pub made : f.made ≡ s.knows.made
  pub words : f.words ≡ s.knows.image
