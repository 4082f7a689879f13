-- The states of the machine. This project's own.
use Rattle.std.specs.Prelude.{◌≡◌, ℕ, ◌+◌, ◌≤◌, List, [], ◌∷◌, ◌++◌, length, slice_index, Option, Some, None}
use mathlib.Core.Option.{some}
use lib.ListN.{get_elem?}
use Rattle.trie_image.specs.declared.Put.{Put}
use Rattle.trie_image.specs.declared.Ledger.{Ledger}
use Rattle.trie_image.specs.declared.StoreKind.{StoreKind}
use Rattle.trie_image.specs.declared.StoreKind.TheVariants.{Prepare, Publish, Finish}
use Rattle.trie_image.specs.declared.WordStore.{WordStore}
use Rattle.trie_image.specs.Puts.{IsKey}
use Rattle.trie_image.specs.WellFormed.{IsWellFormed}
use Rattle.trie_image.specs.Place.{IsPlace, place_sees}
use Rattle.trie_image.specs.Stores.{stores_of, CanPut}
use Rattle.trie_image.specs.After.{after}
use Rattle.trie_image.specs.Publish.{put_at}
use Rattle.trie_machine.specs.declared.Begun.{Begun}
use Rattle.trie_machine.specs.declared.Find.{Find}
use Rattle.trie_machine.specs.declared.Reader.{Reader}
use Rattle.trie_machine.specs.Fresh.{IsFresh}

-- the words of an image of so many cells, how many of them are taken, the puts that were published, the put under way, and
-- the readers, which are numbered from 0; None stands where no reader is
pub record MachineState : Type 0 where
  pub cells : ℕ
  pub words : List ℕ
  pub used : ℕ
  pub puts : List Put
  pub begun : Option Begun
  pub readers : List (Option Reader)

-- the words are those of a well-formed image, with these puts and so many cells taken
pub record HasImage (words : List ℕ) (cells used : ℕ) (puts : List Put) : Type 0 where
  pub ledger : Ledger
  pub taken : length ledger.owners ≡ used
  pub puts_are : ledger.puts ≡ puts
  pub image : IsWellFormed words ledger cells

module _ (words : List ℕ) (cells : ℕ) (g : Ledger) where
  -- what holds before a store of this kind, of a put that began on the ledger `from`: until its Publish the ledger is still
  -- this one and word 0 counts the puts; before its Finish it is the last put, and word 0 doesn't count it yet
  abbrev pub IsBefore : Ledger → Put → StoreKind → Type 0
  IsBefore from put Prepare = (from ≡ g) × (slice_index words 0 ≡ length g.puts)
  IsBefore from put Publish = (from ≡ g) × (slice_index words 0 ≡ length g.puts)
  IsBefore from put Finish = (g.puts ≡ from.puts ++ put ∷ []) × (slice_index words 0 + 1 ≡ length g.puts)

  abbrev pub IsBeforeNext : Ledger → Put → List WordStore → Type 0
  IsBeforeNext from put [] = ⊥
  IsBeforeNext from put (s ∷ left) = IsBefore from put s.kind

  -- the put began on an image that was well formed and had room for it; the stores that are done stand in the words, and
  -- those that are left are the rest of its list
  pub record IsBegun (b : Begun) : Type 0 where
    pub from : List ℕ
    pub used : ℕ
    pub can : CanPut from used b.key b.value
    pub cells_are : can.cells ≡ cells
    pub stores : stores_of from used b.key b.value ≡ b.done ++ b.left
    pub made : words ≡ after from b.done
    pub before : IsBeforeNext can.ledger (put_at b.key b.value used) b.left

  -- with no put under way word 0 counts the puts
  abbrev pub IsWriting : Option Begun → Type 0
  IsWriting None = slice_index words 0 ≡ length g.puts
  IsWriting (Some b) = IsBegun b

module _ (words : List ℕ) (g : Ledger) where
  -- the find has the reader's front as its base, stands at a place of the image for its key, and sees there what is fresh
  pub record IsFind (front : ℕ) (f : Find) : Type 0 where
    pub is_key : IsKey f.key
    pub base : f.base ≡ front
    pub place : IsPlace words g f.key f.place
    pub fresh : IsFresh g.puts f.key f.base (place_sees words f.key f.place)

  abbrev pub IsFinding : ℕ → Option Find → Type 0
  IsFinding front None = Unit {0}
  IsFinding front (Some f) = IsFind front f

  -- the reader knows of no more puts than there are
  pub record IsReader (r : Reader) : Type 0 where
    pub front : r.front ≤ length g.puts
    pub find : IsFinding r.front r.find

-- the state is one of the machine
pub record IsMachine (m : MachineState) : Type 0 where
  pub image : HasImage m.words m.cells m.used m.puts
  pub writing : IsWriting m.words m.cells image.ledger m.begun
  pub readers : (i : ℕ) (r : Reader) → get_elem? m.readers i ≡ some (Some r) → IsReader m.words image.ledger r
