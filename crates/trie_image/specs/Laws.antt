-- The laws of the trie: what holds of paths, places and stores in every image. A well-formed image is one.
use Rattle.std.specs.Prelude.{◌≡◌, ◌≢◌, ◌⊎◌, ℕ, ◌+◌, ◌*◌, ◌^◌, ◌<◌, ◌≤◌, ◌/◌, ◌%◌, ◌==◌, List, length, slice_get, slice_index, slice_set, replicate, Option, Some, None, [], ◌∷◌, ◌++◌}
use Rattle.cell_layout.specs.Words.{with_half_of, byte_of, ItemsAreBytes}
use Rattle.cell_layout.specs.Slots.{slot_at}
use Rattle.trie_image.specs.declared.Place.{Place}
use Rattle.trie_image.specs.declared.Advance.{Advance}
use Rattle.trie_image.specs.declared.Advance.TheVariants.{On, Found, Absent}
use Rattle.trie_image.specs.declared.Put.{Put}
use Rattle.trie_image.specs.declared.Ledger.{Ledger}
use Rattle.trie_image.specs.Paths.{owner, HasPath}
use Rattle.trie_image.specs.declared.Owner.TheVariants.{SparseCell}
use Rattle.trie_image.specs.Image.{word_of, reading, root_of}
use Rattle.trie_image.specs.Reading.{sees, sees_from, Closed}
use Rattle.trie_image.specs.Cell.{IsImage}
use Rattle.trie_image.specs.Puts.{IsRecOf}
use Rattle.trie_image.specs.WellFormed.{IsWellFormed, opening_ledger}
use Rattle.trie_image.specs.Same.{IsSame}
use Rattle.trie_image.specs.declared.exit.Exit.{Exit}
use Rattle.trie_image.specs.declared.StoreKind.TheVariants.{Prepare, Publish, Finish}
use Rattle.trie_image.specs.declared.WordStore.{WordStore}
use Rattle.trie_image.specs.Stores.{cost, rest_of, body_words, store_at, prepares, stores_of}
use Rattle.trie_image.specs.Place.{start_place, IsPlace, place_sees, next_word_of, outcome_of, measure_of}

-- each pointer has at most one path
abbrev pub LawPaths : Type 0
LawPaths = (g : Ledger) (p : ℕ) (q q' : List ℕ) → HasPath g p q → HasPath g p q' → q ≡ q'

-- a child under a byte has its parent's path and this byte
abbrev pub LawClosed : Type 0
LawClosed = (w : List ℕ) (g : Ledger) (cells : ℕ) → IsImage w g cells → Closed (reading w) (HasPath g)

-- each load lowers a number, whatever the word is
abbrev pub LawFalls : Type 0
LawFalls = (pl next : Place) (word : ℕ) (key : List ℕ) → outcome_of pl word key ≡ On next → measure_of next (length key) < measure_of pl (length key)

-- the outcome of a load is right, where the place sees o: a place that sees the same, the record that is seen, or none
abbrev pub Answers : List ℕ → Ledger → List ℕ → Option ℕ → Advance → Type 0
Answers w g key o (On pl) = IsPlace w g key pl × (place_sees w key pl ≡ o)
Answers w g key o (Found rec) = (o ≡ Some rec.cell) × (n : ℕ) × (put : Put) × (put.key ≡ key) × IsRecOf g.puts n put rec
Answers w g key o Absent = o ≡ None

-- a place's own word leads to what it sees
abbrev pub LawAdvance : Type 0
LawAdvance = (w : List ℕ) (g : Ledger) (cells : ℕ) (key : List ℕ) (pl : Place) → IsImage w g cells → IsPlace w g key pl → Answers w g key (place_sees w key pl) (outcome_of pl (slice_index w (next_word_of pl)) key)

-- the image whose words are all 0 is well formed without puts
abbrev pub LawOpening : Type 0
LawOpening = (cells : ℕ) → 1 ≤ cells → cells ≤ 2 ^ 22 → IsWellFormed (replicate (4 * cells) 0) opening_ledger cells

-- the start is a place of every image, it sees what the root sees, and its number is at most 4 * len + 3
abbrev pub LawStart : Type 0
LawStart = ((w : List ℕ) (g : Ledger) (key : List ℕ) → ItemsAreBytes key → IsPlace w g key start_place × (place_sees w key start_place ≡ sees_from (reading w) (root_of w) key))
    × ((len : ℕ) → measure_of start_place len ≤ 4 * len + 3)

-- the word that a place loads lies in the image
abbrev pub LawInside : Type 0
LawInside = (w : List ℕ) (g : Ledger) (cells : ℕ) (key : List ℕ) (pl : Place) → IsImage w g cells → IsPlace w g key pl → next_word_of pl < length w

-- a store that no pointer with a path reads keeps the image, its places, and what each of them and each such pointer sees
abbrev pub LawSame : Type 0
LawSame = (w w' : List ℕ) (g : Ledger) (cells : ℕ) → IsWellFormed w g cells → IsSame w w' g
    → IsWellFormed w' g cells × ((k : List ℕ) (p : ℕ) (q : List ℕ) → HasPath g p q → sees (reading w') p k ≡ sees (reading w) p k) × ((key : List ℕ) (pl : Place) → IsPlace w g key pl → IsPlace w' g key pl × (place_sees w' key pl ≡ place_sees w key pl))

-- a store beyond the cells taken, and one into word 0, are such
abbrev pub LawFresh : Type 0
LawFresh = (w : List ℕ) (g : Ledger) (cells i v : ℕ) → IsImage w g cells → (4 * length g.owners ≤ i) ⊎ (i ≡ 0) → IsSame w (slice_set w i v) g

-- the words of a put's new cells, four for each cell, are at most those of its cost
abbrev pub LawCost : Type 0
LawCost = (w : List ℕ) (used number : ℕ) (key value : List ℕ) (e : Exit) (b : ℕ) → length (body_words w used number value (rest_of key e.meets e.taken) e b) ≤ 4 * cost (length key) (length value)

-- each is a Prepare store
abbrev pub ArePrepares : List WordStore → Type 0
ArePrepares [] = Unit {0}
ArePrepares (s ∷ ss) = (s.kind ≡ Prepare) × ArePrepares ss

-- Prepare stores, one Publish, and the Finish
pub record HasShape (stores : List WordStore) (finish : WordStore) : Type 0 where
  pub front : List WordStore
  pub publish : WordStore
  pub all : stores ≡ front ++ publish ∷ finish ∷ []
  pub prepared : ArePrepares front
  pub published : publish.kind ≡ Publish

-- the stores of a put come in this order, and the Finish stores the put's number in word 0
abbrev pub LawShape : Type 0
LawShape = (w : List ℕ) (used : ℕ) (key value : List ℕ) → HasShape (stores_of w used key value) (store_at 0 (slice_index w 0 + 1) Finish)

-- word i of the value of a put's record, from 0, is a word of the image, and its bytes are the value's, filled with zeros
abbrev pub LawRecordWord : Type 0
LawRecordWord = (w : List ℕ) (g : Ledger) (cells n i : ℕ) (put : Put) → IsWellFormed w g cells → slice_get g.puts n ≡ Some put → 8 * i < length put.value
    → (4 * put.cell + 1 + i < length w) × ((j : ℕ) → j < 8 → byte_of (slice_index w (4 * put.cell + 1 + i)) j ≡ slice_index put.value (8 * i + j))
