-- A find under way, from one place of its walk to a later one. This project's own.
use Rattle.std.specs.Prelude.{◌≡◌, ℕ, ◌+◌, ◌*◌, ◌≤◌, List, Some}
use Rattle.trie_image.specs.declared.Place.{Place}
use Rattle.trie_image.specs.declared.Advance.{Advance}
use Rattle.trie_image.specs.declared.Advance.TheVariants.{On, Found, Absent}
use Rattle.trie_image.specs.Place.{measure_of}
use Rattle.trie_machine.specs.declared.Find.{Find}
use Rattle.trie_machine.specs.declared.Reader.{Reader}
use Rattle.trie_machine.specs.Events.{reader_after, LoadTells}
use Rattle.trie_rule.specs.declared.views.ReadView.{ReadView}
use Rattle.trie_rule.specs.Rule.{IsStartOf}

-- a find at a place, and a reader that makes it, whose front is the find's base
abbrev pub find_at : ℕ → Place → List ℕ → Find
find_at base place key = record { key = key; base = base; place = place }

abbrev pub finding : ℕ → Place → List ℕ → Reader
finding base place key = record { front = base; find = Some (find_at base place key) }

-- the find went on from a place to this outcome: the reader has seen at least what it had, and stands where the outcome
-- says; the next place is nearer to the end and needs a word of the image, and an answer is legal for what was seen
pub record PassesWords (r q : ReadView) (base : ℕ) (place : Place) (key : List ℕ) (outcome : Advance) : Type 0 where
  pub cells : q.cells ≡ r.cells
  pub seen : IsStartOf r.seen q.seen
  pub reader : q.reader ≡ reader_after (finding base place key) (find_at base place key) outcome
  pub tells : LoadTells q.seen (4 * r.cells) (find_at base place key) outcome

-- of the steps from a place to this outcome there are no more than the number that bounds the walk from the place on has
-- fallen by, and one where the find ends
abbrev pub CountsSteps : ℕ → ℕ → Place → ℕ → Advance → Type 0
CountsSteps old new place len (On next) = new + measure_of next len ≤ old + measure_of place len
CountsSteps old new place len (Found rec) = new ≤ old + measure_of place len + 1
CountsSteps old new place len Absent = new ≤ old + measure_of place len + 1

-- where the outcome is a place, the reader is there
abbrev pub IsThere : ReadView → ℕ → List ℕ → Advance → Type 0
IsThere r base key (On place) = r.reader ≡ finding base place key
IsThere r base key (Found rec) = Unit {0}
IsThere r base key Absent = Unit {0}
