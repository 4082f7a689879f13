-- The places of a walk to a key in well-formed images. This project's own.
use Rattle.std.specs.Prelude.{◌≡◌, ℕ, ◌<◌, List, length, slice_index, Some, None}
use Rattle.trie_image.specs.declared.Place.{Place}
use Rattle.trie_image.specs.declared.Ledger.{Ledger}
use Rattle.trie_image.specs.declared.Advance.{Advance}
use Rattle.trie_image.specs.declared.Advance.TheVariants.{On, Found, Absent}
use Rattle.trie_image.specs.Reading.{sees_from}
use Rattle.trie_image.specs.Image.{reading, root_of}
use Rattle.trie_image.specs.Place.{IsPlace, place_sees, next_word_of, outcome_of, measure_of}
use Rattle.trie_image.specs.Puts.{HasLastPut}
use Rattle.trie_image.specs.WellFormed.{IsWellFormed}

-- the place is one of the walk to the key, and sees what the root sees
abbrev pub OnTheWay : List ℕ → List ℕ → Place → Type 0
OnTheWay w key pl = (g : Ledger) (cells : ℕ) → IsWellFormed w g cells → IsPlace w g key pl × (place_sees w key pl ≡ sees_from (reading w) (root_of w) key)

-- what loads from a place on the way lead to: a place on the way whose number is lower, or the walk's end at the key's last
-- put, or at none where no put has the key
abbrev pub LeadsTo : List ℕ → List ℕ → Place → Advance → Type 0
LeadsTo w key pl (On next) = OnTheWay w key next × (measure_of next (length key) < measure_of pl (length key))
LeadsTo w key pl (Found rec) = (g : Ledger) (cells : ℕ) → IsWellFormed w g cells → HasLastPut g.puts key (Some rec)
LeadsTo w key pl Absent = (g : Ledger) (cells : ℕ) → IsWellFormed w g cells → HasLastPut g.puts key None

-- the word that a place on the way loads leads there
abbrev pub LawLeads : Type 0
LawLeads = (w key : List ℕ) (pl : Place) → OnTheWay w key pl → LeadsTo w key pl (outcome_of pl (slice_index w (next_word_of pl)) key)
