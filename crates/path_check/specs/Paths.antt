-- The next path of a trie, beside what Data.db gives for its place. This project's own.
use Rattle.std.specs.Prelude.{◌≡◌, ℕ, ℤ, List, Option, Some, None, Result, Ok, Err, ⊤}
use Rattle.outside.specs.declared.store.Part.{Part}
use Rattle.bti_nodes.specs.Trie.{Path, Wrong}
use Rattle.bti_reader.specs.declared.way.PathHit.{PathHit}
use Rattle.bti_reader.specs.Steps.{damage_of, payload_number}
use Rattle.bti_reader.specs.Walks.{next_in}
use Rattle.data_walk.specs.declared.refusal.Refusal.{Refusal}
use Rattle.data_walk.specs.declared.refusal.Refusal.TheVariants.{Unread}
use Rattle.data_walk.specs.declared.clash.Clash.TheVariants as clash
use Rattle.data_walk.specs.Refusals.{IsFault, clash_at}

-- the clash of a number at a place of a file
abbrev pub number_clash : Part → ℕ → ℤ → ℤ → Refusal
number_clash part position found wanted = clash_at part position (clash.Number found wanted)

module _ (part : Part) (file : List ℕ) (root : ℕ) where
  -- No further path is had: one is missing, a node doesn't begin, or the store failed or memory ran out.
  pub data LacksPath (last : Option (List ℕ)) : Refusal → Type 0 where
    missing : next_in file root last ≡ Ok None → LacksPath last (clash_at part root clash.Path)
    damaged : (wrong : Wrong) → next_in file root last ≡ Err wrong → LacksPath last (Unread (damage_of part wrong))
    fault : (e : Refusal) → IsFault e → LacksPath last e

  -- the next path, with its node and its number, is had, and was given last then; or why it isn't
  abbrev pub GivesPath : Option (List ℕ) → Option (List ℕ) → Result PathHit Refusal → Type 0
  GivesPath last given (Ok hit) = (found : Path) × (next_in file root last ≡ Ok (Some found))
      × (given ≡ Some found.path)
      × (hit ≡ record { path = found.path; node = found.node; number = payload_number part found.payload })
  GivesPath last given (Err e) = LacksPath last e

  -- What is found at the end: no further path, or one too many.
  pub data EndsPaths (last : Option (List ℕ)) : Result ⊤ Refusal → Type 0 where
    ends : next_in file root last ≡ Ok None → EndsPaths last (Ok tt)
    more : (found : Path) → next_in file root last ≡ Ok (Some found)
        → EndsPaths last (Err (clash_at part found.node clash.Path))
    damaged : (wrong : Wrong) → next_in file root last ≡ Err wrong
        → EndsPaths last (Err (Unread (damage_of part wrong)))
    fault : (e : Refusal) → IsFault e → EndsPaths last (Err e)
