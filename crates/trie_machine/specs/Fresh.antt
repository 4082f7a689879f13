-- Which records are new enough for a find, and which answers of a find are legal, by the list of puts alone. This project's
-- own.
use Rattle.std.specs.Prelude.{◌≡◌, ◌≢◌, ℕ, ◌+◌, ◌<◌, ◌≤◌, max, List, length, take, slice_get, Option, Some, None}
use Rattle.trie_image.specs.declared.Put.{Put}
use Rattle.trie_image.specs.declared.Rec.{Rec}
use Rattle.trie_image.specs.Puts.{HasLastPut}

-- no put of the key has a number above `low` and at most `high`; the first put has number 1
abbrev pub NoPutBetween : List Put → List ℕ → ℕ → ℕ → Type 0
NoPutBetween puts key low high = (n : ℕ) (put : Put) → low ≤ n → n < high → slice_get puts n ≡ Some put → put.key ≢ key

-- what a find sees is fresh for its base: where it is a record, known by its first cell, this is the record of a put of the
-- key, and no put of the key has a number above its number and at most the base; where there is none, no put of the key has
-- a number at most the base
abbrev pub IsFresh : List Put → List ℕ → ℕ → Option ℕ → Type 0
IsFresh puts key base None = NoPutBetween puts key 0 base
IsFresh puts key base (Some cell) = (n : ℕ) × (put : Put) × (slice_get puts n ≡ Some put) × (put.key ≡ key) × (put.cell ≡ cell) × NoPutBetween puts key (n + 1) base

-- how many puts an answer stands for: the base, or the found record's number where that is greater
abbrev pub answer_at : ℕ → Option Rec → ℕ
answer_at base None = base
answer_at base (Some rec) = max base rec.number

-- a legal answer of a find for the key: what the map of the first `at` puts has at the key
pub record IsAnswer (puts : List Put) (base : ℕ) (key : List ℕ) (hit : Option Rec) (at : ℕ) : Type 0 where
  pub at_is : at ≡ answer_at base hit
  pub least : base ≤ at
  pub most : at ≤ length puts
  pub map : HasLastPut (take at puts) key hit
