-- Bounds, and the shards that they part the partitions into. This project's own.
use Rattle.std.specs.Prelude.{◌≡◌, ℕ, ◌-◌, ◌<◌, ◌≤◌, Bool, true, List, [], length, count_by, slice_get, slice_index_or, Option, Some, None}
use Rattle.std.specs.declared.cmp.Ordering.TheVariants.{Less}
use Rattle.std.specs.Ordering.{is_le}
use Rattle.key_types.specs.Table.{string_cmp}
use Rattle.trie_image.specs.declared.Put.{Put}
use Rattle.trie_rule.specs.Seats.{KeptWords}

-- the bound isn't above the string
abbrev pub is_reached : List ℕ → List ℕ → Bool
is_reached string bound = is_le (string_cmp bound string)

-- the shard of a partition's string: how many bounds aren't above it
abbrev pub shard_index : List (List ℕ) → List ℕ → ℕ
shard_index bounds string = count_by (is_reached string) bounds

abbrev pub bound_at : List (List ℕ) → ℕ → List ℕ
bound_at bounds i = slice_index_or bounds i []

-- the bound is above the one before it
abbrev pub AboveLast : List (List ℕ) → ℕ → Type 0
AboveLast bounds i = string_cmp (bound_at bounds (i - 1)) (bound_at bounds i) ≡ Less

-- each bound but the first is above the one before it
abbrev pub BoundsAscend : List (List ℕ) → Type 0
BoundsAscend bounds = (i : ℕ) → 1 ≤ i → i < length bounds → AboveLast bounds i

-- bound i, from 0, is the first that isn't above the one before it
pub record IsFirstUnordered (bounds : List (List ℕ)) (i : ℕ) : Type 0 where
  pub least : 1 ≤ i
  pub inside : i < length bounds
  pub unordered : AboveLast bounds i → ⊥
  pub before : (j : ℕ) → 1 ≤ j → j < i → AboveLast bounds j

abbrev pub IsFoundUnordered : List (List ℕ) → Option ℕ → Type 0
IsFoundUnordered bounds None = BoundsAscend bounds
IsFoundUnordered bounds (Some i) = IsFirstUnordered bounds i

-- the string lies in shard i: it isn't below the bound before the shard, and is below the bound after it
pub record LiesIn (bounds : List (List ℕ)) (i : ℕ) (string : List ℕ) : Type 0 where
  pub low : 1 ≤ i → is_reached string (bound_at bounds (i - 1)) ≡ true
  pub high : i < length bounds → string_cmp string (bound_at bounds i) ≡ Less

-- each key of each shard's history lies in its shard
abbrev pub KeysLie : List (List ℕ) → List KeptWords → Type 0
KeysLie bounds shards = (i n : ℕ) (shard : KeptWords) (put : Put) → slice_get shards i ≡ Some shard
    → slice_get shard.made n ≡ Some put → LiesIn bounds i put.key

-- each key of a shard is below each key of a later one
abbrev pub ShardsAscend : List KeptWords → Type 0
ShardsAscend shards = (i j m n : ℕ) (one other : KeptWords) (p q : Put) → i < j → slice_get shards i ≡ Some one
    → slice_get shards j ≡ Some other → slice_get one.made m ≡ Some p → slice_get other.made n ≡ Some q
    → string_cmp p.key q.key ≡ Less

-- where bounds ascend, each string lies in its shard
abbrev pub LawShardOf : Type 0
LawShardOf = (bounds : List (List ℕ)) (string : List ℕ) → BoundsAscend bounds
    → LiesIn bounds (shard_index bounds string) string
