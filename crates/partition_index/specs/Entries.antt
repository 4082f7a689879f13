-- The entries of a partition index: the shortest unique prefixes of the partitions' strings, with numbers (after
-- BtiFormat.md).
use Rattle.std.specs.Prelude.{◌≡◌, ℕ, ℤ, pos, negsuc, ◌+◌, ◌-◌, ◌<◌, ◌≤◌, ◌≤ℤ◌, ◌<ℤ◌, ◌^◌, List, [], ◌∷◌, ◌++◌, length, take, map, Option, None, Some}
use Rattle.std.specs.List.{AllByRecursion}
use Rattle.std.specs.declared.cmp.Ordering.TheVariants.{Less}
use Rattle.key_types.specs.Table.{string_cmp}
use Rattle.byte_order.specs.Strings.{IsPrefix, IsUniqueLength, first_of, unique_size}
use Rattle.bti_nodes.specs.Payloads.{signed_bytes}
use Rattle.page_packer.specs.Tree.{TrieEntry}

-- a partition: its string, and its number, which is the position of its entry in the row index, or the complement of
-- its position in the data file
pub record Numbered : Type 0 where
  pub string : List ℕ
  pub number : ℤ

-- ---- what is indexed

-- a string of 1 to 1,024 bytes, and a number that seven bytes hold with its sign
pub record IsNumbered (p : Numbered) : Type 0 where
  pub bytes : AllByRecursion (λ b. b < 256) p.string
  pub some : 0 < length p.string
  pub most : length p.string ≤ 1024
  pub low : negsuc (2 ^ 55 - 1) ≤ℤ p.number
  pub high : p.number <ℤ pos (2 ^ 55)

-- the second string is above the first, and doesn't begin with it
abbrev pub IsApartBelow : List ℕ → List ℕ → Type 0
IsApartBelow a b = (string_cmp a b ≡ Less) × (IsPrefix a b → ⊥)

-- the first string of some, where there is one, is apart above this one
abbrev pub IsFollowed : List ℕ → List Numbered → Type 0
IsFollowed string [] = Unit {0}
IsFollowed string (p ∷ ps) = IsApartBelow string p.string

-- the strings ascend, and none begins with another
abbrev pub StandApart : List Numbered → Type 0
StandApart [] = Unit {0}
StandApart (p ∷ ps) = IsNumbered p × IsFollowed p.string ps × StandApart ps

-- how many bytes the strings have together
abbrev pub string_bytes : List Numbered → ℕ
string_bytes [] = 0
string_bytes (p ∷ ps) = length p.string + string_bytes ps

pub record AreNumbered (ps : List Numbered) : Type 0 where
  pub ascend : StandApart ps
  pub few : string_bytes ps ≤ 2 ^ 30

-- ---- the index, in its own words

abbrev pub strings_of : List Numbered → List (List ℕ)
strings_of ps = map (λ (p : Numbered). p.string) ps

-- the entry's key is the shortest prefix of the partition's string that none of the others begins with, and its payload
-- spells the partition's number
pub record IsIndexed (p : Numbered) (others : List (List ℕ)) (e : TrieEntry) : Type 0 where
  pub size : ℕ
  pub unique : IsUniqueLength p.string others size
  pub key : e.key ≡ take size p.string
  pub payload : e.payload ≡ signed_bytes p.number

-- one entry for each partition, in order, where some strings stand before the partitions
abbrev pub AreIndexed : List (List ℕ) → List Numbered → List TrieEntry → Type 0
AreIndexed before [] [] = Unit {0}
AreIndexed before [] (e ∷ es) = ⊥
AreIndexed before (p ∷ ps) [] = ⊥
AreIndexed before (p ∷ ps) (e ∷ es) =
    IsIndexed p (before ++ strings_of ps) e × AreIndexed (before ++ p.string ∷ []) ps es

-- The entries are the partition index: the keys are unique among all strings of the partitions.
abbrev pub IsPartitionIndex : List Numbered → List TrieEntry → Type 0
IsPartitionIndex ps es = AreIndexed [] ps es

-- ---- the same as a function, by neighbours

-- the entry of a partition between two strings
abbrev pub entry_between : Option (List ℕ) → Numbered → Option (List ℕ) → TrieEntry
entry_between before p behind =
    let size = unique_size before p.string behind in
    record { key = take size p.string; payload = signed_bytes p.number }

-- the entries of partitions behind a string
abbrev pub index_entries_from : Option (List ℕ) → List Numbered → List TrieEntry
index_entries_from before [] = []
index_entries_from before (p ∷ ps) = entry_between before p (first_of (strings_of ps)) ∷ index_entries_from (Some p.string) ps

abbrev pub index_entries : List Numbered → List TrieEntry
index_entries ps = index_entries_from None ps

-- those of them that stand whatever partitions follow: all but the last
abbrev pub settled_from : Option (List ℕ) → List Numbered → List TrieEntry
settled_from before [] = []
settled_from before (p ∷ []) = []
settled_from before (p ∷ q ∷ ps) = entry_between before p (Some q.string) ∷ settled_from (Some p.string) (q ∷ ps)

abbrev pub settled : List Numbered → List TrieEntry
settled ps = settled_from None ps

-- ---- the ends of a list

abbrev pub first_string : List Numbered → List ℕ
first_string [] = []
first_string (p ∷ ps) = p.string

-- the last of a partition and some behind it
abbrev pub last_among : Numbered → List Numbered → Numbered
last_among p [] = p
last_among p (q ∷ ps) = last_among q ps

abbrev pub last_string : List Numbered → List ℕ
last_string [] = []
last_string (p ∷ ps) = (last_among p ps).string

-- the string before the last of them, where a string stands before them all or none
abbrev pub before_last : Option (List ℕ) → Numbered → List Numbered → Option (List ℕ)
before_last before p [] = before
before_last before p (q ∷ ps) = before_last (Some p.string) q ps
