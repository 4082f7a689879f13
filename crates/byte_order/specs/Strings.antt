-- Byte strings: prefixes, shortest unique prefixes and separators. This project's own.
use Rattle.std.specs.Prelude.{◌≡◌, ℕ, suc, ◌<◌, ◌≤◌, ◌==◌, max, List, [], ◌∷◌, ◌++◌, length, take, Option, Some, None, if◌then◌else◌}
use Rattle.std.specs.declared.cmp.Ordering.TheVariants.{Less}
use Rattle.key_types.specs.Table.{string_cmp}

-- the second string is the first with more behind it
abbrev pub IsPrefix : List ℕ → List ℕ → Type 0
IsPrefix a b = (more : List ℕ) × (b ≡ a ++ more)

-- the string is a prefix of none of the others
abbrev pub IsPrefixOfNone : List ℕ → List (List ℕ) → Type 0
IsPrefixOfNone a [] = Unit {0}
IsPrefixOfNone a (other ∷ others) = (IsPrefix a other → ⊥) × IsPrefixOfNone a others

-- the first n bytes of the key are its shortest prefix, of at least one byte, that is a prefix of none of the others
pub record IsUniqueLength (key : List ℕ) (others : List (List ℕ)) (n : ℕ) : Type 0 where
  pub least : 0 < n
  pub most : n ≤ length key
  pub alone : IsPrefixOfNone (take n key) others
  pub shortest : (m : ℕ) → 0 < m → IsPrefixOfNone (take m key) others → n ≤ m

-- the first n bytes of `next` are its shortest prefix that is above `before`
pub record IsSeparatorLength (before next : List ℕ) (n : ℕ) : Type 0 where
  pub most : n ≤ length next
  pub above : string_cmp before (take n next) ≡ Less
  pub shortest : (m : ℕ) → string_cmp before (take m next) ≡ Less → n ≤ m

-- ---- the neighbours of a key

-- the strings beside a key, where there are some
abbrev pub neighbours : Option (List ℕ) → Option (List ℕ) → List (List ℕ)
neighbours None None = []
neighbours None (Some next) = next ∷ []
neighbours (Some before) None = before ∷ []
neighbours (Some before) (Some next) = before ∷ next ∷ []

-- the strings differ at a byte that both have: neither is a prefix of the other
abbrev pub Differ : List ℕ → List ℕ → Type 0
Differ a b = (IsPrefix a b → ⊥) × (IsPrefix b a → ⊥)

-- each string is above the one before
abbrev pub AreAscending : List (List ℕ) → Type 0
AreAscending [] = Unit {0}
AreAscending (string ∷ []) = Unit {0}
AreAscending (string ∷ next ∷ strings) = (string_cmp string next ≡ Less) × AreAscending (next ∷ strings)

-- the last of some strings
abbrev pub last_of : List (List ℕ) → Option (List ℕ)
last_of [] = None
last_of (string ∷ []) = Some string
last_of (string ∷ next ∷ strings) = last_of (next ∷ strings)

-- the first of them
abbrev pub first_of : List (List ℕ) → Option (List ℕ)
first_of [] = None
first_of (string ∷ strings) = Some string

-- ---- how many bytes tell strings apart

-- how many bytes both strings have at their front
abbrev pub shared_size : List ℕ → List ℕ → ℕ
shared_size [] b = 0
shared_size (x ∷ a) [] = 0
shared_size (x ∷ a) (y ∷ b) = if x == y then suc (shared_size a b) else 0

-- the same of a string beside the key, where one is there
abbrev pub shared_beside : Option (List ℕ) → List ℕ → ℕ
shared_beside None key = 0
shared_beside (Some other) key = shared_size key other

-- how many bytes tell the key from both its neighbours
abbrev pub unique_size : Option (List ℕ) → List ℕ → Option (List ℕ) → ℕ
unique_size before key behind = suc (max (shared_beside before key) (shared_beside behind key))

-- how many bytes of `next` tell it from `before`
abbrev pub separator_size : List ℕ → List ℕ → ℕ
separator_size before next = suc (shared_size before next)
