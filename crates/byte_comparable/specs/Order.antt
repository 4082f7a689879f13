-- What the strings keep of the values, for every schema.
use Rattle.std.specs.Prelude.{◌≡◌, ◌≢◌, ◌↔◌, ℕ, ◌≤◌, List, [], ◌∷◌, ◌++◌, Option, Some, None, IfSome}
use Rattle.std.specs.Ordering.{nat_cmp, ordering_then}
use Rattle.std.specs.declared.cmp.Ordering.{Ordering}
use Rattle.std.specs.declared.cmp.Ordering.TheVariants.{Less, Equal, Greater}
use Rattle.std.specs.Cmp.Lexicographic.{slice_cmp}
use Rattle.key_types.specs.Kinds.{Kind, Kinds, more, Val, Vals, none, and, Fits, EachFits, order_by, orders_by}
use Rattle.byte_comparable.specs.Encoding.{encoding, key_string, bound_with, before_rows, after_rows, LeadFits}

-- the string of a row: that of its partition, then that of its clustering
abbrev pub row_string : Kinds → Kinds → Vals → Vals → List ℕ
row_string ps cs p c = key_string ps p ++ key_string cs c

-- a typed key: partition components, and clustering components; a static key, which names a partition's static value, has none of these
pub record Key : Type 0 where
  pub partition : Vals
  pub clustering : Option Vals

-- each component fits its type
abbrev pub KeyFits : Kinds → Kinds → Key → Type 0
KeyFits ps cs key = EachFits ps key.partition × IfSome key.clustering (EachFits cs)

-- within a partition the static key is first, and the others go by clustering components
abbrev pub within_order : Kinds → Option Vals → Option Vals → Ordering
within_order cs None None = Equal
within_order cs None (Some c) = Less
within_order cs (Some c) None = Greater
within_order cs (Some c) (Some d) = orders_by cs c d

-- the order of two keys: partition components, then within the partition
abbrev pub key_order : Kinds → Kinds → Key → Key → Ordering
key_order ps cs a b = ordering_then (orders_by ps a.partition b.partition) (within_order cs a.clustering b.clustering)

-- the string within the partition, where there are clustering components
abbrev pub within_string : Kinds → Option Vals → List ℕ
within_string cs None = []
within_string cs (Some c) = key_string cs c

-- the string of a key: that of a row, or for a static key that of its partition
abbrev pub string_of_key : Kinds → Kinds → Key → List ℕ
string_of_key ps cs key = key_string ps key.partition ++ within_string cs key.clustering

-- the order of the strings of any schema is the order of the keys
abbrev pub KeepsOrder : Type 0
KeepsOrder = (ps cs : Kinds) (a b : Key) → KeyFits ps cs a → KeyFits ps cs b
    → slice_cmp nat_cmp (string_of_key ps cs a) (string_of_key ps cs b) ≡ key_order ps cs a b

-- a byte that may stand behind an encoding: separators and terminators, also complemented
abbrev pub IsDelimiter : ℕ → Type 0
IsDelimiter b = (16 ≤ b) × (b ≤ 239)

-- where an encoding goes on behind another of its type, it goes on with no such byte (ByteComparable.md: weakly prefix-free)
abbrev pub AreWeaklyPrefixFree : Type 0
AreWeaklyPrefixFree = (t : Kind) (a b : Val) (s : ℕ) (more : List ℕ) → Fits t a → Fits t b → encoding t b ≡ encoding t a ++ s ∷ more → IsDelimiter s → ⊥

-- no whole string begins another (ByteComparable.md: prefix-free)
abbrev pub ArePrefixFree : Type 0
ArePrefixFree = (ps cs : Kinds) (p1 c1 p2 c2 : Vals) (more : List ℕ) → EachFits ps p1 → EachFits cs c1 → EachFits ps p2 → EachFits cs c2
    → row_string ps cs p2 c2 ≡ row_string ps cs p1 c1 ++ more → (p1 ≡ p2) × (c1 ≡ c2)

-- the order of clustering components, as far as a bound names them
abbrev pub lead_order : Kinds → Vals → Vals → Ordering
lead_order (more t ts) (and x xs) (and y ys) = ordering_then (order_by t x y) (lead_order ts xs ys)
lead_order _ _ _ = Equal

-- the order of a row and a bound: it is Equal on each row whose components, as far as the bound names them, are the bound's
abbrev pub bound_order : Kinds → Kinds → Vals → Vals → Vals → Vals → Ordering
bound_order ps cs p1 c1 p2 c2 = ordering_then (orders_by ps p1 p2) (lead_order cs c1 c2)

-- the string of a bound, with the last byte of its side
abbrev pub bound_string_of : ℕ → Kinds → Kinds → Vals → Vals → List ℕ
bound_string_of last ps cs p c = key_string ps p ++ bound_with last cs c

-- a row's string is above the string before a bound exactly where the row isn't below the bound, and below the string behind it exactly where the row isn't above the bound
abbrev pub IsRange : Type 0
IsRange = (ps cs : Kinds) (p1 c1 p2 c2 : Vals) → EachFits ps p1 → EachFits cs c1 → EachFits ps p2 → LeadFits cs c2
    → (slice_cmp nat_cmp (row_string ps cs p1 c1) (bound_string_of before_rows ps cs p2 c2) ≡ ordering_then (bound_order ps cs p1 c1 p2 c2) Greater)
    × (slice_cmp nat_cmp (row_string ps cs p1 c1) (bound_string_of after_rows ps cs p2 c2) ≡ ordering_then (bound_order ps cs p1 c1 p2 c2) Less)

-- ---- ranges of all keys, each from a bound to a bound: the components of a partition, and leading clustering components or none

-- the string from which a range goes: that before the rows of the bound, or of a bound that names its partition alone the partition's, with which its keys begin
abbrev pub from_string : Kinds → Kinds → Vals → Vals → List ℕ
from_string ps cs p none = key_string ps p
from_string ps cs p (and v vs) = bound_string_of before_rows ps cs p (and v vs)

-- the string up to which a range goes: that behind the rows of the bound
abbrev pub to_string : Kinds → Kinds → Vals → Vals → List ℕ
to_string ps cs p c = bound_string_of after_rows ps cs p c

-- no clustering component is named
abbrev pub NamesNone : Vals → Type 0
NamesNone none = Unit {0}
NamesNone (and v vs) = ⊥

-- a row isn't below the bound from which a range goes where its components, as far as the bound names them, aren't below; and a static key where its partition isn't below that of the bound, and isn't that of a bound which names clustering components
abbrev pub IsNotBelow : Kinds → Kinds → Vals → Option Vals → Vals → Vals → Type 0
IsNotBelow ps cs partition (Some row) p c = bound_order ps cs partition row p c ≢ Less
IsNotBelow ps cs partition None p c = (orders_by ps partition p ≢ Less) × (orders_by ps partition p ≡ Equal → NamesNone c)

-- a row isn't above the bound to which a range goes where its components, as far as the bound names them, aren't above; and a static key where its partition isn't above that of the bound
abbrev pub IsNotAbove : Kinds → Kinds → Vals → Option Vals → Vals → Vals → Type 0
IsNotAbove ps cs partition (Some row) p c = bound_order ps cs partition row p c ≢ Greater
IsNotAbove ps cs partition None p c = orders_by ps partition p ≢ Greater

-- a key is in a range exactly where its string isn't below the string from which the range goes, and isn't above the string up to which it goes
abbrev pub IsKeyRange : Type 0
IsKeyRange = (ps cs : Kinds) (key : Key) (p c : Vals) → KeyFits ps cs key → EachFits ps p → LeadFits cs c
    → (IsNotBelow ps cs key.partition key.clustering p c ↔ (slice_cmp nat_cmp (string_of_key ps cs key) (from_string ps cs p c) ≢ Less))
    × (IsNotAbove ps cs key.partition key.clustering p c ↔ (slice_cmp nat_cmp (string_of_key ps cs key) (to_string ps cs p c) ≢ Greater))
