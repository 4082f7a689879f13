-- Types and values of key components, without pointers, and the order of the values. The types are those of CQL; the order is that of ByteComparable.md of Apache Cassandra (typed comparison).
use Rattle.std.specs.Prelude.{ℕ, List, [], ◌∷◌, ◌<◌, Bool, true, false, ◌&&◌, ℤ, pos, negsuc, int_le, int_lt, nat_lt, IsTrue}
use Rattle.std.specs.Str.{is_utf8}
use Rattle.std.specs.declared.cmp.Ordering.{Ordering}
use Rattle.std.specs.declared.cmp.Ordering.TheVariants.{Equal}
use Rattle.std.specs.Ordering.{nat_cmp, int_cmp, bool_cmp, ordering_then, ordering_reverse}
use Rattle.std.specs.Cmp.Lexicographic.{slice_cmp}
use Rattle.key_types.specs.declared.kinds.ColType.{ColType, TinyInt, SmallInt, Int, BigInt, Text, Blob, Boolean, Tuple, Reversed'}
use Rattle.key_types.specs.declared.kinds.TypeList.{TypeList, End, More'}
use Rattle.key_types.specs.declared.kinds.Value as v
use Rattle.key_types.specs.declared.kinds.ValueList as vs

-- a type, and a list of types
mutual
  pub data Kind : Type 0 where
    tiny : Kind
    small : Kind
    int : Kind
    big : Kind
    text : Kind
    blob : Kind
    boolean : Kind
    tuple : Kinds → Kind
    reversed : Kind → Kind

  pub data Kinds : Type 0 where
    end : Kinds
    more : Kind → Kinds → Kinds

-- a value, and a list of values
mutual
  pub data Val : Type 0 where
    number : ℤ → Val
    bytes : List ℕ → Val
    truth : Bool → Val
    values : Vals → Val

  pub data Vals : Type 0 where
    none : Vals
    and : Val → Vals → Vals

-- what a type and a list of types in memory stand for
abbrev mutual
  pub kind_of : ColType → Kind
  kind_of TinyInt = tiny
  kind_of SmallInt = small
  kind_of Int = int
  kind_of BigInt = big
  kind_of Text = text
  kind_of Blob = blob
  kind_of Boolean = boolean
  kind_of (Tuple ts) = tuple (kinds_of ts)
  kind_of (Reversed' p t) = reversed (kind_of t)

  pub kinds_of : TypeList → Kinds
  kinds_of End = end
  kinds_of (More' p t q ts) = more (kind_of t) (kinds_of ts)

-- what a value and a list of values in memory stand for
abbrev mutual
  pub value_of : v.Value → Val
  value_of (v.Number n) = number n
  value_of (v.Bytes b) = bytes b
  value_of (v.Truth b) = truth b
  value_of (v.Tuple vs) = values (values_of vs)

  pub values_of : vs.ValueList → Vals
  values_of vs.End = none
  values_of (vs.More' p t q ts) = and (value_of t) (values_of ts)

-- a number from the first bound on, and below the second
abbrev pub within : ℤ → ℤ → ℤ → Bool
within low high n = int_le low n && int_lt n high

-- each is below 256
abbrev pub AreBytes : List ℕ → Type 0
AreBytes [] = Unit {0}
AreBytes (b ∷ bs) = (b < 256) × AreBytes bs

-- the value is one of the type
abbrev mutual
  pub Fits : Kind → Val → Type 0
  Fits tiny (number n) = IsTrue (within (negsuc 127) (pos 128) n)
  Fits small (number n) = IsTrue (within (negsuc 32767) (pos 32768) n)
  Fits int (number n) = IsTrue (within (negsuc 2147483647) (pos 2147483648) n)
  Fits big (number n) = IsTrue (within (negsuc 9223372036854775807) (pos 9223372036854775808) n)
  Fits text (bytes b) = IsTrue (is_utf8 b) × AreBytes b
  Fits blob (bytes b) = AreBytes b
  Fits boolean (truth b) = Unit {0}
  Fits (tuple ts) (values vs) = EachFits ts vs
  Fits (reversed t) v = Fits t v
  Fits _ _ = ⊥

  pub EachFits : Kinds → Vals → Type 0
  EachFits end none = Unit {0}
  EachFits (more t ts) (and v vs) = Fits t v × EachFits ts vs
  EachFits _ _ = ⊥

-- each is below 256, as a test that computes
abbrev pub all_bytes : List ℕ → Bool
all_bytes [] = true
all_bytes (b ∷ bs) = nat_lt b 256 && all_bytes bs

-- that a value is one of the type, as a test that computes: `fits` answers it, and tells by it that the value fits
abbrev mutual
  pub fits_by : Kind → Val → Bool
  fits_by tiny (number n) = within (negsuc 127) (pos 128) n
  fits_by small (number n) = within (negsuc 32767) (pos 32768) n
  fits_by int (number n) = within (negsuc 2147483647) (pos 2147483648) n
  fits_by big (number n) = within (negsuc 9223372036854775807) (pos 9223372036854775808) n
  fits_by text (bytes b) = is_utf8 b && all_bytes b
  fits_by blob (bytes b) = all_bytes b
  fits_by boolean (truth b) = true
  fits_by (tuple ts) (values vs) = all_fit_by ts vs
  fits_by (reversed t) v = fits_by t v
  fits_by _ _ = false

  pub all_fit_by : Kinds → Vals → Bool
  all_fit_by end none = true
  all_fit_by (more t ts) (and v vs) = fits_by t v && all_fit_by ts vs
  all_fit_by _ _ = false

-- the order of two values of a type: numbers by size, bytes unsigned (a proper prefix is less), false before true, tuples component by component, a reversed type the other way round
abbrev mutual
  pub order_by : Kind → Val → Val → Ordering
  order_by (reversed t) a b = ordering_reverse (order_by t a b)
  order_by (tuple ts) (values xs) (values ys) = orders_by ts xs ys
  order_by _ (number x) (number y) = int_cmp x y
  order_by _ (bytes x) (bytes y) = slice_cmp nat_cmp x y
  order_by _ (truth x) (truth y) = bool_cmp x y
  order_by _ _ _ = Equal

  pub orders_by : Kinds → Vals → Vals → Ordering
  orders_by (more t ts) (and x xs) (and y ys) = ordering_then (order_by t x y) (orders_by ts xs ys)
  orders_by _ _ _ = Equal
