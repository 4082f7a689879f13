-- The bounds on the lists of a schema. This project's own.
use Rattle.std.specs.Prelude.{ℕ, zero, suc, Bool, true, false, ◌&&◌, nat_le, IsTrue}
use Rattle.key_types.specs.Columns.{Columns}
use Rattle.key_types.specs.Kinds.{Kind, tuple, reversed, Kinds, end, more}
use Rattle.key_types.specs.Layout.{count_of, is_layout_by}

-- what every schema keeps
abbrev pub KeepsBounds : Columns → Type 0
KeepsBounds s = IsTrue (is_layout_by s.partition s.clustering)

-- each tuple in it has at most 8 components
abbrev mutual
  pub is_few : Kind → Bool
  is_few (tuple ts) = nat_le (count_of ts) 8 && are_few ts
  is_few (reversed t) = is_few t
  is_few _ = true

  pub are_few : Kinds → Bool
  are_few end = true
  are_few (more t ts) = is_few t && are_few ts

-- tuples are nested in it at most so deep
abbrev mutual
  pub is_shallow : Kind → ℕ → Bool
  is_shallow (tuple ts) zero = false
  is_shallow (tuple ts) (suc depth) = are_shallow ts depth
  is_shallow (reversed t) depth = is_shallow t depth
  is_shallow _ depth = true

  pub are_shallow : Kinds → ℕ → Bool
  are_shallow end depth = true
  are_shallow (more t ts) depth = is_shallow t depth && are_shallow ts depth

-- a list has at most 8 components, and so has each tuple in it
abbrev pub is_short : Kinds → Bool
is_short ts = nat_le (count_of ts) 8 && are_few ts

-- no list of the columns has over 8 components
abbrev pub has_few : Columns → Bool
has_few s = is_short s.partition && is_short s.clustering

-- no tuples of the columns are nested over 4 deep
abbrev pub is_flat : Columns → Bool
is_flat s = are_shallow s.partition 4 && are_shallow s.clustering 4
