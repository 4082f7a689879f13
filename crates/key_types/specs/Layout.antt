-- What every schema keeps. This project's own.
use Rattle.std.specs.Prelude.{ℕ, ◌+◌, Bool, true, false, ◌&&◌, nat_le, suc, zero}
use Rattle.key_types.specs.declared.kinds.TypeList.{TypeList}
use Rattle.key_types.specs.Kinds.{Kind, tuple, reversed, Kinds, end, more, kinds_of}

-- how many types there are
abbrev pub count_of : Kinds → ℕ
count_of end = 0
count_of (more t ts) = count_of ts + 1

-- the tuples are nested at most so deep, each of 1 to 8 components, and no reversed type stands in a reversed one
abbrev mutual
  pub is_kind : Kind → ℕ → Bool → Bool
  is_kind (tuple ts) zero inner = false
  is_kind (tuple ts) (suc depth) inner = nat_le 1 (count_of ts) && nat_le (count_of ts) 8 && are_kinds ts depth
  is_kind (reversed t) depth true = false
  is_kind (reversed t) depth false = is_kind t depth true
  is_kind _ depth inner = true

  pub are_kinds : Kinds → ℕ → Bool
  are_kinds end depth = true
  are_kinds (more t ts) depth = is_kind t depth false && are_kinds ts depth

-- 1 to 8 partition components and at most 8 clustering components, with tuples at most 4 deep
abbrev pub is_layout_by : Kinds → Kinds → Bool
is_layout_by partition clustering =
    nat_le 1 (count_of partition) && nat_le (count_of partition) 8 && nat_le (count_of clustering) 8 && are_kinds partition 4 && are_kinds clustering 4

-- the same of types in memory
abbrev pub is_layout : TypeList → TypeList → Bool
is_layout partition clustering = is_layout_by (kinds_of partition) (kinds_of clustering)
