-- Columns of the grammar within the bounds are those of a schema, and those of a schema are of the grammar and within the bounds.
use Rattle.std.proofs.Common.{◌≡◌, ℕ, zero, suc, ◌+◌, Bool, true, false, refl, ◌∙◌, ap, arith}
use Rattle.std.specs.Prelude.{◌&&◌, nat_le}
use Rattle.std.proofs.lemmas.Bool.Decides.{nat_tests}
use Rattle.key_types.specs.Kinds.{Kind, tiny, small, int, big, text, blob, boolean, tuple, reversed, Kinds, end, more}
use Rattle.key_types.specs.Layout.{count_of, is_kind, are_kinds, is_layout_by}
use Rattle.key_types.specs.Columns.{Columns}
use Rattle.schema_text.specs.Bounds.{KeepsBounds, is_few, are_few, is_shallow, are_shallow, is_short, has_few, is_flat}
use Rattle.schema_text.specs.Grammar.{IsType, AreTypes, IsSome}
use Rattle.schema_text.specs.Parts.{AreTextColumns}

both : (a b : Bool) → (a && b) ≡ true → (a ≡ true) × (b ≡ true)
both true b h = (refl, h)
both false b h = cc

and : (a b : Bool) → a ≡ true → b ≡ true → (a && b) ≡ true
and a b h k = ap (λ x. x && b) h ∙ k

some : (n : ℕ) → nat_le 1 (n + 1) ≡ true
some n = grind (arith, nat_tests)

mutual
  kind_kept : (t : Kind) (depth : ℕ) (behind : Bool) → IsType t behind → is_few t ≡ true → is_shallow t depth ≡ true → is_kind t depth behind ≡ true
  kind_kept tiny depth behind h f g = refl
  kind_kept small depth behind h f g = refl
  kind_kept int depth behind h f g = refl
  kind_kept big depth behind h f g = refl
  kind_kept text depth behind h f g = refl
  kind_kept blob depth behind h f g = refl
  kind_kept boolean depth behind h f g = refl
  kind_kept (tuple end) depth behind h f g = absurd h
  kind_kept (tuple (more t ts)) zero behind h f g = cc
  kind_kept (tuple (more t ts)) (suc depth) behind h f g =
      let p = both (nat_le (count_of (more t ts)) 8) (are_few (more t ts)) f in
      and (nat_le 1 (count_of (more t ts)) && nat_le (count_of (more t ts)) 8) (are_kinds (more t ts) depth) (and (nat_le 1 (count_of (more t ts))) (nat_le (count_of (more t ts)) 8) (some (count_of ts)) p.0)
      (kinds_kept (more t ts) depth h p.1 g)
  kind_kept (reversed t) depth true h f g = absurd h
  kind_kept (reversed t) depth false h f g = kind_kept t depth true h f g

  kinds_kept : (ts : Kinds) (depth : ℕ) → AreTypes ts → are_few ts ≡ true → are_shallow ts depth ≡ true → are_kinds ts depth ≡ true
  kinds_kept end depth h f g = refl
  kinds_kept (more t ts) depth h f g =
      let p = both (is_few t) (are_few ts) f in
      let q = both (is_shallow t depth) (are_shallow ts depth) g in
      and (is_kind t depth false) (are_kinds ts depth) (kind_kept t depth false h.0 p.0 q.0) (kinds_kept ts depth h.1 p.1 q.1)

some_count : (ts : Kinds) → IsSome ts → nat_le 1 (count_of ts) ≡ true
some_count end h = absurd h
some_count (more t ts) h = some (count_of ts)

pub kept : (s : Columns) → AreTextColumns s → has_few s ≡ true → is_flat s ≡ true → is_layout_by s.partition s.clustering ≡ true
kept s h f g =
    let few = both (is_short s.partition) (is_short s.clustering) f in
    let p = both (nat_le (count_of s.partition) 8) (are_few s.partition) few.0 in
    let q = both (nat_le (count_of s.clustering) 8) (are_few s.clustering) few.1 in
    let flat = both (are_shallow s.partition 4) (are_shallow s.clustering 4) g in
    and _ _ (and _ _ (and _ _ (and _ _ (some_count s.partition h.0) p.0) q.0) (kinds_kept s.partition 4 h.1 p.1 flat.0)) (kinds_kept s.clustering 4 h.2 q.1 flat.1)

-- ---- and back

some_of : (ts : Kinds) → nat_le 1 (count_of ts) ≡ true → IsSome ts
some_of end h = cc
some_of (more t ts) h = tt

abbrev Kept : Kind → ℕ → Bool → Type 0
Kept t depth behind = IsType t behind × (is_few t ≡ true) × (is_shallow t depth ≡ true)

abbrev AllKept : Kinds → ℕ → Type 0
AllKept ts depth = AreTypes ts × (are_few ts ≡ true) × (are_shallow ts depth ≡ true)

tuple_type : (ts : Kinds) (behind : Bool) → IsSome ts → AreTypes ts → IsType (tuple ts) behind
tuple_type end behind h k = absurd h
tuple_type (more t ts) behind h k = k

mutual
  kind_bounds : (t : Kind) (depth : ℕ) (behind : Bool) → is_kind t depth behind ≡ true → Kept t depth behind
  kind_bounds tiny depth behind h = (tt, refl, refl)
  kind_bounds small depth behind h = (tt, refl, refl)
  kind_bounds int depth behind h = (tt, refl, refl)
  kind_bounds big depth behind h = (tt, refl, refl)
  kind_bounds text depth behind h = (tt, refl, refl)
  kind_bounds blob depth behind h = (tt, refl, refl)
  kind_bounds boolean depth behind h = (tt, refl, refl)
  kind_bounds (tuple ts) zero behind h = cc
  kind_bounds (tuple ts) (suc depth) behind h =
      let p = both (nat_le 1 (count_of ts) && nat_le (count_of ts) 8) (are_kinds ts depth) h in
      let q = both (nat_le 1 (count_of ts)) (nat_le (count_of ts) 8) p.0 in
      let r = kinds_bounds ts depth p.1 in
      (tuple_type ts behind (some_of ts q.0) r.0, and (nat_le (count_of ts) 8) (are_few ts) q.1 r.1, r.2)
  kind_bounds (reversed t) depth true h = cc
  kind_bounds (reversed t) depth false h = kind_bounds t depth true h

  kinds_bounds : (ts : Kinds) (depth : ℕ) → are_kinds ts depth ≡ true → AllKept ts depth
  kinds_bounds end depth h = (tt, refl, refl)
  kinds_bounds (more t ts) depth h =
      let p = both (is_kind t depth false) (are_kinds ts depth) h in
      let q = kind_bounds t depth false p.0 in
      let r = kinds_bounds ts depth p.1 in
      ((q.0, r.0), and (is_few t) (are_few ts) q.1 r.1, and (is_shallow t depth) (are_shallow ts depth) q.2 r.2)

pub bounds : (s : Columns) → KeepsBounds s → AreTextColumns s × (has_few s ≡ true) × (is_flat s ≡ true)
bounds s h =
    let a = both (nat_le 1 (count_of s.partition) && nat_le (count_of s.partition) 8 && nat_le (count_of s.clustering) 8 && are_kinds s.partition 4) (are_kinds s.clustering 4) h in
    let b = both (nat_le 1 (count_of s.partition) && nat_le (count_of s.partition) 8 && nat_le (count_of s.clustering) 8) (are_kinds s.partition 4) a.0 in
    let c = both (nat_le 1 (count_of s.partition) && nat_le (count_of s.partition) 8) (nat_le (count_of s.clustering) 8) b.0 in
    let d = both (nat_le 1 (count_of s.partition)) (nat_le (count_of s.partition) 8) c.0 in
    let p = kinds_bounds s.partition 4 b.1 in
    let q = kinds_bounds s.clustering 4 a.1 in (
      (some_of s.partition d.0, p.0, q.0),
      and (is_short s.partition) (is_short s.clustering) (and (nat_le (count_of s.partition) 8) (are_few s.partition) d.1 p.1) (and (nat_le (count_of s.clustering) 8) (are_few s.clustering) c.1 q.1),
      and (are_shallow s.partition 4) (are_shallow s.clustering 4) p.2 q.2,
    )
