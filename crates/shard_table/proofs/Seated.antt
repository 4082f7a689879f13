-- The seat of a reader at a shard, taken out of the workers and put back.
use Rattle.std.proofs.Common.{◌≡◌, ℕ, ◌<◌, List, length, set, slice_get, slice_index_or, Vec, vec_len, Some, IfOk, Result, Ok, Err, sym, ap, ◌∙◌, subst, length-set, arith}
use native.Mathlib.Nat.{ℕ_set}
use Rattle.std.specs.Vec.{with_item}
use Rattle.std.proofs.lemmas.List.{set-get_or}
use Rattle.std.proofs.lemmas.Option.{slice_get_read}
use Rattle.trie_rule.specs.Seats.{CellsAt, ReaderAt}
use Rattle.shard_table.specs.declared.workers.Workers.{Workers}
use Rattle.shard_table.specs.Seats.{AreEach, IsFreeReader, AreWorkers, OfSeat}
use Rattle.shard_table.proofs.Each.{each_length, each_at}

module _ {X Z : Type 0} (v : Vec X Z) where
  -- the vector with other items of the same number
  abbrev holding : (xs : List X) → v.len ≡ length xs → Vec X Z
  holding xs o = record { ptr = v.ptr; len = v.len; cap = v.cap; alloc = v.alloc; items = xs; ok = (o, v.ok.1); small = v.small }

  holding_same : (xs : List X) (p : v.items ≡ xs) (o : v.len ≡ length xs) → holding xs o ≡ v
  holding_same xs p = subst (λ (ys : List X). (o : v.len ≡ length ys) → holding ys o ≡ v) p (λ o. ap (λ (q : v.len ≡ length v.items). holding v.items q) (ℕ_set v.len (length v.items) o v.ok.0))

  -- an item put back where it was
  pub put_back : (i : ℕ) (x y : X) → y ≡ slice_index_or v.items i y → x ≡ y → with_item v i x ≡ v
  put_back i x y there same = holding_same (set v.items i x) (sym (ap (λ (z : X). set v.items i z) (same ∙ there) ∙ set-get_or v.items i y)) (v.ok.0 ∙ sym (length-set v.items i x))

  pub item_there : (i : ℕ) (x : X) → i < vec_len v → x ≡ slice_index_or v.items i x → slice_get v.items i ≡ Some x
  item_there i x less there = slice_get_read v.items v.len i x v.ok.0 less there

pub if_ok_map : {X E : Type 0} (P Q : X → Type 0) (r : Result X E) → ((x : X) → P x → Q x) → IfOk r P → IfOk r Q
if_ok_map P Q (Ok x) f h = f x h
if_ok_map P Q (Err e) f h = h

module _ (shards : List CellsAt) (w : Workers) (q : ℕ) (workers : AreWorkers shards w) (inside : q < vec_len w.readers) where
  pub row_free : (row : _) → row ≡ slice_index_or w.readers.items q row → AreEach IsFreeReader shards row.items
  row_free row there = subst (λ r. AreEach IsFreeReader shards r.items) (sym there) (workers.reading q row (omega (arith, inside, w.readers.ok.0)))

  pub row_long : (row : _) (i : ℕ) → row ≡ slice_index_or w.readers.items q row → i < length shards → i < vec_len row
  row_long row i there less = omega (arith, less, row.ok.0, each_length IsFreeReader shards row.items (row_free row there))

  pub seat_free : (row : _) (i : ℕ) (shard : CellsAt) (seat : ReaderAt) → row ≡ slice_index_or w.readers.items q row → i < length shards → slice_get shards i ≡ Some shard → seat ≡ slice_index_or row.items i seat → IsFreeReader shard seat
  seat_free row i shard seat there less at is = each_at IsFreeReader shards row.items i shard seat (row_free row there) at (item_there row i seat (row_long row i there less) is)

-- what holds of the seat that stands there
pub the_seat : (P : ReaderAt → Type 0) (w : Workers) (q i : ℕ) (row : _) (seat : ReaderAt) → slice_get w.readers.items q ≡ Some row → slice_get row.items i ≡ Some seat → P seat → OfSeat P w q i
the_seat P w q i row seat a b h row' seat' a' b' =
    let r : row ≡ row' = cc in let t : slice_get row.items i ≡ Some seat' = subst (λ z. slice_get z.items i ≡ Some seat') (sym r) b' in
    let s : seat ≡ seat' = cc in subst P s h
