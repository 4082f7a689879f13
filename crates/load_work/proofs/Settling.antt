-- What is done where all threads are joined, one step after the other.
use Rattle.std.proofs.Common.{◌≡◌, ◌≢◌, ◌⊎◌, ℕ, ◌+◌, ◌<◌, List, All, vec_len, length, set, slice_get, slice_index_or, Some, inl, inr, sym, ◌∙◌, subst, arith}
use Rattle.std.specs.Global.{Vec}
use Rattle.std.specs.Vec.{with_items}
use Rattle.std.proofs.lemmas.Option.{slice_get-get_or, get_or_from_slice_get, slice_get_within}
use Rattle.trie_rule.specs.Seats.{CellsAt, WriterAt, ReaderAt}
use Rattle.trie_writer.specs.Written.{MayWrite}
use Rattle.trie_reader.specs.Read.{MayRead}
use Rattle.shard_table.specs.Seats.{AreEach, IsFreeWriter, IsFreeReader}
use Rattle.shard_table.proofs.Each.{each_length, each_at, each_index}
use Rattle.script_text.specs.declared.spans.GetLine.{GetLine}
use Rattle.load_work.specs.declared.batch.Answer.{Answer}
use Rattle.load_work.specs.Reads.{HasGrown}
use Rattle.load_work.specs.Work.{HasLearnt}
use Rattle.load_work.specs.Merge.{ReadersHaveGrown, CanBeBounded, IsBounded}
use Rattle.load_work.proofs.Lists.{set_cases, whole_again}
use Rattle.load_work.proofs.Answered.{each_set, each_chain, each_with_itself, grown_same, grown_on}

module _ (shards : List CellsAt) (i : ℕ) (cells : CellsAt) (at : slice_get shards i ≡ Some cells) where
  pub writer_may : (writers : List WriterAt) (d : WriterAt) → AreEach IsFreeWriter shards writers → MayWrite cells (slice_index_or writers i d)
  writer_may writers d free =
      let f = each_at IsFreeWriter shards writers i cells (slice_index_or writers i d) free at (slice_get-get_or writers i d (omega (arith, each_length IsFreeWriter shards writers free, slice_get_within shards i cells at))) in (f.own, f.idle)

  pub reader_may : (seats : List ReaderAt) (d : ReaderAt) → AreEach IsFreeReader shards seats → MayRead cells (slice_index_or seats i d)
  reader_may seats d free =
      let f = each_at IsFreeReader shards seats i cells (slice_index_or seats i d) free at (slice_get-get_or seats i d (omega (arith, each_length IsFreeReader shards seats free, slice_get_within shards i cells at))) in (f.own, f.idle)

-- one seat more has grown
pub grown_more : (first seats : List ReaderAt) (i : ℕ) (d t : ReaderAt) → i < length seats → AreEach HasGrown first seats → HasGrown (slice_index_or seats i d) t → AreEach HasGrown first (set seats i t)
grown_more first seats i d t less was more = each_chain HasGrown first seats (set seats i t) grown_on was
    (each_set HasGrown seats seats i (slice_index_or seats i d) t (each_with_itself HasGrown seats grown_same) (slice_get-get_or seats i d less) more)

-- one seat more has learnt
module _ (writers : List WriterAt) (seats : List ReaderAt) (i : ℕ) (d : WriterAt) (t : ReaderAt) (now : HasLearnt (slice_index_or writers i d) t)
    (was : (j : ℕ) (w : WriterAt) (s : ReaderAt) → j < i → slice_get writers j ≡ Some w → slice_get seats j ≡ Some s → HasLearnt w s) where
  learnt_case : (j : ℕ) (w : WriterAt) (s : ReaderAt) → j < i + 1 → slice_get writers j ≡ Some w → ((j ≡ i) × (t ≡ s)) ⊎ ((j ≢ i) × (slice_get seats j ≡ Some s)) → HasLearnt w s
  learnt_case j w s less at (inl h) =
      let same : slice_index_or writers i d ≡ w = get_or_from_slice_get writers i w d (subst (λ (n : ℕ). slice_get writers n ≡ Some w) h.0 at) in
      subst (λ (v : WriterAt). HasLearnt v s) same (subst (HasLearnt (slice_index_or writers i d)) h.1 now)
  learnt_case j w s less at (inr h) = was j w s (omega (arith, h.0, less)) at h.1

  pub learnt_more : (j : ℕ) (w : WriterAt) (s : ReaderAt) → j < i + 1 → slice_get writers j ≡ Some w → slice_get (set seats i t) j ≡ Some s → HasLearnt w s
  learnt_more j w s less at to = learnt_case j w s less at (set_cases seats i j t s to)

-- one answer more is bounded
module _ (writers now_writers : List WriterAt) (same : now_writers ≡ writers) (gets : List GetLine) (first answers : List Answer) (i : ℕ) (d : GetLine) (e : Answer) (inside : i < length first) (left : slice_get answers i ≡ slice_get first i) where
  still_there : slice_index_or answers i e ≡ slice_index_or first i e
  still_there = get_or_from_slice_get answers i (slice_index_or first i e) e (left ∙ slice_get-get_or first i e inside)

  pub can_now : AreEach (CanBeBounded writers) gets first → CanBeBounded now_writers (slice_index_or gets i d) (slice_index_or answers i e)
  can_now can =
      let less : i < length gets = omega (arith, each_length (CanBeBounded writers) gets first can) in
      subst (λ (ws : List WriterAt). CanBeBounded ws (slice_index_or gets i d) (slice_index_or answers i e)) (sym same)
      (subst (CanBeBounded writers (slice_index_or gets i d)) (sym still_there) (each_index (CanBeBounded writers) gets first i d e can less))

  module _ (b : Answer) (now : IsBounded now_writers (slice_index_or gets i d) (slice_index_or answers i e) b)
      (was : (j : ℕ) (g : GetLine) (a c : Answer) → j < i → slice_get gets j ≡ Some g → slice_get first j ≡ Some a → slice_get answers j ≡ Some c → IsBounded writers g a c) where
    bounded_case : (j : ℕ) (g : GetLine) (a c : Answer) → j < i + 1 → slice_get gets j ≡ Some g → slice_get first j ≡ Some a → ((j ≡ i) × (b ≡ c)) ⊎ ((j ≢ i) × (slice_get answers j ≡ Some c)) → IsBounded writers g a c
    bounded_case j g a c less at to (inl h) =
        let g_is : slice_index_or gets i d ≡ g = get_or_from_slice_get gets i g d (subst (λ (n : ℕ). slice_get gets n ≡ Some g) h.0 at) in
        let a_is : slice_index_or answers i e ≡ a = still_there ∙ get_or_from_slice_get first i a e (subst (λ (n : ℕ). slice_get first n ≡ Some a) h.0 to) in
        subst (λ (x : GetLine). IsBounded writers x a c) g_is (subst (λ (x : Answer). IsBounded writers (slice_index_or gets i d) x c) a_is
        (subst (λ (x : Answer). IsBounded writers (slice_index_or gets i d) (slice_index_or answers i e) x) h.1
        (subst (λ (ws : List WriterAt). IsBounded ws (slice_index_or gets i d) (slice_index_or answers i e) b) same now)))
    bounded_case j g a c less at to (inr h) = was j g a c (omega (arith, h.0, less)) at to h.1

    pub bounded_more : (j : ℕ) (g : GetLine) (a c : Answer) → j < i + 1 → slice_get gets j ≡ Some g → slice_get first j ≡ Some a → slice_get (set answers i b) j ≡ Some c → IsBounded writers g a c
    bounded_more j g a c less at to now' = bounded_case j g a c less at to (set_cases answers i j b c now')

-- a vector whose items were all written again
pub written_again : {X : Type 0} (v : Vec X) (xs : List X) → length xs ≡ length v.items → (with_items v xs).items ≡ xs
written_again v xs e = whole_again xs v.items (vec_len v) v.ok.0 e

pub readers_same : (readers : List (Vec ReaderAt)) → ReadersHaveGrown readers readers
readers_same readers q old new a b = let e : old ≡ new = cc in subst (λ (v : Vec ReaderAt). AreEach HasGrown old.items v.items) e (each_with_itself HasGrown old.items grown_same)

-- one reader more has learnt
module _ (shards : List CellsAt) (writers : List WriterAt) (first readers : List (Vec ReaderAt)) (q : ℕ) (d new : Vec ReaderAt) (less : q < length readers) (free : AreEach IsFreeReader shards new.items) (more : AreEach HasGrown (slice_index_or readers q d).items new.items)
  where
    pub reading_more : All (λ (s : Vec ReaderAt). AreEach IsFreeReader shards s.items) readers → All (λ (s : Vec ReaderAt). AreEach IsFreeReader shards s.items) (set readers q new)
    reading_more all k e inside = by (set_cases readers q k new (slice_index_or (set readers q new) k e) (slice_get-get_or (set readers q new) k e inside))
      where
        by : ((k ≡ q) × (new ≡ slice_index_or (set readers q new) k e)) ⊎ ((k ≢ q) × (slice_get readers k ≡ Some (slice_index_or (set readers q new) k e))) → AreEach IsFreeReader shards (slice_index_or (set readers q new) k e).items
        by (inl h) = subst (λ (v : Vec ReaderAt). AreEach IsFreeReader shards v.items) h.1 free
        by (inr h) = subst (λ (v : Vec ReaderAt). AreEach IsFreeReader shards v.items) (get_or_from_slice_get readers k (slice_index_or (set readers q new) k e) e h.1) (all k e (slice_get_within readers k (slice_index_or (set readers q new) k e) h.1))

    pub readers_more : ReadersHaveGrown first readers → ReadersHaveGrown first (set readers q new)
    readers_more was p old now a b = by (set_cases readers q p new now b)
      where
        by : ((p ≡ q) × (new ≡ now)) ⊎ ((p ≢ q) × (slice_get readers p ≡ Some now)) → AreEach HasGrown old.items now.items
        by (inl h) =
            let old_at : slice_get first q ≡ Some old = subst (λ (n : ℕ). slice_get first n ≡ Some old) h.0 a in
            let was' = was q old (slice_index_or readers q d) old_at (slice_get-get_or readers q d less) in
            subst (λ (v : Vec ReaderAt). AreEach HasGrown old.items v.items) h.1 (each_chain HasGrown old.items (slice_index_or readers q d).items new.items grown_on was' more)
        by (inr h) = was p old now a h.1

    pub all_learnt_more : AreEach HasLearnt writers new.items → ((p : ℕ) (seats : Vec ReaderAt) → p < q → slice_get readers p ≡ Some seats → AreEach HasLearnt writers seats.items)
        → (p : ℕ) (seats : Vec ReaderAt) → p < q + 1 → slice_get (set readers q new) p ≡ Some seats → AreEach HasLearnt writers seats.items
    all_learnt_more now was p seats le at = by (set_cases readers q p new seats at)
      where
        by : ((p ≡ q) × (new ≡ seats)) ⊎ ((p ≢ q) × (slice_get readers p ≡ Some seats)) → AreEach HasLearnt writers seats.items
        by (inl h) = subst (λ (v : Vec ReaderAt). AreEach HasLearnt writers v.items) h.1 now
        by (inr h) = was p seats (omega (arith, h.0, le)) h.1
