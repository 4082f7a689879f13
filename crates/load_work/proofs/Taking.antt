-- What the workers left, taken back one after the other.
use Rattle.std.proofs.Common.{◌≡◌, ◌⊎◌, ℕ, zero, suc, ◌≤◌, List, [], ◌∷◌, ◌++◌, length, take, drop, min, vec_len, slice_get, Option, Some, None, Ok, IfSome, All, inl, inr, refl, sym, ap, ◌∙◌, subst, length-append, arith}
use Rattle.std.specs.Global.{Vec}
use Rattle.std.proofs.lemmas.List.{length-take-le}
use Rattle.std.proofs.lemmas.Option.{slice_get_within, IfSome_then}
use Rattle.trie_rule.specs.Seats.{CellsAt, WriterAt, ReaderAt}
use Rattle.shard_table.specs.Seats.{TableAt, AreEach, IsFreeWriter, IsFreeReader}
use Rattle.shard_table.proofs.Each.{each_last, each_length, all_more}
use Rattle.script_text.specs.declared.spans.PutLine.{PutLine}
use Rattle.script_text.specs.declared.spans.GetLine.{GetLine}
use Rattle.load_work.specs.declared.batch.Answer.{Answer}
use Rattle.load_work.specs.declared.jobs.Job.{Job}
use Rattle.load_work.specs.declared.jobs.Job.TheVariants.{Write, Read}
use Rattle.load_work.specs.declared.jobs.Done.{Done}
use Rattle.load_work.specs.declared.jobs.Done.TheVariants as done
use Rattle.load_work.specs.Puts.{HasWritten}
use Rattle.load_work.specs.Jobs.{CanRun, HasRun, EachHasRun}
use Rattle.load_work.specs.Deal.{IsDealt, IsLeft, writes_from, reads_from, earlier_line, IsNoLater, HaveWritten, ReaderHasRead, HaveRead}
use Rattle.load_work.proofs.Lists.{each_by_place, taken, dropped, old_or_last, pair_old_or_last, get_part, get_before}

-- lists that end in an item are one list with one item
same_ends : {X : Type 0} (xs ys : List X) (x y : X) → xs ++ x ∷ [] ≡ ys ++ y ∷ [] → (xs ≡ ys) × (x ≡ y)
same_ends [] [] x y e = (refl, cc)
same_ends [] (z ∷ []) x y e = absurd (cc)
same_ends [] (z ∷ w ∷ ys) x y e = absurd (cc)
same_ends (z ∷ []) [] x y e = absurd (cc)
same_ends (z ∷ w ∷ xs) [] x y e = absurd (cc)
same_ends (z ∷ xs) (w ∷ ys) x y e = let t : xs ++ x ∷ [] ≡ ys ++ y ∷ [] = cc in let h = same_ends xs ys x y t in let f : z ≡ w = cc in ((ap (λ (v : _). v ∷ xs) f ∙ ap (λ (l : List _). w ∷ l) h.0), h.1)

module _ (table : TableAt) (puts : List PutLine) (gets : List GetLine) where
  -- each job can be done
  pub can_run : (workers jobs : List Job) (places : List (Option Done)) → IsDealt table puts gets workers jobs places → All (CanRun table) jobs
  can_run [] jobs places h = subst (All (CanRun table)) (sym h.0) (λ k d less. absurd (omega arith))
  can_run (worker ∷ workers) jobs places (inl h) = can_run workers jobs h.0 h.4
  can_run (worker ∷ workers) jobs places (inr h) = subst (All (CanRun table)) (sym h.3) (all_more (CanRun table) h.1 worker (can_run workers h.1 h.0 h.5) h.4)

  module _ (job : Job) (workers : List Job) (left others : List (Option Done)) (done : List Done) where
    -- the place of the next worker is empty: the last job is its
    met_empty : (jobs : List Job) → IsDealt table puts gets (job ∷ workers) jobs left → left ≡ others ++ None ∷ [] → (more : List Job) × (jobs ≡ more ++ job ∷ []) × IsDealt table puts gets workers more others
    met_empty jobs (inl h) e = absurd (let f = same_ends others h.0 None (Some h.1) (sym e ∙ h.2) in let g : None ≡ Some h.1 = f.1 in cc)
    met_empty jobs (inr h) e = (h.1, h.3, subst (IsDealt table puts gets workers h.1) (same_ends h.0 others None None (sym h.2 ∙ e)).0 h.5)

    pub never_none : IsLeft table puts gets (job ∷ workers) done left → left ≡ others ++ None ∷ [] → done ≡ [] → ⊥
    never_none h e empty = let m = met_empty h.0 h.1 e in omega (arith, each_length (HasRun table puts gets) h.0 done h.2, ap length m.1, length-append m.0 (job ∷ []), ap length empty)

    pub next_run : (front : List Done) (one : Done) → IsLeft table puts gets (job ∷ workers) done left → left ≡ others ++ None ∷ [] → done ≡ front ++ one ∷ [] → IsLeft table puts gets workers front others × HasRun table puts gets job one
    next_run front one h e f =
        let m = met_empty h.0 h.1 e in
        let both : AreEach (HasRun table puts gets) (m.0 ++ job ∷ []) (front ++ one ∷ []) = subst (λ (l : List Job). AreEach (HasRun table puts gets) l (front ++ one ∷ [])) m.1 (subst (AreEach (HasRun table puts gets) h.0) f h.2) in
        let ends = each_last (HasRun table puts gets) m.0 front job one both in
        ((m.0, m.2, ends.0), ends.1)

  pub writes_turned : (k : ℕ) (before : List WriterAt) (workers : List Job) (s : WriterAt) (done : List Done) (places : List (Option Done)) → slice_get before k ≡ Some s
      → IsLeft table puts gets (writes_from k (drop k before) ++ workers) done places → IsLeft table puts gets (Write k s ∷ (writes_from (suc k) (drop (suc k) before) ++ workers)) done places
  writes_turned k before workers s done places at h = subst (λ (l : List WriterAt). IsLeft table puts gets (writes_from k l ++ workers) done places) (dropped before k s at) h

  pub reads_turned : (k : ℕ) (before : List (Vec ReaderAt)) (workers : List Job) (s : Vec ReaderAt) (done : List Done) (places : List (Option Done)) → slice_get before k ≡ Some s
      → IsLeft table puts gets (reads_from k (drop k before) ++ workers) done places → IsLeft table puts gets (Read k s ∷ (reads_from (suc k) (drop (suc k) before) ++ workers)) done places
  reads_turned k before workers s done places at h = subst (λ (l : List (Vec ReaderAt)). IsLeft table puts gets (reads_from k l ++ workers) done places) (dropped before k s at) h

  pub writes_over : (k : ℕ) (before : List WriterAt) (workers : List Job) (done : List Done) (places : List (Option Done)) → length before ≤ k → IsLeft table puts gets (writes_from k (drop k before) ++ workers) done places → IsLeft table puts gets workers done places
  writes_over k before workers done places le h = subst (λ (l : List WriterAt). IsLeft table puts gets (writes_from k l ++ workers) done places) (drop_past k before le) h
    where
      drop_past : (n : ℕ) (l : List WriterAt) → length l ≤ n → drop n l ≡ []
      drop_past zero [] le = refl
      drop_past zero (x ∷ l) le = absurd (omega arith)
      drop_past (suc n) [] le = refl
      drop_past (suc n) (x ∷ l) le = drop_past n l (omega arith)

-- the lesser of two lines is no later than either
earlier_than_first : (first full other : Option ℕ) → IsNoLater first other → IsNoLater (earlier_line first full) other
earlier_than_first first full None h = tt
earlier_than_first None full (Some c) h = absurd h
earlier_than_first (Some a) None (Some c) h = h
earlier_than_first (Some a) (Some b) (Some c) h = omega arith

earlier_than_full : (first full : Option ℕ) → IsNoLater (earlier_line first full) full
earlier_than_full first None = tt
earlier_than_full None (Some b) = omega arith
earlier_than_full (Some a) (Some b) = omega arith

either_line : (P : ℕ → Type 0) (first full : Option ℕ) → IfSome first P → IfSome full P → IfSome (earlier_line first full) P
either_line P None full f g = g
either_line P (Some a) None f g = f
either_line P (Some a) (Some b) f g = by (min_is a b)
  where
    min_is : (a b : ℕ) → (min a b ≡ a) ⊎ (min a b ≡ b)
    min_is zero b = inl (omega arith)
    min_is (suc a) zero = inr (omega arith)
    min_is (suc a) (suc b) = up (min_is a b)
      where
        up : (min a b ≡ a) ⊎ (min a b ≡ b) → (min (suc a) (suc b) ≡ suc a) ⊎ (min (suc a) (suc b) ≡ suc b)
        up (inl e) = inl (omega (arith, e))
        up (inr e) = inr (omega (arith, e))

    by : (min a b ≡ a) ⊎ (min a b ≡ b) → P (min a b)
    by (inl e) = subst P (sym e) f
    by (inr e) = subst P (sym e) g

-- one writer more
module _ (table : TableAt) (puts : List PutLine) (gets : List GetLine) (before after : List WriterAt) (first : Option ℕ) (k : ℕ) (s t : WriterAt) (full : Option ℕ)
    (was : HaveWritten table puts (take k before) after first) (at : slice_get before k ≡ Some s) (run : HasRun table puts gets (Write k s) (done.Wrote t full)) where
  front : length (take k before) ≡ k
  front = length-take-le k before (omega (arith, slice_get_within before k s at))

  length_now : length after ≡ k
  length_now = was.len ∙ front

  free_now : (i : ℕ) (t' : WriterAt) → (slice_get after i ≡ Some t') ⊎ ((i ≡ length after) × (t ≡ t')) → (cells : CellsAt) × (slice_get table.shards i ≡ Some cells) × IsFreeWriter cells t'
  free_now i t' (inl old) = was.free i t' old
  free_now i t' (inr (e, same)) =
      let can = run.0 in
      (can.0, subst (λ (n : ℕ). slice_get table.shards n ≡ Some can.0) (sym (e ∙ length_now)) can.1, subst (IsFreeWriter can.0) same (record { own = can.2.0; idle = can.2.1 }))

  each_now : (i : ℕ) (s' t' : WriterAt) → ((slice_get (take k before) i ≡ Some s') × (slice_get after i ≡ Some t')) ⊎ ((i ≡ length (take k before)) × (s ≡ s') × (t ≡ t'))
      → (other : Option ℕ) × HasWritten table.bounds i s'.knows t'.knows puts other × IsNoLater (earlier_line first full) other
  each_now i s' t' (inl (a, b)) = let f = was.each i s' t' a b in (f.0, f.1, earlier_than_first first full f.0 f.2)
  each_now i s' t' (inr (e, p, q)) =
      let made = subst (λ (n : ℕ). HasWritten table.bounds n s.knows t.knows puts full) (sym (e ∙ front)) run.1 in
      (full, subst (λ (z : WriterAt). HasWritten table.bounds i z.knows t'.knows puts full) p (subst (λ (z : WriterAt). HasWritten table.bounds i s.knows z.knows puts full) q made), earlier_than_full first full)

  abbrev IsLine : ℕ → Type 0
  IsLine line = (i : ℕ) × (s' t' : WriterAt) × (slice_get (take (suc k) before) i ≡ Some s') × HasWritten table.bounds i s'.knows t'.knows puts (Some line)

  own_line : (f : Option ℕ) → HasWritten table.bounds k s.knows t.knows puts f → IfSome f IsLine
  own_line None h = tt
  own_line (Some line) h = (k, s, t, there, h)
    where
      there : slice_get (take (suc k) before) k ≡ Some s
      there = ap (λ (l : List WriterAt). slice_get l k) (taken before k s at) ∙ subst (λ (n : ℕ). slice_get (take k before ++ s ∷ []) n ≡ Some s) front (get_part (take k before) [] s)

  old_line : IfSome first IsLine
  old_line = IfSome_then first was.first_is (λ line h. (h.0, h.1, h.2, subst (λ (l : List WriterAt). slice_get l h.0 ≡ Some h.1) (sym (taken before k s at)) (get_before (take k before) (s ∷ []) h.0 h.1 h.3), h.4))

  pub written_more : (m : ℕ) → m ≡ suc k → HaveWritten table puts (take m before) (after ++ t ∷ []) (earlier_line first full)
  written_more m is = subst (λ (n : ℕ). HaveWritten table puts (take n before) (after ++ t ∷ []) (earlier_line first full)) (sym is) (record {
    len = omega (arith, ap length (taken before k s at), length-append (take k before) (s ∷ []), length-append after (t ∷ []), was.len);
    free = λ i t' there. free_now i t' (old_or_last after t t' i there);
    each = λ i s' t' a b. each_now i s' t' (pair_old_or_last (take k before) after s s' t t' i (sym was.len) (subst (λ (l : List WriterAt). slice_get l i ≡ Some s') (taken before k s at) a) b);
    first_is = either_line IsLine first full old_line (own_line full run.1);
  })

-- one reader more
module _ (table : TableAt) (puts : List PutLine) (gets : List GetLine) (before after : List (Vec ReaderAt)) (lists : List (Vec Answer)) (k : ℕ) (old new : Vec ReaderAt) (list : Vec Answer)
    (was : HaveRead table gets (take k before) after lists) (at : slice_get before k ≡ Some old) (run : HasRun table puts gets (Read k old) (done.HasRead new (Ok list))) where
  readers_front : length (take k before) ≡ k
  readers_front = length-take-le k before (omega (arith, slice_get_within before k old at))

  reader_ran : ReaderHasRead table gets k old.items new.items list.items
  reader_ran = record { grown = run.1; read = run.2.0; rise = run.2.1 }

  reader_now : (q : ℕ) (old' new' : Vec ReaderAt) (list' : Vec Answer) → ((slice_get (take k before) q ≡ Some old') × (slice_get after q ≡ Some new')) ⊎ ((q ≡ length (take k before)) × (old ≡ old') × (new ≡ new'))
      → (slice_get lists q ≡ Some list') ⊎ ((q ≡ length lists) × (list ≡ list')) → ReaderHasRead table gets q old'.items new'.items list'.items
  reader_now q old' new' list' (inl (a, b)) (inl c) = was.each q old' new' list' a b c
  reader_now q old' new' list' (inl (a, b)) (inr (e, r)) = absurd (omega (arith, e, was.lists, slice_get_within (take k before) q old' a))
  reader_now q old' new' list' (inr (e, p, r)) (inl c) = absurd (omega (arith, e, was.lists, slice_get_within lists q list' c))
  reader_now q old' new' list' (inr (e, p, r)) (inr (f, z)) =
      subst (λ (n : ℕ). ReaderHasRead table gets n old'.items new'.items list'.items) (sym (e ∙ readers_front))
      (subst (λ (x : Vec ReaderAt). ReaderHasRead table gets k x.items new'.items list'.items) p
      (subst (λ (x : Vec ReaderAt). ReaderHasRead table gets k old.items x.items list'.items) r
      (subst (λ (x : Vec Answer). ReaderHasRead table gets k old.items new.items x.items) z reader_ran)))

  pub read_more : (m : ℕ) → m ≡ suc k → HaveRead table gets (take m before) (after ++ new ∷ []) (lists ++ list ∷ [])
  read_more m is = subst (λ (n : ℕ). HaveRead table gets (take n before) (after ++ new ∷ []) (lists ++ list ∷ [])) (sym is) (record {
    len = omega (arith, ap length (taken before k old at), length-append (take k before) (old ∷ []), length-append after (new ∷ []), was.len);
    lists = omega (arith, ap length (taken before k old at), length-append (take k before) (old ∷ []), length-append lists (list ∷ []), was.lists);
    free = all_more (λ (s : Vec ReaderAt). AreEach IsFreeReader table.shards s.items) after new was.free run.0;
    each = λ q old' new' list' a b c. reader_now q old' new' list'
        (pair_old_or_last (take k before) after old old' new new' q (sym was.len) (subst (λ (l : List (Vec ReaderAt)). slice_get l q ≡ Some old') (taken before k old at) a) b)
        (old_or_last lists list list' q c);
  })

-- none is taken yet, and all are
pub none_written : (table : TableAt) (puts : List PutLine) (before after : List WriterAt) → after ≡ [] → HaveWritten table puts (take 0 before) after None
none_written table puts before after e = subst (λ (l : List WriterAt). HaveWritten table puts [] l None) (sym e) (record {
  len = refl;
  free = λ i t at. absurd (cc);
  each = λ i s t at to. absurd (cc);
  first_is = tt;
})

pub none_read : (table : TableAt) (gets : List GetLine) (before after : List (Vec ReaderAt)) (lists : List (Vec Answer)) → after ≡ [] → lists ≡ [] → HaveRead table gets (take 0 before) after lists
none_read table gets before after lists e f =
    subst (λ (l : List (Vec ReaderAt)). HaveRead table gets [] l lists) (sym e) (subst (λ (l : List (Vec Answer)). HaveRead table gets [] [] l) (sym f) (record {
      len = refl;
      lists = refl;
      free = λ k d less. absurd (omega arith);
      each = λ q old new list a b c. absurd (cc);
    }))

-- what the jobs left, with the places
pub all_left : (table : TableAt) (puts : List PutLine) (gets : List GetLine) (workers : List Job) (jobs : Vec Job) (left : Vec Done) (places : List (Option Done)) → IsDealt table puts gets workers jobs.items places → vec_len left ≡ vec_len jobs
    → EachHasRun table puts gets jobs.items left.items → IsLeft table puts gets workers left.items places
all_left table puts gets workers jobs left places dealt len each = (jobs.items, dealt, each_by_place (HasRun table puts gets) jobs.items left.items (omega (arith, jobs.ok.0, left.ok.0, len)) (λ i job one at to. each i job one at to))
