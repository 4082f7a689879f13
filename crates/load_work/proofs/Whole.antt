-- A whole batch: what its workers left makes its answers, and its refusal.
use Rattle.std.proofs.Common.{◌≡◌, ℕ, zero, suc, ◌<◌, ◌≤◌, List, [], ◌∷◌, ◌++◌, length, take, vec_len, slice_get, slice_index_or, Option, Some, None, IfSome, All, refl, sym, ap, ◌∙◌, subst, length-append, arith}
use Rattle.std.specs.Global.{Vec}
use Rattle.std.proofs.lemmas.Option.{get_or_from_slice_get, slice_get_within, IfSome_then}
use Rattle.trie_image.specs.declared.Put.{Put}
use Rattle.trie_image.specs.declared.Rec.{Rec}
use Rattle.trie_image.specs.Puts.{HasLastPut}
use Rattle.trie_image.specs.Publish.{put_at}
use Rattle.trie_rule.specs.Rule.{IsStartOf}
use Rattle.trie_rule.specs.declared.views.WriteView.{WriteView}
use Rattle.trie_rule.specs.Seats.{CellsAt, WriterAt, ReaderAt}
use Rattle.trie_reader.specs.Read.{IsSeenRecord}
use Rattle.shard_table.specs.declared.workers.Workers.{Workers}
use Rattle.shard_table.specs.Seats.{TableAt, AreEach, AreWorkers, IsFreeWriter, IsFreeReader, IsNewWriter, IsNewReader, OfSeat}
use Rattle.shard_table.proofs.Each.{each_length, each_at}
use Rattle.shard_table.proofs.Seated.{the_seat}
use Rattle.script_text.specs.declared.spans.PutLine.{PutLine}
use Rattle.script_text.specs.declared.spans.GetLine.{GetLine}
use Rattle.load_work.specs.declared.batch.Answer.{Answer}
use Rattle.load_work.specs.Puts.{Makes, StopsAt, HasNoRoom, HasWritten, after_put, puts_of}
use Rattle.load_work.specs.Reads.{HasGrown, IsAnswered, AnswersTo, HasRead, AnswersRise, gets_of}
use Rattle.load_work.specs.Deal.{IsNoLater, HaveWritten, HaveRead}
use Rattle.load_work.specs.Merge.{answers_of, IsMerge, ReadersHaveGrown, CanBeBounded, IsBounded}
use Rattle.load_work.specs.Work.{LawNewHaveLearnt, HasLearnt, HaveLearnt, IsGetBelow, IsLegal, IsAnswerOf, ReadsRise, IsFullAt, IsFirstFull, NoneIsFull}
use Rattle.load_work.proofs.Lists.{each_by_place, item_at, get_before}
use Rattle.load_work.proofs.Answered.{answered_longer, each_other}
use Rattle.load_work.proofs.Merging.{of_all, places}

-- puts that were all made leave none for which there is no room, and the first such put is one
room_for_all : (w w' v : WriteView) (made : List PutLine) (put : PutLine) (left : List PutLine) → Makes w (made ++ put ∷ left) w' → Makes w made v → HasNoRoom v put → ⊥
room_for_all w w' v [] put left all made full = all.0 (subst (λ (z : WriteView). HasNoRoom z put) made full)
room_for_all w w' v (p ∷ made) put left all some full = room_for_all (after_put w p) w' v made put left all.1 some.1 full

never_full : (w w' v : WriteView) (puts : List PutLine) (line : ℕ) → Makes w puts w' → StopsAt w puts line v → ⊥
never_full w w' v puts line all stop = room_for_all w w' v stop.made stop.put stop.left (subst (λ (l : List PutLine). Makes w l w') stop.puts_are all) stop.makes stop.full

same_put : (w u v : WriteView) (made other : List PutLine) (put last : PutLine) (left rest : List PutLine) → made ++ put ∷ left ≡ other ++ last ∷ rest → Makes w made u → HasNoRoom u put → Makes w other v → HasNoRoom v last → put ≡ last
same_put w u v [] [] put last left rest e a f b g = cc
same_put w u v [] (q ∷ other) put last left rest e a f b g = let same : put ≡ q = cc in absurd (b.0 (subst (HasNoRoom w) same (subst (λ (z : WriteView). HasNoRoom z put) a f)))
same_put w u v (p ∷ made) [] put last left rest e a f b g = let same : last ≡ p = cc in absurd (a.0 (subst (HasNoRoom w) same (subst (λ (z : WriteView). HasNoRoom z last) b g)))
same_put w u v (p ∷ made) (q ∷ other) put last left rest e a f b g =
    let same : q ≡ p = cc in let tails : made ++ put ∷ left ≡ other ++ last ∷ rest = cc in
    same_put (after_put w p) u v made other put last left rest tails a.1 f (subst (λ (z : PutLine). Makes (after_put w z) other v) same b.1) g

same_line : (w u v : WriteView) (puts : List PutLine) (line other : ℕ) → StopsAt w puts line u → StopsAt w puts other v → line ≡ other
same_line w u v puts line other a b =
    a.line_is ∙ ap (λ (p : PutLine). p.line) (same_put w u v a.made b.made a.put b.put a.left b.left (sym a.puts_are ∙ b.puts_are) a.makes a.full b.makes b.full) ∙ sym b.line_is

makes_grows : (w w' : WriteView) (puts : List PutLine) → Makes w puts w' → length w.made ≤ length w'.made
makes_grows w w' [] e = omega (arith, ap (λ (z : WriteView). length z.made) e)
makes_grows w w' (p ∷ puts) (room, h) = omega (arith, makes_grows (after_put w p) w' puts h, length-append w.made (put_at p.key.now p.value.now w.used ∷ []))

-- what the writers left
module _ (table : TableAt) (puts : List PutLine) (w : Workers) (after : List WriterAt) (first : Option ℕ) (written : HaveWritten table puts w.writers.items after first) where
  pub writers_free : length table.shards ≡ length w.writers.items → AreEach IsFreeWriter table.shards after
  writers_free long = each_by_place IsFreeWriter table.shards after (long ∙ sym written.len) (λ i c t at to.
      let f = written.free i t to in let same : f.0 ≡ c = cc in subst (λ (x : CellsAt). IsFreeWriter x t) same f.2)

  other_seat : (i : ℕ) (s : WriterAt) → slice_get w.writers.items i ≡ Some s → (t : WriterAt) × (slice_get after i ≡ Some t)
  other_seat i s at = item_at after i (omega (arith, written.len, slice_get_within w.writers.items i s at))

  all_made : first ≡ None → (i : ℕ) (s t : WriterAt) → slice_get w.writers.items i ≡ Some s → slice_get after i ≡ Some t → Makes s.knows (puts_of table.bounds i puts) t.knows
  all_made none i s t at to = by (written.each i s t at to).0 (written.each i s t at to).1 (subst (λ (o : Option ℕ). IsNoLater o (written.each i s t at to).0) none (written.each i s t at to).2)
    where
      by : (full : Option ℕ) → HasWritten table.bounds i s.knows t.knows puts full → IsNoLater None full → Makes s.knows (puts_of table.bounds i puts) t.knows
      by None h l = h
      by (Some line) h l = absurd l

  pub none_full : first ≡ None → NoneIsFull table.bounds puts w
  none_full none i line (s, t, at, stop) = let o = other_seat i s at in never_full s.knows o.0.knows t (puts_of table.bounds i puts) line (all_made none i s o.0 at o.1) stop

  pub first_full : (line : ℕ) → first ≡ Some line → IsFirstFull table.bounds puts w line
  first_full line is = record {
    shard = h.0;
    full = (h.1, h.2.knows, h.3, h.4);
    least = least;
  }
    where
      h : (i : ℕ) × (s t : WriterAt) × (slice_get w.writers.items i ≡ Some s) × HasWritten table.bounds i s.knows t.knows puts (Some line)
      h = subst (λ (o : Option ℕ). IfSome o (λ line. (i : ℕ) × (s t : WriterAt) × (slice_get w.writers.items i ≡ Some s) × HasWritten table.bounds i s.knows t.knows puts (Some line))) is written.first_is

      by : (i other : ℕ) (s : WriterAt) (t : WriteView) (u : WriterAt) → StopsAt s.knows (puts_of table.bounds i puts) other t → (full : Option ℕ) → HasWritten table.bounds i s.knows u.knows puts full → IsNoLater (Some line) full → line ≤ other
      by i other s t u stop None made l = absurd (never_full s.knows u.knows t (puts_of table.bounds i puts) other made stop)
      by i other s t u stop (Some own) made l = omega (arith, l, same_line s.knows u.knows t (puts_of table.bounds i puts) own other made stop)

      least : (i other : ℕ) → IsFullAt table.bounds puts w i other → line ≤ other
      least i other (s, t, at, stop) =
          let o = other_seat i s at in let f = written.each i s o.0 at o.1 in
          by i other s t o.0 stop f.0 f.1 (subst (λ (x : Option ℕ). IsNoLater x f.0) is f.2)

-- each reader left an answer to each of its gets
pub left_long : (table : TableAt) (gets : List GetLine) (before after : List (Vec ReaderAt)) (lists : List (Vec Answer)) → HaveRead table gets before after lists → (q : ℕ) (list : Vec Answer) → slice_get lists q ≡ Some list → length list.items ≡ length (gets_of q gets)
left_long table gets before after lists read q list at =
    let inside = slice_get_within lists q list at in
    let old = item_at before q (omega (arith, inside, read.lists)) in let new = item_at after q (omega (arith, inside, read.lists, read.len)) in
    let r = read.each q old.0 new.0 list old.1 new.1 at in
    sym (each_length (HasRead table.bounds old.0.items new.0.items) (gets_of q gets) list.items r.read)

pub first_none : (first : Option ℕ) → ((line : ℕ) → first ≡ Some line → ⊥) → first ≡ None
first_none None not = refl
first_none (Some line) not = absurd (not line refl)

-- an answer's record is that of a put that was seen
get_taken : {X : Type 0} (n : ℕ) (xs : List X) (i : ℕ) (x : X) → slice_get (take n xs) i ≡ Some x → slice_get xs i ≡ Some x
get_taken zero xs i x at = absurd (cc)
get_taken (suc n) [] i x at = absurd (cc)
get_taken (suc n) (y ∷ xs) zero x at = at
get_taken (suc n) (y ∷ xs) (suc i) x at = get_taken n xs i x at

hit_seen : (hit : Option Rec) (n : ℕ) (made seen : List Put) (key : List ℕ) → HasLastPut (take n made) key hit → IsStartOf made seen → IfSome hit (IsSeenRecord seen)
hit_seen None n made seen key h start = tt
hit_seen (Some rec) n made seen key (m, put, last, is) start = (
  m,
  put,
  record {
    is_there = subst (λ (l : List Put). slice_get l m ≡ Some put) (sym start.1) (get_before made start.0 m put (get_taken n made m put is.is_there));
    cell = is.cell;
    number = is.number;
    len = is.len;
  },
)

-- the readers' gets are made and merged, and the readers know all puts
pub record Ran (table : TableAt) (puts : List PutLine) (gets : List GetLine) (start mid now : Workers) (lists : List (Vec Answer)) (first : Option ℕ) (merged : List Answer) : Type 0 where
  pub workers : AreWorkers table.shards start
  pub learnt : HaveLearnt start
  pub below : All (IsGetBelow (vec_len start.readers)) gets
  pub written : HaveWritten table puts start.writers.items mid.writers.items first
  pub none : first ≡ None
  pub read : HaveRead table gets start.readers.items mid.readers.items lists
  pub grown : ReadersHaveGrown mid.readers.items now.readers.items
  pub count : length now.readers.items ≡ length mid.readers.items
  pub same : now.writers.items ≡ mid.writers.items
  pub told : HaveLearnt now
  pub merge : IsMerge gets lists merged

module _ (table : TableAt) (puts : List PutLine) (gets : List GetLine) (start mid now : Workers) (lists : List (Vec Answer)) (first : Option ℕ) (merged : List Answer) (ran : Ran table puts gets start mid now lists first merged) where
  -- the seats of the get's reader, before the batch, after it, and now
  record ReadsOf (g : GetLine) (a : Answer) : Type 0 where
    old : Vec ReaderAt
    new : Vec ReaderAt
    told : Vec ReaderAt
    list : Vec Answer
    old_at : slice_get start.readers.items g.reader ≡ Some old
    told_at : slice_get now.readers.items g.reader ≡ Some told
    list_at : slice_get lists g.reader ≡ Some list
    free : AreEach IsFreeReader table.shards old.items
    knew : AreEach HasLearnt start.writers.items old.items
    knows : AreEach HasLearnt now.writers.items told.items
    grown : AreEach HasGrown old.items new.items
    more : AreEach HasGrown new.items told.items
    read : HasRead table.bounds old.items new.items g a
    rise : AnswersRise list.items

  item_of : {X : Type 0} (P : X → Type 0) (xs : List X) (i : ℕ) (x : X) → All P xs → slice_get xs i ≡ Some x → P x
  item_of P xs i x all at = subst P (get_or_from_slice_get xs i x x at) (all i x (slice_get_within xs i x at))

  reads_of : (i : ℕ) (g : GetLine) (a : Answer) → slice_get gets i ≡ Some g → slice_get merged i ≡ Some a → ReadsOf g a
  reads_of i g a at to =
      let q = g.reader in
      let below : IsGetBelow (vec_len start.readers) g = item_of (IsGetBelow (vec_len start.readers)) gets i g ran.below at in
      let inside : q < length start.readers.items = omega (arith, below.reader, start.readers.ok.0) in
      let old = item_at start.readers.items q inside in
      let new = item_at mid.readers.items q (omega (arith, inside, ran.read.len)) in
      let told = item_at now.readers.items q (omega (arith, inside, ran.read.len, ran.count)) in
      let list = item_at lists q (omega (arith, inside, ran.read.lists)) in
      let reader = ran.read.each q old.0 new.0 list.0 old.1 new.1 list.1 in
      record {
        old = old.0;
        new = new.0;
        told = told.0;
        list = list.0;
        old_at = old.1;
        told_at = told.1;
        list_at = list.1;
        free = item_of (λ (s : Vec ReaderAt). AreEach IsFreeReader table.shards s.items) start.readers.items q old.0 ran.workers.reading old.1;
        knew = item_of (λ (s : Vec ReaderAt). AreEach HasLearnt start.writers.items s.items) start.readers.items q old.0 ran.learnt old.1;
        knows = item_of (λ (s : Vec ReaderAt). AreEach HasLearnt now.writers.items s.items) now.readers.items q told.0 ran.told told.1;
        grown = reader.grown;
        more = ran.grown q new.0 told.0 new.1 told.1;
        read = of_all (HasRead table.bounds old.0.items new.0.items) q gets merged i g a (subst (AreEach (HasRead table.bounds old.0.items new.0.items) (gets_of q gets)) (sym (ran.merge.each q list.0 list.1)) reader.read) at to refl;
        rise = reader.rise;
      }

  writers_long : length now.writers.items ≡ length table.shards
  writers_long = omega (arith, ap length ran.same, ran.written.len, each_length IsFreeWriter table.shards start.writers.items ran.workers.writing)

  -- the seat that answered, and what it knows now
  record Seen (g : GetLine) (a : Answer) : Type 0 where
    before : ReaderAt
    after : ReaderAt
    before_at : (old : Vec ReaderAt) → slice_get start.readers.items g.reader ≡ Some old → slice_get old.items a.shard ≡ Some before
    row : Vec ReaderAt
    row_at : slice_get now.readers.items g.reader ≡ Some row
    after_at : slice_get row.items a.shard ≡ Some after
    answered : IsAnswered before after g a
    inside : a.shard < length now.writers.items
    knew : (w : WriterAt) → slice_get start.writers.items a.shard ≡ Some w → HasLearnt w before
    knows : (w : WriterAt) → slice_get now.writers.items a.shard ≡ Some w → HasLearnt w after
    names : AnswersTo table.bounds g a

  seen_of : (i : ℕ) (g : GetLine) (a : Answer) → slice_get gets i ≡ Some g → slice_get merged i ≡ Some a → Seen g a
  seen_of i g a at to =
      let r = reads_of i g a at to in
      let s = item_at r.old.items a.shard r.read.inside in
      let t = each_other HasGrown r.old.items r.new.items a.shard s.0 r.grown s.1 in
      let u = each_other HasGrown r.new.items r.told.items a.shard t.0 r.more t.1 in
      record {
        before = s.0;
        after = u.0;
        before_at = λ old there. let same : r.old ≡ old = cc in subst (λ (v : Vec ReaderAt). slice_get v.items a.shard ≡ Some s.0) same s.1;
        row = r.told;
        row_at = r.told_at;
        after_at = u.1;
        answered = answered_longer s.0 t.0 u.0 g a (r.read.is s.0 t.0 s.1 t.1) u.2;
        inside = omega (arith, writers_long, r.read.inside, each_length IsFreeReader table.shards r.old.items r.free);
        knew = λ w there. each_at HasLearnt start.writers.items r.old.items a.shard w s.0 r.knew there s.1;
        knows = λ w there. each_at HasLearnt now.writers.items r.told.items a.shard w u.0 r.knows there u.1;
        names = r.read.names;
      }

  pub can_bound : (i : ℕ) (g : GetLine) (a : Answer) → slice_get gets i ≡ Some g → slice_get merged i ≡ Some a → CanBeBounded now.writers.items g a
  can_bound i g a at to = let n = seen_of i g a at to in record {
    inside = n.inside;
    found = λ w there. (n.after.knows.seen, (n.knows w there).seen, n.answered.inside, n.answered.map);
  }

  module _ (after : Workers) (writers_are : after.writers.items ≡ now.writers.items) (readers_are : after.readers ≡ now.readers) where
    legal : (g : GetLine) (a b : Answer) → Seen g a → IsBounded now.writers.items g a b → (s t : WriterAt) → slice_get start.writers.items b.shard ≡ Some s → slice_get after.writers.items b.shard ≡ Some t → IsLegal s.knows.made t.knows.made g b
    legal g a b n bound s t at to =
        let at' : slice_get start.writers.items a.shard ≡ Some s = subst (λ (i : ℕ). slice_get start.writers.items i ≡ Some s) bound.shard at in
        let to' : slice_get now.writers.items a.shard ≡ Some t = subst (λ (l : List WriterAt). slice_get l a.shard ≡ Some t) writers_are (subst (λ (i : ℕ). slice_get after.writers.items i ≡ Some t) bound.shard to) in
        let made = all_made table puts start mid.writers.items first ran.written ran.none a.shard s t at' (subst (λ (l : List WriterAt). slice_get l a.shard ≡ Some t) ran.same to') in
        let grows = makes_grows s.knows t.knows (puts_of table.bounds a.shard puts) made in
        record {
          least = omega (arith, bound.at t to', (n.knew s at').front, n.answered.least, grows);
          most = omega (arith, bound.at t to');
          map = bound.map t to';
        }

    seen_after : (g : GetLine) (a b : Answer) → Seen g a → IsBounded now.writers.items g a b → IfSome b.hit (λ rec. OfSeat (λ seat. IsSeenRecord seat.knows.seen rec) after b.reader b.shard)
    seen_after g a b n bound =
        let w = item_at now.writers.items a.shard n.inside in
        let row_at : slice_get after.readers.items b.reader ≡ Some n.row =
        subst (λ (v : Vec (Vec ReaderAt)). slice_get v.items b.reader ≡ Some n.row) (sym readers_are) (subst (λ (q : ℕ). slice_get now.readers.items q ≡ Some n.row) (sym (bound.reader ∙ n.names.reader)) n.row_at) in
        let seat_at : slice_get n.row.items b.shard ≡ Some n.after = subst (λ (i : ℕ). slice_get n.row.items i ≡ Some n.after) (sym bound.shard) n.after_at in
        IfSome_then b.hit (hit_seen b.hit b.at w.0.knows.made n.after.knows.seen g.key.now (bound.map w.0 w.1) (n.knows w.0 w.1).seen)
        (λ rec seen. the_seat (λ (seat : ReaderAt). IsSeenRecord seat.knows.seen rec) after b.reader b.shard n.row n.after row_at seat_at seen)

    module _ (answers : List Answer) (long : length answers ≡ length merged) (bounded : (i : ℕ) (g : GetLine) (a b : Answer) → slice_get gets i ≡ Some g → slice_get merged i ≡ Some a → slice_get answers i ≡ Some b → IsBounded now.writers.items g a b) where
      pub all_answered : AreEach (IsAnswerOf table start after) gets answers
      all_answered = each_by_place (IsAnswerOf table start after) gets answers (omega (arith, long, ran.merge.len)) (λ i g b at to.
          let a = item_at merged i (omega (arith, long, slice_get_within answers i b to)) in
          let n = seen_of i g a.0 at a.1 in let bound = bounded i g a.0 b at a.1 to in
          record {
            names = record { line = bound.line ∙ n.names.line; reader = bound.reader ∙ n.names.reader; shard = bound.shard ∙ n.names.shard };
            inside = omega (arith, writers_long, n.inside, bound.shard);
            reader = omega (arith, bound.reader, n.names.reader, slice_get_within now.readers.items g.reader n.row n.row_at, ap (λ (v : Vec (Vec ReaderAt)). length v.items) readers_are);
            legal = legal g a.0 b n bound;
            seen = seen_after g a.0 b n bound;
          })

      pub all_rise : ReadsRise answers
      all_rise i j b d less at to readers shards =
          let inside : j < length merged = omega (arith, long, slice_get_within answers j d to) in
          let a = item_at merged i (omega (arith, inside, less)) in let c = item_at merged j inside in
          let g = item_at gets i (omega (arith, inside, less, ran.merge.len)) in let h = item_at gets j (omega (arith, inside, ran.merge.len)) in
          let first_bound = bounded i g.0 a.0 b g.1 a.1 at in let second_bound = bounded j h.0 c.0 d h.1 c.1 to in
          let r = reads_of i g.0 a.0 g.1 a.1 in let n = seen_of i g.0 a.0 g.1 a.1 in let o = seen_of j h.0 c.0 h.1 c.1 in
          let q = g.0.reader in
          let one : h.0.reader ≡ q = sym (second_bound.reader ∙ o.names.reader) ∙ sym readers ∙ first_bound.reader ∙ n.names.reader in
          let p = places q gets merged i j g.0 h.0 a.0 c.0 less g.1 h.1 a.1 c.1 refl one in
          let of_list : answers_of q gets merged ≡ r.list.items = ran.merge.each q r.list r.list_at in
          let shard : a.0.shard ≡ c.0.shard = sym first_bound.shard ∙ shards ∙ second_bound.shard in
          let up : a.0.at ≤ c.0.at = r.rise p.0 p.1 a.0 c.0 p.2 (subst (λ (l : List Answer). slice_get l p.0 ≡ Some a.0) of_list p.3) (subst (λ (l : List Answer). slice_get l p.1 ≡ Some c.0) of_list p.4) shard in
          let w = item_at now.writers.items a.0.shard n.inside in
          omega (arith, up, first_bound.at w.0 w.1, second_bound.at w.0 (subst (λ (k : ℕ). slice_get now.writers.items k ≡ Some w.0) shard w.1))

-- new seats
new_learnt : (shards : List CellsAt) (writers : List WriterAt) (seats : List ReaderAt) → AreEach IsNewWriter shards writers → AreEach IsNewReader shards seats → AreEach HasLearnt writers seats
new_learnt [] [] [] a b = tt
new_learnt [] (w ∷ writers) seats a b = absurd a
new_learnt [] [] (s ∷ seats) a b = absurd b
new_learnt (c ∷ shards) [] seats a b = absurd a
new_learnt (c ∷ shards) (w ∷ writers) [] a b = absurd b
new_learnt (c ∷ shards) (w ∷ writers) (s ∷ seats) (a, more) (b, others) =
    let none : w.knows.made ≡ [] = ap (λ (v : WriteView). v.made) a.knows in
    (record { seen = ([], b.seen ∙ ap (λ (l : List Put). l ++ []) (sym none)); front = omega (arith, ap length none) }, new_learnt shards writers seats more others)

pub new_have_learnt : LawNewHaveLearnt
new_have_learnt shards w writers readers k d less = new_learnt shards w.writers.items (slice_index_or w.readers.items k d).items writers (readers k d less)
