-- The value that an answer found.
use Rattle.std.proofs.Common.{◌≡◌, ℕ, zero, suc, ◌+◌, ◌<◌, ◌≤◌, List, [], ◌∷◌, ◌++◌, length, take, drop, slice_get, slice_index_or, Option, Some, None, refl, sym, ◌∙◌, ap, subst, arith, append_assoc, length-take}
use Rattle.std.proofs.lemmas.List.{append-nil, take-append-drop, take-map, take_all}
use Rattle.std.proofs.lemmas.Option.{slice_get-get_or}
use Rattle.std.specs.FinMap as map_of
use Rattle.key_types.specs.Columns.{Columns}
use Rattle.key_types.specs.Table.{Entry, IsLastValue, LacksKey, table_of}
use Rattle.key_types.proofs.Puts.{gets_last}
use Rattle.trie_image.specs.declared.Put.{Put as CellPut}
use Rattle.trie_image.specs.declared.Rec.{Rec}
use Rattle.trie_image.specs.Puts.{HasLastPut, HasNoPut, IsLastPut, IsRecOf}
use Rattle.trie_reader.specs.Read.{IsValueOfRecord}
use Rattle.trie_rule.specs.Seats.{CellsAt, ReaderAt, WriterAt}
use Rattle.shard_freeze.specs.Sorted.{put_entries}
use Rattle.shard_table.specs.declared.workers.Workers.{Workers}
use Rattle.shard_table.specs.Seats.{AreEach, AreWorkers, IsFreeReader, IsFreeWriter, OfSeat}
use Rattle.shard_table.proofs.Each.{each_at, each_length}
use Rattle.script_text.specs.Puts.{Get}
use Rattle.script_text.specs.Pieces.{LendsGet}
use Rattle.script_text.specs.declared.spans.GetLine.{GetLine}
use Rattle.load_work.specs.declared.batch.Answer.{Answer}
use Rattle.load_work.specs.Work.{HasLearnt, HaveLearnt}
use Rattle.load_work.proofs.Lists.{get_before, item_at}
use Rattle.script_run.specs.Answers.{IsAnsweredBy, answer_lines, entries_by, value_answered}
use Rattle.script_run.specs.Legal.{answer_line}
use Rattle.script_run.proofs.Opened.{item_of}
use Rattle.script_run.proofs.Printed.{take_next}

-- ---- the last put of a key, as an entry

entry : CellPut → Entry
entry p = (p.key, p.value)

lacks : (key : List ℕ) (puts : List CellPut) → HasNoPut puts key → LacksKey key (put_entries puts)
lacks key [] none = tt
lacks key (p ∷ puts) none = ((λ same. none 0 p refl (sym same)), lacks key puts (λ m. none (suc m)))

last_value : (key : List ℕ) (puts : List CellPut) (n : ℕ) (put : CellPut) → IsLastPut puts key n put → IsLastValue key put.value (put_entries puts)
last_value key [] n put last = let none : None ≡ Some put = last.is_there in absurd (cc)
last_value key (p ∷ puts) zero put last =
    let is : p ≡ put = cc in (
      [],
      put_entries puts,
      ap (λ (q : CellPut). (q.key, q.value) ∷ put_entries puts) is ∙ ap (λ (k : List ℕ). (k, put.value) ∷ put_entries puts) last.same_key,
      lacks key puts (λ m later at. last.last (suc m) later (omega arith) at),
    )
last_value key (p ∷ puts) (suc n) put last =
    let r = last_value key puts n put (record { is_there = last.is_there; same_key = last.same_key; last = λ m later less at. last.last (suc m) later (omega (arith, less)) at }) in
    ((p.key, p.value) ∷ r.0, r.1, ap (λ (l : List Entry). (p.key, p.value) ∷ l) r.2, r.3)

module _ (made : List CellPut) (at : ℕ) (key : List ℕ) where
  first_entries : take at (put_entries made) ≡ put_entries (take at made)
  first_entries = take-map (λ (p : CellPut). (p.key, p.value)) at made

  value_none : HasNoPut (take at made) key → map_of.get (table_of (take at (put_entries made))) key ≡ None
  value_none none =
      ap (λ (es : List Entry). map_of.get (table_of es) key) first_entries ∙ (gets_last.none (put_entries (take at made)) key).1 (lacks key (take at made) none)

  value_some : (n : ℕ) (put : CellPut) → IsLastPut (take at made) key n put → map_of.get (table_of (take at (put_entries made))) key ≡ Some put.value
  value_some n put last =
      ap (λ (es : List Entry). map_of.get (table_of es) key) first_entries
      ∙ (gets_last.some (put_entries (take at made)) key put.value).1 (last_value key (take at made) n put last)

-- ---- the answer's record

module _ (shards : List CellsAt) (w : Workers) (are : AreWorkers shards w) (learnt : HaveLearnt w) (line : GetLine) (get : Get) (answer : Answer) (lent : LendsGet line get)
    (answered : IsAnsweredBy w line answer) where
  writer : (s : WriterAt) × (slice_get w.writers.items answer.shard ≡ Some s)
  writer = item_at w.writers.items answer.shard (omega (arith, answered.shard, w.writers.ok.0))

  found : HasLastPut (take answer.at writer.0.knows.made) (get.partition ++ get.clustering) answer.hit
  found = subst (λ (key : List ℕ). HasLastPut (take answer.at writer.0.knows.made) key answer.hit) lent.3 (answered.found writer.0 writer.1)

  value_is : value_answered w get answer ≡ map_of.get (table_of (take answer.at (put_entries writer.0.knows.made))) (get.partition ++ get.clustering)
  value_is = ap (λ (o : Option WriterAt). map_of.get (table_of (take answer.at (entries_by o))) (get.partition ++ get.clustering)) writer.1

  pub found_none : answer.hit ≡ None → None ≡ value_answered w get answer
  found_none none =
      sym
      (value_is
      ∙ value_none writer.0.knows.made answer.at (get.partition ++ get.clustering)
      (subst (HasLastPut (take answer.at writer.0.knows.made) (get.partition ++ get.clustering)) none found))

  pub shard_inside : answer.shard < length shards
  shard_inside = omega (arith, answered.shard, w.writers.ok.0, each_length IsFreeWriter shards w.writers.items are.writing)

  -- the reader of the answer knows all puts of the shard
  seats : (seats : _) × (slice_get w.readers.items answer.reader ≡ Some seats)
  seats = item_at w.readers.items answer.reader (omega (arith, answered.reader, w.readers.ok.0))

  seat : (s : ReaderAt) × (slice_get seats.0.items answer.shard ≡ Some s)
  seat =
      let each = item_of (λ seats. AreEach IsFreeReader shards seats.items) w.readers.items answer.reader seats.0 are.reading seats.1 in
      item_at seats.0.items answer.shard (omega (arith, shard_inside, each_length IsFreeReader shards seats.0.items each))

  knows_all : HasLearnt writer.0 seat.0
  knows_all =
      each_at HasLearnt w.writers.items seats.0.items answer.shard writer.0 seat.0
      (item_of (λ seats. AreEach HasLearnt w.writers.items seats.items) w.readers.items answer.reader seats.0 learnt seats.1) writer.1 seat.1

  pub found_some : (rec : Rec) (bytes : List ℕ) → answer.hit ≡ Some rec → OfSeat (λ seat. IsValueOfRecord seat.knows.seen rec bytes) w answer.reader answer.shard
      → Some bytes ≡ value_answered w get answer
  found_some rec bytes is value =
      let key = get.partition ++ get.clustering in
      let made = writer.0.knows.made in
      let last = subst (HasLastPut (take answer.at made) key) is found in
      let there = get_before (take answer.at made) (drop answer.at made) last.0 last.1 last.3.is_there in
      let in_made : slice_get made last.0 ≡ Some last.1 = subst (λ (l : List CellPut). slice_get l last.0 ≡ Some last.1) (take-append-drop answer.at made) there in
      let in_seen : slice_get seat.0.knows.seen last.0 ≡ Some last.1 =
      subst (λ (l : List CellPut). slice_get l last.0 ≡ Some last.1) (sym knows_all.seen.1) (get_before made knows_all.seen.0 last.0 last.1 in_made) in
      let seen : IsRecOf seat.0.knows.seen last.0 last.1 rec = record { is_there = in_seen; cell = last.3.cell; number = last.3.number; len = last.3.len } in
      ap (λ (v : List ℕ). Some v) (value seats.0 seat.0 seats.1 seat.1 last.0 last.1 seen)
      ∙ sym (value_is ∙ value_some made answer.at key last.0 last.1 last.2)

-- ---- the lines of answers, one after the other

module _ (columns : Columns) (w : Workers) where
  lines_more : (gets : List Get) (answers : List Answer) (g : Get) (a : Answer) → length gets ≡ length answers
      → answer_lines columns w (gets ++ g ∷ []) (answers ++ a ∷ []) ≡ answer_lines columns w gets answers ++ answer_line columns g (value_answered w g a) a.at
  lines_more [] [] g a long = append-nil (answer_line columns g (value_answered w g a) a.at)
  lines_more [] (y ∷ answers) g a long = absurd (omega (arith, long))
  lines_more (x ∷ gets) [] g a long = absurd (omega (arith, long))
  lines_more (x ∷ gets) (y ∷ answers) g a long =
      let line = answer_line columns x (value_answered w x y) y.at in
      ap (λ (l : List ℕ). line ++ l) (lines_more gets answers g a (omega (arith, long)))
      ∙ sym (append_assoc line (answer_lines columns w gets answers) (answer_line columns g (value_answered w g a) a.at))

  pub lines_next : (before : Workers) → before ≡ w → (gets : List GetLine) (asked : List Get) (answers : List Answer) (i : ℕ) (dg : GetLine) (da : Answer) (old out new : List ℕ)
      → AreEach LendsGet gets asked → length gets ≡ length answers → i < length gets → out ≡ old ++ answer_lines columns w (take i asked) (take i answers)
      → ((get : Get) → LendsGet (slice_index_or gets i dg) get → new ≡ out ++ answer_line columns get (value_answered before get (slice_index_or answers i da)) (slice_index_or answers i da).at)
      → new ≡ old ++ answer_lines columns w (take (i + 1) asked) (take (i + 1) answers)
  lines_next before same gets asked answers i dg da old out new lent long less so_far line =
      let many = each_length LendsGet gets asked lent in
      let get = item_at asked i (omega (arith, less, many)) in
      let a = slice_index_or answers i da in
      let there : slice_get answers i ≡ Some a = slice_get-get_or answers i da (omega (arith, less, long)) in
      let lends : LendsGet (slice_index_or gets i dg) get.0 = each_at LendsGet gets asked i (slice_index_or gets i dg) get.0 lent (slice_get-get_or gets i dg less) get.1 in
      let own = answer_line columns get.0 (value_answered w get.0 a) a.at in
      let firsts : length (take i asked) ≡ length (take i answers) = omega (arith, length-take i asked, length-take i answers, many, long) in
      line get.0 lends ∙ ap (λ (v : Workers). out ++ answer_line columns get.0 (value_answered v get.0 a) a.at) same ∙ ap (λ (l : List ℕ). l ++ own) so_far
      ∙ append_assoc old (answer_lines columns w (take i asked) (take i answers)) own ∙ ap (λ (l : List ℕ). old ++ l) (sym (lines_more (take i asked) (take i answers) get.0 a firsts))
      ∙ ap (λ (l : List Get). old ++ answer_lines columns w l (take i answers ++ a ∷ [])) (sym (take_next asked i get.0 get.1))
      ∙ ap (λ (l : List Answer). old ++ answer_lines columns w (take (i + 1) asked) l) (sym (take_next answers i a there))

  pub lines_all : (asked : List Get) (answers : List Answer) (i : ℕ) → length asked ≤ i → length answers ≤ i → answer_lines columns w (take i asked) (take i answers) ≡ answer_lines columns w asked answers
  lines_all asked answers i few few' =
      ap (λ (l : List Get). answer_lines columns w l (take i answers)) (take_all i asked few) ∙ ap (λ (l : List Answer). answer_lines columns w asked l) (take_all i answers few')
