-- The lines that a batch prints, behind those of the batches before it.
use Rattle.std.proofs.Common.{◌≡◌, ℕ, zero, suc, ◌+◌, ◌-◌, ◌≤◌, ◌<◌, List, [], ◌∷◌, ◌++◌, length, map, take, slice_get, Option, Some, inl, inr, refl, sym, ◌∙◌, ap, subst, arith, append_assoc, length-append}
use Rattle.std.specs.Prelude.{◌⊎◌}
use Rattle.std.proofs.lemmas.List.{append-nil, length-map, take-map}
use Rattle.std.specs.FinMap as map_of
use Rattle.key_types.specs.Columns.{Columns}
use Rattle.key_types.specs.Table.{Entry, table_of}
use Rattle.trie_image.specs.declared.Put.{Put as CellPut}
use Rattle.trie_rule.specs.Seats.{CellsAt, WriterAt}
use Rattle.shard_freeze.specs.Sorted.{put_entries}
use Rattle.shard_table.specs.Seats.{AreEach, AreWorkers, IsFreeWriter, TableAt}
use Rattle.shard_table.specs.Shards.{shard_index}
use Rattle.shard_table.specs.declared.workers.Workers.{Workers}
use Rattle.shard_table.proofs.Each.{each_length}
use Rattle.shard_table.proofs.Together.{most_index}
use Rattle.load_work.specs.declared.batch.Answer.{Answer}
use Rattle.script_text.specs.Puts.{Batch, Get, Put}
use Rattle.script_text.specs.declared.spans.GetLine.{GetLine}
use Rattle.load_work.specs.Work.{IsAnswerOf, ReadsRise}
use Rattle.script_text.specs.Pieces.{LendsGet}
use Rattle.script_text.specs.Script.{entries_of, entry_of_put, gets_of, puts_of}
use Rattle.script_run.specs.Legal.{AreBatchLines, AreLines, IsNumber, NumbersRise, answer_line, puts_asked, shard_asked, shard_puts, value_after}
use Rattle.script_run.specs.Answers.{answer_lines, entries_by, value_answered}
use Rattle.script_run.specs.Runs.{HoldsPuts}
use Rattle.script_run.proofs.Makes.{shard_both}

-- the item at a place of a list that is long enough
item_at : {X : Type 0} (xs : List X) (i : ℕ) → i < length xs → (x : X) × (slice_get xs i ≡ Some x)
item_at [] i l = absurd (omega arith)
item_at (x ∷ xs) zero l = (x, refl)
item_at (x ∷ xs) (suc i) l = item_at xs i (omega arith)

-- each shard has a writer
pub writer_there : (bounds : List (List ℕ)) (shards : List CellsAt) (w : Workers) → length shards ≡ length bounds + 1 → AreWorkers shards w → (i : ℕ) → i ≤ length bounds
    → (s : WriterAt) × (slice_get w.writers.items i ≡ Some s)
writer_there bounds shards w count are i few = item_at w.writers.items i (omega (arith, few, count, each_length IsFreeWriter shards w.writers.items are.writing))

made_long : (made : List CellPut) (puts : List Put) → put_entries made ≡ entries_of puts → length made ≡ length puts
made_long made puts is =
    sym (length-map made (λ (p : CellPut). (p.key, p.value))) ∙ ap length is ∙ length-map puts entry_of_put

-- ---- a batch's lines

module _ (columns : Columns) (table : TableAt) (before through : List Put) (w w' : Workers) (count : length table.shards ≡ length table.bounds + 1)
    (are : AreWorkers table.shards w) (are' : AreWorkers table.shards w') (had : HoldsPuts table.bounds before w) (has : HoldsPuts table.bounds through w') where
  abbrev bounds : List (List ℕ)
  bounds = table.bounds

  abbrev shards : List CellsAt
  shards = table.shards

  module _ (g : GetLine) (get : Get) (a : Answer) (lent : LendsGet g get) (is : IsAnswerOf table w w' g a) where
    shard_is : a.shard ≡ shard_asked bounds get
    shard_is = is.names.shard ∙ ap (shard_index bounds) lent.2

    few : a.shard ≤ length bounds
    few = subst (λ (i : ℕ). i ≤ length bounds) (sym shard_is) (most_index bounds get.partition bounds)

    writer : (s : WriterAt) × (slice_get w.writers.items a.shard ≡ Some s)
    writer = writer_there bounds shards w count are a.shard few

    writer' : (s : WriterAt) × (slice_get w'.writers.items a.shard ≡ Some s)
    writer' = writer_there bounds shards w' count are' a.shard few

    asked : (puts : List Put) → shard_puts bounds a.shard puts ≡ puts_asked bounds get puts
    asked puts = ap (λ (i : ℕ). shard_puts bounds i puts) shard_is

    number_is : IsNumber columns bounds before through get a.at
    number_is =
        let legal = is.legal writer.0 writer'.0 writer.1 writer'.1 in record {
          least = omega (arith, legal.least, made_long writer.0.knows.made (shard_puts bounds a.shard before) (had a.shard writer.0 writer.1), ap length (asked before));
          most = omega (arith, legal.most, made_long writer'.0.knows.made (shard_puts bounds a.shard through) (has a.shard writer'.0 writer'.1), ap length (asked through));
        }

    value_is : value_answered w' get a ≡ value_after get (take a.at (puts_asked bounds get through))
    value_is =
        let key = get.partition ++ get.clustering in
        ap (λ (o : Option WriterAt). map_of.get (table_of (take a.at (entries_by o))) key) writer'.1
        ∙ ap (λ (es : List Entry). map_of.get (table_of (take a.at es)) key) (has a.shard writer'.0 writer'.1 ∙ ap entries_of (asked through))
        ∙ ap (λ (es : List Entry). map_of.get (table_of es) key) (take-map entry_of_put a.at (puts_asked bounds get through))

  pub lines_are : (gets : List GetLine) (asked : List Get) (answers : List Answer) → AreEach LendsGet gets asked → AreEach (IsAnswerOf table w w') gets answers
      → AreLines columns bounds before through asked (map (λ (a : Answer). a.at) answers) (answer_lines columns w' asked answers)
  lines_are [] [] [] h k = refl
  lines_are [] [] (a ∷ answers) h k = absurd k
  lines_are [] (get ∷ asked) answers h k = absurd h
  lines_are (g ∷ gets) [] answers h k = absurd h
  lines_are (g ∷ gets) (get ∷ asked) [] h k = absurd k
  lines_are (g ∷ gets) (get ∷ asked) (a ∷ answers) (h, hs) (k, ks) = (
    number_is g get a h k,
    (
      answer_lines columns w' asked answers,
      ap (λ (v : Option (List ℕ)). answer_line columns get v a.at ++ answer_lines columns w' asked answers) (value_is g get a h k),
      lines_are gets asked answers hs ks,
    ),
  )

-- ---- behind those of earlier batches

pub snoc_lines : (columns : Columns) (bounds : List (List ℕ)) (before : List Put) (batches : List Batch) (numbers text : List ℕ) (batch : Batch) (own lines : List ℕ)
    → AreBatchLines columns bounds before batches numbers text → AreLines columns bounds (before ++ puts_of batches) ((before ++ puts_of batches) ++ batch.puts) batch.gets own lines
    → AreBatchLines columns bounds before (batches ++ batch ∷ []) (numbers ++ own) (text ++ lines)
snoc_lines columns bounds before [] numbers text batch own lines (none, empty) h = (
  own,
  [],
  lines,
  [],
  ap (λ (l : List ℕ). l ++ own) none ∙ sym (append-nil own),
  ap (λ (l : List ℕ). l ++ lines) empty ∙ sym (append-nil lines),
  subst (λ (p : List Put). AreLines columns bounds p (p ++ batch.puts) batch.gets own lines) (append-nil before) h,
  (refl, refl),
)
snoc_lines columns bounds before (b ∷ batches) numbers text batch own lines (own0, others, lines0, rest, e, f, h0, hs) h =
    let p = before ++ b.puts in (
      own0,
      others ++ own,
      lines0,
      rest ++ lines,
      ap (λ (l : List ℕ). l ++ own) e ∙ append_assoc own0 others own,
      ap (λ (l : List ℕ). l ++ lines) f ∙ append_assoc lines0 rest lines,
      h0,
      snoc_lines columns bounds p batches others rest batch own lines hs
          (subst (λ (q : List Put). AreLines columns bounds q (q ++ batch.puts) batch.gets own lines) (sym (append_assoc before b.puts (puts_of batches))) h),
    )

pub puts_snoc : (batches : List Batch) (batch : Batch) → puts_of (batches ++ batch ∷ []) ≡ puts_of batches ++ batch.puts
puts_snoc [] batch = append-nil batch.puts
puts_snoc (b ∷ batches) batch = ap (λ (l : List Put). b.puts ++ l) (puts_snoc batches batch) ∙ sym (append_assoc b.puts (puts_of batches) batch.puts)

pub gets_snoc : (batches : List Batch) (batch : Batch) → gets_of (batches ++ batch ∷ []) ≡ gets_of batches ++ batch.gets
gets_snoc [] batch = append-nil batch.gets
gets_snoc (b ∷ batches) batch = ap (λ (l : List Get). b.gets ++ l) (gets_snoc batches batch) ∙ sym (append_assoc b.gets (gets_of batches) batch.gets)

pub take_next : {X : Type 0} (xs : List X) (n : ℕ) (x : X) → slice_get xs n ≡ Some x → take (n + 1) xs ≡ take n xs ++ x ∷ []
take_next [] n x e = absurd (cc)
take_next (y ∷ ys) zero x e = let is : y ≡ x = cc in ap (λ (z : _). z ∷ []) is
take_next (y ∷ ys) (suc n) x e = let next : suc n + 1 ≡ suc (n + 1) = omega arith in ap (λ (k : ℕ). take k (y ∷ ys)) next ∙ ap (λ (l : List _). y ∷ l) (take_next ys n x e)

-- ---- numbers rise

-- each number is at most the count of its shard's puts among these
abbrev pub NumbersBelow : List (List ℕ) → List Get → List ℕ → List Put → Type 0
NumbersBelow bounds gets numbers puts = (i : ℕ) (g : Get) (n : ℕ) → slice_get gets i ≡ Some g → slice_get numbers i ≡ Some n → n ≤ length (puts_asked bounds g puts)

-- an item of two lists, one behind the other
either_item : {X : Type 0} (xs ys : List X) (i : ℕ) (x : X) → slice_get (xs ++ ys) i ≡ Some x
    → ((i < length xs) × (slice_get xs i ≡ Some x)) ⊎ ((length xs ≤ i) × (slice_get ys (i - length xs) ≡ Some x))
either_item [] ys i x e = inr (omega arith, ap (λ (k : ℕ). slice_get ys k) (none i) ∙ e)
  where
    none : (i : ℕ) → i - 0 ≡ i
    none i = omega arith
either_item (y ∷ xs) ys zero x e = inl (omega arith, e)
either_item (y ∷ xs) ys (suc i) x e = by (either_item xs ys i x e)
  where
    by : ((i < length xs) × (slice_get xs i ≡ Some x)) ⊎ ((length xs ≤ i) × (slice_get ys (i - length xs) ≡ Some x))
        → ((suc i < length (y ∷ xs)) × (slice_get (y ∷ xs) (suc i) ≡ Some x)) ⊎ ((length (y ∷ xs) ≤ suc i) × (slice_get ys (suc i - length (y ∷ xs)) ≡ Some x))
    by (inl (l, h)) = inl (omega (arith, l), h)
    by (inr (l, h)) = let less : suc i - length (y ∷ xs) ≡ i - length xs = omega arith in inr (omega (arith, l), ap (λ (k : ℕ). slice_get ys k) less ∙ h)

more_asked : (bounds : List (List ℕ)) (g : Get) (xs ys : List Put) → length (puts_asked bounds g xs) ≤ length (puts_asked bounds g (xs ++ ys))
more_asked bounds g xs ys =
    omega (arith, ap length (shard_both bounds (shard_asked bounds g) xs ys), length-append (puts_asked bounds g xs) (puts_asked bounds g ys))

-- the numbers of a batch's lines are within those of its shard's puts
number_of_line : (columns : Columns) (bounds : List (List ℕ)) (before through : List Put) (gets : List Get) (numbers text : List ℕ) → AreLines columns bounds before through gets numbers text
    → (i : ℕ) (g : Get) (n : ℕ) → slice_get gets i ≡ Some g → slice_get numbers i ≡ Some n → IsNumber columns bounds before through g n
number_of_line columns bounds before through [] numbers text h i g n a b = absurd (cc)
number_of_line columns bounds before through (get ∷ gets) [] text h i g n a b = absurd h
number_of_line columns bounds before through (get ∷ gets) (m ∷ numbers) text h zero g n a b =
    let p : get ≡ g = cc in
    let q : m ≡ n = cc in
    subst (λ (x : Get). IsNumber columns bounds before through x n) p (subst (λ (k : ℕ). IsNumber columns bounds before through get k) q h.0)
number_of_line columns bounds before through (get ∷ gets) (m ∷ numbers) text h (suc i) g n a b = number_of_line columns bounds before through gets numbers h.1.0 h.1.2 i g n a b

pub lines_long : (columns : Columns) (bounds : List (List ℕ)) (before through : List Put) (gets : List Get) (numbers text : List ℕ) → AreLines columns bounds before through gets numbers text
    → length numbers ≡ length gets
lines_long columns bounds before through [] [] text h = refl
lines_long columns bounds before through [] (n ∷ numbers) text h = absurd h
lines_long columns bounds before through (get ∷ gets) [] text h = absurd h
lines_long columns bounds before through (get ∷ gets) (n ∷ numbers) text h = ap suc (lines_long columns bounds before through gets numbers h.1.0 h.1.2)

module _ (columns : Columns) (bounds : List (List ℕ)) (gets : List Get) (numbers : List ℕ) (done puts : List Put) (own_gets : List Get) (own text : List ℕ)
    (long : length numbers ≡ length gets) (below : NumbersBelow bounds gets numbers done) (rise : NumbersRise columns bounds gets numbers)
    (lines : AreLines columns bounds done (done ++ puts) own_gets own text) where
  abbrev Own : ℕ → Get → ℕ → Type 0
  Own i g n = (slice_get own_gets i ≡ Some g) × (slice_get own i ≡ Some n)

  -- a get and its number: of the earlier ones, or of the batch's own
  either_get : (i : ℕ) (g : Get) (n : ℕ) → slice_get (gets ++ own_gets) i ≡ Some g → slice_get (numbers ++ own) i ≡ Some n
      → ((i < length gets) × (slice_get gets i ≡ Some g) × (slice_get numbers i ≡ Some n)) ⊎ ((length gets ≤ i) × Own (i - length gets) g n)
  either_get i g n a b = by (either_item gets own_gets i g a) (either_item numbers own i n b)
    where
      by : ((i < length gets) × (slice_get gets i ≡ Some g)) ⊎ ((length gets ≤ i) × (slice_get own_gets (i - length gets) ≡ Some g))
          → ((i < length numbers) × (slice_get numbers i ≡ Some n)) ⊎ ((length numbers ≤ i) × (slice_get own (i - length numbers) ≡ Some n))
          → ((i < length gets) × (slice_get gets i ≡ Some g) × (slice_get numbers i ≡ Some n)) ⊎ ((length gets ≤ i) × Own (i - length gets) g n)
      by (inl (l, x)) (inl (m, y)) = inl (l, x, y)
      by (inl (l, x)) (inr (m, y)) = absurd (omega (arith, l, m, long))
      by (inr (l, x)) (inl (m, y)) = absurd (omega (arith, l, m, long))
      by (inr (l, x)) (inr (m, y)) = inr (l, (x, ap (λ (k : ℕ). slice_get own (i - k)) (sym long) ∙ y))

  pub below_snoc : NumbersBelow bounds (gets ++ own_gets) (numbers ++ own) (done ++ puts)
  below_snoc i g n a b = by (either_get i g n a b)
    where
      by : ((i < length gets) × (slice_get gets i ≡ Some g) × (slice_get numbers i ≡ Some n)) ⊎ ((length gets ≤ i) × Own (i - length gets) g n)
          → n ≤ length (puts_asked bounds g (done ++ puts))
      by (inl (l, x, y)) = omega (arith, below i g n x y, more_asked bounds g done puts)
      by (inr (l, (x, y))) = (number_of_line columns bounds done (done ++ puts) own_gets own text lines (i - length gets) g n x y).most

  module _ (own_rise : NumbersRise columns bounds own_gets own) where
    pub rise_snoc : NumbersRise columns bounds (gets ++ own_gets) (numbers ++ own)
    rise_snoc i j g h m n less gi hj mi nj reader shard = by (either_get i g m gi mi) (either_get j h n hj nj)
      where
        by : ((i < length gets) × (slice_get gets i ≡ Some g) × (slice_get numbers i ≡ Some m)) ⊎ ((length gets ≤ i) × Own (i - length gets) g m)
            → ((j < length gets) × (slice_get gets j ≡ Some h) × (slice_get numbers j ≡ Some n)) ⊎ ((length gets ≤ j) × Own (j - length gets) h n) → m ≤ n
        by (inl (l, x, y)) (inl (k, u, v)) = rise i j g h m n less x u y v reader shard
        by (inl (l, x, y)) (inr (k, (u, v))) =
            let most = below i g m x y in
            let least = (number_of_line columns bounds done (done ++ puts) own_gets own text lines (j - length gets) h n u v).least in
            omega (arith, most, least, ap (λ (s : ℕ). length (shard_puts bounds s done)) shard)
        by (inr (l, (x, y))) (inl (k, u, v)) = absurd (omega (arith, l, k, less))
        by (inr (l, (x, y))) (inr (k, (u, v))) = own_rise (i - length gets) (j - length gets) g h m n (omega (arith, l, k, less)) x u y v reader shard

-- ---- the numbers of a batch's answers rise

module _ (columns : Columns) (table : TableAt) (w w' : Workers) where
  -- a get, its line and its answer
  answer_at : (gets : List GetLine) (asked : List Get) (answers : List Answer) → AreEach LendsGet gets asked → AreEach (IsAnswerOf table w w') gets answers
      → (i : ℕ) (g : Get) (n : ℕ) → slice_get asked i ≡ Some g → slice_get (map (λ (a : Answer). a.at) answers) i ≡ Some n
      → (a : Answer) × (slice_get answers i ≡ Some a) × (a.at ≡ n) × (a.reader ≡ g.reader) × (a.shard ≡ shard_asked table.bounds g)
  answer_at [] [] answers h k i g n x y = absurd (cc)
  answer_at [] (get ∷ asked) answers h k i g n x y = absurd h
  answer_at (l ∷ gets) [] answers h k i g n x y = absurd h
  answer_at (l ∷ gets) (get ∷ asked) [] h k i g n x y = absurd k
  answer_at (l ∷ gets) (get ∷ asked) (a ∷ answers) (h, hs) (k, ks) zero g n x y =
      let p : get ≡ g = cc in
      let q : a.at ≡ n = cc in
      (a, refl, q, k.names.reader ∙ h.1 ∙ ap (λ (z : Get). z.reader) p, k.names.shard ∙ ap (shard_index table.bounds) h.2 ∙ ap (shard_asked table.bounds) p)
  answer_at (l ∷ gets) (get ∷ asked) (a ∷ answers) (h, hs) (k, ks) (suc i) g n x y = answer_at gets asked answers hs ks i g n x y

  pub answers_rise : (gets : List GetLine) (asked : List Get) (answers : List Answer) → AreEach LendsGet gets asked → AreEach (IsAnswerOf table w w') gets answers
      → ReadsRise answers → NumbersRise columns table.bounds asked (map (λ (a : Answer). a.at) answers)
  answers_rise gets asked answers h k rise i j g g' m n less gi hj mi nj reader shard =
      let a = answer_at gets asked answers h k i g m gi mi in
      let b = answer_at gets asked answers h k j g' n hj nj in
      omega (arith, a.2, b.2, rise i j a.0 b.0 less a.1 b.1 (a.3 ∙ reader ∙ sym b.3) (a.4 ∙ shard ∙ sym b.4))
