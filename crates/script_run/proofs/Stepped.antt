-- One batch: what is asked of its workers, what they know after it, and its text.
use Rattle.std.proofs.Common.{◌≡◌, ℕ, zero, suc, ◌<◌, ◌≤◌, Bool, true, false, cond, List, [], ◌∷◌, ◌++◌, length, map, slice_get, slice_index_or, Some, vec_len, refl, sym, ◌∙◌, ap, subst, arith, length-append}
use Rattle.std.specs.Prelude.{nat_eq}
use Rattle.std.specs.List.{AllByRecursion}
use Rattle.std.proofs.lemmas.Bool.Decides.{nat_tests}
use Rattle.std.proofs.lemmas.Option.{slice_get_within}
use Rattle.key_types.specs.Columns.{Columns}
use Rattle.trie_rule.specs.Rule.{opening_write_view}
use Rattle.trie_rule.specs.Seats.{WriterAt}
use Rattle.shard_table.specs.declared.workers.Workers.{Workers}
use Rattle.shard_table.specs.Seats.{AreEach, AreWorkers, IsFreeWriter, TableAt}
use Rattle.shard_table.specs.Shards.{shard_index}
use Rattle.shard_table.proofs.Each.{each_length}
use Rattle.shard_table.proofs.Together.{most_index}
use Rattle.load_work.specs.declared.batch.Answer.{Answer}
use Rattle.load_work.specs.Puts.{IsPut}
use Rattle.load_work.specs.Work.{HaveLearnt, HaveMade, IsAnswerOf, IsFirstFull, IsGetBelow, ReadsRise}
use Rattle.script_text.specs.declared.spans.GetLine.{GetLine}
use Rattle.script_text.specs.declared.spans.PutLine.{PutLine}
use Rattle.script_text.specs.Pieces.{LendsGet, LendsPut}
use Rattle.script_text.specs.Puts.{Batch, Get, Put}
use Rattle.script_run.specs.Answers.{IsAnsweredBy, answer_lines}
use Rattle.script_run.specs.Legal.{shard_puts}
use Rattle.script_run.specs.Runs.{HoldsPuts, IsRunGet, IsRunPut, MakesPuts}
use Rattle.script_run.specs.Steps.{HaveMadePuts, IsBatchText, IsLeastFull, StandAfter}
use Rattle.script_run.proofs.Printed.{answers_rise, lines_are, writer_there}
use Rattle.script_run.proofs.Makes.{full_lines, full_puts, lent_shard, made_puts, makes_both, puts_made, shard_both}

-- ---- the lines are within their limits

module _ (bounds : List (List ℕ)) where
  pub put_within : (p : PutLine) (q : Put) → LendsPut p q → IsRunPut bounds q → IsPut p
  put_within p q lent run =
      let key = ap length lent.2 ∙ length-append q.partition q.clustering in record {
        least = omega (arith, key, run.some);
        most = omega (arith, key, run.partition, run.clustering);
        short = omega (arith, ap length lent.3, run.value);
      }

  pub puts_within : (lines : List PutLine) (puts : List Put) → AreEach LendsPut lines puts → AllByRecursion (IsRunPut bounds) puts → (k : ℕ) (d : PutLine) → k < length lines
      → IsPut (slice_index_or lines k d)
  puts_within [] puts h all k d less = absurd (omega (arith, less))
  puts_within (p ∷ lines) [] h all k d less = absurd h
  puts_within (p ∷ lines) (q ∷ puts) (h, hs) (a, all) zero d less = put_within p q h a
  puts_within (p ∷ lines) (q ∷ puts) (h, hs) (a, all) (suc k) d less = puts_within lines puts hs all k d (omega (arith, less))

module _ (readers : ℕ) where
  get_within : (g : GetLine) (get : Get) → LendsGet g get → IsRunGet readers get → IsGetBelow readers g
  get_within g get lent run =
      let key = ap length lent.3 ∙ length-append get.partition get.clustering in record {
        get = record { least = omega (arith, key, run.some); most = omega (arith, key, run.partition, run.clustering) };
        reader = omega (arith, lent.1, run.reader);
      }

  pub gets_within : (gets : List GetLine) (asked : List Get) → AreEach LendsGet gets asked → AllByRecursion (IsRunGet readers) asked → (k : ℕ) (d : GetLine) → k < length gets
      → IsGetBelow readers (slice_index_or gets k d)
  gets_within [] asked h all k d less = absurd (omega (arith, less))
  gets_within (g ∷ gets) [] h all k d less = absurd h
  gets_within (g ∷ gets) (get ∷ asked) (h, hs) (a, all) zero d less = get_within g get h a
  gets_within (g ∷ gets) (get ∷ asked) (h, hs) (a, all) (suc k) d less = gets_within gets asked hs all k d (omega (arith, less))

-- ---- a shard that gets a put is one of those between the bounds

shard_within : (bounds : List (List ℕ)) (i : ℕ) (puts made : List Put) (p : Put) (left : List Put) → shard_puts bounds i puts ≡ made ++ p ∷ left → i ≤ length bounds
shard_within bounds i [] made p left e = absurd (omega (arith, ap length e, length-append made (p ∷ left)))
shard_within bounds i (q ∷ puts) made p left e = by (nat_eq (shard_index bounds q.partition) i) refl e (λ e. shard_within bounds i puts made p left e)
  where
    by : (t : Bool) → nat_eq (shard_index bounds q.partition) i ≡ t → cond t (q ∷ shard_puts bounds i puts) (shard_puts bounds i puts) ≡ made ++ p ∷ left
        → (shard_puts bounds i puts ≡ made ++ p ∷ left → i ≤ length bounds) → i ≤ length bounds
    by true is e rest = let most = most_index bounds q.partition bounds in grind (arith, nat_tests)
    by false is e rest = rest e

-- ---- what the workers have made

pub holds : (cells : ℕ) (bounds : List (List ℕ)) (puts : List Put) (w : Workers) → HaveMadePuts cells bounds puts w → HoldsPuts bounds puts w
holds cells bounds puts w made i s at = puts_made (opening_write_view cells) (shard_puts bounds i puts) s.knows (made i s at)

module _ (cells : ℕ) (table : TableAt) (before : List Put) (batch : Batch) (lines : List PutLine) (gets : List GetLine) (w : Workers) (stand : StandAfter cells table before w)
    (puts_lent : AreEach LendsPut lines batch.puts) (gets_lent : AreEach LendsGet gets batch.gets) where
  writer : (i : ℕ) → i ≤ length table.bounds → (s : WriterAt) × (slice_get w.writers.items i ≡ Some s)
  writer = writer_there table.bounds table.shards w stand.shards.count stand.workers

  pub least_full : (line : ℕ) → IsFirstFull table.bounds lines w line → IsLeastFull cells table.bounds before batch.puts line
  least_full line first =
      let s = first.full.0 in record {
        shard = first.shard;
        full = full_puts cells table.bounds before batch.puts lines first.shard line puts_lent s.knows (stand.made first.shard s first.full.2) first.full.1 first.full.3;
        least = λ other at full.
            let there = writer other (shard_within table.bounds other batch.puts full.made full.put full.left full.parts) in
            let stops = full_lines cells table.bounds before batch.puts lines other at puts_lent there.0.knows (stand.made other there.0 there.1) full in
            first.least other at (there.0, stops.0, there.1, stops.1);
      }

  module _ (w' : Workers) (are' : AreWorkers table.shards w') (learnt' : HaveLearnt w') (made : HaveMade table.bounds lines w w') where
    made_next : HaveMadePuts cells table.bounds (before ++ batch.puts) w'
    made_next i t at =
        let few : i ≤ length table.bounds = omega (arith, slice_get_within w'.writers.items i t at, each_length IsFreeWriter table.shards w'.writers.items are'.writing, stand.shards.count) in
        let s = writer i few in
        let own = made_puts s.0.knows _ (shard_puts table.bounds i batch.puts) t.knows (lent_shard table.bounds i lines batch.puts puts_lent) (made i s.0 t s.1 at) in
        subst (λ (l : List Put). MakesPuts (opening_write_view cells) l t.knows) (sym (shard_both table.bounds i before batch.puts))
        (makes_both (opening_write_view cells) (shard_puts table.bounds i before) (shard_puts table.bounds i batch.puts) s.0.knows t.knows (stand.made i s.0 s.1) own)

    pub stands_next : StandAfter cells table (before ++ batch.puts) w'
    stands_next = record { shards = stand.shards; workers = are'; learnt = learnt'; made = made_next }

    module _ (answers : List Answer) (are_answers : AreEach (IsAnswerOf table w w') gets answers) where
      pub text_is : (columns : Columns) → ReadsRise answers → IsBatchText columns table.bounds before batch (answer_lines columns w' batch.gets answers)
      text_is columns rise = (
        map (λ (a : Answer). a.at) answers,
        lines_are columns table before (before ++ batch.puts) w w' stand.shards.count stand.workers are' (holds cells table.bounds before w stand.made)
            (holds cells table.bounds (before ++ batch.puts) w' made_next) gets batch.gets answers gets_lent are_answers,
        answers_rise columns table w w' gets batch.gets answers gets_lent are_answers rise,
      )

    module _ (few : vec_len w'.readers ≡ vec_len w.readers) where
      answered : (g : GetLine) (get : Get) (a : Answer) → LendsGet g get → IsRunGet (vec_len w.readers) get → IsAnswerOf table w w' g a → IsAnsweredBy w' g a
      answered g get a lent run is =
          let inside : a.shard ≤ length table.bounds = omega (arith, is.names.shard, most_index table.bounds g.partition.now table.bounds) in
          let s = writer a.shard inside in record {
            found = λ t at. (is.legal s.0 t s.1 at).map;
            seen = is.seen;
            reader = omega (arith, is.names.reader, lent.1, run.reader, few);
            shard = omega (arith, inside, stand.shards.count, each_length IsFreeWriter table.shards w'.writers.items are'.writing, w'.writers.ok.0);
          }

      pub each_answered : (gs : List GetLine) (asked : List Get) (answers : List Answer) → AreEach LendsGet gs asked → AllByRecursion (IsRunGet (vec_len w.readers)) asked
          → AreEach (IsAnswerOf table w w') gs answers → AreEach (IsAnsweredBy w') gs answers
      each_answered [] asked [] h all are = tt
      each_answered [] asked (a ∷ answers) h all are = absurd are
      each_answered (g ∷ gs) [] answers h all are = absurd h
      each_answered (g ∷ gs) (get ∷ asked) [] h all are = absurd are
      each_answered (g ∷ gs) (get ∷ asked) (a ∷ answers) (h, hs) (run, all) (is, are) = (answered g get a h run is, each_answered gs asked answers hs all are)
