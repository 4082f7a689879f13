use Rattle.std.proofs.Common.{◌≡◌, ◌++◌, ℕ, List, length, slice_get, take, drop, Some, refl, sym, ap, ◌∙◌, subst}
use Rattle.std.specs.Vec.{with_items}
use Rattle.trie_rule.specs.Seats.{WriterAt}
use Rattle.shard_table.specs.declared.workers.Workers.{Workers}
use Rattle.shard_table.specs.Seats.{AreEach, IsFreeWriter}
use Rattle.shard_table.proofs.Each.{each_length}
use Rattle.script_text.specs.declared.spans.GetLine.{GetLine}
use Rattle.load_work.specs.declared.batch.Answer.{Answer}
use Rattle.load_work.specs.Merge.{CanBeBounded, IsBounded}
use Rattle.load_work.specs.Work.{IsAnswerOf, ReadsRise}
use Rattle.load_work.proofs.Lists.{each_by_place, whole_again}
use Rattle.load_work.proofs.Settling.{written_again}
use Rattle.load_work.proofs.Whole.{writers_free, none_full, first_full, left_long, first_none, Ran, can_bound, all_answered, all_rise}
use Rattle.load_work.proofs.work.run_batch.Goals as goal

pub returns-in-Some-clause-workers : goal.returns-in-Some-clause-workers
returns-in-Some-clause-workers g c = record {
  writing = writers_free c.args.table.now c.args.puts.now c.args.workers.now c.run_workers.new.workers.writers.items c.in_ok-lists.first c.in_ok-lists.ensures.written (each_length IsFreeWriter c.args.table.now.shards c.args.workers.now.writers.items c.requires.workers.writing);
  reading = c.in_ok-lists.ensures.read.free;
}

pub tell_readers-requires : goal.tell_readers-requires
tell_readers-requires g c = record {
  writing = writers_free c.args.table.now c.args.puts.now c.args.workers.now c.run_workers.new.workers.writers.items c.in_ok-lists.first c.in_ok-lists.ensures.written (each_length IsFreeWriter c.args.table.now.shards c.args.workers.now.writers.items c.requires.workers.writing);
  reading = c.in_ok-lists.ensures.read.free;
}

pub returns-in-Some-clause-full : goal.returns-in-Some-clause-full
returns-in-Some-clause-full g c line e =
    let same : c.in-Some.line ≡ line = cc in
    first_full c.args.table.now c.args.puts.now c.args.workers.now c.run_workers.new.workers.writers.items c.in_ok-lists.first c.in_ok-lists.ensures.written line (c.in-Some.is ∙ ap (λ (n : ℕ). Some n) same)

pub merge-requires-clause-long : goal.merge-requires-clause-long
merge-requires-clause-long g c q list at = left_long c.args.table.now c.args.gets.now c.args.workers.now.readers.items c.run_workers.new.workers.readers.items c.in_ok-lists.lists.items c.in_ok-lists.ensures.read q list at

pub bound_all-requires-clause-can : goal.bound_all-requires-clause-can
bound_all-requires-clause-can g c =
    let table = c.args.table.now in let puts = c.args.puts.now in let gets = c.args.gets.now in
    let start = c.args.workers.now in let mid = c.run_workers.new.workers in let now = c.tell_readers.new.workers in
    let lists = c.in_ok-lists.lists.items in let first = c.in_ok-lists.first in let merged = c.in_ok-answers.answers.items in
    let ran : Ran table puts gets start mid now lists first merged = record {
      workers = c.requires.workers;
      learnt = c.requires.learnt;
      below = c.requires.gets;
      written = c.in_ok-lists.ensures.written;
      none = first_none c.in_ok-lists.first c.in_default.not-Some;
      read = c.in_ok-lists.ensures.read;
      grown = c.tell_readers.ensures.grown;
      count = c.tell_readers.ensures.count;
      same = c.tell_readers.ensures.same;
      told = c.tell_readers.ensures.learnt;
      merge = c.in_ok-answers.ensures;
    } in
    let can : AreEach (CanBeBounded now.writers.items) gets merged = each_by_place (CanBeBounded now.writers.items) gets merged (sym c.in_ok-answers.ensures.len) (can_bound table puts gets start mid now lists first merged ran) in
    subst (λ (l : List WriterAt). AreEach (CanBeBounded l) gets c.as_mut_slice-2.result.now) (sym c.as_mut_slice.ensures.value)
    (subst (AreEach (CanBeBounded now.writers.items) gets) (sym c.as_mut_slice-2.ensures.value) can)

pub returns-clause-room : goal.returns-clause-room
returns-clause-room g c = none_full c.args.table.now c.args.puts.now c.args.workers.now c.run_workers.new.workers.writers.items c.in_ok-lists.first c.in_ok-lists.ensures.written (first_none c.in_ok-lists.first c.in_default.not-Some)

pub returns-clause-answers : goal.returns-clause-answers
returns-clause-answers g c =
    let table = c.args.table.now in let puts = c.args.puts.now in let gets = c.args.gets.now in
    let start = c.args.workers.now in let mid = c.run_workers.new.workers in let now = c.tell_readers.new.workers in
    let lists = c.in_ok-lists.lists.items in let first = c.in_ok-lists.first in let merged = c.in_ok-answers.answers.items in
    let ran : Ran table puts gets start mid now lists first merged = record {
      workers = c.requires.workers;
      learnt = c.requires.learnt;
      below = c.requires.gets;
      written = c.in_ok-lists.ensures.written;
      none = first_none c.in_ok-lists.first c.in_default.not-Some;
      read = c.in_ok-lists.ensures.read;
      grown = c.tell_readers.ensures.grown;
      count = c.tell_readers.ensures.count;
      same = c.tell_readers.ensures.same;
      told = c.tell_readers.ensures.learnt;
      merge = c.in_ok-answers.ensures;
    } in
    let writers : c.bound_all.new.writers ≡ now.writers.items = c.bound_all.ensures.same ∙ c.as_mut_slice.ensures.value in
    let before : c.as_mut_slice-2.result.now ≡ merged = c.as_mut_slice-2.ensures.value in
    let answers = c.bound_all.new.answers in
    let long : length answers ≡ length merged = c.bound_all.ensures.len ∙ ap length before in
    let bounded : (i : ℕ) (g : GetLine) (a b : Answer) → slice_get gets i ≡ Some g → slice_get merged i ≡ Some a → slice_get answers i ≡ Some b → IsBounded now.writers.items g a b = λ i get a b at to last.
    subst (λ (l : List WriterAt). IsBounded l get a b) c.as_mut_slice.ensures.value
    (c.bound_all.ensures.bounded i get a b at (subst (λ (l : List Answer). slice_get l i ≡ Some a) (sym before) to) last) in
    let after : Workers = record { writers = with_items now.writers c.bound_all.new.writers; readers = now.readers } in
    let writers_are : after.writers.items ≡ now.writers.items = written_again now.writers c.bound_all.new.writers (ap length writers) ∙ writers in
    let whole : take c.in_ok-answers.answers.len (answers ++ drop (length answers) merged) ≡ answers = whole_again answers merged c.in_ok-answers.answers.len c.in_ok-answers.answers.ok.0 long in
    subst (AreEach (IsAnswerOf table start after) gets) (sym whole) (all_answered table puts gets start mid now lists first merged ran after writers_are refl answers long bounded)

pub returns-clause-rise : goal.returns-clause-rise
returns-clause-rise g c =
    let table = c.args.table.now in let puts = c.args.puts.now in let gets = c.args.gets.now in
    let start = c.args.workers.now in let mid = c.run_workers.new.workers in let now = c.tell_readers.new.workers in
    let lists = c.in_ok-lists.lists.items in let first = c.in_ok-lists.first in let merged = c.in_ok-answers.answers.items in
    let ran : Ran table puts gets start mid now lists first merged = record {
      workers = c.requires.workers;
      learnt = c.requires.learnt;
      below = c.requires.gets;
      written = c.in_ok-lists.ensures.written;
      none = first_none c.in_ok-lists.first c.in_default.not-Some;
      read = c.in_ok-lists.ensures.read;
      grown = c.tell_readers.ensures.grown;
      count = c.tell_readers.ensures.count;
      same = c.tell_readers.ensures.same;
      told = c.tell_readers.ensures.learnt;
      merge = c.in_ok-answers.ensures;
    } in
    let writers : c.bound_all.new.writers ≡ now.writers.items = c.bound_all.ensures.same ∙ c.as_mut_slice.ensures.value in
    let before : c.as_mut_slice-2.result.now ≡ merged = c.as_mut_slice-2.ensures.value in
    let answers = c.bound_all.new.answers in
    let long : length answers ≡ length merged = c.bound_all.ensures.len ∙ ap length before in
    let bounded : (i : ℕ) (g : GetLine) (a b : Answer) → slice_get gets i ≡ Some g → slice_get merged i ≡ Some a → slice_get answers i ≡ Some b → IsBounded now.writers.items g a b = λ i get a b at to last.
    subst (λ (l : List WriterAt). IsBounded l get a b) c.as_mut_slice.ensures.value
    (c.bound_all.ensures.bounded i get a b at (subst (λ (l : List Answer). slice_get l i ≡ Some a) (sym before) to) last) in
    let after : Workers = record { writers = with_items now.writers c.bound_all.new.writers; readers = now.readers } in
    let writers_are : after.writers.items ≡ now.writers.items = written_again now.writers c.bound_all.new.writers (ap length writers) ∙ writers in
    let whole : take c.in_ok-answers.answers.len (answers ++ drop (length answers) merged) ≡ answers = whole_again answers merged c.in_ok-answers.answers.len c.in_ok-answers.answers.ok.0 long in
    subst ReadsRise (sym whole) (all_rise table puts gets start mid now lists first merged ran after writers_are refl answers long bounded)
