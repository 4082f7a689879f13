use Rattle.std.proofs.Common.{◌≡◌, ℕ, suc, ◌+◌, ◌∷◌, ◌++◌, [], List, take, drop, Result, Ok, sym, subst, arith}
use Rattle.std.specs.Global.{Vec}
use Rattle.std.proofs.lemmas.List.{take_all}
use Rattle.key_types.specs.declared.bytes.NoMemory.{NoMemory}
use Rattle.trie_rule.specs.Seats.{ReaderAt}
use Rattle.load_work.specs.declared.batch.Answer.{Answer}
use Rattle.load_work.specs.declared.jobs.Job.TheVariants.{Read}
use Rattle.load_work.specs.declared.jobs.Done.TheVariants as done
use Rattle.load_work.specs.Jobs.{HasRun}
use Rattle.load_work.specs.Deal.{IsLeft, reads_from, HaveRead}
use Rattle.load_work.proofs.Lists.{item_at}
use Rattle.load_work.proofs.Taking.{reads_turned, read_more, none_read}
use Rattle.load_work.proofs.left.Left.take_readers.Goals as goal

pub readers-init : goal.readers-init
readers-init c table puts gets before workers long left = (none_read table gets before c.new-readers.result.items c.new-lists.result.items c.new-readers.ensures.items c.new-lists.ensures.items, left)

pub next_done-requires : goal.next_done-requires
next_done-requires c =
    let r = c.requires in let k = c.readers.counter in let s = item_at r.3 k (omega (arith, r.5)) in (
      r.0,
      r.1,
      r.2,
      Read k s.0,
      reads_from (suc k) (drop (suc k) r.3) ++ r.4,
      reads_turned r.0 r.1 r.2 k r.3 r.4 s.0 c.readers.self.done.items c.readers.self.places.items s.1 (c.readers.invariant r.0 r.1 r.2 r.3 r.4 r.5 r.6).1,
    )

pub unreachable-requires : goal.unreachable-requires
unreachable-requires c =
    let r = c.requires in let k = c.readers.counter in let s = item_at r.3 k (omega (arith, r.5)) in
    c.in-Wrote.ensures.run r.0 r.1 r.2 (Read k s.0) (reads_from (suc k) (drop (suc k) r.3) ++ r.4)
    (reads_turned r.0 r.1 r.2 k r.3 r.4 s.0 c.readers.self.done.items c.readers.self.places.items s.1 (c.readers.invariant r.0 r.1 r.2 r.3 r.4 r.5 r.6).1)

pub readers-preserved : goal.readers-preserved
readers-preserved c table puts gets before workers long left =
    let k = c.readers.counter in let s = item_at before k (omega (arith, long)) in let i = c.readers.invariant table puts gets before workers long left in
    let more = reads_from (suc k) (drop (suc k) before) ++ workers in
    let turned = reads_turned table puts gets k before workers s.0 c.readers.self.done.items c.readers.self.places.items s.1 i.1 in
    let list = c.in_ok-answers-in-HasRead.field-0 in
    let run : HasRun table puts gets (Read k s.0) (done.HasRead c.in-HasRead.seats (Ok list)) =
    subst (λ (a : Result (Vec Answer) NoMemory). HasRun table puts gets (Read k s.0) (done.HasRead c.in-HasRead.seats a)) c.in_ok-answers-in-HasRead.was
    (c.in-HasRead.ensures.run table puts gets (Read k s.0) more turned) in
    let one : k + 1 ≡ suc k = omega arith in (
      subst (λ (l : List (Vec ReaderAt)). HaveRead table gets (take (k + 1) before) l c.push-in-HasRead.new.self.items) (sym c.in_ok-push-in-HasRead.ensures.items)
          (subst (HaveRead table gets (take (k + 1) before) (c.readers.readers.items ++ c.in-HasRead.seats ∷ [])) (sym c.in_ok-push-in-HasRead-2.ensures.items)
          (read_more table puts gets before c.readers.readers.items c.readers.lists.items k s.0 c.in-HasRead.seats list i.0 s.1 run (k + 1) one)),
      subst (λ (n : ℕ). IsLeft table puts gets (reads_from n (drop n before) ++ workers) c.next_done.new.self.done.items c.next_done.new.self.places.items) (sym one)
          (c.in-HasRead.ensures.left table puts gets (Read k s.0) more turned),
    )

pub returns : goal.returns
returns c table puts gets before workers long left =
    let i = c.readers.invariant table puts gets before workers long left in
    subst (λ (l : List (Vec ReaderAt)). HaveRead table gets l c.readers.readers.items c.readers.lists.items) (take_all c.readers.counter before (omega (arith, long, c.readers-test.false))) i.0
