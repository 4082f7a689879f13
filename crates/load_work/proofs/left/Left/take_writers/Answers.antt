use Rattle.std.proofs.Common.{◌≡◌, ℕ, suc, ◌+◌, ◌∷◌, ◌++◌, [], List, take, drop, sym, subst, arith}
use Rattle.std.proofs.lemmas.List.{take_all}
use Rattle.trie_rule.specs.Seats.{WriterAt}
use Rattle.load_work.specs.declared.jobs.Job.TheVariants.{Write}
use Rattle.load_work.specs.Deal.{IsLeft, writes_from, HaveWritten}
use Rattle.load_work.proofs.Lists.{item_at}
use Rattle.load_work.proofs.Taking.{writes_turned, writes_over, written_more, none_written}
use Rattle.load_work.proofs.left.Left.take_writers.Goals as goal

pub writers-init : goal.writers-init
writers-init c table puts gets before workers long left = (none_written table puts before c.new-writers.result.items c.new-writers.ensures.items, left)

pub next_done-requires : goal.next_done-requires
next_done-requires c =
    let r = c.requires in let k = c.writers.counter in let s = item_at r.3 k (omega (arith, r.5)) in (
      r.0,
      r.1,
      r.2,
      Write k s.0,
      writes_from (suc k) (drop (suc k) r.3) ++ r.4,
      writes_turned r.0 r.1 r.2 k r.3 r.4 s.0 c.writers.self.done.items c.writers.self.places.items s.1 (c.writers.invariant r.0 r.1 r.2 r.3 r.4 r.5 r.6).1,
    )

pub unreachable-requires : goal.unreachable-requires
unreachable-requires c =
    let r = c.requires in let k = c.writers.counter in let s = item_at r.3 k (omega (arith, r.5)) in
    c.in-HasRead.ensures.run r.0 r.1 r.2 (Write k s.0) (writes_from (suc k) (drop (suc k) r.3) ++ r.4)
    (writes_turned r.0 r.1 r.2 k r.3 r.4 s.0 c.writers.self.done.items c.writers.self.places.items s.1 (c.writers.invariant r.0 r.1 r.2 r.3 r.4 r.5 r.6).1)

pub writers-preserved : goal.writers-preserved
writers-preserved c table puts gets before workers long left =
    let k = c.writers.counter in let s = item_at before k (omega (arith, long)) in let i = c.writers.invariant table puts gets before workers long left in
    let more = writes_from (suc k) (drop (suc k) before) ++ workers in
    let turned = writes_turned table puts gets k before workers s.0 c.writers.self.done.items c.writers.self.places.items s.1 i.1 in
    let run = c.in-Wrote.ensures.run table puts gets (Write k s.0) more turned in
    let one : k + 1 ≡ suc k = omega arith in (
      subst (λ (l : List WriterAt). HaveWritten table puts (take (k + 1) before) l c.earlier-first.result) (sym c.in_ok-push-in-Wrote.ensures.items)
          (subst (HaveWritten table puts (take (k + 1) before) (c.writers.writers.items ++ c.in-Wrote.seat ∷ [])) (sym c.earlier-first.ensures)
          (written_more table puts gets before c.writers.writers.items c.writers.first k s.0 c.in-Wrote.seat c.in-Wrote.full i.0 s.1 run (k + 1) one)),
      subst (λ (n : ℕ). IsLeft table puts gets (writes_from n (drop n before) ++ workers) c.next_done.new.self.done.items c.next_done.new.self.places.items) (sym one)
          (c.in-Wrote.ensures.left table puts gets (Write k s.0) more turned),
    )

pub returns-clause-written : goal.returns-clause-written
returns-clause-written c table puts gets before workers long left =
    let i = c.writers.invariant table puts gets before workers long left in
    subst (λ (l : List WriterAt). HaveWritten table puts l c.writers.writers.items c.writers.first) (take_all c.writers.counter before (omega (arith, long, c.writers-test.false))) i.0

pub returns-clause-left : goal.returns-clause-left
returns-clause-left c table puts gets before workers long left =
    let i = c.writers.invariant table puts gets before workers long left in
    writes_over table puts gets c.writers.counter before workers c.writers.self.done.items c.writers.self.places.items (omega (arith, long, c.writers-test.false)) i.1
