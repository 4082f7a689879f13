use Rattle.std.proofs.Common.{◌≡◌, ◌++◌, List, length, take, drop}
use Rattle.trie_rule.specs.Seats.{WriterAt}
use Rattle.shard_table.specs.Seats.{TableAt}
use Rattle.script_text.specs.declared.spans.PutLine.{PutLine}
use Rattle.script_text.specs.declared.spans.GetLine.{GetLine}
use Rattle.load_work.specs.declared.jobs.Job.{Job}
use Rattle.load_work.specs.Deal.{IsLeft, writes_from, HaveWritten}
use Rattle.load_work.proofs.left.Left.take_writers.Given as goal

abbrev pub invariant-writers : goal.invariant-writers
invariant-writers l = (table : TableAt) (puts : List PutLine) (gets : List GetLine) (before : List WriterAt) (workers : List Job) → length before ≡ l.count
    → IsLeft table puts gets (writes_from 0 before ++ workers) l.fn.self.done.items l.fn.self.places.items
    → HaveWritten table puts (take l.counter before) l.writers.items l.first
    × IsLeft table puts gets (writes_from l.counter (drop l.counter before) ++ workers) l.self.done.items l.self.places.items
