use Rattle.std.proofs.Common.{◌≡◌, ◌++◌, List, length, take, drop}
use Rattle.std.specs.Global.{Vec}
use Rattle.trie_rule.specs.Seats.{ReaderAt}
use Rattle.shard_table.specs.Seats.{TableAt}
use Rattle.script_text.specs.declared.spans.PutLine.{PutLine}
use Rattle.script_text.specs.declared.spans.GetLine.{GetLine}
use Rattle.load_work.specs.declared.jobs.Job.{Job}
use Rattle.load_work.specs.Deal.{IsLeft, reads_from, HaveRead}
use Rattle.load_work.proofs.left.Left.take_readers.Given as goal

abbrev pub invariant-readers : goal.invariant-readers
invariant-readers l = (table : TableAt) (puts : List PutLine) (gets : List GetLine) (before : List (Vec ReaderAt)) (workers : List Job) → length before ≡ l.count
    → IsLeft table puts gets (reads_from 0 before ++ workers) l.fn.self.done.items l.fn.self.places.items
    → HaveRead table gets (take l.counter before) l.readers.items l.lists.items
    × IsLeft table puts gets (reads_from l.counter (drop l.counter before) ++ workers) l.self.done.items l.self.places.items
