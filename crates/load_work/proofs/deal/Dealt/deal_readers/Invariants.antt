use Rattle.std.proofs.Common.{◌≡◌, ◌++◌, List, All, vec_len}
use Rattle.std.specs.Global.{Vec}
use Rattle.trie_rule.specs.Seats.{ReaderAt}
use Rattle.shard_table.specs.Seats.{TableAt, AreEach, IsFreeReader}
use Rattle.script_text.specs.declared.spans.PutLine.{PutLine}
use Rattle.load_work.specs.declared.jobs.Job.{Job}
use Rattle.load_work.specs.Deal.{IsDealt, reads_from}
use Rattle.load_work.proofs.deal.Dealt.deal_readers.Given as goal

abbrev pub invariant-readers : goal.invariant-readers
invariant-readers l = (rest : List (Vec ReaderAt)) × (l.fn.readers.items ≡ l.readers.items ++ rest)
    × ((table : TableAt) (puts : List PutLine) → All (λ seats. AreEach IsFreeReader table.shards seats.items) l.fn.readers.items
    → (workers : List Job) → IsDealt table puts l.gets workers l.fn.self.jobs.items l.fn.self.places.items
    → IsDealt table puts l.gets (reads_from (vec_len l.readers) rest ++ workers) l.self.jobs.items l.self.places.items)

abbrev pub decreases-readers : goal.decreases-readers
decreases-readers l = vec_len l.readers
