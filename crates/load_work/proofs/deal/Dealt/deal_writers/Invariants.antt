use Rattle.std.proofs.Common.{◌≡◌, ◌++◌, List, vec_len}
use Rattle.trie_rule.specs.Seats.{WriterAt}
use Rattle.script_text.specs.declared.spans.GetLine.{GetLine}
use Rattle.load_work.specs.declared.jobs.Job.{Job}
use Rattle.load_work.specs.Deal.{IsDealt, writes_from}
use Rattle.load_work.proofs.deal.Dealt.deal_writers.Given as goal

abbrev pub invariant-writers : goal.invariant-writers
invariant-writers l = (rest : List WriterAt) × (l.fn.writers.items ≡ l.writers.items ++ rest)
    × ((gets : List GetLine) (workers : List Job) → IsDealt l.table l.puts gets workers l.fn.self.jobs.items l.fn.self.places.items
    → IsDealt l.table l.puts gets (writes_from (vec_len l.writers) rest ++ workers) l.self.jobs.items l.self.places.items)

abbrev pub decreases-writers : goal.decreases-writers
decreases-writers l = vec_len l.writers
