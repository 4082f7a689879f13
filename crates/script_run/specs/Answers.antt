-- The lines that the answers of a batch print.
use Rattle.std.specs.Prelude.{◌≡◌, ◌<◌, ℕ, List, [], ◌∷◌, ◌++◌, take, slice_get, Option, None, Some, IfSome, vec_len}
use Rattle.std.specs.FinMap as map
use Rattle.key_types.specs.Columns.{Columns}
use Rattle.key_types.specs.Table.{Entry, table_of}
use Rattle.trie_image.specs.Puts.{HasLastPut}
use Rattle.trie_reader.specs.Read.{IsSeenRecord}
use Rattle.trie_rule.specs.Seats.{WriterAt}
use Rattle.shard_table.specs.Seats.{OfSeat}
use Rattle.shard_freeze.specs.Sorted.{put_entries}
use Rattle.shard_table.specs.declared.workers.Workers.{Workers}
use Rattle.script_text.specs.Puts.{Get}
use Rattle.script_text.specs.declared.spans.GetLine.{GetLine}
use Rattle.load_work.specs.declared.batch.Answer.{Answer}
use Rattle.script_run.specs.Legal.{answer_line}

-- the answer is one that its reader has found: after so many of its shard's puts the key has this record, which the reader's seat has seen
pub record IsAnsweredBy (w : Workers) (get : GetLine) (answer : Answer) : Type 0 where
  pub found : (s : WriterAt) → slice_get w.writers.items answer.shard ≡ Some s → HasLastPut (take answer.at s.knows.made) get.key.now answer.hit
  pub seen : IfSome answer.hit (λ rec. OfSeat (λ seat. IsSeenRecord seat.knows.seen rec) w answer.reader answer.shard)
  pub reader : answer.reader < vec_len w.readers
  pub shard : answer.shard < vec_len w.writers

-- the puts that a shard's writer has made, as entries
abbrev pub entries_by : Option WriterAt → List Entry
entries_by None = []
entries_by (Some s) = put_entries s.knows.made

-- the value of the key after as many of its shard's puts as the answer says
abbrev pub value_answered : Workers → Get → Answer → Option (List ℕ)
value_answered w get answer =
    map.get (table_of (take answer.at (entries_by (slice_get w.writers.items answer.shard)))) (get.partition ++ get.clustering)

-- a line for each get and its answer
abbrev pub answer_lines : Columns → Workers → List Get → List Answer → List ℕ
answer_lines columns w [] answers = []
answer_lines columns w (get ∷ gets) [] = []
answer_lines columns w (get ∷ gets) (answer ∷ answers) =
    answer_line columns get (value_answered w get answer) answer.at ++ answer_lines columns w gets answers
