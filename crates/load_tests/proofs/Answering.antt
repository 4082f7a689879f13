-- The answers of a batch, one by one.
use Rattle.std.proofs.Common.{◌≡◌, ◌<◌, ℕ, List, length, vec_len, slice_index_or, IfSome, ap, sym, subst, arith}
use Rattle.std.specs.Global.{Vec}
use Rattle.trie_reader.specs.Read.{IsSeenRecord}
use Rattle.shard_table.specs.declared.workers.Workers.{Workers}
use Rattle.shard_table.specs.Seats.{TableAt, AreEach, OfSeat}
use Rattle.shard_table.proofs.Seated.{item_there}
use Rattle.script_text.specs.declared.spans.GetLine.{GetLine}
use Rattle.load_work.specs.declared.batch.Answer.{Answer}
use Rattle.load_work.specs.Work.{IsAnswerOf}
use Rattle.load_work.proofs.Answered.{each_partner}

module _ (table : TableAt) (before after now : Workers) (same : now ≡ after) (gets : List GetLine) (answers : Vec Answer) (each : AreEach (IsAnswerOf table before after) gets answers.items) (i : ℕ) (answer : Answer)
    (less : i < vec_len answers) (is : answer ≡ slice_index_or answers.items i answer) where
  get_of : (g : GetLine) × IsAnswerOf table before after g answer
  get_of = let p = each_partner (IsAnswerOf table before after) gets answers.items i answer each (item_there answers i answer less is) in (p.0, p.2)

  pub reader_there : answer.reader < vec_len now.readers
  reader_there = omega (arith, get_of.1.reader, now.readers.ok.0, ap (λ (w : Workers). length w.readers.items) same)

  pub shard_there : answer.shard < length table.shards
  shard_there = get_of.1.inside

  pub record_seen : IfSome answer.hit (λ rec. OfSeat (λ seat. IsSeenRecord seat.knows.seen rec) now answer.reader answer.shard)
  record_seen = subst (λ (w : Workers). IfSome answer.hit (λ rec. OfSeat (λ seat. IsSeenRecord seat.knows.seen rec) w answer.reader answer.shard)) (sym same) get_of.1.seen
