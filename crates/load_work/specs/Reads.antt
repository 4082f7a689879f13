-- The gets of a batch, and what a reader answers. This project's own.
use Rattle.std.specs.Prelude.{◌≡◌, ◌<◌, ◌≤◌, ℕ, Bool, nat_eq, List, length, take, filter, slice_get, Some, IfSome}
use Rattle.trie_image.specs.Puts.{HasLastPut}
use Rattle.trie_rule.specs.Rule.{IsStartOf}
use Rattle.trie_rule.specs.Seats.{ReaderAt}
use Rattle.trie_reader.specs.Read.{IsSeenRecord}
use Rattle.shard_table.specs.Shards.{shard_index}
use Rattle.script_text.specs.declared.spans.GetLine.{GetLine}
use Rattle.load_work.specs.declared.batch.Answer.{Answer}

-- the key of a get is within its limits
pub record IsGet (g : GetLine) : Type 0 where
  pub least : 1 ≤ length g.key.now
  pub most : length g.key.now ≤ 2048

-- the get is of this reader
abbrev pub is_of : ℕ → GetLine → Bool
is_of q g = nat_eq g.reader q

-- the gets of reader q, in the order of their lines
abbrev pub gets_of : ℕ → List GetLine → List GetLine
gets_of q gets = filter (is_of q) gets

-- a read seat has seen at least what it had, and its front hasn't fallen
pub record HasGrown (s t : ReaderAt) : Type 0 where
  pub seen : IsStartOf s.knows.seen t.knows.seen
  pub front : s.knows.reader.front ≤ t.knows.reader.front

-- the answer to the get by a seat that was s before and is t after: what the shard's map had at the key after its first
-- `at` puts, which the seat has seen, and no fewer than it knew of before
pub record IsAnswered (s t : ReaderAt) (g : GetLine) (a : Answer) : Type 0 where
  pub least : s.knows.reader.front ≤ a.at
  pub most : a.at ≤ t.knows.reader.front
  pub inside : a.at ≤ length t.knows.seen
  pub map : HasLastPut (take a.at t.knows.seen) g.key.now a.hit
  pub hit : IfSome a.hit (IsSeenRecord t.knows.seen)

-- the answer names the get's line, reader and shard
pub record AnswersTo (bounds : List (List ℕ)) (g : GetLine) (a : Answer) : Type 0 where
  pub line : a.line ≡ g.line
  pub reader : a.reader ≡ g.reader
  pub shard : a.shard ≡ shard_index bounds g.partition.now

-- the reader's seats were these before and are those after, and the answer is that of its seat at the get's shard
pub record HasRead (bounds : List (List ℕ)) (before after : List ReaderAt) (g : GetLine) (a : Answer) : Type 0 where
  pub names : AnswersTo bounds g a
  pub inside : a.shard < length before
  pub is : (s t : ReaderAt) → slice_get before a.shard ≡ Some s → slice_get after a.shard ≡ Some t → IsAnswered s t g a

-- answers of one shard don't fall
abbrev pub AnswersRise : List Answer → Type 0
AnswersRise answers = (i j : ℕ) (a b : Answer) → i < j → slice_get answers i ≡ Some a → slice_get answers j ≡ Some b
    → a.shard ≡ b.shard → a.at ≤ b.at
