-- The readers' answers in the order of the gets, and bounded by the puts made. This project's own.
use Rattle.std.specs.Prelude.{◌≡◌, ◌<◌, ℕ, min, cond, List, [], ◌∷◌, length, take, slice_get, Some}
use Rattle.std.specs.Global.{Vec}
use Rattle.trie_image.specs.Puts.{HasLastPut}
use Rattle.trie_rule.specs.Seats.{WriterAt, ReaderAt}
use Rattle.shard_table.specs.Seats.{AreEach}
use Rattle.script_text.specs.declared.spans.GetLine.{GetLine}
use Rattle.load_work.specs.declared.batch.Answer.{Answer}
use Rattle.load_work.specs.Reads.{HasGrown, is_of}
use Rattle.load_work.specs.Work.{IsFoundFrom}

-- of the answers to some gets, those to the gets of reader q
abbrev pub answers_of : ℕ → List GetLine → List Answer → List Answer
answers_of q [] answers = []
answers_of q (g ∷ gets) [] = []
answers_of q (g ∷ gets) (a ∷ answers) = cond (is_of q g) (a ∷ answers_of q gets answers) (answers_of q gets answers)

-- there is an answer for each get, and each reader's answers stand in their order at its gets
pub record IsMerge (gets : List GetLine) (lists : List (Vec Answer)) (answers : List Answer) : Type 0 where
  pub len : length answers ≡ length gets
  pub each : (q : ℕ) (list : Vec Answer) → slice_get lists q ≡ Some list → answers_of q gets answers ≡ list.items

-- each reader's seats have seen at least what they had
abbrev pub ReadersHaveGrown : List (Vec ReaderAt) → List (Vec ReaderAt) → Type 0
ReadersHaveGrown before after = (q : ℕ) (old new : Vec ReaderAt) → slice_get before q ≡ Some old
    → slice_get after q ≡ Some new → AreEach HasGrown old.items new.items

-- the answer was found in some list of puts that begins with those made by the writer of its shard
pub record CanBeBounded (writers : List WriterAt) (g : GetLine) (a : Answer) : Type 0 where
  pub inside : a.shard < length writers
  pub found : (w : WriterAt) → slice_get writers a.shard ≡ Some w → IsFoundFrom w.knows.made g.key.now a.hit a.at

-- b is answer a with no more puts than the writer of its shard has made, and what these have at the key
pub record IsBounded (writers : List WriterAt) (g : GetLine) (a b : Answer) : Type 0 where
  pub line : b.line ≡ a.line
  pub reader : b.reader ≡ a.reader
  pub shard : b.shard ≡ a.shard
  pub at : (w : WriterAt) → slice_get writers a.shard ≡ Some w → b.at ≡ min a.at (length w.knows.made)
  pub map : (w : WriterAt) → slice_get writers a.shard ≡ Some w → HasLastPut (take b.at w.knows.made) g.key.now b.hit
