-- How the batches of a script run: what is printed, and what the shards hold. This project's own.
use Rattle.std.specs.Prelude.{◌≡◌, ◌<◌, ◌≤◌, ℕ, List, [], ◌∷◌, ◌++◌, length, take, slice_get, Some, Result, Ok, Err}
use Rattle.key_types.specs.Columns.{Columns}
use Rattle.trie_rule.specs.declared.views.WriteView.{WriteView}
use Rattle.trie_rule.specs.Rule.{opening_write_view}
use Rattle.trie_image.specs.Stores.{stores_of}
use Rattle.trie_rule.specs.Seats.{WriterAt}
use Rattle.trie_writer.specs.Written.{LacksRoom, put_view}
use Rattle.shard_freeze.specs.Sorted.{put_entries}
use Rattle.shard_table.specs.declared.workers.Workers.{Workers}
use Rattle.script_text.specs.Puts.{Put, Get, Batch}
use Rattle.script_text.specs.Script.{entries_of, puts_of}
use Rattle.script_run.specs.declared.run.RunError.{RunError}
use Rattle.script_run.specs.declared.run.RunError.TheVariants.{Full, SinkFault, NoMemory}
use Rattle.script_run.specs.Legal.{IsLegalText, shard_puts}

-- a text of the first n batches is legal
abbrev pub IsLegalTo : Columns → List (List ℕ) → List Batch → ℕ → List ℕ → Type 0
IsLegalTo columns bounds batches n text = (n ≤ length batches) × IsLegalText columns bounds (take n batches) text

-- What was written: at Ok a legal text of all batches; where a shard was full, one of the batches before; where the sink failed, a
-- beginning of a legal text of some first batches; and else such a text.
abbrev pub WritesAnswers : Columns → List (List ℕ) → List Batch → {T : Type 0} → Result T RunError → List ℕ → List ℕ → Type 0
WritesAnswers columns bounds batches (Ok x) before after =
    (text : List ℕ) × IsLegalText columns bounds batches text × (after ≡ before ++ text)
WritesAnswers columns bounds batches (Err (Full line)) before after =
    (n : ℕ) × (text : List ℕ) × IsLegalTo columns bounds batches n text × (after ≡ before ++ text)
WritesAnswers columns bounds batches (Err SinkFault) before after =
    (n : ℕ) × (text : List ℕ) × (count : ℕ) × IsLegalTo columns bounds batches n text × (count ≤ length text) × (after ≡ before ++ take count text)
WritesAnswers columns bounds batches (Err NoMemory) before after =
    (n : ℕ) × (text : List ℕ) × IsLegalTo columns bounds batches n text × (after ≡ before ++ text)

-- after all batches, or some first ones, each shard's writer has made the puts that go to it
abbrev pub HoldsPuts : List (List ℕ) → List Put → Workers → Type 0
HoldsPuts bounds puts w = (i : ℕ) (s : WriterAt) → slice_get w.writers.items i ≡ Some s
    → put_entries s.knows.made ≡ entries_of (shard_puts bounds i puts)

-- ---- room

-- the puts are made one after the other, with room for each, from the first view of a shard's writer to the last
abbrev pub MakesPuts : WriteView → List Put → WriteView → Type 0
MakesPuts w [] w' = w' ≡ w
MakesPuts w (p ∷ puts) w' =
    let key = p.partition ++ p.clustering in
    (LacksRoom w key p.value → ⊥) × MakesPuts (put_view w key p.value (stores_of w.image w.used key p.value)) puts w'

-- each shard of so many cells has room for all of the puts that go to it
abbrev pub HasRoom : ℕ → List (List ℕ) → List Put → Type 0
HasRoom cells bounds puts = (i : ℕ) → (w : WriteView) × MakesPuts (opening_write_view cells) (shard_puts bounds i puts) w

-- of a batch that stands behind some puts, the shard has no room for the put of this line, and had for all before it
pub record IsFullAt (cells : ℕ) (bounds : List (List ℕ)) (before puts : List Put) (shard line : ℕ) : Type 0 where
  pub made : List Put
  pub put : Put
  pub left : List Put
  pub parts : shard_puts bounds shard puts ≡ made ++ put ∷ left
  pub view : WriteView
  pub makes : MakesPuts (opening_write_view cells) (shard_puts bounds shard before ++ made) view
  pub full : LacksRoom view (put.partition ++ put.clustering) put.value
  pub is : line ≡ put.line

-- of some batches this line is the least of its batch for which a shard has no room
abbrev pub IsFirstFull : ℕ → List (List ℕ) → List Batch → ℕ → Type 0
IsFirstFull cells bounds batches line =
    (n : ℕ) × (batch : Batch) × (shard : ℕ) × (slice_get batches n ≡ Some batch)
    × IsFullAt cells bounds (puts_of (take n batches)) batch.puts shard line
    × ((other at : ℕ) → IsFullAt cells bounds (puts_of (take n batches)) batch.puts other at → line ≤ at)

-- ---- the table at the end

-- no string is the beginning of a bound but the whole of it
abbrev pub BeginsNoBound : List (List ℕ) → List ℕ → Type 0
BeginsNoBound bounds string = (i : ℕ) (bound rest : List ℕ) → slice_get bounds i ≡ Some bound → bound ≡ string ++ rest → rest ≡ []

-- the keys and the values of some puts are within their limits, and no partition's string is the beginning of a bound
pub record IsRunPut (bounds : List (List ℕ)) (put : Put) : Type 0 where
  pub some : 1 ≤ length put.partition
  pub partition : length put.partition ≤ 1024
  pub clustering : length put.clustering ≤ 1024
  pub value : length put.value ≤ 65535
  pub whole : BeginsNoBound bounds put.partition

pub record IsRunGet (readers : ℕ) (get : Get) : Type 0 where
  pub some : 1 ≤ length get.partition
  pub partition : length get.partition ≤ 1024
  pub clustering : length get.clustering ≤ 1024
  pub reader : get.reader < readers
