-- How far a script is read: only private contracts cite it.
use Rattle.std.specs.Prelude.{◌≡◌, ◌≤◌, ◌+◌, ◌%◌, ◌-◌, ℕ, List, [], ◌∷◌, ◌++◌, length, ⊤, Result, Ok, Err}
use Rattle.key_types.specs.Columns.{Columns}
use Rattle.script_text.specs.declared.batch.OpenBatch.{OpenBatch}
use Rattle.script_text.specs.declared.batch.LineKind.{LineKind}
use Rattle.script_text.specs.declared.batch.LineKind.TheVariants as kind
use Rattle.script_text.specs.declared.progress.Progress.{Progress}
use Rattle.script_text.specs.declared.spans.KeySpan.{KeySpan}
use Rattle.script_text.specs.declared.spans.PutSpan.{PutSpan}
use Rattle.script_text.specs.declared.spans.GetSpan.{GetSpan}
use Rattle.key_types.specs.declared.bytes.NoMemory.{NoMemory as NoRoom}
use Rattle.script_text.specs.declared.commands.KeyEnds.{KeyEnds}
use Rattle.script_text.specs.declared.script.Script.{Script}
use Rattle.script_text.specs.declared.script.LineCause.{LineCause}
use Rattle.script_text.specs.declared.script.ScriptError.{ScriptError}
use Rattle.script_text.specs.declared.script.ScriptError.TheVariants.{NoMemory}
use Rattle.script_text.specs.Puts.{Batch}
use Rattle.script_text.specs.Pieces.{PutsLie, GetsLie, batch_in}
use Rattle.script_text.specs.Script.{◌>>=◌, empty_batch, first_and_rest, script_with, short_keys, short_value, at_line, line_on}
use Rattle.script_text.specs.Spelled.{Line, no_line, put_line, get_line, sync_line, gets_after, puts_in}

-- ---- a batch that goes on

-- its puts and gets lie in its buffer
abbrev pub IsWhole : OpenBatch → Type 0
IsWhole open_batch = PutsLie (length open_batch.buffer) open_batch.puts × GetsLie (length open_batch.buffer) open_batch.gets

-- the batch so far
abbrev pub batch_so_far : OpenBatch → Batch
batch_so_far open_batch = batch_in open_batch.buffer open_batch.puts open_batch.gets

-- a batch and what a line adds to it
abbrev pub batch_with : Batch → Line → Batch
batch_with batch no_line = batch
batch_with batch (put_line p) = record { puts = batch.puts ++ p ∷ []; gets = batch.gets }
batch_with batch (get_line g) = record { puts = batch.puts; gets = batch.gets ++ g ∷ [] }
batch_with batch sync_line = batch

-- of which kind a line is
abbrev pub kind_of_line : Line → LineKind
kind_of_line no_line = kind.Nothing
kind_of_line (put_line p) = kind.Put
kind_of_line (get_line g) = kind.Get
kind_of_line sync_line = kind.Sync

-- a span whose strings end at these places
abbrev pub IsSpanOf : ℕ → KeyEnds → KeySpan → Type 0
IsSpanOf start ends span = (span.start ≡ start) × (span.partition ≡ ends.partition - start) × (span.clustering ≡ ends.clustering - ends.partition)

-- the strings of a key that ends at these places aren't too long
abbrev pub short_ends : ℕ → KeyEnds → Result ⊤ LineCause
short_ends start ends = short_keys (ends.partition - start) (ends.clustering - ends.partition)

-- a span was put behind those of a batch, where no string is too long; or the first that is was told, or memory ran out
abbrev pub AddsPut : ℕ → ℕ → KeyEnds → OpenBatch → OpenBatch → Result LineKind ScriptError → Type 0
AddsPut line start ends before after (Ok k) =
    (span : PutSpan) × (span.line ≡ line) × IsSpanOf start ends span.key × (span.value ≡ length before.buffer - ends.clustering)
    × (short_ends start ends ≡ Ok tt) × (short_value (length before.buffer - ends.clustering) ≡ Ok tt)
    × (k ≡ kind.Put) × (after ≡ record { buffer = before.buffer; puts = before.puts ++ span ∷ []; gets = before.gets })
AddsPut line start ends before after (Err NoMemory) = Unit {0}
AddsPut line start ends before after (Err e) = at_line line (short_ends start ends >>= λ _. short_value (length before.buffer - ends.clustering)) ≡ Err e

abbrev pub AddsGet : ℕ → ℕ → ℕ → KeyEnds → OpenBatch → OpenBatch → Result LineKind ScriptError → Type 0
AddsGet line reader start ends before after (Ok k) =
    (span : GetSpan) × (span.line ≡ line) × (span.reader ≡ reader) × IsSpanOf start ends span.key
    × (short_ends start ends ≡ Ok tt) × (k ≡ kind.Get) × (after ≡ record { buffer = before.buffer; puts = before.puts; gets = before.gets ++ span ∷ [] })
AddsGet line reader start ends before after (Err NoMemory) = Unit {0}
AddsGet line reader start ends before after (Err e) = at_line line (short_ends start ends) ≡ Err e

-- a line was added as this kind; or it is refused so, or memory ran out
abbrev pub AddsLine : Result Line ScriptError → OpenBatch → OpenBatch → Result LineKind ScriptError → Type 0
AddsLine expected before after (Ok k) =
    (line : Line) × (expected ≡ Ok line) × (k ≡ kind_of_line line) × IsWhole after × (batch_so_far after ≡ batch_with (batch_so_far before) line)
AddsLine expected before after (Err NoMemory) = Unit {0}
AddsLine expected before after (Err e) = expected ≡ Err e

-- ---- a script that goes on

-- a batch, and behind it another in the same
abbrev pub joined_batch : Batch → Batch → Batch
joined_batch front behind = record { puts = front.puts ++ behind.puts; gets = front.gets ++ behind.gets }

-- the batches that ended, the one that goes on, and those of further lines
abbrev pub batches_with : List Batch → Batch → List Line → List Batch
batches_with ended last lines = let split = first_and_rest lines in ended ++ joined_batch last split.0 ∷ split.1

-- the script of what was read, and of further lines
abbrev pub script_after : Progress → Result (List Line) ScriptError → Result Script ScriptError
script_after p (Ok lines) = Ok (record { batches = batches_with p.batches (batch_so_far p.batch) lines; puts = p.puts + length (puts_in lines) })
script_after p (Err e) = Err e

-- what was counted isn't more than the lines
abbrev pub IsCounted : Progress → Type 0
IsCounted p = (p.puts ≤ p.line) × (p.gets ≤ p.line) × IsWhole p.batch

-- before the first line
abbrev pub IsBegun : Progress → Type 0
IsBegun p = (p.line ≡ 0) × (p.gets ≡ 0) × IsCounted p × ((lines : List Line) → script_after p (Ok lines) ≡ Ok (script_with lines))

-- a line of this kind was counted, unless memory ran out
abbrev pub CountsKind : LineKind → Progress → Progress → Result ⊤ NoRoom → Type 0
CountsKind kind.Nothing before after (Ok _) = after ≡ before
CountsKind kind.Put before after (Ok _) = after ≡ record { batches = before.batches; batch = before.batch; line = before.line; gets = before.gets; puts = before.puts + 1 }
CountsKind kind.Get before after (Ok _) = after ≡ record { batches = before.batches; batch = before.batch; line = before.line; gets = before.gets + 1; puts = before.puts }
CountsKind kind.Sync before after (Ok _) =
    (after.batches ≡ before.batches ++ batch_so_far before.batch ∷ []) × IsWhole after.batch × (batch_so_far after.batch ≡ empty_batch)
    × (after.line ≡ before.line) × (after.gets ≡ before.gets) × (after.puts ≡ before.puts)
CountsKind k before after (Err e) = Unit {0}

-- one more line was read
abbrev pub TakesLine : Line → Progress → Progress → Type 0
TakesLine line before after =
    (after.line ≡ before.line + 1) × (after.gets ≡ gets_after line before.gets) × IsCounted after
    × ((lines : List Line) → script_after after (Ok lines) ≡ script_after before (Ok (line ∷ lines)))

-- so, or it is refused so, or memory ran out
abbrev pub ReadsLine : Result Line ScriptError → Progress → Progress → Result ⊤ ScriptError → Type 0
ReadsLine expected before after (Ok _) = (line : Line) × (expected ≡ Ok line) × TakesLine line before after
ReadsLine expected before after (Err NoMemory) = Unit {0}
ReadsLine expected before after (Err e) = expected ≡ Err e

-- what the next line spells
abbrev pub next_line : Columns → ℕ → Progress → List ℕ → Result Line ScriptError
next_line s readers p text = at_line (p.line + 1) (line_on s (p.line + 1) (p.gets % readers) text)
