-- Batches that were read so far, and those of further lines.
use Rattle.std.proofs.Common.{◌≡◌, ◌+◌, ℕ, List, [], ◌∷◌, ◌++◌, length, Result, Ok, refl, sym, ◌∙◌, ap, arith, subst, append_assoc}
use Rattle.std.proofs.lemmas.List.{append-nil}
use Rattle.script_text.specs.declared.batch.OpenBatch.{OpenBatch}
use Rattle.script_text.specs.declared.progress.Progress.{Progress}
use Rattle.script_text.specs.declared.script.Script.{Script}
use Rattle.script_text.specs.declared.script.ScriptError.{ScriptError}
use Rattle.script_text.specs.Puts.{Put, Get, Batch}
use Rattle.script_text.specs.Script.{empty_batch, first_and_rest, batches_of, puts_of, gets_of}
use Rattle.script_text.specs.Steps.{IsWhole, batch_so_far, batch_with, kind_of_line, joined_batch, batches_with, IsCounted, IsBegun, CountsKind, TakesLine}
use Rattle.script_text.specs.Spelled.{Line, no_line, put_line, get_line, sync_line, puts_in, gets_in}

-- ---- the order of lines

pub puts_kept : (lines : List Line) → puts_of (batches_of lines) ≡ puts_in lines
puts_kept [] = refl
puts_kept (no_line ∷ lines) = puts_kept lines
puts_kept (put_line p ∷ lines) = ap (λ puts. p ∷ puts) (puts_kept lines)
puts_kept (get_line g ∷ lines) = puts_kept lines
puts_kept (sync_line ∷ lines) = puts_kept lines

pub gets_kept : (lines : List Line) → gets_of (batches_of lines) ≡ gets_in lines
gets_kept [] = refl
gets_kept (no_line ∷ lines) = gets_kept lines
gets_kept (put_line p ∷ lines) = gets_kept lines
gets_kept (get_line g ∷ lines) = ap (λ gets. g ∷ gets) (gets_kept lines)
gets_kept (sync_line ∷ lines) = gets_kept lines

-- ---- one more line

abbrev made : List Batch → Batch → ℕ → List Line → Result Script ScriptError
made ended last puts lines = Ok (record { batches = batches_with ended last lines; puts = puts + length (puts_in lines) })

put_step : (ended : List Batch) (last : Batch) (p : Put) (puts : ℕ) (lines : List Line) → made ended (batch_with last (put_line p)) (puts + 1) lines ≡ made ended last puts (put_line p ∷ lines)
put_step ended last p puts lines =
    let split = first_and_rest lines in
    let count : (puts + 1) + length (puts_in lines) ≡ puts + length (p ∷ puts_in lines) = omega arith in
    ap (λ l. Ok (record { batches = ended ++ record { puts = l; gets = last.gets ++ split.0.gets } ∷ split.1; puts = (puts + 1) + length (puts_in lines) })) (append_assoc last.puts (p ∷ []) split.0.puts)
    ∙ ap (λ n. Ok (record { batches = batches_with ended last (put_line p ∷ lines); puts = n })) count

get_step : (ended : List Batch) (last : Batch) (g : Get) (puts : ℕ) (lines : List Line) → made ended (batch_with last (get_line g)) puts lines ≡ made ended last puts (get_line g ∷ lines)
get_step ended last g puts lines =
    let split = first_and_rest lines in
    ap (λ l. Ok (record { batches = ended ++ record { puts = last.puts ++ split.0.puts; gets = l } ∷ split.1; puts = puts + length (puts_in lines) })) (append_assoc last.gets (g ∷ []) split.0.gets)

joined_nothing : (last : Batch) → joined_batch last empty_batch ≡ last
joined_nothing last = ap (λ l. record { puts = l; gets = last.gets ++ [] }) (append-nil last.puts) ∙ ap (λ l. record { puts = last.puts; gets = l }) (append-nil last.gets)

sync_step : (ended : List Batch) (last : Batch) (puts : ℕ) (lines : List Line) → made (ended ++ last ∷ []) empty_batch puts lines ≡ made ended last puts (sync_line ∷ lines)
sync_step ended last puts lines =
    let split = first_and_rest lines in
    ap (λ l. Ok (record { batches = l; puts = puts + length (puts_in lines) }))
    (append_assoc ended (last ∷ []) (split.0 ∷ split.1) ∙ ap (λ x. ended ++ x ∷ split.0 ∷ split.1) (sym (joined_nothing last)))

-- ---- how far a script is read

-- before the first line
pub begun : (p : Progress) → p.line ≡ 0 → p.gets ≡ 0 → p.puts ≡ 0 → p.batches ≡ [] → IsWhole p.batch → batch_so_far p.batch ≡ empty_batch → IsBegun p
begun p line gets puts ended whole empty = (
  line,
  gets,
  (omega arith, omega arith, whole),
  λ lines.
      ap (λ l. made l (batch_so_far p.batch) p.puts lines) ended ∙ ap (λ b. made [] b p.puts lines) empty ∙ ap (λ n. made [] empty_batch n lines) puts
      ∙ ap (λ n. Ok (record { batches = batches_of lines; puts = n })) (let e = ap length (puts_kept lines) in omega arith),
)

-- a line was added to the batch, and counted
pub taken : (before after : Progress) (added : OpenBatch) (line : Line) → IsCounted before → IsWhole added → batch_so_far added ≡ batch_with (batch_so_far before.batch) line
    → CountsKind (kind_of_line line) (record { batches = before.batches; batch = added; line = before.line + 1; gets = before.gets; puts = before.puts }) after (Ok tt) → TakesLine line before after
taken before after added no_line counted whole is now =
    subst (TakesLine no_line before) (sym now)
    (refl, refl, ((let e = counted.0 in omega arith), (let e = counted.1 in omega arith), whole), λ lines. ap (λ b. made before.batches b before.puts lines) is)
taken before after added (put_line p) counted whole is now =
    subst (TakesLine (put_line p) before) (sym now) (
      refl,
      refl,
      ((let e = counted.0 in omega arith), (let e = counted.1 in omega arith), whole),
      λ lines. ap (λ b. made before.batches b (before.puts + 1) lines) is ∙ put_step before.batches (batch_so_far before.batch) p before.puts lines,
    )
taken before after added (get_line g) counted whole is now =
    subst (TakesLine (get_line g) before) (sym now) (
      refl,
      refl,
      ((let e = counted.0 in omega arith), (let e = counted.1 in omega arith), whole),
      λ lines. ap (λ b. made before.batches b before.puts lines) is ∙ get_step before.batches (batch_so_far before.batch) g before.puts lines,
    )
taken before after added sync_line counted whole is (ended, begun, empty, line, gets, puts) = (
  line,
  gets,
  ((let e = counted.0 in omega arith), (let e = counted.1 in omega arith), begun),
  λ lines.
      ap (λ l. made l (batch_so_far after.batch) after.puts lines) (ended ∙ ap (λ b. before.batches ++ b ∷ []) is) ∙ ap (λ b. made (before.batches ++ batch_so_far before.batch ∷ []) b after.puts lines) empty
      ∙ ap (λ n. made (before.batches ++ batch_so_far before.batch ∷ []) empty_batch n lines) puts ∙ sync_step before.batches (batch_so_far before.batch) before.puts lines,
)
