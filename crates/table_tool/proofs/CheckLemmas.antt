-- How `check` ends, by the verdict on the files.
use Rattle.std.proofs.Common.{◌≡◌, ◌⊎◌, ℕ, List, Option, None, Some, Result, Ok, Err, inl, inr, refl, sym, subst}
use Rattle.std.specs.Prelude.{IfSome}
use Rattle.outside.specs.Causes.{Rose}
use Rattle.outside.specs.Files.{Files, bytes_of}
use Rattle.outside.specs.Told.{WhereTold}
use Rattle.data_file.specs.declared.writer.Counts.{Counts}
use Rattle.table_files.specs.Names.{schema_id}
use Rattle.table_reader.specs.declared.fault.TableFault.{TableFault}
use Rattle.table_reader.specs.declared.fault.TableFault.TheVariants as fault
use Rattle.table_check.specs.declared.verdict.Verdict.{Verdict}
use Rattle.table_check.specs.declared.verdict.Verdict.TheVariants.{Sound, Unsound}
use Rattle.table_check.specs.Check.{Checks}
use Rattle.table_tool.specs.declared.status.Status.{Status}
use Rattle.table_tool.specs.declared.status.Status.TheVariants as status
use Rattle.table_tool.specs.Checking.{CheckEnds, EndsVerdict, FindsSound, IsOfCheck, PrintsLine, SaysVerdict, sound_line}
use Rattle.table_tool.specs.First.{first_generation}
use Rattle.table_tool.specs.Outcome.{IsOrNoMemory, PrintsText}
use Rattle.table_tool.specs.Outside.{FaultRose, Outside, outside_of}
use Rattle.table_tool.proofs.EndLemmas.{either}
use Rattle.table_tool.proofs.GetLemmas.{by_result}
use Rattle.table_tool.proofs.LoadLemmas.{if_so}
use Rattle.table_tool.proofs.Told.{told_none, told_so}

-- a line that was printed
pub said_line : (w w' : Option (List ℕ)) (line text : List ℕ) (result : Status) → text ≡ line → WhereTold w w' (PrintsText text result)
    → WhereTold w w' (PrintsLine line result)
said_line w w' line text result is told =
    told_so w w' _ _ (λ x y printed. inl (subst (λ (t : List ℕ). PrintsText t result x y) is printed)) told

-- how the print of a line ended
pub ended_line : (result : Status) → (result ≡ status.Ok) ⊎ (result ≡ status.SinkFault)
    → (result ≡ status.Ok) ⊎ (result ≡ status.SinkFault) ⊎ (result ≡ status.NoMemory)
ended_line result (inl e) = inl e
ended_line result (inr e) = inr (inl e)

-- a line that memory ran out for
pub said_nothing : (w : Option (List ℕ)) (line : List ℕ) → WhereTold w w (PrintsLine line status.NoMemory)
said_nothing w line = told_none w _ (λ x. inr (refl, refl))

module _ (left : Option (List ℕ)) (source : ℕ) (w w' : Option (List ℕ)) (sink sink' : ℕ) (files files' : Option Files) (store store' reads reads' : ℕ) where
  abbrev before : Outside
  before = outside_of left source w sink files store reads

  abbrev after : Outside
  after = outside_of left source w' sink' files' store' reads'

  module _ (verdict : Result Verdict TableFault) (result : Status) (all : IfSome files (λ m. Checks m first_generation verdict))
      (ended : SaysVerdict verdict before after result) (same : files' ≡ files)
      (rose : verdict ≡ Err fault.StoreFault → Rose store store') (sunk : result ≡ status.SinkFault → Rose sink sink') where
    -- what the line of sound files ends with
    by_line : (P : Status → Type 0) → P status.Ok → (result ≡ status.SinkFault → P status.SinkFault) → P status.NoMemory
        → (result ≡ status.Ok) ⊎ (result ≡ status.SinkFault) ⊎ (result ≡ status.NoMemory) → P result
    by_line P ok failed memory (inl e) = subst P (sym e) ok
    by_line P ok failed memory (inr (inl e)) = subst P (sym e) (failed e)
    by_line P ok failed memory (inr (inr e)) = subst P (sym e) memory

    possible_by : (v : Result Verdict TableFault) → EndsVerdict v result → IsOfCheck result
    possible_by (Ok (Sound counts)) ends = by_line IsOfCheck tt (λ e. tt) tt ends
    possible_by (Ok (Unsound mismatch)) ends = by_result result IsOfCheck tt (status.Unsound mismatch) tt ends
    possible_by (Err fault.StoreFault) ends = by_result result IsOfCheck tt status.StoreFault tt ends
    possible_by (Err (fault.Damaged damage)) ends = by_result result IsOfCheck tt (status.Damaged damage) tt ends
    possible_by (Err fault.Unfinished) ends = by_result result IsOfCheck tt status.Unfinished tt ends
    possible_by (Err fault.NoMemory) ends = subst IsOfCheck (sym ends) tt

    faults_by : (v : Result Verdict TableFault) → verdict ≡ v → EndsVerdict v result → FaultRose before after result
    faults_by (Ok (Sound counts)) is ends = by_line (FaultRose before after) tt sunk tt ends
    faults_by (Ok (Unsound mismatch)) is ends = by_result result (FaultRose before after) tt (status.Unsound mismatch) tt ends
    faults_by (Err fault.StoreFault) is ends = by_result result (FaultRose before after) tt status.StoreFault (rose is) ends
    faults_by (Err (fault.Damaged damage)) is ends = by_result result (FaultRose before after) tt (status.Damaged damage) tt ends
    faults_by (Err fault.Unfinished) is ends = by_result result (FaultRose before after) tt status.Unfinished tt ends
    faults_by (Err fault.NoMemory) is ends = subst (FaultRose before after) (sym ends) tt

    -- over files that stand for a map all that is left besides Ok are faults
    found : (m : Files) → Checks m first_generation verdict → FindsSound m before after result
    found m is columns table stand still quiet = by verdict refl is ended.ends
      where
        by : (v : Result Verdict TableFault) → verdict ≡ v → Checks m first_generation v → EndsVerdict v result → IsOrNoMemory status.Ok result
        by (Ok (Sound counts)) e of ends = by_line (IsOrNoMemory status.Ok) refl (λ failed. absurd (quiet (sunk failed))) tt ends
        by (Ok (Unsound mismatch)) e none ends = absurd (none columns table stand)
        by (Err fault.StoreFault) e of ends = absurd (still (rose e))
        by (Err (fault.Damaged damage)) e none ends = absurd (none columns table stand)
        by (Err fault.Unfinished) e none ends = absurd (none (columns, stand.schema))
        by (Err fault.NoMemory) e of ends = subst (IsOrNoMemory status.Ok) (sym ends) tt

    pub check_ends : CheckEnds before after result
    check_ends = record {
      possible = possible_by verdict ended.ends;
      faults = faults_by verdict refl ended.ends;
      verdict = (verdict, all, ended);
      complete = if_so files _ _ found all;
      source = (refl, refl);
      files = same;
    }
