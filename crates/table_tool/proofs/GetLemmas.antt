-- How `get` ends, by what is shown of its text.
use Rattle.std.proofs.Common.{◌≡◌, ◌⊎◌, ℕ, List, Option, Result, Ok, Err, inl, inr, refl, sym, subst, ◌∙◌}
use Rattle.std.specs.Prelude.{IfSome}
use Rattle.outside.specs.Causes.{Rose}
use Rattle.outside.specs.Files.{Files}
use Rattle.get_tool.specs.declared.error.GetError.{GetError}
use Rattle.get_tool.specs.declared.error.GetError.TheVariants as get_error
use Rattle.get_tool.specs.Laws.{ShowsMap, ShowsOf}
use Rattle.get_tool.specs.ShowReads.{ShowsWithin}
use Rattle.get_tool.specs.Shown.{Shows}
use Rattle.get_tool.proofs.Shown.{shows_map}
use Rattle.table_tool.specs.declared.status.Status.{Status}
use Rattle.table_tool.specs.declared.status.Status.TheVariants as status
use Rattle.table_tool.specs.First.{first_generation}
use Rattle.table_tool.specs.Getting.{EndsShown, FindsNamed, GetEnds, IsOfGet, ShowsAs}
use Rattle.table_tool.specs.Outcome.{IsOrNoMemory}
use Rattle.table_tool.specs.Outside.{FaultRose, Outside, outside_of}
use Rattle.table_tool.proofs.EndLemmas.{either}
use Rattle.table_tool.proofs.LoadLemmas.{if_so}

shows : ShowsMap
shows = shows_map

-- a refusal doesn't end as a fault of the sink
pub never : (result s : Status) → (s ≡ status.SinkFault → ⊥) → IsOrNoMemory s result → result ≡ status.SinkFault → ⊥
never result s other is sunk = by (either s result is)
  where
    by : (result ≡ s) ⊎ (result ≡ status.NoMemory) → ⊥
    by (inl e) = other (sym e ∙ sunk)
    by (inr e) = let both = sym e ∙ sunk in cc

-- what holds of a status, and of want of memory, holds of a result that is one of the two
pub by_result : (result : Status) (P : Status → Type 0) → P status.NoMemory → (s : Status) → P s → IsOrNoMemory s result → P result
by_result result P memory s p is = by (either s result is)
  where
    by : (result ≡ s) ⊎ (result ≡ status.NoMemory) → P result
    by (inl e) = subst P (sym e) p
    by (inr e) = subst P (sym e) memory

module _ (left : Option (List ℕ)) (source : ℕ) (w w' : Option (List ℕ)) (sink sink' : ℕ) (files files' : Option Files) (store store' reads reads' : ℕ) where
  abbrev before : Outside
  before = outside_of left source w sink files store reads

  abbrev after : Outside
  after = outside_of left source w' sink' files' store' reads'

  module _ (text : List ℕ) (shown : Result (List ℕ) GetError) (result : Status) (all : IfSome files (λ m. Shows m first_generation text shown))
      (ended : ShowsAs shown before after result) (same : files' ≡ files)
      (rose : shown ≡ Err get_error.StoreFault → Rose store store') (sunk : result ≡ status.SinkFault → Rose sink sink')
      (within : IfSome files (λ m. ShowsWithin m first_generation text reads reads')) where
    -- what a line ends with
    by_line : (P : Status → Type 0) → P status.Ok → (result ≡ status.SinkFault → P status.SinkFault) → (result ≡ status.Ok) ⊎ (result ≡ status.SinkFault) → P result
    by_line P ok failed (inl e) = subst P (sym e) ok
    by_line P ok failed (inr e) = subst P (sym e) (failed e)

    possible_by : (r : Result (List ℕ) GetError) → EndsShown r result → IsOfGet result
    possible_by (Ok line) ends = by_line IsOfGet tt (λ e. tt) ends
    possible_by (Err get_error.Usage) ends = by_result result IsOfGet tt status.Usage tt ends
    possible_by (Err get_error.StoreFault) ends = by_result result IsOfGet tt status.StoreFault tt ends
    possible_by (Err (get_error.Damaged damage)) ends = by_result result IsOfGet tt (status.Damaged damage) tt ends
    possible_by (Err get_error.Unfinished) ends = by_result result IsOfGet tt status.Unfinished tt ends
    possible_by (Err get_error.NoMemory) ends = subst IsOfGet (sym ends) tt

    faults_by : (r : Result (List ℕ) GetError) → shown ≡ r → EndsShown r result → FaultRose before after result
    faults_by (Ok line) is ends = by_line (FaultRose before after) tt sunk ends
    faults_by (Err get_error.Usage) is ends = by_result result (FaultRose before after) tt status.Usage tt ends
    faults_by (Err get_error.StoreFault) is ends = by_result result (FaultRose before after) tt status.StoreFault (rose is) ends
    faults_by (Err (get_error.Damaged damage)) is ends = by_result result (FaultRose before after) tt (status.Damaged damage) tt ends
    faults_by (Err get_error.Unfinished) is ends = by_result result (FaultRose before after) tt status.Unfinished tt ends
    faults_by (Err get_error.NoMemory) is ends = subst (FaultRose before after) (sym ends) tt

    -- over files that stand for a map and a text that names a key, all that is left besides Ok are faults
    named : (m : Files) → Shows m first_generation text shown → FindsNamed text m before after result
    named m is columns table asked stand names still quiet = by shown refl (shows m first_generation columns table text shown stand is) ended.ends
      where
        by : (r : Result (List ℕ) GetError) → shown ≡ r → ShowsOf columns table text r → EndsShown r result → IsOrNoMemory status.Ok result
        by (Ok line) e of ends = by_line (IsOrNoMemory status.Ok) refl (λ failed. absurd (quiet (sunk failed))) ends
        by (Err get_error.Usage) e none ends = absurd (none asked names)
        by (Err get_error.StoreFault) e of ends = absurd (still (rose e))
        by (Err (get_error.Damaged damage)) e of ends = absurd of
        by (Err get_error.Unfinished) e of ends = absurd of
        by (Err get_error.NoMemory) e of ends = subst (IsOrNoMemory status.Ok) (sym ends) tt

    pub get_ends : GetEnds text before after result
    get_ends = record {
      possible = possible_by shown ended.ends;
      faults = faults_by shown refl ended.ends;
      shown = (shown, all, ended);
      stand = if_so files _ _ (λ m is columns table stand. (shown, shows m first_generation columns table text shown stand is, ended)) all;
      complete = if_so files _ _ named all;
      reads = within;
      source = (refl, refl);
      files = same;
    }
