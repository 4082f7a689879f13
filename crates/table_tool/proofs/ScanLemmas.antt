-- How `scan` ends, by what was printed of its range.
use Rattle.std.proofs.Common.{◌≡◌, ◌⊎◌, ℕ, List, Option, None, Some, Result, Ok, Err, inl, inr, refl, sym, subst}
use Rattle.std.specs.Prelude.{IfSome, ⊤}
use Rattle.outside.specs.Causes.{Rose}
use Rattle.outside.specs.Files.{Files}
use Rattle.key_types.specs.Columns.{Columns}
use Rattle.key_types.specs.Table.{Table}
use Rattle.scan_tool.specs.declared.error.ScanError.{ScanError}
use Rattle.scan_tool.specs.declared.error.ScanError.TheVariants as scan_error
use Rattle.scan_tool.specs.Laws.{PrintsMap, PrintsOf}
use Rattle.scan_tool.specs.PrintReads.{PrintsWithin}
use Rattle.scan_tool.specs.Printing.{PrintsRange}
use Rattle.scan_tool.proofs.Ranged.{prints_map}
use Rattle.table_tool.specs.declared.status.Status.{Status}
use Rattle.table_tool.specs.declared.status.Status.TheVariants as status
use Rattle.table_tool.specs.First.{first_generation}
use Rattle.table_tool.specs.Outcome.{IsOrNoMemory}
use Rattle.table_tool.specs.Outside.{FaultRose, Outside, outside_of}
use Rattle.table_tool.specs.Scanning.{EndsAs, EndsRange, IsOfScan, NamesRange, ScanEnds, ScansNamed, ScansOfMap}
use Rattle.table_tool.proofs.GetLemmas.{by_result}

of_map : PrintsMap
of_map = prints_map

module _ (from to : Option (List ℕ)) (left : Option (List ℕ)) (source : ℕ) (w w1 w2 : Option (List ℕ)) (sink sink' : ℕ) (files files' : Option Files)
    (store store' reads reads' : ℕ) where
  abbrev before : Outside
  before = outside_of left source w sink files store reads

  abbrev after : Outside
  after = outside_of left source w2 sink' files' store' reads'

  module _ (printed : Result ⊤ ScanError) (result : Status) (range : PrintsRange files first_generation from to w w1 printed) (ended : EndsAs printed w1 before after result)
      (same : files' ≡ files) (rose : printed ≡ Err scan_error.StoreFault → Rose store store') (sunk : printed ≡ Err scan_error.SinkFault → Rose sink sink')
      (within : IfSome files (λ m. PrintsWithin m first_generation from to reads reads')) where
    possible_by : (r : Result ⊤ ScanError) → EndsRange r result → IsOfScan result
    possible_by (Ok x) ends = subst IsOfScan (sym ends) tt
    possible_by (Err scan_error.Usage) ends = by_result result IsOfScan tt status.Usage tt ends
    possible_by (Err scan_error.SinkFault) ends = subst IsOfScan (sym ends) tt
    possible_by (Err scan_error.StoreFault) ends = by_result result IsOfScan tt status.StoreFault tt ends
    possible_by (Err (scan_error.Damaged damage)) ends = by_result result IsOfScan tt (status.Damaged damage) tt ends
    possible_by (Err scan_error.Unfinished) ends = by_result result IsOfScan tt status.Unfinished tt ends
    possible_by (Err scan_error.NoMemory) ends = subst IsOfScan (sym ends) tt

    faults_by : (r : Result ⊤ ScanError) → printed ≡ r → EndsRange r result → FaultRose before after result
    faults_by (Ok x) is ends = subst (FaultRose before after) (sym ends) tt
    faults_by (Err scan_error.Usage) is ends = by_result result (FaultRose before after) tt status.Usage tt ends
    faults_by (Err scan_error.SinkFault) is ends = subst (FaultRose before after) (sym ends) (sunk is)
    faults_by (Err scan_error.StoreFault) is ends = by_result result (FaultRose before after) tt status.StoreFault (rose is) ends
    faults_by (Err (scan_error.Damaged damage)) is ends = by_result result (FaultRose before after) tt (status.Damaged damage) tt ends
    faults_by (Err scan_error.Unfinished) is ends = by_result result (FaultRose before after) tt status.Unfinished tt ends
    faults_by (Err scan_error.NoMemory) is ends = subst (FaultRose before after) (sym ends) tt

    stands_by : (fs : Option Files) → PrintsRange fs first_generation from to w w1 printed → IfSome fs (λ m. ScansOfMap from to m before after result)
    stands_by None of = tt
    stands_by (Some m) of = λ columns table stand. (printed, w1, of_map m first_generation columns table from to w w1 printed stand of, ended)

    named_by : (fs : Option Files) → PrintsRange fs first_generation from to w w1 printed → IfSome fs (λ m. ScansNamed from to m before after result)
    named_by None of = tt
    named_by (Some m) of = λ columns table stand names still quiet.
        by columns table names still quiet printed refl (of_map m first_generation columns table from to w w1 printed stand of) ended.ends
      where
        by : (columns : Columns) (table : Table) → NamesRange columns from to → ¬ (Rose store store') → ¬ (Rose sink sink') → (r : Result ⊤ ScanError) → printed ≡ r
            → PrintsOf columns table from to w w1 r → EndsRange r result → IsOrNoMemory status.Ok result
        by columns table names still quiet (Ok x) e is ends = subst (IsOrNoMemory status.Ok) (sym ends) refl
        by columns table (lower, upper, first, second) still quiet (Err scan_error.Usage) e is ends = absurd (is.0 lower upper first second)
        by columns table names still quiet (Err scan_error.SinkFault) e is ends = absurd (quiet (sunk e))
        by columns table names still quiet (Err scan_error.StoreFault) e is ends = absurd (still (rose e))
        by columns table names still quiet (Err (scan_error.Damaged damage)) e is ends = absurd is
        by columns table names still quiet (Err scan_error.Unfinished) e is ends = absurd is
        by columns table names still quiet (Err scan_error.NoMemory) e is ends = subst (IsOrNoMemory status.Ok) (sym ends) tt

    pub scan_ends : ScanEnds from to before after result
    scan_ends = record {
      possible = possible_by printed ended.ends;
      faults = faults_by printed refl ended.ends;
      printed = (printed, w1, range, ended);
      stand = stands_by files range;
      complete = named_by files range;
      reads = within;
      source = (refl, refl);
      files = same;
    }
