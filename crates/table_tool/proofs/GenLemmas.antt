-- How `gen` ends, by how `load` does over its script.
use Rattle.std.proofs.Common.{◌≡◌, ◌⊎◌, ◌≤◌, ℕ, List, Option, None, Some, Result, Ok, Err, inl, inr, refl, sym, subst, arith}
use Rattle.outside.specs.Causes.{Rose}
use Rattle.outside.specs.Files.{Files}
use Rattle.outside.specs.Told.{WhereTold}
use Rattle.table_tool.specs.declared.request.GeneratedScript.{GeneratedScript}
use Rattle.table_tool.specs.declared.status.Status.{Status}
use Rattle.table_tool.specs.declared.status.Status.TheVariants as status
use Rattle.table_tool.specs.Generating.{GenEnds, IsOfPrint, PrintEnds, WritesGen, script_bytes}
use Rattle.table_tool.specs.Keys.{WritesLine}
use Rattle.table_tool.specs.Loading.{LoadAsked, LoadEnds, StopsLoad, loading}
use Rattle.table_tool.specs.Outcome.{IsOrNoMemory, PrintsText, SaysRefusal}
use Rattle.table_tool.specs.Outside.{FaultRose, Outside, outside_of}
use Rattle.table_tool.proofs.EndLemmas.{either}
use Rattle.table_tool.proofs.LoadLemmas.{Once, line_printed, refusal_said}
use Rattle.table_tool.proofs.Told.{told_so}

-- one of the two ends of a line that was printed
by_line : (result : Status) (P : Status → Type 0) → P status.Ok → (result ≡ status.SinkFault → P status.SinkFault)
    → (result ≡ status.Ok) ⊎ (result ≡ status.SinkFault) → P result
by_line result P ok failed (inl e) = subst P (sym e) ok
by_line result P ok failed (inr e) = subst P (sym e) (failed e)

-- ---- `gen --print`

module _ (script : GeneratedScript) (left : Option (List ℕ)) (source : ℕ) (w w' : Option (List ℕ)) (sink sink' : ℕ) (files : Option Files) (store reads : ℕ) where
  abbrev earlier : Outside
  earlier = outside_of left source w sink files store reads

  abbrev later : Outside
  later = outside_of left source w' sink' files store reads

  pub script_printed : (result : Status) → (result ≡ status.Ok) ⊎ (result ≡ status.SinkFault)
      → WhereTold w w' (PrintsText (script_bytes script) result) → (result ≡ status.SinkFault → Rose sink sink') → PrintEnds script earlier later result
  script_printed result cases told fault = record {
    possible = by_line result IsOfPrint tt (λ e. tt) cases;
    faults = by_line result (FaultRose earlier later) tt fault cases;
    printed = told_so w w' _ _ (λ x y prints. written x y prints cases) told;
    complete = λ still. by_line result (IsOrNoMemory status.Ok) refl (λ e. absurd (still (fault e))) cases;
    source = (refl, refl);
    store = (refl, refl, refl);
  }
    where
      written : (x y : List ℕ) → PrintsText (script_bytes script) result x y → (result ≡ status.Ok) ⊎ (result ≡ status.SinkFault) → WritesLine result (script_bytes script) x y
      written x y prints (inl e) =
          subst (λ (r : Status). WritesLine r (script_bytes script) x y) (sym e) (subst (λ (r : Status). PrintsText (script_bytes script) r x y) e prints)
      written x y prints (inr e) =
          subst (λ (r : Status). WritesLine r (script_bytes script) x y) (sym e) (subst (λ (r : Status). PrintsText (script_bytes script) r x y) e prints)

-- ---- `gen` without it: the source has the script left and never fails, and the sink of the answers tells nothing and never fails

module _ (bytes : List ℕ) (asked : LoadAsked) (left left' : Option (List ℕ)) (source : ℕ) (w w' : Option (List ℕ)) (sink sink' : ℕ) (files files' : Option Files)
    (store store' reads reads' : ℕ) where
  abbrev before : Outside
  before = outside_of left source w sink files store reads

  abbrev after : Outside
  after = outside_of left source w' sink' files' store' reads'

  -- what the call that runs the batches and writes the files answers, the sink's counts aside
  abbrev pub Quiet : Result (List ℕ) Status → Type 0
  Quiet r = Once asked (Some bytes) left' 0 0 None None None sink sink sink' files files' store store' reads reads' r

  abbrev Loads : Status → Type 0
  Loads result = LoadEnds asked (outside_of (Some bytes) 0 None sink files store reads) (outside_of left' 0 None sink' files' store' reads') result

  module _ (result : Status) (ends : Loads result)
      (written : WhereTold w w' (WritesGen asked (loading asked bytes) files files' result sink sink')) where
    faults_by : (s : Status) → FaultRose (outside_of (Some bytes) 0 None sink files store reads) (outside_of left' 0 None sink' files' store' reads') s
        → FaultRose before after s
    faults_by status.Ok f = tt
    faults_by status.Usage f = tt
    faults_by status.Key f = tt
    faults_by (status.BadLine line cause) f = tt
    faults_by (status.Full line) f = tt
    faults_by status.SourceFault f = absurd (omega (arith, f))
    faults_by status.SinkFault f = f
    faults_by status.StoreFault f = f
    faults_by (status.Damaged damage) f = tt
    faults_by status.Unfinished f = tt
    faults_by status.Exists f = tt
    faults_by status.TooLarge f = tt
    faults_by (status.Unsound mismatch) f = tt
    faults_by status.NoMemory f = tt

    gen_ends : GenEnds bytes asked before after result
    gen_ends = record {
      load = (left', ends);
      faults = faults_by result ends.faults;
      written = written;
      source = (refl, refl);
    }

  -- the line of the files
  module _ (line : List ℕ) (once : Quiet (Ok line)) (result : Status) (cases : (result ≡ status.Ok) ⊎ (result ≡ status.SinkFault))
      (told : WhereTold w w' (PrintsText line result)) (rises : sink ≤ sink') (fault : result ≡ status.SinkFault → Rose sink sink') where
    line_written : (x y : List ℕ) → PrintsText line result x y → (result ≡ status.Ok) ⊎ (result ≡ status.SinkFault)
        → WritesGen asked (loading asked bytes) files files' result sink sink' x y
    line_written x y prints (inl e) =
        subst (λ (r : Status). WritesGen asked (loading asked bytes) files files' r sink sink' x y) (sym e)
        (line, once.loads, subst (λ (r : Status). PrintsText line r x y) e prints)
    line_written x y prints (inr e) =
        subst (λ (r : Status). WritesGen asked (loading asked bytes) files files' r sink sink' x y) (sym e)
        (line, once.loads, subst (λ (r : Status). PrintsText line r x y) e prints)

    pub line_ends : GenEnds bytes asked before after result
    line_ends =
        gen_ends result (line_printed asked (Some bytes) left' 0 0 None None None sink sink sink' files files' store store' reads reads' line once result cases tt rises fault)
        (told_so w w' _ _ (λ x y prints. line_written x y prints cases) told)

  -- the line of a refusal
  module _ (s : Status) (once : Quiet (Err s)) (rises : sink ≤ sink') (sunk : s ≡ status.SinkFault → ⊥) (unread : s ≡ status.SourceFault → ⊥) where
    refusal_written : (t : Status) → StopsLoad t → (t ≡ status.SinkFault → ⊥) → (t ≡ status.SourceFault → ⊥) → (x y : List ℕ) → SaysRefusal t sink sink' x y
        → WritesGen asked (loading asked bytes) files files' t sink sink' x y
    refusal_written status.Ok stops sunk unread x y says = absurd stops
    refusal_written status.Usage stops sunk unread x y says = absurd stops
    refusal_written status.Key stops sunk unread x y says = absurd stops
    refusal_written (status.BadLine line cause) stops sunk unread x y says = says
    refusal_written (status.Full line) stops sunk unread x y says = says
    refusal_written status.SourceFault stops sunk unread x y says = absurd (unread refl)
    refusal_written status.SinkFault stops sunk unread x y says = absurd (sunk refl)
    refusal_written status.StoreFault stops sunk unread x y says = says
    refusal_written (status.Damaged damage) stops sunk unread x y says = absurd stops
    refusal_written status.Unfinished stops sunk unread x y says = absurd stops
    refusal_written status.Exists stops sunk unread x y says = says
    refusal_written status.TooLarge stops sunk unread x y says = says
    refusal_written (status.Unsound mismatch) stops sunk unread x y says = absurd stops
    refusal_written status.NoMemory stops sunk unread x y says = says

    pub refusal_ends : (result : Status) → IsOrNoMemory s result → WhereTold w w' (SaysRefusal result sink sink') → GenEnds bytes asked before after result
    refusal_ends result is told =
        gen_ends result (refusal_said asked (Some bytes) left' 0 0 None None None sink sink sink' files files' store store' reads reads' s once rises sunk result is tt)
        (by (either s result is))
      where
        by : (result ≡ s) ⊎ (result ≡ status.NoMemory) → WhereTold w w' (WritesGen asked (loading asked bytes) files files' result sink sink')
        by (inl e) = subst (λ (r : Status). WhereTold w w' (WritesGen asked (loading asked bytes) files files' r sink sink')) (sym e)
            (told_so w w' _ _ (refusal_written s once.stops sunk unread) (subst (λ (r : Status). WhereTold w w' (SaysRefusal r sink sink')) e told))
        by (inr e) = subst (λ (r : Status). WhereTold w w' (WritesGen asked (loading asked bytes) files files' r sink sink')) (sym e)
            (told_so w w' _ _ (λ x y says. says) (subst (λ (r : Status). WhereTold w w' (SaysRefusal r sink sink')) e told))
