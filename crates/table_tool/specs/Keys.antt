-- How `key` ends. This project's own.
use Rattle.std.specs.Prelude.{◌≡◌, ℕ, List, ◌++◌}
use Rattle.outside.specs.Told.{WhereTold}
use Rattle.key_types.specs.Kinds.{Kinds}
use Rattle.key_tool.specs.declared.request.KeyWay.{KeyWay}
use Rattle.key_tool.specs.Shown.{ShowsLine}
use Rattle.table_tool.specs.declared.status.Status.{Status}
use Rattle.table_tool.specs.declared.status.Status.TheVariants as status
use Rattle.table_tool.specs.Outcome.{AppendsPrefix, IsOrNoMemory, WritesRefusal}
use Rattle.table_tool.specs.Outside.{FaultRose, KeepsSource, KeepsStore, Outside, SinkFails}

-- nothing is shown of the text
abbrev pub HasNoLine : Kinds → KeyWay → List ℕ → Type 0
HasNoLine kinds way text = (line : List ℕ) → ShowsLine way kinds text line → ⊥

-- the statuses that `key` may end with
abbrev pub IsOfKey : Status → Type 0
IsOfKey status.Ok = Unit {0}
IsOfKey status.Usage = ⊥
IsOfKey status.Key = Unit {0}
IsOfKey (status.BadLine line cause) = ⊥
IsOfKey (status.Full line) = ⊥
IsOfKey status.SourceFault = ⊥
IsOfKey status.SinkFault = Unit {0}
IsOfKey status.StoreFault = ⊥
IsOfKey (status.Damaged damage) = ⊥
IsOfKey status.Unfinished = ⊥
IsOfKey status.Exists = ⊥
IsOfKey status.TooLarge = ⊥
IsOfKey (status.Unsound mismatch) = ⊥
IsOfKey status.NoMemory = Unit {0}

-- what is written where this line is shown of the text: it at Ok, a prefix of it where the sink failed, and nothing without memory
abbrev pub WritesLine : Status → List ℕ → List ℕ → List ℕ → Type 0
WritesLine status.Ok line before after = after ≡ before ++ line
WritesLine status.SinkFault line before after = AppendsPrefix line before after
WritesLine status.NoMemory line before after = after ≡ before
WritesLine result line before after = ⊥

-- How `key` ends, from the types of the components, the way and the text.
pub record KeyEnds (kinds : Kinds) (way : KeyWay) (text : List ℕ) (before after : Outside) (result : Status) : Type 0 where
  -- it ends with no other status, and with a fault only where the count of that object's faults rose
  pub possible : IsOfKey result
  pub faults : FaultRose before after result
  -- Key comes exactly where nothing is shown of the text, want of memory aside
  pub refused_only : result ≡ status.Key → HasNoLine kinds way text
  pub refused : HasNoLine kinds way text → IsOrNoMemory status.Key result
  -- the line that is shown of the text is written
  pub line : (line : List ℕ) → ShowsLine way kinds text line → WhereTold before.written after.written (WritesLine result line)
  -- completeness: where there is one and the sink didn't fail, it is Ok
  pub complete : (line : List ℕ) → ShowsLine way kinds text line → ¬ (SinkFails before after) → IsOrNoMemory status.Ok result
  -- a refusal has written its line and nothing else
  pub refusal : WritesRefusal before after result
  pub source : KeepsSource before after
  pub store : KeepsStore before after
