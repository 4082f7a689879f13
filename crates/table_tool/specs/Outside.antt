-- What stands outside of a call, before it and after it. This project's own.
use Rattle.std.specs.Prelude.{◌≡◌, ℕ, List, Option}
use Rattle.outside.specs.Causes.{Rose}
use Rattle.outside.specs.Files.{Files}
use Rattle.table_tool.specs.declared.status.Status.{Status}
use Rattle.table_tool.specs.declared.status.Status.TheVariants as status

-- what source, sink and store tell of themselves
pub record Outside : Type 0 where
  -- the bytes that the source has left, where it tells them, and how often it has failed
  pub left : Option (List ℕ)
  pub source_faults : ℕ
  -- what was written to the sink, and how often it has failed
  pub written : Option (List ℕ)
  pub sink_faults : ℕ
  -- the files of the store, how often it has failed, and how often it was read
  pub files : Option Files
  pub store_faults : ℕ
  pub reads : ℕ

abbrev pub outside_of : Option (List ℕ) → ℕ → Option (List ℕ) → ℕ → Option Files → ℕ → ℕ → Outside
outside_of left source_faults written sink_faults files store_faults reads = record {
  left = left;
  source_faults = source_faults;
  written = written;
  sink_faults = sink_faults;
  files = files;
  store_faults = store_faults;
  reads = reads;
}

-- from before a call to after it
module _ (before after : Outside) where
  -- the count of that object's faults rose
  abbrev pub SourceFails : Type 0
  SourceFails = Rose before.source_faults after.source_faults

  abbrev pub SinkFails : Type 0
  SinkFails = Rose before.sink_faults after.sink_faults

  abbrev pub StoreFails : Type 0
  StoreFails = Rose before.store_faults after.store_faults

  -- a fault is answered only where the count of that object's faults rose
  abbrev pub FaultRose : Status → Type 0
  FaultRose status.Ok = Unit {0}
  FaultRose status.Usage = Unit {0}
  FaultRose status.Key = Unit {0}
  FaultRose (status.BadLine line cause) = Unit {0}
  FaultRose (status.Full line) = Unit {0}
  FaultRose status.SourceFault = SourceFails
  FaultRose status.SinkFault = SinkFails
  FaultRose status.StoreFault = StoreFails
  FaultRose (status.Damaged damage) = Unit {0}
  FaultRose status.Unfinished = Unit {0}
  FaultRose status.Exists = Unit {0}
  FaultRose status.TooLarge = Unit {0}
  FaultRose (status.Unsound mismatch) = Unit {0}
  FaultRose status.NoMemory = Unit {0}

  -- nothing was taken of the source
  abbrev pub KeepsSource : Type 0
  KeepsSource = (after.left ≡ before.left) × (after.source_faults ≡ before.source_faults)

  -- the store was asked nothing
  abbrev pub KeepsStore : Type 0
  KeepsStore = (after.files ≡ before.files) × (after.store_faults ≡ before.store_faults) × (after.reads ≡ before.reads)
