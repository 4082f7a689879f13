-- What the readers of the index files answer.
use Rattle.std.specs.Prelude.{◌≡◌, ℕ, ◌-◌, ◌≤◌, ℤ, pos, negsuc, List, ◌++◌, length, take, drop, nat_lt, Option, Result, Ok, Err, IfOk, IfSome, if◌then◌else◌}
use Rattle.outside.specs.declared.store.FileId.{FileId}
use Rattle.outside.specs.declared.store.Part.{Part}
use Rattle.outside.specs.Files.{Files, bytes_of}
use Rattle.key_types.specs.Columns.{Columns}
use Rattle.bti_nodes.specs.declared.damage.Cause.{Cause}
use Rattle.bti_nodes.specs.declared.damage.Damage.{Damage}
use Rattle.bti_nodes.specs.declared.damage.Cause.TheVariants.{BadEntry, BadFooter}
use Rattle.data_file.specs.declared.reading.DataError.{DataError}
use Rattle.data_file.specs.declared.reading.DataError.TheVariants.{StoreFault, Damaged, NoMemory}
use Rattle.index_files.specs.declared.entry.EntryNumbers.{EntryNumbers}
use Rattle.index_files.specs.declared.footer.FooterNumbers.{FooterNumbers}
use Rattle.index_files.specs.declared.place.PartitionPlace.{PartitionPlace}
use Rattle.index_files.specs.declared.place.PartitionPlace.TheVariants.{Entry, Head}
use Rattle.index_files.specs.Entries.{BeginsEntry, NoEntry}
use Rattle.index_files.specs.Footers.{EndsIn, IsFooter, NoFooter}

-- at Ok the file's bytes from a place on are put behind those that were held: as many as asked for, or as there are
abbrev pub Adds : {T E : Type 0} → Option Files → FileId → ℕ → ℕ → List ℕ → Result T E → List ℕ → Type 0
Adds files file at count old result new =
    IfSome files (λ m. IfOk result (λ _. new ≡ old ++ take count (drop at (bytes_of m file))))

-- at Ok so many bytes at most were put behind those that were held
abbrev pub GrowsWithin : {T E : Type 0} → ℕ → List ℕ → Result T E → List ℕ → Type 0
GrowsWithin count old result new = IfOk result (λ _. (more : List ℕ) × (new ≡ old ++ more) × (length more ≤ count))

-- where the number of a partition leads: one from 0 up to its entry, and a negative one to the head at its complement
abbrev pub partition_place : ℤ → PartitionPlace
partition_place (pos at) = Entry at
partition_place (negsuc at) = Head at

-- these are the last bytes, from a position on, of a file with a footer of these numbers, whatever stands before them
abbrev pub EndsInNumbers : Columns → ℕ → List ℕ → FooterNumbers → Type 0
EndsInNumbers columns start tail numbers = (first : List ℕ) × (last : List ℕ) × EndsIn columns start tail first last numbers

-- damage of a file's part at a position
abbrev pub file_damage : Part → ℕ → Cause → Damage
file_damage part position cause = record { part = part; position = position; cause = cause }

-- where damage of the footer is told in a file of that size: where its numbers would stand, or at the start of a file
-- that is too short for a footer
abbrev pub footer_place : ℕ → ℕ
footer_place size = if nat_lt size 28 then 0 else size - 24

-- The footer's numbers, or, where the file has no footer, its damage; a store may fail and memory run out.
abbrev pub ReadsFooter : Columns → Part → List ℕ → Result FooterNumbers DataError → Type 0
ReadsFooter columns part file (Ok numbers) = (first : List ℕ) × (last : List ℕ) × IsFooter columns file first last numbers
ReadsFooter columns part file (Err (Damaged damage)) =
    (damage ≡ file_damage part (footer_place (length file)) BadFooter) × NoFooter columns file
ReadsFooter columns part file (Err StoreFault) = Unit {0}
ReadsFooter columns part file (Err NoMemory) = Unit {0}

-- The numbers of the entry at a position, or, where no entry begins there, damage.
abbrev pub ReadsEntry : Columns → Part → List ℕ → ℕ → Result EntryNumbers DataError → Type 0
ReadsEntry columns part file at (Ok numbers) = (partition : List ℕ) × BeginsEntry columns (drop at file) at partition numbers
ReadsEntry columns part file at (Err (Damaged damage)) =
    (damage ≡ file_damage part at BadEntry) × NoEntry columns (drop at file) at
ReadsEntry columns part file at (Err StoreFault) = Unit {0}
ReadsEntry columns part file at (Err NoMemory) = Unit {0}
