-- Where the number of a path leads, beside the partition of that path.
use Rattle.std.proofs.Common.{◌≡◌, ℕ, ◌<◌, ◌≤◌, ◌^◌, List, length, Option, None, Some, IfSome, Result, Ok, Err, refl, arith}
use Rattle.std.proofs.lemmas.Int.{ints}
use Rattle.std.specs.Prelude.{ℤ, pos, negsuc, ◌<ℤ◌, ◌≤ℤ◌, ⊤}
use lib.IntN.{nat_abs}
use Rattle.outside.specs.Files.{Files, bytes_of}
use Rattle.outside.specs.declared.store.Part.TheVariants.{Partitions}
use Rattle.key_types.specs.Columns.{Columns}
use Rattle.bti_reader.specs.declared.way.PathHit.{PathHit}
use Rattle.index_files.specs.declared.entry.EntryNumbers.{EntryNumbers}
use Rattle.table_files.specs.Names.{data_id, rows_id}
use Rattle.data_walk.specs.declared.data_walk.PartitionSum.{PartitionSum}
use Rattle.data_walk.specs.declared.refusal.Refusal.{Refusal}
use Rattle.path_check.specs.Paths.{number_clash}
use Rattle.row_check.specs.Entries.{ChecksNumber}
use Rattle.row_check.proofs.Compared.{PartitionFound}
use Rattle.row_check.proofs.Sought.{EntryFound}

-- a negative number, by how far it lies below
pub negative_is : (number : ℤ) → number <ℤ pos 0 → (n : ℕ) × (number ≡ negsuc n)
negative_is (pos n) below = absurd (omega (arith, ints, below))
negative_is (negsuc n) below = (n, refl)

-- another is that of its size
pub plain_is : (number : ℤ) → pos 0 ≤ℤ number → number ≡ pos (nat_abs number)
plain_is (pos n) above = refl
plain_is (negsuc n) above = absurd (omega (arith, ints, above))

module _ (columns : Columns) (generation : ℕ) (hit : PathHit) (key : List ℕ) (sum : PartitionSum) where
  -- what is found where the number leads
  abbrev pub NumberChecked : Option Files → Result ⊤ Refusal → Type 0
  NumberChecked files result = IfSome files (λ m. sum.position ≤ length (bytes_of m (data_id generation))
      → ChecksNumber columns (bytes_of m (data_id generation)) (bytes_of m (rows_id generation)) hit.node hit.number key sum result)

  pub number_single : (files : Option Files) → sum.blocks < 2 → NumberChecked files (Ok tt)
  number_single None few = tt
  number_single (Some m) few = λ within. ChecksNumber.single few

  pub number_negative : (files : Option Files) (n : ℕ) → 2 ≤ sum.blocks → hit.number ≡ negsuc n → NumberChecked files (Err (number_clash Partitions hit.node hit.number (pos 0)))
  number_negative None n many is = tt
  number_negative (Some m) n many is = λ within. ChecksNumber.negative n many is

  pub number_refused : (files : Option Files) (at : ℕ) (e : Refusal) → 2 ≤ sum.blocks → hit.number ≡ pos at → EntryFound columns generation at key sum files (Err e)
      → NumberChecked files (Err e)
  number_refused None at e many is found = tt
  number_refused (Some m) at e many is found = λ within. ChecksNumber.refused at e many is found

  pub number_found : (files : Option Files) (at : ℕ) (numbers : EntryNumbers) (result : Result ⊤ Refusal) → 2 ≤ sum.blocks → hit.number ≡ pos at → at < 2 ^ 63
      → EntryFound columns generation at key sum files (Ok numbers)
      → PartitionFound columns (data_id generation) (rows_id generation) sum.position numbers.root files result → NumberChecked files result
  number_found None at numbers result many is short found checks = tt
  number_found (Some m) at numbers result many is short found checks = λ within. ChecksNumber.found at numbers result many is short found (checks within)
