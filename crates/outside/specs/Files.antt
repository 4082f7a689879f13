-- What the calls of a store do to the files, where they are told.
use Rattle.std.specs.Prelude.{◌≡◌, ◌≢◌, ◌⊎◌, ℕ, ◌<◌, ◌≤◌, ◌^◌, ◌++◌, List, [], length, take, drop, min, Option, None, Some, Result, MatchResult, IfOk, IfSome, refl, unwrap_or, if◌then◌else◌, ◌==◌}
use Rattle.std.specs.Coded.{Coded, code_by, coded_ℕ, coded×}
use Rattle.std.specs.declared.cmp.Ordering.{Ordering}
use Rattle.std.specs.Ordering.{nat_cmp, ordering_then}
use Rattle.std.specs.Cmp.{IsTotalOrder, nat_cmp_total, on_total, then_total}
use Rattle.std.specs.FinMap as map
use Rattle.std.specs.BTreeMap.{BTreeMap}
use Rattle.outside.specs.Told.{WhereTold}
use Rattle.outside.specs.declared.store.FileId.{FileId}
use Rattle.outside.specs.declared.store.Part.{Part}
use Rattle.outside.specs.declared.store.Part.TheVariants.{Data, Partitions, Rows, Schema}

-- the place of a part
abbrev pub place_of : Part → ℕ
place_of Data = 0
place_of Partitions = 1
place_of Rows = 2
place_of Schema = 3

-- by the generation, and then by the part
abbrev pub file_cmp : FileId → FileId → Ordering
file_cmp a b = ordering_then (nat_cmp a.generation b.generation) (nat_cmp (place_of a.part) (place_of b.part))

pub file_cmp_total : IsTotalOrder file_cmp
file_cmp_total = then_total (on_total (λ (f : FileId). f.generation) nat_cmp_total) (on_total (λ (f : FileId). place_of f.part) nat_cmp_total)

-- the part at a place, and how proofs store the name of a file
abbrev pub part_at : ℕ → Part
part_at n = if n == 0 then Data else (if n == 1 then Partitions else (if n == 2 then Rows else Schema))

pub part_at-place_of : (part : Part) → part_at (place_of part) ≡ part
part_at-place_of Data = refl
part_at-place_of Partitions = refl
part_at-place_of Rows = refl
part_at-place_of Schema = refl

abbrev pub file_code : Coded FileId
file_code =
    code_by (ℕ × ℕ) (coded× coded_ℕ coded_ℕ) (λ f. (f.generation, place_of f.part)) (λ p. record { generation = p.0; part = part_at p.1 })
    (λ f i. record { generation = f.generation; part = part_at-place_of f.part i })

-- the files of a store
abbrev pub Files : Type 0
Files = map.FinMap file_cmp (List ℕ)

-- the files that stand in a map of the code, file by file
abbrev pub files_of : BTreeMap FileId (List ℕ) → Files
files_of m = map.from_entries m.entries

-- a file that isn't there reads as empty
abbrev pub bytes_of : Files → FileId → List ℕ
bytes_of files file = unwrap_or (map.get files file) []

-- a failed append left a prefix of the piece, and where it left nothing, perhaps no file
abbrev pub LeavesPrefix : Files → Files → FileId → List ℕ → Type 0
LeavesPrefix old new file piece =
    (new ≡ old) ⊎ ((k : ℕ) × (k ≤ length piece) × (new ≡ map.insert old file (bytes_of old file ++ take k piece)))

-- an append that keeps these bytes left them behind the file's, or nothing where memory ran out; where there are none
-- it makes no file
abbrev pub KeepsFront : Files → Files → FileId → List ℕ → Type 0
KeepsFront old new file front = (new ≡ old) ⊎ ((0 < length front) × (new ≡ map.insert old file (bytes_of old file ++ front)))

-- At Ok the whole piece stands behind the file's bytes, and the file is short enough. A failed append left a prefix of it.
abbrev pub Appends : {T E : Type 0} → Option Files → Option Files → FileId → Result T E → List ℕ → Type 0
Appends old new file result piece =
    WhereTold old new (λ xs ys. MatchResult result
    (λ _. (ys ≡ map.insert xs file (bytes_of xs file ++ piece)) × (length (bytes_of xs file ++ piece) < 2 ^ 62))
    (λ _. LeavesPrefix xs ys file piece))

-- At Ok n the front of into has the n bytes that the file has from at, as many as there are and fit.
abbrev pub ReadsBytes : {E : Type 0} → Option Files → FileId → ℕ → Result ℕ E → List ℕ → Type 0
ReadsBytes files file at result into =
    IfSome files (λ m. IfOk result (λ n. (n ≡ min (length into) (length (drop at (bytes_of m file)))) × (take n into ≡ take n (drop at (bytes_of m file)))
    × (length (bytes_of m file) < 2 ^ 62)))

-- None exactly where the file isn't there, and otherwise its length
abbrev pub SizeIs : Option (List ℕ) → Option ℕ → Type 0
SizeIs file None = file ≡ None
SizeIs file (Some n) = IfSome file (λ bytes. n ≡ length bytes) × (file ≢ None) × (n < 2 ^ 62)

-- At Ok it is the file's size. Every store, told or not, answers fewer than 2^62 bytes.
abbrev pub Sizes : {E : Type 0} → Option Files → FileId → Result (Option ℕ) E → Type 0
Sizes files file result = IfSome files (λ m. IfOk result (SizeIs (map.get m file))) × IfOk result (λ size. IfSome size (λ n. n < 2 ^ 62))
