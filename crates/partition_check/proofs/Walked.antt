-- Steps of the check of Data.db.
use Rattle.std.proofs.Common.{◌≡◌, ◌∙◌, ℕ, List, [], ◌∷◌, ◌++◌, length, drop, Option, None, Some, IfSome, Result, Ok, Err, refl, sym, ap, subst, arith}
use Rattle.std.specs.Prelude.{◌<◌}
use Rattle.outside.specs.Files.{Files, bytes_of}
use Rattle.outside.specs.declared.store.FileId.{FileId}
use Rattle.key_types.specs.Columns.{Columns}
use Rattle.table_reader.specs.Scans.{unread_at}
use Rattle.table_reader.specs.Window.{Continues, Unread}
use Rattle.data_walk.specs.declared.data_walk.DataWalk.{DataWalk}
use Rattle.data_walk.specs.declared.data_walk.PartitionSum.{PartitionSum}
use Rattle.data_walk.specs.declared.refusal.Refusal.{Refusal}
use Rattle.data_walk.specs.DataWalk.{FindsPartition, OverFile, Place, place_at, place_of}
use Rattle.data_walk.specs.Refusals.{IsFault}
use Rattle.partition_check.specs.declared.data.Found.{Found}
use Rattle.partition_check.specs.Data.{FindsData, FindsOn, first_with, found_with, nothing_found}

-- ---- the first string

pub kept_first : (first key : List ℕ) → 0 < length first → first ≡ first_with first key
kept_first [] key some = absurd (omega (arith, some))
kept_first (b ∷ first) key some = refl

pub put_first : (first key : List ℕ) → (0 < length first → ⊥) → first ++ key ≡ first_with first key
put_first [] key none = refl
put_first (b ∷ first) key none = absurd (none (omega arith))

-- ---- the beginning

-- what is held of a file of which nothing was read is of it
pub continues_there : (file : List ℕ) (at n : ℕ) (window : Unread) → window ≡ unread_at at n → n ≡ length file → Continues file window
continues_there file at n window is size =
    subst (Continues file) (sym is) (record { rest = drop at file; is = refl; ended = λ e. cc; long = sym size })

module _ (columns : Columns) (file : FileId) where
  -- Where so much was found the walk stands so: what is found from there on is found of the whole file.
  abbrev pub Came : Option Files → Found → DataWalk → Type 0
  Came files found walk = IfSome files (λ m. Continues (bytes_of m file) walk.window × ((result : Result Found Refusal)
      → FindsOn columns (bytes_of m file) found (place_of walk) result → FindsData columns (bytes_of m file) result))

  -- what is found of a told file
  abbrev pub Finds : Option Files → Result Found Refusal → Type 0
  Finds files result = IfSome files (λ m. FindsData columns (bytes_of m file) result)

  pub came_start : (files : Option Files) (walk : DataWalk) (first : List ℕ) (n : ℕ) → IfSome files (λ m. n ≡ length (bytes_of m file)) → walk.window ≡ unread_at 0 n → place_of walk ≡ place_at 0
      → first ≡ [] → Came files (record { first = first; last = walk.key; counts = record { partitions = 0; rows = 0 } }) walk
  came_start None walk first n size window place none = tt
  came_start (Some m) walk first n size window place none =
      let key : walk.key ≡ [] = ap (λ (p : Place). p.key) place in
      let found : record { first = first; last = walk.key; counts = record { partitions = 0; rows = 0 } } ≡ nothing_found = λ i. record { first = none i; last = key i; counts = record { partitions = 0; rows = 0 } } in (
        continues_there (bytes_of m file) 0 n walk.window window size,
        λ result f. subst (λ (p : Place). FindsOn columns (bytes_of m file) nothing_found p result) place (subst (λ (all : Found). FindsOn columns (bytes_of m file) all (place_of walk) result) found f),
      )

  pub came_on : (files : Option Files) (found : Found) (walk walk' : DataWalk) (sum : PartitionSum) (first : List ℕ) → OverFile files file (FindsPartition columns) walk walk' (Ok (Some sum))
      → first ≡ first_with found.first walk'.key → Came files found walk → Came files (record (found_with found walk'.key sum) { first = first }) walk'
  came_on None found walk walk' sum first step kept came = tt
  came_on (Some m) found walk walk' sum first step kept came =
      let told = step came.0 in (
        told.1,
        λ result f. came.1 result (FindsOn.partition found (place_of walk) (place_of walk') sum result told.0
            (subst (λ (k : List ℕ). FindsOn columns (bytes_of m file) (record (found_with found walk'.key sum) { first = k }) (place_of walk') result) kept f)),
      )

  same_key : (bytes : List ℕ) (place place' : Place) → FindsPartition columns bytes place place' (Ok None) → place'.key ≡ place.key
  same_key bytes _ _ (FindsPartition.ends place place' enters) = enters.1

  pub came_end : (files : Option Files) (found : Found) (walk walk' : DataWalk) → OverFile files file (FindsPartition columns) walk walk' (Ok None) → found.last ≡ walk.key → Came files found walk
      → Finds files (Ok (record { first = found.first; last = walk'.key; counts = found.counts }))
  came_end None found walk walk' step last came = tt
  came_end (Some m) found walk walk' step last came =
      let told = step came.0 in
      let same : found.last ≡ walk'.key = last ∙ sym (same_key (bytes_of m file) (place_of walk) (place_of walk') told.0) in
      subst (λ (k : List ℕ). FindsData columns (bytes_of m file) (Ok (record { first = found.first; last = k; counts = found.counts }))) same
      (came.1 (Ok found) (FindsOn.ends found (place_of walk) (place_of walk') told.0))

  pub came_stop : (files : Option Files) (found : Found) (walk walk' : DataWalk) (e : Refusal) → OverFile files file (FindsPartition columns) walk walk' (Err e) → Came files found walk → Finds files (Err e)
  came_stop None found walk walk' e step came = tt
  came_stop (Some m) found walk walk' e step came = came.1 (Err e) (FindsOn.stops found (place_of walk) (place_of walk') e (step came.0).0)

  pub came_fault : (files : Option Files) (found : Found) (walk : DataWalk) (e : Refusal) → IsFault e → Came files found walk → Finds files (Err e)
  came_fault None found walk e fault came = tt
  came_fault (Some m) found walk e fault came = came.1 (Err e) (FindsOn.fault found (place_of walk) e fault)

  pub failed : (files : Option Files) (e : Refusal) → IsFault e → Finds files (Err e)
  failed None e fault = tt
  failed (Some m) e fault = FindsOn.fault nothing_found (place_at 0) e fault
