-- What a check found in Data.db is what the file lists.
use Rattle.std.proofs.Common.{◌≡◌, ◌∙◌, ℕ, ◌+◌, List, [], ◌∷◌, ◌++◌, length, drop, map, None, Some, Ok, Err, refl, ap, subst, arith}
use Rattle.std.specs.Prelude.{◌<◌}
use Rattle.key_types.specs.Columns.{Columns}
use Rattle.data_file.specs.Listing.{Partition, partition_bytes}
use Rattle.table_files.specs.Standing.{StringsAscend}
use Rattle.table_files.proofs.Strings.{string_some}
use Rattle.data_walk.specs.declared.data_walk.PartitionSum.{PartitionSum}
use Rattle.data_walk.specs.declared.refusal.Refusal.{Refusal}
use Rattle.data_walk.specs.Ahead.{PartitionsAhead}
use Rattle.data_walk.specs.DataWalk.{FindsPartition, Place, place_at}
use Rattle.data_walk.specs.Refusals.{IsFault}
use Rattle.data_walk.proofs.Finding.{all_are_found, listed_are_ahead}
use Rattle.data_walk.proofs.Passing.{passes_partition}
use Rattle.partition_check.specs.declared.data.Found.{Found}
use Rattle.partition_check.specs.Data.{FindsOn, FoundIsListed, HeldIsFound, first_with, found_with, nothing_found}
use Rattle.partition_check.specs.Found.{first_key, last_from, row_count}

-- the strings of partitions
abbrev pub keys : List Partition → List (List ℕ)
keys ps = map (λ (p : Partition). p.key) ps

keys_ascend : (key : List ℕ) (ps : List Partition) → StringsAscend (key ∷ keys ps) → StringsAscend (keys ps)
keys_ascend key [] h = tt
keys_ascend key (p ∷ ps) h = h.1

-- ---- the first string

none_more : (first : List ℕ) → first ≡ first_with first []
none_more [] = refl
none_more (b ∷ first) = refl

kept : (first key more : List ℕ) → 0 < length key → first_with (first_with first key) more ≡ first_with first key
kept [] [] more some = absurd (omega (arith, some))
kept [] (b ∷ key) more some = refl
kept (b ∷ first) key more some = refl

module _ (columns : Columns) (file : List ℕ) where
  -- ---- what is found is listed

  -- partitions that were found from a place to the end of the file, where so much was found before
  record ListsOn (found : Found) (place : Place) (all : Found) : Type 0 where
    pub partitions : List Partition
    pub ahead : PartitionsAhead columns file place partitions
    pub first : all.first ≡ first_with found.first (first_key partitions)
    pub last : all.last ≡ last_from found.last partitions
    pub count : all.counts.partitions ≡ found.counts.partitions + length partitions
    pub rows : all.counts.rows ≡ found.counts.rows + row_count partitions

  ended : (place next : Place) → FindsPartition columns file place next (Ok None) → drop place.at file ≡ []
  ended _ _ (FindsPartition.ends place next enters) = enters.0

  one_more : (found all : Found) (place next : Place) (sum : PartitionSum) → FindsPartition columns file place next (Ok (Some sum))
      → ListsOn (found_with found next.key sum) next all → ListsOn found place all
  one_more found all place next sum step l =
      let p = passes_partition columns file place next sum step in
      let some : 0 < length p.partition.key = string_some columns.partition p.partition.key p.is.0 in
      let key : next.key ≡ p.partition.key = p.key in
      let more : List ℕ = first_key l.partitions in
      record {
        partitions = p.partition ∷ l.partitions;
        ahead = record {
          are = (p.is.0, p.is.1, p.is.2, l.ahead.are);
          above = (p.above, subst (λ (k : List ℕ). StringsAscend (k ∷ keys l.partitions)) key l.ahead.above);
          ascend = (p.ascend.0, p.ascend.1, l.ahead.ascend);
          stands = p.stands ∙ ap (λ (bs : List ℕ). partition_bytes columns.static_value p.partition ++ bs) l.ahead.stands;
        };
        first = l.first ∙ ap (λ (k : List ℕ). first_with (first_with found.first k) more) key ∙ kept found.first p.partition.key more some;
        last = l.last ∙ ap (λ (k : List ℕ). last_from k l.partitions) key;
        count = omega (arith, l.count);
        rows = omega (arith, l.rows, p.rows);
      }

  lists_on : (found all : Found) (place : Place) → FindsOn columns file found place (Ok all) → ListsOn found place all
  lists_on _ all _ (FindsOn.partition found place next sum result step on) = one_more found all place next sum step (lists_on (found_with found next.key sum) all next on)
  lists_on _ _ _ (FindsOn.ends found place next step) =
      record {
        partitions = [];
        ahead = record { are = tt; above = tt; ascend = tt; stands = ended place next step };
        first = none_more found.first;
        last = refl;
        count = omega arith;
        rows = omega arith;
      }

  -- ---- what is listed is found

  refused : (found : Found) (place : Place) (ps : List Partition) (e : Refusal) → PartitionsAhead columns file place ps → FindsOn columns file found place (Err e) → IsFault e
  refused _ _ [] e h (FindsOn.partition found place next sum result step on) = absurd (all_are_found columns file place next [] (Ok (Some sum)) h step)
  refused _ _ (p ∷ ps) e h (FindsOn.partition found place next sum result step on) =
      refused (found_with found next.key sum) next ps e (all_are_found columns file place next (p ∷ ps) (Ok (Some sum)) h step).1 on
  refused _ _ ps _ h (FindsOn.stops found place next e step) = all_are_found columns file place next ps (Err e) h step
  refused _ _ ps _ h (FindsOn.fault found place e fault) = fault

pub found_is_listed : FoundIsListed
found_is_listed columns file found f =
    let l = lists_on columns file nothing_found found (place_at 0) f in
    let partitions : found.counts.partitions ≡ length l.partitions = omega (arith, l.count) in
    let rows : found.counts.rows ≡ row_count l.partitions = omega (arith, l.rows) in (
      l.partitions,
      record {
        listed = (l.ahead.stands, l.ahead.are);
        ascend = keys_ascend [] l.partitions l.ahead.above;
        rows = l.ahead.ascend;
        first = l.first;
        last = l.last;
        counts = λ i. record { partitions = partitions i; rows = rows i };
      },
    )

pub held_is_found : HeldIsFound
held_is_found columns file entries e held f =
    refused columns file nothing_found (place_at 0) held.partitions e (listed_are_ahead columns file held.partitions held.listed held.ascend held.rows) f
