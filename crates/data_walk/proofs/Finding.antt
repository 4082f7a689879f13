-- What a walk finds of a partition that stands ahead.
use Rattle.std.proofs.Common.{◌≡◌, ◌≢◌, ◌∙◌, ℕ, ◌+◌, ◌-◌, Bool, true, false, List, [], ◌∷◌, ◌++◌, length, drop, map, Option, None, Some, Result, Ok, Err, refl, sym, ap, subst, arith, append_assoc, length-append, inl, inr}
use Rattle.std.specs.Prelude.{◌<◌, IsSome, is_some}
use Rattle.std.specs.declared.cmp.Ordering.TheVariants.{Less}
use Rattle.key_types.specs.Columns.{Columns}
use Rattle.key_types.specs.Table.{string_cmp}
use Rattle.key_types.specs.declared.schema.ValueType.{ValueType}
use Rattle.length_prefix.specs.Counted.{counted}
use Rattle.length_prefix.proofs.Counts.{counted-same}
use Rattle.data_file.specs.Listing.{AreRows, ArePartitions, FitsStaticType, Partition, Row, data_bytes, end_bytes, head_bytes, partition_bytes, rows_bytes, static_part_bytes}
use Rattle.data_file.specs.Reading.{NoStaticPart}
use Rattle.data_file.proofs.Unique.{static_part_front}
use Rattle.table_files.specs.Blocks.{blocks_among, blocks_of, rows_at}
use Rattle.table_files.specs.Standing.{StringsAscend}
use Rattle.table_files.proofs.Strings.{string_some}
use Rattle.data_walk.specs.declared.data_walk.PartitionSum.{PartitionSum}
use Rattle.data_walk.specs.declared.refusal.Refusal.{Refusal}
use Rattle.data_walk.specs.Refusals.{IsFault}
use Rattle.data_walk.specs.Ahead.{AheadIsFound, AllAreFound, EndIsFound, FindsAhead, FindsEnd, HeadsOpen, IsSumOf, ListedAreAhead, OpensPartition, PartitionAhead, PartitionsAhead, RowsAhead, StepsOver, blocks_from, end_of}
use Rattle.data_walk.specs.DataWalk.{CountsBlocks, Enters, FindsPartition, HasEntry, Place, StopsAtHead}
use Rattle.data_walk.proofs.Meeting.{MeetsFirst, meets}
use Rattle.data_walk.proofs.Passing.{behind_it}

-- the empty string is below each string of a partition or a row
above_none : (s : List ℕ) → 0 < length s → string_cmp [] s ≡ Less
above_none [] some = absurd (omega (arith, some))
above_none (b ∷ s) some = refl

from_none : (columns : Columns) (rows : List Row) → AreRows columns rows → StringsAscend (map (λ (r : Row). r.clustering) rows) → StringsAscend ([] ∷ map (λ (r : Row). r.clustering) rows)
from_none columns [] are ascend = tt
from_none columns (row ∷ rows) are ascend = (above_none row.clustering (string_some columns.clustering row.clustering are.0.0), ascend)

module _ (columns : Columns) (file : List ℕ) where
  -- ---- the head

  -- the bytes of a partition, part by part
  abbrev behind_key : Partition → List ℕ → List ℕ
  behind_key p rest = static_part_bytes columns.static_value p.static_part ++ (rows_bytes p.rows ++ 0 ∷ rest)

  parts : (place : Place) (p : Partition) (h : PartitionAhead columns file place p) → drop place.at file ≡ head_bytes p.key ++ behind_key p h.rest
  parts place p h =
      let static : List ℕ = static_part_bytes columns.static_value p.static_part in
      h.stands ∙ append_assoc (head_bytes p.key) (static ++ (rows_bytes p.rows ++ end_bytes)) h.rest
      ∙ ap (λ (x : List ℕ). head_bytes p.key ++ x) (append_assoc static (rows_bytes p.rows ++ end_bytes) h.rest ∙ ap (λ (x : List ℕ). static ++ x) (append_assoc (rows_bytes p.rows) end_bytes h.rest))

  -- the head that stands there is that of the partition
  same_head : (place : Place) (p : Partition) (h : PartitionAhead columns file place p) (key more : List ℕ) → drop place.at file ≡ head_bytes key ++ more
      → (p.key ≡ key) × (behind_key p h.rest ≡ more)
  same_head place p h key more e = counted-same p.key key (behind_key p h.rest) more (sym (parts place p h) ∙ e)

  no_part : (static : Option ValueType) (part : Option (List ℕ)) (behind rest : List ℕ) → columns.static_value ≡ static → IsSome static → FitsStaticType static part
      → static_part_bytes static part ++ behind ≡ rest → NoStaticPart columns rest → ⊥
  no_part None part behind rest is some fits e none = let apart : false ≡ true = some in cc
  no_part (Some type) part behind rest is some fits e none =
      none part (subst (λ (t : Option ValueType). FitsStaticType t part) (sym is) fits, (behind, sym e))

  head_fault : (place : Place) (p : Partition) (e : Refusal) → PartitionAhead columns file place p → StopsAtHead columns file place e → IsFault e
  head_fault place p _ h (StopsAtHead.bad some none) = absurd (none p.key (h.is.0, (behind_key p h.rest, parts place p h)))
  head_fault place p _ h (StopsAtHead.order key (string, (more, e)) low) =
      absurd (low (subst (λ (k : List ℕ). string_cmp place.key k ≡ Less) (same_head place p h key more e).0 h.above))
  head_fault place p _ h (StopsAtHead.bad_static_part key rest string some e above none) =
      absurd (no_part columns.static_value p.static_part (rows_bytes p.rows ++ 0 ∷ h.rest) rest refl some h.is.1 (same_head place p h key rest e).1 none)
  head_fault place p _ h (StopsAtHead.fault e fault) = fault

  -- what is known behind the head
  record Opened (place inside : Place) (p : Partition) (rest : List ℕ) (has_static : Bool) : Type 0 where
    pub ahead : RowsAhead columns file inside p.rows rest
    pub has : has_static ≡ is_some p.static_part
    pub key : inside.key ≡ p.key
    pub head : inside.head ≡ place.at
    pub at : inside.at ≡ place.at + rows_at columns.static_value p
    pub row : inside.row ≡ []
    pub rows : inside.rows ≡ 0

  size_of : (place : Place) (p : Partition) → place.at + rows_at columns.static_value p + length (rows_bytes p.rows ++ end_bytes) ≡ end_of columns place p
  size_of place p =
      let static : List ℕ = static_part_bytes columns.static_value p.static_part in
      omega (arith, length-append (head_bytes p.key) static, length-append (head_bytes p.key) (static ++ (rows_bytes p.rows ++ end_bytes)), length-append static (rows_bytes p.rows ++ end_bytes))

  opened : (place inside : Place) (p : Partition) (has_static : Bool) (h : PartitionAhead columns file place p) → Enters columns file place inside (Ok (Some has_static)) → Opened place inside p h.rest has_static
  opened place inside p has_static h (key, static_part, (string, fits, (more, e), above), has, is) =
      let static = columns.static_value in
      let front : List ℕ = head_bytes key ++ static_part_bytes static static_part in
      let heads = same_head place p h key (static_part_bytes static static_part ++ more) (e ∙ append_assoc (head_bytes key) (static_part_bytes static static_part) more) in
      let part = static_part_front static p.static_part static_part (rows_bytes p.rows ++ 0 ∷ h.rest) more h.is.1 fits heads.1 in
      let size : rows_at static p ≡ length front = λ i. length (head_bytes (heads.0 i) ++ static_part_bytes static (part.0 i)) in
      let at : inside.at ≡ place.at + length front = ap (λ (q : Place). q.at) is in
      let head : inside.head ≡ place.at = ap (λ (q : Place). q.head) is in
      let block : inside.block ≡ place.at = ap (λ (q : Place). q.block) is in
      let rows : inside.rows ≡ 0 = ap (λ (q : Place). q.rows) is in
      let row : inside.row ≡ [] = ap (λ (q : Place). q.row) is in
      record {
        ahead = record {
          is = record { head = omega (arith, head, block); block = omega (arith, at, block); rows = omega (arith, rows) };
          start = λ none. block ∙ sym head;
          are = h.is.2;
          above = subst (λ (k : List ℕ). StringsAscend (k ∷ map (λ (r : Row). r.clustering) p.rows)) (sym row) (from_none columns p.rows h.is.2 h.ascend.1);
          stands = ap (λ (n : ℕ). drop n file) at ∙ behind_it columns file place.at front more e ∙ sym part.1;
        };
        has = has ∙ ap is_some (sym part.0);
        key = ap (λ (q : Place). q.key) is ∙ sym heads.0;
        head = head;
        at = omega (arith, at, size);
        row = row;
        rows = rows;
      }

  -- the blocks behind the head are those of the partition
  all_blocks : (place inside : Place) (p : Partition) (rest : List ℕ) (has_static : Bool) → Opened place inside p rest has_static → blocks_from inside inside.row p.rows ≡ blocks_of columns.static_value p
  all_blocks place inside p rest has_static o =
      let size : inside.at - inside.head ≡ rows_at columns.static_value p = omega (arith, o.at, o.head) in
      ap (λ (k : List ℕ). blocks_from inside k p.rows) o.row ∙ ap (λ (n : ℕ). blocks_among n p.rows) size

  never_empty : (place : Place) (p : Partition) → PartitionAhead columns file place p → drop place.at file ≡ [] → ⊥
  never_empty place p h none = let apart : [] ≡ head_bytes p.key ++ behind_key p h.rest = sym none ∙ parts place p h in cc

  pub opens : (place inside : Place) (p : Partition) (result : Result (Option Bool) Refusal) → PartitionAhead columns file place p → Enters columns file place inside result
      → OpensPartition columns file place inside p result
  opens place inside p (Ok None) h enters = never_empty place p h enters.0
  opens place inside p (Ok (Some has_static)) h enters =
      let o = opened place inside p has_static h enters in
      let ends : end_of columns place p ≡ inside.at + length (rows_bytes p.rows ++ end_bytes) = omega (arith, o.at, size_of place p) in
      (o.key, o.head, record { rows = p.rows; rest = h.rest; ahead = o.ahead; begins = all_blocks place inside p h.rest has_static o; ends = ends })
  opens place inside p (Err e) h enters = head_fault place p e h enters

  -- ---- the blocks, counted

  record CountedAll (place place' : Place) (rows : List Row) (n m : ℕ) : Type 0 where
    pub blocks : m ≡ n + length (blocks_from place place.row rows)
    pub key : place'.key ≡ place.key
    pub head : place'.head ≡ place.head
    pub count : place'.rows ≡ place.rows + length rows
    pub ends : place'.at ≡ place.at + length (rows_bytes rows) + 1

  abbrev Counted : Place → Place → List Row → ℕ → Result ℕ Refusal → Type 0
  Counted place place' rows n (Ok m) = CountedAll place place' rows n m
  Counted place place' rows n (Err e) = IsFault e

  counted_first : (place next place' : Place) (rows : List Row) (rest : List ℕ) (n offset : ℕ) (result : Result ℕ Refusal) (m : MeetsFirst columns file place next rows rest offset)
      → Counted next place' m.left (n + 1) result → Counted place place' rows n result
  counted_first place next place' rows rest n offset (Ok all) m c =
      record {
        blocks = omega (arith, c.blocks, ap length m.begin_);
        key = c.key ∙ m.key;
        head = c.head ∙ m.head;
        count = omega (arith, c.count, m.count);
        ends = omega (arith, c.ends, m.ends);
      }
  counted_first place next place' rows rest n offset (Err e) m c = c

  counts : (n : ℕ) (place place' : Place) (rows : List Row) (rest : List ℕ) (result : Result ℕ Refusal) → RowsAhead columns file place rows rest
      → CountsBlocks columns file n place place' result → Counted place place' rows n result
  counts _ _ _ rows rest _ h (CountsBlocks.block n offset place next place' result found more) =
      let m = meets columns file place next rows rest (Ok (Some offset)) h found in
      counted_first place next place' rows rest n offset result m (counts (n + 1) next place' m.left rest result m.ahead more)
  counts _ _ _ rows rest _ h (CountsBlocks.ends n place place' found) =
      let m = meets columns file place place' rows rest (Ok None) h found in
      record { blocks = omega (arith, ap length m.none); key = m.key; head = m.head; count = m.count; ends = m.ends }
  counts _ _ _ rows rest _ h (CountsBlocks.stops n place next place' e found) = meets columns file place next rows rest (Err e) h found

  -- ---- the partition

  has_entry : (static_part : Option (List ℕ)) (rows : List Row) (has : Bool) (n : ℕ) → (static_part ≡ None → rows ≢ []) → has ≡ is_some static_part → n ≡ length rows → HasEntry has n
  has_entry (Some value) rows has n some is size = inl is
  has_entry None [] has n some is size = absurd (some refl refl)
  has_entry None (row ∷ rows) has n some is size = inr (omega (arith, size))

  found : (place inside place' : Place) (p : Partition) (has_static : Bool) (blocks : ℕ) (h : PartitionAhead columns file place p) → Opened place inside p h.rest has_static
      → CountedAll inside place' p.rows 1 blocks → IsSumOf columns place place' p (record { position = place'.head; blocks = blocks; rows = place'.rows })
  found place inside place' p has_static blocks h o c =
      record {
        position = c.head ∙ o.head;
        blocks = omega (arith, c.blocks, ap length (all_blocks place inside p h.rest has_static o));
        rows = omega (arith, c.count, o.rows);
        key = c.key ∙ o.key;
        at = omega (arith, c.ends, o.at, size_of place p, length-append (rows_bytes p.rows) end_bytes);
      }

  pub finds : (place place' : Place) (p : Partition) (result : Result (Option PartitionSum) Refusal) → PartitionAhead columns file place p → FindsPartition columns file place place' result
      → FindsAhead columns place place' p result
  finds _ _ p _ h (FindsPartition.ends place place' enters) = never_empty place p h enters.0
  finds _ _ p _ h (FindsPartition.passes place inside place' has_static blocks enters counted some) =
      let o = opened place inside p has_static h enters in
      found place inside place' p has_static blocks h o (counts 1 inside place' p.rows h.rest (Ok blocks) o.ahead counted)
  finds _ _ p _ h (FindsPartition.empty place inside place' has_static blocks enters counted none) =
      let o = opened place inside p has_static h enters in
      let c = counts 1 inside place' p.rows h.rest (Ok blocks) o.ahead counted in
      absurd (none (has_entry p.static_part p.rows has_static place'.rows h.ascend.0 o.has (omega (arith, c.count, o.rows))))
  finds _ _ p _ h (FindsPartition.stops place inside place' e enters) = head_fault place p e h enters
  finds _ _ p _ h (FindsPartition.stops_inside place inside last place' has_static e enters counted) =
      let o = opened place inside p has_static h enters in
      counts 1 inside last p.rows h.rest (Err e) o.ahead counted

  -- ---- the end of the file

  nothing_there : (place : Place) (front more : List ℕ) (b : ℕ) → drop place.at file ≡ [] → drop place.at file ≡ b ∷ more → ⊥
  nothing_there place front more b none e = let apart : [] ≡ b ∷ more = sym none ∙ e in cc

  end_fault : (place : Place) (e : Refusal) → drop place.at file ≡ [] → StopsAtHead columns file place e → IsFault e
  end_fault place _ none (StopsAtHead.bad some no_head) = absurd (some none)
  end_fault place _ none (StopsAtHead.order key (string, (more, e)) low) = let apart : [] ≡ head_bytes key ++ more = sym none ∙ e in cc
  end_fault place _ none (StopsAtHead.bad_static_part key rest string some e above no_part) = let apart : [] ≡ head_bytes key ++ rest = sym none ∙ e in cc
  end_fault place _ none (StopsAtHead.fault e fault) = fault

  no_entry : (place inside : Place) (has_static : Bool) → drop place.at file ≡ [] → Enters columns file place inside (Ok (Some has_static)) → ⊥
  no_entry place inside has_static none (key, static_part, (string, fits, (more, e), above), has, is) =
      let static : List ℕ = static_part_bytes columns.static_value static_part in
      let apart : [] ≡ head_bytes key ++ (static ++ more) = sym none ∙ e ∙ append_assoc (head_bytes key) static more in cc

  pub finds_end : (place place' : Place) (result : Result (Option PartitionSum) Refusal) → drop place.at file ≡ [] → FindsPartition columns file place place' result → FindsEnd result
  finds_end _ _ _ none (FindsPartition.ends place place' enters) = tt
  finds_end _ _ _ none (FindsPartition.passes place inside place' has_static blocks enters counts some) = no_entry place inside has_static none enters
  finds_end _ _ _ none (FindsPartition.empty place inside place' has_static blocks enters counts none_in) = absurd (no_entry place inside has_static none enters)
  finds_end _ _ _ none (FindsPartition.stops place inside place' e enters) = end_fault place e none enters
  finds_end _ _ _ none (FindsPartition.stops_inside place inside last place' has_static e enters counts) = absurd (no_entry place inside has_static none enters)

pub heads_open : HeadsOpen
heads_open columns file place inside p result h enters = opens columns file place inside p result h enters

pub ahead_is_found : AheadIsFound
ahead_is_found columns file place place' p result h f = finds columns file place place' p result h f

pub end_is_found : EndIsFound
end_is_found columns file place place' result none f = finds_end columns file place place' result none f

-- ---- all partitions

pub listed_are_ahead : ListedAreAhead
listed_are_ahead columns file partitions listed ascend rows = record { are = listed.1; above = keys partitions listed.1 ascend; ascend = rows; stands = listed.0 }
  where
    keys : (ps : List Partition) → ArePartitions columns ps → StringsAscend (map (λ (p : Partition). p.key) ps) → StringsAscend ([] ∷ map (λ (p : Partition). p.key) ps)
    keys [] are ascend = tt
    keys (p ∷ ps) are ascend = (above_none p.key (string_some columns.partition p.key are.0), ascend)

-- the first of the partitions ahead
first_ahead : (columns : Columns) (file : List ℕ) (place : Place) (p : Partition) (ps : List Partition) → PartitionsAhead columns file place (p ∷ ps) → PartitionAhead columns file place p
first_ahead columns file place p ps h =
    record { is = (h.are.0, h.are.1, h.are.2, tt); rest = data_bytes columns.static_value ps; stands = h.stands; above = h.above.0; ascend = (h.ascend.0, h.ascend.1, tt) }

-- the others behind it
others_stand : (columns : Columns) (file : List ℕ) (place place' : Place) (p : Partition) (ps : List Partition) (sum : PartitionSum) → PartitionsAhead columns file place (p ∷ ps)
    → IsSumOf columns place place' p sum → PartitionsAhead columns file place' ps
others_stand columns file place place' p ps sum h is =
    record {
      are = h.are.3;
      above = subst (λ (k : List ℕ). StringsAscend (k ∷ map (λ (q : Partition). q.key) ps)) (sym is.key) h.above.1;
      ascend = h.ascend.2;
      stands = ap (λ (n : ℕ). drop n file) is.at ∙ behind_it columns file place.at (partition_bytes columns.static_value p) (data_bytes columns.static_value ps) h.stands;
    }

pub all_are_found : AllAreFound
all_are_found columns file place place' [] result h f = by result (finds_end columns file place place' result h.stands f)
  where
    by : (r : Result (Option PartitionSum) Refusal) → FindsEnd r → StepsOver columns file place place' r []
    by (Ok None) is = is
    by (Ok (Some sum)) is = is
    by (Err e) is = is
all_are_found columns file place place' (p ∷ ps) result h f = by result (finds columns file place place' p result (first_ahead columns file place p ps h) f)
  where
    by : (r : Result (Option PartitionSum) Refusal) → FindsAhead columns place place' p r → StepsOver columns file place place' r (p ∷ ps)
    by (Ok None) is = is
    by (Ok (Some sum)) is = (is, others_stand columns file place place' p ps sum h is)
    by (Err e) is = is
