-- What a walk over Data.db meets, block by block and partition by partition, and where keys don't ascend. This
-- project's own.
use Rattle.std.specs.Prelude.{◌≡◌, ◌≢◌, ◌⊎◌, ℕ, ◌+◌, ◌-◌, ◌≤◌, ◌<◌, Bool, true, false, List, [], ◌∷◌, ◌++◌, length, drop, Option, Some, None, Result, Ok, Err, IfSome, IsSome, OnOk, is_some}
use Rattle.std.specs.declared.cmp.Ordering.TheVariants.{Less}
use Rattle.outside.specs.Files.{Files, bytes_of}
use Rattle.outside.specs.declared.store.FileId.{FileId}
use Rattle.outside.specs.declared.store.Part.TheVariants.{Data}
use Rattle.key_types.specs.Columns.{Columns}
use Rattle.key_types.specs.Table.{string_cmp}
use Rattle.key_decode.specs.Strings.{IsStringOf}
use Rattle.bti_nodes.specs.declared.damage.Cause.TheVariants.{BadHead, BadRow}
use Rattle.data_file.specs.Listing.{FitsStaticType, Row, head_bytes, row_bytes, static_part_bytes}
use Rattle.data_file.specs.Reading.{BeginsEnd, BeginsHead, BeginsRow, NoHead, NoRow, NoStaticPart}
use Rattle.table_files.specs.Blocks.{ends_block}
use Rattle.table_reader.specs.Window.{Continues}
use Rattle.data_walk.specs.declared.data_walk.DataWalk.{DataWalk}
use Rattle.data_walk.specs.declared.data_walk.Met.{Met}
use Rattle.data_walk.specs.declared.data_walk.Met.TheVariants as met
use Rattle.data_walk.specs.declared.data_walk.PartitionSum.{PartitionSum}
use Rattle.data_walk.specs.declared.refusal.Refusal.{Refusal}
use Rattle.data_walk.specs.declared.clash.Clash.TheVariants.{Order}
use Rattle.data_walk.specs.Refusals.{IsFault, clash_at, damaged_at}

-- ---- where a walk stands

-- A place of Data.db, the string of the partition that the walk is in or was in last, and where its head stands; the
-- strings of the partition's last two rows, where the block begins that the walk is in, and how many rows it has passed
-- of the partition. A string that isn't there is empty.
pub record Place : Type 0 where
  pub at : ℕ
  pub key : List ℕ
  pub head : ℕ
  pub before : List ℕ
  pub row : List ℕ
  pub block : ℕ
  pub rows : ℕ

abbrev pub place_of : DataWalk → Place
place_of walk = record {
  at = walk.window.at;
  key = walk.key;
  head = walk.head;
  before = walk.before;
  row = walk.row;
  block = walk.block;
  rows = walk.rows;
}

-- where a walk begins, at a head
abbrev pub place_at : ℕ → Place
place_at position = record {
  at = position;
  key = [];
  head = position;
  before = [];
  row = [];
  block = position;
  rows = 0;
}

-- the head and the block's beginning lie not behind the place, and each row has a byte behind the head
pub record IsPlace (place : Place) : Type 0 where
  pub head : place.head ≤ place.block
  pub block : place.block ≤ place.at
  pub rows : place.head + place.rows ≤ place.at

-- a row that stands at a place behind a row of this string, in a block from `block` on, begins a block; a partition's
-- first row, which has the empty string before it, begins none
abbrev pub begins_block : List ℕ → ℕ → ℕ → Bool
begins_block [] block at = false
begins_block (b ∷ row) block at = ends_block block at

-- behind a row, which is in the same block
abbrev pub behind_row : Place → Row → Place
behind_row place row = record place {
  at = place.at + length (row_bytes row.clustering row.value);
  before = place.row;
  row = row.clustering;
  rows = place.rows + 1;
}

-- behind a row that begins a block
abbrev pub behind_first : Place → Row → Place
behind_first place row = record (behind_row place row) { block = place.at }

-- behind the end of a partition
abbrev pub behind_end : Place → Place
behind_end place = record place { at = place.at + 1 }

-- behind the head of a partition and its static part, before its rows
abbrev pub behind_head : Place → List ℕ → ℕ → Place
behind_head place key size = record place {
  at = place.at + size;
  key = key;
  head = place.at;
  row = [];
  block = place.at;
  rows = 0;
}

-- what is told of the partition that was passed, behind its end
abbrev pub sum_at : Place → ℕ → PartitionSum
sum_at place blocks = record { position = place.head; blocks = blocks; rows = place.rows }

-- a partition has a static value or a row
abbrev pub HasEntry : Bool → ℕ → Type 0
HasEntry has_static rows = (has_static ≡ true) ⊎ (0 < rows)

module _ (columns : Columns) where
  -- ---- one step, whatever the file has behind what is held

  -- a row stands at the place, and its string is above the one before it
  abbrev pub StandsRow : List ℕ → Place → Row → Type 0
  StandsRow file place row =
      BeginsRow columns (drop place.at file) row.clustering row.value × (string_cmp place.row row.clustering ≡ Less)

  -- a row stands there, and its string isn't
  abbrev pub StandsLowRow : List ℕ → Place → Row → Type 0
  StandsLowRow file place row =
      BeginsRow columns (drop place.at file) row.clustering row.value × (string_cmp place.row row.clustering ≡ Less → ⊥)

  -- Why the walk stops at a place behind a head or a row: neither a row nor an end stands there, or a row that isn't
  -- above the one before it. The store may fail and memory run out.
  pub data StopsAtRow (file : List ℕ) (place : Place) : Refusal → Type 0 where
    bad : NoRow columns (drop place.at file) → StopsAtRow file place (damaged_at place.at BadRow)
    order : (row : Row) → StandsLowRow file place row → StopsAtRow file place (clash_at Data place.at Order)
    fault : (e : Refusal) → IsFault e → StopsAtRow file place e

  -- what a step over what stands behind a head or a row meets
  abbrev pub MeetsRow : List ℕ → Place → Place → Result Met Refusal → Type 0
  MeetsRow file place place' (Ok met.Row) = (row : Row) × StandsRow file place row
      × (begins_block place.row place.block place.at ≡ false) × (place' ≡ behind_row place row)
  MeetsRow file place place' (Ok met.Block) = (row : Row) × StandsRow file place row
      × (begins_block place.row place.block place.at ≡ true) × (place' ≡ behind_first place row)
  MeetsRow file place place' (Ok met.End) = BeginsEnd (drop place.at file) × (place' ≡ behind_end place)
  MeetsRow file place place' (Err e) = StopsAtRow file place e

  -- ---- a block

  -- From a place behind a head or a row the walk goes over the rows up to the first one of another block, whose place
  -- from the head on is told, or over the end of the partition, or stops.
  pub data FindsBlock (file : List ℕ) : Place → Place → Result (Option ℕ) Refusal → Type 0 where
    -- a row of the same block
    row : (place place' : Place) (row : Row) (result : Result (Option ℕ) Refusal) → StandsRow file place row
        → begins_block place.row place.block place.at ≡ false → FindsBlock file (behind_row place row) place' result
        → FindsBlock file place place' result
    -- the first row of another block
    block : (place : Place) (row : Row) → StandsRow file place row → begins_block place.row place.block place.at ≡ true
        → FindsBlock file place (behind_first place row) (Ok (Some (place.at - place.head)))
    -- the end of the partition
    ends : (place : Place) → BeginsEnd (drop place.at file) → FindsBlock file place (behind_end place) (Ok None)
    -- neither, or a row that isn't above the one before
    stops : (place place' : Place) (e : Refusal) → StopsAtRow file place e → FindsBlock file place place' (Err e)

  -- From a place in a block on, where so many blocks have begun, the walk goes over all rows of the partition and its
  -- end, and tells how many blocks have begun then, or stops.
  pub data CountsBlocks (file : List ℕ) : ℕ → Place → Place → Result ℕ Refusal → Type 0 where
    -- another block begins
    block : (n offset : ℕ) (place next place' : Place) (result : Result ℕ Refusal)
        → FindsBlock file place next (Ok (Some offset)) → CountsBlocks file (n + 1) next place' result
        → CountsBlocks file n place place' result
    -- the partition ends
    ends : (n : ℕ) (place place' : Place) → FindsBlock file place place' (Ok None)
        → CountsBlocks file n place place' (Ok n)
    -- the walk stops
    stops : (n : ℕ) (place next place' : Place) (e : Refusal) → FindsBlock file place next (Err e)
        → CountsBlocks file n place place' (Err e)

  -- ---- a partition

  -- the head of a partition stands at the place with its static part, and its string is above the one before it
  abbrev pub StandsHead : List ℕ → Place → List ℕ → Option (List ℕ) → Type 0
  StandsHead file place key static_part =
      IsStringOf columns.partition key × FitsStaticType columns.static_value static_part
      × ((rest : List ℕ)
      × (drop place.at file ≡ (head_bytes key ++ static_part_bytes columns.static_value static_part) ++ rest))
      × (string_cmp place.key key ≡ Less)

  -- Why the walk stops at a place between partitions: no head stands there, or one that isn't above the one before it,
  -- or no static part behind it. The store may fail and memory run out.
  pub data StopsAtHead (file : List ℕ) (place : Place) : Refusal → Type 0 where
    bad : drop place.at file ≢ [] → NoHead columns (drop place.at file)
        → StopsAtHead file place (damaged_at place.at BadHead)
    order : (key : List ℕ) → BeginsHead columns (drop place.at file) key → (string_cmp place.key key ≡ Less → ⊥)
        → StopsAtHead file place (clash_at Data place.at Order)
    bad_static_part : (key rest : List ℕ) → IsStringOf columns.partition key → IsSome columns.static_value
        → drop place.at file ≡ head_bytes key ++ rest → string_cmp place.key key ≡ Less → NoStaticPart columns rest
        → StopsAtHead file place (damaged_at (place.at + length (head_bytes key)) BadRow)
    fault : (e : Refusal) → IsFault e → StopsAtHead file place e

  -- what the walk meets at a place between partitions: the end of the file, or a head, of which is told whether the
  -- partition has a static value
  abbrev pub Enters : List ℕ → Place → Place → Result (Option Bool) Refusal → Type 0
  Enters file place place' (Ok None) = (drop place.at file ≡ []) × (place'.key ≡ place.key)
  Enters file place place' (Ok (Some has_static)) = (key : List ℕ) × (static_part : Option (List ℕ))
      × StandsHead file place key static_part × (has_static ≡ is_some static_part)
      × (place'
      ≡ record (behind_head place key (length (head_bytes key ++ static_part_bytes columns.static_value static_part)))
      { before = place'.before })
  Enters file place place' (Err e) = StopsAtHead file place e

  -- From a place between partitions the walk goes over the next one, and tells where its head stands and how many
  -- blocks and rows it has; or the file ends there, or the walk stops.
  pub data FindsPartition (file : List ℕ) : Place → Place → Result (Option PartitionSum) Refusal → Type 0 where
    -- the end of the file
    ends : (place place' : Place) → Enters file place place' (Ok None) → FindsPartition file place place' (Ok None)
    -- a partition of a row or a static value
    passes : (place inside place' : Place) (has_static : Bool) (blocks : ℕ)
        → Enters file place inside (Ok (Some has_static)) → CountsBlocks file 1 inside place' (Ok blocks)
        → HasEntry has_static place'.rows
        → FindsPartition file place place' (Ok (Some (sum_at place' blocks)))
    -- a partition of neither
    empty : (place inside place' : Place) (has_static : Bool) (blocks : ℕ)
        → Enters file place inside (Ok (Some has_static)) → CountsBlocks file 1 inside place' (Ok blocks)
        → (HasEntry has_static place'.rows → ⊥)
        → FindsPartition file place place' (Err (clash_at Data place'.head Order))
    -- the walk stops at the head
    stops : (place inside place' : Place) (e : Refusal) → Enters file place inside (Err e)
        → FindsPartition file place place' (Err e)
    -- or behind it
    stops_inside : (place inside last place' : Place) (has_static : Bool) (e : Refusal)
        → Enters file place inside (Ok (Some has_static)) → CountsBlocks file 1 inside last (Err e)
        → FindsPartition file place place' (Err e)

-- ---- in a file of a store

-- A step over what is held of a file: whatever file that is, the step is this, and at Ok what is held then is of it
-- too.
abbrev pub OverAll : {A : Type 0} → (List ℕ → Place → Place → Result A Refusal → Type 0) → DataWalk → DataWalk
    → Result A Refusal → Type 0
OverAll step walk walk' result = (file : List ℕ) → Continues file walk.window
    → step file (place_of walk) (place_of walk') result × OnOk result (Continues file walk'.window)

-- the same of a file that the store tells
abbrev pub OverFile : {A : Type 0} → Option Files → FileId → (List ℕ → Place → Place → Result A Refusal → Type 0)
    → DataWalk → DataWalk → Result A Refusal → Type 0
OverFile files file step walk walk' result = IfSome files (λ m. Continues (bytes_of m file) walk.window
    → step (bytes_of m file) (place_of walk) (place_of walk') result
    × OnOk result (Continues (bytes_of m file) walk'.window))
