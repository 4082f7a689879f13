-- The scan of a whole map.
use Rattle.std.proofs.Common.{◌≡◌, ℕ, ◌&&◌, Bool, true, false, List, [], ◌∷◌, refl}
use Rattle.std.specs.Prelude.{T}
use Rattle.std.specs.List.{AllByRecursion}
use Rattle.std.specs.Ordering.{is_lt}
use Rattle.std.specs.declared.cmp.Ordering.{Ordering}
use Rattle.std.specs.declared.cmp.Ordering.TheVariants.{Less, Equal, Greater}
use Rattle.std.specs.FinMap as map
use Rattle.std.specs.FinMap.Entries.{below_all, is_sorted}
use Rattle.key_types.specs.Table.{Entry, string_cmp}
use Rattle.outside.specs.Files.{bytes_of}
use Rattle.table_files.specs.Names.{data_id}
use Rattle.table_files.proofs.WalkLemmas.{stands_walk}
use Rattle.table_reader.specs.Left.{EntriesAscend, WholeScanHasAll}

both_hold : (a b : Bool) → T (a && b) → T a × T b
both_hold true b h = (tt, h)
both_hold false b h = absurd h

is_less : (o : Ordering) → T (is_lt o) → o ≡ Less
is_less Less h = refl
is_less Equal h = absurd h
is_less Greater h = absurd h

all_below : (key : List ℕ) (entries : List Entry) → T (below_all string_cmp key entries) → AllByRecursion (λ (e : Entry). string_cmp key e.0 ≡ Less) entries
all_below key [] below = tt
all_below key (e ∷ entries) below =
    let parts = both_hold (is_lt (string_cmp key e.0)) (below_all string_cmp key entries) below in
    (is_less (string_cmp key e.0) parts.0, all_below key entries parts.1)

pub ascends : (entries : List Entry) → T (is_sorted string_cmp entries) → EntriesAscend entries
ascends [] sorted = tt
ascends (e ∷ entries) sorted =
    let parts = both_hold (below_all string_cmp e.0 entries) (is_sorted string_cmp entries) sorted in
    (all_below e.0 entries parts.0, ascends entries parts.1)

pub whole_scan : WholeScanHasAll
whole_scan files generation columns table to stands bound = record {
  is_open = tt;
  from = tt;
  to = bound;
  entries = map.entries table;
  walk = stands_walk columns (bytes_of files (data_id generation)) (map.entries table) stands.held;
  ascend = ascends (map.entries table) (map.entries_sorted table);
  range = refl;
}
