-- The puts and gets of an accepted script may be run in shards between bounds of a text.
use Rattle.std.proofs.Common.{◌≡◌, ℕ, zero, suc, true, ◌+◌, ◌≤◌, List, [], ◌∷◌, length, slice_get, Some, inl, inr, ap, subst, arith}
use Rattle.std.proofs.lemmas.List.{nil_from_length}
use Rattle.std.specs.Prelude.{◌⊎◌}
use Rattle.std.proofs.Common.{length-append}
use Rattle.std.specs.List.{AllByRecursion}
use Rattle.key_types.specs.Columns.{Columns, IsValueOf}
use Rattle.key_types.specs.Kinds.{Kinds}
use Rattle.key_types.specs.declared.schema.ValueType.{ValueType}
use Rattle.key_types.specs.declared.schema.ValueType.TheVariants.{Text, Blob}
use Rattle.key_decode.specs.Strings.{IsStringOf}
use Rattle.script_text.specs.Puts.{Put, Get}
use Rattle.script_text.specs.Laws.{AreDealt, AreGets, ArePuts, IsKeyString, IsSchemaPut, IsRowPut, IsStaticGet, IsStaticPut}
use Rattle.script_run.specs.Runs.{BeginsNoBound, IsRunGet, IsRunPut}
use Rattle.bounds_text.specs.Bounds.{AreBoundLists, IsBoundsText}
use Rattle.flush_walk.proofs.Ascending.{one_string}
use Rattle.flush_walk.proofs.PartsLemmas.{some_string}
use Rattle.flush_walk.specs.Entries.{has_some}
use Rattle.table_tool.proofs.RowLemmas.{key_is_string}

-- a string that has a byte is some bytes long
long : (string : List ℕ) → has_some string ≡ true → 1 ≤ length string
long [] e = cc
long (b ∷ bs) e = omega arith

key_long : (ts : Kinds) (string : List ℕ) → IsKeyString ts string → 1 ≤ length string
key_long ts string key = long string (some_string ts string (key_is_string ts string key))

value_short : (type : ValueType) (value : List ℕ) → IsValueOf type value → length value ≤ 65535
value_short Text value h = h.0
value_short Blob value h = h

-- ---- bounds

module _ (columns : Columns) where
  -- each bound is the string of a partition, where none is too long
  bound_string : (bounds : List (List ℕ)) (text : List ℕ) → AreBoundLists columns.partition bounds text → AllByRecursion (λ (b : List ℕ). length b ≤ 1024) bounds
      → (i : ℕ) (bound : List ℕ) → slice_get bounds i ≡ Some bound → IsStringOf columns.partition bound
  bound_string [] text lists short i bound e = absurd (cc)
  bound_string (b ∷ bounds) text (vs, front, rest, is, fits, string, others, parts) short zero bound e =
      let same : b ≡ bound = cc in
      subst (IsStringOf columns.partition) same (key_is_string columns.partition b (vs, fits, string, short.0))
  bound_string (b ∷ bounds) text (vs, front, rest, is, fits, string, others, parts) short (suc i) bound e =
      bound_string bounds rest others short.1 i bound e

  -- no partition's string is the beginning of a bound but the whole of it
  pub begins_none : (bounds : List (List ℕ)) (text : List ℕ) → IsBoundsText columns text bounds → (string : List ℕ) → IsStringOf columns.partition string → BeginsNoBound bounds string
  begins_none bounds text is string of i bound rest there parts =
      let lists = is.lists in
      let whole = bound_string bounds lists.1 lists.3 is.short i bound there in
      let same : string ≡ bound = one_string columns.partition bound string rest whole of parts in
      nil_from_length rest (omega (arith, ap length same, ap length parts, length-append string rest))

  module _ (bounds : List (List ℕ)) (none : (string : List ℕ) → IsStringOf columns.partition string → BeginsNoBound bounds string) where
    put_short : (put : Put) → IsRowPut columns put ⊎ IsStaticPut columns put → (length put.clustering ≤ 1024) × (length put.value ≤ 65535)
    put_short put (inl (key, value)) = (key.3, value_short columns.value put.value value)
    put_short put (inr (type, static_part, empty, value)) = (omega (arith, ap length empty), value_short type put.value value)

    run_put : (put : Put) → IsSchemaPut columns put → IsRunPut bounds put
    run_put put (key, behind) =
        let rest = put_short put behind in record {
          some = key_long columns.partition put.partition key;
          partition = key.3;
          clustering = rest.0;
          value = rest.1;
          whole = none put.partition (key_is_string columns.partition put.partition key);
        }

    pub run_puts : (puts : List Put) → ArePuts columns puts → AllByRecursion (IsRunPut bounds) puts
    run_puts [] h = tt
    run_puts (put ∷ puts) h = (run_put put h.0, run_puts puts h.1)

  get_short : (get : Get) → IsKeyString columns.clustering get.clustering ⊎ IsStaticGet columns get → length get.clustering ≤ 1024
  get_short get (inl key) = key.3
  get_short get (inr (type, static_part, empty)) = omega (arith, ap length empty)

  pub run_gets : (readers before : ℕ) (gets : List Get) → AreGets columns gets → AreDealt readers before gets → AllByRecursion (IsRunGet readers) gets
  run_gets readers before [] h d = tt
  run_gets readers before (get ∷ gets) h d = (
    record {
      some = key_long columns.partition get.partition h.0.0;
      partition = h.0.0.3;
      clustering = get_short get h.0.1;
      reader = d.1;
    },
    run_gets readers (before + 1) gets h.1 d.2,
  )

-- without bounds
pub no_bound : (string : List ℕ) → BeginsNoBound [] string
no_bound string i bound rest there parts = absurd (cc)
