-- The puts and gets of an accepted script may be run on one shard.
use Rattle.std.proofs.Common.{◌⊎◌, ℕ, ◌+◌, ◌≤◌, List, [], ◌∷◌, length, inl, inr, sym, ap, subst, arith, length-append}
use Rattle.std.specs.List.{AllByRecursion}
use Rattle.key_types.specs.Columns.{Columns, IsValueOf, columns_of}
use Rattle.key_types.specs.Kinds.{Kinds}
use Rattle.key_types.specs.declared.schema.ValueType.{ValueType}
use Rattle.key_types.specs.declared.schema.ValueType.TheVariants.{Text, Blob}
use Rattle.byte_comparable.specs.Encoding.{components, terminator}
use Rattle.script_text.specs.Puts.{Batch, Get, Put}
use Rattle.script_text.specs.Laws.{AreDealt, AreGets, ArePuts, IsKeyString, IsRowPut, IsSchemaPut, IsStaticGet, IsStaticPut}
use Rattle.script_text.specs.Script.{gets_of, puts_of}
use Rattle.script_text.proofs.Accepted.{accepted_script}
use Rattle.script_run.specs.Runs.{BeginsNoBound, IsRunGet, IsRunPut}
use Rattle.script_run.proofs.tests.check_run.Goals as goal

key_long : (ts : Kinds) (string : List ℕ) → IsKeyString ts string → 1 ≤ length string
key_long ts string key = omega (arith, ap length key.2, length-append (components ts key.0) (terminator ∷ []))

value_short : (type : ValueType) (value : List ℕ) → IsValueOf type value → length value ≤ 65535
value_short Text value h = h.0
value_short Blob value h = h

no_bound : (string : List ℕ) → BeginsNoBound [] string
no_bound string i bound rest there parts = absurd (cc)

module _ (columns : Columns) where
  put_short : (put : Put) → IsRowPut columns put ⊎ IsStaticPut columns put → (length put.clustering ≤ 1024) × (length put.value ≤ 65535)
  put_short put (inl (key, value)) = (key.3, value_short columns.value put.value value)
  put_short put (inr (type, static_part, empty, value)) = (omega (arith, ap length empty), value_short type put.value value)

  run_put : (put : Put) → IsSchemaPut columns put → IsRunPut [] put
  run_put put (key, behind) =
      let rest = put_short put behind in record {
        some = key_long columns.partition put.partition key;
        partition = key.3;
        clustering = rest.0;
        value = rest.1;
        whole = no_bound put.partition;
      }

  run_puts : (puts : List Put) → ArePuts columns puts → AllByRecursion (IsRunPut []) puts
  run_puts [] h = tt
  run_puts (put ∷ puts) h = (run_put put h.0, run_puts puts h.1)

  get_short : (get : Get) → IsKeyString columns.clustering get.clustering ⊎ IsStaticGet columns get → length get.clustering ≤ 1024
  get_short get (inl key) = key.3
  get_short get (inr (type, static_part, empty)) = omega (arith, ap length empty)

  run_gets : (readers before : ℕ) (gets : List Get) → AreGets columns gets → AreDealt readers before gets → AllByRecursion (IsRunGet readers) gets
  run_gets readers before [] h d = tt
  run_gets readers before (get ∷ gets) h d = (
    record {
      some = key_long columns.partition get.partition h.0.0;
      partition = h.0.0.3;
      clustering = get_short get h.0.1;
      reader = d.1;
    },
    run_gets readers (before + 1) gets h.1 d.2,
  )

pub run_script-ran-requires-clause-puts : goal.run_script-ran-requires-clause-puts
run_script-ran-requires-clause-puts g c κs within =
    let columns = columns_of c.in_ok-schema.schema in
    let accepted = accepted_script columns 2 c.args.text.now c.in_ok-script.script (omega arith) (sym c.in_ok-script.ensures.computed) in
    let batches = c.as_slice-batches.result.now in
    let puts : AllByRecursion (IsRunPut []) (puts_of batches) =
    subst (λ (l : List Batch). AllByRecursion (IsRunPut []) (puts_of l)) (sym c.as_slice-batches.ensures) (run_puts columns (puts_of c.in_ok-script.script.batches) accepted.are) in
    subst (λ (b : List (List ℕ)). AllByRecursion (IsRunPut b) (puts_of batches)) (sym c.new-bounds.ensures) puts

pub run_script-ran-requires-clause-gets : goal.run_script-ran-requires-clause-gets
run_script-ran-requires-clause-gets g c κs within =
    let columns = columns_of c.in_ok-schema.schema in
    let accepted = accepted_script columns 2 c.args.text.now c.in_ok-script.script (omega arith) (sym c.in_ok-script.ensures.computed) in
    subst (λ (l : List Batch). AllByRecursion (IsRunGet 2) (gets_of l)) (sym c.as_slice-batches.ensures)
    (run_gets columns 2 0 (gets_of c.in_ok-script.script.batches) accepted.ask accepted.dealt)

pub fill_shard-requires-clause-puts : goal.fill_shard-requires-clause-puts
fill_shard-requires-clause-puts g c =
    let columns = columns_of c.in_ok-schema.schema in
    let accepted = accepted_script columns 2 c.args.text.now c.in_ok-script.script (omega arith) (sym c.in_ok-script.ensures.computed) in
    subst (λ (l : List Batch). AllByRecursion (IsRunPut []) (puts_of l)) (sym c.as_slice-batches.ensures)
    (run_puts columns (puts_of c.in_ok-script.script.batches) accepted.are)
