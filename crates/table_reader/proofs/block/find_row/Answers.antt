use Rattle.std.proofs.Common.{◌≡◌, ◌∙◌, ℕ, ◌+◌, List, length, Option, None, Some, Err, ap, arith, length-append, subst, sym}
use Rattle.std.specs.Option.{MatchOption}
use Rattle.std.specs.FinMap as map
use Rattle.length_prefix.specs.Counted.{counted}
use Rattle.key_types.specs.Columns.{columns_of}
use Rattle.data_file.specs.Listing.{row_bytes}
use Rattle.table_reader.proofs.Rows.{cut_at, meets_above, meets_bad, meets_end, meets_last, meets_row, passed_on, passes_row}
use Rattle.table_reader.proofs.block.find_row.Goals as goal

-- what is found, as the match tells it
end_there : {A : Type 0} (End : Type 0) (Row : A → Type 0) (found : Option A) → MatchOption found End Row → found ≡ None → End
end_there End Row None told is = told
end_there End Row (Some row) told is = cc

row_there : {A : Type 0} (End : Type 0) (Row : A → Type 0) (found : Option A) (row : A) → MatchOption found End Row → found ≡ Some row → Row row
row_there {A = A} End Row found row told is = subst (λ (f : Option A). MatchOption f End Row) is told

row_size : (clustering value : List ℕ) → 5 + length clustering + length value ≡ length (row_bytes clustering value)
row_size clustering value = omega (arith, length-append (counted clustering) (counted value))

pub returns-in-Ok-None-clause-found : goal.returns-in-Ok-None-clause-found
returns-in-Ok-None-clause-found c =
    λ more. c.rows.invariant.behind more _ (meets_end (columns_of c.args.schema.now) c.args.key.now c.args.limit c.rows.place c.rows.rest.now (end_there _ _ c.in-Ok-None.field-0 c.in-Ok-None.ensures.row c.in-Ok-None.field-0-is) more)

pub returns-in-Err-Short-clause-stops : goal.returns-in-Err-Short-clause-stops
returns-in-Err-Short-clause-stops c =
    let short = c.in-Err-Short.ensures.short (ap Err c.in-Err-Short.field-0-is) in
    let way = c.rows.invariant.passed in
    cut_at (columns_of c.args.schema.now) c.args.key.now c.args.limit c.args.at c.args.bytes.now c.rows.place way.0 c.rows.rest.now way.1 way.2 way.3 way.4
    short.0 short.1 c.rows.invariant.behind

pub returns-in-Err-Bad-clause-stops : goal.returns-in-Err-Bad-clause-stops
returns-in-Err-Bad-clause-stops c =
    λ more. c.rows.invariant.behind more _ (meets_bad (columns_of c.args.schema.now) c.args.key.now c.args.limit c.rows.place c.rows.rest.now (c.in-Err-Bad.ensures.bad (ap Err c.in-Err-Bad.field-0-is)) more)

pub returns-in-Equal-clause-found : goal.returns-in-Equal-clause-found
returns-in-Equal-clause-found c =
    let row = c.in-Ok-Some.row in
    λ more. c.rows.invariant.behind more _ (meets_row (columns_of c.args.schema.now) c.args.key.now c.args.limit c.rows.place c.rows.rest.now row.clustering.now row.value.now
    (map.slice_cmp-IsAntisymmetric map.nat_cmp-IsAntisymmetric row.clustering.now c.args.key.now (sym c.compare_bytes.ensures ∙ c.in-Equal.is)) (row_there _ _ c.in-Ok-Some.field-0 row c.in-Ok-Some.ensures.row c.in-Ok-Some.field-0-is) more)

pub returns-in-Greater-clause-found : goal.returns-in-Greater-clause-found
returns-in-Greater-clause-found c =
    let row = c.in-Ok-Some.row in
    λ more. c.rows.invariant.behind more _ (meets_above (columns_of c.args.schema.now) c.args.key.now c.args.limit c.rows.place c.rows.rest.now row.clustering.now row.value.now
    (sym c.compare_bytes.ensures ∙ c.in-Greater.is) (row_there _ _ c.in-Ok-Some.field-0 row c.in-Ok-Some.ensures.row c.in-Ok-Some.field-0-is) more)

pub returns-then-limit-place-clause-found : goal.returns-then-limit-place-clause-found
returns-then-limit-place-clause-found c =
    let row = c.in-Ok-Some.row in
    λ more. c.rows.invariant.behind more _ (meets_last (columns_of c.args.schema.now) c.args.key.now c.args.limit c.rows.place c.rows.rest.now row.clustering.now row.value.now
    (sym c.compare_bytes.ensures ∙ c.in-Less.is) (omega (arith, c.if-limit-place.true, row_size row.clustering.now row.value.now)) (row_there _ _ c.in-Ok-Some.field-0 row c.in-Ok-Some.ensures.row c.in-Ok-Some.field-0-is) more)

pub rows-preserved : goal.rows-preserved
rows-preserved c =
    let row = c.in-Ok-Some.row in
    let size = 5 + length row.clustering.now + length row.value.now in
    record {
      passed = passed_on c.args.at c.args.limit c.rows.place c.args.bytes.now c.rows.rest.now c.split_at.result.0.now c.split_at.result.1.now size c.rows.invariant.passed
          c.split_at.ensures.by_index.0 c.split_at.ensures.front_len (omega (arith, c.if-limit-place.false));
      behind = λ more found f. c.rows.invariant.behind more found
          (passes_row (columns_of c.args.schema.now) c.args.key.now c.args.limit c.rows.place (c.rows.place + size) c.rows.rest.now row.clustering.now row.value.now c.split_at.result.0.now c.split_at.result.1.now more found
          (row_there _ _ c.in-Ok-Some.field-0 row c.in-Ok-Some.ensures.row c.in-Ok-Some.field-0-is) (sym c.compare_bytes.ensures ∙ c.in-Less.is) (omega (arith, row_size row.clustering.now row.value.now)) (omega (arith, c.if-limit-place.false)) c.split_at.ensures.by_index.0
          (c.split_at.ensures.front_len ∙ row_size row.clustering.now row.value.now) f);
    }
