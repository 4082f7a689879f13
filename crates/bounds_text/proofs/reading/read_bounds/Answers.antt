use Rattle.std.proofs.Common.{◌≡◌, ◌==◌, ◌∷◌, [], List, ℕ, length, true, false, refl, ◌∙◌, ap, arith}
use Rattle.std.proofs.lemmas.Bool.Decides.{nat_tests}
use Rattle.std.proofs.lemmas.Result.{err_from_is_err_and}
use Rattle.grammar.specs.Reading.{without_spaces}
use Rattle.key_types.specs.Columns.{columns_of}
use Rattle.bounds_text.proofs.Standing.{start, step, finish, ends_utf8, none_found, none_added}
use Rattle.bounds_text.proofs.reading.read_bounds.Goals as goal

none_left : (l : List ℕ) → true ≡ (length l == 0) → l ≡ []
none_left [] e = refl
none_left (b ∷ bs) e = absurd (grind (arith, nat_tests))

some_left : (l : List ℕ) → false ≡ (length l == 0) → l ≡ [] → ⊥
some_left [] e none = cc
some_left (b ∷ bs) e none = cc

pub bounds-init : goal.bounds-init
bounds-init c =
    let e : c.skip_spaces-rest.result.now ≡ without_spaces c.args.text.now = c.skip_spaces-rest.ensures ∙ ap without_spaces c.as_bytes.ensures.value in
    rw (c.new-bounds.ensures, e) (start (columns_of c.args.schema.now) c.args.text.now)

pub read_bound-requires : goal.read_bound-requires
read_bound-requires c = ends_utf8 (columns_of c.args.schema.now) c.args.text.now c.bounds.bounds c.bounds.rest.now c.bounds.invariant c.utf8.text

pub returns-in_err-bound : goal.returns-in_err-bound
returns-in_err-bound c =
    let e = err_from_is_err_and c.from_residual.result c.from_residual.ensures.1 in
    rw (e.1, e.2) (none_found (columns_of c.args.schema.now) c.args.text.now c.bounds.bounds c.bounds.rest.now c.bounds.invariant c.in_err-bound.field-0.0 (some_left c.bounds.rest.now c.bounds-test.ensures) c.in_err-bound.ensures)

pub returns-in_err-add_bound : goal.returns-in_err-add_bound
returns-in_err-add_bound c =
    let e = err_from_is_err_and c.from_residual-in_err-add_bound.result c.from_residual-in_err-add_bound.ensures.1 in
    let found = c.in_ok-bound.ensures in
    rw (e.1, e.2) (none_added (columns_of c.args.schema.now) c.args.text.now c.bounds.bounds c.bounds.rest.now c.bounds.invariant c.in_ok-bound.bound c.in_ok-bound.after.now c.in_err-add_bound.field-0.0 found.0 found.2 c.in_err-add_bound.ensures)

pub bounds-preserved : goal.bounds-preserved
bounds-preserved c =
    let found = c.in_ok-bound.ensures in
    let added = c.in_ok-add_bound.ensures in
    rw added.0 (step (columns_of c.args.schema.now) c.args.text.now c.bounds.bounds c.bounds.rest.now c.bounds.invariant c.in_ok-bound.bound c.in_ok-bound.after.now found.0 found.1 added.1 added.2)

pub returns : goal.returns
returns c = finish (columns_of c.args.schema.now) c.args.text.now c.bounds.bounds c.bounds.rest.now c.bounds.invariant (none_left c.bounds.rest.now c.bounds-test.ensures)
