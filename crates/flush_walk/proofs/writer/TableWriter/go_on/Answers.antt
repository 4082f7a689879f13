use Rattle.std.proofs.Common.{rules, arith, ap, ℕ, ◌+◌, ◌-◌, ◌∙◌}
use Rattle.data_file.specs.Writing.{Writing}
use Rattle.data_file.specs.declared.writer.Counts.{Counts}
use Rattle.flush_walk.specs.declared.writer.TableWriter.{TableWriter}
use Rattle.flush_walk.specs.Given.{growing_of, opened}
use Rattle.flush_walk.proofs.Moves.{grows_torn, torn_of}
use Rattle.flush_walk.proofs.Steps.{block_torn, end_some, goes_err, next_torn, next_writes, place_few, ready, rows_few, start_few}
use Rattle.flush_walk.proofs.writer.TableWriter.go_on.Goals as goal

pub begin_block-requires-clause-start : goal.begin_block-requires-clause-start
begin_block-requires-clause-start g c =
    let k = c.requires.given in
    start_few c.args.self.now k.0 k.1 c.args.clustering.now c.args.value.now _ k.2 k.3 _ (ap (λ (n : ℕ). n - c.args.self.now.current.position) c.position.ensures)

pub begin_block-requires-clause-block : goal.begin_block-requires-clause-block
begin_block-requires-clause-block g c =
    let k = c.requires.given in
    λ begins.
    ((growing_of (opened k.0 k.1)).rows, (ready c.args.self.now k.0 k.1 c.args.clustering.now c.args.value.now _ k.2 k.3 _ (ap (λ (n : ℕ). n - c.args.self.now.current.position) c.position.ensures) begins).0)

pub begin_block-requires-clause-above : goal.begin_block-requires-clause-above
begin_block-requires-clause-above g c =
    let k = c.requires.given in
    λ begins. (ready c.args.self.now k.0 k.1 c.args.clustering.now c.args.value.now _ k.2 k.3 _ (ap (λ (n : ℕ). n - c.args.self.now.current.position) c.position.ensures) begins).2

pub begin_block-requires-clause-few : goal.begin_block-requires-clause-few
begin_block-requires-clause-few g c =
    let k = c.requires.given in
    let few = (end_some c.args.self.now k.0 k.1 c.args.clustering.now c.args.value.now _ k.2 k.3 _ (ap (λ (n : ℕ). n - c.args.self.now.current.position) c.position.ensures)).1 in
    omega (arith, few)

pub returns-in_err-begin_block-clause-gone : goal.returns-in_err-begin_block-clause-gone
returns-in_err-begin_block-clause-gone g c =
    λ v p h table.
    let is = ap (λ (n : ℕ). n - c.args.self.now.current.position) c.position.ensures in
    let r = ready c.args.self.now v p c.args.clustering.now c.args.value.now _ h table _ is in
    goes_err c.from_residual.result _ _ _ c.from_residual.ensures.0
    (block_torn c.args.self.now v p c.args.clustering.now c.args.value.now _ h table _ is _ c.requires.some
    (torn_of c.begin_block.result _ _ _ (search rules) (c.begin_block.ensures.moved (growing_of (opened v p)) h.grows (λ begins. let x = r begins in (x.0, x.1)))))

pub row-requires-clause-place : goal.row-requires-clause-place
row-requires-clause-place g c = let k = c.requires.given in omega (arith, place_few c.args.self.now (opened k.0 k.1) _ k.2, ap (λ (l : Writing). l.position) c.in_ok-begin_block.ensures.listing)

pub returns-in_err-row-clause-gone : goal.returns-in_err-row-clause-gone
returns-in_err-row-clause-gone g c =
    λ v p h table.
    let is = ap (λ (n : ℕ). n - c.args.self.now.current.position) c.position.ensures in
    let r = ready c.args.self.now v p c.args.clustering.now c.args.value.now _ h table _ is in
    let begun = c.in_ok-begin_block.ensures.moved (growing_of (opened v p)) h.grows (λ begins. let x = r begins in (x.0, x.1)) in
    goes_err c.from_residual-in_err-row.result _ _ _ c.from_residual-in_err-row.ensures.0
    (next_torn c.args.self.now v p c.args.clustering.now c.args.value.now _ h table _ is _ c.requires.some (torn_of c.row.result _ _ _ (search rules) (c.row.ensures.moved _ begun)))

pub returns-in_err-take_row-clause-gone : goal.returns-in_err-take_row-clause-gone
returns-in_err-take_row-clause-gone g c =
    λ v p h table.
    let is = ap (λ (n : ℕ). n - c.args.self.now.current.position) c.position.ensures in
    let r = ready c.args.self.now v p c.args.clustering.now c.args.value.now _ h table _ is in
    let begun = c.in_ok-begin_block.ensures.moved (growing_of (opened v p)) h.grows (λ begins. let x = r begins in (x.0, x.1)) in
    goes_err c.from_residual-in_err-take_row.result _ _ _ c.from_residual-in_err-take_row.ensures.0
    (next_torn c.args.self.now v p c.args.clustering.now c.args.value.now _ h table _ is _ c.requires.some (grows_torn _ _ _ (c.in_ok-row.ensures.moved _ begun)))

pub overflow_add-self : goal.overflow_add-self
overflow_add-self g c = let k = c.requires.given in omega (arith, rows_few c.args.self.now (opened k.0 k.1) _ k.2, ap (λ (x : TableWriter). x.counts.rows) c.in_ok-begin_block.ensures.kept)

pub returns-clause-gone : goal.returns-clause-gone
returns-clause-gone g c =
    λ v p h table.
    let is = ap (λ (n : ℕ). n - c.args.self.now.current.position) c.position.ensures in
    let r = ready c.args.self.now v p c.args.clustering.now c.args.value.now _ h table _ is in
    let begun = c.in_ok-begin_block.ensures.moved (growing_of (opened v p)) h.grows (λ begins. let x = r begins in (x.0, x.1)) in
    let kept = c.in_ok-begin_block.ensures.kept in
    let taken = c.in_ok-take_row.ensures in
    next_writes c.args.self.now v p c.args.clustering.now c.args.value.now _ h table _ is _ _ c.requires.some (c.in_ok-row.ensures.moved _ begun)
    (ap (λ (x : TableWriter). x.generation) kept) (ap (λ (x : TableWriter). x.static_value) kept) (ap (λ (x : TableWriter). x.text) kept)
    (taken ∙ ap (λ (x : TableWriter). record x.current { last = c.args.clustering.now }) kept)
    (ap {B = Counts} (λ (x : TableWriter). record { partitions = x.counts.partitions; rows = x.counts.rows + 1 }) kept)
