use Rattle.std.proofs.Common.{◌≡◌, IfSome, Err, sym, subst, Result, rules}
use Rattle.std.specs.Prelude.{⊤}
use Rattle.outside.specs.Files.{bytes_of}
use Rattle.bti_reader.specs.Walks.{last_given}
use Rattle.data_walk.specs.declared.refusal.Refusal.{Refusal}
use Rattle.row_check.specs.Blocks.{ChecksBlock}
use Rattle.row_check.proofs.Beside.{checks_block, checks_lacking}
use Rattle.row_check.proofs.paths.check_block.Goals as goal

pub returns-in_err-hit-clause-told : goal.returns-in_err-hit-clause-told
returns-in_err-hit-clause-told g c =
    let files = g.K.Store.files c.args.store.now in
    let walk = c.args.paths.now in
    let given = last_given c.next_path.new.paths.way in
    let is : c.from_residual.result ≡ Err c.in_err-hit.field-0.0 = search rules in
    subst (λ (r : Result ⊤ Refusal). IfSome files (λ m. ChecksBlock (bytes_of m walk.file) c.args.root (last_given walk.way) c.args.before.now c.args.first.now c.args.offset given r)) (sym is)
    (checks_lacking files walk.file c.args.root (last_given walk.way) given c.args.before.now c.args.first.now c.args.offset c.in_err-hit.field-0.0 c.in_err-hit.ensures.told)

pub returns-clause-told : goal.returns-clause-told
returns-clause-told g c =
    let files = g.K.Store.files c.args.store.now in
    let walk = c.args.paths.now in
    checks_block files walk.file c.args.root (last_given walk.way) _ c.args.before.now c.args.first.now c.separator.result.now c.args.offset c.in_ok-hit.hit c.compare_path.result
    c.in_ok-hit.ensures.told c.compare_path.ensures c.separator.ensures
