use Rattle.std.proofs.Common.{◌≡◌, IfSome, Result, Err, sym, subst, rules}
use Rattle.std.specs.Prelude.{⊤}
use Rattle.outside.specs.Files.{bytes_of}
use Rattle.bti_reader.specs.Walks.{last_given}
use Rattle.data_walk.specs.declared.refusal.Refusal.{Refusal}
use Rattle.partition_check.specs.Partitions.{ChecksPath}
use Rattle.partition_check.proofs.Beside.{checks_there, lacks_there, no_fault}
use Rattle.partition_check.proofs.partitions.check_path.Goals as goal

pub returns-in_err-hit-clause-told : goal.returns-in_err-hit-clause-told
returns-in_err-hit-clause-told g c =
    let files = g.K.Store.files c.args.store.now in
    let paths = c.args.paths.now in
    let given = last_given c.next_path.new.paths.way in
    let e : Refusal = c.in_err-hit.field-0.0 in
    let is : c.from_residual.result ≡ Err e = search rules in
    subst (λ (r : Result ⊤ Refusal). IfSome files (λ m. ChecksPath (bytes_of m paths.file) c.args.root (last_given paths.way) c.args.path.now c.args.sum given r)) (sym is)
    (lacks_there files paths.file c.args.root (last_given paths.way) given c.args.path.now c.args.sum e c.in_err-hit.ensures.told)

pub returns-clause-told : goal.returns-clause-told
returns-clause-told g c =
    let files = g.K.Store.files c.args.store.now in
    let paths = c.args.paths.now in
    checks_there files paths.file c.args.root (last_given paths.way) (last_given c.next_path.new.paths.way) c.args.path.now c.args.sum c.in_ok-hit.hit c.compare_path.result c.in_ok-hit.ensures.told
    c.compare_path.ensures

pub returns-clause-fault : goal.returns-clause-fault
returns-clause-fault g c = λ is.
    let hit = c.in_ok-hit.hit in
    absurd (no_fault hit.path hit.node hit.number c.args.path.now c.args.sum c.compare_path.result c.compare_path.ensures is)
