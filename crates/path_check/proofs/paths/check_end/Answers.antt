use Rattle.std.proofs.Common.{◌≡◌, List, [], IfSome, Ok, Err, Some, None, refl, sym, subst, Option, Result, rules}
use Rattle.std.specs.Prelude.{⊤}
use Rattle.outside.specs.Files.{bytes_of}
use Rattle.bti_reader.specs.declared.way.PathHit.{PathHit}
use Rattle.bti_reader.specs.Walks.{FindsPath, last_given, next_of}
use Rattle.data_walk.specs.declared.refusal.Refusal.{Refusal}
use Rattle.data_walk.specs.declared.refusal.Refusal.TheVariants.{Unread}
use Rattle.path_check.specs.Paths.{EndsPaths}
use Rattle.path_check.proofs.Next.{ends_paths, exceeds_paths, refuses_end}
use Rattle.path_check.proofs.paths.check_end.Goals as goal

pub returns-in_err-hit-clause-told : goal.returns-in_err-hit-clause-told
returns-in_err-hit-clause-told g c =
    let files = g.K.Store.files c.args.store.now in
    let walk = c.args.paths.now in
    let is : c.from_residual.result ≡ Err (Unread c.in_err-hit.field-0.0) = search rules in
    subst (λ (r : Result ⊤ Refusal). IfSome files (λ m. EndsPaths c.args.part (bytes_of m walk.file) walk.root (last_given walk.way) r)) (sym is)
    (refuses_end c.args.part walk.root walk c.requires.part refl files c.in_err-hit.field-0.0 c.in_err-hit.ensures.found)

pub returns-in-Some-clause-told : goal.returns-in-Some-clause-told
returns-in-Some-clause-told g c =
    let files = g.K.Store.files c.args.store.now in
    let walk = c.args.paths.now in
    let found = subst (λ (o : Option PathHit). FindsPath files walk.file [] (next_of walk) (Ok o)) c.in-Some.is c.in_ok-hit.ensures.found in
    exceeds_paths c.args.part walk.root walk c.requires.part refl files c.in-Some.hit c.clash_at.result found c.clash_at.ensures

pub returns-in-None-clause-told : goal.returns-in-None-clause-told
returns-in-None-clause-told g c =
    let files = g.K.Store.files c.args.store.now in
    let walk = c.args.paths.now in
    let found = subst (λ (o : Option PathHit). FindsPath files walk.file [] (next_of walk) (Ok o)) c.in-None.is c.in_ok-hit.ensures.found in
    ends_paths c.args.part walk.root walk c.requires.part refl files found
