use Rattle.std.proofs.Common.{◌≡◌, List, [], IfSome, Ok, Err, Some, None, sym, subst, Option, Result, rules}
use Rattle.outside.specs.Files.{bytes_of}
use Rattle.bti_reader.specs.declared.way.PathHit.{PathHit}
use Rattle.bti_reader.specs.Walks.{FindsPath, last_given, next_of}
use Rattle.data_walk.specs.declared.refusal.Refusal.{Refusal}
use Rattle.data_walk.specs.declared.refusal.Refusal.TheVariants.{Unread}
use Rattle.path_check.specs.Paths.{GivesPath}
use Rattle.path_check.proofs.Next.{gives_path, misses_path, refuses_path}
use Rattle.path_check.proofs.paths.next_path.Goals as goal

pub returns-in_err-hit-clause-told : goal.returns-in_err-hit-clause-told
returns-in_err-hit-clause-told g c =
    let files = g.K.Store.files c.args.store.now in
    let walk = c.args.paths.now in
    let is : c.from_residual.result ≡ Err (Unread c.in_err-hit.field-0.0) = search rules in
    subst (λ (r : Result PathHit Refusal). IfSome files (λ m. GivesPath c.args.part (bytes_of m walk.file) c.args.root (last_given walk.way) (last_given c.next.new.self.way) r)) (sym is)
    (refuses_path c.args.part c.args.root walk c.requires.part c.requires.root files c.in_err-hit.field-0.0 c.in_err-hit.ensures.found)

pub returns-in-Some-clause-told : goal.returns-in-Some-clause-told
returns-in-Some-clause-told g c =
    let files = g.K.Store.files c.args.store.now in
    let walk = c.args.paths.now in
    let found = subst (λ (o : Option PathHit). FindsPath files walk.file [] (next_of walk) (Ok o)) c.in-Some.is c.in_ok-hit.ensures.found in
    gives_path c.args.part c.args.root walk c.requires.part c.requires.root files (last_given c.next.new.self.way) c.in-Some.hit found (search rules)

pub returns-in-None-clause-told : goal.returns-in-None-clause-told
returns-in-None-clause-told g c =
    let files = g.K.Store.files c.args.store.now in
    let walk = c.args.paths.now in
    let found = subst (λ (o : Option PathHit). FindsPath files walk.file [] (next_of walk) (Ok o)) c.in-None.is c.in_ok-hit.ensures.found in
    misses_path c.args.part c.args.root walk c.requires.part c.requires.root files c.clash_at.result found c.clash_at.ensures
