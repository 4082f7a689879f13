use Rattle.std.proofs.Common.{◌≡◌, ◌≢◌, Err, sym, subst, rules}
use Rattle.std.specs.Prelude.{pos}
use Rattle.outside.specs.declared.store.Part.TheVariants.{Rows}
use Rattle.data_walk.specs.declared.refusal.Refusal.{Refusal}
use Rattle.path_check.specs.Paths.{number_clash}
use Rattle.row_check.specs.Blocks.{ComparesPath}
use Rattle.row_check.proofs.paths.compare_path.Goals as goal

pub returns-then-ne : goal.returns-then-ne
returns-then-ne c =
    let hit = c.args.hit.now in
    let other : hit.path ≢ c.args.path.now = search rules in
    subst (λ (e : Refusal). ComparesPath hit.path hit.node hit.number c.args.path.now c.args.offset (Err e)) (sym c.clash_at.ensures)
    (ComparesPath.other_path other)

pub returns-then-found-wanted : goal.returns-then-found-wanted
returns-then-found-wanted c =
    let hit = c.args.hit.now in
    let same : hit.path ≡ c.args.path.now = search rules in
    let other : hit.number ≢ pos c.args.offset = search rules in
    let told : c.number_clash.result ≡ number_clash Rows hit.node hit.number (pos c.args.offset) = search rules in
    subst (λ (e : Refusal). ComparesPath hit.path hit.node hit.number c.args.path.now c.args.offset (Err e)) (sym told)
    (ComparesPath.other_number same other)

pub returns : goal.returns
returns c =
    let hit = c.args.hit.now in
    let same : hit.path ≡ c.args.path.now = search rules in
    let equal : hit.number ≡ pos c.args.offset = search rules in
    ComparesPath.same same equal
