use Rattle.std.proofs.Common.{◌≡◌, ◌≢◌, ◌∙◌, ℤ, true, false, Err, sym, subst, rules, w64, to_z, of_z}
use Rattle.outside.specs.declared.store.Part.TheVariants.{Partitions}
use Rattle.data_walk.specs.declared.refusal.Refusal.{Refusal}
use Rattle.path_check.specs.Paths.{number_clash}
use Rattle.partition_check.specs.Partitions.{ComparesPath, FitsNumber, wanted_number}
use Rattle.partition_check.proofs.partitions.compare_path.Goals as goal

pub returns-then-ne : goal.returns-then-ne
returns-then-ne c =
    let hit = c.args.hit.now in
    let other : hit.path ≢ c.args.path.now = search rules in
    subst (λ (e : Refusal). ComparesPath hit.path hit.node hit.number c.args.path.now c.args.sum (Err e)) (sym c.clash_at.ensures) (ComparesPath.other_path other)

pub returns-then-not-fits_number : goal.returns-then-not-fits_number
returns-then-not-fits_number c =
    let hit = c.args.hit.now in
    let sum = c.args.sum in
    let same : hit.path ≡ c.args.path.now = search rules in
    let off : c.fits_number.result ≡ false = search rules in
    let value : to_z w64 (of_z w64 hit.number) ≡ hit.number = search rules in
    let fits = subst (λ (n : ℤ). FitsNumber sum n → c.fits_number.result ≡ true) value c.fits_number.ensures.1 in
    let other : FitsNumber sum hit.number → ⊥ = λ is. let apart : true ≡ false = sym (fits is) ∙ off in cc in
    let told : c.number_clash.result ≡ number_clash Partitions hit.node hit.number (wanted_number sum) = search rules in
    subst (λ (e : Refusal). ComparesPath hit.path hit.node hit.number c.args.path.now sum (Err e)) (sym told) (ComparesPath.other_number same other)

pub returns : goal.returns
returns c =
    let hit = c.args.hit.now in
    let same : hit.path ≡ c.args.path.now = search rules in
    let on : c.fits_number.result ≡ true = search rules in
    let value : to_z w64 (of_z w64 hit.number) ≡ hit.number = search rules in
    ComparesPath.same same (subst (λ (n : ℤ). FitsNumber c.args.sum n) value (c.fits_number.ensures.0 on))
