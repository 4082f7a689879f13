use Rattle.std.proofs.Common.{◌≡◌, ◌∷◌, ◌++◌, [], ℕ, List, Option, ◌∙◌, ap, refl, subst, sym}
use Rattle.outside.specs.Files.{Files, bytes_of}
use Rattle.bti_reader.specs.Searches.{after_in}
use Rattle.bti_reader.specs.Ways.{IsWayIn, LeadsToHit}
use Rattle.bti_reader.proofs.Asking.{join}
use Rattle.bti_reader.proofs.Walking.{after_path}
use Rattle.bti_reader.proofs.Ways.{start_root, start_way, where_found}
use Rattle.bti_reader.proofs.way.after.Goals as goal

-- a list that was made of nothing, a front and a byte
built : (whole more made front part : List ℕ) (b : ℕ) → whole ≡ more ++ b ∷ [] → more ≡ made ++ front → made ≡ [] → front ≡ part → whole ≡ part ++ b ∷ []
built whole more made front part b w m e f = w ∙ ap (λ l. l ++ b ∷ []) (m ∙ ap (λ l. l ++ front) e ∙ f)

pub returns-clause-found : goal.returns-clause-found
returns-clause-found g c =
    join (g.K.Store.files c.args.store.now) (g.K.Store.files c.next_start.new.store) c.next_start.ensures.files c.first_into.ensures.found c.in_ok-next.ensures.found
    (λ m p q. after_path c.args.file.part (bytes_of m c.args.file) c.args.path.now c.push.new.self c.in-Some.next (after_in (bytes_of m c.args.file) _ c.args.path.now) c.first_into.result
    (built c.push.new.self c.extend.new.self c.new-taken.result c.split_at.result.0.now _ c.in-Some.next.byte c.in_ok-push.ensures.ok c.in_ok-extend.ensures.ok c.new-taken.ensures c.split_at.ensures.front)
    (rw c.in-Some.is at q) p)

pub first_into-requires-clause-way : goal.first_into-requires-clause-way
first_into-requires-clause-way g c =
    let file = c.args.file in
    let next = c.in-Some.next in
    let taken = built c.push.new.self c.extend.new.self c.new-taken.result c.split_at.result.0.now _ next.byte c.in_ok-push.ensures.ok c.in_ok-extend.ensures.ok c.new-taken.ensures c.split_at.ensures.front in
    subst (λ (files : Option Files). IsWayIn files file c.push.new.self (c.in_ok-reached.field-0 ++ next.start ∷ [])) (sym c.next_start.ensures.files)
    (join (g.K.Store.files c.args.store.now) (g.K.Store.files c.args.store.now) refl c.in_ok-next.ensures.child c.requires.way
    (λ m child way. start_way (bytes_of m file) c.args.path.now c.args.nodes.now c.push.new.self c.in_ok-reached.field-0 next c.requires.count (rw c.in-Some.is at c.in_ok-next.ensures.fits) taken
    (c.in_ok-reached.ensures ∙ c.split_at-2.ensures.front) way (rw c.in-Some.is at child)))

pub returns-clause-way : goal.returns-clause-way
returns-clause-way g c = subst (λ (files : Option Files). LeadsToHit files c.args.file c.first_into.new.nodes c.first_into.result) c.next_start.ensures.files c.first_into.ensures.way

pub returns-clause-root : goal.returns-clause-root
returns-clause-root g c =
    where_found c.first_into.result _ _ _ c.first_into.ensures.root
    (start_root c.args.path.now c.args.nodes.now c.in_ok-reached.field-0 c.in-Some.next c.requires.count (rw c.in-Some.is at c.in_ok-next.ensures.fits) (c.in_ok-reached.ensures ∙ c.split_at-2.ensures.front))
