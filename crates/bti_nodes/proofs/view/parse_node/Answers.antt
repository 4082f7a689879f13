use Rattle.std.proofs.Common.{◌≡◌, ◌+◌, ◌<◌, ℕ, sym, get_or, List, drop, arith}
use Rattle.std.proofs.lemmas.List.{get_or-drop}
use Rattle.bti_nodes.proofs.Places.{all_back}
use Rattle.bti_nodes.proofs.Climbing.{climbs_by}
use Rattle.bti_nodes.proofs.Full.{full_node, small_node}
use Rattle.bti_nodes.proofs.view.parse_node.Goals as goal

still_small : (bytes page : List ℕ) (at : ℕ) → bytes ≡ drop at page → ((i : ℕ) → get_or page i 0 < 256) → (i : ℕ) → get_or bytes i 0 < 256
still_small bytes page at e small i = rw e (rw (get_or-drop at page i 0) (small (at + i)))

pub returns-in-None-clause-back : goal.returns-in-None-clause-back
returns-in-None-clause-back c =
    all_back c.kind_of-kind.result c.places_of-places.result c.split_at.result.1.now c.args.position c.in-None.ensures.back

pub returns-in-None-clause-climbs : goal.returns-in-None-clause-climbs
returns-in-None-clause-climbs c =
    let holds = c.in-None.ensures.holds in
    climbs_by c.kind_of-kind.result c.places_of-places.result c.split_at.result.1.now holds.places_are (omega (arith, holds.stands)) holds.order

pub returns-in-None-clause-bytes : goal.returns-in-None-clause-bytes
returns-in-None-clause-bytes c =
    let holds = c.in-None.ensures.holds in
    small_node c.kind_of-kind.result c.places_of-places.result c.split_at.result.1.now
    (still_small c.split_at.result.1.now c.args.page.now c.args.at c.split_at.ensures.back (λ i. omega (arith, c.type_inv.page i))) holds.places_are holds.order

pub returns-in-None-clause-full : goal.returns-in-None-clause-full
returns-in-None-clause-full c =
    let holds = c.in-None.ensures.holds in
    full_node c.kind_of-kind.result c.places_of-places.result c.split_at.result.1.now c.args.position holds.places_are (sym c.in-None.ensures.refused)
