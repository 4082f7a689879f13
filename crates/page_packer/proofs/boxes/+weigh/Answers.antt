use Rattle.std.proofs.Common.{◌≡◌, map, refl, sym, ◌∙◌, ap, subst}
use Rattle.bti_nodes.specs.Spelling.{bytes_in, outline_by}
use Rattle.page_packer.specs.declared.boxes.Branch.{Branch}
use Rattle.page_packer.specs.Tree.{Tree, Branches, tree, weight, weights, letters, unplaced}
use Rattle.page_packer.specs.Sound.{Ascend, SoundUnder}
use Rattle.page_packer.specs.Boxes.{branches_of, and_last, capped, IsKept, Sees}
use Rattle.page_packer.proofs.Boxed.{ascend_before, sound_last, own_weight, both_weights, count_few, outline_last, KeptBox}
use Rattle.page_packer.proofs.boxes.+weigh.Goals as goal

-- the node of a box, and its branches with that node's behind them
abbrev node : Branch → Tree
node b = tree (bytes_in b.payload) (branches_of b.children)

abbrev boxed : Branch → Branches
boxed b = and_last (branches_of b.before) b.byte (node b)

pub seen_of-before-requires : goal.seen_of-before-requires
seen_of-before-requires t c =
    let kept : KeptBox c.deref_mut-branch.result.now = subst KeptBox (sym c.deref_mut-branch.ensures.value) (subst IsKept c.in-Last.is c.requires) in
    kept.1

pub returns-in-Last-clause-weighed : goal.returns-in-Last-clause-weighed
returns-in-Last-clause-weighed t c a s =
    let b = c.deref_mut-branch.result.now in
    let before = branches_of b.before in
    let view : branches_of c.args.link.now ≡ boxed b = ap branches_of c.in-Last.is ∙ ap boxed (sym c.deref_mut-branch.ensures.value) in
    let sound = sound_last before b.byte (node b) (subst SoundUnder view s) in
    let below = c.weigh-below.ensures.seen sound.0.1 sound.0.2 in
    let kept : KeptBox b = subst KeptBox (sym c.deref_mut-branch.ensures.value) (subst IsKept c.in-Last.is c.requires) in
    let ascends = ascend_before 0 before b.byte (node b) (subst (Ascend 0) view a) in
    let rest = c.seen_of-before.ensures in
    let weight_is = c.subtree_weight-weight.ensures ∙ own_weight (bytes_in b.payload) (branches_of b.children) (branches_of c.weigh-below.new.link) _ _ c.weigh-below.ensures.same below.0 below.1 in
    let own : c.subtree_weight-weight.result ≡ capped (weight (node b)) =
    c.subtree_weight-weight.ensures ∙ own_weight (bytes_in b.payload) (branches_of b.children) (branches_of b.children) _ _ refl below.0 below.1 in
    let seen : Sees c.with_branch-so_far.result (boxed b) = (
      c.with_branch-so_far.ensures.weight ∙ both_weights before b.byte (node b) _ _ rest.0 own,
      c.with_branch-so_far.ensures.outline (count_few before _ ascends rest.1) ∙ outline_last before b.byte (node b) _ rest.1,
    ) in (
      weight_is,
      subst (λ (bs : Branches). Sees c.with_branch-so_far.result (and_last before b.byte (tree (bytes_in b.payload) bs))) (sym c.weigh-below.ensures.same) seen,
      c.weigh-below.ensures.weighed sound.0.1 sound.0.2,
      kept.1,
    )

pub returns-in-Last-clause-seen : goal.returns-in-Last-clause-seen
returns-in-Last-clause-seen t c a s =
    let b = c.deref_mut-branch.result.now in
    let before = branches_of b.before in
    let view : branches_of c.args.link.now ≡ boxed b = ap branches_of c.in-Last.is ∙ ap boxed (sym c.deref_mut-branch.ensures.value) in
    let sound = sound_last before b.byte (node b) (subst SoundUnder view s) in
    let below = c.weigh-below.ensures.seen sound.0.1 sound.0.2 in
    let ascends = ascend_before 0 before b.byte (node b) (subst (Ascend 0) view a) in
    let rest = c.seen_of-before.ensures in
    let own : c.subtree_weight-weight.result ≡ capped (weight (node b)) =
    c.subtree_weight-weight.ensures ∙ own_weight (bytes_in b.payload) (branches_of b.children) (branches_of b.children) _ _ refl below.0 below.1 in (
      c.with_branch-so_far.ensures.weight ∙ both_weights before b.byte (node b) _ _ rest.0 own ∙ ap (λ bs. capped (weights bs)) (sym view),
      c.with_branch-so_far.ensures.outline (count_few before _ ascends rest.1) ∙ outline_last before b.byte (node b) _ rest.1 ∙ ap (λ (bs : Branches). outline_by 0 (map unplaced (letters bs))) (sym view),
    )
