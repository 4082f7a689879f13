use Rattle.std.proofs.Common.{◌≡◌, length, sym, ◌∙◌, ap, subst, arith}
use Rattle.page_packer.specs.declared.boxes.Branch.{Branch}
use Rattle.page_packer.specs.Tree.{Branches}
use Rattle.page_packer.specs.Sound.{Ascend, SoundUnder, counts}
use Rattle.page_packer.specs.Boxes.{branches_of, and_last, node_in_box}
use Rattle.page_packer.specs.Levels.{tree_in}
use Rattle.page_packer.proofs.Laid.{sound_link, count_is}
use Rattle.page_packer.proofs.Boxed.{KeptBox, kept}
use Rattle.page_packer.proofs.Grows.{one, one_laid}
use Rattle.page_packer.proofs.grow.lay_whole.Goals as goal

abbrev boxed : Branch → Branches
boxed b = and_last (branches_of b.before) b.byte (node_in_box b)

pub lay-requires-clause-sound : goal.lay-requires-clause-sound
lay-requires-clause-sound c =
    let all : branches_of c.weigh.new.link ≡ one (tree_in c.args.held) = c.weigh.ensures.same ∙ ap boxed c.in_ok-new.ensures.ok in
    sound_link c.weigh.new.link (subst (Ascend 0) (sym all) (omega arith, omega arith, tt)) (subst SoundUnder (sym all) (c.requires.sound, c.requires.full, tt))

pub weigh-requires : goal.weigh-requires
weigh-requires c = subst KeptBox (sym c.in_ok-new.ensures.ok) (kept c.args.held.children c.requires.weighed, tt)

pub lay-requires-clause-weighed : goal.lay-requires-clause-weighed
lay-requires-clause-weighed c =
    let given : boxed c.in_ok-new.field-0.value ≡ one (tree_in c.args.held) = ap boxed c.in_ok-new.ensures.ok in
    c.weigh.ensures.weighed (subst (Ascend 0) (sym given) (omega arith, omega arith, tt)) (subst SoundUnder (sym given) (c.requires.sound, c.requires.full, tt))

pub lay-requires-clause-few : goal.lay-requires-clause-few
lay-requires-clause-few c =
    let all : branches_of c.weigh.new.link ≡ one (tree_in c.args.held) = c.weigh.ensures.same ∙ ap boxed c.in_ok-new.ensures.ok in
    omega (arith, count_is c.weigh.new.link, ap counts all, c.requires.few)

pub lay-requires-clause-room : goal.lay-requires-clause-room
lay-requires-clause-room c =
    let all : branches_of c.weigh.new.link ≡ one (tree_in c.args.held) = c.weigh.ensures.same ∙ ap boxed c.in_ok-new.ensures.ok in
    omega (arith, count_is c.weigh.new.link, ap counts all, c.requires.few, c.requires.start, ap length c.requires.out)

pub returns-clause-bytes : goal.returns-clause-bytes
returns-clause-bytes c =
    let all : branches_of c.weigh.new.link ≡ one (tree_in c.args.held) = c.weigh.ensures.same ∙ ap boxed c.in_ok-new.ensures.ok in
    (one_laid (tree_in c.args.held) (branches_of c.weigh.new.link) c.args.start c.args.work.now.out c.lay.new.work.out c.args.work.now.stood.items c.lay.new.work.stood.items all c.requires.out c.requires.stood c.in_ok-lay.ensures.ok.0 c.in_ok-lay.ensures.ok.1).0

pub returns-clause-root : goal.returns-clause-root
returns-clause-root c =
    let all : branches_of c.weigh.new.link ≡ one (tree_in c.args.held) = c.weigh.ensures.same ∙ ap boxed c.in_ok-new.ensures.ok in
    let laid = one_laid (tree_in c.args.held) (branches_of c.weigh.new.link) c.args.start c.args.work.now.out c.lay.new.work.out c.args.work.now.stood.items c.lay.new.work.stood.items all c.requires.out c.requires.stood c.in_ok-lay.ensures.ok.0 c.in_ok-lay.ensures.ok.1 in
    c.only_position.ensures _ (c.as_slice.ensures.value ∙ laid.1)
