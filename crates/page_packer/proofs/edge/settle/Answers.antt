use Rattle.std.proofs.Common.{◌≡◌, ◌<◌, ◌≤◌, ◌+◌, ◌++◌, List, Vec, length, refl, sym, ◌∙◌, ap, subst, arith}
use Rattle.std.specs.declared.alloc.Global.{Global}
use Rattle.bti_nodes.specs.Spelling.{bytes_in}
use Rattle.page_packer.specs.declared.boxes.Branch.{Branch}
use Rattle.page_packer.specs.declared.boxes.Link.{End}
use Rattle.page_packer.specs.declared.work.Stood.{Stood}
use Rattle.page_packer.specs.Tree.{Branches, tree, weight, letters}
use Rattle.page_packer.specs.Sound.{Ascend, SoundUnder, count, counts}
use Rattle.page_packer.specs.Layout.{lay_under}
use Rattle.page_packer.specs.Boxes.{branches_of, and_last, node_in_box, capped, IsSoundLink, IsWeighed}
use Rattle.page_packer.proofs.Boxed.{own_weight, sound_last, WeighedBox}
use Rattle.page_packer.proofs.Laid.{count_is, counts_last, sound_link}
use Rattle.page_packer.proofs.Settled.{settles, over_weight, no_heavy_leaf}
use Rattle.page_packer.proofs.edge.settle.Goals as goal

abbrev boxed : Branch → Branches
boxed b = and_last (branches_of b.before) b.byte (node_in_box b)

abbrev SoundBox : Branch → Type 0
SoundBox b =
    (length (bytes_in b.payload) ≤ 7) × Ascend 0 (branches_of b.children) × SoundUnder (branches_of b.children) × (0 < length (bytes_in b.payload) + length (letters (branches_of b.children)))
    × IsSoundLink b.children × IsSoundLink b.before

pub returns-in-End-clause-edge : goal.returns-in-End-clause-edge
returns-in-End-clause-edge c =
    let q = bytes_in c.heavy.payload in
    let bs = branches_of c.heavy.children in
    let sound = c.heavy.invariant.sound in
    let seen = c.seen_of.ensures in
    let weight_is : c.subtree_weight.result ≡ capped (weight (tree q bs)) = c.subtree_weight.ensures ∙ own_weight q bs bs _ _ refl seen.0 seen.1 in
    let big : 4096 < weight (tree q bs) = over_weight c.subtree_weight.result (weight (tree q bs)) weight_is c.if-subtree_weight-le4096.false in
    let none : bs ≡ branches_of End = ap branches_of c.in-End.is in
    absurd (no_heavy_leaf q bs none sound.0 big)

pub lay-requires-clause-sound : goal.lay-requires-clause-sound
lay-requires-clause-sound c =
    let q = bytes_in c.heavy.payload in
    let bs = branches_of c.heavy.children in
    let sound = c.heavy.invariant.sound in
    let seen = c.seen_of.ensures in
    let weight_is : c.subtree_weight.result ≡ capped (weight (tree q bs)) = c.subtree_weight.ensures ∙ own_weight q bs bs _ _ refl seen.0 seen.1 in
    let big : 4096 < weight (tree q bs) = over_weight c.subtree_weight.result (weight (tree q bs)) weight_is c.if-subtree_weight-le4096.false in
    let whole : IsSoundLink c.heavy.children = sound_link c.heavy.children sound.1 sound.2 in
    let box : SoundBox c.into_inner-byte.result = subst SoundBox (sym c.into_inner-byte.ensures) (subst IsSoundLink c.in-Last.is whole) in
    box.5

pub lay-requires-clause-weighed : goal.lay-requires-clause-weighed
lay-requires-clause-weighed c =
    let box : WeighedBox c.into_inner-byte.result = subst WeighedBox (sym c.into_inner-byte.ensures) (subst IsWeighed c.in-Last.is c.heavy.invariant.weighed) in
    box.3

pub lay-requires-clause-few : goal.lay-requires-clause-few
lay-requires-clause-few c =
    let q = bytes_in c.heavy.payload in
    let bs = branches_of c.heavy.children in
    let sound = c.heavy.invariant.sound in
    let seen = c.seen_of.ensures in
    let weight_is : c.subtree_weight.result ≡ capped (weight (tree q bs)) = c.subtree_weight.ensures ∙ own_weight q bs bs _ _ refl seen.0 seen.1 in
    let big : 4096 < weight (tree q bs) = over_weight c.subtree_weight.result (weight (tree q bs)) weight_is c.if-subtree_weight-le4096.false in
    let b = c.into_inner-byte.result in
    let view : bs ≡ boxed b = ap branches_of c.in-Last.is ∙ ap boxed (sym c.into_inner-byte.ensures) in
    let before = branches_of b.before in
    let fewer : counts bs ≡ counts before + count (node_in_box b) = ap counts view ∙ counts_last before b.byte (node_in_box b) in
    let n = count_is b.before in
    omega (arith, fewer, n, c.heavy.invariant.few)

pub lay-requires-clause-room : goal.lay-requires-clause-room
lay-requires-clause-room c =
    let q = bytes_in c.heavy.payload in
    let bs = branches_of c.heavy.children in
    let sound = c.heavy.invariant.sound in
    let seen = c.seen_of.ensures in
    let weight_is : c.subtree_weight.result ≡ capped (weight (tree q bs)) = c.subtree_weight.ensures ∙ own_weight q bs bs _ _ refl seen.0 seen.1 in
    let big : 4096 < weight (tree q bs) = over_weight c.subtree_weight.result (weight (tree q bs)) weight_is c.if-subtree_weight-le4096.false in
    let b = c.into_inner-byte.result in
    let view : bs ≡ boxed b = ap branches_of c.in-Last.is ∙ ap boxed (sym c.into_inner-byte.ensures) in
    let before = branches_of b.before in
    let fewer : counts bs ≡ counts before + count (node_in_box b) = ap counts view ∙ counts_last before b.byte (node_in_box b) in
    let n = count_is b.before in
    omega (arith, fewer, n, c.heavy.invariant.room)

pub heavy-smaller-in_ok-push-in-Last : goal.heavy-smaller-in_ok-push-in-Last
heavy-smaller-in_ok-push-in-Last c =
    let q = bytes_in c.heavy.payload in
    let bs = branches_of c.heavy.children in
    let sound = c.heavy.invariant.sound in
    let seen = c.seen_of.ensures in
    let weight_is : c.subtree_weight.result ≡ capped (weight (tree q bs)) = c.subtree_weight.ensures ∙ own_weight q bs bs _ _ refl seen.0 seen.1 in
    let big : 4096 < weight (tree q bs) = over_weight c.subtree_weight.result (weight (tree q bs)) weight_is c.if-subtree_weight-le4096.false in
    let b = c.into_inner-byte.result in
    let view : bs ≡ boxed b = ap branches_of c.in-Last.is ∙ ap boxed (sym c.into_inner-byte.ensures) in
    let before = branches_of b.before in
    let fewer : counts bs ≡ counts before + count (node_in_box b) = ap counts view ∙ counts_last before b.byte (node_in_box b) in
    let n = count_is b.before in
    omega (arith, fewer)

pub heavy-preserved-in_ok-push-in-Last : goal.heavy-preserved-in_ok-push-in-Last
heavy-preserved-in_ok-push-in-Last c =
    let q = bytes_in c.heavy.payload in
    let bs = branches_of c.heavy.children in
    let sound = c.heavy.invariant.sound in
    let seen = c.seen_of.ensures in
    let weight_is : c.subtree_weight.result ≡ capped (weight (tree q bs)) = c.subtree_weight.ensures ∙ own_weight q bs bs _ _ refl seen.0 seen.1 in
    let big : 4096 < weight (tree q bs) = over_weight c.subtree_weight.result (weight (tree q bs)) weight_is c.if-subtree_weight-le4096.false in
    let b = c.into_inner-byte.result in
    let view : bs ≡ boxed b = ap branches_of c.in-Last.is ∙ ap boxed (sym c.into_inner-byte.ensures) in
    let before = branches_of b.before in
    let fewer : counts bs ≡ counts before + count (node_in_box b) = ap counts view ∙ counts_last before b.byte (node_in_box b) in
    let n = count_is b.before in
    let box : WeighedBox b = subst WeighedBox (sym c.into_inner-byte.ensures) (subst IsWeighed c.in-Last.is c.heavy.invariant.weighed) in
    let last = sound_last before b.byte (node_in_box b) (subst SoundUnder view sound.2) in
    let front : c.lay.new.work.stood.items ≡ (lay_under before (c.args.start + length c.heavy.work.out)).children =
    c.in_ok-lay-in-Last.ensures.ok.1 ∙ ap (λ (x : List Stood). x ++ (lay_under before (c.args.start + length c.heavy.work.out)).children) c.heavy.invariant.none in
    let done : c.replace-done.result.items ≡ (lay_under before (c.args.start + length c.heavy.work.out)).children = ap (λ (v : Vec Stood Global). v.items) c.replace-done.ensures.value ∙ front in
    let s = settles c.heavy.work.out c.lay.new.work.out c.heavy.levels.items c.push.new.self.items _ c.args.start b.byte q bs before (node_in_box b) big view c.in_ok-lay-in-Last.ensures.ok.0 c.in_ok-push-in-Last.ensures.items refl done refl in
    record {
      sound = last.0;
      weighed = box.2;
      few = omega (arith, fewer, c.heavy.invariant.few);
      room = omega (arith, fewer, n, c.heavy.invariant.room, c.in_ok-lay-in-Last.ensures.short);
      none = ap (λ (v : Vec Stood Global). v.items) c.replace-done.ensures.after ∙ c.new.ensures.items;
      bytes = s.bytes ∙ c.heavy.invariant.bytes;
      edge = s.edge ∙ c.heavy.invariant.edge;
    }

pub heavy-preserved : goal.heavy-preserved
heavy-preserved c =
    let q = bytes_in c.heavy.payload in
    let bs = branches_of c.heavy.children in
    let sound = c.heavy.invariant.sound in
    let seen = c.seen_of.ensures in
    let weight_is : c.subtree_weight.result ≡ capped (weight (tree q bs)) = c.subtree_weight.ensures ∙ own_weight q bs bs _ _ refl seen.0 seen.1 in
    let big : 4096 < weight (tree q bs) = over_weight c.subtree_weight.result (weight (tree q bs)) weight_is c.if-subtree_weight-le4096.false in
    let b = c.into_inner-byte.result in
    let view : bs ≡ boxed b = ap branches_of c.in-Last.is ∙ ap boxed (sym c.into_inner-byte.ensures) in
    let before = branches_of b.before in
    let fewer : counts bs ≡ counts before + count (node_in_box b) = ap counts view ∙ counts_last before b.byte (node_in_box b) in
    let n = count_is b.before in
    let box : WeighedBox b = subst WeighedBox (sym c.into_inner-byte.ensures) (subst IsWeighed c.in-Last.is c.heavy.invariant.weighed) in
    let last = sound_last before b.byte (node_in_box b) (subst SoundUnder view sound.2) in
    let front : c.lay.new.work.stood.items ≡ (lay_under before (c.args.start + length c.heavy.work.out)).children =
    c.in_ok-lay-in-Last.ensures.ok.1 ∙ ap (λ (x : List Stood). x ++ (lay_under before (c.args.start + length c.heavy.work.out)).children) c.heavy.invariant.none in
    let done : c.replace-done.result.items ≡ (lay_under before (c.args.start + length c.heavy.work.out)).children = ap (λ (v : Vec Stood Global). v.items) c.replace-done.ensures.value ∙ front in
    let s = settles c.heavy.work.out c.lay.new.work.out c.heavy.levels.items c.push.new.self.items _ c.args.start b.byte q bs before (node_in_box b) big view c.in_ok-lay-in-Last.ensures.ok.0 c.in_ok-push-in-Last.ensures.items refl done refl in
    record {
      sound = last.0;
      weighed = box.2;
      few = omega (arith, fewer, c.heavy.invariant.few);
      room = omega (arith, fewer, n, c.heavy.invariant.room, c.in_ok-lay-in-Last.ensures.short);
      none = ap (λ (v : Vec Stood Global). v.items) c.replace-done.ensures.after ∙ c.new.ensures.items;
      bytes = s.bytes ∙ c.heavy.invariant.bytes;
      edge = s.edge ∙ c.heavy.invariant.edge;
    }
