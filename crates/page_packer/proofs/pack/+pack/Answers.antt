use Rattle.std.proofs.Common.{rules, ◌≡◌, ◌+◌, ◌≤◌, ◌<◌, ◌++◌, ℕ, List, length, drop, map, sym, ◌∙◌, ap, subst, arith, length-append}
use Rattle.std.proofs.Math.Seq.{drop-append_seam}
use Rattle.std.specs.List.{AllByRecursion}
use Rattle.bti_nodes.specs.Spelling.{bytes_in, IsNode}
use Rattle.page_packer.specs.declared.boxes.Branch.{Branch}
use Rattle.page_packer.specs.declared.boxes.Link.{Link}
use Rattle.page_packer.specs.declared.work.Stood.{Stood}
use Rattle.page_packer.specs.Tree.{Branches, tree, weights, weight_here, letters}
use Rattle.page_packer.specs.Sound.{Ascend, SoundUnder}
use Rattle.page_packer.specs.Layout.{packed_under, seen_from, node_at_place}
use Rattle.page_packer.specs.Boxes.{branches_of, and_last, weight_in, IsSoundLink}
use Rattle.page_packer.proofs.Pages.{under_between, under_len, packed_letters}
use Rattle.page_packer.proofs.Joined.{joined, all_before, node_fine, weight_is}
use Rattle.page_packer.proofs.pack.+pack.Goals as goal

abbrev boxed : Branch → Branches
boxed b = and_last (branches_of b.before) b.byte (tree (bytes_in b.payload) (branches_of b.children))

-- a box that can be laid
abbrev SoundBox : Branch → Type 0
SoundBox b =
    (length (bytes_in b.payload) ≤ 7) × Ascend 0 (branches_of b.children) × SoundUnder (branches_of b.children) × (0 < length (bytes_in b.payload) + length (letters (branches_of b.children)))
    × IsSoundLink b.children × IsSoundLink b.before

-- what a box's branches weigh
abbrev heavy : Branch → ℕ
heavy b = weight_in b.before + (weight_in b.children + weight_here (bytes_in b.payload) (branches_of b.children))

pub close-requires-clause-before : goal.close-requires-clause-before
close-requires-clause-before t c =
    let b = c.deref-branch.result.now in
    let out1 = c.pack.new.work.out in
    let s1 = c.pack.new.work.stood.items in
    let p1 = c.args.start + length out1 in
    let under = packed_under (branches_of b.children) p1 in
    let n : c.len-base.result ≡ length s1 = search rules in
    let kids : drop c.len-base.result c.pack-in-Last.new.work.stood.items ≡ under.children =
    ap (λ k. drop k c.pack-in-Last.new.work.stood.items) n ∙ ap (drop (length s1)) c.in_ok-pack-in-Last-2.ensures.ok.1 ∙ drop-append_seam s1 under.children in
    let at : p1 + length under.bytes ≡ c.args.start + c.len.result = omega (arith, c.len.ensures, ap length c.in_ok-pack-in-Last-2.ensures.ok.0, length-append out1 under.bytes) in
    subst (λ k. AllByRecursion (λ (s : Stood). s.position ≤ c.args.start + c.len.result) k) (sym kids)
    (subst (λ h. AllByRecursion (λ (s : Stood). s.position ≤ h) under.children) at (all_before p1 (p1 + length under.bytes) under.children (under_between (branches_of b.children) p1)))

pub close-requires-clause-node : goal.close-requires-clause-node
close-requires-clause-node t c =
    let b = c.deref-branch.result.now in
    let out1 = c.pack.new.work.out in
    let s1 = c.pack.new.work.stood.items in
    let p1 = c.args.start + length out1 in
    let under = packed_under (branches_of b.children) p1 in
    let n : c.len-base.result ≡ length s1 = search rules in
    let kids : drop c.len-base.result c.pack-in-Last.new.work.stood.items ≡ under.children =
    ap (λ k. drop k c.pack-in-Last.new.work.stood.items) n ∙ ap (drop (length s1)) c.in_ok-pack-in-Last-2.ensures.ok.1 ∙ drop-append_seam s1 under.children in
    let at : p1 + length under.bytes ≡ c.args.start + c.len.result = omega (arith, c.len.ensures, ap length c.in_ok-pack-in-Last-2.ensures.ok.0, length-append out1 under.bytes) in
    let same = c.deref-branch.ensures in
    let sound : SoundBox b = subst SoundBox (sym same) (subst IsSoundLink c.in-Last.is c.requires.sound) in
    let light : heavy b ≤ 4096 = subst (λ (x : Branch). heavy x ≤ 4096) (sym same) (subst (λ (l : Link). weight_in l ≤ 4096) c.in-Last.is c.requires.light) in
    let short : weights (branches_of b.children) ≤ 4096 = omega (arith, light, weight_is b.children) in
    let fine = node_fine (bytes_in b.payload) (branches_of b.children) under.children p1 (p1 + length under.bytes) sound.0 sound.3 sound.1 (packed_letters (branches_of b.children) p1) (under_between (branches_of b.children) p1) (omega (arith, under_len (branches_of b.children) p1 short)) in
    let P : List ℕ → List Stood → ℕ → Type 0 = λ q k a. IsNode (record { payload = q; children = map (seen_from a) k }) in
    subst (λ q. P q (drop c.len-base.result c.pack-in-Last.new.work.stood.items) (c.args.start + c.len.result)) (sym c.payload_bytes.ensures.bytes)
    (subst (λ k. P (bytes_in b.payload) k (c.args.start + c.len.result)) (sym kids) (subst (λ a. P (bytes_in b.payload) under.children a) at fine))

pub returns-in_ok-push-in-Last-clause-ok : goal.returns-in_ok-push-in-Last-clause-ok
returns-in_ok-push-in-Last-clause-ok t c =
    let b = c.deref-branch.result.now in
    let s1 = c.pack.new.work.stood.items in
    let n : c.len-base.result ≡ length s1 = search rules in
    let s2 = c.pack-in-Last.new.work.stood.items in
    let out2 = c.pack-in-Last.new.work.out in
    let at = c.args.start + c.len.result in
    let view : branches_of c.args.link.now ≡ boxed b = ap branches_of c.in-Last.is ∙ ap boxed (sym c.deref-branch.ensures) in
    let first = c.in_ok-pack-in-Last.ensures.ok in
    let below = c.in_ok-pack-in-Last-2.ensures.ok in
    let all = joined c.args.work.now.out c.pack.new.work.out out2 c.close.new.work.out c.args.work.now.stood.items s1 s2 c.close.new.work.stood.items c.push.new.self.items c.args.start c.len-base.result at b.byte (bytes_in b.payload)
    (branches_of b.before) (branches_of b.children) (branches_of c.args.link.now) first.0 first.1 n below.0 below.1 (ap (λ k. c.args.start + k) c.len.ensures)
    (c.in_ok-close-in-Last.ensures.bytes ∙ ap (λ q. out2 ++ node_at_place q (drop c.len-base.result s2) at) c.payload_bytes.ensures.bytes) c.in_ok-close-in-Last.ensures.stood c.in_ok-push-in-Last.ensures.items view in
    all

pub returns-in_ok-push-in-Last-clause-short : goal.returns-in_ok-push-in-Last-clause-short
returns-in_ok-push-in-Last-clause-short t c =
    let b = c.deref-branch.result.now in
    let s1 = c.pack.new.work.stood.items in
    let n : c.len-base.result ≡ length s1 = search rules in
    let s2 = c.pack-in-Last.new.work.stood.items in
    let out2 = c.pack-in-Last.new.work.out in
    let at = c.args.start + c.len.result in
    let view : branches_of c.args.link.now ≡ boxed b = ap branches_of c.in-Last.is ∙ ap boxed (sym c.deref-branch.ensures) in
    let first = c.in_ok-pack-in-Last.ensures.ok in
    let below = c.in_ok-pack-in-Last-2.ensures.ok in
    let all = joined c.args.work.now.out c.pack.new.work.out out2 c.close.new.work.out c.args.work.now.stood.items s1 s2 c.close.new.work.stood.items c.push.new.self.items c.args.start c.len-base.result at b.byte (bytes_in b.payload)
    (branches_of b.before) (branches_of b.children) (branches_of c.args.link.now) first.0 first.1 n below.0 below.1 (ap (λ k. c.args.start + k) c.len.ensures)
    (c.in_ok-close-in-Last.ensures.bytes ∙ ap (λ q. out2 ++ node_at_place q (drop c.len-base.result s2) at) c.payload_bytes.ensures.bytes) c.in_ok-close-in-Last.ensures.stood c.in_ok-push-in-Last.ensures.items view in
    let bs = branches_of c.args.link.now in
    let p0 = c.args.start + length c.args.work.now.out in
    let light : weights bs ≤ 4096 = omega (arith, weight_is c.args.link.now, c.requires.light) in
    omega (arith, ap length all.0, length-append c.args.work.now.out (packed_under bs p0).bytes, under_len bs p0 light, weight_is c.args.link.now)
