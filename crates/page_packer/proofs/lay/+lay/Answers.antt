use Rattle.std.proofs.Common.{rules, ◌≡◌, ◌+◌, ◌≤◌, ◌<◌, ◌^◌, ◌-◌, ◌*◌, ◌++◌, ◌∷◌, [], ℕ, List, length, take, drop, map, sym, ◌∙◌, ap, subst, arith, length-append}
use Rattle.std.specs.List.{AllByRecursion}
use Rattle.bti_nodes.specs.Spelling.{bytes_in, IsNode}
use Rattle.page_packer.specs.declared.boxes.Branch.{Branch}
use Rattle.page_packer.specs.declared.boxes.Link.{Link}
use Rattle.page_packer.specs.declared.work.Stood.{Stood}
use Rattle.page_packer.specs.Tree.{Branches, weight, letters}
use Rattle.page_packer.specs.Sound.{Ascend, SoundUnder}
use Rattle.page_packer.specs.Layout.{lay_under, seen_from, node_at_place}
use Rattle.page_packer.specs.Boxes.{branches_of, and_last, node_in_box, capped, count_in, IsSoundLink, IsWeighed}
use Rattle.page_packer.specs.Work.{closed_alone}
use Rattle.page_packer.proofs.Pages.{laid_letters, node_within, wider}
use Rattle.page_packer.proofs.Length.{lay_between}
use Rattle.page_packer.proofs.Boxed.{on_ok, WeighedBox}
use Rattle.page_packer.proofs.Joined.{all_before, node_fine}
use Rattle.page_packer.proofs.Laid.{kids_are, laid_more, laid_short, heavy_closed, on_both}
use Rattle.page_packer.proofs.lay.+lay.Goals as goal

abbrev boxed : Branch → Branches
boxed b = and_last (branches_of b.before) b.byte (node_in_box b)

-- a box that can be laid
abbrev SoundBox : Branch → Type 0
SoundBox b =
    (length (bytes_in b.payload) ≤ 7) × Ascend 0 (branches_of b.children) × SoundUnder (branches_of b.children) × (0 < length (bytes_in b.payload) + length (letters (branches_of b.children)))
    × IsSoundLink b.children × IsSoundLink b.before

abbrev count_box : Branch → ℕ
count_box b = count_in b.before + (count_in b.children + 1)

pub returns-then-branch-le4096-clause-ok : goal.returns-then-branch-le4096-clause-ok
returns-then-branch-le4096-clause-ok t c =
    let b = c.deref-branch.result.now in
    let view : branches_of c.args.link.now ≡ boxed b = ap branches_of c.in-Last.is ∙ ap boxed (sym c.deref-branch.ensures) in
    let first = c.in_ok-lay-in-Last.ensures.ok in
    on_ok c.lay_light.result _ _ (λ e. laid_more c.args.work.now.out c.lay.new.work.out c.lay_light.new.work.out c.args.work.now.stood.items c.lay.new.work.stood.items c.lay_light.new.work.stood.items c.args.start b.byte (node_in_box b)
    (branches_of b.before) (branches_of c.args.link.now) first.0 first.1 e.0 e.1 view) c.lay_light.ensures

pub returns-then-branch-le4096-clause-short : goal.returns-then-branch-le4096-clause-short
returns-then-branch-le4096-clause-short t c =
    let b = c.deref-branch.result.now in
    let view : branches_of c.args.link.now ≡ boxed b = ap branches_of c.in-Last.is ∙ ap boxed (sym c.deref-branch.ensures) in
    let first = c.in_ok-lay-in-Last.ensures.ok in
    on_ok c.lay_light.result _ _ (λ e. laid_short c.args.link.now c.args.work.now.out c.lay_light.new.work.out (c.args.start + length c.args.work.now.out) c.requires.sound c.requires.few
    (laid_more c.args.work.now.out c.lay.new.work.out c.lay_light.new.work.out c.args.work.now.stood.items c.lay.new.work.stood.items c.lay_light.new.work.stood.items c.args.start b.byte (node_in_box b) (branches_of b.before)
    (branches_of c.args.link.now) first.0 first.1 e.0 e.1 view).0) c.lay_light.ensures

pub close_in_page-requires-clause-before : goal.close_in_page-requires-clause-before
close_in_page-requires-clause-before t c =
    let b = c.deref-branch.result.now in
    let out1 = c.lay.new.work.out in
    let s1 = c.lay.new.work.stood.items in
    let p1 = c.args.start + length out1 in
    let under = lay_under (branches_of b.children) p1 in
    let n : c.len-base.result ≡ length s1 = search rules in
    let kids = kids_are c.len-base.result s1 c.lay-in-Last.new.work.stood.items under.children n c.in_ok-lay-in-Last-2.ensures.ok.1 in
    let at : p1 + length under.bytes ≡ c.args.start + c.len.result = omega (arith, c.len.ensures, ap length c.in_ok-lay-in-Last-2.ensures.ok.0, length-append out1 under.bytes) in
    subst (λ k. AllByRecursion (λ (s : Stood). s.position ≤ c.args.start + c.len.result) k) (sym kids)
    (subst (λ h. AllByRecursion (λ (s : Stood). s.position ≤ h) under.children) at (all_before p1 (p1 + length under.bytes) under.children (lay_between (branches_of b.children) p1)))

pub close_in_page-requires-clause-fits : goal.close_in_page-requires-clause-fits
close_in_page-requires-clause-fits t c =
    let b = c.deref-branch.result.now in
    let out1 = c.lay.new.work.out in
    let s1 = c.lay.new.work.stood.items in
    let p1 = c.args.start + length out1 in
    let under = lay_under (branches_of b.children) p1 in
    let n : c.len-base.result ≡ length s1 = search rules in
    let kids = kids_are c.len-base.result s1 c.lay-in-Last.new.work.stood.items under.children n c.in_ok-lay-in-Last-2.ensures.ok.1 in
    let sound : SoundBox b = subst SoundBox (sym c.deref-branch.ensures) (subst IsSoundLink c.in-Last.is c.requires.sound) in
    let at = c.args.start + c.len.result in
    let P : List ℕ → List Stood → Type 0 = λ q k. length (node_at_place q k at) ≤ 4096 in
    subst (λ q. P q (drop c.len-base.result c.lay-in-Last.new.work.stood.items)) (sym c.payload_bytes.ensures.bytes)
    (subst (P (bytes_in b.payload)) (sym kids) (node_within (bytes_in b.payload) (branches_of b.children) under.children at sound.0 sound.1 (laid_letters (branches_of b.children) p1)))

pub close_in_page-requires-clause-node : goal.close_in_page-requires-clause-node
close_in_page-requires-clause-node t c room small =
    let b = c.deref-branch.result.now in
    let out1 = c.lay.new.work.out in
    let s1 = c.lay.new.work.stood.items in
    let p1 = c.args.start + length out1 in
    let bs = branches_of b.children in
    let under = lay_under bs p1 in
    let to = p1 + length under.bytes in
    let n : c.len-base.result ≡ length s1 = search rules in
    let kids = kids_are c.len-base.result s1 c.lay-in-Last.new.work.stood.items under.children n c.in_ok-lay-in-Last-2.ensures.ok.1 in
    let len : length c.lay-in-Last.new.work.out ≡ length out1 + length under.bytes = ap length c.in_ok-lay-in-Last-2.ensures.ok.0 ∙ length-append out1 under.bytes in
    let at : to ≡ c.args.start + c.len.result = omega (arith, c.len.ensures, len) in
    let sound : SoundBox b = subst SoundBox (sym c.deref-branch.ensures) (subst IsSoundLink c.in-Last.is c.requires.sound) in
    let few : count_box b ≤ 2 ^ 31 = subst (λ (x : Branch). count_box x ≤ 2 ^ 31) (sym c.deref-branch.ensures) (subst (λ (l : Link). count_in l ≤ 2 ^ 31) c.in-Last.is c.requires.few) in
    let more : length c.lay-in-Last.new.work.out ≤ length out1 + 30 * count_in b.children = c.in_ok-lay-in-Last-2.ensures.short in
    let near : to + room - p1 < 2 ^ 40 = omega (arith, few, more, len, small) in
    let fine = node_fine (bytes_in b.payload) bs under.children p1 (to + room) sound.0 sound.3 sound.1 (laid_letters bs p1) (wider p1 p1 to (to + room) under.children (omega arith) (omega arith) (lay_between bs p1)) near in
    let P : List ℕ → List Stood → ℕ → Type 0 = λ q k a. IsNode (record { payload = q; children = map (seen_from (a + room)) k }) in
    subst (λ q. P q (drop c.len-base.result c.lay-in-Last.new.work.stood.items) (c.args.start + c.len.result)) (sym c.payload_bytes.ensures.bytes)
    (subst (λ k. P (bytes_in b.payload) k (c.args.start + c.len.result)) (sym kids) (subst (λ a. P (bytes_in b.payload) under.children a) at fine))

pub returns-in_ok-lay-in-Last-2-clause-ok : goal.returns-in_ok-lay-in-Last-2-clause-ok
returns-in_ok-lay-in-Last-2-clause-ok t c =
    let b = c.deref-branch.result.now in
    let q = bytes_in b.payload in
    let s1 = c.lay.new.work.stood.items in
    let s2 = c.lay-in-Last.new.work.stood.items in
    let s3 = c.close_in_page.new.work.stood.items in
    let out2 = c.lay-in-Last.new.work.out in
    let out3 = c.close_in_page.new.work.out in
    let at = c.args.start + c.len.result in
    let base = c.len-base.result in
    let n : base ≡ length s1 = search rules in
    let view : branches_of c.args.link.now ≡ boxed b = ap branches_of c.in-Last.is ∙ ap boxed (sym c.deref-branch.ensures) in
    let weighed : WeighedBox b = subst WeighedBox (sym c.deref-branch.ensures) (subst IsWeighed c.in-Last.is c.requires.weighed) in
    let big : 4096 < weight (node_in_box b) = omega (arith, c.if-branch-le4096.false, weighed.0) in
    let first = c.in_ok-lay-in-Last.ensures.ok in
    let below = c.in_ok-lay-in-Last-2.ensures.ok in
    let paid = c.payload_bytes.ensures.bytes in
    on_both c.close_in_page.result _ _ _ (λ e f. (let own = heavy_closed c.lay.new.work.out out2 out3 s1 s2 s3 c.args.start base at b.byte q (branches_of b.children) big n below.0 below.1 (ap (λ k. c.args.start + k) c.len.ensures)
    (e ∙ ap (λ x. out2 ++ (closed_alone x (drop base s2) at).bytes) paid) (f ∙ ap (λ x. take base s2 ++ record { byte = b.byte; position = (closed_alone x (drop base s2) at).root } ∷ []) paid) in
    laid_more c.args.work.now.out c.lay.new.work.out out3 c.args.work.now.stood.items s1 s3 c.args.start b.byte (node_in_box b) (branches_of b.before) (branches_of c.args.link.now) first.0 first.1 own.0 own.1 view))
    c.close_in_page.ensures.bytes c.close_in_page.ensures.stood

pub returns-in_ok-lay-in-Last-2-clause-short : goal.returns-in_ok-lay-in-Last-2-clause-short
returns-in_ok-lay-in-Last-2-clause-short t c =
    let b = c.deref-branch.result.now in
    let q = bytes_in b.payload in
    let s1 = c.lay.new.work.stood.items in
    let s2 = c.lay-in-Last.new.work.stood.items in
    let s3 = c.close_in_page.new.work.stood.items in
    let out2 = c.lay-in-Last.new.work.out in
    let out3 = c.close_in_page.new.work.out in
    let at = c.args.start + c.len.result in
    let base = c.len-base.result in
    let n : base ≡ length s1 = search rules in
    let view : branches_of c.args.link.now ≡ boxed b = ap branches_of c.in-Last.is ∙ ap boxed (sym c.deref-branch.ensures) in
    let weighed : WeighedBox b = subst WeighedBox (sym c.deref-branch.ensures) (subst IsWeighed c.in-Last.is c.requires.weighed) in
    let big : 4096 < weight (node_in_box b) = omega (arith, c.if-branch-le4096.false, weighed.0) in
    let first = c.in_ok-lay-in-Last.ensures.ok in
    let below = c.in_ok-lay-in-Last-2.ensures.ok in
    let paid = c.payload_bytes.ensures.bytes in
    on_both c.close_in_page.result _ _ _ (λ e f. (let own = heavy_closed c.lay.new.work.out out2 out3 s1 s2 s3 c.args.start base at b.byte q (branches_of b.children) big n below.0 below.1 (ap (λ k. c.args.start + k) c.len.ensures)
    (e ∙ ap (λ x. out2 ++ (closed_alone x (drop base s2) at).bytes) paid) (f ∙ ap (λ x. take base s2 ++ record { byte = b.byte; position = (closed_alone x (drop base s2) at).root } ∷ []) paid) in
    laid_short c.args.link.now c.args.work.now.out out3 (c.args.start + length c.args.work.now.out) c.requires.sound c.requires.few
    (laid_more c.args.work.now.out c.lay.new.work.out out3 c.args.work.now.stood.items s1 s3 c.args.start b.byte (node_in_box b) (branches_of b.before) (branches_of c.args.link.now) first.0 first.1 own.0 own.1 view).0))
    c.close_in_page.ensures.bytes c.close_in_page.ensures.stood
