use Rattle.std.proofs.Common.{rules, ◌≡◌, ◌+◌, ◌≤◌, ◌++◌, ℕ, List, length, drop, map, sym, ◌∙◌, ap, subst, arith, length-append}
use Rattle.std.specs.List.{AllByRecursion}
use Rattle.bti_nodes.specs.Spelling.{bytes_in, IsNode, zeros}
use Rattle.page_packer.specs.declared.work.Stood.{Stood}
use Rattle.page_packer.specs.Tree.{weight, weights}
use Rattle.page_packer.specs.Layout.{gap, packed_under, seen_from, node_at_place}
use Rattle.page_packer.specs.Boxes.{branches_of, node_in_box}
use Rattle.page_packer.proofs.Pages.{under_between, under_len, packed_letters}
use Rattle.page_packer.proofs.Length.{zeros_len}
use Rattle.page_packer.proofs.Joined.{all_before, node_fine, weight_is}
use Rattle.page_packer.proofs.Laid.{sound_link, kids_are, light_closed}
use Rattle.page_packer.proofs.lay.lay_light.Goals as goal

pub pack-requires-clause-sound : goal.pack-requires-clause-sound
pack-requires-clause-sound c = sound_link c.args.branch.now.children c.requires.sound.1 c.requires.sound.2

pub pack-requires-clause-light : goal.pack-requires-clause-light
pack-requires-clause-light c = omega (arith, c.requires.light, c.requires.weight, weight_is c.args.branch.now.children)

pub pack-requires-clause-room : goal.pack-requires-clause-room
pack-requires-clause-room c =
    let room = c.gap.result in
    omega (arith, c.requires.room, c.requires.light, c.requires.weight, weight_is c.args.branch.now.children, ap length c.in_ok-put_zeros.ensures, length-append c.args.work.now.out (zeros room), zeros_len room, c.gap.ensures.few)

pub overflow_add-position : goal.overflow_add-position
overflow_add-position c =
    let room = c.gap.result in
    omega (
      arith,
      c.requires.room,
      c.requires.light,
      c.requires.weight,
      weight_is c.args.branch.now.children,
      ap length c.in_ok-put_zeros.ensures,
      length-append c.args.work.now.out (zeros room),
      zeros_len room,
      c.gap.ensures.few,
      c.in_ok-pack.ensures.short,
      c.len-2.ensures,
    )

pub close-requires-clause-before : goal.close-requires-clause-before
close-requires-clause-before c =
    let bs = branches_of c.args.branch.now.children in
    let p1 = c.args.start + length c.put_zeros.new.out in
    let under = packed_under bs p1 in
    let n : c.len-base.result ≡ length c.args.work.now.stood.items = search rules in
    let kids = kids_are c.len-base.result c.args.work.now.stood.items c.pack.new.work.stood.items under.children n c.in_ok-pack.ensures.ok.1 in
    let at : p1 + length under.bytes ≡ c.args.start + c.len-2.result = omega (arith, c.len-2.ensures, ap length c.in_ok-pack.ensures.ok.0, length-append c.put_zeros.new.out under.bytes) in
    subst (λ k. AllByRecursion (λ (s : Stood). s.position ≤ c.args.start + c.len-2.result) k) (sym kids)
    (subst (λ h. AllByRecursion (λ (s : Stood). s.position ≤ h) under.children) at (all_before p1 (p1 + length under.bytes) under.children (under_between bs p1)))

pub close-requires-clause-node : goal.close-requires-clause-node
close-requires-clause-node c =
    let b = c.args.branch.now in
    let bs = branches_of b.children in
    let p1 = c.args.start + length c.put_zeros.new.out in
    let under = packed_under bs p1 in
    let n : c.len-base.result ≡ length c.args.work.now.stood.items = search rules in
    let kids = kids_are c.len-base.result c.args.work.now.stood.items c.pack.new.work.stood.items under.children n c.in_ok-pack.ensures.ok.1 in
    let at : p1 + length under.bytes ≡ c.args.start + c.len-2.result = omega (arith, c.len-2.ensures, ap length c.in_ok-pack.ensures.ok.0, length-append c.put_zeros.new.out under.bytes) in
    let short : weights bs ≤ 4096 = omega (arith, c.requires.light, c.requires.weight) in
    let fine = node_fine (bytes_in b.payload) bs under.children p1 (p1 + length under.bytes) c.requires.sound.0 c.requires.full c.requires.sound.1 (packed_letters bs p1) (under_between bs p1) (omega (arith, under_len bs p1 short)) in
    let P : List ℕ → List Stood → ℕ → Type 0 = λ q k a. IsNode (record { payload = q; children = map (seen_from a) k }) in
    subst (λ q. P q (drop c.len-base.result c.pack.new.work.stood.items) (c.args.start + c.len-2.result)) (sym c.payload_bytes.ensures.bytes)
    (subst (λ k. P (bytes_in b.payload) k (c.args.start + c.len-2.result)) (sym kids) (subst (λ a. P (bytes_in b.payload) under.children a) at fine))

pub returns : goal.returns
returns c =
    let b = c.args.branch.now in
    let out0 = c.args.work.now.out in
    let s1 = c.pack.new.work.stood.items in
    let out2 = c.pack.new.work.out in
    let at = c.args.start + c.len-2.result in
    let n : c.len-base.result ≡ length c.args.work.now.stood.items = search rules in
    let small : weight (node_in_box b) ≤ 4096 = omega (arith, c.requires.light, c.requires.weight) in
    let place : c.args.start + c.len.result ≡ c.args.start + length out0 = ap (λ k. c.args.start + k) c.len.ensures in
    let size : c.from.result ≡ weight (node_in_box b) = c.from.ensures ∙ c.requires.weight in
    let room : c.gap.result ≡ gap (c.args.start + length out0) (weight (node_in_box b)) =
    c.gap.ensures.value ∙ ap (λ p. gap p c.from.result) place ∙ ap (λ w. gap (c.args.start + length out0) w) size in
    light_closed out0 c.put_zeros.new.out out2 c.close.new.work.out c.args.work.now.stood.items s1 c.close.new.work.stood.items c.push.new.self.items c.args.start c.len-base.result c.gap.result at b.byte (bytes_in b.payload)
    (branches_of b.children) small room c.in_ok-put_zeros.ensures n c.in_ok-pack.ensures.ok.0 c.in_ok-pack.ensures.ok.1 (ap (λ k. c.args.start + k) c.len-2.ensures)
    (c.in_ok-close.ensures.bytes ∙ ap (λ q. out2 ++ node_at_place q (drop c.len-base.result s1) at) c.payload_bytes.ensures.bytes) c.in_ok-close.ensures.stood c.in_ok-push.ensures.items
