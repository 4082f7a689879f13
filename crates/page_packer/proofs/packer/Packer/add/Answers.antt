use Rattle.std.proofs.Common.{rules, ◌≡◌, ◌+◌, ◌^◌, ◌<◌, ◌≤◌, ℕ, List, Ok, length, refl, sym, ◌∙◌, ap, subst, arith}
use Rattle.bti_nodes.specs.Spelling.{bytes_in}
use Rattle.page_packer.specs.declared.edge.Whole.{Whole}
use Rattle.page_packer.specs.Tree.{TrieEntry, IsBelow}
use Rattle.page_packer.specs.Sound.{IsFull, Sound, count}
use Rattle.page_packer.specs.Edge.{Grown, Frontier, whole, closes, with_more, with_one, more_of}
use Rattle.page_packer.specs.Boxes.{IsWeighed}
use Rattle.page_packer.specs.Levels.{tree_in, edge_over, last_over}
use Rattle.page_packer.specs.Packing.{Packing, AppendsSome, packing_bytes_for}
use Rattle.outside.specs.declared.store.FileId.{FileId}
use Rattle.page_packer.specs.Packs.{frontier_of, Packs}
use Rattle.page_packer.proofs.Added.{all_bytes, take_len}
use Rattle.page_packer.proofs.Streamed.{ready, next_packs}
use Rattle.bti_nodes.specs.declared.damage.PackError.{PackError}
use Rattle.page_packer.proofs.Edges.{frontier_grows}
use Rattle.page_packer.proofs.packer.Packer.add.Goals as goal

pub add_more-requires-clause-levels : goal.add_more-requires-clause-levels
add_more-requires-clause-levels g c =
    let s = c.args.self.now in
    let p = c.requires.key.packing in
    let h = c.requires.key.packs in
    let same : c.replace-held.result ≡ s.held = c.replace-held.ensures.value in
    let t = tree_in s.held in
    let ls = s.levels.items in
    let r = ready (frontier_of s) p.entries ls t h.reached refl in
    r.levels

pub add_more-requires-clause-sound : goal.add_more-requires-clause-sound
add_more-requires-clause-sound g c =
    let s = c.args.self.now in
    let p = c.requires.key.packing in
    let h = c.requires.key.packs in
    let same : c.replace-held.result ≡ s.held = c.replace-held.ensures.value in
    let t = tree_in s.held in
    let ls = s.levels.items in
    let r = ready (frontier_of s) p.entries ls t h.reached refl in
    subst (λ (w : Whole). Sound (tree_in w)) (sym same) r.sound

pub add_more-requires-clause-weighed : goal.add_more-requires-clause-weighed
add_more-requires-clause-weighed g c = subst (λ (w : Whole). IsWeighed w.children) (sym c.replace-held.ensures.value) c.requires.key.packs.weighed

pub add_more-requires-clause-full : goal.add_more-requires-clause-full
add_more-requires-clause-full g c =
    let s = c.args.self.now in
    let p = c.requires.key.packing in
    let h = c.requires.key.packs in
    let same : c.replace-held.result ≡ s.held = c.replace-held.ensures.value in
    let t = tree_in s.held in
    let ls = s.levels.items in
    let r = ready (frontier_of s) p.entries ls t h.reached refl in
    subst (λ (w : Whole). 0 < length ls → IsFull (tree_in w)) (sym same) r.full

pub add_more-requires-clause-few : goal.add_more-requires-clause-few
add_more-requires-clause-few g c =
    let s = c.args.self.now in
    let p = c.requires.key.packing in
    let h = c.requires.key.packs in
    let same : c.replace-held.result ≡ s.held = c.replace-held.ensures.value in
    let t = tree_in s.held in
    let ls = s.levels.items in
    let r = ready (frontier_of s) p.entries ls t h.reached refl in
    omega (arith, r.count_, ap (λ (w : Whole). count (tree_in w)) same, h.reached.bytes, c.requires.key.few)

pub add_more-requires-clause-start : goal.add_more-requires-clause-start
add_more-requires-clause-start g c =
    let s = c.args.self.now in
    let p = c.requires.key.packing in
    let h = c.requires.key.packs in
    let same : c.replace-held.result ≡ s.held = c.replace-held.ensures.value in
    let t = tree_in s.held in
    let ls = s.levels.items in
    let r = ready (frontier_of s) p.entries ls t h.reached refl in
    omega (arith, r.near, h.place)

pub add_more-requires-clause-room : goal.add_more-requires-clause-room
add_more-requires-clause-room g c =
    let s = c.args.self.now in
    let p = c.requires.key.packing in
    let h = c.requires.key.packs in
    let same : c.replace-held.result ≡ s.held = c.replace-held.ensures.value in
    let t = tree_in s.held in
    let ls = s.levels.items in
    let r = ready (frontier_of s) p.entries ls t h.reached refl in
    omega (arith, r.room, ap (λ (w : Whole). length (closes (edge_over ls (whole (tree_in w))) s.end_).bytes) same)

pub overflow_add-self : goal.overflow_add-self
overflow_add-self g c =
    let s = c.args.self.now in
    let p = c.requires.key.packing in
    let h = c.requires.key.packs in
    let same : c.replace-held.result ≡ s.held = c.replace-held.ensures.value in
    let t = tree_in s.held in
    let ls = s.levels.items in
    let r = ready (frontier_of s) p.entries ls t h.reached refl in
    let key = c.args.key.now in
    let above : IsBelow (frontier_of s).last key = subst (λ (k : List ℕ). IsBelow k key) (sym h.reached.last) c.requires.key.above in
    let few : s.bytes + length key ≤ 2 ^ 30 = omega (arith, h.reached.bytes, c.requires.key.few) in
    let v = bytes_in c.args.payload in
    let seven : length c.args.payload.bytes ≡ 7 = search rules in
    let size : length v ≡ c.args.payload.count = take_len c.args.payload.count c.args.payload.bytes (omega (arith, seven, c.requires.short)) in
    let paid : 0 < length v = omega (arith, size, c.requires.paid) in
    let short : length v ≤ 7 = omega (arith, size, c.requires.short) in
    let bytes = all_bytes key c.type_inv.key in
    let more : with_more (edge_over ls (whole (tree_in c.replace-held.result))) key v s.end_ ≡ more_of (frontier_of s) key v = ap (λ (w : Whole). with_more (edge_over ls (whole (tree_in w))) key v s.end_) same in
    let out : c.add_more.new.work.out ≡ (more_of (frontier_of s) key v).bytes = c.in_ok-self.ensures.bytes ∙ ap (λ (x : Grown). x.bytes) more in
    let len : c.len.result ≡ length (more_of (frontier_of s) key v).bytes = c.len.ensures ∙ ap (λ (x : List ℕ). length x) out in
    let ms = c.add_more.new.levels.items in
    let u = tree_in c.in_ok-self.field-0 in
    let edge : edge_over ms (whole u) ≡ (more_of (frontier_of s) key v).edge = c.in_ok-self.ensures.edge ∙ ap (λ (x : Grown). x.edge) more in
    let q : Frontier = record { file = s.file; start = s.start; end_ = s.end_ + c.len.result; bytes = s.bytes + length key; last = last_over ms u; edge = edge_over ms (whole u) } in
    let packs = λ (x : Packing) (k : Packs s x). next_packs (frontier_of s) q x.entries key v ms u k.reached above bytes paid short few refl edge (ap (λ n. s.end_ + n) len) refl refl refl in
    let n = ready q (with_one p.entries key v) ms u (packs p h) refl in
    omega (arith, n.near, h.place)

pub returns-clause-added : goal.returns-clause-added
returns-clause-added g c =
    let s = c.args.self.now in
    let p = c.requires.key.packing in
    let h = c.requires.key.packs in
    let same : c.replace-held.result ≡ s.held = c.replace-held.ensures.value in
    let t = tree_in s.held in
    let ls = s.levels.items in
    let r = ready (frontier_of s) p.entries ls t h.reached refl in
    let key = c.args.key.now in
    let above : IsBelow (frontier_of s).last key = subst (λ (k : List ℕ). IsBelow k key) (sym h.reached.last) c.requires.key.above in
    let few : s.bytes + length key ≤ 2 ^ 30 = omega (arith, h.reached.bytes, c.requires.key.few) in
    let v = bytes_in c.args.payload in
    let seven : length c.args.payload.bytes ≡ 7 = search rules in
    let size : length v ≡ c.args.payload.count = take_len c.args.payload.count c.args.payload.bytes (omega (arith, seven, c.requires.short)) in
    let paid : 0 < length v = omega (arith, size, c.requires.paid) in
    let short : length v ≤ 7 = omega (arith, size, c.requires.short) in
    let bytes = all_bytes key c.type_inv.key in
    let more : with_more (edge_over ls (whole (tree_in c.replace-held.result))) key v s.end_ ≡ more_of (frontier_of s) key v = ap (λ (w : Whole). with_more (edge_over ls (whole (tree_in w))) key v s.end_) same in
    let out : c.add_more.new.work.out ≡ (more_of (frontier_of s) key v).bytes = c.in_ok-self.ensures.bytes ∙ ap (λ (x : Grown). x.bytes) more in
    let len : c.len.result ≡ length (more_of (frontier_of s) key v).bytes = c.len.ensures ∙ ap (λ (x : List ℕ). length x) out in
    let ms = c.add_more.new.levels.items in
    let u = tree_in c.in_ok-self.field-0 in
    let edge : edge_over ms (whole u) ≡ (more_of (frontier_of s) key v).edge = c.in_ok-self.ensures.edge ∙ ap (λ (x : Grown). x.edge) more in
    let q : Frontier = record { file = s.file; start = s.start; end_ = s.end_ + c.len.result; bytes = s.bytes + length key; last = last_over ms u; edge = edge_over ms (whole u) } in
    let packs = λ (x : Packing) (k : Packs s x). next_packs (frontier_of s) q x.entries key v ms u k.reached above bytes paid short few refl edge (ap (λ n. s.end_ + n) len) refl refl refl in
    let law = λ (x : Packing) (k : Packs s x). (frontier_grows (frontier_of s) x.entries key v k.reached above bytes paid short few).1 ∙ ap (λ n. packing_bytes_for (record x { start = n }) key v) k.start in
    let files = g.K.Store.files c.args.store.now in
    let now = g.K.Store.files c.append_some.new.store in
    let w : AppendsSome {T = Unit {0}} {E = PackError} files now s.file (Ok tt) (more_of (frontier_of s) key v).bytes = search rules in
    record {
      packs = λ x k. record { file = k.file; start = k.start; reached = packs x k; weighed = c.in_ok-self.ensures.weighed; place = k.place; out = c.truncate.ensures; stood = c.in_ok-self.ensures.stood };
      appends = λ x k.
          subst (λ (f : FileId). AppendsSome {T = Unit {0}} {E = PackError} files now f (Ok tt) (packing_bytes_for x key v)) k.file
          (subst (λ (b : List ℕ). AppendsSome {T = Unit {0}} {E = PackError} files now s.file (Ok tt) b) (law x k) w);
    }

pub returns-in_err-append_some-clause-added : goal.returns-in_err-append_some-clause-added
returns-in_err-append_some-clause-added g c =
    let s = c.args.self.now in
    let p = c.requires.key.packing in
    let h = c.requires.key.packs in
    let same : c.replace-held.result ≡ s.held = c.replace-held.ensures.value in
    let t = tree_in s.held in
    let ls = s.levels.items in
    let r = ready (frontier_of s) p.entries ls t h.reached refl in
    let key = c.args.key.now in
    let above : IsBelow (frontier_of s).last key = subst (λ (k : List ℕ). IsBelow k key) (sym h.reached.last) c.requires.key.above in
    let few : s.bytes + length key ≤ 2 ^ 30 = omega (arith, h.reached.bytes, c.requires.key.few) in
    let v = bytes_in c.args.payload in
    let seven : length c.args.payload.bytes ≡ 7 = search rules in
    let size : length v ≡ c.args.payload.count = take_len c.args.payload.count c.args.payload.bytes (omega (arith, seven, c.requires.short)) in
    let paid : 0 < length v = omega (arith, size, c.requires.paid) in
    let short : length v ≤ 7 = omega (arith, size, c.requires.short) in
    let bytes = all_bytes key c.type_inv.key in
    let law = λ (x : Packing) (k : Packs s x). (frontier_grows (frontier_of s) x.entries key v k.reached above bytes paid short few).1 ∙ ap (λ n. packing_bytes_for (record x { start = n }) key v) k.start in
    let files = g.K.Store.files c.args.store.now in
    let now = g.K.Store.files c.append_some.new.store in
    let w : AppendsSome {T = Unit {0}} {E = PackError} files now s.file c.from_residual-in_err-append_some.result (more_of (frontier_of s) key v).bytes = search rules in
    record {
      packs = search rules;
      appends = λ x k.
          subst (λ (f : FileId). AppendsSome {T = Unit {0}} {E = PackError} files now f c.from_residual-in_err-append_some.result (packing_bytes_for x key v)) k.file
          (subst (λ (b : List ℕ). AppendsSome {T = Unit {0}} {E = PackError} files now s.file c.from_residual-in_err-append_some.result b) (law x k) w);
    }
