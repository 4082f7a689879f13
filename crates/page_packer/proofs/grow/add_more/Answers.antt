use Rattle.std.proofs.Common.{rules, ◌≡◌, ◌+◌, ◌<◌, ◌≤◌, ◌^◌, ◌++◌, List, length, drop, refl, sym, ◌∙◌, ap, subst, arith, length-drop}
use Rattle.bti_nodes.specs.Spelling.{bytes_in}
use Rattle.page_packer.specs.declared.edge.Level.{Level}
use Rattle.page_packer.specs.Tree.{with_key, IsBelow}
use Rattle.page_packer.specs.Sound.{Sound, count}
use Rattle.page_packer.specs.Layout.{Laid, lay}
use Rattle.page_packer.specs.Early.{early}
use Rattle.page_packer.specs.Edge.{whole}
use Rattle.page_packer.specs.Levels.{tree_in, closes_over, followed}
use Rattle.page_packer.proofs.Grown.{last_of, path_sound, key_sound}
use Rattle.std.specs.List.{AllByRecursion}
use Rattle.page_packer.proofs.Length.{path_count, key_count}
use Rattle.page_packer.proofs.Added.{all_bytes, take_len}
use Rattle.page_packer.proofs.Closed.{over_closes}
use Rattle.page_packer.proofs.Followed.{leaves}
use Rattle.page_packer.proofs.Grows.{on_ok, map_ok, part_room, below_drop, bytes_behind, parted_grew, followed_grew, follow_len}
use Rattle.page_packer.proofs.grow.add_more.Goals as goal

pub part-requires-clause-some : goal.part-requires-clause-some
part-requires-clause-some c =
    let ls = c.args.levels.now.items in
    let t = tree_in c.args.held in
    let key = c.args.key.now in
    let v = bytes_in c.args.payload in
    let p = c.args.start in
    let d = c.follow-depth.result in
    let d_is : d ≡ followed ls key = c.follow-depth.ensures.value ∙ ap (λ (x : List Level). followed x key) c.as_slice.ensures.value in
    let n : c.len.result ≡ length ls = search rules in
    let deep : d < length ls = omega (arith, n, c.if-depth-len.true) in
    let r = leaves ls t key v p d d_is deep c.requires.below in
    r.some

pub part-requires-clause-room : goal.part-requires-clause-room
part-requires-clause-room c =
    let ls = c.args.levels.now.items in
    let t = tree_in c.args.held in
    let key = c.args.key.now in
    let v = bytes_in c.args.payload in
    let p = c.args.start in
    let d = c.follow-depth.result in
    let d_is : d ≡ followed ls key = c.follow-depth.ensures.value ∙ ap (λ (x : List Level). followed x key) c.as_slice.ensures.value in
    let n : c.len.result ≡ length ls = search rules in
    let deep : d < length ls = omega (arith, n, c.if-depth-len.true) in
    let room : length (closes_over (drop (d + 1) ls) (lay t p) p).bytes < 2 ^ 38 = omega (arith, part_room (d + 1) ls (lay t p) p, ap (λ (x : Laid). length x.bytes) (over_closes ls (whole t) p), c.requires.room) in
    room

pub settle-requires-clause-sound : goal.settle-requires-clause-sound
settle-requires-clause-sound c =
    let ls = c.args.levels.now.items in
    let t = tree_in c.args.held in
    let key = c.args.key.now in
    let v = bytes_in c.args.payload in
    let p = c.args.start in
    let d = c.follow-depth.result in
    let d_is : d ≡ followed ls key = c.follow-depth.ensures.value ∙ ap (λ (x : List Level). followed x key) c.as_slice.ensures.value in
    let n : c.len.result ≡ length ls = search rules in
    let deep : d < length ls = omega (arith, n, c.if-depth-len.true) in
    let seven : length c.args.payload.bytes ≡ 7 = search rules in
    let size : length v ≡ c.args.payload.count = take_len c.args.payload.count c.args.payload.bytes (omega (arith, seven, c.requires.short)) in
    let paid : 0 < length v = omega (arith, size, c.requires.paid) in
    let short : length v ≤ 7 = omega (arith, size, c.requires.short) in
    let bytes = all_bytes key c.type_inv.key in
    let k = path_sound (drop (d + 1) key) v (bytes_behind (d + 1) key bytes) paid short in
    subst Sound (sym c.in_ok-next.ensures.tree) k.0

pub settle-requires-clause-few : goal.settle-requires-clause-few
settle-requires-clause-few c =
    let ls = c.args.levels.now.items in
    let t = tree_in c.args.held in
    let key = c.args.key.now in
    let v = bytes_in c.args.payload in
    let p = c.args.start in
    let d = c.follow-depth.result in
    let d_is : d ≡ followed ls key = c.follow-depth.ensures.value ∙ ap (λ (x : List Level). followed x key) c.as_slice.ensures.value in
    let n : c.len.result ≡ length ls = search rules in
    let deep : d < length ls = omega (arith, n, c.if-depth-len.true) in
    let rest = drop (d + 1) key in
    let k : count (tree_in c.in_ok-next.next) ≡ length rest + 1 = ap count c.in_ok-next.ensures.tree ∙ path_count rest v in
    let some = leaves ls t key v p d d_is deep c.requires.below in
    omega (arith, k, length-drop (d + 1) key, c.requires.few)

pub settle-requires-clause-room : goal.settle-requires-clause-room
settle-requires-clause-room c =
    let ls = c.args.levels.now.items in
    let t = tree_in c.args.held in
    let key = c.args.key.now in
    let v = bytes_in c.args.payload in
    let p = c.args.start in
    let d = c.follow-depth.result in
    let d_is : d ≡ followed ls key = c.follow-depth.ensures.value ∙ ap (λ (x : List Level). followed x key) c.as_slice.ensures.value in
    let n : c.len.result ≡ length ls = search rules in
    let deep : d < length ls = omega (arith, n, c.if-depth-len.true) in
    let room : length (closes_over (drop (d + 1) ls) (lay t p) p).bytes < 2 ^ 38 = omega (arith, part_room (d + 1) ls (lay t p) p, ap (λ (x : Laid). length x.bytes) (over_closes ls (whole t) p), c.requires.room) in
    let rest = drop (d + 1) key in
    let k : count (tree_in c.in_ok-next.next) ≡ length rest + 1 = ap count c.in_ok-next.ensures.tree ∙ path_count rest v in
    let some = leaves ls t key v p d d_is deep c.requires.below in
    omega (arith, k, length-drop (d + 1) key, c.requires.few, c.requires.start, room, ap length c.in_ok-next.ensures.bytes)

pub returns-then-depth-len-clause-bytes : goal.returns-then-depth-len-clause-bytes
returns-then-depth-len-clause-bytes c =
    let ls = c.args.levels.now.items in
    let t = tree_in c.args.held in
    let key = c.args.key.now in
    let v = bytes_in c.args.payload in
    let p = c.args.start in
    let d = c.follow-depth.result in
    let d_is : d ≡ followed ls key = c.follow-depth.ensures.value ∙ ap (λ (x : List Level). followed x key) c.as_slice.ensures.value in
    let n : c.len.result ≡ length ls = search rules in
    let deep : d < length ls = omega (arith, n, c.if-depth-len.true) in
    let to = p + length c.part.new.work.out in
    let u = tree_in c.in_ok-next.next in
    on_ok c.settle.result _ _ (λ e. (parted_grew ls c.part.new.levels.items t u key v p d c.part.new.work.out c.settle.new.work.out _ d_is deep c.requires.below c.in_ok-next.ensures.bytes c.in_ok-next.ensures.tree c.in_ok-next.ensures.levels e refl).bytes) c.settle.ensures.bytes

pub returns-then-depth-len-clause-edge : goal.returns-then-depth-len-clause-edge
returns-then-depth-len-clause-edge c =
    let ls = c.args.levels.now.items in
    let t = tree_in c.args.held in
    let key = c.args.key.now in
    let v = bytes_in c.args.payload in
    let p = c.args.start in
    let d = c.follow-depth.result in
    let d_is : d ≡ followed ls key = c.follow-depth.ensures.value ∙ ap (λ (x : List Level). followed x key) c.as_slice.ensures.value in
    let n : c.len.result ≡ length ls = search rules in
    let deep : d < length ls = omega (arith, n, c.if-depth-len.true) in
    let to = p + length c.part.new.work.out in
    let u = tree_in c.in_ok-next.next in
    map_ok c.settle.result _ _ (λ x e. (parted_grew ls c.part.new.levels.items t u key v p d c.part.new.work.out (c.part.new.work.out ++ early u to) _ d_is deep c.requires.below c.in_ok-next.ensures.bytes c.in_ok-next.ensures.tree c.in_ok-next.ensures.levels refl e).edge) c.settle.ensures.edge

pub split_at-requires : goal.split_at-requires
split_at-requires c =
    let ls = c.args.levels.now.items in
    let t = tree_in c.args.held in
    let key = c.args.key.now in
    let v = bytes_in c.args.payload in
    let p = c.args.start in
    let d = c.follow-depth.result in
    let d_is : d ≡ followed ls key = c.follow-depth.ensures.value ∙ ap (λ (x : List Level). followed x key) c.as_slice.ensures.value in
    let n : c.len.result ≡ length ls = search rules in
    let same : length c.as_slice.result.now ≡ length ls = ap (λ (x : List Level). length x) c.as_slice.ensures.value in
    let all : d ≡ length ls = omega (arith, n, c.if-depth-len.false, c.follow-depth.ensures.few, same) in
    omega (arith, follow_len ls key, d_is)

pub settle-requires-2-clause-sound : goal.settle-requires-2-clause-sound
settle-requires-2-clause-sound c =
    let ls = c.args.levels.now.items in
    let t = tree_in c.args.held in
    let key = c.args.key.now in
    let v = bytes_in c.args.payload in
    let p = c.args.start in
    let d = c.follow-depth.result in
    let d_is : d ≡ followed ls key = c.follow-depth.ensures.value ∙ ap (λ (x : List Level). followed x key) c.as_slice.ensures.value in
    let n : c.len.result ≡ length ls = search rules in
    let same : length c.as_slice.result.now ≡ length ls = ap (λ (x : List Level). length x) c.as_slice.ensures.value in
    let all : d ≡ length ls = omega (arith, n, c.if-depth-len.false, c.follow-depth.ensures.few, same) in
    let seven : length c.args.payload.bytes ≡ 7 = search rules in
    let size : length v ≡ c.args.payload.count = take_len c.args.payload.count c.args.payload.bytes (omega (arith, seven, c.requires.short)) in
    let paid : 0 < length v = omega (arith, size, c.requires.paid) in
    let short : length v ≤ 7 = omega (arith, size, c.requires.short) in
    let bytes = all_bytes key c.type_inv.key in
    let h : followed ls key ≡ length ls = sym d_is ∙ all in
    let rest = c.split_at.result.1.now in
    let rest_is : rest ≡ drop d key = c.split_at.ensures.back in
    let u = tree_in c.in_ok-next-2.next in
    let below : IsBelow (last_of t) rest = subst (λ k. IsBelow (last_of t) k) (sym (rest_is ∙ ap (λ k. drop k key) all)) (below_drop ls t key h c.requires.below) in
    let rest_bytes = subst (λ k. AllByRecursion (λ b. b < 256) k) (sym rest_is) (bytes_behind d key bytes) in
    subst Sound (sym c.in_ok-next-2.ensures.tree) (key_sound t rest v c.requires.sound rest_bytes paid short below).0

pub settle-requires-2-clause-few : goal.settle-requires-2-clause-few
settle-requires-2-clause-few c =
    let ls = c.args.levels.now.items in
    let t = tree_in c.args.held in
    let key = c.args.key.now in
    let v = bytes_in c.args.payload in
    let p = c.args.start in
    let d = c.follow-depth.result in
    let d_is : d ≡ followed ls key = c.follow-depth.ensures.value ∙ ap (λ (x : List Level). followed x key) c.as_slice.ensures.value in
    let n : c.len.result ≡ length ls = search rules in
    let same : length c.as_slice.result.now ≡ length ls = ap (λ (x : List Level). length x) c.as_slice.ensures.value in
    let all : d ≡ length ls = omega (arith, n, c.if-depth-len.false, c.follow-depth.ensures.few, same) in
    let h : followed ls key ≡ length ls = sym d_is ∙ all in
    let rest = c.split_at.result.1.now in
    let rest_is : rest ≡ drop d key = c.split_at.ensures.back in
    let u = tree_in c.in_ok-next-2.next in
    let below : IsBelow (last_of t) rest = subst (λ k. IsBelow (last_of t) k) (sym (rest_is ∙ ap (λ k. drop k key) all)) (below_drop ls t key h c.requires.below) in
    let k = key_count t rest v in
    let m : count u ≡ count (with_key t rest v) = ap count c.in_ok-next-2.ensures.tree in
    omega (arith, k, m, ap length rest_is, length-drop d key, c.requires.few)

pub settle-requires-2-clause-room : goal.settle-requires-2-clause-room
settle-requires-2-clause-room c =
    let ls = c.args.levels.now.items in
    let t = tree_in c.args.held in
    let key = c.args.key.now in
    let v = bytes_in c.args.payload in
    let p = c.args.start in
    let d = c.follow-depth.result in
    let d_is : d ≡ followed ls key = c.follow-depth.ensures.value ∙ ap (λ (x : List Level). followed x key) c.as_slice.ensures.value in
    let n : c.len.result ≡ length ls = search rules in
    let same : length c.as_slice.result.now ≡ length ls = ap (λ (x : List Level). length x) c.as_slice.ensures.value in
    let all : d ≡ length ls = omega (arith, n, c.if-depth-len.false, c.follow-depth.ensures.few, same) in
    let h : followed ls key ≡ length ls = sym d_is ∙ all in
    let rest = c.split_at.result.1.now in
    let rest_is : rest ≡ drop d key = c.split_at.ensures.back in
    let u = tree_in c.in_ok-next-2.next in
    let below : IsBelow (last_of t) rest = subst (λ k. IsBelow (last_of t) k) (sym (rest_is ∙ ap (λ k. drop k key) all)) (below_drop ls t key h c.requires.below) in
    let k = key_count t rest v in
    let m : count u ≡ count (with_key t rest v) = ap count c.in_ok-next-2.ensures.tree in
    omega (arith, k, m, ap length rest_is, length-drop d key, c.requires.few, c.requires.start, ap length c.requires.out)

pub returns-clause-bytes : goal.returns-clause-bytes
returns-clause-bytes c =
    let ls = c.args.levels.now.items in
    let t = tree_in c.args.held in
    let key = c.args.key.now in
    let v = bytes_in c.args.payload in
    let p = c.args.start in
    let d = c.follow-depth.result in
    let d_is : d ≡ followed ls key = c.follow-depth.ensures.value ∙ ap (λ (x : List Level). followed x key) c.as_slice.ensures.value in
    let n : c.len.result ≡ length ls = search rules in
    let same : length c.as_slice.result.now ≡ length ls = ap (λ (x : List Level). length x) c.as_slice.ensures.value in
    let all : d ≡ length ls = omega (arith, n, c.if-depth-len.false, c.follow-depth.ensures.few, same) in
    let h : followed ls key ≡ length ls = sym d_is ∙ all in
    let rest = c.split_at.result.1.now in
    let rest_is : rest ≡ drop d key = c.split_at.ensures.back in
    let u = tree_in c.in_ok-next-2.next in
    let below : IsBelow (last_of t) rest = subst (λ k. IsBelow (last_of t) k) (sym (rest_is ∙ ap (λ k. drop k key) all)) (below_drop ls t key h c.requires.below) in
    on_ok c.settle-2.result _ _ (λ e. (followed_grew ls t u key rest v p d c.args.work.now.out c.settle-2.new.work.out _ d_is all rest_is c.in_ok-next-2.ensures.tree c.requires.out e refl).bytes) c.settle-2.ensures.bytes

pub returns-clause-edge : goal.returns-clause-edge
returns-clause-edge c =
    let ls = c.args.levels.now.items in
    let t = tree_in c.args.held in
    let key = c.args.key.now in
    let v = bytes_in c.args.payload in
    let p = c.args.start in
    let d = c.follow-depth.result in
    let d_is : d ≡ followed ls key = c.follow-depth.ensures.value ∙ ap (λ (x : List Level). followed x key) c.as_slice.ensures.value in
    let n : c.len.result ≡ length ls = search rules in
    let same : length c.as_slice.result.now ≡ length ls = ap (λ (x : List Level). length x) c.as_slice.ensures.value in
    let all : d ≡ length ls = omega (arith, n, c.if-depth-len.false, c.follow-depth.ensures.few, same) in
    let h : followed ls key ≡ length ls = sym d_is ∙ all in
    let rest = c.split_at.result.1.now in
    let rest_is : rest ≡ drop d key = c.split_at.ensures.back in
    let u = tree_in c.in_ok-next-2.next in
    let below : IsBelow (last_of t) rest = subst (λ k. IsBelow (last_of t) k) (sym (rest_is ∙ ap (λ k. drop k key) all)) (below_drop ls t key h c.requires.below) in
    let out0 = c.args.work.now.out in
    map_ok c.settle-2.result _ _ (λ x e. (followed_grew ls t u key rest v p d out0 (out0 ++ early u (p + length out0)) _ d_is all rest_is c.in_ok-next-2.ensures.tree c.requires.out refl e).edge) c.settle-2.ensures.edge
