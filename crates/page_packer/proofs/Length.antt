-- How long a layout is.
use Rattle.std.proofs.Common.{◌≡◌, ℕ, zero, suc, ◌+◌, ◌-◌, ◌*◌, ◌%◌, ◌^◌, ◌<◌, ◌≤◌, Bool, true, false, List, [], ◌∷◌, ◌++◌, length, map, refl, ◌∙◌, ap, arith, length-append}
use Rattle.std.proofs.lemmas.List.{length-map}
use Rattle.std.proofs.lemmas.Bool.Decides.{nat_tests}
use Rattle.std.specs.Prelude.{if◌then◌else◌, nat_lt, ◌==◌}
use Rattle.bti_nodes.specs.Spelling.{Parts, outline_by, outline_size, distant, chosen, last_letter, zeros}
use Rattle.bti_nodes.proofs.Sizes.{size_is_length}
use Rattle.bti_nodes.proofs.Choice.{size_by_children, by_outline}
use Rattle.page_packer.specs.Tree.{Tree, Branches, tree, end, branch, TrieEntry, AreEntries, key_bytes, tree_of, grown, path, with_key, with_branch, weight, weights, weight_here, letters, unplaced}
use Rattle.page_packer.specs.Layout.{Laid, lay, lay_under, packed, light, gap, shifted, closed_in_page, node_at_place, seen_from}
use Rattle.page_packer.specs.Sound.{Ascend, Sound, SoundUnder, count, counts}
use Rattle.page_packer.specs.declared.work.Stood.{Stood}
use Rattle.page_packer.proofs.Grown.{sound_tree}
use Rattle.page_packer.proofs.Pages.{SameLetters, Between, near, wider, few, last_below, laid_letters, node_some, packed_len, root_between, light_means}

abbrev pub branches : Branches → ℕ
branches end = 0
branches (branch b t bs) = branches bs + 1

n_letters : (bs : Branches) → length (letters bs) ≡ branches bs
n_letters end = refl
n_letters (branch b t bs) = ap suc (n_letters bs) ∙ omega arith

n_children : (bs : Branches) (cs : List Stood) → SameLetters bs cs → length cs ≡ branches bs
n_children end [] s = refl
n_children end (c ∷ cs) s = absurd s
n_children (branch b t bs) [] s = absurd s
n_children (branch b t bs) (c ∷ cs) s = ap suc (n_children bs cs s.1) ∙ omega arith

-- the bytes of a node whose children stand near
pub node_short : (q : List ℕ) (bs : Branches) (cs : List Stood) (low at : ℕ) → length q ≤ 7 → Ascend 0 bs → SameLetters bs cs → Between low at cs → at - low < 2 ^ 40 → length (node_at_place q cs at) ≤ 9 + 6 * branches bs
node_short q bs cs low at short a s between close =
    let parts : Parts = record { payload = q; children = map (seen_from at) cs } in
    let n : length parts.children ≡ branches bs = length-map cs (seen_from at) ∙ n_children bs cs s in
    let h = size_by_children parts short (omega (arith, few 0 at bs cs (omega arith) a s)) (last_below 0 at bs cs a s) (omega (arith, near low at cs between)) in
    omega (arith, size_is_length parts, h, n)

last_unplaced : (low : ℕ) (bs : Branches) → Ascend low bs → last_letter (map unplaced (letters bs)) < 256
last_unplaced low end a = omega arith
last_unplaced low (branch b t end) a = omega (arith, a.1)
last_unplaced low (branch b t (branch b' t' bs)) a = last_unplaced (b + 1) (branch b' t' bs) a.2

pub few_branches : (low : ℕ) (bs : Branches) → low ≤ 256 → Ascend low bs → low + branches bs ≤ 256
few_branches low end l a = omega arith
few_branches low (branch b t bs) l a = let h = few_branches (b + 1) bs (omega (arith, a.1)) a.2 in omega (arith, h, a.0)

far_small : (t : Bool) → (if t then 0 else 4095) ≤ 4095
far_small true = omega arith
far_small false = omega arith

pub weight_short : (q : List ℕ) (bs : Branches) → length q ≤ 7 → Ascend 0 bs → weight_here q bs ≤ 9 + 6 * branches bs
unfolding outline_size chosen
weight_short q end short a = omega arith
weight_short q (branch b t bs) short a =
    let all = branch b t bs in
    let o = distant (outline_by (length q) (map unplaced (letters all))) in
    let n : length (map unplaced (letters all)) ≡ branches all = length-map (letters all) unplaced ∙ n_letters all in
    omega (arith, n, by_outline o (omega arith) short (omega (arith, n, few_branches 0 all (omega arith) a)) (last_unplaced 0 all a) (omega (arith, far_small (o.count == 0))))

mutual
  weight_count : (t : Tree) → Sound t → 2 * weight t + 12 ≤ 30 * count t
  weight_count (tree q bs) s = let h = weights_count bs s.2 in let n = weight_short q bs s.0 s.1 in omega (arith, h, n)

  weights_count : (bs : Branches) → SoundUnder bs → 2 * weights bs + 12 * branches bs ≤ 30 * counts bs
  weights_count end s = omega arith
  weights_count (branch b t bs) s = let h = weight_count t s.0 in let k = weights_count bs s.2 in omega (arith, h, k)

pub zeros_len : (n : ℕ) → length (zeros n) ≡ n
zeros_len zero = refl
zeros_len (suc n) = ap suc (zeros_len n)

gap_by : (b : Bool) (p n : ℕ) → nat_lt 4096 (p % 4096 + n) ≡ b → (if b then 4096 - p % 4096 else 0) ≤ n
gap_by true p n e = grind (arith, nat_tests)
gap_by false p n e = omega arith

pub gap_small : (p n : ℕ) → gap p n ≤ n
gap_small p n = gap_by (nat_lt 4096 (p % 4096 + n)) p n refl

chosen_len : (b : Bool) (x y : Laid) (n : ℕ) → (b ≡ true → length x.bytes ≤ n) → length y.bytes ≤ n → length (if b then x else y).bytes ≤ n
chosen_len true x y n a c = a refl
chosen_len false x y n a c = c

room_root : (b : Bool) (x y : Laid) (p : ℕ) → (p ≤ x.root) × (x.root < p + length x.bytes) → (p ≤ y.root) × (y.root < p + length y.bytes) → (p ≤ (if b then x else y).root) × ((if b then x else y).root < p + length (if b then x else y).bytes)
room_root true x y p a c = a
room_root false x y p a c = c

mutual
  pub lay_root : (t : Tree) (p : ℕ) → (p ≤ (lay t p).root) × ((lay t p).root < p + length (lay t p).bytes)
  lay_root (tree q bs) p =
      let t = tree q bs in
      let room = gap p (weight t) in
      let whole = packed t (p + room) in
      let under = lay_under bs p in
      let at = p + length under.bytes in
      let more = gap at (length (node_at_place q under.children at)) in
      let root = root_between t (p + room) in
      room_root (light t) (shifted room whole) (closed_in_page q under at) p
      (omega (arith, root.0), omega (arith, root.1, length-append (zeros room) whole.bytes, zeros_len room))
      (omega arith, omega (arith, length-append (under.bytes ++ zeros more) (node_at_place q under.children (at + more)), length-append under.bytes (zeros more), zeros_len more, node_some q under.children (at + more)))

  pub lay_between : (bs : Branches) (p : ℕ) → Between p (p + length (lay_under bs p).bytes) (lay_under bs p).children
  lay_between end p = tt
  lay_between (branch b t bs) p =
      let first = lay t p in
      let next = p + length first.bytes in
      let rest = lay_under bs next in
      let root = lay_root t p in
      let len = length-append first.bytes rest.bytes in
      (root.0, omega (arith, root.1, len), wider next p (next + length rest.bytes) (p + length (first.bytes ++ rest.bytes)) rest.children (omega arith) (omega (arith, len)) (lay_between bs next))

light_len : (t : Tree) (p : ℕ) → Sound t → light t ≡ true → length (shifted (gap p (weight t)) (packed t (p + gap p (weight t)))).bytes ≤ 30 * count t - 12
light_len t p s h =
    let room = gap p (weight t) in
    omega (arith, length-append (zeros room) (packed t (p + room)).bytes, zeros_len room, gap_small p (weight t), packed_len t (p + room) (light_means t h), weight_count t s)

heavy_len : (q : List ℕ) (bs : Branches) (p : ℕ) → Sound (tree q bs) → length (lay_under bs p).bytes + 12 * branches bs ≤ 30 * counts bs → counts bs ≤ 2 ^ 31
    → length (closed_in_page q (lay_under bs p) (p + length (lay_under bs p).bytes)).bytes ≤ 30 * (counts bs + 1) - 12
heavy_len q bs p s h small =
    let under = lay_under bs p in
    let at = p + length under.bytes in
    let node = node_at_place q under.children at in
    let more = gap at (length node) in
    let moved = node_at_place q under.children (at + more) in
    let between = lay_between bs p in
    let k : branches bs ≤ 256 = omega (arith, few_branches 0 bs (omega arith) s.1) in
    let a = node_short q bs under.children p at s.0 s.1 (laid_letters bs p) between (omega (arith, h)) in
    let room : more ≤ length node = gap_small at (length node) in
    let b = node_short q bs under.children p (at + more) s.0 s.1 (laid_letters bs p) (wider p p at (at + more) under.children (omega arith) (omega arith) between) (omega (arith, h, a, room, k)) in
    omega (arith, h, a, b, room, length-append (under.bytes ++ zeros more) moved, length-append under.bytes (zeros more), zeros_len more)

mutual
  pub lay_len : (t : Tree) (p : ℕ) → Sound t → count t ≤ 2 ^ 31 → length (lay t p).bytes ≤ 30 * count t - 12
  lay_len (tree q bs) p s small =
      let t = tree q bs in
      let room = gap p (weight t) in
      let under = lay_under bs p in
      chosen_len (light t) (shifted room (packed t (p + room))) (closed_in_page q under (p + length under.bytes)) (30 * count t - 12) (λ h. light_len t p s h)
      (heavy_len q bs p s (lay_under_len bs p s.2 (omega arith)) (omega arith))

  pub lay_under_len : (bs : Branches) (p : ℕ) → SoundUnder bs → counts bs ≤ 2 ^ 31 → length (lay_under bs p).bytes + 12 * branches bs ≤ 30 * counts bs
  lay_under_len end p s small = omega arith
  lay_under_len (branch b t bs) p s small =
      let first = lay t p in
      let rest = lay_under bs (p + length first.bytes) in
      let a = lay_len t p s.0 (omega arith) in
      let c = lay_under_len bs (p + length first.bytes) s.2 (omega arith) in
      omega (arith, a, c, length-append first.bytes rest.bytes, weight_count t s.0)

pub path_count : (k p : List ℕ) → count (path k p) ≡ length k + 1
path_count [] p = omega arith
path_count (b ∷ k) p = let h = path_count k p in omega (arith, h)

one_branch : (b : Bool) (c d : ℕ) (t u v : Tree) (n : ℕ) → count u ≤ count t + n → count v ≤ n → counts (if b then branch c u end else branch c t (branch d v end)) ≤ counts (branch c t end) + n
one_branch true c d t u v n h k = omega (arith, h)
one_branch false c d t u v n h k = omega (arith, k)

mutual
  pub key_count : (t : Tree) (k p : List ℕ) → count (with_key t k p) ≤ count t + length k
  key_count (tree q bs) [] p = omega arith
  key_count (tree q bs) (b ∷ k) p = let h = branch_count bs b k p in omega (arith, h)

  branch_count : (bs : Branches) (b : ℕ) (k p : List ℕ) → counts (with_branch bs b k p) ≤ counts bs + suc (length k)
  branch_count end b k p = let h = path_count k p in omega (arith, h)
  branch_count (branch c t end) b k p =
      one_branch (c == b) c b t (with_key t k p) (path k p) (suc (length k)) (let h = key_count t k p in omega (arith, h)) (let h = path_count k p in omega (arith, h))
  branch_count (branch c t (branch d u bs)) b k p = let h = branch_count (branch d u bs) b k p in omega (arith, h)

grown_count : (es : List TrieEntry) (t : Tree) → count (grown t es) ≤ count t + key_bytes es
grown_count [] t = omega arith
grown_count (e ∷ es) t = let h = grown_count es (with_key t e.key e.payload) in let k = key_count t e.key e.payload in omega (arith, h, k)

pub tree_count : (es : List TrieEntry) → count (tree_of es) ≤ key_bytes es + 1
tree_count es = let n = grown_count es (tree [] end) in omega (arith, n)

pub length_bound : (es : List TrieEntry) (p : ℕ) → AreEntries es → key_bytes es ≤ 2 ^ 30 → length (lay (tree_of es) p).bytes ≤ 32 * (key_bytes es + 1)
length_bound es p entries small =
    let n = tree_count es in
    omega (arith, n, lay_len (tree_of es) p (sound_tree es entries) (omega (arith, n)))
