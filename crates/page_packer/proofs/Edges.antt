-- What is left of a tree closes it, and grows with it.
use Rattle.std.proofs.Common.{◌≡◌, ℕ, ◌+◌, ◌<◌, ◌≤◌, ◌^◌, Bool, true, false, List, [], ◌∷◌, ◌++◌, length, drop, refl, sym, ◌∙◌, ap, subst, arith, inl, inr, append_assoc, length-append}
use Rattle.std.proofs.lemmas.List.{append-nil}
use Rattle.std.proofs.lemmas.Bool.Decides.{nat_tests}
use Rattle.std.proofs.Math.Seq.{drop-append_seam}
use Rattle.std.specs.Prelude.{◌==◌, if◌then◌else◌}
use Rattle.std.specs.List.{AllByRecursion}
use Rattle.bti_nodes.specs.Spelling.{zeros}
use Rattle.page_packer.specs.declared.work.Stood.{Stood}
use Rattle.page_packer.specs.Tree.{Tree, Branches, tree, end, branch, TrieEntry, IsBelow, key_after, last_key, key_bytes, path, with_key, with_branch, tree_of, letters, weight}
use Rattle.page_packer.specs.Layout.{Laid, lay, lay_under, packed, light, shifted, closed_in_page, gap, node_at_place}
use Rattle.page_packer.specs.Early.{early, early_under, early_of, early_more}
use Rattle.page_packer.specs.Edge.{Edge, whole, above, and_stood, left, left_under, under_of, closes, after, Grown, put_onto, begun, beside_last, with_more, Frontier, Reached, with_one, more_of, frontier_with}
use Rattle.page_packer.proofs.Grown.{last_of, last_under, first_bytes, never_below, grown_sound, grown_more, ascend_more}
use Rattle.page_packer.proofs.Heavier.{key_heavier}
use Rattle.page_packer.proofs.Early.{stays_heavy, early_behind, some_branch}
use Rattle.page_packer.proofs.Laid.{lay_light_is}
use Rattle.page_packer.proofs.Pages.{light_means}

abbrev made : List ℕ → ℕ → Laid
made bytes root = record { bytes = bytes; root = root }

-- bytes before what closes
pub split : (q : List ℕ) (a b : List ℕ) (cs : List Stood) (at : ℕ) → closed_in_page q (under_of (a ++ b) cs) at ≡ after a (closed_in_page q (under_of b cs) at)
split q a b cs at =
    let room = gap at (length (node_at_place q cs at)) in
    let node = node_at_place q cs (at + room) in
    ap (λ x. made x (at + room)) (ap (λ x. x ++ node) (append_assoc a b (zeros room)) ∙ append_assoc a (b ++ zeros room) node)

after_both : (a b : List ℕ) (l : Laid) → after a (after b l) ≡ after (a ++ b) l
after_both a b l = ap (λ x. made x l.root) (sym (append_assoc a b l.bytes))

-- a heavy node with some children that stand, and others that are laid
abbrev finished : List ℕ → List Stood → Branches → ℕ → Laid
finished q done bs p = let under = lay_under bs p in closed_in_page q (under_of under.bytes (done ++ under.children)) (p + length under.bytes)

pub light_is : (t : Tree) (p : ℕ) → light t ≡ true → lay t p ≡ shifted (gap p (weight t)) (packed t (p + gap p (weight t)))
light_is (tree q bs) p h = lay_light_is q bs p (light_means (tree q bs) h)

by_light : (b : Bool) (x y : Laid) (e : List ℕ) (f g : Edge) (p : ℕ) → (b ≡ true → x ≡ after [] (closes f (p + 0))) → y ≡ after e (closes g (p + length e))
    → (if b then x else y) ≡ after (if b then [] else e) (closes (if b then f else g) (p + length (if b then [] else e)))
by_light true x y e f g p h k = h refl
by_light false x y e f g p h k = k

mutual
  pub edge_closes : (t : Tree) (p : ℕ) → lay t p ≡ after (early t p) (closes (left t p) (p + length (early t p)))
  edge_closes (tree q bs) p =
      let t = tree q bs in
      let z : p ≡ p + 0 = omega arith in
      by_light (light t) (shifted (gap p (weight t)) (packed t (p + gap p (weight t)))) (closed_in_page q (lay_under bs p) (p + length (lay_under bs p).bytes)) (early_under bs p) (whole t) (left_under q [] bs p) p
      (λ h. sym (light_is t p h) ∙ ap (lay t) z) (edge_under q [] bs p)

  edge_under : (q : List ℕ) (done : List Stood) (bs : Branches) (p : ℕ) → finished q done bs p ≡ after (early_under bs p) (closes (left_under q done bs p) (p + length (early_under bs p)))
  edge_under q done end p = ap (λ (cs : List Stood). closed_in_page q (under_of [] cs) (p + 0)) (append-nil done)
  edge_under q done (branch b t end) p =
      let e = early t p in
      let to = p + length e in
      let last = closes (left t p) to in
      let is = edge_closes t p in
      let far : p + length (e ++ last.bytes) ≡ to + length last.bytes = omega (arith, length-append e last.bytes) in
      ap (λ (l : Laid). closed_in_page q (under_of (l.bytes ++ []) (and_stood done b l.root)) (p + length (l.bytes ++ []))) is
      ∙ ap (λ x. closed_in_page q (under_of x (and_stood done b last.root)) (p + length x)) (append-nil (e ++ last.bytes))
      ∙ ap (λ n. closed_in_page q (under_of (e ++ last.bytes) (and_stood done b last.root)) n) far
      ∙ split q e last.bytes (and_stood done b last.root) (to + length last.bytes)
  edge_under q done (branch b t (branch c u bs)) p =
      let rest = branch c u bs in
      let first = lay t p in
      let next = p + length first.bytes in
      let under = lay_under rest next in
      let more = and_stood done b first.root in
      let e = early_under rest next in
      let far : p + length (first.bytes ++ under.bytes) ≡ next + length under.bytes = omega (arith, length-append first.bytes under.bytes) in
      let to : next + length e ≡ p + length (first.bytes ++ e) = omega (arith, length-append first.bytes e) in
      ap (λ (cs : List Stood). closed_in_page q (under_of (first.bytes ++ under.bytes) cs) (p + length (first.bytes ++ under.bytes))) (sym (append_assoc done (record { byte = b; position = first.root } ∷ []) under.children))
      ∙ ap (λ n. closed_in_page q (under_of (first.bytes ++ under.bytes) (more ++ under.children)) n) far
      ∙ split q first.bytes under.bytes (more ++ under.children) (next + length under.bytes)
      ∙ ap (after first.bytes) (edge_under q more (branch c u bs) next)
      ∙ after_both first.bytes e (closes (left_under q more rest next) (next + length e))
      ∙ ap (λ n. after (first.bytes ++ e) (closes (left_under q more rest next) n)) to

-- one key more
pub record Steps (e e' : List ℕ) (x' : Edge) (g : Grown) : Type 0 where
  pub bytes : e' ≡ e ++ g.bytes
  pub edge : x' ≡ g.edge

steps_if : (s s' : Bool) (e e' : List ℕ) (f g f' g' : Edge) (key v : List ℕ) (p : ℕ) → (s ≡ false → s' ≡ false) → Steps e e' g' (with_more g key v (p + length e))
    → (s ≡ true → Steps [] (if s' then [] else e') (if s' then f' else g') (with_more f key v (p + 0)))
    → Steps (if s then [] else e) (if s' then [] else e') (if s' then f' else g') (with_more (if s then f else g) key v (p + length (if s then [] else e)))
steps_if true s' e e' f g f' g' key v p k h m = m refl
steps_if false true e e' f g f' g' key v p k h m = absurd (let n : true ≡ false = k refl in cc)
steps_if false false e e' f g f' g' key v p k h m = h

pub left_behind : (q : List ℕ) (done : List Stood) (c : ℕ) (t : Tree) (bs : Branches) (p : ℕ) → 0 < length (letters bs) → left_under q done (branch c t bs) p ≡ left_under q (and_stood done c (lay t p).root) bs (p + length (lay t p).bytes)
left_behind q done c t end p h = absurd (omega arith)
left_behind q done c t (branch d u bs) p h = refl

pick : (s : Bool) (x y : Grown) → s ≡ true → (if s then x else y) ≡ x
pick true x y h = refl
pick false x y h = cc

pass : (s : Bool) (x y : Grown) → s ≡ false → (if s then x else y) ≡ y
pass true x y h = cc
pass false x y h = refl

mutual
  pub key_steps : (t : Tree) (key v : List ℕ) (p : ℕ) → IsBelow (last_of t) key → Steps (early t p) (early (with_key t key v) p) (left (with_key t key v) p) (with_more (left t p) key v (p + length (early t p)))
  key_steps (tree q bs) [] v p h = absurd (never_below (last_under bs) h)
  key_steps (tree q bs) (b ∷ rest) v p h =
      let t = tree q bs in
      let more = with_branch bs b rest v in
      let u = tree q more in
      let z : p ≡ p + 0 = omega arith in
      steps_if (light t) (light u) (early_under bs p) (early_under more p) (whole t) (left_under q [] bs p) (whole u) (left_under q [] more p) (b ∷ rest) v p (stays_heavy t u (key_heavier t (b ∷ rest) v h))
      (branch_steps q [] bs b rest v p h) (λ s. record { bytes = ap (early u) z; edge = ap (left u) z })

  branch_steps : (q : List ℕ) (done : List Stood) (bs : Branches) (b : ℕ) (rest v : List ℕ) (p : ℕ) → IsBelow (last_under bs) (b ∷ rest)
      → Steps (early_under bs p) (early_under (with_branch bs b rest v) p) (left_under q done (with_branch bs b rest v) p) (with_more (left_under q done bs p) (b ∷ rest) v (p + length (early_under bs p)))
  branch_steps q done end b rest v p h =
      let z : p ≡ p + 0 = omega arith in
      record { bytes = ap (early (path rest v)) z; edge = ap (λ n. above q done b (left (path rest v) n)) z }
  branch_steps q done (branch c t end) b rest v p h =
      let e = early t p in
      let to = p + length e in
      let last = closes (left t p) to in
      let on = put_onto q done c (with_more (left t p) rest v to) in
      let off = beside_last last (put_onto q (and_stood done c last.root) b (begun (path rest v) (to + length last.bytes))) in
      elim (first_bytes c b (last_of t) rest h) as (λ _. Steps (early_under (branch c t end) p) (early_under (with_branch (branch c t end) b rest v) p) (left_under q done (with_branch (branch c t end) b rest v) p) (with_more (left_under q done (branch c t end) p) (b ∷ rest) v (p + length (early_under (branch c t end) p)))) [
        | inl less ↦ (let no : (c == b) ≡ false = grind (arith, nat_tests) in
            let is = edge_closes t p in
            let far : p + length (lay t p).bytes ≡ to + length last.bytes = omega (arith, ap (λ (l : Laid). length l.bytes) is, length-append e last.bytes) in
            let begins : Steps e ((lay t p).bytes ++ early (path rest v) (p + length (lay t p).bytes)) (above q (and_stood done c (lay t p).root) b (left (path rest v) (p + length (lay t p).bytes))) off = record {
              bytes = ap (λ (l : Laid). l.bytes ++ early (path rest v) (p + length (lay t p).bytes)) is ∙ ap (λ n. (e ++ last.bytes) ++ early (path rest v) n) far ∙ append_assoc e last.bytes (early (path rest v) (to + length last.bytes));
              edge = ap (λ (l : Laid). above q (and_stood done c l.root) b (left (path rest v) (p + length (lay t p).bytes))) is ∙ ap (λ n. above q (and_stood done c last.root) b (left (path rest v) n)) far;
            } in
            rw no begins)
        | inr same ↦ (let x = same.0 in
            let yes : (c == b) ≡ true = grind (arith, nat_tests) in
            let k = key_steps t rest v p same.1 in
            let goes : Steps e (early (with_key t rest v) p) (above q done c (left (with_key t rest v) p)) on = record { bytes = k.bytes; edge = ap (above q done c) k.edge } in
            rw yes goes)
      ]
  branch_steps q done (branch c t (branch d u bs)) b rest v p h =
      let all = branch d u bs in
      let more = with_branch all b rest v in
      let first = lay t p in
      let next = p + length first.bytes in
      let stood = and_stood done c first.root in
      let e = early_under all next in
      let to : next + length e ≡ p + length (first.bytes ++ e) = omega (arith, length-append first.bytes e) in
      let k = branch_steps q stood (branch d u bs) b rest v next h in
      let some = some_branch all b rest v in
      let one : Steps (first.bytes ++ e) (first.bytes ++ early_under more next) (left_under q stood more next) (with_more (left_under q stood all next) (b ∷ rest) v (next + length e)) = record {
        bytes = ap (λ x. first.bytes ++ x) k.bytes ∙ sym (append_assoc first.bytes e (with_more (left_under q stood all next) (b ∷ rest) v (next + length e)).bytes);
        edge = k.edge;
      } in
      subst (λ n. Steps (first.bytes ++ e) (early_under (branch c t more) p) (left_under q done (branch c t more) p) (with_more (left_under q stood all next) (b ∷ rest) v n)) to (record { bytes = early_behind c t more p some ∙ one.bytes; edge = left_behind q done c t more p some ∙ one.edge })

bytes_more : (es : List TrieEntry) (e : TrieEntry) → key_bytes (es ++ e ∷ []) ≡ key_bytes es + length e.key
bytes_more [] e = omega arith
bytes_more (x ∷ es) e = let h = bytes_more es e in omega (arith, h)

last_more : (es : List TrieEntry) (last : List ℕ) (e : TrieEntry) → key_after last (es ++ e ∷ []) ≡ e.key
last_more [] last e = refl
last_more (x ∷ es) last e = last_more es x.key e

abbrev entry : List ℕ → List ℕ → TrieEntry
entry k v = record { key = k; payload = v }

pub frontier_grows : (p : Frontier) (es : List TrieEntry) (key v : List ℕ) → Reached p es → IsBelow p.last key → AllByRecursion (λ b. b < 256) key → 0 < length v → length v ≤ 7 → p.bytes + length key ≤ 2 ^ 30
    → Reached (frontier_with p key v) (with_one es key v) × ((more_of p key v).bytes ≡ early_more es (entry key v ∷ []) p.start)
frontier_grows p es key v h above_last bytes paid short few =
    let t = tree_of es in
    let e = early t p.start in
    let s = grown_sound es (tree [] end) (omega arith, tt, tt) h.entries in
    let below : IsBelow (last_key es) key = subst (λ k. IsBelow k key) h.last above_last in
    let below_tree : IsBelow (last_of t) key = subst (λ k. IsBelow k key) (sym s.1) below in
    let k = key_steps t key v p.start below_tree in
    let u_is : tree_of (with_one es key v) ≡ with_key t key v = grown_more es (tree [] end) (entry key v) in
    let g = with_more (left t p.start) key v (p.start + length e) in
    let same : more_of p key v ≡ g = ap (λ (x : Edge). with_more x key v p.end_) h.edge ∙ ap (λ n. with_more (left t p.start) key v n) h.end_ in
    let grew : early (tree_of (with_one es key v)) p.start ≡ e ++ (more_of p key v).bytes = ap (λ (x : Tree). early x p.start) u_is ∙ k.bytes ∙ ap (λ (x : Grown). e ++ x.bytes) (sym same) in (
      record {
        entries = ascend_more es [] (entry key v) h.entries below (record { bytes = bytes; paid = paid; short = short });
        few = omega (arith, bytes_more es (entry key v), few, h.bytes);
        edge = ap (λ (x : Grown). x.edge) same ∙ sym k.edge ∙ ap (λ (x : Tree). left x p.start) (sym u_is);
        end_ = omega (arith, h.end_, ap length grew, length-append e (more_of p key v).bytes);
        bytes = omega (arith, bytes_more es (entry key v), h.bytes);
        last = sym (last_more es [] (entry key v));
      },
      sym (ap (λ x. drop (length e) x) grew ∙ drop-append_seam e (more_of p key v).bytes),
    )

pub frontier_closes : (p : Frontier) (es : List TrieEntry) → Reached p es → lay (tree_of es) p.start ≡ after (early_of es p.start) (closes p.edge p.end_)
frontier_closes p es h =
    edge_closes (tree_of es) p.start ∙ ap (λ n. after (early_of es p.start) (closes (left (tree_of es) p.start) n)) (sym h.end_) ∙ ap (λ (x : Edge). after (early_of es p.start) (closes x p.end_)) (sym h.edge)
