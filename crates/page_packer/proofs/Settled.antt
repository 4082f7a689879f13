-- A heavy subtree is settled, one level after the other.
use Rattle.std.proofs.Common.{◌≡◌, ℕ, ◌+◌, ◌<◌, ◌≤◌, Bool, true, false, List, [], ◌∷◌, ◌++◌, length, refl, sym, ◌∙◌, ap, arith, append_assoc, length-append}
use Rattle.std.proofs.lemmas.List.{append-nil}
use Rattle.std.proofs.lemmas.Bool.Decides.{nat_tests}
use Rattle.std.specs.Prelude.{if◌then◌else◌}
use Rattle.bti_nodes.specs.Spelling.{bytes_in}
use Rattle.page_packer.specs.declared.work.Stood.{Stood}
use Rattle.page_packer.specs.declared.edge.Level.{Level}
use Rattle.page_packer.specs.Tree.{Tree, Branches, tree, end, branch, letters, weight}
use Rattle.page_packer.specs.Layout.{lay, lay_under, light}
use Rattle.page_packer.specs.Early.{early, early_under}
use Rattle.page_packer.specs.Boxes.{and_last, capped}
use Rattle.page_packer.proofs.Length.{weight_short}
use Rattle.page_packer.specs.Edge.{Edge, whole, above, and_stood, left, left_under}
use Rattle.page_packer.specs.Levels.{edge_over}
use Rattle.page_packer.proofs.Early.{early_behind}
use Rattle.page_packer.proofs.Edges.{left_behind}

some_last : (bs : Branches) (b : ℕ) (t : Tree) → 0 < length (letters (and_last bs b t))
some_last end b t = omega arith
some_last (branch c u bs) b t = omega arith

pub early_last : (bs : Branches) (b : ℕ) (t : Tree) (p : ℕ) → early_under (and_last bs b t) p ≡ (lay_under bs p).bytes ++ early t (p + length (lay_under bs p).bytes)
early_last end b t p = let z : p ≡ p + 0 = omega arith in ap (early t) z
early_last (branch c u bs) b t p =
    let first = lay u p in
    let next = p + length first.bytes in
    let rest = lay_under bs next in
    let far : next + length rest.bytes ≡ p + length (first.bytes ++ rest.bytes) = omega (arith, length-append first.bytes rest.bytes) in
    early_behind c u (and_last bs b t) p (some_last bs b t) ∙ ap (λ x. first.bytes ++ x) (early_last bs b t next) ∙ sym (append_assoc first.bytes rest.bytes (early t (next + length rest.bytes))) ∙ ap (λ n. (first.bytes ++ rest.bytes) ++ early t n) far

pub left_last : (q : List ℕ) (done : List Stood) (bs : Branches) (b : ℕ) (t : Tree) (p : ℕ) → left_under q done (and_last bs b t) p ≡ above q (done ++ (lay_under bs p).children) b (left t (p + length (lay_under bs p).bytes))
left_last q done end b t p = let z : p ≡ p + 0 = omega arith in ap (λ n. above q done b (left t n)) z ∙ ap (λ (cs : List Stood). above q cs b (left t (p + 0))) (sym (append-nil done))
left_last q done (branch c u bs) b t p =
    let first = lay u p in
    let next = p + length first.bytes in
    let rest = lay_under bs next in
    let far : next + length rest.bytes ≡ p + length (first.bytes ++ rest.bytes) = omega (arith, length-append first.bytes rest.bytes) in
    left_behind q done c u (and_last bs b t) p (some_last bs b t) ∙ left_last q (and_stood done c first.root) bs b t next
    ∙ ap (λ (cs : List Stood). above q cs b (left t (next + length rest.bytes))) (append_assoc done (record { byte = c; position = first.root } ∷ []) rest.children)
    ∙ ap (λ n. above q (done ++ (record { byte = c; position = first.root } ∷ rest.children)) b (left t n)) far

pick_bytes : (s : Bool) (x y : List ℕ) → s ≡ true → (if s then x else y) ≡ x
pick_bytes true x y h = refl
pick_bytes false x y h = cc

pass_bytes : (s : Bool) (x y : List ℕ) → s ≡ false → (if s then x else y) ≡ y
pass_bytes true x y h = cc
pass_bytes false x y h = refl

pick_edge : (s : Bool) (x y : Edge) → s ≡ true → (if s then x else y) ≡ x
pick_edge true x y h = refl
pick_edge false x y h = cc

pass_edge : (s : Bool) (x y : Edge) → s ≡ false → (if s then x else y) ≡ y
pass_edge true x y h = cc
pass_edge false x y h = refl

pub light_early : (q : List ℕ) (bs : Branches) (p : ℕ) → weight (tree q bs) ≤ 4096 → (early (tree q bs) p ≡ []) × (left (tree q bs) p ≡ whole (tree q bs))
light_early q bs p h =
    let t = tree q bs in
    let s : light t ≡ true = grind (arith, nat_tests) in
    (pick_bytes (light t) [] (early_under bs p) s, pick_edge (light t) (whole t) (left_under q [] bs p) s)

pub heavy_early : (q : List ℕ) (bs : Branches) (p : ℕ) → 4096 < weight (tree q bs) → (early (tree q bs) p ≡ early_under bs p) × (left (tree q bs) p ≡ left_under q [] bs p)
heavy_early q bs p h =
    let t = tree q bs in
    let s : light t ≡ false = grind (arith, nat_tests) in
    (pass_bytes (light t) [] (early_under bs p) s, pass_edge (light t) (whole t) (left_under q [] bs p) s)

pub over_more : (ls : List Level) (l : Level) (e : Edge) → edge_over (ls ++ l ∷ []) e ≡ edge_over ls (above (bytes_in l.payload) l.done.items l.byte e)
over_more [] l e = refl
over_more (m ∷ ls) l e = ap (above (bytes_in m.payload) m.done.items m.byte) (over_more ls l e)

-- one level
pub record Settles (out out2 : List ℕ) (ls ms : List Level) (start : ℕ) (t u : Tree) : Type 0 where
  pub bytes : out2 ++ early u (start + length out2) ≡ out ++ early t (start + length out)
  pub edge : edge_over ms (left u (start + length out2)) ≡ edge_over ls (left t (start + length out))

pub settles : (out out2 : List ℕ) (ls ms : List Level) (l : Level) (start b : ℕ) (q : List ℕ) (bs cs : Branches) (t : Tree) → 4096 < weight (tree q bs) → bs ≡ and_last cs b t → out2 ≡ out ++ (lay_under cs (start + length out)).bytes
    → ms ≡ ls ++ l ∷ [] → bytes_in l.payload ≡ q → l.done.items ≡ (lay_under cs (start + length out)).children → l.byte ≡ b → Settles out out2 ls ms start (tree q bs) t
settles out out2 ls ms l start b q bs cs t big e f g i j k =
    let p = start + length out in
    let under = lay_under cs p in
    let is = heavy_early q bs p big in
    let far : start + length out2 ≡ p + length under.bytes = omega (arith, ap length f, length-append out under.bytes) in
    let all = ap (λ (x : Branches). early_under x p) e ∙ early_last cs b t p in
    let rest = ap (λ (x : Branches). left_under q [] x p) e ∙ left_last q [] cs b t p in
    record {
      bytes = ap (λ n. out2 ++ early t n) far ∙ ap (λ x. x ++ early t (p + length under.bytes)) f ∙ append_assoc out under.bytes (early t (p + length under.bytes)) ∙ ap (λ x. out ++ x) (sym all) ∙ ap (λ x. out ++ x) (sym is.0);
      edge = ap (λ n. edge_over ms (left t n)) far ∙ ap (λ (x : List Level). edge_over x (left t (p + length under.bytes))) g ∙ over_more ls l (left t (p + length under.bytes))
          ∙ ap (λ x. edge_over ls (above x l.done.items l.byte (left t (p + length under.bytes)))) i ∙ ap (λ (x : List Stood). edge_over ls (above q x l.byte (left t (p + length under.bytes)))) j
          ∙ ap (λ n. edge_over ls (above q under.children n (left t (p + length under.bytes)))) k ∙ ap (edge_over ls) (sym rest) ∙ ap (edge_over ls) (sym is.1);
    }

pub over_weight : (s w : ℕ) → s ≡ capped w → 4096 < s → 4096 < w
over_weight s w e h = omega (arith, e, h)

pub no_heavy_leaf : (q : List ℕ) (bs : Branches) → bs ≡ end → length q ≤ 7 → 4096 < weight (tree q bs) → ⊥
no_heavy_leaf q bs e short big = omega (arith, weight_short q end short tt, ap (λ (x : Branches). weight (tree q x)) e, big)
