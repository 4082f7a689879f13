-- A file that has a layout has each of its nodes and light subtrees.
use Rattle.std.proofs.Common.{◌≡◌, ℕ, ◌+◌, Bool, true, false, List, [], ◌∷◌, ◌++◌, length, refl, sym, ◌∙◌, ap, arith, append_assoc, length-append}
use Rattle.std.specs.Prelude.{if◌then◌else◌}
use Rattle.std.specs.List.{AllByRecursion}
use Rattle.bti_nodes.specs.Spelling.{zeros}
use Rattle.page_packer.specs.Tree.{Tree, Branches, tree, end, branch, TrieEntry, weight, tree_of}
use Rattle.page_packer.specs.Layout.{Laid, lay, lay_under, packed, packed_under, light, gap, node_at_place}
use Rattle.page_packer.specs.Pages.{Span, StandsIn, SpansIn, packed_nodes, packed_nodes_under, packed_subtrees, packed_subtrees_under, laid_nodes, laid_nodes_under, light_subtrees, light_subtrees_under}
use Rattle.page_packer.proofs.Length.{zeros_len}
use Rattle.page_packer.proofs.Laid.{lay_heavy_is}
use Rattle.page_packer.proofs.Edges.{light_is}
use Rattle.page_packer.proofs.Reading.{in_front, moved_on, heavy}

both : (file : List ℕ) (xs ys : List Span) → AllByRecursion (StandsIn file) xs → AllByRecursion (StandsIn file) ys → AllByRecursion (StandsIn file) (xs ++ ys)
both file [] ys a b = b
both file (x ∷ xs) ys a b = (a.0, both file xs ys a.1 b)

chosen : (b : Bool) (file : List ℕ) (xs ys : List Span) → (b ≡ true → AllByRecursion (StandsIn file) xs) → (b ≡ false → AllByRecursion (StandsIn file) ys) → AllByRecursion (StandsIn file) (if b then xs else ys)
chosen true file xs ys f g = f refl
chosen false file xs ys f g = g refl

mutual
  packed_stand : (t : Tree) (p : ℕ) (file front rest : List ℕ) → p ≡ length front → file ≡ front ++ ((packed t p).bytes ++ rest)
      → AllByRecursion (StandsIn file) (packed_nodes t p) × AllByRecursion (StandsIn file) (packed_subtrees t p)
  packed_stand (tree q bs) p file front rest e f =
      let under = packed_under bs p in
      let at = p + length under.bytes in
      let node = node_at_place q under.children at in
      let below = packed_stand_under bs p file front (node ++ rest) e (in_front file front under.bytes node rest f) in (
        both file (packed_nodes_under bs p) _ below.0 ((front ++ under.bytes, rest, moved_on file front under.bytes node rest f, omega (arith, e, length-append front under.bytes)), tt),
        both file (packed_subtrees_under bs p) _ below.1 ((front, rest, f, sym e), tt),
      )

  packed_stand_under : (bs : Branches) (p : ℕ) (file front rest : List ℕ) → p ≡ length front → file ≡ front ++ ((packed_under bs p).bytes ++ rest)
      → AllByRecursion (StandsIn file) (packed_nodes_under bs p) × AllByRecursion (StandsIn file) (packed_subtrees_under bs p)
  packed_stand_under end p file front rest e f = (tt, tt)
  packed_stand_under (branch b t bs) p file front rest e f =
      let first = packed t p in
      let next = p + length first.bytes in
      let others = packed_under bs next in
      let one = packed_stand t p file front (others.bytes ++ rest) e (in_front file front first.bytes others.bytes rest f) in
      let more = packed_stand_under bs next file (front ++ first.bytes) rest (omega (arith, e, length-append front first.bytes)) (moved_on file front first.bytes others.bytes rest f) in (
        both file (packed_nodes t p) (packed_nodes_under bs next) one.0 more.0,
        both file (packed_subtrees t p) (packed_subtrees_under bs next) one.1 more.1,
      )

-- a light subtree behind its zeros
light_stands : (t : Tree) (p : ℕ) (file front rest : List ℕ) → p ≡ length front → file ≡ front ++ ((lay t p).bytes ++ rest) → light t ≡ true
    → AllByRecursion (StandsIn file) (packed_nodes t (p + gap p (weight t))) × AllByRecursion (StandsIn file) (packed_subtrees t (p + gap p (weight t)))
light_stands t p file front rest e f fits =
    let room = gap p (weight t) in
    let whole = packed t (p + room) in
    let g : file ≡ front ++ ((zeros room ++ whole.bytes) ++ rest) = f ∙ ap (λ (l : Laid). front ++ (l.bytes ++ rest)) (light_is t p fits) in
    packed_stand t (p + room) file (front ++ zeros room) rest (omega (arith, e, length-append front (zeros room), zeros_len room)) (moved_on file front (zeros room) whole.bytes rest g)

mutual
  laid_stand : (t : Tree) (p : ℕ) (file front rest : List ℕ) → p ≡ length front → file ≡ front ++ ((lay t p).bytes ++ rest)
      → AllByRecursion (StandsIn file) (laid_nodes t p) × AllByRecursion (StandsIn file) (light_subtrees t p)
  laid_stand (tree q bs) p file front rest e f =
      let t = tree q bs in
      let under = lay_under bs p in
      let at = p + length under.bytes in
      let room = gap at (length (node_at_place q under.children at)) in
      let node = node_at_place q under.children (at + room) in
      let before = under.bytes ++ zeros room in
      let whole : light t ≡ false → file ≡ front ++ ((before ++ node) ++ rest) = λ over. f ∙ ap (λ (l : Laid). front ++ (l.bytes ++ rest)) (lay_heavy_is q bs p (heavy t over)) in
      let inner : light t ≡ false → file ≡ front ++ (under.bytes ++ ((zeros room ++ node) ++ rest)) =
      λ over. whole over ∙ ap (λ x. front ++ (x ++ rest)) (append_assoc under.bytes (zeros room) node) ∙ ap (λ x. front ++ x) (append_assoc under.bytes (zeros room ++ node) rest) in
      let long : length (front ++ before) ≡ at + room = omega (arith, e, length-append front before, length-append under.bytes (zeros room), zeros_len room) in
      let light_one = light_stands (tree q bs) p file front rest e f in (
        chosen (light t) file (packed_nodes t (p + gap p (weight t))) _ (λ fits. (light_one fits).0)
            (λ over. both file (laid_nodes_under bs p) _ (laid_stand_under bs p file front ((zeros room ++ node) ++ rest) e (inner over)).0 ((front ++ before, rest, moved_on file front before node rest (whole over), long), tt)),
        chosen (light t) file (packed_subtrees t (p + gap p (weight t))) (light_subtrees_under bs p) (λ fits. (light_one fits).1)
            (λ over. (laid_stand_under bs p file front ((zeros room ++ node) ++ rest) e (inner over)).1),
      )

  laid_stand_under : (bs : Branches) (p : ℕ) (file front rest : List ℕ) → p ≡ length front → file ≡ front ++ ((lay_under bs p).bytes ++ rest)
      → AllByRecursion (StandsIn file) (laid_nodes_under bs p) × AllByRecursion (StandsIn file) (light_subtrees_under bs p)
  laid_stand_under end p file front rest e f = (tt, tt)
  laid_stand_under (branch b t bs) p file front rest e f =
      let first = lay t p in
      let next = p + length first.bytes in
      let others = lay_under bs next in
      let one = laid_stand t p file front (others.bytes ++ rest) e (in_front file front first.bytes others.bytes rest f) in
      let more = laid_stand_under bs next file (front ++ first.bytes) rest (omega (arith, e, length-append front first.bytes)) (moved_on file front first.bytes others.bytes rest f) in (
        both file (laid_nodes t p) (laid_nodes_under bs next) one.0 more.0,
        both file (light_subtrees t p) (light_subtrees_under bs next) one.1 more.1,
      )

pub spans_stand : (es : List TrieEntry) (front rest : List ℕ) → SpansIn es front rest
spans_stand es front rest =
    let stand = laid_stand (tree_of es) (length front) (front ++ ((lay (tree_of es) (length front)).bytes ++ rest)) front rest refl refl in
    record { nodes = stand.0; subtrees = stand.1 }
