-- What the publishing store leaves in the home that a walk found before the put.
use Rattle.std.proofs.Common.{◌≡◌, ℕ, ◌+◌, ◌*◌, ◌/◌, ◌%◌, ◌^◌, ◌<◌, List, [], ◌∷◌, ◌++◌, Some, sym, ap, ◌∙◌, subst, arith}
use Rattle.cell_layout.specs.declared.Kind.TheVariants as kind
use Rattle.cell_layout.specs.Pointers.{kind_at, record_cell}
use Rattle.cell_layout.specs.Slots.{slot_at}
use Rattle.cell_layout.proofs.Added.{slot_small}
use Rattle.trie_image.specs.declared.Owner.{Owner}
use Rattle.trie_image.specs.declared.Owner.TheVariants.{HeadCell, ChainCell, SparseCell, TopCell, LeafCell, PrefixCell}
use Rattle.trie_image.specs.declared.Ledger.{Ledger}
use Rattle.trie_image.specs.Image.{word_of, field}
use Rattle.trie_image.specs.Paths.{owner, HasPath}
use Rattle.trie_image.specs.Cell.{IsPrefixCell, IsImage}
use Rattle.trie_image.specs.Same.{IsSame}
use Rattle.trie_image.proofs.Kept.{same_field}
use Rattle.trie_image.proofs.Exits.{IsNode, path_nonzero}
use Rattle.trie_image.proofs.Homes.{Home, root, tail, slot, leaf, content, node}
use Rattle.trie_image.proofs.NewSplitNode.{path_small}
use Rattle.trie_image.proofs.HomeStores.{stored_field}
use Rattle.trie_image.proofs.HomeChanges.{Publishes}
use Rattle.trie_image.proofs.HomePublishes.{root_publishes, tail_publishes, slot_publishes, leaf_publishes, content_publishes, node_publishes}

-- what a prefix cell asks of a pointer that is put in it: a node as its node, the key's new record as its content
pub record ForCell (g : Ledger) (key : List ℕ) (new : ℕ) (q : List ℕ) (cell place p' : ℕ) : Type 0 where
  pub at_node : owner g cell ≡ Some (PrefixCell q) → place ≡ 1 → IsNode p'
  pub at_content : owner g cell ≡ Some (PrefixCell q) → place ≡ 0 → (q ≡ key) × (kind_at p' ≡ Some kind.Content) × (record_cell p' ≡ new)

module _ (w w1 : List ℕ) (g g' : Ledger) (cells : ℕ) (ok : IsImage w g cells) (same : IsSame w w1 g) (ok1 : IsImage w1 g' cells) (grows : (c : ℕ) (o : Owner) → owner g c ≡ Some o → owner g' c ≡ Some o) (key : List ℕ) (new : ℕ) where
  module _ (q : List ℕ) (cell place p p' : ℕ) (at : HasPath g' p' q) (held : field w cell place ≡ p) where
    fits : p' < 2 ^ 32
    fits = path_small g' p' q ok1.head at

    -- with the field's old pointer
    as_held : field w1 cell place ≡ field w cell place → Publishes w1 (stored_field w1 cell place p') g' cells (field w1 cell place) p' q key new → Publishes w1 (stored_field w1 cell place p') g' cells p p' q key new
    as_held e h = subst (λ (x : ℕ). Publishes w1 (stored_field w1 cell place p') g' cells x p' q key new) (e ∙ held) h

    at_root : cell ≡ 0 → place ≡ 2 → q ≡ [] → Publishes w1 (stored_field w1 cell place p') g' cells p p' q key new
    at_root c i z = as_held (subst (λ (x : ℕ). field w1 x place ≡ field w x place) (sym c) (subst (λ (x : ℕ). field w1 0 x ≡ field w 0 x) (sym i) (same.cells 0 HeadCell ok.head)))
        (subst (λ (x : ℕ). Publishes w1 (stored_field w1 x place p') g' cells (field w1 x place) p' q key new) (sym c) (subst (λ (x : ℕ). Publishes w1 (stored_field w1 0 x p') g' cells (field w1 0 x) p' q key new) (sym i)
        (subst (λ (l : List ℕ). Publishes w1 (stored_field w1 0 2 p') g' cells (field w1 0 2) p' l key new) (sym z) (root_publishes w1 g' cells ok1 key new p' fits (subst (HasPath g' p') z at)))))

    at_tail : (from : ℕ) → owner g cell ≡ Some (ChainCell from q) → place ≡ 7 → Publishes w1 (stored_field w1 cell place p') g' cells p p' q key new
    at_tail from own i = as_held (subst (λ (x : ℕ). field w1 cell x ≡ field w cell x) (sym i) (same_field w w1 cell 7 (same.cells cell (ChainCell from q) own) (omega arith)))
        (subst (λ (x : ℕ). Publishes w1 (stored_field w1 cell x p') g' cells (field w1 cell x) p' q key new) (sym i) (tail_publishes w1 g' cells ok1 key new cell p' from q (grows cell (ChainCell from q) own) fits at))

    at_slot : (b : ℕ) (before : List ℕ) → q ≡ before ++ b ∷ [] → owner g cell ≡ Some (SparseCell before) → slot_at (word_of w cell 3) b ≡ Some place → Publishes w1 (stored_field w1 cell place p') g' cells p p' q key new
    at_slot b before z own e = let s = same.cells cell (SparseCell before) own in let now : slot_at (word_of w1 cell 3) b ≡ Some place = ap (λ (x : ℕ). slot_at x b) s.0 ∙ e in as_held (s.1 b place e)
        (subst (λ (l : List ℕ). Publishes w1 (stored_field w1 cell place p') g' cells (field w1 cell place) p' l key new) (sym z)
        (slot_publishes w1 g' cells ok1 key new cell p' place b before (grows cell (SparseCell before) own) now (let l = slot_small (word_of w cell 3) b place e in omega (arith, l)) fits (subst (HasPath g' p') z at)))

    at_leaf : (b t : ℕ) (before : List ℕ) → q ≡ before ++ b ∷ [] → owner g t ≡ Some (TopCell before) → owner g cell ≡ Some (LeafCell t (b / 64) (b / 8 % 8)) → place ≡ b % 8 → Publishes w1 (stored_field w1 cell place p') g' cells p p' q key new
    at_leaf b t before z top own i = let small : place < 8 = omega arith in let byte : 64 * (b / 64) + 8 * (b / 8 % 8) + place ≡ b = omega arith in let path : before ++ (64 * (b / 64) + 8 * (b / 8 % 8) + place) ∷ [] ≡ q = ap (λ (x : ℕ). before ++ x ∷ []) byte ∙ sym z in
        as_held (same_field w w1 cell place (same.cells cell (LeafCell t (b / 64) (b / 8 % 8)) own) small)
        (subst (λ (l : List ℕ). Publishes w1 (stored_field w1 cell place p') g' cells (field w1 cell place) p' l key new) path
        (leaf_publishes w1 g' cells ok1 key new cell p' place t (b / 64) (b / 8 % 8) before (grows cell (LeafCell t (b / 64) (b / 8 % 8)) own) small fits (grows t (TopCell before) top) (subst (HasPath g' p') (sym path) at)))

    at_prefix_content : owner g cell ≡ Some (PrefixCell q) → place ≡ 0 → (q ≡ key) × (kind_at p' ≡ Some kind.Content) × (record_cell p' ≡ new) → Publishes w1 (stored_field w1 cell place p') g' cells p p' q key new
    at_prefix_content own i (is_key, is, rec) = as_held (subst (λ (x : ℕ). field w1 cell x ≡ field w cell x) (sym i) (same_field w w1 cell 0 (same.cells cell (PrefixCell q) own) (omega arith)))
        (subst (λ (x : ℕ). Publishes w1 (stored_field w1 cell x p') g' cells (field w1 cell x) p' q key new) (sym i) (subst (λ (l : List ℕ). Publishes w1 (stored_field w1 cell 0 p') g' cells (field w1 cell 0) p' l key new) (sym is_key)
        (content_publishes w1 g' cells ok1 key new cell p' (grows cell (PrefixCell key) (subst (λ (l : List ℕ). owner g cell ≡ Some (PrefixCell l)) is_key own)) fits (subst (HasPath g' p') is_key at) is rec)))

    at_prefix_node : owner g cell ≡ Some (PrefixCell q) → place ≡ 1 → IsNode p' → Publishes w1 (stored_field w1 cell place p') g' cells p p' q key new
    at_prefix_node own i is = let cell_ : IsPrefixCell w1 g' cell q = ok1.each cell (PrefixCell q) (grows cell (PrefixCell q) own) in as_held (subst (λ (x : ℕ). field w1 cell x ≡ field w cell x) (sym i) (same_field w w1 cell 1 (same.cells cell (PrefixCell q) own) (omega arith)))
        (subst (λ (x : ℕ). Publishes w1 (stored_field w1 cell x p') g' cells (field w1 cell x) p' q key new) (sym i)
        (node_publishes w1 g' cells ok1 key new cell p' q (grows cell (PrefixCell q) own) fits at is (path_nonzero g' (field w1 cell 1) q cell_.node) (path_nonzero g' p' q at)))

    -- in any home
    pub home_publishes : Home w g q cell place → ForCell g key new q cell place p' → Publishes w1 (stored_field w1 cell place p') g' cells p p' q key new
    home_publishes (root z c i) asks = at_root c i z
    home_publishes (tail f) asks = at_tail f.from f.own f.is_place
    home_publishes (slot f) asks = at_slot f.byte f.before f.whole f.own f.slot
    home_publishes (leaf f) asks = at_leaf f.byte f.top f.before f.whole f.split.own f.leaf.own f.is_place
    home_publishes (content f i) asks = at_prefix_content f.own i (asks.at_content f.own i)
    home_publishes (node f i) asks = at_prefix_node f.own i (asks.at_node f.own i)
