-- What a publishing store changes for pointers: their records and children, for each home.
use Rattle.std.proofs.Common.{◌≡◌, ◌≢◌, ◌⊎◌, ℕ, ◌+◌, ◌/◌, ◌%◌, ◌<◌, ◌==◌, nat_lt, true, false, cond, List, [], ◌∷◌, ◌++◌, Option, Some, None, refl, sym, ap, ap₂, ◌∙◌, subst, inl, inr, ⊎_elim, arith, eq-eqb, ltb-true}
use Rattle.std.proofs.lemmas.Bool.{cases_eq, cond-true, cond-false, cases_Bool}
use Rattle.cell_layout.specs.declared.Kind.{Kind}
use Rattle.cell_layout.specs.declared.Kind.TheVariants as kind
use Rattle.cell_layout.specs.Pointers.{kind_at}
use Rattle.cell_layout.specs.Slots.{slot_at}
use Rattle.cell_layout.proofs.Added.{slot_small}
use Rattle.trie_image.specs.declared.Owner.{Owner}
use Rattle.trie_image.specs.declared.Owner.TheVariants.{SparseCell, TopCell, MidCell, LeafCell, PrefixCell}
use Rattle.trie_image.specs.declared.Ledger.{Ledger}
use Rattle.trie_image.specs.Reading.{Changes}
use Rattle.trie_image.specs.Image.{word_of, field, chain_child, slot_child, leaf_child, mid_child, split_child, node_child, child_of, content_record, record_of, reading}
use Rattle.trie_image.specs.Paths.{owner, HasPath}
use Rattle.trie_image.specs.Cell.{IsTopCell, IsMidCell, IsPrefixCell, IsCell, IsImage}
use Rattle.trie_image.specs.Same.{SameWords}
use Rattle.trie_image.proofs.Owners.{sparse_of, split_node_of, prefix_of, path_once}
use Rattle.trie_image.proofs.Kept.{same_field, same_byte}
use Rattle.trie_image.proofs.Children.{closed}
use Rattle.trie_image.proofs.Exits.{path_nonzero}

-- what a publishing store leaves: the image, and records and children as one entry from p to p' changes them
pub record Publishes (w w' : List ℕ) (g : Ledger) (cells p p' : ℕ) (h key : List ℕ) (new : ℕ) : Type 0 where
  pub image : IsImage w' g cells
  pub records : (a : ℕ) (q : List ℕ) → HasPath g a q → (record_of w' a (kind_at a) ≡ record_of w a (kind_at a)) ⊎ ((q ≡ key) × (record_of w' a (kind_at a) ≡ Some new))
  pub changes : (a b : ℕ) (q : List ℕ) → HasPath g a q → Changes (reading w) (reading w') p p' h a q b

module _ (w w' : List ℕ) (g : Ledger) (each : (c : ℕ) (o : Owner) → owner g c ≡ Some o → IsCell w g c o) where
  -- children of cells whose words stay
  pub chain_keeps : (a b : ℕ) → SameWords w w' (a / 32) → chain_child w' a b ≡ chain_child w a b
  chain_keeps a b h = ap₂ (λ (x y : ℕ). cond (x == b) (cond (a % 32 == 27) y (a + 1)) 0) (same_byte w w' (a / 32) (a % 32) h (omega arith)) (same_field w w' (a / 32) 7 h (omega arith))

  slot_keeps : (d b : ℕ) → SameWords w w' d → (o : Option ℕ) → slot_at (word_of w d 3) b ≡ o → slot_child w' d o ≡ slot_child w d o
  slot_keeps d b h None e = refl
  slot_keeps d b h (Some s) e = same_field w w' d s h (let l = slot_small (word_of w d 3) b s e in omega (arith, l))

  pub sparse_keeps : (d b : ℕ) → SameWords w w' d → slot_child w' d (slot_at (word_of w' d 3) b) ≡ slot_child w d (slot_at (word_of w d 3) b)
  sparse_keeps d b h = ap (λ (x : ℕ). slot_child w' d (slot_at x b)) (h 3 (omega arith)) ∙ slot_keeps d b h (slot_at (word_of w d 3) b) refl

  pub leaf_keeps : (l b : ℕ) → (l ≢ 0 → SameWords w w' (l / 32)) → leaf_child w' l b ≡ leaf_child w l b
  leaf_keeps l b h = ⊎_elim
      (λ (z : l ≡ 0). cond-true (l == 0) 0 (field w' (l / 32) (b % 8)) (eq-eqb l 0 z) ∙ sym (cond-true (l == 0) 0 (field w (l / 32) (b % 8)) (eq-eqb l 0 z)))
      (λ (ne : l ≢ 0). ap (λ (x : ℕ). cond (l == 0) 0 x) (same_field w w' (l / 32) (b % 8) (h ne) (omega arith))) (cases_eq l 0)

  pub mid_keeps : (m b : ℕ) → (m ≢ 0 → SameWords w w' (m / 32)) → (m ≢ 0 → field w (m / 32) (b / 8 % 8) ≢ 0 → SameWords w w' (field w (m / 32) (b / 8 % 8) / 32)) → mid_child w' m b ≡ mid_child w m b
  mid_keeps m b h k = ⊎_elim
      (λ (z : m ≡ 0). cond-true (m == 0) 0 (leaf_child w' (field w' (m / 32) (b / 8 % 8)) b) (eq-eqb m 0 z) ∙ sym (cond-true (m == 0) 0 (leaf_child w (field w (m / 32) (b / 8 % 8)) b) (eq-eqb m 0 z)))
      (λ (ne : m ≢ 0). ap (λ (x : ℕ). cond (m == 0) 0 x) (ap (λ (x : ℕ). leaf_child w' x b) (same_field w w' (m / 32) (b / 8 % 8) (h ne) (omega arith)) ∙ leaf_keeps (field w (m / 32) (b / 8 % 8)) b (k ne))) (cases_eq m 0)

  pub split_node_keeps : (d b : ℕ) (q : List ℕ) → owner g d ≡ Some (TopCell q) → SameWords w w' d → ((m t i : ℕ) → owner g m ≡ Some (MidCell t i) → SameWords w w' m) → ((l t i j : ℕ) → owner g l ≡ Some (LeafCell t i j) → SameWords w w' l) → split_child w' d b ≡ split_child w d b
  split_node_keeps d b q own h mids leaves = let top : IsTopCell w g d q = each d (TopCell q) own in ⊎_elim
      (λ (t : nat_lt b 256 ≡ true). let small : b < 256 = ltb-true b 256 t in let m : ℕ = field w d (b / 64) in
      let owned : field w d (b / 64) ≢ 0 → owner g (field w d (b / 64) / 32) ≡ Some (MidCell d (b / 64)) = λ ne. top.mids (b / 64) (omega arith) ne in
      ap (λ (x : ℕ). cond (nat_lt b 256) x 0) (ap (λ (x : ℕ). mid_child w' x b) (same_field w w' d (b / 64) h (omega arith)) ∙ mid_keeps (field w d (b / 64)) b (λ ne. mids (field w d (b / 64) / 32) d (b / 64) (owned ne))
      (λ ne nl. let mid : IsMidCell w g (field w d (b / 64) / 32) d (b / 64) = each (field w d (b / 64) / 32) (MidCell d (b / 64)) (owned ne) in
      leaves (field w (field w d (b / 64) / 32) (b / 8 % 8) / 32) d (b / 64) (b / 8 % 8) (mid.leaves (b / 8 % 8) (omega arith) nl))))
      (λ (f : nat_lt b 256 ≡ false). cond-false (nat_lt b 256) (mid_child w' (field w' d (b / 64)) b) 0 f ∙ sym (cond-false (nat_lt b 256) (mid_child w (field w d (b / 64)) b) 0 f)) (cases_Bool (nat_lt b 256))

  -- a record stays where a prefix cell's content stays
  pub record_keeps : ((d : ℕ) (q : List ℕ) → owner g d ≡ Some (PrefixCell q) → field w' d 0 ≡ field w d 0) → (a : ℕ) (q : List ℕ) (k : Option Kind) → kind_at a ≡ k → HasPath g a q → record_of w' a k ≡ record_of w a k
  record_keeps same a q (Some kind.Prefix) e at = ap (λ (x : ℕ). content_record x (kind_at x)) (same (a / 32) q (prefix_of g a q at e))
  record_keeps same a q _ e at = refl

  module _ (p p' : ℕ) where
    -- the same child, or p' in place of p
    abbrev pub TurnsTo : ℕ → ℕ → Type 0
    TurnsTo x x' = (x' ≡ x) ⊎ ((x ≡ p) × (x' ≡ p'))

    module _ (chains : (a b : ℕ) (q : List ℕ) → kind_at a ≡ Some kind.Chain → HasPath g a q → TurnsTo (chain_child w a b) (chain_child w' a b))
        (sparses : (d b : ℕ) (q : List ℕ) → owner g d ≡ Some (SparseCell q) → TurnsTo (slot_child w d (slot_at (word_of w d 3) b)) (slot_child w' d (slot_at (word_of w' d 3) b)))
        (split_nodes : (d b : ℕ) (q : List ℕ) → owner g d ≡ Some (TopCell q) → TurnsTo (split_child w d b) (split_child w' d b)) where
      pub node_turns_to : (a b : ℕ) (q : List ℕ) (k : Option Kind) → kind_at a ≡ k → HasPath g a q → TurnsTo (node_child w a b k) (node_child w' a b k)
      node_turns_to a b q (Some kind.Chain) e at = chains a b q e at
      node_turns_to a b q (Some kind.Sparse) e at = sparses (a / 32) b q (sparse_of g a q at e)
      node_turns_to a b q (Some kind.Wide) e at = split_nodes (a / 32) b q (split_node_of g a q at e)
      node_turns_to a b q _ e at = inl refl

      pub turns_to : ((d : ℕ) (q : List ℕ) → owner g d ≡ Some (PrefixCell q) → field w' d 1 ≡ field w d 1) → (a b : ℕ) (q : List ℕ) (k : Option Kind) → kind_at a ≡ k → HasPath g a q → TurnsTo (child_of w a b k) (child_of w' a b k)
      turns_to same a b q (Some kind.Prefix) e at = let o = prefix_of g a q at e in let cell : IsPrefixCell w g (a / 32) q = each (a / 32) (PrefixCell q) o in
          subst (λ (x : ℕ). TurnsTo (node_child w (field w (a / 32) 1) b (kind_at (field w (a / 32) 1))) (node_child w' x b (kind_at x))) (sym (same (a / 32) q o)) (node_turns_to (field w (a / 32) 1) b q (kind_at (field w (a / 32) 1)) refl cell.node)
      turns_to same a b q (Some kind.Chain) e at = node_turns_to a b q (Some kind.Chain) e at
      turns_to same a b q (Some kind.Sparse) e at = node_turns_to a b q (Some kind.Sparse) e at
      turns_to same a b q (Some kind.Wide) e at = node_turns_to a b q (Some kind.Wide) e at
      turns_to same a b q _ e at = inl refl

    -- an edge that turns has the path of what it turns to, in the image after the store
    pub changes_from : (cells : ℕ) (h : List ℕ) → IsImage w' g cells → HasPath g p' h → ((a b : ℕ) (q : List ℕ) (k : Option Kind) → kind_at a ≡ k → HasPath g a q → TurnsTo (child_of w a b k) (child_of w' a b k)) → (a b : ℕ) (q : List ℕ) → HasPath g a q → Changes (reading w) (reading w') p p' h a q b
    changes_from cells h after at_h turn a b q at = ⊎_elim (λ (e : child_of w' a b (kind_at a) ≡ child_of w a b (kind_at a)). inl e)
        (λ (t : (child_of w a b (kind_at a) ≡ p) × (child_of w' a b (kind_at a) ≡ p')).
        let there : HasPath g (child_of w' a b (kind_at a)) (q ++ b ∷ []) = closed w' g after.each a q b at (λ z. path_nonzero g p' h at_h (sym t.1 ∙ z)) in
        inr (inl (path_once g p' (q ++ b ∷ []) h (subst (λ (x : ℕ). HasPath g x (q ++ b ∷ [])) t.1 there) at_h, t.0, t.1))) (turn a b q (kind_at a) refl at)
