-- For each home, what the publishing store leaves.
use Rattle.std.proofs.Common.{◌≡◌, ◌≢◌, ◌⊎◌, ℕ, ◌+◌, ◌*◌, ◌/◌, ◌^◌, ◌<◌, ◌≤◌, List, [], ◌∷◌, ◌++◌, Option, Some, refl, sym, ap, ◌∙◌, subst, inl, inr, ⊎_elim, arith}
use Rattle.std.proofs.lemmas.Bool.{cases_eq}
use Rattle.cell_layout.specs.declared.Kind.{Kind}
use Rattle.cell_layout.specs.declared.Kind.TheVariants as kind
use Rattle.cell_layout.specs.Pointers.{kind_at, record_cell}
use Rattle.cell_layout.specs.Slots.{slot_at}
use Rattle.trie_image.specs.declared.Owner.{Owner}
use Rattle.trie_image.specs.declared.Owner.TheVariants.{HeadCell, ChainCell, SparseCell, TopCell, MidCell, LeafCell, PrefixCell}
use Rattle.trie_image.specs.declared.Ledger.{Ledger}
use Rattle.trie_image.specs.Image.{word_of, field, cell_byte, chain_child, node_child, child_of, content_record, record_of, root_of}
use Rattle.trie_image.specs.Paths.{owner, HasPath}
use Rattle.trie_image.specs.Cell.{IsPrefixCell, IsImage}
use Rattle.trie_image.specs.Same.{SameWords}
use Rattle.trie_image.proofs.Relinks.{Relinks}
use Rattle.trie_image.proofs.Owners.{chain_of, sparse_of, split_node_of, prefix_of}
use Rattle.trie_image.proofs.Kept.{same_field, same_byte}
use Rattle.trie_image.proofs.Relinked.{child_turns}
use Rattle.trie_image.proofs.Exits.{IsNode, own_children}
use Rattle.trie_image.proofs.HomeStores.{stored_field, apart, apart_own, is_stored, stays, turns, byte_stays, slot_word, image_root, tail_stored, slot_stored, leaf_stored, content_stored, node_stored}
use Rattle.trie_image.proofs.HomeChanges.{Publishes, chain_keeps, sparse_keeps, split_node_keeps, record_keeps, changes_from}

module _ (w : List ℕ) (g : Ledger) (cells : ℕ) (ok : IsImage w g cells) (key : List ℕ) (new : ℕ) where
  -- a field of one cell
  module _ (c i p' : ℕ) (o : Owner) (own : owner g c ≡ Some o) (small : i < 8) (fits : p' < 2 ^ 32) where
    fields_turn : (d k : ℕ) → k < 8 → (field (stored_field w c i p') d k ≡ field w d k) ⊎ ((field w d k ≡ field w c i) × (field (stored_field w c i p') d k ≡ p'))
    fields_turn d k l = ⊎_elim (λ e. inl e) (λ (t : (d ≡ c) × (k ≡ i) × (field (stored_field w c i p') d k ≡ p')). inr (ap (λ (x : ℕ). field w x k) t.0 ∙ ap (λ (x : ℕ). field w c x) t.1, t.2)) (turns w g cells c i p' o ok own small fits d k l)

    keeps : (d : ℕ) (x : Owner) → owner g d ≡ Some x → (x ≡ o → ⊥) → SameWords w (stored_field w c i p') d
    keeps d x e ne = apart_own w g cells c i p' o ok own small fits d x e ne

    bytes_keep : (d from k : ℕ) (t : List ℕ) → (ChainCell from t ≡ o → ⊥) → owner g d ≡ Some (ChainCell from t) → k ≤ 27 → cell_byte (stored_field w c i p') d k ≡ cell_byte w d k
    bytes_keep d from k t ne e l = same_byte w (stored_field w c i p') d k (keeps d (ChainCell from t) e ne) (omega arith)

    -- where prefix cells stay, records do
    records_keep : ((q : List ℕ) → PrefixCell q ≡ o → ⊥) → (a : ℕ) (q : List ℕ) → HasPath g a q → (record_of (stored_field w c i p') a (kind_at a) ≡ record_of w a (kind_at a)) ⊎ ((q ≡ key) × (record_of (stored_field w c i p') a (kind_at a) ≡ Some new))
    records_keep ne a q at = inl (record_keeps w (stored_field w c i p') g ok.each (λ d r e. same_field w (stored_field w c i p') d 0 (keeps d (PrefixCell r) e (ne r)) (omega arith)) a q (kind_at a) refl at)

    -- a pointer put in place of another in a chain's tail, a slot or a leaf cell
    relinked_at : (h : List ℕ) → Relinks w (stored_field w c i p') g (field w c i) p' → ((q : List ℕ) → PrefixCell q ≡ o → ⊥) → IsImage (stored_field w c i p') g cells → HasPath g p' h → Publishes w (stored_field w c i p') g cells (field w c i) p' h key new
    relinked_at h link ne image at = record {
      image = image;
      records = records_keep ne;
      changes = changes_from w (stored_field w c i p') g ok.each (field w c i) p' cells h image at (λ a b q k e at_a. child_turns w (stored_field w c i p') g ok.each (field w c i) p' link a q b k e at_a);
    }

  pub tail_publishes : (c p' from : ℕ) (t : List ℕ) → owner g c ≡ Some (ChainCell from t) → p' < 2 ^ 32 → HasPath g p' t → Publishes w (stored_field w c 7 p') g cells (field w c 7) p' t key new
  tail_publishes c p' from t own fits at = let s : 7 < 8 = omega arith in relinked_at c 7 p' (ChainCell from t) own s fits t
      record {
        fields = fields_turn c 7 p' (ChainCell from t) own s fits;
        bytes = λ d f u k e l. byte_stays w g cells c p' ok fits from t own d k l;
        orders = λ d q e. keeps c 7 p' (ChainCell from t) own s fits d (SparseCell q) e (λ x. cc) 3 (omega arith);
        tops = λ d q e. keeps c 7 p' (ChainCell from t) own s fits d (TopCell q) e (λ x. cc);
        mids = λ d u j e. keeps c 7 p' (ChainCell from t) own s fits d (MidCell u j) e (λ x. cc);
        prefixes = λ d q e. keeps c 7 p' (ChainCell from t) own s fits d (PrefixCell q) e (λ x. cc);
      } (λ q x. cc) (tail_stored w g cells c p' ok fits from t own at) at

  pub slot_publishes : (c p' i b : ℕ) (q : List ℕ) → owner g c ≡ Some (SparseCell q) → slot_at (word_of w c 3) b ≡ Some i → i < 8 → p' < 2 ^ 32 → HasPath g p' (q ++ b ∷ []) → Publishes w (stored_field w c i p') g cells (field w c i) p' (q ++ b ∷ []) key new
  slot_publishes c p' i b q own e s fits at = relinked_at c i p' (SparseCell q) own s fits (q ++ b ∷ [])
      record {
        fields = fields_turn c i p' (SparseCell q) own s fits;
        bytes = λ d f u k e l. bytes_keep c i p' (SparseCell q) own s fits d f k u (λ x. cc) e l;
        orders = λ d r f. ⊎_elim (λ (z : c ≡ d). subst (λ (x : ℕ). word_of (stored_field w c i p') x 3 ≡ word_of w x 3) z (slot_word w g cells c p' ok fits i b q own e)) (λ (ne : c ≢ d). apart w g cells c i p' (SparseCell q) ok own s fits d (λ z. ne (sym z)) 3 (omega arith)) (cases_eq c d);
        tops = λ d r e. keeps c i p' (SparseCell q) own s fits d (TopCell r) e (λ x. cc);
        mids = λ d u j e. keeps c i p' (SparseCell q) own s fits d (MidCell u j) e (λ x. cc);
        prefixes = λ d r e. keeps c i p' (SparseCell q) own s fits d (PrefixCell r) e (λ x. cc);
      } (λ q x. cc) (slot_stored w g cells c p' ok fits i b q own e at) at

  pub leaf_publishes : (c p' i t a j : ℕ) (q : List ℕ) → owner g c ≡ Some (LeafCell t a j) → i < 8 → p' < 2 ^ 32 → owner g t ≡ Some (TopCell q) → HasPath g p' (q ++ (64 * a + 8 * j + i) ∷ []) → Publishes w (stored_field w c i p') g cells (field w c i) p' (q ++ (64 * a + 8 * j + i) ∷ []) key new
  leaf_publishes c p' i t a j q own s fits top at = relinked_at c i p' (LeafCell t a j) own s fits (q ++ (64 * a + 8 * j + i) ∷ [])
      record {
        fields = fields_turn c i p' (LeafCell t a j) own s fits;
        bytes = λ d f u k e l. bytes_keep c i p' (LeafCell t a j) own s fits d f k u (λ x. cc) e l;
        orders = λ d r e. keeps c i p' (LeafCell t a j) own s fits d (SparseCell r) e (λ x. cc) 3 (omega arith);
        tops = λ d r e. keeps c i p' (LeafCell t a j) own s fits d (TopCell r) e (λ x. cc);
        mids = λ d u k e. keeps c i p' (LeafCell t a j) own s fits d (MidCell u k) e (λ x. cc);
        prefixes = λ d r e. keeps c i p' (LeafCell t a j) own s fits d (PrefixCell r) e (λ x. cc);
      } (λ q x. cc) (leaf_stored w g cells c p' ok fits i t a j q own s top at) at

  -- children of cells of other owners, where the cell is the root's or a prefix cell
  module _ (c i p' : ℕ) (o : Owner) (own : owner g c ≡ Some o) (small : i < 8) (fits : p' < 2 ^ 32) (chain : (f : ℕ) (t : List ℕ) → ChainCell f t ≡ o → ⊥) (sparse : (q : List ℕ) → SparseCell q ≡ o → ⊥) (top : (q : List ℕ) → TopCell q ≡ o → ⊥) (mid : (t j : ℕ) → MidCell t j ≡ o → ⊥) (leaf : (t j k : ℕ) → LeafCell t j k ≡ o → ⊥) where
    -- no child turns, which is said with any p and p'
    chains_keep : (a b : ℕ) (q : List ℕ) → kind_at a ≡ Some kind.Chain → HasPath g a q → chain_child (stored_field w c i p') a b ≡ chain_child w a b
    chains_keep a b q e at = let n = chain_of g a q at e in chain_keeps w (stored_field w c i p') g ok.each a b (keeps c i p' o own small fits (a / 32) (ChainCell n.0 n.1) n.2 (chain n.0 n.1))

    nodes_keep : (a b : ℕ) (q : List ℕ) (k : Option Kind) → kind_at a ≡ k → HasPath g a q → node_child (stored_field w c i p') a b k ≡ node_child w a b k
    nodes_keep a b q (Some kind.Chain) e at = chains_keep a b q e at
    nodes_keep a b q (Some kind.Sparse) e at = sparse_keeps w (stored_field w c i p') g ok.each (a / 32) b (keeps c i p' o own small fits (a / 32) (SparseCell q) (sparse_of g a q at e) (sparse q))
    nodes_keep a b q (Some kind.Wide) e at = let t = split_node_of g a q at e in split_node_keeps w (stored_field w c i p') g ok.each (a / 32) b q t (keeps c i p' o own small fits (a / 32) (TopCell q) t (top q))
        (λ m t j f. keeps c i p' o own small fits m (MidCell t j) f (mid t j)) (λ l t j k f. keeps c i p' o own small fits l (LeafCell t j k) f (leaf t j k))
    nodes_keep a b q _ e at = refl

    children_keep : (same : (d : ℕ) (q : List ℕ) → owner g d ≡ Some (PrefixCell q) → field (stored_field w c i p') d 1 ≡ field w d 1) → (a b : ℕ) (q : List ℕ) (k : Option Kind) → kind_at a ≡ k → HasPath g a q → child_of (stored_field w c i p') a b k ≡ child_of w a b k
    children_keep same a b q (Some kind.Prefix) e at = let f = prefix_of g a q at e in let cell : IsPrefixCell w g (a / 32) q = ok.each (a / 32) (PrefixCell q) f in
        ap (λ (x : ℕ). node_child (stored_field w c i p') x b (kind_at x)) (same (a / 32) q f) ∙ nodes_keep (field w (a / 32) 1) b q (kind_at (field w (a / 32) 1)) refl cell.node
    children_keep same a b q (Some kind.Chain) e at = nodes_keep a b q (Some kind.Chain) e at
    children_keep same a b q (Some kind.Sparse) e at = nodes_keep a b q (Some kind.Sparse) e at
    children_keep same a b q (Some kind.Wide) e at = nodes_keep a b q (Some kind.Wide) e at
    children_keep same a b q _ e at = refl

  pub root_publishes : (p' : ℕ) → p' < 2 ^ 32 → HasPath g p' [] → Publishes w (stored_field w 0 2 p') g cells (root_of w) p' [] key new
  root_publishes p' fits at = let s : 2 < 8 = omega arith in record {
    image = image_root w g cells p' ok fits at;
    records = records_keep 0 2 p' HeadCell ok.head s fits (λ q x. cc);
    changes = λ a b q at_a. inl (children_keep 0 2 p' HeadCell ok.head s fits (λ f t x. cc) (λ q x. cc) (λ q x. cc) (λ t j x. cc) (λ t j k x. cc)
        (λ d r e. same_field w (stored_field w 0 2 p') d 1 (keeps 0 2 p' HeadCell ok.head s fits d (PrefixCell r) e (λ x. cc)) (omega arith)) a b q (kind_at a) refl at_a);
  }

  -- the content of a prefix cell: no child turns, and its pointer has the new record
  pub content_publishes : (c p' : ℕ) → owner g c ≡ Some (PrefixCell key) → p' < 2 ^ 32 → HasPath g p' key → kind_at p' ≡ Some kind.Content → record_cell p' ≡ new → Publishes w (stored_field w c 0 p') g cells (field w c 0) p' key key new
  content_publishes c p' own fits at is rec = let s : 0 < 8 = omega arith in record {
    image = content_stored w g cells c p' ok fits key own at is;
    records = λ a q at_a. here a q (kind_at a) refl at_a;
    changes = λ a b q at_a. inl (children_keep c 0 p' (PrefixCell key) own s fits (λ f t x. cc) (λ q x. cc) (λ q x. cc) (λ t j x. cc) (λ t j k x. cc)
        (λ d r e. stays w g cells c 0 p' (PrefixCell key) ok own s fits d 1 (omega arith) (λ x y. omega arith)) a b q (kind_at a) refl at_a);
  }
    where
      said : (a : ℕ) (q : List ℕ) → a / 32 ≡ c → kind_at a ≡ Some kind.Prefix → HasPath g a q → (q ≡ key) × (record_of (stored_field w c 0 p') a (Some kind.Prefix) ≡ Some new)
      said a q z e at_a = let o = prefix_of g a q at_a e in let two : Some (PrefixCell q) ≡ Some (PrefixCell key) = sym o ∙ subst (λ (x : ℕ). owner g x ≡ Some (PrefixCell key)) (sym z) own in let same : q ≡ key = cc in
          let f : field (stored_field w c 0 p') (a / 32) 0 ≡ p' = ap (λ (x : ℕ). field (stored_field w c 0 p') x 0) z ∙ is_stored w g cells c 0 p' (PrefixCell key) ok own (omega arith) fits in
          (same, ap (λ (x : ℕ). content_record x (kind_at x)) f ∙ (ap (λ (k : Option Kind). content_record p' k) is ∙ ap (λ (x : ℕ). Some x) rec))

      here : (a : ℕ) (q : List ℕ) (k : Option Kind) → kind_at a ≡ k → HasPath g a q → (record_of (stored_field w c 0 p') a k ≡ record_of w a k) ⊎ ((q ≡ key) × (record_of (stored_field w c 0 p') a k ≡ Some new))
      here a q (Some kind.Prefix) e at_a = ⊎_elim (λ (z : a / 32 ≡ c). inr (said a q z e at_a))
          (λ (ne : a / 32 ≢ c). inl (ap (λ (x : ℕ). content_record x (kind_at x)) (stays w g cells c 0 p' (PrefixCell key) ok own (omega arith) fits (a / 32) 0 (omega arith) (λ x y. ne x)))) (cases_eq (a / 32) c)
      here a q _ e at_a = inl refl

  -- the node of a prefix cell, which has its children
  pub node_publishes : (c p' : ℕ) (h : List ℕ) → owner g c ≡ Some (PrefixCell h) → p' < 2 ^ 32 → HasPath g p' h → IsNode p' → field w c 1 ≢ 0 → p' ≢ 0 → Publishes w (stored_field w c 1 p') g cells (field w c 1) p' h key new
  node_publishes c p' h own fits at is ne ne' = let s : 1 < 8 = omega arith in record {
    image = node_stored w g cells c p' ok fits h own at is;
    records = λ a q at_a. inl (record_keeps w (stored_field w c 1 p') g ok.each (λ d r e. stays w g cells c 1 p' (PrefixCell h) ok own s fits d 0 (omega arith) (λ x y. omega arith)) a q (kind_at a) refl at_a);
    changes = λ a b q at_a. here a b q (kind_at a) refl at_a;
  }
    where
      keep : (a b : ℕ) (q : List ℕ) (k : Option Kind) → kind_at a ≡ k → HasPath g a q → node_child (stored_field w c 1 p') a b k ≡ node_child w a b k
      keep = nodes_keep c 1 p' (PrefixCell h) own (omega arith) fits (λ f t x. cc) (λ q x. cc) (λ q x. cc) (λ t j x. cc) (λ t j k x. cc)

      over : (a b : ℕ) (q : List ℕ) → a / 32 ≡ c → kind_at a ≡ Some kind.Prefix → HasPath g a q
          → (q ≡ h) × (field w c 1 ≢ 0) × (p' ≢ 0) × (child_of w a b (Some kind.Prefix) ≡ child_of (stored_field w c 1 p') (field w c 1) b (kind_at (field w c 1))) × (child_of (stored_field w c 1 p') a b (Some kind.Prefix) ≡ child_of (stored_field w c 1 p') p' b (kind_at p'))
      over a b q z e at_a = let o = prefix_of g a q at_a e in let two : Some (PrefixCell q) ≡ Some (PrefixCell h) = sym o ∙ subst (λ (x : ℕ). owner g x ≡ Some (PrefixCell h)) (sym z) own in let same : q ≡ h = cc in
          let cell : IsPrefixCell w g c h = ok.each c (PrefixCell h) own in let now = is_stored w g cells c 1 p' (PrefixCell h) ok own (omega arith) fits in (
            same,
            ne,
            ne',
            ap (λ (x : ℕ). node_child w (field w x 1) b (kind_at (field w x 1))) z ∙ (sym (keep (field w c 1) b h (kind_at (field w c 1)) refl cell.node) ∙ sym (own_children (stored_field w c 1 p') (field w c 1) b cell.is_node)),
            ap (λ (x : ℕ). node_child (stored_field w c 1 p') (field (stored_field w c 1 p') x 1) b (kind_at (field (stored_field w c 1 p') x 1))) z ∙ (ap (λ (x : ℕ). node_child (stored_field w c 1 p') x b (kind_at x)) now ∙ sym (own_children (stored_field w c 1 p') p' b is)),
          )

      here : (a b : ℕ) (q : List ℕ) (k : Option Kind) → kind_at a ≡ k → HasPath g a q → (child_of (stored_field w c 1 p') a b k ≡ child_of w a b k) ⊎ (((q ++ b ∷ [] ≡ h) × (child_of w a b k ≡ field w c 1) × (child_of (stored_field w c 1 p') a b k ≡ p'))
          ⊎ ((q ≡ h) × (field w c 1 ≢ 0) × (p' ≢ 0) × (child_of w a b k ≡ child_of (stored_field w c 1 p') (field w c 1) b (kind_at (field w c 1))) × (child_of (stored_field w c 1 p') a b k ≡ child_of (stored_field w c 1 p') p' b (kind_at p'))))
      here a b q (Some kind.Prefix) e at_a = ⊎_elim (λ (z : a / 32 ≡ c). inr (inr (over a b q z e at_a)))
          (λ (n : a / 32 ≢ c). let o = prefix_of g a q at_a e in let cell : IsPrefixCell w g (a / 32) q = ok.each (a / 32) (PrefixCell q) o in
          inl (ap (λ (x : ℕ). node_child (stored_field w c 1 p') x b (kind_at x)) (stays w g cells c 1 p' (PrefixCell h) ok own (omega arith) fits (a / 32) 1 (omega arith) (λ x y. n x)) ∙ keep (field w (a / 32) 1) b q (kind_at (field w (a / 32) 1)) refl cell.node)) (cases_eq (a / 32) c)
      here a b q (Some kind.Chain) e at_a = inl (keep a b q (Some kind.Chain) e at_a)
      here a b q (Some kind.Sparse) e at_a = inl (keep a b q (Some kind.Sparse) e at_a)
      here a b q (Some kind.Wide) e at_a = inl (keep a b q (Some kind.Wide) e at_a)
      here a b q _ e at_a = inl refl
