-- By the case that the walk met, the further cells of a put are cells, and the pointer that is published has its path.
use Rattle.std.proofs.Common.{◌≡◌, ◌≢◌, ℕ, ◌+◌, ◌*◌, ◌/◌, ◌%◌, ◌^◌, ◌<◌, ◌≤◌, ◌==◌, nat_lt, cond, List, [], ◌∷◌, ◌++◌, length, Some, refl, sym, ap, ◌∙◌, subst, arith, ⊎_elim, inl, eq-eqb, ne_eqb, lt-ltb}
use Rattle.std.proofs.lemmas.Bool.{cond-true, cond-false, cases_eq}
use Rattle.std.proofs.Math.Nat.{mod-lt}
use Rattle.cell_layout.specs.declared.Kind.TheVariants as kind
use Rattle.cell_layout.specs.Pointers.{kind_at_offset, kind_at}
use Rattle.cell_layout.proofs.PointerKinds.{is_kind}
use Rattle.cell_layout.specs.Cells.{branch_words, prefix_words, lone_words}
use Rattle.trie_image.specs.declared.Owner.{Owner}
use Rattle.trie_image.specs.declared.Owner.TheVariants.{HeadCell, ChainCell, SparseCell, TopCell, MidCell, LeafCell, PrefixCell}
use Rattle.trie_image.specs.declared.Ledger.{Ledger}
use Rattle.trie_image.specs.declared.exit.Stand.{Stand}
use Rattle.trie_image.specs.Image.{word_of, field, cell_byte}
use Rattle.trie_image.specs.Paths.{owner, HasPath, at_sparse, at_split, at_prefix}
use Rattle.trie_image.specs.Cell.{IsChainCell, IsImage}
use Rattle.trie_image.specs.Body.{chain_rest, passed_words, split_node_words, over_passed, seven}
use Rattle.trie_image.proofs.Owners.{chain_of, sparse_of}
use Rattle.trie_image.proofs.Children.{closed}
use Rattle.trie_image.proofs.Exits.{rest_child, path_nonzero, IsNode}
use Rattle.trie_image.proofs.BodyLengths.{length_branch}
use Rattle.trie_image.proofs.CellWords.{Stands, stands_front, stands_back}
use Rattle.trie_image.proofs.NewChains.{Owns, AreCells, owns_back, cells_joined, cell_alone, owner_first}
use Rattle.trie_image.proofs.NewCells.{split_is, prefix_is, mid_is, leaf_is}
use Rattle.trie_image.proofs.NewSplitNode.{kind_by_offset, path_small, split_node_owners, split_cells_are}
use Rattle.trie_image.proofs.NewOwners.{passed_owners}
use Rattle.trie_image.proofs.NewFurther.{passed_are, over_path}

-- the child under a chain's byte
module _ (w : List ℕ) (g : Ledger) (cells : ℕ) (ok : IsImage w g cells) (p : ℕ) (path : List ℕ) (at : HasPath g p path) (is : kind_at p ≡ Some kind.Chain) where
  rest_there : chain_rest w p ≢ 0
  rest_there z = let i = chain_of g p path at is in let c : IsChainCell w g (p / 32) i.0 i.1 = ok.each (p / 32) (ChainCell i.0 i.1) i.2 in
      ⊎_elim (λ (e : p % 32 ≡ 27). path_nonzero g (field w (p / 32) 7) i.1 c.tail (sym (cond-true (p % 32 == 27) (field w (p / 32) 7) (cond (nat_lt (p % 32) 27) (p + 1) 0) (eq-eqb (p % 32) 27 e)) ∙ z))
      (λ (ne : p % 32 ≢ 27). let l : (p ≢ 0) × (p < 2 ^ 31) × (p % 32 ≤ 27) = is_kind p (Some kind.Chain) is in
      let same : p + 1 ≡ 0 = sym (cond-false (p % 32 == 27) (field w (p / 32) 7) (cond (nat_lt (p % 32) 27) (p + 1) 0) (ne_eqb (p % 32) 27 ne) ∙ cond-true (nat_lt (p % 32) 27) (p + 1) 0 (lt-ltb (p % 32) 27 (omega (arith, l.2)))) ∙ z in omega arith) (cases_eq (p % 32) 27)

  pub rest_path : HasPath g (chain_rest w p) (path ++ cell_byte w (p / 32) (p % 32) ∷ [])
  rest_path = subst (λ (x : ℕ). HasPath g x (path ++ cell_byte w (p / 32) (p % 32) ∷ [])) (rest_child w p is) (closed w g ok.each p path (cell_byte w (p / 32) (p % 32)) at (λ z. rest_there (sym (rest_child w p is) ∙ z)))

module _ (w w' : List ℕ) (g g' : Ledger) (cells : ℕ) (ok : IsImage w g cells) (grows : (p : ℕ) (r : List ℕ) → HasPath g p r → HasPath g' p r) (keeps : (c : ℕ) (o : Owner) → owner g c ≡ Some o → owner g' c ≡ Some o) (x content entry : ℕ) (low : x + 64 < 2 ^ 26) (some_ : 1 ≤ x) where
  head : owner g' 0 ≡ Some HeadCell
  head = keeps 0 HeadCell ok.head

  -- a pointer to a new node
  node_at : (off : ℕ) → off < 32 → 1 ≤ off → ((32 * x + off) / 32 ≡ x) × ((32 * x + off) % 32 ≡ off) × (kind_at (32 * x + off) ≡ kind_at_offset off)
  node_at off l m = let o : (32 * x + off) % 32 ≡ off = omega arith in (omega arith, o, kind_by_offset (32 * x + off) (λ z. omega arith) (omega arith) ∙ ap (λ (y : ℕ). kind_at_offset y) o)

  sparse_at : (path : List ℕ) → owner g' x ≡ Some (SparseCell path) → HasPath g' (32 * x + 30) path
  sparse_at path o = let n = node_at 30 (omega arith) (omega arith) in at_sparse n.2 (subst (λ (c : ℕ). owner g' c ≡ Some (SparseCell path)) (sym n.0) o)

  split_node_at : (path : List ℕ) → owner g' x ≡ Some (TopCell path) → HasPath g' (32 * x + 28) path
  split_node_at path o = let n = node_at 28 (omega arith) (omega arith) in at_split n.2 (subst (λ (c : ℕ). owner g' c ≡ Some (TopCell path)) (sym n.0) o)

  prefix_at : (path : List ℕ) → owner g' x ≡ Some (PrefixCell path) → HasPath g' (32 * x + 31) path
  prefix_at path o = let n = node_at 31 (omega arith) (omega arith) in at_prefix n.2 (subst (λ (c : ℕ). owner g' c ≡ Some (PrefixCell path)) (sym n.0) o)

  -- another byte in a chain cell, and the key's end
  module _ (s : Stand) (q m path : List ℕ) (entered : s.entered ≢ 0 → HasPath g s.entered q) (at_path : HasPath g s.at path) (forward : s.at ≡ s.entered + length m) (offset : length m ≤ s.at % 32) (passed : path ≡ q ++ m) where
    pub other_byte : (b : ℕ) → kind_at s.at ≡ Some kind.Chain → cell_byte w (s.at / 32) (s.at % 32) ≢ b → b < 256 → HasPath g' entry (path ++ b ∷ []) → Owns g' x (SparseCell path ∷ passed_owners s path)
        → Stands w' x (branch_words (cell_byte w (s.at / 32) (s.at % 32)) (chain_rest w s.at) b entry ++ passed_words w s (32 * x + 30)) → AreCells w' g' x (SparseCell path ∷ passed_owners s path) × HasPath g' (over_passed s x 30) q
    other_byte b is ne small at own h = let split : List ℕ = branch_words (cell_byte w (s.at / 32) (s.at % 32)) (chain_rest w s.at) b entry in let after : List ℕ = passed_words w s (32 * x + 30) in
        let own_passed : Owns g' (x + 1) (passed_owners s path) = owns_back g' x (x + 1) (SparseCell path ∷ []) (passed_owners s path) refl own in
        let child : HasPath g' (chain_rest w s.at) (path ++ cell_byte w (s.at / 32) (s.at % 32) ∷ []) = grows (chain_rest w s.at) (path ++ cell_byte w (s.at / 32) (s.at % 32) ∷ []) (rest_path w g cells ok s.at path at_path is) in
        let node : HasPath g' (32 * x + 30) path = sparse_at path (owner_first g' x (SparseCell path) (passed_owners s path) own) in (
          cells_joined w' g' x (x + 1) (SparseCell path ∷ []) (passed_owners s path) refl
              (cell_alone w' g' x (SparseCell path) (split_is w' g' x (cell_byte w (s.at / 32) (s.at % 32)) (chain_rest w s.at) b entry path (stands_front w' x split after h) ne (mod-lt _ (omega arith)) small
              (path_small g' (chain_rest w s.at) (path ++ cell_byte w (s.at / 32) (s.at % 32) ∷ []) head child) (path_small g' entry (path ++ b ∷ []) head at) child at))
              (passed_are w g cells ok s q m path entered at_path forward offset passed w' g' x (inl is) own_passed low (32 * x + 30)
              (stands_back w' x 1 split after (length_branch (cell_byte w (s.at / 32) (s.at % 32)) (chain_rest w s.at) b entry) h) node),
          over_path w g cells ok s q m path entered at_path forward offset passed w' g' x (inl is) own_passed low 30 node,
        )

    pub key_end : IsNode s.at → HasPath g' content path → kind_at content ≡ Some kind.Content → Owns g' x (PrefixCell path ∷ passed_owners s path)
        → Stands w' x (prefix_words content s.at ++ passed_words w s (32 * x + 31)) → AreCells w' g' x (PrefixCell path ∷ passed_owners s path) × HasPath g' (over_passed s x 31) q
    key_end is at is_content own h = let prefix : List ℕ = prefix_words content s.at in let after : List ℕ = passed_words w s (32 * x + 31) in
        let own_passed : Owns g' (x + 1) (passed_owners s path) = owns_back g' x (x + 1) (PrefixCell path ∷ []) (passed_owners s path) refl own in
        let node : HasPath g' (32 * x + 31) path = prefix_at path (owner_first g' x (PrefixCell path) (passed_owners s path) own) in (
          cells_joined w' g' x (x + 1) (PrefixCell path ∷ []) (passed_owners s path) refl
              (cell_alone w' g' x (PrefixCell path) (prefix_is w' g' x content s.at path (stands_front w' x prefix after h) (path_small g' content path head at) at is_content (grows s.at path at_path) is))
              (passed_are w g cells ok s q m path entered at_path forward offset passed w' g' x is own_passed low (32 * x + 31) (stands_back w' x 1 prefix after refl h) node),
          over_path w g cells ok s q m path entered at_path forward offset passed w' g' x is own_passed low 31 node,
        )

  -- a full sparse node
  pub full_node : (p b : ℕ) (path : List ℕ) → HasPath g p path → kind_at p ≡ Some kind.Sparse → HasPath g' entry (path ++ b ∷ []) → Owns g' x (split_node_owners (seven (word_of w (p / 32) 3) b) x path) → Stands w' x (split_node_words w (p / 32) b entry x)
      → AreCells w' g' x (split_node_owners (seven (word_of w (p / 32) 3) b) x path) × HasPath g' (32 * x + 28) path
  full_node p b path at_p is at own h =
      (split_cells_are w w' g g' (p / 32) b entry x path (seven (word_of w (p / 32) 3) b) own low (ok.each (p / 32) (SparseCell path) (sparse_of g p path at_p is)) grows head at h, split_node_at path (owner_first g' x (TopCell path) _ own))

  -- a split node without the byte's leaf cell, or mid cell
  pub no_leaf : (t b : ℕ) (path : List ℕ) → b < 256 → owner g t ≡ Some (TopCell path) → HasPath g' entry (path ++ b ∷ []) → Owns g' x (LeafCell t (b / 64) (b / 8 % 8) ∷ []) → Stands w' x (lone_words (b % 8) entry)
      → AreCells w' g' x (LeafCell t (b / 64) (b / 8 % 8) ∷ []) × ((owner g' ((32 * x + 28) / 32) ≡ Some (LeafCell t (b / 64) (b / 8 % 8))) × (kind_at (32 * x + 28) ≡ Some kind.Wide))
  no_leaf t b path small top at own h = let n = node_at 28 (omega arith) (omega arith) in let same : 64 * (b / 64) + 8 * (b / 8 % 8) + b % 8 ≡ b = omega arith in (
    cell_alone w' g' x (LeafCell t (b / 64) (b / 8 % 8)) (leaf_is w' g' x t (b / 64) (b / 8 % 8) (b % 8) entry path h (path_small g' entry (path ++ b ∷ []) head at) (omega arith) (omega arith) (keeps t (TopCell path) top) (subst (λ (y : ℕ). HasPath g' entry (path ++ y ∷ [])) (sym same) at)),
    (subst (λ (c : ℕ). owner g' c ≡ Some (LeafCell t (b / 64) (b / 8 % 8))) (sym n.0) (owner_first g' x (LeafCell t (b / 64) (b / 8 % 8)) [] own), n.2),
  )

  pub no_mid : (t b : ℕ) (path : List ℕ) → b < 256 → owner g t ≡ Some (TopCell path) → HasPath g' entry (path ++ b ∷ []) → Owns g' x (MidCell t (b / 64) ∷ LeafCell t (b / 64) (b / 8 % 8) ∷ []) → Stands w' x (lone_words (b / 8 % 8) (32 * (x + 1) + 28) ++ lone_words (b % 8) entry)
      → AreCells w' g' x (MidCell t (b / 64) ∷ LeafCell t (b / 64) (b / 8 % 8) ∷ []) × ((owner g' ((32 * x + 28) / 32) ≡ Some (MidCell t (b / 64))) × (kind_at (32 * x + 28) ≡ Some kind.Wide))
  no_mid t b path small top at own h = let n = node_at 28 (omega arith) (omega arith) in let same : 64 * (b / 64) + 8 * (b / 8 % 8) + b % 8 ≡ b = omega arith in let leaf : Owner = LeafCell t (b / 64) (b / 8 % 8) in
      let mid_words_ : List ℕ = lone_words (b / 8 % 8) (32 * (x + 1) + 28) in let leaf_words_ : List ℕ = lone_words (b % 8) entry in
      let own_leaf : owner g' (x + 1) ≡ Some (LeafCell t (b / 64) (b / 8 % 8)) = owner_first g' (x + 1) leaf [] (owns_back g' x (x + 1) (MidCell t (b / 64) ∷ []) (leaf ∷ []) refl own) in
      let c : (32 * (x + 1) + 28) / 32 ≡ x + 1 = omega arith in let o : (32 * (x + 1) + 28) % 32 ≡ 28 = omega arith in (
        cells_joined w' g' x (x + 1) (MidCell t (b / 64) ∷ []) (leaf ∷ []) refl
            (cell_alone w' g' x (MidCell t (b / 64)) (mid_is w' g' x t (b / 64) (b / 8 % 8) (32 * (x + 1) + 28) (stands_front w' x mid_words_ leaf_words_ h) (omega arith) (subst (λ (y : ℕ). owner g' y ≡ Some (LeafCell t (b / 64) (b / 8 % 8))) (sym c) own_leaf)
            (kind_by_offset (32 * (x + 1) + 28) (λ z. omega arith) (omega arith) ∙ ap (λ (y : ℕ). kind_at_offset y) o)))
            (cell_alone w' g' (x + 1) leaf (leaf_is w' g' (x + 1) t (b / 64) (b / 8 % 8) (b % 8) entry path (stands_back w' x 1 mid_words_ leaf_words_ refl h) (path_small g' entry (path ++ b ∷ []) head at) (omega arith) (omega arith) (keeps t (TopCell path) top)
            (subst (λ (y : ℕ). HasPath g' entry (path ++ y ∷ [])) (sym same) at))),
        (subst (λ (c : ℕ). owner g' c ≡ Some (MidCell t (b / 64))) (sym n.0) (owner_first g' x (MidCell t (b / 64)) (leaf ∷ []) own), n.2),
      )

  -- a content pointer with bytes of the key left
  pub past_content : (p : ℕ) (path : List ℕ) → HasPath g p path → kind_at p ≡ Some kind.Content → HasPath g' entry path → kind_at entry ≡ Some kind.Chain → Owns g' x (PrefixCell path ∷ []) → Stands w' x (prefix_words p entry) → AreCells w' g' x (PrefixCell path ∷ []) × HasPath g' (32 * x + 31) path
  past_content p path at_p is at is_chain own h = let old : HasPath g' p path = grows p path at_p in
      (cell_alone w' g' x (PrefixCell path) (prefix_is w' g' x p entry path h (path_small g' p path head old) old is at (inl is_chain)), prefix_at path (owner_first g' x (PrefixCell path) [] own))
