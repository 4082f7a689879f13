-- The further cells of a put, by the case that the walk met, and the path of the pointer that is published.
use Rattle.std.proofs.Common.{◌≡◌, ◌≢◌, ℕ, ◌+◌, ◌-◌, ◌*◌, ◌/◌, ◌%◌, ◌^◌, ◌<◌, ◌≤◌, ◌==◌, Bool, true, false, cond, List, [], ◌∷◌, ◌++◌, length, Some, refl, sym, ap, ◌∙◌, subst, arith, inl, inr, append-nil, eqb-true}
use Rattle.std.proofs.lemmas.Bool.{eqb-false}
use Rattle.cell_layout.specs.declared.Kind.TheVariants as kind
use Rattle.cell_layout.specs.Pointers.{kind_at}
use Rattle.cell_layout.proofs.PointerKinds.{is_kind, is_chain}
use Rattle.cell_layout.specs.Cells.{chain_cell}
use Rattle.trie_image.specs.declared.Owner.{Owner}
use Rattle.trie_image.specs.declared.Owner.TheVariants.{HeadCell, ChainCell, SparseCell, TopCell, PrefixCell}
use Rattle.trie_image.specs.declared.Ledger.{Ledger}
use Rattle.trie_image.specs.declared.exit.Stand.{Stand}
use Rattle.trie_image.specs.Paths.{owner, chain_path, HasPath, at_content, at_chain, at_sparse, at_split, at_prefix}
use Rattle.trie_image.specs.Cell.{IsChainCell, IsImage}
use Rattle.trie_image.specs.Body.{passed_bytes, passed_words, over_passed}
use Rattle.trie_image.proofs.Owners.{chain_of, sparse_of, split_node_of}
use Rattle.trie_image.proofs.Kept.{not_first}
use Rattle.trie_image.proofs.Exits.{path_nonzero, IsNode}
use Rattle.trie_image.proofs.CellWords.{Stands}
use Rattle.trie_image.proofs.NewChains.{Owns, AreCells, cell_alone, owner_first}
use Rattle.trie_image.proofs.NewCells.{passed_is, passed_path}
use Rattle.trie_image.proofs.NewOwners.{passed_owners}

-- a chain cell has one owner
chain_once : (g : Ledger) (c a b : ℕ) (t u : List ℕ) → owner g c ≡ Some (ChainCell a t) → owner g c ≡ Some (ChainCell b u) → (a ≡ b) × (t ≡ u)
chain_once g c a b t u e f = let two : Some (ChainCell a t) ≡ Some (ChainCell b u) = sym e ∙ f in let froms : a ≡ b = cc in let tails : t ≡ u = cc in (froms, tails)

-- a pointer into the cell of a sparse or a split node is the node's
sparse_alone : (g : Ledger) (a p : ℕ) (q r : List ℕ) → HasPath g a q → a / 32 ≡ p / 32 → kind_at p ≡ Some kind.Sparse → owner g (a / 32) ≡ Some (SparseCell r) → a ≡ p
sparse_alone g a p q r (at_content n e k o h s) same is own = let l : 2 ^ 31 ≤ a = is_kind a (Some kind.Content) k in let m : (p ≢ 0) × (p < 2 ^ 31) × (p % 32 ≡ 30) = is_kind p (Some kind.Sparse) is in absurd (omega (arith, m.1))
sparse_alone g a p q r (at_chain from t k o h s) same is own = let two : Some (ChainCell from t) ≡ Some (SparseCell r) = sym o ∙ own in absurd (cc)
sparse_alone g a p q r (at_sparse k o) same is own = let l : (a ≢ 0) × (a < 2 ^ 31) × (a % 32 ≡ 30) = is_kind a (Some kind.Sparse) k in let m : (p ≢ 0) × (p < 2 ^ 31) × (p % 32 ≡ 30) = is_kind p (Some kind.Sparse) is in omega (arith, l.2, m.2)
sparse_alone g a p q r (at_split k o) same is own = let two : Some (TopCell q) ≡ Some (SparseCell r) = sym o ∙ own in absurd (cc)
sparse_alone g a p q r (at_prefix k o) same is own = let two : Some (PrefixCell q) ≡ Some (SparseCell r) = sym o ∙ own in absurd (cc)

split_node_alone : (g : Ledger) (a p : ℕ) (q r : List ℕ) → HasPath g a q → a / 32 ≡ p / 32 → kind_at p ≡ Some kind.Wide → owner g (a / 32) ≡ Some (TopCell r) → a ≡ p
split_node_alone g a p q r (at_content n e k o h s) same is own = let l : 2 ^ 31 ≤ a = is_kind a (Some kind.Content) k in let m : (p ≢ 0) × (p < 2 ^ 31) × (p % 32 ≡ 28) = is_kind p (Some kind.Wide) is in absurd (omega (arith, m.1))
split_node_alone g a p q r (at_chain from t k o h s) same is own = let two : Some (ChainCell from t) ≡ Some (TopCell r) = sym o ∙ own in absurd (cc)
split_node_alone g a p q r (at_split k o) same is own = let l : (a ≢ 0) × (a < 2 ^ 31) × (a % 32 ≡ 28) = is_kind a (Some kind.Wide) k in let m : (p ≢ 0) × (p < 2 ^ 31) × (p % 32 ≡ 28) = is_kind p (Some kind.Wide) is in omega (arith, l.2, m.2)
split_node_alone g a p q r (at_sparse k o) same is own = let two : Some (SparseCell q) ≡ Some (TopCell r) = sym o ∙ own in absurd (cc)
split_node_alone g a p q r (at_prefix k o) same is own = let two : Some (PrefixCell q) ≡ Some (TopCell r) = sym o ∙ own in absurd (cc)

module _ (w : List ℕ) (g : Ledger) (cells : ℕ) (ok : IsImage w g cells) (s : Stand) (q m path : List ℕ) (entered : s.entered ≢ 0 → HasPath g s.entered q) (at_path : HasPath g s.at path) (forward : s.at ≡ s.entered + length m) (offset : length m ≤ s.at % 32) (passed : path ≡ q ++ m) where
  -- the chain cell whose bytes were passed
  pub record IsPassed : Type 0 where
    pub from : ℕ
    pub tail : List ℕ
    pub chain : IsChainCell w g (s.at / 32) from tail
    pub same : s.at / 32 ≡ s.entered / 32
    pub later : s.entered < s.at
    pub inside : s.at % 32 ≤ 27
    pub begun : from ≤ s.entered % 32
    pub to_here : path ≡ chain_path tail (s.at % 32)
    pub to_entry : q ≡ chain_path tail (s.entered % 32)

  same_cell : s.at / 32 ≡ s.entered / 32
  same_cell = omega arith

  there : (o : Owner) → owner g (s.at / 32) ≡ Some o → (o ≡ HeadCell → ⊥) → HasPath g s.entered q
  there o e ne = entered (λ z. let n = not_first g (s.at / 32) o ok.head e ne in n (omega arith))

  still_chain : s.at ≢ s.entered → IsNode s.at → kind_at s.at ≡ Some kind.Chain
  still_chain ne (inl k) = k
  still_chain ne (inr (inl k)) = let o = sparse_of g s.at path at_path k in
      absurd (ne (sym (sparse_alone g s.entered s.at q path (there (SparseCell path) o (λ x. cc)) (sym same_cell) k (subst (λ (c : ℕ). owner g c ≡ Some (SparseCell path)) same_cell o))))
  still_chain ne (inr (inr k)) = let o = split_node_of g s.at path at_path k in
      absurd (ne (sym (split_node_alone g s.entered s.at q path (there (TopCell path) o (λ x. cc)) (sym same_cell) k (subst (λ (c : ℕ). owner g c ≡ Some (TopCell path)) same_cell o))))

  entered_in : (from : ℕ) (t : List ℕ) → owner g (s.at / 32) ≡ Some (ChainCell from t) → s.entered % 32 ≤ 27 → s.entered < 2 ^ 31 → (from ≤ s.entered % 32) × (q ≡ chain_path t (s.entered % 32))
  entered_in from t own few small = let at : HasPath g s.entered q = there (ChainCell from t) own (λ x. cc) in
      let j = chain_of g s.entered q at (is_chain s.entered (path_nonzero g s.entered q at) small few) in
      let here : owner g (s.entered / 32) ≡ Some (ChainCell from t) = subst (λ (c : ℕ). owner g c ≡ Some (ChainCell from t)) same_cell own in
      let one = chain_once g (s.entered / 32) j.0 from j.1 t j.2 here in (omega (arith, j.3, one.0), j.4 ∙ ap (λ (x : List ℕ). chain_path x (s.entered % 32)) one.1)

  in_cell : s.at ≢ s.entered → kind_at s.at ≡ Some kind.Chain → IsPassed
  in_cell ne k = let i = chain_of g s.at path at_path k in let l : (s.at ≢ 0) × (s.at < 2 ^ 31) × (s.at % 32 ≤ 27) = is_kind s.at (Some kind.Chain) k in
      let e = entered_in i.0 i.1 i.2 (omega (arith, l.2)) (omega (arith, l.1)) in record {
        from = i.0;
        tail = i.1;
        chain = ok.each (s.at / 32) (ChainCell i.0 i.1) i.2;
        same = same_cell;
        later = omega arith;
        inside = l.2;
        begun = e.0;
        to_here = i.4;
        to_entry = e.1;
      }

  pub is_passed : s.at ≢ s.entered → IsNode s.at → IsPassed
  is_passed ne node = in_cell ne (still_chain ne node)

  pub none_passed : s.at ≡ s.entered → path ≡ q
  none_passed e = let z : length m ≡ 0 = omega arith in passed ∙ by m z
    where
      by : (l : List ℕ) → length l ≡ 0 → q ++ l ≡ q
      by [] z = append-nil q
      by (b ∷ l) z = absurd (omega arith)

  module _ (w' : List ℕ) (g' : Ledger) (x : ℕ) (node : IsNode s.at) (own : Owns g' (x + 1) (passed_owners s path)) (low : x + 64 < 2 ^ 26) where
    -- the cell for the passed bytes
    pub passed_are : (next : ℕ) → Stands w' (x + 1) (passed_words w s next) → HasPath g' next path → AreCells w' g' (x + 1) (passed_owners s path)
    passed_are next h at = by (s.at == s.entered) refl h
      where
        by : (t : Bool) → (s.at == s.entered) ≡ t → Stands w' (x + 1) (cond t [] (chain_cell (passed_bytes w s) next)) → AreCells w' g' (x + 1) (cond t [] (ChainCell (28 - (s.at - s.entered)) path ∷ []))
        by true e h = λ j o f. absurd (cc)
        by false e h = let p : IsPassed = is_passed (eqb-false s.at s.entered e) node in
            cell_alone w' g' (x + 1) (ChainCell (28 - (s.at - s.entered)) path) (subst (λ (l : List ℕ). IsChainCell w' g' (x + 1) (28 - (s.at - s.entered)) l) (sym p.to_here)
            (passed_is w w' g g' s p.from p.tail p.chain p.same p.later p.inside p.begun (x + 1) next h (subst (HasPath g' next) p.to_here at)))

    -- the pointer behind which the passed bytes are
    pub over_path : (off : ℕ) → HasPath g' (32 * x + off) path → HasPath g' (over_passed s x off) q
    over_path off at = by (s.at == s.entered) refl own
      where
        by : (t : Bool) → (s.at == s.entered) ≡ t → Owns g' (x + 1) (cond t [] (ChainCell (28 - (s.at - s.entered)) path ∷ [])) → HasPath g' (cond t (32 * x + off) (32 * (x + 1) + (28 - (s.at - s.entered)))) q
        by true e h = subst (HasPath g' (32 * x + off)) (none_passed (eqb-true s.at s.entered e)) at
        by false e h = let p : IsPassed = is_passed (eqb-false s.at s.entered e) node in let l : s.entered < s.at = p.later in let i : s.at % 32 ≤ 27 = p.inside in
            let few : s.at - s.entered ≤ 27 = omega arith in
            let cell : (32 * (x + 1) + (28 - (s.at - s.entered))) / 32 ≡ x + 1 = omega arith in let o : (32 * (x + 1) + (28 - (s.at - s.entered))) % 32 ≡ 28 - (s.at - s.entered) = omega arith in
            at_chain (28 - (s.at - s.entered)) path (is_chain (32 * (x + 1) + (28 - (s.at - s.entered))) (λ z. omega arith) (omega arith) (omega (arith, o)))
            (subst (λ (c : ℕ). owner g' c ≡ Some (ChainCell (28 - (s.at - s.entered)) path)) (sym cell) (owner_first g' (x + 1) (ChainCell (28 - (s.at - s.entered)) path) [] h)) (omega (arith, o))
            (p.to_entry ∙ (sym (passed_path w w' g g' s p.from p.tail p.chain p.same p.later p.inside p.begun) ∙ (ap (λ (l : List ℕ). chain_path l (28 - (s.at - s.entered))) (sym p.to_here) ∙ ap (λ (n : ℕ). chain_path path n) (sym o))))
