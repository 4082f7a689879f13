-- After the publishing store the root sees the new record for the put's key, by the field that the store changed.
use Rattle.std.proofs.Common.{◌≡◌, ◌≢◌, ℕ, List, [], ◌∷◌, ◌++◌, length, Some, refl, sym, ap, ◌∙◌, subst, append_assoc}
use Rattle.cell_layout.specs.Pointers.{kind_at}
use Rattle.trie_image.specs.declared.Owner.{Owner}
use Rattle.trie_image.specs.declared.Owner.TheVariants.{HeadCell, ChainCell, SparseCell, PrefixCell}
use Rattle.trie_image.specs.declared.Ledger.{Ledger}
use Rattle.trie_image.specs.Reading.{sees, sees_from, Better, Changes}
use Rattle.trie_image.specs.Image.{child_of, content_record, reading, root_of}
use Rattle.trie_image.specs.Paths.{owner, HasPath}
use Rattle.trie_image.specs.Cell.{IsImage}
use Rattle.trie_image.proofs.Readings.{sees_there}
use Rattle.trie_image.proofs.Children.{closed}
use Rattle.trie_image.proofs.Kept.{not_first}
use Rattle.trie_image.proofs.Live.{Walks, sees_new, lives}
use Rattle.trie_image.proofs.Homes.{IsOfPrefix, Home, root, tail, slot, leaf, content, node}
use Rattle.trie_image.proofs.Exits.{path_nonzero, IsNode, node_nonzero}
use Rattle.trie_image.proofs.Turned.{Turned, tail_leads, slot_leads, leaf_leads, prefix_leads, prefix_holds, root_turned, root_stays}

module _ (w w' : List ℕ) (g : Ledger) (cells : ℕ) (ok : IsImage w g cells) (key : List ℕ) (new p p' : ℕ) (h rest : List ℕ) (is_key : h ++ rest ≡ key) (better : Better (reading w') p p' rest new) (changes : (a b : ℕ) (q : List ℕ) → HasPath g a q → Changes (reading w) (reading w') p p' h a q b) where
  root_there : (bs : List ℕ) (last : ℕ) → Walks (reading w) (root_of w) bs last → HasPath g last bs → root_of w ≢ 0
  root_there [] last walks at z = path_nonzero g last [] at (sym walks ∙ z)
  root_there (d ∷ bs) last (n, walks) at z = n (ap (λ (x : ℕ). child_of w x d (kind_at x)) z)

  -- the last pointer on the walk sees the new record
  pub from_last : (bs k : List ℕ) (last : ℕ) → root_of w' ≡ root_of w → Walks (reading w) (root_of w) bs last → HasPath g last bs → bs ++ k ≡ key → sees (reading w') last k ≡ Some new → sees_from (reading w') (root_of w') key ≡ Some new
  from_last bs k last same walks at whole is = let ne : root_of w ≢ 0 = root_there bs last walks at in
      ap (λ (x : ℕ). sees_from (reading w') x key) same ∙ (sees_there (reading w') (root_of w) key ne ∙ (ap (λ (l : List ℕ). sees (reading w') (root_of w) l) (sym whole)
      ∙ lives (reading w) (reading w') (HasPath g) (closed w g ok.each) key new p p' h rest is_key better changes bs k (root_of w) last [] (ok.root ne) walks whole is))

  -- and so where its child is the new pointer
  pub by_byte : (q : List ℕ) (b last : ℕ) → root_of w' ≡ root_of w → Walks (reading w) (root_of w) q last → HasPath g last q → h ≡ q ++ b ∷ [] → child_of w' last b (kind_at last) ≡ p' → sees_from (reading w') (root_of w') key ≡ Some new
  by_byte q b last same walks at whole leads = from_last q (b ∷ rest) last same walks at (sym (append_assoc q (b ∷ []) rest) ∙ (ap (λ (l : List ℕ). l ++ rest) (sym whole) ∙ is_key))
      (ap (λ (x : ℕ). sees_from (reading w') x rest) leads ∙ sees_new (reading w) (reading w') (HasPath g) (closed w g ok.each) key new p p' h rest is_key better changes rest is_key)

  -- what a put that changes a prefix cell does there: it puts a node in place of its node, for a byte, or the new content in
  -- place of its content, at the key's end
  pub record ForPrefix (place : ℕ) : Type 0 where
    pub at_node : place ≡ 1 → IsNode p' × (rest ≢ [])
    pub at_content : place ≡ 0 → (rest ≡ []) × (content_record p' (kind_at p') ≡ Some new)

  module _ (cell place : ℕ) (t : Turned w w' (length g.owners) cell place p') where
    stays : (o : Owner) → owner g cell ≡ Some o → (o ≡ HeadCell → ⊥) → root_of w' ≡ root_of w
    stays o e ne = root_stays w w' g cell place p' t ok.head (not_first g cell o ok.head e ne)

    for_node : (f : IsOfPrefix w g h cell) → place ≡ 1 → IsNode p' → (k : List ℕ) → rest ≡ k → k ≢ [] → sees (reading w') f.prefix k ≡ Some new
    for_node f e is [] same ne = absurd (ne refl)
    for_node f e is (d ∷ k) same ne = ap (λ (x : ℕ). sees_from (reading w') x k) (prefix_leads w w' g cell place p' t h f d e is) ∙ (sym (sees_there (reading w') p' (d ∷ k) (node_nonzero p' is))
        ∙ sees_new (reading w) (reading w') (HasPath g) (closed w g ok.each) key new p p' h rest is_key better changes (d ∷ k) (ap (λ (l : List ℕ). h ++ l) (sym same) ∙ is_key))

    pub by_home : Home w g h cell place → (IsOfPrefix w g h cell → ForPrefix place) → sees_from (reading w') (root_of w') key ≡ Some new
    by_home (root e c l) under = ap (λ (x : ℕ). sees_from (reading w') x key) (root_turned w w' g cell place p' t ok.head c l)
        ∙ sees_new (reading w) (reading w') (HasPath g) (closed w g ok.each) key new p p' h rest is_key better changes key (ap (λ (l : List ℕ). l ++ key) e)
    by_home (tail f) under = by_byte f.before f.byte f.reached.last (stays (ChainCell f.from h) f.own (λ z. cc)) f.reached.walks f.reached.last_path f.whole (tail_leads w w' g cell place p' t h f)
    by_home (slot f) under = by_byte f.before f.byte f.reached.last (stays (SparseCell f.before) f.own (λ z. cc)) f.reached.walks f.reached.last_path f.whole (slot_leads w w' g cell place p' t h f)
    by_home (leaf f) under = by_byte f.before f.byte f.split.reached.last (stays _ f.leaf.own (λ z. cc)) f.split.reached.walks f.split.reached.last_path f.whole (leaf_leads w w' g cell place p' t h f)
    by_home (content f e) under = let u = (under f).at_content e in from_last h rest f.prefix (stays (PrefixCell h) f.own (λ z. cc)) f.walks f.path is_key
        (subst (λ (k : List ℕ). sees (reading w') f.prefix k ≡ Some new) (sym u.0) (prefix_holds w w' g cell place p' t h f e ∙ u.1))
    by_home (node f e) under = let u = (under f).at_node e in from_last h rest f.prefix (stays (PrefixCell h) f.own (λ z. cc)) f.walks f.path is_key (for_node f e u.0 rest refl u.1)
