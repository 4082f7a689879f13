-- Each child of a pointer with a path has that path and the child's byte.
use Rattle.std.proofs.Common.{◌≡◌, ◌≢◌, ℕ, suc, ◌+◌, ◌-◌, ◌*◌, ◌/◌, ◌%◌, ◌^◌, ◌<◌, ◌≤◌, ◌==◌, nat_lt, Bool, true, false, cond, List, [], ◌∷◌, ◌++◌, length, take, slice_index, Option, Some, None, refl, sym, ap, ◌∙◌, subst, arith, take-suc, take_all, eqb-true, ltb-true}
use Rattle.std.proofs.lemmas.Bool.{eqb-false}
use Rattle.cell_layout.specs.declared.Kind.{Kind}
use Rattle.cell_layout.specs.declared.Kind.TheVariants.{Nothing, Content, Chain, Sparse, Wide, Prefix}
use Rattle.cell_layout.specs.Pointers.{kind_at}
use Rattle.cell_layout.specs.Slots.{slot_at}
use Rattle.cell_layout.proofs.PointerKinds.{next_byte, is_kind}
use Rattle.trie_image.specs.declared.Owner.{Owner}
use Rattle.trie_image.specs.declared.Owner.TheVariants.{ChainCell, SparseCell, TopCell, MidCell, LeafCell, PrefixCell}
use Rattle.trie_image.specs.declared.Ledger.{Ledger}
use Rattle.trie_image.specs.Reading.{Closed}
use Rattle.trie_image.specs.Image.{word_of, field, cell_byte, chain_child, slot_child, leaf_child, mid_child, split_child, node_child, child_of, reading}
use Rattle.trie_image.specs.Paths.{owner, chain_path, HasPath, at_chain}
use Rattle.trie_image.specs.Cell.{IsChainCell, IsSparseCell, IsTopCell, IsMidCell, IsLeafCell, IsPrefixCell, IsCell}
use Rattle.trie_image.proofs.Owners.{chain_of, sparse_of, split_node_of, prefix_of}

-- the path of a chain pointer and the byte at its offset
pub path_step : (t : List ℕ) (o : ℕ) → 28 ≤ length t + o → o ≤ 27 → take (suc (length t + o - 28)) t ≡ chain_path t o ++ slice_index t (length t + o - 28) ∷ []
path_step t o h l = take-suc t (length t + o - 28) 0 (omega arith)

pub path_next : (t : List ℕ) (o : ℕ) → 28 ≤ length t + o → o < 27 → chain_path t (o + 1) ≡ chain_path t o ++ slice_index t (length t + o - 28) ∷ []
path_next t o h l = let e : length t + (o + 1) - 28 ≡ suc (length t + o - 28) = omega arith in ap (λ (n : ℕ). take n t) e ∙ path_step t o h (omega arith)

pub path_end : (t : List ℕ) (o : ℕ) → 28 ≤ length t + o → o ≡ 27 → t ≡ chain_path t o ++ slice_index t (length t + o - 28) ∷ []
path_end t o h e = sym (take_all (suc (length t + o - 28)) t (omega arith)) ∙ path_step t o h (omega arith)

module _ (w : List ℕ) (g : Ledger) (each : (c : ℕ) (o : Owner) → owner g c ≡ Some o → IsCell w g c o) where
  -- a pointer that is 0 or has the path
  abbrev pub Leads : List ℕ → ℕ → Type 0
  Leads q p = p ≢ 0 → HasPath g p q

  leads_if : (q : List ℕ) (b : Bool) (x y : ℕ) → (b ≡ true → Leads q x) → (b ≡ false → Leads q y) → Leads q (cond b x y)
  leads_if q true x y f h = f refl
  leads_if q false x y f h = h refl

  no_child : (q : List ℕ) → Leads q 0
  no_child q ne = absurd (ne refl)

  chain_closed : (p : ℕ) (q : List ℕ) (b : ℕ) → kind_at p ≡ Some Chain → HasPath g p q → Leads (q ++ b ∷ []) (chain_child w p b)
  chain_closed p q b k at = let i = chain_of g p q at k in let t : List ℕ = i.1 in let ok : IsChainCell w g (p / 32) i.0 t = each (p / 32) (ChainCell i.0 t) i.2 in
      let offset : (p ≢ 0) × (p < 2 ^ 31) × (p % 32 ≤ 27) = is_kind p (Some Chain) k in
      let enough : 28 ≤ length t + p % 32 = omega (arith, ok.long, i.3) in
      leads_if (q ++ b ∷ []) (cell_byte w (p / 32) (p % 32) == b) (cond (p % 32 == 27) (field w (p / 32) 7) (p + 1)) 0
      (λ e. let byte : slice_index t (length t + p % 32 - 28) ≡ b = sym (ok.bytes (p % 32) i.3 offset.2) ∙ eqb-true (cell_byte w (p / 32) (p % 32)) b e in
      let whole : chain_path t (p % 32) ++ slice_index t (length t + p % 32 - 28) ∷ [] ≡ q ++ b ∷ [] = ap (λ (x : List ℕ). x ++ slice_index t (length t + p % 32 - 28) ∷ []) (sym i.4) ∙ ap (λ (x : ℕ). q ++ x ∷ []) byte in
      leads_if (q ++ b ∷ []) (p % 32 == 27) (field w (p / 32) 7) (p + 1)
      (λ f ne. subst (HasPath g (field w (p / 32) 7)) (path_end t (p % 32) enough (eqb-true (p % 32) 27 f) ∙ whole) ok.tail)
      (λ f ne. let n = next_byte p k (eqb-false (p % 32) 27 f) in at_chain i.0 t n.0 (subst (λ (c : ℕ). owner g c ≡ Some (ChainCell i.0 t)) (sym n.1) i.2) (omega (arith, n.2, i.3))
      (sym (ap (λ (o : ℕ). chain_path t o) n.2 ∙ (path_next t (p % 32) enough (let d = eqb-false (p % 32) 27 f in omega (arith, d)) ∙ whole)))))
      (λ e. no_child (q ++ b ∷ []))

  slot_closed : (c : ℕ) (q : List ℕ) (b : ℕ) → IsSparseCell w g c q → (o : Option ℕ) → slot_at (word_of w c 3) b ≡ o → Leads (q ++ b ∷ []) (slot_child w c o)
  slot_closed c q b ok None e = no_child (q ++ b ∷ [])
  slot_closed c q b ok (Some s) e = λ ne. ok.children b s e

  split_closed : (c : ℕ) (q : List ℕ) (b : ℕ) → owner g c ≡ Some (TopCell q) → IsTopCell w g c q → Leads (q ++ b ∷ []) (split_child w c b)
  split_closed c q b o ok = leads_if (q ++ b ∷ []) (nat_lt b 256) (mid_child w (field w c (b / 64)) b) 0
      (λ e. let small : b < 256 = ltb-true b 256 e in let m : ℕ = field w c (b / 64) in
      leads_if (q ++ b ∷ []) (m == 0) 0 (leaf_child w (field w (m / 32) (b / 8 % 8)) b) (λ f. no_child (q ++ b ∷ []))
      (λ f. let mid : IsMidCell w g (m / 32) c (b / 64) = each (m / 32) (MidCell c (b / 64)) (ok.mids (b / 64) (omega arith) (eqb-false m 0 f)) in let l : ℕ = field w (m / 32) (b / 8 % 8) in
      leads_if (q ++ b ∷ []) (l == 0) 0 (field w (l / 32) (b % 8)) (λ h. no_child (q ++ b ∷ []))
      (λ h ne. let leaf : IsLeafCell w g (l / 32) c (b / 64) (b / 8 % 8) = each (l / 32) (LeafCell c (b / 64) (b / 8 % 8)) (mid.leaves (b / 8 % 8) (omega arith) (eqb-false l 0 h)) in
      let same : 64 * (b / 64) + 8 * (b / 8 % 8) + b % 8 ≡ b = omega arith in
      subst (λ (x : ℕ). HasPath g (field w (l / 32) (b % 8)) (q ++ x ∷ [])) same (leaf.children (b % 8) q (omega arith) ne o))))
      (λ e. no_child (q ++ b ∷ []))

  node_closed : (p : ℕ) (q : List ℕ) (b : ℕ) (k : Option Kind) → kind_at p ≡ k → HasPath g p q → Leads (q ++ b ∷ []) (node_child w p b k)
  node_closed p q b (Some Chain) k at = chain_closed p q b k at
  node_closed p q b (Some Sparse) k at = slot_closed (p / 32) q b (each (p / 32) (SparseCell q) (sparse_of g p q at k)) (slot_at (word_of w (p / 32) 3) b) refl
  node_closed p q b (Some Wide) k at = split_closed (p / 32) q b (split_node_of g p q at k) (each (p / 32) (TopCell q) (split_node_of g p q at k))
  node_closed p q b _ k at = no_child (q ++ b ∷ [])

  child_closed : (p : ℕ) (q : List ℕ) (b : ℕ) (k : Option Kind) → kind_at p ≡ k → HasPath g p q → Leads (q ++ b ∷ []) (child_of w p b k)
  child_closed p q b (Some Prefix) k at = let ok : IsPrefixCell w g (p / 32) q = each (p / 32) (PrefixCell q) (prefix_of g p q at k) in node_closed (field w (p / 32) 1) q b (kind_at (field w (p / 32) 1)) refl ok.node
  child_closed p q b (Some Chain) k at = node_closed p q b (Some Chain) k at
  child_closed p q b (Some Sparse) k at = node_closed p q b (Some Sparse) k at
  child_closed p q b (Some Wide) k at = node_closed p q b (Some Wide) k at
  child_closed p q b (Some Content) k at = no_child (q ++ b ∷ [])
  child_closed p q b (Some Nothing) k at = no_child (q ++ b ∷ [])
  child_closed p q b None k at = no_child (q ++ b ∷ [])

  pub closed : Closed (reading w) (HasPath g)
  closed p q b at ne = child_closed p q b (kind_at p) refl at ne
