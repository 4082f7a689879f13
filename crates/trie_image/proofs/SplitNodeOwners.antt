-- The cells of a new split node stand in it.
use Rattle.std.proofs.Common.{◌≡◌, ◌≢◌, ℕ, zero, suc, ◌+◌, ◌*◌, ◌/◌, ◌%◌, ◌^◌, ◌<◌, Bool, true, false, cond, List, [], ◌∷◌, ◌++◌, length, filter, count_by, slice_get, Some, refl, sym, ap, ◌∙◌, subst, arith}
use Rattle.std.proofs.lemmas.List.Sums.{length-filter}
use Rattle.std.specs.List.{range_with_len}
use Rattle.trie_image.specs.declared.Owner.{Owner}
use Rattle.trie_image.specs.declared.Owner.TheVariants.{TopCell, MidCell, LeafCell}
use Rattle.trie_image.specs.declared.Ledger.{Ledger}
use Rattle.trie_image.specs.Image.{field, split_child}
use Rattle.trie_image.specs.Paths.{owner}
use Rattle.trie_image.specs.Body.{has_mid, has_leaf, mids_below, leaves_below, leaf_field, top_words, mid_words, leaf_words}
use Rattle.trie_image.proofs.CellWords.{Stands}
use Rattle.trie_image.proofs.NewChains.{Owns, owns_front, owns_back, owner_first}
use Rattle.trie_image.proofs.NewSplitNode.{at_rank, get_map, map_get, length_map, mid_owners, leaf_owners, split_node_owners}
use Rattle.trie_image.proofs.NewSplits.{Towards, IsNewOwner, AreNewOwners, one_more, both_new}
use Rattle.trie_image.proofs.SplitNodes.{inner_some, leaf_mid, mid_cell, leaf_cell, top_is, mid_is, top_read, mid_read}

module _ (p : ℕ → Bool) where
  -- the rank of what passes a test in a range
  from_rank : (n a j i : ℕ) → slice_get (filter p (range_with_len a n)) j ≡ Some i → (d : ℕ) × (i ≡ a + d) × (d < n) × (p i ≡ true) × (length (filter p (range_with_len a d)) ≡ j)
  from_rank zero a j i e = absurd (cc)
  from_rank (suc n) a j i e = by (p a) refl j e (λ k h. from_rank n (a + 1) k i h)
    where
      by : (t : Bool) → p a ≡ t → (j : ℕ) → slice_get (cond t (a ∷ filter p (range_with_len (a + 1) n)) (filter p (range_with_len (a + 1) n))) j ≡ Some i
          → ((k : ℕ) → slice_get (filter p (range_with_len (a + 1) n)) k ≡ Some i → (d : ℕ) × (i ≡ a + 1 + d) × (d < n) × (p i ≡ true) × (length (filter p (range_with_len (a + 1) d)) ≡ k))
          → (d : ℕ) × (i ≡ a + d) × (d < suc n) × (p i ≡ true) × (length (filter p (range_with_len a d)) ≡ j)
      by true is zero e later = let same : a ≡ i = cc in (0, omega arith, omega arith, ap p (sym same) ∙ is, refl)
      by true is (suc j) e later = let h = later j e in (suc h.0, omega (arith, h.1), omega (arith, h.2), h.3, ap (λ (t : Bool). length (cond t (a ∷ filter p (range_with_len (a + 1) h.0)) (filter p (range_with_len (a + 1) h.0)))) is ∙ ap (λ (k : ℕ). suc k) h.4)
      by false is j e later = let h = later j e in (suc h.0, omega (arith, h.1), omega (arith, h.2), h.3, ap (λ (t : Bool). length (cond t (a ∷ filter p (range_with_len (a + 1) h.0)) (filter p (range_with_len (a + 1) h.0)))) is ∙ h.4)

  pub rank_of : (n j i : ℕ) → slice_get (filter p (range_with_len 0 n)) j ≡ Some i → (i < n) × (p i ≡ true) × (count_by p (range_with_len 0 i) ≡ j)
  rank_of n j i e = let h = from_rank n 0 j i e in let same : h.0 ≡ i = omega (arith, h.1) in (omega (arith, h.2), h.3, ap (λ (d : ℕ). count_by p (range_with_len 0 d)) (sym same) ∙ (sym (length-filter p (range_with_len 0 h.0)) ∙ h.4))

module _ (w0 w : List ℕ) (g : Ledger) (key : List ℕ) (node b entry x : ℕ) (q bytes : List ℕ) (h : Stands w x (top_words bytes x ++ mid_words bytes x 4 ++ leaf_words w0 node b entry bytes 32)) (capacity : x + 64 < 2 ^ 26) (small : (c : ℕ) → leaf_field w0 node b entry c < 2 ^ 32) (own : Owns g x (split_node_owners bytes x q)) where
  own_inner : Owns g x (TopCell q ∷ mid_owners bytes x)
  own_inner = owns_front g x (TopCell q ∷ mid_owners bytes x) (leaf_owners bytes x) own

  own_top : owner g x ≡ Some (TopCell q)
  own_top = owner_first g x (TopCell q) (mid_owners bytes x) own_inner

  mid_owned : (i : ℕ) → i < 4 → has_mid bytes i ≡ true → owner g (x + 1 + mids_below bytes i) ≡ Some (MidCell x i)
  unfolding mids_below
  mid_owned i l e = owns_back g x (x + 1) (TopCell q ∷ []) (mid_owners bytes x) refl own_inner (count_by (has_mid bytes) (range_with_len 0 i)) (MidCell x i) (get_map (λ i. MidCell x i) (filter (has_mid bytes) (range_with_len 0 4)) (count_by (has_mid bytes) (range_with_len 0 i)) i (at_rank (has_mid bytes) 4 i l e))

  many_mids : length (mid_owners bytes x) ≡ mids_below bytes 4
  unfolding mids_below
  many_mids = length_map (λ i. MidCell x i) (filter (has_mid bytes) (range_with_len 0 4)) ∙ length-filter (has_mid bytes) (range_with_len 0 4)

  mids_new : AreNewOwners w g key (x + 1) (mid_owners bytes x)
  unfolding mids_below mid_cell
  mids_new j o e = let m = map_get (λ i. MidCell x i) (filter (has_mid bytes) (range_with_len 0 4)) j o e in let r = rank_of (has_mid bytes) 4 j m.0 m.1 in
      let read : field w x m.0 ≡ 32 * (x + 1 + mids_below bytes m.0) + 28 = top_read w0 w node b entry x bytes h capacity small m.0 r.0 ∙ (top_is w0 w node b entry x bytes h capacity small m.0 ∙ inner_some (has_mid bytes m.0) (x + 1 + mids_below bytes m.0) r.1) in
      subst (λ (y : Owner). IsNewOwner w g key (x + 1 + j) y) m.2 (r.0, read ∙ ap (λ (k : ℕ). 32 * (x + 1 + k) + 28) r.2, q, own_top)

  leaves_new : AreNewOwners w g key (x + 1 + mids_below bytes 4) (leaf_owners bytes x)
  unfolding leaves_below mid_cell leaf_cell
  leaves_new j o e = let m = map_get (λ k. LeafCell x (k / 8) (k % 8)) (filter (has_leaf bytes) (range_with_len 0 32)) j o e in let k : ℕ = m.0 in let r = rank_of (has_leaf bytes) 32 j m.0 m.1 in let mid = leaf_mid bytes k r.1 in
      let read : field w (x + 1 + mids_below bytes (k / 8)) (k % 8) ≡ 32 * (x + 1 + mids_below bytes 4 + leaves_below bytes k) + 28 = mid_read w0 w node b entry x bytes h capacity small k r.0 mid ∙ (mid_is w0 w node b entry x bytes h capacity small k ∙ inner_some (has_leaf bytes k) (x + 1 + mids_below bytes 4 + leaves_below bytes k) r.1) in
      subst (λ (y : Owner). IsNewOwner w g key (x + 1 + mids_below bytes 4 + j) y) m.2 (x + 1 + mids_below bytes (k / 8), mid_owned (k / 8) (omega (arith, r.0)) mid, omega arith, read ∙ ap (λ (y : ℕ). 32 * (x + 1 + mids_below bytes 4 + y) + 28) r.2)

  pub split_node_new : Towards key q → (a : ℕ) → a < 256 → split_child w x a ≢ 0 → AreNewOwners w g key x (split_node_owners bytes x q)
  split_node_new to a l there = both_new w g key x (x + 1 + mids_below bytes 4) (TopCell q ∷ mid_owners bytes x) (leaf_owners bytes x) (omega (arith, many_mids)) (one_more w g key x (TopCell q) (mid_owners bytes x) (to, a, l, there) mids_new) leaves_new
