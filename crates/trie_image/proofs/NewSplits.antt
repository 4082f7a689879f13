-- The paths of a put's new cells lead towards its key, and its new split cells stand in their nodes.
use Rattle.std.proofs.Common.{◌≡◌, ◌≢◌, ◌⊎◌, ℕ, zero, suc, ◌+◌, ◌-◌, ◌*◌, ◌/◌, ◌%◌, ◌<◌, ◌==◌, nat_lt, List, [], ◌∷◌, ◌++◌, length, take, drop, slice_get, Some, refl, sym, ap, ◌∙◌, subst, inl, inr, ⊎_elim, arith, append_assoc, append-nil, lt-ltb, eq-eqb, ne_eqb}
use Rattle.std.proofs.lemmas.Bool.{cond_both, cond-true, cond-false}
use Rattle.std.proofs.lemmas.List.{take-append-drop}
use Rattle.cell_layout.specs.Cells.{record_cells, chain_cells}
use Rattle.trie_image.specs.declared.Put.{Put}
use Rattle.trie_image.specs.declared.Owner.{Owner}
use Rattle.trie_image.specs.declared.Owner.TheVariants.{RecordCell, ChainCell, SparseCell, TopCell, MidCell, LeafCell, PrefixCell}
use Rattle.trie_image.specs.declared.Ledger.{Ledger}
use Rattle.trie_image.specs.declared.exit.Stand.{Stand}
use Rattle.trie_image.specs.Image.{field, leaf_child, mid_child, split_child}
use Rattle.trie_image.specs.Paths.{owner, chain_path, HasPath, at_content, at_chain, at_sparse, at_split, at_prefix}
use Rattle.trie_image.specs.Cell.{IsTopCell, IsMidCell, IsImage}
use Rattle.trie_image.specs.WellFormed.{HasSplitNodes}
use Rattle.trie_image.proofs.Grown.{get_either}
use Rattle.trie_image.proofs.Owners.{get_front, grown}
use Rattle.trie_image.proofs.NewChains.{chain_owners}
use Rattle.trie_image.proofs.NewCells.{record_owners, get_mapped}
use Rattle.trie_image.proofs.Mapped.{get_new}
use Rattle.trie_image.proofs.NewOwners.{passed_owners, first_owners}

-- the path leads towards the key
abbrev pub Towards : List ℕ → List ℕ → Type 0
Towards key q = (rest : List ℕ) × (q ++ rest ≡ key)

-- what is said of a new cell of a put of the key, by its owner
abbrev pub IsNewOwner : List ℕ → Ledger → List ℕ → ℕ → Owner → Type 0
IsNewOwner w g key c (ChainCell from t) = Towards key t
IsNewOwner w g key c (SparseCell q) = Towards key q
IsNewOwner w g key c (PrefixCell q) = Towards key q
IsNewOwner w g key c (TopCell q) = Towards key q × (b : ℕ) × (b < 256) × (split_child w c b ≢ 0)
IsNewOwner w g key c (MidCell t i) = (i < 4) × (field w t i ≡ 32 * c + 28) × (q : List ℕ) × (owner g t ≡ Some (TopCell q))
IsNewOwner w g key c (LeafCell t i j) = (m : ℕ) × (owner g m ≡ Some (MidCell t i)) × (j < 8) × (field w m j ≡ 32 * c + 28)
IsNewOwner w g key c _ = Unit {0}

-- all cells of a list of owners, from a cell on
abbrev pub AreNewOwners : List ℕ → Ledger → List ℕ → ℕ → List Owner → Type 0
AreNewOwners w g key c own = (j : ℕ) (o : Owner) → slice_get own j ≡ Some o → IsNewOwner w g key (c + j) o

module _ (w : List ℕ) (g : Ledger) (key : List ℕ) where
  pub none_new : (c : ℕ) → AreNewOwners w g key c []
  none_new c j o e = absurd (cc)

  pub one_more : (c : ℕ) (o : Owner) (own : List Owner) → IsNewOwner w g key c o → AreNewOwners w g key (c + 1) own → AreNewOwners w g key c (o ∷ own)
  one_more c o own h more zero x e = let is : o ≡ x = cc in let z : c ≡ c + 0 = omega arith in subst (λ (y : Owner). IsNewOwner w g key (c + 0) y) is (subst (λ (y : ℕ). IsNewOwner w g key y o) z h)
  one_more c o own h more (suc j) x e = let z : c + 1 + j ≡ c + suc j = omega arith in subst (λ (y : ℕ). IsNewOwner w g key y x) z (more j x e)

  pub both_new : (c d : ℕ) (a b : List Owner) → d ≡ c + length a → AreNewOwners w g key c a → AreNewOwners w g key d b → AreNewOwners w g key c (a ++ b)
  both_new c d a b at h k j o e = ⊎_elim (λ t. h j o t) (λ (t : (i : ℕ) × (j ≡ length a + i) × (slice_get b i ≡ Some o)). let z : d + t.0 ≡ c + j = omega (arith, t.1) in subst (λ (y : ℕ). IsNewOwner w g key y o) z (k t.0 o t.2)) (get_either a b j o e)

  records_new : (c n k : ℕ) → AreNewOwners w g key c (record_owners n k)
  records_new c n k j o e = let m = get_mapped (λ j. RecordCell n j) 0 k j o e in subst (λ (y : Owner). IsNewOwner w g key (c + j) y) m.1 tt

  chains_new : (n c : ℕ) (q bytes : List ℕ) → q ++ bytes ≡ key → AreNewOwners w g key c (chain_owners n q bytes)
  chains_new zero c q bytes whole = none_new c
  chains_new (suc n) c q bytes whole = let k : ℕ = length bytes - 28 * n in let part : List ℕ = take k bytes in let after : List ℕ = drop k bytes in
      let same : (q ++ part) ++ after ≡ key = append_assoc q part after ∙ (ap (λ (l : List ℕ). q ++ l) (take-append-drop k bytes) ∙ whole) in
      one_more c (ChainCell (28 - length part) (q ++ part)) (chain_owners n (q ++ part) after) (after, same) (chains_new n (c + 1) (q ++ part) after same)

  -- the record's cells and the chain's
  pub first_new : (c n : ℕ) (value start rest : List ℕ) → start ++ rest ≡ key → AreNewOwners w g key c (first_owners n value start rest)
  first_new c n value start rest whole = both_new c (c + length (record_owners n (record_cells (length value)))) (record_owners n (record_cells (length value))) (chain_owners (chain_cells (length rest)) start rest) refl
      (records_new c n (record_cells (length value))) (chains_new (chain_cells (length rest)) (c + length (record_owners n (record_cells (length value)))) start rest whole)

  -- the cell for passed bytes
  pub passed_new : (c : ℕ) (s : Stand) (path : List ℕ) → Towards key path → AreNewOwners w g key c (passed_owners s path)
  passed_new c s path h = cond_both (s.at == s.entered) [] (ChainCell (28 - (s.at - s.entered)) path ∷ []) (λ (l : List Owner). AreNewOwners w g key c l) (λ e. none_new c) (λ e. one_more c (ChainCell (28 - (s.at - s.entered)) path) [] h (none_new (c + 1)))

-- a cell is an old one, or new with what is said of it
module _ (w' : List ℕ) (g : Ledger) (own : List Owner) (put : Put) (news : AreNewOwners w' (grown g own (put ∷ [])) put.key (length g.owners) own) where
  old_or_new : (c : ℕ) (o : Owner) → owner (grown g own (put ∷ [])) c ≡ Some o → (owner g c ≡ Some o) ⊎ IsNewOwner w' (grown g own (put ∷ [])) put.key c o
  old_or_new c o e = ⊎_elim (λ t. inl t) (λ (t : (j : ℕ) × (c ≡ length g.owners + j) × (slice_get own j ≡ Some o)). inr (subst (λ (x : ℕ). IsNewOwner w' (grown g own (put ∷ [])) put.key x o) (sym t.1) (news t.0 o t.2))) (get_either g.owners own c o e)

-- each path leads towards the key of a put
module _ (w w' : List ℕ) (g : Ledger) (own : List Owner) (put : Put) (news : AreNewOwners w' (grown g own (put ∷ [])) put.key (length g.owners) own) (old : (p : ℕ) (q : List ℕ) → HasPath g p q → (n : ℕ) × (e : Put) × (rest : List ℕ) × (slice_get g.puts n ≡ Some e) × (e.key ≡ q ++ rest)) where
  abbrev Leads : List ℕ → Type 0
  Leads q = (n : ℕ) × (e : Put) × (rest : List ℕ) × (slice_get (g.puts ++ put ∷ []) n ≡ Some e) × (e.key ≡ q ++ rest)

  by_old : (p : ℕ) (q : List ℕ) → HasPath g p q → Leads q
  by_old p q at = let h = old p q at in (h.0, h.1, h.2, get_front g.puts (put ∷ []) h.0 h.1 h.3, h.4)

  by_new : (q : List ℕ) → Towards put.key q → Leads q
  by_new q h = (length g.puts, put, h.0, get_new g.puts put, sym h.1)

  front_of : (n : ℕ) (t : List ℕ) → Towards put.key t → Towards put.key (take n t)
  front_of n t h = (drop n t ++ h.0, sym (append_assoc (take n t) (drop n t) h.0) ∙ (ap (λ (l : List ℕ). l ++ h.0) (take-append-drop n t) ∙ h.1))

  pub paths_lead : (p : ℕ) (q : List ℕ) → HasPath (grown g own (put ∷ [])) p q → Leads q
  paths_lead p q (at_content n e k o h s) = (n, e, [], h, sym s ∙ sym (append-nil q))
  paths_lead p q (at_chain from t k o h s) = ⊎_elim (λ (e : owner g (p / 32) ≡ Some (ChainCell from t)). by_old p q (at_chain from t k e h s)) (λ (e : Towards put.key t). subst Leads (sym s) (by_new (chain_path t (p % 32)) (front_of (length t + p % 32 - 28) t e))) (old_or_new w' g own put news (p / 32) (ChainCell from t) o)
  paths_lead p q (at_sparse k o) = ⊎_elim (λ (e : owner g (p / 32) ≡ Some (SparseCell q)). by_old p q (at_sparse k e)) (λ (e : Towards put.key q). by_new q e) (old_or_new w' g own put news (p / 32) (SparseCell q) o)
  paths_lead p q (at_split k o) = ⊎_elim (λ (e : owner g (p / 32) ≡ Some (TopCell q)). by_old p q (at_split k e)) (λ (e : Towards put.key q × (b : ℕ) × (b < 256) × (split_child w' (p / 32) b ≢ 0)). by_new q e.0) (old_or_new w' g own put news (p / 32) (TopCell q) o)
  paths_lead p q (at_prefix k o) = ⊎_elim (λ (e : owner g (p / 32) ≡ Some (PrefixCell q)). by_old p q (at_prefix k e)) (λ (e : Towards put.key q). by_new q e) (old_or_new w' g own put news (p / 32) (PrefixCell q) o)

-- the split nodes: pointers in top and mid cells stay, and pointers in leaf cells stay pointers
module _ (w w' : List ℕ) (g : Ledger) (cells : ℕ) (ok : IsImage w g cells) (own : List Owner) (put : Put) (news : AreNewOwners w' (grown g own (put ∷ [])) put.key (length g.owners) own) (split : HasSplitNodes w g)
    (tops : (c i : ℕ) (q : List ℕ) → owner g c ≡ Some (TopCell q) → i < 8 → field w c i ≢ 0 → field w' c i ≡ field w c i) (mids : (c t j i : ℕ) → owner g c ≡ Some (MidCell t j) → i < 8 → field w c i ≢ 0 → field w' c i ≡ field w c i)
    (leaves : (c t i j n : ℕ) → owner g c ≡ Some (LeafCell t i j) → n < 8 → field w c n ≢ 0 → field w' c n ≢ 0) where
  grows : (c : ℕ) (o : Owner) → owner g c ≡ Some o → owner (grown g own (put ∷ [])) c ≡ Some o
  grows c o e = get_front g.owners own c o e

  -- a child of a node is still one
  still : (c b : ℕ) (q : List ℕ) → owner g c ≡ Some (TopCell q) → b < 256 → split_child w c b ≢ 0 → split_child w' c b ≢ 0
  still c b q top small there = let x : ℕ = field w c (b / 64) in
      let into : split_child w c b ≡ mid_child w (field w c (b / 64)) b = cond-true (nat_lt b 256) (mid_child w (field w c (b / 64)) b) 0 (lt-ltb b 256 small) in
      let nx : field w c (b / 64) ≢ 0 = λ z. there (into ∙ cond-true (x == 0) 0 (leaf_child w (field w (x / 32) (b / 8 % 8)) b) (eq-eqb x 0 z)) in
      let cell : IsTopCell w g c q = ok.each c (TopCell q) top in let own_m = cell.mids (b / 64) (omega arith) nx in
      let y : ℕ = field w (x / 32) (b / 8 % 8) in let through_x : mid_child w x b ≡ leaf_child w y b = cond-false (x == 0) 0 (leaf_child w y b) (ne_eqb x 0 nx) in
      let ny : field w (x / 32) (b / 8 % 8) ≢ 0 = λ z. there (into ∙ (through_x ∙ cond-true (y == 0) 0 (field w (y / 32) (b % 8)) (eq-eqb y 0 z))) in
      let mid : IsMidCell w g (x / 32) c (b / 64) = ok.each (x / 32) (MidCell c (b / 64)) own_m in let own_l = mid.leaves (b / 8 % 8) (omega arith) ny in
      let nz : field w (y / 32) (b % 8) ≢ 0 = λ z. there (into ∙ (through_x ∙ (cond-false (y == 0) 0 (field w (y / 32) (b % 8)) (ne_eqb y 0 ny) ∙ z))) in
      let now : split_child w' c b ≡ field w' (y / 32) (b % 8) = cond-true (nat_lt b 256) (mid_child w' (field w' c (b / 64)) b) 0 (lt-ltb b 256 small)
      ∙ (ap (λ (k : ℕ). mid_child w' k b) (tops c (b / 64) q top (omega arith) nx) ∙ (cond-false (x == 0) 0 (leaf_child w' (field w' (x / 32) (b / 8 % 8)) b) (ne_eqb x 0 nx)
      ∙ (ap (λ (k : ℕ). leaf_child w' k b) (mids (x / 32) c (b / 64) (b / 8 % 8) own_m (omega arith) ny) ∙ cond-false (y == 0) 0 (field w' (y / 32) (b % 8)) (ne_eqb y 0 ny)))) in
      λ z. leaves (y / 32) c (b / 64) (b / 8 % 8) (b % 8) own_l (omega arith) nz (sym now ∙ z)

  pub splits_stand : HasSplitNodes w' (grown g own (put ∷ []))
  splits_stand = record {
    mids = λ c t i e. ⊎_elim (λ (o : owner g c ≡ Some (MidCell t i)). let m = split.mids c t i o in let top = split.tops c t i o in (m.0, tops t i top.0 top.1 (omega (arith, m.0)) (λ z. let n : 32 * c + 28 ≡ 0 = sym m.1 ∙ z in omega arith) ∙ m.1))
        (λ (h : (i < 4) × (field w' t i ≡ 32 * c + 28) × (q : List ℕ) × (owner (grown g own (put ∷ [])) t ≡ Some (TopCell q))). (h.0, h.1)) (old_or_new w' g own put news c (MidCell t i) e);
    tops = λ c t i e. ⊎_elim (λ (o : owner g c ≡ Some (MidCell t i)). let top = split.tops c t i o in (top.0, grows t (TopCell top.0) top.1))
        (λ (h : (i < 4) × (field w' t i ≡ 32 * c + 28) × (q : List ℕ) × (owner (grown g own (put ∷ [])) t ≡ Some (TopCell q))). (h.2, h.3)) (old_or_new w' g own put news c (MidCell t i) e);
    leaves = λ c t i j e. ⊎_elim (λ (o : owner g c ≡ Some (LeafCell t i j)). let l = split.leaves c t i j o in (l.0, grows l.0 (MidCell t i) l.1, l.2, mids l.0 t i j l.1 l.2 (λ z. let n : 32 * c + 28 ≡ 0 = sym l.3 ∙ z in omega arith) ∙ l.3))
        (λ (h : (m : ℕ) × (owner (grown g own (put ∷ [])) m ≡ Some (MidCell t i)) × (j < 8) × (field w' m j ≡ 32 * c + 28)). h) (old_or_new w' g own put news c (LeafCell t i j) e);
    children = λ c q e. ⊎_elim (λ (o : owner g c ≡ Some (TopCell q)). let b = split.children c q o in (b.0, b.1, still c b.0 q o b.1 b.2))
        (λ (h : Towards put.key q × (b : ℕ) × (b < 256) × (split_child w' c b ≢ 0)). (h.1, h.2, h.3)) (old_or_new w' g own put news c (TopCell q) e);
  }
