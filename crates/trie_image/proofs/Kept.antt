-- Stores that no pointer with a path reads.
use Rattle.std.proofs.Common.{◌≡◌, ◌≢◌, ◌⊎◌, ℕ, zero, suc, ◌+◌, ◌*◌, ◌/◌, ◌%◌, ◌^◌, ◌<◌, ◌≤◌, ◌==◌, nat_lt, true, false, cond, List, [], ◌∷◌, ◌++◌, length, set, take, drop, slice_get, slice_set, Option, Some, None, refl, sym, ap, ap₂, ◌∙◌, subst, inl, inr, ⊎_elim, arith, length-set, get_or-set_other, get_or-set_same, ltb-true}
use Rattle.std.proofs.lemmas.Bool.{cases_eq, cond-true, cond-false, ne_eqb, eq-eqb, cases_Bool}
use Rattle.cell_layout.specs.declared.Kind.{Kind}
use Rattle.cell_layout.specs.declared.Kind.TheVariants as kind
use Rattle.cell_layout.specs.Words.{half_of, with_half_of, byte_of}
use Rattle.cell_layout.specs.Pointers.{kind_at}
use Rattle.cell_layout.specs.Slots.{slot_at, IsSparse}
use Rattle.cell_layout.proofs.Halves.{other_half}
use Rattle.cell_layout.proofs.Added.{slot_small}
use Rattle.trie_image.specs.declared.Role.{Role}
use Rattle.trie_image.specs.declared.Role.TheVariants.{Root, Chain, Order, Slot, Top, Mid, Leaf, Prefix, Head}
use Rattle.trie_image.specs.declared.Place.{Place}
use Rattle.trie_image.specs.declared.Owner.{Owner}
use Rattle.trie_image.specs.declared.Owner.TheVariants.{HeadCell, RecordCell, ChainCell, SparseCell, TopCell, MidCell, LeafCell, PrefixCell}
use Rattle.trie_image.specs.declared.Ledger.{Ledger}
use Rattle.trie_image.specs.Reading.{sees, sees_from}
use Rattle.trie_image.specs.Image.{word_of, field, cell_byte, chain_child, slot_child, leaf_child, mid_child, split_child, node_child, child_of, content_record, record_of, reading, root_of}
use Rattle.trie_image.specs.Paths.{owner, HasPath}
use Rattle.trie_image.specs.Cell.{IsChainCell, IsSparseCell, IsTopCell, IsMidCell, IsLeafCell, IsPrefixCell, IsCell, IsImage}
use Rattle.trie_image.specs.Same.{SameWords, SameCell, IsSame}
use Rattle.trie_image.specs.Place.{IsPlaceAt, IsPlace, role_sees, place_sees}
use Rattle.trie_image.proofs.Owners.{chain_of, sparse_of, split_node_of, prefix_of}
use Rattle.trie_image.proofs.Readings.{frame, sees_none, sees_there}
use Rattle.trie_image.proofs.Children.{closed}

module _ (w w' : List ℕ) where
  pub same_field : (c i : ℕ) → SameWords w w' c → i < 8 → field w' c i ≡ field w c i
  same_field c i h l = ap (λ (x : ℕ). half_of x (i % 2 == 1)) (h (i / 2) (omega arith))

  pub same_byte : (c o : ℕ) → SameWords w w' c → o < 32 → cell_byte w' c o ≡ cell_byte w c o
  same_byte c o h l = ap (λ (x : ℕ). byte_of x (o % 8)) (h (o / 8) (omega arith))

  path_at : (g : Ledger) (q : List ℕ) (a b : ℕ) → a ≡ b → HasPath g b q → HasPath g a q
  path_at g q a b e h = subst (λ (x : ℕ). HasPath g x q) (sym e) h

  module _ (g : Ledger) where
    chain_kept : (c from : ℕ) (t : List ℕ) → SameWords w w' c → IsChainCell w g c from t → IsChainCell w' g c from t
    chain_kept c from t h ok = record { entered = ok.entered; long = ok.long; bytes = λ o lo hi. same_byte c o h (omega arith) ∙ ok.bytes o lo hi; tail = path_at g t (field w' c 7) (field w c 7) (same_field c 7 h (omega arith)) ok.tail }

    sparse_kept : (c : ℕ) (q : List ℕ) → (word_of w' c 3 ≡ word_of w c 3) × ((b s : ℕ) → slot_at (word_of w c 3) b ≡ Some s → field w' c s ≡ field w c s) → IsSparseCell w g c q → IsSparseCell w' g c q
    sparse_kept c q (word, slots) ok = record { sparse = subst IsSparse (sym word) ok.sparse; children = λ b s e. let was : slot_at (word_of w c 3) b ≡ Some s = ap (λ (x : ℕ). slot_at x b) (sym word) ∙ e in path_at g (q ++ b ∷ []) (field w' c s) (field w c s) (slots b s was) (ok.children b s was) }

    top_kept : (c : ℕ) (q : List ℕ) → SameWords w w' c → IsTopCell w g c q → IsTopCell w' g c q
    top_kept c q h ok = record {
      mids = λ i l ne. let e : field w' c i ≡ field w c i = same_field c i h (omega arith) in subst (λ (x : ℕ). owner g (x / 32) ≡ Some (MidCell c i)) (sym e) (ok.mids i l (λ z. ne (e ∙ z)));
      wide = λ i l ne. let e : field w' c i ≡ field w c i = same_field c i h (omega arith) in subst (λ (x : ℕ). kind_at x ≡ Some kind.Wide) (sym e) (ok.wide i l (λ z. ne (e ∙ z)));
      rest = (h 2 (omega arith) ∙ ok.rest.0, h 3 (omega arith) ∙ ok.rest.1);
    }

    mid_kept : (c t i : ℕ) → SameWords w w' c → IsMidCell w g c t i → IsMidCell w' g c t i
    mid_kept c t i h ok = record {
      leaves = λ j l ne. let e : field w' c j ≡ field w c j = same_field c j h l in subst (λ (x : ℕ). owner g (x / 32) ≡ Some (LeafCell t i j)) (sym e) (ok.leaves j l (λ z. ne (e ∙ z)));
      wide = λ j l ne. let e : field w' c j ≡ field w c j = same_field c j h l in subst (λ (x : ℕ). kind_at x ≡ Some kind.Wide) (sym e) (ok.wide j l (λ z. ne (e ∙ z)));
    }

    leaf_kept : (c t i j : ℕ) → SameWords w w' c → IsLeafCell w g c t i j → IsLeafCell w' g c t i j
    leaf_kept c t i j h ok = record {
      children = λ n q l ne top. let e : field w' c n ≡ field w c n = same_field c n h l in path_at g (q ++ (64 * i + 8 * j + n) ∷ []) (field w' c n) (field w c n) e (ok.children n q l (λ z. ne (e ∙ z)) top);
      small = ok.small;
      top = ok.top;
      is_top = ok.is_top;
    }

    prefix_kept : (c : ℕ) (q : List ℕ) → SameWords w w' c → IsPrefixCell w g c q → IsPrefixCell w' g c q
    prefix_kept c q h ok = let a : field w' c 0 ≡ field w c 0 = same_field c 0 h (omega arith) in let b : field w' c 1 ≡ field w c 1 = same_field c 1 h (omega arith) in record {
      content = path_at g q (field w' c 0) (field w c 0) a ok.content;
      is_content = subst (λ (x : ℕ). kind_at x ≡ Some kind.Content) (sym a) ok.is_content;
      node = path_at g q (field w' c 1) (field w c 1) b ok.node;
      is_node = subst (λ (x : ℕ). (kind_at x ≡ Some kind.Chain) ⊎ ((kind_at x ≡ Some kind.Sparse) ⊎ (kind_at x ≡ Some kind.Wide))) (sym b) ok.is_node;
    }

    pub cell_kept : (c : ℕ) (o : Owner) → SameCell w w' c o → IsCell w g c o → IsCell w' g c o
    cell_kept c HeadCell h ok = ok
    cell_kept c (RecordCell n j) h (e, is, ok) = (e, is, record { place = ok.place; inside = ok.inside; words = λ i l. h i l ∙ ok.words i l })
    cell_kept c (ChainCell from t) h ok = chain_kept c from t h ok
    cell_kept c (SparseCell q) h ok = sparse_kept c q h ok
    cell_kept c (TopCell q) h ok = top_kept c q h ok
    cell_kept c (MidCell t i) h ok = mid_kept c t i h ok
    cell_kept c (LeafCell t i j) h ok = leaf_kept c t i j h ok
    cell_kept c (PrefixCell q) h ok = prefix_kept c q h ok

    module _ (each : (c : ℕ) (o : Owner) → owner g c ≡ Some o → IsCell w g c o) (same : (c : ℕ) (o : Owner) → owner g c ≡ Some o → SameCell w w' c o) where
      chain_same : (p : ℕ) (q : List ℕ) (b : ℕ) → kind_at p ≡ Some kind.Chain → HasPath g p q → chain_child w' p b ≡ chain_child w p b
      chain_same p q b k at = let i = chain_of g p q at k in let h : SameWords w w' (p / 32) = same (p / 32) (ChainCell i.0 i.1) i.2 in
          ap₂ (λ (x y : ℕ). cond (x == b) (cond (p % 32 == 27) y (p + 1)) 0) (same_byte (p / 32) (p % 32) h (omega arith)) (same_field (p / 32) 7 h (omega arith))

      slot_same : (c : ℕ) (b : ℕ) (o : Option ℕ) → ((s : ℕ) → slot_at (word_of w c 3) b ≡ Some s → field w' c s ≡ field w c s) → slot_at (word_of w c 3) b ≡ o → slot_child w' c o ≡ slot_child w c o
      slot_same c b None h e = refl
      slot_same c b (Some s) h e = h s e

      sparse_same : (c b : ℕ) (q : List ℕ) → owner g c ≡ Some (SparseCell q) → slot_child w' c (slot_at (word_of w' c 3) b) ≡ slot_child w c (slot_at (word_of w c 3) b)
      sparse_same c b q o = let h = same c (SparseCell q) o in ap (λ (x : ℕ). slot_child w' c (slot_at x b)) h.0 ∙ slot_same c b (slot_at (word_of w c 3) b) (h.1 b) refl

      leaf_same : (l t i j b : ℕ) → (l ≢ 0 → owner g (l / 32) ≡ Some (LeafCell t i j)) → leaf_child w' l b ≡ leaf_child w l b
      leaf_same l t i j b own = ⊎_elim (λ (z : l ≡ 0). cond-true (l == 0) 0 (field w' (l / 32) (b % 8)) (eq-eqb l 0 z) ∙ sym (cond-true (l == 0) 0 (field w (l / 32) (b % 8)) (eq-eqb l 0 z)))
          (λ (ne : l ≢ 0). let h : SameWords w w' (l / 32) = same (l / 32) (LeafCell t i j) (own ne) in ap (λ (x : ℕ). cond (l == 0) 0 x) (same_field (l / 32) (b % 8) h (omega arith))) (cases_eq l 0)

      mid_same : (m t i b : ℕ) → (m ≢ 0 → owner g (m / 32) ≡ Some (MidCell t i)) → mid_child w' m b ≡ mid_child w m b
      mid_same m t i b own = ⊎_elim (λ (z : m ≡ 0). cond-true (m == 0) 0 (leaf_child w' (field w' (m / 32) (b / 8 % 8)) b) (eq-eqb m 0 z) ∙ sym (cond-true (m == 0) 0 (leaf_child w (field w (m / 32) (b / 8 % 8)) b) (eq-eqb m 0 z)))
          (λ (ne : m ≢ 0). let h : SameWords w w' (m / 32) = same (m / 32) (MidCell t i) (own ne) in let ok : IsMidCell w g (m / 32) t i = each (m / 32) (MidCell t i) (own ne) in
          ap (λ (x : ℕ). cond (m == 0) 0 x) (ap (λ (x : ℕ). leaf_child w' x b) (same_field (m / 32) (b / 8 % 8) h (omega arith)) ∙ leaf_same (field w (m / 32) (b / 8 % 8)) t i (b / 8 % 8) b (λ n. ok.leaves (b / 8 % 8) (omega arith) n))) (cases_eq m 0)

      pub split_node_same : (c b : ℕ) (q : List ℕ) → owner g c ≡ Some (TopCell q) → split_child w' c b ≡ split_child w c b
      split_node_same c b q o = let h : SameWords w w' c = same c (TopCell q) o in let ok : IsTopCell w g c q = each c (TopCell q) o in
          ⊎_elim (λ (t : nat_lt b 256 ≡ true). let small : b < 256 = ltb-true b 256 t in ap (λ (x : ℕ). cond (nat_lt b 256) x 0) (ap (λ (x : ℕ). mid_child w' x b) (same_field c (b / 64) h (omega arith)) ∙ mid_same (field w c (b / 64)) c (b / 64) b (λ ne. ok.mids (b / 64) (omega arith) ne)))
          (λ (f : nat_lt b 256 ≡ false). cond-false (nat_lt b 256) (mid_child w' (field w' c (b / 64)) b) 0 f ∙ sym (cond-false (nat_lt b 256) (mid_child w (field w c (b / 64)) b) 0 f)) (cases_Bool (nat_lt b 256))

      node_same : (p : ℕ) (q : List ℕ) (b : ℕ) (k : Option Kind) → kind_at p ≡ k → HasPath g p q → node_child w' p b k ≡ node_child w p b k
      node_same p q b (Some kind.Chain) e at = chain_same p q b e at
      node_same p q b (Some kind.Sparse) e at = sparse_same (p / 32) b q (sparse_of g p q at e)
      node_same p q b (Some kind.Wide) e at = split_node_same (p / 32) b q (split_node_of g p q at e)
      node_same p q b _ e at = refl

      pub child_same : (p : ℕ) (q : List ℕ) (b : ℕ) (k : Option Kind) → kind_at p ≡ k → HasPath g p q → child_of w' p b k ≡ child_of w p b k
      child_same p q b (Some kind.Prefix) e at = let o = prefix_of g p q at e in let h : SameWords w w' (p / 32) = same (p / 32) (PrefixCell q) o in let ok : IsPrefixCell w g (p / 32) q = each (p / 32) (PrefixCell q) o in
          ap (λ (x : ℕ). node_child w' x b (kind_at x)) (same_field (p / 32) 1 h (omega arith)) ∙ node_same (field w (p / 32) 1) q b (kind_at (field w (p / 32) 1)) refl ok.node
      child_same p q b (Some kind.Chain) e at = node_same p q b (Some kind.Chain) e at
      child_same p q b (Some kind.Sparse) e at = node_same p q b (Some kind.Sparse) e at
      child_same p q b (Some kind.Wide) e at = node_same p q b (Some kind.Wide) e at
      child_same p q b _ e at = refl

      pub record_same : (p : ℕ) (q : List ℕ) (k : Option Kind) → kind_at p ≡ k → HasPath g p q → record_of w' p k ≡ record_of w p k
      record_same p q (Some kind.Prefix) e at = let h : SameWords w w' (p / 32) = same (p / 32) (PrefixCell q) (prefix_of g p q at e) in ap (λ (x : ℕ). content_record x (kind_at x)) (same_field (p / 32) 0 h (omega arith))
      record_same p q _ e at = refl

      pub sees_same : (k : List ℕ) (p : ℕ) (q : List ℕ) → HasPath g p q → sees (reading w') p k ≡ sees (reading w) p k
      sees_same k p q at = frame (reading w) (reading w') (HasPath g) (closed w g each) (λ p q at. record_same p q (kind_at p) refl at) (λ p q b at. child_same p q b (kind_at p) refl at) k p q at

      from_same : (k : List ℕ) (p : ℕ) (q : List ℕ) → (p ≢ 0 → HasPath g p q) → sees_from (reading w') p k ≡ sees_from (reading w) p k
      from_same k p q at = ⊎_elim (λ (z : p ≡ 0). sees_none (reading w') p k z ∙ sym (sees_none (reading w) p k z)) (λ (ne : p ≢ 0). sees_there (reading w') p k ne ∙ (sees_same k p q (at ne) ∙ sym (sees_there (reading w) p k ne))) (cases_eq p 0)

      leaf_leads : (l t i j b : ℕ) (q : List ℕ) → i ≡ b / 64 → j ≡ b / 8 % 8 → (l ≢ 0 → owner g (l / 32) ≡ Some (LeafCell t i j)) → owner g t ≡ Some (TopCell q) → leaf_child w l b ≢ 0 → HasPath g (leaf_child w l b) (q ++ b ∷ [])
      leaf_leads l t i j b q ei ej own top ne = ⊎_elim (λ (z : l ≡ 0). absurd (ne (cond-true (l == 0) 0 (field w (l / 32) (b % 8)) (eq-eqb l 0 z))))
          (λ (n : l ≢ 0). let ok : IsLeafCell w g (l / 32) t i j = each (l / 32) (LeafCell t i j) (own n) in let is : leaf_child w l b ≡ field w (l / 32) (b % 8) = cond-false (l == 0) 0 (field w (l / 32) (b % 8)) (ne_eqb l 0 n) in
          let byte : 64 * i + 8 * j + b % 8 ≡ b = omega arith in
          path_at g (q ++ b ∷ []) (leaf_child w l b) (field w (l / 32) (b % 8)) is (subst (λ (x : ℕ). HasPath g (field w (l / 32) (b % 8)) (q ++ x ∷ [])) byte (ok.children (b % 8) q (omega arith) (λ z. ne (is ∙ z)) top))) (cases_eq l 0)

      abbrev PlaceSame : List ℕ → ℕ → ℕ → ℕ → Role → Type 0
      PlaceSame key p part taken role = IsPlaceAt w' g key p part taken role × (role_sees w' key p part taken role ≡ role_sees w key p part taken role)

      place_same : (key : List ℕ) (p part taken : ℕ) (role : Role) → root_of w' ≡ root_of w → (root_of w ≢ 0 → HasPath g (root_of w) []) → IsPlaceAt w g key p part taken role → PlaceSame key p part taken role
      place_same key p part taken Root e root ok = (ok, ap (λ (x : ℕ). sees_from (reading w') x key) e ∙ from_same key (root_of w) [] root)
      place_same key p part taken Head e root ok = (ok, sees_same (drop taken key) p key ok.0)
      place_same key p part taken Prefix e root ok = (ok, sees_same (drop taken key) p (take taken key) ok.0)
      place_same key p part taken Chain e root ok = (ok, sees_same (drop taken key) p (take taken key) ok.0)
      place_same key p part taken Order e root ok = (ok, sees_same (drop taken key) p (take taken key) ok.0)
      place_same key p part taken Top e root ok = (ok, sees_same (drop taken key) p (take taken key) ok.0)
      place_same key p part taken Slot e root (b, at, k, next, slot) = let o = sparse_of g p (take taken key) at k in let h = same (p / 32) (SparseCell (take taken key)) o in let ok : IsSparseCell w g (p / 32) (take taken key) = each (p / 32) (SparseCell (take taken key)) o in
          ((b, at, k, next, ap (λ (x : ℕ). slot_at x b) h.0 ∙ slot), ap (λ (x : ℕ). sees_from (reading w') x (drop (taken + 1) key)) (h.1 b part slot) ∙ from_same (drop (taken + 1) key) (field w (p / 32) part) (take taken key ++ b ∷ []) (λ ne. ok.children b part slot))
      place_same key p part taken Mid e root (t, o, top, next) = let h : SameWords w w' (p / 32) = same (p / 32) (MidCell t (part / 64)) o in let ok : IsMidCell w g (p / 32) t (part / 64) = each (p / 32) (MidCell t (part / 64)) o in let l : ℕ = field w (p / 32) (part / 8 % 8) in
          let leaf : l ≢ 0 → owner g (l / 32) ≡ Some (LeafCell t (part / 64) (part / 8 % 8)) = λ n. ok.leaves (part / 8 % 8) (omega arith) n in
          ((t, o, top, next), ap (λ (x : ℕ). sees_from (reading w') x (drop (taken + 1) key)) (ap (λ (x : ℕ). leaf_child w' x part) (same_field (p / 32) (part / 8 % 8) h (omega arith)) ∙ leaf_same l t (part / 64) (part / 8 % 8) part leaf) ∙ from_same (drop (taken + 1) key) (leaf_child w l part) (take taken key ++ part ∷ []) (leaf_leads l t (part / 64) (part / 8 % 8) part (take taken key) refl refl leaf top))
      place_same key p part taken Leaf e root (t, o, top, next) = let h : SameWords w w' (p / 32) = same (p / 32) (LeafCell t (part / 64) (part / 8 % 8)) o in let ok : IsLeafCell w g (p / 32) t (part / 64) (part / 8 % 8) = each (p / 32) (LeafCell t (part / 64) (part / 8 % 8)) o in
          let byte : 64 * (part / 64) + 8 * (part / 8 % 8) + part % 8 ≡ part = omega arith in
          ((t, o, top, next), ap (λ (x : ℕ). sees_from (reading w') x (drop (taken + 1) key)) (same_field (p / 32) (part % 8) h (omega arith)) ∙ from_same (drop (taken + 1) key) (field w (p / 32) (part % 8)) (take taken key ++ part ∷ []) (λ ne. subst (λ (x : ℕ). HasPath g (field w (p / 32) (part % 8)) (take taken key ++ x ∷ [])) byte (ok.children (part % 8) (take taken key) (omega arith) ne top)))

pub keeps : (w w' : List ℕ) (g : Ledger) (cells : ℕ) → IsImage w g cells → IsSame w w' g
    → IsImage w' g cells × ((k : List ℕ) (p : ℕ) (q : List ℕ) → HasPath g p q → sees (reading w') p k ≡ sees (reading w) p k) × ((key : List ℕ) (pl : Place) → IsPlace w g key pl → IsPlace w' g key pl × (place_sees w' key pl ≡ place_sees w key pl))
keeps w w' g cells ok same = let root : root_of w' ≡ root_of w = same.cells 0 HeadCell ok.head in (
  record { size = same.size ∙ ok.size; capacity = ok.capacity; fewer = ok.fewer; small = ok.small; head = ok.head; each = λ c o e. cell_kept w w' g c o (same.cells c o e) (ok.each c o e); root = λ ne. path_at w w' g [] (root_of w') (root_of w) root (ok.root (λ z. ne (root ∙ z))) },
  (λ k p q at. sees_same w w' g ok.each same.cells k p q at),
  (λ key pl place. let h = place_same w w' g ok.each same.cells key pl.ptr pl.part pl.taken pl.role root ok.root place.role in (record { bytes = place.bytes; role = h.0 }, h.1)),
)

-- what shows that a cell is the same
pub same_cell : (w w' : List ℕ) (c : ℕ) (o : Owner) → root_of w' ≡ root_of w → ((o ≡ HeadCell → ⊥) → SameWords w w' c) → SameCell w w' c o
same_cell w w' c HeadCell r h = r
same_cell w w' c (RecordCell n j) r h = h (λ e. cc)
same_cell w w' c (ChainCell from t) r h = h (λ e. cc)
same_cell w w' c (SparseCell q) r h = let s = h (λ e. cc) in (s 3 (omega arith), λ b n e. ap (λ (x : ℕ). half_of x (n % 2 == 1)) (s (n / 2) (let l = slot_small (word_of w c 3) b n e in omega (arith, l))))
same_cell w w' c (TopCell q) r h = h (λ e. cc)
same_cell w w' c (MidCell t i) r h = h (λ e. cc)
same_cell w w' c (LeafCell t i j) r h = h (λ e. cc)
same_cell w w' c (PrefixCell q) r h = h (λ e. cc)

pub own_inside : (l : List Owner) (i : ℕ) (x : Owner) → slice_get l i ≡ Some x → i < length l
own_inside [] i x e = absurd (cc)
own_inside (y ∷ ys) zero x e = omega arith
own_inside (y ∷ ys) (suc i) x e = let h = own_inside ys i x e in omega arith

pub not_first : (g : Ledger) (c : ℕ) (o : Owner) → owner g 0 ≡ Some HeadCell → owner g c ≡ Some o → (o ≡ HeadCell → ⊥) → c ≢ 0
not_first g c o head e ne z = let at : owner g 0 ≡ Some o = subst (λ (x : ℕ). owner g x ≡ Some o) z e in let same : Some o ≡ Some HeadCell = sym at ∙ head in let is : o ≡ HeadCell = cc in ne is

pub set_same : (w : List ℕ) (i v c : ℕ) → ((k : ℕ) → k < 4 → 4 * c + k ≢ i) → SameWords w (set w i v) c
set_same w i v c apart k l = get_or-set_other w i (4 * c + k) v 0 (apart k l)

pub root_same : (w : List ℕ) (i v : ℕ) → 1 ≢ i → root_of (set w i v) ≡ root_of w
root_same w i v ne = ap (λ (x : ℕ). half_of x false) (get_or-set_other w i 1 v 0 ne)

pub fresh : (w : List ℕ) (g : Ledger) (cells i v : ℕ) → IsImage w g cells → (4 * length g.owners ≤ i) ⊎ (i ≡ 0) → IsSame w (slice_set w i v) g
fresh w g cells i v ok where_ = let used : 0 < length g.owners = own_inside g.owners 0 HeadCell ok.head in record {
  size = length-set w i v;
  cells = λ c o e. let inside : c < length g.owners = own_inside g.owners c o e in ⊎_elim
      (λ (far : 4 * length g.owners ≤ i). same_cell w (set w i v) c o (root_same w i v (λ z. omega arith)) (λ n. set_same w i v c (λ k l z. omega arith)))
      (λ (z : i ≡ 0). same_cell w (set w i v) c o (root_same w i v (λ y. omega arith)) (λ n. let ne = not_first g c o ok.head e n in set_same w i v c (λ k l y. ne (omega arith)))) where_;
}

parity : (n : ℕ) → (n % 2 ≡ 0) ⊎ (n % 2 ≡ 1)
parity n = ⊎_elim (λ (z : n % 2 ≡ 0). inl z) (λ (ne : n % 2 ≢ 0). inr (omega arith)) (cases_eq (n % 2) 0)

pub half_apart : (n s : ℕ) → (s ≡ n → ⊥) → s / 2 ≡ n / 2 → (n % 2 == 1) ≡ (s % 2 == 1) → ⊥
half_apart n s ne same e = ⊎_elim (λ (a : n % 2 ≡ 0). ⊎_elim (λ (b : s % 2 ≡ 0). ne (omega arith)) (λ (b : s % 2 ≡ 1). let l = ap (λ (x : ℕ). x == 1) a in let r = ap (λ (x : ℕ). x == 1) b in let d : false ≡ true = sym l ∙ (e ∙ r) in absurd (cc)) (parity s))
    (λ (a : n % 2 ≡ 1). ⊎_elim (λ (b : s % 2 ≡ 0). let l = ap (λ (x : ℕ). x == 1) a in let r = ap (λ (x : ℕ). x == 1) b in let d : true ≡ false = sym l ∙ (e ∙ r) in absurd (cc)) (λ (b : s % 2 ≡ 1). ne (omega arith)) (parity s)) (parity n)

slot_kept : (w : List ℕ) (c n p b s : ℕ) → 4 * c + n / 2 < length w → n < 6 → p < 2 ^ 32 → s < 6 → (s ≡ n → ⊥) → field (set w (4 * c + n / 2) (with_half_of (word_of w c (n / 2)) (n % 2 == 1) p)) c s ≡ field w c s
slot_kept w c n p b s reach small fits less ne = let i : ℕ = 4 * c + n / 2 in let v : ℕ = with_half_of (word_of w c (n / 2)) (n % 2 == 1) p in ⊎_elim
    (λ (z : s / 2 ≡ n / 2). ap (λ (x : ℕ). half_of (word_of (set w i v) c x) (s % 2 == 1)) z ∙ (ap (λ (x : ℕ). half_of x (s % 2 == 1)) (get_or-set_same w i v 0 reach) ∙ (other_half (word_of w c (n / 2)) p (n % 2 == 1) (s % 2 == 1) fits (half_apart n s ne z) ∙ ap (λ (x : ℕ). half_of (word_of w c x) (s % 2 == 1)) (sym z))))
    (λ (apart : s / 2 ≢ n / 2). ap (λ (x : ℕ). half_of x (s % 2 == 1)) (get_or-set_other w i (4 * c + s / 2) v 0 (λ y. apart (omega arith)))) (cases_eq (s / 2) (n / 2))

pub free_slot : (w : List ℕ) (g : Ledger) (cells c n p : ℕ) (q : List ℕ) → IsImage w g cells → owner g c ≡ Some (SparseCell q) → n < 6 → ((b : ℕ) → slot_at (word_of w c 3) b ≢ Some n) → p < 2 ^ 32
    → IsSame w (slice_set w (4 * c + n / 2) (with_half_of (word_of w c (n / 2)) (n % 2 == 1) p)) g
free_slot w g cells c n p q ok is small free fits = let i : ℕ = 4 * c + n / 2 in let v : ℕ = with_half_of (word_of w c (n / 2)) (n % 2 == 1) p in
    let not_head : SparseCell q ≡ HeadCell → ⊥ = λ e. cc in
    let ne = not_first g c (SparseCell q) ok.head is not_head in
    let inside : c < length g.owners = own_inside g.owners c (SparseCell q) is in
    let reach : i < length w = omega (arith, ok.size, ok.capacity) in record {
      size = length-set w i v;
      cells = λ d o e. ⊎_elim
          (λ (z : d ≡ c). let at : owner g c ≡ Some o = subst (λ (x : ℕ). owner g x ≡ Some o) z e in let same : Some (SparseCell q) ≡ Some o = sym is ∙ at in let o_is : SparseCell q ≡ o = cc in
          subst (λ (x : Owner). SameCell w (set w i v) d x) o_is (subst (λ (x : ℕ). SameCell w (set w i v) x (SparseCell q)) (sym z)
          (get_or-set_other w i (4 * c + 3) v 0 (λ y. omega arith), λ b s at_s. slot_kept w c n p b s reach small fits (slot_small (word_of w c 3) b s at_s) (λ y. free b (at_s ∙ ap (λ (x : ℕ). Some x) y)))))
          (λ (apart : d ≢ c). same_cell w (set w i v) d o (root_same w i v (λ y. ne (omega arith))) (λ h. set_same w i v d (λ k l y. apart (omega arith)))) (cases_eq d c);
    }
