-- After a Publish each place of a walk is one of the new image, and sees what it saw or, for the put's key, the new record.
use Rattle.std.proofs.Common.{◌≡◌, ◌≢◌, ◌⊎◌, ℕ, zero, suc, ◌+◌, ◌*◌, ◌/◌, ◌%◌, ◌<◌, ◌==◌, nat_lt, List, [], ◌∷◌, ◌++◌, take, drop, slice_get, Option, Some, refl, sym, ap, ◌∙◌, subst, inl, inr, ⊎_elim, arith, lt-ltb, ne_eqb, take_all}
use Rattle.std.proofs.lemmas.Bool.{cond-true, cond-false}
use Rattle.std.proofs.lemmas.List.{take-append-drop}
use Rattle.cell_layout.specs.declared.Kind.{Kind}
use Rattle.cell_layout.specs.declared.Kind.TheVariants as kind
use Rattle.cell_layout.specs.Pointers.{kind_at}
use Rattle.cell_layout.specs.Slots.{slot_at}
use Rattle.cell_layout.specs.Words.{ItemsAreBytes}
use Rattle.cell_layout.proofs.CellBytes.{byte_there}
use Rattle.trie_image.specs.declared.Role.{Role}
use Rattle.trie_image.specs.declared.Role.TheVariants.{Root, Chain, Order, Slot, Top, Mid, Leaf, Prefix, Head}
use Rattle.trie_image.specs.declared.Place.{Place}
use Rattle.trie_image.specs.declared.Owner.{Owner}
use Rattle.trie_image.specs.declared.Owner.TheVariants.{SparseCell, TopCell, MidCell, LeafCell}
use Rattle.trie_image.specs.declared.Ledger.{Ledger}
use Rattle.trie_image.specs.Reading.{sees, sees_from}
use Rattle.trie_image.specs.Image.{word_of, field, slot_child, leaf_child, mid_child, split_child, child_of, reading, root_of}
use Rattle.trie_image.specs.Paths.{owner, HasPath, at_split}
use Rattle.trie_image.specs.Cell.{IsImage}
use Rattle.trie_image.specs.WellFormed.{HasSplitNodes}
use Rattle.trie_image.specs.Place.{IsPlaceAt, IsPlace, role_sees, place_sees}
use Rattle.trie_image.proofs.Owners.{sparse_of}
use Rattle.trie_image.proofs.Kept.{own_inside, not_first}
use Rattle.trie_image.proofs.NewPointers.{offset_kind}

-- the rest of a key begins with its next byte
pub next_rest : (taken : ℕ) (k : List ℕ) (b : ℕ) → slice_get k taken ≡ Some b → drop taken k ≡ b ∷ drop (taken + 1) k
next_rest taken [] b e = absurd (cc)
next_rest zero (x ∷ k) b e = let is : x ≡ b = cc in ap (λ (y : ℕ). y ∷ k) is
next_rest (suc taken) (x ∷ k) b e = let n : suc taken + 1 ≡ suc (taken + 1) = omega arith in next_rest taken k b e ∙ ap (λ (m : ℕ). b ∷ drop m (x ∷ k)) (sym n)

-- what places inside a node see is what the node's pointer sees
module _ (w : List ℕ) (g : Ledger) (cells : ℕ) (ok : IsImage w g cells) (split : HasSplitNodes w g) (k : List ℕ) (taken : ℕ) where
  slot_sees : (p part b : ℕ) → kind_at p ≡ Some kind.Sparse → slice_get k taken ≡ Some b → slot_at (word_of w (p / 32) 3) b ≡ Some part → sees_from (reading w) (field w (p / 32) part) (drop (taken + 1) k) ≡ sees (reading w) p (drop taken k)
  slot_sees p part b is next slot = let child : child_of w p b (kind_at p) ≡ field w (p / 32) part = ap (λ (x : Option Kind). child_of w p b x) is ∙ ap (λ (x : Option ℕ). slot_child w (p / 32) x) slot in
      ap (λ (x : ℕ). sees_from (reading w) x (drop (taken + 1) k)) (sym child) ∙ ap (λ (l : List ℕ). sees (reading w) p l) (sym (next_rest taken k b next))

  -- the pointer to a split node's top cell
  module _ (t part : ℕ) (q : List ℕ) (top : owner g t ≡ Some (TopCell q)) (small : part < 256) where
    top_kind : kind_at (32 * t + 28) ≡ Some kind.Wide
    top_kind = let l = own_inside g.owners t (TopCell q) top in let ne = not_first g t (TopCell q) ok.head top (λ z. cc) in offset_kind (32 * t + 28) t 28 refl (omega arith) (omega (arith, l, ok.capacity, ok.small)) (omega arith)

    top_path : HasPath g (32 * t + 28) q
    top_path = let c : (32 * t + 28) / 32 ≡ t = omega arith in at_split top_kind (subst (λ (x : ℕ). owner g x ≡ Some (TopCell q)) (sym c) top)

    top_child : (m x : ℕ) → field w t (part / 64) ≡ 32 * m + 28 → leaf_child w (field w m (part / 8 % 8)) part ≡ x → child_of w (32 * t + 28) part (kind_at (32 * t + 28)) ≡ x
    top_child m x mid is = let c : (32 * t + 28) / 32 ≡ t = omega arith in let n : (32 * m + 28) / 32 ≡ m = omega arith in let ne : 32 * m + 28 ≢ 0 = λ z. omega arith in
        ap (λ (y : Option Kind). child_of w (32 * t + 28) part y) top_kind ∙ (ap (λ (y : ℕ). split_child w y part) c ∙ (cond-true (nat_lt part 256) (mid_child w (field w t (part / 64)) part) 0 (lt-ltb part 256 small)
        ∙ (ap (λ (y : ℕ). mid_child w y part) mid ∙ (cond-false (32 * m + 28 == 0) 0 (leaf_child w (field w ((32 * m + 28) / 32) (part / 8 % 8)) part) (ne_eqb (32 * m + 28) 0 ne)
        ∙ (ap (λ (y : ℕ). leaf_child w (field w y (part / 8 % 8)) part) n ∙ is)))))

    by_top : (x : ℕ) → child_of w (32 * t + 28) part (kind_at (32 * t + 28)) ≡ x → slice_get k taken ≡ Some part → sees_from (reading w) x (drop (taken + 1) k) ≡ sees (reading w) (32 * t + 28) (drop taken k)
    by_top x e next = ap (λ (y : ℕ). sees_from (reading w) y (drop (taken + 1) k)) (sym e) ∙ ap (λ (l : List ℕ). sees (reading w) (32 * t + 28) l) (sym (next_rest taken k part next))

    mid_sees : (m : ℕ) → owner g m ≡ Some (MidCell t (part / 64)) → slice_get k taken ≡ Some part → sees_from (reading w) (leaf_child w (field w m (part / 8 % 8)) part) (drop (taken + 1) k) ≡ sees (reading w) (32 * t + 28) (drop taken k)
    mid_sees m own next = by_top (leaf_child w (field w m (part / 8 % 8)) part) (top_child m (leaf_child w (field w m (part / 8 % 8)) part) (split.mids m t (part / 64) own).1 refl) next

    leaf_sees : (l : ℕ) → owner g l ≡ Some (LeafCell t (part / 64) (part / 8 % 8)) → slice_get k taken ≡ Some part → sees_from (reading w) (field w l (part % 8)) (drop (taken + 1) k) ≡ sees (reading w) (32 * t + 28) (drop taken k)
    leaf_sees l own next = let m = split.leaves l t (part / 64) (part / 8 % 8) own in let n : (32 * l + 28) / 32 ≡ l = omega arith in let ne : 32 * l + 28 ≢ 0 = λ z. omega arith in
        let there : leaf_child w (field w m.0 (part / 8 % 8)) part ≡ field w l (part % 8) = ap (λ (y : ℕ). leaf_child w y part) m.3 ∙ (cond-false (32 * l + 28 == 0) 0 (field w ((32 * l + 28) / 32) (part % 8)) (ne_eqb (32 * l + 28) 0 ne) ∙ ap (λ (y : ℕ). field w y (part % 8)) n) in
        by_top (field w l (part % 8)) (top_child m.0 (field w l (part % 8)) (split.mids m.0 t (part / 64) m.1).1 there) next

module _ (w w' : List ℕ) (g g' : Ledger) (cells : ℕ) (ok : IsImage w g cells) (ok' : IsImage w' g' cells) (split : HasSplitNodes w g) (split' : HasSplitNodes w' g') (grows : (p : ℕ) (q : List ℕ) → HasPath g p q → HasPath g' p q) (keeps : (c : ℕ) (o : Owner) → owner g c ≡ Some o → owner g' c ≡ Some o) (slots : (c b s : ℕ) (q : List ℕ) → owner g c ≡ Some (SparseCell q) → slot_at (word_of w c 3) b ≡ Some s → slot_at (word_of w' c 3) b ≡ Some s)
    (key : List ℕ) (new : ℕ) (law : (k : List ℕ) (a : ℕ) (q : List ℕ) → HasPath g a q → (sees (reading w') a k ≡ sees (reading w) a k) ⊎ ((q ++ k ≡ key) × (sees (reading w') a k ≡ Some new)))
    (roots : (k : List ℕ) → (sees_from (reading w') (root_of w') k ≡ sees_from (reading w) (root_of w) k) ⊎ ((k ≡ key) × (sees_from (reading w') (root_of w') k ≡ Some new))) where
  -- the same as before, or the new record for the put's key
  abbrev SameOrNew : List ℕ → Option ℕ → Option ℕ → Type 0
  SameOrNew k o o' = (o' ≡ o) ⊎ ((k ≡ key) × (o' ≡ Some new))

  at_pointer : (k : List ℕ) (taken p : ℕ) → HasPath g p (take taken k) → SameOrNew k (sees (reading w) p (drop taken k)) (sees (reading w') p (drop taken k))
  at_pointer k taken p at = ⊎_elim (λ e. inl e) (λ (t : (take taken k ++ drop taken k ≡ key) × (sees (reading w') p (drop taken k) ≡ Some new)). inr (sym (take-append-drop taken k) ∙ t.0, t.1)) (law (drop taken k) p (take taken k) at)

  through : (k : List ℕ) (o o' x x' : Option ℕ) → x ≡ o → x' ≡ o' → SameOrNew k o o' → SameOrNew k x x'
  through k o o' x x' e e' h = ⊎_elim (λ (t : o' ≡ o). inl (e' ∙ (t ∙ sym e))) (λ (t : (k ≡ key) × (o' ≡ Some new)). inr (t.0, e' ∙ t.1)) h

  abbrev PlaceLaw : List ℕ → ℕ → ℕ → ℕ → Role → Type 0
  PlaceLaw k p part taken role = IsPlaceAt w' g' k p part taken role × SameOrNew k (role_sees w k p part taken role) (role_sees w' k p part taken role)

  place_law : (k : List ℕ) → ItemsAreBytes k → (p part taken : ℕ) (role : Role) → IsPlaceAt w g k p part taken role → PlaceLaw k p part taken role
  place_law k bytes p part taken Root h = (h, roots k)
  place_law k bytes p part taken Head (at, is, len) = let whole : take taken k ≡ k = take_all taken k (omega arith) in ((grows p k at, is, len), at_pointer k taken p (subst (λ (l : List ℕ). HasPath g p l) (sym whole) at))
  place_law k bytes p part taken Prefix (at, is, le) = ((grows p (take taken k) at, is, le), at_pointer k taken p at)
  place_law k bytes p part taken Chain (at, is, le) = ((grows p (take taken k) at, is, le), at_pointer k taken p at)
  place_law k bytes p part taken Order (at, is, le) = ((grows p (take taken k) at, is, le), at_pointer k taken p at)
  place_law k bytes p part taken Top (at, is, next) = ((grows p (take taken k) at, is, next), at_pointer k taken p at)
  place_law k bytes p part taken Slot (b, at, is, next, slot) = let slot' = slots (p / 32) b part (take taken k) (sparse_of g p (take taken k) at is) slot in
      ((b, grows p (take taken k) at, is, next, slot'), through k (sees (reading w) p (drop taken k)) (sees (reading w') p (drop taken k)) _ _ (slot_sees w g cells ok split k taken p part b is next slot) (slot_sees w' g' cells ok' split' k taken p part b is next slot') (at_pointer k taken p at))
  place_law k bytes p part taken Mid (t, own, top, next) = let small = byte_there k taken part bytes next in (
    (t, keeps (p / 32) (MidCell t (part / 64)) own, keeps t (TopCell (take taken k)) top, next),
    through k (sees (reading w) (32 * t + 28) (drop taken k)) (sees (reading w') (32 * t + 28) (drop taken k)) _ _ (mid_sees w g cells ok split k taken t part (take taken k) top small (p / 32) own next)
        (mid_sees w' g' cells ok' split' k taken t part (take taken k) (keeps t (TopCell (take taken k)) top) small (p / 32) (keeps (p / 32) (MidCell t (part / 64)) own) next) (at_pointer k taken (32 * t + 28) (top_path w g cells ok split k taken t part (take taken k) top small)),
  )
  place_law k bytes p part taken Leaf (t, own, top, next) = let small = byte_there k taken part bytes next in let i : ℕ = part / 64 in let j : ℕ = part / 8 % 8 in (
    (t, keeps (p / 32) (LeafCell t i j) own, keeps t (TopCell (take taken k)) top, next),
    through k (sees (reading w) (32 * t + 28) (drop taken k)) (sees (reading w') (32 * t + 28) (drop taken k)) _ _ (leaf_sees w g cells ok split k taken t part (take taken k) top small (p / 32) own next)
        (leaf_sees w' g' cells ok' split' k taken t part (take taken k) (keeps t (TopCell (take taken k)) top) small (p / 32) (keeps (p / 32) (LeafCell t i j) own) next) (at_pointer k taken (32 * t + 28) (top_path w g cells ok split k taken t part (take taken k) top small)),
  )

  pub places : (k : List ℕ) (pl : Place) → IsPlace w g k pl → IsPlace w' g' k pl × SameOrNew k (place_sees w k pl) (place_sees w' k pl)
  places k pl h = let l = place_law k h.bytes pl.ptr pl.part pl.taken pl.role h.role in (record { bytes = h.bytes; role = l.0 }, l.1)
