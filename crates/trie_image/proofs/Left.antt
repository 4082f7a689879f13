-- What the publishing store of one field leaves of the cells taken before, and of the new cells.
use Rattle.std.proofs.Common.{◌≡◌, ◌≢◌, ◌⊎◌, ℕ, ◌+◌, ◌*◌, ◌/◌, ◌%◌, ◌^◌, ◌<◌, ◌≤◌, ◌==◌, List, [], length, set, slice_index, Some, sym, ap, ◌∙◌, subst, inl, inr, ⊎_elim, arith, get_or-set_other, get_or-set_same}
use Rattle.std.proofs.lemmas.Bool.{cases_eq}
use Rattle.cell_layout.specs.Words.{with_half_of}
use Rattle.cell_layout.specs.Slots.{slot_at}
use Rattle.cell_layout.proofs.Added.{slot_small}
use Rattle.trie_image.specs.declared.Owner.{Owner}
use Rattle.trie_image.specs.declared.Owner.TheVariants.{HeadCell, ChainCell, SparseCell, TopCell, MidCell, LeafCell, PrefixCell}
use Rattle.trie_image.specs.declared.Ledger.{Ledger}
use Rattle.trie_image.specs.Image.{word_of, field, root_of}
use Rattle.trie_image.specs.Paths.{owner}
use Rattle.trie_image.specs.Cell.{IsImage}
use Rattle.trie_image.proofs.Kept.{own_inside, same_field, not_first}
use Rattle.trie_image.proofs.CellWords.{Stands}
use Rattle.trie_image.proofs.HomeStores.{stored_field}
use Rattle.trie_image.proofs.Homes.{Home, root, tail, slot, leaf, content, node}
use Rattle.trie_image.proofs.Turned.{Turned, same_apart, turned_now, turned_other, third_stays, root_turned, root_stays}
use Rattle.trie_image.proofs.Whole.{KeepsCells}

-- the words below the new cells
abbrev pub SameBelow : List ℕ → List ℕ → ℕ → Type 0
SameBelow w v used = (i : ℕ) → i < 4 * used → slice_index v i ≡ slice_index w i

-- the store turns the field
pub turned_by : (w w1 : List ℕ) (used cell place p' : ℕ) → SameBelow w w1 used → cell < used → place < 8 → p' < 2 ^ 32 → 4 * used ≤ length w1 → Turned w (stored_field w1 cell place p') used cell place p'
turned_by w w1 used cell place p' below inside small fits capacity = let v : ℕ = with_half_of (word_of w1 cell (place / 2)) (place % 2 == 1) p' in record {
  others = λ c i l s ne. get_or-set_other w1 (4 * cell + place / 2) (4 * c + i) v 0 ne ∙ below (4 * c + i) (omega arith);
  there = get_or-set_same w1 (4 * cell + place / 2) v 0 (omega arith) ∙ ap (λ (x : ℕ). with_half_of x (place % 2 == 1) p') (below (4 * cell + place / 2) (omega arith));
  inside = inside;
  small = small;
  fits = fits;
}

-- the new cells' words stand still
pub still_stand : (w1 : List ℕ) (used i v : ℕ) (ws : List ℕ) → i < 4 * used → Stands w1 used ws → Stands (set w1 i v) used ws
still_stand w1 used i v ws l h k s = get_or-set_other w1 i (4 * used + k) v 0 (λ z. omega arith) ∙ h k s

module _ (w w' : List ℕ) (g : Ledger) (cell place p' : ℕ) (t : Turned w w' (length g.owners) cell place p') (there : p' ≢ 0)
    (top_hole : (q : List ℕ) → owner g cell ≡ Some (TopCell q) → field w cell place ≡ 0) (mid_hole : (u j : ℕ) → owner g cell ≡ Some (MidCell u j) → field w cell place ≡ 0) (in_slot : (q : List ℕ) → owner g cell ≡ Some (SparseCell q) → place < 6) where
  -- a field of a cell that isn't 0 where the store turns it
  stays_full : (c i : ℕ) → c < length g.owners → i < 8 → (c ≡ cell → field w cell place ≡ 0) → field w c i ≢ 0 → field w' c i ≡ field w c i
  stays_full c i l s hole ne = ⊎_elim
      (λ (e : c ≡ cell). ⊎_elim (λ (z : i ≡ place). absurd (ne (ap (λ (x : ℕ). field w x i) e ∙ (ap (λ (x : ℕ). field w cell x) z ∙ hole e))))
      (λ (d : i ≢ place). subst (λ (x : ℕ). field w' x i ≡ field w x i) (sym e) (turned_other w w' (length g.owners) cell place p' t i s d)) (cases_eq i place))
      (λ (d : c ≢ cell). same_field w w' c i (same_apart w w' (length g.owners) cell place p' t c l d) s) (cases_eq c cell)

  still_full : (c i : ℕ) → c < length g.owners → i < 8 → field w c i ≢ 0 → field w' c i ≢ 0
  still_full c i l s ne z = ⊎_elim
      (λ (e : c ≡ cell). ⊎_elim (λ (y : i ≡ place). there (sym (turned_now w w' (length g.owners) cell place p' t) ∙ (ap (λ (x : ℕ). field w' x place) (sym e) ∙ (ap (λ (x : ℕ). field w' c x) (sym y) ∙ z))))
      (λ (d : i ≢ place). ne (sym (subst (λ (x : ℕ). field w' x i ≡ field w x i) (sym e) (turned_other w w' (length g.owners) cell place p' t i s d)) ∙ z)) (cases_eq i place))
      (λ (d : c ≢ cell). ne (sym (same_field w w' c i (same_apart w w' (length g.owners) cell place p' t c l d) s) ∙ z)) (cases_eq c cell)

  order_stays : (c : ℕ) (q : List ℕ) → owner g c ≡ Some (SparseCell q) → word_of w' c 3 ≡ word_of w c 3
  order_stays c q e = ⊎_elim (λ (z : c ≡ cell). subst (λ (x : ℕ). word_of w' x 3 ≡ word_of w x 3) (sym z) (third_stays w w' (length g.owners) cell place p' t (in_slot q (subst (λ (x : ℕ). owner g x ≡ Some (SparseCell q)) z e))))
      (λ (d : c ≢ cell). same_apart w w' (length g.owners) cell place p' t c (own_inside g.owners c (SparseCell q) e) d 3 (omega arith)) (cases_eq c cell)

  pub leaves_by : KeepsCells w w' g
  leaves_by = record {
    tops = λ c i q e s ne. stays_full c i (own_inside g.owners c (TopCell q) e) s (λ z. top_hole q (subst (λ (x : ℕ). owner g x ≡ Some (TopCell q)) z e)) ne;
    mids = λ c u j i e s ne. stays_full c i (own_inside g.owners c (MidCell u j) e) s (λ z. mid_hole u j (subst (λ (x : ℕ). owner g x ≡ Some (MidCell u j)) z e)) ne;
    leaves = λ c u i j n e s ne. still_full c n (own_inside g.owners c (LeafCell u i j) e) s ne;
    slots = λ c b s q e is. ap (λ (x : ℕ). slot_at x b) (order_stays c q e) ∙ is;
  }

-- in a home there is no top and no mid cell
module _ (w w' : List ℕ) (g : Ledger) (cells : ℕ) (ok : IsImage w g cells) (q : List ℕ) (cell place p p' : ℕ) (home : Home w g q cell place) (held : field w cell place ≡ p) (t : Turned w w' (length g.owners) cell place p') where
  pub home_owner : (P : Owner → Type 0) → P HeadCell → ((from : ℕ) → P (ChainCell from q)) → ((r : List ℕ) → P (SparseCell r)) → ((u i j : ℕ) → P (LeafCell u i j)) → P (PrefixCell q) → (o : Owner) → owner g cell ≡ Some o → P o
  home_owner P h c s l f o e = by home
    where
      is : (x : Owner) → owner g cell ≡ Some x → P x → P o
      is x a h = let both : Some x ≡ Some o = sym a ∙ e in let same : x ≡ o = cc in subst P same h

      by : Home w g q cell place → P o
      by (root z y u) = is HeadCell (subst (λ (x : ℕ). owner g x ≡ Some HeadCell) (sym y) ok.head) h
      by (tail k) = is (ChainCell k.from q) k.own (c k.from)
      by (slot k) = is (SparseCell k.before) k.own (s k.before)
      by (leaf k) = is _ k.leaf.own (l _ _ _)
      by (content k y) = is (PrefixCell q) k.own f
      by (node k y) = is (PrefixCell q) k.own f

  pub home_slot : (r : List ℕ) → owner g cell ≡ Some (SparseCell r) → place < 6
  home_slot r e = by home
    where
      no_owner : (o : Owner) → owner g cell ≡ Some o → (o ≡ SparseCell r → ⊥) → ⊥
      no_owner o a ne = let both : Some o ≡ Some (SparseCell r) = sym a ∙ e in let same : o ≡ SparseCell r = cc in ne same

      by : Home w g q cell place → place < 6
      by (root z y u) = absurd (no_owner HeadCell (subst (λ (x : ℕ). owner g x ≡ Some HeadCell) (sym y) ok.head) (λ x. cc))
      by (tail k) = absurd (no_owner (ChainCell k.from q) k.own (λ x. cc))
      by (slot k) = slot_small (word_of w cell 3) k.byte place k.slot
      by (leaf k) = absurd (no_owner _ k.leaf.own (λ x. cc))
      by (content k y) = absurd (no_owner (PrefixCell q) k.own (λ x. cc))
      by (node k y) = absurd (no_owner (PrefixCell q) k.own (λ x. cc))

  abbrev IsOuter : Owner → Type 0
  IsOuter (TopCell r) = ⊥
  IsOuter (MidCell u j) = ⊥
  IsOuter _ = Unit {0}

  outer : (o : Owner) → owner g cell ≡ Some o → IsOuter o
  outer o e = home_owner IsOuter tt (λ from. tt) (λ r. tt) (λ u i j. tt) tt o e

  pub home_leaves : p' ≢ 0 → KeepsCells w w' g
  home_leaves there = leaves_by w w' g cell place p' t there (λ r e. absurd (outer (TopCell r) e)) (λ u j e. absurd (outer (MidCell u j) e)) home_slot

  -- the root
  pub home_root : (root_of w' ≡ root_of w) ⊎ ((root_of w ≡ p) × (root_of w' ≡ p') × (q ≡ []))
  home_root = by home
    where
      apart : (o : Owner) → owner g cell ≡ Some o → (o ≡ HeadCell → ⊥) → (root_of w' ≡ root_of w) ⊎ ((root_of w ≡ p) × (root_of w' ≡ p') × (q ≡ []))
      apart o e ne = inl (root_stays w w' g cell place p' t ok.head (not_first g cell o ok.head e ne))

      by : Home w g q cell place → (root_of w' ≡ root_of w) ⊎ ((root_of w ≡ p) × (root_of w' ≡ p') × (q ≡ []))
      by (root z y u) = inr (subst (λ (x : ℕ). field w x 2 ≡ p) y (subst (λ (x : ℕ). field w cell x ≡ p) u held), root_turned w w' g cell place p' t ok.head y u, z)
      by (tail k) = apart (ChainCell k.from q) k.own (λ x. cc)
      by (slot k) = apart (SparseCell k.before) k.own (λ x. cc)
      by (leaf k) = apart _ k.leaf.own (λ x. cc)
      by (content k y) = apart (PrefixCell q) k.own (λ x. cc)
      by (node k y) = apart (PrefixCell q) k.own (λ x. cc)
