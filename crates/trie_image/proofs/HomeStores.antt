-- A publishing store of one field: what stays of the words, and the image after it, for each home that a pointer can have.
use Rattle.std.proofs.Common.{◌≡◌, ◌≢◌, ◌⊎◌, ℕ, ◌+◌, ◌*◌, ◌/◌, ◌%◌, ◌^◌, ◌<◌, ◌≤◌, ◌==◌, true, List, [], ◌∷◌, ◌++◌, length, set, Some, refl, sym, ap, ◌∙◌, subst, inl, inr, ⊎_elim, arith, length-set, get_or-set_other, get_or-set_same}
use Rattle.std.proofs.lemmas.Bool.{cases_eq}
use Rattle.cell_layout.specs.declared.Kind.TheVariants as kind
use Rattle.cell_layout.specs.Words.{half_of, with_half_of, byte_of}
use Rattle.cell_layout.specs.Pointers.{kind_at}
use Rattle.cell_layout.specs.Slots.{slot_at, IsSparse}
use Rattle.cell_layout.proofs.Halves.{other_half, this_half, low_byte}
use Rattle.cell_layout.proofs.Added.{slot_is, slot_small}
use Rattle.trie_image.specs.declared.Owner.{Owner}
use Rattle.trie_image.specs.declared.Owner.TheVariants.{HeadCell, RecordCell, ChainCell, SparseCell, TopCell, MidCell, LeafCell, PrefixCell}
use Rattle.trie_image.specs.declared.Ledger.{Ledger}
use Rattle.trie_image.specs.Image.{word_of, field, cell_byte, root_of}
use Rattle.trie_image.specs.Paths.{owner, HasPath}
use Rattle.trie_image.specs.Cell.{IsChainCell, IsSparseCell, IsTopCell, IsMidCell, IsLeafCell, IsPrefixCell, IsCell, IsImage}
use Rattle.trie_image.specs.Same.{SameWords}
use Rattle.trie_image.proofs.Kept.{same_field, half_apart, cell_kept, same_cell, own_inside, not_first}
use Rattle.trie_image.proofs.Exits.{IsNode}

-- the words after a store of a pointer in a field of a cell
abbrev pub stored_field : List ℕ → ℕ → ℕ → ℕ → List ℕ
stored_field w c i p = set w (4 * c + i / 2) (with_half_of (word_of w c (i / 2)) (i % 2 == 1) p)

module _ (w : List ℕ) (g : Ledger) (cells c i p' : ℕ) (o : Owner) (ok : IsImage w g cells) (own : owner g c ≡ Some o) (small : i < 8) (fits : p' < 2 ^ 32) where
  pub reach : 4 * c + i / 2 < length w
  reach = let l : c < length g.owners = own_inside g.owners c o own in omega (arith, ok.size, ok.capacity)

  here : word_of (stored_field w c i p') c (i / 2) ≡ with_half_of (word_of w c (i / 2)) (i % 2 == 1) p'
  here = get_or-set_same w (4 * c + i / 2) (with_half_of (word_of w c (i / 2)) (i % 2 == 1) p') 0 reach

  pub others : (d k : ℕ) → 4 * d + k ≢ 4 * c + i / 2 → word_of (stored_field w c i p') d k ≡ word_of w d k
  others d k ne = get_or-set_other w (4 * c + i / 2) (4 * d + k) (with_half_of (word_of w c (i / 2)) (i % 2 == 1) p') 0 ne

  -- another cell's words stay
  pub apart : (d : ℕ) → d ≢ c → SameWords w (stored_field w c i p') d
  apart d ne k l = others d k (λ z. ne (omega arith))

  pub apart_own : (d : ℕ) (x : Owner) → owner g d ≡ Some x → (x ≡ o → ⊥) → SameWords w (stored_field w c i p') d
  apart_own d x e ne = apart d (λ z. let at : owner g c ≡ Some x = subst (λ (y : ℕ). owner g y ≡ Some x) z e in let two : Some x ≡ Some o = sym at ∙ own in let is : x ≡ o = cc in ne is)

  -- the field that is stored, and every other one
  pub is_stored : field (stored_field w c i p') c i ≡ p'
  is_stored = ap (λ (x : ℕ). half_of x (i % 2 == 1)) here ∙ this_half (word_of w c (i / 2)) p' (i % 2 == 1) fits

  stays_here : (k : ℕ) → k < 8 → k ≢ i → k / 2 ≡ i / 2 → field (stored_field w c i p') c k ≡ field w c k
  stays_here k l ne e = ap (λ (x : ℕ). half_of (word_of (stored_field w c i p') c x) (k % 2 == 1)) e ∙ (ap (λ (x : ℕ). half_of x (k % 2 == 1)) here
      ∙ (other_half (word_of w c (i / 2)) p' (i % 2 == 1) (k % 2 == 1) fits (half_apart i k ne e) ∙ ap (λ (x : ℕ). half_of (word_of w c x) (k % 2 == 1)) (sym e)))

  pub stays : (d k : ℕ) → k < 8 → (d ≡ c → k ≡ i → ⊥) → field (stored_field w c i p') d k ≡ field w d k
  stays d k l ne = ⊎_elim
      (λ (e : 4 * d + k / 2 ≡ 4 * c + i / 2). let cell : d ≡ c = omega arith in let word : k / 2 ≡ i / 2 = omega arith in
      subst (λ (x : ℕ). field (stored_field w c i p') x k ≡ field w x k) (sym cell) (stays_here k l (λ z. ne cell z) word))
      (λ (a : 4 * d + k / 2 ≢ 4 * c + i / 2). ap (λ (x : ℕ). half_of x (k % 2 == 1)) (others d (k / 2) a)) (cases_eq (4 * d + k / 2) (4 * c + i / 2))

  -- each field stays or turns
  pub turns : (d k : ℕ) → k < 8 → (field (stored_field w c i p') d k ≡ field w d k) ⊎ ((d ≡ c) × (k ≡ i) × (field (stored_field w c i p') d k ≡ p'))
  turns d k l = ⊎_elim
      (λ (a : d ≡ c). ⊎_elim (λ (b : k ≡ i). inr (a, b, ap (λ (x : ℕ). field (stored_field w c i p') x k) a ∙ (ap (λ (x : ℕ). field (stored_field w c i p') c x) b ∙ is_stored))) (λ (b : k ≢ i). inl (stays d k l (λ x y. b y))) (cases_eq k i))
      (λ (a : d ≢ c). inl (stays d k l (λ x y. a x))) (cases_eq d c)

  -- the image, where the cell is what its owner says and the root has its path
  image_where : IsCell (stored_field w c i p') g c o → (root_of (stored_field w c i p') ≢ 0 → HasPath g (root_of (stored_field w c i p')) []) → ((d : ℕ) (x : Owner) → owner g d ≡ Some x → d ≢ c → IsCell (stored_field w c i p') g d x) → IsImage (stored_field w c i p') g cells
  image_where cell root rest = record {
    size = length-set w (4 * c + i / 2) (with_half_of (word_of w c (i / 2)) (i % 2 == 1) p') ∙ ok.size;
    capacity = ok.capacity;
    fewer = ok.fewer;
    small = ok.small;
    head = ok.head;
    each = λ d x e. ⊎_elim
        (λ (z : d ≡ c). let at : owner g c ≡ Some x = subst (λ (y : ℕ). owner g y ≡ Some x) z e in let two : Some o ≡ Some x = sym own ∙ at in let is : o ≡ x = cc in
        subst (λ (y : Owner). IsCell (stored_field w c i p') g d y) is (subst (λ (y : ℕ). IsCell (stored_field w c i p') g y o) (sym z) cell))
        (λ (n : d ≢ c). rest d x e n) (cases_eq d c);
    root = root;
  }

  -- in a cell other than cell 0
  module _ (inner : o ≡ HeadCell → ⊥) where
    root_stays : root_of (stored_field w c i p') ≡ root_of w
    root_stays = let ne = not_first g c o ok.head own inner in stays 0 2 (omega arith) (λ z y. ne (sym z))

    pub image_inner : IsCell (stored_field w c i p') g c o → IsImage (stored_field w c i p') g cells
    image_inner cell = image_where cell (λ nz. subst (λ (x : ℕ). HasPath g x []) (sym root_stays) (ok.root (λ z. nz (root_stays ∙ z))))
        (λ d x e n. cell_kept w (stored_field w c i p') g d x (same_cell w (stored_field w c i p') d x root_stays (λ h. apart d n)) (ok.each d x e))

-- the root, which is field 2 of cell 0
module _ (w : List ℕ) (g : Ledger) (cells p' : ℕ) (ok : IsImage w g cells) (fits : p' < 2 ^ 32) where
  kept_other : (d : ℕ) (x : Owner) → d ≢ 0 → SameWords w (stored_field w 0 2 p') d → IsCell w g d x → IsCell (stored_field w 0 2 p') g d x
  kept_other d HeadCell n same is = absurd (n is)
  kept_other d (RecordCell m j) n same is = cell_kept w (stored_field w 0 2 p') g d (RecordCell m j) same is
  kept_other d (ChainCell from t) n same is = cell_kept w (stored_field w 0 2 p') g d (ChainCell from t) same is
  kept_other d (SparseCell q) n same is = cell_kept w (stored_field w 0 2 p') g d (SparseCell q) (same 3 (omega arith), λ b k e. same_field w (stored_field w 0 2 p') d k same (let l = slot_small (word_of w d 3) b k e in omega (arith, l))) is
  kept_other d (TopCell q) n same is = cell_kept w (stored_field w 0 2 p') g d (TopCell q) same is
  kept_other d (MidCell t j) n same is = cell_kept w (stored_field w 0 2 p') g d (MidCell t j) same is
  kept_other d (LeafCell t j k) n same is = cell_kept w (stored_field w 0 2 p') g d (LeafCell t j k) same is
  kept_other d (PrefixCell q) n same is = cell_kept w (stored_field w 0 2 p') g d (PrefixCell q) same is

  pub root_is : root_of (stored_field w 0 2 p') ≡ p'
  root_is = is_stored w g cells 0 2 p' HeadCell ok ok.head (omega arith) fits

  pub image_root : HasPath g p' [] → IsImage (stored_field w 0 2 p') g cells
  image_root at = image_where w g cells 0 2 p' HeadCell ok ok.head (omega arith) fits refl (λ ne. subst (λ (x : ℕ). HasPath g x []) (sym root_is) at)
      (λ d x e n. kept_other d x n (apart w g cells 0 2 p' HeadCell ok ok.head (omega arith) fits d n) (ok.each d x e))

-- the other homes: the cell after the store
module _ (w : List ℕ) (g : Ledger) (cells c p' : ℕ) (ok : IsImage w g cells) (fits : p' < 2 ^ 32) where
  -- a chain's tail
  tail_byte : (from : ℕ) (t : List ℕ) → owner g c ≡ Some (ChainCell from t) → (o : ℕ) → o ≤ 27 → cell_byte (stored_field w c 7 p') c o ≡ cell_byte w c o
  tail_byte from t own o l = ⊎_elim
      (λ (e : o / 8 ≡ 3). ap (λ (x : ℕ). byte_of (word_of (stored_field w c 7 p') c x) (o % 8)) e ∙ (ap (λ (x : ℕ). byte_of x (o % 8)) (get_or-set_same w (4 * c + 3) (with_half_of (word_of w c 3) true p') 0 (reach w g cells c 7 p' (ChainCell from t) ok own (omega arith) fits))
      ∙ (low_byte (word_of w c 3) p' (o % 8) (omega arith) ∙ ap (λ (x : ℕ). byte_of (word_of w c x) (o % 8)) (sym e))))
      (λ (ne : o / 8 ≢ 3). ap (λ (x : ℕ). byte_of x (o % 8)) (others w g cells c 7 p' (ChainCell from t) ok own (omega arith) fits c (o / 8) (λ z. ne (omega arith)))) (cases_eq (o / 8) 3)

  pub byte_stays : (from : ℕ) (t : List ℕ) → owner g c ≡ Some (ChainCell from t) → (d o : ℕ) → o ≤ 27 → cell_byte (stored_field w c 7 p') d o ≡ cell_byte w d o
  byte_stays from t own d o l = ⊎_elim (λ (e : c ≡ d). subst (λ (x : ℕ). cell_byte (stored_field w c 7 p') x o ≡ cell_byte w x o) e (tail_byte from t own o l))
      (λ (ne : c ≢ d). ap (λ (x : ℕ). byte_of x (o % 8)) (apart w g cells c 7 p' (ChainCell from t) ok own (omega arith) fits d (λ z. ne (sym z)) (o / 8) (omega arith))) (cases_eq c d)

  pub tail_stored : (from : ℕ) (t : List ℕ) → owner g c ≡ Some (ChainCell from t) → HasPath g p' t → IsImage (stored_field w c 7 p') g cells
  tail_stored from t own at = let chain : IsChainCell w g c from t = ok.each c (ChainCell from t) own in
      image_inner w g cells c 7 p' (ChainCell from t) ok own (omega arith) fits (λ x. cc)
      record { entered = chain.entered; long = chain.long; bytes = λ b lo hi. byte_stays from t own c b hi ∙ chain.bytes b lo hi; tail = subst (λ (x : ℕ). HasPath g x t) (sym (is_stored w g cells c 7 p' (ChainCell from t) ok own (omega arith) fits)) at }

  -- a slot of a sparse cell that its order word names
  pub slot_word : (i b : ℕ) (q : List ℕ) → owner g c ≡ Some (SparseCell q) → slot_at (word_of w c 3) b ≡ Some i → word_of (stored_field w c i p') c 3 ≡ word_of w c 3
  slot_word i b q own e = let l = slot_is (word_of w c 3) b i e in others w g cells c i p' (SparseCell q) ok own (omega (arith, l.0)) fits c 3 (λ z. omega (arith, l.0))

  pub slot_stored : (i b : ℕ) (q : List ℕ) → owner g c ≡ Some (SparseCell q) → slot_at (word_of w c 3) b ≡ Some i → HasPath g p' (q ++ b ∷ []) → IsImage (stored_field w c i p') g cells
  slot_stored i b q own e at = let l = slot_is (word_of w c 3) b i e in let small : i < 8 = omega (arith, l.0) in let cell : IsSparseCell w g c q = ok.each c (SparseCell q) own in let word = slot_word i b q own e in
      image_inner w g cells c i p' (SparseCell q) ok own small fits (λ x. cc)
      record {
        sparse = subst IsSparse (sym word) cell.sparse;
        children = λ a s f. let was : slot_at (word_of w c 3) a ≡ Some s = ap (λ (x : ℕ). slot_at x a) (sym word) ∙ f in let m = slot_is (word_of w c 3) a s was in
            ⊎_elim (λ (z : i ≡ s). let byte : b ≡ a = sym l.2 ∙ (ap (λ (x : ℕ). byte_of (word_of w c 3) x) z ∙ m.2) in
            subst (λ (x : ℕ). HasPath g (field (stored_field w c i p') c x) (q ++ a ∷ [])) z (subst (λ (x : ℕ). HasPath g x (q ++ a ∷ [])) (sym (is_stored w g cells c i p' (SparseCell q) ok own small fits)) (subst (λ (x : ℕ). HasPath g p' (q ++ x ∷ [])) byte at)))
            (λ (ne : i ≢ s). subst (λ (x : ℕ). HasPath g x (q ++ a ∷ [])) (sym (stays w g cells c i p' (SparseCell q) ok own small fits c s (omega (arith, m.0)) (λ x y. ne (sym y)))) (cell.children a s was)) (cases_eq i s);
      }

  -- a field of a leaf cell
  pub leaf_stored : (i t a j : ℕ) (q : List ℕ) → owner g c ≡ Some (LeafCell t a j) → i < 8 → owner g t ≡ Some (TopCell q) → HasPath g p' (q ++ (64 * a + 8 * j + i) ∷ []) → IsImage (stored_field w c i p') g cells
  leaf_stored i t a j q own small top at = let cell : IsLeafCell w g c t a j = ok.each c (LeafCell t a j) own in
      image_inner w g cells c i p' (LeafCell t a j) ok own small fits (λ x. cc)
      record {
        children = λ n r l ne own_t. ⊎_elim
            (λ (z : i ≡ n). let two : Some (TopCell q) ≡ Some (TopCell r) = sym top ∙ own_t in let same : q ≡ r = cc in
            subst (λ (x : ℕ). HasPath g (field (stored_field w c i p') c x) (r ++ (64 * a + 8 * j + x) ∷ [])) z (subst (λ (x : ℕ). HasPath g x (r ++ (64 * a + 8 * j + i) ∷ [])) (sym (is_stored w g cells c i p' (LeafCell t a j) ok own small fits))
            (subst (λ (x : List ℕ). HasPath g p' (x ++ (64 * a + 8 * j + i) ∷ [])) same at)))
            (λ (d : i ≢ n). let e = stays w g cells c i p' (LeafCell t a j) ok own small fits c n l (λ x y. d (sym y)) in subst (λ (x : ℕ). HasPath g x (r ++ (64 * a + 8 * j + n) ∷ [])) (sym e) (cell.children n r l (λ z. ne (e ∙ z)) own_t)) (cases_eq i n);
        small = cell.small;
        top = cell.top;
        is_top = cell.is_top;
      }

  -- a field of a mid cell, and of a top cell
  pub mid_stored : (i t a : ℕ) → owner g c ≡ Some (MidCell t a) → i < 8 → owner g (p' / 32) ≡ Some (LeafCell t a i) → kind_at p' ≡ Some kind.Wide → IsImage (stored_field w c i p') g cells
  mid_stored i t a own small leaf is = let cell : IsMidCell w g c t a = ok.each c (MidCell t a) own in let now = is_stored w g cells c i p' (MidCell t a) ok own small fits in
      image_inner w g cells c i p' (MidCell t a) ok own small fits (λ x. cc)
      record {
        leaves = λ n l ne. ⊎_elim
            (λ (z : i ≡ n). subst (λ (x : ℕ). owner g (field (stored_field w c i p') c x / 32) ≡ Some (LeafCell t a x)) z (subst (λ (x : ℕ). owner g (x / 32) ≡ Some (LeafCell t a i)) (sym now) leaf))
            (λ (d : i ≢ n). let e = stays w g cells c i p' (MidCell t a) ok own small fits c n l (λ x y. d (sym y)) in subst (λ (x : ℕ). owner g (x / 32) ≡ Some (LeafCell t a n)) (sym e) (cell.leaves n l (λ z. ne (e ∙ z)))) (cases_eq i n);
        wide = λ n l ne. ⊎_elim
            (λ (z : i ≡ n). subst (λ (x : ℕ). kind_at (field (stored_field w c i p') c x) ≡ Some kind.Wide) z (ap (λ (x : ℕ). kind_at x) now ∙ is))
            (λ (d : i ≢ n). let e = stays w g cells c i p' (MidCell t a) ok own small fits c n l (λ x y. d (sym y)) in ap (λ (x : ℕ). kind_at x) e ∙ cell.wide n l (λ z. ne (e ∙ z))) (cases_eq i n);
      }

  pub top_stored : (i : ℕ) (q : List ℕ) → owner g c ≡ Some (TopCell q) → i < 4 → owner g (p' / 32) ≡ Some (MidCell c i) → kind_at p' ≡ Some kind.Wide → IsImage (stored_field w c i p') g cells
  top_stored i q own small mid is = let cell : IsTopCell w g c q = ok.each c (TopCell q) own in let eight : i < 8 = omega arith in let now = is_stored w g cells c i p' (TopCell q) ok own eight fits in
      image_inner w g cells c i p' (TopCell q) ok own eight fits (λ x. cc)
      record {
        mids = λ n l ne. ⊎_elim
            (λ (z : i ≡ n). subst (λ (x : ℕ). owner g (field (stored_field w c i p') c x / 32) ≡ Some (MidCell c x)) z (subst (λ (x : ℕ). owner g (x / 32) ≡ Some (MidCell c i)) (sym now) mid))
            (λ (d : i ≢ n). let e = stays w g cells c i p' (TopCell q) ok own eight fits c n (omega arith) (λ x y. d (sym y)) in subst (λ (x : ℕ). owner g (x / 32) ≡ Some (MidCell c n)) (sym e) (cell.mids n l (λ z. ne (e ∙ z)))) (cases_eq i n);
        wide = λ n l ne. ⊎_elim
            (λ (z : i ≡ n). subst (λ (x : ℕ). kind_at (field (stored_field w c i p') c x) ≡ Some kind.Wide) z (ap (λ (x : ℕ). kind_at x) now ∙ is))
            (λ (d : i ≢ n). let e = stays w g cells c i p' (TopCell q) ok own eight fits c n (omega arith) (λ x y. d (sym y)) in ap (λ (x : ℕ). kind_at x) e ∙ cell.wide n l (λ z. ne (e ∙ z))) (cases_eq i n);
        rest = let a = others w g cells c i p' (TopCell q) ok own eight fits c 2 (λ z. omega arith) in let b = others w g cells c i p' (TopCell q) ok own eight fits c 3 (λ z. omega arith) in (a ∙ cell.rest.0, b ∙ cell.rest.1);
      }

  -- the content and the node of a prefix cell
  pub content_stored : (q : List ℕ) → owner g c ≡ Some (PrefixCell q) → HasPath g p' q → kind_at p' ≡ Some kind.Content → IsImage (stored_field w c 0 p') g cells
  content_stored q own at is = let cell : IsPrefixCell w g c q = ok.each c (PrefixCell q) own in let now = is_stored w g cells c 0 p' (PrefixCell q) ok own (omega arith) fits in
      let one = stays w g cells c 0 p' (PrefixCell q) ok own (omega arith) fits c 1 (omega arith) (λ x y. omega arith) in
      image_inner w g cells c 0 p' (PrefixCell q) ok own (omega arith) fits (λ x. cc)
      record { content = subst (λ (x : ℕ). HasPath g x q) (sym now) at; is_content = ap (λ (x : ℕ). kind_at x) now ∙ is; node = subst (λ (x : ℕ). HasPath g x q) (sym one) cell.node; is_node = subst IsNode (sym one) cell.is_node }

  pub node_stored : (q : List ℕ) → owner g c ≡ Some (PrefixCell q) → HasPath g p' q → IsNode p' → IsImage (stored_field w c 1 p') g cells
  node_stored q own at is = let cell : IsPrefixCell w g c q = ok.each c (PrefixCell q) own in let now = is_stored w g cells c 1 p' (PrefixCell q) ok own (omega arith) fits in
      let zero_ = stays w g cells c 1 p' (PrefixCell q) ok own (omega arith) fits c 0 (omega arith) (λ x y. omega arith) in
      image_inner w g cells c 1 p' (PrefixCell q) ok own (omega arith) fits (λ x. cc)
      record { content = subst (λ (x : ℕ). HasPath g x q) (sym zero_) cell.content; is_content = ap (λ (x : ℕ). kind_at x) zero_ ∙ cell.is_content; node = subst (λ (x : ℕ). HasPath g x q) (sym now) at; is_node = subst IsNode (sym now) is }
