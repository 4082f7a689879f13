-- What the publishing store leaves where a split node gets a leaf or mid cell, and where a sparse node gets a child.
use Rattle.std.proofs.Common.{◌≡◌, ◌≢◌, ℕ, ◌+◌, ◌*◌, ◌/◌, ◌%◌, ◌^◌, ◌<◌, ◌==◌, nat_lt, true, false, Bool, cond, List, [], ◌∷◌, ◌++◌, length, set, Option, Some, None, refl, sym, ap, ap₂, ◌∙◌, subst, inl, inr, ⊎_elim, arith, eq-eqb, ne_eqb, ltb-true, length-set, get_or-set_other, get_or-set_same}
use Rattle.std.proofs.lemmas.Bool.{cases_eq, cond-true, cond-false}
use Rattle.cell_layout.specs.declared.Kind.TheVariants as kind
use Rattle.cell_layout.specs.Words.{half_of}
use Rattle.cell_layout.specs.Pointers.{kind_at}
use Rattle.cell_layout.specs.Slots.{slot_at, child_count, IsSparse, AddsChild}
use Rattle.cell_layout.proofs.Added.{slot_is, added_new, added_old}
use Rattle.cell_layout.proofs.PointerKinds.{is_kind}
use Rattle.trie_image.specs.declared.Owner.{Owner}
use Rattle.trie_image.specs.declared.Owner.TheVariants.{ChainCell, SparseCell, TopCell, MidCell, LeafCell, PrefixCell}
use Rattle.trie_image.specs.declared.Ledger.{Ledger}
use Rattle.trie_image.specs.Image.{word_of, field, slot_child, leaf_child, mid_child, split_child, root_of}
use Rattle.trie_image.specs.Paths.{owner, HasPath}
use Rattle.trie_image.specs.Cell.{IsSparseCell, IsTopCell, IsMidCell, IsCell, IsImage}
use Rattle.trie_image.specs.Same.{SameWords}
use Rattle.trie_image.proofs.Owners.{chain_of}
use Rattle.trie_image.proofs.Kept.{same_field, cell_kept, same_cell, own_inside, not_first}
use Rattle.trie_image.proofs.HomeStores.{stored_field, apart, apart_own, is_stored, stays, mid_stored, top_stored}
use Rattle.trie_image.proofs.HomeChanges.{Publishes, chain_keeps, sparse_keeps, leaf_keeps, mid_keeps, split_node_keeps, record_keeps, TurnsTo, turns_to, changes_from}

-- children by way of inner cells
leaf_some : (w : List ℕ) (l b : ℕ) → l ≢ 0 → leaf_child w l b ≡ field w (l / 32) (b % 8)
leaf_some w l b ne = cond-false (l == 0) 0 (field w (l / 32) (b % 8)) (ne_eqb l 0 ne)

leaf_none : (w : List ℕ) (l b : ℕ) → l ≡ 0 → leaf_child w l b ≡ 0
leaf_none w l b e = cond-true (l == 0) 0 (field w (l / 32) (b % 8)) (eq-eqb l 0 e)

mid_some : (w : List ℕ) (m b : ℕ) → m ≢ 0 → mid_child w m b ≡ leaf_child w (field w (m / 32) (b / 8 % 8)) b
mid_some w m b ne = cond-false (m == 0) 0 (leaf_child w (field w (m / 32) (b / 8 % 8)) b) (ne_eqb m 0 ne)

mid_none : (w : List ℕ) (m b : ℕ) → m ≡ 0 → mid_child w m b ≡ 0
mid_none w m b e = cond-true (m == 0) 0 (leaf_child w (field w (m / 32) (b / 8 % 8)) b) (eq-eqb m 0 e)

split_node_not_zero : (p : ℕ) → kind_at p ≡ Some kind.Wide → p ≢ 0
split_node_not_zero p e = let l : (p ≢ 0) × (p < 2 ^ 31) × (p % 32 ≡ 28) = is_kind p (Some kind.Wide) e in l.0

-- the cell has one pointer, at this place
abbrev pub HasAlone : List ℕ → ℕ → ℕ → ℕ → Type 0
HasAlone w c place p = (field w c place ≡ p) × ((n : ℕ) → n < 8 → place ≢ n → field w c n ≡ 0)

module _ (w : List ℕ) (g : Ledger) (cells : ℕ) (ok : IsImage w g cells) (key : List ℕ) (new entry : ℕ) (h : List ℕ) (at : HasPath g entry h) where
  module _ (w' : List ℕ) where
    -- nothing before, and then the entry or nothing
    split_turn : (b x x' : ℕ) → (nat_lt b 256 ≡ true → TurnsTo w w' g ok.each 0 entry x x') → TurnsTo w w' g ok.each 0 entry (cond (nat_lt b 256) x 0) (cond (nat_lt b 256) x' 0)
    split_turn b x x' f = by (nat_lt b 256) f
      where
        by : (t : Bool) → (t ≡ true → TurnsTo w w' g ok.each 0 entry x x') → TurnsTo w w' g ok.each 0 entry (cond t x 0) (cond t x' 0)
        by true f = f refl
        by false f = inl refl

    -- a new leaf cell with the entry alone, under a field that held 0
    new_leaf : (l n b old : ℕ) → old ≡ 0 → l ≢ 0 → HasAlone w (l / 32) n entry → SameWords w w' (l / 32) → TurnsTo w w' g ok.each 0 entry (leaf_child w old b) (leaf_child w' l b)
    new_leaf l n b old z ne alone same = let now : leaf_child w' l b ≡ field w (l / 32) (b % 8) = leaf_some w' l b ne ∙ same_field w w' (l / 32) (b % 8) same (omega arith) in let others_ = alone.1 in ⊎_elim
        (λ (e : n ≡ b % 8). inr (leaf_none w old b z, now ∙ (ap (λ (x : ℕ). field w (l / 32) x) (sym e) ∙ alone.0)))
        (λ (d : n ≢ b % 8). inl (now ∙ (others_ (b % 8) (omega arith) d ∙ sym (leaf_none w old b z)))) (cases_eq n (b % 8))

    new_mid : (m j l n b old : ℕ) → old ≡ 0 → m ≢ 0 → l ≢ 0 → HasAlone w (m / 32) j l → HasAlone w (l / 32) n entry → SameWords w w' (m / 32) → SameWords w w' (l / 32) → TurnsTo w w' g ok.each 0 entry (mid_child w old b) (mid_child w' m b)
    new_mid m j l n b old z nm nl mid leaf same_mid same_leaf =
        let now : mid_child w' m b ≡ leaf_child w' (field w (m / 32) (b / 8 % 8)) b = mid_some w' m b nm ∙ ap (λ (x : ℕ). leaf_child w' x b) (same_field w w' (m / 32) (b / 8 % 8) same_mid (omega arith)) in let rest = mid.1 in
        let was : mid_child w old b ≡ leaf_child w 0 b = mid_none w old b z in ⊎_elim
        (λ (e : j ≡ b / 8 % 8). let led : field w (m / 32) (b / 8 % 8) ≡ l = ap (λ (x : ℕ). field w (m / 32) x) (sym e) ∙ mid.0 in
        ⊎_elim (λ (s : leaf_child w' l b ≡ leaf_child w 0 b). inl (now ∙ (ap (λ (x : ℕ). leaf_child w' x b) led ∙ (s ∙ sym was))))
        (λ (t : (leaf_child w 0 b ≡ 0) × (leaf_child w' l b ≡ entry)). inr (was ∙ t.0, now ∙ (ap (λ (x : ℕ). leaf_child w' x b) led ∙ t.1))) (new_leaf l n b 0 refl nl leaf same_leaf))
        (λ (d : j ≢ b / 8 % 8). inl (now ∙ (leaf_none w' (field w (m / 32) (b / 8 % 8)) b (rest (b / 8 % 8) (omega arith) d) ∙ sym was))) (cases_eq j (b / 8 % 8))

  -- a field of a cell whose owner is no chain, sparse or prefix cell: what follows once the children of split nodes are known
  module _ (c i p' : ℕ) (o : Owner) (own : owner g c ≡ Some o) (small : i < 8) (fits : p' < 2 ^ 32) (chain : (f : ℕ) (t : List ℕ) → ChainCell f t ≡ o → ⊥) (sparse : (q : List ℕ) → SparseCell q ≡ o → ⊥) (prefix : (q : List ℕ) → PrefixCell q ≡ o → ⊥) where
    keeps : (d : ℕ) (x : Owner) → owner g d ≡ Some x → (x ≡ o → ⊥) → SameWords w (stored_field w c i p') d
    keeps d x e ne = apart_own w g cells c i p' o ok own small fits d x e ne

    by_split_nodes : IsImage (stored_field w c i p') g cells → ((d b : ℕ) (q : List ℕ) → owner g d ≡ Some (TopCell q) → TurnsTo w (stored_field w c i p') g ok.each 0 entry (split_child w d b) (split_child (stored_field w c i p') d b)) → Publishes w (stored_field w c i p') g cells 0 entry h key new
    by_split_nodes image split_nodes = record {
      image = image;
      records = λ a q at_a. inl (record_keeps w (stored_field w c i p') g ok.each (λ d r e. same_field w (stored_field w c i p') d 0 (keeps d (PrefixCell r) e (prefix r)) (omega arith)) a q (kind_at a) refl at_a);
      changes = changes_from w (stored_field w c i p') g ok.each 0 entry cells h image at (turns_to w (stored_field w c i p') g ok.each 0 entry
          (λ a b q e at_a. let n = chain_of g a q at_a e in inl (chain_keeps w (stored_field w c i p') g ok.each a b (keeps (a / 32) (ChainCell n.0 n.1) n.2 (chain n.0 n.1))))
          (λ d b q e. inl (sparse_keeps w (stored_field w c i p') g ok.each d b (keeps d (SparseCell q) e (sparse q)))) split_nodes
          (λ d r e. same_field w (stored_field w c i p') d 1 (keeps d (PrefixCell r) e (prefix r)) (omega arith)));
    }

  -- a mid cell gets a pointer to a leaf cell that has the entry alone
  module _ (c i l t a n : ℕ) (own : owner g c ≡ Some (MidCell t a)) (small : i < 8) (fits : l < 2 ^ 32) (held : field w c i ≡ 0) (leaf : owner g (l / 32) ≡ Some (LeafCell t a i)) (is : kind_at l ≡ Some kind.Wide) (alone : HasAlone w (l / 32) n entry) where
    mid_keep : (d : ℕ) (x : Owner) → owner g d ≡ Some x → (x ≡ MidCell t a → ⊥) → SameWords w (stored_field w c i l) d
    mid_keep d x e ne = apart_own w g cells c i l (MidCell t a) ok own small fits d x e ne

    -- the child under a mid cell of index k, by way of the mid pointer m
    under_mid : (d k m b : ℕ) → (m ≢ 0 → owner g (m / 32) ≡ Some (MidCell d k)) → TurnsTo w (stored_field w c i l) g ok.each 0 entry (mid_child w m b) (mid_child (stored_field w c i l) m b)
    under_mid d k m b owned = ⊎_elim (λ (z : m ≡ 0). inl (mid_none (stored_field w c i l) m b z ∙ sym (mid_none w m b z)))
        (λ (ne : m ≢ 0). let cell : IsMidCell w g (m / 32) d k = ok.each (m / 32) (MidCell d k) (owned ne) in
        let leaves : field w (m / 32) (b / 8 % 8) ≢ 0 → SameWords w (stored_field w c i l) (field w (m / 32) (b / 8 % 8) / 32) = λ nz. mid_keep (field w (m / 32) (b / 8 % 8) / 32) (LeafCell d k (b / 8 % 8)) (cell.leaves (b / 8 % 8) (omega arith) nz) (λ x. cc) in
        let was : mid_child w m b ≡ leaf_child w (field w (m / 32) (b / 8 % 8)) b = mid_some w m b ne in let now : mid_child (stored_field w c i l) m b ≡ leaf_child (stored_field w c i l) (field (stored_field w c i l) (m / 32) (b / 8 % 8)) b = mid_some (stored_field w c i l) m b ne in
        ⊎_elim
        (λ (e : m / 32 ≡ c). ⊎_elim
        (λ (f : b / 8 % 8 ≡ i). let zero_ : field w (m / 32) (b / 8 % 8) ≡ 0 = ap₂ (λ (x y : ℕ). field w x y) e f ∙ held in
        let led : field (stored_field w c i l) (m / 32) (b / 8 % 8) ≡ l = ap₂ (λ (x y : ℕ). field (stored_field w c i l) x y) e f ∙ is_stored w g cells c i l (MidCell t a) ok own small fits in
        subst (λ (x : ℕ). TurnsTo w (stored_field w c i l) g ok.each 0 entry x (mid_child (stored_field w c i l) m b)) (sym was) (subst (λ (x : ℕ). TurnsTo w (stored_field w c i l) g ok.each 0 entry (leaf_child w (field w (m / 32) (b / 8 % 8)) b) x)
        (sym (now ∙ ap (λ (x : ℕ). leaf_child (stored_field w c i l) x b) led)) (new_leaf (stored_field w c i l) l n b (field w (m / 32) (b / 8 % 8)) zero_ (split_node_not_zero l is) alone (mid_keep (l / 32) (LeafCell t a i) leaf (λ x. cc)))))
        (λ (f : b / 8 % 8 ≢ i). inl (now ∙ (ap (λ (x : ℕ). leaf_child (stored_field w c i l) x b) (stays w g cells c i l (MidCell t a) ok own small fits (m / 32) (b / 8 % 8) (omega arith) (λ x y. f y))
        ∙ (leaf_keeps w (stored_field w c i l) g ok.each (field w (m / 32) (b / 8 % 8)) b leaves ∙ sym was)))) (cases_eq (b / 8 % 8) i))
        (λ (e : m / 32 ≢ c). inl (mid_keeps w (stored_field w c i l) g ok.each m b (λ _. apart w g cells c i l (MidCell t a) ok own small fits (m / 32) e) (λ _. leaves))) (cases_eq (m / 32) c)) (cases_eq m 0)

    pub mid_publishes : Publishes w (stored_field w c i l) g cells 0 entry h key new
    mid_publishes = by_split_nodes c i l (MidCell t a) own small fits (λ f t x. cc) (λ q x. cc) (λ q x. cc) (mid_stored w g cells c l ok fits i t a own small leaf is)
        (λ d b q e. let top : IsTopCell w g d q = ok.each d (TopCell q) e in split_turn (stored_field w c i l) b (mid_child w (field w d (b / 64)) b) (mid_child (stored_field w c i l) (field (stored_field w c i l) d (b / 64)) b)
        (λ t_. let less : b < 256 = ltb-true b 256 t_ in subst (λ (x : ℕ). TurnsTo w (stored_field w c i l) g ok.each 0 entry (mid_child w (field w d (b / 64)) b) (mid_child (stored_field w c i l) x b)) (sym (same_field w (stored_field w c i l) d (b / 64) (mid_keep d (TopCell q) e (λ x. cc)) (omega arith)))
        (under_mid d (b / 64) (field w d (b / 64)) b (λ ne. top.mids (b / 64) (omega arith) ne))))

  -- a top cell gets a pointer to a mid cell that has a leaf cell alone, which has the entry alone
  module _ (c i m j l n : ℕ) (q : List ℕ) (own : owner g c ≡ Some (TopCell q)) (small : i < 4) (fits : m < 2 ^ 32) (held : field w c i ≡ 0) (mid : owner g (m / 32) ≡ Some (MidCell c i)) (is : kind_at m ≡ Some kind.Wide) (leaf : owner g (l / 32) ≡ Some (LeafCell c i j)) (there : l ≢ 0) (mid_alone : HasAlone w (m / 32) j l) (leaf_alone : HasAlone w (l / 32) n entry) where
    top_small : i < 8
    top_small = omega arith

    top_keep : (d : ℕ) (x : Owner) → owner g d ≡ Some x → (x ≡ TopCell q → ⊥) → SameWords w (stored_field w c i m) d
    top_keep d x e ne = apart_own w g cells c i m (TopCell q) ok own top_small fits d x e ne

    -- the child of the top cell's node
    of_top : (b : ℕ) → b < 256 → TurnsTo w (stored_field w c i m) g ok.each 0 entry (mid_child w (field w c (b / 64)) b) (mid_child (stored_field w c i m) (field (stored_field w c i m) c (b / 64)) b)
    of_top b less = let top : IsTopCell w g c q = ok.each c (TopCell q) own in ⊎_elim
        (λ (e : b / 64 ≡ i). let zero_ : field w c (b / 64) ≡ 0 = ap (λ (x : ℕ). field w c x) e ∙ held in let led : field (stored_field w c i m) c (b / 64) ≡ m = ap (λ (x : ℕ). field (stored_field w c i m) c x) e ∙ is_stored w g cells c i m (TopCell q) ok own top_small fits in
        subst (λ (x : ℕ). TurnsTo w (stored_field w c i m) g ok.each 0 entry (mid_child w (field w c (b / 64)) b) (mid_child (stored_field w c i m) x b)) (sym led)
        (new_mid (stored_field w c i m) m j l n b (field w c (b / 64)) zero_ (split_node_not_zero m is) there mid_alone leaf_alone (top_keep (m / 32) (MidCell c i) mid (λ x. cc)) (top_keep (l / 32) (LeafCell c i j) leaf (λ x. cc))))
        (λ (d : b / 64 ≢ i). let owned : field w c (b / 64) ≢ 0 → owner g (field w c (b / 64) / 32) ≡ Some (MidCell c (b / 64)) = λ ne. top.mids (b / 64) (omega arith) ne in
        inl (ap (λ (x : ℕ). mid_child (stored_field w c i m) x b) (stays w g cells c i m (TopCell q) ok own top_small fits c (b / 64) (omega arith) (λ x y. d y))
        ∙ mid_keeps w (stored_field w c i m) g ok.each (field w c (b / 64)) b (λ ne. top_keep (field w c (b / 64) / 32) (MidCell c (b / 64)) (owned ne) (λ x. cc))
        (λ ne nl. let cell : IsMidCell w g (field w c (b / 64) / 32) c (b / 64) = ok.each (field w c (b / 64) / 32) (MidCell c (b / 64)) (owned ne) in
        top_keep (field w (field w c (b / 64) / 32) (b / 8 % 8) / 32) (LeafCell c (b / 64) (b / 8 % 8)) (cell.leaves (b / 8 % 8) (omega arith) nl) (λ x. cc)))) (cases_eq (b / 64) i)

    pub top_publishes : Publishes w (stored_field w c i m) g cells 0 entry h key new
    top_publishes = by_split_nodes c i m (TopCell q) own top_small fits (λ f t x. cc) (λ q x. cc) (λ q x. cc) (top_stored w g cells c m ok fits i q own small mid is)
        (λ d b r e. ⊎_elim
        (λ (z : c ≡ d). subst (λ (x : ℕ). TurnsTo w (stored_field w c i m) g ok.each 0 entry (split_child w x b) (split_child (stored_field w c i m) x b)) z
        (split_turn (stored_field w c i m) b (mid_child w (field w c (b / 64)) b) (mid_child (stored_field w c i m) (field (stored_field w c i m) c (b / 64)) b) (λ t_. of_top b (ltb-true b 256 t_))))
        (λ (ne : c ≢ d). inl (split_node_keeps w (stored_field w c i m) g ok.each d b r e (apart w g cells c i m (TopCell q) ok own top_small fits d (λ z. ne (sym z)))
        (λ k u v f. top_keep k (MidCell u v) f (λ x. cc)) (λ k u v y f. top_keep k (LeafCell u v y) f (λ x. cc)))) (cases_eq c d))

  -- the order word of a sparse cell, after the entry was put in the free slot
  module _ (c byte word : ℕ) (q : List ℕ) (own : owner g c ≡ Some (SparseCell q)) (adds : AddsChild (word_of w c 3) word byte) (capacity : child_count (word_of w c 3) < 6) (absent : slot_at (word_of w c 3) byte ≡ None) (slot : field w c (child_count (word_of w c 3)) ≡ entry) (path : h ≡ q ++ byte ∷ []) where
    abbrev ordered : List ℕ
    ordered = set w (4 * c + 3) word

    inside : 4 * c + 3 < length w
    inside = let l : c < length g.owners = own_inside g.owners c (SparseCell q) own in omega (arith, ok.size, ok.capacity)

    order_is : word_of (set w (4 * c + 3) word) c 3 ≡ word
    order_is = get_or-set_same w (4 * c + 3) word 0 inside

    order_apart : (d : ℕ) → d ≢ c → SameWords w (set w (4 * c + 3) word) d
    order_apart d ne k l = get_or-set_other w (4 * c + 3) (4 * d + k) word 0 (λ z. ne (omega arith))

    order_keep : (d : ℕ) (x : Owner) → owner g d ≡ Some x → (x ≡ SparseCell q → ⊥) → SameWords w (set w (4 * c + 3) word) d
    order_keep d x e ne = order_apart d (λ z. let two : Some x ≡ Some (SparseCell q) = sym e ∙ subst (λ (y : ℕ). owner g y ≡ Some (SparseCell q)) (sym z) own in let is : x ≡ SparseCell q = cc in ne is)

    slot_stays : (k : ℕ) → k < 6 → field (set w (4 * c + 3) word) c k ≡ field w c k
    slot_stays k l = ap (λ (x : ℕ). half_of x (k % 2 == 1)) (get_or-set_other w (4 * c + 3) (4 * c + k / 2) word 0 (λ z. omega arith))

    -- what the new order word finds
    finds_new : slot_at word byte ≡ Some (child_count (word_of w c 3))
    finds_new = added_new (word_of w c 3) word byte (omega arith) adds.bytes absent

    finds_old : (b : ℕ) → b ≢ byte → slot_at word b ≡ slot_at (word_of w c 3) b
    finds_old b ne = added_old (word_of w c 3) word byte b adds.bytes ne

    order_image : IsImage (set w (4 * c + 3) word) g cells
    order_image = let inner = not_first g c (SparseCell q) ok.head own (λ x. cc) in let cell : IsSparseCell w g c q = ok.each c (SparseCell q) own in
        let root : root_of (set w (4 * c + 3) word) ≡ root_of w = ap (λ (x : ℕ). half_of x false) (get_or-set_other w (4 * c + 3) 1 word 0 (λ z. omega arith)) in record {
          size = length-set w (4 * c + 3) word ∙ ok.size;
          capacity = ok.capacity;
          fewer = ok.fewer;
          small = ok.small;
          head = ok.head;
          each = λ d x e. ⊎_elim
              (λ (z : d ≡ c). let two : Some (SparseCell q) ≡ Some x = sym own ∙ subst (λ (y : ℕ). owner g y ≡ Some x) z e in let is : SparseCell q ≡ x = cc in
              subst (λ (y : Owner). IsCell (set w (4 * c + 3) word) g d y) is (subst (λ (y : ℕ). IsCell (set w (4 * c + 3) word) g y (SparseCell q)) (sym z) (record {
                sparse = subst IsSparse (sym order_is) adds.node;
                children = λ b s f. child_at cell b s (ap (λ (y : ℕ). slot_at y b) (sym order_is) ∙ f);
              })))
              (λ (n : d ≢ c). cell_kept w (set w (4 * c + 3) word) g d x (same_cell w (set w (4 * c + 3) word) d x root (λ _. order_apart d n)) (ok.each d x e)) (cases_eq d c);
          root = λ nz. subst (λ (x : ℕ). HasPath g x []) (sym root) (ok.root (λ z. nz (root ∙ z)));
        }
      where
        child_at : IsSparseCell w g c q → (b s : ℕ) → slot_at word b ≡ Some s → HasPath g (field (set w (4 * c + 3) word) c s) (q ++ b ∷ [])
        child_at cell b s e = ⊎_elim
            (λ (z : byte ≡ b). let two : Some (child_count (word_of w c 3)) ≡ Some s = sym finds_new ∙ (ap (λ (x : ℕ). slot_at word x) z ∙ e) in let is : child_count (word_of w c 3) ≡ s = cc in
            let now : field (set w (4 * c + 3) word) c s ≡ entry = ap (λ (x : ℕ). field (set w (4 * c + 3) word) c x) (sym is) ∙ (slot_stays (child_count (word_of w c 3)) capacity ∙ slot) in
            subst (λ (x : ℕ). HasPath g x (q ++ b ∷ [])) (sym now) (subst (HasPath g entry) (path ∙ ap (λ (x : ℕ). q ++ x ∷ []) z) at))
            (λ (ne : byte ≢ b). let was : slot_at (word_of w c 3) b ≡ Some s = sym (finds_old b (λ z. ne (sym z))) ∙ e in subst (λ (x : ℕ). HasPath g x (q ++ b ∷ [])) (sym (slot_stays s (let l = slot_is (word_of w c 3) b s was in l.0))) (cell.children b s was)) (cases_eq byte b)

    old_child : (b : ℕ) (o : Option ℕ) → slot_at (word_of w c 3) b ≡ o → slot_child (set w (4 * c + 3) word) c o ≡ slot_child w c o
    old_child b None e = refl
    old_child b (Some s) e = slot_stays s (let l = slot_is (word_of w c 3) b s e in l.0)

    -- the children of the node
    of_sparse : (b : ℕ) → TurnsTo w (set w (4 * c + 3) word) g ok.each 0 entry (slot_child w c (slot_at (word_of w c 3) b)) (slot_child (set w (4 * c + 3) word) c (slot_at (word_of (set w (4 * c + 3) word) c 3) b))
    of_sparse b = let now : slot_child (set w (4 * c + 3) word) c (slot_at (word_of (set w (4 * c + 3) word) c 3) b) ≡ slot_child (set w (4 * c + 3) word) c (slot_at word b) = ap (λ (x : ℕ). slot_child (set w (4 * c + 3) word) c (slot_at x b)) order_is in ⊎_elim
        (λ (z : byte ≡ b). inr (
          ap (λ (o : Option ℕ). slot_child w c o) (ap (λ (x : ℕ). slot_at (word_of w c 3) x) (sym z) ∙ absent),
          now ∙ (ap (λ (o : Option ℕ). slot_child (set w (4 * c + 3) word) c o) (ap (λ (x : ℕ). slot_at word x) (sym z) ∙ finds_new) ∙ (slot_stays (child_count (word_of w c 3)) capacity ∙ slot)),
        ))
        (λ (ne : byte ≢ b). inl (now ∙ (ap (λ (o : Option ℕ). slot_child (set w (4 * c + 3) word) c o) (finds_old b (λ z. ne (sym z))) ∙ old_child b (slot_at (word_of w c 3) b) refl))) (cases_eq byte b)

    pub add_publishes : Publishes w (set w (4 * c + 3) word) g cells 0 entry h key new
    add_publishes = record {
      image = order_image;
      records = λ a r at_a. inl (record_keeps w (set w (4 * c + 3) word) g ok.each (λ d s e. same_field w (set w (4 * c + 3) word) d 0 (order_keep d (PrefixCell s) e (λ x. cc)) (omega arith)) a r (kind_at a) refl at_a);
      changes = changes_from w (set w (4 * c + 3) word) g ok.each 0 entry cells h order_image at (turns_to w (set w (4 * c + 3) word) g ok.each 0 entry
          (λ a b r e at_a. let n = chain_of g a r at_a e in inl (chain_keeps w (set w (4 * c + 3) word) g ok.each a b (order_keep (a / 32) (ChainCell n.0 n.1) n.2 (λ x. cc))))
          (λ d b r e. ⊎_elim (λ (z : c ≡ d). subst (λ (x : ℕ). TurnsTo w (set w (4 * c + 3) word) g ok.each 0 entry (slot_child w x (slot_at (word_of w x 3) b)) (slot_child (set w (4 * c + 3) word) x (slot_at (word_of (set w (4 * c + 3) word) x 3) b))) z (of_sparse b))
          (λ (ne : c ≢ d). inl (sparse_keeps w (set w (4 * c + 3) word) g ok.each d b (order_apart d (λ z. ne (sym z))))) (cases_eq c d))
          (λ d b r e. inl (split_node_keeps w (set w (4 * c + 3) word) g ok.each d b r e (order_keep d (TopCell r) e (λ x. cc)) (λ k u v f. order_keep k (MidCell u v) f (λ x. cc)) (λ k u v y f. order_keep k (LeafCell u v y) f (λ x. cc))))
          (λ d r e. same_field w (set w (4 * c + 3) word) d 1 (order_keep d (PrefixCell r) e (λ x. cc)) (omega arith)));
    }
