-- The cells of a split node made from a full sparse node and one child more.
use Rattle.std.proofs.Common.{◌≡◌, ◌≢◌, ℕ, zero, suc, ◌+◌, ◌*◌, ◌/◌, ◌%◌, ◌^◌, ◌<◌, ◌≤◌, ◌==◌, Bool, true, false, cond, List, [], ◌∷◌, ◌++◌, length, map, filter, count_by, slice_get, Option, Some, None, refl, sym, ap, ◌∙◌, subst, arith, ne_eqb, eqb-true, ⊎_elim, length-append}
use Rattle.std.proofs.lemmas.Bool.{lt-leb, cases_eq}
use Rattle.std.proofs.lemmas.List.Sums.{length-filter, count_by-le-length}
use Rattle.std.proofs.lemmas.List.FromFn.{length-range_with_len}
use Rattle.std.specs.List.{range_with_len, flat_map}
use Rattle.cell_layout.specs.declared.Kind.TheVariants.{Chain, Sparse, Wide, Prefix}
use Rattle.cell_layout.specs.Words.{half_of}
use Rattle.cell_layout.specs.Pointers.{kind_at_offset, kind_at, record_cell}
use Rattle.cell_layout.specs.Slots.{slot_at}
use Rattle.cell_layout.proofs.PointerKinds.{is_kind}
use Rattle.cell_layout.specs.Cells.{eight}
use Rattle.cell_layout.proofs.CellBytes.{pair_low, pair_high}
use Rattle.trie_image.specs.declared.Owner.{Owner}
use Rattle.trie_image.specs.declared.Owner.TheVariants.{HeadCell, RecordCell, TopCell, MidCell, LeafCell}
use Rattle.trie_image.specs.declared.Ledger.{Ledger}
use Rattle.trie_image.specs.Image.{word_of, field, slot_child}
use Rattle.trie_image.specs.Paths.{owner, HasPath, at_content, at_chain, at_sparse, at_split, at_prefix}
use Rattle.trie_image.specs.Cell.{IsSparseCell, IsTopCell, IsMidCell, IsLeafCell, IsCell}
use Rattle.trie_image.specs.Body.{has_mid, has_leaf, mids_below, leaves_below, inner_pointer, top_field, mid_field, leaf_field, top_words, mid_words, leaf_words}
use Rattle.trie_image.proofs.BodyLengths.{length_eights}
use Rattle.trie_image.proofs.CellWords.{Stands, stands_front, stands_back}
use Rattle.trie_image.proofs.NewChains.{Owns, AreCells, owns_front, owns_back, cells_joined, cell_alone, owner_first}

-- the kind of a pointer below 2^31 goes by its offset
pub kind_by_offset : (p : ℕ) → p ≢ 0 → p < 2 ^ 31 → kind_at p ≡ kind_at_offset (p % 32)
kind_by_offset p a b = rw (ne_eqb p 0 a, lt-leb (2 ^ 31) p b) refl

-- a pointer with a path fits in a half
pub path_small : (g : Ledger) (p : ℕ) (q : List ℕ) → owner g 0 ≡ Some HeadCell → HasPath g p q → p < 2 ^ 32
path_small g p q head (at_content n e k o h s) = ⊎_elim
    (λ (z : record_cell p ≡ 0). let at : owner g 0 ≡ Some (RecordCell n 0) = subst (λ (c : ℕ). owner g c ≡ Some (RecordCell n 0)) z o in let two : Some HeadCell ≡ Some (RecordCell n 0) = sym head ∙ at in absurd (cc))
    (λ (ne : record_cell p ≢ 0). omega arith) (cases_eq (record_cell p) 0)
path_small g p q head (at_chain from t k o h s) = let l : (p ≢ 0) × (p < 2 ^ 31) × (p % 32 ≤ 27) = is_kind p (Some Chain) k in omega (arith, l.1)
path_small g p q head (at_sparse k o) = let l : (p ≢ 0) × (p < 2 ^ 31) × (p % 32 ≡ 30) = is_kind p (Some Sparse) k in omega (arith, l.1)
path_small g p q head (at_split k o) = let l : (p ≢ 0) × (p < 2 ^ 31) × (p % 32 ≡ 28) = is_kind p (Some Wide) k in omega (arith, l.1)
path_small g p q head (at_prefix k o) = let l : (p ≢ 0) × (p < 2 ^ 31) × (p % 32 ≡ 31) = is_kind p (Some Prefix) k in omega (arith, l.1)

-- a number of a range that passes a test, among all that pass
module _ (p : ℕ → Bool) where
  -- its place is the number of those before it
  at_length : (a n i : ℕ) → i < n → p (a + i) ≡ true → slice_get (filter p (range_with_len a n)) (length (filter p (range_with_len a i))) ≡ Some (a + i)
  at_length a zero i l e = absurd (omega arith)
  at_length a (suc n) zero l e = let z : a + 0 ≡ a = omega arith in here (p a) (ap (λ (x : ℕ). p x) (sym z) ∙ e) z
    where
      here : (t : Bool) → t ≡ true → a + 0 ≡ a → slice_get (cond t (a ∷ filter p (range_with_len (a + 1) n)) (filter p (range_with_len (a + 1) n))) 0 ≡ Some (a + 0)
      here true e z = ap (λ (x : ℕ). Some x) (sym z)
      here false e z = absurd (cc)
  at_length a (suc n) (suc i) l e = let z : a + 1 + i ≡ a + suc i = omega arith in there (p a) (at_length (a + 1) n i (omega arith) (ap (λ (x : ℕ). p x) z ∙ e) ∙ ap (λ (x : ℕ). Some x) z)
    where
      there : (t : Bool) → slice_get (filter p (range_with_len (a + 1) n)) (length (filter p (range_with_len (a + 1) i))) ≡ Some (a + suc i)
          → slice_get (cond t (a ∷ filter p (range_with_len (a + 1) n)) (filter p (range_with_len (a + 1) n))) (length (cond t (a ∷ filter p (range_with_len (a + 1) i)) (filter p (range_with_len (a + 1) i)))) ≡ Some (a + suc i)
      there true h = h
      there false h = h

  pub at_rank : (n i : ℕ) → i < n → p i ≡ true → slice_get (filter p (range_with_len 0 n)) (count_by p (range_with_len 0 i)) ≡ Some i
  at_rank n i l e = let z : 0 + i ≡ i = omega arith in subst (λ (x : ℕ). slice_get (filter p (range_with_len 0 n)) (count_by p (range_with_len 0 i)) ≡ Some x) z
      (subst (λ (k : ℕ). slice_get (filter p (range_with_len 0 n)) k ≡ Some (0 + i)) (length-filter p (range_with_len 0 i)) (at_length 0 n i l (ap (λ (x : ℕ). p x) z ∙ e)))

  -- what passes is of the range
  below_place : (t : Bool) (a i end : ℕ) (xs : List ℕ) (j : ℕ) → slice_get (cond t (a ∷ xs) xs) j ≡ Some i → a < end → ((j : ℕ) → slice_get xs j ≡ Some i → i < end) → i < end
  below_place true a i end xs zero e l h = let is : a ≡ i = cc in omega arith
  below_place true a i end xs (suc j) e l h = h j e
  below_place false a i end xs j e l h = h j e

  in_filter : (a n end j i : ℕ) → a + n ≤ end → slice_get (filter p (range_with_len a n)) j ≡ Some i → i < end
  in_filter a zero end j i l e = absurd (cc)
  in_filter a (suc n) end j i l e = below_place (p a) a i end (filter p (range_with_len (a + 1) n)) j e (omega arith) (λ k. in_filter (a + 1) n end k i (omega arith))

-- an element of a list that is sent through a function
pub get_map : (f : ℕ → Owner) (xs : List ℕ) (j i : ℕ) → slice_get xs j ≡ Some i → slice_get (map f xs) j ≡ Some (f i)
get_map f [] j i e = absurd (cc)
get_map f (x ∷ xs) zero i e = let is : x ≡ i = cc in ap (λ (y : ℕ). Some (f y)) is
get_map f (x ∷ xs) (suc j) i e = get_map f xs j i e

pub map_get : (f : ℕ → Owner) (xs : List ℕ) (j : ℕ) (o : Owner) → slice_get (map f xs) j ≡ Some o → (i : ℕ) × (slice_get xs j ≡ Some i) × (f i ≡ o)
map_get f [] j o e = absurd (cc)
map_get f (x ∷ xs) zero o e = let is : f x ≡ o = cc in (x, refl, is)
map_get f (x ∷ xs) (suc j) o e = map_get f xs j o e

pub length_map : (f : ℕ → Owner) (xs : List ℕ) → length (map f xs) ≡ length xs
length_map f [] = refl
length_map f (x ∷ xs) = ap (λ (n : ℕ). suc n) (length_map f xs)

-- a cell of eight pointers, alone and as one of several
pub eight_field : (w : List ℕ) (c : ℕ) (f : ℕ → ℕ) (k n : ℕ) → Stands w c (eight f k) → n < 8 → ((i : ℕ) → i < 8 → f (k + i) < 2 ^ 32) → field w c n ≡ f (k + n)
eight_field w c f k zero h l small = let z : k + 0 ≡ k = omega arith in ap (λ (x : ℕ). half_of x false) (h 0 (omega arith)) ∙ (pair_low (f k) (f (k + 1)) (subst (λ (x : ℕ). f x < 2 ^ 32) z (small 0 (omega arith))) ∙ ap f (sym z))
eight_field w c f k (suc zero) h l small = let z : k + 0 ≡ k = omega arith in ap (λ (x : ℕ). half_of x true) (h 0 (omega arith)) ∙ pair_high (f k) (f (k + 1)) (subst (λ (x : ℕ). f x < 2 ^ 32) z (small 0 (omega arith)))
eight_field w c f k (suc (suc zero)) h l small = ap (λ (x : ℕ). half_of x false) (h 1 (omega arith)) ∙ pair_low (f (k + 2)) (f (k + 3)) (small 2 (omega arith))
eight_field w c f k (suc (suc (suc zero))) h l small = ap (λ (x : ℕ). half_of x true) (h 1 (omega arith)) ∙ pair_high (f (k + 2)) (f (k + 3)) (small 2 (omega arith))
eight_field w c f k (suc (suc (suc (suc zero)))) h l small = ap (λ (x : ℕ). half_of x false) (h 2 (omega arith)) ∙ pair_low (f (k + 4)) (f (k + 5)) (small 4 (omega arith))
eight_field w c f k (suc (suc (suc (suc (suc zero))))) h l small = ap (λ (x : ℕ). half_of x true) (h 2 (omega arith)) ∙ pair_high (f (k + 4)) (f (k + 5)) (small 4 (omega arith))
eight_field w c f k (suc (suc (suc (suc (suc (suc zero)))))) h l small = ap (λ (x : ℕ). half_of x false) (h 3 (omega arith)) ∙ pair_low (f (k + 6)) (f (k + 7)) (small 6 (omega arith))
eight_field w c f k (suc (suc (suc (suc (suc (suc (suc zero))))))) h l small = ap (λ (x : ℕ). half_of x true) (h 3 (omega arith)) ∙ pair_high (f (k + 6)) (f (k + 7)) (small 6 (omega arith))
eight_field w c f k (suc (suc (suc (suc (suc (suc (suc (suc n)))))))) h l small = absurd (omega arith)

pub one_of : (w : List ℕ) (c : ℕ) (f : ℕ → ℕ) (xs : List ℕ) (j i : ℕ) → Stands w c (flat_map (λ i. eight f (8 * i)) xs) → slice_get xs j ≡ Some i → Stands w (c + j) (eight f (8 * i))
one_of w c f [] j i h e = absurd (cc)
one_of w c f (x ∷ xs) zero i h e = let is : x ≡ i = cc in let z : c + 0 ≡ c = omega arith in subst (λ (y : ℕ). Stands w (c + 0) (eight f (8 * y))) is (subst (λ (y : ℕ). Stands w y (eight f (8 * x))) (sym z) (stands_front w c (eight f (8 * x)) (flat_map (λ i. eight f (8 * i)) xs) h))
one_of w c f (x ∷ xs) (suc j) i h e = let z : c + 1 + j ≡ c + suc j = omega arith in subst (λ (y : ℕ). Stands w y (eight f (8 * i))) z (one_of w (c + 1) f xs j i (stands_back w c 1 (eight f (8 * x)) (flat_map (λ i. eight f (8 * i)) xs) refl h) e)

-- the owners of the mid and leaf cells of a node whose top cell is x, and of all its cells
abbrev pub mid_owners : List ℕ → ℕ → List Owner
mid_owners bytes x = map (λ i. MidCell x i) (filter (has_mid bytes) (range_with_len 0 4))

abbrev pub leaf_owners : List ℕ → ℕ → List Owner
leaf_owners bytes x = map (λ k. LeafCell x (k / 8) (k % 8)) (filter (has_leaf bytes) (range_with_len 0 32))

abbrev pub split_node_owners : List ℕ → ℕ → List ℕ → List Owner
split_node_owners bytes x q = (TopCell q ∷ mid_owners bytes x) ++ leaf_owners bytes x

-- a pointer to a mid or leaf cell
inner_there : (b : Bool) (c : ℕ) → inner_pointer b c ≢ 0 → (b ≡ true) × (inner_pointer b c ≡ 32 * c + 28)
inner_there true c ne = (refl, refl)
inner_there false c ne = absurd (ne refl)

inner_small : (b : Bool) (c : ℕ) → c < 2 ^ 26 → inner_pointer b c < 2 ^ 31
inner_small true c l = omega arith
inner_small false c l = omega arith

inner_cell : (p c : ℕ) → p ≡ 32 * c + 28 → p / 32 ≡ c
inner_cell p c e = omega arith

inner_split : (p c : ℕ) → p ≡ 32 * c + 28 → c < 2 ^ 26 → kind_at p ≡ Some Wide
inner_split p c e l = let o : p % 32 ≡ 28 = omega arith in kind_by_offset p (λ z. omega arith) (omega arith) ∙ ap (λ (x : ℕ). kind_at_offset x) o

pub few_below : (p : ℕ → Bool) (i : ℕ) → count_by p (range_with_len 0 i) ≤ i
few_below p i = omega (arith, count_by-le-length p (range_with_len 0 i), length-range_with_len 0 i)

module _ (w w' : List ℕ) (g g' : Ledger) (node b entry x : ℕ) (q bytes : List ℕ) (own : Owns g' x (split_node_owners bytes x q)) (low : x + 64 < 2 ^ 26) where
  own_inner : Owns g' x (TopCell q ∷ mid_owners bytes x)
  own_inner = owns_front g' x (TopCell q ∷ mid_owners bytes x) (leaf_owners bytes x) own

  own_top : owner g' x ≡ Some (TopCell q)
  own_top = owner_first g' x (TopCell q) (mid_owners bytes x) own_inner

  own_mids : Owns g' (x + 1) (mid_owners bytes x)
  own_mids = owns_back g' x (x + 1) (TopCell q ∷ []) (mid_owners bytes x) refl own_inner

  many_mids : length (mid_owners bytes x) ≡ mids_below bytes 4
  unfolding mids_below
  many_mids = length_map (λ i. MidCell x i) (filter (has_mid bytes) (range_with_len 0 4)) ∙ length-filter (has_mid bytes) (range_with_len 0 4)

  own_leaves : Owns g' (x + 1 + mids_below bytes 4) (leaf_owners bytes x)
  own_leaves = owns_back g' x (x + 1 + mids_below bytes 4) (TopCell q ∷ mid_owners bytes x) (leaf_owners bytes x) (omega (arith, many_mids)) own

  mids_few : (i : ℕ) → mids_below bytes i ≤ i
  unfolding mids_below
  mids_few i = few_below (has_mid bytes) i

  leaves_few : (k : ℕ) → leaves_below bytes k ≤ k
  unfolding leaves_below
  leaves_few k = few_below (has_leaf bytes) k

  -- the mid cell of two bits, and the leaf cell of five
  mid_owned : (i : ℕ) → i < 4 → has_mid bytes i ≡ true → owner g' (x + 1 + mids_below bytes i) ≡ Some (MidCell x i)
  unfolding mids_below
  mid_owned i l e = own_mids (count_by (has_mid bytes) (range_with_len 0 i)) (MidCell x i) (get_map (λ i. MidCell x i) (filter (has_mid bytes) (range_with_len 0 4)) _ i (at_rank (has_mid bytes) 4 i l e))

  leaf_owned : (k : ℕ) → k < 32 → has_leaf bytes k ≡ true → owner g' (x + 1 + mids_below bytes 4 + leaves_below bytes k) ≡ Some (LeafCell x (k / 8) (k % 8))
  unfolding leaves_below
  leaf_owned k l e = own_leaves (count_by (has_leaf bytes) (range_with_len 0 k)) (LeafCell x (k / 8) (k % 8)) (get_map (λ k. LeafCell x (k / 8) (k % 8)) (filter (has_leaf bytes) (range_with_len 0 32)) _ k (at_rank (has_leaf bytes) 32 k l e))

  -- what the pointers in the top cell and in a mid cell lead to
  top_leads : (i : ℕ) → i < 4 → top_field bytes x i ≢ 0 → (owner g' (top_field bytes x i / 32) ≡ Some (MidCell x i)) × (kind_at (top_field bytes x i) ≡ Some Wide)
  unfolding top_field
  top_leads i l ne = let h = inner_there (has_mid bytes i) (x + 1 + mids_below bytes i) ne in
      (subst (λ (y : ℕ). owner g' y ≡ Some (MidCell x i)) (sym (inner_cell _ (x + 1 + mids_below bytes i) h.1)) (mid_owned i l h.0), inner_split _ (x + 1 + mids_below bytes i) h.1 (omega (arith, mids_few i)))

  top_field_small : (i : ℕ) → i < 4 → top_field bytes x i < 2 ^ 32
  unfolding top_field
  top_field_small i l = let h = inner_small (has_mid bytes i) (x + 1 + mids_below bytes i) (omega (arith, mids_few i)) in omega arith

  mid_leads : (k : ℕ) → k < 32 → mid_field bytes x k ≢ 0 → (owner g' (mid_field bytes x k / 32) ≡ Some (LeafCell x (k / 8) (k % 8))) × (kind_at (mid_field bytes x k) ≡ Some Wide)
  unfolding mid_field
  mid_leads k l ne = let h = inner_there (has_leaf bytes k) (x + 1 + mids_below bytes 4 + leaves_below bytes k) ne in (
    subst (λ (y : ℕ). owner g' y ≡ Some (LeafCell x (k / 8) (k % 8))) (sym (inner_cell _ (x + 1 + mids_below bytes 4 + leaves_below bytes k) h.1)) (leaf_owned k l h.0),
    inner_split _ (x + 1 + mids_below bytes 4 + leaves_below bytes k) h.1 (omega (arith, mids_few 4, leaves_few k)),
  )

  mid_field_small : (k : ℕ) → k < 32 → mid_field bytes x k < 2 ^ 32
  unfolding mid_field
  mid_field_small k l = let h = inner_small (has_leaf bytes k) (x + 1 + mids_below bytes 4 + leaves_below bytes k) (omega (arith, mids_few 4, leaves_few k)) in omega arith

  -- the top cell
  top_is : Stands w' x (top_words bytes x) → IsTopCell w' g' x q
  top_is h = record {
    mids = λ i l ne. let e = field_is i l in subst (λ (y : ℕ). owner g' (y / 32) ≡ Some (MidCell x i)) (sym e) ((top_leads i l (λ z. ne (e ∙ z))).0);
    wide = λ i l ne. let e = field_is i l in ap (λ (y : ℕ). kind_at y) e ∙ (top_leads i l (λ z. ne (e ∙ z))).1;
    rest = (h 2 (omega arith), h 3 (omega arith));
  }
    where
      field_is : (i : ℕ) → i < 4 → field w' x i ≡ top_field bytes x i
      field_is zero l = ap (λ (y : ℕ). half_of y false) (h 0 (omega arith)) ∙ pair_low (top_field bytes x 0) (top_field bytes x 1) (top_field_small 0 (omega arith))
      field_is (suc zero) l = ap (λ (y : ℕ). half_of y true) (h 0 (omega arith)) ∙ pair_high (top_field bytes x 0) (top_field bytes x 1) (top_field_small 0 (omega arith))
      field_is (suc (suc zero)) l = ap (λ (y : ℕ). half_of y false) (h 1 (omega arith)) ∙ pair_low (top_field bytes x 2) (top_field bytes x 3) (top_field_small 2 (omega arith))
      field_is (suc (suc (suc zero))) l = ap (λ (y : ℕ). half_of y true) (h 1 (omega arith)) ∙ pair_high (top_field bytes x 2) (top_field bytes x 3) (top_field_small 2 (omega arith))
      field_is (suc (suc (suc (suc i)))) l = absurd (omega arith)

  -- a mid cell
  mid_cell_is : (c i : ℕ) → i < 4 → Stands w' c (eight (mid_field bytes x) (8 * i)) → IsMidCell w' g' c x i
  mid_cell_is c i l h = record {
    leaves = λ j s ne. let e = field_is j s in let a : (8 * i + j) / 8 ≡ i = omega arith in let d : (8 * i + j) % 8 ≡ j = omega arith in
        subst (λ (y : ℕ). owner g' (y / 32) ≡ Some (LeafCell x i j)) (sym e) (subst (λ (u : ℕ). owner g' (mid_field bytes x (8 * i + j) / 32) ≡ Some (LeafCell x u j)) a
        (subst (λ (u : ℕ). owner g' (mid_field bytes x (8 * i + j) / 32) ≡ Some (LeafCell x ((8 * i + j) / 8) u)) d ((mid_leads (8 * i + j) (omega arith) (λ z. ne (e ∙ z))).0)));
    wide = λ j s ne. let e = field_is j s in ap (λ (y : ℕ). kind_at y) e ∙ (mid_leads (8 * i + j) (omega arith) (λ z. ne (e ∙ z))).1;
  }
    where
      field_is : (j : ℕ) → j < 8 → field w' c j ≡ mid_field bytes x (8 * i + j)
      field_is j s = eight_field w' c (mid_field bytes x) (8 * i) j h s (λ k e. mid_field_small (8 * i + k) (omega arith))

  mids_are : Stands w' (x + 1) (mid_words bytes x 4) → AreCells w' g' (x + 1) (mid_owners bytes x)
  unfolding mid_words
  mids_are h j o e = let m = map_get (λ i. MidCell x i) (filter (has_mid bytes) (range_with_len 0 4)) j o e in
      let l : m.0 < 4 = in_filter (has_mid bytes) 0 4 4 j m.0 (omega arith) m.1 in
      subst (λ (y : Owner). IsCell w' g' (x + 1 + j) y) m.2 (mid_cell_is (x + 1 + j) m.0 l (one_of w' (x + 1) (mid_field bytes x) (filter (has_mid bytes) (range_with_len 0 4)) j m.0 h m.1))

  module _ (sparse : IsSparseCell w g node q) (grows : (p : ℕ) (r : List ℕ) → HasPath g p r → HasPath g' p r) (head : owner g' 0 ≡ Some HeadCell) (at_entry : HasPath g' entry (q ++ b ∷ [])) where
    slot_leads : (c : ℕ) (o : Option ℕ) → slot_at (word_of w node 3) c ≡ o → slot_child w node o ≢ 0 → HasPath g' (slot_child w node o) (q ++ c ∷ [])
    slot_leads c None e ne = absurd (ne refl)
    slot_leads c (Some s) e ne = grows (field w node s) (q ++ c ∷ []) (sparse.children c s e)

    -- a child of the new node
    child_leads : (c : ℕ) → leaf_field w node b entry c ≢ 0 → HasPath g' (leaf_field w node b entry c) (q ++ c ∷ [])
    unfolding leaf_field
    child_leads c ne = by (c == b) refl ne
      where
        by : (t : Bool) → (c == b) ≡ t → cond t entry (slot_child w node (slot_at (word_of w node 3) c)) ≢ 0 → HasPath g' (cond t entry (slot_child w node (slot_at (word_of w node 3) c))) (q ++ c ∷ [])
        by true e ne = subst (λ (y : ℕ). HasPath g' entry (q ++ y ∷ [])) (sym (eqb-true c b e)) at_entry
        by false e ne = slot_leads c (slot_at (word_of w node 3) c) refl ne

    child_small : (c : ℕ) → leaf_field w node b entry c < 2 ^ 32
    child_small c = ⊎_elim (λ (z : leaf_field w node b entry c ≡ 0). omega arith) (λ (ne : leaf_field w node b entry c ≢ 0). path_small g' (leaf_field w node b entry c) (q ++ c ∷ []) head (child_leads c ne)) (cases_eq (leaf_field w node b entry c) 0)

    leaf_cell_is : (c k : ℕ) → k < 32 → Stands w' c (eight (leaf_field w node b entry) (8 * k)) → IsLeafCell w' g' c x (k / 8) (k % 8)
    leaf_cell_is c k l h = record {
      children = λ n r s ne own_x. let e = eight_field w' c (leaf_field w node b entry) (8 * k) n h s (λ i _. child_small (8 * k + i)) in
          let a : Some (TopCell q) ≡ Some (TopCell r) = sym own_top ∙ own_x in let same : q ≡ r = cc in let index : 8 * k + n ≡ 64 * (k / 8) + 8 * (k % 8) + n = omega arith in
          subst (λ (u : List ℕ). HasPath g' (field w' c n) (u ++ (64 * (k / 8) + 8 * (k % 8) + n) ∷ [])) same (subst (λ (u : ℕ). HasPath g' (field w' c n) (q ++ u ∷ [])) index (subst (λ (u : ℕ). HasPath g' u (q ++ (8 * k + n) ∷ [])) (sym e) (child_leads (8 * k + n) (λ z. ne (e ∙ z)))));
      small = (omega arith, omega arith);
      top = q;
      is_top = own_top;
    }

    leaves_are : (c : ℕ) → Stands w' c (leaf_words w node b entry bytes 32) → AreCells w' g' c (leaf_owners bytes x)
    unfolding leaf_words
    leaves_are c h j o e = let m = map_get (λ k. LeafCell x (k / 8) (k % 8)) (filter (has_leaf bytes) (range_with_len 0 32)) j o e in
        let l : m.0 < 32 = in_filter (has_leaf bytes) 0 32 32 j m.0 (omega arith) m.1 in
        subst (λ (y : Owner). IsCell w' g' (c + j) y) m.2 (leaf_cell_is (c + j) m.0 l (one_of w' c (leaf_field w node b entry) (filter (has_leaf bytes) (range_with_len 0 32)) j m.0 h m.1))

    words_before : length (top_words bytes x ++ mid_words bytes x 4) ≡ 4 * (1 + mids_below bytes 4)
    unfolding mid_words mids_below
    words_before = let m = length_eights (mid_field bytes x) (filter (has_mid bytes) (range_with_len 0 4)) in let c = length-filter (has_mid bytes) (range_with_len 0 4) in
        let four : length (top_words bytes x) ≡ 4 = refl in omega (arith, length-append (top_words bytes x) (mid_words bytes x 4), m, c, four)

    -- all cells of the new node
    pub split_cells_are : Stands w' x (top_words bytes x ++ mid_words bytes x 4 ++ leaf_words w node b entry bytes 32) → AreCells w' g' x (split_node_owners bytes x q)
    split_cells_are h = let top : List ℕ = top_words bytes x in let mids : List ℕ = mid_words bytes x 4 in let leaves : List ℕ = leaf_words w node b entry bytes 32 in
        let inner : Stands w' x (top ++ mids) = stands_front w' x (top ++ mids) leaves h in
        cells_joined w' g' x (x + 1 + mids_below bytes 4) (TopCell q ∷ mid_owners bytes x) (leaf_owners bytes x) (omega (arith, many_mids))
        (cells_joined w' g' x (x + 1) (TopCell q ∷ []) (mid_owners bytes x) refl (cell_alone w' g' x (TopCell q) (top_is (stands_front w' x top mids inner))) (mids_are (stands_back w' x 1 top mids refl inner)))
        (leaves_are (x + 1 + mids_below bytes 4) (let z : x + 1 + mids_below bytes 4 ≡ x + (1 + mids_below bytes 4) = omega arith in
        subst (λ (y : ℕ). Stands w' y leaves) (sym z) (stands_back w' x (1 + mids_below bytes 4) (top ++ mids) leaves words_before h)))
