-- Cells of a put that are written and not yet reachable join the image.
use Rattle.std.proofs.Common.{◌≡◌, ◌⊎◌, ℕ, zero, suc, ◌+◌, ◌*◌, ◌/◌, ◌<◌, ◌≤◌, List, [], ◌∷◌, ◌++◌, length, slice_get, Some, sym, ◌∙◌, subst, inl, inr, ⊎_elim, arith}
use Rattle.trie_image.specs.declared.Put.{Put}
use Rattle.trie_image.specs.declared.Owner.{Owner}
use Rattle.trie_image.specs.declared.Owner.TheVariants.{HeadCell, RecordCell, ChainCell, SparseCell, TopCell, MidCell, LeafCell, PrefixCell}
use Rattle.trie_image.specs.declared.Ledger.{Ledger}
use Rattle.trie_image.specs.Image.{field, root_of}
use Rattle.trie_image.specs.Paths.{owner}
use Rattle.trie_image.specs.Cell.{IsLeafCell, IsCell, IsImage}
use Rattle.trie_image.proofs.Owners.{get_front, grown, path_grown}

module _ {A : Type 0} where
  pub get_either : (l m : List A) (i : ℕ) (x : A) → slice_get (l ++ m) i ≡ Some x → (slice_get l i ≡ Some x) ⊎ ((j : ℕ) × (i ≡ length l + j) × (slice_get m j ≡ Some x))
  get_either [] m i x e = inr (i, omega arith, e)
  get_either (y ∷ ys) m zero x e = inl e
  get_either (y ∷ ys) m (suc i) x e = ⊎_elim (λ t. inl t) (λ (t : (j : ℕ) × (i ≡ length ys + j) × (slice_get m j ≡ Some x)). let s = t.1 in inr (t.0, omega arith, t.2)) (get_either ys m i x e)

module _ (w : List ℕ) (g : Ledger) (own : List Owner) (hist : List Put) where
  pub owner_grown : (c : ℕ) (o : Owner) → owner g c ≡ Some o → owner (grown g own hist) c ≡ Some o
  owner_grown c o e = get_front g.owners own c o e

  leaf_grown : (c t i j : ℕ) → IsLeafCell w g c t i j → IsLeafCell w (grown g own hist) c t i j
  leaf_grown c t i j ok = record {
    children = λ n q l ne top. let a : Some (TopCell q) ≡ Some (TopCell ok.top) = sym top ∙ owner_grown t (TopCell ok.top) ok.is_top in let b : q ≡ ok.top = cc in
        path_grown g own hist (field w c n) (q ++ (64 * i + 8 * j + n) ∷ []) (ok.children n q l ne (subst (λ (x : List ℕ). owner g t ≡ Some (TopCell x)) (sym b) ok.is_top));
    small = ok.small;
    top = ok.top;
    is_top = owner_grown t (TopCell ok.top) ok.is_top;
  }

  pub cell_grown : (c : ℕ) (o : Owner) → IsCell w g c o → IsCell w (grown g own hist) c o
  cell_grown c HeadCell ok = ok
  cell_grown c (RecordCell n j) (e, is, ok) = (e, get_front g.puts hist n e is, record { place = ok.place; inside = ok.inside; words = ok.words })
  cell_grown c (ChainCell from t) ok = record { entered = ok.entered; long = ok.long; bytes = ok.bytes; tail = path_grown g own hist (field w c 7) t ok.tail }
  cell_grown c (SparseCell q) ok = record { sparse = ok.sparse; children = λ b s e. path_grown g own hist (field w c s) (q ++ b ∷ []) (ok.children b s e) }
  cell_grown c (TopCell q) ok = record { mids = λ i l ne. owner_grown (field w c i / 32) (MidCell c i) (ok.mids i l ne); wide = ok.wide; rest = ok.rest }
  cell_grown c (MidCell t i) ok = record { leaves = λ j l ne. owner_grown (field w c j / 32) (LeafCell t i j) (ok.leaves j l ne); wide = ok.wide }
  cell_grown c (LeafCell t i j) ok = leaf_grown c t i j ok
  cell_grown c (PrefixCell q) ok = record { content = path_grown g own hist (field w c 0) q ok.content; is_content = ok.is_content; node = path_grown g own hist (field w c 1) q ok.node; is_node = ok.is_node }

  pub image_grown : (cells : ℕ) → IsImage w g cells → length (g.owners ++ own) ≤ cells → length (g.puts ++ hist) < length (g.owners ++ own) → ((j : ℕ) (o : Owner) → slice_get own j ≡ Some o → IsCell w (grown g own hist) (length g.owners + j) o) → IsImage w (grown g own hist) cells
  image_grown cells ok capacity fewer news = record {
    size = ok.size;
    capacity = capacity;
    fewer = fewer;
    small = ok.small;
    head = owner_grown 0 HeadCell ok.head;
    each = λ c o e. ⊎_elim (λ (t : slice_get g.owners c ≡ Some o). cell_grown c o (ok.each c o t))
        (λ (t : (j : ℕ) × (c ≡ length g.owners + j) × (slice_get own j ≡ Some o)). subst (λ (x : ℕ). IsCell w (grown g own hist) x o) (sym t.1) (news t.0 o t.2)) (get_either g.owners own c o e);
    root = λ ne. path_grown g own hist (root_of w) [] (ok.root ne);
  }
