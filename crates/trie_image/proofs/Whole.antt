-- The image after a put's publishing store is well formed, with the put added to the puts.
use Rattle.std.proofs.Common.{◌≡◌, ◌≢◌, ◌⊎◌, ℕ, ◌+◌, ◌<◌, List, [], ◌∷◌, ◌++◌, length, slice_get, Option, Some, refl, sym, ap, ◌∙◌, subst, inl, inr, ⊎_elim}
use Rattle.std.proofs.lemmas.Bool.{cases_eq}
use Rattle.cell_layout.specs.Pointers.{kind_at}
use Rattle.cell_layout.specs.Slots.{slot_at}
use Rattle.cell_layout.specs.Cells.{record_cells}
use Rattle.trie_image.specs.declared.Put.{Put}
use Rattle.trie_image.specs.declared.Place.{Place}
use Rattle.trie_image.specs.declared.Owner.{Owner}
use Rattle.trie_image.specs.declared.Owner.TheVariants.{RecordCell, SparseCell, TopCell, MidCell, LeafCell}
use Rattle.trie_image.specs.declared.Ledger.{Ledger}
use Rattle.trie_image.specs.Reading.{sees, sees_from, Better, Changes}
use Rattle.trie_image.specs.Image.{word_of, field, child_of, record_of, reading, root_of}
use Rattle.trie_image.specs.Paths.{owner, HasPath}
use Rattle.trie_image.specs.Puts.{IsKey, IsValue, MapsTo}
use Rattle.trie_image.specs.WellFormed.{HasRecords, HasSplitNodes, IsWellFormed}
use Rattle.trie_image.specs.Same.{IsSame}
use Rattle.trie_image.specs.Place.{IsPlace, place_sees}
use Rattle.trie_image.proofs.Owners.{get_front, grown, path_grown}
use Rattle.trie_image.proofs.Readings.{sees_none, sees_there}
use Rattle.trie_image.proofs.Children.{closed}
use Rattle.trie_image.proofs.Kept.{child_same, record_same}
use Rattle.trie_image.proofs.Entries.{one_entry}
use Rattle.trie_image.proofs.HomeChanges.{Publishes}
use Rattle.trie_image.proofs.Mapped.{same_or_not, old_or_new, maps_new, maps_old}
use Rattle.trie_image.proofs.NewSplits.{AreNewOwners, paths_lead, splits_stand}
use Rattle.trie_image.proofs.Places.{places}

-- what the publishing store leaves in cells taken before: the pointers in top and mid cells, pointers in leaf cells, and what
-- order words find
pub record KeepsCells (w w' : List ℕ) (g : Ledger) : Type 0 where
  pub tops : (c i : ℕ) (q : List ℕ) → owner g c ≡ Some (TopCell q) → i < 8 → field w c i ≢ 0 → field w' c i ≡ field w c i
  pub mids : (c t j i : ℕ) → owner g c ≡ Some (MidCell t j) → i < 8 → field w c i ≢ 0 → field w' c i ≡ field w c i
  pub leaves : (c t i j n : ℕ) → owner g c ≡ Some (LeafCell t i j) → n < 8 → field w c n ≢ 0 → field w' c n ≢ 0
  pub slots : (c b s : ℕ) (q : List ℕ) → owner g c ≡ Some (SparseCell q) → slot_at (word_of w c 3) b ≡ Some s → slot_at (word_of w' c 3) b ≡ Some s

-- a put within the limits, whose record's cells have their owners
pub record IsRecorded (g : Ledger) (n : ℕ) (put : Put) : Type 0 where
  pub cells : (j : ℕ) → j < record_cells (length put.value) → owner g (put.cell + j) ≡ Some (RecordCell n j)
  pub key : IsKey put.key
  pub value : IsValue put.value

module _ (w w1 w' : List ℕ) (g : Ledger) (cells : ℕ) (own : List Owner) (put : Put) (p p' : ℕ) (h rest : List ℕ) (ok : IsWellFormed w g cells) (same : IsSame w w1 g) (published : Publishes w1 w' (grown g own (put ∷ [])) cells p p' h put.key put.cell) (is_key : h ++ rest ≡ put.key) (better : Better (reading w') p p' rest put.cell) where
  -- the changes, against the words before the put
  pub changes_old : (a b : ℕ) (q : List ℕ) → HasPath g a q → Changes (reading w) (reading w') p p' h a q b
  changes_old a b q at = subst (λ (x : ℕ). (child_of w' a b (kind_at a) ≡ x) ⊎ (((q ++ b ∷ [] ≡ h) × (x ≡ p) × (child_of w' a b (kind_at a) ≡ p')) ⊎ ((q ≡ h) × (p ≢ 0) × (p' ≢ 0) × (x ≡ child_of w' p b (kind_at p)) × (child_of w' a b (kind_at a) ≡ child_of w' p' b (kind_at p')))))
      (child_same w w1 g ok.image.each same.cells a q b (kind_at a) refl at) (published.changes a b q (path_grown g own (put ∷ []) a q at))

  records_old : (a : ℕ) (q : List ℕ) → HasPath g a q → (record_of w' a (kind_at a) ≡ record_of w a (kind_at a)) ⊎ ((q ≡ put.key) × (record_of w' a (kind_at a) ≡ Some put.cell))
  records_old a q at = subst (λ (x : Option ℕ). (record_of w' a (kind_at a) ≡ x) ⊎ ((q ≡ put.key) × (record_of w' a (kind_at a) ≡ Some put.cell))) (record_same w w1 g ok.image.each same.cells a q (kind_at a) refl at) (published.records a q (path_grown g own (put ∷ []) a q at))

  -- the law of Publish
  pub law : (k : List ℕ) (a : ℕ) (q : List ℕ) → HasPath g a q → (sees (reading w') a k ≡ sees (reading w) a k) ⊎ ((q ++ k ≡ put.key) × (sees (reading w') a k ≡ Some put.cell))
  law k a q at = one_entry (reading w) (reading w') (HasPath g) (closed w g ok.image.each) put.key put.cell p p' h rest is_key better records_old changes_old k a q at

  module _ (seen : sees_from (reading w') (root_of w') put.key ≡ Some put.cell) (root_turns : (root_of w' ≡ root_of w) ⊎ ((root_of w ≡ p) × (root_of w' ≡ p') × (h ≡ []))) where
    -- what stood at the root sees what it saw, or the new record for the put's key
    old_root : (k : List ℕ) → (sees_from (reading w') (root_of w) k ≡ sees_from (reading w) (root_of w) k) ⊎ ((k ≡ put.key) × (sees_from (reading w') (root_of w) k ≡ Some put.cell))
    old_root k = ⊎_elim (λ (z : root_of w ≡ 0). inl (sees_none (reading w') (root_of w) k z ∙ sym (sees_none (reading w) (root_of w) k z)))
        (λ (ne : root_of w ≢ 0). ⊎_elim (λ (e : sees (reading w') (root_of w) k ≡ sees (reading w) (root_of w) k). inl (sees_there (reading w') (root_of w) k ne ∙ (e ∙ sym (sees_there (reading w) (root_of w) k ne))))
        (λ (t : (k ≡ put.key) × (sees (reading w') (root_of w) k ≡ Some put.cell)). inr (t.0, sees_there (reading w') (root_of w) k ne ∙ t.1)) (law k (root_of w) [] (ok.image.root ne))) (cases_eq (root_of w) 0)

    turned_root : (k : List ℕ) → root_of w ≡ p → root_of w' ≡ p' → h ≡ [] → (sees_from (reading w') (root_of w') k ≡ sees_from (reading w) (root_of w) k) ⊎ ((k ≡ put.key) × (sees_from (reading w') (root_of w') k ≡ Some put.cell))
    turned_root k was now top = let whole : rest ≡ put.key = ap (λ (l : List ℕ). l ++ rest) (sym top) ∙ is_key in ⊎_elim
        (λ (t : (k ≡ rest) × (sees_from (reading w') p' k ≡ Some put.cell)). inr (t.0 ∙ whole, ap (λ (x : ℕ). sees_from (reading w') x k) now ∙ t.1))
        (λ (t : (k ≡ rest → ⊥) × (sees_from (reading w') p' k ≡ sees_from (reading w') p k)). let n = t.0 in
        let here : sees_from (reading w') (root_of w') k ≡ sees_from (reading w') (root_of w) k = ap (λ (x : ℕ). sees_from (reading w') x k) now ∙ (t.1 ∙ ap (λ (x : ℕ). sees_from (reading w') x k) (sym was)) in
        ⊎_elim (λ (e : sees_from (reading w') (root_of w) k ≡ sees_from (reading w) (root_of w) k). inl (here ∙ e)) (λ (s : (k ≡ put.key) × (sees_from (reading w') (root_of w) k ≡ Some put.cell)). absurd (n (s.0 ∙ sym whole))) (old_root k)) (better k)

    pub roots : (k : List ℕ) → (sees_from (reading w') (root_of w') k ≡ sees_from (reading w) (root_of w) k) ⊎ ((k ≡ put.key) × (sees_from (reading w') (root_of w') k ≡ Some put.cell))
    roots k = ⊎_elim (λ (e : root_of w' ≡ root_of w). subst (λ (x : ℕ). (sees_from (reading w') x k ≡ sees_from (reading w) (root_of w) k) ⊎ ((k ≡ put.key) × (sees_from (reading w') x k ≡ Some put.cell))) (sym e) (old_root k))
        (λ (t : (root_of w ≡ p) × (root_of w' ≡ p') × (h ≡ [])). turned_root k t.0 t.1 t.2) root_turns

    -- the root sees the map with the put added
    maps : (k : List ℕ) → MapsTo (g.puts ++ put ∷ []) k (sees_from (reading w') (root_of w') k)
    maps k = ⊎_elim
        (λ (e : k ≡ put.key). subst (λ (l : List ℕ). MapsTo (g.puts ++ put ∷ []) l (sees_from (reading w') (root_of w') l)) (sym e) (subst (MapsTo (g.puts ++ put ∷ []) put.key) (sym seen) (maps_new g.puts put)))
        (λ (ne : k ≡ put.key → ⊥). ⊎_elim (λ (e : sees_from (reading w') (root_of w') k ≡ sees_from (reading w) (root_of w) k). subst (MapsTo (g.puts ++ put ∷ []) k) (sym e) (maps_old g.puts put k (sees_from (reading w) (root_of w) k) ne (ok.map k)))
        (λ (t : (k ≡ put.key) × (sees_from (reading w') (root_of w') k ≡ Some put.cell)). absurd (ne t.0)) (roots k)) (same_or_not k put.key)

    module _ (left : KeepsCells w w' g) (news : AreNewOwners w' (grown g own (put ∷ [])) put.key (length g.owners) own) (recorded : IsRecorded (grown g own (put ∷ [])) (length g.puts) put) where
      records : HasRecords (grown g own (put ∷ []))
      records = record {
        records = λ n j e is l. ⊎_elim (λ (t : slice_get g.puts n ≡ Some e). get_front g.owners own (e.cell + j) (RecordCell n j) (ok.puts.records n j e t l))
            (λ (t : (n ≡ length g.puts) × (e ≡ put)). subst (λ (m : ℕ). owner (grown g own (put ∷ [])) (e.cell + j) ≡ Some (RecordCell m j)) (sym t.0) (subst (λ (x : Put). owner (grown g own (put ∷ [])) (x.cell + j) ≡ Some (RecordCell (length g.puts) j)) (sym t.1) (recorded.cells j (subst (λ (x : Put). j < record_cells (length x.value)) t.1 l)))) (old_or_new g.puts put e n is);
        keys = λ n e is. ⊎_elim (λ (t : slice_get g.puts n ≡ Some e). ok.puts.keys n e t) (λ (t : (n ≡ length g.puts) × (e ≡ put)). subst (λ (x : Put). IsKey x.key) (sym t.1) recorded.key) (old_or_new g.puts put e n is);
        values = λ n e is. ⊎_elim (λ (t : slice_get g.puts n ≡ Some e). ok.puts.values n e t) (λ (t : (n ≡ length g.puts) × (e ≡ put)). subst (λ (x : Put). IsValue x.value) (sym t.1) recorded.value) (old_or_new g.puts put e n is);
      }

      split : HasSplitNodes w' (grown g own (put ∷ []))
      split = splits_stand w w' g cells ok.image own put news ok.split left.tops left.mids left.leaves

      pub well_formed : IsWellFormed w' (grown g own (put ∷ [])) cells
      well_formed = record { image = published.image; puts = records; split = split; paths = paths_lead w w' g own put news ok.paths; map = maps }

      -- and every place of a walk is one of it
      pub places_kept : (k : List ℕ) (pl : Place) → IsPlace w g k pl → IsPlace w' (grown g own (put ∷ [])) k pl × ((place_sees w' k pl ≡ place_sees w k pl) ⊎ ((k ≡ put.key) × (place_sees w' k pl ≡ Some put.cell)))
      places_kept k pl at = places w w' g (grown g own (put ∷ [])) cells ok.image published.image ok.split split (λ a q e. path_grown g own (put ∷ []) a q e) (λ c o e. get_front g.owners own c o e) left.slots put.key put.cell law roots k pl at
