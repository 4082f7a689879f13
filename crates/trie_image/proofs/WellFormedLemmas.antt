-- A well-formed image after a store that no pointer with a path reads, and what a walk's end tells of the puts.
use Rattle.std.proofs.Common.{◌≡◌, ◌≢◌, ℕ, ◌+◌, List, [], slice_get, slice_index, Option, Some, None, sym, ap, ◌∙◌, subst, ⊎_elim, arith}
use Rattle.std.proofs.lemmas.Bool.{cases_eq}
use Rattle.trie_image.specs.declared.Put.{Put}
use Rattle.trie_image.specs.declared.Rec.{Rec}
use Rattle.trie_image.specs.declared.Place.{Place}
use Rattle.trie_image.specs.declared.Advance.{Advance}
use Rattle.trie_image.specs.declared.Advance.TheVariants.{On, Found, Absent}
use Rattle.trie_image.specs.declared.Owner.TheVariants.{HeadCell, RecordCell, TopCell, MidCell}
use Rattle.trie_image.specs.declared.Ledger.{Ledger}
use Rattle.trie_image.specs.Reading.{sees, sees_from}
use Rattle.trie_image.specs.Image.{reading, root_of}
use Rattle.trie_image.specs.Paths.{owner, HasPath}
use Rattle.trie_image.specs.Cell.{IsImage}
use Rattle.trie_image.specs.Puts.{MapsTo, IsRecOf, HasLastPut}
use Rattle.trie_image.specs.WellFormed.{HasSplitNodes, IsWellFormed}
use Rattle.trie_image.specs.Same.{IsSame}
use Rattle.trie_image.specs.Place.{IsPlace, place_sees, next_word_of, outcome_of}
use Rattle.trie_image.specs.Laws.{Answers}
use Rattle.trie_image.proofs.Readings.{sees_none, sees_there}
use Rattle.trie_image.proofs.Advances.{advances}
use Rattle.trie_image.proofs.Kept.{same_field, split_node_same, sees_same, keeps}

split_kept : (w w' : List ℕ) (g : Ledger) (cells : ℕ) → IsImage w g cells → IsSame w w' g → HasSplitNodes w g → HasSplitNodes w' g
split_kept w w' g cells ok same h = record {
  mids = λ c t i e. let m = h.mids c t i e in let top = h.tops c t i e in (m.0, same_field w w' t i (same.cells t (TopCell top.0) top.1) (omega (arith, m.0)) ∙ m.1);
  tops = h.tops;
  leaves = λ c t i j e. let l = h.leaves c t i j e in (l.0, l.1, l.2, same_field w w' l.0 j (same.cells l.0 (MidCell t i) l.1) l.2 ∙ l.3);
  children = λ c q e. let b = h.children c q e in (b.0, b.1, λ z. let n = b.2 in n (sym (split_node_same w w' g ok.each same.cells c b.0 q e) ∙ z));
}

pub keeps_well_formed : (w w' : List ℕ) (g : Ledger) (cells : ℕ) → IsWellFormed w g cells → IsSame w w' g
    → IsWellFormed w' g cells × ((k : List ℕ) (p : ℕ) (q : List ℕ) → HasPath g p q → sees (reading w') p k ≡ sees (reading w) p k) × ((key : List ℕ) (pl : Place) → IsPlace w g key pl → IsPlace w' g key pl × (place_sees w' key pl ≡ place_sees w key pl))
keeps_well_formed w w' g cells ok same = let kept = keeps w w' g cells ok.image same in (
  record { image = kept.0; puts = ok.puts; split = split_kept w w' g cells ok.image same ok.split; paths = ok.paths; map = λ key. subst (MapsTo g.puts key) (sym (root_same_sees key)) (ok.map key) },
  kept.1,
  kept.2,
)
  where
    root : root_of w' ≡ root_of w
    root = same.cells 0 HeadCell ok.image.head

    root_same_sees : (key : List ℕ) → sees_from (reading w') (root_of w') key ≡ sees_from (reading w) (root_of w) key
    root_same_sees key = ap (λ (x : ℕ). sees_from (reading w') x key) root ∙ ⊎_elim
        (λ (z : root_of w ≡ 0). sees_none (reading w') (root_of w) key z ∙ sym (sees_none (reading w) (root_of w) key z))
        (λ (ne : root_of w ≢ 0). sees_there (reading w') (root_of w) key ne ∙ (sees_same w w' g ok.image.each same.cells key (root_of w) [] (ok.image.root ne) ∙ sym (sees_there (reading w) (root_of w) key ne))) (cases_eq (root_of w) 0)

-- the outcome of a load of a place that sees what the root sees
module _ (w : List ℕ) (g : Ledger) (cells : ℕ) (key : List ℕ) (pl : Place) (word : ℕ) (ok : IsWellFormed w g cells) (place : IsPlace w g key pl) (sees_root : place_sees w key pl ≡ sees_from (reading w) (root_of w) key) (loaded : word ≡ slice_index w (next_word_of pl)) where
  answers : (a : Advance) → a ≡ outcome_of pl word key → Answers w g key (sees_from (reading w) (root_of w) key) a
  answers a e = subst (λ (x : Advance). Answers w g key (sees_from (reading w) (root_of w) key) x) (sym e)
      (subst (λ (x : ℕ). Answers w g key (sees_from (reading w) (root_of w) key) (outcome_of pl x key)) (sym loaded)
      (subst (λ (o : Option ℕ). Answers w g key o (outcome_of pl (slice_index w (next_word_of pl)) key)) sees_root (advances w g cells key pl ok.image place)))

  pub goes_on : (next : Place) → On next ≡ outcome_of pl word key → IsPlace w g key next × (place_sees w key next ≡ sees_from (reading w) (root_of w) key)
  goes_on next e = answers (On next) e

  first_cell : (n : ℕ) (put : Put) → slice_get g.puts n ≡ Some put → owner g put.cell ≡ Some (RecordCell n 0)
  first_cell n put e = let z : put.cell + 0 ≡ put.cell = omega arith in subst (λ (c : ℕ). owner g c ≡ Some (RecordCell n 0)) z (ok.puts.records n 0 put e (omega arith))

  pub ends_found : (rec : Rec) → Found rec ≡ outcome_of pl word key → HasLastPut g.puts key (Some rec)
  ends_found rec e = let a = answers (Found rec) e in let m = subst (MapsTo g.puts key) a.0 (ok.map key) in
      let here : owner g rec.cell ≡ Some (RecordCell a.1 0) = subst (λ (c : ℕ). owner g c ≡ Some (RecordCell a.1 0)) (sym a.4.cell) (first_cell a.1 a.2 a.4.is_there) in
      let there : owner g rec.cell ≡ Some (RecordCell m.0 0) = subst (λ (c : ℕ). owner g c ≡ Some (RecordCell m.0 0)) m.3 (first_cell m.0 m.1 m.2.is_there) in
      let both : Some (RecordCell a.1 0) ≡ Some (RecordCell m.0 0) = sym here ∙ there in let n_is : a.1 ≡ m.0 = cc in
      let put : slice_get g.puts m.0 ≡ Some a.2 = subst (λ (n : ℕ). slice_get g.puts n ≡ Some a.2) n_is a.4.is_there in
      let puts_are : Some a.2 ≡ Some m.1 = sym put ∙ m.2.is_there in let put_is : a.2 ≡ m.1 = cc in
      (m.0, m.1, m.2, subst (λ (n : ℕ). IsRecOf g.puts n m.1 rec) n_is (subst (λ (x : Put). IsRecOf g.puts a.1 x rec) put_is a.4))

  pub ends_absent : Absent ≡ outcome_of pl word key → HasLastPut g.puts key None
  ends_absent e = subst (MapsTo g.puts key) (answers Absent e) (ok.map key)
