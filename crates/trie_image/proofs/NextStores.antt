-- Each store of a put, in its turn.
use Rattle.std.proofs.Common.{◌≡◌, ◌⊎◌, ℕ, ◌+◌, ◌*◌, ◌<◌, ◌≤◌, List, [], ◌∷◌, ◌++◌, length, take, set, slice_index, refl, sym, ap, ◌∙◌, subst, inl, inr, ⊎_elim, arith, append_assoc, append-nil, length-append, get_or-set_other}
use Rattle.cell_layout.specs.Slots.{slot_at}
use Rattle.trie_image.specs.declared.Owner.{Owner}
use Rattle.trie_image.specs.declared.Owner.TheVariants.{HeadCell, RecordCell, ChainCell, SparseCell, TopCell, MidCell, LeafCell, PrefixCell}
use Rattle.trie_image.specs.declared.Put.{Put}
use Rattle.trie_image.specs.declared.Ledger.{Ledger}
use Rattle.trie_image.specs.declared.StoreKind.{StoreKind}
use Rattle.trie_image.specs.declared.StoreKind.TheVariants.{Prepare, Publish, Finish}
use Rattle.trie_image.specs.declared.WordStore.{WordStore}
use Rattle.trie_image.specs.Reading.{sees}
use Rattle.trie_image.specs.Image.{reading}
use Rattle.trie_image.specs.WellFormed.{IsWellFormed}
use Rattle.trie_image.specs.Same.{SameCell, IsSame}
use Rattle.trie_image.specs.Place.{place_sees}
use Rattle.trie_image.specs.Stores.{store_at, prepares, stores_of, CanPut}
use Rattle.trie_image.specs.Laws.{ArePrepares}
use Rattle.trie_image.specs.After.{after}
use Rattle.trie_image.specs.Publish.{put_at, IsPublished}
use Rattle.trie_image.proofs.PutBy.{AreInside, IsPutBy}
use Rattle.trie_image.specs.NextStore.{finish_of, GoesOn, Does, IsNextStore, LawNextStore}
use Rattle.trie_image.proofs.WellFormedLemmas.{keeps_well_formed}
use Rattle.trie_image.proofs.Stored.{after_append, length-after}
use Rattle.trie_image.proofs.Prepared.{same_trans}
use Rattle.trie_image.proofs.OwnerLengths.{length_prepares}
use Rattle.trie_image.proofs.PutLaw.{put_law}

-- images that no pointer with a path tells apart, the other way round
cell_sym : (w v : List ℕ) (c : ℕ) (o : Owner) → SameCell w v c o → SameCell v w c o
cell_sym w v c HeadCell a = sym a
cell_sym w v c (RecordCell n j) a = λ i l. sym (a i l)
cell_sym w v c (ChainCell from t) a = λ i l. sym (a i l)
cell_sym w v c (SparseCell q) a = (sym a.0, λ b s e. sym (a.1 b s (ap (λ (y : ℕ). slot_at y b) (sym a.0) ∙ e)))
cell_sym w v c (TopCell q) a = λ i l. sym (a i l)
cell_sym w v c (MidCell t i) a = λ k l. sym (a k l)
cell_sym w v c (LeafCell t i j) a = λ k l. sym (a k l)
cell_sym w v c (PrefixCell q) a = λ i l. sym (a i l)

pub same_sym : (w v : List ℕ) (g : Ledger) → IsSame w v g → IsSame v w g
same_sym w v g a = record { size = sym a.size; cells = λ c o e. cell_sym w v c o (a.cells c o e) }

-- a put that is published against one image is published against each image that no pointer tells apart from it
pub published_from : (w v w' : List ℕ) (g : Ledger) (cells : ℕ) (own : List Owner) (put : Put) → IsWellFormed w g cells → IsSame w v g → IsPublished w w' g cells own put → IsPublished v w' g cells own put
published_from w v w' g cells own put ok same done =
    let there = keeps_well_formed w v g cells ok same in let back = keeps_well_formed v w g cells there.0 (same_sym w v g same) in record {
      well_formed = done.well_formed;
      pointers = λ k a q at. ⊎_elim (λ (e : sees (reading w') a k ≡ sees (reading w) a k). inl (e ∙ back.1 k a q at)) (λ t. inr t) (done.pointers k a q at);
      places = λ k pl at. let b = back.2 k pl at in let p = done.places k pl b.0 in (p.0, ⊎_elim (λ (e : place_sees w' k pl ≡ place_sees w k pl). inl (e ∙ b.1)) (λ t. inr t) p.1);
    }

-- the first stores of a list
take_part : (a b : List WordStore) → take (length a) (a ++ b) ≡ a
take_part [] b = refl
take_part (x ∷ a) b = ap (λ (l : List WordStore). x ∷ l) (take_part a b)

-- where a store stands among some stores, the publishing one and the Finish
splits : (front done left : List WordStore) (s p f : WordStore) → front ++ p ∷ f ∷ [] ≡ done ++ s ∷ left
    → ((rest : List WordStore) × (front ≡ done ++ s ∷ rest) × (left ≡ rest ++ p ∷ f ∷ [])) ⊎ (((done ≡ front) × (s ≡ p) × (left ≡ f ∷ [])) ⊎ ((done ≡ front ++ p ∷ []) × (s ≡ f) × (left ≡ [])))
splits [] [] left s p f e = inr (inl (refl, cc, cc))
splits [] (x ∷ []) left s p f e = let first : p ≡ x = cc in inr (inr (ap (λ (y : WordStore). y ∷ []) (sym first), cc, cc))
splits [] (x ∷ y ∷ []) left s p f e = absurd (cc)
splits [] (x ∷ y ∷ z ∷ done) left s p f e = absurd (cc)
splits (a ∷ front) [] left s p f e = let first : a ≡ s = cc in let others : front ++ p ∷ f ∷ [] ≡ left = cc in inl (front, ap (λ (y : WordStore). y ∷ front) first, sym others)
splits (a ∷ front) (x ∷ done) left s p f e = let first : a ≡ x = cc in let others : front ++ p ∷ f ∷ [] ≡ done ++ s ∷ left = cc in ⊎_elim
    (λ (t : (rest : List WordStore) × (front ≡ done ++ s ∷ rest) × (left ≡ rest ++ p ∷ f ∷ [])). inl (t.0, both a x first front (done ++ s ∷ t.0) t.1, t.2))
    (λ (t : ((done ≡ front) × (s ≡ p) × (left ≡ f ∷ [])) ⊎ ((done ≡ front ++ p ∷ []) × (s ≡ f) × (left ≡ []))). inr (⊎_elim
    (λ (u : (done ≡ front) × (s ≡ p) × (left ≡ f ∷ [])). inl (both x a (sym first) done front u.0, u.1, u.2))
    (λ (u : (done ≡ front ++ p ∷ []) × (s ≡ f) × (left ≡ [])). inr (both x a (sym first) done (front ++ p ∷ []) u.0, u.1, u.2)) t)) (splits front done left s p f others)
  where
    both : (b c : WordStore) → b ≡ c → (k l : List WordStore) → k ≡ l → b ∷ k ≡ c ∷ l
    both b c e k l h = cc

-- a store among Prepare stores is one, and each store is inside
is_prepare : (done rest : List WordStore) (s : WordStore) → ArePrepares (done ++ s ∷ rest) → (s.kind ≡ Prepare) × ArePrepares rest
is_prepare [] rest s h = h
is_prepare (x ∷ done) rest s h = is_prepare done rest s h.1

is_inside : (n : ℕ) (done rest : List WordStore) (s : WordStore) → AreInside n (done ++ s ∷ rest) → (1 ≤ s.word) × (s.word < n)
is_inside n [] rest s h = (h.0, h.1)
is_inside n (x ∷ done) rest s h = is_inside n done rest s h.2

-- word 0 stays
word_stays : (w : List ℕ) (n : ℕ) (stores : List WordStore) → AreInside n stores → slice_index (after w stores) 0 ≡ slice_index w 0
word_stays w n [] h = refl
word_stays w n (s ∷ stores) h = let first : 1 ≤ s.word = h.0 in word_stays (set w s.word s.value) n stores h.2 ∙ get_or-set_other w s.word 0 s.value 0 (λ z. omega arith)

-- what comes after Prepare stores isn't the Finish
goes_on : (rest : List WordStore) (p f : WordStore) → ArePrepares rest → p.kind ≡ Publish → GoesOn (rest ++ p ∷ f ∷ [])
goes_on [] p f h is = λ e. let z : Publish ≡ Finish = sym is ∙ e in cc
goes_on (x ∷ rest) p f h is = λ e. let z : Prepare ≡ Finish = sym h.0 ∙ e in cc

module _ (w : List ℕ) (used : ℕ) (key value : List ℕ) (can : CanPut w used key value) (by : IsPutBy w can.ledger can.cells (put_at key value used) (stores_of w used key value)) where
  abbrev finish : WordStore
  finish = store_at 0 (slice_index w 0 + 1) Finish

  abbrev Done : List WordStore → WordStore → List WordStore → StoreKind → Type 0
  Done done s left kind = Does (after w done) (after w (done ++ s ∷ [])) can.ledger can.cells by.own (put_at key value used) done s left kind

  finish_is : finish ≡ finish_of can.ledger
  finish_is = let number = can.number in ap (λ (n : ℕ). store_at 0 (n + 1) Finish) number

  -- the words after some of the stores before the publishing one
  before : (done rest : List WordStore) → by.front ≡ done ++ rest → IsSame w (after w done) can.ledger
  before done rest e = subst (λ (l : List WordStore). IsSame w (after w l) can.ledger) (ap (λ (l : List WordStore). take (length done) l) e ∙ take_part done rest) (by.before (length done))

  -- a Prepare store
  at_prepare : (done rest left : List WordStore) (s : WordStore) → by.front ≡ done ++ s ∷ rest → left ≡ rest ++ by.publish ∷ finish ∷ [] → (1 ≤ s.word) × (s.word < length w) → Done done s left s.kind
  at_prepare done rest left s e l inside = let is = is_prepare done rest s (subst ArePrepares e by.prepared) in subst (Done done s left) (sym is.0) record {
    same = same_trans (after w done) w (after w (done ++ s ∷ [])) can.ledger (same_sym w (after w done) can.ledger (before done (s ∷ rest) e)) (before (done ++ s ∷ []) rest (e ∙ sym (append_assoc done (s ∷ []) rest)));
    beside = λ z. omega arith;
    goes_on = subst GoesOn (sym l) (goes_on rest by.publish finish is.1 by.is_publish);
  }

  -- the publishing store
  at_publish : (1 ≤ by.publish.word) × (by.publish.word < length w) → Done by.front by.publish (finish ∷ []) by.publish.kind
  at_publish inside = subst (Done by.front by.publish (finish ∷ [])) (sym by.is_publish) record {
    published = published_from w (after w by.front) (after w (by.front ++ by.publish ∷ [])) can.ledger can.cells by.own (put_at key value used) can.image (before by.front [] (sym (append-nil by.front))) by.published;
    beside = λ z. omega arith;
    taken = omega (arith, ap (λ (l : List WordStore). length l) by.new_cells, length-append (prepares (4 * length can.ledger.owners) by.words) by.slot, length_prepares (4 * length can.ledger.owners) by.words, by.exact, by.at_most_one);
    finish = ap (λ (f : WordStore). f ∷ []) finish_is;
  }

  -- the Finish
  at_finish : Done (by.front ++ by.publish ∷ []) finish [] Finish
  at_finish = let all : (by.front ++ by.publish ∷ []) ++ finish ∷ [] ≡ stores_of w used key value = append_assoc by.front (by.publish ∷ []) (finish ∷ []) ∙ sym by.all in
      subst (λ (l : List WordStore). Does (after w (by.front ++ by.publish ∷ [])) (after w l) can.ledger can.cells by.own (put_at key value used) (by.front ++ by.publish ∷ []) finish [] Finish) (sym all) record {
        same = by.counting;
        is_finish = finish_is;
        counted = by.counted ∙ ap (λ (n : ℕ). n + 1) (sym (word_stays w (length w) (by.front ++ by.publish ∷ []) by.inside));
        last = refl;
      }

  next : (done left : List WordStore) (s : WordStore) → stores_of w used key value ≡ done ++ s ∷ left → (s.word < length w) × Done done s left s.kind
  next done left s e = ⊎_elim
      (λ (t : (rest : List WordStore) × (by.front ≡ done ++ s ∷ rest) × (left ≡ rest ++ by.publish ∷ finish ∷ [])).
      let i = is_inside (length w) done (t.0 ++ by.publish ∷ []) s (subst (AreInside (length w)) (ap (λ (l : List WordStore). l ++ by.publish ∷ []) t.1 ∙ append_assoc done (s ∷ t.0) (by.publish ∷ [])) by.inside) in
      (i.1, at_prepare done t.0 left s t.1 t.2 i))
      (λ (t : ((done ≡ by.front) × (s ≡ by.publish) × (left ≡ finish ∷ [])) ⊎ ((done ≡ by.front ++ by.publish ∷ []) × (s ≡ finish) × (left ≡ []))). ⊎_elim
      (λ (u : (done ≡ by.front) × (s ≡ by.publish) × (left ≡ finish ∷ [])). let i = is_inside (length w) by.front [] by.publish by.inside in
      subst (λ (d : List WordStore). (s.word < length w) × Done d s left s.kind) (sym u.0) (subst (λ (x : WordStore). (x.word < length w) × Done by.front x left x.kind) (sym u.1)
      (subst (λ (l : List WordStore). (by.publish.word < length w) × Done by.front by.publish l by.publish.kind) (sym u.2) (i.1, at_publish i))))
      (λ (u : (done ≡ by.front ++ by.publish ∷ []) × (s ≡ finish) × (left ≡ [])). let i = is_inside (length w) by.front [] by.publish by.inside in
      subst (λ (d : List WordStore). (s.word < length w) × Done d s left s.kind) (sym u.0) (subst (λ (x : WordStore). (x.word < length w) × Done (by.front ++ by.publish ∷ []) x left x.kind) (sym u.1)
      (subst (λ (l : List WordStore). (0 < length w) × Done (by.front ++ by.publish ∷ []) finish l Finish) (sym u.2) (omega arith, at_finish)))) t)
      (splits by.front done left s by.publish finish (sym by.all ∙ e))

  pub next_store : (done left : List WordStore) (s : WordStore) → stores_of w used key value ≡ done ++ s ∷ left → IsNextStore w can.ledger can.cells by.own (put_at key value used) done s left
  next_store done left s e = let n = next done left s e in record { words = after_append w done (s ∷ []); size = length-after w done; inside = n.0; does = n.1 }

pub next_stores : LawNextStore
next_stores w used key value can = let by = put_law w used key value can in (by.own, next_store w used key value can by)
