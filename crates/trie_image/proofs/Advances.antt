-- What a place's own word leads to sees the same.
use Rattle.std.proofs.Common.{◌≡◌, ◌≢◌, ℕ, zero, suc, ◌+◌, ◌*◌, ◌/◌, ◌%◌, ◌^◌, ◌<◌, ◌≤◌, ◌==◌, nat_lt, nat_le, Bool, true, false, cond, List, [], ◌∷◌, ◌++◌, length, take, drop, get_or, slice_get, slice_index, Option, Some, None, refl, sym, ap, ◌∙◌, subst, ⊎_elim, arith, take-suc, take_all, drop-cons, add-one, eqb-true, eq-eqb, leb-false, lt-ltb}
use Rattle.std.proofs.lemmas.Bool.{eqb-false, ltb-false, cond-true, cond-false, ne_eqb, cases_eq}
use Rattle.cell_layout.specs.declared.Kind.{Kind}
use Rattle.cell_layout.specs.declared.Kind.TheVariants as kind
use Rattle.cell_layout.specs.Words.{half_of, ItemsAreBytes}
use Rattle.cell_layout.specs.Pointers.{kind_at, record_cell}
use Rattle.cell_layout.specs.Slots.{slot_at}
use Rattle.cell_layout.proofs.PointerKinds.{is_kind}
use Rattle.cell_layout.proofs.CellBytes.{byte_there}
use Rattle.trie_image.specs.declared.Role.{Role}
use Rattle.trie_image.specs.declared.Role.TheVariants.{Root, Chain, Order, Slot, Top, Mid, Leaf, Prefix, Head}
use Rattle.trie_image.specs.declared.Place.{Place}
use Rattle.trie_image.specs.declared.Put.{Put}
use Rattle.trie_image.specs.declared.Advance.{Advance}
use Rattle.trie_image.specs.declared.Advance.TheVariants.{On, Found, Absent}
use Rattle.trie_image.specs.declared.Owner.TheVariants.{RecordCell, SparseCell, TopCell, MidCell, LeafCell, PrefixCell}
use Rattle.trie_image.specs.declared.Ledger.{Ledger}
use Rattle.trie_image.specs.Reading.{sees, sees_from}
use Rattle.trie_image.specs.Image.{word_of, field, cell_byte, slot_child, leaf_child, mid_child, node_child, child_of, content_record, record_of, reading, root_of}
use Rattle.trie_image.specs.Paths.{owner, HasPath}
use Rattle.trie_image.specs.Cell.{IsSparseCell, IsTopCell, IsMidCell, IsLeafCell, IsPrefixCell, IsCell, IsImage}
use Rattle.trie_image.specs.Place.{place_at, node_place, follow_by, follow, content_place, prefix_step, advance_in_slots, inward, advance_in_node, step_of, outcome_of, IsPlaceAt, IsPlace, role_sees, place_sees, word_at, next_word_of}
use Rattle.trie_image.specs.Laws.{Answers}
use Rattle.trie_image.proofs.Owners.{content_of, sparse_of, split_node_of, prefix_of}
use Rattle.trie_image.proofs.Readings.{sees_none, sees_there}
use Rattle.trie_image.proofs.Children.{closed}
use Rattle.trie_image.proofs.Falls.{get_inside}

get_within : {A : Type 0} (l : List A) (i : ℕ) (x : A) → slice_get l i ≡ Some x → i < length l
get_within [] i x e = absurd (cc)
get_within (y ∷ ys) zero x e = omega arith
get_within (y ∷ ys) (suc i) x e = let h = get_within ys i x e in omega arith

-- the next byte of a key
get_is : (l : List ℕ) (i x : ℕ) → slice_get l i ≡ Some x → get_or l i 0 ≡ x
get_is [] i x e = absurd (cc)
get_is (y ∷ ys) zero x e = cc
get_is (y ∷ ys) (suc i) x e = get_is ys i x e

none_past : (l : List ℕ) (i : ℕ) → slice_get l i ≡ None → length l ≤ i
none_past [] i e = omega arith
none_past (y ∷ ys) zero e = absurd (cc)
none_past (y ∷ ys) (suc i) e = let h = none_past ys i e in omega arith

pub drop_next : (key : List ℕ) (i b : ℕ) → slice_get key i ≡ Some b → drop i key ≡ b ∷ drop (i + 1) key
drop_next key i b e = drop-cons key i 0 (get_inside key i b e) ∙ (ap (λ (x : ℕ). x ∷ drop (suc i) key) (get_is key i b e) ∙ ap (λ (n : ℕ). b ∷ drop n key) (sym (add-one i)))

pub take_next : (key : List ℕ) (i b : ℕ) → slice_get key i ≡ Some b → take (i + 1) key ≡ take i key ++ b ∷ []
take_next key i b e = ap (λ (n : ℕ). take n key) (add-one i) ∙ (take-suc key i 0 (get_inside key i b e) ∙ ap (λ (x : ℕ). take i key ++ x ∷ []) (get_is key i b e))

get_there : (l : List ℕ) (i : ℕ) → i < length l → (x : ℕ) × (slice_get l i ≡ Some x)
get_there [] i h = absurd (omega arith)
get_there (y ∷ ys) zero h = (y, refl)
get_there (y ∷ ys) (suc i) h = get_there ys i (omega arith)

drop_past : (key : List ℕ) (i : ℕ) → length key ≤ i → drop i key ≡ []
drop_past [] zero h = refl
drop_past [] (suc i) h = refl
drop_past (x ∷ xs) zero h = absurd (omega arith)
drop_past (x ∷ xs) (suc i) h = drop_past xs i (omega arith)

module _ (w : List ℕ) (g : Ledger) (key : List ℕ) (each : (c : ℕ) (o : _) → owner g c ≡ Some o → IsCell w g c o) (bytes : ItemsAreBytes key) (few : (n : ℕ) (put : Put) → slice_get g.puts n ≡ Some put → n + 1 < 2 ^ 32) where
  abbrev Goes : Option ℕ → Advance → Type 0
  Goes o a = Answers w g key o a

  goes_if : (o : Option ℕ) (b : Bool) (x y : Advance) → (b ≡ true → Goes o x) → (b ≡ false → Goes o y) → Goes o (cond b x y)
  goes_if o true x y f h = f refl
  goes_if o false x y f h = h refl

  goes_at : (o o' : Option ℕ) (a : Advance) → o ≡ o' → Goes o a → Goes o' a
  goes_at o o' a e h = subst (λ (x : Option ℕ). Goes x a) e h

  sees_end : (p : ℕ) (k : Option Kind) → kind_at p ≡ k → sees (reading w) p [] ≡ record_of w p k
  sees_end p k e = ap (λ (x : Option Kind). record_of w p x) e

  sees_on : (p b : ℕ) (rest : List ℕ) (k : Option Kind) → kind_at p ≡ k → sees (reading w) p (b ∷ rest) ≡ sees_from (reading w) (child_of w p b k) rest
  sees_on p b rest k e = ap (λ (x : Option Kind). sees_from (reading w) (child_of w p b x) rest) e

  sees_key_end : (p i : ℕ) (k : Option Kind) → kind_at p ≡ k → length key ≤ i → sees (reading w) p (drop i key) ≡ record_of w p k
  sees_key_end p i k e h = ap (λ (l : List ℕ). sees (reading w) p l) (drop_past key i h) ∙ sees_end p k e

  sees_key_on : (p i b : ℕ) (k : Option Kind) → kind_at p ≡ k → slice_get key i ≡ Some b → sees (reading w) p (drop i key) ≡ sees_from (reading w) (child_of w p b k) (drop (i + 1) key)
  sees_key_on p i b k e at = ap (λ (l : List ℕ). sees (reading w) p l) (drop_next key i b at) ∙ sees_on p b (drop (i + 1) key) k e

  place_ok : (role : Role) (p part taken : ℕ) → IsPlaceAt w g key p part taken role → IsPlace w g key (place_at role p part taken)
  place_ok role p part taken h = record { bytes = bytes; role = h }

  -- a node's place
  node_goes : (p taken : ℕ) (k : Option Kind) (o : Option ℕ) → kind_at p ≡ k → (k ≡ Some kind.Content → ⊥) → (k ≡ Some kind.Prefix → ⊥) → HasPath g p (take taken key) → slice_get key taken ≡ o → Goes (sees (reading w) p (drop taken key)) (node_place key p taken k o)
  node_goes p taken (Some kind.Chain) (Some b) e n m at is = (place_ok Chain p 0 taken (at, e, get_inside key taken b is), refl)
  node_goes p taken (Some kind.Sparse) (Some b) e n m at is = (place_ok Order p 0 taken (at, e, get_inside key taken b is), refl)
  node_goes p taken (Some kind.Wide) (Some b) e n m at is = (place_ok Top p b taken (at, e, is), refl)
  node_goes p taken (Some kind.Chain) None e n m at is = sees_key_end p taken (Some kind.Chain) e (none_past key taken is)
  node_goes p taken (Some kind.Sparse) None e n m at is = sees_key_end p taken (Some kind.Sparse) e (none_past key taken is)
  node_goes p taken (Some kind.Wide) None e n m at is = sees_key_end p taken (Some kind.Wide) e (none_past key taken is)
  node_goes p taken (Some kind.Nothing) None e n m at is = sees_key_end p taken (Some kind.Nothing) e (none_past key taken is)
  node_goes p taken (Some kind.Nothing) (Some b) e n m at is = sees_key_on p taken b (Some kind.Nothing) e is
  node_goes p taken None None e n m at is = sees_key_end p taken None e (none_past key taken is)
  node_goes p taken None (Some b) e n m at is = sees_key_on p taken b None e is
  node_goes p taken (Some kind.Content) o e n m at is = absurd (n refl)
  node_goes p taken (Some kind.Prefix) o e n m at is = absurd (m refl)

  node_follows : (p taken : ℕ) (k : Option Kind) → kind_at p ≡ k → (k ≡ Some kind.Content → ⊥) → (k ≡ Some kind.Prefix → ⊥) → HasPath g p (take taken key) → Goes (sees (reading w) p (drop taken key)) (node_place key p taken k (slice_get key taken))
  node_follows p taken k e n m at = node_goes p taken k (slice_get key taken) e n m at refl

  content_follows : (p taken : ℕ) → kind_at p ≡ Some kind.Content → taken ≤ length key → HasPath g p (take taken key) → Goes (sees (reading w) p (drop taken key)) (cond (taken == length key) (On (place_at Head p 0 taken)) Absent)
  content_follows p taken e le at = goes_if (sees (reading w) p (drop taken key)) (taken == length key) (On (place_at Head p 0 taken)) Absent
      (λ t. let same : taken ≡ length key = eqb-true taken (length key) t in (place_ok Head p 0 taken (subst (HasPath g p) (take_all taken key (omega arith)) at, e, same), refl))
      (λ t. let there = get_there key taken (let d = eqb-false taken (length key) t in omega (arith, d)) in sees_key_on p taken there.0 (Some kind.Content) e there.1)

  -- a pointer that was loaded
  follow_there : (p taken : ℕ) (k : Option Kind) → kind_at p ≡ k → taken ≤ length key → HasPath g p (take taken key) → Goes (sees (reading w) p (drop taken key)) (follow_by key p taken k)
  follow_there p taken (Some kind.Content) e le at = content_follows p taken e le at
  follow_there p taken (Some kind.Prefix) e le at = goes_if (sees (reading w) p (drop taken key)) (nat_le taken (length key)) (On (place_at Prefix p 0 taken)) Absent (λ t. (place_ok Prefix p 0 taken (at, e, le), refl)) (λ t. absurd (let d = leb-false taken (length key) t in omega (arith, d)))
  follow_there p taken (Some kind.Chain) e le at = node_follows p taken (Some kind.Chain) e (λ x. cc) (λ x. cc) at
  follow_there p taken (Some kind.Sparse) e le at = node_follows p taken (Some kind.Sparse) e (λ x. cc) (λ x. cc) at
  follow_there p taken (Some kind.Wide) e le at = node_follows p taken (Some kind.Wide) e (λ x. cc) (λ x. cc) at
  follow_there p taken (Some kind.Nothing) e le at = node_follows p taken (Some kind.Nothing) e (λ x. cc) (λ x. cc) at
  follow_there p taken None e le at = node_follows p taken None e (λ x. cc) (λ x. cc) at

  nothing_at : (taken : ℕ) (o : Option ℕ) → node_place key 0 taken (Some kind.Nothing) o ≡ Absent
  nothing_at taken (Some b) = refl
  nothing_at taken None = refl

  follow_goes : (p taken : ℕ) → taken ≤ length key → (p ≢ 0 → HasPath g p (take taken key)) → Goes (sees_from (reading w) p (drop taken key)) (follow key p taken)
  follow_goes p taken le at = ⊎_elim
      (λ (z : p ≡ 0). let none : follow key 0 taken ≡ Absent = nothing_at taken (slice_get key taken) in subst (λ (x : ℕ). Goes (sees_from (reading w) x (drop taken key)) (follow key x taken)) (sym z) (subst (λ (a : Advance). Goes None a) (sym none) refl))
      (λ (ne : p ≢ 0). goes_at (sees (reading w) p (drop taken key)) (sees_from (reading w) p (drop taken key)) (follow key p taken) (sym (sees_there (reading w) p (drop taken key) ne)) (follow_there p taken (kind_at p) refl le (at ne)))
      (cases_eq p 0)

  -- the child of a pointer with a path
  child_goes : (p c taken b : ℕ) (k : Option Kind) → kind_at p ≡ k → c ≡ child_of w p b k → slice_get key taken ≡ Some b → HasPath g p (take taken key) → Goes (sees (reading w) p (drop taken key)) (follow key c (taken + 1))
  child_goes p c taken b k e is next at =
      let inside : taken < length key = get_inside key taken b next in
      let child : c ≡ child_of w p b (kind_at p) = is ∙ ap (λ (x : Option Kind). child_of w p b x) (sym e) in
      goes_at (sees_from (reading w) c (drop (taken + 1) key)) (sees (reading w) p (drop taken key)) (follow key c (taken + 1)) (ap (λ (x : ℕ). sees_from (reading w) x (drop (taken + 1) key)) is ∙ sym (sees_key_on p taken b k e next))
      (follow_goes c (taken + 1) (omega arith) (λ ne. subst (HasPath g c) (sym (take_next key taken b next)) (subst (λ (x : ℕ). HasPath g x (take taken key ++ b ∷ [])) (sym child) (closed w g each p (take taken key) b at (λ z. ne (child ∙ z))))))

  chain_goes : (p taken b : ℕ) → kind_at p ≡ Some kind.Chain → HasPath g p (take taken key) → slice_get key taken ≡ Some b → Goes (sees (reading w) p (drop taken key)) (advance_in_node key p 0 taken (word_of w (p / 32) (p % 32 / 8)) Chain (Some b))
  chain_goes p taken b e at next = let o : Option ℕ = sees (reading w) p (drop taken key) in
      goes_if o (cell_byte w (p / 32) (p % 32) == b) (cond (p % 32 == 27) (follow key (half_of (word_of w (p / 32) (p % 32 / 8)) true) (taken + 1)) (cond (nat_lt (p % 32) 27) (follow key (p + 1) (taken + 1)) Absent)) Absent
      (λ same. goes_if o (p % 32 == 27) (follow key (half_of (word_of w (p / 32) (p % 32 / 8)) true) (taken + 1)) (cond (nat_lt (p % 32) 27) (follow key (p + 1) (taken + 1)) Absent)
      (λ end. let at_end : p % 32 ≡ 27 = eqb-true (p % 32) 27 end in let third : p % 32 / 8 ≡ 3 = omega arith in
      subst (λ (i : ℕ). Goes o (follow key (half_of (word_of w (p / 32) i) true) (taken + 1))) (sym third) (child_goes p (field w (p / 32) 7) taken b (Some kind.Chain) e (sym (cond-true (cell_byte w (p / 32) (p % 32) == b) (cond (p % 32 == 27) (field w (p / 32) 7) (p + 1)) 0 same ∙ cond-true (p % 32 == 27) (field w (p / 32) 7) (p + 1) end)) next at))
      (λ end. goes_if o (nat_lt (p % 32) 27) (follow key (p + 1) (taken + 1)) Absent
      (λ lt. child_goes p (p + 1) taken b (Some kind.Chain) e (sym (cond-true (cell_byte w (p / 32) (p % 32) == b) (cond (p % 32 == 27) (field w (p / 32) 7) (p + 1)) 0 same ∙ cond-false (p % 32 == 27) (field w (p / 32) 7) (p + 1) end)) next at)
      (λ ge. absurd (let offset : (p ≢ 0) × (p < 2 ^ 31) × (p % 32 ≤ 27) = is_kind p (Some kind.Chain) e in let d = eqb-false (p % 32) 27 end in let l = ltb-false (p % 32) 27 ge in omega (arith, d, l)))))
      (λ other. sees_key_on p taken b (Some kind.Chain) e next ∙ ap (λ (x : ℕ). sees_from (reading w) x (drop (taken + 1) key)) (cond-false (cell_byte w (p / 32) (p % 32) == b) (cond (p % 32 == 27) (field w (p / 32) 7) (p + 1)) 0 other))

  slot_goes : (p taken b : ℕ) (o : Option ℕ) → kind_at p ≡ Some kind.Sparse → HasPath g p (take taken key) → slice_get key taken ≡ Some b → slot_at (word_of w (p / 32) 3) b ≡ o → Goes (sees_from (reading w) (slot_child w (p / 32) o) (drop (taken + 1) key)) (advance_in_slots p taken o)
  slot_goes p taken b None e at next is = refl
  slot_goes p taken b (Some s) e at next is = (place_ok Slot p s taken (b, at, e, next, is), refl)

  inward_goes : (role : Role) (o : Option ℕ) (p part taken : ℕ) → (p ≡ 0 → o ≡ None) → (p ≢ 0 → IsPlaceAt w g key p part taken role × (role_sees w key p part taken role ≡ o)) → Goes o (inward role p part taken)
  inward_goes role o p part taken none there = goes_if o (p == 0) Absent (On (place_at role p part taken)) (λ t. none (eqb-true p 0 t)) (λ t. let h = there (eqb-false p 0 t) in (place_ok role p part taken h.0, h.1))

  leaf_some : (l b : ℕ) → l ≢ 0 → leaf_child w l b ≡ field w (l / 32) (b % 8)
  leaf_some l b ne = cond-false (l == 0) 0 (field w (l / 32) (b % 8)) (ne_eqb l 0 ne)

  leaf_none : (l b : ℕ) → l ≡ 0 → leaf_child w l b ≡ 0
  leaf_none l b e = cond-true (l == 0) 0 (field w (l / 32) (b % 8)) (eq-eqb l 0 e)

  mid_some : (m b : ℕ) → m ≢ 0 → mid_child w m b ≡ leaf_child w (field w (m / 32) (b / 8 % 8)) b
  mid_some m b ne = cond-false (m == 0) 0 (leaf_child w (field w (m / 32) (b / 8 % 8)) b) (ne_eqb m 0 ne)

  mid_none : (m b : ℕ) → m ≡ 0 → mid_child w m b ≡ 0
  mid_none m b e = cond-true (m == 0) 0 (leaf_child w (field w (m / 32) (b / 8 % 8)) b) (eq-eqb m 0 e)

  none_from : (c i : ℕ) → c ≡ 0 → sees_from (reading w) c (drop i key) ≡ None
  none_from c i e = sees_none (reading w) c (drop i key) e

  -- the node under a prefix has the prefix's children
  under : (p n taken b : ℕ) → kind_at p ≡ Some kind.Prefix → n ≡ field w (p / 32) 1 → slice_get key taken ≡ Some b → HasPath g n (take taken key) → (k : Option Kind) → node_child w n b k ≡ child_of w n b k → (k ≡ Some kind.Content → ⊥) → (k ≡ Some kind.Prefix → ⊥) → kind_at n ≡ k
      → Goes (sees (reading w) p (drop taken key)) (node_place key n taken (kind_at n) (slice_get key taken))
  under p n taken b e is next at k same a c f = goes_at (sees (reading w) n (drop taken key)) (sees (reading w) p (drop taken key)) (node_place key n taken (kind_at n) (slice_get key taken))
      (sees_key_on n taken b k f next ∙ (ap (λ (x : ℕ). sees_from (reading w) x (drop (taken + 1) key)) (sym same ∙ (ap (λ (x : Option Kind). node_child w n b x) (sym f) ∙ ap (λ (x : ℕ). node_child w x b (kind_at x)) is)) ∙ sym (sees_key_on p taken b (Some kind.Prefix) e next)))
      (subst (λ (x : Option Kind). Goes (sees (reading w) n (drop taken key)) (node_place key n taken x (slice_get key taken))) (sym f) (node_follows n taken k f a c at))

  top_goes : (p taken b : ℕ) → kind_at p ≡ Some kind.Wide → HasPath g p (take taken key) → slice_get key taken ≡ Some b → Goes (sees (reading w) p (drop taken key)) (inward Mid (field w (p / 32) (b / 64)) b taken)
  top_goes p taken b e at next = let m : ℕ = field w (p / 32) (b / 64) in let small : b < 256 = byte_there key taken b bytes next in
      let ok : IsTopCell w g (p / 32) (take taken key) = each (p / 32) (TopCell (take taken key)) (split_node_of g p (take taken key) at e) in
      let child : child_of w p b (Some kind.Wide) ≡ mid_child w m b = cond-true (nat_lt b 256) (mid_child w m b) 0 (lt-ltb b 256 small) in
      let before : sees (reading w) p (drop taken key) ≡ sees_from (reading w) (mid_child w m b) (drop (taken + 1) key) = sees_key_on p taken b (Some kind.Wide) e next ∙ ap (λ (x : ℕ). sees_from (reading w) x (drop (taken + 1) key)) child in
      inward_goes Mid (sees (reading w) p (drop taken key)) m b taken
      (λ z. before ∙ none_from (mid_child w m b) (taken + 1) (mid_none m b z))
      (λ ne. ((p / 32, ok.mids (b / 64) (omega arith) ne, split_node_of g p (take taken key) at e, next), ap (λ (x : ℕ). sees_from (reading w) x (drop (taken + 1) key)) (sym (mid_some m b ne)) ∙ sym before))

  mid_goes : (m taken b : ℕ) → IsPlaceAt w g key m b taken Mid → Goes (role_sees w key m b taken Mid) (inward Leaf (field w (m / 32) (b / 8 % 8)) b taken)
  mid_goes m taken b (t, o, top, next) = let l : ℕ = field w (m / 32) (b / 8 % 8) in
      let ok : IsMidCell w g (m / 32) t (b / 64) = each (m / 32) (MidCell t (b / 64)) o in
      inward_goes Leaf (role_sees w key m b taken Mid) l b taken
      (λ z. none_from (leaf_child w l b) (taken + 1) (leaf_none l b z))
      (λ ne. ((t, ok.leaves (b / 8 % 8) (omega arith) ne, top, next), ap (λ (x : ℕ). sees_from (reading w) x (drop (taken + 1) key)) (sym (leaf_some l b ne))))

  leaf_goes : (l taken b : ℕ) → IsPlaceAt w g key l b taken Leaf → Goes (role_sees w key l b taken Leaf) (follow key (field w (l / 32) (b % 8)) (taken + 1))
  leaf_goes l taken b (t, o, top, next) = let small : b < 256 = byte_there key taken b bytes next in let inside : taken < length key = get_inside key taken b next in
      let ok : IsLeafCell w g (l / 32) t (b / 64) (b / 8 % 8) = each (l / 32) (LeafCell t (b / 64) (b / 8 % 8)) o in
      let same : 64 * (b / 64) + 8 * (b / 8 % 8) + b % 8 ≡ b = omega arith in
      follow_goes (field w (l / 32) (b % 8)) (taken + 1) (omega arith) (λ ne. subst (HasPath g (field w (l / 32) (b % 8))) (ap (λ (x : ℕ). take taken key ++ x ∷ []) same ∙ sym (take_next key taken b next)) (ok.children (b % 8) (take taken key) (omega arith) ne top))

  prefix_goes : (p taken : ℕ) → IsPlaceAt w g key p 0 taken Prefix → Goes (sees (reading w) p (drop taken key)) (prefix_step key (word_of w (p / 32) 0) taken)
  prefix_goes p taken (at, e, le) = let o : Option ℕ = sees (reading w) p (drop taken key) in let c : ℕ = field w (p / 32) 0 in let n : ℕ = field w (p / 32) 1 in
      let ok : IsPrefixCell w g (p / 32) (take taken key) = each (p / 32) (PrefixCell (take taken key)) (prefix_of g p (take taken key) at e) in
      goes_if o (taken == length key) (content_place c taken (kind_at c)) (node_place key n taken (kind_at n) (slice_get key taken))
      (λ t. let same : taken ≡ length key = eqb-true taken (length key) t in
      subst (λ (k : Option Kind). Goes o (content_place c taken k)) (sym ok.is_content) (
        place_ok Head c 0 taken (subst (HasPath g c) (take_all taken key (omega arith)) ok.content, ok.is_content, same),
        sees_key_end c taken (Some kind.Content) ok.is_content (omega arith) ∙ sym (sees_key_end p taken (Some kind.Prefix) e (omega arith) ∙ ap (λ (k : Option Kind). content_record c k) ok.is_content),
      ))
      (λ t. let there = get_there key taken (let d = eqb-false taken (length key) t in omega (arith, d)) in
      ⊎_elim (under p n taken there.0 e refl there.1 ok.node (Some kind.Chain) refl (λ x. cc) (λ x. cc)) (λ h. ⊎_elim (under p n taken there.0 e refl there.1 ok.node (Some kind.Sparse) refl (λ x. cc) (λ x. cc)) (under p n taken there.0 e refl there.1 ok.node (Some kind.Wide) refl (λ x. cc) (λ x. cc)) h) ok.is_node)

  head_goes : (p taken : ℕ) → IsPlaceAt w g key p 0 taken Head → Goes (sees (reading w) p (drop taken key)) (Found record { cell = record_cell p; number = half_of (word_of w (record_cell p) 0) false; length = half_of (word_of w (record_cell p) 0) true })
  head_goes p taken (at, e, le) = let i = content_of g p key at e in let ok = each (record_cell p) (RecordCell i.0 0) i.2 in
      let one : Some ok.0 ≡ Some i.1 = sym ok.1 ∙ i.3 in let same : ok.0 ≡ i.1 = cc in let word : word_of w (record_cell p) 0 ≡ length ok.0.value * 2 ^ 32 + (i.0 + 1) = ok.2.words 0 (omega arith) in let small : i.0 + 1 < 2 ^ 32 = few i.0 i.1 i.3 in
      let value : length ok.0.value ≡ length i.1.value = ap (λ (x : Put). length x.value) same in let cell : ok.0.cell ≡ i.1.cell = ap (λ (x : Put). x.cell) same in
      (sees_key_end p taken (Some kind.Content) e (omega arith), i.0, i.1, sym i.4, record { is_there = i.3; cell = omega (arith, ok.2.place, cell); number = omega (arith, word, small); len = omega (arith, word, small, value) })

  by_byte : (o : Option ℕ) (p part taken word b : ℕ) (role : Role) → slice_get key taken ≡ Some b → Goes o (advance_in_node key p part taken word role (Some b)) → Goes o (advance_in_node key p part taken word role (slice_get key taken))
  by_byte o p part taken word b role e h = subst (λ (x : Option ℕ). Goes o (advance_in_node key p part taken word role x)) (sym e) h

  steps : (p part taken : ℕ) (role : Role) → (root_of w ≢ 0 → HasPath g (root_of w) []) → IsPlaceAt w g key p part taken role → Goes (role_sees w key p part taken role) (step_of key p part taken (slice_index w (word_at role p part)) role)
  steps p part taken Root root ok = follow_goes (root_of w) 0 (omega arith) root
  steps p part taken Prefix root ok = prefix_goes p taken ok
  steps p part taken Head root ok = head_goes p taken ok
  steps p part taken Chain root (at, e, lt) = let there = get_there key taken lt in by_byte (role_sees w key p part taken Chain) p part taken (slice_index w (word_at Chain p part)) there.0 Chain there.1 (chain_goes p taken there.0 e at there.1)
  steps p part taken Order root (at, e, lt) = let there = get_there key taken lt in let b : ℕ = there.0 in by_byte (role_sees w key p part taken Order) p part taken (slice_index w (word_at Order p part)) b Order there.1
      (goes_at (sees_from (reading w) (slot_child w (p / 32) (slot_at (word_of w (p / 32) 3) b)) (drop (taken + 1) key)) (sees (reading w) p (drop taken key)) (advance_in_slots p taken (slot_at (word_of w (p / 32) 3) b)) (sym (sees_key_on p taken b (Some kind.Sparse) e there.1)) (slot_goes p taken b (slot_at (word_of w (p / 32) 3) b) e at there.1 refl))
  steps p part taken Slot root (b, at, e, next, slot) = let inside : taken < length key = get_inside key taken b next in let ok : IsSparseCell w g (p / 32) (take taken key) = each (p / 32) (SparseCell (take taken key)) (sparse_of g p (take taken key) at e) in
      by_byte (role_sees w key p part taken Slot) p part taken (slice_index w (word_at Slot p part)) b Slot next (follow_goes (field w (p / 32) part) (taken + 1) (omega arith) (λ ne. subst (HasPath g (field w (p / 32) part)) (sym (take_next key taken b next)) (ok.children b part slot)))
  steps p part taken Top root (at, e, next) = by_byte (role_sees w key p part taken Top) p part taken (slice_index w (word_at Top p part)) part Top next (top_goes p taken part e at next)
  steps p part taken Mid root (t, o, top, next) = by_byte (role_sees w key p part taken Mid) p part taken (slice_index w (word_at Mid p part)) part Mid next (mid_goes p taken part (t, o, top, next))
  steps p part taken Leaf root (t, o, top, next) = by_byte (role_sees w key p part taken Leaf) p part taken (slice_index w (word_at Leaf p part)) part Leaf next (leaf_goes p taken part (t, o, top, next))

pub advances : (w : List ℕ) (g : Ledger) (cells : ℕ) (key : List ℕ) (pl : Place) → IsImage w g cells → IsPlace w g key pl → Answers w g key (place_sees w key pl) (outcome_of pl (slice_index w (next_word_of pl)) key)
unfolding outcome_of
advances w g cells key pl ok place = steps w g key ok.each place.bytes (λ n put e. let l = get_within g.puts n put e in omega (arith, ok.fewer, ok.capacity, ok.small)) pl.ptr pl.part pl.taken pl.role ok.root place.role
