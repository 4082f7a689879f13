-- What a store into one field of a cell leaves, and that the last pointer on the walk leads to the new pointer.
use Rattle.std.proofs.Common.{◌≡◌, ◌≢◌, ℕ, ◌+◌, ◌*◌, ◌/◌, ◌%◌, ◌^◌, ◌<◌, ◌≤◌, ◌==◌, nat_lt, cond, List, length, Option, Some, sym, ap, ap₂, ◌∙◌, subst, inl, inr, ⊎_elim, arith, eq-eqb, ne_eqb, lt-ltb}
use Rattle.std.proofs.lemmas.Bool.{cases_eq, cond-true, cond-false}
use Rattle.cell_layout.specs.declared.Kind.{Kind}
use Rattle.cell_layout.specs.Words.{half_of, with_half_of, byte_of}
use Rattle.cell_layout.specs.Pointers.{kind_at}
use Rattle.cell_layout.specs.Slots.{slot_at}
use Rattle.cell_layout.proofs.Halves.{other_half, this_half, low_byte}
use Rattle.cell_layout.proofs.Added.{slot_small}
use Rattle.trie_image.specs.declared.Owner.{Owner}
use Rattle.trie_image.specs.declared.Owner.TheVariants.{HeadCell, ChainCell, SparseCell, TopCell, MidCell, LeafCell, PrefixCell}
use Rattle.trie_image.specs.declared.Ledger.{Ledger}
use Rattle.trie_image.specs.Image.{word_of, field, cell_byte, slot_child, leaf_child, mid_child, split_child, node_child, child_of, content_record, record_of, root_of}
use Rattle.trie_image.specs.Paths.{owner, HasPath}
use Rattle.trie_image.specs.Same.{SameWords}
use Rattle.trie_image.proofs.Owners.{prefix_of}
use Rattle.trie_image.proofs.Kept.{half_apart, own_inside, same_field}
use Rattle.trie_image.proofs.Homes.{Over, itself, by_prefix, Reaches, IsTail, IsSlot, IsMidUnder, IsSplitAt, IsLeafSlot, IsOfPrefix}
use Rattle.trie_image.proofs.Exits.{IsNode, own_children, over_children}

-- of the words of old cells only the word of one field is another: it has the new pointer in the field, and its other half
-- as it was
pub record Turned (w w' : List ℕ) (used cell place p' : ℕ) : Type 0 where
  pub others : (c i : ℕ) → c < used → i < 4 → 4 * c + i ≢ 4 * cell + place / 2 → word_of w' c i ≡ word_of w c i
  pub there : word_of w' cell (place / 2) ≡ with_half_of (word_of w cell (place / 2)) (place % 2 == 1) p'
  pub inside : cell < used
  pub small : place < 8
  pub fits : p' < 2 ^ 32

module _ (w w' : List ℕ) (used cell place p' : ℕ) (t : Turned w w' used cell place p') where
  pub same_apart : (c : ℕ) → c < used → c ≢ cell → SameWords w w' c
  same_apart c l ne i s = let small = t.small in t.others c i l s (λ z. ne (omega arith))

  pub turned_now : field w' cell place ≡ p'
  turned_now = ap (λ (x : ℕ). half_of x (place % 2 == 1)) t.there ∙ this_half (word_of w cell (place / 2)) p' (place % 2 == 1) t.fits

  pub turned_other : (i : ℕ) → i < 8 → i ≢ place → field w' cell i ≡ field w cell i
  turned_other i l ne = let inside = t.inside in ⊎_elim
      (λ (e : i / 2 ≡ place / 2). ap (λ (x : ℕ). half_of (word_of w' cell x) (i % 2 == 1)) e ∙ (ap (λ (x : ℕ). half_of x (i % 2 == 1)) t.there
      ∙ (other_half (word_of w cell (place / 2)) p' (place % 2 == 1) (i % 2 == 1) t.fits (half_apart place i ne e) ∙ ap (λ (x : ℕ). half_of (word_of w cell x) (i % 2 == 1)) (sym e))))
      (λ (d : i / 2 ≢ place / 2). ap (λ (x : ℕ). half_of x (i % 2 == 1)) (t.others cell (i / 2) inside (omega arith) (λ z. d (omega arith)))) (cases_eq (i / 2) (place / 2))

  pub third_stays : place < 6 → word_of w' cell 3 ≡ word_of w cell 3
  third_stays l = t.others cell 3 t.inside (omega arith) (λ z. omega arith)

  pub tail_bytes : place ≡ 7 → (o : ℕ) → o ≤ 27 → cell_byte w' cell o ≡ cell_byte w cell o
  tail_bytes e o l = ⊎_elim
      (λ (z : o / 8 ≡ 3). let word : place / 2 ≡ 3 = omega arith in let odd : place % 2 ≡ 1 = omega arith in
      ap (λ (x : ℕ). byte_of (word_of w' cell x) (o % 8)) (z ∙ sym word) ∙ (ap (λ (x : ℕ). byte_of x (o % 8)) t.there ∙ (ap (λ (x : ℕ). byte_of (with_half_of (word_of w cell (place / 2)) (x == 1) p') (o % 8)) odd
      ∙ (low_byte (word_of w cell (place / 2)) p' (o % 8) (omega arith) ∙ ap (λ (x : ℕ). byte_of (word_of w cell x) (o % 8)) (word ∙ sym z)))))
      (λ (ne : o / 8 ≢ 3). ap (λ (x : ℕ). byte_of x (o % 8)) (t.others cell (o / 8) t.inside (omega arith) (λ z. ne (omega arith)))) (cases_eq (o / 8) 3)

-- cells of different owners
pub apart_of : (g : Ledger) (c d : ℕ) (o o' : Owner) → owner g c ≡ Some o → owner g d ≡ Some o' → (o ≡ o' → ⊥) → c ≢ d
apart_of g c d o o' e h ne z = let at : owner g d ≡ Some o = subst (λ (x : ℕ). owner g x ≡ Some o) z e in let both : Some o ≡ Some o' = sym at ∙ h in let is : o ≡ o' = cc in ne is

module _ (w w' : List ℕ) (g : Ledger) (cell place p' : ℕ) (t : Turned w w' (length g.owners) cell place p') where
  -- a cell with another owner
  kept_apart : (c : ℕ) (o o' : Owner) → owner g c ≡ Some o → owner g cell ≡ Some o' → (o ≡ o' → ⊥) → SameWords w w' c
  kept_apart c o o' e own ne = same_apart w w' (length g.owners) cell place p' t c (own_inside g.owners c o e) (apart_of g c cell o o' e own ne)

  -- what stands over a node that is in no changed prefix cell
  pub over_kept : (y n : ℕ) (q : List ℕ) → HasPath g y q → (o' : Owner) → owner g cell ≡ Some o' → ((r : List ℕ) → PrefixCell r ≡ o' → ⊥) → Over w g y n → Over w' g y n
  over_kept y n q at o' own ne (itself e) = itself e
  over_kept y n q at o' own ne (by_prefix k e) = by_prefix k (same_field w w' (y / 32) 1 (kept_apart (y / 32) (PrefixCell q) o' (prefix_of g y q at k) own (ne q)) (omega arith) ∙ e)

  -- the last pointer's child, where a node is reached whose own child is known
  led_by : (q : List ℕ) (n b : ℕ) → (r : Reaches w g q n) → (o' : Owner) → owner g cell ≡ Some o' → ((s : List ℕ) → PrefixCell s ≡ o' → ⊥) → IsNode n → child_of w' r.last b (kind_at r.last) ≡ node_child w' n b (kind_at n)
  led_by q n b r o' own ne is = over_children w' g r.last n b is (over_kept r.last n q r.last_path o' own ne r.over)

  pub tail_leads : (q : List ℕ) (h : IsTail w g q cell place) → child_of w' h.reached.last h.byte (kind_at h.reached.last) ≡ p'
  tail_leads q h = let n : ℕ = h.parent in
      let byte : cell_byte w' (n / 32) (n % 32) ≡ h.byte = ap (λ (x : ℕ). cell_byte w' x (n % 32)) h.here ∙ (tail_bytes w w' (length g.owners) cell place p' t h.is_place (n % 32) (let e = h.end in omega arith) ∙ (ap (λ (x : ℕ). cell_byte w x (n % 32)) (sym h.here) ∙ h.is_byte)) in
      led_by h.before n h.byte h.reached (ChainCell h.from q) h.own (λ r z. cc) (inl h.kind)
      ∙ (ap (λ (k : Option Kind). node_child w' n h.byte k) h.kind
      ∙ (cond-true (cell_byte w' (n / 32) (n % 32) == h.byte) (cond (n % 32 == 27) (field w' (n / 32) 7) (n + 1)) 0 (eq-eqb (cell_byte w' (n / 32) (n % 32)) h.byte byte)
      ∙ (cond-true (n % 32 == 27) (field w' (n / 32) 7) (n + 1) (eq-eqb (n % 32) 27 h.end) ∙ (ap₂ (λ (x y : ℕ). field w' x y) h.here (sym h.is_place) ∙ turned_now w w' (length g.owners) cell place p' t))))

  pub slot_leads : (q : List ℕ) (h : IsSlot w g q cell place) → child_of w' h.reached.last h.byte (kind_at h.reached.last) ≡ p'
  slot_leads q h = let n : ℕ = h.parent in let word = third_stays w w' (length g.owners) cell place p' t (slot_small (word_of w cell 3) h.byte place h.slot) in
      led_by h.before n h.byte h.reached (SparseCell h.before) h.own (λ r z. cc) (inr (inl h.kind))
      ∙ (ap (λ (k : Option Kind). node_child w' n h.byte k) h.kind ∙ (ap (λ (x : ℕ). slot_child w' x (slot_at (word_of w' x 3) h.byte)) h.here
      ∙ (ap (λ (x : ℕ). slot_child w' cell (slot_at x h.byte)) word ∙ (ap (λ (o : Option ℕ). slot_child w' cell o) h.slot ∙ turned_now w w' (length g.owners) cell place p' t))))

  -- in a split node
  split_led : (q : List ℕ) (b n c : ℕ) (h : IsSplitAt w g q b n c) (o' : Owner) → owner g cell ≡ Some o' → ((s : List ℕ) → PrefixCell s ≡ o' → ⊥) → child_of w' h.reached.last b (kind_at h.reached.last) ≡ mid_child w' (field w' c (b / 64)) b
  split_led q b n c h o' own ne = led_by q n b h.reached o' own ne (inr (inr h.kind))
      ∙ (ap (λ (k : Option Kind). node_child w' n b k) h.kind ∙ (ap (λ (x : ℕ). split_child w' x b) h.here ∙ cond-true (nat_lt b 256) (mid_child w' (field w' c (b / 64)) b) 0 (lt-ltb b 256 h.small)))

  through_mid : (b x m y : ℕ) → x ≢ 0 → x / 32 ≡ m → field w' m (b / 8 % 8) ≡ y → mid_child w' x b ≡ leaf_child w' y b
  through_mid b x m y ne e is = cond-false (x == 0) 0 (leaf_child w' (field w' (x / 32) (b / 8 % 8)) b) (ne_eqb x 0 ne) ∙ ap (λ (z : ℕ). leaf_child w' z b) (ap (λ (z : ℕ). field w' z (b / 8 % 8)) e ∙ is)

  through_leaf : (b y c z : ℕ) → y ≢ 0 → y / 32 ≡ c → field w' c (b % 8) ≡ z → leaf_child w' y b ≡ z
  through_leaf b y c z ne e is = cond-false (y == 0) 0 (field w' (y / 32) (b % 8)) (ne_eqb y 0 ne) ∙ (ap (λ (x : ℕ). field w' x (b % 8)) e ∙ is)

  -- its top and mid cells as they were
  top_kept : (q : List ℕ) (b n c : ℕ) → IsSplitAt w g q b n c → (o' : Owner) → owner g cell ≡ Some o' → (TopCell q ≡ o' → ⊥) → field w' c (b / 64) ≡ field w c (b / 64)
  top_kept q b n c h o' own ne = let l = h.small in same_field w w' c (b / 64) (kept_apart c (TopCell q) o' h.own own ne) (omega arith)

  pub leaf_leads : (q : List ℕ) (h : IsLeafSlot w g q cell place) → child_of w' h.split.reached.last h.byte (kind_at h.split.reached.last) ≡ p'
  leaf_leads q h = let b : ℕ = h.byte in let l = h.leaf in let m : ℕ = l.mid in let own = l.own in let x : ℕ = field w h.top (b / 64) in let y : ℕ = field w m (b / 8 % 8) in
      let top = top_kept h.before b h.parent h.top h.split (LeafCell h.top (b / 64) (b / 8 % 8)) own (λ z. cc) in
      let mid : field w' m (b / 8 % 8) ≡ y = same_field w w' m (b / 8 % 8) (kept_apart m (MidCell h.top (b / 64)) (LeafCell h.top (b / 64) (b / 8 % 8)) l.is_mid.own own (λ z. cc)) (omega arith) in
      split_led h.before b h.parent h.top h.split (LeafCell h.top (b / 64) (b / 8 % 8)) own (λ r z. cc)
      ∙ (ap (λ (z : ℕ). mid_child w' z b) top ∙ (through_mid b x m y l.is_mid.there l.is_mid.here mid ∙ through_leaf b y cell p' l.there l.here (ap (λ (z : ℕ). field w' cell z) (sym h.is_place) ∙ turned_now w w' (length g.owners) cell place p' t)))

  -- a new leaf cell under the mid cell, and a new mid cell with a leaf cell under the top cell
  pub mid_leads : (q : List ℕ) (b n c x entry : ℕ) (h : IsSplitAt w g q b n c) (m : IsMidUnder w g c b cell) → place ≡ b / 8 % 8 → p' ≡ 32 * x + 28 → field w' x (b % 8) ≡ entry → child_of w' h.reached.last b (kind_at h.reached.last) ≡ entry
  mid_leads q b n c x entry h m at is leads = let top = top_kept q b n c h (MidCell c (b / 64)) m.own (λ z. cc) in
      split_led q b n c h (MidCell c (b / 64)) m.own (λ r z. cc)
      ∙ (ap (λ (z : ℕ). mid_child w' z b) top ∙ (through_mid b (field w c (b / 64)) cell p' m.there m.here (ap (λ (z : ℕ). field w' cell z) (sym at) ∙ turned_now w w' (length g.owners) cell place p' t)
      ∙ through_leaf b p' x entry (λ z. omega arith) (omega arith) leads))

  pub top_leads : (q : List ℕ) (b n x y entry : ℕ) (h : IsSplitAt w g q b n cell) → place ≡ b / 64 → p' ≡ 32 * x + 28 → field w' x (b / 8 % 8) ≡ 32 * y + 28 → field w' y (b % 8) ≡ entry → child_of w' h.reached.last b (kind_at h.reached.last) ≡ entry
  top_leads q b n x y entry h at is mid leads = let top : field w' cell (b / 64) ≡ p' = ap (λ (z : ℕ). field w' cell z) (sym at) ∙ turned_now w w' (length g.owners) cell place p' t in
      split_led q b n cell h (TopCell q) h.own (λ r z. cc)
      ∙ (ap (λ (z : ℕ). mid_child w' z b) top ∙ (through_mid b p' x (32 * y + 28) (λ z. omega arith) (omega arith) mid ∙ through_leaf b (32 * y + 28) y entry (λ z. omega arith) (omega arith) leads))

  -- the prefix cell's own children and record
  pub prefix_leads : (q : List ℕ) (h : IsOfPrefix w g q cell) (b : ℕ) → place ≡ 1 → IsNode p' → child_of w' h.prefix b (kind_at h.prefix) ≡ child_of w' p' b (kind_at p')
  prefix_leads q h b at is = let now : field w' cell 1 ≡ p' = ap (λ (z : ℕ). field w' cell z) (sym at) ∙ turned_now w w' (length g.owners) cell place p' t in
      ap (λ (k : Option Kind). child_of w' h.prefix b k) h.kind ∙ (ap (λ (c : ℕ). node_child w' (field w' c 1) b (kind_at (field w' c 1))) h.here ∙ (ap (λ (x : ℕ). node_child w' x b (kind_at x)) now ∙ sym (own_children w' p' b is)))

  pub prefix_holds : (q : List ℕ) (h : IsOfPrefix w g q cell) → place ≡ 0 → record_of w' h.prefix (kind_at h.prefix) ≡ content_record p' (kind_at p')
  prefix_holds q h at = let now : field w' cell 0 ≡ p' = ap (λ (z : ℕ). field w' cell z) (sym at) ∙ turned_now w w' (length g.owners) cell place p' t in
      ap (λ (k : Option Kind). record_of w' h.prefix k) h.kind ∙ (ap (λ (c : ℕ). content_record (field w' c 0) (kind_at (field w' c 0))) h.here ∙ ap (λ (x : ℕ). content_record x (kind_at x)) now)

  -- the root
  pub root_turned : owner g 0 ≡ Some HeadCell → cell ≡ 0 → place ≡ 2 → root_of w' ≡ p'
  root_turned head c e = ap₂ (λ (x y : ℕ). field w' x y) (sym c) (sym e) ∙ turned_now w w' (length g.owners) cell place p' t

  pub root_stays : owner g 0 ≡ Some HeadCell → cell ≢ 0 → root_of w' ≡ root_of w
  root_stays head ne = same_field w w' 0 2 (same_apart w w' (length g.owners) cell place p' t 0 (own_inside g.owners 0 HeadCell head) (λ z. ne (sym z))) (omega arith)
