-- The pointer that a put publishes is better than the one in its place, by the case that the walk met. All is said of the
-- words after the publishing store.
use Rattle.std.proofs.Common.{◌≡◌, ◌≢◌, ℕ, suc, ◌+◌, ◌-◌, ◌*◌, ◌/◌, ◌%◌, ◌^◌, ◌<◌, ◌≤◌, ◌==◌, nat_lt, Bool, true, false, cond, List, [], ◌∷◌, length, slice_index, Option, Some, None, refl, sym, ap, ap₂, ◌∙◌, subst, ⊎_elim, arith, eq-eqb, ne_eqb, ltb-true}
use Rattle.std.proofs.lemmas.Bool.{cases_eq, cases_Bool, ltb-false, cond-true, cond-false}
use Rattle.std.proofs.Math.Nat.{mod-lt}
use Rattle.cell_layout.specs.declared.Kind.{Kind}
use Rattle.cell_layout.specs.declared.Kind.TheVariants as kind
use Rattle.cell_layout.specs.Words.{half_of, byte_of}
use Rattle.cell_layout.specs.Pointers.{kind_at}
use Rattle.cell_layout.proofs.PointerKinds.{is_kind, is_chain, next_byte}
use Rattle.cell_layout.specs.Cells.{chain_cell, branch_words, prefix_words}
use Rattle.cell_layout.proofs.CellBytes.{byte_of_chain_cell, tail_of_chain_cell}
use Rattle.cell_layout.specs.Slots.{slot_at}
use Rattle.cell_layout.proofs.Added.{slot_is, slot_small}
use Rattle.trie_image.specs.declared.exit.Stand.{Stand}
use Rattle.trie_image.specs.Reading.{sees_from, Reads, Better}
use Rattle.trie_image.specs.Image.{word_of, field, cell_byte, slot_child, mid_child, split_child, node_child, child_of, content_record, record_of, reading}
use Rattle.trie_image.specs.Body.{passed_bytes, passed_words, over_passed, chain_rest, seven, has_leaf, leaf_field, split_node_words}
use Rattle.trie_image.specs.Stores.{content_of}
use Rattle.trie_image.proofs.Betters.{reads_on, better_chain, cell_reads}
use Rattle.trie_image.proofs.Nodes.{better_node, better_record}
use Rattle.trie_image.proofs.CellWords.{Stands, bytes_passed, passed_byte}
use Rattle.trie_image.proofs.NewPointers.{offset_kind, content_kind, content_there, content_is, content_record_is, content_leaf, prefix_content, prefix_node}
use Rattle.trie_image.proofs.Exits.{IsNode, own_children, next_reads, rest_child}
use Rattle.trie_image.specs.Same.{SameWords}
use Rattle.trie_image.proofs.Kept.{same_field}
use Rattle.trie_image.proofs.SplitNodes.{has_new, has_old, split_there, split_absent}
use Rattle.trie_image.proofs.Splits.{sparse_kind, split_old, split_new, split_other}

module _ (w : List ℕ) (used : ℕ) (small : used < 2 ^ 31) where
  -- a chain to the new record in place of nothing
  pub better_entry : (entry : ℕ) (rest : List ℕ) → Reads (reading w) entry rest (content_of used) → Better (reading w) 0 entry rest used
  better_entry entry rest reads = better_chain (reading w) rest entry (content_of used) used reads (content_there w used small) (content_is w used small) (λ a. content_leaf w (content_of used) a (content_kind w used small))

  -- the new record in place of an old one
  pub better_same : (p : ℕ) → kind_at p ≡ Some kind.Content → Better (reading w) p (content_of used) [] used
  better_same p k = better_record (reading w) p (content_of used) used (λ z. let l = is_kind p (Some kind.Content) k in omega arith) (content_there w used small) (content_is w used small)
      (λ a l. ap (λ (x : ℕ). sees_from (reading w) x l) (content_leaf w (content_of used) a (content_kind w used small) ∙ sym (content_leaf w p a k)))

  -- a new prefix cell
  module _ (x p : ℕ) (is : p ≡ 32 * x + 31) (low : 1 ≤ x) (high : x < 2 ^ 26) (content node : ℕ) (h : Stands w x (prefix_words content node)) (fits : content < 2 ^ 32) (is_node : IsNode node) where
    over : p / 32 ≡ x
    over = omega arith

    prefix_kind : kind_at p ≡ Some kind.Prefix
    prefix_kind = offset_kind p x 31 is low high (omega arith)

    prefix_record : record_of w p (kind_at p) ≡ content_record content (kind_at content)
    prefix_record = ap (λ (k : Option Kind). record_of w p k) prefix_kind ∙ (ap (λ (c : ℕ). content_record (field w c 0) (kind_at (field w c 0))) over ∙ ap (λ (c : ℕ). content_record c (kind_at c)) (prefix_content w x content node h fits))

    prefix_child : (a : ℕ) → child_of w p a (kind_at p) ≡ child_of w node a (kind_at node)
    prefix_child a = ap (λ (k : Option Kind). child_of w p a k) prefix_kind ∙ (ap (λ (c : ℕ). node_child w (field w c 1) a (kind_at (field w c 1))) over ∙ (ap (λ (c : ℕ). node_child w c a (kind_at c)) (prefix_node w x content node h fits) ∙ sym (own_children w node a is_node)))

  -- an old content and the new chain, in place of the content alone
  pub better_past : (x p entry b : ℕ) (rest : List ℕ) → Stands w x (prefix_words p entry) → 1 ≤ x → x < 2 ^ 26 → p < 2 ^ 32 → kind_at p ≡ Some kind.Content → IsNode entry → Reads (reading w) entry (b ∷ rest) (content_of used) → Better (reading w) p (32 * x + 31) (b ∷ rest) used
  better_past x p entry b rest h low high fits k is_node (ne, none, only, on) =
      let child : (a : ℕ) → child_of w (32 * x + 31) a (kind_at (32 * x + 31)) ≡ child_of w entry a (kind_at entry) = prefix_child x (32 * x + 31) refl low high p entry h fits is_node in
      better_node (reading w) b rest p (32 * x + 31) used (λ z. let l = is_kind p (Some kind.Content) k in omega arith) (λ z. omega arith)
      (prefix_record x (32 * x + 31) refl low high p entry h fits is_node ∙ (ap (λ (c : Option Kind). content_record p c) k ∙ sym (ap (λ (c : Option Kind). record_of w p c) k)))
      (λ a l other. ap (λ (c : ℕ). sees_from (reading w) c l) (child a ∙ (only a other ∙ sym (content_leaf w p a k))))
      (subst (λ (c : ℕ). Better (reading w) c (child_of w (32 * x + 31) b (kind_at (32 * x + 31))) rest used) (sym (content_leaf w p b k)) (subst (λ (c : ℕ). Better (reading w) 0 c rest used) (sym (child b)) (better_entry (child_of w entry b (kind_at entry)) rest on)))

  -- the new content over a node, in place of the node alone
  pub better_under : (x at : ℕ) → Stands w x (prefix_words (content_of used) at) → 1 ≤ x → x < 2 ^ 26 → IsNode at → at ≢ 0 → Better (reading w) at (32 * x + 31) [] used
  better_under x at h low high is_node ne = better_record (reading w) at (32 * x + 31) used ne (λ z. omega arith)
      (prefix_record x (32 * x + 31) refl low high (content_of used) at h (omega arith) is_node ∙ content_record_is w used small)
      (λ a l. ap (λ (c : ℕ). sees_from (reading w) c l) (prefix_child x (32 * x + 31) refl low high (content_of used) at h (omega arith) is_node a))

  -- a sparse cell of two, in place of a chain's byte
  module _ (at : ℕ) (k : kind_at at ≡ Some kind.Chain) where
    chain_none : record_of w at (kind_at at) ≡ None
    chain_none = ap (λ (x : Option Kind). record_of w at x) k

    chain_other : (a : ℕ) → a ≢ cell_byte w (at / 32) (at % 32) → child_of w at a (kind_at at) ≡ 0
    chain_other a ne = ap (λ (x : Option Kind). child_of w at a x) k ∙ cond-false (cell_byte w (at / 32) (at % 32) == a) (cond (at % 32 == 27) (field w (at / 32) 7) (at + 1)) 0 (ne_eqb (cell_byte w (at / 32) (at % 32)) a (λ z. ne (sym z)))

    pub better_split : (x old b entry : ℕ) (rest : List ℕ) → Stands w x (branch_words old (chain_rest w at) b entry) → old ≡ cell_byte w (at / 32) (at % 32) → 1 ≤ x → x < 2 ^ 26 → old < 256 → b < 256 → chain_rest w at < 2 ^ 32 → entry < 2 ^ 32 → old ≢ b → Reads (reading w) entry rest (content_of used) → Better (reading w) at (32 * x + 30) (b ∷ rest) used
    better_split x old b entry rest h is_old low high so sb fc fe ne reads = let p : ℕ = 32 * x + 30 in
        better_node (reading w) b rest at p used (is_kind at (Some kind.Chain) k).0 (λ z. omega arith)
        (ap (λ (x : Option Kind). record_of w p x) (sparse_kind w x p refl low high) ∙ sym chain_none)
        (λ a l other. ap (λ (c : ℕ). sees_from (reading w) c l) (⊎_elim
        (λ (e : a ≡ old). ap (λ (y : ℕ). child_of w p y (kind_at p)) e ∙ (split_old w x p refl low high old (chain_rest w at) b entry h so sb fc fe ne ∙ (sym (rest_child w at k) ∙ (ap (λ (y : ℕ). child_of w at y (kind_at at)) (sym (e ∙ is_old))))))
        (λ (apart : a ≢ old). split_other w x p refl low high old (chain_rest w at) b entry h so sb fc fe ne a apart other ∙ sym (chain_other a (λ z. apart (z ∙ sym is_old)))) (cases_eq a old)))
        (subst (λ (c : ℕ). Better (reading w) c (child_of w p b (kind_at p)) rest used) (sym (chain_other b (λ z. ne (is_old ∙ sym z))))
        (subst (λ (c : ℕ). Better (reading w) 0 c rest used) (sym (split_new w x p refl low high old (chain_rest w at) b entry h so sb fc fe ne)) (better_entry entry rest reads)))

-- what stands behind the bytes that were passed in a chain cell
module _ (w : List ℕ) where
  -- the bytes from a pointer on, inside its cell
  pub inner_reads : (m : List ℕ) (p : ℕ) → p ≢ 0 → p < 2 ^ 31 → p % 32 + length m ≤ 27 → ((i : ℕ) → i < length m → cell_byte w (p / 32) (p % 32 + i) ≡ slice_index m i) → Reads (reading w) p m (p + length m)
  inner_reads [] p ne small few bytes = omega arith
  inner_reads (b ∷ m) p ne small few bytes = let k : kind_at p ≡ Some kind.Chain = is_chain p ne small (omega arith) in let next = next_byte p k (λ z. omega arith) in
      let first : cell_byte w (p / 32) (p % 32) ≡ b = subst (λ (o : ℕ). cell_byte w (p / 32) o ≡ b) (let z : p % 32 + 0 ≡ p % 32 = omega arith in z) (bytes 0 (omega arith)) in
      let end : p + 1 + length m ≡ p + length (b ∷ m) = omega arith in
      subst (λ (x : ℕ). Reads (reading w) p (b ∷ m) x) end (reads_on (reading w) (b ∷ []) m p (p + 1) (p + 1 + length m) (next_reads w p b k first (λ z. omega arith))
      (inner_reads m (p + 1) (λ z. omega arith) (omega arith) (omega (arith, next.2)) (λ i l. let o : (p + 1) % 32 + i ≡ p % 32 + suc i = omega (arith, next.2) in ap₂ (λ (x y : ℕ). cell_byte w x y) next.1 o ∙ bytes (suc i) (omega arith))))

-- the new cell of the passed bytes, where there are any, reads them and is then the new node
module _ (w0 w : List ℕ) (s : Stand) (m : List ℕ) (forward : s.at ≡ s.entered + length m) (offset : length m ≤ s.at % 32) (bytes : (i : ℕ) → i < length m → cell_byte w0 (s.at / 32) (s.at % 32 - length m + i) ≡ slice_index m i) where
  -- the old pointer reads them too
  pub old_reads : s.entered ≢ 0 → s.at < 2 ^ 31 → s.at % 32 ≤ 27 → ((o : ℕ) → o ≤ 27 → cell_byte w (s.at / 32) o ≡ cell_byte w0 (s.at / 32) o) → Reads (reading w) s.entered m s.at
  old_reads ne small chain same = let cell : s.entered / 32 ≡ s.at / 32 = omega arith in
      subst (λ (x : ℕ). Reads (reading w) s.entered m x) (sym forward) (inner_reads w m s.entered ne (omega arith) (omega arith)
      (λ i l. let o : s.entered % 32 + i ≡ s.at % 32 - length m + i = omega arith in ap₂ (λ (x y : ℕ). cell_byte w x y) cell o ∙ (same (s.at % 32 - length m + i) (omega arith) ∙ bytes i l)))

  module _ (x o : ℕ) (is : o < 32) (low : 1 ≤ x) (high : x + 1 < 2 ^ 26) (chain : s.at % 32 ≤ 27) (h : Stands w (x + 1) (passed_words w0 s (32 * x + o))) where
    nothing_passed : s.at ≡ s.entered → Reads (reading w) (over_passed s x o) m (32 * x + o)
    nothing_passed e = none_left m (omega (arith, forward))
      where
        none_left : (l : List ℕ) → length l ≡ 0 → Reads (reading w) (over_passed s x o) l (32 * x + o)
        none_left [] z = cond-true (s.at == s.entered) (32 * x + o) (32 * (x + 1) + (28 - (s.at - s.entered))) (eq-eqb s.at s.entered e)
        none_left (b ∷ l) z = absurd (omega arith)

    some_passed : s.at ≢ s.entered → Reads (reading w) (over_passed s x o) m (32 * x + o)
    some_passed ne = let p : ℕ = 32 * (x + 1) + (28 - (s.at - s.entered)) in let cell : List ℕ = chain_cell (passed_bytes w0 s) (32 * x + o) in let four : length cell ≡ 4 = refl in
        let stands : Stands w (x + 1) cell = subst (λ (l : List ℕ). Stands w (x + 1) l) (cond-false (s.at == s.entered) [] cell (ne_eqb s.at s.entered ne)) h in
        let tail : field w (x + 1) 7 ≡ 32 * x + o = ap (λ (y : ℕ). half_of y true) (stands 3 (omega arith)) ∙ tail_of_chain_cell (passed_bytes w0 s) (32 * x + o) (bytes_passed w0 s) in
        subst (λ (y : ℕ). Reads (reading w) y m (32 * x + o)) (sym (cond-false (s.at == s.entered) (32 * x + o) p (ne_eqb s.at s.entered ne)))
        (subst (λ (y : ℕ). Reads (reading w) p m y) tail (cell_reads w (x + 1) m (28 - length m) p (omega arith) (λ z. omega arith) (omega arith) (omega arith) (omega arith)
        (λ i l. let k : ℕ = 28 - length m + i in let back : s.at % 32 + k - 28 ≡ s.at % 32 - length m + i = omega arith in
        ap (λ (y : ℕ). byte_of y (k % 8)) (stands (k / 8) (omega arith)) ∙ (byte_of_chain_cell (passed_bytes w0 s) (32 * x + o) (bytes_passed w0 s) k (omega arith) ∙ (passed_byte w0 s k (omega arith) (omega arith) ∙ (ap (λ (y : ℕ). cell_byte w0 (s.at / 32) y) back ∙ bytes i l))))))

    pub passed_reads : Reads (reading w) (over_passed s x o) m (32 * x + o)
    passed_reads = ⊎_elim nothing_passed some_passed (cases_eq s.at s.entered)

-- the split node of seven children in place of a full sparse node
module _ (w0 w : List ℕ) (used : ℕ) (small : used < 2 ^ 31) (at b entry x : ℕ) (k : kind_at at ≡ Some kind.Sparse) (same : SameWords w0 w (at / 32)) (h : Stands w x (split_node_words w0 (at / 32) b entry x)) (low : 1 ≤ x) (capacity : x + 64 < 2 ^ 26) (byte : b < 256) (fits : (c : ℕ) → leaf_field w0 (at / 32) b entry c < 2 ^ 32) where
  word : ℕ
  word = word_of w0 (at / 32) 3

  -- the child in the old node
  was : ℕ → ℕ
  was a = slot_child w0 (at / 32) (slot_at word a)

  old_child : (a : ℕ) → child_of w at a (kind_at at) ≡ was a
  unfolding was word
  old_child a = ap (λ (x : Option Kind). child_of w at a x) k ∙ (ap (λ (y : ℕ). slot_child w (at / 32) (slot_at y a)) (same 3 (omega arith)) ∙ by (slot_at (word_of w0 (at / 32) 3) a) refl)
    where
      by : (o : Option ℕ) → slot_at (word_of w0 (at / 32) 3) a ≡ o → slot_child w (at / 32) o ≡ slot_child w0 (at / 32) o
      by None e = refl
      by (Some s) e = let l = slot_small (word_of w0 (at / 32) 3) a s e in same_field w0 w (at / 32) s same (omega arith)

  new_child : (a : ℕ) → child_of w (32 * x + 28) a (kind_at (32 * x + 28)) ≡ split_child w x a
  new_child a = let cell : (32 * x + 28) / 32 ≡ x = omega arith in ap (λ (y : Option Kind). child_of w (32 * x + 28) a y) (offset_kind (32 * x + 28) x 28 refl low (omega arith) (omega arith)) ∙ ap (λ (c : ℕ). split_child w c a) cell

  other_field : (a : ℕ) → a ≢ b → leaf_field w0 (at / 32) b entry a ≡ was a
  unfolding leaf_field was word
  other_field a ne = cond-false (a == b) entry (slot_child w0 (at / 32) (slot_at (word_of w0 (at / 32) 3) a)) (ne_eqb a b ne)

  new_field : leaf_field w0 (at / 32) b entry b ≡ entry
  unfolding leaf_field
  new_field = cond-true (b == b) entry (slot_child w0 (at / 32) (slot_at (word_of w0 (at / 32) 3) b)) (eq-eqb b b refl)

  -- a byte that has no leaf cell, or is no byte, has no child in the old node
  old_none : (a : ℕ) → ((s : ℕ) → slot_at word a ≡ Some s → ⊥) → was a ≡ 0
  unfolding was
  old_none a none = by (slot_at word a) refl
    where
      by : (o : Option ℕ) → slot_at word a ≡ o → slot_child w0 (at / 32) o ≡ 0
      by None e = refl
      by (Some s) e = absurd (none s e)

  others : (a : ℕ) → a ≢ b → child_of w (32 * x + 28) a (kind_at (32 * x + 28)) ≡ child_of w at a (kind_at at)
  unfolding word
  others a ne = new_child a ∙ (⊎_elim
      (λ (t : nat_lt a 256 ≡ true). by (ltb-true a 256 t) (has_leaf (seven (word_of w0 (at / 32) 3) b) (a / 8)) refl)
      (λ (t : nat_lt a 256 ≡ false). let l = ltb-false a 256 t in cond-false (nat_lt a 256) (mid_child w (field w x (a / 64)) a) 0 t ∙ sym (old_none a (λ s e. let i = slot_is (word_of w0 (at / 32) 3) a s e in let d : byte_of (word_of w0 (at / 32) 3) s < 256 = mod-lt _ (omega arith) in omega (arith, i.2))))
      (cases_Bool (nat_lt a 256)) ∙ sym (old_child a))
    where
      by : a < 256 → (t : Bool) → has_leaf (seven (word_of w0 (at / 32) 3) b) (a / 8) ≡ t → split_child w x a ≡ was a
      by l true e = split_there w0 w (at / 32) b entry x (seven (word_of w0 (at / 32) 3) b) h capacity fits a l e ∙ other_field a ne
      by l false e = split_absent w0 w (at / 32) b entry x (seven (word_of w0 (at / 32) 3) b) h capacity fits a l e ∙ sym (old_none a (λ s is. let t = has_old (word_of w0 (at / 32) 3) b a s is in let d : false ≡ true = sym e ∙ t in absurd (cc)))

  pub better_split_node : (rest : List ℕ) → slot_at (word_of w0 (at / 32) 3) b ≡ None → Reads (reading w) entry rest (content_of used) → Better (reading w) at (32 * x + 28) (b ∷ rest) used
  unfolding was word
  better_split_node rest absent reads =
      let is : child_of w (32 * x + 28) b (kind_at (32 * x + 28)) ≡ entry = new_child b ∙ (split_there w0 w (at / 32) b entry x (seven (word_of w0 (at / 32) 3) b) h capacity fits b byte (has_new (word_of w0 (at / 32) 3) b) ∙ new_field) in
      let none : child_of w at b (kind_at at) ≡ 0 = old_child b ∙ ap (λ (o : Option ℕ). slot_child w0 (at / 32) o) absent in
      better_node (reading w) b rest at (32 * x + 28) used (is_kind at (Some kind.Sparse) k).0 (λ z. omega arith)
      (ap (λ (y : Option Kind). record_of w (32 * x + 28) y) (offset_kind (32 * x + 28) x 28 refl low (omega arith) (omega arith)) ∙ sym (ap (λ (y : Option Kind). record_of w at y) k))
      (λ a l ne. ap (λ (c : ℕ). sees_from (reading w) c l) (others a ne))
      (subst (λ (c : ℕ). Better (reading w) c (child_of w (32 * x + 28) b (kind_at (32 * x + 28))) rest used) (sym none) (subst (λ (c : ℕ). Better (reading w) 0 c rest used) (sym is) (better_entry w used small entry rest reads)))
