-- What is left to list: under a node from a byte on, and along the way.
use Rattle.std.proofs.Common.{◌≡◌, ◌≢◌, ℕ, zero, suc, ◌+◌, ◌-◌, ◌<◌, ◌≤◌, List, [], ◌∷◌, ◌++◌, length, Option, Some, None, refl, sym, ap, ◌∙◌, arith, ⊎_elim, eq-eqb, ne_eqb, append_assoc, append-nil}
use Rattle.std.proofs.lemmas.Bool.{cases_eq}
use Rattle.std.proofs.Common.{inl, inr, ◌/◌}
use Rattle.std.specs.Prelude.{◌⊎◌}
use Rattle.cell_layout.specs.declared.Kind.{Kind}
use Rattle.cell_layout.specs.declared.Kind.TheVariants.{Nothing, Content, Chain, Sparse, Wide, Prefix}
use Rattle.cell_layout.specs.Pointers.{kind_at, record_cell}
use Rattle.key_types.specs.Table.{Entry}
use Rattle.trie_image.specs.declared.Ledger.{Ledger}
use Rattle.trie_image.specs.Image.{field, node_child, child_of, content_record, record_of, reading}
use Rattle.trie_image.specs.Paths.{HasPath}
use Rattle.trie_image.specs.WellFormed.{IsWellFormed}
use Rattle.shard_freeze.specs.declared.edges.Edge.{Edge}
use Rattle.shard_freeze.specs.Listing.{prefixed, own_entry, under_child, children_entries, entries_seen, entries_seen_from}
use Rattle.shard_freeze.specs.Edges.{IsLeastChild, LeastChild}
use Rattle.shard_freeze.proofs.Lists.{child_length}
use Rattle.shard_freeze.proofs.Nodes.{prefix_is_content, prefix_is_node}

pub behind_joined : (q : List ℕ) (xs ys : List Entry) → prefixed q (xs ++ ys) ≡ prefixed q xs ++ prefixed q ys
behind_joined q [] ys = refl
behind_joined q (x ∷ xs) ys = ap (λ (es : List Entry). (q ++ x.0, x.1) ∷ es) (behind_joined q xs ys)

pub behind_twice : (q b : List ℕ) (es : List Entry) → prefixed q (prefixed b es) ≡ prefixed (q ++ b) es
behind_twice q b [] = refl
behind_twice q b (e ∷ es) = ap (λ (k : List ℕ). (k, e.1) ∷ prefixed q (prefixed b es)) (sym (append_assoc q b e.0)) ∙ ap (λ (l : List Entry). ((q ++ b) ++ e.0, e.1) ∷ l) (behind_twice q b es)

module _ (w : List ℕ) (value : ℕ → List ℕ) where
  child_none : (f : ℕ → List Entry) (b c : ℕ) → c ≡ 0 → under_child (reading w) value f b c ≡ []
  child_none f b c z = rw (eq-eqb c 0 z) refl

  child_some : (f : ℕ → List Entry) (b c : ℕ) → c ≢ 0 → under_child (reading w) value f b c ≡ prefixed (b ∷ []) (f c)
  child_some f b c ne = rw (ne_eqb c 0 ne) refl

  -- bytes without a child are passed
  pub under_skip : (f : ℕ → List Entry) (p n d low : ℕ) → ((c : ℕ) → low ≤ c → c < low + d → (reading w).child p c ≡ 0) → children_entries (reading w) value f p low (d + n) ≡ children_entries (reading w) value f p (low + d) n
  unfolding children_entries
  under_skip f p n zero low none = let e : 0 + n ≡ n = omega arith in let a : low + 0 ≡ low = omega arith in ap (λ (m : ℕ). children_entries (reading w) value f p low m) e ∙ ap (λ (x : ℕ). children_entries (reading w) value f p x n) (sym a)
  under_skip f p n (suc d) low none =
      let e : suc d + n ≡ suc (d + n) = omega arith in let a : low + 1 + d ≡ low + suc d = omega arith in
      ap (λ (m : ℕ). children_entries (reading w) value f p low m) e
      ∙ ap (λ (xs : List Entry). xs ++ children_entries (reading w) value f p (low + 1) (d + n)) (child_none f low ((reading w).child p low) (none low (omega arith) (omega arith)))
      ∙ under_skip f p n d (low + 1) (λ c l m. none c (omega arith) (omega arith))
      ∙ ap (λ (x : ℕ). children_entries (reading w) value f p x n) a

  pub under_none : (f : ℕ → List Entry) (p n low : ℕ) → ((c : ℕ) → low ≤ c → c < low + n → (reading w).child p c ≡ 0) → children_entries (reading w) value f p low n ≡ []
  unfolding children_entries
  under_none f p zero low none = refl
  under_none f p (suc n) low none = ap (λ (xs : List Entry). xs ++ children_entries (reading w) value f p (low + 1) n) (child_none f low ((reading w).child p low) (none low (omega arith) (omega arith)))
      ∙ under_none f p n (low + 1) (λ c l m. none c (omega arith) (omega arith))

  pub under_same : (f : ℕ → List Entry) (p p' : ℕ) → ((c : ℕ) → (reading w).child p c ≡ (reading w).child p' c) → (n low : ℕ) → children_entries (reading w) value f p low n ≡ children_entries (reading w) value f p' low n
  unfolding children_entries
  under_same f p p' same zero low = refl
  under_same f p p' same (suc n) low = ap (λ (c : ℕ). under_child (reading w) value f low c ++ children_entries (reading w) value f p (low + 1) n) (same low)
      ∙ ap (λ (xs : List Entry). under_child (reading w) value f low ((reading w).child p' low) ++ xs) (under_same f p p' same n (low + 1))

  one_under : (f : ℕ → List Entry) (p low n : ℕ) → children_entries (reading w) value f p low (suc n) ≡ under_child (reading w) value f low ((reading w).child p low) ++ children_entries (reading w) value f p (low + 1) n
  unfolding children_entries
  one_under f p low n = refl

  -- the least child that is left, and what is left behind it
  pub under_least : (f : ℕ → List Entry) (p low : ℕ) (e : Edge) → IsLeastChild ((reading w).child p) low e
      → children_entries (reading w) value f p low (256 - low) ≡ prefixed (e.byte ∷ []) (f e.to) ++ children_entries (reading w) value f p (e.byte + 1) (256 - (e.byte + 1))
  under_least f p low e is =
      let d : ℕ = e.byte - low in let n : ℕ = 255 - e.byte in
      let all : 256 - low ≡ d + suc n = omega (arith, is.byte, is.least) in let at : low + d ≡ e.byte = omega (arith, is.least) in
      let rest : n ≡ 256 - (e.byte + 1) = omega arith in let there : (reading w).child p e.byte ≢ 0 = λ z. is.there (is.is ∙ z) in
      ap (λ (m : ℕ). children_entries (reading w) value f p low m) all
      ∙ under_skip f p (suc n) d low (λ c l m. is.before c l (omega (arith, at, m)))
      ∙ ap (λ (x : ℕ). children_entries (reading w) value f p x (suc n)) at
      ∙ one_under f p e.byte n
      ∙ ap (λ (xs : List Entry). xs ++ children_entries (reading w) value f p (e.byte + 1) n) (child_some f e.byte ((reading w).child p e.byte) there ∙ ap (λ (c : ℕ). prefixed (e.byte ∷ []) (f c)) (sym is.is))
      ∙ ap (λ (m : ℕ). prefixed (e.byte ∷ []) (f e.to) ++ children_entries (reading w) value f p (e.byte + 1) m) rest

  pub under_end : (f : ℕ → List Entry) (p low : ℕ) → low ≤ 256 → LeastChild ((reading w).child p) low None → children_entries (reading w) value f p low (256 - low) ≡ []
  under_end f p low small none = under_none f p (256 - low) low (λ c l m. none c l (omega (arith, small, m)))

  pub under_past : (f : ℕ → List Entry) (p low : ℕ) → 256 ≤ low → children_entries (reading w) value f p low (256 - low) ≡ []
  under_past f p low past = under_none f p (256 - low) low (λ c l m. absurd (omega arith))

  -- ---- a pointer by its kind

  content_listed : (n p : ℕ) → kind_at p ≡ Some Content → entries_seen (reading w) value n p ≡ ([], value (record_cell p)) ∷ []
  unfolding entries_seen
  content_listed zero p k = ap (λ (o : Option Kind). own_entry (reading w) value (record_of w p o)) k
  content_listed (suc n) p k = ap (λ (xs : List Entry). own_entry (reading w) value ((reading w).record_at p) ++ xs) (under_none (entries_seen (reading w) value n) p 256 0 (λ c l m. ap (λ (o : Option Kind). child_of w p c o) k))
      ∙ append-nil (own_entry (reading w) value ((reading w).record_at p)) ∙ ap (λ (o : Option Kind). own_entry (reading w) value (record_of w p o)) k

  pub here_record : (n p : ℕ) → p ≢ 0 → kind_at p ≡ Some Content → entries_seen_from (reading w) value n p ≡ ([], value (record_cell p)) ∷ []
  here_record n p ne k = rw (ne_eqb p 0 ne) (content_listed n p k)

  no_record : (p : ℕ) (k : Option Kind) → kind_at p ≡ k → k ≢ Some Content → k ≢ Some Prefix → (reading w).record_at p ≡ None
  no_record p (Some Content) e other third = absurd (other refl)
  no_record p (Some Prefix) e other third = absurd (third refl)
  no_record p (Some Nothing) e other third = ap (λ (o : Option Kind). record_of w p o) e
  no_record p (Some Chain) e other third = ap (λ (o : Option Kind). record_of w p o) e
  no_record p (Some Sparse) e other third = ap (λ (o : Option Kind). record_of w p o) e
  no_record p (Some Wide) e other third = ap (λ (o : Option Kind). record_of w p o) e
  no_record p None e other third = ap (λ (o : Option Kind). record_of w p o) e

  module _ (g : Ledger) (cells : ℕ) (ok : IsWellFormed w g cells) where
    -- a pointer's own entry and those under its children, by the bytes that are left of a key
    pub opened : (p : ℕ) (q : List ℕ) → HasPath g p q → entries_seen (reading w) value (2048 - length q) p ≡ own_entry (reading w) value ((reading w).record_at p) ++ children_entries (reading w) value (entries_seen (reading w) value (2047 - length q)) p 0 256
    unfolding entries_seen
    opened p q at = by (2048 - length q) refl
      where
        by : (m : ℕ) → 2048 - length q ≡ m → entries_seen (reading w) value (2048 - length q) p ≡ own_entry (reading w) value ((reading w).record_at p) ++ children_entries (reading w) value (entries_seen (reading w) value (2047 - length q)) p 0 256
        by zero e = ap (λ (n : ℕ). entries_seen (reading w) value n p) e ∙ sym (append-nil (own_entry (reading w) value ((reading w).record_at p)))
            ∙ ap (λ (xs : List Entry). own_entry (reading w) value ((reading w).record_at p) ++ xs) (sym (under_none (entries_seen (reading w) value (2047 - length q)) p 256 0
            (λ c l m. ⊎_elim (λ (z : (reading w).child p c ≡ 0). z) (λ (ne : (reading w).child p c ≢ 0). absurd (omega (arith, child_length w g cells ok p c q at ne, e))) (cases_eq ((reading w).child p c) 0))))
        by (suc n) e = let m : n ≡ 2047 - length q = omega (arith, e) in
            ap (λ (x : ℕ). entries_seen (reading w) value x p) e ∙ ap (λ (x : ℕ). own_entry (reading w) value ((reading w).record_at p) ++ children_entries (reading w) value (entries_seen (reading w) value x) p 0 256) m

    pub node_opened : (p : ℕ) (q : List ℕ) → HasPath g p q → kind_at p ≢ Some Content → kind_at p ≢ Some Prefix → entries_seen (reading w) value (2048 - length q) p ≡ children_entries (reading w) value (entries_seen (reading w) value (2047 - length q)) p 0 256
    node_opened p q at other third = opened p q at ∙ ap (λ (o : Option ℕ). own_entry (reading w) value o ++ children_entries (reading w) value (entries_seen (reading w) value (2047 - length q)) p 0 256) (no_record p (kind_at p) refl other third)

    pub same_children : (p node : ℕ) → kind_at p ≡ Some Prefix → field w (p / 32) 1 ≡ node → (kind_at node ≡ Some Chain) ⊎ ((kind_at node ≡ Some Sparse) ⊎ (kind_at node ≡ Some Wide)) → (c : ℕ) → (reading w).child p c ≡ (reading w).child node c
    same_children p node k is kinds c = ap (λ (o : Option Kind). child_of w p c o) k ∙ ap (λ (x : ℕ). node_child w x c (kind_at x)) is ∙ by kinds
      where
        by : (kind_at node ≡ Some Chain) ⊎ ((kind_at node ≡ Some Sparse) ⊎ (kind_at node ≡ Some Wide)) → node_child w node c (kind_at node) ≡ child_of w node c (kind_at node)
        by (inl e) = rw e refl
        by (inr (inl e)) = rw e refl
        by (inr (inr e)) = rw e refl

    pub prefix_opened : (p : ℕ) (q : List ℕ) → HasPath g p q → kind_at p ≡ Some Prefix
        → entries_seen (reading w) value (2048 - length q) p ≡ ([], value (record_cell (field w (p / 32) 0))) ∷ children_entries (reading w) value (entries_seen (reading w) value (2047 - length q)) (field w (p / 32) 1) 0 256
    prefix_opened p q at k =
        let record_is : (reading w).record_at p ≡ Some (record_cell (field w (p / 32) 0)) = ap (λ (o : Option Kind). record_of w p o) k ∙ ap (λ (o : Option Kind). content_record (field w (p / 32) 0) o) (prefix_is_content w g cells ok p q at k) in
        opened p q at
        ∙ ap (λ (o : Option ℕ). own_entry (reading w) value o ++ children_entries (reading w) value (entries_seen (reading w) value (2047 - length q)) p 0 256) record_is
        ∙ ap (λ (xs : List Entry). ([], value (record_cell (field w (p / 32) 0))) ∷ xs) (under_same (entries_seen (reading w) value (2047 - length q)) p (field w (p / 32) 1) (same_children p (field w (p / 32) 1) k refl (prefix_is_node w g cells ok p q at k)) 256 0)
