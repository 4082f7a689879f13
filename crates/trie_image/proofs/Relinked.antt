-- One pointer in place of another: which children change.
use Rattle.std.proofs.Common.{◌≡◌, ◌≢◌, ◌⊎◌, ℕ, ◌+◌, ◌/◌, ◌%◌, ◌^◌, ◌<◌, ◌≤◌, ◌==◌, nat_lt, Bool, true, false, cond, List, [], ◌∷◌, ◌++◌, Option, Some, None, refl, sym, ap, ◌∙◌, subst, inl, inr, ⊎_elim, arith, append_assoc, ltb-true}
use Rattle.std.proofs.lemmas.Bool.{cases_eq, cond-true, cond-false, eq-eqb, cases_Bool}
use Rattle.cell_layout.specs.declared.Kind.{Kind}
use Rattle.cell_layout.specs.declared.Kind.TheVariants as kind
use Rattle.cell_layout.specs.Words.{half_of}
use Rattle.cell_layout.specs.Pointers.{kind_at}
use Rattle.cell_layout.specs.Slots.{slot_at}
use Rattle.cell_layout.proofs.PointerKinds.{is_kind}
use Rattle.cell_layout.proofs.Added.{slot_small}
use Rattle.trie_image.specs.declared.Owner.{Owner}
use Rattle.trie_image.specs.declared.Owner.TheVariants.{SparseCell, TopCell, MidCell, PrefixCell}
use Rattle.trie_image.specs.declared.Ledger.{Ledger}
use Rattle.trie_image.specs.Reading.{sees, sees_from, Better}
use Rattle.trie_image.specs.Image.{word_of, field, cell_byte, chain_child, slot_child, leaf_child, mid_child, split_child, node_child, child_of, content_record, record_of, reading}
use Rattle.trie_image.specs.Paths.{owner, HasPath}
use Rattle.trie_image.specs.Cell.{IsTopCell, IsPrefixCell, IsCell, IsImage}
use Rattle.trie_image.specs.Same.{SameWords}
use Rattle.trie_image.proofs.Relinks.{Relinks}
use Rattle.trie_image.proofs.Owners.{chain_of, sparse_of, split_node_of, prefix_of, path_once}
use Rattle.trie_image.proofs.Readings.{publish}
use Rattle.trie_image.proofs.Children.{closed}
use Rattle.trie_image.proofs.Betters.{edge}

module _ (w w' : List ℕ) (g : Ledger) (each : (c : ℕ) (o : Owner) → owner g c ≡ Some o → IsCell w g c o) (p p' : ℕ) (link : Relinks w w' g p p') where
  -- the same, or the new pointer in place of the old one
  abbrev pub Turns : ℕ → ℕ → Type 0
  Turns x x' = (x' ≡ x) ⊎ ((x ≡ p) × (x' ≡ p'))

  turns_if : (t : Bool) (x x' y y' : ℕ) → Turns x x' → Turns y y' → Turns (cond t x y) (cond t x' y')
  turns_if true x x' y y' a b = a
  turns_if false x x' y y' a b = b

  same_field : (c i : ℕ) → SameWords w w' c → i < 8 → field w' c i ≡ field w c i
  same_field c i h l = ap (λ (x : ℕ). half_of x (i % 2 == 1)) (h (i / 2) (omega arith))

  chain_turns : (a : ℕ) (q : List ℕ) (b : ℕ) → kind_at a ≡ Some kind.Chain → HasPath g a q → Turns (chain_child w a b) (chain_child w' a b)
  chain_turns a q b k at = let i = chain_of g a q at k in let offset : (a ≢ 0) × (a < 2 ^ 31) × (a % 32 ≤ 27) = is_kind a (Some kind.Chain) k in
      let byte : cell_byte w' (a / 32) (a % 32) ≡ cell_byte w (a / 32) (a % 32) = link.bytes (a / 32) i.0 i.1 (a % 32) i.2 offset.2 in
      subst (λ (x : ℕ). Turns (chain_child w a b) (cond (x == b) (cond (a % 32 == 27) (field w' (a / 32) 7) (a + 1)) 0)) (sym byte)
      (turns_if (cell_byte w (a / 32) (a % 32) == b) (cond (a % 32 == 27) (field w (a / 32) 7) (a + 1)) (cond (a % 32 == 27) (field w' (a / 32) 7) (a + 1)) 0 0
      (turns_if (a % 32 == 27) (field w (a / 32) 7) (field w' (a / 32) 7) (a + 1) (a + 1) (link.fields (a / 32) 7 (omega arith)) (inl refl)) (inl refl))

  slot_turns : (c b : ℕ) (o : Option ℕ) → slot_at (word_of w c 3) b ≡ o → Turns (slot_child w c o) (slot_child w' c o)
  slot_turns c b None e = inl refl
  slot_turns c b (Some s) e = link.fields c s (let l = slot_small (word_of w c 3) b s e in omega (arith, l))

  sparse_turns : (c b : ℕ) (q : List ℕ) → owner g c ≡ Some (SparseCell q) → Turns (slot_child w c (slot_at (word_of w c 3) b)) (slot_child w' c (slot_at (word_of w' c 3) b))
  sparse_turns c b q o = subst (λ (x : ℕ). Turns (slot_child w c (slot_at (word_of w c 3) b)) (slot_child w' c (slot_at x b))) (sym (link.orders c q o)) (slot_turns c b (slot_at (word_of w c 3) b) refl)

  mid_turns : (m t i b : ℕ) → (m ≢ 0 → owner g (m / 32) ≡ Some (MidCell t i)) → Turns (mid_child w m b) (mid_child w' m b)
  mid_turns m t i b own = ⊎_elim
      (λ (z : m ≡ 0). inl (cond-true (m == 0) 0 (leaf_child w' (field w' (m / 32) (b / 8 % 8)) b) (eq-eqb m 0 z) ∙ sym (cond-true (m == 0) 0 (leaf_child w (field w (m / 32) (b / 8 % 8)) b) (eq-eqb m 0 z))))
      (λ (ne : m ≢ 0). let l : ℕ = field w (m / 32) (b / 8 % 8) in let e : field w' (m / 32) (b / 8 % 8) ≡ l = same_field (m / 32) (b / 8 % 8) (link.mids (m / 32) t i (own ne)) (omega arith) in
      turns_if (m == 0) 0 0 (leaf_child w l b) (leaf_child w' (field w' (m / 32) (b / 8 % 8)) b) (inl refl)
      (subst (λ (x : ℕ). Turns (leaf_child w l b) (leaf_child w' x b)) (sym e) (turns_if (l == 0) 0 0 (field w (l / 32) (b % 8)) (field w' (l / 32) (b % 8)) (inl refl) (link.fields (l / 32) (b % 8) (omega arith))))) (cases_eq m 0)

  split_node_turns : (c b : ℕ) (q : List ℕ) → owner g c ≡ Some (TopCell q) → Turns (split_child w c b) (split_child w' c b)
  split_node_turns c b q o = ⊎_elim
      (λ (t : nat_lt b 256 ≡ true). let small : b < 256 = ltb-true b 256 t in let ok : IsTopCell w g c q = each c (TopCell q) o in let e : field w' c (b / 64) ≡ field w c (b / 64) = same_field c (b / 64) (link.tops c q o) (omega arith) in
      turns_if (nat_lt b 256) (mid_child w (field w c (b / 64)) b) (mid_child w' (field w' c (b / 64)) b) 0 0 (subst (λ (x : ℕ). Turns (mid_child w (field w c (b / 64)) b) (mid_child w' x b)) (sym e) (mid_turns (field w c (b / 64)) c (b / 64) b (λ ne. ok.mids (b / 64) (omega arith) ne))) (inl refl))
      (λ (f : nat_lt b 256 ≡ false). inl (cond-false (nat_lt b 256) (mid_child w' (field w' c (b / 64)) b) 0 f ∙ sym (cond-false (nat_lt b 256) (mid_child w (field w c (b / 64)) b) 0 f))) (cases_Bool (nat_lt b 256))

  node_turns : (a : ℕ) (q : List ℕ) (b : ℕ) (k : Option Kind) → kind_at a ≡ k → HasPath g a q → Turns (node_child w a b k) (node_child w' a b k)
  node_turns a q b (Some kind.Chain) e at = chain_turns a q b e at
  node_turns a q b (Some kind.Sparse) e at = sparse_turns (a / 32) b q (sparse_of g a q at e)
  node_turns a q b (Some kind.Wide) e at = split_node_turns (a / 32) b q (split_node_of g a q at e)
  node_turns a q b _ e at = inl refl

  pub child_turns : (a : ℕ) (q : List ℕ) (b : ℕ) (k : Option Kind) → kind_at a ≡ k → HasPath g a q → Turns (child_of w a b k) (child_of w' a b k)
  child_turns a q b (Some kind.Prefix) e at = let o = prefix_of g a q at e in let n : ℕ = field w (a / 32) 1 in let same : field w' (a / 32) 1 ≡ n = same_field (a / 32) 1 (link.prefixes (a / 32) q o) (omega arith) in let ok : IsPrefixCell w g (a / 32) q = each (a / 32) (PrefixCell q) o in
      subst (λ (x : ℕ). Turns (node_child w n b (kind_at n)) (node_child w' x b (kind_at x))) (sym same) (node_turns n q b (kind_at n) refl ok.node)
  child_turns a q b (Some kind.Chain) e at = node_turns a q b (Some kind.Chain) e at
  child_turns a q b (Some kind.Sparse) e at = node_turns a q b (Some kind.Sparse) e at
  child_turns a q b (Some kind.Wide) e at = node_turns a q b (Some kind.Wide) e at
  child_turns a q b _ e at = inl refl
