-- The entries from a string on: what a byte of it parts off.
use Rattle.std.proofs.Common.{◌≡◌, ◌≢◌, ℕ, zero, suc, ◌+◌, ◌-◌, ◌/◌, ◌<◌, ◌≤◌, Bool, true, false, cond, not, List, [], ◌∷◌, ◌++◌, length, Option, Some, None, refl, sym, ap, ◌∙◌, subst, arith, ⊎_elim, eq-eqb, ne_eqb}
use Rattle.std.proofs.Common.{inl, inr}
use Rattle.std.specs.Prelude.{◌⊎◌}
use Rattle.std.proofs.lemmas.Bool.{cases_eq}
use Rattle.std.specs.declared.cmp.Ordering.{Ordering}
use Rattle.std.specs.declared.cmp.Ordering.TheVariants.{Greater}
use Rattle.std.specs.Ordering.{is_lt}
use Rattle.cell_layout.specs.declared.Kind.TheVariants.{Chain, Sparse, Wide, Prefix}
use Rattle.cell_layout.specs.Pointers.{kind_at}
use Rattle.key_types.specs.Table.{Entry, string_cmp}
use Rattle.trie_image.specs.declared.Ledger.{Ledger}
use Rattle.trie_image.specs.Image.{field, reading}
use Rattle.trie_image.specs.Paths.{HasPath}
use Rattle.trie_image.specs.WellFormed.{IsWellFormed}
use Rattle.shard_freeze.specs.declared.edges.Edge.{Edge}
use Rattle.shard_freeze.specs.Sorted.{reaches, entries_from}
use Rattle.shard_freeze.specs.Listing.{prefixed, own_entry, under_child, children_entries, entries_seen}
use Rattle.shard_freeze.specs.Edges.{IsLeastChild, LeastChild}
use Rattle.shard_freeze.specs.Cursor.{IsAbove}
use Rattle.shard_freeze.proofs.Entries.{cmp_same, cmp_less, cmp_more, AllFirst, HasFirst, all_lower, all_joined, all_behind}
use Rattle.shard_freeze.proofs.Lists.{under_first}
use Rattle.shard_freeze.proofs.Nodes.{prefix_is_node, prefix_node}
use Rattle.shard_freeze.proofs.Left.{under_least, under_end, under_same, opened, same_children}

pub from_joined : (s : List ℕ) (xs ys : List Entry) → entries_from s (xs ++ ys) ≡ entries_from s xs ++ entries_from s ys
from_joined s [] ys = refl
from_joined s (x ∷ xs) ys = by (reaches s x.0) (from_joined s xs ys)
  where
    by : (b : Bool) → entries_from s (xs ++ ys) ≡ entries_from s xs ++ entries_from s ys → cond b (x ∷ entries_from s (xs ++ ys)) (entries_from s (xs ++ ys)) ≡ cond b (x ∷ entries_from s xs) (entries_from s xs) ++ entries_from s ys
    by true e = ap (λ (es : List Entry). x ∷ es) e
    by false e = e

pub from_nothing : (es : List Entry) → entries_from [] es ≡ es
from_nothing [] = refl
from_nothing (e ∷ es) = by e.0 ∙ ap (λ (l : List Entry). e ∷ l) (from_nothing es)
  where
    by : (k : List ℕ) → cond (reaches [] k) (e ∷ entries_from [] es) (entries_from [] es) ≡ e ∷ entries_from [] es
    by [] = refl
    by (b ∷ k) = refl

from_less : (b c : ℕ) (rest : List ℕ) (es : List Entry) → c < b → entries_from (b ∷ rest) (prefixed (c ∷ []) es) ≡ []
from_less b c rest [] l = refl
from_less b c rest (e ∷ es) l = ap (λ (o : Ordering). cond (not (is_lt o)) ((c ∷ e.0, e.1) ∷ entries_from (b ∷ rest) (prefixed (c ∷ []) es)) (entries_from (b ∷ rest) (prefixed (c ∷ []) es))) (cmp_less c b e.0 rest l) ∙ from_less b c rest es l

from_same : (b : ℕ) (rest : List ℕ) (es : List Entry) → entries_from (b ∷ rest) (prefixed (b ∷ []) es) ≡ prefixed (b ∷ []) (entries_from rest es)
from_same b rest [] = refl
from_same b rest (e ∷ es) = ap (λ (o : Ordering). cond (not (is_lt o)) ((b ∷ e.0, e.1) ∷ entries_from (b ∷ rest) (prefixed (b ∷ []) es)) (entries_from (b ∷ rest) (prefixed (b ∷ []) es))) (cmp_same b e.0 rest)
    ∙ by (reaches rest e.0) (from_same b rest es)
  where
    by : (t : Bool) → entries_from (b ∷ rest) (prefixed (b ∷ []) es) ≡ prefixed (b ∷ []) (entries_from rest es) → cond t ((b ∷ e.0, e.1) ∷ entries_from (b ∷ rest) (prefixed (b ∷ []) es)) (entries_from (b ∷ rest) (prefixed (b ∷ []) es)) ≡ prefixed (b ∷ []) (cond t (e ∷ entries_from rest es) (entries_from rest es))
    by true h = ap (λ (l : List Entry). (b ∷ e.0, e.1) ∷ l) h
    by false h = h

from_more : (b : ℕ) (rest : List ℕ) (es : List Entry) → AllFirst (b + 1) es → entries_from (b ∷ rest) es ≡ es
from_more b rest [] h = refl
from_more b rest (e ∷ es) (h, hs) = ap (λ (o : Ordering). cond (not (is_lt o)) (e ∷ entries_from (b ∷ rest) es) (entries_from (b ∷ rest) es)) (by e.0 h) ∙ ap (λ (l : List Entry). e ∷ l) (from_more b rest es hs)
  where
    by : (k : List ℕ) → HasFirst (b + 1) k → string_cmp k (b ∷ rest) ≡ Greater
    by [] h = absurd h
    by (c ∷ k) h = cmp_more c b k rest (omega arith)

pub behind_nothing : (es : List Entry) → prefixed [] es ≡ es
behind_nothing [] = refl
behind_nothing (e ∷ es) = ap (λ (l : List Entry). e ∷ l) (behind_nothing es)

module _ (w : List ℕ) (value : ℕ → List ℕ) where
  child_less : (f : ℕ → List Entry) (b low c : ℕ) (rest : List ℕ) → low < b → entries_from (b ∷ rest) (under_child (reading w) value f low c) ≡ []
  child_less f b low c rest l = ⊎_elim
      (λ (z : c ≡ 0). refl_of z)
      (λ (ne : c ≢ 0). ap (entries_from (b ∷ rest)) (some ne) ∙ from_less b low rest (f c) l) (cases_eq c 0)
    where
      refl_of : c ≡ 0 → entries_from (b ∷ rest) (under_child (reading w) value f low c) ≡ []
      refl_of z = rw (eq-eqb c 0 z) refl

      some : c ≢ 0 → under_child (reading w) value f low c ≡ prefixed (low ∷ []) (f c)
      some ne = rw (ne_eqb c 0 ne) refl

  -- the children under lesser bytes are below
  under_parts : (f : ℕ → List Entry) (p b : ℕ) (rest : List ℕ) (d n low : ℕ) → low + d ≤ b → entries_from (b ∷ rest) (children_entries (reading w) value f p low (d + n)) ≡ entries_from (b ∷ rest) (children_entries (reading w) value f p (low + d) n)
  unfolding children_entries
  under_parts f p b rest zero n low l = let e : 0 + n ≡ n = omega arith in let a : low + 0 ≡ low = omega arith in
      ap (λ (m : ℕ). entries_from (b ∷ rest) (children_entries (reading w) value f p low m)) e ∙ ap (λ (x : ℕ). entries_from (b ∷ rest) (children_entries (reading w) value f p x n)) (sym a)
  under_parts f p b rest (suc d) n low l =
      let e : suc d + n ≡ suc (d + n) = omega arith in let a : low + 1 + d ≡ low + suc d = omega arith in let c : ℕ = (reading w).child p low in
      ap (λ (m : ℕ). entries_from (b ∷ rest) (children_entries (reading w) value f p low m)) e
      ∙ from_joined (b ∷ rest) (under_child (reading w) value f low c) (children_entries (reading w) value f p (low + 1) (d + n))
      ∙ ap (λ (es : List Entry). es ++ entries_from (b ∷ rest) (children_entries (reading w) value f p (low + 1) (d + n))) (child_less f b low c rest (omega arith))
      ∙ under_parts f p b rest d n (low + 1) (omega arith)
      ∙ ap (λ (x : ℕ). entries_from (b ∷ rest) (children_entries (reading w) value f p x n)) a

  pub under_from_byte : (f : ℕ → List Entry) (p b : ℕ) (rest : List ℕ) → b < 256 → entries_from (b ∷ rest) (children_entries (reading w) value f p 0 256) ≡ entries_from (b ∷ rest) (children_entries (reading w) value f p b (256 - b))
  under_from_byte f p b rest small = let e : 256 ≡ b + (256 - b) = omega arith in let z : 0 + b ≡ b = omega arith in
      ap (λ (m : ℕ). entries_from (b ∷ rest) (children_entries (reading w) value f p 0 m)) e ∙ under_parts f p b rest b (256 - b) 0 (omega arith)
      ∙ ap (λ (x : ℕ). entries_from (b ∷ rest) (children_entries (reading w) value f p x (256 - b))) z

  module _ (g : Ledger) (cells : ℕ) (ok : IsWellFormed w g cells) where
    later_first : (f : ℕ → List Entry) (p b low n : ℕ) → b < low → AllFirst (b + 1) (children_entries (reading w) value f p low n)
    later_first f p b low n l = all_lower (b + 1) low (children_entries (reading w) value f p low n) (omega arith) (under_first w g cells ok value f p low n)

    pub least_same : (f : ℕ → List Entry) (p b : ℕ) (rest : List ℕ) (e : Edge) → b < 256 → IsLeastChild ((reading w).child p) b e → e.byte ≡ b
        → entries_from (b ∷ rest) (children_entries (reading w) value f p 0 256) ≡ prefixed (e.byte ∷ []) (entries_from rest (f e.to)) ++ children_entries (reading w) value f p (e.byte + 1) (256 - (e.byte + 1))
    least_same f p b rest e small least same =
        let later : List Entry = children_entries (reading w) value f p (e.byte + 1) (256 - (e.byte + 1)) in
        under_from_byte f p b rest small
        ∙ ap (entries_from (b ∷ rest)) (under_least w value f p b e least)
        ∙ from_joined (b ∷ rest) (prefixed (e.byte ∷ []) (f e.to)) later
        ∙ ap (λ (es : List Entry). es ++ entries_from (b ∷ rest) later) (ap (λ (x : ℕ). entries_from (x ∷ rest) (prefixed (e.byte ∷ []) (f e.to))) (sym same) ∙ from_same e.byte rest (f e.to))
        ∙ ap (λ (es : List Entry). prefixed (e.byte ∷ []) (entries_from rest (f e.to)) ++ es) (from_more b rest later (later_first f p b (e.byte + 1) (256 - (e.byte + 1)) (omega (arith, same))))

    pub least_later : (f : ℕ → List Entry) (p b : ℕ) (rest : List ℕ) (e : Edge) → b < 256 → IsLeastChild ((reading w).child p) b e → e.byte ≢ b
        → entries_from (b ∷ rest) (children_entries (reading w) value f p 0 256) ≡ prefixed (e.byte ∷ []) (f e.to) ++ children_entries (reading w) value f p (e.byte + 1) (256 - (e.byte + 1))
    least_later f p b rest e small least other =
        let later : List Entry = children_entries (reading w) value f p (e.byte + 1) (256 - (e.byte + 1)) in let above : b < e.byte = omega (arith, least.least, other) in
        under_from_byte f p b rest small
        ∙ ap (entries_from (b ∷ rest)) (under_least w value f p b e least)
        ∙ from_more b rest (prefixed (e.byte ∷ []) (f e.to) ++ later)
        (all_joined (b + 1) (prefixed (e.byte ∷ []) (f e.to)) later (all_lower (b + 1) e.byte (prefixed (e.byte ∷ []) (f e.to)) (omega arith) (all_behind e.byte (f e.to))) (later_first f p b (e.byte + 1) (256 - (e.byte + 1)) (omega arith)))

    pub least_none : (f : ℕ → List Entry) (p b : ℕ) (rest : List ℕ) → b < 256 → LeastChild ((reading w).child p) b None → entries_from (b ∷ rest) (children_entries (reading w) value f p 0 256) ≡ []
    least_none f p b rest small none = under_from_byte f p b rest small ∙ ap (entries_from (b ∷ rest)) (under_end w value f p b (omega arith) none)

    own_below : (o : Option ℕ) (b : ℕ) (rest : List ℕ) (ys : List Entry) → entries_from (b ∷ rest) (own_entry (reading w) value o ++ ys) ≡ entries_from (b ∷ rest) ys
    own_below None b rest ys = refl
    own_below (Some cell) b rest ys = refl

    pub above_same : (here node : ℕ) (key : List ℕ) (b : ℕ) (rest : List ℕ) → HasPath g here key → ((c : ℕ) → (reading w).child here c ≡ (reading w).child node c)
        → entries_from (b ∷ rest) (entries_seen (reading w) value (2048 - length key) here) ≡ entries_from (b ∷ rest) (children_entries (reading w) value (entries_seen (reading w) value (2047 - length key)) node 0 256)
    above_same here node key b rest at same =
        ap (entries_from (b ∷ rest)) (opened w value g cells ok here key at)
        ∙ own_below ((reading w).record_at here) b rest (children_entries (reading w) value (entries_seen (reading w) value (2047 - length key)) here 0 256)
        ∙ ap (entries_from (b ∷ rest)) (under_same w value (entries_seen (reading w) value (2047 - length key)) here node same 256 0)

module _ (w : List ℕ) (g : Ledger) (cells : ℕ) (ok : IsWellFormed w g cells) where
  node_third : (p : ℕ) (q : List ℕ) → HasPath g p q → kind_at p ≡ Some Prefix → kind_at (field w (p / 32) 1) ≢ Some Prefix
  node_third p q at k z = by (prefix_is_node w g cells ok p q at k)
    where
      by : (kind_at (field w (p / 32) 1) ≡ Some Chain) ⊎ ((kind_at (field w (p / 32) 1) ≡ Some Sparse) ⊎ (kind_at (field w (p / 32) 1) ≡ Some Wide)) → ⊥
      by (inl e) = cc
      by (inr (inl e)) = cc
      by (inr (inr e)) = cc

  pub above_prefix : (p node : ℕ) (q : List ℕ) → HasPath g p q → kind_at p ≡ Some Prefix → node ≡ field w (p / 32) 1 → IsAbove w g q p node
  above_prefix p node q at k is = subst (λ (x : ℕ). IsAbove w g q p x) (sym is) record {
    path = prefix_node w g cells ok p q at k;
    kind = node_third p q at k;
    same = λ value b rest. above_same w value g cells ok p (field w (p / 32) 1) q b rest at (same_children w value g cells ok p (field w (p / 32) 1) k refl (prefix_is_node w g cells ok p q at k));
  }

  pub above_itself : (p : ℕ) (q : List ℕ) → HasPath g p q → kind_at p ≢ Some Prefix → IsAbove w g q p p
  above_itself p q at third = record { path = at; kind = third; same = λ value b rest. above_same w value g cells ok p p q b rest at (λ c. refl) }
