-- A byte of a string on the way of a walk to it.
use Rattle.std.proofs.Common.{◌≡◌, ◌≢◌, ℕ, ◌+◌, ◌-◌, ◌<◌, ◌≤◌, List, [], ◌∷◌, ◌++◌, length, take, None, refl, sym, ap, ◌∙◌, subst, arith, ne_eqb, append_assoc, append-nil, length-append}
use Rattle.key_types.specs.Table.{Entry}
use Rattle.trie_image.specs.declared.Ledger.{Ledger}
use Rattle.trie_image.specs.Image.{reading}
use Rattle.trie_image.specs.WellFormed.{IsWellFormed}
use Rattle.shard_freeze.specs.declared.edges.Edge.{Edge}
use Rattle.shard_freeze.specs.declared.walk.Level.{Level}
use Rattle.shard_freeze.specs.Sorted.{entries_from}
use Rattle.shard_freeze.specs.Listing.{prefixed, children_entries, entries_seen, entries_seen_from}
use Rattle.shard_freeze.specs.Edges.{IsLeastChild, LeastChild}
use Rattle.shard_freeze.specs.Walk.{level_left, levels_left, left_by_parts, IsAt, kept_levels}
use Rattle.shard_freeze.specs.Cursor.{IsAbove}
use Rattle.shard_freeze.proofs.Left.{behind_joined, behind_twice, under_least}
use Rattle.shard_freeze.proofs.Levels.{same_front, kept_are, kept_left, levels_same, passed_left}
use Rattle.shard_freeze.proofs.Moves.{level_at, whole_key, opened_level, enters_at, enters_left}
use Rattle.shard_freeze.proofs.Sought.{least_same, least_later, least_none, behind_nothing, from_nothing}

-- what is left, where of the walk's pointer only the entries from a string on are
abbrev pub sought_at : List ℕ → (ℕ → List ℕ) → List ℕ → List ℕ → List Level → Level → ℕ → List Entry
sought_at w value rest key below top here = prefixed key (entries_from rest (entries_seen_from (reading w) value (2048 - length key) here)) ++ (level_left (reading w) value key top ++ levels_left (reading w) value key below)

module _ (k k' : List ℕ) (b b' : List Level) (t t' : Level) (h h' : ℕ) (ks : k' ≡ k) (bs : b' ≡ b) (ts : t' ≡ t) (hs : h' ≡ h) where
  pub sought_as : (w : List ℕ) (value : ℕ → List ℕ) (rest : List ℕ) → sought_at w value rest k' b' t' h' ≡ sought_at w value rest k b t h
  sought_as w value rest = ap (λ (x : List ℕ). sought_at w value rest x b' t' h') ks ∙ ap (λ (x : List Level). sought_at w value rest k x t' h') bs ∙ ap (λ (x : Level). sought_at w value rest k b x h') ts ∙ ap (λ (x : ℕ). sought_at w value rest k b t x) hs

module _ (w : List ℕ) (g : Ledger) (cells : ℕ) (ok : IsWellFormed w g cells) (key : List ℕ) (below : List Level) (top : Level) (here : ℕ) (at : IsAt g key below top here) (ne : here ≢ 0) (node b : ℕ) (above : IsAbove w g key here node) (small : b < 256) where
  pub seeks_none : LeastChild ((reading w).child node) b None → (value : ℕ → List ℕ) (rest : List ℕ) → sought_at w value (b ∷ rest) key below top here ≡ left_by_parts (reading w) value key below top 0
  seeks_none none value rest = ap (λ (es : List Entry). prefixed key es ++ (level_left (reading w) value key top ++ levels_left (reading w) value key below)) nothing
    where
      nothing : entries_from (b ∷ rest) (entries_seen_from (reading w) value (2048 - length key) here) ≡ []
      nothing = rw (ne_eqb here 0 ne) (above.same value b rest ∙ least_none w value g cells ok (entries_seen (reading w) value (2047 - length key)) node b rest small none)

  module _ (e : Edge) (least : IsLeastChild ((reading w).child node) b e) where
    opened : IsAt g key (kept_levels below top) (level_at node b (length key)) 0
    opened = record {
      top_is = opened_level w g cells ok key below top here at node b above.path above.kind (omega (arith, small));
      below_are = kept_are g key (length key) top below at.below_are at.top_is at.top_is.depth;
      here_is = λ z. absurd (z refl);
    }

    whole : take (length key) key ++ e.byte ∷ [] ≡ key ++ e.byte ∷ []
    whole = ap (λ (x : List ℕ). x ++ e.byte ∷ []) (whole_key key)

    pub seeks_at : IsAt g (key ++ e.byte ∷ []) (kept_levels below top) (level_at node (e.byte + 1) (length key)) e.to
    seeks_at = subst (λ (x : List ℕ). IsAt g x (kept_levels below top) (level_at node (e.byte + 1) (length key)) e.to) whole (enters_at w g cells ok key (kept_levels below top) (level_at node b (length key)) 0 opened small e least)

    module _ (value : ℕ → List ℕ) (rest : List ℕ) where
      from_here : entries_from (b ∷ rest) (entries_seen_from (reading w) value (2048 - length key) here) ≡ entries_from (b ∷ rest) (children_entries (reading w) value (entries_seen (reading w) value (2047 - length key)) node 0 256)
      from_here = rw (ne_eqb here 0 ne) (above.same value b rest)

      pub seeks_later : e.byte ≢ b → sought_at w value (b ∷ rest) key below top here ≡ left_by_parts (reading w) value (key ++ e.byte ∷ []) (kept_levels below top) (level_at node (e.byte + 1) (length key)) e.to
      seeks_later other =
          let under_it : List Entry = children_entries (reading w) value (entries_seen (reading w) value (2047 - length key)) node b (256 - b) in
          let same : entries_from (b ∷ rest) (entries_seen_from (reading w) value (2048 - length key) here) ≡ under_it =
          from_here ∙ least_later w value g cells ok (entries_seen (reading w) value (2047 - length key)) node b rest e small least other ∙ sym (under_least w value (entries_seen (reading w) value (2047 - length key)) node b e least) in
          ap (λ (es : List Entry). prefixed key es ++ (level_left (reading w) value key top ++ levels_left (reading w) value key below)) same
          ∙ ap (λ (q : List ℕ). prefixed q under_it ++ (level_left (reading w) value key top ++ levels_left (reading w) value key below)) (sym (whole_key key))
          ∙ ap (λ (es : List Entry). prefixed (take (length key) key) under_it ++ es) (sym (kept_left w value key top below))
          ∙ sym (enters_left w g cells ok key (kept_levels below top) (level_at node b (length key)) 0 opened small e least value)
          ∙ ap (λ (x : List ℕ). left_by_parts (reading w) value x (kept_levels below top) (level_at node (e.byte + 1) (length key)) e.to) whole

      new_length : length (key ++ e.byte ∷ []) ≡ length key + 1
      new_length = length-append key (e.byte ∷ [])

      pub seeks_same : e.byte ≡ b → sought_at w value (b ∷ rest) key below top here ≡ sought_at w value rest (key ++ e.byte ∷ []) (kept_levels below top) (level_at node (e.byte + 1) (length key)) e.to
      seeks_same same =
          let later : List Entry = children_entries (reading w) value (entries_seen (reading w) value (2047 - length key)) node (e.byte + 1) (256 - (e.byte + 1)) in
          let part : List Entry = entries_from rest (entries_seen (reading w) value (2047 - length key) e.to) in
          let room : 2048 - length (key ++ e.byte ∷ []) ≡ 2047 - length key = omega (arith, new_length) in
          let child : entries_seen_from (reading w) value (2048 - length (key ++ e.byte ∷ [])) e.to ≡ entries_seen (reading w) value (2047 - length key) e.to = rw (ne_eqb e.to 0 least.there) (ap (λ (n : ℕ). entries_seen (reading w) value n e.to) room) in
          let front : prefixed key (prefixed (e.byte ∷ []) part) ≡ prefixed (key ++ e.byte ∷ []) (entries_from rest (entries_seen_from (reading w) value (2048 - length (key ++ e.byte ∷ [])) e.to)) =
          behind_twice key (e.byte ∷ []) part ∙ ap (λ (es : List Entry). prefixed (key ++ e.byte ∷ []) (entries_from rest es)) (sym child) in
          let cut : take (length key) (key ++ e.byte ∷ []) ≡ key = ap (take (length key)) (sym whole) ∙ same_front key (e.byte ∷ []) (length key) (length key) (omega arith) (omega arith) ∙ whole_key key in
          let node_left : prefixed key later ≡ level_left (reading w) value (key ++ e.byte ∷ []) (level_at node (e.byte + 1) (length key)) = ap (λ (q : List ℕ). prefixed q later) (sym cut) in
          let levels : level_left (reading w) value key top ++ levels_left (reading w) value key below ≡ levels_left (reading w) value (key ++ e.byte ∷ []) (kept_levels below top) =
          sym (kept_left w value key top below)
          ∙ sym (levels_same w value g key (e.byte ∷ []) (length key) 0 (length key) (kept_levels below top) (kept_are g key (length key) top below at.below_are at.top_is at.top_is.depth) (omega arith) (omega arith))
          ∙ ap (λ (x : List ℕ). levels_left (reading w) value x (kept_levels below top)) whole in
          ap (λ (es : List Entry). prefixed key es ++ (level_left (reading w) value key top ++ levels_left (reading w) value key below)) (from_here ∙ least_same w value g cells ok (entries_seen (reading w) value (2047 - length key)) node b rest e small least same)
          ∙ ap (λ (es : List Entry). es ++ (level_left (reading w) value key top ++ levels_left (reading w) value key below)) (behind_joined key (prefixed (e.byte ∷ []) part) later)
          ∙ append_assoc (prefixed key (prefixed (e.byte ∷ []) part)) (prefixed key later) (level_left (reading w) value key top ++ levels_left (reading w) value key below)
          ∙ ap (λ (es : List Entry). es ++ (prefixed key later ++ (level_left (reading w) value key top ++ levels_left (reading w) value key below))) front
          ∙ ap (λ (es : List Entry). prefixed (key ++ e.byte ∷ []) (entries_from rest (entries_seen_from (reading w) value (2048 - length (key ++ e.byte ∷ [])) e.to)) ++ (es ++ (level_left (reading w) value key top ++ levels_left (reading w) value key below))) node_left
          ∙ ap (λ (es : List Entry). prefixed (key ++ e.byte ∷ []) (entries_from rest (entries_seen_from (reading w) value (2048 - length (key ++ e.byte ∷ [])) e.to)) ++ (level_left (reading w) value (key ++ e.byte ∷ []) (level_at node (e.byte + 1) (length key)) ++ es)) levels

-- where the walk is at none
pub seeks_nowhere : (w : List ℕ) (value : ℕ → List ℕ) (rest key : List ℕ) (below : List Level) (top : Level) → sought_at w value rest key below top 0 ≡ left_by_parts (reading w) value key below top 0
seeks_nowhere w value rest key below top = refl

-- where the string has no byte left
pub sought_all : (w : List ℕ) (value : ℕ → List ℕ) (key : List ℕ) (below : List Level) (top : Level) (here : ℕ) → sought_at w value [] key below top here ≡ left_by_parts (reading w) value key below top here
sought_all w value key below top here = ap (λ (es : List Entry). prefixed key es ++ (level_left (reading w) value key top ++ levels_left (reading w) value key below)) (from_nothing (entries_seen_from (reading w) value (2048 - length key) here))

-- at the root
pub sought_root : (w : List ℕ) (value : ℕ → List ℕ) (rest key : List ℕ) (below : List Level) (top : Level) (here : ℕ) → key ≡ [] → below ≡ [] → 256 ≤ top.next
    → entries_from rest (entries_seen_from (reading w) value 2048 here) ≡ sought_at w value rest key below top here
sought_root w value rest key below top here no_key none past =
    let es : List Entry = entries_from rest (entries_seen_from (reading w) value 2048 here) in
    sym (append-nil es)
    ∙ ap (λ (xs : List Entry). xs ++ []) (sym (behind_nothing es))
    ∙ ap (λ (xs : List Entry). prefixed [] es ++ (xs ++ [])) (sym (passed_left w value [] top past))
    ∙ sym (sought_as [] key [] below top top here here no_key none refl refl w value rest)
