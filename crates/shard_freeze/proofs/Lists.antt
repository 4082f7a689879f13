-- What the root lists is the sorted map of the puts: it ascends, and each key finds in it the value of its last put.
use Rattle.std.proofs.Common.{◌≡◌, ◌≢◌, ℕ, zero, suc, ◌+◌, ◌<◌, ◌≤◌, List, [], ◌∷◌, ◌++◌, length, slice_index, Option, Some, None, refl, sym, ap, ◌∙◌, subst, arith, eq-eqb, ne_eqb, length-append}
use Rattle.std.proofs.Common.{⊎_elim}
use Rattle.std.proofs.lemmas.Bool.{cases_eq}
use Rattle.std.specs.Prelude.{T}
use Rattle.std.specs.FinMap as map_of
use Rattle.std.specs.FinMap.Entries.{find, is_sorted}
use Rattle.std.specs.Cmp.Lexicographic.{nat_list_cmp_total}
use Rattle.key_types.specs.Table.{Entry, Table, string_cmp, value_over}
use Rattle.trie_image.specs.declared.Ledger.{Ledger}
use Rattle.trie_image.specs.Reading.{sees, sees_from}
use Rattle.trie_image.specs.Image.{reading, root_of}
use Rattle.trie_image.specs.Paths.{HasPath}
use Rattle.trie_image.specs.WellFormed.{IsWellFormed}
use Rattle.trie_image.proofs.Children.{closed}
use Rattle.trie_image.proofs.Readings.{sees_none, sees_there}
use Rattle.shard_freeze.specs.Sorted.{entries_made, table_made}
use Rattle.shard_freeze.specs.Listing.{record_value, prefixed, own_entry, under_child, children_entries, entries_seen, entries_seen_from, LawLists}
use Rattle.shard_freeze.proofs.Entries.{AllFirst, all_lower, all_joined, all_behind, sorted_next, sorted_own, find_later, find_empty, find_past, find_here}
use Rattle.shard_freeze.proofs.Puts.{value_found}

at_length : (q rest : List ℕ) (b : ℕ) → slice_index ((q ++ b ∷ []) ++ rest) (length q) ≡ b
at_length [] rest b = refl
at_length (x ∷ q) rest b = at_length q rest b

over_none : (o : Option (List ℕ)) → value_over o None ≡ o
over_none (Some x) = refl
over_none None = refl

module _ (w : List ℕ) (g : Ledger) (cells : ℕ) (ok : IsWellFormed w g cells) where
  -- paths have at most the bytes of a key
  pub path_fits : (p : ℕ) (q : List ℕ) → HasPath g p q → length q ≤ 2048
  path_fits p q at = let i = ok.paths p q at in let key = ok.puts.keys i.0 i.1 i.3 in omega (arith, key.1, ap length i.4, length-append q i.2)

  pub child_path : (p b : ℕ) (q : List ℕ) → HasPath g p q → (reading w).child p b ≢ 0 → HasPath g ((reading w).child p b) (q ++ b ∷ [])
  child_path p b q at ne = closed w g ok.image.each p q b at ne

  pub child_byte : (p b : ℕ) (q : List ℕ) → HasPath g p q → (reading w).child p b ≢ 0 → b < 256
  child_byte p b q at ne = let i = ok.paths ((reading w).child p b) (q ++ b ∷ []) (child_path p b q at ne) in let key = ok.puts.keys i.0 i.1 i.3 in
      let small : slice_index (i.1).key (length q) < 256 = key.2 (length q) in
      let is : slice_index (i.1).key (length q) ≡ b = ap (λ (x : List ℕ). slice_index x (length q)) i.4 ∙ at_length q i.2 b in
      subst (λ (x : ℕ). x < 256) is small

  pub child_length : (p b : ℕ) (q : List ℕ) → HasPath g p q → (reading w).child p b ≢ 0 → length q + 1 ≤ 2048
  child_length p b q at ne = omega (arith, path_fits ((reading w).child p b) (q ++ b ∷ []) (child_path p b q at ne), length-append q (b ∷ []))

  module _ (value : ℕ → List ℕ) where
    abbrev valued : Option ℕ → Option (List ℕ)
    valued None = None
    valued (Some cell) = Some (value cell)

    no_child : (f : ℕ → List Entry) (b c : ℕ) → c ≡ 0 → under_child (reading w) value f b c ≡ []
    no_child f b c z = rw (eq-eqb c 0 z) refl

    a_child : (f : ℕ → List Entry) (b c : ℕ) → c ≢ 0 → under_child (reading w) value f b c ≡ prefixed (b ∷ []) (f c)
    a_child f b c ne = rw (ne_eqb c 0 ne) refl

    -- ---- order

    child_first : (f : ℕ → List Entry) (b c : ℕ) → AllFirst b (under_child (reading w) value f b c)
    child_first f b c = ⊎_elim (λ (z : c ≡ 0). subst (AllFirst b) (sym (no_child f b c z)) tt) (λ (ne : c ≢ 0). subst (AllFirst b) (sym (a_child f b c ne)) (all_behind b (f c))) (cases_eq c 0)

    pub under_first : (f : ℕ → List Entry) (p low n : ℕ) → AllFirst low (children_entries (reading w) value f p low n)
    unfolding children_entries
    under_first f p low zero = tt
    under_first f p low (suc n) = all_joined low (under_child (reading w) value f low ((reading w).child p low)) (children_entries (reading w) value f p (low + 1) n) (child_first f low ((reading w).child p low))
        (all_lower low (low + 1) (children_entries (reading w) value f p (low + 1) n) (omega arith) (under_first f p (low + 1) n))

    under_sorted : (f : ℕ → List Entry) → ((x : ℕ) → T (is_sorted string_cmp (f x))) → (p low n : ℕ) → T (is_sorted string_cmp (children_entries (reading w) value f p low n))
    unfolding children_entries
    under_sorted f h p low zero = tt
    under_sorted f h p low (suc n) = let c : ℕ = (reading w).child p low in let rest : List Entry = children_entries (reading w) value f p (low + 1) n in
        ⊎_elim (λ (z : c ≡ 0). subst (λ (xs : List Entry). T (is_sorted string_cmp (xs ++ rest))) (sym (no_child f low c z)) (under_sorted f h p (low + 1) n))
        (λ (ne : c ≢ 0). subst (λ (xs : List Entry). T (is_sorted string_cmp (xs ++ rest))) (sym (a_child f low c ne)) (sorted_next low (f c) rest (h c) (under_first f p (low + 1) n) (under_sorted f h p (low + 1) n))) (cases_eq c 0)

    own_sorted : (o : Option ℕ) (ys : List Entry) → AllFirst 0 ys → T (is_sorted string_cmp ys) → T (is_sorted string_cmp (own_entry (reading w) value o ++ ys))
    own_sorted None ys h hs = hs
    own_sorted (Some cell) ys h hs = sorted_own (value cell) ys h hs

    own_alone : (o : Option ℕ) → T (is_sorted string_cmp (own_entry (reading w) value o))
    own_alone None = tt
    own_alone (Some cell) = tt

    pub listed_sorted : (n p : ℕ) → T (is_sorted string_cmp (entries_seen (reading w) value n p))
    unfolding entries_seen
    listed_sorted zero p = own_alone ((reading w).record_at p)
    listed_sorted (suc n) p = own_sorted ((reading w).record_at p) (children_entries (reading w) value (entries_seen (reading w) value n) p 0 256) (under_first (entries_seen (reading w) value n) p 0 256)
        (under_sorted (entries_seen (reading w) value n) (λ x. listed_sorted n x) p 0 256)

    -- ---- what a key finds

    under_lacks : (f : ℕ → List Entry) (p c : ℕ) (k : List ℕ) → (reading w).child p c ≡ 0 → (n low : ℕ) → find string_cmp (c ∷ k) (children_entries (reading w) value f p low n) ≡ None
    unfolding children_entries
    under_lacks f p c k none zero low = refl
    under_lacks f p c k none (suc n) low = let d : ℕ = (reading w).child p low in let rest : List Entry = children_entries (reading w) value f p (low + 1) n in
        ⊎_elim (λ (z : d ≡ 0). ap (λ (xs : List Entry). find string_cmp (c ∷ k) (xs ++ rest)) (no_child f low d z))
        (λ (ne : d ≢ 0). ap (λ (xs : List Entry). find string_cmp (c ∷ k) (xs ++ rest)) (a_child f low d ne)
        ∙ find_past low c k (f d) rest (λ e. ne (ap (λ (x : ℕ). (reading w).child p x) (sym e) ∙ none))) (cases_eq d 0)
        ∙ under_lacks f p c k none n (low + 1)

    under_finds : (f : ℕ → List Entry) (p c : ℕ) (k : List ℕ) → (reading w).child p c ≢ 0 → (n low : ℕ) → low ≤ c → c < low + n → find string_cmp (c ∷ k) (children_entries (reading w) value f p low n) ≡ find string_cmp k (f ((reading w).child p c))
    unfolding children_entries
    under_finds f p c k some zero low l m = absurd (omega arith)
    under_finds f p c k some (suc n) low l m = let d : ℕ = (reading w).child p low in let rest : List Entry = children_entries (reading w) value f p (low + 1) n in
        ⊎_elim
        (λ (e : c ≡ low). let here : d ≡ (reading w).child p c = ap (λ (x : ℕ). (reading w).child p x) (sym e) in
        ap (λ (xs : List Entry). find string_cmp (c ∷ k) (xs ++ rest)) (ap (λ (x : ℕ). under_child (reading w) value f low x) here ∙ a_child f low ((reading w).child p c) some ∙ ap (λ (x : ℕ). prefixed (x ∷ []) (f ((reading w).child p c))) (sym e))
        ∙ find_here c k (f ((reading w).child p c)) rest
        ∙ ap (value_over (find string_cmp k (f ((reading w).child p c)))) (find_later c k rest (subst (λ (x : ℕ). AllFirst (x + 1) rest) (sym e) (under_first f p (low + 1) n)))
        ∙ over_none (find string_cmp k (f ((reading w).child p c))))
        (λ (ne : c ≢ low).
        ⊎_elim (λ (z : d ≡ 0). ap (λ (xs : List Entry). find string_cmp (c ∷ k) (xs ++ rest)) (no_child f low d z))
        (λ (there : d ≢ 0). ap (λ (xs : List Entry). find string_cmp (c ∷ k) (xs ++ rest)) (a_child f low d there) ∙ find_past low c k (f d) rest ne) (cases_eq d 0)
        ∙ under_finds f p c k some n (low + 1) (omega (arith, ne)) (omega (arith, ne)))
        (cases_eq c low)

    own_finds : (o : Option ℕ) (ys : List Entry) → AllFirst 0 ys → find string_cmp [] (own_entry (reading w) value o ++ ys) ≡ valued o
    own_finds None ys h = find_empty ys h
    own_finds (Some cell) ys h = refl

    own_passed : (o : Option ℕ) (c : ℕ) (k : List ℕ) (ys : List Entry) → find string_cmp (c ∷ k) (own_entry (reading w) value o ++ ys) ≡ find string_cmp (c ∷ k) ys
    own_passed None c k ys = refl
    own_passed (Some cell) c k ys = refl

    none_own : (o : Option ℕ) (c : ℕ) (k : List ℕ) → find string_cmp (c ∷ k) (own_entry (reading w) value o) ≡ None
    none_own None c k = refl
    none_own (Some cell) c k = refl

    own_only : (o : Option ℕ) → find string_cmp [] (own_entry (reading w) value o) ≡ valued o
    own_only None = refl
    own_only (Some cell) = refl

    none_valued : (o : Option ℕ) → o ≡ None → valued o ≡ None
    none_valued o e = ap valued e

    pub listed_finds : (n p : ℕ) (q : List ℕ) → HasPath g p q → length q + n ≡ 2048 → (k : List ℕ) → find string_cmp k (entries_seen (reading w) value n p) ≡ valued (sees (reading w) p k)
    unfolding entries_seen
    listed_finds zero p q at whole [] = own_only ((reading w).record_at p)
    listed_finds zero p q at whole (c ∷ k) = none_own ((reading w).record_at p) c k
        ∙ sym (none_valued (sees_from (reading w) ((reading w).child p c) k) (⊎_elim (λ (z : (reading w).child p c ≡ 0). sees_none (reading w) ((reading w).child p c) k z) (λ (ne : (reading w).child p c ≢ 0). absurd (omega (arith, child_length p c q at ne))) (cases_eq ((reading w).child p c) 0)))
    listed_finds (suc n) p q at whole [] = own_finds ((reading w).record_at p) (children_entries (reading w) value (entries_seen (reading w) value n) p 0 256) (under_first (entries_seen (reading w) value n) p 0 256)
    listed_finds (suc n) p q at whole (c ∷ k) = own_passed ((reading w).record_at p) c k (children_entries (reading w) value (entries_seen (reading w) value n) p 0 256)
        ∙ ⊎_elim
        (λ (z : (reading w).child p c ≡ 0). under_lacks (entries_seen (reading w) value n) p c k z 256 0 ∙ sym (none_valued (sees_from (reading w) ((reading w).child p c) k) (sees_none (reading w) ((reading w).child p c) k z)))
        (λ (ne : (reading w).child p c ≢ 0). under_finds (entries_seen (reading w) value n) p c k ne 256 0 (omega arith) (child_byte p c q at ne)
        ∙ listed_finds n ((reading w).child p c) (q ++ c ∷ []) (child_path p c q at ne) (omega (arith, length-append q (c ∷ []))) k
        ∙ ap valued (sym (sees_there (reading w) ((reading w).child p c) k ne)))
        (cases_eq ((reading w).child p c) 0)

    from_finds : (k : List ℕ) → find string_cmp k (entries_seen_from (reading w) value 2048 (root_of w)) ≡ valued (sees_from (reading w) (root_of w) k)
    from_finds k = ⊎_elim
        (λ (z : root_of w ≡ 0). rw (eq-eqb (root_of w) 0 z) refl)
        (λ (ne : root_of w ≢ 0). rw (ne_eqb (root_of w) 0 ne) (listed_finds 2048 (root_of w) [] (ok.image.root ne) refl k))
        (cases_eq (root_of w) 0)

    from_sorted_list : T (is_sorted string_cmp (entries_seen_from (reading w) value 2048 (root_of w)))
    from_sorted_list = ⊎_elim
        (λ (z : root_of w ≡ 0). rw (eq-eqb (root_of w) 0 z) tt)
        (λ (ne : root_of w ≢ 0). rw (ne_eqb (root_of w) 0 ne) (listed_sorted 2048 (root_of w)))
        (cases_eq (root_of w) 0)

  root_list : List Entry
  root_list = entries_seen_from (reading w) (record_value g.puts) 2048 (root_of w)

  finds_table : (k : List ℕ) → find string_cmp k (entries_seen_from (reading w) (record_value g.puts) 2048 (root_of w)) ≡ map_of.get (table_made g.puts) k
  finds_table k = from_finds (record_value g.puts) k ∙ value_found w g cells ok k (sees_from (reading w) (root_of w) k) (ok.map k)

  pub root_lists : entries_seen_from (reading w) (record_value g.puts) 2048 (root_of w) ≡ entries_made g.puts
  root_lists = let es : List Entry = entries_seen_from (reading w) (record_value g.puts) 2048 (root_of w) in let up : T (is_sorted string_cmp es) = from_sorted_list (record_value g.puts) in
      sym (map_of.entries-from_sorted string_cmp es up)
      ∙ ap (λ (t : Table). map_of.entries t) (map_of.same_map nat_list_cmp_total (map_of.slice_cmp-IsAntisymmetric map_of.nat_cmp-IsAntisymmetric) (map_of.from_sorted es) (table_made g.puts)
      (λ k. map_of.get-from_sorted string_cmp es k up ∙ finds_table k))

pub lists : LawLists
lists w g cells ok = root_lists w g cells ok
