-- A put that adds a child to a sparse node: the words after its stores, and the image that the publishing one leaves.
use Rattle.std.proofs.Common.{◌≡◌, ◌≢◌, ℕ, ◌+◌, ◌*◌, ◌/◌, ◌%◌, ◌^◌, ◌<◌, ◌≤◌, ◌==◌, List, [], ◌∷◌, ◌++◌, length, set, slice_index, Option, Some, None, refl, sym, ap, ◌∙◌, subst, inl, inr, ⊎_elim, arith, append_assoc, length-set, get_or-set_other, get_or-set_same}
use Rattle.std.proofs.lemmas.Bool.{cases_eq}
use Rattle.cell_layout.specs.Words.{half_of, with_half_of, ItemsAreBytes}
use Rattle.cell_layout.specs.Pointers.{kind_at}
use Rattle.cell_layout.specs.Slots.{slot_at, child_count, word_with, AddsChild}
use Rattle.cell_layout.proofs.Halves.{this_half}
use Rattle.cell_layout.proofs.Added.{adds_child, added_new, added_old}
use Rattle.trie_image.specs.declared.Owner.{Owner}
use Rattle.trie_image.specs.declared.Owner.TheVariants.{HeadCell, SparseCell, TopCell, MidCell, LeafCell, PrefixCell}
use Rattle.trie_image.specs.declared.Ledger.{Ledger}
use Rattle.trie_image.specs.declared.StoreKind.TheVariants.{Prepare, Publish}
use Rattle.trie_image.specs.declared.exit.Stand.{Stand}
use Rattle.trie_image.specs.declared.exit.Meets.TheVariants as meets
use Rattle.trie_image.specs.Reading.{sees_from, Better}
use Rattle.trie_image.specs.Image.{word_of, field, slot_child, node_child, child_of, reading, root_of}
use Rattle.trie_image.specs.Paths.{owner, HasPath}
use Rattle.trie_image.specs.Cell.{IsSparseCell}
use Rattle.trie_image.specs.WellFormed.{IsWellFormed}
use Rattle.trie_image.specs.Same.{SameWords, IsSame}
use Rattle.trie_image.specs.Exit.{exit_with}
use Rattle.trie_image.specs.Stores.{field_store, store_at, entry_of, cost}
use Rattle.trie_image.specs.After.{after}
use Rattle.trie_image.specs.Publish.{put_at, with_put, IsPublished}
use Rattle.trie_image.specs.Puts.{IsValue}
use Rattle.trie_image.proofs.Owners.{sparse_of, prefix_of}
use Rattle.trie_image.proofs.Kept.{keeps, same_field, set_same, root_same, own_inside}
use Rattle.trie_image.proofs.Homes.{Over, itself, by_prefix}
use Rattle.trie_image.proofs.Exits.{over_children}
use Rattle.trie_image.proofs.Leaves.{MetSparse}
use Rattle.trie_image.proofs.CellWords.{Stands}
use Rattle.trie_image.proofs.NewOwners.{first_owners}
use Rattle.trie_image.proofs.HomeChanges.{Publishes}
use Rattle.trie_image.proofs.PutLedger.{ledger_after}
use Rattle.trie_image.proofs.PutCases.{bytes_after, sparse_put}
use Rattle.trie_image.proofs.SparseWords.{sparse_fits}
use Rattle.trie_image.proofs.Published.{better_entry}
use Rattle.trie_image.proofs.Cases.{chain_stands, entry_small, entry_reads}
use Rattle.trie_image.proofs.Prepared.{same_trans, free_next}
use Rattle.trie_image.proofs.Left.{still_stand}
use Rattle.trie_image.proofs.Ready.{ready, body, first_cell, few, further_near, below, same, stands, long, owned_record}
use Rattle.trie_image.proofs.Seen.{by_byte}
use Rattle.trie_image.proofs.NewSplits.{AreNewOwners, none_new, both_new, first_new}
use Rattle.trie_image.proofs.Whole.{KeepsCells, IsRecorded, changes_old, law, well_formed, places_kept}

module _ (w : List ℕ) (g : Ledger) (cells : ℕ) (key value : List ℕ) (ok : IsWellFormed w g cells) (capacity : length g.owners + cost (length key) (length value) ≤ cells) (bytes : ItemsAreBytes key) (s : Stand) (taken : ℕ) (m : MetSparse w g key s taken) (short : length m.rest ≤ length key) where
  -- the words after the new cells, after the free slot, and after the order word
  abbrev pub made : List ℕ
  made = ready w g cells key value ok.image capacity (exit_with meets.Sparse s taken) m.rest m.byte short

  abbrev pub entry : ℕ
  entry = entry_of (length g.owners) value m.rest

  abbrev pub place : ℕ
  place = child_count (word_of w s.cell 3)

  abbrev pub slotted : List ℕ
  slotted = after made (field_store w s.cell place entry Prepare ∷ [])

  abbrev pub ordered : List ℕ
  ordered = after slotted (store_at (4 * s.cell + 3) (word_with (word_of w s.cell 3) m.byte) Publish ∷ [])

  pub own : owner g s.cell ≡ Some (SparseCell m.path)
  own = let r = m.reached in subst (λ (c : ℕ). owner g c ≡ Some (SparseCell m.path)) m.here (sparse_of g s.at m.path r.node m.is_sparse)

  inside : s.cell < length g.owners
  inside = own_inside g.owners s.cell (SparseCell m.path) own

  fits : entry < 2 ^ 32
  fits = entry_small (length g.owners) value m.rest (first_cell w g cells key value ok.image capacity (exit_with meets.Sparse s taken) m.rest m.byte short) (let n = further_near w g cells key value ok.image capacity (exit_with meets.Sparse s taken) m.rest m.byte short in omega (arith, n))

  same_made : IsSame w made g
  same_made = same w g cells key value ok.image capacity (exit_with meets.Sparse s taken) m.rest m.byte short

  word_made : (k : ℕ) → k < 4 → word_of made s.cell k ≡ word_of w s.cell k
  word_made k l = below w g cells key value ok.image capacity (exit_with meets.Sparse s taken) m.rest m.byte short (4 * s.cell + k) (let i = inside in omega arith)

  same_slotted : IsSame made slotted g
  same_slotted = subst (λ (x : ℕ). IsSame made (set made (4 * s.cell + place / 2) (with_half_of x (place % 2 == 1) entry)) g) (word_made (place / 2) (let r = m.capacity in omega arith))
      (subst (λ (x : ℕ). IsSame made (set made (4 * s.cell + child_count x / 2) (with_half_of (word_of made s.cell (child_count x / 2)) (child_count x % 2 == 1) entry)) g) (word_made 3 (omega arith))
      (free_next made g cells s.cell entry m.path ((keeps w made g cells ok.image same_made).0) own (subst (λ (x : ℕ). child_count x < 6) (sym (word_made 3 (omega arith))) m.capacity) fits))

  -- the stores before the publishing one change nothing that a pointer with a path reads
  pub same_before : IsSame w slotted g
  same_before = same_trans w made slotted g same_made same_slotted

  far : 4 * length g.owners ≤ length made
  far = long w g cells key value ok.image capacity (exit_with meets.Sparse s taken) m.rest m.byte short

  slot_is : field slotted s.cell place ≡ entry
  slot_is = ap (λ (x : ℕ). half_of x (place % 2 == 1)) (get_or-set_same made (4 * s.cell + place / 2) (with_half_of (word_of w s.cell (place / 2)) (place % 2 == 1) entry) 0 (let r = m.capacity in let i = inside in omega (arith, far)))
      ∙ this_half (word_of w s.cell (place / 2)) entry (place % 2 == 1) fits

  stands_slotted : Stands slotted (length g.owners) (body w g cells key value ok.image capacity (exit_with meets.Sparse s taken) m.rest m.byte short)
  stands_slotted = still_stand made (length g.owners) (4 * s.cell + place / 2) (with_half_of (word_of w s.cell (place / 2)) (place % 2 == 1) entry) (body w g cells key value ok.image capacity (exit_with meets.Sparse s taken) m.rest m.byte short) (let r = m.capacity in let i = inside in omega arith)
      (stands w g cells key value ok.image capacity (exit_with meets.Sparse s taken) m.rest m.byte short)

  stands_ordered : Stands ordered (length g.owners) (body w g cells key value ok.image capacity (exit_with meets.Sparse s taken) m.rest m.byte short)
  stands_ordered = still_stand slotted (length g.owners) (4 * s.cell + 3) (word_with (word_of w s.cell 3) m.byte) (body w g cells key value ok.image capacity (exit_with meets.Sparse s taken) m.rest m.byte short) (let i = inside in omega arith) stands_slotted

  -- what the new order word finds
  cell : IsSparseCell w g s.cell m.path
  cell = ok.image.each s.cell (SparseCell m.path) own

  adds : AddsChild (word_of w s.cell 3) (word_with (word_of w s.cell 3) m.byte) m.byte
  adds = adds_child (word_of w s.cell 3) m.byte (sparse_fits (word_of w s.cell 3) cell.sparse) (bytes_after m.path (m.byte ∷ m.rest) key m.whole bytes 0) m.capacity cell.sparse m.absent

  order_is : word_of ordered s.cell 3 ≡ word_with (word_of w s.cell 3) m.byte
  order_is = get_or-set_same slotted (4 * s.cell + 3) (word_with (word_of w s.cell 3) m.byte) 0 (let i = inside in let e = length-set made (4 * s.cell + place / 2) (with_half_of (word_of w s.cell (place / 2)) (place % 2 == 1) entry) in omega (arith, far, e))

  finds_new : slot_at (word_of ordered s.cell 3) m.byte ≡ Some place
  finds_new = ap (λ (x : ℕ). slot_at x m.byte) order_is ∙ added_new (word_of w s.cell 3) (word_with (word_of w s.cell 3) m.byte) m.byte (let r = m.capacity in omega arith) adds.bytes m.absent

  slot_ordered : field ordered s.cell place ≡ entry
  slot_ordered = ap (λ (x : ℕ). half_of x (place % 2 == 1)) (get_or-set_other slotted (4 * s.cell + 3) (4 * s.cell + place / 2) (word_with (word_of w s.cell 3) m.byte) 0 (let r = m.capacity in λ z. omega arith)) ∙ slot_is

  -- a cell other than the node's
  apart : (c : ℕ) → c ≢ s.cell → SameWords slotted ordered c
  apart c ne = set_same slotted (4 * s.cell + 3) (word_with (word_of w s.cell 3) m.byte) c (λ k l z. ne (omega arith))

  apart_own : (c : ℕ) (o : Owner) → owner g c ≡ Some o → (o ≡ SparseCell m.path → ⊥) → c ≢ s.cell
  apart_own c o e ne z = let two : Some o ≡ Some (SparseCell m.path) = sym e ∙ subst (λ (x : ℕ). owner g x ≡ Some (SparseCell m.path)) (sym z) own in let is : o ≡ SparseCell m.path = cc in ne is

  full : (c i : ℕ) → SameWords w slotted c → c ≢ s.cell → i < 8 → field ordered c i ≡ field w c i
  full c i h ne l = same_field slotted ordered c i (apart c ne) l ∙ same_field w slotted c i h l

  root_stays : root_of ordered ≡ root_of w
  root_stays = root_same slotted (4 * s.cell + 3) (word_with (word_of w s.cell 3) m.byte) (λ z. omega arith) ∙ same_before.cells 0 HeadCell ok.image.head

  over_node : (y : ℕ) → Over w g y s.at → HasPath g y m.path → Over ordered g y s.at
  over_node y (itself e) at = itself e
  over_node y (by_prefix k e) at = let o = prefix_of g y m.path at k in by_prefix k (full (y / 32) 1 (same_before.cells (y / 32) (PrefixCell m.path) o) (apart_own (y / 32) (PrefixCell m.path) o (λ x. cc)) (omega arith) ∙ e)

  -- the last pointer of the walk leads to the entry
  leads : (last : ℕ) → Over ordered g last s.at → child_of ordered last m.byte (kind_at last) ≡ entry
  leads last over = over_children ordered g last s.at m.byte (inr (inl m.is_sparse)) over ∙ (ap (λ k. node_child ordered s.at m.byte k) m.is_sparse
      ∙ (ap (λ (c : ℕ). slot_child ordered c (slot_at (word_of ordered c 3) m.byte)) m.here ∙ (ap (λ (o : Option ℕ). slot_child ordered s.cell o) finds_new ∙ slot_ordered)))

  slots_stay : (c b n : ℕ) (q : List ℕ) → owner g c ≡ Some (SparseCell q) → slot_at (word_of w c 3) b ≡ Some n → slot_at (word_of ordered c 3) b ≡ Some n
  slots_stay c b n q e is = ⊎_elim
      (λ (z : s.cell ≡ c). let here : slot_at (word_of w s.cell 3) b ≡ Some n = ap (λ (x : ℕ). slot_at (word_of w x 3) b) z ∙ is in
      let ne : b ≢ m.byte = λ y. let two : None ≡ Some n = sym m.absent ∙ (ap (λ (x : ℕ). slot_at (word_of w s.cell 3) x) (sym y) ∙ here) in absurd (cc) in
      subst (λ (x : ℕ). slot_at (word_of ordered x 3) b ≡ Some n) z (ap (λ (x : ℕ). slot_at x b) order_is ∙ (added_old (word_of w s.cell 3) (word_with (word_of w s.cell 3) m.byte) m.byte b adds.bytes ne ∙ here)))
      (λ (ne : s.cell ≢ c). let h = same_before.cells c (SparseCell q) e in ap (λ (x : ℕ). slot_at x b) (apart c (λ z. ne (sym z)) 3 (omega arith) ∙ h.0) ∙ is) (cases_eq s.cell c)

  left : KeepsCells w ordered g
  left = record {
    tops = λ c i q e l ne. full c i (same_before.cells c (TopCell q) e) (apart_own c (TopCell q) e (λ x. cc)) l;
    mids = λ c t j i e l ne. full c i (same_before.cells c (MidCell t j) e) (apart_own c (MidCell t j) e (λ x. cc)) l;
    leaves = λ c t i j n e l ne z. ne (sym (full c n (same_before.cells c (LeafCell t i j) e) (apart_own c (LeafCell t i j) e (λ x. cc)) l) ∙ z);
    slots = slots_stay;
  }

  whole : (m.path ++ m.byte ∷ []) ++ m.rest ≡ key
  whole = append_assoc m.path (m.byte ∷ []) m.rest ∙ m.whole

  better : Better (reading ordered) 0 entry m.rest (length g.owners)
  better = let far_ = first_cell w g cells key value ok.image capacity (exit_with meets.Sparse s taken) m.rest m.byte short in let near = further_near w g cells key value ok.image capacity (exit_with meets.Sparse s taken) m.rest m.byte short in
      better_entry ordered (length g.owners) (few w g cells key value ok.image capacity (exit_with meets.Sparse s taken) m.rest m.byte short) entry m.rest
      (entry_reads (length g.owners) value m.rest far_ (omega (arith, near)) ordered (bytes_after (m.path ++ m.byte ∷ []) m.rest key whole bytes)
      (chain_stands w ordered (length g.owners) (slice_index w 0 + 1) value m.rest (exit_with meets.Sparse s taken) m.byte stands_ordered))

  module _ (counted : length g.puts ≡ slice_index w 0) (least : 1 ≤ length key) (most : length key ≤ 2048) (small : IsValue value) where
    published : Publishes slotted ordered (ledger_after g (length g.owners) key value (m.path ++ m.byte ∷ []) m.rest []) cells 0 entry (m.path ++ m.byte ∷ []) key (length g.owners)
    published = sparse_put w slotted g cells (length g.owners) key value ok.image same_before refl counted capacity bytes s taken 0 m stands_slotted slot_is

    -- the new owners
    abbrev pub new_cells : List Owner
    new_cells = first_owners (length g.puts) value (m.path ++ m.byte ∷ []) m.rest ++ []

    seen : sees_from (reading ordered) (root_of ordered) key ≡ Some (length g.owners)
    seen = by_byte w ordered g cells ok.image key (length g.owners) 0 entry (m.path ++ m.byte ∷ []) m.rest whole better
        (changes_old w slotted ordered g cells new_cells (put_at key value (length g.owners)) 0 entry (m.path ++ m.byte ∷ []) m.rest ok same_before published whole better)
        m.path m.byte m.reached.last root_stays m.reached.walks m.reached.last_path refl (leads m.reached.last (over_node m.reached.last m.reached.over m.reached.last_path))

    news : AreNewOwners ordered (with_put g new_cells (put_at key value (length g.owners))) key (length g.owners) new_cells
    news = both_new ordered (with_put g new_cells (put_at key value (length g.owners))) key (length g.owners) (length g.owners + length (first_owners (length g.puts) value (m.path ++ m.byte ∷ []) m.rest)) (first_owners (length g.puts) value (m.path ++ m.byte ∷ []) m.rest) [] refl
        (first_new ordered (with_put g new_cells (put_at key value (length g.owners))) key (length g.owners) (length g.puts) value (m.path ++ m.byte ∷ []) m.rest whole)
        (none_new ordered (with_put g new_cells (put_at key value (length g.owners))) key (length g.owners + length (first_owners (length g.puts) value (m.path ++ m.byte ∷ []) m.rest)))

    recorded : IsRecorded (with_put g new_cells (put_at key value (length g.owners))) (length g.puts) (put_at key value (length g.owners))
    recorded = record { cells = λ j l. owned_record g value (m.path ++ m.byte ∷ []) m.rest [] (put_at key value (length g.owners)) j l; key = (least, most, bytes); value = small }

    -- the image after the publishing store
    pub sparse_published : IsPublished w ordered g cells new_cells (put_at key value (length g.owners))
    sparse_published = record {
      well_formed = well_formed w slotted ordered g cells new_cells (put_at key value (length g.owners)) 0 entry (m.path ++ m.byte ∷ []) m.rest ok same_before published whole better seen (inl root_stays) left news recorded;
      pointers = law w slotted ordered g cells new_cells (put_at key value (length g.owners)) 0 entry (m.path ++ m.byte ∷ []) m.rest ok same_before published whole better;
      places = places_kept w slotted ordered g cells new_cells (put_at key value (length g.owners)) 0 entry (m.path ++ m.byte ∷ []) m.rest ok same_before published whole better seen (inl root_stays) left news recorded;
    }
