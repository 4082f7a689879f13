-- For each case that a walk met, but a sparse node with room: the image after the publishing store has the put.
use Rattle.std.proofs.Common.{◌≡◌, ◌≢◌, ◌⊎◌, ℕ, ◌+◌, ◌-◌, ◌*◌, ◌/◌, ◌%◌, ◌^◌, ◌<◌, ◌≤◌, ◌==◌, List, [], ◌∷◌, ◌++◌, length, slice_index, Some, refl, sym, ap, ◌∙◌, subst, inl, inr, arith, append_assoc, append-nil, length-append}
use Rattle.std.proofs.lemmas.Bool.{cond_both, cond-true, eq-eqb}
use Rattle.cell_layout.specs.declared.Kind.TheVariants as kind
use Rattle.cell_layout.specs.Pointers.{kind_at}
use Rattle.cell_layout.proofs.PointerKinds.{is_kind}
use Rattle.cell_layout.specs.Cells.{lone_words}
use Rattle.cell_layout.proofs.Added.{slot_small}
use Rattle.cell_layout.specs.Words.{ItemsAreBytes}
use Rattle.cell_layout.specs.Slots.{slot_at}
use Rattle.trie_image.specs.declared.Put.{Put}
use Rattle.trie_image.specs.declared.Owner.{Owner}
use Rattle.trie_image.specs.declared.Owner.TheVariants.{HeadCell, ChainCell, SparseCell, TopCell, MidCell, LeafCell, PrefixCell}
use Rattle.trie_image.specs.declared.Ledger.{Ledger}
use Rattle.trie_image.specs.declared.exit.Stand.{Stand}
use Rattle.trie_image.specs.declared.exit.Meets.{Meets}
use Rattle.trie_image.specs.declared.exit.Meets.TheVariants.{Content, Nothing, OtherByte, End, Full, NoLeaf, NoMid, PastContent}
use Rattle.trie_image.specs.Reading.{sees_from, Reads, Better}
use Rattle.trie_image.specs.Image.{word_of, field, slot_child, split_child, child_of, content_record, reading, root_of}
use Rattle.trie_image.specs.Paths.{owner}
use Rattle.trie_image.specs.Cell.{IsPrefixCell}
use Rattle.trie_image.specs.WellFormed.{IsWellFormed}
use Rattle.trie_image.specs.Same.{IsSame}
use Rattle.trie_image.specs.Exit.{exit_with}
use Rattle.trie_image.specs.Body.{over_passed, further, seven, leaf_field}
use Rattle.trie_image.specs.Stores.{content_of, entry_of, first_further, body_words, prepares, cost}
use Rattle.trie_image.specs.After.{after}
use Rattle.trie_image.specs.Publish.{put_at, IsPublished}
use Rattle.trie_image.specs.Puts.{IsValue}
use Rattle.trie_image.proofs.Owners.{get_front, grown, sparse_of}
use Rattle.trie_image.proofs.Kept.{own_inside, not_first}
use Rattle.trie_image.proofs.CellWords.{Stands, stands_front, stands_back, lone_field}
use Rattle.trie_image.proofs.HomeStores.{stored_field}
use Rattle.trie_image.proofs.HomeChanges.{Publishes}
use Rattle.trie_image.proofs.Homes.{Home, IsOfPrefix, IsSplitAt, root, tail, slot, leaf, content, node}
use Rattle.trie_image.proofs.Leaves.{StandsAt, MetContent, MetNothing, MetOtherByte, MetEnd, MetFull, MetNoLeaf, MetNoMid, MetPastContent}
use Rattle.trie_image.proofs.Exits.{IsNode, node_nonzero}
use Rattle.trie_image.proofs.NewPointers.{offset_kind, content_there, content_record_is}
use Rattle.trie_image.proofs.NewOwners.{passed_owners, first_owners, further_owners, length_first_owners}
use Rattle.trie_image.proofs.NewSplits.{AreNewOwners, Towards, none_new, one_more, both_new, first_new, passed_new}
use Rattle.trie_image.proofs.Cases.{field_small, reads_nonzero, chain_stands, further_stands, entry_small, entry_is_chain, entry_reads, content_better, nothing_better, other_better, end_better, full_better, past_better}
use Rattle.trie_image.proofs.NewChains.{Owns, get_back, owner_first}
use Rattle.trie_image.proofs.SplitNodes.{has_new, split_there}
use Rattle.trie_image.proofs.SplitNodeOwners.{split_node_new}
use Rattle.trie_image.proofs.Turned.{Turned, turned_now, mid_leads, top_leads, root_stays}
use Rattle.trie_image.proofs.Published.{better_entry}
use Rattle.trie_image.proofs.Seen.{by_home, by_byte}
use Rattle.trie_image.proofs.Whole.{KeepsCells, IsRecorded, changes_old, law, well_formed, places_kept}
use Rattle.trie_image.proofs.Left.{home_leaves, home_root, leaves_by}
use Rattle.trie_image.proofs.Ready.{first_cell, few, further_near, same, stands, turned, stands_after, owned_record}
use Rattle.trie_image.proofs.PutCases.{content_put, nothing_put, other_put, end_put, full_put, leaf_put, mid_put, past_put, bytes_after, over_node}

-- the new child of a split node made from a sparse one
new_leaf : (w : List ℕ) (c b entry : ℕ) → leaf_field w c b entry b ≡ entry
unfolding leaf_field
new_leaf w c b entry = cond-true (b == b) entry (slot_child w c (slot_at (word_of w c 3) b)) (eq-eqb b b refl)

module _ (w : List ℕ) (g : Ledger) (cells : ℕ) (key value : List ℕ) (wf : IsWellFormed w g cells) (counted : length g.puts ≡ slice_index w 0) (least : 1 ≤ length key) (most : length key ≤ 2048) (short_value : IsValue value) (capacity : length g.owners + cost (length key) (length value) ≤ cells) (bytes : ItemsAreBytes key) where
  put : Put
  put = put_at key value (length g.owners)

  -- from what the store leaves, and the better pointer, to the image with the put
  published_by : (w1 w' : List ℕ) (value_start rest : List ℕ) (more : List Owner) (p p' : ℕ) (h rest' : List ℕ) (same1 : IsSame w w1 g) (publishes : Publishes w1 w' (grown g (first_owners (length g.puts) value value_start rest ++ more) (put_at key value (length g.owners) ∷ [])) cells p p' h key (length g.owners))
      (is_key : h ++ rest' ≡ key) (better : Better (reading w') p p' rest' (length g.owners)) → sees_from (reading w') (root_of w') key ≡ Some (length g.owners) → (root_of w' ≡ root_of w) ⊎ ((root_of w ≡ p) × (root_of w' ≡ p') × (h ≡ [])) → KeepsCells w w' g
      → AreNewOwners w' (grown g (first_owners (length g.puts) value value_start rest ++ more) (put_at key value (length g.owners) ∷ [])) key (length g.owners) (first_owners (length g.puts) value value_start rest ++ more)
      → IsPublished w w' g cells (first_owners (length g.puts) value value_start rest ++ more) (put_at key value (length g.owners))
  published_by w1 w' start rest more p p' h rest' same1 publishes is_key better seen turns left news =
      let recorded : IsRecorded (grown g (first_owners (length g.puts) value start rest ++ more) (put_at key value (length g.owners) ∷ [])) (length g.puts) (put_at key value (length g.owners)) = record { cells = λ j l. owned_record g value start rest more (put_at key value (length g.owners)) j l; key = (least, most, bytes); value = short_value } in record {
        well_formed = well_formed w w1 w' g cells (first_owners (length g.puts) value start rest ++ more) (put_at key value (length g.owners)) p p' h rest' wf same1 publishes is_key better seen turns left news recorded;
        pointers = law w w1 w' g cells (first_owners (length g.puts) value start rest ++ more) (put_at key value (length g.owners)) p p' h rest' wf same1 publishes is_key better;
        places = places_kept w w1 w' g cells (first_owners (length g.puts) value start rest ++ more) (put_at key value (length g.owners)) p p' h rest' wf same1 publishes is_key better seen turns left news recorded;
      }

  -- a word of a cell that isn't cell 0
  after_head : (cell place : ℕ) (o : Owner) → owner g cell ≡ Some o → (o ≡ HeadCell → ⊥) → 1 ≤ 4 * cell + place / 2
  after_head cell place o own ne = let z : cell ≢ 0 = not_first g cell o wf.image.head own ne in omega arith

  pub home_inside : (q : List ℕ) (cell place : ℕ) → Home w g q cell place → (cell < length g.owners) × (place < 8) × (1 ≤ 4 * cell + place / 2)
  home_inside q cell place (root e c i) = (let l = own_inside g.owners 0 HeadCell wf.image.head in omega arith, omega arith, omega arith)
  home_inside q cell place (tail f) = (own_inside g.owners cell (ChainCell f.from q) f.own, let e = f.is_place in omega arith, after_head cell place (ChainCell f.from q) f.own (λ z. cc))
  home_inside q cell place (slot f) = (own_inside g.owners cell (SparseCell f.before) f.own, let l = slot_small (word_of w cell 3) f.byte place f.slot in omega arith, after_head cell place (SparseCell f.before) f.own (λ z. cc))
  home_inside q cell place (leaf f) = (own_inside g.owners cell _ f.leaf.own, let e = f.is_place in omega arith, after_head cell place _ f.leaf.own (λ z. cc))
  home_inside q cell place (content f e) = (own_inside g.owners cell (PrefixCell q) f.own, omega arith, after_head cell place (PrefixCell q) f.own (λ z. cc))
  home_inside q cell place (node f e) = (own_inside g.owners cell (PrefixCell q) f.own, omega arith, after_head cell place (PrefixCell q) f.own (λ z. cc))

  short : (path rest : List ℕ) → path ++ rest ≡ key → length rest ≤ length key
  short path rest e = let l = ap (λ (x : List ℕ). length x) e in omega (arith, l, length-append path rest)

  -- the words after the stores into new cells in a case
  abbrev prepared : Meets → Stand → ℕ → List ℕ → ℕ → List ℕ
  prepared meets s taken rest b = after w (prepares (4 * length g.owners) (body_words w (length g.owners) (slice_index w 0 + 1) value rest (exit_with meets s taken) b))

  abbrev ledger_of : List ℕ → List ℕ → List Owner → Ledger
  ledger_of start rest more = grown g (first_owners (length g.puts) value start rest ++ more) (put_at key value (length g.owners) ∷ [])

  -- the cases of a pointer in a home
  home_published : (meets : Meets) (s : Stand) (taken : ℕ) (start rest : List ℕ) (b : ℕ) (more : List Owner) (q m path rest' : List ℕ) (p' : ℕ) → start ++ rest ≡ key → StandsAt w g q m path s → p' ≢ 0 → p' < 2 ^ 32
      → Publishes (prepared meets s taken rest b) (stored_field (prepared meets s taken rest b) s.cell s.field p') (ledger_of start rest more) cells s.entered p' q key (length g.owners)
      → (is_key : q ++ rest' ≡ key) → Better (reading (stored_field (prepared meets s taken rest b) s.cell s.field p')) s.entered p' rest' (length g.owners)
      → (IsOfPrefix w g q s.cell → s.field ≡ 1 → IsNode p' × (rest' ≢ [])) → (IsOfPrefix w g q s.cell → s.field ≡ 0 → (rest' ≡ []) × (content_record p' (kind_at p') ≡ Some (length g.owners)))
      → AreNewOwners (stored_field (prepared meets s taken rest b) s.cell s.field p') (ledger_of start rest more) key (first_further (length g.owners) value rest) more
      → IsPublished w (stored_field (prepared meets s taken rest b) s.cell s.field p') g cells (first_owners (length g.puts) value start rest ++ more) (put_at key value (length g.owners))
  home_published meets s taken start rest b more q m path rest' p' whole st there fits publishes is_key better at_node at_content news =
      let w1 : List ℕ = prepared meets s taken rest b in let w' : List ℕ = stored_field w1 s.cell s.field p' in let l = home_inside q s.cell s.field st.home in let sh = short start rest whole in
      let same1 : IsSame w (prepared meets s taken rest b) g = same w g cells key value wf.image capacity (exit_with meets s taken) rest b sh in
      let t : Turned w (stored_field (prepared meets s taken rest b) s.cell s.field p') (length g.owners) s.cell s.field p' = turned w g cells key value wf.image capacity (exit_with meets s taken) rest b sh s.cell s.field p' l.0 l.1 fits in
      let changes = changes_old w w1 w' g cells (first_owners (length g.puts) value start rest ++ more) (put_at key value (length g.owners)) s.entered p' q rest' wf same1 publishes is_key better in
      published_by w1 w' start rest more s.entered p' q rest' same1 publishes is_key better
      (by_home w w' g cells wf.image key (length g.owners) s.entered p' q rest' is_key better changes s.cell s.field t st.home (λ f. record { at_node = at_node f; at_content = at_content f }))
      (home_root w w' g cells wf.image q s.cell s.field s.entered p' st.home st.held t)
      (home_leaves w w' g cells wf.image q s.cell s.field s.entered p' st.home st.held t there)
      (both_new w' (ledger_of start rest more) key (length g.owners) (first_further (length g.owners) value rest) (first_owners (length g.puts) value start rest) more (omega (arith, length_first_owners (length g.puts) value start rest))
      (first_new w' (ledger_of start rest more) key (length g.owners) (length g.puts) value start rest whole) news)

  -- what a prefix cell in which the walk stands holds
  held_node : (q m path : List ℕ) (s : Stand) → StandsAt w g q m path s → IsOfPrefix w g q s.cell → s.field ≡ 1 → IsNode s.entered
  held_node q m path s st f e = let cell : IsPrefixCell w g s.cell q = wf.image.each s.cell (PrefixCell q) f.own in subst IsNode (ap (λ (x : ℕ). field w s.cell x) (sym e) ∙ st.held) cell.is_node

  held_content : (q m path : List ℕ) (s : Stand) → StandsAt w g q m path s → IsOfPrefix w g q s.cell → s.field ≡ 0 → kind_at s.entered ≡ Some kind.Content
  held_content q m path s st f e = let cell : IsPrefixCell w g s.cell q = wf.image.each s.cell (PrefixCell q) f.own in ap (λ (x : ℕ). kind_at x) (sym (ap (λ (x : ℕ). field w s.cell x) (sym e) ∙ st.held)) ∙ cell.is_content

  no_node_content : (p : ℕ) → IsNode p → kind_at p ≡ Some kind.Content → ⊥
  no_node_content p (inl k) e = let two : Some kind.Chain ≡ Some kind.Content = sym k ∙ e in cc
  no_node_content p (inr (inl k)) e = let two : Some kind.Sparse ≡ Some kind.Content = sym k ∙ e in cc
  no_node_content p (inr (inr k)) e = let two : Some kind.Wide ≡ Some kind.Content = sym k ∙ e in cc

  node_low : (p : ℕ) → IsNode p → p < 2 ^ 31
  node_low p (inl k) = let l : (p ≢ 0) × (p < 2 ^ 31) × (p % 32 ≤ 27) = is_kind p (Some kind.Chain) k in l.1
  node_low p (inr (inl k)) = let l : (p ≢ 0) × (p < 2 ^ 31) × (p % 32 ≡ 30) = is_kind p (Some kind.Sparse) k in l.1
  node_low p (inr (inr k)) = let l : (p ≢ 0) × (p < 2 ^ 31) × (p % 32 ≡ 28) = is_kind p (Some kind.Wide) k in l.1

  -- content stands below no node
  below_node : (q m path : List ℕ) (s : Stand) → StandsAt w g q m path s → IsNode s.at → IsOfPrefix w g q s.cell → s.field ≡ 0 → ⊥
  below_node q m path s st is f e = let c : 2 ^ 31 ≤ s.entered = is_kind s.entered (Some kind.Content) (held_content q m path s st f e) in let l = node_low s.at is in omega (arith, st.forward)

  module _ (meets : Meets) (s : Stand) (taken : ℕ) (start rest : List ℕ) (b : ℕ) (whole : start ++ rest ≡ key) where
    rest_bytes : ItemsAreBytes rest
    rest_bytes = bytes_after start rest key whole bytes

    low : 1 ≤ length g.owners
    low = first_cell w g cells key value wf.image capacity (exit_with meets s taken) rest b (short start rest whole)

    near : first_further (length g.owners) value rest + 16 ≤ 2 ^ 22
    near = further_near w g cells key value wf.image capacity (exit_with meets s taken) rest b (short start rest whole)

    small_used : length g.owners < 2 ^ 31
    small_used = few w g cells key value wf.image capacity (exit_with meets s taken) rest b (short start rest whole)

    same_ready : IsSame w (prepared meets s taken rest b) g
    same_ready = same w g cells key value wf.image capacity (exit_with meets s taken) rest b (short start rest whole)

    ready_stands : Stands (prepared meets s taken rest b) (length g.owners) (body_words w (length g.owners) (slice_index w 0 + 1) value rest (exit_with meets s taken) b)
    ready_stands = stands w g cells key value wf.image capacity (exit_with meets s taken) rest b (short start rest whole)

    small_entry : entry_of (length g.owners) value rest < 2 ^ 32
    small_entry = entry_small (length g.owners) value rest low (omega (arith, near))

    -- after the store in a field
    module _ (cell place p' : ℕ) (inside : cell < length g.owners) (small : place < 8) (fits : p' < 2 ^ 32) where
      turns : Turned w (stored_field (prepared meets s taken rest b) cell place p') (length g.owners) cell place p'
      turns = turned w g cells key value wf.image capacity (exit_with meets s taken) rest b (short start rest whole) cell place p' inside small fits

      stands_now : Stands (stored_field (prepared meets s taken rest b) cell place p') (length g.owners) (body_words w (length g.owners) (slice_index w 0 + 1) value rest (exit_with meets s taken) b)
      stands_now = stands_after w g cells key value wf.image capacity (exit_with meets s taken) rest b (short start rest whole) cell place p' inside small fits

      reads_now : Reads (reading (stored_field (prepared meets s taken rest b) cell place p')) (entry_of (length g.owners) value rest) rest (content_of (length g.owners))
      reads_now = entry_reads (length g.owners) value rest low (omega (arith, near)) (stored_field (prepared meets s taken rest b) cell place p') rest_bytes
          (chain_stands w (stored_field (prepared meets s taken rest b) cell place p') (length g.owners) (slice_index w 0 + 1) value rest (exit_with meets s taken) b stands_now)

      further_now : Stands (stored_field (prepared meets s taken rest b) cell place p') (first_further (length g.owners) value rest) (further w meets s b (first_further (length g.owners) value rest) (content_of (length g.owners)) (entry_of (length g.owners) value rest))
      further_now = further_stands w (stored_field (prepared meets s taken rest b) cell place p') (length g.owners) (slice_index w 0 + 1) value rest (exit_with meets s taken) b stands_now

  pub content_published : (s : Stand) (taken b : ℕ) (m : MetContent w g key s) → IsPublished w (stored_field (prepared Content s taken [] b) s.cell s.field (content_of (length g.owners))) g cells (first_owners (length g.puts) value key [] ++ []) (put_at key value (length g.owners))
  content_published s taken b m = let st = m.stands in let l = home_inside key s.cell s.field st.home in let whole = append-nil key in
      let fits : content_of (length g.owners) < 2 ^ 32 = omega arith in let few_ = small_used Content s taken key [] b whole in
      let t = turns Content s taken key [] b whole s.cell s.field (content_of (length g.owners)) l.0 l.1 fits in
      home_published Content s taken key [] b [] key [] key [] (content_of (length g.owners)) whole st (content_there w (length g.owners) few_) fits
      (content_put w (prepared Content s taken [] b) g cells (length g.owners) key value wf.image (same_ready Content s taken key [] b whole) refl counted capacity bytes s taken b 0 m (ready_stands Content s taken key [] b whole)) whole
      (content_better w (stored_field (prepared Content s taken [] b) s.cell s.field (content_of (length g.owners))) g cells wf.image s (content_of (length g.owners)) t (length g.owners) 1 0 (omega arith) (omega arith) few_ (omega arith) key m)
      (λ f e. absurd (no_node_content s.entered (held_node key [] key s st f e) (ap (λ (x : ℕ). kind_at x) st.reads ∙ m.is_content))) (λ f e. (refl, content_record_is w (length g.owners) few_)) (none_new (stored_field (prepared Content s taken [] b) s.cell s.field (content_of (length g.owners))) (ledger_of key [] []) key (first_further (length g.owners) value []))

  pub nothing_published : (s : Stand) (taken b : ℕ) (m : MetNothing w g key s taken) → IsPublished w (stored_field (prepared Nothing s taken m.rest b) s.cell s.field (entry_of (length g.owners) value m.rest)) g cells (first_owners (length g.puts) value m.path m.rest ++ []) (put_at key value (length g.owners))
  nothing_published s taken b m = let st = m.stands in let p' : ℕ = entry_of (length g.owners) value m.rest in let l = home_inside m.path s.cell s.field st.home in let whole = m.whole in
      let fits = small_entry Nothing s taken m.path m.rest b whole in let few_ = small_used Nothing s taken m.path m.rest b whole in
      let t = turns Nothing s taken m.path m.rest b whole s.cell s.field p' l.0 l.1 fits in let reads = reads_now Nothing s taken m.path m.rest b whole s.cell s.field p' l.0 l.1 fits in
      let zero_ : s.entered ≡ 0 = st.reads ∙ m.is_nothing in
      home_published Nothing s taken m.path m.rest b [] m.path [] m.path m.rest p' whole st (reads_nonzero (reading (stored_field (prepared Nothing s taken m.rest b) s.cell s.field p')) p' (content_of (length g.owners)) m.rest reads (content_there w (length g.owners) few_)) fits
      (nothing_put w (prepared Nothing s taken m.rest b) g cells (length g.owners) key value wf.image (same_ready Nothing s taken m.path m.rest b whole) refl counted capacity bytes s taken b 0 m (ready_stands Nothing s taken m.path m.rest b whole)) whole
      (nothing_better w (stored_field (prepared Nothing s taken m.rest b) s.cell s.field p') g cells wf.image s p' t (length g.owners) 1 p' (omega arith) (omega arith) few_ fits key taken m reads)
      (λ f e. absurd (node_nonzero s.entered (held_node m.path [] m.path s st f e) zero_)) (λ f e. absurd (let c : 2 ^ 31 ≤ s.entered = is_kind s.entered (Some kind.Content) (held_content m.path [] m.path s st f e) in omega (arith, zero_))) (none_new (stored_field (prepared Nothing s taken m.rest b) s.cell s.field p') (ledger_of m.path m.rest []) key (first_further (length g.owners) value m.rest))

  not_empty : (l : List ℕ) (b : ℕ) (k : List ℕ) → l ++ b ∷ k ≡ [] → ⊥
  not_empty [] b k e = cc
  not_empty (x ∷ l) b k e = cc

  pub other_published : (s : Stand) (taken : ℕ) (m : MetOtherByte w g key s taken) → IsPublished w (stored_field (prepared OtherByte s taken m.rest m.byte) s.cell s.field (over_passed s (first_further (length g.owners) value m.rest) 30)) g cells
      (first_owners (length g.puts) value (m.path ++ m.byte ∷ []) m.rest ++ further_owners w OtherByte s m.path m.byte 0 (first_further (length g.owners) value m.rest)) (put_at key value (length g.owners))
  other_published s taken m = let st = m.stands in let b : ℕ = m.byte in let rest : List ℕ = m.rest in let start : List ℕ = m.path ++ m.byte ∷ [] in let x : ℕ = first_further (length g.owners) value m.rest in let p' : ℕ = over_passed s (first_further (length g.owners) value m.rest) 30 in
      let l = home_inside m.home_path s.cell s.field st.home in let whole : (m.path ++ m.byte ∷ []) ++ m.rest ≡ key = append_assoc m.path (m.byte ∷ []) m.rest ∙ m.whole in
      let low_ = low OtherByte s taken start rest b whole in let near_ = near OtherByte s taken start rest b whole in let few_ = small_used OtherByte s taken start rest b whole in let later : s.entered ≤ s.at = omega (arith, st.forward) in
      let is_node : IsNode (over_passed s (first_further (length g.owners) value m.rest) 30) = over_node s (first_further (length g.owners) value m.rest) 30 (λ z. inr (inl (offset_kind (32 * x + 30) x 30 refl (omega (arith, low_)) (omega (arith, near_)) (omega arith)))) later (omega (arith, near_)) in
      let fits : over_passed s (first_further (length g.owners) value m.rest) 30 < 2 ^ 32 = let n = node_low p' is_node in omega arith in let small_b : m.byte < 256 = bytes_after m.path (m.byte ∷ m.rest) key m.whole bytes 0 in
      let w1 : List ℕ = prepared OtherByte s taken m.rest m.byte in let w' : List ℕ = stored_field w1 s.cell s.field p' in
      let t = turns OtherByte s taken start rest b whole s.cell s.field p' l.0 l.1 fits in let reads = reads_now OtherByte s taken start rest b whole s.cell s.field p' l.0 l.1 fits in let more_stands = further_now OtherByte s taken start rest b whole s.cell s.field p' l.0 l.1 fits in
      let to : Towards key m.path = (m.byte ∷ m.rest, m.whole) in
      home_published OtherByte s taken start rest b (further_owners w OtherByte s m.path m.byte 0 (first_further (length g.owners) value m.rest)) m.home_path m.inside m.path (m.inside ++ m.byte ∷ m.rest) p' whole st (node_nonzero p' is_node) fits
      (other_put w w1 g cells (length g.owners) key value wf.image (same_ready OtherByte s taken start rest b whole) refl counted capacity bytes s taken 0 m (ready_stands OtherByte s taken start rest b whole))
      (sym (append_assoc m.home_path m.inside (m.byte ∷ m.rest)) ∙ (ap (λ (k : List ℕ). k ++ m.byte ∷ m.rest) (sym st.passed) ∙ m.whole))
      (other_better w w' g cells wf.image s p' t (length g.owners) x (entry_of (length g.owners) value m.rest) (omega (arith, low_)) (omega (arith, near_)) few_ (small_entry OtherByte s taken start rest b whole) key taken m small_b more_stands reads)
      (λ f e. (is_node, not_empty m.inside m.byte m.rest)) (λ f e. absurd (below_node m.home_path m.inside m.path s st (inl m.is_chain) f e))
      (one_more w' (ledger_of start rest (further_owners w OtherByte s m.path m.byte 0 (first_further (length g.owners) value m.rest))) key x (SparseCell m.path) (passed_owners s m.path) to (passed_new w' (ledger_of start rest (further_owners w OtherByte s m.path m.byte 0 (first_further (length g.owners) value m.rest))) key (x + 1) s m.path to))

  pub end_published : (s : Stand) (taken b : ℕ) (m : MetEnd w g key s) → IsPublished w (stored_field (prepared End s taken [] b) s.cell s.field (over_passed s (first_further (length g.owners) value []) 31)) g cells
      (first_owners (length g.puts) value key [] ++ further_owners w End s key b 0 (first_further (length g.owners) value [])) (put_at key value (length g.owners))
  end_published s taken b m = let st = m.stands in let x : ℕ = first_further (length g.owners) value [] in let p' : ℕ = over_passed s (first_further (length g.owners) value []) 31 in let more : List Owner = further_owners w End s key b 0 (first_further (length g.owners) value []) in
      let l = home_inside m.home_path s.cell s.field st.home in let whole = append-nil key in let low_ = low End s taken key [] b whole in let near_ = near End s taken key [] b whole in let few_ = small_used End s taken key [] b whole in let later : s.entered ≤ s.at = omega (arith, st.forward) in
      let there : (over_passed s (first_further (length g.owners) value []) 31 ≢ 0) × (over_passed s (first_further (length g.owners) value []) 31 < 2 ^ 32) =
      cond_both (s.at == s.entered) (32 * x + 31) (32 * (x + 1) + (28 - (s.at - s.entered))) (λ (p : ℕ). (p ≢ 0) × (p < 2 ^ 32)) (λ e. ((λ z. omega arith), omega (arith, near_))) (λ e. ((λ z. omega arith), omega (arith, near_))) in
      let w1 : List ℕ = prepared End s taken [] b in let w' : List ℕ = stored_field w1 s.cell s.field p' in
      let t = turns End s taken key [] b whole s.cell s.field p' l.0 l.1 there.1 in let more_stands = further_now End s taken key [] b whole s.cell s.field p' l.0 l.1 there.1 in
      let bare = m.bare in let moved : IsOfPrefix w g m.home_path s.cell → s.at ≢ s.entered = λ f e. bare e m.home_path f.own in
      home_published End s taken key [] b more m.home_path m.inside key m.inside p' whole st there.0 there.1
      (end_put w w1 g cells (length g.owners) key value wf.image (same_ready End s taken key [] b whole) refl counted capacity bytes s taken b 0 m (ready_stands End s taken key [] b whole)) (sym st.passed)
      (end_better w w' g cells wf.image s p' t (length g.owners) x 0 (omega (arith, low_)) (omega (arith, near_)) few_ (omega arith) key m more_stands)
      (λ f e. (over_node s x 31 (λ z. absurd (let n = moved f in n z)) later (omega (arith, near_)), λ z. let n = moved f in n (st.forward ∙ (ap (λ (k : List ℕ). s.entered + length k) z ∙ (let y : s.entered + 0 ≡ s.entered = omega arith in y)))))
      (λ f e. absurd (below_node m.home_path m.inside key s st m.is_node f e))
      (one_more w' (ledger_of key [] more) key x (PrefixCell key) (passed_owners s key) ([], append-nil key) (passed_new w' (ledger_of key [] more) key (x + 1) s key ([], append-nil key)))

  pub past_published : (s : Stand) (taken b : ℕ) (m : MetPastContent w g key s taken) → IsPublished w (stored_field (prepared PastContent s taken (m.byte ∷ m.rest) b) s.cell s.field (32 * first_further (length g.owners) value (m.byte ∷ m.rest) + 31)) g cells
      (first_owners (length g.puts) value m.path (m.byte ∷ m.rest) ++ PrefixCell m.path ∷ []) (put_at key value (length g.owners))
  past_published s taken b m = let st = m.stands in let rest : List ℕ = m.byte ∷ m.rest in let x : ℕ = first_further (length g.owners) value (m.byte ∷ m.rest) in let p' : ℕ = 32 * first_further (length g.owners) value (m.byte ∷ m.rest) + 31 in let more : List Owner = PrefixCell m.path ∷ [] in
      let l = home_inside m.path s.cell s.field st.home in let whole = m.whole in let low_ = low PastContent s taken m.path rest b whole in let near_ = near PastContent s taken m.path rest b whole in let few_ = small_used PastContent s taken m.path rest b whole in
      let fits : 32 * first_further (length g.owners) value (m.byte ∷ m.rest) + 31 < 2 ^ 32 = omega (arith, near_) in
      let w1 : List ℕ = prepared PastContent s taken (m.byte ∷ m.rest) b in let w' : List ℕ = stored_field w1 s.cell s.field p' in
      let t = turns PastContent s taken m.path rest b whole s.cell s.field p' l.0 l.1 fits in let reads = reads_now PastContent s taken m.path rest b whole s.cell s.field p' l.0 l.1 fits in let more_stands = further_now PastContent s taken m.path rest b whole s.cell s.field p' l.0 l.1 fits in
      let none = m.no_prefix in let entry_chain : IsNode (entry_of (length g.owners) value (m.byte ∷ m.rest)) = inl (entry_is_chain (length g.owners) value (m.byte ∷ m.rest) low_ (omega (arith, near_)) (λ z. omega arith)) in
      home_published PastContent s taken m.path rest b more m.path [] m.path rest p' whole st (λ z. omega arith) fits
      (past_put w w1 g cells (length g.owners) key value wf.image (same_ready PastContent s taken m.path rest b whole) refl counted capacity bytes s taken b 0 m (ready_stands PastContent s taken m.path rest b whole)) whole
      (past_better w w' g cells wf.image s p' t (length g.owners) x (entry_of (length g.owners) value (m.byte ∷ m.rest)) (omega (arith, low_)) (omega (arith, near_)) few_ (small_entry PastContent s taken m.path rest b whole) key taken m entry_chain more_stands reads)
      (λ f e. absurd (none m.path f.own)) (λ f e. absurd (none m.path f.own))
      (one_more w' (ledger_of m.path rest more) key x (PrefixCell m.path) [] (m.byte ∷ m.rest, m.whole) (none_new w' (ledger_of m.path rest more) key (x + 1)))

  -- the further cells have their owners
  owned_more : (start rest : List ℕ) (more : List Owner) → Owns (ledger_of start rest more) (first_further (length g.owners) value rest) more
  owned_more start rest more j o e = let first : List Owner = first_owners (length g.puts) value start rest in let at : length g.owners + (length (first_owners (length g.puts) value start rest) + j) ≡ first_further (length g.owners) value rest + j = omega (arith, length_first_owners (length g.puts) value start rest) in
      subst (λ (c : ℕ). owner (ledger_of start rest more) c ≡ Some o) at (get_back g.owners (first ++ more) (length first + j) o (get_back first more j o e))

  pub full_published : (s : Stand) (taken : ℕ) (m : MetFull w g key s taken) → IsPublished w (stored_field (prepared Full s taken m.rest m.byte) s.cell s.field (32 * first_further (length g.owners) value m.rest + 28)) g cells
      (first_owners (length g.puts) value (m.path ++ m.byte ∷ []) m.rest ++ further_owners w Full s m.path m.byte 0 (first_further (length g.owners) value m.rest)) (put_at key value (length g.owners))
  full_published s taken m = let st = m.stands in let b : ℕ = m.byte in let rest : List ℕ = m.rest in let start : List ℕ = m.path ++ m.byte ∷ [] in let x : ℕ = first_further (length g.owners) value m.rest in let p' : ℕ = 32 * first_further (length g.owners) value m.rest + 28 in
      let entry : ℕ = entry_of (length g.owners) value m.rest in let more : List Owner = further_owners w Full s m.path m.byte 0 (first_further (length g.owners) value m.rest) in
      let l = home_inside m.path s.cell s.field st.home in let whole : (m.path ++ m.byte ∷ []) ++ m.rest ≡ key = append_assoc m.path (m.byte ∷ []) m.rest ∙ m.whole in
      let low_ = low Full s taken start rest b whole in let near_ = near Full s taken start rest b whole in let few_ = small_used Full s taken start rest b whole in
      let fits : 32 * first_further (length g.owners) value m.rest + 28 < 2 ^ 32 = omega (arith, near_) in let small_b : m.byte < 256 = bytes_after m.path (m.byte ∷ m.rest) key m.whole bytes 0 in
      let is_node : IsNode (32 * first_further (length g.owners) value m.rest + 28) = inr (inr (offset_kind (32 * x + 28) x 28 refl (omega (arith, low_)) (omega (arith, near_)) (omega arith))) in
      let w1 : List ℕ = prepared Full s taken m.rest m.byte in let w' : List ℕ = stored_field w1 s.cell s.field p' in
      let t = turns Full s taken start rest b whole s.cell s.field p' l.0 l.1 fits in let reads = reads_now Full s taken start rest b whole s.cell s.field p' l.0 l.1 fits in let more_stands = further_now Full s taken start rest b whole s.cell s.field p' l.0 l.1 fits in
      let own = sparse_of g s.at m.path (st.at_path (node_nonzero s.at (inr (inl m.is_sparse)))) m.is_sparse in let small_entry_ = small_entry Full s taken start rest b whole in
      let small_fields : (c : ℕ) → leaf_field w (s.at / 32) m.byte (entry_of (length g.owners) value m.rest) c < 2 ^ 32 = λ c. field_small w w' g cells wf.image s p' t (length g.owners) x entry (omega (arith, low_)) (omega (arith, near_)) few_ small_entry_ m.byte c (s.at / 32) m.path own in
      let there : split_child w' x m.byte ≢ 0 = λ z. reads_nonzero (reading w') entry (content_of (length g.owners)) m.rest reads (content_there w (length g.owners) few_)
      (sym (split_there w w' (s.at / 32) m.byte entry x (seven (word_of w (s.at / 32) 3) m.byte) more_stands (omega (arith, near_)) small_fields m.byte small_b (has_new (word_of w (s.at / 32) 3) m.byte) ∙ new_leaf w (s.at / 32) m.byte entry) ∙ z) in
      home_published Full s taken start rest b more m.path [] m.path (m.byte ∷ m.rest) p' whole st (λ z. omega arith) fits
      (full_put w w1 g cells (length g.owners) key value wf.image (same_ready Full s taken start rest b whole) refl counted capacity bytes s taken 0 m (ready_stands Full s taken start rest b whole)) m.whole
      (full_better w w' g cells wf.image s p' t (length g.owners) x entry (omega (arith, low_)) (omega (arith, near_)) few_ small_entry_ key taken m small_b more_stands reads)
      (λ f e. (is_node, λ z. cc)) (λ f e. absurd (below_node m.path [] m.path s st (inr (inl m.is_sparse)) f e))
      (split_node_new w w' (ledger_of start rest more) key (s.at / 32) m.byte entry x m.path (seven (word_of w (s.at / 32) 3) m.byte) more_stands (omega (arith, near_)) small_fields (owned_more start rest more) (m.byte ∷ m.rest, m.whole) m.byte small_b there)

  -- the cases of a new cell in a split node: the key's byte leads to the entry, where it led to nothing
  split_published : (meets : Meets) (s : Stand) (taken : ℕ) (rest : List ℕ) (b : ℕ) (more : List Owner) (path : List ℕ) (p' parent c : ℕ) (o : Owner) → path ++ b ∷ rest ≡ key → owner g s.cell ≡ Some o → (o ≡ HeadCell → ⊥) → ((q : List ℕ) → o ≡ SparseCell q → ⊥) → field w s.cell s.field ≡ 0
      → s.field < 8 → p' ≢ 0 → p' < 2 ^ 32 → (split : IsSplitAt w g path b parent c)
      → Publishes (prepared meets s taken rest b) (stored_field (prepared meets s taken rest b) s.cell s.field p') (ledger_of (path ++ b ∷ []) rest more) cells 0 (entry_of (length g.owners) value rest) (path ++ b ∷ []) key (length g.owners)
      → Reads (reading (stored_field (prepared meets s taken rest b) s.cell s.field p')) (entry_of (length g.owners) value rest) rest (content_of (length g.owners))
      → child_of (stored_field (prepared meets s taken rest b) s.cell s.field p') split.reached.last b (kind_at split.reached.last) ≡ entry_of (length g.owners) value rest
      → AreNewOwners (stored_field (prepared meets s taken rest b) s.cell s.field p') (ledger_of (path ++ b ∷ []) rest more) key (first_further (length g.owners) value rest) more
      → IsPublished w (stored_field (prepared meets s taken rest b) s.cell s.field p') g cells (first_owners (length g.puts) value (path ++ b ∷ []) rest ++ more) (put_at key value (length g.owners))
  split_published meets s taken rest b more path p' parent c o is_path own not_head not_sparse absent small there fits split publishes reads leads news =
      let start : List ℕ = path ++ b ∷ [] in let entry : ℕ = entry_of (length g.owners) value rest in let w1 : List ℕ = prepared meets s taken rest b in let w' : List ℕ = stored_field w1 s.cell s.field p' in
      let whole : (path ++ b ∷ []) ++ rest ≡ key = append_assoc path (b ∷ []) rest ∙ is_path in let inside = own_inside g.owners s.cell o own in
      let same1 = same_ready meets s taken start rest b whole in let t = turns meets s taken start rest b whole s.cell s.field p' inside small fits in let few_ = small_used meets s taken start rest b whole in
      let better = better_entry w' (length g.owners) few_ entry rest reads in
      let changes = changes_old w w1 w' g cells (first_owners (length g.puts) value start rest ++ more) (put_at key value (length g.owners)) 0 entry start rest wf same1 publishes whole better in
      let root_same : root_of w' ≡ root_of w = root_stays w w' g s.cell s.field p' t wf.image.head (not_first g s.cell o wf.image.head own not_head) in
      published_by w1 w' start rest more 0 entry start rest same1 publishes whole better
      (by_byte w w' g cells wf.image key (length g.owners) 0 entry start rest whole better changes path b split.reached.last root_same split.reached.walks split.reached.last_path refl leads) (inl root_same)
      (leaves_by w w' g s.cell s.field p' t there (λ q e. absent) (λ u j e. absent) (λ q e. absurd (let both : Some o ≡ Some (SparseCell q) = sym own ∙ e in let is : o ≡ SparseCell q = cc in not_sparse q is)))
      (both_new w' (ledger_of start rest more) key (length g.owners) (first_further (length g.owners) value rest) (first_owners (length g.puts) value start rest) more (omega (arith, length_first_owners (length g.puts) value start rest))
      (first_new w' (ledger_of start rest more) key (length g.owners) (length g.puts) value start rest whole) news)

  pub leaf_published : (s : Stand) (taken : ℕ) (m : MetNoLeaf w g key s taken) → IsPublished w (stored_field (prepared NoLeaf s taken m.rest m.byte) s.cell s.field (32 * first_further (length g.owners) value m.rest + 28)) g cells
      (first_owners (length g.puts) value (m.path ++ m.byte ∷ []) m.rest ++ further_owners w NoLeaf s m.path m.byte m.top (first_further (length g.owners) value m.rest)) (put_at key value (length g.owners))
  leaf_published s taken m = let b : ℕ = m.byte in let rest : List ℕ = m.rest in let start : List ℕ = m.path ++ m.byte ∷ [] in let x : ℕ = first_further (length g.owners) value m.rest in let p' : ℕ = 32 * first_further (length g.owners) value m.rest + 28 in
      let entry : ℕ = entry_of (length g.owners) value m.rest in let more : List Owner = further_owners w NoLeaf s m.path m.byte m.top (first_further (length g.owners) value m.rest) in let own = m.mid.own in let inside = own_inside g.owners s.cell (MidCell m.top (m.byte / 64)) own in
      let whole : (m.path ++ m.byte ∷ []) ++ m.rest ≡ key = append_assoc m.path (m.byte ∷ []) m.rest ∙ m.whole in let near_ = near NoLeaf s taken start rest b whole in
      let fits : 32 * first_further (length g.owners) value m.rest + 28 < 2 ^ 32 = omega (arith, near_) in let small : s.field < 8 = let e = m.place in omega arith in
      let w1 : List ℕ = prepared NoLeaf s taken m.rest m.byte in let w' : List ℕ = stored_field w1 s.cell s.field p' in
      let t = turns NoLeaf s taken start rest b whole s.cell s.field p' inside small fits in let reads = reads_now NoLeaf s taken start rest b whole s.cell s.field p' inside small fits in let more_stands = further_now NoLeaf s taken start rest b whole s.cell s.field p' inside small fits in
      let here : field w' x (m.byte % 8) ≡ entry = lone_field w' x (m.byte % 8) entry more_stands (small_entry NoLeaf s taken start rest b whole) (m.byte % 8) (omega arith) refl in
      let now : field w' s.cell (m.byte / 8 % 8) ≡ 32 * x + 28 = ap (λ (i : ℕ). field w' s.cell i) (sym m.place) ∙ turned_now w w' (length g.owners) s.cell s.field p' t in
      split_published NoLeaf s taken rest b more m.path p' m.parent m.top (MidCell m.top (m.byte / 64)) m.whole own (λ z. cc) (λ q z. cc) m.absent small (λ z. omega arith) fits m.split
      (leaf_put w w1 g cells (length g.owners) key value wf.image (same_ready NoLeaf s taken start rest b whole) refl counted capacity bytes s taken m (ready_stands NoLeaf s taken start rest b whole)) reads
      (mid_leads w w' g s.cell s.field p' t m.path b m.parent m.top x entry m.split m.mid m.place refl here)
      (one_more w' (ledger_of start rest more) key x (LeafCell m.top (m.byte / 64) (m.byte / 8 % 8)) [] (s.cell, get_front g.owners (first_owners (length g.puts) value start rest ++ more) s.cell (MidCell m.top (m.byte / 64)) own, omega arith, now) (none_new w' (ledger_of start rest more) key (x + 1)))

  pub mid_published : (s : Stand) (taken : ℕ) (m : MetNoMid w g key s taken) → IsPublished w (stored_field (prepared NoMid s taken m.rest m.byte) s.cell s.field (32 * first_further (length g.owners) value m.rest + 28)) g cells
      (first_owners (length g.puts) value (m.path ++ m.byte ∷ []) m.rest ++ further_owners w NoMid s m.path m.byte 0 (first_further (length g.owners) value m.rest)) (put_at key value (length g.owners))
  mid_published s taken m = let b : ℕ = m.byte in let rest : List ℕ = m.rest in let start : List ℕ = m.path ++ m.byte ∷ [] in let x : ℕ = first_further (length g.owners) value m.rest in let p' : ℕ = 32 * first_further (length g.owners) value m.rest + 28 in
      let entry : ℕ = entry_of (length g.owners) value m.rest in let more : List Owner = further_owners w NoMid s m.path m.byte 0 (first_further (length g.owners) value m.rest) in let own = m.split.own in let inside = own_inside g.owners s.cell (TopCell m.path) own in let small_b = m.split.small in
      let whole : (m.path ++ m.byte ∷ []) ++ m.rest ≡ key = append_assoc m.path (m.byte ∷ []) m.rest ∙ m.whole in let near_ = near NoMid s taken start rest b whole in
      let fits : 32 * first_further (length g.owners) value m.rest + 28 < 2 ^ 32 = omega (arith, near_) in let small : s.field < 8 = let e = m.place in omega arith in
      let w1 : List ℕ = prepared NoMid s taken m.rest m.byte in let w' : List ℕ = stored_field w1 s.cell s.field p' in
      let t = turns NoMid s taken start rest b whole s.cell s.field p' inside small fits in let reads = reads_now NoMid s taken start rest b whole s.cell s.field p' inside small fits in let more_stands = further_now NoMid s taken start rest b whole s.cell s.field p' inside small fits in
      let mids : List ℕ = lone_words (m.byte / 8 % 8) (32 * (x + 1) + 28) in let leaves : List ℕ = lone_words (m.byte % 8) entry in
      let middle : field w' x (m.byte / 8 % 8) ≡ 32 * (x + 1) + 28 = lone_field w' x (m.byte / 8 % 8) (32 * (x + 1) + 28) (stands_front w' x mids leaves more_stands) (omega (arith, near_)) (m.byte / 8 % 8) (omega arith) refl in
      let here : field w' (x + 1) (m.byte % 8) ≡ entry = lone_field w' (x + 1) (m.byte % 8) entry (stands_back w' x 1 mids leaves refl more_stands) (small_entry NoMid s taken start rest b whole) (m.byte % 8) (omega arith) refl in
      let now : field w' s.cell (m.byte / 64) ≡ 32 * x + 28 = ap (λ (i : ℕ). field w' s.cell i) (sym m.place) ∙ turned_now w w' (length g.owners) s.cell s.field p' t in
      let own_mid : owner (ledger_of start rest more) x ≡ Some (MidCell s.cell (m.byte / 64)) = owner_first (ledger_of start rest more) x (MidCell s.cell (m.byte / 64)) (LeafCell s.cell (m.byte / 64) (m.byte / 8 % 8) ∷ []) (owned_more start rest more) in
      split_published NoMid s taken rest b more m.path p' m.parent s.cell (TopCell m.path) m.whole own (λ z. cc) (λ q z. cc) m.absent small (λ z. omega arith) fits m.split
      (mid_put w w1 g cells (length g.owners) key value wf.image (same_ready NoMid s taken start rest b whole) refl counted capacity bytes s taken 0 m (ready_stands NoMid s taken start rest b whole)) reads
      (top_leads w w' g s.cell s.field p' t m.path b m.parent x (x + 1) entry m.split m.place refl middle here)
      (one_more w' (ledger_of start rest more) key x (MidCell s.cell (m.byte / 64)) (LeafCell s.cell (m.byte / 64) (m.byte / 8 % 8) ∷ []) (omega arith, now, m.path, get_front g.owners (first_owners (length g.puts) value start rest ++ more) s.cell (TopCell m.path) own)
      (one_more w' (ledger_of start rest more) key (x + 1) (LeafCell s.cell (m.byte / 64) (m.byte / 8 % 8)) [] (x, own_mid, omega arith, middle) (none_new w' (ledger_of start rest more) key (x + 1 + 1))))
