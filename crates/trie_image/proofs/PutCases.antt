-- For each case that a walk met: what the put's publishing store leaves, after the words of its new cells.
use Rattle.std.proofs.Common.{◌≡◌, ◌≢◌, ℕ, ◌+◌, ◌-◌, ◌*◌, ◌/◌, ◌%◌, ◌^◌, ◌<◌, ◌≤◌, ◌==◌, true, false, Bool, cond, List, [], ◌∷◌, ◌++◌, length, set, slice_index, Some, None, refl, sym, ap, ◌∙◌, subst, arith, inl, inr, length-append, append_assoc, append-nil, eqb-true}
use Rattle.std.proofs.lemmas.Bool.{eqb-false}
use Rattle.std.proofs.lemmas.List.{get_or-append-add}
use Rattle.cell_layout.specs.declared.Kind.TheVariants as kind
use Rattle.cell_layout.specs.Pointers.{kind_at_offset, kind_at}
use Rattle.cell_layout.specs.Slots.{slot_at, child_count, word_with, AddsChild}
use Rattle.cell_layout.proofs.PointerKinds.{is_kind, is_chain}
use Rattle.cell_layout.proofs.Added.{adds_child}
use Rattle.cell_layout.specs.Cells.{lone_words}
use Rattle.cell_layout.specs.Words.{ItemsAreBytes}
use Rattle.trie_image.specs.declared.Owner.{Owner}
use Rattle.trie_image.specs.declared.Owner.TheVariants.{SparseCell, TopCell, MidCell, LeafCell, PrefixCell}
use Rattle.trie_image.specs.declared.Ledger.{Ledger}
use Rattle.trie_image.specs.declared.exit.Stand.{Stand}
use Rattle.trie_image.specs.declared.exit.Meets.{Meets}
use Rattle.trie_image.specs.declared.exit.Meets.TheVariants.{Content, Nothing, OtherByte, End, Sparse, Full, NoLeaf, NoMid, PastContent}
use Rattle.trie_image.specs.Image.{word_of, field}
use Rattle.trie_image.specs.Paths.{owner, HasPath}
use Rattle.trie_image.specs.Cell.{IsSparseCell, IsPrefixCell, IsImage}
use Rattle.trie_image.specs.Same.{IsSame}
use Rattle.trie_image.specs.Exit.{exit_with}
use Rattle.trie_image.specs.Body.{over_passed}
use Rattle.trie_image.specs.Stores.{content_of, entry_of, first_further, body_words, cost}
use Rattle.trie_image.proofs.Owners.{sparse_of}
use Rattle.trie_image.proofs.Kept.{same_field}
use Rattle.trie_image.proofs.Exits.{IsNode, path_nonzero, node_nonzero}
use Rattle.trie_image.proofs.Leaves.{StandsAt, MetContent, MetNothing, MetOtherByte, MetEnd, MetSparse, MetFull, MetNoLeaf, MetNoMid, MetPastContent}
use Rattle.trie_image.proofs.NewPointers.{content_kind, content_cell}
use Rattle.trie_image.proofs.CellWords.{Stands, stands_front, stands_back, lone_field, lone_other}
use Rattle.trie_image.proofs.NewChains.{owner_second}
use Rattle.trie_image.proofs.NewSplitNode.{kind_by_offset, path_small}
use Rattle.trie_image.proofs.NewOwners.{further_owners}
use Rattle.trie_image.proofs.NewCases.{other_byte, key_end, full_node, no_leaf, no_mid, past_content}
use Rattle.trie_image.proofs.Cases.{further_stands}
use Rattle.trie_image.proofs.HomeStores.{stored_field}
use Rattle.trie_image.proofs.HomeChanges.{Publishes}
use Rattle.trie_image.proofs.HomeInner.{HasAlone, mid_publishes, top_publishes, add_publishes}
use Rattle.trie_image.proofs.PutLedger.{ledger_after, few_further, IsPrepared, prepared}
use Rattle.trie_image.proofs.PutHomes.{ForCell, home_publishes}
use Rattle.trie_image.proofs.SparseWords.{sparse_fits}

-- bytes after a path
pub bytes_after : (path rest key : List ℕ) → path ++ rest ≡ key → ItemsAreBytes key → ItemsAreBytes rest
bytes_after path rest key e h k = subst (λ (x : ℕ). x < 256) (sym (sym (get_or-append-add path rest k 0) ∙ ap (λ (l : List ℕ). slice_index l (length path + k)) e)) (h (length path + k))

-- a node's pointer behind passed bytes
pub over_node : (s : Stand) (x off : ℕ) → (s.at ≡ s.entered → IsNode (32 * x + off)) → s.entered ≤ s.at → x + 64 < 2 ^ 26 → IsNode (over_passed s x off)
over_node s x off is le low = by (s.at == s.entered) refl
  where
    by : (t : Bool) → (s.at == s.entered) ≡ t → IsNode (cond t (32 * x + off) (32 * (x + 1) + (28 - (s.at - s.entered))))
    by true e = is (eqb-true s.at s.entered e)
    by false e = let ne = eqb-false s.at s.entered e in let o : (32 * (x + 1) + (28 - (s.at - s.entered))) % 32 ≤ 27 = omega arith in inl (is_chain (32 * (x + 1) + (28 - (s.at - s.entered))) (λ z. omega arith) (omega arith) o)

-- a node's pointer is below 2^31, and a content pointer isn't
node_below : (p : ℕ) → IsNode p → p < 2 ^ 31
node_below p (inl k) = let l : (p ≢ 0) × (p < 2 ^ 31) × (p % 32 ≤ 27) = is_kind p (Some kind.Chain) k in l.1
node_below p (inr (inl k)) = let l : (p ≢ 0) × (p < 2 ^ 31) × (p % 32 ≡ 30) = is_kind p (Some kind.Sparse) k in l.1
node_below p (inr (inr k)) = let l : (p ≢ 0) × (p < 2 ^ 31) × (p % 32 ≡ 28) = is_kind p (Some kind.Wide) k in l.1

content_above : (p : ℕ) → kind_at p ≡ Some kind.Content → 2 ^ 31 ≤ p
content_above p k = is_kind p (Some kind.Content) k

offset_is : (x off : ℕ) → 1 ≤ x → x + 64 < 2 ^ 26 → off < 32 → kind_at (32 * x + off) ≡ kind_at_offset off
offset_is x off low high l = let o : (32 * x + off) % 32 ≡ off = omega arith in kind_by_offset (32 * x + off) (λ z. omega arith) (omega arith) ∙ ap (λ (y : ℕ). kind_at_offset y) o

module _ (w w1 : List ℕ) (g : Ledger) (cells used : ℕ) (key value : List ℕ) (ok : IsImage w g cells) (same : IsSame w w1 g) (taken_is : length g.owners ≡ used) (counted : length g.puts ≡ slice_index w 0) (capacity : used + cost (length key) (length value) ≤ cells) (bytes : ItemsAreBytes key) (s : Stand) (taken : ℕ) where
  -- what a prefix cell in which the walk stands holds
  held_content : (q m path : List ℕ) → StandsAt w g q m path s → owner g s.cell ≡ Some (PrefixCell q) → s.field ≡ 0 → (kind_at s.entered ≡ Some kind.Content) × (s.entered ≢ 0)
  held_content q m path h own z = let cell : IsPrefixCell w g s.cell q = ok.each s.cell (PrefixCell q) own in let e : field w s.cell 0 ≡ s.entered = ap (λ (x : ℕ). field w s.cell x) (sym z) ∙ h.held in
      (ap (λ (x : ℕ). kind_at x) (sym e) ∙ cell.is_content, λ n. path_nonzero g (field w s.cell 0) q cell.content (e ∙ n))

  held_node : (q m path : List ℕ) → StandsAt w g q m path s → owner g s.cell ≡ Some (PrefixCell q) → s.field ≡ 1 → IsNode s.entered
  held_node q m path h own z = let cell : IsPrefixCell w g s.cell q = ok.each s.cell (PrefixCell q) own in let e : field w s.cell 1 ≡ s.entered = ap (λ (x : ℕ). field w s.cell x) (sym z) ∙ h.held in subst IsNode e cell.is_node

  short : (path rest : List ℕ) → path ++ rest ≡ key → length rest ≤ length key
  short path rest e = let l = ap (λ (x : List ℕ). length x) e in omega (arith, l, length-append path rest)

  -- the preparation in a case
  ready : (meets : Meets) (start rest path : List ℕ) (b t : ℕ) → start ++ rest ≡ key → Stands w1 used (body_words w used (slice_index w 0 + 1) value rest (exit_with meets s taken) b)
      → IsPrepared w1 g cells used key value start rest (further_owners w meets s path b t (first_further used value rest))
  ready meets start rest path b t whole h = prepared w w1 g cells used key value ok same taken_is counted start rest (further_owners w meets s path b t (first_further used value rest)) (few_further w meets s path b t (first_further used value rest)) capacity (short start rest whole) whole
      (bytes_after start rest key whole bytes) (exit_with meets s taken) b h

  -- the publishing store in the walk's field
  publish : (start rest : List ℕ) (more : List Owner) (d : IsPrepared w1 g cells used key value start rest more) (q m path : List ℕ) (p' : ℕ) → StandsAt w g q m path s → IsImage w1 (ledger_after g used key value start rest more) cells
      → HasPath (ledger_after g used key value start rest more) p' q → ForCell g key used q s.cell s.field p' → Publishes w1 (stored_field w1 s.cell s.field p') (ledger_after g used key value start rest more) cells s.entered p' q key used
  publish start rest more d q m path p' st image at asks = home_publishes w w1 g (ledger_after g used key value start rest more) cells ok same image d.keeps key used q s.cell s.field s.entered p' at st.held st.home asks

  pub content_put : (b t : ℕ) (m : MetContent w g key s) → Stands w1 used (body_words w used (slice_index w 0 + 1) value [] (exit_with Content s taken) b) → Publishes w1 (stored_field w1 s.cell s.field (content_of used)) (ledger_after g used key value key [] []) cells s.entered (content_of used) key key used
  content_put b t m h = let d = ready Content key [] key b t (append-nil key) h in let st = m.stands in let here : s.entered ≡ s.at = st.reads in
      publish key [] [] d key [] key (content_of used) st (d.image (λ j o e. absurd (cc))) d.at_content record {
        at_node = λ own z. let node = node_below s.entered (held_node key [] key st own z) in let above = content_above s.at m.is_content in absurd (omega arith);
        at_content = λ own z. (refl, content_kind [] used (omega (arith, d.few)), content_cell [] used (omega (arith, d.few)));
      }

  pub nothing_put : (b t : ℕ) (m : MetNothing w g key s taken) → Stands w1 used (body_words w used (slice_index w 0 + 1) value m.rest (exit_with Nothing s taken) b) → Publishes w1 (stored_field w1 s.cell s.field (entry_of used value m.rest)) (ledger_after g used key value m.path m.rest []) cells s.entered (entry_of used value m.rest) m.path key used
  nothing_put b t m h = let d = ready Nothing m.path m.rest m.path b t m.whole h in let st = m.stands in let zero_ : s.entered ≡ 0 = st.reads ∙ m.is_nothing in
      publish m.path m.rest [] d m.path [] m.path (entry_of used value m.rest) st (d.image (λ j o e. absurd (cc))) d.at_entry record {
        at_node = λ own z. absurd (node_nonzero s.entered (held_node m.path [] m.path st own z) zero_);
        at_content = λ own z. let c = held_content m.path [] m.path st own z in let n = c.1 in absurd (n zero_);
      }

  pub past_put : (b t : ℕ) (m : MetPastContent w g key s taken) → Stands w1 used (body_words w used (slice_index w 0 + 1) value (m.byte ∷ m.rest) (exit_with PastContent s taken) b)
      → Publishes w1 (stored_field w1 s.cell s.field (32 * first_further used value (m.byte ∷ m.rest) + 31)) (ledger_after g used key value m.path (m.byte ∷ m.rest) (PrefixCell m.path ∷ [])) cells s.entered (32 * first_further used value (m.byte ∷ m.rest) + 31) m.path key used
  past_put b t m h = let d = ready PastContent m.path (m.byte ∷ m.rest) m.path b t m.whole h in let st = m.stands in
      let here : s.at ≢ 0 = λ z. let l = content_above s.at m.is_content in omega arith in
      let new = past_content w w1 g (ledger_after g used key value m.path (m.byte ∷ m.rest) (PrefixCell m.path ∷ [])) cells ok d.grows d.keeps (first_further used value (m.byte ∷ m.rest)) (content_of used) (entry_of used value (m.byte ∷ m.rest)) d.near d.low s.at m.path (st.at_path here) m.is_content d.at_entry
      (d.is_chain (λ z. cc)) d.owned (further_stands w w1 used (slice_index w 0 + 1) value (m.byte ∷ m.rest) (exit_with PastContent s taken) b h) in
      let none = m.no_prefix in
      publish m.path (m.byte ∷ m.rest) (PrefixCell m.path ∷ []) d m.path [] m.path (32 * first_further used value (m.byte ∷ m.rest) + 31) st (d.image new.0) new.1 record { at_node = λ own z. absurd (none m.path own); at_content = λ own z. absurd (none m.path own) }

  pub end_put : (b t : ℕ) (m : MetEnd w g key s) → Stands w1 used (body_words w used (slice_index w 0 + 1) value [] (exit_with End s taken) b)
      → Publishes w1 (stored_field w1 s.cell s.field (over_passed s (first_further used value []) 31)) (ledger_after g used key value key [] (further_owners w End s key b t (first_further used value []))) cells s.entered (over_passed s (first_further used value []) 31) m.home_path key used
  end_put b t m h = let d = ready End key [] key b t (append-nil key) h in let st = m.stands in let below = node_below s.at m.is_node in
      let new = key_end w w1 g (ledger_after g used key value key [] (further_owners w End s key b t (first_further used value []))) cells ok d.grows d.keeps (first_further used value []) (content_of used) (entry_of used value []) d.near d.low s m.home_path m.inside key st.entered (st.at_path (node_nonzero s.at m.is_node)) st.forward st.offset st.passed
      m.is_node d.at_content (content_kind [] used (omega (arith, d.few))) d.owned (further_stands w w1 used (slice_index w 0 + 1) value [] (exit_with End s taken) b h) in
      let later : s.entered ≤ s.at = omega (arith, st.forward) in let bare = m.bare in
      publish key [] (further_owners w End s key b t (first_further used value [])) d m.home_path m.inside key (over_passed s (first_further used value []) 31) st (d.image new.0) new.1 record {
        at_node = λ own z. over_node s (first_further used value []) 31 (λ e. absurd (bare e m.home_path own)) later d.near;
        at_content = λ own z. let c = held_content m.home_path m.inside key st own z in let above = content_above s.entered c.0 in absurd (omega arith);
      }

  pub other_put : (t : ℕ) (m : MetOtherByte w g key s taken) → Stands w1 used (body_words w used (slice_index w 0 + 1) value m.rest (exit_with OtherByte s taken) m.byte)
      → Publishes w1 (stored_field w1 s.cell s.field (over_passed s (first_further used value m.rest) 30)) (ledger_after g used key value (m.path ++ m.byte ∷ []) m.rest (further_owners w OtherByte s m.path m.byte t (first_further used value m.rest))) cells s.entered (over_passed s (first_further used value m.rest) 30) m.home_path key used
  other_put t m h = let whole : (m.path ++ m.byte ∷ []) ++ m.rest ≡ key = append_assoc m.path (m.byte ∷ []) m.rest ∙ m.whole in let small : m.byte < 256 = bytes_after m.path (m.byte ∷ m.rest) key m.whole bytes 0 in
      let d = ready OtherByte (m.path ++ m.byte ∷ []) m.rest m.path m.byte t whole h in let st = m.stands in let below = node_below s.at (inl m.is_chain) in
      let new = other_byte w w1 g (ledger_after g used key value (m.path ++ m.byte ∷ []) m.rest (further_owners w OtherByte s m.path m.byte t (first_further used value m.rest))) cells ok d.grows d.keeps (first_further used value m.rest) (content_of used) (entry_of used value m.rest) d.near d.low s m.home_path m.inside m.path st.entered (st.at_path (node_nonzero s.at (inl m.is_chain))) st.forward st.offset st.passed
      m.byte m.is_chain m.other small d.at_entry d.owned (further_stands w w1 used (slice_index w 0 + 1) value m.rest (exit_with OtherByte s taken) m.byte h) in
      let later : s.entered ≤ s.at = omega (arith, st.forward) in
      publish (m.path ++ m.byte ∷ []) m.rest (further_owners w OtherByte s m.path m.byte t (first_further used value m.rest)) d m.home_path m.inside m.path (over_passed s (first_further used value m.rest) 30) st (d.image new.0) new.1 record {
        at_node = λ own z. over_node s (first_further used value m.rest) 30 (λ _. inr (inl (offset_is (first_further used value m.rest) 30 d.low d.near (omega arith)))) later d.near;
        at_content = λ own z. let c = held_content m.home_path m.inside m.path st own z in let above = content_above s.entered c.0 in absurd (omega arith);
      }

  pub full_put : (t : ℕ) (m : MetFull w g key s taken) → Stands w1 used (body_words w used (slice_index w 0 + 1) value m.rest (exit_with Full s taken) m.byte)
      → Publishes w1 (stored_field w1 s.cell s.field (32 * first_further used value m.rest + 28)) (ledger_after g used key value (m.path ++ m.byte ∷ []) m.rest (further_owners w Full s m.path m.byte t (first_further used value m.rest))) cells s.entered (32 * first_further used value m.rest + 28) m.path key used
  full_put t m h = let whole : (m.path ++ m.byte ∷ []) ++ m.rest ≡ key = append_assoc m.path (m.byte ∷ []) m.rest ∙ m.whole in
      let d = ready Full (m.path ++ m.byte ∷ []) m.rest m.path m.byte t whole h in let st = m.stands in let below = node_below s.at (inr (inl m.is_sparse)) in let here : s.entered ≡ s.at = st.reads in
      let new = full_node w w1 g (ledger_after g used key value (m.path ++ m.byte ∷ []) m.rest (further_owners w Full s m.path m.byte t (first_further used value m.rest))) cells ok d.grows d.keeps (first_further used value m.rest) (content_of used) (entry_of used value m.rest) d.near d.low s.at m.byte m.path (st.at_path (node_nonzero s.at (inr (inl m.is_sparse)))) m.is_sparse
      d.at_entry d.owned (further_stands w w1 used (slice_index w 0 + 1) value m.rest (exit_with Full s taken) m.byte h) in
      publish (m.path ++ m.byte ∷ []) m.rest (further_owners w Full s m.path m.byte t (first_further used value m.rest)) d m.path [] m.path (32 * first_further used value m.rest + 28) st (d.image new.0) new.1 record {
        at_node = λ own z. inr (inr (offset_is (first_further used value m.rest) 28 d.low d.near (omega arith)));
        at_content = λ own z. let c = held_content m.path [] m.path st own z in let above = content_above s.entered c.0 in absurd (omega arith);
      }

  -- the cases in which a pointer 0 gets the entry as a child
  alone_at : (c n p : ℕ) → Stands w1 c (lone_words n p) → p < 2 ^ 32 → n < 8 → (q : ℕ) → q ≡ c → HasAlone w1 q n p
  alone_at c n p h fits small q e = (ap (λ (x : ℕ). field w1 x n) e ∙ lone_field w1 c n p h fits n small refl, λ k l ne. ap (λ (x : ℕ). field w1 x k) e ∙ lone_other w1 c n p h fits k l ne)

  pub leaf_put : (m : MetNoLeaf w g key s taken) → Stands w1 used (body_words w used (slice_index w 0 + 1) value m.rest (exit_with NoLeaf s taken) m.byte)
      → Publishes w1 (stored_field w1 s.cell s.field (32 * first_further used value m.rest + 28)) (ledger_after g used key value (m.path ++ m.byte ∷ []) m.rest (further_owners w NoLeaf s m.path m.byte m.top (first_further used value m.rest))) cells 0 (entry_of used value m.rest) (m.path ++ m.byte ∷ []) key used
  leaf_put m h = let whole : (m.path ++ m.byte ∷ []) ++ m.rest ≡ key = append_assoc m.path (m.byte ∷ []) m.rest ∙ m.whole in let sp = m.split in let mid = m.mid in
      let d = ready NoLeaf (m.path ++ m.byte ∷ []) m.rest m.path m.byte m.top whole h in let small : m.byte < 256 = sp.small in
      let words : Stands w1 (first_further used value m.rest) (lone_words (m.byte % 8) (entry_of used value m.rest)) = further_stands w w1 used (slice_index w 0 + 1) value m.rest (exit_with NoLeaf s taken) m.byte h in
      let new = no_leaf w w1 g (ledger_after g used key value (m.path ++ m.byte ∷ []) m.rest (further_owners w NoLeaf s m.path m.byte m.top (first_further used value m.rest))) cells ok d.grows d.keeps (first_further used value m.rest) (content_of used) (entry_of used value m.rest) d.near d.low m.top m.byte m.path small sp.own d.at_entry d.owned words in
      let image = d.image new.0 in let place : s.field < 8 = let e = m.place in omega arith in
      mid_publishes w1 (ledger_after g used key value (m.path ++ m.byte ∷ []) m.rest (further_owners w NoLeaf s m.path m.byte m.top (first_further used value m.rest))) cells image key used (entry_of used value m.rest) (m.path ++ m.byte ∷ []) d.at_entry
      s.cell s.field (32 * first_further used value m.rest + 28) m.top (m.byte / 64) (m.byte % 8) (d.keeps s.cell (MidCell m.top (m.byte / 64)) mid.own) place (omega (arith, d.near))
      (same_field w w1 s.cell s.field (same.cells s.cell (MidCell m.top (m.byte / 64)) mid.own) place ∙ m.absent)
      (subst (λ (k : ℕ). owner (ledger_after g used key value (m.path ++ m.byte ∷ []) m.rest (further_owners w NoLeaf s m.path m.byte m.top (first_further used value m.rest))) ((32 * first_further used value m.rest + 28) / 32) ≡ Some (LeafCell m.top (m.byte / 64) k)) (sym m.place) (new.1).0) (new.1).1
      (alone_at (first_further used value m.rest) (m.byte % 8) (entry_of used value m.rest) words (path_small _ (entry_of used value m.rest) (m.path ++ m.byte ∷ []) image.head d.at_entry) (omega arith) ((32 * first_further used value m.rest + 28) / 32) (omega arith))

  pub mid_put : (t : ℕ) (m : MetNoMid w g key s taken) → Stands w1 used (body_words w used (slice_index w 0 + 1) value m.rest (exit_with NoMid s taken) m.byte)
      → Publishes w1 (stored_field w1 s.cell s.field (32 * first_further used value m.rest + 28)) (ledger_after g used key value (m.path ++ m.byte ∷ []) m.rest (further_owners w NoMid s m.path m.byte t (first_further used value m.rest))) cells 0 (entry_of used value m.rest) (m.path ++ m.byte ∷ []) key used
  mid_put t m h = let whole : (m.path ++ m.byte ∷ []) ++ m.rest ≡ key = append_assoc m.path (m.byte ∷ []) m.rest ∙ m.whole in let sp = m.split in
      let d = ready NoMid (m.path ++ m.byte ∷ []) m.rest m.path m.byte t whole h in let small : m.byte < 256 = sp.small in
      let mids : List ℕ = lone_words (m.byte / 8 % 8) (32 * (first_further used value m.rest + 1) + 28) in let leaves : List ℕ = lone_words (m.byte % 8) (entry_of used value m.rest) in
      let words : Stands w1 (first_further used value m.rest) (lone_words (m.byte / 8 % 8) (32 * (first_further used value m.rest + 1) + 28) ++ lone_words (m.byte % 8) (entry_of used value m.rest)) = further_stands w w1 used (slice_index w 0 + 1) value m.rest (exit_with NoMid s taken) m.byte h in
      let new = no_mid w w1 g (ledger_after g used key value (m.path ++ m.byte ∷ []) m.rest (further_owners w NoMid s m.path m.byte t (first_further used value m.rest))) cells ok d.grows d.keeps (first_further used value m.rest) (content_of used) (entry_of used value m.rest) d.near d.low s.cell m.byte m.path small sp.own d.at_entry d.owned words in
      let image = d.image new.0 in let place : s.field < 4 = let e = m.place in omega arith in
      let leaf_at : owner (ledger_after g used key value (m.path ++ m.byte ∷ []) m.rest (further_owners w NoMid s m.path m.byte t (first_further used value m.rest))) (first_further used value m.rest + 1) ≡ Some (LeafCell s.cell (m.byte / 64) (m.byte / 8 % 8)) =
      owner_second (ledger_after g used key value (m.path ++ m.byte ∷ []) m.rest (further_owners w NoMid s m.path m.byte t (first_further used value m.rest))) (first_further used value m.rest) (MidCell s.cell (m.byte / 64)) (LeafCell s.cell (m.byte / 64) (m.byte / 8 % 8)) d.owned in
      let cell_l : (32 * (first_further used value m.rest + 1) + 28) / 32 ≡ first_further used value m.rest + 1 = omega arith in
      top_publishes w1 (ledger_after g used key value (m.path ++ m.byte ∷ []) m.rest (further_owners w NoMid s m.path m.byte t (first_further used value m.rest))) cells image key used (entry_of used value m.rest) (m.path ++ m.byte ∷ []) d.at_entry
      s.cell s.field (32 * first_further used value m.rest + 28) (m.byte / 8 % 8) (32 * (first_further used value m.rest + 1) + 28) (m.byte % 8) m.path (d.keeps s.cell (TopCell m.path) sp.own) place (omega (arith, d.near))
      (same_field w w1 s.cell s.field (same.cells s.cell (TopCell m.path) sp.own) (omega arith) ∙ m.absent)
      (subst (λ (k : ℕ). owner (ledger_after g used key value (m.path ++ m.byte ∷ []) m.rest (further_owners w NoMid s m.path m.byte t (first_further used value m.rest))) ((32 * first_further used value m.rest + 28) / 32) ≡ Some (MidCell s.cell k)) (sym m.place) (new.1).0) (new.1).1
      (subst (λ (k : ℕ). owner (ledger_after g used key value (m.path ++ m.byte ∷ []) m.rest (further_owners w NoMid s m.path m.byte t (first_further used value m.rest))) ((32 * (first_further used value m.rest + 1) + 28) / 32) ≡ Some (LeafCell s.cell k (m.byte / 8 % 8))) (sym m.place)
      (subst (λ (c : ℕ). owner (ledger_after g used key value (m.path ++ m.byte ∷ []) m.rest (further_owners w NoMid s m.path m.byte t (first_further used value m.rest))) c ≡ Some (LeafCell s.cell (m.byte / 64) (m.byte / 8 % 8))) (sym cell_l) leaf_at)) (λ z. omega arith)
      (alone_at (first_further used value m.rest) (m.byte / 8 % 8) (32 * (first_further used value m.rest + 1) + 28) (stands_front w1 (first_further used value m.rest) mids leaves words) (omega (arith, d.near)) (omega arith) ((32 * first_further used value m.rest + 28) / 32) (omega arith))
      (alone_at (first_further used value m.rest + 1) (m.byte % 8) (entry_of used value m.rest) (stands_back w1 (first_further used value m.rest) 1 mids leaves refl words) (path_small _ (entry_of used value m.rest) (m.path ++ m.byte ∷ []) image.head d.at_entry) (omega arith) ((32 * (first_further used value m.rest + 1) + 28) / 32) cell_l)

  -- a sparse node with room, whose free slot holds the entry
  pub sparse_put : (t : ℕ) (m : MetSparse w g key s taken) → Stands w1 used (body_words w used (slice_index w 0 + 1) value m.rest (exit_with Sparse s taken) m.byte) → field w1 s.cell (child_count (word_of w s.cell 3)) ≡ entry_of used value m.rest
      → Publishes w1 (set w1 (4 * s.cell + 3) (word_with (word_of w s.cell 3) m.byte)) (ledger_after g used key value (m.path ++ m.byte ∷ []) m.rest []) cells 0 (entry_of used value m.rest) (m.path ++ m.byte ∷ []) key used
  sparse_put t m h slot = let whole : (m.path ++ m.byte ∷ []) ++ m.rest ≡ key = append_assoc m.path (m.byte ∷ []) m.rest ∙ m.whole in let small : m.byte < 256 = bytes_after m.path (m.byte ∷ m.rest) key m.whole bytes 0 in
      let d = ready Sparse (m.path ++ m.byte ∷ []) m.rest m.path m.byte t whole h in let r = m.reached in
      let own : owner g s.cell ≡ Some (SparseCell m.path) = subst (λ (c : ℕ). owner g c ≡ Some (SparseCell m.path)) m.here (sparse_of g s.at m.path r.node m.is_sparse) in
      let cell : IsSparseCell w g s.cell m.path = ok.each s.cell (SparseCell m.path) own in let kept = same.cells s.cell (SparseCell m.path) own in
      let adds : AddsChild (word_of w s.cell 3) (word_with (word_of w s.cell 3) m.byte) m.byte = adds_child (word_of w s.cell 3) m.byte (sparse_fits (word_of w s.cell 3) cell.sparse) small m.capacity cell.sparse m.absent in
      add_publishes w1 (ledger_after g used key value (m.path ++ m.byte ∷ []) m.rest []) cells (d.image (λ j o e. absurd (cc))) key used (entry_of used value m.rest) (m.path ++ m.byte ∷ []) d.at_entry s.cell m.byte (word_with (word_of w s.cell 3) m.byte) m.path (d.keeps s.cell (SparseCell m.path) own)
      (subst (λ (x : ℕ). AddsChild x (word_with (word_of w s.cell 3) m.byte) m.byte) (sym kept.0) adds) (subst (λ (x : ℕ). child_count x < 6) (sym kept.0) m.capacity) (subst (λ (x : ℕ). slot_at x m.byte ≡ None) (sym kept.0) m.absent)
      (subst (λ (x : ℕ). field w1 s.cell (child_count x) ≡ entry_of used value m.rest) (sym kept.0) slot) refl
