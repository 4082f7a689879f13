-- For each case that a walk met: what the put publishes is better than what stood in the walk's field.
use Rattle.std.proofs.Common.{◌≡◌, ◌≢◌, ℕ, zero, suc, ◌+◌, ◌-◌, ◌*◌, ◌/◌, ◌%◌, ◌^◌, ◌<◌, ◌≤◌, ◌==◌, nat_lt, cond, List, [], ◌∷◌, ◌++◌, length, take, Option, Some, None, refl, sym, ap, ◌∙◌, subst, ⊎_elim, arith, length-append, eq-eqb, ne_eqb, append-nil}
use Rattle.std.proofs.lemmas.Bool.{cases_eq, cond_both, cond-true, cond-false}
use Rattle.std.proofs.Math.Nat.{mod-lt}
use Rattle.cell_layout.specs.declared.Kind.TheVariants as kind
use Rattle.cell_layout.specs.Pointers.{kind_at}
use Rattle.cell_layout.specs.Slots.{slot_at}
use Rattle.cell_layout.proofs.PointerKinds.{is_kind, is_chain}
use Rattle.cell_layout.specs.Cells.{record_cells, record_words, chain_cells, chain_from, branch_words, prefix_words}
use Rattle.cell_layout.specs.Words.{ItemsAreBytes}
use Rattle.cell_layout.proofs.WordsAt.{length_chain, length_record_words}
use Rattle.trie_image.specs.declared.Owner.TheVariants.{HeadCell, ChainCell, SparseCell, PrefixCell}
use Rattle.trie_image.specs.declared.Ledger.{Ledger}
use Rattle.trie_image.specs.declared.exit.Stand.{Stand}
use Rattle.trie_image.specs.declared.exit.Exit.{Exit}
use Rattle.trie_image.specs.Reading.{Reading, Reads, Better}
use Rattle.trie_image.specs.Image.{word_of, field, cell_byte, slot_child, reading}
use Rattle.trie_image.specs.Paths.{owner, HasPath}
use Rattle.trie_image.specs.Cell.{IsChainCell, IsSparseCell, IsImage}
use Rattle.trie_image.specs.Same.{SameWords}
use Rattle.trie_image.specs.Body.{chain_rest, passed_words, split_node_words, leaf_field, over_passed, further}
use Rattle.trie_image.specs.Stores.{content_of, entry_of, first_further, body_words}
use Rattle.trie_image.proofs.Owners.{chain_of, sparse_of}
use Rattle.trie_image.proofs.Kept.{same_byte, same_field, own_inside}
use Rattle.trie_image.proofs.Betters.{under_bytes}
use Rattle.trie_image.proofs.BodyLengths.{length_branch}
use Rattle.trie_image.proofs.CellWords.{Stands, stands_front, stands_back}
use Rattle.trie_image.proofs.NewSplitNode.{path_small}
use Rattle.trie_image.proofs.NewCases.{rest_path}
use Rattle.trie_image.proofs.Homes.{Home, root, tail, slot, leaf, content, node}
use Rattle.trie_image.proofs.Leaves.{StandsAt, MetContent, MetNothing, MetOtherByte, MetEnd, MetFull, MetPastContent}
use Rattle.trie_image.proofs.Exits.{IsNode, node_nonzero}
use Rattle.trie_image.proofs.Chains.{new_chain_reads}
use Rattle.trie_image.proofs.Published.{better_entry, better_same, better_past, better_under, better_split, old_reads, passed_reads, better_split_node}
use Rattle.trie_image.proofs.Turned.{Turned, same_apart, apart_of}

-- a pointer that reads bytes and is then one that isn't 0
pub reads_nonzero : (r : Reading) (p x : ℕ) (m : List ℕ) → Reads r p m x → x ≢ 0 → p ≢ 0
reads_nonzero r p x [] e ne z = ne (sym e ∙ z)
reads_nonzero r p x (b ∷ m) (there, none, only, on) ne z = there z

short_path : (n : ℕ) (l : List ℕ) → length (take n l) ≤ n
short_path zero l = omega arith
short_path (suc n) [] = omega arith
short_path (suc n) (x ∷ l) = let h = short_path n l in omega arith

-- the cell of the home is none below it
module _ (w : List ℕ) (g : Ledger) (cells : ℕ) (ok : IsImage w g cells) (q : List ℕ) (cell place : ℕ) where
  pub apart_chain : Home w g q cell place → (c from : ℕ) (t : List ℕ) → owner g c ≡ Some (ChainCell from t) → length q < length t → c ≢ cell
  apart_chain (root e is l) c from t own longer z = apart_of g c 0 (ChainCell from t) HeadCell own ok.head (λ y. cc) (z ∙ is)
  apart_chain (tail f) c from t own longer z = apart_of g c cell (ChainCell from t) (ChainCell f.from q) own f.own (λ y. let same : t ≡ q = cc in let len = ap (λ (x : List ℕ). length x) same in omega (arith, len)) z
  apart_chain (slot f) c from t own longer z = apart_of g c cell (ChainCell from t) (SparseCell f.before) own f.own (λ y. cc) z
  apart_chain (leaf f) c from t own longer z = apart_of g c cell (ChainCell from t) _ own f.leaf.own (λ y. cc) z
  apart_chain (content f e) c from t own longer z = apart_of g c cell (ChainCell from t) (PrefixCell q) own f.own (λ y. cc) z
  apart_chain (node f e) c from t own longer z = apart_of g c cell (ChainCell from t) (PrefixCell q) own f.own (λ y. cc) z

  pub apart_sparse : Home w g q cell place → (c : ℕ) → owner g c ≡ Some (SparseCell q) → c ≢ cell
  apart_sparse (root e is l) c own z = apart_of g c 0 (SparseCell q) HeadCell own ok.head (λ y. cc) (z ∙ is)
  apart_sparse (tail f) c own z = apart_of g c cell (SparseCell q) (ChainCell f.from q) own f.own (λ y. cc) z
  apart_sparse (slot f) c own z = apart_of g c cell (SparseCell q) (SparseCell f.before) own f.own (λ y. let same : q ≡ f.before = cc in let len = ap (λ (x : List ℕ). length x) (sym f.whole ∙ same) in omega (arith, len, length-append f.before (f.byte ∷ []))) z
  apart_sparse (leaf f) c own z = apart_of g c cell (SparseCell q) _ own f.leaf.own (λ y. cc) z
  apart_sparse (content f e) c own z = apart_of g c cell (SparseCell q) (PrefixCell q) own f.own (λ y. cc) z
  apart_sparse (node f e) c own z = apart_of g c cell (SparseCell q) (PrefixCell q) own f.own (λ y. cc) z

-- the words of a put's new cells: the chain and the further cells
module _ (w w' : List ℕ) (used number : ℕ) (value rest : List ℕ) (e : Exit) (b : ℕ) (h : Stands w' used (body_words w used number value rest e b)) where
  pub chain_stands : Stands w' (used + record_cells (length value)) (chain_from (used + record_cells (length value)) (chain_cells (length rest)) rest (content_of used))
  unfolding body_words
  chain_stands = let r : List ℕ = record_words number value in let c : List ℕ = chain_from (used + record_cells (length value)) (chain_cells (length rest)) rest (content_of used) in
      let more : List ℕ = further w e.meets e.stand b (first_further used value rest) (content_of used) (entry_of used value rest) in
      stands_back w' used (record_cells (length value)) r c (length_record_words number value) (stands_front w' used (r ++ c) more h)

  pub further_stands : Stands w' (first_further used value rest) (further w e.meets e.stand b (first_further used value rest) (content_of used) (entry_of used value rest))
  unfolding body_words
  further_stands = let r : List ℕ = record_words number value in let f : ℕ = used + record_cells (length value) in let c : List ℕ = chain_from (used + record_cells (length value)) (chain_cells (length rest)) rest (content_of used) in
      let more : List ℕ = further w e.meets e.stand b (first_further used value rest) (content_of used) (entry_of used value rest) in
      let long : length (r ++ c) ≡ 4 * (record_cells (length value) + chain_cells (length rest)) = omega (arith, length-append r c, length_record_words number value, length_chain f (chain_cells (length rest)) rest (content_of used)) in
      let at : used + (record_cells (length value) + chain_cells (length rest)) ≡ first_further used value rest = omega arith in
      subst (λ (x : ℕ). Stands w' x more) at (stands_back w' used (record_cells (length value) + chain_cells (length rest)) (r ++ c) more long h)

-- the new chain
module _ (used : ℕ) (value rest : List ℕ) (low : 1 ≤ used) (capacity : first_further used value rest ≤ 2 ^ 22) where
  pub entry_small : entry_of used value rest < 2 ^ 32
  entry_small = ⊎_elim (λ (z : length rest ≡ 0). subst (λ (p : ℕ). p < 2 ^ 32) (sym (cond-true (length rest == 0) (content_of used) (32 * (used + record_cells (length value)) + (28 * chain_cells (length rest) - length rest)) (eq-eqb (length rest) 0 z))) (omega arith))
      (λ (ne : length rest ≢ 0). subst (λ (p : ℕ). p < 2 ^ 32) (sym (cond-false (length rest == 0) (content_of used) (32 * (used + record_cells (length value)) + (28 * chain_cells (length rest) - length rest)) (ne_eqb (length rest) 0 ne))) (omega arith)) (cases_eq (length rest) 0)

  pub entry_is_chain : length rest ≢ 0 → kind_at (entry_of used value rest) ≡ Some kind.Chain
  entry_is_chain ne = let p : ℕ = 32 * (used + record_cells (length value)) + (28 * chain_cells (length rest) - length rest) in
      ap (λ (x : ℕ). kind_at x) (cond-false (length rest == 0) (content_of used) p (ne_eqb (length rest) 0 ne)) ∙ is_chain p (λ z. omega arith) (omega arith) (omega arith)

  pub entry_reads : (w' : List ℕ) → ItemsAreBytes rest → Stands w' (used + record_cells (length value)) (chain_from (used + record_cells (length value)) (chain_cells (length rest)) rest (content_of used)) → Reads (reading w') (entry_of used value rest) rest (content_of used)
  entry_reads w' bytes h = new_chain_reads w' (used + record_cells (length value)) rest (content_of used) h (omega arith) (omega arith) bytes

-- the cases of a pointer that is turned in the walk's field
module _ (w w' : List ℕ) (g : Ledger) (cells : ℕ) (ok : IsImage w g cells) (s : Stand) (p' : ℕ) (t : Turned w w' (length g.owners) s.cell s.field p') (used x entry : ℕ) (low : 1 ≤ x) (capacity : x + 64 < 2 ^ 26) (few : used < 2 ^ 31) (small : entry < 2 ^ 32) where
  -- a chain cell that the walk met is as it was
  chain_same : (q m path : List ℕ) → StandsAt w g q m path s → kind_at s.at ≡ Some kind.Chain → SameWords w w' (s.at / 32)
  chain_same q m path h k = let offset : (s.at ≢ 0) × (s.at < 2 ^ 31) × (s.at % 32 ≤ 27) = is_kind s.at (Some kind.Chain) k in let i = chain_of g s.at path (h.at_path offset.0) k in
      let cell : IsChainCell w g (s.at / 32) i.0 i.1 = ok.each (s.at / 32) (ChainCell i.0 i.1) i.2 in
      let shorter : length path ≤ length i.1 + s.at % 32 - 28 = subst (λ (l : List ℕ). length l ≤ length i.1 + s.at % 32 - 28) (sym i.4) (short_path (length i.1 + s.at % 32 - 28) i.1) in
      let whole = ap (λ (l : List ℕ). length l) h.passed in
      same_apart w w' (length g.owners) s.cell s.field p' t (s.at / 32) (own_inside g.owners (s.at / 32) (ChainCell i.0 i.1) i.2)
      (apart_chain w g cells ok q s.cell s.field h.home (s.at / 32) i.0 i.1 i.2 (omega (arith, shorter, whole, length-append q m, i.3, cell.long, offset.2)))

  -- so the pointer that entered it reads the bytes that were passed
  reads_here : (q m path : List ℕ) → StandsAt w g q m path s → s.at ≢ 0 → Reads (reading w') s.entered m s.at
  reads_here q m path h ne = ⊎_elim
      (λ (e : m ≡ []). subst (λ (l : List ℕ). Reads (reading w') s.entered l s.at) (sym e) (subst (λ (l : List ℕ). Reads (reading w) s.entered l s.at) e h.reads))
      (λ (k : kind_at s.at ≡ Some kind.Chain). let offset : (s.at ≢ 0) × (s.at < 2 ^ 31) × (s.at % 32 ≤ 27) = is_kind s.at (Some kind.Chain) k in
      old_reads w w' s m h.forward h.offset h.bytes (reads_nonzero (reading w) s.entered s.at m h.reads ne) offset.1 offset.2 (λ o l. same_byte w w' (s.at / 32) o (chain_same q m path h k) (omega arith))) h.plain

  pub other_better : (key : List ℕ) (taken : ℕ) (m : MetOtherByte w g key s taken) → m.byte < 256 → Stands w' x (branch_words (cell_byte w (s.at / 32) (s.at % 32)) (chain_rest w s.at) m.byte entry ++ passed_words w s (32 * x + 30)) → Reads (reading w') entry m.rest (content_of used)
      → Better (reading w') s.entered (over_passed s x 30) (m.inside ++ m.byte ∷ m.rest) used
  other_better key taken m sb h reads = let st = m.stands in let k = m.is_chain in let old : ℕ = cell_byte w (s.at / 32) (s.at % 32) in
      let offset : (s.at ≢ 0) × (s.at < 2 ^ 31) × (s.at % 32 ≤ 27) = is_kind s.at (Some kind.Chain) k in
      let same = chain_same m.home_path m.inside m.path st k in let byte : cell_byte w' (s.at / 32) (s.at % 32) ≡ old = same_byte w w' (s.at / 32) (s.at % 32) same (omega (arith, offset.2)) in
      let rest_same : chain_rest w' s.at ≡ chain_rest w s.at = ap (λ (y : ℕ). cond (s.at % 32 == 27) y (cond (nat_lt (s.at % 32) 27) (s.at + 1) 0)) (same_field w w' (s.at / 32) 7 same (omega arith)) in
      let fits : chain_rest w s.at < 2 ^ 32 = path_small g (chain_rest w s.at) _ ok.head (rest_path w g cells ok s.at m.path (st.at_path offset.0) k) in
      let split : List ℕ = branch_words (cell_byte w (s.at / 32) (s.at % 32)) (chain_rest w s.at) m.byte entry in
      let stands : Stands w' x (branch_words (cell_byte w (s.at / 32) (s.at % 32)) (chain_rest w' s.at) m.byte entry) = subst (λ (y : ℕ). Stands w' x (branch_words (cell_byte w (s.at / 32) (s.at % 32)) y m.byte entry)) (sym rest_same) (stands_front w' x split (passed_words w s (32 * x + 30)) h) in
      under_bytes (reading w') m.inside (m.byte ∷ m.rest) s.entered (over_passed s x 30) s.at (32 * x + 30) used (reads_here m.home_path m.inside m.path st offset.0)
      (passed_reads w w' s m.inside st.forward st.offset st.bytes x 30 (omega arith) low (omega arith) offset.2 (stands_back w' x 1 split (passed_words w s (32 * x + 30)) (length_branch (cell_byte w (s.at / 32) (s.at % 32)) (chain_rest w s.at) m.byte entry) h))
      (better_split w' used few s.at k x old m.byte entry m.rest stands (sym byte) low (omega arith) (mod-lt _ (omega arith)) sb (subst (λ (y : ℕ). y < 2 ^ 32) (sym rest_same) fits) small m.other reads)

  pub end_better : (key : List ℕ) (m : MetEnd w g key s) → Stands w' x (prefix_words (content_of used) s.at ++ passed_words w s (32 * x + 31)) → Better (reading w') s.entered (over_passed s x 31) m.inside used
  end_better key m h = let st = m.stands in let ne : s.at ≢ 0 = node_nonzero s.at m.is_node in let prefix : List ℕ = prefix_words (content_of used) s.at in
      subst (λ (l : List ℕ). Better (reading w') s.entered (over_passed s x 31) l used) (append-nil m.inside)
      (under_bytes (reading w') m.inside [] s.entered (over_passed s x 31) s.at (32 * x + 31) used (reads_here m.home_path m.inside key st ne)
      (⊎_elim (λ (e : m.inside ≡ []). let same : s.at ≡ s.entered = st.forward ∙ (ap (λ (l : List ℕ). s.entered + length l) e ∙ (let z : s.entered + 0 ≡ s.entered = omega arith in z)) in
      subst (λ (l : List ℕ). Reads (reading w') (over_passed s x 31) l (32 * x + 31)) (sym e) (cond-true (s.at == s.entered) (32 * x + 31) (32 * (x + 1) + (28 - (s.at - s.entered))) (eq-eqb s.at s.entered same)))
      (λ (k : kind_at s.at ≡ Some kind.Chain). let offset : (s.at ≢ 0) × (s.at < 2 ^ 31) × (s.at % 32 ≤ 27) = is_kind s.at (Some kind.Chain) k in
      passed_reads w w' s m.inside st.forward st.offset st.bytes x 31 (omega arith) low (omega arith) offset.2 (stands_back w' x 1 prefix (passed_words w s (32 * x + 31)) refl h)) st.plain)
      (better_under w' used few x s.at (stands_front w' x prefix (passed_words w s (32 * x + 31)) h) low (omega arith) m.is_node ne))

  slot_fits : (c d : ℕ) (q : List ℕ) → IsSparseCell w g d q → (o : Option ℕ) → slot_at (word_of w d 3) c ≡ o → slot_child w d o < 2 ^ 32
  slot_fits c d q cell None e = omega arith
  slot_fits c d q cell (Some n) e = path_small g (field w d n) (q ++ c ∷ []) ok.head (cell.children c n e)

  pub field_small : (b c d : ℕ) (q : List ℕ) → owner g d ≡ Some (SparseCell q) → leaf_field w d b entry c < 2 ^ 32
  unfolding leaf_field
  field_small b c d q own = cond_both (c == b) entry (slot_child w d (slot_at (word_of w d 3) c)) (λ (p : ℕ). p < 2 ^ 32) (λ e. small) (λ e. slot_fits c d q (ok.each d (SparseCell q) own) (slot_at (word_of w d 3) c) refl)

  pub full_better : (key : List ℕ) (taken : ℕ) (m : MetFull w g key s taken) → m.byte < 256 → Stands w' x (split_node_words w (s.at / 32) m.byte entry x) → Reads (reading w') entry m.rest (content_of used) → Better (reading w') s.entered (32 * x + 28) (m.byte ∷ m.rest) used
  full_better key taken m sb h reads = let st = m.stands in let k = m.is_sparse in let at : HasPath g s.at m.path = st.at_path (is_kind s.at (Some kind.Sparse) k).0 in let own = sparse_of g s.at m.path at k in
      let same : SameWords w w' (s.at / 32) = same_apart w w' (length g.owners) s.cell s.field p' t (s.at / 32) (own_inside g.owners (s.at / 32) (SparseCell m.path) own) (apart_sparse w g cells ok m.path s.cell s.field st.home (s.at / 32) own) in
      subst (λ (p : ℕ). Better (reading w') p (32 * x + 28) (m.byte ∷ m.rest) used) (sym st.reads)
      (better_split_node w w' used few s.at m.byte entry x k same h low capacity sb (λ c. field_small m.byte c (s.at / 32) m.path own) m.rest m.absent reads)

  pub past_better : (key : List ℕ) (taken : ℕ) (m : MetPastContent w g key s taken) → IsNode entry → Stands w' x (prefix_words s.at entry) → Reads (reading w') entry (m.byte ∷ m.rest) (content_of used) → Better (reading w') s.entered (32 * x + 31) (m.byte ∷ m.rest) used
  past_better key taken m is_node h reads = let st = m.stands in let k = m.is_content in let at : HasPath g s.at m.path = st.at_path (λ z. let l = is_kind s.at (Some kind.Content) k in omega arith) in
      subst (λ (p : ℕ). Better (reading w') p (32 * x + 31) (m.byte ∷ m.rest) used) (sym st.reads) (better_past w' used few x s.at entry m.byte m.rest h low (omega arith) (path_small g s.at m.path ok.head at) k is_node reads)

  pub content_better : (key : List ℕ) (m : MetContent w g key s) → Better (reading w') s.entered (content_of used) [] used
  content_better key m = subst (λ (p : ℕ). Better (reading w') p (content_of used) [] used) (sym m.stands.reads) (better_same w' used few s.at m.is_content)

  pub nothing_better : (key : List ℕ) (taken : ℕ) (m : MetNothing w g key s taken) → Reads (reading w') entry m.rest (content_of used) → Better (reading w') s.entered entry m.rest used
  nothing_better key taken m reads = subst (λ (p : ℕ). Better (reading w') p entry m.rest used) (sym (m.stands.reads ∙ m.is_nothing)) (better_entry w' used few entry m.rest reads)
