-- What the end of a walk tells in a well-formed image.
use Rattle.std.proofs.Common.{◌≡◌, ◌≢◌, ◌⊎◌, ℕ, suc, ◌+◌, ◌-◌, ◌/◌, ◌%◌, ◌^◌, ◌<◌, ◌≤◌, ◌==◌, nat_lt, Bool, true, false, cond, List, [], ◌∷◌, ◌++◌, length, slice_index, Option, Some, None, refl, sym, ap, ap₂, ◌∙◌, subst, inl, inr, ⊎_elim, arith, append_assoc, append-nil, length-append, eq-eqb, ne_eqb, eqb-true, ltb-true, lt-ltb}
use Rattle.std.proofs.lemmas.List.{get_or_append_left}
use Rattle.std.proofs.Math.Seq.{get_or-append_seam}
use Rattle.std.proofs.lemmas.Bool.{cases_eq, cond-true, cond-false, eqb-false, ltb-false}
use Rattle.cell_layout.specs.declared.Kind.{Kind}
use Rattle.cell_layout.specs.declared.Kind.TheVariants as kind
use Rattle.cell_layout.specs.Pointers.{kind_at}
use Rattle.cell_layout.specs.Slots.{slot_at, child_count}
use Rattle.cell_layout.proofs.PointerKinds.{is_kind, next_byte}
use Rattle.cell_layout.specs.Words.{ItemsAreBytes}
use Rattle.trie_image.specs.declared.Owner.{Owner}
use Rattle.trie_image.specs.declared.Owner.TheVariants.{HeadCell, ChainCell, SparseCell, TopCell, MidCell, LeafCell, PrefixCell}
use Rattle.trie_image.specs.declared.Ledger.{Ledger}
use Rattle.trie_image.specs.declared.exit.Stand.{Stand}
use Rattle.trie_image.specs.declared.exit.Meets.TheVariants.{OtherByte, Sparse, Full, NoLeaf, NoMid}
use Rattle.trie_image.specs.declared.exit.Step.{Step}
use Rattle.trie_image.specs.declared.exit.Step.TheVariants.{On, Left}
use Rattle.trie_image.specs.Reading.{Reading, Reads}
use Rattle.trie_image.specs.Image.{word_of, field, cell_byte, chain_child, slot_child, leaf_child, mid_child, node_child, child_of, record_of, reading, root_of}
use Rattle.trie_image.specs.Paths.{owner, HasPath, at_content, at_chain, at_sparse, at_split, at_prefix}
use Rattle.trie_image.specs.Cell.{IsChainCell, IsSparseCell, IsTopCell, IsMidCell, IsPrefixCell, IsImage}
use Rattle.trie_image.specs.Body.{chain_rest}
use Rattle.trie_image.specs.Exit.{stand_at, stand_in, end_at, chain_step, slot_step, leaf_step, mid_step, node_step, byte_step, exit_from, exit_at, exit_of}
use Rattle.trie_image.proofs.Owners.{chain_of, sparse_of, split_node_of, prefix_of, path_once}
use Rattle.trie_image.proofs.Children.{closed}
use Rattle.trie_image.proofs.Betters.{reads_on}
use Rattle.trie_image.proofs.Live.{Walks}
use Rattle.trie_image.proofs.Homes.{Over, itself, by_prefix, Reaches, IsMidUnder, IsSplitAt, Home, root, tail, slot, leaf, content, node}
use Rattle.trie_image.proofs.Leaves.{StandsAt, LeavesBy, Leaves}

add_zero : (n : ℕ) → n ≡ n + 0
add_zero n = omega arith

-- a pointer with a path is not 0
pub path_nonzero : (g : Ledger) (p : ℕ) (q : List ℕ) → HasPath g p q → p ≢ 0
path_nonzero g p q (at_content n e k o h s) z = let l = is_kind p (Some kind.Content) k in omega arith
path_nonzero g p q (at_chain from t k o h s) z = let l = (is_kind p (Some kind.Chain) k).0 in l z
path_nonzero g p q (at_sparse k o) z = let l = (is_kind p (Some kind.Sparse) k).0 in l z
path_nonzero g p q (at_split k o) z = let l = (is_kind p (Some kind.Wide) k).0 in l z
path_nonzero g p q (at_prefix k o) z = let l = (is_kind p (Some kind.Prefix) k).0 in l z

no_kind_of : (g : Ledger) (p : ℕ) (q : List ℕ) → kind_at p ≡ None → HasPath g p q → ⊥
no_kind_of g p q none (at_content n e k o h s) = cc
no_kind_of g p q none (at_chain from t k o h s) = cc
no_kind_of g p q none (at_sparse k o) = cc
no_kind_of g p q none (at_split k o) = cc
no_kind_of g p q none (at_prefix k o) = cc

-- a byte further
pub walks_on : (r : Reading) (bs : List ℕ) (a x b : ℕ) → Walks r a bs x → r.child x b ≢ 0 → Walks r a (bs ++ b ∷ []) (r.child x b)
walks_on r [] a x b e ne = subst (λ (z : ℕ). (r.child z b ≢ 0) × (r.child z b ≡ r.child x b)) (sym e) (ne, refl)
walks_on r (d ∷ bs) a x b (n, walk) ne = (n, walks_on r bs (r.child a d) x b walk ne)

-- a chain, sparse or split node's pointer
abbrev pub IsNode : ℕ → Type 0
IsNode p = (kind_at p ≡ Some kind.Chain) ⊎ ((kind_at p ≡ Some kind.Sparse) ⊎ (kind_at p ≡ Some kind.Wide))

pub node_nonzero : (p : ℕ) → IsNode p → p ≢ 0
node_nonzero p is = ⊎_elim (λ (e : kind_at p ≡ Some kind.Chain). (is_kind p (Some kind.Chain) e).0) (λ t. ⊎_elim (λ (e : kind_at p ≡ Some kind.Sparse). (is_kind p (Some kind.Sparse) e).0) (λ (e : kind_at p ≡ Some kind.Wide). (is_kind p (Some kind.Wide) e).0) t) is

-- its children are those of a prefix cell over it
pub own_children : (w : List ℕ) (n b : ℕ) → IsNode n → child_of w n b (kind_at n) ≡ node_child w n b (kind_at n)
own_children w n b is = ⊎_elim (λ (e : kind_at n ≡ Some kind.Chain). subst (λ (k : Option Kind). child_of w n b k ≡ node_child w n b k) (sym e) refl) (λ t. ⊎_elim
    (λ (e : kind_at n ≡ Some kind.Sparse). subst (λ (k : Option Kind). child_of w n b k ≡ node_child w n b k) (sym e) refl)
    (λ (e : kind_at n ≡ Some kind.Wide). subst (λ (k : Option Kind). child_of w n b k ≡ node_child w n b k) (sym e) refl) t) is

pub over_children : (w : List ℕ) (g : Ledger) (y n b : ℕ) → IsNode n → Over w g y n → child_of w y b (kind_at y) ≡ node_child w n b (kind_at n)
over_children w g y n b is (itself e) = ap (λ (x : ℕ). child_of w x b (kind_at x)) e ∙ own_children w n b is
over_children w g y n b is (by_prefix k e) = ap (λ (x : Option Kind). child_of w y b x) k ∙ ap (λ (x : ℕ). node_child w x b (kind_at x)) e

-- a chain pointer before the last byte of its cell reads this byte and is the next pointer
pub next_reads : (w : List ℕ) (p b : ℕ) → kind_at p ≡ Some kind.Chain → cell_byte w (p / 32) (p % 32) ≡ b → p % 32 ≢ 27 → Reads (reading w) p (b ∷ []) (p + 1)
next_reads w p b k e l = (
  (is_kind p (Some kind.Chain) k).0,
  ap (λ (x : Option Kind). record_of w p x) k,
  (λ a ne. ap (λ (x : Option Kind). child_of w p a x) k ∙ cond-false (cell_byte w (p / 32) (p % 32) == a) (cond (p % 32 == 27) (field w (p / 32) 7) (p + 1)) 0 (ne_eqb (cell_byte w (p / 32) (p % 32)) a (λ z. ne (sym z ∙ e)))),
  ap (λ (x : Option Kind). child_of w p b x) k ∙ (cond-true (cell_byte w (p / 32) (p % 32) == b) (cond (p % 32 == 27) (field w (p / 32) 7) (p + 1)) 0 (eq-eqb (cell_byte w (p / 32) (p % 32)) b e) ∙ cond-false (p % 32 == 27) (field w (p / 32) 7) (p + 1) (ne_eqb (p % 32) 27 l)),
)

-- the child under a chain pointer's byte is the rest of its chain
pub rest_child : (w : List ℕ) (p : ℕ) → kind_at p ≡ Some kind.Chain → child_of w p (cell_byte w (p / 32) (p % 32)) (kind_at p) ≡ chain_rest w p
rest_child w p k = let byte : ℕ = cell_byte w (p / 32) (p % 32) in ap (λ (x : Option Kind). child_of w p byte x) k ∙ (cond-true (byte == byte) (cond (p % 32 == 27) (field w (p / 32) 7) (p + 1)) 0 (eq-eqb byte byte refl) ∙ ⊎_elim
    (λ (e : p % 32 ≡ 27). cond-true (p % 32 == 27) (field w (p / 32) 7) (p + 1) (eq-eqb (p % 32) 27 e) ∙ sym (cond-true (p % 32 == 27) (field w (p / 32) 7) (cond (nat_lt (p % 32) 27) (p + 1) 0) (eq-eqb (p % 32) 27 e)))
    (λ (ne : p % 32 ≢ 27). let offset : (p ≢ 0) × (p < 2 ^ 31) × (p % 32 ≤ 27) = is_kind p (Some kind.Chain) k in let less : p % 32 < 27 = omega (arith, offset.2) in cond-false (p % 32 == 27) (field w (p / 32) 7) (p + 1) (ne_eqb (p % 32) 27 ne)
    ∙ sym (cond-false (p % 32 == 27) (field w (p / 32) 7) (cond (nat_lt (p % 32) 27) (p + 1) 0) (ne_eqb (p % 32) 27 ne) ∙ cond-true (nat_lt (p % 32) 27) (p + 1) 0 (lt-ltb (p % 32) 27 less))) (cases_eq (p % 32) 27))

module _ (w : List ℕ) (g : Ledger) (cells : ℕ) (ok : IsImage w g cells) where
  -- the cell is no prefix cell
  abbrev pub NoPrefix : ℕ → Type 0
  NoPrefix c = (r : List ℕ) → owner g c ≡ Some (PrefixCell r) → ⊥

  not_prefix : (c : ℕ) (o : Owner) → owner g c ≡ Some o → ((r : List ℕ) → o ≡ PrefixCell r → ⊥) → NoPrefix c
  not_prefix c o e ne r p = let both : Some o ≡ Some (PrefixCell r) = sym e ∙ p in let is : o ≡ PrefixCell r = cc in ne r is

  -- a walk stands here, after the bytes of the path
  pub record Here (q m path : List ℕ) (s : Stand) : Type 0 where
    pub stands : StandsAt w g q m path s
    pub walks : s.at ≢ 0 → Walks (reading w) (root_of w) path s.at
    pub plain : (m ≡ []) ⊎ (kind_at s.at ≡ Some kind.Chain)
    pub outside : m ≡ [] → NoPrefix s.cell

  at_home : (q m path : List ℕ) (s : Stand) → StandsAt w g q m path s → m ≡ [] → StandsAt w g path [] path s
  at_home q m path s h e = let same : path ≡ q = h.passed ∙ (ap (λ (x : List ℕ). q ++ x) e ∙ append-nil q) in record {
    held = h.held;
    home = subst (λ (x : List ℕ). Home w g x s.cell s.field) (sym same) h.home;
    entered = λ ne. subst (λ (x : List ℕ). HasPath g s.entered x) (sym same) (h.entered ne);
    reads = subst (λ (x : List ℕ). Reads (reading w) s.entered x s.at) e h.reads;
    forward = h.forward ∙ ap (λ (x : List ℕ). s.entered + length x) e;
    offset = omega arith;
    bytes = λ i l. absurd (omega arith);
    plain = inl refl;
    passed = sym (append-nil path);
    at_path = h.at_path;
  }

  plainly : (q m path : List ℕ) (s : Stand) → StandsAt w g q m path s → (m ≡ []) ⊎ (kind_at s.at ≡ Some kind.Chain) → (kind_at s.at ≡ Some kind.Chain → ⊥) → StandsAt w g path [] path s
  plainly q m path s h plain other = ⊎_elim (λ e. at_home q m path s h e) (λ e. absurd (other e)) plain

  module _ (path : List ℕ) (taken b : ℕ) where
    -- what a step tells: where the walk goes on, or what its end tells of each key
    abbrev Steps : Step → Type 0
    Steps (On s) = (q m : List ℕ) × Here q m (path ++ b ∷ []) s
    Steps (Left meets s) = (key rest : List ℕ) → path ++ b ∷ rest ≡ key → taken ≡ length path → LeavesBy w g key meets s taken

    steps_if : (t : Bool) (x y : Step) → (t ≡ true → Steps x) → (t ≡ false → Steps y) → Steps (cond t x y)
    steps_if true x y f h = f refl
    steps_if false x y f h = h refl

    -- in a node
    module _ (small : b < 256) (s : Stand) (q m : List ℕ) (stands : StandsAt w g q m path s) (plain : (m ≡ []) ⊎ (kind_at s.at ≡ Some kind.Chain)) (is_node : IsNode s.at) (reached : Reaches w g path s.at) where
      led : child_of w reached.last b (kind_at reached.last) ≡ node_child w s.at b (kind_at s.at)
      led = over_children w g reached.last s.at b is_node reached.over

      arrives : (x : ℕ) → node_child w s.at b (kind_at s.at) ≡ x → x ≢ 0 → HasPath g x (path ++ b ∷ []) × Walks (reading w) (root_of w) (path ++ b ∷ []) x
      arrives x e ne = let is : child_of w reached.last b (kind_at reached.last) ≡ x = led ∙ e in let there : child_of w reached.last b (kind_at reached.last) ≢ 0 = λ z. ne (sym is ∙ z) in (
        subst (λ (y : ℕ). HasPath g y (path ++ b ∷ [])) is (closed w g ok.each reached.last path b reached.last_path there),
        subst (λ (y : ℕ). Walks (reading w) (root_of w) (path ++ b ∷ []) y) is (walks_on (reading w) path (root_of w) reached.last b reached.walks there),
      )

      to_field : (cell place : ℕ) → Home w g (path ++ b ∷ []) cell place → NoPrefix cell → node_child w s.at b (kind_at s.at) ≡ field w cell place → Steps (On (stand_in w cell place))
      to_field cell place home outside e = (
        path ++ b ∷ [],
        [],
        record {
          stands = record { held = refl; home = home; entered = λ ne. (arrives (field w cell place) e ne).0; reads = refl; forward = add_zero _; offset = omega arith; bytes = λ i l. absurd (omega arith); plain = inl refl; passed = sym (append-nil (path ++ b ∷ [])); at_path = λ ne. (arrives (field w cell place) e ne).0 };
          walks = λ ne. (arrives (field w cell place) e ne).1;
          plain = inl refl;
          outside = λ c. outside;
        },
      )

      module _ (k : kind_at s.at ≡ Some kind.Chain) where
        chain_led : (a : ℕ) → node_child w s.at a (kind_at s.at) ≡ chain_child w s.at a
        chain_led a = ap (λ (x : Option Kind). node_child w s.at a x) k

        byte_led : cell_byte w (s.at / 32) (s.at % 32) ≡ b → node_child w s.at b (kind_at s.at) ≡ cond (s.at % 32 == 27) (field w (s.at / 32) 7) (s.at + 1)
        byte_led e = chain_led b ∙ cond-true (cell_byte w (s.at / 32) (s.at % 32) == b) (cond (s.at % 32 == 27) (field w (s.at / 32) 7) (s.at + 1)) 0 (eq-eqb (cell_byte w (s.at / 32) (s.at % 32)) b e)

        to_tail : cell_byte w (s.at / 32) (s.at % 32) ≡ b → s.at % 32 ≡ 27 → Steps (On (stand_in w (s.at / 32) 7))
        to_tail e l = let i = chain_of g s.at path reached.node k in let cell : IsChainCell w g (s.at / 32) i.0 i.1 = ok.each (s.at / 32) (ChainCell i.0 i.1) i.2 in
            let goes : node_child w s.at b (kind_at s.at) ≡ field w (s.at / 32) 7 = byte_led e ∙ cond-true (s.at % 32 == 27) (field w (s.at / 32) 7) (s.at + 1) (eq-eqb (s.at % 32) 27 l) in
            let there : HasPath g (field w (s.at / 32) 7) (path ++ b ∷ []) = (arrives (field w (s.at / 32) 7) goes (path_nonzero g (field w (s.at / 32) 7) i.1 cell.tail)).0 in
            let same : i.1 ≡ path ++ b ∷ [] = path_once g (field w (s.at / 32) 7) i.1 (path ++ b ∷ []) cell.tail there in
            to_field (s.at / 32) 7 (tail record { before = path; byte = b; parent = s.at; whole = refl; reached = reached; kind = k; here = refl; end = l; is_byte = e; from = i.0; own = subst (λ (x : List ℕ). owner g (s.at / 32) ≡ Some (ChainCell i.0 x)) same i.2; is_place = refl }) (not_prefix (s.at / 32) (ChainCell i.0 i.1) i.2 (λ r z. cc)) goes

        more_bytes : cell_byte w (s.at / 32) (s.at % 32) ≡ b → s.at % 32 ≢ 27 → (i : ℕ) → i < length (m ++ b ∷ []) → cell_byte w ((s.at + 1) / 32) ((s.at + 1) % 32 - length (m ++ b ∷ []) + i) ≡ slice_index (m ++ b ∷ []) i
        more_bytes e l i less = let place = next_byte s.at k l in let more = length-append m (b ∷ []) in let back : (s.at + 1) % 32 - length (m ++ b ∷ []) + i ≡ s.at % 32 - length m + i = omega (arith, more, place.2) in
            ap₂ (λ (x y : ℕ). cell_byte w x y) place.1 back ∙ ⊎_elim
            (λ (z : i ≡ length m). let here : s.at % 32 - length m + i ≡ s.at % 32 = omega (arith, stands.offset) in ap (λ (x : ℕ). cell_byte w (s.at / 32) x) here ∙ (e ∙ sym (ap (λ (x : ℕ). slice_index (m ++ b ∷ []) x) z ∙ get_or-append_seam m b [] 0)))
            (λ (ne : i ≢ length m). let old : i < length m = omega (arith, more) in stands.bytes i old ∙ sym (get_or_append_left m (b ∷ []) 0 i old)) (cases_eq i (length m))

        to_next : cell_byte w (s.at / 32) (s.at % 32) ≡ b → s.at % 32 ≢ 27 → Steps (On record { cell = s.cell; field = s.field; entered = s.entered; at = s.at + 1 })
        to_next e l = let goes : node_child w s.at b (kind_at s.at) ≡ s.at + 1 = byte_led e ∙ cond-false (s.at % 32 == 27) (field w (s.at / 32) 7) (s.at + 1) (ne_eqb (s.at % 32) 27 l) in let h = stands in let place = next_byte s.at k l in let more = length-append m (b ∷ []) in (
          q,
          m ++ b ∷ [],
          record {
            stands = record { held = h.held; home = h.home; entered = h.entered; reads = reads_on (reading w) m (b ∷ []) s.entered s.at (s.at + 1) h.reads (next_reads w s.at b k e l); forward = omega (arith, h.forward, more); offset = omega (arith, h.offset, more, place.2); bytes = more_bytes e l; plain = inr (next_byte s.at k l).0; passed = ap (λ (x : List ℕ). x ++ b ∷ []) h.passed ∙ append_assoc q m (b ∷ []); at_path = λ ne. (arrives (s.at + 1) goes ne).0 };
            walks = λ ne. (arrives (s.at + 1) goes ne).1;
            plain = inr (next_byte s.at k l).0;
            outside = λ e. absurd (let none : length (m ++ b ∷ []) ≡ 0 = ap (λ (x : List ℕ). length x) e in omega (arith, none, length-append m (b ∷ [])));
          },
        )

        chain_steps : Steps (chain_step w b s)
        chain_steps = steps_if (cell_byte w (s.at / 32) (s.at % 32) == b) (cond (s.at % 32 == 27) (On (stand_in w (s.at / 32) 7)) (On record { cell = s.cell; field = s.field; entered = s.entered; at = s.at + 1 })) (Left OtherByte s)
            (λ t. let e = eqb-true (cell_byte w (s.at / 32) (s.at % 32)) b t in steps_if (s.at % 32 == 27) (On (stand_in w (s.at / 32) 7)) (On record { cell = s.cell; field = s.field; entered = s.entered; at = s.at + 1 })
            (λ u. to_tail e (eqb-true (s.at % 32) 27 u)) (λ u. to_next e (eqb-false (s.at % 32) 27 u)))
            (λ t key rest whole so_far. record { home_path = q; inside = m; path = path; byte = b; rest = rest; whole = whole; so_far = so_far; stands = stands; is_chain = k; other = eqb-false (cell_byte w (s.at / 32) (s.at % 32)) b t })

      module _ (k : kind_at s.at ≡ Some kind.Sparse) where
        slot_steps : (o : Option ℕ) → slot_at (word_of w (s.at / 32) 3) b ≡ o → Steps (slot_step w s o)
        slot_steps (Some n) e = to_field (s.at / 32) n (slot record { before = path; byte = b; parent = s.at; whole = refl; reached = reached; kind = k; here = refl; own = sparse_of g s.at path reached.node k; slot = e }) (not_prefix (s.at / 32) (SparseCell path) (sparse_of g s.at path reached.node k) (λ r z. cc))
            (ap (λ (x : Option Kind). node_child w s.at b x) k ∙ ap (λ (x : Option ℕ). slot_child w (s.at / 32) x) e)
        slot_steps None e = let cell : IsSparseCell w g (s.at / 32) path = ok.each (s.at / 32) (SparseCell path) (sparse_of g s.at path reached.node k) in let count : ℕ = child_count (word_of w (s.at / 32) 3) in
            steps_if (nat_lt count 6) (Left Sparse (stand_at (s.at / 32) 0 s.at)) (Left Full s)
            (λ t key rest whole so_far. record { path = path; byte = b; rest = rest; whole = whole; so_far = so_far; reached = reached; is_sparse = k; here = refl; absent = e; capacity = ltb-true count 6 t })
            (λ t key rest whole so_far. record { path = path; byte = b; rest = rest; whole = whole; so_far = so_far; stands = plainly q m path s stands plain (λ z. let both : Some kind.Chain ≡ Some kind.Sparse = sym z ∙ k in cc); is_sparse = k; absent = e; full = let least = ltb-false count 6 t in omega (arith, cell.sparse.most) })

      module _ (k : kind_at s.at ≡ Some kind.Wide) where
        top : owner g (s.at / 32) ≡ Some (TopCell path)
        top = split_node_of g s.at path reached.node k

        is_split : IsSplitAt w g path b s.at (s.at / 32)
        is_split = record { small = small; reached = reached; kind = k; here = refl; own = top }

        split_led : node_child w s.at b (kind_at s.at) ≡ mid_child w (field w (s.at / 32) (b / 64)) b
        split_led = ap (λ (x : Option Kind). node_child w s.at b x) k ∙ cond-true (nat_lt b 256) (mid_child w (field w (s.at / 32) (b / 64)) b) 0 (lt-ltb b 256 small)

        mid_steps : Steps (mid_step w b (s.at / 32) (field w (s.at / 32) (b / 64)))
        mid_steps = let t : ℕ = s.at / 32 in let x : ℕ = field w t (b / 64) in let c : ℕ = x / 32 in let y : ℕ = field w c (b / 8 % 8) in let tops : IsTopCell w g t path = ok.each t (TopCell path) top in
            steps_if (x == 0) (Left NoMid (stand_at t (b / 64) 0)) (leaf_step w b c y)
            (λ u key rest whole so_far. record { path = path; byte = b; rest = rest; parent = s.at; whole = whole; so_far = so_far; split = is_split; place = refl; absent = eqb-true x 0 u })
            (λ u. let ne : x ≢ 0 = eqb-false x 0 u in let is_mid : IsMidUnder w g t b c = record { there = ne; here = refl; own = tops.mids (b / 64) (omega arith) ne } in let mids : IsMidCell w g c t (b / 64) = ok.each c (MidCell t (b / 64)) is_mid.own in
            steps_if (y == 0) (Left NoLeaf (stand_at c (b / 8 % 8) 0)) (On (stand_in w (y / 32) (b % 8)))
            (λ v key rest whole so_far. record { path = path; byte = b; rest = rest; parent = s.at; top = t; whole = whole; so_far = so_far; split = is_split; mid = is_mid; place = refl; absent = eqb-true y 0 v })
            (λ v. let there : y ≢ 0 = eqb-false y 0 v in to_field (y / 32) (b % 8)
            (leaf record { before = path; byte = b; parent = s.at; top = t; whole = refl; split = is_split; leaf = record { mid = c; is_mid = is_mid; there = there; here = refl; own = mids.leaves (b / 8 % 8) (omega arith) there }; is_place = refl })
            (not_prefix (y / 32) (LeafCell t (b / 64) (b / 8 % 8)) (mids.leaves (b / 8 % 8) (omega arith) there) (λ r z. cc))
            (split_led ∙ (cond-false (x == 0) 0 (leaf_child w y b) u ∙ cond-false (y == 0) 0 (field w (y / 32) (b % 8)) v))))

      no_node : (k : Option Kind) → kind_at s.at ≡ k → (k ≡ Some kind.Chain → ⊥) → (k ≡ Some kind.Sparse → ⊥) → (k ≡ Some kind.Wide → ⊥) → ⊥
      no_node k e chain sparse split = ⊎_elim (λ (is : kind_at s.at ≡ Some kind.Chain). chain (sym e ∙ is)) (λ t. ⊎_elim (λ (is : kind_at s.at ≡ Some kind.Sparse). sparse (sym e ∙ is)) (λ (is : kind_at s.at ≡ Some kind.Wide). split (sym e ∙ is)) t) is_node

      node_steps : (k : Option Kind) → kind_at s.at ≡ k → Steps (node_step w b s k)
      node_steps (Some kind.Chain) e = chain_steps e
      node_steps (Some kind.Sparse) e = slot_steps e (slot_at (word_of w (s.at / 32) 3) b) refl
      node_steps (Some kind.Wide) e = mid_steps e
      node_steps (Some kind.Nothing) e = absurd (no_node (Some kind.Nothing) e (λ z. cc) (λ z. cc) (λ z. cc))
      node_steps (Some kind.Content) e = absurd (no_node (Some kind.Content) e (λ z. cc) (λ z. cc) (λ z. cc))
      node_steps (Some kind.Prefix) e = absurd (no_node (Some kind.Prefix) e (λ z. cc) (λ z. cc) (λ z. cc))
      node_steps None e = absurd (no_node None e (λ z. cc) (λ z. cc) (λ z. cc))

    module _ (small : b < 256) (s : Stand) (q m : List ℕ) (here : Here q m path s) where
      -- in a node that no prefix cell stands over
      alone : s.at ≢ 0 → IsNode s.at → Steps (node_step w b s (kind_at s.at))
      alone ne is = let at : HasPath g s.at path = here.stands.at_path ne in
          node_steps small s q m here.stands here.plain is record { last = s.at; walks = here.walks ne; last_path = at; over = itself refl; node = at } (kind_at s.at) refl

      -- in the node under a prefix cell
      under : kind_at s.at ≡ Some kind.Prefix → Steps (node_step w b (stand_in w (s.at / 32) 1) (kind_at (field w (s.at / 32) 1)))
      under k = let ne : s.at ≢ 0 = (is_kind s.at (Some kind.Prefix) k).0 in let at : HasPath g s.at path = here.stands.at_path ne in let own = prefix_of g s.at path at k in let cell : IsPrefixCell w g (s.at / 32) path = ok.each (s.at / 32) (PrefixCell path) own in
          node_steps small (stand_in w (s.at / 32) 1) path []
          record { held = refl; home = node record { prefix = s.at; walks = here.walks ne; path = at; kind = k; here = refl; own = own } refl; entered = λ z. cell.node; reads = refl; forward = add_zero _; offset = omega arith; bytes = λ i l. absurd (omega arith); plain = inl refl; passed = sym (append-nil path); at_path = λ z. cell.node } (inl refl) cell.is_node
          record { last = s.at; walks = here.walks ne; last_path = at; over = by_prefix k refl; node = cell.node } (kind_at (field w (s.at / 32) 1)) refl

      byte_steps : (k : Option Kind) → kind_at s.at ≡ k → Steps (byte_step w b s k)
      byte_steps (Some kind.Chain) e = subst (λ (k : Option Kind). Steps (node_step w b s k)) e (alone (is_kind s.at (Some kind.Chain) e).0 (inl e))
      byte_steps (Some kind.Sparse) e = subst (λ (k : Option Kind). Steps (node_step w b s k)) e (alone (is_kind s.at (Some kind.Sparse) e).0 (inr (inl e)))
      byte_steps (Some kind.Wide) e = subst (λ (k : Option Kind). Steps (node_step w b s k)) e (alone (is_kind s.at (Some kind.Wide) e).0 (inr (inr e)))
      byte_steps (Some kind.Prefix) e = under e
      byte_steps (Some kind.Content) e = λ key rest whole so_far. record { path = path; byte = b; rest = rest; whole = whole; so_far = so_far; stands = plainly q m path s here.stands here.plain (λ z. let both : Some kind.Chain ≡ Some kind.Content = sym z ∙ e in cc); is_content = e; no_prefix = here.outside (⊎_elim (λ z. z) (λ z. let both : Some kind.Chain ≡ Some kind.Content = sym z ∙ e in absurd (cc)) here.plain) }
      byte_steps (Some kind.Nothing) e = λ key rest whole so_far. record { path = path; rest = b ∷ rest; whole = whole; so_far = so_far; stands = plainly q m path s here.stands here.plain (λ z. let both : Some kind.Chain ≡ Some kind.Nothing = sym z ∙ e in cc); is_nothing = is_kind s.at (Some kind.Nothing) e }
      byte_steps None e = absurd (no_kind_of g s.at path e (here.stands.at_path (is_kind s.at None e).0))

  empty : (l : List ℕ) → length l ≡ 0 → l ≡ []
  empty [] e = refl
  empty (x ∷ l) e = absurd (omega arith)

  bare : (path : List ℕ) (s : Stand) (q m : List ℕ) → Here q m path s → s.at ≡ s.entered → NoPrefix s.cell
  bare path s q m here e = here.outside (empty m (omega (arith, here.stands.forward, e)))

  module _ (key : List ℕ) where
    -- at the key's end
    ends : (s : Stand) (q m : List ℕ) (taken : ℕ) → Here q m key s → taken ≡ length key → (k : Option Kind) → kind_at s.at ≡ k → Leaves w g key (end_at w s taken k)
    ends s q m taken here so_far (Some kind.Nothing) e = record { path = key; rest = []; whole = append-nil key; so_far = so_far; stands = plainly q m key s here.stands here.plain (λ z. let both : Some kind.Chain ≡ Some kind.Nothing = sym z ∙ e in cc); is_nothing = is_kind s.at (Some kind.Nothing) e }
    ends s q m taken here so_far (Some kind.Content) e = record { stands = plainly q m key s here.stands here.plain (λ z. let both : Some kind.Chain ≡ Some kind.Content = sym z ∙ e in cc); is_content = e }
    ends s q m taken here so_far (Some kind.Prefix) e = let ne : s.at ≢ 0 = (is_kind s.at (Some kind.Prefix) e).0 in let at : HasPath g s.at key = here.stands.at_path ne in let own = prefix_of g s.at key at e in let cell : IsPrefixCell w g (s.at / 32) key = ok.each (s.at / 32) (PrefixCell key) own in record {
      stands = record { held = refl; home = content record { prefix = s.at; walks = here.walks ne; path = at; kind = e; here = refl; own = own } refl; entered = λ z. cell.content; reads = refl; forward = add_zero _; offset = omega arith; bytes = λ i l. absurd (omega arith); plain = inl refl; passed = sym (append-nil key); at_path = λ z. cell.content };
      is_content = cell.is_content;
    }
    ends s q m taken here so_far (Some kind.Chain) e = record { home_path = q; inside = m; stands = here.stands; is_node = inl e; bare = bare key s q m here }
    ends s q m taken here so_far (Some kind.Sparse) e = record { home_path = q; inside = m; stands = here.stands; is_node = inr (inl e); bare = bare key s q m here }
    ends s q m taken here so_far (Some kind.Wide) e = record { home_path = q; inside = m; stands = here.stands; is_node = inr (inr e); bare = bare key s q m here }
    ends s q m taken here so_far None e = absurd (no_kind_of g s.at key e (here.stands.at_path (is_kind s.at None e).0))

    goes : (path : List ℕ) (taken b : ℕ) (k : List ℕ) → path ++ b ∷ k ≡ key → taken ≡ length path → ((s : Stand) (q m : List ℕ) → Here q m (path ++ b ∷ []) s → Leaves w g key (exit_at w k s (taken + 1))) → (st : Step) → Steps path taken b st → Leaves w g key (exit_from st (λ next. exit_at w k next (taken + 1)) taken)
    goes path taken b k whole so_far on (On s) (q, m, here) = on s q m here
    goes path taken b k whole so_far on (Left meets s) tells = tells key k whole so_far

    exits : (k : List ℕ) (s : Stand) (q m path : List ℕ) (taken : ℕ) → ItemsAreBytes k → Here q m path s → path ++ k ≡ key → taken ≡ length path → Leaves w g key (exit_at w k s taken)
    exits [] s q m path taken bytes here whole so_far = let same : path ≡ key = sym (append-nil path) ∙ whole in
        ends s q m taken (subst (λ (x : List ℕ). Here q m x s) same here) (so_far ∙ ap (λ (x : List ℕ). length x) same) (kind_at s.at) refl
    exits (b ∷ k) s q m path taken bytes here whole so_far = goes path taken b k whole so_far
        (λ next q' m' there. exits k next q' m' (path ++ b ∷ []) (taken + 1) (λ i. bytes (suc i)) there (append_assoc path (b ∷ []) k ∙ whole) (omega (arith, length-append path (b ∷ []))))
        (byte_step w b s (kind_at s.at)) (byte_steps path taken b (bytes 0) s q m here (kind_at s.at) refl)

    -- the end of the walk to the key
    pub leaves : ItemsAreBytes key → Leaves w g key (exit_of w key)
    leaves bytes = exits key (stand_in w 0 2) [] [] [] 0 bytes record {
      stands = record { held = refl; home = root refl refl refl; entered = λ ne. ok.root ne; reads = refl; forward = add_zero _; offset = omega arith; bytes = λ i l. absurd (omega arith); plain = inl refl; passed = refl; at_path = λ ne. ok.root ne };
      walks = λ ne. refl;
      plain = inl refl;
      outside = λ c. not_prefix 0 HeadCell ok.head (λ r z. cc);
    } refl refl
