-- The steps of a walk: each leaves it in the trie, with the same left to list, and nearer to the next record.
use Rattle.std.proofs.Common.{◌≡◌, ◌≢◌, ℕ, suc, ◌+◌, ◌-◌, ◌*◌, ◌/◌, ◌<◌, ◌≤◌, List, [], ◌∷◌, ◌++◌, length, take, Option, Some, None, refl, sym, ap, ◌∙◌, subst, arith, append_assoc, append-nil, length-append, ne_eqb}
use Rattle.std.proofs.lemmas.List.{take_all, length-take-le}
use Rattle.std.proofs.Common.{inl, inr}
use Rattle.std.proofs.Math.Nat.{one-le-mul}
use Rattle.std.specs.Prelude.{◌⊎◌}
use Rattle.cell_layout.proofs.PointerKinds.{is_kind}
use Rattle.cell_layout.specs.declared.Kind.{Kind}
use Rattle.cell_layout.specs.declared.Kind.TheVariants.{Nothing, Content, Chain, Sparse, Wide, Prefix}
use Rattle.cell_layout.specs.Pointers.{kind_at, record_cell}
use Rattle.key_types.specs.Table.{Entry}
use Rattle.trie_image.specs.declared.Ledger.{Ledger}
use Rattle.trie_image.specs.Image.{field, reading}
use Rattle.trie_image.specs.Paths.{HasPath}
use Rattle.trie_image.specs.WellFormed.{IsWellFormed}
use Rattle.trie_image.proofs.Exits.{path_nonzero}
use Rattle.shard_freeze.specs.declared.edges.Edge.{Edge}
use Rattle.shard_freeze.specs.declared.walk.Level.{Level}
use Rattle.shard_freeze.specs.Listing.{prefixed, children_entries, entries_seen, entries_seen_from}
use Rattle.shard_freeze.specs.Edges.{IsLeastChild, LeastChild}
use Rattle.shard_freeze.specs.Walk.{here_left, level_left, levels_left, left_by_parts, IsLevel, IsAt, steps_under, level_size, levels_size, kind_size, here_size, kept_levels}
use Rattle.shard_freeze.proofs.Lists.{path_fits, child_path}
use Rattle.shard_freeze.proofs.Nodes.{prefix_content, prefix_is_content, prefix_node, prefix_is_node}
use Rattle.shard_freeze.proofs.Left.{behind_joined, behind_twice, under_least, under_end, here_record, node_opened, prefix_opened}
use Rattle.shard_freeze.proofs.Levels.{same_front, rekey_level, rekey_levels, pop_level, kept_are, level_same, levels_same, pushed_left, passed_left, kept_left, weight_more, kept_size, pushed_size, later_size}

pub whole_key : (key : List ℕ) → take (length key) key ≡ key
whole_key key = take_all (length key) key (omega arith)

abbrev pub level_at : ℕ → ℕ → ℕ → Level
level_at node next depth = record { node = node; next = next; depth = depth }

no_prefix : (p : ℕ) → (kind_at p ≡ Some Chain) ⊎ ((kind_at p ≡ Some Sparse) ⊎ (kind_at p ≡ Some Wide)) → kind_at p ≢ Some Prefix
no_prefix p (inl e) z = cc
no_prefix p (inr (inl e)) z = cc
no_prefix p (inr (inr e)) z = cc

kind_most : (n : ℕ) (k : Option Kind) → kind_size n k ≤ steps_under n
kind_most n (Some Content) = omega arith
kind_most n (Some Nothing) = omega arith
kind_most n (Some Chain) = omega arith
kind_most n (Some Sparse) = omega arith
kind_most n (Some Wide) = omega arith
kind_most n (Some Prefix) = omega arith
kind_most n None = omega arith

kind_whole : (p n : ℕ) (k : Option Kind) → kind_at p ≡ k → p ≢ 0 → k ≢ Some Content → kind_size n k ≡ steps_under n
kind_whole p n (Some Content) e ne other = absurd (other refl)
kind_whole p n (Some Nothing) e ne other = absurd (ne (is_kind p (Some Nothing) e))
kind_whole p n (Some Chain) e ne other = refl
kind_whole p n (Some Sparse) e ne other = refl
kind_whole p n (Some Wide) e ne other = refl
kind_whole p n (Some Prefix) e ne other = refl
kind_whole p n None e ne other = refl

module _ (w : List ℕ) (g : Ledger) (cells : ℕ) (ok : IsWellFormed w g cells) (key : List ℕ) (below : List Level) (top : Level) (here : ℕ) (at : IsAt g key below top here) where
  -- ---- a node is opened

  pub opened_level : (node next : ℕ) → HasPath g node key → kind_at node ≢ Some Prefix → next ≤ 256 → IsLevel g key (level_at node next (length key))
  opened_level node next path third most = record { depth = omega arith; next = most; path = λ _. subst (HasPath g node) (sym (whole_key key)) path; kind = λ _. third }

  pub opened_at : (node p : ℕ) → HasPath g node key → kind_at node ≢ Some Prefix → (p ≢ 0 → HasPath g p key) → IsAt g key (kept_levels below top) (level_at node 0 (length key)) p
  opened_at node p path third next = record {
    top_is = opened_level node 0 path third (omega arith);
    below_are = kept_are g key (length key) top below at.below_are at.top_is at.top_is.depth;
    here_is = next;
  }

  opened_left : (value : ℕ → List ℕ) (node : ℕ) → level_left (reading w) value key (level_at node 0 (length key)) ≡ prefixed key (children_entries (reading w) value (entries_seen (reading w) value (2047 - length key)) node 0 256)
  opened_left value node = ap (λ (q : List ℕ). prefixed q (children_entries (reading w) value (entries_seen (reading w) value (2047 - length key)) node 0 256)) (whole_key key)

  opened_size : (node : ℕ) → HasPath g node key → level_size (level_at node 0 (length key)) + 1 ≡ steps_under (2049 - length key)
  opened_size node path = let fits = path_fits w g cells ok node key path in let e : 2049 - length key ≡ suc (2048 - length key) = omega (arith, fits) in omega (arith, ap steps_under e, weight_more (2048 - length key))

  module _ (ne : here ≢ 0) where
    path : HasPath g here key
    path = at.here_is ne

    pub visits_left : kind_at here ≢ Some Content → kind_at here ≢ Some Prefix → (value : ℕ → List ℕ) → left_by_parts (reading w) value key (kept_levels below top) (level_at here 0 (length key)) 0 ≡ left_by_parts (reading w) value key below top here
    visits_left other third value =
        let rest : List Entry = level_left (reading w) value key top ++ levels_left (reading w) value key below in
        ap (λ (es : List Entry). level_left (reading w) value key (level_at here 0 (length key)) ++ es) (kept_left w value key top below)
        ∙ ap (λ (es : List Entry). es ++ rest) (opened_left value here ∙ ap (prefixed key) (sym (node_opened w value g cells ok here key path other third)) ∙ sym (rw (ne_eqb here 0 ne) refl))

    pub visits_at : kind_at here ≢ Some Prefix → IsAt g key (kept_levels below top) (level_at here 0 (length key)) 0
    visits_at third = opened_at here 0 path third (λ z. absurd (z refl))

    here_weighs : kind_at here ≢ Some Content → here_size key here ≡ steps_under (2049 - length key)
    here_weighs other = kind_whole here (2049 - length key) (kind_at here) refl ne other

    pub visits_size : kind_at here ≢ Some Content → here_size key 0 + (level_size (level_at here 0 (length key)) + levels_size (kept_levels below top)) < here_size key here + (level_size top + levels_size below)
    visits_size other = omega (arith, opened_size here path, here_weighs other, kept_size top below)

    -- ---- a prefix cell

    pub prefix_at : kind_at here ≡ Some Prefix → IsAt g key (kept_levels below top) (level_at (field w (here / 32) 1) 0 (length key)) (field w (here / 32) 0)
    prefix_at k = opened_at (field w (here / 32) 1) (field w (here / 32) 0) (prefix_node w g cells ok here key path k) (no_prefix (field w (here / 32) 1) (prefix_is_node w g cells ok here key path k)) (λ _. prefix_content w g cells ok here key path k)

    pub prefix_left : kind_at here ≡ Some Prefix → (value : ℕ → List ℕ) → left_by_parts (reading w) value key (kept_levels below top) (level_at (field w (here / 32) 1) 0 (length key)) (field w (here / 32) 0) ≡ left_by_parts (reading w) value key below top here
    prefix_left k value =
        let content : ℕ = field w (here / 32) 0 in let node : ℕ = field w (here / 32) 1 in
        let rest : List Entry = level_left (reading w) value key top ++ levels_left (reading w) value key below in
        let some : content ≢ 0 = path_nonzero g content key (prefix_content w g cells ok here key path k) in
        let first : here_left (reading w) value key content ≡ prefixed key (([], value (record_cell content)) ∷ []) = ap (prefixed key) (here_record w value (2048 - length key) content some (prefix_is_content w g cells ok here key path k)) in
        let here_is : entries_seen_from (reading w) value (2048 - length key) here ≡ ([], value (record_cell content)) ∷ children_entries (reading w) value (entries_seen (reading w) value (2047 - length key)) node 0 256 =
        rw (ne_eqb here 0 ne) (prefix_opened w value g cells ok here key path k) in
        let both : here_left (reading w) value key here ≡ prefixed key (([], value (record_cell content)) ∷ []) ++ level_left (reading w) value key (level_at node 0 (length key)) =
        ap (prefixed key) here_is ∙ ap (λ (es : List Entry). prefixed key (([], value (record_cell content)) ∷ []) ++ es) (sym (opened_left value node)) in
        ap (λ (es : List Entry). es ++ (level_left (reading w) value key (level_at node 0 (length key)) ++ levels_left (reading w) value key (kept_levels below top))) first
        ∙ ap (λ (es : List Entry). prefixed key (([], value (record_cell content)) ∷ []) ++ (level_left (reading w) value key (level_at node 0 (length key)) ++ es)) (kept_left w value key top below)
        ∙ sym (append_assoc (prefixed key (([], value (record_cell content)) ∷ [])) (level_left (reading w) value key (level_at node 0 (length key))) rest)
        ∙ ap (λ (es : List Entry). es ++ rest) (sym both)

    pub prefix_size : kind_at here ≡ Some Prefix → here_size key (field w (here / 32) 0) + (level_size (level_at (field w (here / 32) 1) 0 (length key)) + levels_size (kept_levels below top)) < here_size key here + (level_size top + levels_size below)
    prefix_size k = let none : here_size key (field w (here / 32) 0) ≡ 0 = ap (kind_size (2049 - length key)) (prefix_is_content w g cells ok here key path k) in
        let weighs : here_size key here ≡ steps_under (2049 - length key) = ap (kind_size (2049 - length key)) k in
        omega (arith, opened_size (field w (here / 32) 1) (prefix_node w g cells ok here key path k), none, weighs, kept_size top below)

    -- ---- a record is listed

    pub record_left : kind_at here ≡ Some Content → (value : ℕ → List ℕ) → left_by_parts (reading w) value key below top here ≡ (key, value (record_cell here)) ∷ left_by_parts (reading w) value key below top 0
    record_left k value = ap (λ (es : List Entry). es ++ (level_left (reading w) value key top ++ levels_left (reading w) value key below))
        (ap (prefixed key) (here_record w value (2048 - length key) here ne k) ∙ ap (λ (x : List ℕ). (x, value (record_cell here)) ∷ []) (append-nil key))

  pub record_at : IsAt g key below top 0
  record_at = record { top_is = at.top_is; below_are = at.below_are; here_is = λ z. absurd (z refl) }

  -- ---- the next child of the last node

  -- the key is cut off behind the last node
  pub cut_at : IsAt g (take top.depth key) below top 0
  cut_at = subst (λ (x : List ℕ). IsAt g x below top 0) (append-nil (take top.depth key)) record {
    top_is = rekey_level g key [] top.depth top at.top_is (omega arith) at.top_is.depth;
    below_are = rekey_levels g key [] top.depth 0 top.depth below at.below_are (omega arith) at.top_is.depth;
    here_is = λ z. absurd (z refl);
  }

  pub cut_left : (value : ℕ → List ℕ) → left_by_parts (reading w) value (take top.depth key) below top 0 ≡ left_by_parts (reading w) value key below top 0
  cut_left value = ap (λ (x : List ℕ). level_left (reading w) value x top ++ levels_left (reading w) value x below) (sym (append-nil (take top.depth key)))
      ∙ ap (λ (es : List Entry). es ++ levels_left (reading w) value (take top.depth key ++ []) below) (level_same w value key [] top.depth top (omega arith) at.top_is.depth)
      ∙ ap (λ (es : List Entry). level_left (reading w) value key top ++ es) (levels_same w value g key [] top.depth 0 top.depth below at.below_are (omega arith) at.top_is.depth)

  module _ (more : top.next < 256) (e : Edge) (least : IsLeastChild ((reading w).child top.node) top.next e) where
    child_there : (reading w).child top.node e.byte ≢ 0
    child_there z = least.there (least.is ∙ z)

    child_has_path : HasPath g e.to (take top.depth key ++ e.byte ∷ [])
    child_has_path = subst (λ (p : ℕ). HasPath g p (take top.depth key ++ e.byte ∷ [])) (sym least.is) (child_path w g cells ok top.node e.byte (take top.depth key) (at.top_is.path more) child_there)

    same_node : take top.depth (take top.depth key ++ e.byte ∷ []) ≡ take top.depth key
    same_node = same_front key (e.byte ∷ []) top.depth top.depth (omega arith) at.top_is.depth

    cut_length : length (take top.depth key) ≡ top.depth
    cut_length = length-take-le top.depth key at.top_is.depth

    new_length : length (take top.depth key ++ e.byte ∷ []) ≡ top.depth + 1
    new_length = omega (arith, length-append (take top.depth key) (e.byte ∷ []), cut_length)

    pub enters_at : IsAt g (take top.depth key ++ e.byte ∷ []) below (level_at top.node (e.byte + 1) top.depth) e.to
    enters_at = record {
      top_is = record {
        depth = omega (arith, new_length);
        next = omega (arith, least.byte);
        path = λ _. subst (HasPath g top.node) (sym same_node) (at.top_is.path more);
        kind = λ _. at.top_is.kind more;
      };
      below_are = rekey_levels g key (e.byte ∷ []) top.depth 0 top.depth below at.below_are (omega arith) at.top_is.depth;
      here_is = λ _. child_has_path;
    }

    pub enters_left : (value : ℕ → List ℕ) → left_by_parts (reading w) value (take top.depth key ++ e.byte ∷ []) below (level_at top.node (e.byte + 1) top.depth) e.to ≡ left_by_parts (reading w) value key below top 0
    enters_left value =
        let q : List ℕ = take top.depth key in let key' : List ℕ = take top.depth key ++ e.byte ∷ [] in
        let f : ℕ → List Entry = entries_seen (reading w) value (2047 - top.depth) in
        let behind_it : List Entry = children_entries (reading w) value f top.node (e.byte + 1) (256 - (e.byte + 1)) in
        let room : 2048 - length key' ≡ 2047 - top.depth = omega (arith, new_length) in
        let child : here_left (reading w) value key' e.to ≡ prefixed q (prefixed (e.byte ∷ []) (f e.to)) =
        ap (prefixed key') (rw (ne_eqb e.to 0 least.there) (ap (λ (n : ℕ). entries_seen (reading w) value n e.to) room)) ∙ sym (behind_twice q (e.byte ∷ []) (f e.to)) in
        let node : level_left (reading w) value key' (level_at top.node (e.byte + 1) top.depth) ≡ prefixed q behind_it = ap (λ (x : List ℕ). prefixed x behind_it) same_node in
        let others : levels_left (reading w) value key' below ≡ levels_left (reading w) value key below = levels_same w value g key (e.byte ∷ []) top.depth 0 top.depth below at.below_are (omega arith) at.top_is.depth in
        let whole : level_left (reading w) value key top ≡ prefixed q (prefixed (e.byte ∷ []) (f e.to)) ++ prefixed q behind_it =
        ap (prefixed q) (under_least w value f top.node top.next e least) ∙ behind_joined q (prefixed (e.byte ∷ []) (f e.to)) behind_it in
        ap (λ (es : List Entry). es ++ (level_left (reading w) value key' (level_at top.node (e.byte + 1) top.depth) ++ levels_left (reading w) value key' below)) child
        ∙ ap (λ (es : List Entry). prefixed q (prefixed (e.byte ∷ []) (f e.to)) ++ (es ++ levels_left (reading w) value key' below)) node
        ∙ ap (λ (es : List Entry). prefixed q (prefixed (e.byte ∷ []) (f e.to)) ++ (prefixed q behind_it ++ es)) others
        ∙ sym (append_assoc (prefixed q (prefixed (e.byte ∷ []) (f e.to))) (prefixed q behind_it) (levels_left (reading w) value key below))
        ∙ ap (λ (es : List Entry). es ++ levels_left (reading w) value key below) (sym whole)

    pub enters_size : here_size (take top.depth key ++ e.byte ∷ []) e.to + (level_size (level_at top.node (e.byte + 1) top.depth) + levels_size below) < level_size top + levels_size below
    enters_size = let deep : 2049 - length (take top.depth key ++ e.byte ∷ []) ≡ 2048 - top.depth = omega (arith, new_length) in
        let most : here_size (take top.depth key ++ e.byte ∷ []) e.to ≤ steps_under (2048 - top.depth) = subst (λ (n : ℕ). here_size (take top.depth key ++ e.byte ∷ []) e.to ≤ steps_under n) deep (kind_most (2049 - length (take top.depth key ++ e.byte ∷ [])) (kind_at e.to)) in
        omega (arith, most, later_size top.next e.byte (steps_under (2048 - top.depth)) least.least least.byte)

  -- ---- the last node has nothing left

  pub passes_at : IsAt g key below (level_at top.node 256 top.depth) 0
  passes_at = record {
    top_is = record { depth = at.top_is.depth; next = omega arith; path = λ l. absurd (omega arith); kind = λ l. absurd (omega arith) };
    below_are = at.below_are;
    here_is = λ z. absurd (z refl);
  }

  pub passes_left : LeastChild ((reading w).child top.node) top.next None → (value : ℕ → List ℕ) → left_by_parts (reading w) value key below (level_at top.node 256 top.depth) 0 ≡ left_by_parts (reading w) value key below top 0
  passes_left none value = ap (λ (es : List Entry). es ++ levels_left (reading w) value key below)
      (passed_left w value key (level_at top.node 256 top.depth) (omega arith) ∙ sym (ap (prefixed (take top.depth key)) (under_end w value (entries_seen (reading w) value (2047 - top.depth)) top.node top.next at.top_is.next none)))

  pub passes_size : top.next < 256 → level_size (level_at top.node 256 top.depth) + levels_size below < level_size top + levels_size below
  passes_size more = let less = later_size top.next 255 (steps_under (2048 - top.depth)) (omega arith) (omega arith) in omega (arith, less)

one_at_least : (a b : ℕ) → 1 ≤ a → 1 ≤ b → 1 ≤ a * b
one_at_least a b l m = one-le-mul l m

-- the node before it becomes the last one
pub pops_at : (g : Ledger) (key : List ℕ) (below : List Level) (last top : Level) → IsAt g key (below ++ last ∷ []) top 0 → IsAt g key below last 0
pops_at g key below last top at = let i = pop_level g key 0 top.depth last below at.below_are in record { top_is = i.1; below_are = i.0; here_is = λ z. absurd (z refl) }

pub pops_left : (w : List ℕ) (key : List ℕ) (below : List Level) (last top : Level) → 256 ≤ top.next → (value : ℕ → List ℕ) → left_by_parts (reading w) value key below last 0 ≡ left_by_parts (reading w) value key (below ++ last ∷ []) top 0
pops_left w key below last top past value = sym (ap (λ (es : List Entry). es ++ levels_left (reading w) value key (below ++ last ∷ [])) (passed_left w value key top past) ∙ pushed_left w value key last below)

pub pops_size : (below : List Level) (last top : Level) → top.next ≤ 256 → level_size last + levels_size below < level_size top + levels_size (below ++ last ∷ [])
pops_size below last top most = omega (arith, pushed_size last below, one_at_least (257 - top.next) (1 + steps_under (2048 - top.depth)) (omega arith) (omega arith))
