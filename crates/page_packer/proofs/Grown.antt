-- The tree of ascending keys is one that can be laid, and its entries are those keys.
use Rattle.std.proofs.Common.{◌≡◌, ℕ, ◌+◌, ◌<◌, ◌≤◌, ◌⊎◌, true, false, List, [], ◌∷◌, ◌++◌, length, map, refl, sym, ◌∙◌, ap, subst, arith, inl, inr, append_assoc}
use Rattle.std.proofs.lemmas.List.{append-nil}
use Rattle.std.proofs.lemmas.Bool.Decides.{nat_tests}
use Rattle.std.specs.Prelude.{◌==◌}
use Rattle.std.specs.List.{AllByRecursion}
use Rattle.std.specs.declared.cmp.Ordering.{Ordering}
use Rattle.std.specs.declared.cmp.Ordering.TheVariants.{Less, Equal, Greater}
use Rattle.std.specs.Ordering.{nat_cmp, ordering_then}
use Rattle.std.specs.Cmp.Lexicographic.{slice_cmp}
use Rattle.page_packer.specs.Tree.{Tree, Branches, tree, end, branch, TrieEntry, IsBelow, IsEntry, AscendFrom, AreEntries, key_after, last_key, path, with_key, with_branch, grown, tree_of, below, own, entries_of, entries_under, letters}
pub use Rattle.page_packer.specs.Last.{last_of, last_under}
use Rattle.page_packer.specs.Sound.{Ascend, IsFull, Sound, SoundUnder}

-- a key above the last key, by its first byte
first_by : (o r : Ordering) → ordering_then o r ≡ Less → (o ≡ Less) ⊎ ((o ≡ Equal) × (r ≡ Less))
first_by Less r h = inl refl
first_by Equal r h = inr (refl, h)
first_by Greater r h = cc

less_than : (c b : ℕ) → nat_cmp c b ≡ Less → c < b
less_than c b h = grind (arith, nat_tests)

equal_to : (c b : ℕ) → nat_cmp c b ≡ Equal → c ≡ b
equal_to c b h = grind (arith, nat_tests)

-- the last key of branches behind another is theirs
last_behind : (c : ℕ) (t : Tree) (bs : Branches) → 0 < length (letters bs) → last_under (branch c t bs) ≡ last_under bs
last_behind c t end h = absurd (omega arith)
last_behind c t (branch d u bs) h = refl

pub first_bytes : (c b : ℕ) (x k : List ℕ) → IsBelow (c ∷ x) (b ∷ k) → (c < b) ⊎ ((c ≡ b) × IsBelow x k)
first_bytes c b x k h =
    elim (first_by (nat_cmp c b) (slice_cmp nat_cmp x k) h) as (λ _. (c < b) ⊎ ((c ≡ b) × IsBelow x k)) [ inl less ↦ inl (less_than c b less) | inr same ↦ inr (equal_to c b same.0, same.1) ]

pub never_below : (x : List ℕ) → IsBelow x [] → ⊥
never_below [] h = cc
never_below (a ∷ x) h = cc

pub path_sound : (k p : List ℕ) → AllByRecursion (λ b. b < 256) k → 0 < length p → length p ≤ 7 → Sound (path k p) × IsFull (path k p) × (last_of (path k p) ≡ k)
path_sound [] p bytes paid short = ((short, tt, tt), omega arith, refl)
path_sound (b ∷ k) p bytes paid short =
    let h = path_sound k p bytes.1 paid short in
    ((omega arith, (omega arith, bytes.0, tt), (h.0, h.1, tt)), omega arith, ap (λ l. b ∷ l) h.2)

-- a branch that comes after others stands under a greater byte
pub low_below : (low b : ℕ) (rest : List ℕ) (c : ℕ) (t : Tree) (bs : Branches) → Ascend low (branch c t bs) → IsBelow (last_under (branch c t bs)) (b ∷ rest) → low ≤ b
low_below low b rest c t end a h =
    elim (first_bytes c b (last_of t) rest h) as (λ _. low ≤ b) [ inl less ↦ omega (arith, less, a.0) | inr same ↦ omega (arith, same.0, a.0) ]
low_below low b rest c t (branch d u bs) a h = let k = low_below (c + 1) b rest d u bs a.2 h in omega (arith, k, a.0)

abbrev GrownUnder : ℕ → List ℕ → Branches → Type 0
GrownUnder low key bs = Ascend low bs × SoundUnder bs × (0 < length (letters bs)) × (last_under bs ≡ key)

mutual
  pub key_sound : (t : Tree) (k p : List ℕ) → Sound t → AllByRecursion (λ b. b < 256) k → 0 < length p → length p ≤ 7 → IsBelow (last_of t) k → Sound (with_key t k p) × IsFull (with_key t k p) × (last_of (with_key t k p) ≡ k)
  key_sound (tree q bs) [] p s bytes paid short h = absurd (never_below (last_under bs) h)
  key_sound (tree q bs) (b ∷ rest) p s bytes paid short h =
      let r = branch_sound bs 0 b rest p s.1 s.2 (omega arith) bytes.0 bytes.1 paid short h in
      ((s.0, r.0, r.1), omega (arith, r.2), r.3)

  branch_sound : (bs : Branches) (low b : ℕ) (rest p : List ℕ) → Ascend low bs → SoundUnder bs → low ≤ b → b < 256 → AllByRecursion (λ b. b < 256) rest → 0 < length p → length p ≤ 7 → IsBelow (last_under bs) (b ∷ rest)
      → GrownUnder low (b ∷ rest) (with_branch bs b rest p)
  branch_sound end low b rest p a s l m bytes paid short h =
      let k = path_sound rest p bytes paid short in
      ((l, m, tt), (k.0, k.1, tt), omega arith, ap (λ x. b ∷ x) k.2)
  branch_sound (branch c t end) low b rest p a s l m bytes paid short h =
      elim (first_bytes c b (last_of t) rest h) as (λ _. GrownUnder low (b ∷ rest) (with_branch (branch c t end) b rest p)) [
        | inl less ↦ (let other : (c == b) ≡ false = grind (arith, nat_tests) in
            let k = path_sound rest p bytes paid short in
            rw other ((a.0, a.1, (omega arith, m, tt)), (s.0, s.1, (k.0, k.1, tt)), omega arith, ap (λ x. b ∷ x) k.2))
        | inr same ↦ (let e = same.0 in
            let this : (c == b) ≡ true = grind (arith, nat_tests) in
            let k = key_sound t rest p s.0 bytes paid short same.1 in
            rw this ((a.0, a.1, tt), (k.0, k.1, tt), omega arith, ap (λ x. c ∷ x) k.2 ∙ ap (λ x. x ∷ rest) e))
      ]
  branch_sound (branch c t (branch d u bs)) low b rest p a s l m bytes paid short h =
      let r = branch_sound (branch d u bs) (c + 1) b rest p a.2 s.2 (low_below (c + 1) b rest d u bs a.2 h) m bytes paid short h in
      ((a.0, a.1, r.0), (s.0, s.1, r.1), omega arith, last_behind c t (with_branch (branch d u bs) b rest p) r.2 ∙ r.3)

pub grown_sound : (es : List TrieEntry) (t : Tree) → Sound t → AscendFrom (last_of t) es → Sound (grown t es) × (last_of (grown t es) ≡ key_after (last_of t) es)
grown_sound [] t s h = (s, refl)
grown_sound (e ∷ es) t s h =
    let r = key_sound t e.key e.payload s h.1.bytes h.1.paid h.1.short h.0 in
    let g = grown_sound es (with_key t e.key e.payload) r.0 (subst (λ k. AscendFrom k es) (sym r.2) h.2) in
    (g.0, g.1 ∙ ap (λ k. key_after k es) r.2)

abbrev empty : Tree
empty = tree [] end

pub sound_tree : (es : List TrieEntry) → AreEntries es → Sound (tree_of es)
sound_tree es h = (grown_sound es empty (omega arith, tt, tt) h).0

pub last_is : (es : List TrieEntry) → AreEntries es → last_of (tree_of es) ≡ last_key es
last_is es h = (grown_sound es empty (omega arith, tt, tt) h).1

-- the entries
abbrev entry : List ℕ → List ℕ → TrieEntry
entry k p = record { key = k; payload = p }

path_entries : (k p : List ℕ) → 0 < length p → entries_of (path k p) ≡ entry k p ∷ []
path_entries [] [] h = absurd (omega arith)
path_entries [] (x ∷ p) h = refl
path_entries (b ∷ k) p h = ap (λ es. map (below b) es ++ []) (path_entries k p h)

map_append : (f : TrieEntry → TrieEntry) (xs ys : List TrieEntry) → map f (xs ++ ys) ≡ map f xs ++ map f ys
map_append f [] ys = refl
map_append f (x ∷ xs) ys = ap (λ l. f x ∷ l) (map_append f xs ys)

mutual
  key_entries : (t : Tree) (k p : List ℕ) → 0 < length p → IsBelow (last_of t) k → entries_of (with_key t k p) ≡ entries_of t ++ entry k p ∷ []
  key_entries (tree q bs) [] p paid h = absurd (never_below (last_under bs) h)
  key_entries (tree q bs) (b ∷ rest) p paid h = ap (λ es. own q ++ es) (branch_entries bs b rest p paid h) ∙ sym (append_assoc (own q) (entries_under bs) (entry (b ∷ rest) p ∷ []))

  branch_entries : (bs : Branches) (b : ℕ) (rest p : List ℕ) → 0 < length p → IsBelow (last_under bs) (b ∷ rest) → entries_under (with_branch bs b rest p) ≡ entries_under bs ++ entry (b ∷ rest) p ∷ []
  branch_entries end b rest p paid h = ap (λ es. map (below b) es ++ []) (path_entries rest p paid)
  branch_entries (branch c t end) b rest p paid h =
      elim (first_bytes c b (last_of t) rest h) as (λ _. entries_under (with_branch (branch c t end) b rest p) ≡ entries_under (branch c t end) ++ entry (b ∷ rest) p ∷ []) [
        | inl less ↦ (let other : (c == b) ≡ false = grind (arith, nat_tests) in
            rw other (ap (λ es. map (below c) (entries_of t) ++ (map (below b) es ++ [])) (path_entries rest p paid) ∙ ap (λ es. es ++ entry (b ∷ rest) p ∷ []) (sym (append-nil (map (below c) (entries_of t))))))
        | inr same ↦ (let e = same.0 in
            let this : (c == b) ≡ true = grind (arith, nat_tests) in
            rw this (ap (λ es. map (below c) es ++ []) (key_entries t rest p paid same.1) ∙ append-nil (map (below c) (entries_of t ++ entry rest p ∷ [])) ∙ map_append (below c) (entries_of t) (entry rest p ∷ [])
            ∙ ap (λ x. map (below c) (entries_of t) ++ entry (x ∷ rest) p ∷ []) e ∙ ap (λ es. es ++ entry (b ∷ rest) p ∷ []) (sym (append-nil (map (below c) (entries_of t))))))
      ]
  branch_entries (branch c t (branch d u bs)) b rest p paid h =
      ap (λ es. map (below c) (entries_of t) ++ es) (branch_entries (branch d u bs) b rest p paid h) ∙ sym (append_assoc (map (below c) (entries_of t)) (entries_under (branch d u bs)) (entry (b ∷ rest) p ∷ []))

grown_entries : (es : List TrieEntry) (t : Tree) → Sound t → AscendFrom (last_of t) es → entries_of (grown t es) ≡ entries_of t ++ es
grown_entries [] t s h = sym (append-nil (entries_of t))
grown_entries (e ∷ es) t s h =
    let r = key_sound t e.key e.payload s h.1.bytes h.1.paid h.1.short h.0 in
    grown_entries es (with_key t e.key e.payload) r.0 (subst (λ k. AscendFrom k es) (sym r.2) h.2)
    ∙ ap (λ xs. xs ++ es) (key_entries t e.key e.payload h.1.paid h.0) ∙ append_assoc (entries_of t) (e ∷ []) es

-- the entries of the tree of ascending keys are those keys
pub same_entries : (es : List TrieEntry) → AreEntries es → entries_of (tree_of es) ≡ es
same_entries es h = grown_entries es empty (omega arith, tt, tt) h

pub grown_more : (es : List TrieEntry) (t : Tree) (e : TrieEntry) → grown t (es ++ e ∷ []) ≡ with_key (grown t es) e.key e.payload
grown_more [] t e = refl
grown_more (x ∷ es) t e = grown_more es (with_key t x.key x.payload) e

pub ascend_more : (es : List TrieEntry) (last : List ℕ) (e : TrieEntry) → AscendFrom last es → IsBelow (key_after last es) e.key → IsEntry e → AscendFrom last (es ++ e ∷ [])
ascend_more [] last e a h k = (h, k, tt)
ascend_more (x ∷ es) last e a h k = (a.0, a.1, ascend_more es x.key e a.2 h k)
