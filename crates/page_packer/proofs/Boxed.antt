-- Branches with one more behind them.
use Rattle.std.proofs.Common.{◌≡◌, ℕ, suc, ◌+◌, ◌-◌, ◌≤◌, Bool, true, false, List, [], ◌∷◌, ◌++◌, length, take, drop, get_or, map, Result, Ok, Err, refl, sym, ◌∙◌, ap, arith}
use Rattle.std.specs.Prelude.{if◌then◌else◌, ◌==◌, OnOk}
use Rattle.std.proofs.lemmas.Bool.Decides.{nat_tests}
use Rattle.std.proofs.lemmas.List.{length-map, take_all}
use Rattle.bti_nodes.specs.declared.outline.Outline.{Outline}
use Rattle.bti_nodes.specs.Spelling.{bytes_in, outline_by, outline_size, distant, first_letter, last_letter, greatest}
use Rattle.page_packer.specs.Tree.{Tree, Branches, tree, end, branch, path, with_key, with_branch, weight, weights, weight_here, letters, unplaced}
use Rattle.page_packer.specs.Sound.{Ascend, IsFull, Sound, SoundUnder}
use Rattle.page_packer.specs.declared.boxes.Branch.{Branch}
use Rattle.page_packer.specs.declared.boxes.Link.{Link, End, Last'}
use Rattle.page_packer.specs.Boxes.{branches_of, and_last, node_in_box, with_path, EndsUnder, capped, IsWeighed, IsKept, Sees}

by_test : (t : Bool) (d : ℕ) (u : Tree) (x y : Branches) → branch d u (if t then x else y) ≡ (if t then branch d u x else branch d u y)
by_test true d u x y = refl
by_test false d u x y = refl

-- a key goes into the last branch, or makes one behind it
pub with_last : (bs : Branches) (c : ℕ) (t : Tree) (b : ℕ) (rest p : List ℕ) → with_branch (and_last bs c t) b rest p ≡ (if c == b then and_last bs c (with_key t rest p) else and_last (and_last bs c t) b (path rest p))
with_last end c t b rest p = refl
with_last (branch d u end) c t b rest p = by_test (c == b) d u (branch c (with_key t rest p) end) (branch c t (branch b (path rest p) end))
with_last (branch d u (branch e v bs)) c t b rest p =
    ap (branch d u) (with_last (branch e v bs) c t b rest p) ∙ by_test (c == b) d u (and_last (branch e v bs) c (with_key t rest p)) (and_last (and_last (branch e v bs) c t) b (path rest p))

pub weights_last : (bs : Branches) (b : ℕ) (t : Tree) → weights (and_last bs b t) ≡ weights bs + weight t
weights_last end b t = omega arith
weights_last (branch c u bs) b t = let h = weights_last bs b t in omega (arith, h)

pub letters_last : (bs : Branches) (b : ℕ) (t : Tree) → letters (and_last bs b t) ≡ letters bs ++ b ∷ []
letters_last end b t = refl
letters_last (branch c u bs) b t = ap (λ l. c ∷ l) (letters_last bs b t)

pub ascend_before : (low : ℕ) (bs : Branches) (b : ℕ) (t : Tree) → Ascend low (and_last bs b t) → Ascend low bs
ascend_before low end b t h = tt
ascend_before low (branch c u bs) b t h = (h.0, h.1, ascend_before (c + 1) bs b t h.2)

pub sound_before : (bs : Branches) (b : ℕ) (t : Tree) → SoundUnder (and_last bs b t) → SoundUnder bs
sound_before end b t h = tt
sound_before (branch c u bs) b t h = (h.0, h.1, sound_before bs b t h.2)

pub sound_last : (bs : Branches) (b : ℕ) (t : Tree) → SoundUnder (and_last bs b t) → Sound t × IsFull t
sound_last end b t h = (h.0, h.1)
sound_last (branch c u bs) b t h = sound_last bs b t h.2

pub few_letters : (low : ℕ) (bs : Branches) → low ≤ 256 → Ascend low bs → low + length (letters bs) ≤ 256
few_letters low end l h = omega arith
few_letters low (branch b t bs) l h = let k = few_letters (b + 1) bs (omega (arith, h.1)) h.2 in omega (arith, k, h.0)

pub capped_one : (a b : ℕ) → capped (capped a + b) ≡ capped (a + b)
capped_one a b = omega arith

pub capped_both : (a b : ℕ) → capped (capped a + capped b) ≡ capped (a + b)
capped_both a b = omega arith

-- what the choice of a type sees of branches, with one more behind them
abbrev outline_of : ℕ → ℕ → ℕ → ℕ → Outline
outline_of c f l g = record { payload = 0; count = c; first = f; last = l; greatest = g }

no_distance : (ls : List ℕ) → greatest (map unplaced ls) ≡ 0
no_distance [] = refl
no_distance (l ∷ ls) = let h = no_distance ls in omega (arith, h)

pub last_more : (ls : List ℕ) (b : ℕ) → last_letter (map unplaced (ls ++ b ∷ [])) ≡ b
last_more [] b = refl
last_more (l ∷ []) b = refl
last_more (l ∷ m ∷ ls) b = last_more (m ∷ ls) b

pub count_more : (ls : List ℕ) (b : ℕ) → length (map unplaced (ls ++ b ∷ [])) ≡ length (map unplaced ls) + 1
count_more [] b = refl
count_more (l ∷ ls) b = let h = count_more ls b in omega (arith, h)

first_else : (t : Bool) (x y : ℕ) → t ≡ false → (if t then x else y) ≡ y
first_else true x y h = cc
first_else false x y h = refl

pub first_more : (ls : List ℕ) (b : ℕ) → first_letter (map unplaced (ls ++ b ∷ [])) ≡ (if length (map unplaced ls) == 0 then b else first_letter (map unplaced ls))
first_more [] b = refl
first_more (l ∷ ls) b = sym (first_else (length (map unplaced (l ∷ ls)) == 0) b l (grind (arith, nat_tests)))

pub outline_last : (bs : Branches) (b : ℕ) (t : Tree) (o : Outline) → o ≡ outline_by 0 (map unplaced (letters bs))
    → record o { count = o.count + 1; first = if o.count == 0 then b else o.first; last = b } ≡ outline_by 0 (map unplaced (letters (and_last bs b t)))
outline_last bs b t o e =
    let ls = letters bs in
    let more = map unplaced (ls ++ b ∷ []) in
    ap (λ (x : Outline). record x { count = x.count + 1; first = if x.count == 0 then b else x.first; last = b }) e
    ∙ ap (λ c. outline_of c (if length (map unplaced ls) == 0 then b else first_letter (map unplaced ls)) b (greatest (map unplaced ls))) (sym (count_more ls b))
    ∙ ap (λ f. outline_of (length more) f b (greatest (map unplaced ls))) (sym (first_more ls b))
    ∙ ap (λ l. outline_of (length more) (first_letter more) l (greatest (map unplaced ls))) (sym (last_more ls b))
    ∙ ap (λ g. outline_of (length more) (first_letter more) (last_letter more) g) (no_distance ls ∙ sym (no_distance (ls ++ b ∷ [])))
    ∙ ap (λ k. outline_by 0 (map unplaced k)) (sym (letters_last bs b t))

-- the capped weight of a node above branches that were weighed
pub own_weight : (q : List ℕ) (bs bs' : Branches) (w : ℕ) (o : Outline) → bs' ≡ bs → w ≡ capped (weights bs) → o ≡ outline_by 0 (map unplaced (letters bs))
    → capped (w + outline_size (distant (record o { payload = length q }))) ≡ capped (weights bs' + weight_here q bs')
own_weight q bs bs' w o same e f =
    ap (λ x. capped (x + outline_size (distant (record o { payload = length q })))) e ∙ ap (λ (x : Outline). capped (capped (weights bs) + outline_size (distant (record x { payload = length q })))) f
    ∙ capped_one (weights bs) (weight_here q bs) ∙ ap (λ (x : Branches). capped (weights x + weight_here q x)) (sym same)

pub both_weights : (bs : Branches) (b : ℕ) (t : Tree) (x y : ℕ) → x ≡ capped (weights bs) → y ≡ capped (weight t) → capped (x + y) ≡ capped (weights (and_last bs b t))
both_weights bs b t x y e f =
    ap (λ n. capped (n + y)) e ∙ ap (λ n. capped (capped (weights bs) + n)) f ∙ capped_both (weights bs) (weight t) ∙ ap capped (sym (weights_last bs b t))

pub count_few : (bs : Branches) (o : Outline) → Ascend 0 bs → o ≡ outline_by 0 (map unplaced (letters bs)) → o.count ≤ 256
count_few bs o a e =
    let n : o.count ≡ length (map unplaced (letters bs)) = ap (λ (x : Outline). x.count) e in
    omega (arith, n, length-map (letters bs) unplaced, few_letters 0 bs (omega arith) a)

-- a key goes into boxes: what is behind its first byte
abbrev pub after : List ℕ → List ℕ
after key = take (length key - 1) (drop 1 key)

after_is : (b : ℕ) (rest : List ℕ) → after (b ∷ rest) ≡ rest
after_is b rest = take_all (length (b ∷ rest) - 1) rest (omega arith)

chosen : (t : Bool) (x y : Branches) → t ≡ true → (if t then x else y) ≡ x
chosen true x y h = refl
chosen false x y h = cc

passed : (t : Bool) (x y : Branches) → t ≡ false → (if t then x else y) ≡ y
passed true x y h = cc
passed false x y h = refl

pub add_here : (key : List ℕ) (before : Branches) (byte : ℕ) (q p : List ℕ) (cs bs : Branches) → 1 ≤ length key → byte ≡ get_or key 0 0 → (length (after key) == 0) ≡ true → bs ≡ and_last before byte (tree q cs)
    → and_last before byte (tree p cs) ≡ with_path bs key p
add_here [] before byte q p cs bs l e n v = absurd (omega arith)
add_here (b ∷ []) before byte q p cs bs l e n v =
    sym (ap (λ x. with_branch x b [] p) v ∙ with_last before byte (tree q cs) b [] p
    ∙ chosen (byte == b) (and_last before byte (tree p cs)) (and_last (and_last before byte (tree q cs)) b (path [] p)) (grind (arith, nat_tests)))
add_here (b ∷ r ∷ rest) before byte q p cs bs l e n v =
    let some : length (after (b ∷ r ∷ rest)) ≡ suc (length rest) = ap length (after_is b (r ∷ rest)) in
    absurd (grind (arith, nat_tests))

pub add_below : (key : List ℕ) (before : Branches) (byte : ℕ) (q p : List ℕ) (cs new bs : Branches) → 1 ≤ length key → byte ≡ get_or key 0 0 → (length (after key) == 0) ≡ false → bs ≡ and_last before byte (tree q cs)
    → new ≡ with_path cs (after key) p → and_last before byte (tree q new) ≡ with_path bs key p
add_below [] before byte q p cs new bs l e n v h = absurd (omega arith)
add_below (b ∷ []) before byte q p cs new bs l e n v h = cc
add_below (b ∷ r ∷ rest) before byte q p cs new bs l e n v h =
    let grown : new ≡ with_branch cs r rest p = h ∙ ap (λ k. with_path cs k p) (after_is b (r ∷ rest)) in
    ap (λ x. and_last before byte (tree q x)) grown
    ∙ sym (ap (λ x. with_branch x b (r ∷ rest) p) v ∙ with_last before byte (tree q cs) b (r ∷ rest) p
    ∙ chosen (byte == b) (and_last before byte (tree q (with_branch cs r rest p))) (and_last (and_last before byte (tree q cs)) b (path (r ∷ rest) p)) (grind (arith, nat_tests)))

pub add_first : (key p : List ℕ) (bs : Branches) → 1 ≤ length key → bs ≡ end → and_last bs (get_or key 0 0) (path (after key) p) ≡ with_path bs key p
add_first [] p bs l v = absurd (omega arith)
add_first (b ∷ rest) p bs l v =
    ap (λ k. and_last bs b (path k p)) (after_is b rest) ∙ ap (λ x. and_last x b (path rest p)) v ∙ ap (λ x. with_branch x b rest p) (sym v)

pub add_behind : (key p : List ℕ) (before : Branches) (byte : ℕ) (t : Tree) (bs : Branches) → 1 ≤ length key → (byte ≡ get_or key 0 0 → ⊥) → bs ≡ and_last before byte t
    → and_last bs (get_or key 0 0) (path (after key) p) ≡ with_path bs key p
add_behind [] p before byte t bs l ne v = absurd (omega arith)
add_behind (b ∷ rest) p before byte t bs l ne v =
    ap (λ k. and_last bs b (path k p)) (after_is b rest) ∙ ap (λ x. and_last x b (path rest p)) v
    ∙ sym (ap (λ x. with_branch x b rest p) v ∙ with_last before byte t b rest p ∙ passed (byte == b) (and_last before byte (with_key t rest p)) (and_last (and_last before byte t) b (path rest p)) (grind (arith, nat_tests)))

pub on_ok : {T E : Type 0} (r : Result T E) (P Q : Type 0) → (P → Q) → OnOk r P → OnOk r Q
on_ok (Ok x) P Q f h = f h
on_ok (Err e) P Q f h = h

-- a key whose first byte no last branch has goes behind the branches
pub put_after : (link : Link) (key p : List ℕ) → 1 ≤ length key → (EndsUnder link (get_or key 0 0) → ⊥) → and_last (branches_of link) (get_or key 0 0) (path (after key) p) ≡ with_path (branches_of link) key p
put_after End key p l apart = add_first key p end l refl
put_after (Last' q byte w so_far payload children before) key p l apart = add_behind key p (branches_of before) byte (tree (bytes_in payload) (branches_of children)) _ l apart refl

-- boxes that are weighed are so along the last branches too
pub kept : (link : Link) → IsWeighed link → IsKept link
kept End h = tt
kept (Last' q byte w so_far payload children before) h = (kept children h.2, h.3)

-- a box that was weighed, and one that is along the last branches
abbrev pub WeighedBox : Branch → Type 0
WeighedBox b = (b.weight ≡ capped (weight (node_in_box b))) × Sees b.so_far (and_last (branches_of b.before) b.byte (node_in_box b)) × IsWeighed b.children × IsWeighed b.before

abbrev pub KeptBox : Branch → Type 0
KeptBox b = IsKept b.children × IsWeighed b.before
