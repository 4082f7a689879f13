-- A subtree alone, and a key that leaves a level.
use Rattle.std.proofs.Common.{Bool, true, false, ◌≡◌, ℕ, zero, suc, ◌+◌, ◌<◌, ◌≤◌, List, [], ◌∷◌, ◌++◌, length, take, drop, get_or, inl, inr, Result, Ok, Err, refl, sym, ◌∙◌, ap, arith}
use Rattle.std.specs.Prelude.{OnOk, IfOk, ◌==◌, if◌then◌else◌}
use Rattle.std.specs.List.{AllByRecursion}
use Rattle.std.proofs.lemmas.Bool.Decides.{nat_tests}
use Rattle.std.proofs.lemmas.List.{append-nil}
use Rattle.bti_nodes.specs.Spelling.{bytes_in}
use Rattle.page_packer.specs.declared.work.Stood.{Stood}
use Rattle.page_packer.specs.declared.edge.Level.{Level}
use Rattle.page_packer.specs.Tree.{Tree, Branches, tree, end, branch, IsBelow, path, with_key}
use Rattle.page_packer.specs.Layout.{Laid, LaidUnder, lay, lay_under}
use Rattle.page_packer.specs.Boxes.{with_path}
use Rattle.page_packer.specs.Edge.{Edge, whole, above, and_stood, under_of, left, closes, Grown, with_more}
use Rattle.page_packer.specs.Early.{early}
use Rattle.page_packer.proofs.Grown.{last_of, first_bytes, never_below}
use Rattle.page_packer.proofs.Closed.{closed_longer, over_closes}
use Rattle.page_packer.proofs.Followed.{pick, pass, test_or, follows_all, parted, leaves}
use Rattle.page_packer.specs.Levels.{edge_over, closes_over, followed, over_grown, last_over, AreLevels, IsParted, laid_of}
use Rattle.page_packer.proofs.Settled.{over_more}

abbrev pub one : Tree → Branches
one t = branch 0 t end

-- what is laid into empty work for a subtree alone
pub one_laid : (t : Tree) (bs : Branches) (start : ℕ) (out0 out1 : List ℕ) (s0 s1 : List Stood) → bs ≡ one t → out0 ≡ [] → s0 ≡ [] → out1 ≡ out0 ++ (lay_under bs (start + length out0)).bytes → s1 ≡ s0 ++ (lay_under bs (start + length out0)).children
    → (out1 ≡ (lay t start).bytes) × (s1 ≡ record { byte = 0; position = (lay t start).root } ∷ [])
one_laid t bs start out0 out1 s0 s1 e o z h k =
    let at : start + length out0 ≡ start = omega (arith, ap length o) in
    let all : lay_under bs (start + length out0) ≡ lay_under (one t) start = ap (λ (x : Branches). lay_under x (start + length out0)) e ∙ ap (lay_under (one t)) at in (
      h ∙ ap (λ x. x ++ (lay_under bs (start + length out0)).bytes) o ∙ ap (λ (l : LaidUnder). l.bytes) all ∙ append-nil (lay t start).bytes,
      k ∙ ap (λ x. x ++ (lay_under bs (start + length out0)).children) z ∙ ap (λ (l : LaidUnder). l.children) all,
    )

-- a key that goes into a subtree
pub extended : (q : List ℕ) (bs cs : Branches) (key v : List ℕ) → 0 < length key → cs ≡ with_path bs key v → tree q cs ≡ with_key (tree q bs) key v
extended q bs cs [] v h e = absurd (omega arith)
extended q bs cs (b ∷ rest) v h e = ap (tree q) e

pub replaced : (q : List ℕ) (bs : Branches) (key v : List ℕ) → length key ≡ 0 → tree v bs ≡ with_key (tree q bs) key v
replaced q bs [] v h = refl
replaced q bs (b ∷ rest) v h = absurd (omega arith)

-- a path is a key in an empty subtree
pub path_is : (key v : List ℕ) → with_key (tree [] end) key v ≡ path key v
path_is [] v = refl
path_is (b ∷ rest) v = refl

drop_levels : (p n : ℕ) (ls : List Level) → AreLevels p ls → AreLevels p (drop n ls)
drop_levels p zero ls h = h
drop_levels p (suc n) [] h = tt
drop_levels p (suc n) (l ∷ ls) h = drop_levels p n ls h.3

pub levels_behind : (p n m : ℕ) (ls : List Level) → AreLevels p ls → m ≡ n → AreLevels p (drop m ls)
levels_behind p n m ls h e = drop_levels p m ls h

-- lists with one more behind them
none_left : (xs : List Level) (x : Level) → xs ++ x ∷ [] ≡ [] → ⊥
none_left [] x h = cc
none_left (y ∷ xs) x h = cc

snoc_same : (xs ys : List Level) (x y : Level) → xs ++ x ∷ [] ≡ ys ++ y ∷ [] → (xs ≡ ys) × (x ≡ y)
snoc_same [] [] x y h = (refl, cc)
snoc_same [] (b ∷ ys) x y h = absurd (none_left ys y (let e : ys ++ y ∷ [] ≡ [] = cc in e))
snoc_same (a ∷ xs) [] x y h = absurd (none_left xs x (let e : xs ++ x ∷ [] ≡ [] = cc in e))
snoc_same (a ∷ xs) (b ∷ ys) x y h =
    let e : a ≡ b = cc in
    let f : xs ++ x ∷ [] ≡ ys ++ y ∷ [] = cc in
    let r = snoc_same xs ys x y f in
    (ap (λ (z : Level). z ∷ xs) e ∙ ap (λ (l : List Level). b ∷ l) r.0, r.1)

take_snoc : (xs ys : List Level) (l : Level) → take (length xs + 1) (xs ++ l ∷ ys) ≡ xs ++ l ∷ []
take_snoc [] ys l = refl
take_snoc (x ∷ xs) ys l =
    let n : suc (length xs) + 1 ≡ suc (length xs + 1) = omega arith in
    ap (λ k. take k (x ∷ (xs ++ l ∷ ys))) n ∙ ap (λ (z : List Level). x ∷ z) (take_snoc xs ys l)

pub taken_len : (d : ℕ) (ls : List Level) → d ≤ length ls → length (take d ls) ≡ d
taken_len zero ls h = refl
taken_len (suc d) [] h = absurd (omega arith)
taken_len (suc d) (l ∷ ls) h = ap suc (taken_len d ls (omega arith))

-- the level at a depth gets a child that stands
pub is_parted : (old mid left now : List Level) (m n : Level) (d b r : ℕ) → d < length old → mid ≡ take (d + 1) old → mid ≡ left ++ m ∷ [] → now ≡ left ++ n ∷ [] → n.byte ≡ b → n.payload ≡ m.payload → n.done.items ≡ and_stood m.done.items m.byte r → IsParted old now d b r
is_parted old mid left now m n d b r h e f g x y z l edge split_ =
    let front = take d old in
    let len : length front ≡ d = taken_len d old (omega arith) in
    let got : take (d + 1) old ≡ front ++ l ∷ [] = ap (λ (k : ℕ). take (k + 1) old) (sym len) ∙ ap (λ (w : List Level). take (length front + 1) w) split_ ∙ take_snoc front (drop (d + 1) old) l in
    let s = snoc_same left front m l (sym f ∙ e ∙ got) in
    ap (λ (w : List Level). edge_over w edge) (g ∙ ap (λ (w : List Level). w ++ n ∷ []) s.0) ∙ over_more front n edge
    ∙ ap (λ (w : List ℕ). edge_over front (above w n.done.items n.byte edge)) (ap bytes_in (y ∙ ap (λ (w : Level). w.payload) s.1))
    ∙ ap (λ (w : List Stood). edge_over front (above (bytes_in l.payload) w n.byte edge)) (z ∙ ap (λ (w : Level). and_stood w.done.items w.byte r) s.1)
    ∙ ap (λ k. edge_over front (above (bytes_in l.payload) (and_stood l.done.items l.byte r) k edge)) x

pub not_empty : (ls : List Level) (d : ℕ) → d < length ls → take (d + 1) ls ≡ [] → ⊥
not_empty [] d h e = absurd (omega arith)
not_empty (l ∷ ls) d h e = let n : length (take (d + 1) (l ∷ ls)) ≡ d + 1 = taken_len (d + 1) (l ∷ ls) (omega arith) in omega (arith, n, ap length e)

pub on_any : {T E : Type 0} (r : Result T E) (P : Type 0) → P → OnOk r P
on_any (Ok x) P h = h
on_any (Err e) P h = tt

if_any : {T E : Type 0} (r : Result T E) (P Q : T → Type 0) → ((x : T) → P x → Q x) → IfOk r P → IfOk r Q
if_any (Ok x) P Q f h = f x h
if_any (Err e) P Q f h = tt

pub map_ok : {T E : Type 0} (r : Result T E) (P Q : T → Type 0) → ((x : T) → P x → Q x) → IfOk r P → IfOk r Q
map_ok r P Q f h = if_any r P Q f h

pub on_ok : {T E : Type 0} (r : Result T E) (P Q : Type 0) → (P → Q) → OnOk r P → OnOk r Q
on_ok (Ok x) P Q f h = f h
on_ok (Err e) P Q f h = h

-- what closes the levels behind a depth is no longer than what closes all
pub part_room : (n : ℕ) (ls : List Level) (laid : Laid) (p : ℕ) → length (closes_over (drop n ls) laid p).bytes ≤ length (closes_over ls laid p).bytes
part_room zero ls laid p = omega arith
part_room (suc n) [] laid p = omega arith
part_room (suc n) (l ∷ ls) laid p =
    let last = closes_over ls laid p in
    omega (arith, part_room n ls laid p, closed_longer (bytes_in l.payload) (under_of last.bytes (and_stood l.done.items l.byte last.root)) (p + length last.bytes))

-- a key that follows all levels is above the subtree's last one
pub below_drop : (ls : List Level) (t : Tree) (key : List ℕ) → followed ls key ≡ length ls → IsBelow (last_over ls t) key → IsBelow (last_of t) (drop (length ls) key)
below_drop [] t key h below = below
below_drop (l ∷ ls) t [] h below = absurd (never_below (last_over (l ∷ ls) t) below)
below_drop (l ∷ ls) t (b ∷ rest) h below =
    elim (test_or (l.byte == b)) as (λ _. IsBelow (last_of t) (drop (length (l ∷ ls)) (b ∷ rest))) [
      | inl s ↦ (let n : followed ls rest ≡ length ls = omega (arith, h, pick (l.byte == b) (1 + followed ls rest) 0 s) in
          let same : l.byte ≡ b = grind (arith, nat_tests) in
          let deeper : IsBelow (last_over ls t) rest = elim (first_bytes l.byte b (last_over ls t) rest below) as (λ _. IsBelow (last_over ls t) rest) [ inl less ↦ absurd (omega (arith, less, same)) | inr k ↦ k.1 ] in
          below_drop ls t rest n deeper)
      | inr s ↦ absurd (omega (arith, h, pass (l.byte == b) (1 + followed ls rest) 0 s))
    ]

pub bytes_behind : (n : ℕ) (key : List ℕ) → AllByRecursion (λ b. b < 256) key → AllByRecursion (λ b. b < 256) (drop n key)
bytes_behind zero key h = h
bytes_behind (suc n) [] h = tt
bytes_behind (suc n) (b ∷ key) h = bytes_behind n key h.1

-- one key more, where it leaves a level
pub record Grew (out2 : List ℕ) (x : Edge) (g : Grown) : Type 0 where
  pub bytes : out2 ≡ g.bytes
  pub edge : x ≡ g.edge

pub parted_grew : (ls ms : List Level) (t u : Tree) (key v : List ℕ) (p d : ℕ) (out1 out2 : List ℕ) (x : Edge) → d ≡ followed ls key → d < length ls → IsBelow (last_over ls t) key → out1 ≡ (closes_over (drop (d + 1) ls) (lay t p) p).bytes → u ≡ path (drop (d + 1) key) v
    → IsParted ls ms d (get_or key d 0) (closes_over (drop (d + 1) ls) (lay t p) p).root → out2 ≡ out1 ++ early u (p + length out1) → x ≡ edge_over ms (left u (p + length out1)) → Grew out2 x (with_more (edge_over ls (whole t)) key v p)
parted_grew ls ms t u key v p d out1 out2 x e h below f g parts w y =
    let r = leaves ls t key v p d e h below in
    let n : suc d ≡ d + 1 = omega arith in
    let last = closes_over (drop (d + 1) ls) (lay t p) p in
    let b = get_or key d 0 in
    let whole_ = path (drop (d + 1) key) v in
    let split_ : ls ≡ take d ls ++ r.level ∷ drop (d + 1) ls = r.split_ ∙ ap (λ k. take d ls ++ r.level ∷ drop k ls) n in
    let all : with_more (edge_over ls (whole t)) key v p ≡ over_grown (take d ls) (parted r.level (drop (d + 1) ls) t b (drop (d + 1) key) v p) =
    r.grown ∙ ap (λ k. over_grown (take d ls) (parted r.level (drop k ls) t b (drop k key) v p)) n in
    record {
      bytes = w ∙ ap (λ (z : Tree). out1 ++ early z (p + length out1)) g ∙ ap (λ z. z ++ early whole_ (p + length z)) f ∙ sym (ap (λ (z : Grown). z.bytes) all);
      edge = y ∙ ap (λ (z : Tree). edge_over ms (left z (p + length out1))) g ∙ ap (λ z. edge_over ms (left whole_ (p + length z))) f ∙ parts r.level (left whole_ (p + length last.bytes)) split_ ∙ sym (ap (λ (z : Grown). z.edge) all);
    }

pub followed_grew : (ls : List Level) (t u : Tree) (key rest v : List ℕ) (p d : ℕ) (out0 out2 : List ℕ) (x : Edge) → d ≡ followed ls key → d ≡ length ls → rest ≡ drop d key → u ≡ with_key t rest v → out0 ≡ [] → out2 ≡ out0 ++ early u (p + length out0) → x ≡ edge_over ls (left u (p + length out0))
    → Grew out2 x (with_more (edge_over ls (whole t)) key v p)
followed_grew ls t u key rest v p d out0 out2 x e h f g o w y =
    let all = follows_all ls t key v p (sym e ∙ h) in
    let at : p + length out0 ≡ p = omega (arith, ap length o) in
    let u_is : u ≡ with_key t (drop (length ls) key) v = g ∙ ap (λ k. with_key t k v) (f ∙ ap (λ k. drop k key) h) in
    record {
      bytes = w ∙ ap (λ z. z ++ early u (p + length out0)) o ∙ ap (early u) at ∙ ap (λ (z : Tree). early z p) u_is ∙ sym (ap (λ (z : Grown). z.bytes) all);
      edge = y ∙ ap (λ n. edge_over ls (left u n)) at ∙ ap (λ (z : Tree). edge_over ls (left z p)) u_is ∙ sym (ap (λ (z : Grown). z.edge) all);
    }

follow_if : (s : Bool) (a n : ℕ) → a ≤ n → (if s then 1 + a else 0) ≤ suc n
follow_if true a n h = omega arith
follow_if false a n h = omega arith

pub follow_len : (ls : List Level) (key : List ℕ) → followed ls key ≤ length key
follow_len [] key = omega arith
follow_len (l ∷ ls) [] = omega arith
follow_len (l ∷ ls) (b ∷ key) = follow_if (l.byte == b) (followed ls key) (length key) (follow_len ls key)

pub closing_is : (ls : List Level) (t : Tree) (p : ℕ) (out : List ℕ) (root : ℕ) → out ≡ (lay t p).bytes → root ≡ (lay t p).root → closes_over ls (laid_of out root) p ≡ closes (edge_over ls (whole t)) p
closing_is ls t p out root f g = ap (λ x. closes_over ls (laid_of x root) p) f ∙ ap (λ n. closes_over ls (laid_of (lay t p).bytes n) p) g ∙ sym (over_closes ls (whole t) p)
