-- Levels are closed, the lowest first.
use Rattle.std.proofs.Common.{◌≡◌, ℕ, ◌+◌, ◌^◌, ◌<◌, ◌≤◌, List, [], ◌∷◌, ◌++◌, length, take, drop, map, refl, sym, ◌∙◌, ap, subst, arith, length-append}
use Rattle.std.proofs.lemmas.List.{append-nil, length-map, drop-append-le, take-append-le}
use Rattle.std.specs.List.{AllByRecursion}
use Rattle.bti_nodes.specs.Spelling.{Parts, bytes_in, last_letter, IsAscending, IsNear, IsNode, zeros}
use Rattle.bti_nodes.proofs.Sizes.{size_is_length, size_within}
use Rattle.page_packer.specs.declared.work.Stood.{Stood}
use Rattle.page_packer.specs.declared.edge.Level.{Level}
use Rattle.page_packer.specs.Layout.{Laid, LaidUnder, node_at_place, seen_from, closed_in_page, gap}
use Rattle.page_packer.specs.Work.{closed_alone}
use Rattle.page_packer.specs.Edge.{Edge, and_stood, under_of, closes}
use Rattle.page_packer.specs.Levels.{edge_over, closes_over, Climb, AllNear, AreLevels, laid_of}
use Rattle.page_packer.proofs.Edges.{split}
use Rattle.page_packer.proofs.Length.{zeros_len}
use Rattle.page_packer.proofs.Pages.{node_some}

pub over_closes : (ls : List Level) (e : Edge) (p : ℕ) → closes (edge_over ls e) p ≡ closes_over ls (closes e p) p
over_closes [] e p = refl
over_closes (l ∷ ls) e p = ap (λ (x : Laid). closed_in_page (bytes_in l.payload) (under_of x.bytes (and_stood l.done.items l.byte x.root)) (p + length x.bytes)) (over_closes ls e p)

pub closes_more : (ls : List Level) (l : Level) (laid : Laid) (p : ℕ) → closes_over (ls ++ l ∷ []) laid p ≡ closes_over ls (closes_over (l ∷ []) laid p) p
closes_more [] l laid p = refl
closes_more (m ∷ ls) l laid p = ap (λ (x : Laid). closed_in_page (bytes_in m.payload) (under_of x.bytes (and_stood m.done.items m.byte x.root)) (p + length x.bytes)) (closes_more ls l laid p)

pub closed_longer : (q : List ℕ) (under : LaidUnder) (at : ℕ) → length under.bytes ≤ length (closed_in_page q under at).bytes
closed_longer q under at =
    let room = gap at (length (node_at_place q under.children at)) in
    omega (arith, length-append (under.bytes ++ zeros room) (node_at_place q under.children (at + room)), length-append under.bytes (zeros room))

pub closes_longer : (ls : List Level) (laid : Laid) (p : ℕ) → length laid.bytes ≤ length (closes_over ls laid p).bytes
closes_longer [] laid p = omega arith
closes_longer (l ∷ ls) laid p =
    let last = closes_over ls laid p in
    let h = closes_longer ls laid p in
    omega (arith, h, closed_longer (bytes_in l.payload) (under_of last.bytes (and_stood l.done.items l.byte last.root)) (p + length last.bytes))

-- one level
pub level_bytes : (l : Level) (out out2 q : List ℕ) (last p at : ℕ) (kids : List Stood) → q ≡ bytes_in l.payload → kids ≡ and_stood l.done.items l.byte last → at ≡ p + length out → out2 ≡ out ++ (closed_alone q kids at).bytes
    → out2 ≡ (closes_over (l ∷ []) (laid_of out last) p).bytes
level_bytes l out out2 q last p at kids e f a w =
    let real = bytes_in l.payload in
    let cs = and_stood l.done.items l.byte last in
    let to = p + length out in
    w ∙ ap (λ x. out ++ (closed_alone x kids at).bytes) e ∙ ap (λ (x : List Stood). out ++ (closed_alone real x at).bytes) f ∙ ap (λ n. out ++ (closed_alone real cs n).bytes) a
    ∙ sym (ap (λ (x : Laid). x.bytes) (ap (λ x. closed_in_page real (under_of x cs) to) (sym (append-nil out)) ∙ split real out [] cs to))

pub level_root : (l : Level) (out q : List ℕ) (last p at : ℕ) (kids : List Stood) → q ≡ bytes_in l.payload → kids ≡ and_stood l.done.items l.byte last → at ≡ p + length out → (closed_alone q kids at).root ≡ (closes_over (l ∷ []) (laid_of out last) p).root
level_root l out q last p at kids e f a =
    let real = bytes_in l.payload in
    let cs = and_stood l.done.items l.byte last in
    ap (λ x. (closed_alone x kids at).root) e ∙ ap (λ (x : List Stood). (closed_alone real x at).root) f ∙ ap (λ n. (closed_alone real cs n).root) a

-- the node of a level can be written
ascends : (low at b r : ℕ) (done : List Stood) → Climb low done b → IsAscending low (map (seen_from at) (and_stood done b r))
ascends low at b r [] h = (h.0, tt)
ascends low at b r (s ∷ done) h = (h.0, ascends (s.byte + 1) at b r done h.1)

near_all : (p at to b r : ℕ) (done : List Stood) → AllNear p done → p ≤ r → r < at → at ≤ to → to < p + 2 ^ 39 → AllByRecursion IsNear (map (seen_from to) (and_stood done b r))
near_all p at to b r [] h k m n o = ((omega arith, omega arith), tt)
near_all p at to b r (s ∷ done) h k m n o = ((omega (arith, h.0), omega (arith, h.1)), near_all p at to b r done h.2 k m n o)

before_all : (p at b r : ℕ) (done : List Stood) → AllNear p done → p ≤ r → r < at → AllByRecursion (λ s. s.position ≤ at) (and_stood done b r)
before_all p at b r [] h k m = (omega arith, tt)
before_all p at b r (s ∷ done) h k m = (omega (arith, h.0, k, m), before_all p at b r done h.2 k m)

few_done : (low b : ℕ) (done : List Stood) → Climb low done b → low + length done ≤ 255
few_done low b [] h = omega (arith, h.0, h.1)
few_done low b (s ∷ done) h = let k = few_done (s.byte + 1) b done h.1 in omega (arith, h.0, k)

last_is : (low at b r : ℕ) (done : List Stood) → Climb low done b → last_letter (map (seen_from at) (and_stood done b r)) < 256
last_is low at b r [] h = omega (arith, h.1)
last_is low at b r (s ∷ []) h = omega (arith, h.1.1)
last_is low at b r (s ∷ t ∷ done) h = last_is (s.byte + 1) at b r (t ∷ done) h.1

len_more : (done : List Stood) (b r : ℕ) → length (and_stood done b r) ≡ length done + 1
len_more done b r = omega (arith, length-append done (record { byte = b; position = r } ∷ []))

pub level_before : (l : Level) (p at r : ℕ) (kids : List Stood) → AreLevels p (l ∷ []) → kids ≡ and_stood l.done.items l.byte r → p ≤ r → r < at → AllByRecursion (λ s. s.position ≤ at) kids
level_before l p at r kids h e k m = subst (λ (x : List Stood). AllByRecursion (λ (s : Stood). s.position ≤ at) x) (sym e) (before_all p at l.byte r l.done.items h.2 k m)

pub level_fits : (l : Level) (p at r : ℕ) (q : List ℕ) (kids : List Stood) → AreLevels p (l ∷ []) → q ≡ bytes_in l.payload → kids ≡ and_stood l.done.items l.byte r → length (node_at_place q kids at) ≤ 4096
level_fits l p at r q kids h e f =
    let cs = and_stood l.done.items l.byte r in
    let parts : Parts = record { payload = bytes_in l.payload; children = map (seen_from at) cs } in
    let n : length parts.children ≤ 256 = omega (arith, length-map cs (seen_from at), len_more l.done.items l.byte r, few_done 0 l.byte l.done.items h.1) in
    omega (arith, size_is_length parts, size_within parts h.0 n (last_is 0 at l.byte r l.done.items h.1), ap (λ x. length (node_at_place x kids at)) e, ap (λ (x : List Stood). length (node_at_place (bytes_in l.payload) x at)) f)

pub level_node : (l : Level) (p at r room : ℕ) (q : List ℕ) (kids : List Stood) → AreLevels p (l ∷ []) → q ≡ bytes_in l.payload → kids ≡ and_stood l.done.items l.byte r → p ≤ r → r < at → at + room < p + 2 ^ 39
    → IsNode (record { payload = q; children = map (seen_from (at + room)) kids })
level_node l p at r room q kids h e f k m n =
    let cs = and_stood l.done.items l.byte r in
    let N : List ℕ → List Stood → Type 0 = λ (x : List ℕ) (y : List Stood). IsNode (record { payload = x; children = map (seen_from (at + room)) y }) in
    subst (λ (x : List ℕ). N x kids) (sym e) (subst (λ (y : List Stood). N (bytes_in l.payload) y) (sym f) (record {
      short = h.0;
      some = omega (arith, length-map cs (seen_from (at + room)), len_more l.done.items l.byte r);
      order = ascends 0 (at + room) l.byte r l.done.items h.1;
      near = near_all p at (at + room) l.byte r l.done.items h.2 k m (omega arith) n;
    }))

-- where the node of a level stands
pub root_high : (l : Level) (laid : Laid) (p : ℕ) → p ≤ (closes_over (l ∷ []) laid p).root
root_high l laid p = omega arith

pub root_below : (l : Level) (laid : Laid) (p : ℕ) → (closes_over (l ∷ []) laid p).root < p + length (closes_over (l ∷ []) laid p).bytes
root_below l laid p =
    let q = bytes_in l.payload in
    let cs = and_stood l.done.items l.byte laid.root in
    let at = p + length laid.bytes in
    let room = gap at (length (node_at_place q cs at)) in
    omega (arith, length-append (laid.bytes ++ zeros room) (node_at_place q cs (at + room)), length-append laid.bytes (zeros room), zeros_len room, node_some q cs (at + room))

last_level : (p : ℕ) (ls : List Level) (l : Level) → AreLevels p (ls ++ l ∷ []) → AreLevels p ls × AreLevels p (l ∷ [])
last_level p [] l h = (tt, h)
last_level p (m ∷ ls) l h = let r = last_level p ls l h.3 in ((h.0, h.1, h.2, r.0), r.1)

-- the levels behind a depth, without the last
pub record Popped (old new : List Level) (l : Level) (depth p : ℕ) : Type 0 where
  pub deep : depth ≤ length new
  pub fewer : length old ≡ length new + 1
  pub split_ : drop depth old ≡ drop depth new ++ l ∷ []
  pub front : take depth new ≡ take depth old
  pub levels : AreLevels p (drop depth old) → AreLevels p (drop depth new) × AreLevels p (l ∷ [])

pub popped : (old new : List Level) (l : Level) (depth p : ℕ) → old ≡ new ++ l ∷ [] → depth < length old → Popped old new l depth p
popped old new l depth p e h =
    let n : length old ≡ length new + 1 = omega (arith, ap length e, length-append new (l ∷ [])) in
    let deep : depth ≤ length new = omega (arith, n, h) in
    let s : drop depth old ≡ drop depth new ++ l ∷ [] = ap (λ (x : List Level). drop depth x) e ∙ drop-append-le depth new (l ∷ []) deep in
    record {
      deep = deep;
      fewer = n;
      split_ = s;
      front = sym (ap (λ (x : List Level). take depth x) e ∙ take-append-le depth new (l ∷ []) deep);
      levels = λ a. last_level p (drop depth new) l (subst (AreLevels p) s a);
    }
