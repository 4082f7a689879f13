-- Trees in pages.
use Rattle.std.proofs.Common.{◌≡◌, ℕ, ◌+◌, ◌-◌, ◌%◌, ◌<◌, ◌≤◌, Bool, true, false, List, [], ◌∷◌, ◌++◌, length, map, refl, sym, ◌∙◌, ap, arith, length-append}
use Rattle.std.proofs.lemmas.List.{length-map}
use Rattle.std.proofs.lemmas.Bool.Decides.{nat_tests}
use Rattle.std.specs.Prelude.{if◌then◌else◌, nat_lt, ◌==◌}
use Rattle.std.specs.List.{AllByRecursion}
use Rattle.bti_nodes.specs.declared.node.Child.{Child}
use Rattle.bti_nodes.specs.declared.outline.Outline.{Outline}
use Rattle.bti_nodes.specs.Spelling.{Parts, node_weight, outline_by, outline_size, distant, greatest, first_letter, last_letter, letter_of}
use Rattle.bti_nodes.proofs.Sizes.{size_is_length, size_some, outline_some, size_within}
use Rattle.bti_nodes.proofs.Choice.{weight_bounds}
use Rattle.page_packer.specs.Tree.{Tree, Branches, tree, end, branch, weight, weights, weight_here, letters, unplaced}
use Rattle.page_packer.specs.Layout.{lay, lay_under, packed, packed_under, light, gap, node_at_place, seen_from}
use Rattle.page_packer.specs.Pages.{Span, InPage, packed_nodes, packed_nodes_under, packed_subtrees, packed_subtrees_under, laid_nodes, laid_nodes_under, light_subtrees, light_subtrees_under}
use Rattle.page_packer.specs.Sound.{Ascend, Sound, SoundUnder}
use Rattle.page_packer.specs.declared.work.Stood.{Stood}

both : (xs ys : List Span) → AllByRecursion InPage xs → AllByRecursion InPage ys → AllByRecursion InPage (xs ++ ys)
both [] ys a b = b
both (x ∷ xs) ys a b = (a.0, both xs ys a.1 b)

-- children that stand between two positions
abbrev pub Between : ℕ → ℕ → List Stood → Type 0
Between low high [] = Unit {0}
Between low high (c ∷ cs) = (low ≤ c.position) × (c.position < high) × Between low high cs

pub wider : (low low' high high' : ℕ) (cs : List Stood) → low' ≤ low → high ≤ high' → Between low high cs → Between low' high' cs
wider low low' high high' [] a b h = tt
wider low low' high high' (c ∷ cs) a b h = (omega (arith, h.0), omega (arith, h.1), wider low low' high high' cs a b h.2)

pub near : (low at : ℕ) (cs : List Stood) → Between low at cs → greatest (map (seen_from at) cs) ≤ at - low
near low at [] h = omega arith
near low at (c ∷ cs) h = let n = near low at cs h.2 in omega (arith, h.0, h.1, n)

-- a node's weight doesn't name where its children stand
abbrev pub SameLetters : Branches → List Stood → Type 0
SameLetters end [] = Unit {0}
SameLetters end (c ∷ cs) = ⊥
SameLetters (branch b t bs) [] = ⊥
SameLetters (branch b t bs) (c ∷ cs) = (b ≡ c.byte) × SameLetters bs cs

-- what the choice of a type sees where each distance is 4,095, by the bytes alone
abbrev first_of : List ℕ → ℕ
first_of [] = 0
first_of (b ∷ bs) = b

abbrev last_of : List ℕ → ℕ
last_of [] = 0
last_of (b ∷ []) = b
last_of (b ∷ c ∷ bs) = last_of (c ∷ bs)

first_is : (cs : List Child) → first_letter cs ≡ first_of (map letter_of cs)
first_is [] = refl
first_is (c ∷ cs) = refl

last_is : (cs : List Child) → last_letter cs ≡ last_of (map letter_of cs)
last_is [] = refl
last_is (c ∷ []) = refl
last_is (c ∷ d ∷ cs) = last_is (d ∷ cs)

abbrev far_outline : ℕ → ℕ → ℕ → ℕ → Outline
far_outline n c f l = record { payload = n; count = c; first = f; last = l; greatest = if c == 0 then 0 else 4095 }

far_is : (n : ℕ) (cs : List Child) → distant (outline_by n cs) ≡ far_outline n (length (map letter_of cs)) (first_of (map letter_of cs)) (last_of (map letter_of cs))
far_is n cs =
    ap (λ c. far_outline n c (first_letter cs) (last_letter cs)) (sym (length-map cs letter_of)) ∙ ap (λ f. far_outline n (length (map letter_of cs)) f (last_letter cs)) (first_is cs)
    ∙ ap (λ l. far_outline n (length (map letter_of cs)) (first_of (map letter_of cs)) l) (last_is cs)

pub seen_letters : (bs : Branches) (cs : List Stood) (at : ℕ) → SameLetters bs cs → map letter_of (map (seen_from at) cs) ≡ letters bs
seen_letters end [] at h = refl
seen_letters end (c ∷ cs) at h = absurd h
seen_letters (branch b t bs) [] at h = absurd h
seen_letters (branch b t bs) (c ∷ cs) at h = ap (λ x. x ∷ map letter_of (map (seen_from at) cs)) (sym h.0) ∙ ap (λ l. b ∷ l) (seen_letters bs cs at h.1)

unplaced_letters : (ls : List ℕ) → map letter_of (map unplaced ls) ≡ ls
unplaced_letters [] = refl
unplaced_letters (l ∷ ls) = ap (λ x. l ∷ x) (unplaced_letters ls)

pub far_by : (n : ℕ) (bs : Branches) (cs : List Child) → map letter_of cs ≡ letters bs → distant (outline_by n cs) ≡ distant (outline_by n (map unplaced (letters bs)))
far_by n bs cs e =
    far_is n cs ∙ ap (λ ls. far_outline n (length ls) (first_of ls) (last_of ls)) (e ∙ sym (unplaced_letters (letters bs))) ∙ sym (far_is n (map unplaced (letters bs)))

pub packed_letters : (bs : Branches) (p : ℕ) → SameLetters bs (packed_under bs p).children
packed_letters end p = tt
packed_letters (branch b t bs) p = (refl, packed_letters bs (p + length (packed t p).bytes))

-- a node alone
node_len : (q : List ℕ) (bs : Branches) (cs : List Stood) (low at : ℕ) → SameLetters bs cs → Between low at cs → at - low ≤ 4095 → length (node_at_place q cs at) ≤ weight_here q bs
node_len q bs cs low at same between close =
    let parts : Parts = record { payload = q; children = map (seen_from at) cs } in
    let e : node_weight parts ≡ weight_here q bs = ap outline_size (far_by (length q) bs (map (seen_from at) cs) (seen_letters bs cs at same)) in
    omega (arith, size_is_length parts, weight_bounds parts (omega (arith, near low at cs between)), e)

pub node_some : (q : List ℕ) (cs : List Stood) (at : ℕ) → 1 ≤ length (node_at_place q cs at)
node_some q cs at =
    let parts : Parts = record { payload = q; children = map (seen_from at) cs } in
    omega (arith, size_is_length parts, size_some parts)

weight_one : (n : ℕ) (bs : Branches) → 1 ≤ outline_size (distant (outline_by n (map unplaced (letters bs))))
weight_one n bs = outline_some _

weight_some : (q : List ℕ) (bs : Branches) → 1 ≤ weight_here q bs
weight_some q bs = weight_one (length q) bs

mutual
  pub packed_len : (t : Tree) (p : ℕ) → weight t ≤ 4096 → length (packed t p).bytes ≤ weight t
  packed_len (tree q bs) p h =
      let some = weight_some q bs in
      let under = packed_under bs p in
      let u = under_len bs p (omega (arith, some)) in
      let n = node_len q bs under.children p (p + length under.bytes) (packed_letters bs p) (under_between bs p) (omega (arith, u, some)) in
      omega (arith, u, n, length-append under.bytes (node_at_place q under.children (p + length under.bytes)))

  pub under_len : (bs : Branches) (p : ℕ) → weights bs ≤ 4096 → length (packed_under bs p).bytes ≤ weights bs
  under_len end p h = omega arith
  under_len (branch b t bs) p h =
      let first = packed t p in
      let rest = packed_under bs (p + length first.bytes) in
      let a = packed_len t p (omega arith) in
      let c = under_len bs (p + length first.bytes) (omega arith) in
      omega (arith, a, c, length-append first.bytes rest.bytes)

  pub under_between : (bs : Branches) (p : ℕ) → Between p (p + length (packed_under bs p).bytes) (packed_under bs p).children
  under_between end p = tt
  under_between (branch b t bs) p =
      let first = packed t p in
      let next = p + length first.bytes in
      let rest = packed_under bs next in
      let root = root_between t p in
      let len = length-append first.bytes rest.bytes in
      (root.0, omega (arith, root.1, len), wider next p (next + length rest.bytes) _ rest.children (omega arith) (omega (arith, len)) (under_between bs next))

  pub root_between : (t : Tree) (p : ℕ) → (p ≤ (packed t p).root) × ((packed t p).root < p + length (packed t p).bytes)
  root_between (tree q bs) p =
      let under = packed_under bs p in
      let at = p + length under.bytes in
      (omega arith, omega (arith, length-append under.bytes (node_at_place q under.children at), node_some q under.children at))

-- a part of what lies in a page
pub part_first : (p n m : ℕ) → p % 4096 + (n + m) ≤ 4096 → p % 4096 + n ≤ 4096
part_first p n m h = omega arith

pub part_rest : (p n m : ℕ) → p % 4096 + (n + m) ≤ 4096 → (p + n) % 4096 + m ≤ 4096
part_rest p n m h = omega arith

mutual
  nodes_in : (t : Tree) (p : ℕ) → p % 4096 + length (packed t p).bytes ≤ 4096 → AllByRecursion InPage (packed_nodes t p)
  nodes_in (tree q bs) p h =
      let under = packed_under bs p in
      let at = p + length under.bytes in
      let node = node_at_place q under.children at in
      let whole : p % 4096 + (length under.bytes + length node) ≤ 4096 = omega (arith, length-append under.bytes node, h) in
      both (packed_nodes_under bs p) _ (nodes_in_under bs p (part_first p (length under.bytes) (length node) whole)) (part_rest p (length under.bytes) (length node) whole, tt)

  nodes_in_under : (bs : Branches) (p : ℕ) → p % 4096 + length (packed_under bs p).bytes ≤ 4096 → AllByRecursion InPage (packed_nodes_under bs p)
  nodes_in_under end p h = tt
  nodes_in_under (branch b t bs) p h =
      let first = packed t p in
      let next = p + length first.bytes in
      let rest = packed_under bs next in
      let whole : p % 4096 + (length first.bytes + length rest.bytes) ≤ 4096 = omega (arith, length-append first.bytes rest.bytes, h) in
      both (packed_nodes t p) (packed_nodes_under bs next) (nodes_in t p (part_first p (length first.bytes) (length rest.bytes) whole)) (nodes_in_under bs next (part_rest p (length first.bytes) (length rest.bytes) whole))

mutual
  subtrees_in : (t : Tree) (p : ℕ) → p % 4096 + length (packed t p).bytes ≤ 4096 → AllByRecursion InPage (packed_subtrees t p)
  subtrees_in (tree q bs) p h =
      let under = packed_under bs p in
      let at = p + length under.bytes in
      let node = node_at_place q under.children at in
      let whole : p % 4096 + (length under.bytes + length node) ≤ 4096 = omega (arith, length-append under.bytes node, h) in
      both (packed_subtrees_under bs p) _ (subtrees_in_under bs p (part_first p (length under.bytes) (length node) whole)) (h, tt)

  subtrees_in_under : (bs : Branches) (p : ℕ) → p % 4096 + length (packed_under bs p).bytes ≤ 4096 → AllByRecursion InPage (packed_subtrees_under bs p)
  subtrees_in_under end p h = tt
  subtrees_in_under (branch b t bs) p h =
      let first = packed t p in
      let next = p + length first.bytes in
      let rest = packed_under bs next in
      let whole : p % 4096 + (length first.bytes + length rest.bytes) ≤ 4096 = omega (arith, length-append first.bytes rest.bytes, h) in
      both (packed_subtrees t p) (packed_subtrees_under bs next) (subtrees_in t p (part_first p (length first.bytes) (length rest.bytes) whole)) (subtrees_in_under bs next (part_rest p (length first.bytes) (length rest.bytes) whole))

gap_by : (b : Bool) (p n : ℕ) → nat_lt 4096 (p % 4096 + n) ≡ b → n ≤ 4096 → (p + (if b then 4096 - p % 4096 else 0)) % 4096 + n ≤ 4096
gap_by true p n e h = omega arith
gap_by false p n e h = grind (arith, nat_tests)

-- behind the gap n bytes lie in one page
behind_gap : (p n : ℕ) → n ≤ 4096 → (p + gap p n) % 4096 + n ≤ 4096
behind_gap p n h = gap_by (nat_lt 4096 (p % 4096 + n)) p n refl h

pub light_means : (t : Tree) → light t ≡ true → weight t ≤ 4096
light_means t h = grind (arith, nat_tests)

pub light_in_page : (t : Tree) (p : ℕ) → light t ≡ true → (p + gap p (weight t)) % 4096 + length (packed t (p + gap p (weight t))).bytes ≤ 4096
light_in_page t p h =
    let w = light_means t h in
    omega (arith, behind_gap p (weight t) w, packed_len t (p + gap p (weight t)) w)

chosen_spans : (b : Bool) (xs ys : List Span) → (b ≡ true → AllByRecursion InPage xs) → AllByRecursion InPage ys → AllByRecursion InPage (if b then xs else ys)
chosen_spans true xs ys a b = a refl
chosen_spans false xs ys a b = b

mutual
  pub subtrees_in_pages : (t : Tree) (p : ℕ) → AllByRecursion InPage (light_subtrees t p)
  subtrees_in_pages (tree q bs) p =
      chosen_spans (light (tree q bs)) (packed_subtrees (tree q bs) (p + gap p (weight (tree q bs)))) (light_subtrees_under bs p)
      (λ h. subtrees_in (tree q bs) (p + gap p (weight (tree q bs))) (light_in_page (tree q bs) p h)) (subtrees_in_pages_under bs p)

  subtrees_in_pages_under : (bs : Branches) (p : ℕ) → AllByRecursion InPage (light_subtrees_under bs p)
  subtrees_in_pages_under end p = tt
  subtrees_in_pages_under (branch b t bs) p =
      both (light_subtrees t p) (light_subtrees_under bs (p + length (lay t p).bytes)) (subtrees_in_pages t p) (subtrees_in_pages_under bs (p + length (lay t p).bytes))

pub laid_letters : (bs : Branches) (p : ℕ) → SameLetters bs (lay_under bs p).children
laid_letters end p = tt
laid_letters (branch b t bs) p = (refl, laid_letters bs (p + length (lay t p).bytes))

pub few : (low at : ℕ) (bs : Branches) (cs : List Stood) → low ≤ 256 → Ascend low bs → SameLetters bs cs → low + length (map (seen_from at) cs) ≤ 256
few low at end [] l a s = omega arith
few low at end (c ∷ cs) l a s = absurd s
few low at (branch b t bs) [] l a s = absurd s
few low at (branch b t bs) (c ∷ cs) l a s = let rest = few (b + 1) at bs cs (omega (arith, a.1)) a.2 s.1 in omega (arith, rest, a.0)

pub last_below : (low at : ℕ) (bs : Branches) (cs : List Stood) → Ascend low bs → SameLetters bs cs → last_letter (map (seen_from at) cs) < 256
last_below low at end [] a s = omega arith
last_below low at end (c ∷ cs) a s = absurd s
last_below low at (branch b t bs) [] a s = absurd s
last_below low at (branch b t end) (c ∷ []) a s = omega (arith, a.1, s.0)
last_below low at (branch b t end) (c ∷ d ∷ cs) a s = absurd s.1
last_below low at (branch b t (branch b' t' bs)) (c ∷ []) a s = absurd s.1
last_below low at (branch b t (branch b' t' bs)) (c ∷ d ∷ cs) a s = last_below (b + 1) at (branch b' t' bs) (d ∷ cs) a.2 s.1

pub node_within : (q : List ℕ) (bs : Branches) (cs : List Stood) (at : ℕ) → length q ≤ 7 → Ascend 0 bs → SameLetters bs cs → length (node_at_place q cs at) ≤ 4096
node_within q bs cs at short a s =
    let parts : Parts = record { payload = q; children = map (seen_from at) cs } in
    omega (arith, size_is_length parts, size_within parts short (omega (arith, few 0 at bs cs (omega arith) a s)) (last_below 0 at bs cs a s))

room_by : (b : Bool) (p n m : ℕ) → nat_lt 4096 (p % 4096 + n) ≡ b → m ≤ 4096 → (b ≡ false → m ≡ n) → (p + (if b then 4096 - p % 4096 else 0)) % 4096 + m ≤ 4096
room_by true p n m e h k = omega arith
room_by false p n m e h k = let same = k refl in grind (arith, nat_tests)

none_at : (b : Bool) (at : ℕ) → b ≡ false → at + (if b then 4096 - at % 4096 else 0) ≡ at
none_at true at e = cc
none_at false at e = omega arith

-- a heavy node behind its room lies in one page
pub node_in_page : (q : List ℕ) (cs : List Stood) (at : ℕ) → ((i : ℕ) → length (node_at_place q cs i) ≤ 4096) → (at + gap at (length (node_at_place q cs at))) % 4096 + length (node_at_place q cs (at + gap at (length (node_at_place q cs at)))) ≤ 4096
node_in_page q cs at fits =
    let n = length (node_at_place q cs at) in
    let b = nat_lt 4096 (at % 4096 + n) in
    room_by b at n (length (node_at_place q cs (at + gap at n))) refl (fits (at + gap at n)) (λ e. ap (λ i. length (node_at_place q cs i)) (none_at b at e))

mutual
  pub nodes_in_pages : (t : Tree) (p : ℕ) → Sound t → AllByRecursion InPage (laid_nodes t p)
  nodes_in_pages (tree q bs) p sound =
      let under = lay_under bs p in
      let at = p + length under.bytes in
      let fits : (i : ℕ) → length (node_at_place q under.children i) ≤ 4096 = λ i. node_within q bs under.children i sound.0 sound.1 (laid_letters bs p) in
      chosen_spans (light (tree q bs)) (packed_nodes (tree q bs) (p + gap p (weight (tree q bs)))) _
      (λ h. nodes_in (tree q bs) (p + gap p (weight (tree q bs))) (light_in_page (tree q bs) p h))
      (both (laid_nodes_under bs p) _ (nodes_in_pages_under bs p sound.2) (node_in_page q under.children at fits, tt))

  nodes_in_pages_under : (bs : Branches) (p : ℕ) → SoundUnder bs → AllByRecursion InPage (laid_nodes_under bs p)
  nodes_in_pages_under end p sound = tt
  nodes_in_pages_under (branch b t bs) p sound =
      both (laid_nodes t p) (laid_nodes_under bs (p + length (lay t p).bytes)) (nodes_in_pages t p sound.0) (nodes_in_pages_under bs (p + length (lay t p).bytes) sound.2)
