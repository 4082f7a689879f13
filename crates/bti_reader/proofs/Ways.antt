-- Ways down to a path, which a walk holds: what is found at a node of a way is found at its first node; how a way is cut and grows.
use Rattle.std.proofs.Common.{◌≡◌, ◌≢◌, ℕ, zero, suc, ◌+◌, ◌-◌, ◌<◌, ◌≤◌, Bool, true, false, List, [], ◌∷◌, ◌++◌, ◌⊎◌, length, take, drop, get_or, Option, Some, None, Result, Ok, Err, IfOk, IfSome, inl, inr, refl, sym, ◌∙◌, ap, subst, arith}
use Rattle.std.proofs.Math.Nat.{eq-or-lt_of_le}
use Rattle.std.proofs.Math.ListN.{get_or-append}
use Rattle.std.proofs.Math.Seq.{drop-cons, get_or-append_seam}
use Rattle.std.proofs.lemmas.Bool.Decides.{nat_tests}
use Rattle.std.proofs.lemmas.List.{drop_all, get_or-take, length-append, length-take-le}
use Rattle.std.specs.Prelude.{if◌then◌else◌, ◌==◌}
use Rattle.outside.specs.declared.store.Part.{Part}
use Rattle.bti_nodes.specs.declared.node.Child.{Child}
use Rattle.bti_nodes.specs.Grammar.{Node, Climbs, child_under}
use Rattle.bti_nodes.specs.Children.{child_or, any, first_child, child_above, least_child}
use Rattle.bti_nodes.specs.Trie.{Wrong, node_in}
use Rattle.data_file.specs.declared.reading.DataError.{DataError}
use Rattle.data_file.specs.declared.reading.DataError.TheVariants.{StoreFault, NoMemory, Damaged}
use Rattle.bti_reader.specs.declared.ask.Question.{Question}
use Rattle.bti_reader.specs.declared.ask.Question.TheVariants.{Ceiling, Least}
use Rattle.bti_reader.specs.declared.ask.Turn.{Turn}
use Rattle.bti_reader.specs.declared.way.PathHit.{PathHit}
use Rattle.bti_reader.specs.declared.way.Start.{Start}
use Rattle.bti_reader.specs.Searches.{Answer, asked, deeper, or_next, in_child, first_path, above_from, after_in}
use Rattle.bti_reader.specs.Steps.{turn_in, turn_of, SearchAnswers, damage_of}
use Rattle.bti_reader.specs.Walks.{deepers, path_answer, start_of, start_answer, StartIs}
use Rattle.bti_reader.specs.Ways.{IsChild, IsWay}
use Rattle.bti_reader.proofs.Sound.{sound, deeper_none, first_is_some}
use Rattle.bti_reader.proofs.Walking.{end_of_turn, next_some, under_letter, deepers_err, deepers_more, take_more}
use Rattle.bti_reader.proofs.Whole.{beside}

-- ---- children

-- the first child that passes a test stands under its byte
found_child : (p : ℕ → Bool) (low : ℕ) (cs : List (Option Child)) (c : Child) → Climbs low cs → first_child p cs ≡ Some c → (child_under c.byte cs ≡ Some c) × (low ≤ c.byte)
found_child p low [] c climbs h = cc
found_child p low (None ∷ cs) c climbs h = found_child p low cs c climbs h
found_child p low (Some x ∷ cs) c climbs h = by (λ k. found_child p (x.byte + 1) cs c climbs.1 k) (p x.byte) h
  where
    this : (t : Bool) → (x.byte == c.byte) ≡ t → x ≡ c → (if t then Some x else child_under c.byte cs) ≡ Some c
    this true e s = ap (λ (y : Child). Some y) s
    this false e s = let same : x.byte ≡ c.byte = ap (λ (y : Child). y.byte) s in absurd (grind (arith, nat_tests))

    later : (t : Bool) → (x.byte == c.byte) ≡ t → x.byte < c.byte → child_under c.byte cs ≡ Some c → (if t then Some x else child_under c.byte cs) ≡ Some c
    later true e l k = absurd (grind (arith, nat_tests))
    later false e l k = k

    by : (first_child p cs ≡ Some c → (child_under c.byte cs ≡ Some c) × (x.byte + 1 ≤ c.byte)) → (t : Bool) → child_or (if t then Some x else None) (first_child p cs) ≡ Some c
        → (child_under c.byte (Some x ∷ cs) ≡ Some c) × (low ≤ c.byte)
    by rest true h = let same : x ≡ c = cc in (this (x.byte == c.byte) refl same, subst (λ (y : Child). low ≤ y.byte) same climbs.0)
    by rest false h = let more = rest h in (later (x.byte == c.byte) refl (omega (arith, more.1)) more.0, omega (arith, more.1, climbs.0))

child_of_node : (p : ℕ → Bool) (file : List ℕ) (at : ℕ) (n : Node) (c : Child) → node_in file at ≡ Ok n → first_child p n.places ≡ Some c → IsChild file at c.byte (at - c.distance)
child_of_node p file at n c begins is = record {
  node = n;
  child = c;
  begins = begins;
  stands = (found_child p 0 n.places c (sound file at n begins).climbs is).0;
  there = refl;
}

pub least_stands : (part : Part) (file : List ℕ) (passed at : ℕ) (t : Turn) (c : Child) → SearchAnswers (Ok t) (turn_in part Least passed at (node_in file at)) → t.child ≡ Some c → IsChild file at c.byte (at - c.distance)
least_stands part file passed at t c p k = by (node_in file at) refl p
  where
    by : (r : Result Node Wrong) → node_in file at ≡ r → SearchAnswers (Ok t) (turn_in part Least passed at r) → IsChild file at c.byte (at - c.distance)
    by (Err w) e p = cc
    by (Ok n) e p = let same : turn_of part Least passed at n ≡ t = cc in child_of_node any file at n c e (ap (λ (t : Turn). t.child) same ∙ k)

pub beside_stands : (part : Part) (file : List ℕ) (passed at b : ℕ) (t : Turn) (c : Child) → SearchAnswers (Ok t) (turn_in part (Ceiling b) passed at (node_in file at)) → t.beside ≡ Some c → IsChild file at c.byte (at - c.distance)
beside_stands part file passed at b t c p k = by (node_in file at) refl p
  where
    by : (r : Result Node Wrong) → node_in file at ≡ r → SearchAnswers (Ok t) (turn_in part (Ceiling b) passed at r) → IsChild file at c.byte (at - c.distance)
    by (Err w) e p = cc
    by (Ok n) e p = let same : turn_of part (Ceiling b) passed at n ≡ t = cc in child_of_node _ file at n c e (ap (λ (t : Turn). t.beside) same ∙ k)

-- ---- ways

same_child : (file : List ℕ) (at b to at2 b2 to2 : ℕ) → at2 ≡ at → b2 ≡ b → to2 ≡ to → IsChild file at b to → IsChild file at2 b2 to2
same_child file at b to at2 b2 to2 e f g c = rw (e, f, g) c

-- a way and a child of its last node are a way
pub way_longer : (file path nodes : List ℕ) (b to : ℕ) → length nodes ≡ length path + 1 → IsWay file path nodes → IsChild file (get_or nodes (length path) 0) b to → IsWay file (path ++ b ∷ []) (nodes ++ to ∷ [])
way_longer file path nodes b to count way c i l = by (eq-or-lt_of_le (omega (arith, length-append path (b ∷ []), l)))
  where
    by : ((i ≡ length path) ⊎ (i < length path)) → IsChild file (get_or (nodes ++ to ∷ []) i 0) (get_or (path ++ b ∷ []) i 0) (get_or (nodes ++ to ∷ []) (i + 1) 0)
    by (inl e) =
        let more : i + 1 ≡ length nodes = omega (arith, count) in
        same_child file (get_or nodes (length path) 0) b to _ _ _
        (get_or-append nodes (to ∷ []) 0 i (omega (arith, count)) ∙ ap (λ k. get_or nodes k 0) e)
        (ap (λ k. get_or (path ++ b ∷ []) k 0) e ∙ get_or-append_seam path b [] 0)
        (ap (λ k. get_or (nodes ++ to ∷ []) k 0) more ∙ get_or-append_seam nodes to [] 0)
        c
    by (inr k) =
        same_child file (get_or nodes i 0) (get_or path i 0) (get_or nodes (i + 1) 0) _ _ _
        (get_or-append nodes (to ∷ []) 0 i (omega (arith, count)))
        (get_or-append path (b ∷ []) 0 i k)
        (get_or-append nodes (to ∷ []) 0 (i + 1) (omega (arith, count)))
        (way i k)

-- a way and the child of its last node, which was put behind the others
pub grown : (file path nodes longer : List ℕ) (at b to : ℕ) → length nodes ≡ length path → longer ≡ path ++ b ∷ [] → IsWay file path (nodes ++ at ∷ []) → IsChild file at b to → IsWay file longer ((nodes ++ at ∷ []) ++ to ∷ [])
grown file path nodes longer at b to count e way c =
    let last : get_or (nodes ++ at ∷ []) (length path) 0 ≡ at = ap (get_at (nodes ++ at ∷ [])) (sym count) ∙ get_or-append_seam nodes at [] 0 in
    subst (λ (l : List ℕ). IsWay file l ((nodes ++ at ∷ []) ++ to ∷ [])) (sym e)
    (way_longer file path (nodes ++ at ∷ []) b to (length-append nodes (at ∷ []) ∙ ap (λ k. k + 1) count) way (same_child file at b to _ _ _ last refl refl c))
  where
    get_at : List ℕ → ℕ → ℕ
    get_at xs k = get_or xs k 0

-- the beginning of a way is one
pub way_cut : (file path nodes : List ℕ) (n : ℕ) → n ≤ length path → IsWay file path nodes → IsWay file (take n path) (take (n + 1) nodes)
way_cut file path nodes n m way i l =
    let few : i < n = omega (arith, length-take-le n path m, l) in
    same_child file (get_or nodes i 0) (get_or path i 0) (get_or nodes (i + 1) 0) _ _ _
    (get_or-take (n + 1) nodes i 0 (omega (arith, few)))
    (get_or-take n path i 0 few)
    (get_or-take (n + 1) nodes (i + 1) 0 (omega (arith, few)))
    (way i (omega (arith, few, m)))

-- the search at a node of a way, by that at the next
pub level : (file : List ℕ) (at b to : ℕ) (key : List ℕ) (c : IsChild file at b to)
    → above_from false file at (b ∷ key) ≡ or_next (deeper b (above_from false file to key)) (in_child (child_above b c.node.places) at (first_path file) (Ok None))
level file at b to key c =
    beside file at c.node b c.child (in_child (child_above b c.node.places) at (first_path file) (Ok None)) c.begins c.stands (under_letter b c.node.places c.child c.stands) refl key
    ∙ ap (λ x. or_next (deeper b (above_from false file x key)) (in_child (child_above b c.node.places) at (first_path file) (Ok None))) (sym c.there)

-- where nothing is found at the next node, the search goes on beside it
pub level_none : (part : Part) (file : List ℕ) (passed at b to : ℕ) (key : List ℕ) (t : Turn) → IsChild file at b to → above_from false file to key ≡ Ok None → SearchAnswers (Ok t) (turn_in part (Ceiling b) passed at (node_in file at))
    → above_from false file at (b ∷ key) ≡ in_child t.beside at (first_path file) (Ok None)
level_none part file passed at b to key t c none p =
    let is : turn_in part (Ceiling b) passed at (Ok c.node) ≡ Ok t = ap (turn_in part (Ceiling b) passed at) (sym c.begins) ∙ p in
    let same : turn_of part (Ceiling b) passed at c.node ≡ t = cc in
    level file at b to key c
    ∙ ap (λ x. or_next (deeper b x) (in_child (child_above b c.node.places) at (first_path file) (Ok None))) none
    ∙ ap (λ (t : Turn). in_child t.beside at (first_path file) (Ok None)) same

-- what is found at a node of the way is found at the first, behind the bytes between
pub lift : (file path nodes : List ℕ) → IsWay file path nodes → (j : ℕ) → j ≤ length path → (x : Answer) → x ≢ Ok None → above_from false file (get_or nodes j 0) (drop j path) ≡ x
    → above_from false file (get_or nodes 0 0) path ≡ deepers (take j path) x
lift file path nodes way zero l x some h = h
lift file path nodes way (suc j) l x some h =
    let b = get_or path j 0 in
    let c = way j (omega arith) in
    let next : j + 1 ≡ suc j = omega arith in
    let cut : drop j path ≡ b ∷ drop (suc j) path = drop-cons path j 0 (omega arith) in
    let deep : above_from false file (get_or nodes (j + 1) 0) (drop (suc j) path) ≡ x = subst (λ k. above_from false file (get_or nodes k 0) (drop (suc j) path) ≡ x) (sym next) h in
    let found : deeper b x ≢ Ok None = λ e. some (deeper_none b x e) in
    let here : above_from false file (get_or nodes j 0) (drop j path) ≡ deeper b x =
    ap (above_from false file (get_or nodes j 0)) cut ∙ level file (get_or nodes j 0) b (get_or nodes (j + 1) 0) (drop (suc j) path) c
    ∙ ap (λ y. or_next (deeper b y) (in_child (child_above b c.node.places) (get_or nodes j 0) (first_path file) (Ok None))) deep
    ∙ next_some (deeper b x) (in_child (child_above b c.node.places) (get_or nodes j 0) (first_path file) (Ok None)) found in
    lift file path nodes way j (omega arith) (deeper b x) found here
    ∙ sym (deepers_more (take j path) b x)
    ∙ ap (λ l. deepers l x) (take_more j b path (drop (suc j) path) cut ∙ ap (λ k. take k path) next)

-- both lists were the same length, and an item was put behind each
pub both_longer : (xs ys longer_xs longer_ys : List ℕ) (x y : ℕ) → length xs ≡ length ys → longer_xs ≡ xs ++ x ∷ [] → longer_ys ≡ ys ++ y ∷ [] → length longer_xs ≡ length longer_ys
both_longer xs ys longer_xs longer_ys x y h e f = ap length e ∙ length-append xs (x ∷ []) ∙ ap (λ n. n + 1) h ∙ sym (length-append ys (y ∷ [])) ∙ sym (ap length f)

-- a way's first node stays the first
pub first_stays : (xs : List ℕ) (y z : ℕ) → get_or ((xs ++ y ∷ []) ++ z ∷ []) 0 0 ≡ get_or (xs ++ y ∷ []) 0 0
first_stays xs y z = get_or-append (xs ++ y ∷ []) (z ∷ []) 0 0 (omega (arith, length-append xs (y ∷ [])))

-- the way down to a start: the beginning of a way, and a child there
pub start_way : (file path nodes taken reached : List ℕ) (s : Start) → length nodes ≡ length path + 1 → s.passed ≤ length path → taken ≡ take s.passed path ++ s.byte ∷ [] → reached ≡ take (s.passed + 1) nodes
    → IsWay file path nodes → IsChild file (get_or nodes s.passed 0) s.byte s.start → IsWay file taken (reached ++ s.start ∷ [])
start_way file path nodes taken reached s count l e f way c =
    let p = s.passed in
    let front : length (take p path) ≡ p = length-take-le p path l in
    let above : length (take (p + 1) nodes) ≡ p + 1 = length-take-le (p + 1) nodes (omega (arith, count, l)) in
    let last : get_or (take (p + 1) nodes) (length (take p path)) 0 ≡ get_or nodes p 0 =
    ap (λ k. get_or (take (p + 1) nodes) k 0) front ∙ get_or-take (p + 1) nodes p 0 (omega arith) in
    subst (λ (l : List ℕ). IsWay file l (reached ++ s.start ∷ [])) (sym e)
    (subst (λ (l : List ℕ). IsWay file (take p path ++ s.byte ∷ []) (l ++ s.start ∷ [])) (sym f)
    (way_longer file (take p path) (take (p + 1) nodes) s.byte s.start (above ∙ ap (λ n. n + 1) (sym front)) (way_cut file path nodes p l way) (same_child file (get_or nodes p 0) s.byte s.start _ _ _ last refl refl c)))

pub start_count : (path nodes taken reached : List ℕ) (s : Start) → length nodes ≡ length path + 1 → s.passed ≤ length path → taken ≡ take s.passed path ++ s.byte ∷ [] → reached ≡ take (s.passed + 1) nodes → length reached ≡ length taken
start_count path nodes taken reached s count l e f =
    let p = s.passed in
    ap length f ∙ length-take-le (p + 1) nodes (omega (arith, count, l)) ∙ ap (λ n. n + 1) (sym (length-take-le p path l)) ∙ sym (length-append (take p path) (s.byte ∷ [])) ∙ sym (ap length e)

pub start_root : (path nodes reached : List ℕ) (s : Start) → length nodes ≡ length path + 1 → s.passed ≤ length path → reached ≡ take (s.passed + 1) nodes → get_or (reached ++ s.start ∷ []) 0 0 ≡ get_or nodes 0 0
start_root path nodes reached s count l f =
    let p = s.passed in
    ap (λ xs. get_or (xs ++ s.start ∷ []) 0 0) f
    ∙ get_or-append (take (p + 1) nodes) (s.start ∷ []) 0 0 (omega (arith, length-take-le (p + 1) nodes (omega (arith, count, l))))
    ∙ get_or-take (p + 1) nodes 0 0 (omega arith)

-- what holds of any answer holds where a path is found
pub where_found : {A E : Type 0} (r : Result (Option A) E) (x y z : ℕ) → IfOk r (λ _. x ≡ y) → y ≡ z → IfOk r (λ hit. IfSome hit (λ _. x ≡ z))
where_found (Err e) x y z h k = tt
where_found (Ok None) x y z h k = tt
where_found (Ok (Some a)) x y z h k = h ∙ k

-- ---- where the next paths begin

-- what is found below a child of a node of a way is what comes after the way's path
pub start_found : (file path nodes : List ℕ) (j : ℕ) (c : Child) → IsWay file path nodes → j ≤ length path
    → above_from false file (get_or nodes j 0) (drop j path) ≡ in_child (Some c) (get_or nodes j 0) (first_path file) (Ok None)
    → start_answer file path (Some (start_of c (get_or nodes j 0) j)) ≡ after_in file (get_or nodes 0 0) path
unfolding after_in
start_found file path nodes j c way l h =
    let first = first_path file (get_or nodes j 0 - c.distance) in
    let found : deeper c.byte first ≢ Ok None = λ e. first_is_some file (get_or nodes j 0 - c.distance) (deeper_none c.byte first e) in
    deepers_more (take j path) c.byte first ∙ sym (lift file path nodes way j l (deeper c.byte first) found h)

-- at the last node of a way nothing of its path is left
last_left : (file path nodes : List ℕ) (a : Answer) → above_from false file (get_or nodes (length path) 0) [] ≡ a → above_from false file (get_or nodes (length path) 0) (drop (length path) path) ≡ a
last_left file path nodes a h = ap (above_from false file (get_or nodes (length path) 0)) (drop_all (length path) path (omega arith)) ∙ h

pub below_found : (part : Part) (file path nodes : List ℕ) (passed : ℕ) (t : Turn) (c : Child) → IsWay file path nodes → SearchAnswers (Ok t) (turn_in part Least passed (get_or nodes (length path) 0) (node_in file (get_or nodes (length path) 0))) → t.child ≡ Some c
    → start_answer file path (Some (start_of c (get_or nodes (length path) 0) (length path))) ≡ after_in file (get_or nodes 0 0) path
below_found part file path nodes passed t c way p k =
    let last = get_or nodes (length path) 0 in
    start_found file path nodes (length path) c way (omega arith)
    (last_left file path nodes _ (end_of_turn part file passed last t p ∙ ap (λ o. in_child o last (first_path file) (Ok None)) k))

pub none_below : (part : Part) (file path nodes : List ℕ) (passed : ℕ) (t : Turn) → SearchAnswers (Ok t) (turn_in part Least passed (get_or nodes (length path) 0) (node_in file (get_or nodes (length path) 0))) → t.child ≡ None
    → above_from false file (get_or nodes (length path) 0) (drop (length path) path) ≡ Ok None
none_below part file path nodes passed t p k =
    let last = get_or nodes (length path) 0 in
    last_left file path nodes (Ok None) (end_of_turn part file passed last t p ∙ ap (λ o. in_child o last (first_path file) (Ok None)) k)

-- one step up, where nothing was found below
step_up : (part : Part) (file path nodes : List ℕ) (j passed : ℕ) (t : Turn) → IsWay file path nodes → j < length path → above_from false file (get_or nodes (j + 1) 0) (drop (j + 1) path) ≡ Ok None
    → SearchAnswers (Ok t) (turn_in part (Ceiling (get_or path j 0)) passed (get_or nodes j 0) (node_in file (get_or nodes j 0)))
    → above_from false file (get_or nodes j 0) (drop j path) ≡ in_child t.beside (get_or nodes j 0) (first_path file) (Ok None)
step_up part file path nodes j passed t way l none p =
    let next : j + 1 ≡ suc j = omega arith in
    ap (above_from false file (get_or nodes j 0)) (drop-cons path j 0 l ∙ ap (λ k. get_or path j 0 ∷ drop k path) (sym next))
    ∙ level_none part file passed (get_or nodes j 0) (get_or path j 0) (get_or nodes (j + 1) 0) (drop (j + 1) path) t (way j l) none p

pub beside_found : (part : Part) (file path nodes : List ℕ) (j passed : ℕ) (t : Turn) (c : Child) → IsWay file path nodes → j < length path → above_from false file (get_or nodes (j + 1) 0) (drop (j + 1) path) ≡ Ok None
    → SearchAnswers (Ok t) (turn_in part (Ceiling (get_or path j 0)) passed (get_or nodes j 0) (node_in file (get_or nodes j 0))) → t.beside ≡ Some c
    → start_answer file path (Some (start_of c (get_or nodes j 0) j)) ≡ after_in file (get_or nodes 0 0) path
beside_found part file path nodes j passed t c way l none p k =
    start_found file path nodes j c way (omega (arith, l)) (step_up part file path nodes j passed t way l none p ∙ ap (λ o. in_child o (get_or nodes j 0) (first_path file) (Ok None)) k)

pub none_beside : (part : Part) (file path nodes : List ℕ) (j passed : ℕ) (t : Turn) → IsWay file path nodes → j < length path → above_from false file (get_or nodes (j + 1) 0) (drop (j + 1) path) ≡ Ok None
    → SearchAnswers (Ok t) (turn_in part (Ceiling (get_or path j 0)) passed (get_or nodes j 0) (node_in file (get_or nodes j 0))) → t.beside ≡ None
    → above_from false file (get_or nodes j 0) (drop j path) ≡ Ok None
none_beside part file path nodes j passed t way l none p k =
    step_up part file path nodes j passed t way l none p ∙ ap (λ o. in_child o (get_or nodes j 0) (first_path file) (Ok None)) k

pub none_after : (file path nodes : List ℕ) → above_from false file (get_or nodes 0 0) path ≡ Ok None → start_answer file path None ≡ after_in file (get_or nodes 0 0) path
unfolding after_in
none_after file path nodes h = sym h

-- a node that doesn't begin is what the search meets
above_wrong : (file : List ℕ) (at : ℕ) (w : Wrong) (key : List ℕ) → node_in file at ≡ Err w → above_from false file at key ≡ Err w
above_wrong file at w [] e = ap (λ r. asked r (λ n. in_child (least_child n.places) at (first_path file) (Ok None))) e
above_wrong file at w (b ∷ key) e =
    ap (λ r. asked r (λ n. or_next (in_child (child_under b n.places) at (λ to. above_from false file to key) (Ok None)) (in_child (child_above b n.places) at (first_path file) (Ok None)))) e

pub way_wrong : (part : Part) (question : Question) (file path nodes : List ℕ) (j passed : ℕ) (e : DataError) → IsWay file path nodes → j ≤ length path
    → SearchAnswers {A = Turn} (Err e) (turn_in part question passed (get_or nodes j 0) (node_in file (get_or nodes j 0)))
    → StartIs part file path (Err e) (after_in file (get_or nodes 0 0) path)
unfolding after_in
way_wrong part question file path nodes j passed StoreFault way l h = tt
way_wrong part question file path nodes j passed NoMemory way l h = tt
way_wrong part question file path nodes j passed (Damaged d) way l h = by (node_in file (get_or nodes j 0)) refl h
  where
    by : (r : Result Node Wrong) → node_in file (get_or nodes j 0) ≡ r → SearchAnswers {A = Turn} (Err (Damaged d)) (turn_in part question passed (get_or nodes j 0) r)
        → SearchAnswers {A = Option PathHit} (Err (Damaged d)) (path_answer part [] (above_from false file (get_or nodes 0 0) path))
    by (Ok n) e h = cc
    by (Err w) e h =
        let found : ◌≢◌ {A = Answer} (Err w) (Ok None) = λ q. cc in
        let same : damage_of part w ≡ Damaged d = cc in
        ap (path_answer part []) (lift file path nodes way j l (Err w) found (above_wrong file (get_or nodes j 0) w (drop j path) e) ∙ deepers_err (take j path) w) ∙ ap (λ (x : DataError). Err x) same
