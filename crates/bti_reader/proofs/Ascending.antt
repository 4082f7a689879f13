-- The paths of a trie ascend.
use Rattle.std.proofs.Common.{◌≡◌, ℕ, zero, suc, ◌+◌, ◌-◌, ◌<◌, true, false, List, [], ◌∷◌, ◌++◌, map, Option, Some, None, Ok, refl, sym, ◌∙◌, ap, subst, arith}
use Rattle.std.proofs.lemmas.Cmp.{nat_list_cmp_total}
use Rattle.std.specs.Prelude.{find}
use Rattle.std.specs.List.{AllByRecursion}
use Rattle.std.specs.declared.cmp.Ordering.{Ordering}
use Rattle.std.specs.declared.cmp.Ordering.TheVariants.{Less, Equal, Greater}
use Rattle.std.specs.Ordering.{nat_cmp, ordering_then, ordering_reverse}
use Rattle.std.specs.Cmp.Lexicographic.{slice_cmp}
use Rattle.bti_nodes.specs.declared.node.Child.{Child}
use Rattle.bti_nodes.specs.Grammar.{Climbs}
use Rattle.bti_nodes.specs.Trie.{Path, longer, own, of_places, paths_by, paths}
use Rattle.bti_reader.specs.Meaning.{IsPathBefore, PathsAscend, PathsAreInOrder, first_path_of, or_path, is_above, path_above}
use Rattle.bti_reader.proofs.Split.{Go, Starts, cons_ok, none_ok, all_above, all_start}
use Rattle.bti_reader.proofs.Lists.{all_imply, cmp_same, nat_less, find_append, find_none, find_all}
use Rattle.bti_reader.proofs.Sound.{stood}
use Rattle.bti_reader.proofs.Finds.{first_path_law, searches_find}

all_map : (b : ℕ) (p : Path) (ps : List Path) → AllByRecursion (IsPathBefore p) ps → AllByRecursion (IsPathBefore (longer b p)) (map (longer b) ps)
all_map b p [] h = tt
all_map b p (q ∷ ps) h = (cmp_same b q.path p ∙ h.0, all_map b p ps h.1)

ascend_map : (b : ℕ) (ps : List Path) → PathsAscend ps → PathsAscend (map (longer b) ps)
ascend_map b [] h = tt
ascend_map b (p ∷ ps) h = (all_map b p ps h.0, ascend_map b ps h.1)

all_join : (P : Path → Type 0) (xs ys : List Path) → AllByRecursion P xs → AllByRecursion P ys → AllByRecursion P (xs ++ ys)
all_join P [] ys h k = k
all_join P (x ∷ xs) ys h k = (h.0, all_join P xs ys h.1 k)

-- all of the first paths come before all of the others
ascend_join : (xs ys : List Path) → PathsAscend xs → PathsAscend ys → AllByRecursion (λ p. AllByRecursion (IsPathBefore p) ys) xs → PathsAscend (xs ++ ys)
ascend_join [] ys h k l = k
ascend_join (x ∷ xs) ys h k l = (all_join (IsPathBefore x) xs ys h.0 l.0, ascend_join xs ys h.1 k l.1)

-- paths under a byte come before those that begin above it
before_more : (b : ℕ) (p q : Path) → Starts (λ a. b < a) q → IsPathBefore (longer b p) q
before_more b p q h = by q.path h
  where
    by : (xs : List ℕ) → Starts (λ a. b < a) (record { path = xs; node = 0; payload = [] }) → slice_cmp nat_cmp (b ∷ p.path) xs ≡ Less
    by [] h = absurd h
    by (a ∷ xs) h = ap (λ o. ordering_then o (slice_cmp nat_cmp p.path xs)) (nat_less b a h)

under_before : (b : ℕ) (ps qs : List Path) → AllByRecursion (Starts (λ a. b < a)) qs → AllByRecursion (λ p. AllByRecursion (IsPathBefore p) qs) (map (longer b) ps)
under_before b [] qs h = tt
under_before b (p ∷ ps) qs h = (all_imply (Starts (λ a. b < a)) (IsPathBefore (longer b p)) qs (λ q k. before_more b p q k) h, under_before b ps qs h)

kids_ascend : (go : Go) (position low : ℕ) (cs : List (Option Child)) (ps : List Path) → Climbs low cs → ((at : ℕ) (qs : List Path) → go at ≡ Ok qs → PathsAscend qs) → of_places go position cs ≡ Ok ps → PathsAscend ps
kids_ascend go position low [] ps climbs deep h = subst PathsAscend (sym (none_ok ps h)) tt
kids_ascend go position low (None ∷ cs) ps climbs deep h = kids_ascend go position low cs ps climbs deep h
kids_ascend go position low (Some x ∷ cs) ps climbs deep h =
    let two = cons_ok x.byte (go (position - x.distance)) (of_places go position cs) ps h in
    let rest = all_above go position x.byte (x.byte + 1) cs two.others climbs.1 (omega arith) two.rest in
    subst PathsAscend two.joined
    (ascend_join (map (longer x.byte) two.mine) two.others (ascend_map x.byte two.mine (deep (position - x.distance) two.mine two.gives)) (kids_ascend go position (x.byte + 1) cs two.others climbs.1 deep two.rest)
    (under_before x.byte two.mine two.others rest.higher))

-- the empty path comes before every other
empty_first : (p q : Path) → p.path ≡ [] → Starts (λ a. Unit {0}) q → IsPathBefore p q
empty_first p q e h = ap (λ xs. slice_cmp nat_cmp xs q.path) e ∙ by q.path h
  where
    by : (xs : List ℕ) → Starts (λ a. Unit {0}) (record { path = xs; node = 0; payload = [] }) → slice_cmp nat_cmp [] xs ≡ Less
    by [] h = absurd h
    by (a ∷ xs) h = refl

own_join : (position : ℕ) (payload : List ℕ) (qs : List Path) → AllByRecursion (Starts (λ a. Unit {0})) qs → PathsAscend qs → PathsAscend (own position payload ++ qs)
own_join position [] qs h k = k
own_join position (x ∷ xs) qs h k = (all_imply (Starts (λ a. Unit {0})) (IsPathBefore (record { path = []; node = position; payload = x ∷ xs })) qs (λ q s. empty_first (record { path = []; node = position; payload = x ∷ xs }) q refl s) h, k)

pub ascending : (f : ℕ) (file : List ℕ) (position : ℕ) (ps : List Path) → paths_by f file position ≡ Ok ps → PathsAscend ps
ascending zero file position ps h = subst PathsAscend (sym (none_ok ps h)) tt
ascending (suc f) file position ps h =
    let s = stood file position (paths_by f file) ps h in
    subst PathsAscend (sym s.joined)
    (own_join position s.node.payload s.kids (all_start (paths_by f file) position s.node.places s.kids s.gives)
    (kids_ascend (paths_by f file) position 0 s.node.places s.kids s.sound.climbs (λ at qs is. ascending f file at qs is) s.gives))

-- which paths lie above one of them
reversed : (r : Ordering) → r ≡ Less → ordering_reverse r ≡ Greater
reversed Less h = refl
reversed Equal h = cc
reversed Greater h = cc

itself : (r : Ordering) → r ≡ ordering_reverse r → r ≡ Equal
itself Less h = cc
itself Equal h = refl
itself Greater h = cc

later : (p q : Path) → IsPathBefore p q → path_above false p.path q ≡ true
later p q h = ap (is_above false) (nat_list_cmp_total.antisymm q.path p.path ∙ reversed (slice_cmp nat_cmp p.path q.path) h)

earlier : (p q : Path) → IsPathBefore q p → path_above false p.path q ≡ false
earlier p q h = ap (is_above false) h

at_itself : (p : Path) → path_above false p.path p ≡ false
at_itself p = ap (is_above false) (itself (slice_cmp nat_cmp p.path p.path) (nat_list_cmp_total.antisymm p.path p.path))

-- of the paths before p all come before it
before_it : (xs ys : List Path) (p : Path) → PathsAscend (xs ++ p ∷ ys) → AllByRecursion (λ q. path_above false p.path q ≡ false) xs
before_it [] ys p h = tt
before_it (x ∷ xs) ys p h = (earlier p x (at_p xs h.0), before_it xs ys p h.1)
  where
    at_p : (xs : List Path) → AllByRecursion (IsPathBefore x) (xs ++ p ∷ ys) → IsPathBefore x p
    at_p [] h = h.0
    at_p (y ∷ xs) h = at_p xs h.1

after_it : (xs ys : List Path) (p : Path) → PathsAscend (xs ++ p ∷ ys) → AllByRecursion (IsPathBefore p) ys
after_it [] ys p h = h.0
after_it (x ∷ xs) ys p h = after_it xs ys p h.1

next_is : (xs ys : List Path) (p : Path) → PathsAscend (xs ++ p ∷ ys) → find (path_above false p.path) (xs ++ p ∷ ys) ≡ first_path_of ys
next_is xs ys p h =
    let t = path_above false p.path in
    find_append t xs (p ∷ ys)
    ∙ ap (λ o. or_path o (find t (p ∷ ys))) (find_none t xs (before_it xs ys p h))
    ∙ find_append t (p ∷ []) ys
    ∙ ap (λ o. or_path o (find t ys)) (find_none t (p ∷ []) (at_itself p, tt))
    ∙ find_all t ys (all_imply (IsPathBefore p) (λ q. t q ≡ true) ys (λ q k. later p q k) (after_it xs ys p h))

pub in_order : PathsAreInOrder
unfolding paths
in_order file root ps h =
    let up = ascending (root + 1) file root ps h in
    record {
      ascend = up;
      begins = first_path_law (root + 1) file root ps (omega arith) h;
      goes_on = λ xs ys p e. (searches_find file p.path root ps h).after ∙ ap (λ l. Ok (find (path_above false p.path) l)) e ∙ ap Ok (next_is xs ys p (subst PathsAscend e up));
    }
