-- Where the trie has a meaning, the searches find what it says.
use Rattle.std.proofs.Common.{◌≡◌, ◌≢◌, ℕ, zero, suc, ◌+◌, ◌-◌, ◌<◌, ◌≤◌, Bool, true, false, List, [], ◌∷◌, ◌++◌, map, Option, Some, None, Ok, refl, sym, ◌∙◌, ap, arith}
use Rattle.std.specs.Prelude.{if◌then◌else◌, find}
use Rattle.std.specs.Option.{option_map}
use Rattle.std.specs.List.{AllByRecursion}
use Rattle.bti_nodes.specs.declared.node.Child.{Child}
use Rattle.bti_nodes.specs.Grammar.{IsBack, child_under}
use Rattle.bti_nodes.specs.Children.{child_below, child_above, least_child, greatest_child, any}
use Rattle.bti_nodes.specs.Trie.{Path, longer, own, paths_by, paths}
use Rattle.bti_nodes.proofs.Places.{child_back}
use Rattle.bti_reader.specs.Searches.{Answer, deeper, or_next, asked, in_child, own_or, exact_from, first_by, last_by, first_path, last_path, below_from, above_from, exact_in, floor_in, before_in, ceiling_in, after_in}
use Rattle.bti_reader.specs.Meaning.{or_path, find_last, is_below, is_above, path_begins, path_below, path_above, first_path_of, SearchesAreMeaning}
use Rattle.bti_reader.proofs.Turns.{first_back, last_back}
use Rattle.bti_reader.proofs.Split.{Go, FirstIn, LastIn, WholeIn, split, first_in, last_in, all_start, Starts}
use Rattle.bti_reader.proofs.Lists.{last_of, deeper_ok, next_ok, path_none, path_assoc, first_append, first_map, last_append, last_map, find_append, find_last_append, find_none, find_all, find_last_none, find_last_all, find_map, find_last_map, all_imply, cmp_less, cmp_more, cmp_same, cmp_end, begins_not, begins_same, begins_end}
use Rattle.bti_reader.proofs.Sound.{stood, first_some, last_some, first_is_some, last_is_some}

-- the search at a child picks from its paths, and some way picks something
abbrev Picks : Go → (ℕ → Answer) → ℕ → (List Path → Option Path) → Type 0
Picks go search position pick = (d : ℕ) (ps : List Path) → 0 < d → d ≤ position → go (position - d) ≡ Ok ps → search (position - d) ≡ Ok (pick ps)

abbrev PicksSome : (ℕ → Answer) → ℕ → Type 0
PicksSome search position = (d : ℕ) → 0 < d → d ≤ position → search (position - d) ≢ Ok None

own_first : (position : ℕ) (payload : List ℕ) (o : Option Path) → own_or position payload (Ok o) ≡ Ok (or_path (first_path_of (own position payload)) o)
own_first position [] o = refl
own_first position (x ∷ xs) o = refl

own_last : (position : ℕ) (payload : List ℕ) → own_or position payload (Ok None) ≡ Ok (last_of (own position payload))
own_last position [] = refl
own_last position (x ∷ xs) = refl

-- a child's first path stands before whatever follows
take_first : (b : ℕ) (o rest other : Option Path) → o ≢ None → option_map (longer b) o ≡ or_path (or_path (option_map (longer b) o) rest) other
take_first b None rest other h = absurd (h refl)
take_first b (Some p) rest other h = refl

pub go_first : (go : Go) (search : ℕ → Answer) (position : ℕ) (c : Option Child) (ps : List Path) (o : Option Path) → IsBack position c → FirstIn go position c ps → Picks go search position first_path_of → PicksSome search position
    → in_child c position search (Ok o) ≡ Ok (or_path (first_path_of ps) o)
go_first go search position None ps o back i picks some = ap (λ l. Ok (or_path (first_path_of l) o)) (sym i)
go_first go search position (Some c) ps o back i picks some =
    let e = picks c.distance i.mine back.0 back.1 i.gives in
    let there : first_path_of i.mine ≢ None = λ h. some c.distance back.0 back.1 (e ∙ ap Ok h) in
    ap (deeper c.byte) e ∙ deeper_ok c.byte (first_path_of i.mine)
    ∙ ap Ok (take_first c.byte (first_path_of i.mine) (first_path_of i.others) o there)
    ∙ ap (λ x. Ok (or_path (or_path x (first_path_of i.others)) o)) (sym (first_map c.byte i.mine))
    ∙ ap (λ x. Ok (or_path x o)) (sym (first_append (map (longer c.byte) i.mine) i.others))
    ∙ ap (λ l. Ok (or_path (first_path_of l) o)) (sym i.joined)

pub go_last : (go : Go) (search : ℕ → Answer) (position : ℕ) (c : Option Child) (ps : List Path) (o : Option Path) → IsBack position c → LastIn go position c ps → Picks go search position last_of → PicksSome search position
    → in_child c position search (Ok o) ≡ Ok (or_path (last_of ps) o)
go_last go search position None ps o back i picks some = ap (λ l. Ok (or_path (last_of l) o)) (sym i)
go_last go search position (Some c) ps o back i picks some =
    let e = picks c.distance i.mine back.0 back.1 i.gives in
    let there : last_of i.mine ≢ None = λ h. some c.distance back.0 back.1 (e ∙ ap Ok h) in
    ap (deeper c.byte) e ∙ deeper_ok c.byte (last_of i.mine)
    ∙ ap Ok (take_first c.byte (last_of i.mine) (last_of i.others) o there)
    ∙ ap (λ x. Ok (or_path (or_path x (last_of i.others)) o)) (sym (last_map c.byte i.mine))
    ∙ ap (λ x. Ok (or_path x o)) (sym (last_append i.others (map (longer c.byte) i.mine)))
    ∙ ap (λ l. Ok (or_path (last_of l) o)) (sym i.joined)

-- the child under the key's byte gives what is picked among its paths
pub go_at : (go : Go) (search : ℕ → Answer) (position b : ℕ) (c : Option Child) (ps : List Path) (pick deep : List Path → Option Path) → IsBack position c → WholeIn go position b c ps → Picks go search position deep
    → pick [] ≡ None → ((rs : List Path) → pick (map (longer b) rs) ≡ option_map (longer b) (deep rs)) → in_child c position search (Ok None) ≡ Ok (pick ps)
go_at go search position b None ps pick deep back i picks none same = ap Ok (sym none) ∙ ap (λ l. Ok (pick l)) (sym i)
go_at go search position b (Some c) ps pick deep back i picks none same =
    ap (deeper c.byte) (picks c.distance i.mine back.0 back.1 i.gives) ∙ deeper_ok c.byte (deep i.mine)
    ∙ ap (λ a. Ok (option_map (longer a) (deep i.mine))) i.letter
    ∙ ap Ok (sym (same i.mine))
    ∙ ap (λ a. Ok (pick (map (longer a) i.mine))) (sym i.letter)
    ∙ ap (λ l. Ok (pick l)) (sym i.joined)

pub first_law : (f g : ℕ) (file : List ℕ) (position : ℕ) (ps : List Path) → position < f → position < g → paths_by f file position ≡ Ok ps → first_by g file position ≡ Ok (first_path_of ps)
first_law zero g file position ps l m h = absurd (omega arith)
first_law (suc f) zero file position ps l m h = absurd (omega arith)
first_law (suc f) (suc g) file position ps l m h =
    let s = stood file position (paths_by f file) ps h in
    let n = s.node in
    let picks : Picks (paths_by f file) (first_by g file) position first_path_of = λ d qs some within is. first_law f g file (position - d) qs (omega arith) (omega arith) is in
    let there : PicksSome (first_by g file) position = λ d some within. first_some g file (position - d) (omega arith) in
    ap (λ r. asked r (λ n. own_or position n.payload (in_child (least_child n.places) position (first_by g file) (Ok None)))) s.sound.is
    ∙ ap (own_or position n.payload) (go_first (paths_by f file) (first_by g file) position (least_child n.places) s.kids None (first_back position any n.places s.sound.back) (first_in (paths_by f file) position n.places s.kids s.gives) picks there)
    ∙ own_first position n.payload (or_path (first_path_of s.kids) None)
    ∙ ap (λ o. Ok (or_path (first_path_of (own position n.payload)) o)) (path_none (first_path_of s.kids))
    ∙ ap Ok (sym (first_append (own position n.payload) s.kids))
    ∙ ap (λ l. Ok (first_path_of l)) (sym s.joined)

pub last_law : (f g : ℕ) (file : List ℕ) (position : ℕ) (ps : List Path) → position < f → position < g → paths_by f file position ≡ Ok ps → last_by g file position ≡ Ok (last_of ps)
last_law zero g file position ps l m h = absurd (omega arith)
last_law (suc f) zero file position ps l m h = absurd (omega arith)
last_law (suc f) (suc g) file position ps l m h =
    let s = stood file position (paths_by f file) ps h in
    let n = s.node in
    let picks : Picks (paths_by f file) (last_by g file) position last_of = λ d qs some within is. last_law f g file (position - d) qs (omega arith) (omega arith) is in
    let there : PicksSome (last_by g file) position = λ d some within. last_some g file (position - d) (omega arith) in
    ap (λ r. asked r (λ n. in_child (greatest_child n.places) position (last_by g file) (own_or position n.payload (Ok None)))) s.sound.is
    ∙ ap (in_child (greatest_child n.places) position (last_by g file)) (own_last position n.payload)
    ∙ go_last (paths_by f file) (last_by g file) position (greatest_child n.places) s.kids (last_of (own position n.payload)) (last_back position any n.places s.sound.back) (last_in (paths_by f file) position n.places s.kids s.gives) picks there
    ∙ ap Ok (sym (last_append (own position n.payload) s.kids))
    ∙ ap (λ l. Ok (last_of l)) (sym s.joined)

pub first_path_law : (f : ℕ) (file : List ℕ) (position : ℕ) (ps : List Path) → position < f → paths_by f file position ≡ Ok ps → first_path file position ≡ Ok (first_path_of ps)
unfolding first_path
first_path_law f file position ps l h = first_law f (suc position) file position ps l (omega arith) h

pub last_path_law : (f : ℕ) (file : List ℕ) (position : ℕ) (ps : List Path) → position < f → paths_by f file position ≡ Ok ps → last_path file position ≡ Ok (last_of ps)
unfolding last_path
last_path_law f file position ps l h = last_law f (suc position) file position ps l (omega arith) h

-- tests that hold of paths by their first bytes
all_tests : (t : Path → Bool) (v : Bool) (R : ℕ → Type 0) (ps : List Path) → ((p : Path) → Starts R p → t p ≡ v) → AllByRecursion (Starts R) ps → AllByRecursion (λ p. t p ≡ v) ps
all_tests t v R ps f h = all_imply (Starts R) (λ p. t p ≡ v) ps f h

-- the node's own path, at a key that goes on and at one that ends
own_find : (t : Path → Bool) (v : Bool) (position : ℕ) (payload : List ℕ) → ((q : List ℕ) → t (record { path = []; node = position; payload = q }) ≡ v) → AllByRecursion (λ p. t p ≡ v) (own position payload)
own_find t v position [] h = tt
own_find t v position (x ∷ xs) h = (h (x ∷ xs), tt)

pub exact_law : (key : List ℕ) (f : ℕ) (file : List ℕ) (position : ℕ) (ps : List Path) → position < f → paths_by f file position ≡ Ok ps → exact_from file position key ≡ Ok (find (path_begins key) ps)
exact_law key zero file position ps l h = absurd (omega arith)
exact_law [] (suc f) file position ps l h =
    let s = stood file position (paths_by f file) ps h in
    let n = s.node in
    let t = path_begins [] in
    let mine : find t (own position n.payload) ≡ first_path_of (own position n.payload) = find_all t (own position n.payload) (own_find t true position n.payload (λ q. refl)) in
    let kids : find t s.kids ≡ None = find_none t s.kids (all_tests t false (λ a. Unit {0}) s.kids begins_end (all_start (paths_by f file) position n.places s.kids s.gives)) in
    ap (λ r. asked r (λ n. own_or position n.payload (Ok None))) s.sound.is
    ∙ own_first position n.payload None
    ∙ ap (λ o. Ok (or_path o None)) (sym mine)
    ∙ ap (λ o. Ok (or_path (find t (own position n.payload)) o)) (sym kids)
    ∙ ap Ok (sym (find_append t (own position n.payload) s.kids))
    ∙ ap (λ l. Ok (find t l)) (sym s.joined)
exact_law (b ∷ key) (suc f) file position ps l h =
    let s = stood file position (paths_by f file) ps h in
    let n = s.node in
    let parts = split (paths_by f file) position b 0 n.places s.kids s.sound.climbs s.gives in
    let t = path_begins (b ∷ key) in
    let go : ℕ → Answer = λ at. exact_from file at key in
    let picks : Picks (paths_by f file) go position (find (path_begins key)) = λ d qs some within is. exact_law key f file (position - d) qs (omega arith) is in
    let mine : find t (own position n.payload) ≡ first_path_of (own position n.payload) = find_all t (own position n.payload) (own_find t true position n.payload (λ q. refl)) in
    let less : find t parts.less ≡ None = find_none t parts.less (all_tests t false (λ a. a < b) parts.less (λ p h. begins_not b key p (apart p h)) parts.lower) in
    let more : find t parts.more ≡ None = find_none t parts.more (all_tests t false (λ a. b < a) parts.more (λ p h. begins_not b key p (beyond p h)) parts.higher) in
    ap (λ r. asked r (λ n. own_or position n.payload (in_child (child_under b n.places) position go (Ok None)))) s.sound.is
    ∙ ap (own_or position n.payload) (go_at (paths_by f file) go position b (child_under b n.places) parts.same (find t) (find (path_begins key)) (child_back b position n.places s.sound.back) parts.at picks refl (λ rs. find_map t (path_begins key) b rs (begins_same b key)))
    ∙ own_first position n.payload (find t parts.same)
    ∙ ap (λ o. Ok (or_path o (find t parts.same))) (sym mine)
    ∙ ap (λ o. Ok (or_path (find t (own position n.payload)) o)) (sym (path_none (find t parts.same)) ∙ ap (or_path (find t parts.same)) (sym more) ∙ sym (find_append t parts.same parts.more))
    ∙ ap (λ o. Ok (or_path (find t (own position n.payload)) (or_path o (find t (parts.same ++ parts.more))))) (sym less)
    ∙ ap (λ o. Ok (or_path (find t (own position n.payload)) o)) (sym (find_append t parts.less (parts.same ++ parts.more)) ∙ ap (find t) (sym parts.joined))
    ∙ ap Ok (sym (find_append t (own position n.payload) s.kids))
    ∙ ap (λ l. Ok (find t l)) (sym s.joined)
  where
    lt_ne : (xs : List ℕ) → Starts (λ a. a < b) (record { path = xs; node = 0; payload = [] }) → Starts (λ a. a ≢ b) (record { path = xs; node = 0; payload = [] })
    lt_ne [] h = absurd h
    lt_ne (a ∷ xs) h = omega arith

    gt_ne : (xs : List ℕ) → Starts (λ a. b < a) (record { path = xs; node = 0; payload = [] }) → Starts (λ a. a ≢ b) (record { path = xs; node = 0; payload = [] })
    gt_ne [] h = absurd h
    gt_ne (a ∷ xs) h = omega arith

    apart : (p : Path) → Starts (λ a. a < b) p → Starts (λ a. a ≢ b) p
    apart p h = lt_ne p.path h

    beyond : (p : Path) → Starts (λ a. b < a) p → Starts (λ a. a ≢ b) p
    beyond p h = gt_ne p.path h

pub below_law : (itself : Bool) (key : List ℕ) (f : ℕ) (file : List ℕ) (position : ℕ) (ps : List Path) → position < f → paths_by f file position ≡ Ok ps → below_from itself file position key ≡ Ok (find_last (path_below itself key) ps)
below_law itself key zero file position ps l h = absurd (omega arith)
below_law itself [] (suc f) file position ps l h =
    let s = stood file position (paths_by f file) ps h in
    let n = s.node in
    let t = path_below itself [] in
    let kids : find_last t s.kids ≡ None = find_last_none t s.kids (all_tests t false (λ a. Unit {0}) s.kids (λ p h. ap (is_below itself) (cmp_end p h)) (all_start (paths_by f file) position n.places s.kids s.gives)) in
    ap (λ r. asked r (λ n. if itself then own_or position n.payload (Ok None) else Ok None)) s.sound.is
    ∙ at_end itself n.payload
    ∙ ap (λ o. Ok (or_path o (find_last t (own position n.payload)))) (sym kids)
    ∙ ap Ok (sym (find_last_append t (own position n.payload) s.kids))
    ∙ ap (λ l. Ok (find_last t l)) (sym s.joined)
  where
    at_end : (itself : Bool) (payload : List ℕ) → (if itself then own_or position payload (Ok None) else Ok None) ≡ Ok (find_last (path_below itself []) (own position payload))
    at_end true [] = refl
    at_end true (x ∷ xs) = refl
    at_end false [] = refl
    at_end false (x ∷ xs) = refl
below_law itself (b ∷ key) (suc f) file position ps l h =
    let s = stood file position (paths_by f file) ps h in
    let n = s.node in
    let parts = split (paths_by f file) position b 0 n.places s.kids s.sound.climbs s.gives in
    let t = path_below itself (b ∷ key) in
    let go : ℕ → Answer = λ at. below_from itself file at key in
    let mine = own position n.payload in
    let picks : Picks (paths_by f file) go position (find_last (path_below itself key)) = λ d qs some within is. below_law itself key f file (position - d) qs (omega arith) is in
    let lasts : Picks (paths_by f file) (last_path file) position last_of = λ d qs some within is. last_path_law f file (position - d) qs (omega arith) is in
    let own_is : find_last t mine ≡ last_of mine = find_last_all t mine (own_find t true position n.payload (λ q. refl)) in
    let less : find_last t parts.less ≡ last_of parts.less = find_last_all t parts.less (all_tests t true (λ a. a < b) parts.less (λ p h. ap (is_below itself) (cmp_less b key p h)) parts.lower) in
    let more : find_last t parts.more ≡ None = find_last_none t parts.more (all_tests t false (λ a. b < a) parts.more (λ p h. ap (is_below itself) (cmp_more b key p h)) parts.higher) in
    let under : in_child (child_under b n.places) position go (Ok None) ≡ Ok (find_last t parts.same) =
    go_at (paths_by f file) go position b (child_under b n.places) parts.same (find_last t) (find_last (path_below itself key)) (child_back b position n.places s.sound.back) parts.at picks refl (λ rs. find_last_map t (path_below itself key) b rs (λ p. ap (is_below itself) (cmp_same b key p))) in
    let beside : in_child (child_below b n.places) position (last_path file) (own_or position n.payload (Ok None)) ≡ Ok (or_path (last_of parts.less) (last_of mine)) =
    ap (in_child (child_below b n.places) position (last_path file)) (own_last position n.payload)
    ∙ go_last (paths_by f file) (last_path file) position (child_below b n.places) parts.less (last_of mine) (last_back position _ n.places s.sound.back) parts.below lasts (λ d some within. last_is_some file (position - d)) in
    ap (λ r. asked r (λ n. or_next (in_child (child_under b n.places) position go (Ok None)) (in_child (child_below b n.places) position (last_path file) (own_or position n.payload (Ok None))))) s.sound.is
    ∙ ap (λ x. or_next x (in_child (child_below b n.places) position (last_path file) (own_or position n.payload (Ok None)))) under
    ∙ ap (or_next (Ok (find_last t parts.same))) beside
    ∙ next_ok (find_last t parts.same) (or_path (last_of parts.less) (last_of mine))
    ∙ ap (λ o. Ok (or_path o (or_path (last_of parts.less) (last_of mine)))) (ap (λ o. or_path o (find_last t parts.same)) (sym more) ∙ sym (find_last_append t parts.same parts.more))
    ∙ ap Ok (sym (path_assoc (find_last t (parts.same ++ parts.more)) (last_of parts.less) (last_of mine)))
    ∙ ap (λ o. Ok (or_path o (last_of mine))) (ap (or_path (find_last t (parts.same ++ parts.more))) (sym less) ∙ sym (find_last_append t parts.less (parts.same ++ parts.more)) ∙ ap (find_last t) (sym parts.joined))
    ∙ ap (λ o. Ok (or_path (find_last t s.kids) o)) (sym own_is)
    ∙ ap Ok (sym (find_last_append t mine s.kids))
    ∙ ap (λ l. Ok (find_last t l)) (sym s.joined)

pub above_law : (itself : Bool) (key : List ℕ) (f : ℕ) (file : List ℕ) (position : ℕ) (ps : List Path) → position < f → paths_by f file position ≡ Ok ps → above_from itself file position key ≡ Ok (find (path_above itself key) ps)
above_law itself key zero file position ps l h = absurd (omega arith)
above_law true [] (suc f) file position ps l h =
    let s = stood file position (paths_by f file) ps h in
    let n = s.node in
    let t = path_above true [] in
    let mine = own position n.payload in
    let own_is : find t mine ≡ first_path_of mine = find_all t mine (own_find t true position n.payload (λ q. refl)) in
    let kids : find t s.kids ≡ first_path_of s.kids = find_all t s.kids (all_tests t true (λ a. Unit {0}) s.kids (λ p h. ap (is_above true) (cmp_end p h)) (all_start (paths_by f file) position n.places s.kids s.gives)) in
    first_path_law (suc f) file position ps l h
    ∙ ap (λ l. Ok (first_path_of l)) s.joined
    ∙ ap Ok (first_append mine s.kids)
    ∙ ap (λ o. Ok (or_path o (first_path_of s.kids))) (sym own_is)
    ∙ ap (λ o. Ok (or_path (find t mine) o)) (sym kids)
    ∙ ap Ok (sym (find_append t mine s.kids))
    ∙ ap (λ l. Ok (find t l)) (sym s.joined)
above_law false [] (suc f) file position ps l h =
    let s = stood file position (paths_by f file) ps h in
    let n = s.node in
    let t = path_above false [] in
    let mine = own position n.payload in
    let firsts : Picks (paths_by f file) (first_path file) position first_path_of = λ d qs some within is. first_path_law f file (position - d) qs (omega arith) is in
    let own_is : find t mine ≡ None = find_none t mine (own_find t false position n.payload (λ q. refl)) in
    let kids : find t s.kids ≡ first_path_of s.kids = find_all t s.kids (all_tests t true (λ a. Unit {0}) s.kids (λ p h. ap (is_above false) (cmp_end p h)) (all_start (paths_by f file) position n.places s.kids s.gives)) in
    ap (λ r. asked r (λ n. in_child (least_child n.places) position (first_path file) (Ok None))) s.sound.is
    ∙ go_first (paths_by f file) (first_path file) position (least_child n.places) s.kids None (first_back position any n.places s.sound.back) (first_in (paths_by f file) position n.places s.kids s.gives) firsts (λ d some within. first_is_some file (position - d))
    ∙ ap Ok (path_none (first_path_of s.kids))
    ∙ ap Ok (sym kids)
    ∙ ap (λ o. Ok (or_path o (find t s.kids))) (sym own_is)
    ∙ ap Ok (sym (find_append t mine s.kids))
    ∙ ap (λ l. Ok (find t l)) (sym s.joined)
above_law itself (b ∷ key) (suc f) file position ps l h =
    let s = stood file position (paths_by f file) ps h in
    let n = s.node in
    let parts = split (paths_by f file) position b 0 n.places s.kids s.sound.climbs s.gives in
    let t = path_above itself (b ∷ key) in
    let go : ℕ → Answer = λ at. above_from itself file at key in
    let mine = own position n.payload in
    let picks : Picks (paths_by f file) go position (find (path_above itself key)) = λ d qs some within is. above_law itself key f file (position - d) qs (omega arith) is in
    let firsts : Picks (paths_by f file) (first_path file) position first_path_of = λ d qs some within is. first_path_law f file (position - d) qs (omega arith) is in
    let own_is : find t mine ≡ None = find_none t mine (own_find t false position n.payload (λ q. refl)) in
    let less : find t parts.less ≡ None = find_none t parts.less (all_tests t false (λ a. a < b) parts.less (λ p h. ap (is_above itself) (cmp_less b key p h)) parts.lower) in
    let more : find t parts.more ≡ first_path_of parts.more = find_all t parts.more (all_tests t true (λ a. b < a) parts.more (λ p h. ap (is_above itself) (cmp_more b key p h)) parts.higher) in
    let under : in_child (child_under b n.places) position go (Ok None) ≡ Ok (find t parts.same) =
    go_at (paths_by f file) go position b (child_under b n.places) parts.same (find t) (find (path_above itself key)) (child_back b position n.places s.sound.back) parts.at picks refl (λ rs. find_map t (path_above itself key) b rs (λ p. ap (is_above itself) (cmp_same b key p))) in
    let beside : in_child (child_above b n.places) position (first_path file) (Ok None) ≡ Ok (or_path (first_path_of parts.more) None) =
    go_first (paths_by f file) (first_path file) position (child_above b n.places) parts.more None (first_back position _ n.places s.sound.back) parts.above firsts (λ d some within. first_is_some file (position - d)) in
    ap (λ r. asked r (λ n. or_next (in_child (child_under b n.places) position go (Ok None)) (in_child (child_above b n.places) position (first_path file) (Ok None)))) s.sound.is
    ∙ ap (λ x. or_next x (in_child (child_above b n.places) position (first_path file) (Ok None))) under
    ∙ ap (or_next (Ok (find t parts.same))) (beside ∙ ap Ok (path_none (first_path_of parts.more)) ∙ ap Ok (sym more))
    ∙ next_ok (find t parts.same) (find t parts.more)
    ∙ ap Ok (sym (find_append t parts.same parts.more))
    ∙ ap (λ o. Ok (or_path o (find t (parts.same ++ parts.more)))) (sym less)
    ∙ ap Ok (sym (find_append t parts.less (parts.same ++ parts.more)) ∙ ap (find t) (sym parts.joined))
    ∙ ap (λ o. Ok (or_path o (find t s.kids))) (sym own_is)
    ∙ ap Ok (sym (find_append t mine s.kids))
    ∙ ap (λ l. Ok (find t l)) (sym s.joined)

pub searches_find : SearchesAreMeaning
unfolding paths exact_in floor_in before_in ceiling_in after_in
searches_find file key root ps h = record {
  exact = exact_law key (root + 1) file root ps (omega arith) h;
  floor = below_law true key (root + 1) file root ps (omega arith) h;
  before = below_law false key (root + 1) file root ps (omega arith) h;
  ceiling = above_law true key (root + 1) file root ps (omega arith) h;
  after = above_law false key (root + 1) file root ps (omega arith) h;
}
