-- Turns of a search are the search.
use Rattle.std.proofs.Common.{◌≡◌, ◌≢◌, ℕ, zero, suc, ◌+◌, ◌-◌, ◌<◌, ◌≤◌, Bool, true, false, List, [], ◌∷◌, length, take, drop, get_or, Option, Some, None, Result, Ok, Err, IsSome, IfSome, refl, sym, ◌∙◌, ap, subst, arith}
use Rattle.std.specs.Prelude.{if◌then◌else◌, is_some}
use Rattle.outside.specs.declared.store.Part.{Part}
use Rattle.outside.specs.Files.{Files}
use Rattle.bti_nodes.specs.declared.node.Child.{Child}
use Rattle.bti_nodes.specs.Grammar.{Node, IsBack, AllBack, child_under}
use Rattle.bti_nodes.specs.Children.{child_below, child_above, least_child, greatest_child, any}
use Rattle.bti_nodes.specs.Trie.{Wrong, node_in}
use Rattle.data_file.specs.declared.reading.DataError.{DataError}
use Rattle.data_file.specs.declared.reading.DataError.TheVariants.{StoreFault, NoMemory, Damaged}
use Rattle.bti_reader.specs.declared.ask.Question.{Question}
use Rattle.bti_reader.specs.declared.ask.Question.TheVariants.{End, At, Floor, Ceiling, Least, Greatest}
use Rattle.bti_reader.specs.declared.ask.Turn.{Turn}
use Rattle.bti_reader.specs.declared.ask.Hit.{Hit}
use Rattle.bti_reader.specs.declared.nearest.Spare.{Spare}
use Rattle.bti_reader.specs.Searches.{Answer, deeper, or_next, asked, in_child, own_or, exact_from, first_by, last_by, first_path, last_path, below_from, above_from, exact_in}
use Rattle.bti_reader.specs.Steps.{hit_at, payload_number, turn_in, answer_of, SearchAnswers, question_at, kept_spare, spare_answer, SpareFits}
use Rattle.bti_reader.proofs.Turns.{first_back, last_back}
use Rattle.bti_reader.proofs.Sound.{sound, first_is_some, last_is_some}

abbrev pub Reply : Type 0
Reply = Result (Option Hit) DataError

abbrev pub hit_or : Option Hit → Reply → Reply
hit_or None other = other
hit_or (Some hit) other = Ok (Some hit)

abbrev pub child_or : Option Child → (ℕ → Reply) → Reply → Reply
child_or None go other = other
child_or (Some c) go other = go c.distance

abbrev pub or_then : Reply → Reply → Reply
or_then (Err e) next = Err e
or_then (Ok None) next = next
or_then (Ok (Some hit)) next = Ok (Some hit)

abbrev pub with_turn : Result Turn DataError → (Turn → Reply) → Reply
with_turn (Err e) go = Err e
with_turn (Ok t) go = go t

pub own_reply : (part : Part) (passed position : ℕ) (payload : List ℕ) (x : Answer) → answer_of part passed (own_or position payload x) ≡ hit_or (hit_at part passed position payload) (answer_of part passed x)
own_reply part passed position [] x = refl
own_reply part passed position (y ∷ ys) x = let e : passed + 0 ≡ passed = omega arith in ap (λ n. Ok (Some (record { path_len = n; node = position; number = payload_number part (y ∷ ys) }))) e

deeper_reply : (part : Part) (passed b : ℕ) (a : Answer) → answer_of part passed (deeper b a) ≡ answer_of part (passed + 1) a
deeper_reply part passed b (Err w) = refl
deeper_reply part passed b (Ok None) = refl
deeper_reply part passed b (Ok (Some p)) = let e : passed + suc (length p.path) ≡ (passed + 1) + length p.path = omega arith in ap (λ n. Ok (Some (record { path_len = n; node = p.node; number = payload_number part p.payload }))) e

pub child_reply : (part : Part) (passed position : ℕ) (c : Option Child) (go : ℕ → Answer) (x : Answer) → answer_of part passed (in_child c position go x) ≡ child_or c (λ d. answer_of part (passed + 1) (go (position - d))) (answer_of part passed x)
child_reply part passed position None go x = refl
child_reply part passed position (Some c) go x = deeper_reply part passed c.byte (go (position - c.distance))

pub next_reply : (part : Part) (passed : ℕ) (x y : Answer) → answer_of part passed (or_next x y) ≡ or_then (answer_of part passed x) (answer_of part passed y)
next_reply part passed (Err w) y = refl
next_reply part passed (Ok None) y = refl
next_reply part passed (Ok (Some p)) y = refl

pub then_assoc : (a b c : Reply) → or_then (or_then a b) c ≡ or_then a (or_then b c)
then_assoc (Err e) b c = refl
then_assoc (Ok None) b c = refl
then_assoc (Ok (Some h)) b c = refl

pub then_some : (part : Part) (passed : ℕ) (a : Answer) (next : Reply) → a ≢ Ok None → or_then (answer_of part passed a) next ≡ answer_of part passed a
then_some part passed (Err w) next h = refl
then_some part passed (Ok None) next h = absurd (h refl)
then_some part passed (Ok (Some p)) next h = refl

-- the answer of a call of ask, and that of the search
pub err_reply : (e : DataError) (x : Result Turn DataError) (go : Turn → Reply) → SearchAnswers {A = Turn} (Err e) x → SearchAnswers {A = Option Hit} (Err e) (with_turn x go)
err_reply StoreFault x go h = tt
err_reply NoMemory x go h = tt
err_reply (Damaged d) x go h = ap (λ r. with_turn r go) h

-- both facts of the files give a third
pub join : {P Q R : Files → Type 0} (fs gs : Option Files) → gs ≡ fs → IfSome gs P → IfSome fs Q → ((m : Files) → P m → Q m → R m) → IfSome fs R
join {P} {Q} {R} None gs e p q f = tt
join {P} {Q} {R} (Some m) gs e p q f = f m (subst (λ (o : Option Files). IfSome o P) e p) q

-- exact
abbrev pub exact_turn : Part → List ℕ → ℕ → ℕ → List ℕ → Turn → Reply
exact_turn part file position passed [] t = hit_or t.hit (Ok None)
exact_turn part file position passed (b ∷ key) t = hit_or t.hit (child_or t.child (λ d. answer_of part (passed + 1) (exact_from file (position - d) key)) (Ok None))

pub exact_is : (part : Part) (file : List ℕ) (position passed : ℕ) (rest : List ℕ) → answer_of part passed (exact_from file position rest) ≡ with_turn (turn_in part (question_at rest) passed position (node_in file position)) (exact_turn part file position passed rest)
exact_is part file position passed [] = by (node_in file position)
  where
    by : (r : Result Node Wrong) → answer_of part passed (asked r (λ n. own_or position n.payload (Ok None))) ≡ with_turn (turn_in part End passed position r) (exact_turn part file position passed [])
    by (Err w) = refl
    by (Ok n) = own_reply part passed position n.payload (Ok None)
exact_is part file position passed (b ∷ key) = by (λ at. exact_from file at key) (node_in file position)
  where
    by : (go : ℕ → Answer) (r : Result Node Wrong) → answer_of part passed (asked r (λ n. own_or position n.payload (in_child (child_under b n.places) position go (Ok None)))) ≡ with_turn (turn_in part (At b) passed position r) (λ t. hit_or t.hit (child_or t.child (λ d. answer_of part (passed + 1) (go (position - d))) (Ok None)))
    by go (Err w) = refl
    by go (Ok n) = own_reply part passed position n.payload (in_child (child_under b n.places) position go (Ok None)) ∙ ap (hit_or (hit_at part passed position n.payload)) (child_reply part passed position (child_under b n.places) go (Ok None))

-- a child's way needs no more than its own fuel
same_in : (c : Option Child) (position : ℕ) (go more : ℕ → Answer) (x : Answer) → IsBack position c → ((d : ℕ) → 0 < d → d ≤ position → go (position - d) ≡ more (position - d)) → in_child c position go x ≡ in_child c position more x
same_in None position go more x back h = refl
same_in (Some c) position go more x back h = ap (deeper c.byte) (h c.distance back.0 back.1)

same_asked : (file : List ℕ) (position : ℕ) (go more : Node → Answer) → ((n : Node) → AllBack position n.places → go n ≡ more n) → asked (node_in file position) go ≡ asked (node_in file position) more
same_asked file position go more h = by (node_in file position) refl
  where
    by : (r : Result Node Wrong) → node_in file position ≡ r → asked r go ≡ asked r more
    by (Err w) e = refl
    by (Ok n) e = h n (sound file position n e).back

pub first_fuel : (f g : ℕ) (file : List ℕ) (position : ℕ) → position < f → position < g → first_by f file position ≡ first_by g file position
first_fuel zero g file position l m = absurd (omega arith)
first_fuel (suc f) zero file position l m = absurd (omega arith)
first_fuel (suc f) (suc g) file position l m =
    let deep : (d : ℕ) → 0 < d → d ≤ position → first_by f file (position - d) ≡ first_by g file (position - d) = λ d some within. first_fuel f g file (position - d) (omega arith) (omega arith) in
    same_asked file position _ _ (λ n back. ap (own_or position n.payload) (same_in (least_child n.places) position (first_by f file) (first_by g file) (Ok None) (first_back position any n.places back) deep))

pub last_fuel : (f g : ℕ) (file : List ℕ) (position : ℕ) → position < f → position < g → last_by f file position ≡ last_by g file position
last_fuel zero g file position l m = absurd (omega arith)
last_fuel (suc f) zero file position l m = absurd (omega arith)
last_fuel (suc f) (suc g) file position l m =
    let deep : (d : ℕ) → 0 < d → d ≤ position → last_by f file (position - d) ≡ last_by g file (position - d) = λ d some within. last_fuel f g file (position - d) (omega arith) (omega arith) in
    same_asked file position _ _ (λ n back. same_in (greatest_child n.places) position (last_by f file) (last_by g file) (own_or position n.payload (Ok None)) (last_back position any n.places back) deep)

pub first_step : (file : List ℕ) (position : ℕ) → first_path file position ≡ asked (node_in file position) (λ n. own_or position n.payload (in_child (least_child n.places) position (first_path file) (Ok None)))
unfolding first_path
first_step file position =
    let deep : (d : ℕ) → 0 < d → d ≤ position → first_by position file (position - d) ≡ first_by (suc (position - d)) file (position - d) = λ d some within. first_fuel position (suc (position - d)) file (position - d) (omega arith) (omega arith) in
    same_asked file position _ _ (λ n back. ap (own_or position n.payload) (same_in (least_child n.places) position (first_by position file) (λ at. first_by (suc at) file at) (Ok None) (first_back position any n.places back) deep))

last_step : (file : List ℕ) (position : ℕ) → last_path file position ≡ asked (node_in file position) (λ n. in_child (greatest_child n.places) position (last_path file) (own_or position n.payload (Ok None)))
unfolding last_path
last_step file position =
    let deep : (d : ℕ) → 0 < d → d ≤ position → last_by position file (position - d) ≡ last_by (suc (position - d)) file (position - d) = λ d some within. last_fuel position (suc (position - d)) file (position - d) (omega arith) (omega arith) in
    same_asked file position _ _ (λ n back. same_in (greatest_child n.places) position (last_by position file) (λ at. last_by (suc at) file at) (own_or position n.payload (Ok None)) (last_back position any n.places back) deep)

abbrev pub first_turn : Part → List ℕ → ℕ → ℕ → Turn → Reply
first_turn part file position passed t = hit_or t.hit (child_or t.child (λ d. answer_of part (passed + 1) (first_path file (position - d))) (Ok None))

pub first_is : (part : Part) (file : List ℕ) (position passed : ℕ) → answer_of part passed (first_path file position) ≡ with_turn (turn_in part Least passed position (node_in file position)) (first_turn part file position passed)
first_is part file position passed = ap (answer_of part passed) (first_step file position) ∙ by (first_path file) (node_in file position)
  where
    by : (go : ℕ → Answer) (r : Result Node Wrong) → answer_of part passed (asked r (λ n. own_or position n.payload (in_child (least_child n.places) position go (Ok None)))) ≡ with_turn (turn_in part Least passed position r) (λ t. hit_or t.hit (child_or t.child (λ d. answer_of part (passed + 1) (go (position - d))) (Ok None)))
    by go (Err w) = refl
    by go (Ok n) = own_reply part passed position n.payload (in_child (least_child n.places) position go (Ok None)) ∙ ap (hit_or (hit_at part passed position n.payload)) (child_reply part passed position (least_child n.places) go (Ok None))

abbrev pub last_turn : Part → List ℕ → ℕ → ℕ → Turn → Reply
last_turn part file position passed t = child_or t.child (λ d. answer_of part (passed + 1) (last_path file (position - d))) (hit_or t.hit (Ok None))

pub last_is : (part : Part) (file : List ℕ) (position passed : ℕ) → answer_of part passed (last_path file position) ≡ with_turn (turn_in part Greatest passed position (node_in file position)) (last_turn part file position passed)
last_is part file position passed = ap (answer_of part passed) (last_step file position) ∙ by (last_path file) (node_in file position)
  where
    by : (go : ℕ → Answer) (r : Result Node Wrong) → answer_of part passed (asked r (λ n. in_child (greatest_child n.places) position go (own_or position n.payload (Ok None)))) ≡ with_turn (turn_in part Greatest passed position r) (λ t. child_or t.child (λ d. answer_of part (passed + 1) (go (position - d))) (hit_or t.hit (Ok None)))
    by go (Err w) = refl
    by go (Ok n) = child_reply part passed position (greatest_child n.places) go (own_or position n.payload (Ok None)) ∙ ap (child_or (greatest_child n.places) (λ d. answer_of part (passed + 1) (go (position - d)))) (own_reply part passed position n.payload (Ok None))

same_reply : (r : Reply) (x y : Reply) → x ≡ y → SearchAnswers r x → SearchAnswers r y
same_reply r x y e h = subst (SearchAnswers r) e h

-- the ends of exact
exact_here : (part : Part) (file : List ℕ) (root position passed : ℕ) (rest key : List ℕ) (q : Question) → q ≡ question_at rest → answer_of part passed (exact_from file position rest) ≡ answer_of part 0 (exact_from file root key)
    → with_turn (turn_in part q passed position (node_in file position)) (exact_turn part file position passed rest) ≡ answer_of part 0 (exact_in file root key)
unfolding exact_in
exact_here part file root position passed rest key q same inv =
    ap (λ q. with_turn (turn_in part q passed position (node_in file position)) (exact_turn part file position passed rest)) same ∙ sym (exact_is part file position passed rest) ∙ inv

pub exact_err : (part : Part) (file : List ℕ) (root position passed : ℕ) (rest key : List ℕ) (q : Question) (e : DataError) → q ≡ question_at rest → SearchAnswers {A = Turn} (Err e) (turn_in part q passed position (node_in file position))
    → answer_of part passed (exact_from file position rest) ≡ answer_of part 0 (exact_from file root key) → SearchAnswers {A = Option Hit} (Err e) (answer_of part 0 (exact_in file root key))
exact_err part file root position passed rest key q e same h inv =
    same_reply (Err e) _ _ (exact_here part file root position passed rest key q same inv) (err_reply e (turn_in part q passed position (node_in file position)) (exact_turn part file position passed rest) h)

-- what a turn says, where the search ends with it
pub exact_ends : (part : Part) (file : List ℕ) (root position passed : ℕ) (rest key : List ℕ) (q : Question) (t : Turn) (r : Option Hit) → q ≡ question_at rest → SearchAnswers (Ok t) (turn_in part q passed position (node_in file position))
    → exact_turn part file position passed rest t ≡ Ok r → answer_of part passed (exact_from file position rest) ≡ answer_of part 0 (exact_from file root key) → SearchAnswers (Ok r) (answer_of part 0 (exact_in file root key))
exact_ends part file root position passed rest key q t r same p ends inv =
    sym (exact_here part file root position passed rest key q same inv) ∙ ap (λ x. with_turn x (exact_turn part file position passed rest)) p ∙ ends

pub some_hit : (hit : Option Hit) (x : Reply) → IsSome hit → hit_or hit x ≡ Ok hit
some_hit None x h = cc
some_hit (Some hit) x h = refl

pub hit_turn : (part : Part) (file : List ℕ) (position passed : ℕ) (rest : List ℕ) (t : Turn) → IsSome t.hit → exact_turn part file position passed rest t ≡ Ok t.hit
hit_turn part file position passed [] t h = some_hit t.hit (Ok None) h
hit_turn part file position passed (b ∷ key) t h = some_hit t.hit (child_or t.child (λ d. answer_of part (passed + 1) (exact_from file (position - d) key)) (Ok None)) h

pub end_turn : (part : Part) (file : List ℕ) (position passed : ℕ) (rest : List ℕ) (t : Turn) → t.hit ≡ None → rest ≡ [] → exact_turn part file position passed rest t ≡ Ok None
end_turn part file position passed [] t h e = ap (λ n. hit_or n (Ok None)) h
end_turn part file position passed (b ∷ key) t h e = cc

pub none_turn : (part : Part) (file : List ℕ) (position passed : ℕ) (rest : List ℕ) (t : Turn) → t.hit ≡ None → t.child ≡ None → exact_turn part file position passed rest t ≡ Ok None
none_turn part file position passed [] t h e = ap (λ n. hit_or n (Ok None)) h
none_turn part file position passed (b ∷ key) t h e =
    ap (λ n. hit_or n (child_or t.child (λ d. answer_of part (passed + 1) (exact_from file (position - d) key)) (Ok None))) h
    ∙ ap (λ c. child_or c (λ d. answer_of part (passed + 1) (exact_from file (position - d) key)) (Ok None)) e

-- the ends and the steps of the ways down
pub first_err : (part : Part) (file : List ℕ) (start position passed taken : ℕ) (e : DataError) → SearchAnswers {A = Turn} (Err e) (turn_in part Least passed position (node_in file position))
    → answer_of part passed (first_path file position) ≡ answer_of part taken (first_path file start) → SearchAnswers {A = Option Hit} (Err e) (answer_of part taken (first_path file start))
first_err part file start position passed taken e h inv =
    same_reply (Err e) _ _ (sym (first_is part file position passed) ∙ inv) (err_reply e (turn_in part Least passed position (node_in file position)) (first_turn part file position passed) h)

pub first_hit : (part : Part) (file : List ℕ) (start position passed taken : ℕ) (t : Turn) → SearchAnswers (Ok t) (turn_in part Least passed position (node_in file position)) → IsSome t.hit
    → answer_of part passed (first_path file position) ≡ answer_of part taken (first_path file start) → SearchAnswers (Ok t.hit) (answer_of part taken (first_path file start))
first_hit part file start position passed taken t p h inv =
    sym inv ∙ first_is part file position passed ∙ ap (λ x. with_turn x (first_turn part file position passed)) p
    ∙ some_hit t.hit (child_or t.child (λ d. answer_of part (passed + 1) (first_path file (position - d))) (Ok None)) h

pub first_on : (part : Part) (file : List ℕ) (start position passed taken : ℕ) (t : Turn) (c : Child) → SearchAnswers (Ok t) (turn_in part Least passed position (node_in file position)) → t.hit ≡ None → t.child ≡ Some c
    → answer_of part passed (first_path file position) ≡ answer_of part taken (first_path file start) → answer_of part (passed + 1) (first_path file (position - c.distance)) ≡ answer_of part taken (first_path file start)
first_on part file start position passed taken t c p h k inv =
    let go : ℕ → Reply = λ d. answer_of part (passed + 1) (first_path file (position - d)) in
    sym (sym inv ∙ first_is part file position passed ∙ ap (λ x. with_turn x (first_turn part file position passed)) p
    ∙ ap (λ n. hit_or n (child_or t.child go (Ok None))) h ∙ ap (λ c. child_or c go (Ok None)) k)

pub last_err : (part : Part) (file : List ℕ) (start position passed taken : ℕ) (e : DataError) → SearchAnswers {A = Turn} (Err e) (turn_in part Greatest passed position (node_in file position))
    → answer_of part passed (last_path file position) ≡ answer_of part taken (last_path file start) → SearchAnswers {A = Option Hit} (Err e) (answer_of part taken (last_path file start))
last_err part file start position passed taken e h inv =
    same_reply (Err e) _ _ (sym (last_is part file position passed) ∙ inv) (err_reply e (turn_in part Greatest passed position (node_in file position)) (last_turn part file position passed) h)

own_hit : (hit : Option Hit) → hit_or hit (Ok None) ≡ Ok hit
own_hit None = refl
own_hit (Some hit) = refl

pub last_hit : (part : Part) (file : List ℕ) (start position passed taken : ℕ) (t : Turn) → SearchAnswers (Ok t) (turn_in part Greatest passed position (node_in file position)) → t.child ≡ None
    → answer_of part passed (last_path file position) ≡ answer_of part taken (last_path file start) → SearchAnswers (Ok t.hit) (answer_of part taken (last_path file start))
last_hit part file start position passed taken t p h inv =
    let go : ℕ → Reply = λ d. answer_of part (passed + 1) (last_path file (position - d)) in
    sym inv ∙ last_is part file position passed ∙ ap (λ x. with_turn x (last_turn part file position passed)) p
    ∙ ap (λ c. child_or c go (hit_or t.hit (Ok None))) h ∙ own_hit t.hit

pub last_on : (part : Part) (file : List ℕ) (start position passed taken : ℕ) (t : Turn) (c : Child) → SearchAnswers (Ok t) (turn_in part Greatest passed position (node_in file position)) → t.child ≡ Some c
    → answer_of part passed (last_path file position) ≡ answer_of part taken (last_path file start) → answer_of part (passed + 1) (last_path file (position - c.distance)) ≡ answer_of part taken (last_path file start)
last_on part file start position passed taken t c p k inv =
    let go : ℕ → Reply = λ d. answer_of part (passed + 1) (last_path file (position - d)) in
    sym (sym inv ∙ last_is part file position passed ∙ ap (λ x. with_turn x (last_turn part file position passed)) p ∙ ap (λ c. child_or c go (hit_or t.hit (Ok None))) k)

pub no_hit : (o : Option Hit) → false ≡ is_some o → o ≡ None
no_hit None h = refl
no_hit (Some x) h = cc

pub short : (xs : List ℕ) → length xs < 1 → xs ≡ []
short [] h = refl
short (x ∷ xs) h = absurd (omega arith)

-- reads by the length of the path
pub some_reads : (hit : Option Hit) (reads taken old passed : ℕ) → IfSome hit (λ h. h.path_len ≡ passed) → reads + taken ≤ old + (passed + 1) → IfSome hit (λ h. reads + taken ≤ old + (h.path_len + 1))
some_reads None reads taken old passed e l = tt
some_reads (Some h) reads taken old passed e l = omega (arith, e)

-- both facts of the files and a third
pub join3 : {P Q S R : Files → Type 0} (fs gs hs : Option Files) → gs ≡ fs → hs ≡ gs → IfSome gs P → IfSome fs Q → IfSome hs S → ((m : Files) → P m → Q m → S m → R m) → IfSome fs R
join3 {P} {Q} {S} {R} None gs hs e d p q s f = tt
join3 {P} {Q} {S} {R} (Some m) gs hs e d p q s f = f m (subst (λ (o : Option Files). IfSome o P) e p) q (subst (λ (o : Option Files). IfSome o S) (d ∙ e) s)

-- the greatest path below a key
abbrev pub below_turn : Bool → Part → List ℕ → ℕ → ℕ → List ℕ → Turn → Reply
below_turn itself part file position passed key t =
    or_then (child_or t.child (λ d. answer_of part (passed + 1) (below_from itself file (position - d) key)) (Ok None))
    (child_or t.beside (λ d. answer_of part (passed + 1) (last_path file (position - d))) (hit_or t.hit (Ok None)))

pub below_is : (itself : Bool) (part : Part) (file : List ℕ) (position passed b : ℕ) (key : List ℕ)
    → answer_of part passed (below_from itself file position (b ∷ key)) ≡ with_turn (turn_in part (Floor b) passed position (node_in file position)) (below_turn itself part file position passed key)
below_is itself part file position passed b key = by (λ at. below_from itself file at key) (last_path file) (node_in file position)
  where
    by : (go last : ℕ → Answer) (r : Result Node Wrong) → answer_of part passed (asked r (λ n. or_next (in_child (child_under b n.places) position go (Ok None)) (in_child (child_below b n.places) position last (own_or position n.payload (Ok None)))))
        ≡ with_turn (turn_in part (Floor b) passed position r) (λ t. or_then (child_or t.child (λ d. answer_of part (passed + 1) (go (position - d))) (Ok None)) (child_or t.beside (λ d. answer_of part (passed + 1) (last (position - d))) (hit_or t.hit (Ok None))))
    by go last (Err w) = refl
    by go last (Ok n) =
        let beside = in_child (child_below b n.places) position last (own_or position n.payload (Ok None)) in
        let wide = child_or (child_below b n.places) (λ d. answer_of part (passed + 1) (last (position - d))) in
        next_reply part passed (in_child (child_under b n.places) position go (Ok None)) beside
        ∙ ap (λ x. or_then x (answer_of part passed beside)) (child_reply part passed position (child_under b n.places) go (Ok None))
        ∙ ap (or_then (child_or (child_under b n.places) (λ d. answer_of part (passed + 1) (go (position - d))) (Ok None)))
        (child_reply part passed position (child_below b n.places) last (own_or position n.payload (Ok None)) ∙ ap wide (own_reply part passed position n.payload (Ok None)))

below_end : (itself : Bool) (part : Part) (file : List ℕ) (position passed : ℕ)
    → answer_of part passed (below_from itself file position []) ≡ with_turn (turn_in part End passed position (node_in file position)) (λ t. hit_or (if itself then t.hit else None) (Ok None))
below_end itself part file position passed = by itself (node_in file position)
  where
    by : (itself : Bool) (r : Result Node Wrong) → answer_of part passed (asked r (λ n. if itself then own_or position n.payload (Ok None) else Ok None)) ≡ with_turn (turn_in part End passed position r) (λ t. hit_or (if itself then t.hit else None) (Ok None))
    by itself (Err w) = refl
    by true (Ok n) = own_reply part passed position n.payload (Ok None)
    by false (Ok n) = refl

-- what is kept is what is found beside, or what was kept before
kept_last : (part : Part) (file : List ℕ) (position passed : ℕ) (spare : Spare) (c : Option Child) (hit : Option Hit)
    → or_then (child_or c (λ d. answer_of part (passed + 1) (last_path file (position - d))) (hit_or hit (Ok None))) (spare_answer part (last_path file) spare) ≡ spare_answer part (last_path file) (kept_spare spare c hit position passed)
kept_last part file position passed spare None None = refl
kept_last part file position passed spare None (Some hit) = refl
kept_last part file position passed spare (Some c) hit = then_some part (passed + 1) (last_path file (position - c.distance)) (spare_answer part (last_path file) spare) (last_is_some file (position - c.distance))

-- what is left of the search before and after a turn
below_left : (itself : Bool) (part : Part) (file : List ℕ) (position passed b : ℕ) (rest key : List ℕ) (spare : Spare) (t : Turn) → rest ≡ b ∷ key → SearchAnswers (Ok t) (turn_in part (Floor b) passed position (node_in file position))
    → or_then (answer_of part passed (below_from itself file position rest)) (spare_answer part (last_path file) spare)
    ≡ or_then (child_or t.child (λ d. answer_of part (passed + 1) (below_from itself file (position - d) key)) (Ok None)) (spare_answer part (last_path file) (kept_spare spare t.beside t.hit position passed))
below_left itself part file position passed b rest key spare t e p =
    let kept_before = spare_answer part (last_path file) spare in
    let on = child_or t.child (λ d. answer_of part (passed + 1) (below_from itself file (position - d) key)) (Ok None) in
    let beside = child_or t.beside (λ d. answer_of part (passed + 1) (last_path file (position - d))) (hit_or t.hit (Ok None)) in
    ap (λ r. or_then (answer_of part passed (below_from itself file position r)) kept_before) e
    ∙ ap (λ x. or_then x kept_before) (below_is itself part file position passed b key ∙ ap (λ x. with_turn x (below_turn itself part file position passed key)) p)
    ∙ then_assoc on beside kept_before
    ∙ ap (or_then on) (kept_last part file position passed spare t.beside t.hit)

pub below_on : (itself : Bool) (part : Part) (file : List ℕ) (position passed b : ℕ) (rest key : List ℕ) (spare then_spare : Spare) (t : Turn) (c : Child) (whole : Reply) → rest ≡ b ∷ key → then_spare ≡ kept_spare spare t.beside t.hit position passed → t.child ≡ Some c → SearchAnswers (Ok t) (turn_in part (Floor b) passed position (node_in file position))
    → or_then (answer_of part passed (below_from itself file position rest)) (spare_answer part (last_path file) spare) ≡ whole
    → or_then (answer_of part (passed + 1) (below_from itself file (position - c.distance) key)) (spare_answer part (last_path file) then_spare) ≡ whole
below_on itself part file position passed b rest key spare then_spare t c whole e n k p inv =
    let after = spare_answer part (last_path file) (kept_spare spare t.beside t.hit position passed) in
    ap (λ s. or_then (answer_of part (passed + 1) (below_from itself file (position - c.distance) key)) (spare_answer part (last_path file) s)) n
    ∙ sym (sym inv ∙ below_left itself part file position passed b rest key spare t e p
    ∙ ap (λ c. or_then (child_or c (λ d. answer_of part (passed + 1) (below_from itself file (position - d) key)) (Ok None)) after) k)

pub below_stops : (itself : Bool) (part : Part) (file : List ℕ) (position passed b : ℕ) (rest key : List ℕ) (spare then_spare : Spare) (t : Turn) (whole r : Reply) → rest ≡ b ∷ key → then_spare ≡ kept_spare spare t.beside t.hit position passed → t.child ≡ None → SearchAnswers (Ok t) (turn_in part (Floor b) passed position (node_in file position))
    → or_then (answer_of part passed (below_from itself file position rest)) (spare_answer part (last_path file) spare) ≡ whole
    → SearchAnswers r (spare_answer part (last_path file) then_spare) → SearchAnswers r whole
below_stops itself part file position passed b rest key spare then_spare t whole r e n k p inv h =
    let after = spare_answer part (last_path file) (kept_spare spare t.beside t.hit position passed) in
    same_reply r after whole
    (sym (sym inv ∙ below_left itself part file position passed b rest key spare t e p ∙ ap (λ c. or_then (child_or c (λ d. answer_of part (passed + 1) (below_from itself file (position - d) key)) (Ok None)) after) k))
    (subst (λ s. SearchAnswers r (spare_answer part (last_path file) s)) n h)

then_err : (e : DataError) (x next : Reply) → SearchAnswers {A = Option Hit} (Err e) x → SearchAnswers {A = Option Hit} (Err e) (or_then x next)
then_err StoreFault x next h = tt
then_err NoMemory x next h = tt
then_err (Damaged d) x next h = ap (λ r. or_then r next) h

pub below_err : (itself : Bool) (part : Part) (file : List ℕ) (position passed b : ℕ) (rest key : List ℕ) (spare : Spare) (e : DataError) (whole : Reply) → rest ≡ b ∷ key → SearchAnswers {A = Turn} (Err e) (turn_in part (Floor b) passed position (node_in file position))
    → or_then (answer_of part passed (below_from itself file position rest)) (spare_answer part (last_path file) spare) ≡ whole → SearchAnswers {A = Option Hit} (Err e) whole
below_err itself part file position passed b rest key spare e whole is h inv =
    let kept_before = spare_answer part (last_path file) spare in
    same_reply (Err e) _ whole (ap (λ x. or_then x kept_before) (sym (below_is itself part file position passed b key)) ∙ ap (λ r. or_then (answer_of part passed (below_from itself file position r)) kept_before) (sym is) ∙ inv)
    (then_err e (with_turn (turn_in part (Floor b) passed position (node_in file position)) (below_turn itself part file position passed key)) kept_before
    (err_reply e (turn_in part (Floor b) passed position (node_in file position)) (below_turn itself part file position passed key) h))

pub below_end_err : (itself : Bool) (part : Part) (file : List ℕ) (position passed : ℕ) (rest : List ℕ) (spare : Spare) (e : DataError) (whole : Reply) → rest ≡ [] → SearchAnswers {A = Turn} (Err e) (turn_in part End passed position (node_in file position))
    → or_then (answer_of part passed (below_from itself file position rest)) (spare_answer part (last_path file) spare) ≡ whole → SearchAnswers {A = Option Hit} (Err e) whole
below_end_err itself part file position passed rest spare e whole is h inv =
    let kept_before = spare_answer part (last_path file) spare in
    let here : Turn → Reply = λ t. hit_or (if itself then t.hit else None) (Ok None) in
    same_reply (Err e) _ whole (ap (λ x. or_then x kept_before) (sym (below_end itself part file position passed)) ∙ ap (λ r. or_then (answer_of part passed (below_from itself file position r)) kept_before) (sym is) ∙ inv)
    (then_err e (with_turn (turn_in part End passed position (node_in file position)) here) kept_before (err_reply e (turn_in part End passed position (node_in file position)) here h))

-- at the key's end: what is found there, or what was kept
below_ends : (itself : Bool) (part : Part) (file : List ℕ) (position passed : ℕ) (rest : List ℕ) (spare : Spare) (t : Turn) (here : Option Hit) (whole : Reply) → rest ≡ [] → here ≡ (if itself then t.hit else None)
    → SearchAnswers (Ok t) (turn_in part End passed position (node_in file position))
    → or_then (answer_of part passed (below_from itself file position rest)) (spare_answer part (last_path file) spare) ≡ whole → whole ≡ or_then (hit_or here (Ok None)) (spare_answer part (last_path file) spare)
below_ends itself part file position passed rest spare t here whole is there p inv =
    let kept_before = spare_answer part (last_path file) spare in
    sym inv ∙ ap (λ r. or_then (answer_of part passed (below_from itself file position r)) kept_before) is
    ∙ ap (λ x. or_then x kept_before) (below_end itself part file position passed ∙ ap (λ x. with_turn x (λ t. hit_or (if itself then t.hit else None) (Ok None))) p)
    ∙ ap (λ h. or_then (hit_or h (Ok None)) kept_before) (sym there)

then_hit : (here : Option Hit) (next : Reply) → IsSome here → or_then (hit_or here (Ok None)) next ≡ Ok here
then_hit None next h = cc
then_hit (Some x) next h = refl

pub below_here : (itself : Bool) (part : Part) (file : List ℕ) (position passed : ℕ) (rest : List ℕ) (spare : Spare) (t : Turn) (here : Option Hit) (whole : Reply) → rest ≡ [] → here ≡ (if itself then t.hit else None) → IsSome here
    → SearchAnswers (Ok t) (turn_in part End passed position (node_in file position))
    → or_then (answer_of part passed (below_from itself file position rest)) (spare_answer part (last_path file) spare) ≡ whole → SearchAnswers (Ok here) whole
below_here itself part file position passed rest spare t here whole is there some p inv = below_ends itself part file position passed rest spare t here whole is there p inv ∙ then_hit here (spare_answer part (last_path file) spare) some

pub below_back : (itself : Bool) (part : Part) (file : List ℕ) (position passed : ℕ) (rest : List ℕ) (spare : Spare) (t : Turn) (here : Option Hit) (whole r : Reply) → rest ≡ [] → here ≡ (if itself then t.hit else None) → here ≡ None
    → SearchAnswers (Ok t) (turn_in part End passed position (node_in file position))
    → or_then (answer_of part passed (below_from itself file position rest)) (spare_answer part (last_path file) spare) ≡ whole → SearchAnswers r (spare_answer part (last_path file) spare) → SearchAnswers r whole
below_back itself part file position passed rest spare t here whole r is there none p inv h =
    same_reply r (spare_answer part (last_path file) spare) whole
    (sym (below_ends itself part file position passed rest spare t here whole is there p inv ∙ ap (λ x. or_then (hit_or x (Ok None)) (spare_answer part (last_path file) spare)) none)) h

-- the least path that isn't below a key
abbrev pub above_turn : Part → List ℕ → ℕ → ℕ → List ℕ → Turn → Reply
above_turn part file position passed key t =
    or_then (child_or t.child (λ d. answer_of part (passed + 1) (above_from true file (position - d) key)) (Ok None))
    (child_or t.beside (λ d. answer_of part (passed + 1) (first_path file (position - d))) (Ok None))

pub above_is : (part : Part) (file : List ℕ) (position passed b : ℕ) (key : List ℕ)
    → answer_of part passed (above_from true file position (b ∷ key)) ≡ with_turn (turn_in part (Ceiling b) passed position (node_in file position)) (above_turn part file position passed key)
above_is part file position passed b key = by (λ at. above_from true file at key) (first_path file) (node_in file position)
  where
    by : (go first : ℕ → Answer) (r : Result Node Wrong) → answer_of part passed (asked r (λ n. or_next (in_child (child_under b n.places) position go (Ok None)) (in_child (child_above b n.places) position first (Ok None))))
        ≡ with_turn (turn_in part (Ceiling b) passed position r) (λ t. or_then (child_or t.child (λ d. answer_of part (passed + 1) (go (position - d))) (Ok None)) (child_or t.beside (λ d. answer_of part (passed + 1) (first (position - d))) (Ok None)))
    by go first (Err w) = refl
    by go first (Ok n) =
        let beside = in_child (child_above b n.places) position first (Ok None) in
        next_reply part passed (in_child (child_under b n.places) position go (Ok None)) beside
        ∙ ap (λ x. or_then x (answer_of part passed beside)) (child_reply part passed position (child_under b n.places) go (Ok None))
        ∙ ap (or_then (child_or (child_under b n.places) (λ d. answer_of part (passed + 1) (go (position - d))) (Ok None))) (child_reply part passed position (child_above b n.places) first (Ok None))

kept_first : (part : Part) (file : List ℕ) (position passed : ℕ) (spare : Spare) (c : Option Child)
    → or_then (child_or c (λ d. answer_of part (passed + 1) (first_path file (position - d))) (Ok None)) (spare_answer part (first_path file) spare) ≡ spare_answer part (first_path file) (kept_spare spare c None position passed)
kept_first part file position passed spare None = refl
kept_first part file position passed spare (Some c) = then_some part (passed + 1) (first_path file (position - c.distance)) (spare_answer part (first_path file) spare) (first_is_some file (position - c.distance))

above_left : (part : Part) (file : List ℕ) (position passed b : ℕ) (rest key : List ℕ) (spare : Spare) (t : Turn) → rest ≡ b ∷ key → SearchAnswers (Ok t) (turn_in part (Ceiling b) passed position (node_in file position))
    → or_then (answer_of part passed (above_from true file position rest)) (spare_answer part (first_path file) spare)
    ≡ or_then (child_or t.child (λ d. answer_of part (passed + 1) (above_from true file (position - d) key)) (Ok None)) (spare_answer part (first_path file) (kept_spare spare t.beside None position passed))
above_left part file position passed b rest key spare t e p =
    let kept_before = spare_answer part (first_path file) spare in
    let on = child_or t.child (λ d. answer_of part (passed + 1) (above_from true file (position - d) key)) (Ok None) in
    let beside = child_or t.beside (λ d. answer_of part (passed + 1) (first_path file (position - d))) (Ok None) in
    ap (λ r. or_then (answer_of part passed (above_from true file position r)) kept_before) e
    ∙ ap (λ x. or_then x kept_before) (above_is part file position passed b key ∙ ap (λ x. with_turn x (above_turn part file position passed key)) p)
    ∙ then_assoc on beside kept_before
    ∙ ap (or_then on) (kept_first part file position passed spare t.beside)

pub above_on : (part : Part) (file : List ℕ) (position passed b : ℕ) (rest key : List ℕ) (spare then_spare : Spare) (t : Turn) (c : Child) (whole : Reply) → rest ≡ b ∷ key → then_spare ≡ kept_spare spare t.beside None position passed → t.child ≡ Some c
    → SearchAnswers (Ok t) (turn_in part (Ceiling b) passed position (node_in file position))
    → or_then (answer_of part passed (above_from true file position rest)) (spare_answer part (first_path file) spare) ≡ whole
    → or_then (answer_of part (passed + 1) (above_from true file (position - c.distance) key)) (spare_answer part (first_path file) then_spare) ≡ whole
above_on part file position passed b rest key spare then_spare t c whole e n k p inv =
    let after = spare_answer part (first_path file) (kept_spare spare t.beside None position passed) in
    ap (λ s. or_then (answer_of part (passed + 1) (above_from true file (position - c.distance) key)) (spare_answer part (first_path file) s)) n
    ∙ sym (sym inv ∙ above_left part file position passed b rest key spare t e p
    ∙ ap (λ c. or_then (child_or c (λ d. answer_of part (passed + 1) (above_from true file (position - d) key)) (Ok None)) after) k)

pub above_stops : (part : Part) (file : List ℕ) (position passed b : ℕ) (rest key : List ℕ) (spare then_spare : Spare) (t : Turn) (whole r : Reply) → rest ≡ b ∷ key → then_spare ≡ kept_spare spare t.beside None position passed → t.child ≡ None
    → SearchAnswers (Ok t) (turn_in part (Ceiling b) passed position (node_in file position))
    → or_then (answer_of part passed (above_from true file position rest)) (spare_answer part (first_path file) spare) ≡ whole
    → SearchAnswers r (spare_answer part (first_path file) then_spare) → SearchAnswers r whole
above_stops part file position passed b rest key spare then_spare t whole r e n k p inv h =
    let after = spare_answer part (first_path file) (kept_spare spare t.beside None position passed) in
    same_reply r after whole
    (sym (sym inv ∙ above_left part file position passed b rest key spare t e p ∙ ap (λ c. or_then (child_or c (λ d. answer_of part (passed + 1) (above_from true file (position - d) key)) (Ok None)) after) k))
    (subst (λ s. SearchAnswers r (spare_answer part (first_path file) s)) n h)

pub above_err : (part : Part) (file : List ℕ) (position passed b : ℕ) (rest key : List ℕ) (spare : Spare) (e : DataError) (whole : Reply) → rest ≡ b ∷ key → SearchAnswers {A = Turn} (Err e) (turn_in part (Ceiling b) passed position (node_in file position))
    → or_then (answer_of part passed (above_from true file position rest)) (spare_answer part (first_path file) spare) ≡ whole → SearchAnswers {A = Option Hit} (Err e) whole
above_err part file position passed b rest key spare e whole is h inv =
    let kept_before = spare_answer part (first_path file) spare in
    same_reply (Err e) _ whole (ap (λ x. or_then x kept_before) (sym (above_is part file position passed b key)) ∙ ap (λ r. or_then (answer_of part passed (above_from true file position r)) kept_before) (sym is) ∙ inv)
    (then_err e (with_turn (turn_in part (Ceiling b) passed position (node_in file position)) (above_turn part file position passed key)) kept_before
    (err_reply e (turn_in part (Ceiling b) passed position (node_in file position)) (above_turn part file position passed key) h))

-- at the key's end the first path is the answer
pub above_end : (part : Part) (file : List ℕ) (position passed : ℕ) (rest : List ℕ) (spare : Spare) (whole r : Reply) → rest ≡ []
    → or_then (answer_of part passed (above_from true file position rest)) (spare_answer part (first_path file) spare) ≡ whole → SearchAnswers r (answer_of part passed (first_path file position)) → SearchAnswers r whole
above_end part file position passed rest spare whole r is inv h =
    let kept_before = spare_answer part (first_path file) spare in
    same_reply r (answer_of part passed (first_path file position)) whole
    (sym (then_some part passed (first_path file position) kept_before (first_is_some file position)) ∙ ap (λ r. or_then (answer_of part passed (above_from true file position r)) kept_before) (sym is) ∙ inv) h

-- a slice that goes on
pub front_rest : (xs : List ℕ) → 1 ≤ length xs → xs ≡ get_or xs 0 0 ∷ take (length xs - 1) (drop 1 xs)
front_rest [] h = absurd (omega arith)
front_rest (x ∷ xs) h = ap (λ ys. x ∷ ys) (sym (whole xs (length (x ∷ xs) - 1) (omega arith)))
  where
    whole : (ys : List ℕ) (n : ℕ) → n ≡ length ys → take n ys ≡ ys
    whole [] zero h = refl
    whole [] (suc n) h = refl
    whole (y ∷ ys) zero h = absurd (omega arith)
    whole (y ∷ ys) (suc n) h = ap (λ zs. y ∷ zs) (whole ys n (omega arith))

pub taken_on : (passed n : ℕ) (rest : List ℕ) → passed + length rest ≡ n → 1 ≤ length rest → (passed + 1) + length (take (length rest - 1) (drop 1 rest)) ≡ n
taken_on passed n rest h l = let e : length rest ≡ 1 + length (take (length rest - 1) (drop 1 rest)) = ap length (front_rest rest l) ∙ omega arith in omega arith

pub fits_on : (root : ℕ) (spare : Spare) (c : Option Child) (hit : Option Hit) (position passed : ℕ) → SpareFits root spare → IsBack position c → passed + position ≤ root → SpareFits root (kept_spare spare c hit position passed)
fits_on root spare None None position passed h back l = h
fits_on root spare None (Some hit) position passed h back l = tt
fits_on root spare (Some c) hit position passed h back l = (omega arith, omega (arith, back.0, back.1))
