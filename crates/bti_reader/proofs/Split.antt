-- The paths of a node's children, divided at a byte: those below it, under it and above it.
use Rattle.std.proofs.Common.{◌≡◌, ◌≢◌, ℕ, ◌+◌, ◌-◌, ◌<◌, ◌≤◌, Bool, true, false, List, [], ◌∷◌, ◌++◌, map, Option, Some, None, Ok, Err, refl, sym, ◌∙◌, ap, subst, arith}
use Rattle.std.proofs.lemmas.List.{append-nil}
use Rattle.std.proofs.lemmas.Bool.Decides.{nat_tests}
use Rattle.std.specs.Prelude.{if◌then◌else◌, ◌==◌, nat_lt}
use Rattle.std.specs.List.{AllByRecursion}
use Rattle.bti_nodes.specs.declared.node.Child.{Child}
use Rattle.bti_nodes.specs.Grammar.{child_under, Climbs}
use Rattle.bti_nodes.specs.Children.{child_or, child_below, child_above, least_child, greatest_child}
use Rattle.bti_nodes.specs.Trie.{Path, Paths, longer, under, both, of_places}

abbrev pub Go : Type 0
Go = ℕ → Paths

-- the paths of a child stand first among those, last among them, or are all of them
pub record Front (go : Go) (position : ℕ) (c : Child) (ps : List Path) : Type 0 where
  pub mine : List Path
  pub others : List Path
  pub gives : go (position - c.distance) ≡ Ok mine
  pub joined : ps ≡ map (longer c.byte) mine ++ others

pub record Back (go : Go) (position : ℕ) (c : Child) (ps : List Path) : Type 0 where
  pub mine : List Path
  pub others : List Path
  pub gives : go (position - c.distance) ≡ Ok mine
  pub joined : ps ≡ others ++ map (longer c.byte) mine

pub record Whole (go : Go) (position b : ℕ) (c : Child) (ps : List Path) : Type 0 where
  pub mine : List Path
  pub letter : c.byte ≡ b
  pub gives : go (position - c.distance) ≡ Ok mine
  pub joined : ps ≡ map (longer c.byte) mine

abbrev pub FirstIn : Go → ℕ → Option Child → List Path → Type 0
FirstIn go position None ps = ps ≡ []
FirstIn go position (Some c) ps = Front go position c ps

abbrev pub LastIn : Go → ℕ → Option Child → List Path → Type 0
LastIn go position None ps = ps ≡ []
LastIn go position (Some c) ps = Back go position c ps

abbrev pub WholeIn : Go → ℕ → ℕ → Option Child → List Path → Type 0
WholeIn go position b None ps = ps ≡ []
WholeIn go position b (Some c) ps = Whole go position b c ps

abbrev StartsList : (ℕ → Type 0) → List ℕ → Type 0
StartsList R [] = ⊥
StartsList R (a ∷ rest) = R a

-- a path begins with such a byte
abbrev pub Starts : (ℕ → Type 0) → Path → Type 0
Starts R p = StartsList R p.path

pub all_longer : (R : ℕ → Type 0) (b : ℕ) (ps : List Path) → R b → AllByRecursion (Starts R) (map (longer b) ps)
all_longer R b [] h = tt
all_longer R b (p ∷ ps) h = (h, all_longer R b ps h)

pub all_append : (P : Path → Type 0) (xs ys : List Path) → AllByRecursion P xs → AllByRecursion P ys → AllByRecursion P (xs ++ ys)
all_append P [] ys h k = k
all_append P (x ∷ xs) ys h k = (h.0, all_append P xs ys h.1 k)

pub record Cons (b : ℕ) (x y : Paths) (ps : List Path) : Type 0 where
  pub mine : List Path
  pub others : List Path
  pub gives : x ≡ Ok mine
  pub rest : y ≡ Ok others
  pub joined : map (longer b) mine ++ others ≡ ps

pub cons_ok : (b : ℕ) (x y : Paths) (ps : List Path) → both (under b x) y ≡ Ok ps → Cons b x y ps
cons_ok b (Err e) y ps h = cc
cons_ok b (Ok xs) (Err e) ps h = cc
cons_ok b (Ok xs) (Ok ys) ps h = record { mine = xs; others = ys; gives = refl; rest = refl; joined = cc }

abbrev pub empty : Paths
empty = Ok []

pub none_ok : (ps : List Path) → empty ≡ Ok ps → ps ≡ []
none_ok ps h = cc

-- what the words are at a place with a child
choose : (t : Bool) (c d : Option Child) → t ≡ true → (if t then c else d) ≡ c
choose true c d h = refl
choose false c d h = cc

refuse : (t : Bool) (c d : Option Child) → t ≡ false → (if t then c else d) ≡ d
refuse true c d h = cc
refuse false c d h = refl

or_none : (c : Option Child) → child_or c None ≡ c
or_none None = refl
or_none (Some c) = refl

pub under_is : (b : ℕ) (x : Child) (cs : List (Option Child)) → x.byte ≡ b → child_under b (Some x ∷ cs) ≡ Some x
under_is b x cs h = choose (x.byte == b) (Some x) (child_under b cs) (grind (arith, nat_tests))

pub under_not : (b : ℕ) (x : Child) (cs : List (Option Child)) → x.byte ≢ b → child_under b (Some x ∷ cs) ≡ child_under b cs
under_not b x cs h = refuse (x.byte == b) (Some x) (child_under b cs) (grind (arith, nat_tests))

below_less : (b : ℕ) (x : Child) (cs : List (Option Child)) → x.byte < b → child_below b (Some x ∷ cs) ≡ child_or (child_below b cs) (Some x)
below_less b x cs h = ap (child_or (child_below b cs)) (choose (nat_lt x.byte b) (Some x) None (grind (arith, nat_tests)))

below_not : (b : ℕ) (x : Child) (cs : List (Option Child)) → b ≤ x.byte → child_below b (Some x ∷ cs) ≡ child_below b cs
below_not b x cs h = ap (child_or (child_below b cs)) (refuse (nat_lt x.byte b) (Some x) None (grind (arith, nat_tests))) ∙ or_none (child_below b cs)

pub above_more : (b : ℕ) (x : Child) (cs : List (Option Child)) → b < x.byte → child_above b (Some x ∷ cs) ≡ Some x
above_more b x cs h = ap (λ c. child_or c (child_above b cs)) (choose (nat_lt b x.byte) (Some x) None (grind (arith, nat_tests)))

pub above_not : (b : ℕ) (x : Child) (cs : List (Option Child)) → x.byte ≤ b → child_above b (Some x ∷ cs) ≡ child_above b cs
above_not b x cs h = ap (λ c. child_or c (child_above b cs)) (refuse (nat_lt b x.byte) (Some x) None (grind (arith, nat_tests)))

-- children whose bytes are all above b
pub record AllAbove (go : Go) (position b : ℕ) (cs : List (Option Child)) (ps : List Path) : Type 0 where
  pub higher : AllByRecursion (Starts (λ a. b < a)) ps
  pub none_at : child_under b cs ≡ None
  pub none_below : child_below b cs ≡ None
  pub above : FirstIn go position (child_above b cs) ps

pub all_above : (go : Go) (position b low : ℕ) (cs : List (Option Child)) (ps : List Path) → Climbs low cs → b < low → of_places go position cs ≡ Ok ps → AllAbove go position b cs ps
all_above go position b low [] ps climbs l h =
    let none = none_ok ps h in
    record { higher = subst (AllByRecursion (Starts (λ a. b < a))) (sym none) tt; none_at = refl; none_below = refl; above = none }
all_above go position b low (None ∷ cs) ps climbs l h =
    let rest = all_above go position b low cs ps climbs l h in
    record { higher = rest.higher; none_at = rest.none_at; none_below = or_none (child_below b cs) ∙ rest.none_below; above = rest.above }
all_above go position b low (Some x ∷ cs) ps climbs l h =
    let two = cons_ok x.byte (go (position - x.distance)) (of_places go position cs) ps h in
    let more : b < x.byte = omega (arith, climbs.0) in
    let rest = all_above go position b (x.byte + 1) cs two.others climbs.1 (omega arith) two.rest in
    let R : ℕ → Type 0 = λ a. b < a in
    record {
      higher = subst (AllByRecursion (Starts R)) two.joined (all_append (Starts R) (map (longer x.byte) two.mine) two.others (all_longer R x.byte two.mine more) rest.higher);
      none_at = under_not b x cs (omega arith) ∙ rest.none_at;
      none_below = below_not b x cs (omega arith) ∙ rest.none_below;
      above = subst (λ c. FirstIn go position c ps) (sym (above_more b x cs more)) (record { mine = two.mine; others = two.others; gives = two.gives; joined = sym two.joined });
    }

pub record Split (go : Go) (position b : ℕ) (cs : List (Option Child)) (ps : List Path) : Type 0 where
  pub less : List Path
  pub same : List Path
  pub more : List Path
  pub joined : ps ≡ less ++ (same ++ more)
  pub lower : AllByRecursion (Starts (λ a. a < b)) less
  pub higher : AllByRecursion (Starts (λ a. b < a)) more
  pub at : WholeIn go position b (child_under b cs) same
  pub below : LastIn go position (child_below b cs) less
  pub above : FirstIn go position (child_above b cs) more

-- the last of the lower children, with one more before them
last_more : (go : Go) (position : ℕ) (x : Child) (mine less : List Path) (c : Option Child) → go (position - x.distance) ≡ Ok mine → LastIn go position c less
    → LastIn go position (child_or c (Some x)) (map (longer x.byte) mine ++ less)
last_more go position x mine less None g h = record { mine = mine; others = []; gives = g; joined = ap (λ l. map (longer x.byte) mine ++ l) h ∙ append-nil (map (longer x.byte) mine) }
last_more go position x mine less (Some c) g h = record { mine = h.mine; others = map (longer x.byte) mine ++ h.others; gives = h.gives; joined = ap (λ l. map (longer x.byte) mine ++ l) h.joined ∙ again (map (longer x.byte) mine) h.others (map (longer c.byte) h.mine) }
  where
    again : (a b c : List Path) → a ++ (b ++ c) ≡ (a ++ b) ++ c
    again [] b c = refl
    again (x ∷ a) b c = ap (λ l. x ∷ l) (again a b c)

pub split : (go : Go) (position b low : ℕ) (cs : List (Option Child)) (ps : List Path) → Climbs low cs → of_places go position cs ≡ Ok ps → Split go position b cs ps
split go position b low [] ps climbs h = record { less = []; same = []; more = []; joined = none_ok ps h; lower = tt; higher = tt; at = refl; below = refl; above = refl }
split go position b low (None ∷ cs) ps climbs h =
    let s = split go position b low cs ps climbs h in
    record { less = s.less; same = s.same; more = s.more; joined = s.joined; lower = s.lower; higher = s.higher; at = s.at; below = subst (λ c. LastIn go position c s.less) (sym (or_none (child_below b cs))) s.below; above = s.above }
split go position b low (Some x ∷ cs) ps climbs h =
    by (split go position b (x.byte + 1) cs) (cons_ok x.byte (go (position - x.distance)) (of_places go position cs) ps h) (nat_lt x.byte b) (x.byte == b) refl refl
  where
    again : (a b c : List Path) → a ++ (b ++ c) ≡ (a ++ b) ++ c
    again [] b c = refl
    again (x ∷ a) b c = ap (λ l. x ∷ l) (again a b c)

    by : ((qs : List Path) → Climbs (x.byte + 1) cs → of_places go position cs ≡ Ok qs → Split go position b cs qs) → Cons x.byte (go (position - x.distance)) (of_places go position cs) ps
        → (t u : Bool) → nat_lt x.byte b ≡ t → (x.byte == b) ≡ u → Split go position b (Some x ∷ cs) ps
    by rest two true u e f =
        let less : x.byte < b = grind (arith, nat_tests) in
        let s = rest two.others climbs.1 two.rest in
        let R : ℕ → Type 0 = λ a. a < b in
        record {
          less = map (longer x.byte) two.mine ++ s.less;
          same = s.same;
          more = s.more;
          joined = sym two.joined ∙ ap (λ l. map (longer x.byte) two.mine ++ l) s.joined ∙ again (map (longer x.byte) two.mine) s.less (s.same ++ s.more);
          lower = all_append (Starts R) (map (longer x.byte) two.mine) s.less (all_longer R x.byte two.mine less) s.lower;
          higher = s.higher;
          at = subst (λ c. WholeIn go position b c s.same) (sym (under_not b x cs (omega arith))) s.at;
          below = subst (λ c. LastIn go position c (map (longer x.byte) two.mine ++ s.less)) (sym (below_less b x cs less)) (last_more go position x two.mine s.less (child_below b cs) two.gives s.below);
          above = subst (λ c. FirstIn go position c s.more) (sym (above_not b x cs (omega arith))) s.above;
        }
    by rest two false true e f =
        let same : x.byte ≡ b = grind (arith, nat_tests) in
        let a = all_above go position b (x.byte + 1) cs two.others climbs.1 (omega arith) two.rest in
        record {
          less = [];
          same = map (longer x.byte) two.mine;
          more = two.others;
          joined = sym two.joined;
          lower = tt;
          higher = a.higher;
          at = subst (λ c. WholeIn go position b c (map (longer x.byte) two.mine)) (sym (under_is b x cs same)) (record { mine = two.mine; letter = same; gives = two.gives; joined = refl });
          below = subst (λ c. LastIn go position c []) (sym (below_not b x cs (omega arith) ∙ a.none_below)) refl;
          above = subst (λ c. FirstIn go position c two.others) (sym (above_not b x cs (omega arith))) a.above;
        }
    by rest two false false e f =
        let more : b < x.byte = grind (arith, nat_tests) in
        let a = all_above go position b x.byte (Some x ∷ cs) ps (omega arith, climbs.1) more h in
        record {
          less = [];
          same = [];
          more = ps;
          joined = refl;
          lower = tt;
          higher = a.higher;
          at = subst (λ c. WholeIn go position b c []) (sym a.none_at) refl;
          below = subst (λ c. LastIn go position c []) (sym a.none_below) refl;
          above = a.above;
        }

-- the children in their order
pub first_in : (go : Go) (position : ℕ) (cs : List (Option Child)) (ps : List Path) → of_places go position cs ≡ Ok ps → FirstIn go position (least_child cs) ps
first_in go position [] ps h = none_ok ps h
first_in go position (None ∷ cs) ps h = first_in go position cs ps h
first_in go position (Some x ∷ cs) ps h =
    let two = cons_ok x.byte (go (position - x.distance)) (of_places go position cs) ps h in
    record { mine = two.mine; others = two.others; gives = two.gives; joined = sym two.joined }

pub last_in : (go : Go) (position : ℕ) (cs : List (Option Child)) (ps : List Path) → of_places go position cs ≡ Ok ps → LastIn go position (greatest_child cs) ps
last_in go position [] ps h = none_ok ps h
last_in go position (None ∷ cs) ps h = subst (λ c. LastIn go position c ps) (sym (or_none (greatest_child cs))) (last_in go position cs ps h)
last_in go position (Some x ∷ cs) ps h =
    let two = cons_ok x.byte (go (position - x.distance)) (of_places go position cs) ps h in
    subst (LastIn go position (child_or (greatest_child cs) (Some x))) two.joined (last_more go position x two.mine two.others (greatest_child cs) two.gives (last_in go position cs two.others two.rest))

-- no path below a child is empty
pub all_start : (go : Go) (position : ℕ) (cs : List (Option Child)) (ps : List Path) → of_places go position cs ≡ Ok ps → AllByRecursion (Starts (λ a. Unit {0})) ps
all_start go position [] ps h = subst (AllByRecursion (Starts (λ a. Unit {0}))) (sym (none_ok ps h)) tt
all_start go position (None ∷ cs) ps h = all_start go position cs ps h
all_start go position (Some x ∷ cs) ps h =
    let two = cons_ok x.byte (go (position - x.distance)) (of_places go position cs) ps h in
    let R : ℕ → Type 0 = λ a. Unit {0} in
    subst (AllByRecursion (Starts R)) two.joined (all_append (Starts R) (map (longer x.byte) two.mine) two.others (all_longer R x.byte two.mine tt) (all_start go position cs two.others two.rest))
