-- A walk that came to its end has given all paths.
use Rattle.std.proofs.Common.{◌≡◌, ℕ, zero, suc, ◌+◌, ◌-◌, ◌<◌, ◌≤◌, false, List, [], ◌∷◌, ◌++◌, map, Option, Some, None, Result, Ok, Err, refl, sym, ◌∙◌, ap, subst, arith, append_assoc}
use Rattle.bti_nodes.specs.declared.node.Child.{Child}
use Rattle.bti_nodes.specs.Grammar.{Node, child_under, Climbs, AllBack}
use Rattle.bti_nodes.specs.Children.{child_above, least_child}
use Rattle.bti_nodes.specs.Trie.{Path, Wrong, longer, under, both, own, of_places, of_node, node_in, paths_by, paths}
use Rattle.bti_reader.specs.Searches.{Answer, deeper, or_next, asked, in_child, own_or, first_path, above_from, after_in}
use Rattle.bti_reader.specs.Meaning.{IsOrder}
use Rattle.bti_reader.specs.Walks.{next_in, Given, WalkIsWhole}
use Rattle.bti_reader.proofs.Split.{Go, under_is, under_not, above_not, above_more}
use Rattle.bti_reader.proofs.Sound.{sound, deeper_none, first_is_some}
use Rattle.bti_reader.proofs.Asking.{first_step}
use Rattle.bti_reader.proofs.Walking.{next_some}
use Rattle.bti_reader.proofs.Ascending.{in_order}

-- the answers that follow one another below a position, from one on
abbrev Chain : List ℕ → ℕ → Answer → List Path → Type 0
Chain file position a [] = a ≡ Ok None
Chain file position a (p ∷ ps) = (a ≡ Ok (Some p)) × Chain file position (above_from false file position p.path) ps

same_chain : (file : List ℕ) (position : ℕ) (a b : Answer) (ps : List Path) → a ≡ b → Chain file position a ps → Chain file position b ps
same_chain file position a b ps e h = subst (λ x. Chain file position x ps) e h

-- the part of a chain that lies below a child, and the rest
record Run (file : List ℕ) (position at b : ℕ) (a rest : Answer) (ps : List Path) : Type 0 where
  pub mine : List Path
  pub others : List Path
  pub joined : ps ≡ map (longer b) mine ++ others
  pub below : Chain file at a mine
  pub after : Chain file position rest others

run : (file : List ℕ) (position at b : ℕ) (rest : Answer) → ((key : List ℕ) → above_from false file position (b ∷ key) ≡ or_next (deeper b (above_from false file at key)) rest)
    → (a : Answer) (ps : List Path) → Chain file position (or_next (deeper b a) rest) ps → Run file position at b a rest ps
run file position at b rest on (Err w) [] h = cc
run file position at b rest on (Err w) (p ∷ ps) h = let e = h.0 in cc
run file position at b rest on (Ok None) ps h = record { mine = []; others = ps; joined = refl; below = refl; after = h }
run file position at b rest on (Ok (Some q)) [] h = cc
run file position at b rest on (Ok (Some q)) (p ∷ ps) h =
    let first : longer b q ≡ p = let e = h.0 in cc in
    let tail : Chain file position (above_from false file position (b ∷ q.path)) ps = subst (λ (x : Path). Chain file position (above_from false file position x.path) ps) (sym first) h.1 in
    let more = run file position at b rest on (above_from false file at q.path) ps (same_chain file position _ _ ps (on q.path) tail) in
    record {
      mine = q ∷ more.mine;
      others = more.others;
      joined = ap (λ x. x ∷ ps) (sym first) ∙ ap (λ l. longer b q ∷ l) more.joined;
      below = (refl, more.below);
      after = more.after;
    }

-- the children of a part of the places are those of all of them, from a byte on
record IsPart (low : ℕ) (all part : List (Option Child)) : Type 0 where
  pub at : (b : ℕ) → low ≤ b → child_under b all ≡ child_under b part
  pub above : (b : ℕ) → low ≤ b → child_above b all ≡ child_above b part

above_least : (b low : ℕ) (cs : List (Option Child)) → Climbs low cs → b < low → child_above b cs ≡ least_child cs
above_least b low [] h l = refl
above_least b low (None ∷ cs) h l = above_least b low cs h l
above_least b low (Some x ∷ cs) h l = above_more b x cs (omega (arith, h.0))

none_given : (file : List ℕ) (position : ℕ) (ps : List Path) → Chain file position (Ok None) ps → ps ≡ []
none_given file position [] h = refl
none_given file position (p ∷ ps) h = let e = h.0 in cc

-- the search beside a child
pub beside : (file : List ℕ) (position : ℕ) (n : Node) (b : ℕ) (c : Child) (rest : Answer) → node_in file position ≡ Ok n → child_under b n.places ≡ Some c → c.byte ≡ b → in_child (child_above b n.places) position (first_path file) (Ok None) ≡ rest
    → (key : List ℕ) → above_from false file position (b ∷ key) ≡ or_next (deeper b (above_from false file (position - c.distance) key)) rest
beside file position n b c rest is at letter above key =
    ap (λ r. asked r (λ n. or_next (in_child (child_under b n.places) position (λ at. above_from false file at key) (Ok None)) (in_child (child_above b n.places) position (first_path file) (Ok None)))) is
    ∙ ap (λ x. or_next (in_child x position (λ at. above_from false file at key) (Ok None)) (in_child (child_above b n.places) position (first_path file) (Ok None))) at
    ∙ ap (λ x. or_next (deeper x (above_from false file (position - c.distance) key)) (in_child (child_above b n.places) position (first_path file) (Ok None))) letter
    ∙ ap (or_next (deeper b (above_from false file (position - c.distance) key))) above

kids : (file : List ℕ) (position : ℕ) (go : Go) (n : Node) (low : ℕ) (cs : List (Option Child)) (ps : List Path) → node_in file position ≡ Ok n → Climbs low cs → AllBack position cs → IsPart low n.places cs
    → ((d : ℕ) (qs : List Path) → 0 < d → d ≤ position → Chain file (position - d) (first_path file (position - d)) qs → go (position - d) ≡ Ok qs)
    → Chain file position (in_child (least_child cs) position (first_path file) (Ok None)) ps → of_places go position cs ≡ Ok ps
kids file position go n low [] ps is climbs back part deep h = ap Ok (sym (none_given file position ps h))
kids file position go n low (None ∷ cs) ps is climbs back part deep h = kids file position go n low cs ps is climbs back.1 (record { at = part.at; above = part.above }) deep h
kids file position go n low (Some x ∷ cs) ps is climbs back part deep h =
    let at = position - x.distance in
    let rest = in_child (least_child cs) position (first_path file) (Ok None) in
    let under_it : child_under x.byte n.places ≡ Some x = part.at x.byte climbs.0 ∙ under_is x.byte x cs refl in
    let above_it : child_above x.byte n.places ≡ least_child cs = part.above x.byte climbs.0 ∙ above_not x.byte x cs (omega arith) ∙ above_least x.byte (x.byte + 1) cs climbs.1 (omega arith) in
    let on = beside file position n x.byte x rest is under_it refl (ap (λ c. in_child c position (first_path file) (Ok None)) above_it) in
    let begun : or_next (deeper x.byte (first_path file at)) rest ≡ deeper x.byte (first_path file at) = next_some (deeper x.byte (first_path file at)) rest (λ e. first_is_some file at (deeper_none x.byte (first_path file at) e)) in
    let parts = run file position at x.byte rest on (first_path file at) ps (same_chain file position _ _ ps (sym begun) h) in
    let mine = deep x.distance parts.mine back.0.0 back.0.1 parts.below in
    let more = kids file position go n (x.byte + 1) cs parts.others is climbs.1 back.1
    (record {
      at = λ b l. part.at b (omega (arith, climbs.0)) ∙ under_not b x cs (omega arith);
      above = λ b l. part.above b (omega (arith, climbs.0)) ∙ above_not b x cs (omega arith);
    }) deep parts.after in
    ap (λ r. both (under x.byte r) (of_places go position cs)) mine ∙ ap (both (under x.byte (Ok parts.mine))) more ∙ ap Ok (sym parts.joined)

given_node : (file : List ℕ) (position : ℕ) (go : Go) (n : Node) (payload : List ℕ) (ps : List Path) → node_in file position ≡ Ok n
    → ((qs : List Path) → Chain file position (in_child (least_child n.places) position (first_path file) (Ok None)) qs → of_places go position n.places ≡ Ok qs)
    → Chain file position (own_or position payload (in_child (least_child n.places) position (first_path file) (Ok None))) ps → both (Ok (own position payload)) (of_places go position n.places) ≡ Ok ps
given_node file position go n [] ps is of h = ap (both (Ok [])) (of ps h)
given_node file position go n (x ∷ xs) [] is of h = cc
given_node file position go n (x ∷ xs) (p ∷ ps) is of h =
    let mine : Path = record { path = []; node = position; payload = x ∷ xs } in
    let first : mine ≡ p = let e = h.0 in cc in
    let tail : Chain file position (above_from false file position []) ps = subst (λ (q : Path). Chain file position (above_from false file position q.path) ps) (sym first) h.1 in
    let step : above_from false file position [] ≡ in_child (least_child n.places) position (first_path file) (Ok None) = ap (λ r. asked r (λ n. in_child (least_child n.places) position (first_path file) (Ok None))) is in
    ap (both (Ok (mine ∷ []))) (of ps (same_chain file position _ _ ps step tail)) ∙ ap (λ q. Ok (q ∷ ps)) first

no_err : (file : List ℕ) (position : ℕ) (w : Wrong) (ps : List Path) → Chain file position (Err w) ps → Err w ≡ Ok ps
no_err file position w [] h = cc
no_err file position w (p ∷ ps) h = let e = h.0 in cc

whole : (f : ℕ) (file : List ℕ) (position : ℕ) (ps : List Path) → position < f → Chain file position (first_path file position) ps → paths_by f file position ≡ Ok ps
whole zero file position ps l h = absurd (omega arith)
whole (suc f) file position ps l h = by (λ d qs some within c. whole f file (position - d) qs (omega arith) c) (node_in file position) refl (same_chain file position _ _ ps (first_step file position) h)
  where
    by : ((d : ℕ) (qs : List Path) → 0 < d → d ≤ position → Chain file (position - d) (first_path file (position - d)) qs → paths_by f file (position - d) ≡ Ok qs)
        → (r : Result Node Wrong) → node_in file position ≡ r → Chain file position (asked r (λ n. own_or position n.payload (in_child (least_child n.places) position (first_path file) (Ok None)))) ps
        → of_node (paths_by f file) position r ≡ Ok ps
    by deep (Err w) e h = no_err file position w ps h
    by deep (Ok n) e h =
        let s = sound file position n e in
        given_node file position (paths_by f file) n n.payload ps e
        (λ qs c. kids file position (paths_by f file) n 0 n.places qs e s.climbs s.back (record { at = λ b l. refl; above = λ b l. refl }) deep c) h

chain_of : (file : List ℕ) (root : ℕ) (last : Option (List ℕ)) (ps : List Path) → Given file root last ps → Chain file root (next_in file root last) ps
unfolding after_in
chain_of file root last [] h = h
chain_of file root last (p ∷ ps) h = (h.0, chain_of file root (Some p.path) ps h.1)

-- and the other way
given_from : (file : List ℕ) (root : ℕ) (all xs ys : List Path) (p : Path) → IsOrder file root all → all ≡ xs ++ p ∷ ys → Given file root (Some p.path) ys
given_from file root all xs [] p o e = o.goes_on xs [] p e
given_from file root all xs (y ∷ ys) p o e = (o.goes_on xs (y ∷ ys) p e, given_from file root all (xs ++ p ∷ []) ys y o (e ∙ sym (append_assoc xs (p ∷ []) (y ∷ ys))))

given_all : (file : List ℕ) (root : ℕ) (ps : List Path) → IsOrder file root ps → Given file root None ps
given_all file root [] o = o.begins
given_all file root (p ∷ ps) o = (o.begins, given_from file root (p ∷ ps) [] ps p o refl)

pub walk_is_whole : WalkIsWhole
unfolding paths
walk_is_whole file root ps = record {
  ended = λ h. whole (root + 1) file root ps (omega arith) (chain_of file root None ps h);
  given = λ h. given_all file root ps (in_order file root ps h);
}
