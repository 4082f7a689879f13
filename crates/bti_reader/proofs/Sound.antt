-- A first and a last path are there below every node that begins.
use Rattle.std.proofs.Common.{◌≡◌, ◌≢◌, ℕ, zero, suc, ◌-◌, ◌/◌, ◌%◌, ◌<◌, ◌≤◌, List, [], ◌∷◌, ◌++◌, drop, Option, Some, None, Result, Ok, Err, refl, arith}
use Rattle.outside.specs.Pages.{page_of}
use Rattle.bti_nodes.specs.declared.node.Child.{Child}
use Rattle.bti_nodes.specs.declared.node.NodeError.{NodeError}
use Rattle.bti_nodes.specs.Grammar.{Node, node_at, Climbs, AllBack, IsBack}
use Rattle.bti_nodes.specs.Children.{child_or, any, least_child, greatest_child, HasPayloadOrChild}
use Rattle.bti_nodes.specs.Trie.{Path, Paths, Wrong, node_in, or_wrong, own, both, of_places, of_node}
use Rattle.bti_nodes.proofs.Climbing.{node_climbs}
use Rattle.bti_nodes.proofs.Full.{node_full}
use Rattle.bti_reader.specs.Searches.{Answer, deeper, asked, in_child, own_or, first_by, last_by, first_path, last_path}
use Rattle.bti_reader.proofs.Turns.{last_back}
use Rattle.bti_reader.proofs.Split.{Go}

-- what holds of a node that begins at a position
pub record Sound (file : List ℕ) (position : ℕ) (n : Node) : Type 0 where
  pub is : node_in file position ≡ Ok n
  pub climbs : Climbs 0 n.places
  pub back : AllBack position n.places
  pub full : HasPayloadOrChild n.payload n.places

node_ok : (r : Result Node NodeError) (position : ℕ) (n : Node) → or_wrong position r ≡ Ok n → r ≡ Ok n
node_ok (Err e) position n h = cc
node_ok (Ok m) position n h = cc

pub sound : (file : List ℕ) (position : ℕ) (n : Node) → node_in file position ≡ Ok n → Sound file position n
sound file position n h =
    let bytes = drop (position % 4096) (page_of file (position / 4096)) in
    let at = node_ok (node_at bytes position) position n h in
    let c = node_climbs bytes position n at in
    record { is = h; climbs = c.0; back = c.1; full = node_full bytes position n at }

pub deeper_none : (b : ℕ) (a : Answer) → deeper b a ≡ Ok None → a ≡ Ok None
deeper_none b (Err w) h = cc
deeper_none b (Ok None) h = refl
deeper_none b (Ok (Some p)) h = cc

abbrev Goes : ℕ → (ℕ → Answer) → Type 0
Goes position go = (d : ℕ) → 0 < d → d ≤ position → go (position - d) ≢ Ok None

first_there : (payload : List ℕ) (places : List (Option Child)) (position : ℕ) (go : ℕ → Answer) → HasPayloadOrChild payload places → AllBack position places → Goes position go
    → own_or position payload (in_child (least_child places) position go (Ok None)) ≢ Ok None
first_there (x ∷ xs) places position go full back goes = λ h. cc
first_there [] [] position go full back goes = absurd (omega arith)
first_there [] (None ∷ cs) position go full back goes = absurd full
first_there [] (Some c ∷ cs) position go full back goes = λ h. goes c.distance back.0.0 back.0.1 (deeper_none c.byte (go (position - c.distance)) h)

in_some : (o : Option Child) (c : Child) (position : ℕ) (go : ℕ → Answer) (other : Answer) → IsBack position o → IsBack position (Some c) → Goes position go → in_child (child_or o (Some c)) position go other ≢ Ok None
in_some None c position go other k back goes = λ h. goes c.distance back.0 back.1 (deeper_none c.byte (go (position - c.distance)) h)
in_some (Some d) c position go other back k goes = λ h. goes d.distance back.0 back.1 (deeper_none d.byte (go (position - d.distance)) h)

last_there : (payload : List ℕ) (places : List (Option Child)) (position : ℕ) (go : ℕ → Answer) → HasPayloadOrChild payload places → AllBack position places → Goes position go
    → in_child (greatest_child places) position go (own_or position payload (Ok None)) ≢ Ok None
last_there (x ∷ xs) [] position go full back goes = λ h. cc
last_there [] [] position go full back goes = absurd (omega arith)
last_there payload (None ∷ cs) position go full back goes = absurd full
last_there payload (Some c ∷ cs) position go full back goes = in_some (greatest_child cs) c position go _ (last_back position any cs back.1) back.0 goes

pub first_some : (fuel : ℕ) (file : List ℕ) (position : ℕ) → position < fuel → first_by fuel file position ≢ Ok None
first_some zero file position l = absurd (omega arith)
first_some (suc fuel) file position l = by (λ d some within. first_some fuel file (position - d) (omega arith)) (node_in file position) refl
  where
    by : Goes position (first_by fuel file) → (r : Result Node Wrong) → node_in file position ≡ r → asked r (λ n. own_or position n.payload (in_child (least_child n.places) position (first_by fuel file) (Ok None))) ≢ Ok None
    by goes (Err w) e = λ h. cc
    by goes (Ok n) e = let s = sound file position n e in first_there n.payload n.places position (first_by fuel file) s.full s.back goes

pub last_some : (fuel : ℕ) (file : List ℕ) (position : ℕ) → position < fuel → last_by fuel file position ≢ Ok None
last_some zero file position l = absurd (omega arith)
last_some (suc fuel) file position l = by (λ d some within. last_some fuel file (position - d) (omega arith)) (node_in file position) refl
  where
    by : Goes position (last_by fuel file) → (r : Result Node Wrong) → node_in file position ≡ r → asked r (λ n. in_child (greatest_child n.places) position (last_by fuel file) (own_or position n.payload (Ok None))) ≢ Ok None
    by goes (Err w) e = λ h. cc
    by goes (Ok n) e = let s = sound file position n e in last_there n.payload n.places position (last_by fuel file) s.full s.back goes

pub first_is_some : (file : List ℕ) (position : ℕ) → first_path file position ≢ Ok None
unfolding first_path
first_is_some file position = first_some (suc position) file position (omega arith)

pub last_is_some : (file : List ℕ) (position : ℕ) → last_path file position ≢ Ok None
unfolding last_path
last_is_some file position = last_some (suc position) file position (omega arith)

-- a node whose paths are known
pub record Stood (file : List ℕ) (position : ℕ) (go : Go) (ps : List Path) : Type 0 where
  pub node : Node
  pub sound : Sound file position node
  pub kids : List Path
  pub gives : of_places go position node.places ≡ Ok kids
  pub joined : ps ≡ own position node.payload ++ kids

pub stood : (file : List ℕ) (position : ℕ) (go : Go) (ps : List Path) → of_node go position (node_in file position) ≡ Ok ps → Stood file position go ps
stood file position go ps h = by (node_in file position) refl h
  where
    kids_of : (n : Node) → Sound file position n → (x : Paths) → of_places go position n.places ≡ x → both (Ok (own position n.payload)) x ≡ Ok ps → Stood file position go ps
    kids_of n s (Err w) e h = cc
    kids_of n s (Ok kids) e h = record { node = n; sound = s; kids = kids; gives = e; joined = cc }

    by : (r : Result Node Wrong) → node_in file position ≡ r → of_node go position r ≡ Ok ps → Stood file position go ps
    by (Err w) e h = cc
    by (Ok n) e h = kids_of n (sound file position n e) (of_places go position n.places) refl h
