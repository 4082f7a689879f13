-- What a node answers, from the node.
use Rattle.std.proofs.Common.{◌≡◌, ◌≢◌, ℕ, ◌<◌, Bool, true, false, List, [], ◌∷◌, length, Option, Some, None, IfSome, refl, arith}
use Rattle.std.specs.Prelude.{if◌then◌else◌}
use Rattle.outside.specs.declared.store.Part.{Part}
use Rattle.bti_nodes.specs.declared.node.Child.{Child}
use Rattle.bti_nodes.specs.Grammar.{Node, IsBack, AllBack}
use Rattle.bti_nodes.specs.Children.{child_or, if_child, first_child, last_child, any, HasPayloadOrChild}
use Rattle.bti_nodes.proofs.Places.{child_back}
use Rattle.bti_reader.specs.declared.ask.Question.{Question}
use Rattle.bti_reader.specs.declared.ask.Question.TheVariants.{End, At, Floor, Ceiling, Least, Greatest}
use Rattle.bti_reader.specs.Steps.{first_way, second_way, turn_of, hit_at, IsOpen}

either_back : (position : ℕ) (c d : Option Child) → IsBack position c → IsBack position d → IsBack position (child_or c d)
either_back position None d h k = k
either_back position (Some c) d h k = h

tested_back : (position : ℕ) (p : ℕ → Bool) (c : Option Child) → IsBack position c → IsBack position (if_child p c)
tested_back position p None h = tt
tested_back position p (Some c) h = by (p c.byte)
  where
    by : (t : Bool) → IsBack position (if t then Some c else None)
    by true = h
    by false = tt

pub first_back : (position : ℕ) (p : ℕ → Bool) (cs : List (Option Child)) → AllBack position cs → IsBack position (first_child p cs)
first_back position p [] h = tt
first_back position p (c ∷ cs) h = either_back position (if_child p c) (first_child p cs) (tested_back position p c h.0) (first_back position p cs h.1)

pub last_back : (position : ℕ) (p : ℕ → Bool) (cs : List (Option Child)) → AllBack position cs → IsBack position (last_child p cs)
last_back position p [] h = tt
last_back position p (c ∷ cs) h = either_back position (last_child p cs) (if_child p c) (last_back position p cs h.1) (tested_back position p c h.0)

pub ways_back : (position : ℕ) (question : Question) (cs : List (Option Child)) → AllBack position cs → IsBack position (first_way question cs) × IsBack position (second_way question cs)
ways_back position End cs h = (tt, tt)
ways_back position (At b) cs h = (child_back b position cs h, tt)
ways_back position (Floor b) cs h = (child_back b position cs h, last_back position _ cs h)
ways_back position (Ceiling b) cs h = (child_back b position cs h, first_back position _ cs h)
ways_back position Least cs h = (first_back position any cs h, tt)
ways_back position Greatest cs h = (last_back position any cs h, tt)

paid : (part : Part) (passed position : ℕ) (payload : List ℕ) → 0 < length payload → hit_at part passed position payload ≢ None
paid part passed position [] h = λ e. absurd (omega arith)
paid part passed position (x ∷ xs) h = λ e. cc

some_last : (c : Child) (d : Option Child) → child_or d (Some c) ≢ None
some_last c None = λ e. cc
some_last c (Some d) = λ e. cc

least_open : (part : Part) (passed position : ℕ) (payload : List ℕ) (cs : List (Option Child)) → HasPayloadOrChild payload cs → hit_at part passed position payload ≡ None → first_child any cs ≢ None
least_open part passed position payload [] h e = λ k. paid part passed position payload h e
least_open part passed position payload (None ∷ cs) h e = absurd h
least_open part passed position payload (Some c ∷ cs) h e = λ k. cc

greatest_open : (part : Part) (passed position : ℕ) (payload : List ℕ) (cs : List (Option Child)) → HasPayloadOrChild payload cs → last_child any cs ≡ None → hit_at part passed position payload ≢ None
greatest_open part passed position payload [] h e = paid part passed position payload h
greatest_open part passed position payload (None ∷ cs) h e = absurd h
greatest_open part passed position payload (Some c ∷ cs) h e = absurd (some_last c (last_child any cs) e)

pub is_open : (part : Part) (question : Question) (passed position : ℕ) (n : Node) → HasPayloadOrChild n.payload n.places → IsOpen question (turn_of part question passed position n)
is_open part End passed position n h = tt
is_open part (At b) passed position n h = tt
is_open part (Floor b) passed position n h = tt
is_open part (Ceiling b) passed position n h = tt
is_open part Least passed position n h = least_open part passed position n.payload n.places h
is_open part Greatest passed position n h = greatest_open part passed position n.payload n.places h

-- a node's own path is as long as the way to it
pub hit_len : (part : Part) (passed position : ℕ) (payload : List ℕ) → IfSome (hit_at part passed position payload) (λ h. h.path_len ≡ passed)
hit_len part passed position [] = tt
hit_len part passed position (x ∷ xs) = refl
