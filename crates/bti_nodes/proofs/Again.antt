-- What is written is parsed to the same node: what holds for every shape.
use Rattle.std.proofs.Common.{◌≡◌, ℕ, zero, suc, ◌+◌, ◌%◌, ◌^◌, ◌<◌, ◌≤◌, Bool, true, false, List, [], ◌∷◌, ◌++◌, length, take, drop, map, get_or, Option, Some, None, Result, Ok, refl, sym, ◌∙◌, ap, subst, arith, append_assoc}
use Rattle.std.proofs.Math.Seq.{drop-append_seam}
use Rattle.std.proofs.lemmas.List.{take-append-le, take_all}
use Rattle.std.proofs.lemmas.Bool.Decides.{nat_tests}
use Rattle.std.specs.Prelude.{if◌then◌else◌, nat_lt, nat_le, ◌&&◌}
use Rattle.std.specs.Result.{IsOkAnd}
use Rattle.std.specs.List.{AllByRecursion, range_with_len}
use Rattle.bti_nodes.specs.declared.table.Kind.{Kind}
use Rattle.bti_nodes.specs.declared.table.Shape.{Shape}
use Rattle.bti_nodes.specs.declared.table.Shape.TheVariants.{Leaf, Short, Single, Sparse, Dense}
use Rattle.bti_nodes.specs.declared.node.Child.{Child}
use Rattle.bti_nodes.specs.declared.node.NodeError.{NodeError}
use Rattle.bti_nodes.specs.Grammar.{Node, byte_at, node_kind_at, places_of, body_len, payload_len, distance_at, child_at_distance, child_by, node_by, in_order, each_below, points_back, all_point_back, payload_stands, refusal, node_at}
use Rattle.bti_nodes.specs.Spelling.{Parts, IsAscending, distance_of, last_letter, body}
use Rattle.bti_nodes.specs.Laws.{standing}

-- a distance that may be written in some bits, of a child that stands in the file
abbrev pub FitsIn : ℕ → ℕ → ℕ → Type 0
FitsIn width position d = (0 < d) × (d ≤ position) × (d < 2 ^ width)

abbrev pub ShapeIs : Shape → Parts → Type 0
ShapeIs Leaf p = (length p.children ≡ 0) × (0 < length p.payload)
ShapeIs Short p = (length p.children ≡ 1) × (length p.payload ≡ 0)
ShapeIs Single p = length p.children ≡ 1
ShapeIs Sparse p = (0 < length p.children) × (length p.children < 256)
ShapeIs Dense p = 0 < length p.children

-- what is known of parts that are written as a type
pub record Good (kind : Kind) (p : Parts) (position : ℕ) : Type 0 where
  pub short : length p.payload ≤ 7
  pub order : IsAscending 0 p.children
  pub last : last_letter p.children < 256
  pub fits : AllByRecursion (FitsIn kind.width position) (map distance_of p.children)
  pub shape : ShapeIs kind.shape p

abbrev pub Means : List ℕ → List Child → Node → Type 0
Means payload cs n = (n.payload ≡ payload) × (standing n.places ≡ cs)

abbrev pub Again : ℕ → Kind → Type 0
Again number kind =
    (p : Parts) (rest : List ℕ) (position : ℕ) → Good kind p position
    → IsOkAnd (node_at ((body number kind.shape kind.width (length p.payload) p.children ++ p.payload) ++ rest) position) (Means p.payload p.children)

-- no reason to refuse
no_refusal : (kind : Kind) (places position : ℕ) (bytes : List ℕ) → body_len kind.shape kind.width places + payload_len kind.shape (byte_at bytes 0 % 16) ≤ length bytes → in_order kind.shape places bytes ≡ true
    → all_point_back kind places bytes position ≡ true → payload_stands kind.shape (byte_at bytes 0 % 16) ≡ true → refusal kind places bytes position ≡ None
no_refusal kind places position bytes a b c d =
    let long : nat_lt (length bytes) (body_len kind.shape kind.width places + payload_len kind.shape (byte_at bytes 0 % 16)) ≡ false = grind (arith, nat_tests) in
    rw (long, b, c, d)

node_when : (kind : Kind) (places position : ℕ) (bytes : List ℕ) → node_kind_at bytes ≡ kind → places_of kind.shape bytes ≡ places → refusal kind places bytes position ≡ None → node_at bytes position ≡ Ok (node_by kind places bytes)
unfolding node_at
node_when kind places position bytes a b c = rw (a, b, c)

each_from : (n : ℕ) (p : ℕ → Bool) → ((i : ℕ) → i < n → p i ≡ true) → each_below n p ≡ true
each_from zero p h = refl
each_from (suc n) p h = rw (each_from n p (λ i l. h i (omega arith)), h n (omega arith))

points : (kind : Kind) (places position : ℕ) (bytes : List ℕ) → ((i : ℕ) → i < places → points_back kind.shape places position i (distance_at kind.shape kind.width places bytes i) ≡ true) → all_point_back kind places bytes position ≡ true
unfolding all_point_back
points kind places position bytes h = each_from places _ h

-- the parts of a node are read
pub again : (kind : Kind) (places position : ℕ) (bytes payload : List ℕ) (cs : List Child) → node_kind_at bytes ≡ kind → places_of kind.shape bytes ≡ places
    → body_len kind.shape kind.width places + payload_len kind.shape (byte_at bytes 0 % 16) ≤ length bytes → in_order kind.shape places bytes ≡ true
    → ((i : ℕ) → i < places → points_back kind.shape places position i (distance_at kind.shape kind.width places bytes i) ≡ true) → payload_stands kind.shape (byte_at bytes 0 % 16) ≡ true
    → take (payload_len kind.shape (byte_at bytes 0 % 16)) (drop (body_len kind.shape kind.width places) bytes) ≡ payload
    → standing (map (child_by kind places bytes) (range_with_len 0 places)) ≡ cs → IsOkAnd (node_at bytes position) (Means payload cs)
unfolding node_by
again kind places position bytes payload cs k n size order back stands paid same =
    let e = node_when kind places position bytes k n (no_refusal kind places position bytes size order (points kind places position bytes back) stands) in
    subst (λ (r : Result Node NodeError). IsOkAnd r (Means payload cs)) (sym e) (paid, same)

pub good_distance : (d position : ℕ) → 0 < d → d ≤ position → (nat_lt 0 d && nat_le d position) ≡ true
good_distance d position a b = grind (arith, nat_tests)

pub own_len : (n : ℕ) → n ≤ 7 → (if nat_lt n 8 then n else 0) ≡ n
own_len n h = grind (arith, nat_tests)

pub short_len : (n : ℕ) → n ≤ 7 → nat_lt n 8 ≡ true
short_len n h = grind (arith, nat_tests)

pub child_again : (letter d : ℕ) → 0 < d → child_at_distance letter d ≡ Some (record { byte = letter; distance = d })
child_again letter zero h = absurd (omega arith)
child_again letter (suc d) h = refl

pub take_front : (xs ys : List ℕ) (n : ℕ) → n ≡ length xs → take n (xs ++ ys) ≡ xs
take_front xs ys n e = let within : n ≤ length xs = omega arith in take-append-le n xs ys within ∙ take_all n xs (omega arith)

-- the payload behind what stands before it
pub behind : (front payload rest : List ℕ) (n m : ℕ) → n ≡ length front → m ≡ length payload → take m (drop n ((front ++ payload) ++ rest)) ≡ payload
behind front payload rest n m e f =
    ap (λ l. take m (drop n l)) (append_assoc front payload rest) ∙ ap (λ k. take m (drop k (front ++ (payload ++ rest)))) e ∙ ap (λ l. take m l) (drop-append_seam front (payload ++ rest)) ∙ take_front payload rest m f

pub fits_at : (width position : ℕ) (ds : List ℕ) (i : ℕ) → AllByRecursion (FitsIn width position) ds → i < length ds → FitsIn width position (get_or ds i 0)
fits_at width position [] i h l = absurd (omega arith)
fits_at width position (d ∷ ds) zero h l = h.0
fits_at width position (d ∷ ds) (suc i) h l = fits_at width position ds i h.1 (omega arith)

pub below_all : (width position : ℕ) (ds : List ℕ) → AllByRecursion (FitsIn width position) ds → AllByRecursion (λ d. d < 2 ^ width) ds
below_all width position [] h = tt
below_all width position (d ∷ ds) h = (h.0.2, below_all width position ds h.1)

-- two functions that agree from a on make one list
pub same_from : (f g : ℕ → Option Child) (a n : ℕ) → ((i : ℕ) → a ≤ i → i < a + n → f i ≡ g i) → map f (range_with_len a n) ≡ map g (range_with_len a n)
same_from f g a zero h = refl
same_from f g a (suc n) h =
    ap (λ x. x ∷ map f (range_with_len (a + 1) n)) (h a (omega arith) (omega arith)) ∙ ap (λ l. g a ∷ l) (same_from f g (a + 1) n (λ i l m. h i (omega arith) (omega arith)))
