-- The order of encodings with something behind them.
use Rattle.std.proofs.Common.{rules, ◌≡◌, ℕ, Bool, true, false, List, [], ◌∷◌, ◌++◌, arith, refl, sym, ◌∙◌, ap, subst, append_assoc}
use Rattle.std.specs.Ordering.{nat_cmp, ordering_then}
use Rattle.std.specs.declared.cmp.Ordering.{Ordering}
use Rattle.std.specs.Cmp.Lexicographic.{slice_cmp}
use Rattle.key_types.specs.Kinds.{Kind, tiny, small, int, big, text, blob, boolean, tuple, reversed, Kinds, end, more, Val, number, bytes, truth, values, Vals, none, and, Fits, EachFits, AreBytes, order_by, orders_by}
use Rattle.byte_comparable.specs.Encoding.{encoding, components, escaped, LeadFits}
use Rattle.byte_comparable.proofs.Compare.{apart, then_then, bytes_both, bytes_complement, Follows, follows_bytes, KeptAs}
use Rattle.byte_comparable.proofs.Leads.{leads}
use Rattle.byte_comparable.proofs.Views.{as_number}
use Rattle.byte_comparable.proofs.Zeros.{plain_kept, plain_bytes, escaped_plain}
use Rattle.byte_comparable.proofs.Turn.{turn_kept}
use Rattle.byte_comparable.proofs.Numbers.{tiny_kept, small_kept, int_kept, high_are_bytes}
use Rattle.byte_comparable.proofs.Long.{big_kept, big_are_bytes}

text_kept : (a b : List ℕ) → KeptAs (escaped a) (escaped b) (slice_cmp nat_cmp a b)
text_kept a b = rw (escaped_plain a, escaped_plain b) (plain_kept a b)

pub text_bytes : (a : List ℕ) → AreBytes a → AreBytes (escaped a)
text_bytes a h = rw (escaped_plain a) (plain_bytes a h)

truth_kept : (a b : Bool) → KeptAs (encoding boolean (truth a)) (encoding boolean (truth b)) (order_by boolean (truth a) (truth b))
truth_kept true true p q h k = refl
truth_kept true false p q h k = refl
truth_kept false true p q h k = refl
truth_kept false false p q h k = refl

truth_bytes : (a : Bool) → AreBytes (encoding boolean (truth a))
truth_bytes true = (omega arith, tt)
truth_bytes false = (omega arith, tt)

-- ---- encodings are bytes

mutual
  pub are_bytes : (t : Kind) (v : Val) → Fits t v → AreBytes (encoding t v)
  are_bytes tiny v f = let n = as_number tiny v tt f in subst (λ (x : Val). AreBytes (encoding tiny x)) (sym n.1) (high_are_bytes 1 _)
  are_bytes small v f = let n = as_number small v tt f in subst (λ (x : Val). AreBytes (encoding small x)) (sym n.1) (high_are_bytes 2 _)
  are_bytes int v f = let n = as_number int v tt f in subst (λ (x : Val). AreBytes (encoding int x)) (sym n.1) (high_are_bytes 4 _)
  are_bytes big (number n) f = big_are_bytes n f
  are_bytes big (bytes b) f = absurd f
  are_bytes big (truth b) f = absurd f
  are_bytes big (values b) f = absurd f
  are_bytes text (bytes b) f = text_bytes b f.1
  are_bytes text (number n) f = absurd f
  are_bytes text (truth b) f = absurd f
  are_bytes text (values b) f = absurd f
  are_bytes blob (bytes b) f = text_bytes b f
  are_bytes blob (number n) f = absurd f
  are_bytes blob (truth b) f = absurd f
  are_bytes blob (values b) f = absurd f
  are_bytes boolean (truth b) f = truth_bytes b
  are_bytes boolean (number n) f = absurd f
  are_bytes boolean (bytes b) f = absurd f
  are_bytes boolean (values b) f = absurd f
  are_bytes (tuple ts) (values vs) f = bytes_both (components ts vs) (0x38 ∷ []) (all_are_bytes ts vs (leads ts vs f)) (omega arith, tt)
  are_bytes (tuple ts) (number n) f = absurd f
  are_bytes (tuple ts) (bytes b) f = absurd f
  are_bytes (tuple ts) (truth b) f = absurd f
  are_bytes (reversed t) v f = bytes_complement (encoding t v)

  pub all_are_bytes : (ts : Kinds) (vs : Vals) → LeadFits ts vs → AreBytes (components ts vs)
  all_are_bytes end vs f = tt
  all_are_bytes (more t ts) none f = tt
  all_are_bytes (more t ts) (and v vs) f = (omega arith, bytes_both (encoding t v) (components ts vs) (are_bytes t v f.0) (all_are_bytes ts vs f.1))

pub follow_components : (ts : Kinds) (vs : Vals) (p : List ℕ) → LeadFits ts vs → Follows p → Follows (components ts vs ++ p)
follow_components end vs p f h = h
follow_components (more t ts) none p f h = h
follow_components (more t ts) (and v vs) p f h =
    ((omega arith, omega arith), bytes_both (encoding t v ++ components ts vs) p (bytes_both (encoding t v) (components ts vs) (are_bytes t v f.0) (all_are_bytes ts vs f.1)) (follows_bytes p h))

-- ---- the order

abbrev pub Keeps : Kind → Val → Val → Type 0
Keeps t a b = KeptAs (encoding t a) (encoding t b) (order_by t a b)

-- one component, and those behind it
one_more : (e1 e2 c1 c2 p q : List ℕ) (o os : Ordering) → KeptAs e1 e2 o → Follows (c1 ++ p) → Follows (c2 ++ q) → apart (c1 ++ p) (c2 ++ q) ≡ ordering_then os (apart p q)
    → apart ((e1 ++ c1) ++ p) ((e2 ++ c2) ++ q) ≡ ordering_then (ordering_then o os) (apart p q)
one_more e1 e2 c1 c2 p q o os kept f g rest =
    rw (append_assoc e1 c1 p, append_assoc e2 c2 q) (kept (c1 ++ p) (c2 ++ q) f g ∙ ap (λ r. ordering_then o r) rest ∙ sym (then_then o os (apart p q)))

closed : (c1 c2 : List ℕ) (o : Ordering) → KeptAs c1 c2 o → KeptAs (c1 ++ 0x38 ∷ []) (c2 ++ 0x38 ∷ []) o
closed c1 c2 o kept p q h k =
    rw (append_assoc c1 (0x38 ∷ []) p, append_assoc c2 (0x38 ∷ []) q) (kept (0x38 ∷ p) (0x38 ∷ q) ((omega arith, omega arith), follows_bytes p h) ((omega arith, omega arith), follows_bytes q k))

mutual
  pub keeps : (t : Kind) (a b : Val) → Fits t a → Fits t b → Keeps t a b
  keeps tiny (number m) (number n) f g = tiny_kept m n f g
  keeps small (number m) (number n) f g = small_kept m n f g
  keeps int (number m) (number n) f g = int_kept m n f g
  keeps big (number m) (number n) f g = big_kept m n f g
  keeps text (bytes m) (bytes n) f g = text_kept m n
  keeps blob (bytes m) (bytes n) f g = text_kept m n
  keeps boolean (truth m) (truth n) f g = truth_kept m n
  keeps (tuple ts) (values xs) (values ys) f g = closed (components ts xs) (components ts ys) (orders_by ts xs ys) (all_keep ts xs ys f g)
  keeps (reversed t) a b f g = turn_kept (encoding t a) (encoding t b) (order_by t a b) (are_bytes t a f) (are_bytes t b g) (keeps t a b f g)
  keeps t a b f g = search rules

  pub all_keep : (ts : Kinds) (xs ys : Vals) → EachFits ts xs → EachFits ts ys → KeptAs (components ts xs) (components ts ys) (orders_by ts xs ys)
  all_keep end none none f g p q h k = refl
  all_keep end none (and y ys) f g p q h k = absurd g
  all_keep end (and x xs) ys f g p q h k = absurd f
  all_keep (more t ts) none ys f g p q h k = absurd f
  all_keep (more t ts) (and x xs) none f g p q h k = absurd g
  all_keep (more t ts) (and x xs) (and y ys) f g p q h k =
      one_more (encoding t x) (encoding t y) (components ts xs) (components ts ys) p q (order_by t x y) (orders_by ts xs ys) (keeps t x y f.0 g.0)
      (follow_components ts xs p (leads ts xs f.1) h) (follow_components ts ys q (leads ts ys g.1) k) (all_keep ts xs ys f.1 g.1 p q h k)
