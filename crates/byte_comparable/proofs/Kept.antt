-- What the strings of a schema keep.
use Rattle.std.proofs.Common.{◌≡◌, ℕ, ◌+◌, List, [], ◌∷◌, ◌++◌, length, Option, None, Some, IfSome, arith, refl, sym, ◌∙◌, ap, subst, append_assoc, length-append}
use Rattle.std.proofs.lemmas.List.{append-nil}
use Rattle.std.specs.Ordering.{nat_cmp, ordering_then}
use Rattle.std.specs.declared.cmp.Ordering.{Ordering}
use Rattle.std.specs.declared.cmp.Ordering.TheVariants.{Less, Equal, Greater}
use Rattle.std.specs.Cmp.Lexicographic.{slice_cmp}
use Rattle.key_types.specs.Kinds.{Kind, Kinds, end, more, Val, Vals, none, and, Fits, EachFits, AreBytes, order_by, orders_by}
use Rattle.byte_comparable.specs.Encoding.{encoding, components, key_string, bound_with, LeadFits}
use Rattle.byte_comparable.specs.Order.{Key, KeyFits, IsDelimiter, key_order, lead_order, row_string, bound_order, bound_string_of, string_of_key, within_order, within_string}
use Rattle.byte_comparable.proofs.Compare.{apart, apart_self, slice_apart, slice_front, then_then, then_equal, bytes_both, bytes_behind, Follows, follows_bytes}
use Rattle.byte_comparable.proofs.Exactly.{both_equal, exactly, exactly_all}
use Rattle.byte_comparable.proofs.Compose.{keeps, all_keep, are_bytes, all_are_bytes, follow_components}
use Rattle.byte_comparable.proofs.Leads.{leads}

-- ---- from where they part to the order

slice_by : (r : Ordering) (xs ys p q : List ℕ) → (r ≡ Equal → xs ≡ ys) → apart (xs ++ p) (ys ++ q) ≡ ordering_then r (apart p q) → slice_cmp nat_cmp (xs ++ p) (ys ++ q) ≡ ordering_then r (slice_cmp nat_cmp p q)
slice_by Less xs ys p q same e = slice_apart (xs ++ p) (ys ++ q) (λ h. cc) ∙ e
slice_by Equal xs ys p q same e = ap (λ l. slice_cmp nat_cmp (l ++ p) (ys ++ q)) (same refl) ∙ slice_front ys p q
slice_by Greater xs ys p q same e = slice_apart (xs ++ p) (ys ++ q) (λ h. cc) ∙ e

all_slices : (ts : Kinds) (xs ys : Vals) (p q : List ℕ) → EachFits ts xs → EachFits ts ys → Follows p → Follows q
    → slice_cmp nat_cmp (components ts xs ++ p) (components ts ys ++ q) ≡ ordering_then (orders_by ts xs ys) (slice_cmp nat_cmp p q)
all_slices ts xs ys p q f g h k = slice_by (orders_by ts xs ys) (components ts xs) (components ts ys) p q (λ e. ap (components ts) (exactly_all ts xs ys f g e)) (all_keep ts xs ys f g p q h k)

-- ---- keys

closing : (rest : List ℕ) → AreBytes rest → Follows (0x38 ∷ rest)
closing rest h = ((omega arith, omega arith), h)

last_bytes : AreBytes (0x38 ∷ [])
last_bytes = (omega arith, tt)

pub string_bytes : (ts : Kinds) (xs : Vals) → EachFits ts xs → AreBytes (key_string ts xs)
string_bytes ts xs f = bytes_both (components ts xs) (0x38 ∷ []) (all_are_bytes ts xs (leads ts xs f)) last_bytes

pub string_order : (ts : Kinds) (xs ys : Vals) (p q : List ℕ) → EachFits ts xs → EachFits ts ys → AreBytes p → AreBytes q
    → slice_cmp nat_cmp (key_string ts xs ++ p) (key_string ts ys ++ q) ≡ ordering_then (orders_by ts xs ys) (slice_cmp nat_cmp p q)
string_order ts xs ys p q f g h k =
    rw (append_assoc (components ts xs) (0x38 ∷ []) p, append_assoc (components ts ys) (0x38 ∷ []) q) (all_slices ts xs ys (0x38 ∷ p) (0x38 ∷ q) f g (closing p h) (closing q k))

within_bytes : (cs : Kinds) (c : Option Vals) → IfSome c (EachFits cs) → AreBytes (within_string cs c)
within_bytes cs None f = tt
within_bytes cs (Some c) f = string_bytes cs c f

-- nothing stands before every string
pub before : (xs : List ℕ) (s : ℕ) → slice_cmp nat_cmp [] (xs ++ s ∷ []) ≡ Less
before [] s = refl
before (x ∷ xs) s = refl

pub behind : (xs : List ℕ) (s : ℕ) → slice_cmp nat_cmp (xs ++ s ∷ []) [] ≡ Greater
behind [] s = refl
behind (x ∷ xs) s = refl

within_kept : (cs : Kinds) (c d : Option Vals) → IfSome c (EachFits cs) → IfSome d (EachFits cs) → slice_cmp nat_cmp (within_string cs c) (within_string cs d) ≡ within_order cs c d
within_kept cs None None f g = refl
within_kept cs None (Some d) f g = before (components cs d) 0x38
within_kept cs (Some c) None f g = behind (components cs c) 0x38
within_kept cs (Some c) (Some d) f g = all_slices cs c d (0x38 ∷ []) (0x38 ∷ []) f g (closing [] tt) (closing [] tt) ∙ then_equal (orders_by cs c d)

pub keys_kept : (ps cs : Kinds) (a b : Key) → KeyFits ps cs a → KeyFits ps cs b → slice_cmp nat_cmp (string_of_key ps cs a) (string_of_key ps cs b) ≡ key_order ps cs a b
keys_kept ps cs a b f g =
    string_order ps a.partition b.partition (within_string cs a.clustering) (within_string cs b.clustering) f.0 g.0 (within_bytes cs a.clustering f.1) (within_bytes cs b.clustering g.1)
    ∙ ap (λ r. ordering_then (orders_by ps a.partition b.partition) r) (within_kept cs a.clustering b.clustering f.1 g.1)

-- ---- prefixes

longer : (xs : List ℕ) (s : ℕ) (tail : List ℕ) → xs ≡ xs ++ s ∷ tail → ⊥
longer xs s tail h = let l : length xs ≡ length xs + length (s ∷ tail) = ap length h ∙ length-append xs (s ∷ tail) in absurd (omega arith)

pub weakly : (t : Kind) (a b : Val) (s : ℕ) (tail : List ℕ) → Fits t a → Fits t b → encoding t b ≡ encoding t a ++ s ∷ tail → IsDelimiter s → ⊥
weakly t a b s tail f g e parts =
    let inside : AreBytes (encoding t a ++ s ∷ tail) = subst AreBytes e (are_bytes t b g) in
    let rest = bytes_behind (encoding t a) (s ∷ tail) inside in
    let p = s ∷ (tail ++ 0x38 ∷ []) in
    let one : encoding t b ++ 0x38 ∷ [] ≡ encoding t a ++ p = ap (λ l. l ++ 0x38 ∷ []) e ∙ append_assoc (encoding t a) (s ∷ tail) (0x38 ∷ []) in
    let equal = both_equal (order_by t a b) (apart p (0x38 ∷ []))
    (sym (keeps t a b f g p (0x38 ∷ []) (parts, bytes_both tail (0x38 ∷ []) rest.1 last_bytes) (closing [] tt)) ∙ ap (apart (encoding t a ++ p)) one ∙ apart_self (encoding t a ++ p)) in
    longer (encoding t a) s tail (ap (encoding t) (exactly t a b f g equal.0) ∙ e)

-- one string begins another only where the values are the same
same_front : (ts : Kinds) (xs ys : Vals) (p q : List ℕ) → EachFits ts xs → EachFits ts ys → AreBytes p → AreBytes q → apart (key_string ts xs ++ p) (key_string ts ys ++ q) ≡ Equal
    → (xs ≡ ys) × (apart p q ≡ Equal)
same_front ts xs ys p q f g h k e =
    let kept = all_keep ts xs ys f g (0x38 ∷ p) (0x38 ∷ q) (closing p h) (closing q k) in
    let both = both_equal (orders_by ts xs ys) (apart p q)
    (sym kept ∙ ap (λ l. apart l (components ts ys ++ 0x38 ∷ q)) (sym (append_assoc (components ts xs) (0x38 ∷ []) p)) ∙ ap (apart (key_string ts xs ++ p)) (sym (append_assoc (components ts ys) (0x38 ∷ []) q)) ∙ e) in
    (exactly_all ts xs ys f g both.0, both.1)

pub whole : (ps cs : Kinds) (p1 c1 p2 c2 : Vals) (tail : List ℕ) → EachFits ps p1 → EachFits cs c1 → EachFits ps p2 → EachFits cs c2
    → row_string ps cs p2 c2 ≡ row_string ps cs p1 c1 ++ tail → (p1 ≡ p2) × (c1 ≡ c2)
whole ps cs p1 c1 p2 c2 tail f1 g1 f2 g2 e =
    let r1 = key_string cs c1 in
    let r2 = key_string cs c2 in
    let all : AreBytes (row_string ps cs p1 c1 ++ tail) = subst AreBytes e (bytes_both (key_string ps p2) r2 (string_bytes ps p2 f2) (string_bytes cs c2 g2)) in
    let behind = bytes_behind (row_string ps cs p1 c1) tail all in
    let apart_none : apart (key_string ps p1 ++ (r1 ++ tail)) (key_string ps p2 ++ r2) ≡ Equal =
    ap (λ l. apart l (key_string ps p2 ++ r2)) (sym (append_assoc (key_string ps p1) r1 tail) ∙ sym e) ∙ apart_self (key_string ps p2 ++ r2) in
    let first = same_front ps p1 p2 (r1 ++ tail) r2 f1 f2 (bytes_both r1 tail (string_bytes cs c1 g1) behind) (string_bytes cs c2 g2) apart_none in
    let second = same_front cs c1 c2 tail [] g1 g2 behind tt (ap (apart (r1 ++ tail)) (append-nil r2) ∙ first.1) in
    (first.0, second.0)

-- ---- ranges

leads_kept : (last : ℕ) (o : Ordering) → Follows (last ∷ []) → ((rest : List ℕ) → slice_cmp nat_cmp (0x40 ∷ rest) (last ∷ []) ≡ o) → slice_cmp nat_cmp (0x38 ∷ []) (last ∷ []) ≡ o
    → (ts : Kinds) (xs ys : Vals) → EachFits ts xs → LeadFits ts ys → slice_cmp nat_cmp (components ts xs ++ 0x38 ∷ []) (components ts ys ++ last ∷ []) ≡ ordering_then (lead_order ts xs ys) o
leads_kept last o w next stop end none none f g = stop
leads_kept last o w next stop end none (and y ys) f g = stop
leads_kept last o w next stop end (and x xs) ys f g = absurd f
leads_kept last o w next stop (more t ts) none ys f g = absurd f
leads_kept last o w next stop (more t ts) (and x xs) none f g = next _
leads_kept last o w next stop (more t ts) (and x xs) (and y ys) f g =
    let p = components ts xs ++ 0x38 ∷ [] in
    let q = components ts ys ++ last ∷ [] in
    let one = slice_by (order_by t x y) (encoding t x) (encoding t y) p q (λ e. ap (encoding t) (exactly t x y f.0 g.0 e))
    (keeps t x y f.0 g.0 p q (follow_components ts xs (0x38 ∷ []) (leads ts xs f.1) (closing [] tt)) (follow_components ts ys (last ∷ []) g.1 w)) in
    rw (append_assoc (encoding t x) (components ts xs) (0x38 ∷ []), append_assoc (encoding t y) (components ts ys) (last ∷ []))
    (one ∙ ap (λ r. ordering_then (order_by t x y) r) (leads_kept last o w next stop ts xs ys f.1 g.1) ∙ sym (then_then (order_by t x y) (lead_order ts xs ys) o))

pub ranged : (last : ℕ) (o : Ordering) → Follows (last ∷ []) → ((rest : List ℕ) → slice_cmp nat_cmp (0x40 ∷ rest) (last ∷ []) ≡ o) → slice_cmp nat_cmp (0x38 ∷ []) (last ∷ []) ≡ o
    → (ps cs : Kinds) (p1 c1 p2 c2 : Vals) → EachFits ps p1 → EachFits cs c1 → EachFits ps p2 → LeadFits cs c2
    → slice_cmp nat_cmp (row_string ps cs p1 c1) (bound_string_of last ps cs p2 c2) ≡ ordering_then (bound_order ps cs p1 c1 p2 c2) o
ranged last o w next stop ps cs p1 c1 p2 c2 f1 g1 f2 g2 =
    string_order ps p1 p2 (key_string cs c1) (bound_with last cs c2) f1 f2 (string_bytes cs c1 g1) (bytes_both (components cs c2) (last ∷ []) (all_are_bytes cs c2 g2) (follows_bytes (last ∷ []) w))
    ∙ ap (λ r. ordering_then (orders_by ps p1 p2) r) (leads_kept last o w next stop cs c1 c2 g1 g2)
    ∙ sym (then_then (orders_by ps p1 p2) (lead_order cs c1 c2) o)
