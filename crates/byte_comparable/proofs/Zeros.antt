-- Texts and blobs: byte by byte, and the order.
use Rattle.std.proofs.Common.{◌≡◌, ℕ, zero, suc, ◌==◌, Bool, true, false, List, [], ◌∷◌, ◌++◌, arith, refl, sym, ◌∙◌, ap, append_assoc}
use Rattle.std.specs.Prelude.{replicate, if◌then◌else◌, ◌||◌}
use Rattle.std.specs.List.{list_any}
use Rattle.std.proofs.lemmas.Bool.Decides.{nat_tests}
use Rattle.std.specs.Ordering.{nat_cmp, ordering_then}
use Rattle.std.specs.declared.cmp.Ordering.{Ordering}
use Rattle.std.specs.declared.cmp.Ordering.TheVariants.{Less, Equal, Greater}
use Rattle.std.specs.Cmp.Lexicographic.{slice_cmp}
use Rattle.key_types.specs.Kinds.{AreBytes}
use Rattle.byte_comparable.specs.Encoding.{escaped, escaped_after, zero_run}
use Rattle.byte_comparable.specs.Bytewise.{bytewise}
use Rattle.byte_comparable.proofs.Compare.{apart, Follows, below, above}

-- one byte after the other, behind a zero or not
abbrev mutual
  pub plain : List ℕ → List ℕ
  plain [] = 0 ∷ []
  plain (zero ∷ bs) = 0 ∷ behind_zero bs
  plain (suc b ∷ bs) = suc b ∷ plain bs

  pub behind_zero : List ℕ → List ℕ
  behind_zero [] = 0xFE ∷ []
  behind_zero (zero ∷ bs) = 0xFE ∷ behind_zero bs
  behind_zero (suc b ∷ bs) = 0xFF ∷ suc b ∷ plain bs

-- ---- the order

abbrev Kept : (List ℕ → List ℕ) → List ℕ → List ℕ → List ℕ → List ℕ → Type 0
Kept form xs ys p q = apart (form xs ++ p) (form ys ++ q) ≡ ordering_then (slice_cmp nat_cmp xs ys) (apart p q)

first_less : (ps ys qs : List ℕ) → Follows ps → apart ps (behind_zero ys ++ qs) ≡ Less
first_less [] ys qs h = absurd h
first_less (s ∷ ps) [] qs h = ap (λ o. ordering_then o (apart ps qs)) (below s 0xFE (omega arith))
first_less (s ∷ ps) (zero ∷ ys) qs h = ap (λ o. ordering_then o (apart ps (behind_zero ys ++ qs))) (below s 0xFE (omega arith))
first_less (s ∷ ps) (suc y ∷ ys) qs h = ap (λ o. ordering_then o (apart ps (suc y ∷ plain ys ++ qs))) (below s 0xFF (omega arith))

first_more : (xs ps qs : List ℕ) → Follows qs → apart (behind_zero xs ++ ps) qs ≡ Greater
first_more xs ps [] h = absurd h
first_more [] ps (s ∷ qs) h = ap (λ o. ordering_then o (apart ps qs)) (above 0xFE s (omega arith))
first_more (zero ∷ xs) ps (s ∷ qs) h = ap (λ o. ordering_then o (apart (behind_zero xs ++ ps) qs)) (above 0xFE s (omega arith))
first_more (suc x ∷ xs) ps (s ∷ qs) h = ap (λ o. ordering_then o (apart (suc x ∷ plain xs ++ ps) qs)) (above 0xFF s (omega arith))

regroup : (o r s t : Ordering) → r ≡ ordering_then s t → ordering_then o r ≡ ordering_then (ordering_then o s) t
regroup Less r s t h = refl
regroup Equal r s t h = h
regroup Greater r s t h = refl

less_first : (y : ℕ) (o : Ordering) → ordering_then (nat_cmp 0 (suc y)) o ≡ Less
less_first y o = ap (λ r. ordering_then r o) (below 0 (suc y) (omega arith))

more_first : (x : ℕ) (o : Ordering) → ordering_then (nat_cmp (suc x) 0) o ≡ Greater
more_first x o = ap (λ r. ordering_then r o) (above (suc x) 0 (omega arith))

less_then : (y : ℕ) (s t : Ordering) → ordering_then (ordering_then (nat_cmp 0 (suc y)) s) t ≡ Less
less_then y s t = ap (λ r. ordering_then r t) (less_first y s)

more_then : (x : ℕ) (s t : Ordering) → ordering_then (ordering_then (nat_cmp (suc x) 0) s) t ≡ Greater
more_then x s t = ap (λ r. ordering_then r t) (more_first x s)

mutual
  pub plain_kept : (xs ys p q : List ℕ) → Follows p → Follows q → Kept plain xs ys p q
  plain_kept [] [] p q h k = refl
  plain_kept [] (zero ∷ ys) p q h k = first_less p ys q h
  plain_kept [] (suc y ∷ ys) p q h k = less_first y _
  plain_kept (zero ∷ xs) [] p q h k = first_more xs p q k
  plain_kept (suc x ∷ xs) [] p q h k = more_first x _
  plain_kept (zero ∷ xs) (zero ∷ ys) p q h k = behind_kept xs ys p q h k
  plain_kept (zero ∷ xs) (suc y ∷ ys) p q h k = less_first y _ ∙ sym (less_then y _ _)
  plain_kept (suc x ∷ xs) (zero ∷ ys) p q h k = more_first x _ ∙ sym (more_then x _ _)
  plain_kept (suc x ∷ xs) (suc y ∷ ys) p q h k = regroup (nat_cmp (suc x) (suc y)) _ _ _ (plain_kept xs ys p q h k)

  behind_kept : (xs ys p q : List ℕ) → Follows p → Follows q → Kept behind_zero xs ys p q
  behind_kept [] [] p q h k = refl
  behind_kept [] (zero ∷ ys) p q h k = first_less p ys q h
  behind_kept [] (suc y ∷ ys) p q h k = refl
  behind_kept (zero ∷ xs) [] p q h k = first_more xs p q k
  behind_kept (suc x ∷ xs) [] p q h k = refl
  behind_kept (zero ∷ xs) (zero ∷ ys) p q h k = behind_kept xs ys p q h k
  behind_kept (zero ∷ xs) (suc y ∷ ys) p q h k = sym (less_then y _ _)
  behind_kept (suc x ∷ xs) (zero ∷ ys) p q h k = sym (more_then x _ _)
  behind_kept (suc x ∷ xs) (suc y ∷ ys) p q h k = regroup (nat_cmp (suc x) (suc y)) _ _ _ (plain_kept xs ys p q h k)

-- ---- the two forms are one

longer : (k : ℕ) (x : ℕ) (rest : List ℕ) → replicate (suc k) x ++ rest ≡ replicate k x ++ x ∷ rest
longer zero x rest = refl
longer (suc k) x rest = ap (λ l. x ∷ l) (longer k x rest)

all_again : (k x : ℕ) → replicate k x ++ x ∷ [] ≡ replicate (suc k) x
all_again zero x = refl
all_again (suc k) x = ap (λ l. x ∷ l) (all_again k x)

no_zero : (k b : ℕ) (bs : List ℕ) → escaped_after k (suc b ∷ bs) ≡ zero_run k ++ suc b ∷ escaped bs
no_zero k b bs = let e : (suc b == 0) ≡ false = grind (arith, nat_tests) in rw e refl

mutual
  pub escaped_plain : (bs : List ℕ) → escaped bs ≡ plain bs
  escaped_plain [] = refl
  escaped_plain (zero ∷ bs) = escaped_behind 0 bs
  escaped_plain (suc b ∷ bs) = no_zero 0 b bs ∙ ap (λ l. suc b ∷ l) (escaped_plain bs)

  escaped_behind : (k : ℕ) (bs : List ℕ) → escaped_after (suc k) bs ≡ 0 ∷ (replicate k 0xFE ++ behind_zero bs)
  escaped_behind k [] = ap (λ l. 0 ∷ l) (sym (all_again k 0xFE))
  escaped_behind k (zero ∷ bs) = escaped_behind (suc k) bs ∙ ap (λ l. 0 ∷ l) (longer k 0xFE (behind_zero bs))
  escaped_behind k (suc b ∷ bs) =
      no_zero (suc k) b bs ∙ ap (λ l. 0 ∷ l) (append_assoc (replicate k 0xFE) (0xFF ∷ []) (suc b ∷ escaped bs))
      ∙ ap (λ l. 0 ∷ (replicate k 0xFE ++ 0xFF ∷ suc b ∷ l)) (escaped_plain bs)

mutual
  pub plain_bytes : (bs : List ℕ) → AreBytes bs → AreBytes (plain bs)
  plain_bytes [] h = (omega arith, tt)
  plain_bytes (zero ∷ bs) h = (omega arith, behind_bytes bs h.1)
  plain_bytes (suc b ∷ bs) h = (h.0, plain_bytes bs h.1)

  behind_bytes : (bs : List ℕ) → AreBytes bs → AreBytes (behind_zero bs)
  behind_bytes [] h = (omega arith, tt)
  behind_bytes (zero ∷ bs) h = (omega arith, behind_bytes bs h.1)
  behind_bytes (suc b ∷ bs) h = (omega arith, (h.0, plain_bytes bs h.1))

-- ---- as the code goes

is_zero : (b : ℕ) → (suc b == 0) ≡ false
is_zero b = grind (arith, nat_tests)

mutual
  bytewise_plain : (bs : List ℕ) → bytewise false bs ≡ plain bs
  bytewise_plain [] = refl
  bytewise_plain (zero ∷ bs) = ap (λ l. 0 ∷ l) (bytewise_behind bs)
  bytewise_plain (suc b ∷ bs) = ap (λ t. suc b ∷ bytewise t bs) (is_zero b) ∙ ap (λ l. suc b ∷ l) (bytewise_plain bs)

  bytewise_behind : (bs : List ℕ) → bytewise true bs ≡ behind_zero bs
  bytewise_behind [] = refl
  bytewise_behind (zero ∷ bs) = ap (λ l. 0xFE ∷ l) (bytewise_behind bs)
  bytewise_behind (suc b ∷ bs) = rw (is_zero b) (ap (λ l. 0xFF ∷ suc b ∷ l) (bytewise_plain bs))

pub escaped_bytewise : (bs : List ℕ) → bytewise false bs ≡ escaped bs
escaped_bytewise bs = bytewise_plain bs ∙ sym (escaped_plain bs)

-- ---- without zeros

neither : (b : ℕ) (bs : List ℕ) → list_any (λ x. x == 0) (b ∷ bs) ≡ false → ((b == 0) ≡ false) × (list_any (λ x. x == 0) bs ≡ false)
neither b bs h = both (b == 0) (list_any (λ x. x == 0) bs) h
  where
    both : (p q : Bool) → (p || q) ≡ false → (p ≡ false) × (q ≡ false)
    both true q h = cc
    both false q h = (refl, h)

pub escaped_whole : (bs : List ℕ) → list_any (λ x. x == 0) bs ≡ false → escaped bs ≡ bs ++ 0 ∷ []
escaped_whole [] h = refl
escaped_whole (b ∷ bs) h =
    let parts = neither b bs h in
    ap (λ t. if t then escaped_after 1 bs else b ∷ escaped_after 0 bs) parts.0 ∙ ap (λ l. b ∷ l) (escaped_whole bs parts.1)
