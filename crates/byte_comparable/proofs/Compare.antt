-- Where two byte strings part.
use Rattle.std.proofs.Common.{◌≡◌, ◌≢◌, ℕ, ◌-◌, ◌<◌, List, [], ◌∷◌, ◌++◌, length, arith, refl, sym, ◌∙◌, ap}
use Rattle.std.proofs.lemmas.Bool.Decides.{nat_tests}
use Rattle.std.specs.Ordering.{nat_cmp, ordering_then, ordering_reverse}
use Rattle.std.specs.declared.cmp.Ordering.{Ordering}
use Rattle.std.specs.declared.cmp.Ordering.TheVariants.{Less, Equal, Greater}
use Rattle.std.specs.Cmp.Lexicographic.{slice_cmp}
use Rattle.key_types.specs.Kinds.{AreBytes}
use Rattle.byte_comparable.specs.Encoding.{complement}
use Rattle.byte_comparable.specs.Order.{IsDelimiter}

-- the first two bytes that differ decide; the end of either decides nothing
abbrev pub apart : List ℕ → List ℕ → Ordering
apart [] ys = Equal
apart (x ∷ xs) [] = Equal
apart (x ∷ xs) (y ∷ ys) = ordering_then (nat_cmp x y) (apart xs ys)

pub then_then : (r s t : Ordering) → ordering_then (ordering_then r s) t ≡ ordering_then r (ordering_then s t)
then_then Less s t = refl
then_then Equal s t = refl
then_then Greater s t = refl

pub then_equal : (r : Ordering) → ordering_then r Equal ≡ r
then_equal Less = refl
then_equal Equal = refl
then_equal Greater = refl

pub reverse_then : (r s : Ordering) → ordering_reverse (ordering_then r s) ≡ ordering_then (ordering_reverse r) (ordering_reverse s)
reverse_then Less s = refl
reverse_then Equal s = refl
reverse_then Greater s = refl

pub reverse_twice : (r : Ordering) → ordering_reverse (ordering_reverse r) ≡ r
reverse_twice Less = refl
reverse_twice Equal = refl
reverse_twice Greater = refl

pub same : (x : ℕ) → nat_cmp x x ≡ Equal
same x = grind (arith, nat_tests)

pub below : (x y : ℕ) → x < y → nat_cmp x y ≡ Less
below x y h = grind (arith, nat_tests)

pub above : (x y : ℕ) → y < x → nat_cmp x y ≡ Greater
above x y h = grind (arith, nat_tests)

-- ---- a difference decides the order

decided : (o s a : Ordering) → (a ≢ Equal → s ≡ a) → ordering_then o a ≢ Equal → ordering_then o s ≡ ordering_then o a
decided Less s a f h = refl
decided Equal s a f h = f h
decided Greater s a f h = refl

pub slice_apart : (xs ys : List ℕ) → apart xs ys ≢ Equal → slice_cmp nat_cmp xs ys ≡ apart xs ys
slice_apart [] ys h = absurd (h refl)
slice_apart (x ∷ xs) [] h = absurd (h refl)
slice_apart (x ∷ xs) (y ∷ ys) h = decided (nat_cmp x y) (slice_cmp nat_cmp xs ys) (apart xs ys) (slice_apart xs ys) h

-- ---- a common front

pub apart_front : (xs ps qs : List ℕ) → apart (xs ++ ps) (xs ++ qs) ≡ apart ps qs
apart_front [] ps qs = refl
apart_front (x ∷ xs) ps qs = ap (λ o. ordering_then o (apart (xs ++ ps) (xs ++ qs))) (same x) ∙ apart_front xs ps qs

pub slice_front : (xs ps qs : List ℕ) → slice_cmp nat_cmp (xs ++ ps) (xs ++ qs) ≡ slice_cmp nat_cmp ps qs
slice_front [] ps qs = refl
slice_front (x ∷ xs) ps qs = ap (λ o. ordering_then o (slice_cmp nat_cmp (xs ++ ps) (xs ++ qs))) (same x) ∙ slice_front xs ps qs

pub apart_self : (xs : List ℕ) → apart xs xs ≡ Equal
apart_self [] = refl
apart_self (x ∷ xs) = ap (λ o. ordering_then o (apart xs xs)) (same x) ∙ apart_self xs

-- ---- fronts of one length

pub apart_long : (xs ys ps qs : List ℕ) → length xs ≡ length ys → apart (xs ++ ps) (ys ++ qs) ≡ ordering_then (apart xs ys) (apart ps qs)
apart_long [] [] ps qs h = refl
apart_long [] (y ∷ ys) ps qs h = absurd (omega arith)
apart_long (x ∷ xs) [] ps qs h = absurd (omega arith)
apart_long (x ∷ xs) (y ∷ ys) ps qs h =
    ap (λ o. ordering_then (nat_cmp x y) o) (apart_long xs ys ps qs (omega arith)) ∙ sym (then_then (nat_cmp x y) (apart xs ys) (apart ps qs))

-- ---- bytes, and their complement

pub bytes_both : (xs ys : List ℕ) → AreBytes xs → AreBytes ys → AreBytes (xs ++ ys)
bytes_both [] ys h k = k
bytes_both (x ∷ xs) ys h k = (h.0, bytes_both xs ys h.1 k)

pub bytes_front : (xs ys : List ℕ) → AreBytes (xs ++ ys) → AreBytes xs
bytes_front [] ys h = tt
bytes_front (x ∷ xs) ys h = (h.0, bytes_front xs ys h.1)

pub bytes_behind : (xs ys : List ℕ) → AreBytes (xs ++ ys) → AreBytes ys
bytes_behind [] ys h = h
bytes_behind (x ∷ xs) ys h = bytes_behind xs ys h.1

pub bytes_complement : (xs : List ℕ) → AreBytes (complement xs)
bytes_complement [] = tt
bytes_complement (x ∷ xs) = (omega arith, bytes_complement xs)

pub complement_both : (xs ys : List ℕ) → complement (xs ++ ys) ≡ complement xs ++ complement ys
complement_both [] ys = refl
complement_both (x ∷ xs) ys = ap (λ l. (255 - x) ∷ l) (complement_both xs ys)

back : (x : ℕ) → x < 256 → 255 - (255 - x) ≡ x
back x h = omega arith

pub complement_twice : (xs : List ℕ) → AreBytes xs → complement (complement xs) ≡ xs
complement_twice [] h = refl
complement_twice (x ∷ xs) h = ap (λ y. y ∷ complement (complement xs)) (back x h.0) ∙ ap (λ l. x ∷ l) (complement_twice xs h.1)

turned : (x y : ℕ) → x < 256 → y < 256 → nat_cmp (255 - x) (255 - y) ≡ ordering_reverse (nat_cmp x y)
turned x y h k = grind (arith, nat_tests)

pub apart_complement : (xs ys : List ℕ) → AreBytes xs → AreBytes ys → apart (complement xs) (complement ys) ≡ ordering_reverse (apart xs ys)
apart_complement [] ys h k = refl
apart_complement (x ∷ xs) [] h k = refl
apart_complement (x ∷ xs) (y ∷ ys) h k =
    ap (λ o. ordering_then o (apart (complement xs) (complement ys))) (turned x y h.0 k.0)
    ∙ ap (λ o. ordering_then (ordering_reverse (nat_cmp x y)) o) (apart_complement xs ys h.1 k.1)
    ∙ sym (reverse_then (nat_cmp x y) (apart xs ys))

-- ---- what may stand behind an encoding

abbrev pub Follows : List ℕ → Type 0
Follows [] = ⊥
Follows (s ∷ ps) = IsDelimiter s × AreBytes ps

pub follows_bytes : (ps : List ℕ) → Follows ps → AreBytes ps
follows_bytes [] h = absurd h
follows_bytes (s ∷ ps) h = (omega arith, h.1)

pub follows_complement : (ps : List ℕ) → Follows ps → Follows (complement ps)
follows_complement [] h = absurd h
follows_complement (s ∷ ps) h = ((omega arith, omega arith), bytes_complement ps)

-- two encodings, whatever may stand behind them: they part as o says, and where it says Equal what stands behind decides
abbrev pub KeptAs : List ℕ → List ℕ → Ordering → Type 0
KeptAs xs ys o = (p q : List ℕ) → Follows p → Follows q → apart (xs ++ p) (ys ++ q) ≡ ordering_then o (apart p q)
