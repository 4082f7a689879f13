-- Numbers of a fixed count of bytes.
use Rattle.std.proofs.Common.{◌≡◌, ℕ, zero, suc, ◌+◌, ◌*◌, ◌/◌, ◌%◌, ◌^◌, ◌<◌, ◌≤◌, List, ◌++◌, arith, refl, sym, ◌∙◌, ap, subst}
use Rattle.std.proofs.lemmas.Bool.Decides.{nat_tests}
use Rattle.std.proofs.lemmas.Nat.{div-add-mod', mod-mul-add, mul-add-lt, mul-le, mod_below}
use Rattle.std.specs.Prelude.{ℤ, pos, negsuc, IsTrue}
use Rattle.std.specs.Int.{bytes_high_first, byte_at}
use Rattle.std.specs.Ordering.{nat_cmp, int_cmp, ordering_then}
use Rattle.std.specs.declared.cmp.Ordering.{Ordering}
use Rattle.std.specs.declared.cmp.Ordering.TheVariants.{Less, Equal, Greater}
use Rattle.key_types.specs.Kinds.{AreBytes, within}
use Rattle.byte_comparable.specs.Encoding.{unsigned_of}
use Rattle.byte_comparable.proofs.Compare.{apart, then_then, below, above, KeptAs}

-- ---- rows and columns

less_row : (a b c d w : ℕ) → c < w → a < b → a * w + c < b * w + d
less_row a b c d w h k = let rows : (a + 1) * w ≤ b * w = mul-le (a + 1) w b w (omega arith) (omega arith) in omega arith

by_rows : (r : Ordering) (a b c d w : ℕ) → nat_cmp a b ≡ r → c < w → d < w → nat_cmp (a * w + c) (b * w + d) ≡ ordering_then r (nat_cmp c d)
by_rows Less a b c d w e h k = let l : a < b = grind (arith, nat_tests) in below _ _ (less_row a b c d w h l)
by_rows Equal a b c d w e h k = let s : a ≡ b = grind (arith, nat_tests) in subst (λ (x : ℕ). nat_cmp (a * w + c) (x * w + d) ≡ nat_cmp c d) s (level (a * w) c d)
  where
    level : (x c d : ℕ) → nat_cmp (x + c) (x + d) ≡ nat_cmp c d
    level x c d = grind (arith, nat_tests)
by_rows Greater a b c d w e h k = let l : b < a = grind (arith, nat_tests) in above _ _ (less_row b a d c w k l)

pub rows : (a b c d w : ℕ) → c < w → d < w → nat_cmp (a * w + c) (b * w + d) ≡ ordering_then (nat_cmp a b) (nat_cmp c d)
rows a b c d w h k = by_rows (nat_cmp a b) a b c d w refl h k

-- the order by what a division gives and leaves
pub divided : (m n w : ℕ) → 0 < w → nat_cmp m n ≡ ordering_then (nat_cmp (m / w) (n / w)) (nat_cmp (m % w) (n % w))
divided m n w h =
    ap (λ x. nat_cmp x n) (sym (div-add-mod' m w)) ∙ ap (λ x. nat_cmp (m / w * w + m % w) x) (sym (div-add-mod' n w))
    ∙ rows (m / w) (n / w) (m % w) (n % w) w (mod_below m w h) (mod_below n w h)

-- ---- one digit more

spread : (a b w : ℕ) → (a * 256 + b) * w ≡ a * (256 * w) + b * w
spread a b w = grind arith

digit : (m w : ℕ) → 0 < w → m % (256 * w) ≡ (m / w % 256) * w + m % w
digit m w h =
    let q = m / w in
    let whole : m ≡ q / 256 * (256 * w) + (q % 256 * w + m % w) =
    sym (div-add-mod' m w) ∙ ap (λ x. x * w + m % w) (sym (div-add-mod' q 256)) ∙ ap (λ x. x + m % w) (spread (q / 256) (q % 256) w) ∙ omega arith in
    let fits : q % 256 * w + m % w < w * 256 = mul-add-lt (q % 256) w (m % w) 256 (mod_below q 256 (omega arith)) (mod_below m w h) in
    ap (λ x. x % (256 * w)) whole ∙ mod-mul-add (q / 256) (256 * w) (q % 256 * w + m % w) (omega arith)

pub positive : (k : ℕ) → 0 < 256 ^ k
positive zero = omega arith
positive (suc k) = let p = positive k in omega arith

power : (k : ℕ) → 256 ^ suc k ≡ 256 * 256 ^ k
power k = omega arith

-- m by one byte more
longer : (k m : ℕ) → m % 256 ^ suc k ≡ (m / 256 ^ k % 256) * 256 ^ k + m % 256 ^ k
longer k m = ap (λ x. m % x) (power k) ∙ digit m (256 ^ k) (positive k)

pub byte_is : (k n : ℕ) → byte_at k n ≡ n / 256 ^ k % 256
byte_is zero n = let e : n / 1 ≡ n = omega arith in ap (λ x. x % 256) (sym e)
byte_is (suc k) n = refl

pub high_kept : (k m n : ℕ) (p q : List ℕ) → apart (bytes_high_first k m ++ p) (bytes_high_first k n ++ q) ≡ ordering_then (nat_cmp (m % 256 ^ k) (n % 256 ^ k)) (apart p q)
high_kept zero m n p q =
    let a : m % 1 ≡ 0 = omega arith in
    let b : n % 1 ≡ 0 = omega arith in
    sym (ap (λ x. ordering_then (nat_cmp x (n % 1)) (apart p q)) a ∙ ap (λ x. ordering_then (nat_cmp 0 x) (apart p q)) b)
high_kept (suc k) m n p q =
    let w = 256 ^ k in
    let low = nat_cmp (m % w) (n % w) in
    let first = nat_cmp (m / w % 256) (n / w % 256) in
    ap (λ x. ordering_then (nat_cmp x (byte_at k n)) (apart (bytes_high_first k m ++ p) (bytes_high_first k n ++ q))) (byte_is k m)
    ∙ ap (λ x. ordering_then (nat_cmp (m / w % 256) x) (apart (bytes_high_first k m ++ p) (bytes_high_first k n ++ q))) (byte_is k n)
    ∙ ap (λ r. ordering_then first r) (high_kept k m n p q)
    ∙ sym (then_then first low (apart p q))
    ∙ ap (λ r. ordering_then r (apart p q)) (sym (
    ap (λ x. nat_cmp x (n % 256 ^ suc k)) (longer k m) ∙ ap (λ x. nat_cmp ((m / w % 256) * w + m % w) x) (longer k n)
    ∙ rows (m / w % 256) (n / w % 256) (m % w) (n % w) w (mod_below m w (positive k)) (mod_below n w (positive k))))

pub high_are_bytes : (k n : ℕ) → AreBytes (bytes_high_first k n)
high_are_bytes zero n = tt
high_are_bytes (suc k) n = (subst (λ (x : ℕ). x < 256) (sym (byte_is k n)) (mod_below (n / 256 ^ k) 256 (omega arith)), high_are_bytes k n)

-- ---- signed numbers

-- from half below zero to half above it
abbrev pub Within : ℕ → ℤ → Type 0
Within half (pos n) = n < half
Within half (negsuc n) = n < half

pub shifts : (half : ℕ) (x y : ℤ) → Within half x → Within half y → nat_cmp (unsigned_of half x) (unsigned_of half y) ≡ int_cmp x y
shifts half (pos m) (pos n) p q = grind (arith, nat_tests)
shifts half (pos m) (negsuc n) p q = grind (arith, nat_tests)
shifts half (negsuc m) (pos n) p q = grind (arith, nat_tests)
shifts half (negsuc m) (negsuc n) p q = grind (arith, nat_tests)

pub shifted_below : (half : ℕ) (x : ℤ) → Within half x → unsigned_of half x < half + half
shifted_below half (pos n) h = omega arith
shifted_below half (negsuc n) h = omega arith

pub in_7 : (x : ℤ) → IsTrue (within (negsuc 127) (pos 128) x) → Within (2 ^ 7) x
in_7 (pos n) h = grind (arith, nat_tests)
in_7 (negsuc n) h = grind (arith, nat_tests)

pub in_15 : (x : ℤ) → IsTrue (within (negsuc 32767) (pos 32768) x) → Within (2 ^ 15) x
in_15 (pos n) h = grind (arith, nat_tests)
in_15 (negsuc n) h = grind (arith, nat_tests)

pub in_31 : (x : ℤ) → IsTrue (within (negsuc 2147483647) (pos 2147483648) x) → Within (2 ^ 31) x
in_31 (pos n) h = grind (arith, nat_tests)
in_31 (negsuc n) h = grind (arith, nat_tests)

pub small_mod : (n w : ℕ) → n < w → n % w ≡ n
small_mod n w h = let e : 0 * w + n ≡ n = omega arith in subst (λ (x : ℕ). x % w ≡ n) e (mod-mul-add 0 w n h)

-- numbers that so many bytes hold
pub held : (k m n : ℕ) → m < 256 ^ k → n < 256 ^ k → KeptAs (bytes_high_first k m) (bytes_high_first k n) (nat_cmp m n)
held k m n f g p q h l =
    high_kept k m n p q ∙ ap (λ x. ordering_then (nat_cmp x (n % 256 ^ k)) (apart p q)) (small_mod m (256 ^ k) f) ∙ ap (λ x. ordering_then (nat_cmp m x) (apart p q)) (small_mod n (256 ^ k) g)

signed : (k half : ℕ) (x y : ℤ) → half + half ≤ 256 ^ k → Within half x → Within half y → KeptAs (bytes_high_first k (unsigned_of half x)) (bytes_high_first k (unsigned_of half y)) (int_cmp x y)
signed k half x y w f g p q h l =
    let a = shifted_below half x f in
    let b = shifted_below half y g in
    held k (unsigned_of half x) (unsigned_of half y) (omega arith) (omega arith) p q h l ∙ ap (λ r. ordering_then r (apart p q)) (shifts half x y f g)

pub tiny_kept : (x y : ℤ) → IsTrue (within (negsuc 127) (pos 128) x) → IsTrue (within (negsuc 127) (pos 128) y) → KeptAs (bytes_high_first 1 (unsigned_of (2 ^ 7) x)) (bytes_high_first 1 (unsigned_of (2 ^ 7) y)) (int_cmp x y)
tiny_kept x y f g = signed 1 (2 ^ 7) x y (omega arith) (in_7 x f) (in_7 y g)

pub small_kept : (x y : ℤ) → IsTrue (within (negsuc 32767) (pos 32768) x) → IsTrue (within (negsuc 32767) (pos 32768) y) → KeptAs (bytes_high_first 2 (unsigned_of (2 ^ 15) x)) (bytes_high_first 2 (unsigned_of (2 ^ 15) y)) (int_cmp x y)
small_kept x y f g = signed 2 (2 ^ 15) x y (omega arith) (in_15 x f) (in_15 y g)

pub int_kept : (x y : ℤ) → IsTrue (within (negsuc 2147483647) (pos 2147483648) x) → IsTrue (within (negsuc 2147483647) (pos 2147483648) y) → KeptAs (bytes_high_first 4 (unsigned_of (2 ^ 31) x)) (bytes_high_first 4 (unsigned_of (2 ^ 31) y)) (int_cmp x y)
int_kept x y f g = signed 4 (2 ^ 31) x y (omega arith) (in_31 x f) (in_31 y g)
