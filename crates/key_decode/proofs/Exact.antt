-- The numbers are read exactly.
use Rattle.std.proofs.Common.{◌≡◌, ℕ, zero, suc, ◌==◌, ◌+◌, ◌-◌, ◌*◌, ◌^◌, ◌<◌, ◌≤◌, Bool, true, false, cond, List, [], ◌∷◌, ◌++◌, length, Result, Ok, Err, arith, refl, sym, ◌∙◌, ap, subst, add-one}
use Rattle.std.specs.Prelude.{⊤, nat_le, ◌&&◌, replicate, if◌then◌else◌}
use Rattle.std.proofs.lemmas.Bool.Decides.{nat_tests}
use Rattle.grammar.specs.Exact.{Read, Exact, StopsAt, NextIs}
use Rattle.key_types.specs.Kinds.{AreBytes}
use Rattle.grammar.specs.Reading.{then_read, Then}
use Rattle.grammar.proofs.Bind.{bind_exact}
use Rattle.key_decode.specs.Reading.{unsigned_at, is_from, byte_from, count_behind, base, least_second, nine_at, third_at, second_at, long_at}
use Rattle.grammar.proofs.Front.{stops_first, stops_empty}

pub any : (bs rest : List ℕ) → NextIs (λ _. ⊤) (bs ++ rest)
any [] [] = tt
any [] (r ∷ rest) = tt
any (b ∷ bs) rest = tt

-- ---- so many bytes

-- a number with further digits
abbrev pub value_from : ℕ → List ℕ → ℕ
value_from n [] = n
value_from n (b ∷ bs) = value_from (n * 256 + b) bs

abbrev pub IsNumber : ℕ → ℕ → ℕ → List ℕ → Type 0
IsNumber k n m bs = (length bs ≡ k) × (m ≡ value_from n bs)

number_found : (k n : ℕ) (text : List ℕ) (m : ℕ) (rest : List ℕ) → unsigned_at k n text ≡ Ok (m, rest) → (front : List ℕ) × (text ≡ front ++ rest) × IsNumber k n m front
number_found zero n text m rest h =
    let pairs : ◌≡◌ {A = ℕ × List ℕ} (n, text) (m, rest) = cc in
    ([], ap (λ q. q.1) pairs, (refl, sym (ap (λ q. q.0) pairs)))
number_found (suc k) n [] m rest h = cc
number_found (suc k) n (b ∷ bs) m rest h =
    let p = number_found k (n * 256 + b) bs m rest h in
    (b ∷ p.0, ap (λ l. b ∷ l) p.1, (ap suc p.2.0, p.2.1))

number_all : (k n : ℕ) (front rest : List ℕ) → length front ≡ k → unsigned_at k n (front ++ rest) ≡ Ok (value_from n front, rest)
number_all zero n [] rest h = refl
number_all zero n (b ∷ bs) rest h = absurd (omega arith)
number_all (suc k) n [] rest h = absurd (omega arith)
number_all (suc k) n (b ∷ bs) rest h = number_all k (n * 256 + b) bs rest (omega arith)

zeros_long : (k : ℕ) → length {A = ℕ} (replicate k 0) ≡ k
zeros_long zero = refl
zeros_long (suc k) = ap suc (zeros_long k)

zeros_bytes : (k : ℕ) → AreBytes (replicate k 0)
zeros_bytes zero = tt
zeros_bytes (suc k) = (omega arith, zeros_bytes k)

number_stops : (k n : ℕ) (text : List ℕ) (left : ℕ) → unsigned_at k n text ≡ Err left → StopsAt (unsigned_at k n) (IsNumber k n) text left
number_stops zero n text left h = cc
number_stops (suc k) n [] left h = stops_empty _ _ left (let e : left ≡ 0 = cc in e) (replicate (suc k) 0, value_from n (replicate (suc k) 0), (zeros_long (suc k), refl), zeros_bytes (suc k))
number_stops (suc k) n (b ∷ bs) left h =
    let p = number_stops k (n * 256 + b) bs left h in
    record {
      front = b ∷ p.front;
      rest = p.rest;
      parts = ap (λ l. b ∷ l) p.parts;
      count = p.count;
      goes_on = (p.goes_on.0, p.goes_on.1, (ap suc p.goes_on.2.0, p.goes_on.2.1), p.goes_on.3);
      no_further = p.no_further;
    }

abbrev pub Free : {A : Type 0} → A → ℕ → Type 0
Free _ _ = ⊤

pub number_exact : (k n : ℕ) → Exact (unsigned_at k n) (IsNumber k n) (Free {A = ℕ})
number_exact k n = record {
  found = number_found k n;
  all = λ m front rest is h. number_all k n front rest is.0 ∙ ap (λ x. Ok (x, rest)) (sym is.1);
  next = λ text m b bs h. tt;
  stops = number_stops k n;
}

pub number_some : (k n : ℕ) → (m : ℕ) × (text : List ℕ) × IsNumber k n m text × AreBytes text
number_some k n = (value_from n (replicate k 0), replicate k 0, (zeros_long k, refl), zeros_bytes k)

-- ---- a byte from a bound on

abbrev pub IsByteFrom : ℕ → ℕ → List ℕ → Type 0
IsByteFrom low b bs = (is_from low b ≡ true) × (bs ≡ b ∷ [])

abbrev GotByte : Type 0
GotByte = Result (ℕ × List ℕ) ℕ

byte_by : (t : Bool) (low x : ℕ) (xs : List ℕ) (b : ℕ) (rest : List ℕ) → is_from low x ≡ t → cond {A = GotByte} t (Ok (x, xs)) (Err (length xs + 1)) ≡ Ok (b, rest)
    → (front : List ℕ) × (x ∷ xs ≡ front ++ rest) × IsByteFrom low b front
byte_by false low x xs b rest e h = cc
byte_by true low x xs b rest e h =
    let pairs : ◌≡◌ {A = ℕ × List ℕ} (x, xs) (b, rest) = cc in
    let same = ap (λ q. q.0) pairs in
    (x ∷ [], ap (λ q. x ∷ q.1) pairs, (subst (λ (y : ℕ). is_from low y ≡ true) same e, ap (λ y. y ∷ []) same))

byte_found : (low : ℕ) (text : List ℕ) (b : ℕ) (rest : List ℕ) → byte_from low text ≡ Ok (b, rest) → (front : List ℕ) × (text ≡ front ++ rest) × IsByteFrom low b front
byte_found low [] b rest h = cc
byte_found low (x ∷ xs) b rest h = byte_by (is_from low x) low x xs b rest refl h

byte_all : (low b : ℕ) (front rest : List ℕ) → IsByteFrom low b front → byte_from low (front ++ rest) ≡ Ok (b, rest)
byte_all low b front rest is = ap (λ l. byte_from low (l ++ rest)) is.1 ∙ ap (λ t. cond {A = GotByte} t (Ok (b, rest)) (Err (length rest + 1))) is.0

first_of : (low : ℕ) → low < 256 → is_from low low ≡ true
first_of low w = grind (arith, nat_tests)

byte_stops_by : (t : Bool) (low x : ℕ) (xs : List ℕ) (left : ℕ) → low < 256 → is_from low x ≡ t → cond {A = GotByte} t (Ok (x, xs)) (Err (length xs + 1)) ≡ Err left → StopsAt (byte_from low) (IsByteFrom low) (x ∷ xs) left
byte_stops_by true low x xs left w e h = cc
byte_stops_by false low x xs left w e h =
    let k : left ≡ length xs + 1 = cc in
    stops_first (byte_from low) _ x xs left (k ∙ add-one (length xs)) (low ∷ [], low, (first_of low w, refl), (w, tt)) (λ cs. (ap (λ t. cond {A = GotByte} t (Ok (x, cs)) (Err (length cs + 1))) e ∙ ap Err (add-one (length cs))))

byte_stops : (low : ℕ) → low < 256 → (text : List ℕ) (left : ℕ) → byte_from low text ≡ Err left → StopsAt (byte_from low) (IsByteFrom low) text left
byte_stops low w [] left h = stops_empty _ _ left (let e : left ≡ 0 = cc in e) (low ∷ [], low, (first_of low w, refl), (w, tt))
byte_stops low w (x ∷ xs) left h = byte_stops_by (is_from low x) low x xs left w refl h

pub byte_exact : (low : ℕ) → low < 256 → Exact (byte_from low) (IsByteFrom low) (Free {A = ℕ})
byte_exact low w = record {
  found = byte_found low;
  all = λ b front rest is h. byte_all low b front rest is;
  next = λ text m b bs h. tt;
  stops = byte_stops low w;
}

-- ---- a byte, and a reading that it chooses

module _ {A : Type 0} (low : ℕ) (w : low < 256) (f : ℕ → Read A) (Is : ℕ → A → List ℕ → Type 0) (two : (b : ℕ) → Exact (f b) (Is b) (Free {A = A})) (some : (b : ℕ) → (a : A) × (text : List ℕ) × Is b a text × AreBytes text) where
  pub chosen_exact : Exact (then_read (byte_from low) f) (Then (IsByteFrom low) Is) (Free {A = A})
  chosen_exact = bind_exact (byte_from low) f (IsByteFrom low) Is (Free {A = ℕ}) (Free {A = A}) (byte_exact low w) two some (λ b a text rest is h. any text rest)

  pub chosen_some : (a : A) × (text : List ℕ) × Then (IsByteFrom low) Is a text × AreBytes text
  chosen_some = let p = some low in (p.0, low ∷ p.1, (low, low ∷ [], p.1, (first_of low w, refl), p.2, refl), (w, p.3))

-- ---- bigints from 0 up

nine_low : (c : ℕ) → (if c == 128 then 128 else 0) < 256
nine_low c = by (c == 128)
  where
    by : (t : Bool) → (if t then 128 else 0) < 256
    by true = omega arith
    by false = omega arith

abbrev pub IsNine : ℕ → ℕ → List ℕ → Type 0
IsNine c = Then (IsByteFrom (if c == 128 then 128 else 0)) (λ d. IsNumber 6 ((c - 128) * 256 + d))

nine_exact : (c : ℕ) → Exact (nine_at c) (IsNine c) (Free {A = ℕ})
nine_exact c = chosen_exact (if c == 128 then 128 else 0) (nine_low c) (λ d. unsigned_at 6 ((c - 128) * 256 + d)) (λ d. IsNumber 6 ((c - 128) * 256 + d)) (λ d. number_exact 6 ((c - 128) * 256 + d)) (λ d. number_some 6 ((c - 128) * 256 + d))

nine_some : (c : ℕ) → (m : ℕ) × (text : List ℕ) × IsNine c m text × AreBytes text
nine_some c = chosen_some (if c == 128 then 128 else 0) (nine_low c) (λ d. unsigned_at 6 ((c - 128) * 256 + d)) (λ d. IsNumber 6 ((c - 128) * 256 + d)) (λ d. number_exact 6 ((c - 128) * 256 + d)) (λ d. number_some 6 ((c - 128) * 256 + d))

abbrev pub IsThirdBy : Bool → ℕ → ℕ → ℕ → ℕ → List ℕ → Type 0
IsThirdBy true j b c = IsNine c
IsThirdBy false j b c = IsNumber j ((b - base (suc j)) * 256 + c)

third_exact_by : (t : Bool) (j b c : ℕ) → Exact (if t then nine_at c else unsigned_at j ((b - base (suc j)) * 256 + c)) (IsThirdBy t j b c) (Free {A = ℕ})
third_exact_by true j b c = nine_exact c
third_exact_by false j b c = number_exact j ((b - base (suc j)) * 256 + c)

third_some_by : (t : Bool) (j b c : ℕ) → (m : ℕ) × (text : List ℕ) × IsThirdBy t j b c m text × AreBytes text
third_some_by true j b c = nine_some c
third_some_by false j b c = number_some j ((b - base (suc j)) * 256 + c)

abbrev pub IsThird : ℕ → ℕ → ℕ → ℕ → List ℕ → Type 0
IsThird j b c = IsThirdBy (j == 6 && nat_le 128 c) j b c

abbrev pub IsSecond : ℕ → ℕ → ℕ → List ℕ → Type 0
IsSecond zero b = IsNumber 0 (b - 128)
IsSecond (suc j) b = Then (IsByteFrom (least_second (suc j) b)) (IsThird j b)

small_power : (k : ℕ) → 1 ≤ k → 2 ^ (7 - k) ≤ 64
small_power (suc zero) h = omega arith
small_power (suc (suc zero)) h = omega arith
small_power (suc (suc (suc zero))) h = omega arith
small_power (suc (suc (suc (suc zero)))) h = omega arith
small_power (suc (suc (suc (suc (suc zero))))) h = omega arith
small_power (suc (suc (suc (suc (suc (suc zero)))))) h = omega arith
small_power (suc (suc (suc (suc (suc (suc (suc k))))))) h = let e : 7 - suc (suc (suc (suc (suc (suc (suc k)))))) ≡ 0 = omega arith in rw e (omega arith)
small_power zero h = absurd (omega arith)

second_low : (j b : ℕ) → least_second (suc j) b < 256
second_low j b = by (b == base (suc j))
  where
    by : (t : Bool) → (if t then 2 ^ (7 - suc j) else 0) < 256
    by true = let p = small_power (suc j) (omega arith) in omega arith
    by false = omega arith

second_exact : (k b : ℕ) → Exact (second_at k b) (IsSecond k b) (Free {A = ℕ})
second_exact zero b = number_exact 0 (b - 128)
second_exact (suc j) b = chosen_exact (least_second (suc j) b) (second_low j b) (third_at j b) (IsThird j b) (λ c. third_exact_by (j == 6 && nat_le 128 c) j b c) (λ c. third_some_by (j == 6 && nat_le 128 c) j b c)

second_some : (k b : ℕ) → (m : ℕ) × (text : List ℕ) × IsSecond k b m text × AreBytes text
second_some zero b = number_some 0 (b - 128)
second_some (suc j) b = chosen_some (least_second (suc j) b) (second_low j b) (third_at j b) (IsThird j b) (λ c. third_exact_by (j == 6 && nat_le 128 c) j b c) (λ c. third_some_by (j == 6 && nat_le 128 c) j b c)

abbrev pub IsLong : ℕ → List ℕ → Type 0
IsLong = Then (IsByteFrom 128) (λ b. IsSecond (count_behind b) b)

pub long_exact : Exact long_at IsLong (Free {A = ℕ})
long_exact = chosen_exact 128 (omega arith) (λ b. second_at (count_behind b) b) (λ b. IsSecond (count_behind b) b) (λ b. second_exact (count_behind b) b) (λ b. second_some (count_behind b) b)

pub long_some : (m : ℕ) × (text : List ℕ) × IsLong m text × AreBytes text
long_some = chosen_some 128 (omega arith) (λ b. second_at (count_behind b) b) (λ b. IsSecond (count_behind b) b) (λ b. second_exact (count_behind b) b) (λ b. second_some (count_behind b) b)
