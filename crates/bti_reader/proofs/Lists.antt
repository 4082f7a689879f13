-- The first and the last path that pass a test.
use Rattle.std.proofs.Common.{◌≡◌, ◌≢◌, ℕ, ◌<◌, Bool, true, false, List, [], ◌∷◌, ◌++◌, map, Option, Some, None, Ok, refl, sym, ◌∙◌, ap, arith}
use Rattle.std.proofs.lemmas.Bool.Decides.{nat_tests}
use Rattle.std.specs.Prelude.{if◌then◌else◌, cond, ◌==◌, ◌&&◌, nat_lt, nat_eq, find}
use Rattle.std.specs.Option.{option_map}
use Rattle.std.specs.List.{AllByRecursion, starts_with}
use Rattle.std.specs.declared.cmp.Ordering.{Ordering}
use Rattle.std.specs.declared.cmp.Ordering.TheVariants.{Less, Equal, Greater}
use Rattle.std.specs.Ordering.{nat_cmp, ordering_then}
use Rattle.std.specs.Cmp.Lexicographic.{slice_cmp}
use Rattle.bti_nodes.specs.Trie.{Path, longer}
use Rattle.bti_reader.specs.Searches.{deeper, or_next}
use Rattle.bti_reader.specs.Meaning.{or_path, find_last, first_path_of}
use Rattle.bti_reader.proofs.Split.{Starts}

abbrev pub last_of : List Path → Option Path
last_of [] = None
last_of (p ∷ ps) = or_path (last_of ps) (Some p)

pub deeper_ok : (b : ℕ) (o : Option Path) → deeper b (Ok o) ≡ Ok (option_map (longer b) o)
deeper_ok b None = refl
deeper_ok b (Some p) = refl

pub next_ok : (o q : Option Path) → or_next (Ok o) (Ok q) ≡ Ok (or_path o q)
next_ok None q = refl
next_ok (Some p) q = refl

pub path_none : (o : Option Path) → or_path o None ≡ o
path_none None = refl
path_none (Some p) = refl

pub path_assoc : (a b c : Option Path) → or_path (or_path a b) c ≡ or_path a (or_path b c)
path_assoc None b c = refl
path_assoc (Some p) b c = refl

pub first_append : (xs ys : List Path) → first_path_of (xs ++ ys) ≡ or_path (first_path_of xs) (first_path_of ys)
first_append [] ys = refl
first_append (x ∷ xs) ys = refl

pub first_map : (b : ℕ) (xs : List Path) → first_path_of (map (longer b) xs) ≡ option_map (longer b) (first_path_of xs)
first_map b [] = refl
first_map b (x ∷ xs) = refl

map_or : (b : ℕ) (x y : Option Path) → or_path (option_map (longer b) x) (option_map (longer b) y) ≡ option_map (longer b) (or_path x y)
map_or b None y = refl
map_or b (Some p) y = refl

pub last_append : (xs ys : List Path) → last_of (xs ++ ys) ≡ or_path (last_of ys) (last_of xs)
last_append [] ys = sym (path_none (last_of ys))
last_append (x ∷ xs) ys = ap (λ o. or_path o (Some x)) (last_append xs ys) ∙ path_assoc (last_of ys) (last_of xs) (Some x)

pub last_map : (b : ℕ) (xs : List Path) → last_of (map (longer b) xs) ≡ option_map (longer b) (last_of xs)
last_map b [] = refl
last_map b (x ∷ xs) = ap (λ o. or_path o (Some (longer b x))) (last_map b xs) ∙ map_or b (last_of xs) (Some x)

pub find_append : (t : Path → Bool) (xs ys : List Path) → find t (xs ++ ys) ≡ or_path (find t xs) (find t ys)
find_append t [] ys = refl
find_append t (x ∷ xs) ys = by (t x) (find_append t xs ys)
  where
    by : (v : Bool) → find t (xs ++ ys) ≡ or_path (find t xs) (find t ys) → cond v (Some x) (find t (xs ++ ys)) ≡ or_path (cond v (Some x) (find t xs)) (find t ys)
    by true h = refl
    by false h = h

pub find_last_append : (t : Path → Bool) (xs ys : List Path) → find_last t (xs ++ ys) ≡ or_path (find_last t ys) (find_last t xs)
find_last_append t [] ys = sym (path_none (find_last t ys))
find_last_append t (x ∷ xs) ys = ap (λ o. or_path o (if t x then Some x else None)) (find_last_append t xs ys) ∙ path_assoc (find_last t ys) (find_last t xs) (if t x then Some x else None)

pub find_none : (t : Path → Bool) (xs : List Path) → AllByRecursion (λ p. t p ≡ false) xs → find t xs ≡ None
find_none t [] h = refl
find_none t (x ∷ xs) h = ap (λ v. cond v (Some x) (find t xs)) h.0 ∙ find_none t xs h.1

pub find_all : (t : Path → Bool) (xs : List Path) → AllByRecursion (λ p. t p ≡ true) xs → find t xs ≡ first_path_of xs
find_all t [] h = refl
find_all t (x ∷ xs) h = ap (λ v. cond v (Some x) (find t xs)) h.0

pub find_last_none : (t : Path → Bool) (xs : List Path) → AllByRecursion (λ p. t p ≡ false) xs → find_last t xs ≡ None
find_last_none t [] h = refl
find_last_none t (x ∷ xs) h = ap (λ v. or_path (find_last t xs) (if v then Some x else None)) h.0 ∙ ap (λ o. or_path o None) (find_last_none t xs h.1)

pub find_last_all : (t : Path → Bool) (xs : List Path) → AllByRecursion (λ p. t p ≡ true) xs → find_last t xs ≡ last_of xs
find_last_all t [] h = refl
find_last_all t (x ∷ xs) h = ap (λ v. or_path (find_last t xs) (if v then Some x else None)) h.0 ∙ ap (λ o. or_path o (Some x)) (find_last_all t xs h.1)

pub find_map : (t u : Path → Bool) (b : ℕ) (xs : List Path) → ((p : Path) → t (longer b p) ≡ u p) → find t (map (longer b) xs) ≡ option_map (longer b) (find u xs)
find_map t u b [] h = refl
find_map t u b (x ∷ xs) h = ap (λ v. cond v (Some (longer b x)) (find t (map (longer b) xs))) (h x) ∙ by (u x) (find_map t u b xs h)
  where
    by : (v : Bool) → find t (map (longer b) xs) ≡ option_map (longer b) (find u xs) → cond v (Some (longer b x)) (find t (map (longer b) xs)) ≡ option_map (longer b) (cond v (Some x) (find u xs))
    by true h = refl
    by false h = h

pub find_last_map : (t u : Path → Bool) (b : ℕ) (xs : List Path) → ((p : Path) → t (longer b p) ≡ u p) → find_last t (map (longer b) xs) ≡ option_map (longer b) (find_last u xs)
find_last_map t u b [] h = refl
find_last_map t u b (x ∷ xs) h =
    ap (λ v. or_path (find_last t (map (longer b) xs)) (if v then Some (longer b x) else None)) (h x)
    ∙ ap (λ o. or_path o (if u x then Some (longer b x) else None)) (find_last_map t u b xs h)
    ∙ ap (or_path (option_map (longer b) (find_last u xs))) (by (u x))
    ∙ map_or b (find_last u xs) (if u x then Some x else None)
  where
    by : (v : Bool) → (if v then Some (longer b x) else None) ≡ option_map (longer b) (if v then Some x else None)
    by true = refl
    by false = refl

pub all_imply : (P Q : Path → Type 0) (xs : List Path) → ((p : Path) → P p → Q p) → AllByRecursion P xs → AllByRecursion Q xs
all_imply P Q [] f h = tt
all_imply P Q (x ∷ xs) f h = (f x h.0, all_imply P Q xs f h.1)

-- the order of paths by their first bytes
first_less : (t : Bool) (a : Ordering) → t ≡ true → cond t Less a ≡ Less
first_less true a h = refl
first_less false a h = cc

first_not : (t : Bool) (a : Ordering) → t ≡ false → cond t Less a ≡ a
first_not true a h = cc
first_not false a h = refl

equal_or : (t : Bool) (v : Bool) → t ≡ v → cond t Equal Greater ≡ cond v Equal Greater
equal_or t v h = ap (λ w. cond w Equal Greater) h

pub nat_less : (a b : ℕ) → a < b → nat_cmp a b ≡ Less
nat_less a b h = first_less (nat_lt a b) _ (grind (arith, nat_tests))

nat_more : (a b : ℕ) → b < a → nat_cmp a b ≡ Greater
nat_more a b h = first_not (nat_lt a b) _ (grind (arith, nat_tests)) ∙ equal_or (a == b) false (grind (arith, nat_tests))

nat_same : (a : ℕ) → nat_cmp a a ≡ Equal
nat_same a = first_not (nat_lt a a) _ (grind (arith, nat_tests)) ∙ equal_or (a == a) true (grind (arith, nat_tests))

pub cmp_less : (b : ℕ) (key : List ℕ) (p : Path) → Starts (λ a. a < b) p → slice_cmp nat_cmp p.path (b ∷ key) ≡ Less
cmp_less b key p h = by p.path h
  where
    by : (xs : List ℕ) → Starts (λ a. a < b) (record { path = xs; node = 0; payload = [] }) → slice_cmp nat_cmp xs (b ∷ key) ≡ Less
    by [] h = absurd h
    by (a ∷ xs) h = ap (λ o. ordering_then o (slice_cmp nat_cmp xs key)) (nat_less a b h)

pub cmp_more : (b : ℕ) (key : List ℕ) (p : Path) → Starts (λ a. b < a) p → slice_cmp nat_cmp p.path (b ∷ key) ≡ Greater
cmp_more b key p h = by p.path h
  where
    by : (xs : List ℕ) → Starts (λ a. b < a) (record { path = xs; node = 0; payload = [] }) → slice_cmp nat_cmp xs (b ∷ key) ≡ Greater
    by [] h = absurd h
    by (a ∷ xs) h = ap (λ o. ordering_then o (slice_cmp nat_cmp xs key)) (nat_more a b h)

pub cmp_same : (b : ℕ) (key : List ℕ) (p : Path) → slice_cmp nat_cmp (longer b p).path (b ∷ key) ≡ slice_cmp nat_cmp p.path key
cmp_same b key p = ap (λ o. ordering_then o (slice_cmp nat_cmp p.path key)) (nat_same b)

pub cmp_end : (p : Path) → Starts (λ a. Unit {0}) p → slice_cmp nat_cmp p.path [] ≡ Greater
cmp_end p h = by p.path h
  where
    by : (xs : List ℕ) → Starts (λ a. Unit {0}) (record { path = xs; node = 0; payload = [] }) → slice_cmp nat_cmp xs [] ≡ Greater
    by [] h = absurd h
    by (a ∷ xs) h = refl

pub begins_not : (b : ℕ) (key : List ℕ) (p : Path) → Starts (λ a. a ≢ b) p → starts_with nat_eq (b ∷ key) p.path ≡ false
begins_not b key p h = by p.path h
  where
    left : (t v : Bool) → t ≡ false → (t && v) ≡ false
    left true v h = cc
    left false v h = refl

    by : (xs : List ℕ) → Starts (λ a. a ≢ b) (record { path = xs; node = 0; payload = [] }) → starts_with nat_eq (b ∷ key) xs ≡ false
    by [] h = absurd h
    by (a ∷ xs) h = left (nat_eq a b) _ (grind (arith, nat_tests))

pub begins_same : (b : ℕ) (key : List ℕ) (p : Path) → starts_with nat_eq (b ∷ key) (longer b p).path ≡ starts_with nat_eq key p.path
begins_same b key p = left (nat_eq b b) _ (grind (arith, nat_tests))
  where
    left : (t v : Bool) → t ≡ true → (t && v) ≡ v
    left true v h = refl
    left false v h = cc

pub begins_end : (p : Path) → Starts (λ a. Unit {0}) p → starts_with nat_eq [] p.path ≡ false
begins_end p h = by p.path h
  where
    by : (xs : List ℕ) → Starts (λ a. Unit {0}) (record { path = xs; node = 0; payload = [] }) → starts_with nat_eq [] xs ≡ false
    by [] h = absurd h
    by (a ∷ xs) h = refl
