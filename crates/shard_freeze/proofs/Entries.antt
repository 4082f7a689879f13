-- What pointers list is in the order of keys, and a key finds in it what the pointer sees for it.
use Rattle.std.proofs.Common.{◌≡◌, ◌≢◌, ℕ, ◌+◌, ◌<◌, ◌≤◌, ◌&&◌, Bool, true, false, cond, List, [], ◌∷◌, ◌++◌, Option, Some, None, refl, sym, ap, ◌∙◌, subst, arith}
use Rattle.std.proofs.lemmas.Bool.Decides.{nat_tests}
use Rattle.std.specs.Prelude.{T, ◌⊎◌}
use Rattle.std.proofs.Common.{inl, inr}
use Rattle.std.specs.declared.cmp.Ordering.{Ordering}
use Rattle.std.specs.declared.cmp.Ordering.TheVariants.{Less, Equal, Greater}
use Rattle.std.specs.Ordering.{nat_cmp, eq_by_cmp, is_eq, is_lt, ordering_then}
use Rattle.std.specs.FinMap.Entries.{find, below_all, is_sorted}
use Rattle.key_types.specs.Table.{Entry, string_cmp, value_over}
use Rattle.shard_freeze.specs.Listing.{prefixed}

-- ---- the order of two strings by their first bytes

same_byte : (b : ℕ) → nat_cmp b b ≡ Equal
same_byte b = grind (arith, nat_tests)

less_byte : (b c : ℕ) → b < c → nat_cmp b c ≡ Less
less_byte b c l = grind (arith, nat_tests)

more_byte : (b c : ℕ) → c < b → nat_cmp b c ≡ Greater
more_byte b c l = grind (arith, nat_tests)

pub cmp_same : (b : ℕ) (k s : List ℕ) → string_cmp (b ∷ k) (b ∷ s) ≡ string_cmp k s
cmp_same b k s = ap (λ (o : Ordering). ordering_then o (string_cmp k s)) (same_byte b)

pub cmp_less : (b c : ℕ) (k s : List ℕ) → b < c → string_cmp (b ∷ k) (c ∷ s) ≡ Less
cmp_less b c k s l = ap (λ (o : Ordering). ordering_then o (string_cmp k s)) (less_byte b c l)

pub cmp_more : (b c : ℕ) (k s : List ℕ) → c < b → string_cmp (b ∷ k) (c ∷ s) ≡ Greater
cmp_more b c k s l = ap (λ (o : Ordering). ordering_then o (string_cmp k s)) (more_byte b c l)

apart_by : (b c : ℕ) (k s : List ℕ) → b ≢ c → eq_by_cmp string_cmp (b ∷ k) (c ∷ s) ≡ false
apart_by b c k s ne = by (cond_lt b c)
  where
    cond_lt : (x y : ℕ) → (x < y) ⊎ (y ≤ x)
    cond_lt x y = grind (arith, nat_tests)

    by : (b < c) ⊎ (c ≤ b) → eq_by_cmp string_cmp (b ∷ k) (c ∷ s) ≡ false
    by (inl l) = ap is_eq (cmp_less b c k s l)
    by (inr l) = ap is_eq (cmp_more b c k s (omega (arith, ne)))

-- ---- all keys begin with a byte that isn't below `low`

abbrev pub HasFirst : ℕ → List ℕ → Type 0
HasFirst low [] = ⊥
HasFirst low (c ∷ s) = low ≤ c

abbrev pub AllFirst : ℕ → List Entry → Type 0
AllFirst low [] = Unit {0}
AllFirst low (e ∷ es) = HasFirst low e.0 × AllFirst low es

lower_first : (low high : ℕ) (k : List ℕ) → low ≤ high → HasFirst high k → HasFirst low k
lower_first low high [] l h = h
lower_first low high (c ∷ s) l h = omega arith

pub all_lower : (low high : ℕ) (es : List Entry) → low ≤ high → AllFirst high es → AllFirst low es
all_lower low high [] l h = tt
all_lower low high (e ∷ es) l (h, hs) = (lower_first low high e.0 l h, all_lower low high es l hs)

pub all_joined : (low : ℕ) (xs ys : List Entry) → AllFirst low xs → AllFirst low ys → AllFirst low (xs ++ ys)
all_joined low [] ys h hs = hs
all_joined low (x ∷ xs) ys (h, h') hs = (h, all_joined low xs ys h' hs)

pub all_behind : (b : ℕ) (es : List Entry) → AllFirst b (prefixed (b ∷ []) es)
all_behind b [] = tt
all_behind b (e ∷ es) = (omega arith, all_behind b es)

-- ---- order

both : (a b : Bool) → T a → T b → T (a && b)
both true b p q = q
both false b p q = p

first : (a b : Bool) → T (a && b) → T a
first true b p = tt
first false b p = p

second : (a b : Bool) → T (a && b) → T b
second true b p = p
second false b p = absurd p

below_later : (b : ℕ) (k : List ℕ) (es : List Entry) → AllFirst (b + 1) es → T (below_all string_cmp (b ∷ k) es)
below_later b k [] h = tt
below_later b k (e ∷ es) (h, hs) = both _ _ (by e.0 h) (below_later b k es hs)
  where
    by : (s : List ℕ) → HasFirst (b + 1) s → T (is_lt (string_cmp (b ∷ k) s))
    by [] h = absurd h
    by (c ∷ s) h = subst (λ (o : Ordering). T (is_lt o)) (sym (cmp_less b c k s (omega arith))) tt

pub below_first : (es : List Entry) → AllFirst 0 es → T (below_all string_cmp [] es)
below_first [] h = tt
below_first (e ∷ es) (h, hs) = both _ _ (by e.0 h) (below_first es hs)
  where
    by : (s : List ℕ) → HasFirst 0 s → T (is_lt (string_cmp [] s))
    by [] h = absurd h
    by (c ∷ s) h = tt

below_joined : (k : List ℕ) (xs ys : List Entry) → T (below_all string_cmp k xs) → T (below_all string_cmp k ys) → T (below_all string_cmp k (xs ++ ys))
below_joined k [] ys h hs = hs
below_joined k (x ∷ xs) ys h hs = both _ _ (first _ _ h) (below_joined k xs ys (second _ _ h) hs)

below_behind : (b : ℕ) (k : List ℕ) (es : List Entry) → T (below_all string_cmp k es) → T (below_all string_cmp (b ∷ k) (prefixed (b ∷ []) es))
below_behind b k [] h = tt
below_behind b k (e ∷ es) h = both _ _ (subst (λ (o : Ordering). T (is_lt o)) (sym (cmp_same b k e.0)) (first _ _ h)) (below_behind b k es (second _ _ h))

-- the entries under one byte before those under greater ones
pub sorted_next : (b : ℕ) (es ys : List Entry) → T (is_sorted string_cmp es) → AllFirst (b + 1) ys → T (is_sorted string_cmp ys) → T (is_sorted string_cmp (prefixed (b ∷ []) es ++ ys))
sorted_next b [] ys h later hs = hs
sorted_next b (e ∷ es) ys h later hs = both _ _
    (below_joined (b ∷ e.0) (prefixed (b ∷ []) es) ys (below_behind b e.0 es (first _ _ h)) (below_later b e.0 ys later))
    (sorted_next b es ys (second _ _ h) later hs)

pub sorted_own : (v : List ℕ) (ys : List Entry) → AllFirst 0 ys → T (is_sorted string_cmp ys) → T (is_sorted string_cmp (([], v) ∷ ys))
sorted_own v ys h hs = both _ _ (below_first ys h) hs

-- ---- what a key finds

pub find_later : (c : ℕ) (k : List ℕ) (es : List Entry) → AllFirst (c + 1) es → find string_cmp (c ∷ k) es ≡ None
find_later c k [] h = refl
find_later c k (e ∷ es) (h, hs) = ap (λ (b : Bool). cond b (Some e.1) (find string_cmp (c ∷ k) es)) (by e.0 h) ∙ find_later c k es hs
  where
    by : (s : List ℕ) → HasFirst (c + 1) s → eq_by_cmp string_cmp (c ∷ k) s ≡ false
    by [] h = absurd h
    by (d ∷ s) h = apart_by c d k s (λ z. omega arith)

pub find_empty : (es : List Entry) → AllFirst 0 es → find string_cmp [] es ≡ None
find_empty [] h = refl
find_empty (e ∷ es) (h, hs) = ap (λ (b : Bool). cond b (Some e.1) (find string_cmp [] es)) (by e.0 h) ∙ find_empty es hs
  where
    by : (s : List ℕ) → HasFirst 0 s → eq_by_cmp string_cmp [] s ≡ false
    by [] h = absurd h
    by (d ∷ s) h = refl

pub find_past : (b c : ℕ) (k : List ℕ) (es ys : List Entry) → c ≢ b → find string_cmp (c ∷ k) (prefixed (b ∷ []) es ++ ys) ≡ find string_cmp (c ∷ k) ys
find_past b c k [] ys ne = refl
find_past b c k (e ∷ es) ys ne = ap (λ (t : Bool). cond t (Some e.1) (find string_cmp (c ∷ k) (prefixed (b ∷ []) es ++ ys))) (apart_by c b k e.0 ne) ∙ find_past b c k es ys ne

over_cond : (t : Bool) (x : List ℕ) (o older : Option (List ℕ)) → cond t (Some x) (value_over o older) ≡ value_over (cond t (Some x) o) older
over_cond true x o older = refl
over_cond false x o older = refl

pub find_here : (c : ℕ) (k : List ℕ) (es ys : List Entry) → find string_cmp (c ∷ k) (prefixed (c ∷ []) es ++ ys) ≡ value_over (find string_cmp k es) (find string_cmp (c ∷ k) ys)
find_here c k [] ys = refl
find_here c k (e ∷ es) ys =
    ap (λ (o : Ordering). cond (is_eq o) (Some e.1) (find string_cmp (c ∷ k) (prefixed (c ∷ []) es ++ ys))) (cmp_same c k e.0)
    ∙ ap (cond (eq_by_cmp string_cmp k e.0) (Some e.1)) (find_here c k es ys)
    ∙ over_cond (eq_by_cmp string_cmp k e.0) e.1 (find string_cmp k es) (find string_cmp (c ∷ k) ys)
