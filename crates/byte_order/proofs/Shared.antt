-- Two strings that have a number of bytes at their front alike and then differ: prefixes and the order of both.
use Rattle.std.proofs.Common.{◌≡◌, ◌≢◌, ◌⊎◌, inl, inr, ℕ, zero, suc, ◌+◌, ◌-◌, ◌<◌, ◌≤◌, Bool, true, false, List, [], ◌∷◌, ◌++◌, length, take, drop, arith, refl, ap, sym, ◌∙◌, subst}
use Rattle.std.specs.Prelude.{max, slice_index, not, nat_eq, Option, Some, None}
use Rattle.std.proofs.Math.Seq.{take-add}
use Rattle.std.specs.Cmp.Lexicographic.{pointwise, bytes_decides}
use Rattle.std.specs.Cmp.{nat_cmp_is}
use Rattle.std.proofs.lemmas.Map.Lookups.{exact_unsigned}
use Rattle.std.specs.declared.cmp.Ordering.{Ordering}
use Rattle.std.specs.declared.cmp.Ordering.TheVariants.{Less, Equal, Greater}
use Rattle.std.specs.Ordering.{nat_cmp, ordering_then}
use Rattle.key_types.specs.Table.{string_cmp}
use Rattle.byte_order.proofs.Prefixes.{head_is, tail_is}
use Rattle.byte_order.specs.Strings.{Differ, IsPrefix, IsPrefixOfNone, IsSeparatorLength, IsUniqueLength, neighbours}

-- both have their first n bytes alike, and no more
pub record Shared (a b : List ℕ) (n : ℕ) : Type 0 where
  pub same : take n a ≡ take n b
  pub most : (n ≤ length a) × (n ≤ length b)
  pub differ : n < length a → n < length b → slice_index a n ≢ slice_index b n

shared_tail : (a b : ℕ) (xs ys : List ℕ) (n : ℕ) → Shared (a ∷ xs) (b ∷ ys) (suc n) → Shared xs ys n
shared_tail a b xs ys n s = record {
  same = tail_is a b (take n xs) (take n ys) s.same;
  most = (omega (arith, s.most.0), omega (arith, s.most.1));
  differ = λ x y. s.differ (omega (arith, x)) (omega (arith, y));
}

pub flipped : (a b : List ℕ) (n : ℕ) → Shared a b n → Shared b a n
flipped a b n s = record { same = sym s.same; most = (s.most.1, s.most.0); differ = λ x y e. s.differ y x (sym e) }

-- ---- a word more

not_false : (b : Bool) → false ≡ not b → b ≡ true
not_false true e = refl
not_false false e = cc

-- what is alike up to a place, and in the word behind it, is alike up to the word's end
pub word_more : (n : ℕ) (a b : List ℕ) → take n a ≡ take n b
    → false ≡ not (pointwise nat_eq (take ((n + 8) - n) (drop n a)) (take ((n + 8) - n) (drop n b))) → take (n + 8) a ≡ take (n + 8) b
word_more n a b e h =
    let eight : (n + 8) - n ≡ 8 = omega arith in
    let word = (bytes_decides (take ((n + 8) - n) (drop n a)) (take ((n + 8) - n) (drop n b))).0 (not_false _ h) in
    let same = subst (λ k. take k (drop n a) ≡ take k (drop n b)) eight word in
    take-add n 8 a ∙ (ap (λ l. l ++ take 8 (drop n a)) e ∙ ap (λ l. take n b ++ l) same) ∙ sym (take-add n 8 b)

-- ---- prefixes

-- a shorter front of the one is a prefix of the other
pub front_is_prefix : (m n : ℕ) (a b : List ℕ) → take n a ≡ take n b → m ≤ n → IsPrefix (take m a) b
front_is_prefix zero n a b e h = (b, refl)
front_is_prefix (suc m) zero a b e h = absurd (omega (arith, h))
front_is_prefix (suc m) (suc n) [] b e h = (b, refl)
front_is_prefix (suc m) (suc n) (x ∷ a) [] e h = cc
front_is_prefix (suc m) (suc n) (x ∷ a) (y ∷ b) e h =
    let rest = front_is_prefix m n a b (tail_is x y (take n a) (take n b) e) (omega (arith, h)) in
    (rest.0, ap (λ z. z ∷ b) (sym (head_is x y (take n a) (take n b) e)) ∙ ap (λ l. x ∷ l) rest.1)

prefix_tail : (x y : ℕ) (a b : List ℕ) → IsPrefix (x ∷ a) (y ∷ b) → IsPrefix a b
prefix_tail x y a b p = (p.0, tail_is y x b (a ++ p.0) p.1)

prefix_more : (x y : ℕ) (a b : List ℕ) → x ≡ y → IsPrefix a b → IsPrefix (x ∷ a) (y ∷ b)
prefix_more x y a b e p = (p.0, ap (λ z. z ∷ b) (sym e) ∙ ap (λ l. x ∷ l) p.1)

-- a longer front of the one is none of the other, and the one is longer
pub front_is_apart : (n : ℕ) (a b : List ℕ) → Shared a b n → Differ a b → (n < length a) × ((m : ℕ) → n < m → IsPrefix (take m a) b → ⊥)
front_is_apart zero [] b s d = absurd (d.0 (b, refl))
front_is_apart zero (x ∷ a) [] s d = absurd (d.1 (x ∷ a, refl))
front_is_apart zero (x ∷ a) (y ∷ b) s d = (omega arith, by)
  where
    by : (m : ℕ) → zero < m → IsPrefix (take m (x ∷ a)) (y ∷ b) → ⊥
    by zero h p = omega (arith, h)
    by (suc m) h p = s.differ (omega arith) (omega arith) (sym (head_is y x b (take m a ++ p.0) p.1))
front_is_apart (suc n) [] b s d = absurd (omega (arith, s.most.0))
front_is_apart (suc n) (x ∷ a) [] s d = absurd (omega (arith, s.most.1))
front_is_apart (suc n) (x ∷ a) (y ∷ b) s d =
    let e = head_is x y (take n a) (take n b) s.same in
    let rest = front_is_apart n a b (shared_tail x y a b n s) ((λ p. d.0 (prefix_more x y a b e p)), (λ p. d.1 (prefix_more y x b a (sym e) p))) in
    (omega (arith, rest.0), by rest.1)
  where
    by : ((m : ℕ) → n < m → IsPrefix (take m a) b → ⊥) → (m : ℕ) → suc n < m → IsPrefix (take m (x ∷ a)) (y ∷ b) → ⊥
    by more zero h p = omega (arith, h)
    by more (suc m) h p = more m (omega (arith, h)) (prefix_tail x y (take m a) b p)

-- ---- the order

pub equal_is : (x y : ℕ) → nat_cmp x y ≡ Equal → x ≡ y
equal_is = exact_unsigned

pub itself : (x y : ℕ) → x ≡ y → nat_cmp x y ≡ Equal
itself x y e = sym (nat_cmp_is x y Equal e)

pub first_decides : (r o p : Ordering) → (r ≡ Equal → ⊥) → ordering_then r o ≡ Less → ordering_then r p ≡ Less
first_decides Less o p apart h = refl
first_decides Equal o p apart h = absurd (apart refl)
first_decides Greater o p apart h = h

pub rest_decides : (r o : Ordering) → r ≡ Equal → ordering_then r o ≡ o
rest_decides Less o e = cc
rest_decides Equal o e = refl
rest_decides Greater o e = cc

-- one byte more of the greater is above the lesser
one_more : (n : ℕ) (x y : List ℕ) → Shared x y n → string_cmp x y ≡ Less → (n < length y) × (string_cmp x (take (suc n) y) ≡ Less)
one_more zero [] [] s h = cc
one_more zero [] (b ∷ y) s h = (omega arith, refl)
one_more zero (a ∷ x) [] s h = cc
one_more zero (a ∷ x) (b ∷ y) s h =
    (omega arith, first_decides (nat_cmp a b) (string_cmp x y) (string_cmp x []) (λ e. s.differ (omega arith) (omega arith) (equal_is a b e)) h)
one_more (suc n) [] y s h = absurd (omega (arith, s.most.0))
one_more (suc n) (a ∷ x) [] s h = absurd (omega (arith, s.most.1))
one_more (suc n) (a ∷ x) (b ∷ y) s h =
    let e = itself a b (head_is a b (take n x) (take n y) s.same) in
    let rest = one_more n x y (shared_tail a b x y n s) (sym (rest_decides (nat_cmp a b) (string_cmp x y) e) ∙ h) in
    (omega (arith, rest.0), rest_decides (nat_cmp a b) (string_cmp x (take (suc n) y)) e ∙ rest.1)

-- no more bytes than both have alike are above it
no_less : (n m : ℕ) (x y : List ℕ) → take n x ≡ take n y → m ≤ n → string_cmp x (take m y) ≡ Less → ⊥
no_less n zero [] y e l h = cc
no_less n zero (a ∷ x) y e l h = cc
no_less zero (suc m) x y e l h = omega (arith, l)
no_less (suc n) (suc m) [] [] e l h = cc
no_less (suc n) (suc m) [] (b ∷ y) e l h = cc
no_less (suc n) (suc m) (a ∷ x) [] e l h = cc
no_less (suc n) (suc m) (a ∷ x) (b ∷ y) e l h =
    let s = itself a b (head_is a b (take n x) (take n y) e) in
    no_less n m x y (tail_is a b (take n x) (take n y) e) (omega (arith, l)) (sym (rest_decides (nat_cmp a b) (string_cmp x (take m y)) s) ∙ h)

or_less : (m n : ℕ) → (m ≤ n) ⊎ (n < m)
or_less m n = grind arith

pub separates : (x y : List ℕ) (n : ℕ) → Shared x y n → string_cmp x y ≡ Less → IsSeparatorLength x y (suc n)
separates x y n s h =
    let more = one_more n x y s h in
    record { most = omega (arith, more.0); above = more.1; shortest = λ m g. by m g (or_less m n) }
  where
    by : (m : ℕ) → string_cmp x (take m y) ≡ Less → (m ≤ n) ⊎ (n < m) → suc n ≤ m
    by m g (inl l) = absurd (no_less n m x y s.same l g)
    by m g (inr l) = omega (arith, l)

-- ---- the shortest prefix that no neighbour has

-- what a neighbour tells: how many bytes it shares with the key, and that both differ behind them
pub record Beside (key other : List ℕ) (n : ℕ) : Type 0 where
  pub longer : n < length key
  pub shares : (m : ℕ) → m ≤ n → IsPrefix (take m key) other
  pub parts : (m : ℕ) → n < m → IsPrefix (take m key) other → ⊥

pub beside : (key other : List ℕ) (n : ℕ) → Shared key other n → Differ key other → Beside key other n
beside key other n s d =
    let apart = front_is_apart n key other s d in
    record { longer = apart.0; shares = λ m l. front_is_prefix m n key other s.same l; parts = apart.1 }

-- where a neighbour is there, it shares n bytes; where none is there, n is 0
abbrev pub BesideSome : List ℕ → Option (List ℕ) → ℕ → Type 0
BesideSome key None n = n ≡ 0
BesideSome key (Some other) n = Beside key other n

one_unique : (key other : List ℕ) (n : ℕ) → Beside key other n → IsUniqueLength key (other ∷ []) (suc n)
one_unique key other n b = record {
  least = omega arith;
  most = omega (arith, b.longer);
  alone = (b.parts (suc n) (omega arith), tt);
  shortest = λ m low none. by m none (or_less m n);
}
  where
    by : (m : ℕ) → IsPrefixOfNone (take m key) (other ∷ []) → (m ≤ n) ⊎ (n < m) → suc n ≤ m
    by m none (inl l) = absurd (none.0 (b.shares m l))
    by m none (inr l) = omega (arith, l)

both_unique : (key before behind : List ℕ) (n m k : ℕ) → Beside key before n → Beside key behind m → n ≤ k → m ≤ k → ((k ≡ n) ⊎ (k ≡ m))
    → IsUniqueLength key (before ∷ behind ∷ []) (suc k)
both_unique key before behind n m k b c low high which = record {
  least = omega arith;
  most = longer which;
  alone = (b.parts (suc k) (omega (arith, low)), (c.parts (suc k) (omega (arith, high)), tt));
  shortest = λ l some none. by l none which (or_less l k);
}
  where
    longer : (k ≡ n) ⊎ (k ≡ m) → suc k ≤ length key
    longer (inl e) = omega (arith, e, b.longer)
    longer (inr e) = omega (arith, e, c.longer)

    by : (l : ℕ) → IsPrefixOfNone (take l key) (before ∷ behind ∷ []) → (k ≡ n) ⊎ (k ≡ m) → (l ≤ k) ⊎ (k < l) → suc k ≤ l
    by l none (inl e) (inl h) = absurd (none.0 (b.shares l (omega (arith, h, e))))
    by l none (inr e) (inl h) = absurd (none.1.0 (c.shares l (omega (arith, h, e))))
    by l none e (inr h) = omega (arith, h)

-- no neighbour: one byte
alone_unique : (key : List ℕ) → key ≢ [] → IsUniqueLength key [] 1
alone_unique [] some = absurd (some refl)
alone_unique (x ∷ key) some = record { least = omega arith; most = omega arith; alone = tt; shortest = λ m low none. omega (arith, low) }

pub unique : (key : List ℕ) (before behind : Option (List ℕ)) (n m k : ℕ) → key ≢ [] → BesideSome key before n → BesideSome key behind m
    → n ≤ k → m ≤ k → ((k ≡ n) ⊎ (k ≡ m)) → IsUniqueLength key (neighbours before behind) (suc k)
unique key None None n m k some b c low high which = subst (λ l. IsUniqueLength key [] (suc l)) (zero_is which) (alone_unique key some)
  where
    zero_is : (k ≡ n) ⊎ (k ≡ m) → 0 ≡ k
    zero_is (inl e) = omega (arith, e, b)
    zero_is (inr e) = omega (arith, e, c)
unique key None (Some other) n m k some b c low high which = subst (λ l. IsUniqueLength key (other ∷ []) (suc l)) (greater_is which) (one_unique key other m c)
  where
    greater_is : (k ≡ n) ⊎ (k ≡ m) → m ≡ k
    greater_is (inl e) = omega (arith, e, b, high)
    greater_is (inr e) = omega (arith, e)
unique key (Some other) None n m k some b c low high which = subst (λ l. IsUniqueLength key (other ∷ []) (suc l)) (greater_is which) (one_unique key other n b)
  where
    greater_is : (k ≡ n) ⊎ (k ≡ m) → n ≡ k
    greater_is (inl e) = omega (arith, e)
    greater_is (inr e) = omega (arith, e, c, low)
unique key (Some before) (Some behind) n m k some b c low high which = both_unique key before behind n m k b c low high which

-- the greater of two numbers is one of both
pub greater_is : (n m k : ℕ) → k ≡ max n m → (n ≤ k) × (m ≤ k) × ((k ≡ n) ⊎ (k ≡ m))
greater_is n m k e = (omega (arith, e), omega (arith, e), by (or_less m n))
  where
    by : (m ≤ n) ⊎ (n < m) → (k ≡ n) ⊎ (k ≡ m)
    by (inl h) = inl (omega (arith, e, h))
    by (inr h) = inr (omega (arith, e, h))
