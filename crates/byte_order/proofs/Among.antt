-- In an ascending list the strings beside a key tell which prefixes of it others have.
use Rattle.std.proofs.Common.{◌≡◌, ℕ, ◌<◌, List, [], ◌∷◌, ◌++◌, take, drop, arith, refl, ap, sym, ◌∙◌}
use Rattle.std.specs.Prelude.{Option, Some, None, IfSome}
use Rattle.std.specs.declared.cmp.Ordering.{Ordering}
use Rattle.std.specs.declared.cmp.Ordering.TheVariants.{Less, Equal, Greater}
use Rattle.std.specs.Ordering.{nat_cmp, ordering_then, MatchOrdering}
use Rattle.std.specs.Cmp.{ranks}
use Rattle.std.proofs.lemmas.Cmp.{nat_list_cmp_total}
use Rattle.std.proofs.lemmas.List.{take-append-drop}
use Rattle.key_types.specs.Table.{string_cmp}
use Rattle.byte_order.proofs.Prefixes.{head_is, tail_is}
use Rattle.byte_order.specs.Strings.{AreAscending, IsPrefix, IsPrefixOfNone, first_of, last_of, neighbours}
use Rattle.byte_order.specs.Laws.{UniqueAmongAll}

-- ---- a prefix of two strings is one of all strings between

-- where the first byte isn't above and isn't below, it is the same, and the rests decide
same_bytes : (x y : ℕ) (r s o p : Ordering) → MatchOrdering r (x < y) (x ≡ y) (y < x) → MatchOrdering s (y < x) (y ≡ x) (x < y)
    → ordering_then r o ≡ Less → ordering_then s p ≡ Less → (x ≡ y) × (o ≡ Less) × (p ≡ Less)
same_bytes x y Less Less o p h g a b = absurd (omega (arith, h, g))
same_bytes x y Less Equal o p h g a b = absurd (omega (arith, h, g))
same_bytes x y Less Greater o p h g a b = cc
same_bytes x y Equal Less o p h g a b = absurd (omega (arith, h, g))
same_bytes x y Equal Equal o p h g a b = (h, a, b)
same_bytes x y Equal Greater o p h g a b = cc
same_bytes x y Greater s o p h g a b = cc

between : (p a b c : List ℕ) → string_cmp a b ≡ Less → string_cmp b c ≡ Less → IsPrefix p a → IsPrefix p c → IsPrefix p b
between [] a b c h g f e = (b, refl)
between (x ∷ p) [] b c h g f e = cc
between (x ∷ p) (y ∷ a) [] c h g f e = cc
between (x ∷ p) (y ∷ a) (z ∷ b) [] h g f e = cc
between (x ∷ p) (y ∷ a) (z ∷ b) (v ∷ c) h g f e =
    let first : y ≡ x = head_is y x a (p ++ f.0) f.1 in
    let last : v ≡ x = head_is v x c (p ++ e.0) e.1 in
    let up : ordering_then (nat_cmp x z) (string_cmp a b) ≡ Less = ap (λ k. ordering_then (nat_cmp k z) (string_cmp a b)) (sym first) ∙ h in
    let down : ordering_then (nat_cmp z x) (string_cmp b c) ≡ Less = ap (λ k. ordering_then (nat_cmp z k) (string_cmp b c)) (sym last) ∙ g in
    let same = same_bytes x z (nat_cmp x z) (nat_cmp z x) (string_cmp a b) (string_cmp b c) (ranks x z) (ranks z x) up down in
    let rest = between p a b c same.1 same.2 (f.0, tail_is y x a (p ++ f.0) f.1) (e.0, tail_is v x c (p ++ e.0) e.1) in
    (rest.0, ap (λ k. k ∷ b) (sym same.0) ∙ ap (λ l. x ∷ l) rest.1)

-- ---- the strings before a key

abbrev less : List ℕ → List ℕ → Type 0
less a b = string_cmp a b ≡ Less

-- what stands before a key is below it
below : (string : List ℕ) (strings : List (List ℕ)) (key : List ℕ) (behind : List (List ℕ)) → AreAscending (string ∷ (strings ++ key ∷ behind)) → less string key
below string [] key behind h = h.0
below string (next ∷ strings) key behind h =
    nat_list_cmp_total.trans string next key h.0 (below next strings key behind h.1)

abbrev NoPrefix : List ℕ → Option (List ℕ) → Type 0
NoPrefix p found = IfSome found (λ other. IsPrefix p other → ⊥)

none_before : (p key : List ℕ) (before behind : List (List ℕ)) → AreAscending (before ++ key ∷ behind) → IsPrefix p key → NoPrefix p (last_of before)
    → IsPrefixOfNone p before
none_before p key [] behind h f unmet = tt
none_before p key (string ∷ []) behind h f unmet = (unmet, tt)
none_before p key (string ∷ next ∷ strings) behind h f unmet =
    let rest = none_before p key (next ∷ strings) behind h.1 f unmet in
    ((λ g. rest.0 (between p string next key h.0 (below next strings key behind h.1) g f)), rest)

-- ---- those behind it

-- what stands behind a string is above it
above : (p key next : List ℕ) (behind : List (List ℕ)) → less key next → AreAscending (next ∷ behind) → IsPrefix p key → (IsPrefix p next → ⊥) → IsPrefixOfNone p behind
above p key next [] low h f unmet = tt
above p key next (string ∷ strings) low h f unmet =
    let not_here : IsPrefix p string → ⊥ = λ g. unmet (between p key next string low h.0 f g) in
    (not_here, above p key string strings (nat_list_cmp_total.trans key next string low h.0) h.1 f not_here)

none_behind : (p key : List ℕ) (behind : List (List ℕ)) → AreAscending (key ∷ behind) → IsPrefix p key → NoPrefix p (first_of behind) → IsPrefixOfNone p behind
none_behind p key [] h f unmet = tt
none_behind p key (next ∷ behind) h f unmet = (unmet, above p key next behind h.0 h.1 f unmet)

tail_ascends : (before : List (List ℕ)) (key : List ℕ) (behind : List (List ℕ)) → AreAscending (before ++ key ∷ behind) → AreAscending (key ∷ behind)
tail_ascends [] key behind h = h
tail_ascends (string ∷ []) key behind h = h.1
tail_ascends (string ∷ next ∷ strings) key behind h = tail_ascends (next ∷ strings) key behind h.1

-- ---- neighbours and all

none_joined : (p : List ℕ) (xs ys : List (List ℕ)) → IsPrefixOfNone p xs → IsPrefixOfNone p ys → IsPrefixOfNone p (xs ++ ys)
none_joined p [] ys a b = b
none_joined p (x ∷ xs) ys a b = (a.0, none_joined p xs ys a.1 b)

none_parted : (p : List ℕ) (xs ys : List (List ℕ)) → IsPrefixOfNone p (xs ++ ys) → IsPrefixOfNone p xs × IsPrefixOfNone p ys
none_parted p [] ys a = (tt, a)
none_parted p (x ∷ xs) ys a = let rest = none_parted p xs ys a.1 in ((a.0, rest.0), rest.1)

no_last : (p : List ℕ) (xs : List (List ℕ)) → IsPrefixOfNone p xs → NoPrefix p (last_of xs)
no_last p [] a = tt
no_last p (x ∷ []) a = a.0
no_last p (x ∷ y ∷ xs) a = no_last p (y ∷ xs) a.1

no_first : (p : List ℕ) (xs : List (List ℕ)) → IsPrefixOfNone p xs → NoPrefix p (first_of xs)
no_first p [] a = tt
no_first p (x ∷ xs) a = a.0

neither : (p : List ℕ) (before behind : Option (List ℕ)) → IsPrefixOfNone p (neighbours before behind) → NoPrefix p before × NoPrefix p behind
neither p None None a = (tt, tt)
neither p None (Some next) a = (tt, a.0)
neither p (Some last) None a = (a.0, tt)
neither p (Some last) (Some next) a = (a.0, a.1.0)

of_neither : (p : List ℕ) (before behind : Option (List ℕ)) → NoPrefix p before → NoPrefix p behind → IsPrefixOfNone p (neighbours before behind)
of_neither p None None a b = tt
of_neither p None (Some next) a b = (b, tt)
of_neither p (Some last) None a b = (a, tt)
of_neither p (Some last) (Some next) a b = (a, (b, tt))

-- ---- the law

pub unique_among_all : UniqueAmongAll
unique_among_all before key behind n h u =
    let front : IsPrefix (take n key) key = (drop n key, sym (take-append-drop n key)) in
    let unmet = neither (take n key) (last_of before) (first_of behind) u.alone in
    record {
      least = u.least;
      most = u.most;
      alone = none_joined (take n key) before behind (none_before (take n key) key before behind h front unmet.0)
          (none_behind (take n key) key behind (tail_ascends before key behind h) front unmet.1);
      shortest = λ m low none.
          let parts = none_parted (take m key) before behind none in
          u.shortest m low (of_neither (take m key) (last_of before) (first_of behind) (no_last (take m key) before parts.0) (no_first (take m key) behind parts.1));
    }
