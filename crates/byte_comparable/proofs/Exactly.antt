-- Values that the order doesn't tell apart are one.
use Rattle.std.proofs.Common.{◌≡◌, ℕ, Bool, true, false, List, [], ◌∷◌, arith, refl, sym, ◌∙◌, ap, subst}
use Rattle.std.specs.Prelude.{ℤ, pos, negsuc}
use Rattle.std.proofs.lemmas.Bool.Decides.{nat_tests}
use Rattle.std.specs.Ordering.{nat_cmp, int_cmp, bool_cmp, ordering_then, ordering_reverse}
use Rattle.std.specs.declared.cmp.Ordering.{Ordering}
use Rattle.std.specs.declared.cmp.Ordering.TheVariants.{Less, Equal, Greater}
use Rattle.std.specs.Cmp.Lexicographic.{slice_cmp}
use Rattle.key_types.specs.Kinds.{Kind, tiny, small, int, big, text, blob, boolean, tuple, reversed, Kinds, end, more, Val, number, bytes, truth, values, Vals, none, and, Fits, EachFits, order_by, orders_by}
use Rattle.byte_comparable.proofs.Views.{as_number, as_text, as_blob, as_truth}

pub both_equal : (r s : Ordering) → ordering_then r s ≡ Equal → (r ≡ Equal) × (s ≡ Equal)
both_equal Less s h = cc
both_equal Equal s h = (refl, h)
both_equal Greater s h = cc

pub turned_equal : (r : Ordering) → ordering_reverse r ≡ Equal → r ≡ Equal
turned_equal Less h = cc
turned_equal Equal h = refl
turned_equal Greater h = cc

same_nat : (x y : ℕ) → nat_cmp x y ≡ Equal → x ≡ y
same_nat x y h = grind (arith, nat_tests)

same_int : (x y : ℤ) → int_cmp x y ≡ Equal → x ≡ y
same_int (pos m) (pos n) h = let e : m ≡ n = grind (arith, nat_tests) in ap pos e
same_int (pos m) (negsuc n) h = grind (arith, nat_tests)
same_int (negsuc m) (pos n) h = grind (arith, nat_tests)
same_int (negsuc m) (negsuc n) h = let e : m ≡ n = grind (arith, nat_tests) in ap negsuc e

same_list : (xs ys : List ℕ) → slice_cmp nat_cmp xs ys ≡ Equal → xs ≡ ys
same_list [] [] h = refl
same_list [] (y ∷ ys) h = cc
same_list (x ∷ xs) [] h = cc
same_list (x ∷ xs) (y ∷ ys) h =
    let both = both_equal (nat_cmp x y) (slice_cmp nat_cmp xs ys) h in
    ap (λ z. z ∷ xs) (same_nat x y both.0) ∙ ap (λ l. y ∷ l) (same_list xs ys both.1)

same_bool : (x y : Bool) → bool_cmp x y ≡ Equal → x ≡ y
same_bool false false h = refl
same_bool false true h = cc
same_bool true false h = cc
same_bool true true h = refl

-- at values of these forms
abbrev Exact : Kind → Val → Val → Type 0
Exact t a b = order_by t a b ≡ Equal → a ≡ b

by_number : (t : Kind) (a b : Val) → ((m n : ℤ) → Exact t (number m) (number n)) → (m : ℤ) × (a ≡ number m) → (n : ℤ) × (b ≡ number n) → Exact t a b
by_number t a b f m n = subst (λ (v : Val). Exact t v b) (sym m.1) (subst (λ (v : Val). Exact t (number m.0) v) (sym n.1) (f m.0 n.0))

by_bytes : (t : Kind) (a b : Val) → ((m n : List ℕ) → Exact t (bytes m) (bytes n)) → (m : List ℕ) × (a ≡ bytes m) → (n : List ℕ) × (b ≡ bytes n) → Exact t a b
by_bytes t a b f m n = subst (λ (v : Val). Exact t v b) (sym m.1) (subst (λ (v : Val). Exact t (bytes m.0) v) (sym n.1) (f m.0 n.0))

mutual
  pub exactly : (t : Kind) (a b : Val) → Fits t a → Fits t b → Exact t a b
  exactly tiny a b f g = by_number tiny a b (λ m n h. ap number (same_int m n h)) (as_number tiny a tt f) (as_number tiny b tt g)
  exactly small a b f g = by_number small a b (λ m n h. ap number (same_int m n h)) (as_number small a tt f) (as_number small b tt g)
  exactly int a b f g = by_number int a b (λ m n h. ap number (same_int m n h)) (as_number int a tt f) (as_number int b tt g)
  exactly big a b f g = by_number big a b (λ m n h. ap number (same_int m n h)) (as_number big a tt f) (as_number big b tt g)
  exactly text a b f g = by_bytes text a b (λ m n h. ap bytes (same_list m n h)) (as_text a f) (as_text b g)
  exactly blob a b f g = by_bytes blob a b (λ m n h. ap bytes (same_list m n h)) (as_blob a f) (as_blob b g)
  exactly boolean a b f g =
      let m = as_truth a f in
      let n = as_truth b g in
      subst (λ (v : Val). Exact boolean v b) (sym m.1) (subst (λ (v : Val). Exact boolean (truth m.0) v) (sym n.1) (λ h. ap truth (same_bool m.0 n.0 h)))
  exactly (tuple ts) (values xs) (values ys) f g = λ h. ap values (exactly_all ts xs ys f g h)
  exactly (tuple ts) (values xs) (number n) f g = absurd g
  exactly (tuple ts) (values xs) (bytes n) f g = absurd g
  exactly (tuple ts) (values xs) (truth n) f g = absurd g
  exactly (tuple ts) (number n) b f g = absurd f
  exactly (tuple ts) (bytes n) b f g = absurd f
  exactly (tuple ts) (truth n) b f g = absurd f
  exactly (reversed t) a b f g = λ h. exactly t a b f g (turned_equal (order_by t a b) h)

  pub exactly_all : (ts : Kinds) (xs ys : Vals) → EachFits ts xs → EachFits ts ys → orders_by ts xs ys ≡ Equal → xs ≡ ys
  exactly_all end none none f g h = refl
  exactly_all end none (and y ys) f g h = absurd g
  exactly_all end (and x xs) ys f g h = absurd f
  exactly_all (more t ts) none ys f g h = absurd f
  exactly_all (more t ts) (and x xs) none f g h = absurd g
  exactly_all (more t ts) (and x xs) (and y ys) f g h =
      let both = both_equal (order_by t x y) (orders_by ts xs ys) h in
      ap (λ v. and v xs) (exactly t x y f.0 g.0 both.0) ∙ ap (λ vs. and y vs) (exactly_all ts xs ys f.1 g.1 both.1)
