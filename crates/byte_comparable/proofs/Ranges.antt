-- What lies in a range of keys, seen by their strings.
use Rattle.std.proofs.Common.{◌≡◌, ℕ, List, [], ◌∷◌, ◌++◌, Option, None, Some, IfSome, refl, sym, ◌∙◌, ap, arith}
use Rattle.std.specs.Prelude.{◌≢◌, ◌↔◌}
use Rattle.std.proofs.lemmas.List.{append-nil}
use Rattle.std.specs.Ordering.{nat_cmp, ordering_then}
use Rattle.std.specs.declared.cmp.Ordering.{Ordering}
use Rattle.std.specs.declared.cmp.Ordering.TheVariants.{Less, Equal, Greater}
use Rattle.std.specs.Cmp.Lexicographic.{slice_cmp}
use Rattle.key_types.specs.Kinds.{Kinds, end, more, Vals, none, and, AreBytes, EachFits, orders_by}
use Rattle.byte_comparable.specs.Encoding.{components, key_string, bound_with, before_rows, after_rows, LeadFits}
use Rattle.byte_comparable.specs.Order.{lead_order, bound_order, within_string, from_string, to_string, NamesNone, IsNotBelow, IsNotAbove}
use Rattle.byte_comparable.proofs.Compare.{then_equal, bytes_both}
use Rattle.byte_comparable.proofs.Compose.{all_are_bytes}
use Rattle.byte_comparable.proofs.Kept.{before, behind, ranged, string_bytes, string_order}

-- ---- orders

not_less : (o x s : Ordering) → x ≡ o → s ≡ ordering_then o Greater → (x ≢ Less) ↔ (s ≢ Less)
not_less Less x s e f = (λ n h. n e, λ n h. n f)
not_less Equal x s e f = (λ n h. cc, λ n h. cc)
not_less Greater x s e f = (λ n h. cc, λ n h. cc)

not_greater : (o x s : Ordering) → x ≡ o → s ≡ ordering_then o Less → (x ≢ Greater) ↔ (s ≢ Greater)
not_greater Less x s e f = (λ n h. cc, λ n h. cc)
not_greater Equal x s e f = (λ n h. cc, λ n h. cc)
not_greater Greater x s e f = (λ n h. n e, λ n h. n f)

whole_partition : (o s : Ordering) → s ≡ o → ((o ≢ Less) × (o ≡ Equal → Unit {0})) ↔ (s ≢ Less)
whole_partition o s e = (λ n h. n.0 (sym e ∙ h), λ n. ((λ h. n (e ∙ h)), (λ h. tt)))

behind_static : (o s : Ordering) → s ≡ ordering_then o Less → ((o ≢ Less) × (o ≡ Equal → ⊥)) ↔ (s ≢ Less)
behind_static Less s e = (λ n h. n.0 refl, λ n. absurd (n e))
behind_static Equal s e = (λ n h. n.1 refl, λ n. absurd (n e))
behind_static Greater s e = (λ n h. cc, λ n. ((λ h. cc), (λ h. cc)))

-- ---- strings

lead_none : (cs : Kinds) (c : Vals) → lead_order cs c none ≡ Equal
lead_none end c = refl
lead_none (more t ts) none = refl
lead_none (more t ts) (and x xs) = refl

module _ (ps cs : Kinds) (q p : Vals) (f : EachFits ps q) (g : EachFits ps p) where
  -- two strings of partitions, and what stands behind them
  strings : (x y : List ℕ) → AreBytes x → AreBytes y → slice_cmp nat_cmp (key_string ps q ++ x) (key_string ps p ++ y) ≡ ordering_then (orders_by ps q p) (slice_cmp nat_cmp x y)
  strings x y = string_order ps q p x y f g

  to_partition : (x : List ℕ) → AreBytes x → slice_cmp nat_cmp (key_string ps q ++ x) (key_string ps p) ≡ ordering_then (orders_by ps q p) (slice_cmp nat_cmp x [])
  to_partition x h = ap (slice_cmp nat_cmp (key_string ps q ++ x)) (sym (append-nil (key_string ps p))) ∙ strings x [] h tt

  -- a static key, and what stands behind the string of the partition
  static_before : (last : ℕ) (c : Vals) → AreBytes (bound_with last cs c) → slice_cmp nat_cmp (key_string ps q ++ []) (key_string ps p ++ bound_with last cs c) ≡ ordering_then (orders_by ps q p) Less
  static_before last c h = strings [] (bound_with last cs c) tt h ∙ ap (ordering_then (orders_by ps q p)) (before (components cs c) last)

  bound_bytes : (last : ℕ) (c : Vals) → AreBytes (last ∷ []) → LeadFits cs c → AreBytes (bound_with last cs c)
  bound_bytes last c w h = bytes_both (components cs c) (last ∷ []) (all_are_bytes cs c h) w

  pub from_kept : (o : Option Vals) (c : Vals) → IfSome o (EachFits cs) → LeadFits cs c
      → IsNotBelow ps cs q o p c ↔ (slice_cmp nat_cmp (key_string ps q ++ within_string cs o) (from_string ps cs p c) ≢ Less)
  from_kept (Some r) none h k =
      not_less (orders_by ps q p) _ _ (ap (ordering_then (orders_by ps q p)) (lead_none cs r) ∙ then_equal (orders_by ps q p))
      (to_partition (key_string cs r) (string_bytes cs r h) ∙ ap (ordering_then (orders_by ps q p)) (behind (components cs r) 0x38))
  from_kept (Some r) (and v vs) h k =
      not_less (bound_order ps cs q r p (and v vs)) _ _ refl (ranged before_rows Greater ((omega arith, omega arith), tt) (λ rest. refl) refl ps cs q r p (and v vs) f h g k)
  from_kept None none h k = whole_partition (orders_by ps q p) _ (to_partition [] tt ∙ then_equal (orders_by ps q p))
  from_kept None (and v vs) h k = behind_static (orders_by ps q p) _ (static_before before_rows (and v vs) (bound_bytes before_rows (and v vs) (omega arith, tt) k))

  pub to_kept : (o : Option Vals) (c : Vals) → IfSome o (EachFits cs) → LeadFits cs c
      → IsNotAbove ps cs q o p c ↔ (slice_cmp nat_cmp (key_string ps q ++ within_string cs o) (to_string ps cs p c) ≢ Greater)
  to_kept (Some r) c h k =
      not_greater (bound_order ps cs q r p c) _ _ refl (ranged after_rows Less ((omega arith, omega arith), tt) (λ rest. refl) refl ps cs q r p c f h g k)
  to_kept None c h k = not_greater (orders_by ps q p) _ _ refl (static_before after_rows c (bound_bytes after_rows c (omega arith, tt) k))
