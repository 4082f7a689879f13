-- The order of strings that are put together.
use Rattle.std.proofs.Common.{◌≡◌, ◌∙◌, ℕ, List, [], ◌∷◌, ◌++◌, refl, sym, ap}
use Rattle.std.proofs.lemmas.Cmp.{nat_list_cmp_total}
use Rattle.std.specs.declared.cmp.Ordering.{Ordering}
use Rattle.std.specs.declared.cmp.Ordering.TheVariants.{Less, Equal, Greater}
use Rattle.std.specs.Ordering.{nat_cmp, ordering_reverse, ordering_then}
use Rattle.std.specs.FinMap as map
use Rattle.key_types.specs.Kinds.{Kinds}
use Rattle.key_types.specs.Table.{string_cmp}
use Rattle.key_decode.specs.Strings.{IsStringOf}
use Rattle.byte_order.specs.Strings.{IsPrefix}
use Rattle.byte_comparable.proofs.Compare.{slice_front}
use Rattle.table_files.proofs.Strings.{apart_below}
use Rattle.table_reader.specs.Laws.{OrderIsOfStrings}
use Rattle.table_reader.specs.Ranges.{within_bytes}

-- a string below another one that doesn't begin with it stays below it, whatever stands behind both
less_first : (a b : ℕ) (s t : Ordering) (o : Ordering) → nat_cmp a b ≡ o → ordering_then o s ≡ Less → (a ≡ b → s ≡ Less → t ≡ Less) → ordering_then o t ≡ Less
less_first a b s t Less is less on = refl
less_first a b s t Equal is less on = on (map.nat_cmp-IsAntisymmetric a b is) less
less_first a b s t Greater is less on = cc

pub less_on : (p q x y : List ℕ) → string_cmp p q ≡ Less → (IsPrefix p q → ⊥) → string_cmp (p ++ x) (q ++ y) ≡ Less
less_on [] q x y less apart = absurd (apart (q, refl))
less_on (a ∷ p) [] x y less apart = cc
less_on (a ∷ p) (b ∷ q) x y less apart =
    less_first a b (string_cmp p q) (string_cmp (p ++ x) (q ++ y)) (nat_cmp a b) refl less
    (λ one low. less_on p q x y low (λ (more, e). apart (more, ap (λ (c : ℕ). c ∷ q) (sym one) ∙ ap (λ (l : List ℕ). a ∷ l) e)))

-- strings that go by strings of partitions go by these, and then by what stands behind them
by_parts : (ts : Kinds) (p q x y : List ℕ) (o : Ordering) → IsStringOf ts p → IsStringOf ts q → string_cmp p q ≡ o → ordering_then o (string_cmp x y) ≡ string_cmp (p ++ x) (q ++ y)
by_parts ts p q x y Less is_p is_q o = sym (less_on p q x y o (apart_below ts p q is_p is_q o).1)
by_parts ts p q x y Equal is_p is_q o =
    let one : p ≡ q = map.slice_cmp-IsAntisymmetric map.nat_cmp-IsAntisymmetric p q o in
    sym (slice_front p x y) ∙ ap (λ (r : List ℕ). string_cmp (p ++ x) (r ++ y)) one
by_parts ts p q x y Greater is_p is_q o =
    let low : string_cmp q p ≡ Less = nat_list_cmp_total.antisymm q p ∙ ap ordering_reverse o in
    let less = less_on q p y x low (apart_below ts q p is_q is_p low).1 in
    sym (nat_list_cmp_total.antisymm (p ++ x) (q ++ y) ∙ ap ordering_reverse less)

pub order_of_strings : OrderIsOfStrings
order_of_strings columns bound entry is_bound is_entry =
    by_parts columns.partition entry.partition bound.partition (within_bytes entry.clustering) (within_bytes bound.clustering)
    (string_cmp entry.partition bound.partition) is_entry.partition is_bound refl
