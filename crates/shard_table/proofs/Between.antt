-- Strings between bounds that ascend.
use Rattle.std.proofs.Common.{◌≡◌, ℕ, zero, suc, ◌+◌, ◌-◌, ◌<◌, Bool, true, false, cond, List, [], ◌∷◌, length, count_by, slice_get, Some, refl, sym, ap, ◌∙◌, subst, arith}
use Rattle.std.specs.declared.cmp.Ordering.{Ordering}
use Rattle.std.specs.declared.cmp.Ordering.TheVariants.{Less, Equal, Greater}
use Rattle.std.specs.Ordering.{is_le, ordering_reverse}
use Rattle.std.specs.FinMap as map_of
use Rattle.std.proofs.lemmas.List.Sums.{sum_by-cons}
use Rattle.std.specs.Cmp.Lexicographic.{nat_list_cmp_total}
use Rattle.key_types.specs.Table.{string_cmp}
use Rattle.trie_rule.specs.Seats.{KeptWords}
use Rattle.shard_table.specs.Shards.{is_reached, shard_index, bound_at, BoundsAscend, LiesIn, KeysLie, ShardsAscend, LawShardOf}

pub same : (x y : List ℕ) → string_cmp x y ≡ Equal → x ≡ y
same x y e = map_of.slice_cmp-IsAntisymmetric map_of.nat_cmp-IsAntisymmetric x y e

pub turned : (x y : List ℕ) (r : Ordering) → string_cmp y x ≡ r → string_cmp x y ≡ ordering_reverse r
turned x y r e = nat_list_cmp_total.antisymm x y ∙ ap ordering_reverse e

less_then_le : (x y z : List ℕ) → string_cmp x y ≡ Less → is_le (string_cmp y z) ≡ true → string_cmp x z ≡ Less
less_then_le x y z l h = by (string_cmp y z) refl
  where
    by : (r : Ordering) → string_cmp y z ≡ r → string_cmp x z ≡ Less
    by Less e = nat_list_cmp_total.trans x y z l e
    by Equal e = ap (string_cmp x) (sym (same y z e)) ∙ l
    by Greater e = let bad : is_le (string_cmp y z) ≡ false = ap is_le e in absurd (cc)

pub count_more : {X : Type 0} (p : X → Bool) (x : X) (xs : List X) → count_by p (x ∷ xs) ≡ cond (p x) 1 0 + count_by p xs
count_more p x xs = sum_by-cons (λ (y : _). cond (p y) 1 0) x xs

-- ---- bounds

later_bound : (bounds : List (List ℕ)) → BoundsAscend bounds → (d i : ℕ) → i + suc d < length bounds → string_cmp (bound_at bounds i) (bound_at bounds (i + suc d)) ≡ Less
later_bound bounds up zero i l = let e : i + 1 - 1 ≡ i = omega arith in ap (λ (k : ℕ). string_cmp (bound_at bounds k) (bound_at bounds (i + 1))) (sym e) ∙ up (i + 1) (omega arith) l
later_bound bounds up (suc d) i l =
    let e : i + suc (suc d) - 1 ≡ i + suc d = omega arith in
    let step : string_cmp (bound_at bounds (i + suc d)) (bound_at bounds (i + suc (suc d))) ≡ Less = ap (λ (k : ℕ). string_cmp (bound_at bounds k) (bound_at bounds (i + suc (suc d)))) (sym e) ∙ up (i + suc (suc d)) (omega arith) l in
    nat_list_cmp_total.trans (bound_at bounds i) (bound_at bounds (i + suc d)) (bound_at bounds (i + suc (suc d))) (later_bound bounds up d i (omega arith)) step

tail_ascends : (b : List ℕ) (bounds : List (List ℕ)) → BoundsAscend (b ∷ bounds) → BoundsAscend bounds
tail_ascends b bounds up (suc i) l m = let one : suc (suc i) - 1 ≡ suc i = omega arith in let none : suc i - 1 ≡ i = omega arith in
    ap (λ (k : ℕ). string_cmp (bound_at bounds k) (bound_at bounds (suc i))) none
    ∙ ap (λ (k : ℕ). string_cmp (bound_at (b ∷ bounds) k) (bound_at bounds (suc i))) (sym one) ∙ up (suc (suc i)) (omega arith) (omega arith)
tail_ascends b bounds up zero l m = absurd (omega arith)

-- ---- the shard of a string

-- bounds above a string are all not reached
none_reached : (bounds : List (List ℕ)) (string : List ℕ) → ((i : ℕ) → i < length bounds → string_cmp string (bound_at bounds i) ≡ Less) → shard_index bounds string ≡ 0
none_reached [] string h = refl
none_reached (b ∷ bounds) string h =
    let above : is_reached string b ≡ false = ap is_le (turned b string Less (h 0 (omega arith))) in
    let rest : shard_index bounds string ≡ 0 = none_reached bounds string (λ i l. h (suc i) (omega arith)) in
    let all : shard_index (b ∷ bounds) string ≡ cond false 1 0 + shard_index bounds string = count_more (is_reached string) b bounds ∙ ap (λ (t : Bool). cond t 1 0 + shard_index bounds string) above in
    omega (arith, all, rest)

lies_later : (b string : List ℕ) (bounds : List (List ℕ)) (n : ℕ) → is_reached string b ≡ true → LiesIn bounds n string → LiesIn (b ∷ bounds) (suc n) string
lies_later b string bounds zero here lies = record { low = λ _. here; high = λ l. lies.high (omega arith) }
lies_later b string bounds (suc n) here lies = let one : suc (suc n) - 1 ≡ suc n = omega arith in let none : suc n - 1 ≡ n = omega arith in record {
  low = λ _. ap (λ (k : ℕ). is_reached string (bound_at (b ∷ bounds) k)) one ∙ ap (λ (k : ℕ). is_reached string (bound_at bounds k)) (sym none) ∙ lies.low (omega arith);
  high = λ l. lies.high (omega arith);
}

lies_first : (b string : List ℕ) (bounds : List (List ℕ)) → is_reached string b ≡ false → LiesIn (b ∷ bounds) 0 string
lies_first b string bounds not_here = record { low = λ l. absurd (omega arith); high = λ _. below }
  where
    by : (r : Ordering) → string_cmp b string ≡ r → string_cmp string b ≡ Less
    by Less e = let bad : true ≡ false = sym (ap is_le e) ∙ not_here in absurd (cc)
    by Equal e = let bad : true ≡ false = sym (ap is_le e) ∙ not_here in absurd (cc)
    by Greater e = turned string b Greater e

    below : string_cmp string b ≡ Less
    below = by (string_cmp b string) refl

pub shard_lies : LawShardOf
shard_lies [] string up = record { low = λ l. absurd (omega arith); high = λ l. absurd (omega arith) }
shard_lies (b ∷ bounds) string up = by (is_reached string b) refl (shard_lies bounds string (tail_ascends b bounds up))
  where
    index_is : (t : Bool) → is_reached string b ≡ t → shard_index (b ∷ bounds) string ≡ cond t 1 0 + shard_index bounds string
    index_is t e = count_more (is_reached string) b bounds ∙ ap (λ (x : Bool). cond x 1 0 + shard_index bounds string) e

    all_above : is_reached string b ≡ false → (i : ℕ) → i < length bounds → string_cmp string (bound_at bounds i) ≡ Less
    all_above e i l = nat_list_cmp_total.trans string b (bound_at bounds i) ((lies_first b string bounds e).high (omega arith)) (first_below i l)
      where
        first_below : (i : ℕ) → i < length bounds → string_cmp b (bound_at bounds i) ≡ Less
        first_below i l = let z : 0 + suc i ≡ suc i = omega arith in subst (λ (k : ℕ). string_cmp b (bound_at (b ∷ bounds) k) ≡ Less) z (later_bound (b ∷ bounds) up i 0 (omega arith))

    by : (t : Bool) → is_reached string b ≡ t → LiesIn bounds (shard_index bounds string) string → LiesIn (b ∷ bounds) (shard_index (b ∷ bounds) string) string
    by true e lies = let one : suc (shard_index bounds string) ≡ shard_index (b ∷ bounds) string = omega (arith, index_is true e) in subst (λ (k : ℕ). LiesIn (b ∷ bounds) k string) one (lies_later b string bounds (shard_index bounds string) e lies)
    by false e lies = let none : 0 ≡ shard_index (b ∷ bounds) string = omega (arith, index_is false e, none_reached bounds string (all_above e)) in subst (λ (k : ℕ). LiesIn (b ∷ bounds) k string) none (lies_first b string bounds e)

pub get_less : {A : Type 0} (xs : List A) (i : ℕ) (x : A) → slice_get xs i ≡ Some x → i < length xs
get_less [] i x e = absurd (cc)
get_less (y ∷ ys) zero x e = omega arith
get_less (y ∷ ys) (suc i) x e = let h = get_less ys i x e in omega arith

pub shards_ascend : (bounds : List (List ℕ)) (shards : List KeptWords) → BoundsAscend bounds → length shards ≡ length bounds + 1 → KeysLie bounds shards → ShardsAscend shards
shards_ascend bounds shards up count lie i j m n one other p q less a b c d =
    let last : j < length shards = get_less shards j other b in
    let children_entries : string_cmp p.key (bound_at bounds i) ≡ Less = (lie i m one p a c).high (omega (arith, last, count, less)) in
    let over : is_reached q.key (bound_at bounds (j - 1)) ≡ true = (lie j n other q b d).low (omega (arith, less)) in
    by (j - 1 - i) refl children_entries over last
  where
    by : (e : ℕ) → j - 1 - i ≡ e → string_cmp p.key (bound_at bounds i) ≡ Less → is_reached q.key (bound_at bounds (j - 1)) ≡ true → j < length shards → string_cmp p.key q.key ≡ Less
    by zero e children_entries over last = let k : j - 1 ≡ i = omega (arith, e, less) in less_then_le p.key (bound_at bounds i) q.key children_entries (ap (λ (x : ℕ). is_reached q.key (bound_at bounds x)) (sym k) ∙ over)
    by (suc e) is children_entries over last = let k : i + suc e ≡ j - 1 = omega (arith, is, less) in
        less_then_le p.key (bound_at bounds (j - 1)) q.key
        (nat_list_cmp_total.trans p.key (bound_at bounds i) (bound_at bounds (j - 1)) children_entries (subst (λ (x : ℕ). string_cmp (bound_at bounds i) (bound_at bounds x) ≡ Less) k (later_bound bounds up e i (omega (arith, last, count, k, less)))))
        over
