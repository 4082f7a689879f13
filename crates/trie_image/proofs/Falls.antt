-- Each load lowers the measure, whatever word it finds.
use Rattle.std.proofs.Common.{◌≡◌, ℕ, zero, suc, ◌+◌, ◌-◌, ◌*◌, ◌/◌, ◌%◌, ◌<◌, ◌≤◌, ◌==◌, nat_lt, nat_le, Bool, true, false, cond, List, [], ◌∷◌, length, slice_get, Option, Some, None, refl, sym, subst, arith}
use Rattle.std.proofs.lemmas.Bool.{leb-true, eqb-true}
use Rattle.cell_layout.specs.declared.Kind.{Kind}
use Rattle.cell_layout.specs.declared.Kind.TheVariants as kind
use Rattle.cell_layout.specs.Words.{half_of, byte_of}
use Rattle.cell_layout.specs.Pointers.{kind_at}
use Rattle.cell_layout.specs.Slots.{slot_at}
use Rattle.trie_image.specs.declared.Role.{Role}
use Rattle.trie_image.specs.declared.Role.TheVariants.{Root, Chain, Order, Slot, Top, Mid, Leaf, Prefix, Head}
use Rattle.trie_image.specs.declared.Place.{Place}
use Rattle.trie_image.specs.declared.Advance.{Advance}
use Rattle.trie_image.specs.declared.Advance.TheVariants.{On, Found, Absent}
use Rattle.trie_image.specs.Place.{place_at, node_place, follow_by, follow, content_place, prefix_step, advance_in_slots, inward, advance_in_node, step_of, outcome_of, left_at, measure_of}

pub get_inside : (l : List ℕ) (i x : ℕ) → slice_get l i ≡ Some x → i < length l
get_inside [] i x e = absurd (cc)
get_inside (y ∷ ys) zero x e = omega arith
get_inside (y ∷ ys) (suc i) x e = let h = get_inside ys i x e in omega arith

-- the places that an answer goes on to have a measure below m
abbrev pub Below : ℕ → ℕ → Advance → Type 0
Below len m (On pl) = measure_of pl len < m
Below len m (Found rec) = Unit {0}
Below len m Absent = Unit {0}

below_if : (len m : ℕ) (b : Bool) (x y : Advance) → (b ≡ true → Below len m x) → (b ≡ false → Below len m y) → Below len m (cond b x y)
below_if len m true x y f g = f refl
below_if len m false x y f g = g refl

node_below : (key : List ℕ) (p taken m : ℕ) (k : Option Kind) (o : Option ℕ) → o ≡ slice_get key taken → (taken < length key → 4 * (length key - taken) < m) → Below (length key) m (node_place key p taken k o)
node_below key p taken m (Some kind.Chain) (Some b) e h = h (get_inside key taken b (sym e))
node_below key p taken m (Some kind.Sparse) (Some b) e h = h (get_inside key taken b (sym e))
node_below key p taken m (Some kind.Wide) (Some b) e h = h (get_inside key taken b (sym e))
node_below key p taken m _ _ e h = tt

follow_below : (key : List ℕ) (p taken m : ℕ) (k : Option Kind) → (taken ≤ length key → 4 * (length key - taken) + 1 < m) → Below (length key) m (follow_by key p taken k)
follow_below key p taken m (Some kind.Content) h = below_if (length key) m (taken == length key) (On (place_at Head p 0 taken)) Absent (λ e. let q : taken ≡ length key = eqb-true taken (length key) e in let r : 4 * (length key - taken) + 1 < m = h (omega arith) in omega arith) (λ e. tt)
follow_below key p taken m (Some kind.Prefix) h = below_if (length key) m (nat_le taken (length key)) (On (place_at Prefix p 0 taken)) Absent (λ e. h (leb-true taken (length key) e)) (λ e. tt)
follow_below key p taken m (Some kind.Chain) h = node_below key p taken m (Some kind.Chain) (slice_get key taken) refl (λ l. let r : 4 * (length key - taken) + 1 < m = h (omega arith) in omega arith)
follow_below key p taken m (Some kind.Sparse) h = node_below key p taken m (Some kind.Sparse) (slice_get key taken) refl (λ l. let r : 4 * (length key - taken) + 1 < m = h (omega arith) in omega arith)
follow_below key p taken m (Some kind.Wide) h = node_below key p taken m (Some kind.Wide) (slice_get key taken) refl (λ l. let r : 4 * (length key - taken) + 1 < m = h (omega arith) in omega arith)
follow_below key p taken m (Some kind.Nothing) h = tt
follow_below key p taken m None h = tt

inward_below : (key : List ℕ) (role : Role) (p part taken m : ℕ) → left_at role (length key) taken < m → Below (length key) m (inward role p part taken)
inward_below key role p part taken m h = below_if (length key) m (p == 0) Absent (On (place_at role p part taken)) (λ e. tt) (λ e. h)

slot_below : (key : List ℕ) (p taken m : ℕ) (o : Option ℕ) → left_at Slot (length key) taken < m → Below (length key) m (advance_in_slots p taken o)
slot_below key p taken m None h = tt
slot_below key p taken m (Some s) h = h

follows_below : (key : List ℕ) (p taken m : ℕ) → taken < length key → 4 * (length key - taken) < m + 3 → Below (length key) m (follow key p (taken + 1))
follows_below key p taken m l h = follow_below key p (taken + 1) m (kind_at p) (λ r. omega arith)

node_step_below : (key : List ℕ) (p part taken word : ℕ) (role : Role) (o : Option ℕ) → o ≡ slice_get key taken → Below (length key) (left_at role (length key) taken) (advance_in_node key p part taken word role o)
node_step_below key p part taken word role None e = tt
node_step_below key p part taken word Chain (Some b) e = let l : taken < length key = get_inside key taken b (sym e) in
    below_if (length key) (4 * (length key - taken)) (byte_of word (p % 32 % 8) == b) (cond (p % 32 == 27) (follow key (half_of word true) (taken + 1)) (cond (nat_lt (p % 32) 27) (follow key (p + 1) (taken + 1)) Absent)) Absent
    (λ x. below_if (length key) (4 * (length key - taken)) (p % 32 == 27) (follow key (half_of word true) (taken + 1)) (cond (nat_lt (p % 32) 27) (follow key (p + 1) (taken + 1)) Absent)
    (λ y. follows_below key (half_of word true) taken (4 * (length key - taken)) l (omega arith))
    (λ y. below_if (length key) (4 * (length key - taken)) (nat_lt (p % 32) 27) (follow key (p + 1) (taken + 1)) Absent (λ z. follows_below key (p + 1) taken (4 * (length key - taken)) l (omega arith)) (λ z. tt)))
    (λ x. tt)
node_step_below key p part taken word Order (Some b) e = let l : taken < length key = get_inside key taken b (sym e) in slot_below key p taken (4 * (length key - taken)) (slot_at word b) (omega arith)
node_step_below key p part taken word Slot (Some b) e = let l : taken < length key = get_inside key taken b (sym e) in follows_below key (half_of word (part % 2 == 1)) taken (4 * (length key - taken) - 1) l (omega arith)
node_step_below key p part taken word Top (Some b) e = let l : taken < length key = get_inside key taken b (sym e) in inward_below key Mid (half_of word (part / 64 % 2 == 1)) part taken (4 * (length key - taken)) (omega arith)
node_step_below key p part taken word Mid (Some b) e = let l : taken < length key = get_inside key taken b (sym e) in inward_below key Leaf (half_of word (part / 8 % 8 % 2 == 1)) part taken (4 * (length key - taken) - 1) (omega arith)
node_step_below key p part taken word Leaf (Some b) e = let l : taken < length key = get_inside key taken b (sym e) in follows_below key (half_of word (part % 8 % 2 == 1)) taken (4 * (length key - taken) - 2) l (omega arith)
node_step_below key p part taken word Root (Some b) e = tt
node_step_below key p part taken word Prefix (Some b) e = tt
node_step_below key p part taken word Head (Some b) e = tt

content_below : (len m p taken : ℕ) (k : Option Kind) → 0 < m → Below len m (content_place p taken k)
content_below len m p taken (Some kind.Content) h = h
content_below len m p taken _ h = tt

prefix_below : (key : List ℕ) (word taken : ℕ) → Below (length key) (4 * (length key - taken) + 1) (prefix_step key word taken)
prefix_below key word taken = below_if (length key) (4 * (length key - taken) + 1) (taken == length key) (content_place (half_of word false) taken (kind_at (half_of word false))) (node_place key (half_of word true) taken (kind_at (half_of word true)) (slice_get key taken))
    (λ e. content_below (length key) (4 * (length key - taken) + 1) (half_of word false) taken (kind_at (half_of word false)) (omega arith))
    (λ e. node_below key (half_of word true) taken (4 * (length key - taken) + 1) (kind_at (half_of word true)) (slice_get key taken) refl (λ l. omega arith))

step_below : (key : List ℕ) (p part taken word : ℕ) (role : Role) → Below (length key) (left_at role (length key) taken) (step_of key p part taken word role)
step_below key p part taken word Root = follow_below key (half_of word false) 0 (4 * length key + 2) (kind_at (half_of word false)) (λ l. omega arith)
step_below key p part taken word Prefix = prefix_below key word taken
step_below key p part taken word Head = tt
step_below key p part taken word Chain = node_step_below key p part taken word Chain (slice_get key taken) refl
step_below key p part taken word Order = node_step_below key p part taken word Order (slice_get key taken) refl
step_below key p part taken word Slot = node_step_below key p part taken word Slot (slice_get key taken) refl
step_below key p part taken word Top = node_step_below key p part taken word Top (slice_get key taken) refl
step_below key p part taken word Mid = node_step_below key p part taken word Mid (slice_get key taken) refl
step_below key p part taken word Leaf = node_step_below key p part taken word Leaf (slice_get key taken) refl

pub falls : (pl : Place) (word : ℕ) (key : List ℕ) → Below (length key) (measure_of pl (length key)) (outcome_of pl word key)
unfolding outcome_of
falls pl word key = step_below key pl.ptr pl.part pl.taken word pl.role

pub on_falls : (pl next : Place) (word : ℕ) (key : List ℕ) → outcome_of pl word key ≡ On next → measure_of next (length key) < measure_of pl (length key)
on_falls pl next word key e = subst (Below (length key) (measure_of pl (length key))) e (falls pl word key)
