-- The bytes that a look into a split node passes, and the children at places of a sparse cell.
use Rattle.std.proofs.Common.{◌≡◌, ◌≢◌, ℕ, zero, suc, ◌+◌, ◌*◌, ◌/◌, ◌%◌, ◌<◌, ◌≤◌, List, [], ◌∷◌, length, map, slice_get, Option, Some, None, refl, sym, ap, ◌∙◌, subst, arith, ⊎_elim, eq-eqb, ne_eqb, lt-ltb}
use Rattle.std.proofs.lemmas.Bool.{cases_eq}
use Rattle.std.specs.Prelude.{◌⊎◌}
use Rattle.std.proofs.lemmas.Bool.Decides.{nat_tests}
use Rattle.cell_layout.specs.Words.{byte_of}
use Rattle.cell_layout.specs.Slots.{slots_of, slot_at, child_count, Ascends, IsSparse}
use Rattle.cell_layout.proofs.Ordered.{ordered}
use Rattle.trie_image.specs.Image.{word_of, field, leaf_child, split_child, slot_child}
use Rattle.shard_freeze.specs.Edges.{IsLeastChild, IsFirstPlace, SkipsBytes}

module _ (w : List ℕ) (top : ℕ) where
  no_mid : (c : ℕ) → c < 256 → field w top (c / 64) ≡ 0 → split_child w top c ≡ 0
  no_mid c small z = rw (lt-ltb c 256 small, eq-eqb (field w top (c / 64)) 0 z) refl

  with_mid : (c : ℕ) → c < 256 → field w top (c / 64) ≢ 0 → split_child w top c ≡ leaf_child w (field w (field w top (c / 64) / 32) (c / 8 % 8)) c
  with_mid c small ne = rw (lt-ltb c 256 small, ne_eqb (field w top (c / 64)) 0 ne) refl

  no_leaf : (c : ℕ) → c < 256 → field w (field w top (c / 64) / 32) (c / 8 % 8) ≡ 0 → split_child w top c ≡ 0
  no_leaf c small z = ⊎_elim (λ (m : field w top (c / 64) ≡ 0). no_mid c small m)
      (λ (m : field w top (c / 64) ≢ 0). with_mid c small m ∙ rw (eq-eqb (field w (field w top (c / 64) / 32) (c / 8 % 8)) 0 z) refl) (cases_eq (field w top (c / 64)) 0)

  pub skips_leaf : (byte : ℕ) → byte < 256 → field w (field w top (byte / 64) / 32) (byte / 8 % 8) ≡ 0 → SkipsBytes (split_child w top) byte ((byte / 8 + 1) * 8)
  skips_leaf byte small z = record {
    more = omega arith;
    most = omega arith;
    none = λ c least less.
        let same_mid : c / 64 ≡ byte / 64 = omega (arith, least, less) in let same_leaf : c / 8 % 8 ≡ byte / 8 % 8 = omega (arith, least, less) in
        no_leaf c (omega (arith, small, less)) (ap (λ (i : ℕ). field w (field w top i / 32) (c / 8 % 8)) same_mid ∙ ap (λ (j : ℕ). field w (field w top (byte / 64) / 32) j) same_leaf ∙ z);
  }

  pub skips_byte : (byte : ℕ) → byte < 256 → field w (field w (field w top (byte / 64) / 32) (byte / 8 % 8) / 32) (byte % 8) ≡ 0 → field w top (byte / 64) ≢ 0 → field w (field w top (byte / 64) / 32) (byte / 8 % 8) ≢ 0 → SkipsBytes (split_child w top) byte (byte + 1)
  skips_byte byte small z mid leaf = record {
    more = omega arith;
    most = omega arith;
    none = λ c least less. let same : c ≡ byte = omega (arith, least, less) in
        ap (λ (x : ℕ). split_child w top x) same ∙ with_mid byte small mid ∙ rw (ne_eqb (field w (field w top (byte / 64) / 32) (byte / 8 % 8)) 0 leaf) z;
  }

-- ---- a sparse cell

-- no later element of an ascending list is less
later : (f : ℕ → ℕ) (ds : List ℕ) (i j x y : ℕ) → Ascends (map f ds) → slice_get ds i ≡ Some x → slice_get ds j ≡ Some y → i ≤ j → f x ≤ f y
later f [] i j x y h a b l = absurd (cc)
later f (d ∷ []) zero zero x y h a b l = let p : d ≡ x = cc in let q : d ≡ y = cc in let e : f x ≡ f y = ap f (sym p ∙ q) in omega arith
later f (d ∷ []) zero (suc j) x y h a b l = absurd (cc)
later f (d ∷ []) (suc i) j x y h a b l = absurd (cc)
later f (d ∷ e ∷ ds) zero zero x y h a b l = let p : d ≡ x = cc in let q : d ≡ y = cc in let e : f x ≡ f y = ap f (sym p ∙ q) in omega arith
later f (d ∷ e ∷ ds) zero (suc j) x y h a b l = let p : d ≡ x = cc in let more : f e ≤ f y = later f (e ∷ ds) 0 j e y h.1 refl b (omega arith) in let first : f d < f e = h.0 in subst (λ (z : ℕ). f z ≤ f y) p (omega (arith, more, first))
later f (d ∷ e ∷ ds) (suc i) zero x y h a b l = absurd (omega arith)
later f (d ∷ e ∷ ds) (suc i) (suc j) x y h a b l = later f (e ∷ ds) i j x y h.1 a b (omega arith)

get_less : (ds : List ℕ) (i x : ℕ) → slice_get ds i ≡ Some x → i < length ds
get_less [] i x e = absurd (cc)
get_less (d ∷ ds) zero x e = omega arith
get_less (d ∷ ds) (suc i) x e = let h = get_less ds i x e in omega arith

module _ (w : List ℕ) (cell low place : ℕ) (sparse : IsSparse (word_of w cell 3)) (first : IsFirstPlace (word_of w cell 3) low place) where
  -- below the place's byte there is no child from `low` on
  lacks : (c : ℕ) → low ≤ c → ((i s : ℕ) → slice_get (slots_of (word_of w cell 3)) i ≡ Some s → byte_of (word_of w cell 3) s ≡ c → i < place) → (o : Option ℕ) → slot_at (word_of w cell 3) c ≡ o → slot_child w cell o ≡ 0
  lacks c least where_ None e = refl
  lacks c least where_ (Some s) e = let i = (ordered (word_of w cell 3) c s sparse).0 e in let below = first.before i.0 s (where_ i.0 s i.1 i.2) i.1 in absurd (omega (arith, below, i.2, least))

  pub none_left : place ≡ child_count (word_of w cell 3) → (c : ℕ) → low ≤ c → c < 256 → slot_child w cell (slot_at (word_of w cell 3) c) ≡ 0
  none_left all c least small = lacks c least (λ i s at is. omega (arith, get_less (slots_of (word_of w cell 3)) i s at, all)) (slot_at (word_of w cell 3) c) refl

  pub least_at : (slot byte to : ℕ) → slice_get (slots_of (word_of w cell 3)) place ≡ Some slot → byte ≡ byte_of (word_of w cell 3) slot → to ≡ field w cell slot → byte < 256
      → ((b s : ℕ) → slot_at (word_of w cell 3) b ≡ Some s → field w cell s ≢ 0) → IsLeastChild (λ b. slot_child w cell (slot_at (word_of w cell 3) b)) low record { byte = byte; to = to }
  least_at slot byte to at is to_is small there =
      let found : slot_at (word_of w cell 3) byte ≡ Some slot = (ordered (word_of w cell 3) byte slot sparse).1 (place, at, sym is) in
      record {
        byte = small;
        least = omega (arith, first.here slot at, is);
        is = to_is ∙ sym (ap (λ (o : Option ℕ). slot_child w cell o) found);
        there = λ z. there byte slot found (sym to_is ∙ z);
        before = λ c least less. lacks c least
            (λ i s there_ is_c. ⊎_elim (λ (l : i < place). l)
            (λ (l : place ≤ i). absurd (omega (arith, later (λ (x : ℕ). byte_of (word_of w cell 3) x) (slots_of (word_of w cell 3)) place i slot s sparse.ascends at there_ l, is, is_c, less))) (before_or i place))
            (slot_at (word_of w cell 3) c) refl;
      }
    where
      before_or : (i j : ℕ) → (i < j) ⊎ (j ≤ i)
      before_or i j = grind (arith, nat_tests)
