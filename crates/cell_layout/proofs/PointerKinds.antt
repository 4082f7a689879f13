-- Kinds of pointers by their number.
use Rattle.std.proofs.Common.{◌≡◌, ◌≢◌, ℕ, ◌+◌, ◌/◌, ◌%◌, ◌^◌, ◌<◌, ◌≤◌, ◌==◌, nat_le, Bool, true, false, cond, Option, Some, None, refl, subst, arith, ne_eqb, eqb-true, leb-true, leb-false, le-leb}
use Rattle.std.proofs.lemmas.Bool.{lt-leb, eqb-false}
use Rattle.cell_layout.specs.declared.Kind.{Kind}
use Rattle.cell_layout.specs.declared.Kind.TheVariants.{Nothing, Content, Chain, Sparse, Wide, Prefix}
use Rattle.cell_layout.specs.Pointers.{kind_at_offset, kind_at}

-- what a kind says of the offset
abbrev pub OffsetIs : ℕ → Option Kind → Type 0
OffsetIs o (Some Chain) = o ≤ 27
OffsetIs o (Some Wide) = o ≡ 28
OffsetIs o (Some Sparse) = o ≡ 30
OffsetIs o (Some Prefix) = o ≡ 31
OffsetIs o (Some Content) = ⊥
OffsetIs o (Some Nothing) = ⊥
OffsetIs o None = Unit {0}

either : (P : Option Kind → Type 0) (b : Bool) (x y : Option Kind) → (b ≡ true → P x) → (b ≡ false → P y) → P (cond b x y)
either P true x y f g = f refl
either P false x y f g = g refl

pub offset_is : (o : ℕ) → OffsetIs o (kind_at_offset o)
offset_is o = either (OffsetIs o) (nat_le o 27) (Some Chain) (cond (o == 28) (Some Wide) (cond (o == 30) (Some Sparse) (cond (o == 31) (Some Prefix) None))) (λ e. leb-true o 27 e) (λ e.
    either (OffsetIs o) (o == 28) (Some Wide) (cond (o == 30) (Some Sparse) (cond (o == 31) (Some Prefix) None)) (λ e. eqb-true o 28 e) (λ e.
    either (OffsetIs o) (o == 30) (Some Sparse) (cond (o == 31) (Some Prefix) None) (λ e. eqb-true o 30 e) (λ e.
    either (OffsetIs o) (o == 31) (Some Prefix) None (λ e. eqb-true o 31 e) (λ e. tt))))

-- what a kind says of the pointer
abbrev pub PointerIs : ℕ → Option Kind → Type 0
PointerIs p (Some Nothing) = p ≡ 0
PointerIs p (Some Content) = 2 ^ 31 ≤ p
PointerIs p k = (p ≢ 0) × (p < 2 ^ 31) × OffsetIs (p % 32) k

of_offset : (p : ℕ) (k : Option Kind) → p ≢ 0 → p < 2 ^ 31 → OffsetIs (p % 32) k → PointerIs p k
of_offset p (Some Chain) a b h = (a, b, h)
of_offset p (Some Wide) a b h = (a, b, h)
of_offset p (Some Sparse) a b h = (a, b, h)
of_offset p (Some Prefix) a b h = (a, b, h)
of_offset p (Some Content) a b h = absurd h
of_offset p (Some Nothing) a b h = absurd h
of_offset p None a b h = (a, b, h)

pub pointer_is : (p : ℕ) → PointerIs p (kind_at p)
pointer_is p = either (PointerIs p) (p == 0) (Some Nothing) (cond (nat_le (2 ^ 31) p) (Some Content) (kind_at_offset (p % 32))) (λ e. eqb-true p 0 e) (λ e.
    either (PointerIs p) (nat_le (2 ^ 31) p) (Some Content) (kind_at_offset (p % 32)) (λ f. leb-true (2 ^ 31) p f) (λ f. of_offset p (kind_at_offset (p % 32)) (eqb-false p 0 e) (leb-false (2 ^ 31) p f) (offset_is (p % 32))))

pub is_kind : (p : ℕ) (k : Option Kind) → kind_at p ≡ k → PointerIs p k
is_kind p k e = subst (PointerIs p) e (pointer_is p)

-- a chain pointer in mid-cell is followed by the pointer to the cell's next byte
pub is_chain : (p : ℕ) → p ≢ 0 → p < 2 ^ 31 → p % 32 ≤ 27 → kind_at p ≡ Some Chain
is_chain p a b c = rw (ne_eqb p 0 a, lt-leb (2 ^ 31) p b, le-leb (p % 32) 27 c) refl

pub next_byte : (p : ℕ) → kind_at p ≡ Some Chain → p % 32 ≢ 27 → (kind_at (p + 1) ≡ Some Chain) × ((p + 1) / 32 ≡ p / 32) × ((p + 1) % 32 ≡ p % 32 + 1)
next_byte p e ne = let h : (p ≢ 0) × (p < 2 ^ 31) × (p % 32 ≤ 27) = is_kind p (Some Chain) e in let l : p % 32 < 27 = omega arith in let q : (p + 1) / 32 ≡ p / 32 = omega arith in let r : (p + 1) % 32 ≡ p % 32 + 1 = omega arith in
    (is_chain (p + 1) (λ z. omega arith) (omega arith) (omega arith), q, r)
