use Rattle.std.proofs.Common.{◌<◌, ◌≤◌, ℕ, zero, suc, List, [], ◌∷◌, get_or, refl, arith, inl, inr}
use Rattle.bti_nodes.specs.declared.table.Kind.{Kind}
use Rattle.bti_nodes.specs.declared.table.Shape.TheVariants.{Leaf}
use Rattle.bti_nodes.specs.Table.{kinds}
use Rattle.bti_nodes.specs.Grammar.{IsWidth, HasRow}
use Rattle.bti_nodes.proofs.table.kind_by.Goals as goal

abbrev AreKinds : List Kind → Type 0
AreKinds [] = Unit {0}
AreKinds (k ∷ ks) = IsWidth k.shape k.width × AreKinds ks

width_at : (ks : List Kind) → AreKinds ks → (n : ℕ) → IsWidth (get_or ks n (record { shape = Leaf; width = 0 })).shape (get_or ks n (record { shape = Leaf; width = 0 })).width
width_at [] h n = refl
width_at (k ∷ ks) h zero = h.0
width_at (k ∷ ks) h (suc n) = width_at ks h.1 n

all : AreKinds kinds
all = (refl, (inl refl, (inl refl, (inr refl, (inr refl, search arith)))))

-- the first fifteen types
abbrev Narrow : ℕ → List Kind → Type 0
Narrow zero ks = Unit {0}
Narrow (suc k) [] = ⊥
Narrow (suc k) (x ∷ ks) = (x.width ≤ 40) × Narrow k ks

narrow_at : (k : ℕ) (ks : List Kind) → Narrow k ks → (n : ℕ) → n < k → (get_or ks n (record { shape = Leaf; width = 0 })).width ≤ 40
narrow_at zero ks h n l = absurd (omega arith)
narrow_at (suc k) [] h n l = absurd h
narrow_at (suc k) (x ∷ ks) h zero l = h.0
narrow_at (suc k) (x ∷ ks) h (suc n) l = narrow_at k ks h.1 n (omega arith)

fifteen : Narrow 15 kinds
fifteen = search arith

abbrev HaveRows : List Kind → Type 0
HaveRows [] = Unit {0}
HaveRows (k ∷ ks) = HasRow k.shape k.width × HaveRows ks

row_at : (ks : List Kind) → HaveRows ks → (n : ℕ) → HasRow (get_or ks n (record { shape = Leaf; width = 0 })).shape (get_or ks n (record { shape = Leaf; width = 0 })).width
row_at [] h n = tt
row_at (k ∷ ks) h zero = h.0
row_at (k ∷ ks) h (suc n) = row_at ks h.1 n

rows : HaveRows kinds
rows = search arith

pub returns-clause-row : goal.returns-clause-row
returns-clause-row c = row_at kinds rows c.args.number

pub returns-clause-width : goal.returns-clause-width
returns-clause-width c = width_at kinds all c.args.number

pub returns-clause-written : goal.returns-clause-written
returns-clause-written c l = narrow_at 15 kinds fifteen c.args.number l
