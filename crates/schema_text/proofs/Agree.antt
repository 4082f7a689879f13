-- More fuel than a text has bytes changes nothing.
use Rattle.std.proofs.Common.{◌≡◌, ℕ, zero, suc, ◌+◌, ◌≤◌, ◌<◌, ◌==◌, Bool, true, cond, List, [], ◌∷◌, length, Result, Ok, Err, Some, None, refl, sym, ◌∙◌, ap, arith, length-append}
use Rattle.std.specs.Prelude.{codes}
use Rattle.key_types.specs.Kinds.{Kind, Kinds, end, tuple}
use Rattle.grammar.specs.Exact.{Read, Exact}
use Rattle.grammar.specs.Reading.{bind, then_read, or_else, perhaps, by_first, mapped, map_read, ends, token, IsToken, sign_at, IsSign, AfterGap, NoSpace, spaces_at, AreSpaces}
use Rattle.grammar.proofs.Octets.{are_bytes}
use Rattle.grammar.proofs.Tokens.{token_exact}
use Rattle.grammar.proofs.Choices.{spaces_exact}
use Rattle.grammar.proofs.Signs.{Heads, sign_exact, sign_heads, then_heads}
use Rattle.key_types.specs.Columns.{Columns}
use Rattle.schema_text.specs.Reading.{simple_at, tuple_by, type_closing_at, kind_by, no_types_close, listed, behind_by, base_at, types_at, is_semicolon, closed_at, clustering_at, value_type_at, static_type_at, columns, behind_partition, columns_at}
use Rattle.schema_text.proofs.Relation.{IsBase, IsTypes, IsKindBy, IsClosing}
use Rattle.schema_text.proofs.Exactly.{AfterKind, AfterKinds, Letter, token_letter, base_heads, base_exact, kind_exact, types_exact}

-- ---- what was read is shorter

no_longer : {A : Type 0} (r : Read A) (Is : A → List ℕ → Type 0) (follow : A → ℕ → Type 0) → Exact r Is follow → (text : List ℕ) (a : A) (rest : List ℕ) → r text ≡ Ok (a, rest) → length rest ≤ length text
no_longer r Is follow one text a rest h = let p = one.found text a rest h in let l : length text ≡ length p.0 + length rest = ap length p.1 ∙ length-append p.0 rest in omega arith

shorter : {A : Type 0} (r : Read A) (Is : A → List ℕ → Type 0) (follow : A → ℕ → Type 0) (Holds : ℕ → Type 0) → Exact r Is follow → Heads Holds Is → (text : List ℕ) (a : A) (rest : List ℕ) → r text ≡ Ok (a, rest) → length rest < length text
shorter r Is follow Holds one heads text a rest h =
    let p = one.found text a rest h in
    let q = heads a p.0 p.2 in
    let l : length text ≡ length p.0 + length rest = ap length p.1 ∙ length-append p.0 rest in
    let m : length p.0 ≡ length (q.0 ∷ q.1) = ap length q.2 in
    omega arith

sign_shorter : (c : ℕ) → c < 256 → (text : List ℕ) (rest : List ℕ) → sign_at c text ≡ Ok (tt, rest) → length rest < length text
sign_shorter c w text rest h = shorter (sign_at c) (IsSign c) (λ _. NoSpace) (λ b. Unit {0}) (sign_exact c w) (sign_heads c (λ b. Unit {0}) tt) text tt rest h

kind_shorter : (fuel : ℕ) (text : List ℕ) (t : Kind) (rest : List ℕ) → kind_by (base_at fuel) text ≡ Ok (t, rest) → length rest < length text
kind_shorter fuel text t rest h =
    shorter (kind_by (base_at fuel)) (IsKindBy (IsBase fuel)) AfterKind Letter (kind_exact (base_at fuel) (IsBase fuel) (base_exact fuel)) (then_heads Letter (IsBase fuel) IsClosing (base_heads fuel)) text t rest h

-- ---- readings that agree

bind_same : {A B : Type 0} (g h : Result (A × List ℕ) ℕ) (f k : A → Read B) → g ≡ h → ((a : A) (rest : List ℕ) → g ≡ Ok (a, rest) → f a rest ≡ k a rest) → bind g f ≡ bind h k
bind_same (Ok x) h f k e same = same x.0 x.1 refl ∙ ap (λ g. bind g k) e
bind_same (Err n) h f k e same = ap (λ g. bind g k) e

sign_same : {B : Type 0} (c : ℕ) → c < 256 → (r s : Read B) (text : List ℕ) → ((rest : List ℕ) → length rest < length text → r rest ≡ s rest) → then_read (sign_at c) (λ _. r) text ≡ then_read (sign_at c) (λ _. s) text
sign_same c w r s text same = bind_same (sign_at c text) (sign_at c text) (λ _. r) (λ _. s) refl (λ u rest e. same rest (sign_shorter c w text rest e))

perhaps_same : {A : Type 0} (c : ℕ) (none : A) (r s : Read A) (text : List ℕ) → r text ≡ s text → perhaps c none r text ≡ perhaps c none s text
perhaps_same c none r s [] e = refl
perhaps_same c none r s (b ∷ bs) e = ap (λ g. cond (b == c) g (Ok (none, b ∷ bs))) e

first_same : {A : Type 0} (test : ℕ → Bool) (r s q : Read A) (text : List ℕ) → s text ≡ q text → by_first test r s text ≡ by_first test r q text
first_same test r s q [] e = refl
first_same test r s q (b ∷ bs) e = ap (λ g. cond (test b) (r (b ∷ bs)) g) e

behind_same : (r s : Read Kinds) (t : Kind) (text : List ℕ) → ((rest : List ℕ) → length rest < length text → r rest ≡ s rest) → behind_by r t text ≡ behind_by s t text
behind_same r s t text same =
    let further = ap (mapped Some) (sign_same 44 (omega arith) r s text same) in
    ap (λ g. bind g (λ o. ends no_types_close (listed t o))) (perhaps_same 44 None (map_read Some (then_read (sign_at 44) (λ _. r))) (map_read Some (then_read (sign_at 44) (λ _. s))) text further)

tuple_same : (r s : Read Kinds) (text : List ℕ) → ((rest : List ℕ) → length rest + 1 < length text → r rest ≡ s rest) → tuple_by r text ≡ tuple_by s text
tuple_same r s text same = bind_same (token true (codes "tuple") text) (token true (codes "tuple") text) (λ _. opened r) (λ _. opened s) refl
    (λ spaced rest e.
    let l = shorter (token true (codes "tuple")) (IsToken (codes "tuple")) (AfterGap true) Letter (token_exact true (codes "tuple") (are_bytes (codes "tuple") refl)) (token_letter 116 (codes "uple") refl) text spaced rest e in
    sign_same 60 (omega arith) (inside r) (inside s) rest (λ last k. ap (λ g. bind g closed) (same last (omega arith))))
  where
    closed : Kinds → Read (Kind × Bool)
    closed ts = map_read (λ _. (tuple ts, true)) (sign_at 62)

    inside : Read Kinds → Read (Kind × Bool)
    inside q = then_read q closed

    opened : Read Kinds → Read (Kind × Bool)
    opened q = then_read (sign_at 60) (λ _. inside q)

base_nil : (n m : ℕ) → base_at n [] ≡ base_at m []
base_nil zero zero = refl
base_nil zero (suc m) = refl
base_nil (suc n) zero = refl
base_nil (suc n) (suc m) = refl

none_left : (text : List ℕ) → length text ≤ 0 → text ≡ []
none_left [] h = refl
none_left (b ∷ bs) h = absurd (omega arith)

mutual
  base_same : (k n m : ℕ) (text : List ℕ) → length text ≤ k → k ≤ n → k ≤ m → base_at n text ≡ base_at m text
  base_same zero n m text h f g = ap (base_at n) (none_left text h) ∙ base_nil n m ∙ ap (base_at m) (sym (none_left text h))
  base_same (suc k) zero m text h f g = absurd (omega arith)
  base_same (suc k) (suc n) zero text h f g = absurd (omega arith)
  base_same (suc k) (suc n) (suc m) text h f g = ap (or_else (simple_at text)) (tuple_same (types_at n) (types_at m) text (λ rest l. types_same k n m rest (omega arith) (omega arith) (omega arith)))

  pub types_same : (k n m : ℕ) (text : List ℕ) → length text < k → k ≤ n → k ≤ m → types_at n text ≡ types_at m text
  types_same zero n m text h f g = absurd (omega arith)
  types_same (suc k) zero m text h f g = absurd (omega arith)
  types_same (suc k) (suc n) zero text h f g = absurd (omega arith)
  types_same (suc k) (suc n) (suc m) text h f g =
      let kind : kind_by (base_at n) text ≡ kind_by (base_at m) text = ap (λ q. bind q (λ x. type_closing_at x.1 x.0)) (base_same k n m text (omega arith) (omega arith) (omega arith)) in
      bind_same (kind_by (base_at n) text) (kind_by (base_at m) text) (behind_by (types_at n)) (behind_by (types_at m)) kind
      (λ t rest e.
      let l = kind_shorter n text t rest e in
      behind_same (types_at n) (types_at m) t rest (λ last j. types_same k n m last (omega arith) (omega arith) (omega arith)))

-- ---- columns

module _ (n m : ℕ) where
  clustering_same : (text : List ℕ) → length text < n → length text < m → clustering_at n text ≡ clustering_at m text
  clustering_same text h k = first_same is_semicolon (map_read (λ _. end) (sign_at 59)) (closed_at n) (closed_at m) text (ap (λ g. bind g (λ ts. map_read (λ _. ts) (sign_at 59))) (types_same (length text + 1) n m text (omega arith) (omega arith) (omega arith)))

  abbrev tail : Kinds → Kinds → Read Columns
  tail p c = then_read value_type_at (λ v. map_read (λ f. columns p c v f) static_type_at)

  behind_partition_same : (p : Kinds) (text : List ℕ) → length text < n → length text < m → behind_partition n p text ≡ behind_partition m p text
  behind_partition_same p text h k =
      sign_same 59 (omega arith) (then_read (clustering_at n) (tail p)) (then_read (clustering_at m) (tail p)) text (λ rest l. ap (λ g. bind g (tail p)) (clustering_same rest (omega arith) (omega arith)))

  pub opened_same : (text : List ℕ) → length text < n → length text < m → ((p : Kinds) (rest : List ℕ) → types_at n text ≡ Ok (p, rest) → length rest ≤ length text) → then_read (types_at n) (behind_partition n) text ≡ then_read (types_at m) (behind_partition m) text
  opened_same text h k fewer = bind_same (types_at n text) (types_at m text) (behind_partition n) (behind_partition m) (types_same (length text + 1) n m text (omega arith) (omega arith) (omega arith))
      (λ p rest e. let l = fewer p rest e in behind_partition_same p rest (omega arith) (omega arith))

  -- columns are read from a text with any fuel that is more than its bytes as with any other
  pub columns_same : (text : List ℕ) → length text < n → length text < m → columns_at n text ≡ columns_at m text
  columns_same text h k = bind_same (spaces_at text) (spaces_at text) (λ _. signed n) (λ _. signed m) refl
      (λ u rest e.
      let l = no_longer spaces_at AreSpaces (λ _. NoSpace) spaces_exact text u rest e in
      sign_same 40 (omega arith) (opened n) (opened m) rest (λ last j. opened_same last (omega arith) (omega arith) (λ p behind g. no_longer (types_at n) (IsTypes n) AfterKinds (types_exact n) last p behind g)))
    where
      opened : ℕ → Read Columns
      opened fuel = then_read (types_at fuel) (behind_partition fuel)

      signed : ℕ → Read Columns
      signed fuel = then_read (sign_at 40) (λ _. opened fuel)
