-- One more bound behind those that ascend.
use Rattle.std.proofs.Common.{◌≡◌, ℕ, zero, suc, ◌+◌, ◌-◌, ◌<◌, List, [], ◌∷◌, ◌++◌, length, refl, sym, ◌∙◌, ap, arith, length-append}
use Rattle.std.proofs.lemmas.List.{get_or_append_left}
use Rattle.std.proofs.Math.Seq.{get_or-append_seam}
use Rattle.std.specs.List.{AllByRecursion}
use Rattle.key_types.specs.Table.{string_cmp}
use Rattle.shard_table.specs.Shards.{bound_at, AboveLast, BoundsAscend}
use Rattle.bounds_text.specs.Steps.{IsAboveAll}

front_at : (bounds more : List (List ℕ)) (i : ℕ) → i < length bounds → bound_at (bounds ++ more) i ≡ bound_at bounds i
front_at bounds more i l = get_or_append_left bounds more [] i l

behind_at : (bounds more : List (List ℕ)) (bound : List ℕ) → bound_at (bounds ++ bound ∷ more) (length bounds) ≡ bound
behind_at bounds more bound = get_or-append_seam bounds bound more []

-- the bound behind others is above them
pub above : (bounds more : List (List ℕ)) (bound : List ℕ) → BoundsAscend (bounds ++ bound ∷ more) → IsAboveAll bounds bound
above bounds more bound up some =
    let all = bounds ++ bound ∷ more in
    let l : length bounds < length all = (let m = length-append bounds (bound ∷ more) in omega arith) in
    let e : bound_at bounds (length bounds - 1) ≡ bound_at all (length bounds - 1) = sym (front_at bounds (bound ∷ more) (length bounds - 1) (omega arith)) in
    ap (λ (b : List ℕ). string_cmp b bound) e ∙ ap (string_cmp (bound_at all (length bounds - 1))) (sym (behind_at bounds more bound)) ∙ up (length bounds) some l

-- and where it is, all ascend
pub ascend_more : (bounds : List (List ℕ)) (bound : List ℕ) → BoundsAscend bounds → IsAboveAll bounds bound → BoundsAscend (bounds ++ bound ∷ [])
ascend_more bounds bound up high i some inside = by (length bounds - i) refl
  where
    all : List (List ℕ)
    all = bounds ++ bound ∷ []

    count : length all ≡ length bounds + 1
    count = length-append bounds (bound ∷ [])

    by : (n : ℕ) → length bounds - i ≡ n → AboveLast all i
    by (suc n) e =
        ap (λ (b : List ℕ). string_cmp b (bound_at all i)) (front_at bounds (bound ∷ []) (i - 1) (omega arith))
        ∙ ap (string_cmp (bound_at bounds (i - 1))) (front_at bounds (bound ∷ []) i (omega arith)) ∙ up i some (omega arith)
    by zero e =
        let last : length bounds ≡ i = (let c = count in omega arith) in
        let at : bound_at all i ≡ bound = ap (bound_at all) (sym last) ∙ behind_at bounds [] bound in
        ap (λ (b : List ℕ). string_cmp b (bound_at all i)) (front_at bounds (bound ∷ []) (i - 1) (omega arith))
        ∙ ap (string_cmp (bound_at bounds (i - 1))) at ∙ ap (λ (k : ℕ). string_cmp (bound_at bounds (k - 1)) bound) (sym last) ∙ high (omega arith)

-- ---- what holds of each

pub all_more : {X : Type 0} (P : X → Type 0) (xs : List X) (x : X) → AllByRecursion P xs → P x → AllByRecursion P (xs ++ x ∷ [])
all_more P [] x h p = (p, tt)
all_more P (y ∷ ys) x h p = (h.0, all_more P ys x h.1 p)

pub behind_all : {X : Type 0} (P : X → Type 0) (xs more : List X) (x : X) → AllByRecursion P (xs ++ x ∷ more) → P x
behind_all P [] more x h = h.0
behind_all P (y ∷ ys) more x h = behind_all P ys more x h.1
