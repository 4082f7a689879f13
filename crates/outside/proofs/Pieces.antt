-- Parts of lists that are taken and kept.
use Rattle.std.proofs.Common.{◌≡◌, ℕ, ◌+◌, ◌≤◌, Bool, true, false, if◌then◌else◌, List, ◌++◌, length, take, drop, arith, sym, ◌∙◌, ap}
use Rattle.std.proofs.lemmas.List.{take-append-drop, drop-drop, take_at, append-nil, length-take-le}

-- what was written is what was kept of the piece
pub kept : (r : Bool) (xs ys piece front : List ℕ) (k : ℕ) → k ≤ length piece → front ≡ take k piece → ys ≡ (if r then xs ++ front else xs)
    → (x : ℕ) × (x ≤ length piece) × (ys ≡ xs ++ take x piece)
kept true xs ys piece front k h f e = (k, h, e ∙ ap (λ p. xs ++ p) f)
kept false xs ys piece front k h f e = (0, omega arith, e ∙ sym (append-nil xs))

-- the front that was copied, and the rest behind it
pub pulled : (bytes got into : List ℕ) (at count : ℕ) → got ≡ take count (drop at bytes) → count ≤ length (drop at bytes)
    → drop at bytes ≡ take count (got ++ drop count into) ++ drop (at + count) bytes
pulled bytes got into at count e h =
    let n : length got ≡ count = ap length e ∙ length-take-le count (drop at bytes) h in
    sym (take-append-drop count (drop at bytes)) ∙ rw (take_at got (drop count into) count n, e, drop-drop count at bytes)
