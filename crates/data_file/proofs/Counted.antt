-- The bytes of a row determine its clustering and its value.
use Rattle.std.proofs.Common.{◌≡◌, ◌∙◌, ℕ, List, ◌∷◌, ◌++◌, refl, sym, append_assoc}
use Rattle.length_prefix.specs.Counted.{counted}
use Rattle.length_prefix.proofs.Counts.{counted-same}
use Rattle.data_file.specs.Listing.{row_bytes}

-- what stands behind the first byte of a row
pub behind_first : (c v r : List ℕ) → row_bytes c v ++ r ≡ 1 ∷ (counted c ++ (counted v ++ r))
behind_first c v r = rw append_assoc refl

pub row-same : (c v r d w s : List ℕ) → row_bytes c v ++ r ≡ row_bytes d w ++ s → (c ≡ d) × (v ≡ w)
row-same c v r d w s e =
    let both : 1 ∷ (counted c ++ (counted v ++ r)) ≡ 1 ∷ (counted d ++ (counted w ++ s)) = sym (behind_first c v r) ∙ e ∙ behind_first d w s in
    let tails : counted c ++ (counted v ++ r) ≡ counted d ++ (counted w ++ s) = cc in
    let first = counted-same c d (counted v ++ r) (counted w ++ s) tails in
    (first.0, (counted-same v w r s first.1).0)
