-- Types read with fuel that isn't spent.
use Rattle.std.proofs.Common.{◌≡◌, ℕ, suc, List, sym, ap}
use Rattle.grammar.specs.Reading.{or_else}
use Rattle.schema_text.specs.Reading.{simple_at, tuple_by, types_at, base_at}

pub base_from : (n m : ℕ) → n ≡ suc m → (bs : List ℕ) → or_else (simple_at bs) (tuple_by (types_at m) bs) ≡ base_at n bs
base_from n m e bs = ap (λ k. base_at k bs) (sym e)
