use Rattle.std.proofs.Common.{ℕ, zero, suc, ◌<◌, ◌∷◌, [], slice_index, refl, arith}
use Rattle.trie_image.specs.WellFormed.{opening_ledger}
use Rattle.trie_image.proofs.Opening.{opening}
use Rattle.trie_image.proofs.plan.tests.the_first_put_takes_two_cells.Goals as goal

-- the key is a byte
one_byte : (i : ℕ) → slice_index (97 ∷ []) i < 256
one_byte zero = omega arith
one_byte (suc i) = omega arith

pub plan_put-requires : goal.plan_put-requires
plan_put-requires g c = record {
  ledger = opening_ledger;
  cells = 24;
  image = opening 24 (omega arith) (omega arith);
  taken = refl;
  number = refl;
  is_key = (omega arith, omega arith, one_byte);
  is_value = (omega arith, λ i. omega arith);
  capacity = omega arith;
}
