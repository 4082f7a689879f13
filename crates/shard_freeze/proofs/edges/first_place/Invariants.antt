use Rattle.std.proofs.Common.{◌≡◌, ℕ, ◌-◌, ◌<◌, ◌≤◌, slice_get, Some}
use Rattle.cell_layout.specs.Slots.{slots_of, child_count}
use Rattle.cell_layout.specs.Words.{byte_of}
use Rattle.shard_freeze.proofs.edges.first_place.Given as goal

abbrev pub invariant-places : goal.invariant-places
invariant-places l = record {
  most : l.place ≤ child_count l.word;
  before : (i s : ℕ) → i < l.place → slice_get (slots_of l.word) i ≡ Some s → byte_of l.word s < l.low;
}

abbrev pub decreases-places : goal.decreases-places
decreases-places l = l.count - l.place
