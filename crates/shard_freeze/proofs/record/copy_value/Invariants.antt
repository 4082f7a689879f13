use Rattle.std.proofs.Common.{◌≡◌, ◌-◌, ◌*◌, ◌%◌, ◌≤◌, slice_index, true}
use Rattle.cell_layout.specs.Words.{half_of}
use Rattle.shard_freeze.proofs.Values.{StartsValue}
use Rattle.shard_freeze.proofs.record.copy_value.Given as goal

abbrev pub invariant-words : goal.invariant-words
invariant-words l = record {
  whole : l.at % 8 ≡ 0;
  short : l.length ≤ 65535;
  head : l.length ≡ half_of (slice_index l.words.words (4 * l.cell)) true;
  starts : StartsValue l.words.words l.cell l.length l.at l.out;
}

abbrev pub decreases-words : goal.decreases-words
decreases-words l = l.length - l.at
