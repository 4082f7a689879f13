use Rattle.std.proofs.Common.{◌≡◌, ℕ, ◌+◌, ◌-◌, ◌/◌, ◌%◌, ◌<◌, ◌≤◌, nat_le, cond, length, get_or}
use Rattle.trie_image.specs.Image.{cell_byte}
use Rattle.trie_image.proofs.further.bytes_passed.Given as goal

-- the bytes below the offset are made, the others are 0
abbrev pub invariant-offsets : goal.invariant-offsets
invariant-offsets g l = record {
  made : (k : ℕ) → k < l.offset → get_or l.bytes k 0 ≡ cond (nat_le 28 (k + (l.s.at - l.s.entered))) (cell_byte (g.W.WordSource.image l.from l.fn.seat) (l.s.at / 32) (l.s.at % 32 + k - 28)) 0;
  left : (k : ℕ) → l.offset ≤ k → ◌≡◌ {A = ℕ} (get_or l.bytes k 0) 0;
  long : length l.bytes ≡ 28;
  same : l.seat ≡ l.fn.seat;
}
