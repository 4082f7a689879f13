use Rattle.std.proofs.Common.{ℕ, ◌+◌, ◌-◌, ◌/◌, ◌%◌, nat_le, cond, refl, arith}
use Rattle.std.proofs.lemmas.List.FromFn.{fill_by_all}
use Rattle.trie_image.specs.Image.{cell_byte}
use Rattle.trie_image.specs.Body.{passed_bytes}
use Rattle.trie_image.proofs.BodyLemmas.{zeros}
use Rattle.trie_image.proofs.further.bytes_passed.Goals as goal

pub offsets-init : goal.offsets-init
offsets-init g c = record { made = λ k l. absurd (omega arith); left = λ k l. zeros 28 k; long = refl; same = refl }

pub returns-clause-bytes : goal.returns-clause-bytes
unfolding passed_bytes
returns-clause-bytes g c = fill_by_all (λ (k : ℕ). cond (nat_le 28 (k + (c.args.s.at - c.args.s.entered))) (cell_byte (g.W.WordSource.image c.args.from.now c.args.seat.now) (c.args.s.at / 32) (c.args.s.at % 32 + k - 28)) 0) c.offsets.bytes 28 0 c.offsets.invariant.long (λ k l. c.offsets.invariant.made k (omega arith))
