use Rattle.std.proofs.Common.{◌≡◌, ℕ, ◌*◌, slice_index, true, refl, rules, sym, ap, ◌∙◌, arith}
use Rattle.cell_layout.specs.Words.{half_of}
use Rattle.shard_freeze.proofs.Values.{record_short, piece_inside, starts, goes_on, all_copied}
use Rattle.shard_freeze.proofs.record.copy_value.Goals as goal

pub overflow_mul-cell : goal.overflow_mul-cell
overflow_mul-cell c = let s = record_short c.args.words.now.words c.args.cell _ c.requires.image c.requires.record refl in omega (arith, s.1)

pub word-requires : goal.word-requires
word-requires c = (record_short c.args.words.now.words c.args.cell _ c.requires.image c.requires.record refl).2

pub words-init : goal.words-init
words-init c =
    let head : c.head_parts-length.result.1 ≡ half_of (slice_index c.args.words.now.words (4 * c.args.cell)) true = c.head_parts-length.ensures.len ∙ ap (λ (x : ℕ). half_of x true) c.word.ensures in
    record {
      whole = refl;
      short = (record_short c.args.words.now.words c.args.cell c.head_parts-length.result.1 c.requires.image c.requires.record head).0;
      head = head;
      starts = starts c.args.words.now.words c.args.cell c.head_parts-length.result.1 c.truncate.new.self head c.truncate.ensures;
    }

pub word-requires-in-words : goal.word-requires-in-words
word-requires-in-words c = piece_inside c.args.words.now.words c.args.cell c.words.at c.head_parts-length.result.1 c.requires.image c.requires.record (sym c.words.invariant.head) (omega arith)

pub words-preserved : goal.words-preserved
words-preserved c = record {
  whole = omega (arith, c.words.invariant.whole);
  short = c.words.invariant.short;
  head = c.words.invariant.head;
  starts = goes_on c.args.words.now.words c.args.cell c.head_parts-length.result.1 c.words.at c.min-count.result c.word-in-words.result c.words.out c.extend.new.self c.words.invariant.starts c.words.invariant.whole (omega arith)
      (search rules) c.word-in-words.ensures (search rules);
}

pub returns : goal.returns
returns c = all_copied c.args.words.now.words c.args.cell c.head_parts-length.result.1 c.words.at c.words.out c.words.invariant.starts (omega arith)
