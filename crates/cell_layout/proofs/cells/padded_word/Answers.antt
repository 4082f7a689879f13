use Rattle.std.proofs.Common.{List, ℕ, ◌+◌, ◌-◌, ◌*◌, length, take, ap, ◌∙◌, refl}
use Rattle.cell_layout.specs.Cells.{number_of_bytes}
use Rattle.cell_layout.proofs.WordsAt.{padded_eight, padded_none, padded_full}
use Rattle.cell_layout.proofs.cells.padded_word.Goals as goal

pub returns-then-at-bytes-le28 : goal.returns-then-at-bytes-le28
returns-then-at-bytes-le28 c = padded_none c.args.bytes.now c.args.place c.requires.inside c.if-at-bytes-le28.true

pub returns-then-at-bytes-ge28 : goal.returns-then-at-bytes-ge28
returns-then-at-bytes-ge28 c = padded_full c.args.bytes.now c.args.place (8 * c.args.place + length c.args.bytes.now - 28) c.number.result c.requires.inside c.if-at-bytes-ge28.true c.requires.few refl
    (c.number.ensures ∙ ap (λ (l : List ℕ). number_of_bytes l) (c.split_at-then-at-bytes-ge28.ensures.front ∙ ap (λ (l : List ℕ). take 8 l) c.split_at.ensures.back))

pub returns : goal.returns
returns c = padded_eight c.args.bytes.now c.args.place c.number-2.result c.requires.inside c.padded_byte.ensures c.padded_byte-2.ensures c.padded_byte-3.ensures c.padded_byte-4.ensures c.padded_byte-5.ensures c.padded_byte-6.ensures c.padded_byte-7.ensures c.padded_byte-8.ensures c.number-2.ensures
