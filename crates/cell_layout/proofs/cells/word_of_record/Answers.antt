use Rattle.cell_layout.proofs.WordsAt.{record_at}
use Rattle.cell_layout.proofs.cells.word_of_record.Goals as goal

pub returns-else-place-eq0 : goal.returns-else-place-eq0
returns-else-place-eq0 c = record_at c.args.put c.args.value.now c.args.place c.word_of_value.result c.if-place-eq0.false c.requires.inside c.word_of_value.ensures
