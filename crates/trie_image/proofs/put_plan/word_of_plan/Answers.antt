use Rattle.std.proofs.Common.{◌-◌, ◌*◌, arith}
use Rattle.trie_image.proofs.PlannedWords.{in_record, in_the_chain, in_more}
use Rattle.trie_image.proofs.put_plan.word_of_plan.Goals as goal

pub returns-then-place-value_cells : goal.returns-then-place-value_cells
returns-then-place-value_cells c = in_record c.args.used c.args.number c.args.value.now c.args.rest.now c.args.more.now c.args.place c.word_of_record.result c.word_of_record.ensures

pub returns-then-place-value_cells-2 : goal.returns-then-place-value_cells-2
returns-then-place-value_cells-2 c = in_the_chain c.args.used c.args.number c.args.value.now c.args.rest.now c.args.more.now c.args.place (c.args.place - 4 * c.args.value_cells) c.word_of_chain.result c.args.value_cells c.args.rest_cells c.requires.value_cells c.requires.rest_cells (omega arith) c.word_of_chain.ensures

pub returns-else-place-value_cells-2 : goal.returns-else-place-value_cells-2
returns-else-place-value_cells-2 c = in_more c.args.used c.args.number c.args.value.now c.args.rest.now c.args.more.now c.args.place (c.args.place - 4 * c.args.value_cells - 4 * c.args.rest_cells) c.at.result (omega arith) c.at.ensures
