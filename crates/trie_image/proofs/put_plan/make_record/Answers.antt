use Rattle.std.proofs.Common.{ℕ, ◌+◌, ◌-◌, ◌*◌, ◌/◌, length, ◌∙◌}
use Rattle.trie_image.proofs.Made.{value_next}
use Rattle.trie_image.proofs.put_plan.make_record.Goals as goal

pub places-preserved : goal.places-preserved
places-preserved c = value_next c.places.words c.make_word-in-places.new.words c.args.value.now (c.args.at + 1) c.places.place (4 * ((8 + length c.args.value.now + 31) / 32) - 1) c.word_of_value.result c.places-test.true c.word_of_value.ensures c.make_word-in-places.ensures ∙ c.places.invariant
