use Rattle.std.proofs.Common.{◌≡◌, ◌+◌, ◌-◌, map}
use Rattle.std.specs.List.{range_with_len}
use Rattle.cell_layout.specs.Cells.{value_word}
use Rattle.trie_image.specs.After.{after}
use Rattle.trie_image.specs.Stores.{prepares}
use Rattle.trie_image.proofs.put_plan.make_record.Given as goal

-- the stores that are left lead to the same words as all of them at the start
abbrev pub invariant-places : goal.invariant-places
invariant-places l = after l.words (prepares (l.at + 1 + l.place) (map (value_word l.value) (range_with_len l.place (l.count - l.place)))) ≡ after l.initial.words (prepares (l.at + 1) (map (value_word l.value) (range_with_len 0 l.count)))
