use Rattle.std.proofs.Common.{◌≡◌, ◌+◌, drop}
use Rattle.trie_image.specs.After.{after}
use Rattle.trie_image.specs.Stores.{prepares}
use Rattle.trie_image.proofs.put_plan.make_words.Given as goal

-- the stores that are left lead to the same words as all of them at the start
abbrev pub invariant-words : goal.invariant-words
invariant-words l = after l.words (prepares (l.at + l.place) (drop l.place l.new)) ≡ after l.initial.words (prepares l.at l.new)
