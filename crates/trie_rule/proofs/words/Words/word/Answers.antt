use Rattle.std.proofs.Common.{ap, ◌∙◌, get_or}
use Rattle.std.specs.Mem.Slots.{slots_items}
use Rattle.trie_rule.proofs.Ends.{word_at}
use Rattle.trie_rule.proofs.words.Words.word.Goals as goal

pub returns : goal.returns
returns c = word_at (slots_items c.self.inside.closed.words) c.args.at c.word.result c.word.ensures ∙ ap (λ k. get_or k.words c.args.at 0) c.self.view_is
