use Rattle.std.proofs.Common.{[]}
use Rattle.owned_image.proofs.Held.{opens}
use Rattle.owned_image.proofs.Image.new.Goals as goal

pub invariant_of-result : goal.invariant_of-result
invariant_of-result c = ([], opens c.in_ok-words.words.items c.args.cells c.requires.least c.requires.most (c.in_ok-words.ensures.items_if_clones_equal (λ y h. h)))

pub returns-clause-puts : goal.returns-clause-puts
returns-clause-puts c = opens c.in_ok-words.words.items c.args.cells c.requires.least c.requires.most (c.in_ok-words.ensures.items_if_clones_equal (λ y h. h))
