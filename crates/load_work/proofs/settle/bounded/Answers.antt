use Rattle.std.proofs.Common.{rules, ◌≤◌, List, length, take, ap, ◌∙◌, subst}
use Rattle.trie_image.specs.declared.Put.{Put}
use Rattle.trie_image.specs.Puts.{HasLastPut}
use Rattle.load_work.proofs.Answered.{take_longer}
use Rattle.load_work.proofs.settle.bounded.Goals as goal

pub returns-then-found-made-clause-map : goal.returns-then-found-made-clause-map
returns-then-found-made-clause-map c =
    let made = c.args.writer.now.knows.made in let f = c.requires.found in
    let few : c.args.found.at ≤ length made = search rules in
    subst (λ (l : List Put). HasLastPut l c.args.key.now c.args.found.hit) (ap (take c.args.found.at) f.1.1 ∙ take_longer made f.1.0 c.args.found.at few) f.3
