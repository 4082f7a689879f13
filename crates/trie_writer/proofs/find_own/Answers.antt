use Rattle.std.proofs.Common.{List, subst}
use Rattle.trie_image.specs.declared.Put.{Put}
use Rattle.trie_image.specs.Puts.{HasLastPut}
use Rattle.trie_writer.proofs.find_own.Goals as goal

pub returns-clause-found : goal.returns-clause-found
returns-clause-found c =
    let view = c.args.seat.now.knows in let image = c.is_standing.ensures.0 in
    subst (λ (puts : List Put). HasLastPut puts c.args.key.now c.find.result) image.puts_are (c.find.ensures.found image.ledger view.cells image.image)
