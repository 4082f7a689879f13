use Rattle.trie_machine.proofs.Stores.{advances}
use Rattle.trie_machine.proofs.writing.Writing.advance.Goals as goal

pub returns : goal.returns
returns c = advances c.self.inside.key c.self.inside.value c.self.inside.stores.items c.self.inside.made c.args.self.now c.self.view_is
