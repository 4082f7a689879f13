use Rattle.outside.proofs.Shelves.{files_of-set}
use Rattle.outside.proofs.shelf.set_file.Goals as goal

pub returns-clause-ok : goal.returns-clause-ok
returns-clause-ok c = files_of-set c.args.files.now c.insert.new.self c.args.file c.args.bytes c.in_ok-insert.ensures.updates
