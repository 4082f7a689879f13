use Rattle.std.proofs.Common.{◌∙◌, sym, ap, Some}
use Rattle.outside.proofs.Shelves.{get-files_of}
use Rattle.outside.proofs.shelf.contents.Goals as goal

pub returns-in-Some : goal.returns-in-Some
returns-in-Some c = ap Some c.as_slice.ensures ∙ c.in-Some.ensures.value ∙ sym (get-files_of c.args.files.now c.args.file)

pub returns-in-None : goal.returns-in-None
returns-in-None c = c.in-None.ensures.value ∙ sym (get-files_of c.args.files.now c.args.file)
