use Rattle.page_packer.proofs.Boxed.{kept}
use Rattle.page_packer.proofs.grow.extend.Goals as goal

pub returns-then-is_empty-clause-kept : goal.returns-then-is_empty-clause-kept
returns-then-is_empty-clause-kept c = kept c.args.held.children c.requires
