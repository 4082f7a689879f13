use Rattle.std.proofs.Common.{◌∙◌, sym, ap, ◌++◌}
use Rattle.std.proofs.lemmas.List.{append-nil}
use Rattle.scan_tool.proofs.Pushes.{told_piece}
use Rattle.scan_tool.proofs.lines.Lines.push_block.Goals as goal

pub returns-clause-pushed : goal.returns-clause-pushed
returns-clause-pushed g c = (
  c.args.self.now.text,
  sym (ap (λ t. c.args.self.now.text ++ t) c.truncate.ensures ∙ append-nil c.args.self.now.text),
  told_piece _ _ c.as_slice.result.now c.args.self.now.text c.as_slice.ensures c.in_ok-push.ensures.bytes,
)
