use Rattle.key_tool.proofs.Lines.{key_texts}
use Rattle.key_tool.proofs.laws.law_key_texts.Goals as goal

pub returns : goal.returns
returns c = key_texts
