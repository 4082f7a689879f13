use Rattle.page_packer.proofs.Spans.{spans_stand}
use Rattle.page_packer.proofs.laws.law_spans.Goals as goal

pub returns : goal.returns
returns c = spans_stand
