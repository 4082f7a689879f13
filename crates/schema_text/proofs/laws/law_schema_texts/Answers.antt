use Rattle.schema_text.proofs.Unique.{one, written, read_back}
use Rattle.schema_text.proofs.Short.{short}
use Rattle.schema_text.proofs.laws.law_schema_texts.Goals as goal

pub returns : goal.returns
returns c = record { written = written; one = one; read_back = read_back; short = short }
