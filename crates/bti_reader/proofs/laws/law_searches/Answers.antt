use Rattle.bti_reader.proofs.Finds.{searches_find}
use Rattle.bti_reader.proofs.laws.law_searches.Goals as goal

pub returns : goal.returns
returns c = searches_find
