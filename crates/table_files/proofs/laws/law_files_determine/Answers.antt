use Rattle.table_files.proofs.Determined.{files_determine}
use Rattle.table_files.proofs.laws.law_files_determine.Goals as goal

pub returns : goal.returns
returns c = files_determine
