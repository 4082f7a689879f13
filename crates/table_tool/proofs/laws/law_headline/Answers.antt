use Rattle.table_tool.proofs.CheckHeadline.{checks}
use Rattle.table_tool.proofs.GetHeadline.{files_asked}
use Rattle.table_tool.proofs.Headline.{files_scanned, reads}
use Rattle.table_tool.proofs.laws.law_headline.Goals as goal

pub returns-clause-reads : goal.returns-clause-reads
returns-clause-reads c = reads

pub returns-clause-files : goal.returns-clause-files
returns-clause-files c = files_scanned

pub returns-clause-gets : goal.returns-clause-gets
returns-clause-gets c = files_asked

pub returns-clause-checks : goal.returns-clause-checks
returns-clause-checks c = checks
