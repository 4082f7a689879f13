use Rattle.table_reader.proofs.ScanSounds.{scans_near}
use Rattle.table_reader.proofs.laws.law_next_reads.Goals as goal

pub returns : goal.returns
returns c = scans_near
