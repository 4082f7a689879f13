use Rattle.table_reader.proofs.ScanSounds.{scans_bounded}
use Rattle.table_reader.proofs.laws.law_scan_reads.Goals as goal

pub returns : goal.returns
returns c = scans_bounded
