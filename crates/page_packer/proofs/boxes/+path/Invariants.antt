use Rattle.std.proofs.Common.{length}
use Rattle.page_packer.proofs.boxes.+path.Given as goal

abbrev pub decreases-path : goal.decreases-path
decreases-path l = length l.rest.now
