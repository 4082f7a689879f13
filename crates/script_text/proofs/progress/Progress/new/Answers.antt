use Rattle.std.proofs.Common.{refl}
use Rattle.script_text.proofs.Batches.{begun}
use Rattle.script_text.proofs.progress.Progress.new.Goals as goal

pub returns : goal.returns
returns c = begun (record { batches = c.new.result; batch = c.new-2.result; line = 0; gets = 0; puts = 0 }) refl refl refl c.new.ensures c.new-2.ensures.whole c.new-2.ensures.empty
