use Rattle.script_text.proofs.Batches.{puts_kept, gets_kept}
use Rattle.script_text.proofs.laws.law_batches_keep_order.Goals as goal

pub returns : goal.returns
returns c = record { puts = puts_kept; gets = gets_kept }
