use Rattle.std.proofs.Common.{◌+◌, Ok, subst}
use Rattle.script_text.specs.declared.batch.LineKind.{LineKind}
use Rattle.script_text.specs.declared.progress.Progress.{Progress}
use Rattle.script_text.specs.Steps.{CountsKind}
use Rattle.script_text.proofs.Batches.{taken}
use Rattle.script_text.proofs.progress.Progress.take_line.Goals as goal

pub returns : goal.returns
returns c =
    let before = c.args.self.now in
    let added = c.in_ok-kind.ensures in
    let with_line : Progress = record { batches = before.batches; batch = c.add_line.new.batch; line = before.line + 1; gets = before.gets; puts = before.puts } in (
      added.0,
      added.1,
      taken before c.count.new.self c.add_line.new.batch added.0 c.requires.counted added.3 added.4 (subst (λ (k : LineKind). CountsKind k with_line c.count.new.self (Ok tt)) added.2 c.in_ok-count.ensures),
    )
