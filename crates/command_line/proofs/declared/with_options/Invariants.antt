use Rattle.std.proofs.Common.{◌≡◌, length}
use Rattle.clap.specs.Walk.{texts}
use Rattle.clap.specs.Words.{shape_of}
use Rattle.clap.specs.declared.Command.TheViews.{out-Command}
use Rattle.command_line.specs.Forms as form
use Rattle.command_line.proofs.declared.with_options.Given as goal

abbrev pub invariant-names : goal.invariant-names
invariant-names l = (form.with_options (shape_of l.command) (texts l.rest) ≡ form.with_options (shape_of l.fn.command) (texts l.fn.names))
    × ((out-Command l.command).has_globals ≡ (out-Command l.fn.command).has_globals)

abbrev pub decreases-names : goal.decreases-names
decreases-names l = length l.rest
