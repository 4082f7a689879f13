use Rattle.script_text.proofs.Breaks.{place}
use Rattle.script_text.proofs.lines.break_in.Goals as goal

pub returns : goal.returns
returns c = place c.args.bytes.now c.memchr.result c.memchr.ensures
