use Rattle.std.proofs.Common.{sym, ◌∙◌}
use Rattle.script_text.proofs.Breaks as breaks
use Rattle.script_text.proofs.lines.first_break.Goals as goal

pub returns-in-Some-clause-within : goal.returns-in-Some-clause-within
returns-in-Some-clause-within c = breaks.within _ _ (sym c.break_in.ensures ∙ c.in-Some.is)

pub returns-in-Some-clause-lines : goal.returns-in-Some-clause-lines
returns-in-Some-clause-lines c = breaks.lines _ _ (sym c.break_in.ensures ∙ c.in-Some.is)

pub returns-in-None-clause-none : goal.returns-in-None-clause-none
returns-in-None-clause-none c = breaks.no_break _ c.requires (sym c.break_in.ensures ∙ c.in-None.is)
