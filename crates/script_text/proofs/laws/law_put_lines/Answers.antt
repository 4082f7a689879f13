use Rattle.script_text.proofs.Passed.{line_all}
use Rattle.script_text.proofs.Told.{line_reads}
use Rattle.script_text.proofs.laws.law_put_lines.Goals as goal

pub returns : goal.returns
returns c = record {
  only = λ s line u. line_reads s line u;
  all = λ s said line is fits. line_all s said line is fits;
}
