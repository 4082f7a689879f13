use Rattle.std.proofs.Common.{arith}
use Rattle.std.proofs.lemmas.Bool.Decides.{Decides-eqb}
use Rattle.std.proofs.lemmas.Slice.Eq.{strip_suffix_is}
use Rattle.table_files.proofs.SchemaLemmas.{none_there, text_there}
use Rattle.table_files.proofs.schema_file.text_within.Goals as goal
use Rattle.std.specs.Prelude.{None, Some, codes}

pub returns-in_err-text : goal.returns-in_err-text
returns-in_err-text c =
    rw c.from_residual.ensures
    (none_there c.args.bytes.now c.split_at.result.1.now (codes "\nend\n") c.split_at.ensures.back
    (strip_suffix_is Decides-eqb c.split_at.result.1.now (codes "\nend\n") None c.in_err-text.ensures.cases))

pub returns : goal.returns
returns c =
    text_there c.args.bytes.now c.split_at.result.0.now c.split_at.result.1.now c.in_ok-text.text.now (codes "\nend\n") c.split_at.ensures.front c.split_at.ensures.back (omega (arith, c.if-bytes-lt-LINE.false))
    (strip_suffix_is Decides-eqb c.split_at.result.1.now (codes "\nend\n") (Some c.in_ok-text.text) c.in_ok-text.ensures.cases)
