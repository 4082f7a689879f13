use Rattle.std.proofs.Common.{◌≡◌, rules}
use Rattle.key_types.specs.Kinds.{kinds_of}
use Rattle.row_text.proofs.PrintedLemmas.{text_kept}
use Rattle.row_text.proofs.rows.turn_text.Goals as goal

pub returns-then-eq-clause-text : goal.returns-then-eq-clause-text
returns-then-eq-clause-text c =
    let same : c.args.last.now ≡ c.args.partition.now = search (rules, c.as_slice.ensures, c.eq.ensures, c.if-eq.true) in
    text_kept (kinds_of c.args.schema.now.partition) c.args.last.now c.args.partition.now c.args.text.now c.requires.partition c.requires.last same
