use Rattle.std.proofs.Common.{arith, refl}
use Rattle.std.proofs.lemmas.Grind.{common_steps}
use Rattle.key_types.specs.Columns.{columns_of}
use Rattle.index_files.proofs.Told.{short_tail}
use Rattle.index_files.proofs.reading.numbers_in.Goals as goal

pub returns-then-tail-lt-SHORTEST_FOOTER-clause-none : goal.returns-then-tail-lt-SHORTEST_FOOTER-clause-none
returns-then-tail-lt-SHORTEST_FOOTER-clause-none c =
    λ none enough before b. short_tail (columns_of c.args.schema.now) before c.args.tail.now c.args.start (grind (arith, common_steps)) enough b

pub returns-in_err-footer-clause-none : goal.returns-in_err-footer-clause-none
returns-in_err-footer-clause-none c = λ none enough before b. c.in_err-footer.ensures.none refl before b

pub returns-clause-some : goal.returns-clause-some
returns-clause-some c = (c.in_ok-footer.footer.first.now, c.in_ok-footer.footer.last.now, c.in_ok-footer.ensures.some)
