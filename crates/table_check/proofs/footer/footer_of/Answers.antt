use Rattle.std.proofs.Common.{arith}
use Rattle.std.proofs.lemmas.Grind.{common_steps}
use Rattle.std.proofs.lemmas.Option.{IfSome_then}
use Rattle.key_types.specs.Columns.{columns_of}
use Rattle.index_files.proofs.Told.{short_tail}
use Rattle.table_check.proofs.Numbers.{as_bytes, spells}
use Rattle.table_check.proofs.footer.footer_of.Goals as goal

pub returns-then-tail-lt-SHORTEST-clause-none : goal.returns-then-tail-lt-SHORTEST-clause-none
returns-then-tail-lt-SHORTEST-clause-none c =
    λ none enough before b. short_tail (columns_of c.args.schema.now) before c.args.tail.now c.args.start
    (grind (arith, common_steps)) enough b

pub returns-clause-some : goal.returns-clause-some
returns-clause-some c =
    let bytes = as_bytes c.args.tail.now (λ i. (c.type_inv.tail i).fits) in
    IfSome_then c.footer_in.result c.footer_in.ensures.some
    (λ f ends. spells (columns_of c.args.schema.now) c.args.start c.args.tail.now f.first.now f.last.now f.numbers
    c.if-tail-lt-SHORTEST.false bytes ends)

pub returns-clause-none : goal.returns-clause-none
returns-clause-none c = λ none enough before b. c.footer_in.ensures.none none before b
