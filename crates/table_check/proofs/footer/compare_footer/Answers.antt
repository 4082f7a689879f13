use Rattle.std.proofs.Common.{arith, rules}
use Rattle.key_types.specs.Columns.{columns_of}
use Rattle.table_check.proofs.Footed.{compares_none, compares_other, compares_same}
use Rattle.table_check.proofs.footer.compare_footer.Goals as goal

pub returns-in_default-clause-told : goal.returns-in_default-clause-told
returns-in_default-clause-told c =
    compares_none (columns_of c.args.schema.now) c.args.size c.saturating_sub-start.result c.args.tail.now
    c.args.found.now.first c.args.found.now.last
    c.saturating_sub-start.ensures c.footer_place-position.result c.damage_at.result c.footer_place-position.ensures
    c.damage_at.ensures
    (c.in_default.ensures.none (search rules))

pub returns-then-not-are_found-clause-told : goal.returns-then-not-are_found-clause-told
returns-then-not-are_found-clause-told c =
    compares_other (columns_of c.args.schema.now) c.args.size c.saturating_sub-start.result c.args.tail.now
    c.args.found.now.first c.args.found.now.last
    c.saturating_sub-start.ensures c.in-Some.footer.first.now c.in-Some.footer.last.now c.in-Some.footer.numbers
    c.in-Some.ensures.some
    c.footer_place-position.result c.clash_at.result c.footer_place-position.ensures c.clash_at.ensures (search rules)

pub returns-clause-told : goal.returns-clause-told
returns-clause-told c =
    compares_same (columns_of c.args.schema.now) c.args.size c.saturating_sub-start.result c.args.tail.now
    c.args.found.now.first c.args.found.now.last
    c.saturating_sub-start.ensures c.in-Some.footer.first.now c.in-Some.footer.last.now c.in-Some.footer.numbers
    c.in-Some.ensures.some
    c.footer_place-position.result (omega (arith, c.ranges.size.fits)) c.footer_place-position.ensures (search rules)
