use Rattle.std.proofs.Common.{◌≡◌, Err, arith, rules, subst, sym}
use Rattle.data_walk.specs.declared.refusal.Refusal.{Refusal}
use Rattle.table_check.specs.Check.{ComparesCounts, count_clash}
use Rattle.table_check.proofs.checking.compare_counts.Goals as goal

pub returns-then-partitions-counts : goal.returns-then-partitions-counts
returns-then-partitions-counts c = ComparesCounts.same (omega (arith, c.if-partitions-counts.true))

pub returns : goal.returns
returns c =
    let is : c.number_clash.result ≡ count_clash c.args.found.now c.args.footer = search rules in
    subst (λ (e : Refusal). ComparesCounts c.args.found.now c.args.footer (Err e)) (sym is)
    (ComparesCounts.other c.if-partitions-counts.false)
