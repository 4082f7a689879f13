use Rattle.std.proofs.Common.{◌≡◌, ◌<◌, None, Some, List, ℕ, arith, drop, length, rules, subst}
use Rattle.length_prefix.specs.Counted.{stated_length}
use Rattle.length_prefix.proofs.Counts.{cut_count, cut_item}
use Rattle.length_prefix.proofs.counted.Goals as goal

pub returns-in_err-count-clause-none : goal.returns-in_err-count-clause-none
returns-in_err-count-clause-none c =
    λ none.
    let is : None ≡ stated_length c.args.bytes.now = search rules in
    cut_count c.args.bytes.now (λ i. omega (arith, c.type_inv.bytes i)) is

pub returns-else-count-rest-clause-none : goal.returns-else-count-rest-clause-none
returns-else-count-rest-clause-none c =
    λ none.
    let is : Some c.in_ok-count.count ≡ stated_length c.args.bytes.now = search rules in
    let less = subst (λ (l : List ℕ). length l < c.in_ok-count.count) c.split_at.ensures.back c.if-count-rest.false in
    cut_item c.args.bytes.now c.in_ok-count.count (λ i. omega (arith, c.type_inv.bytes i)) is less
