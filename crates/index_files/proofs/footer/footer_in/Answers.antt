use Rattle.std.proofs.Common.{◌≡◌, ◌-◌, length, arith, refl, rules, subst}
use Rattle.key_types.specs.Columns.{columns_of}
use Rattle.index_files.specs.Footers.{AreStrings}
use Rattle.index_files.proofs.Footers.{before_the_tail, footer_is, no_strings, unsound}
use Rattle.index_files.proofs.footer.footer_in.Goals as goal

pub returns-then-numbers-start-clause-none : goal.returns-then-numbers-start-clause-none
returns-then-numbers-start-clause-none c =
    λ none before b. before_the_tail (columns_of c.args.schema.now) before c.args.tail.now c.split_at.result.0.now c.split_at.result.1.now c.footer_numbers-numbers.result c.args.start c.split_at.ensures.by_index.0
    (omega (arith, c.split_at.ensures.back_len, c.requires.whole)) c.footer_numbers-numbers.ensures b c.requires.enough (omega (arith, c.if-numbers-start.true))

pub returns-in_err-first-clause-none : goal.returns-in_err-first-clause-none
returns-in_err-first-clause-none c =
    λ none before b. no_strings (columns_of c.args.schema.now) before c.args.tail.now c.split_at.result.0.now c.split_at.result.1.now c.footer_numbers-numbers.result c.args.start c.split_at.ensures.by_index.0
    (omega (arith, c.split_at.ensures.back_len, c.requires.whole)) c.footer_numbers-numbers.ensures b (omega (arith, c.if-numbers-start.false)) (λ first last s. c.in_err-first.ensures.none refl first last s)

pub returns-then-not-is_sound-clause-none : goal.returns-then-not-is_sound-clause-none
returns-then-not-is_sound-clause-none c =
    λ none before b. unsound (columns_of c.args.schema.now) before c.args.tail.now c.split_at.result.0.now c.split_at.result.1.now c.in_ok-first.first.now c.in_ok-first.last.now c.footer_numbers-numbers.result c.args.start c.split_at.ensures.by_index.0
    (omega (arith, c.split_at.ensures.back_len, c.requires.whole)) c.footer_numbers-numbers.ensures b (omega (arith, c.if-numbers-start.false)) c.in_ok-first.ensures.some (search rules)

pub returns-clause-some : goal.returns-clause-some
returns-clause-some c =
    λ before b.
    let strings = c.footer_numbers-numbers.result.strings in
    let from : strings - c.args.start ≡ strings - length before = omega (arith, b) in
    footer_is (columns_of c.args.schema.now) before c.args.tail.now c.split_at.result.0.now c.split_at.result.1.now c.in_ok-first.first.now c.in_ok-first.last.now c.footer_numbers-numbers.result c.split_at.ensures.by_index.0
    (omega (arith, c.split_at.ensures.back_len, c.requires.whole)) c.footer_numbers-numbers.ensures (omega (arith, b, c.if-numbers-start.false))
    (subst (λ k. AreStrings c.split_at.result.0.now k c.in_ok-first.first.now c.in_ok-first.last.now) from c.in_ok-first.ensures.some) (search rules)
