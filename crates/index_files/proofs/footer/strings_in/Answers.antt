use Rattle.std.proofs.Common.{rules}
use Rattle.index_files.proofs.Footers.{more_behind, second_cut}
use Rattle.index_files.proofs.footer.strings_in.Goals as goal

pub returns-in_err-last-clause-none : goal.returns-in_err-last-clause-none
returns-in_err-last-clause-none c =
    λ none. second_cut c.args.bytes.now c.split_at.result.0.now c.split_at.result.1.now c.in_ok-first.first.now c.in_ok-first.rest.now c.args.from c.split_at.ensures.front_len c.split_at.ensures.by_index.0 c.in_ok-first.ensures.some.1 (search rules)

pub returns-then-not-is_empty-clause-none : goal.returns-then-not-is_empty-clause-none
returns-then-not-is_empty-clause-none c =
    λ none. more_behind c.args.bytes.now c.split_at.result.0.now c.split_at.result.1.now c.in_ok-first.first.now c.in_ok-first.rest.now c.in_ok-last.last.now c.in_ok-last.rest.now c.args.from c.split_at.ensures.front_len c.split_at.ensures.by_index.0
    c.in_ok-first.ensures.some.1 c.in_ok-last.ensures.some.1 (search rules)
