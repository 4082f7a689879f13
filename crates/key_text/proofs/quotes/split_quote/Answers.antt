use Rattle.std.proofs.Common.{sym, ◌∙◌, arith}
use Rattle.key_text.proofs.Spans.{plain, split}
use Rattle.key_text.proofs.quotes.split_quote.Goals as goal

pub returns-in_err-at-clause-unread : goal.returns-in_err-at-clause-unread
returns-in_err-at-clause-unread c = rw c.from_residual.ensures (plain c.args.bytes.now (sym c.first_quote.ensures ∙ c.in_err-at.was)).0

pub returns-in_err-at-clause-plain : goal.returns-in_err-at-clause-plain
returns-in_err-at-clause-plain c = rw c.from_residual.ensures (plain c.args.bytes.now (sym c.first_quote.ensures ∙ c.in_err-at.was)).1

pub split_at-requires : goal.split_at-requires
split_at-requires c = let within = (split c.in_ok-at.at c.args.bytes.now (sym c.first_quote.ensures ∙ c.in_ok-at.was)).0 in omega (arith, within)

pub split_at-requires-2 : goal.split_at-requires-2
split_at-requires-2 c = let within = (split c.in_ok-at.at c.args.bytes.now (sym c.first_quote.ensures ∙ c.in_ok-at.was)).0 in omega (arith, within)

pub returns-clause-read : goal.returns-clause-read
returns-clause-read c =
    rw (c.split_at.ensures.front, c.split_at-2.ensures.back) (split c.in_ok-at.at c.args.bytes.now (sym c.first_quote.ensures ∙ c.in_ok-at.was)).1

pub returns-clause-written : goal.returns-clause-written
returns-clause-written c =
    rw (c.split_at.ensures.front, c.split_at-2.ensures.back) (split c.in_ok-at.at c.args.bytes.now (sym c.first_quote.ensures ∙ c.in_ok-at.was)).2
