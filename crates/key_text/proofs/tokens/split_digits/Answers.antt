use Rattle.std.proofs.Common.{rules, sym, subst}
use Rattle.key_text.proofs.HexRuns.{AreDigits, EndsDigits, Splits, splits_at}
use Rattle.key_text.proofs.tokens.split_digits.Goals as goal

pub split_at-requires : goal.split_at-requires
split_at-requires c = (splits_at c.args.bytes.now c.digits_end.result c.unwrap_or-end.result c.digits_end.ensures (search rules)).within

pub returns-clause-digits : goal.returns-clause-digits
returns-clause-digits c =
    let s = splits_at c.args.bytes.now c.digits_end.result c.unwrap_or-end.result c.digits_end.ensures (search rules) in
    subst AreDigits (sym c.split_at.ensures.front) s.digits

pub returns-clause-behind : goal.returns-clause-behind
returns-clause-behind c =
    let s = splits_at c.args.bytes.now c.digits_end.result c.unwrap_or-end.result c.digits_end.ensures (search rules) in
    subst EndsDigits (sym c.split_at.ensures.back) s.behind
