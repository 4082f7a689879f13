use Rattle.row_text.proofs.PrintedLemmas.{ok_so}
use Rattle.row_text.proofs.rows.put_row.Goals as goal

pub returns : goal.returns
returns c = ok_so c.end_row.result _ _ (λ ends key is. ends c.args.out.now key c.args.partition.now is c.in_ok-extend.ensures.ok) c.end_row.ensures
