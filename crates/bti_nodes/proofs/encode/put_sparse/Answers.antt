use Rattle.key_types.proofs.Kept.{still, in_front}
use Rattle.bti_nodes.proofs.encode.put_sparse.Goals as goal

pub returns-clause-kept : goal.returns-clause-kept
returns-clause-kept c =
    still c.args.out.now c.put_letters.new.out c.put_row.new.out c.put_row.ensures.kept
    (still c.args.out.now c.extend.new.self c.put_letters.new.out c.put_letters.ensures.kept (in_front _ _ _ c.in_ok-extend.ensures.ok))
