use Rattle.key_types.proofs.Kept.{still, in_front}
use Rattle.bti_nodes.proofs.encode.put_dense.Goals as goal

pub returns-clause-kept : goal.returns-clause-kept
returns-clause-kept c =
    still c.args.out.now c.extend.new.self c.put_row.new.out c.put_row.ensures.kept (in_front _ _ _ c.in_ok-extend.ensures.ok)
