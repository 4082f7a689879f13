use Rattle.bti_reader.proofs.Turns.{ways_back, hit_len}
use Rattle.bti_reader.proofs.ask.ask_in.Goals as goal

pub returns-in-Ok-clause-back : goal.returns-in-Ok-clause-back
returns-in-Ok-clause-back c = rw c.turn_of.ensures (ways_back c.args.position c.args.question c.in-Ok.node.places c.in-Ok.ensures.back)

pub returns-in-Ok-clause-hit : goal.returns-in-Ok-clause-hit
returns-in-Ok-clause-hit c = rw c.turn_of.ensures (hit_len c.args.part c.args.passed c.args.position c.in-Ok.node.payload)
