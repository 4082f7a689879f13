use Rattle.std.proofs.Common.{refl}
use Rattle.key_types.specs.Kinds.{kinds_of}
use Rattle.key_decode.proofs.Passing.{values_shorter}
use Rattle.key_decode.proofs.Known.{only_front, no_front, taken_front}
use Rattle.key_decode.proofs.strings.front_length.Goals as goal

pub overflow_sub-result : goal.overflow_sub-result
overflow_sub-result c = values_shorter (kinds_of c.args.kinds.now) _ c.in-Some.rest.now c.in-Some.ensures.0 c.in-Some.ensures.2

pub returns-in-Some-clause-only : goal.returns-in-Some-clause-only
returns-in-Some-clause-only c = only_front (kinds_of c.args.kinds.now) c.args.bytes.now _ c.min.result refl c.min.ensures c.in-Some.ensures.0 c.in-Some.rest.now c.in-Some.ensures.2

pub returns-in-Some-clause-string : goal.returns-in-Some-clause-string
returns-in-Some-clause-string c = (taken_front (kinds_of c.args.kinds.now) c.args.bytes.now _ c.requires (returns-in-Some-clause-only c)).0

pub returns-in-None-clause-string : goal.returns-in-None-clause-string
returns-in-None-clause-string c = absurd (no_front (kinds_of c.args.kinds.now) c.args.bytes.now _ c.min.result refl c.min.ensures (λ vs rest good read. c.in-None.ensures vs rest good read) c.requires)

pub returns-in-None-clause-only : goal.returns-in-None-clause-only
returns-in-None-clause-only c = absurd (no_front (kinds_of c.args.kinds.now) c.args.bytes.now _ c.min.result refl c.min.ensures (λ vs rest good read. c.in-None.ensures vs rest good read) c.requires)
