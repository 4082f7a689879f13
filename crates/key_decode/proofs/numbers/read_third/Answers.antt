use Rattle.std.proofs.Common.{arith, ◌+◌, ◌*◌}
use Rattle.key_decode.proofs.Room.{small_room}
use Rattle.key_decode.proofs.numbers.read_third.Goals as goal

pub read_number-requires : goal.read_number-requires
read_number-requires c = small_room (c.from.result * 256 + c.from-2.result) c.args.more (omega arith) c.requires.few
