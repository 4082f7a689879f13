use Rattle.std.proofs.Common.{◌+◌, ◌*◌}
use Rattle.schema_text.proofs.types.+read.Given as goal

abbrev pub decreases-read_base : goal.decreases-read_base
decreases-read_base l = 4 * l.fuel

abbrev pub decreases-read_behind : goal.decreases-read_behind
decreases-read_behind l = 4 * l.fuel + 2

abbrev pub decreases-read_more : goal.decreases-read_more
decreases-read_more l = 4 * l.fuel + 1

abbrev pub decreases-read_tuple : goal.decreases-read_tuple
decreases-read_tuple l = 4 * l.fuel + 1

abbrev pub decreases-read_type : goal.decreases-read_type
decreases-read_type l = 4 * l.fuel + 1

abbrev pub decreases-read_types : goal.decreases-read_types
decreases-read_types l = 4 * l.fuel
