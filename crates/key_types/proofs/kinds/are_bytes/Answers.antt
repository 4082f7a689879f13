use Rattle.std.proofs.Common.{arith}
use Rattle.key_types.proofs.Octets.{are_bytes, pass_bytes}
use Rattle.key_types.proofs.kinds.are_bytes.Goals as goal

pub returns-clause-bytes : goal.returns-clause-bytes
returns-clause-bytes c = are_bytes c.args._bytes.now (λ i. omega (arith, c.type_inv._bytes i))

pub returns-clause-by : goal.returns-clause-by
returns-clause-by c = pass_bytes c.args._bytes.now (are_bytes c.args._bytes.now (λ i. omega (arith, c.type_inv._bytes i)))
