use Rattle.std.proofs.Common.{arith}
use Rattle.key_types.specs.Columns.{columns_of}
use Rattle.row_check.proofs.Spelled.{each_some, spelled}
use Rattle.row_check.proofs.entry.written_entry.Goals as goal

pub returns-clause-some : goal.returns-clause-some
returns-clause-some c =
    each_some _ _ c.entry_in.result
    (λ e begins. spelled (columns_of c.args.schema.now) c.args.bytes.now c.args.at e.partition.now e.numbers (λ k. omega (arith, c.type_inv.bytes k)) begins)
    c.entry_in.ensures.some
