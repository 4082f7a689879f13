use Rattle.std.proofs.Common.{arith, rules}
use Rattle.key_types.specs.Columns.{columns_of}
use Rattle.index_files.proofs.Entries.{no_entry_blocks, no_entry_root, no_entry_string}
use Rattle.index_files.proofs.entry.entry_in.Goals as goal

pub returns-then-not-is_partition_string-clause-none : goal.returns-then-not-is_partition_string-clause-none
returns-then-not-is_partition_string-clause-none c =
    λ none. no_entry_string (columns_of c.args.schema.now) c.args.bytes.now c.in_ok-partition.partition.now c.in_ok-partition.rest.now c.args.at c.in_ok-partition.ensures.some.1 (search rules)

pub returns-then-numbers-at-clause-none : goal.returns-then-numbers-at-clause-none
returns-then-numbers-at-clause-none c =
    λ none. no_entry_root (columns_of c.args.schema.now) c.args.bytes.now c.in_ok-partition.partition.now c.in_ok-partition.rest.now c.args.at c.entry_numbers-numbers.result c.in_ok-partition.ensures.some.1 c.entry_numbers-numbers.ensures (omega (arith, c.if-numbers-at.true))

pub returns-then-numbers-lt2-clause-none : goal.returns-then-numbers-lt2-clause-none
returns-then-numbers-lt2-clause-none c =
    λ none. no_entry_blocks (columns_of c.args.schema.now) c.args.bytes.now c.in_ok-partition.partition.now c.in_ok-partition.rest.now c.args.at c.entry_numbers-numbers.result c.in_ok-partition.ensures.some.1 c.entry_numbers-numbers.ensures (omega (arith, c.if-numbers-lt2.true))
