use Rattle.key_types.specs.Kinds.{kinds_of}
use Rattle.key_printing.proofs.Printed.{only_memory, string_printed}
use Rattle.key_printing.proofs.printing.write_string.Goals as goal

pub no_memory-requires : goal.no_memory-requires
no_memory-requires c = only_memory (kinds_of c.args.kinds.now) c.args.string.now c.in-Err.stop c.requires c.in-Err.ensures.prints

pub returns-in-Ok-clause-ok : goal.returns-in-Ok-clause-ok
returns-in-Ok-clause-ok c =
    let printed = c.in-Ok.ensures.prints in
    string_printed (kinds_of c.args.kinds.now) c.args.string.now printed.0 _ c.args.out.now c.put_list.new.out c.requires printed.1 printed.2
