use Rattle.std.proofs.Common.{◌++◌, ◌∙◌, ap, arith}
use Rattle.key_types.specs.Kinds.{kinds_of}
use Rattle.byte_comparable.specs.Encoding.{key_string}
use Rattle.key_text.proofs.Utf.{bytes_by_index}
use Rattle.bounds_text.proofs.Ahead.{none_read, answered, out_of_range, too_long}
use Rattle.bounds_text.proofs.reading.read_bound.Goals.{then-is_none+else-len-le-LONGEST_STRING, else-is_none}
use Rattle.bounds_text.proofs.reading.read_bound.Goals as goal

pub returns-in-Ok : goal.returns-in-Ok
returns-in-Ok c =
    let ts = kinds_of c.args.kinds.now in
    let read = c.in-Ok.ensures in
    let string = read.2 ∙ ap (λ l. l ++ key_string ts read.0) c.new-bound.ensures in
    let octets = bytes_by_index c.args.bytes.now (λ i. omega (arith, c.type_inv.bytes i)) in
    let p = answered ts c.args.bytes.now c.in-Ok.rest.now c.spell_list.new.out read.0 c.spell_list.new.out_of_range read.1 string c.requires octets c.if-is_none.ensures in
    (p.0, omega (arith, c.len.ensures, c.if-len-le-LONGEST_STRING.true), p.1)

pub returns-in-Ok-2 : goal.returns-in-Ok-2
returns-in-Ok-2 c =
    let ts = kinds_of c.args.kinds.now in
    let read = c.in-Ok.ensures in
    let string = read.2 ∙ ap (λ l. l ++ key_string ts read.0) c.new-bound.ensures in
    let octets = bytes_by_index c.args.bytes.now (λ i. omega (arith, c.type_inv.bytes i)) in
    λ bound behind h short. elim c.if-is_none.branch [
      | then-is_none+else-len-le-LONGEST_STRING w ↦ too_long ts c.args.bytes.now c.in-Ok.rest.now c.spell_list.new.out read.0 c.spell_list.new.out_of_range read.1 string c.requires octets w.if-is_none.ensures
          (omega (arith, w.len.ensures, w.if-len-le-LONGEST_STRING.false)) bound behind h short
      | else-is_none w ↦ out_of_range ts c.args.bytes.now c.in-Ok.rest.now c.spell_list.new.out read.0 c.spell_list.new.out_of_range read.1 w.if-is_none.ensures bound behind h
    ]

pub returns : goal.returns
returns c = λ bound behind h short. none_read (kinds_of c.args.kinds.now) c.args.bytes.now bound behind c.in-Err-At.field-0-0 (rw c.in-Err-At.field-0-is at c.in-Err-At.ensures) h
